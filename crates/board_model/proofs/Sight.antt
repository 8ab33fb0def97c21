-- What a viewer sees of what a task may use.
use Rattle.std.proofs.Common.{◌≡◌, ◌+◌, ◌<◌, ◌≤◌, ◌&&◌, ◌||◌, ℕ, zero, suc, Bool, true, false, not, is_some, [], ◌∷◌, List, Option, Some, None, refl, sym, ◌∙◌, ap, cond, arith, inl, inr, eq-or-lt_of_le}
use Rattle.std.specs.Prelude.{find}
use Rattle.std.specs.List.{range_with_len}
use Rattle.std.proofs.lemmas.Bool.{false≢true}
use Rattle.region_check.specs.declared.Region.{Region}
use Rattle.region_check.specs.declared.Right.{Right}
use Rattle.region_check.specs.Rights.{may_use, may_copy, is_inside, has_right, first_bad}
use Rattle.task_table.specs.model.State.{Setup}
use Rattle.task_table.specs.declared.slot.Slice.{Slice}
use Rattle.task_table.specs.model.Reading.{setup_at, bad_byte}
use Rattle.board_model.specs.Alike.{Viewer}

-- the viewer sees what the task may read or execute
pub record IsOpen (w : Viewer) (g : Setup) (c : ℕ) : Type 0 where
  pub rights : (right : Right) (a : ℕ) → may_use (setup_at g c).regions right a ≡ true → w.sees a ≡ true

-- no byte of a range is refused
no_some : {A : Type 0} {B : Type 0} {y : A} → Some y ≡ None → B
no_some q = cc

pub none_lacking : (p : ℕ → Bool) (a n : ℕ) → find (λ x. not (p x)) (range_with_len a n) ≡ None → (x : ℕ) → a ≤ x → x < a + n → p x ≡ true
none_lacking p a zero e x lo hi = absurd (omega arith)
none_lacking p a (suc n) e x lo hi = go (p a) refl e (λ above rest. none_lacking p (a + 1) n rest x (omega arith) (omega arith))
  where
    go : (b : Bool) → p a ≡ b → cond (not b) (Some a) (find (λ y. not (p y)) (range_with_len (a + 1) n)) ≡ None → (a < x → find (λ y. not (p y)) (range_with_len (a + 1) n) ≡ None → p x ≡ true) → p x ≡ true
    go false q f later = no_some f
    go true q f later = elim (eq-or-lt_of_le lo) [ inl same ↦ ap p (sym same) ∙ q | inr above ↦ later above f ]

may_use_copied : (regions : List Region) (right : Right) (a : ℕ) → may_copy regions right a ≡ true → may_use regions right a ≡ true
may_use_copied [] right a e = e
may_use_copied (r ∷ rs) right a e = go (is_inside r a) (has_right r.rights right) r.rights.device e (may_use_copied rs right a)
  where
    go : (x y z : Bool) → ((x && y && not z) || may_copy rs right a) ≡ true → (may_copy rs right a ≡ true → may_use rs right a ≡ true) → ((x && y) || may_use rs right a) ≡ true
    go true true z f later = refl
    go true false true f later = later f
    go true false false f later = later f
    go false y z f later = later f

is_none_of : {A : Type 0} (o : Option A) → is_some o ≡ false → o ≡ None
is_none_of None e = refl
is_none_of (Some x) e = absurd (false≢true (sym e))

-- bytes that were checked are seen
pub checked_seen : (w : Viewer) (g : Setup) (c : ℕ) → IsOpen w g c → (right : Right) (r : Slice) → is_some (bad_byte g c right r) ≡ false → (x : ℕ) → r.base ≤ x → x < r.base + r.len → w.sees x ≡ true
unfolding bad_byte first_bad
checked_seen w g c open_to right r e x lo hi =
    open_to.rights right x (may_use_copied (setup_at g c).regions right x (none_lacking (may_copy (setup_at g c).regions right) r.base r.len (is_none_of _ e) x lo hi))
