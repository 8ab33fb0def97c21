-- Turns that a search finds, and what has not changed since.
use Rattle.std.proofs.Common.{◌≡◌, ◌∙◌, ℕ, zero, suc, ◌+◌, ◌-◌, ◌≤◌, ◌<◌, eqb, leb, Bool, true, false, cond, is_some, List, [], ◌∷◌, ◌++◌, length, Option, Some, None, refl, sym, ap, subst, arith}
use Rattle.std.specs.Prelude.{Contains, find, min, slice_get}
use Rattle.std.specs.List.{range_with_len}
use Rattle.std.specs.Option.{option_map}
use Rattle.std.proofs.Math.ListN.{get_or-map}
use Rattle.std.proofs.lemmas.Bool.{eqb-true}
use Rattle.std.proofs.lemmas.List.{length-map}
use Rattle.std.proofs.lemmas.List.Elements.{Contains-append_left, Contains-append_right}
use Rattle.kernel_abi.specs.declared.Note.{Note}
use Rattle.mem_banks.specs.Memory.{Memory, byte_at}
use Rattle.region_check.proofs.FirstBad.{find_range_some}
use Rattle.task_table.specs.model.State.{State}
use Rattle.task_table.specs.model.Sane.{Sane}
use Rattle.board_model.specs.declared.outcomes.End.{End}
use Rattle.board_model.specs.declared.outcomes.Level.TheVariants.{Calls}
use Rattle.board_model.specs.Cut.{left_of}
use Rattle.board_model.specs.Run.{Run, at_turn, end_by, ending, is_down, is_still, run, unless, with_front}
use Rattle.board_model.specs.Script.{Scenario, start_of}
use Rattle.board_model.specs.Turn.{turn, turned}
use Rattle.board_model.proofs.Changes.{ram_turn}
use Rattle.board_model.proofs.RunCuts.{cut}
use Rattle.board_model.proofs.TurnChains.{found_in, sane-after}
use Rattle.board_core.specs.Changes.{change_by, change_of, runner_of}
use Rattle.board_model.proofs.SameTurn.{first_turn}
use Rattle.trace_text.specs.declared.kinds.NoteKind.{NoteKind}
use Rattle.trace_text.specs.Kinds.{is_sought}
use Rattle.debug_core.specs.declared.answer.Answer.TheVariants.{Told}
use Rattle.debug_core.specs.declared.command.Command.TheVariants.{BackFor, GoFor}
use Rattle.debug_core.specs.declared.command.Sought.{Sought}
use Rattle.debug_core.specs.declared.command.Sought.TheVariants.{Change}
use Rattle.debug_core.specs.Runs.{end_here, forward, most_turns, notes_of_run, state_at}
use Rattle.debug_core.specs.Searched.{can_be, first_found, is_found, last_found, last_of, told_at}
use Rattle.debug_core.specs.Session.{Session, after, ahead, behind, gone, gone_back}
use Rattle.debug_core.proofs.Ahead.{makes, reaches, sane_at}
use Rattle.debug_core.proofs.Lasts.{IsLast, last_is}
use Rattle.debug_core.proofs.Onward.{goes_on, memory_after}

absent : {A : Type 0} {P : Type 0} {a : A} → ◌≡◌ {A = Option A} None (Some a) → P
absent e = cc

-- ---- the first and the last of some turns

first_passes : (p : ℕ → Bool) (n from t : ℕ) → find p (range_with_len from n) ≡ Some t → p t ≡ true
first_passes p n from t e = (found_in p (range_with_len from n) t e).1

last_here : (p : ℕ → Bool) (from n t : ℕ) → from + n ≡ t → p t ≡ true → last_of p from (suc n) ≡ Some t
unfolding last_of
last_here p from n t same is = ap (λ u. cond (p u) (Some u) (last_of p from n)) same ∙ ap (λ (b : Bool). cond b (Some t) (last_of p from n)) is

behind_is : (x : Scenario) (s : Session) (n t : ℕ) (what : Sought) → behind x s n what ≡ Some t → IsLast (is_found x what) (s.cursor - n) (s.cursor - (s.cursor - n)) t
behind_is x s n t what e = last_is (is_found x what) (s.cursor - n) (s.cursor - (s.cursor - n)) t e

-- ---- there and back

-- the cursor behind the turn that was found, and at it
gone_on : (x : Scenario) (s : Session) (n t : ℕ) (what : Sought) → can_be what (state_at x s.cursor).memory ≡ true → ahead x s n what ≡ Some t → (after x s (GoFor n what)).cursor ≡ t + 1
gone_on x s n t what can e = ap (λ (b : Bool). cond b (gone x s n (ahead x s n what)) s.cursor) can ∙ ap (gone x s n) e

gone_before : (x : Scenario) (s : Session) (n t : ℕ) (what : Sought) → can_be what (state_at x s.cursor).memory ≡ true → behind x s n what ≡ Some t → (after x s (BackFor n what)).cursor ≡ t
gone_before x s n t what can e = ap (λ (b : Bool). cond b (gone_back s n (behind x s n what)) s.cursor) can ∙ ap (gone_back s n) e

pub back_again : (x : Scenario) (s : Session) (n m t : ℕ) (what : Sought) → can_be what (state_at x s.cursor).memory ≡ true → ahead x s n what ≡ Some t → 0 < m → behind x (after x s (GoFor n what)) m what ≡ Some t
back_again x s n m t what can e some =
    let passes = first_passes (is_found x what) (forward x s.cursor n - s.cursor) s.cursor t e in
    let low = t + 1 - m in
    let len : suc (t - low) ≡ t + 1 - low = omega arith in
    let last : low + (t - low) ≡ t = omega arith in
    subst (λ k. last_found x what (k - m) (k - (k - m)) ≡ Some t) (sym (gone_on x s n t what can e))
    (subst (λ k. last_found x what low k ≡ Some t) len (last_here (is_found x what) low (t - low) t last passes))

pub on_again : (x : Scenario) (s : Session) (n m t : ℕ) (what : Sought) → Sane x.setup (start_of x) → (state_at x s.cursor).turn ≡ s.cursor → s.cursor ≤ most_turns → can_be what (state_at x s.cursor).memory ≡ true → behind x s n what ≡ Some t → 0 < m →
    ahead x (after x s (BackFor n what)) m what ≡ Some t
on_again x s n m t what sane there most can e some =
    let l = behind_is x s n t what e in
    let above = l.later in
    let below = l.before in
    let lt : t < s.cursor = omega arith in
    let to = min (t + m) most_turns in
    let left : t < to = omega arith in
    let here = reaches x sane s.cursor t there (omega arith) in
    let more : t < forward x t m = makes x sane t to here left (goes_on x sane s.cursor t there lt) in
    subst (λ k. first_found x what k (forward x k m - k) ≡ Some t) (sym (gone_before x s n t what can e))
    (find_range_some (is_found x what) t (forward x t m - t) t (omega arith) (omega arith) (λ u from before. absurd (omega (arith, from, before))) l.here)

-- ---- a byte since the turn that changed it

no_change : {A : Type 0} {B : Type 0} (f : A → B) (o : Option A) → is_some (option_map f o) ≡ false → o ≡ None
no_change f None e = refl
no_change f (Some a) e = absurd (cc)

pub unchanged_since : (x : Scenario) (s : Session) (n at t u : ℕ) → behind x s n (Change at) ≡ Some t → t < u → u < s.cursor → change_of (byte_at (state_at x u).memory at) (byte_at (turn Calls x (state_at x u)).state.memory at) ≡ None
unchanged_since x s n at t u e later lt =
    let l = behind_is x s n t (Change at) e in
    let before = byte_at (state_at x u).memory at in
    let after = byte_at (turn Calls x (state_at x u)).state.memory at in
    no_change _ (change_of before after) (ap is_some (no_change _ (change_by (runner_of (turned x (state_at x u))) before after) (l.none u later (omega arith))))

same_byte : (a b : Option ℕ) → is_some a ≡ is_some b → change_of a b ≡ None → a ≡ b
same_byte None None s e = refl
same_byte None (Some b) s e = absurd (cc)
same_byte (Some a) None s e = absurd (cc)
same_byte (Some a) (Some b) s e = by (eqb a b) refl e
  where
    by : (same : Bool) → eqb a b ≡ same → ◌≡◌ {A = Option (ℕ × ℕ)} (cond same None (Some (a, b))) None → ◌≡◌ {A = Option ℕ} (Some a) (Some b)
    by true is e = ap (λ k. Some k) (eqb-true a b is)
    by false is e = absent (sym e)

-- memories of equal lengths have bytes at the same addresses
same_places : (xs ys : List ℕ) (k : ℕ) → length xs ≡ length ys → is_some (slice_get xs k) ≡ is_some (slice_get ys k)
same_places [] [] k e = refl
same_places [] (y ∷ ys) k e = absurd (omega arith)
same_places (x ∷ xs) [] k e = absurd (omega arith)
same_places (x ∷ xs) (y ∷ ys) zero e = refl
same_places (x ∷ xs) (y ∷ ys) (suc k) e = same_places xs ys k (omega arith)

both_there : (m n : Memory) (a : ℕ) → length m.flash ≡ length n.flash → length m.ram ≡ length n.ram → is_some (byte_at m a) ≡ is_some (byte_at n a)
both_there m n a flash ram = by (leb 0x20000000 a) (leb 0x08000000 a)
  where
    by : (in_ram in_flash : Bool) → is_some (cond in_ram (slice_get m.ram (a - 0x20000000)) (cond in_flash (slice_get m.flash (a - 0x08000000)) None)) ≡ is_some (cond in_ram (slice_get n.ram (a - 0x20000000)) (cond in_flash (slice_get n.flash (a - 0x08000000)) None))
    by true in_flash = same_places m.ram n.ram (a - 0x20000000) ram
    by false true = same_places m.flash n.flash (a - 0x08000000) flash
    by false false = refl

there_after : (x : Scenario) (s : State) (at : ℕ) → Sane x.setup s → is_some (byte_at s.memory at) ≡ is_some (byte_at (turn Calls x s).state.memory at)
there_after x s at h =
    let flash = h.steady.flash ∙ sym (sane-after Calls x s h).steady.flash in
    both_there s.memory (turn Calls x s).state.memory at (ap (λ (xs : List ℕ). length xs) flash) (sym (ram_turn Calls x s h))

module _ (x : Scenario) (sane : Sane x.setup (start_of x)) (s : Session) (there : (state_at x s.cursor).turn ≡ s.cursor) (n at t : ℕ) (e : behind x s n (Change at) ≡ Some t) where
  abbrev byte : ℕ → Option ℕ
  byte k = byte_at (state_at x k).memory at

  left : (k : ℕ) → k < s.cursor → byte_at (turn Calls x (state_at x k)).state.memory at ≡ byte (k + 1)
  left k lt = ap (λ (m : Memory). byte_at m at) (memory_after x sane s.cursor k there lt)

  stays : (k u : ℕ) → u ≡ t + 1 + k → u ≤ s.cursor → byte u ≡ byte (t + 1)
  stays zero u same le = ap byte (omega arith)
  stays (suc k) u same le =
      let v = t + 1 + k in
      let lt : v < s.cursor = omega arith in
      let next : v + 1 ≡ u = omega arith in
      let quiet = unchanged_since x s n at t v e (omega arith) lt in
      ap byte (sym next) ∙ sym (left v lt) ∙ sym (same_byte _ _ (there_after x (state_at x v) at (sane_at x sane v)) quiet) ∙ stays k v refl (omega arith)

  pub stands_since : byte_at (state_at x s.cursor).memory at ≡ byte_at (turn Calls x (state_at x t)).state.memory at
  stands_since =
      let below = (behind_is x s n t (Change at) e).before in
      let lt : t < s.cursor = omega arith in
      stays (s.cursor - (t + 1)) s.cursor (omega arith) (omega arith) ∙ sym (left t lt)

-- ---- a note that is found

note_of : (t : ℕ) (note : Note) (o : Option Note) → option_map (λ n. Told t n) o ≡ Some (Told t note) → o ≡ Some note
note_of t note None e = absurd (cc)
note_of t note (Some n) e = let same : n ≡ note = cc in ap (λ k. Some k) same

with_turn : (t : ℕ) (notes : List Note) (note : Note) → Contains notes note → Contains (at_turn t notes) (t, note)
with_turn t notes note c =
    let long : length (at_turn t notes) ≡ length notes = length-map notes (λ (n : Note). (t, n)) in
    let lt = c.1 in
    (c.0, omega arith, get_or-map (λ (n : Note). (t, n)) notes c.0 note ∙ ap (λ (n : Note). (t, n)) c.2)

-- where a run does not end, turns are left to it
some_left : (x : Scenario) (left : ℕ) (s : State) → ending x left s ≡ None → 0 < left
unfolding ending
some_left x zero s e = by (is_down s) e
  where
    by : (down : Bool) → end_by down 0 (is_still x s) ≡ None → 0 < 0
    by true e = absent (sym e)
    by false e = absent (sym e)
some_left x (suc left) s e = omega arith

made : (x : Scenario) (n : ℕ) (s : State) → ending x (suc n) s ≡ None → (run Calls x (suc n) s).notes ≡ at_turn s.turn (turn Calls x s).notes ++ (run Calls x n (turn Calls x s).state).notes
unfolding run
made x n s is = ap (λ (o : Option End). (unless s o (with_front (at_turn s.turn (turn Calls x s).notes) (run Calls x n (turn Calls x s).state))).notes) is

pub found_is_told : (x : Scenario) (kind : NoteKind) (number : Option ℕ) (t : ℕ) (note : Note) → Sane x.setup (start_of x) → (state_at x t).turn ≡ t → end_here x t ≡ None → told_at x kind number t ≡ Some (Told t note) → Contains (notes_of_run x) (t, note)
found_is_told x kind number t note sane there on e =
    let u = state_at x t in
    let zeroth = first_turn x in
    let few = some_left x (most_turns - t) u on in
    let its = (found_in (is_sought kind number) (turn Calls x u).notes note (note_of t note (find (is_sought kind number) (turn Calls x u).notes) e)).0 in
    let rest = (run Calls x (most_turns - suc t) (turn Calls x u).state).notes in
    let left : left_of most_turns (start_of x) u ≡ suc (most_turns - suc t) = omega (arith, few, zeroth, there) in
    let whole = cut Calls x t most_turns (start_of x) sane (omega (arith, few, zeroth)) in
    let more : most_turns - t ≡ suc (most_turns - suc t) = omega (arith, few) in
    let goes = made x (most_turns - suc t) u (sym (ap (λ k. ending x k u) more) ∙ on) in
    let notes : (run Calls x most_turns (start_of x)).notes ≡ (run Calls x t (start_of x)).notes ++ (at_turn t (turn Calls x u).notes ++ rest) =
    ap (λ (r : Run). r.notes) whole ∙ ap (λ k. (run Calls x t (start_of x)).notes ++ (run Calls x k u).notes) left ∙ ap (λ (ns : List (ℕ × Note)). (run Calls x t (start_of x)).notes ++ ns) goes
    ∙ ap (λ k. (run Calls x t (start_of x)).notes ++ (at_turn k (turn Calls x u).notes ++ rest)) there in
    subst (λ (ns : List (ℕ × Note)). Contains ns (t, note)) (sym notes)
    (Contains-append_right (run Calls x t (start_of x)).notes (at_turn t (turn Calls x u).notes ++ rest) (t, note)
    (Contains-append_left (at_turn t (turn Calls x u).notes) rest (t, note) (with_turn t (turn Calls x u).notes note its)))
