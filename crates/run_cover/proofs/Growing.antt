-- Counts that rise note by note, and what they are in the end.
use Rattle.std.proofs.Common.{◌≡◌, ◌≤◌, ◌<◌, ◌+◌, ◌^◌, ℕ, Bool, true, false, cond, eqb, ◌&&◌, List, [], ◌∷◌, ◌++◌, length, take, get_or, Option, Some, None, refl, sym, ap, subst, ◌∙◌, arith}
use Rattle.std.specs.Prelude.{is_some, slice_index}
use Rattle.std.proofs.lemmas.List.{take_more, map-append}
use Rattle.std.proofs.lemmas.List.Sums.{sum_by-append, sum_by-cons}
use Rattle.kernel_abi.specs.declared.Note.{Note}
use Rattle.kernel_abi.specs.declared.Note.TheVariants as note
use Rattle.board_model.specs.Run.{at_turn}
use Rattle.run_cover.specs.declared.counts.Begun.{Begun}
use Rattle.run_cover.specs.declared.counts.Count.{Count}
use Rattle.run_cover.specs.declared.counts.PlaceCounts.{PlaceCounts}
use Rattle.run_cover.specs.Counted.{is_at, executed, begun_after, is_taken, faults_at, takes_at, times, faulted, taken, no_count, counts, item_at, count_at, count_of, IsNewlyCounted, raised_if, counted_in, HeardNote, Grew, HasGrown, begun_at_end, Heard}
use Rattle.run_cover.specs.Places.{place_of, address_of}
use Rattle.run_cover.proofs.Numbered.{numbered}

-- ## notes in parts

pub executed_append : (a b : List (ℕ × Note)) (at : ℕ) → executed (a ++ b) at ≡ executed a at + executed b at
executed_append a b at = sum_by-append (λ (n : ℕ × Note). cond (is_at at n.1) 1 0) a b

pub begun_append : (o : Option Begun) (a b : List (ℕ × Note)) → begun_at_end o (a ++ b) ≡ begun_at_end (begun_at_end o a) b
unfolding begun_at_end
begun_append o [] b = refl
begun_append o (n ∷ a) b = begun_append (begun_after o n.1) a b

pub times_append : (p : Note → Option Begun → Bool) (o : Option Begun) (a b : List (ℕ × Note)) → times p o (a ++ b) ≡ times p o a + times p (begun_at_end o a) b
unfolding times begun_at_end
times_append p o [] b = omega arith
times_append p o (n ∷ a) b =
    let rest = times_append p (begun_after o n.1) a b in
    ap (λ k. cond (p n.1 o) 1 0 + k) rest ∙ omega arith

-- ## a note

grew_if : (b : Bool) (n : ℕ) → Grew n (cond b 1 0) (raised_if b n)
grew_if true n fits = omega arith
grew_if false n fits = omega arith

grew_as : (n by more now : ℕ) → by ≡ more → Grew n by now → Grew n more now
grew_as n by more now e = subst (λ (k : ℕ). Grew n k now) e

one_time : (p : Note → Option Begun → Bool) (o : Option Begun) (turn : ℕ) (n : Note) → cond (p n o) 1 0 ≡ times p o ((turn, n) ∷ [])
unfolding times
one_time p o turn n = omega arith

one_executed : (a turn : ℕ) (n : Note) → cond (is_at a n) 1 0 ≡ executed ((turn, n) ∷ []) a
one_executed a turn n = sym (sum_by-cons (λ (m : ℕ × Note). cond (is_at a m.1) 1 0) (turn, n) [] ∙ omega arith)

grown_by_note : (o : Option Begun) (turn : ℕ) (n : Note) (a : ℕ) (c d : Count) → d ≡ counted_in o n a c → HasGrown o ((turn, n) ∷ []) a c d
grown_by_note o turn n a c d e =
    subst (λ (x : Count). HasGrown o ((turn, n) ∷ []) a c x) (sym e) record {
      executed = grew_as _ _ _ _ (one_executed a turn n) (grew_if (is_at a n) c.executed);
      taken = grew_as _ _ _ _ (one_time (takes_at a) o turn n) (grew_if (takes_at a n o) c.taken);
      faulted = grew_as _ _ _ _ (one_time (faults_at a) o turn n) (grew_if (faults_at a n o) c.faulted);
    }

pub heard_note : (t u : PlaceCounts) (turn : ℕ) (n : Note) → HeardNote t n u → Heard t ((turn, n) ∷ []) u
unfolding begun_at_end
heard_note t u turn n h = record {
  begun = h.begun;
  as_many = h.as_many;
  counts = λ k lt few. grown_by_note t.begun turn n (address_of k) (item_at t k) (item_at u k) (h.counts k lt few);
}

-- ## notes

grew_none : (n by : ℕ) → by ≡ 0 → Grew n by n
grew_none n by e fits = omega arith

no_times : (p : Note → Option Begun → Bool) (o : Option Begun) → times p o [] ≡ 0
unfolding times
no_times p o = refl

pub heard_none : (t : PlaceCounts) → Heard t [] t
unfolding begun_at_end
heard_none t = record {
  begun = refl;
  as_many = refl;
  counts = λ k lt few. record { executed = grew_none _ _ refl; taken = grew_none _ _ (no_times _ _); faulted = grew_none _ _ (no_times _ _) };
}

grew_more : (n m k x y both : ℕ) → both ≡ x + y → Grew n x m → Grew m y k → Grew n both k
grew_more n m k x y both e g h fits =
    let one : m ≡ n + x = g (omega arith) in
    let two : k ≡ m + y = h (omega arith) in
    omega arith

pub heard_more : (t u v : PlaceCounts) (a b : List (ℕ × Note)) → Heard t a u → Heard u b v → Heard t (a ++ b) v
heard_more t u v a b g h = record {
  begun = h.begun ∙ ap (λ (o : Option Begun). begun_at_end o b) g.begun ∙ sym (begun_append t.begun a b);
  as_many = h.as_many ∙ g.as_many;
  counts = λ k lt few.
      let at = address_of k in
      let one = g.counts k lt few in
      let there : k < length u.counts.items = omega (arith, lt, g.as_many) in
      let then : HasGrown (begun_at_end t.begun a) b at (item_at u k) (item_at v k) = subst (λ (o : Option Begun). HasGrown o b at (item_at u k) (item_at v k)) g.begun (h.counts k there few) in
      record {
        executed = grew_more _ _ _ _ _ _ (executed_append a b at) one.executed then.executed;
        taken = grew_more _ _ _ _ _ _ (times_append (takes_at at) t.begun a b) one.taken then.taken;
        faulted = grew_more _ _ _ _ _ _ (times_append (faults_at at) t.begun a b) one.faulted then.faulted;
      };
}

-- the notes up to the next one
pub at_turn_more : (turn : ℕ) (notes : List Note) (i : ℕ) (d : Note) → i < length notes →
    at_turn turn (take (i + 1) notes) ≡ at_turn turn (take i notes) ++ ((turn, get_or notes i d) ∷ [])
at_turn_more turn notes i d lt =
    ap (at_turn turn) (take_more notes i d lt) ∙ map-append (λ (n : Note). (turn, n)) (take i notes) (get_or notes i d ∷ [])

-- ## taken and faulted are executed

-- whether an instruction at an address is begun
abbrev begun_at : ℕ → Option Begun → ℕ
begun_at a None = 0
begun_at a (Some b) = cond (eqb b.at a) 1 0

-- what a note ends was begun, and what it begins is executed
record EndsBegun (a : ℕ) (o : Option Begun) (n : Note) : Type 0 where
  most : cond (takes_at a n o) 1 0 + cond (faults_at a n o) 1 0 + begun_at a (begun_after o n) ≤ cond (is_at a n) 1 0 + begun_at a o

both_le : (x y : Bool) → cond (x && y) 1 0 ≤ cond x 1 0
both_le true true = omega arith
both_le true false = omega arith
both_le false y = omega arith

ends_fault : (a at : ℕ) (b : Begun) (same : Bool) → cond (eqb b.at a && same) 1 0 + begun_at a (cond same None (Some b)) ≤ cond (eqb b.at a) 1 0
ends_fault a at b true = let le = both_le (eqb b.at a) true in omega arith
ends_fault a at b false = by_at (eqb b.at a)
  where
    by_at : (x : Bool) → cond (x && false) 1 0 + cond x 1 0 ≤ cond x 1 0
    by_at true = omega arith
    by_at false = omega arith

ends : (a : ℕ) (o : Option Begun) (n : Note) → EndsBegun a o n
ends a o (note.Insn task at code) = record { most = omega arith }
ends a None (note.Fault task fault) = record { most = omega arith }
ends a (Some b) (note.Fault task fault) = let le = ends_fault a 0 b (eqb b.task task) in record { most = omega arith }
ends a None (note.High registers n z c v) = record { most = omega arith }
ends a (Some b) (note.High registers n z c v) = let le = both_le (eqb b.at a) (is_taken b (slice_index registers 7)) in record { most = omega arith }
ends a o _ = record { most = omega arith }

taken_or_faulted : (a : ℕ) (o : Option Begun) (notes : List (ℕ × Note)) → times (takes_at a) o notes + times (faults_at a) o notes ≤ executed notes a + begun_at a o
unfolding times
taken_or_faulted a o [] = omega arith
taken_or_faulted a o (n ∷ notes) =
    let one = (ends a o n.1).most in
    let rest = taken_or_faulted a (begun_after o n.1) notes in
    let more = sum_by-cons (λ (m : ℕ × Note). cond (is_at a m.1) 1 0) n notes in
    omega (arith, one, rest, more)

pub taken_and_faulted : (notes : List (ℕ × Note)) (a : ℕ) → taken notes a + faulted notes a ≤ executed notes a
taken_and_faulted notes a = let le = taken_or_faulted a None notes in omega arith

-- ## in the end

same_count : (c : Count) (executed taken faulted : ℕ) → c.executed ≡ executed → c.taken ≡ taken → c.faulted ≡ faulted → c ≡ record { executed = executed; taken = taken; faulted = faulted }
same_count c executed taken faulted p q r = λ i. record { executed = p i; taken = q i; faulted = r i }

grew_from_none : (n by now : ℕ) → n ≡ 0 → by < 2 ^ 32 → Grew n by now → now ≡ by
grew_from_none n by now e fits g = let is = g (omega (arith, e, fits)) in omega (arith, e, is)

-- where nothing was counted before, and 32 bits hold how often each was executed
module _ (t u : PlaceCounts) (notes : List (ℕ × Note)) (new : IsNewlyCounted t) (heard : Heard t notes u) (few : (a : ℕ) → executed notes a < 2 ^ 32) where
  told_at : (a k : ℕ) → place_of a ≡ Some k → item_at u k ≡ record { executed = executed notes a; taken = taken notes a; faulted = faulted notes a }
  told_at a k e =
      let n = numbered a k e in
      let there : k < length t.counts.items = let e = new.as_many in let lt = n.few in omega (arith, e, lt) in
      let grown : HasGrown None notes a (item_at t k) (item_at u k) =
      subst (λ (b : ℕ). HasGrown None notes b (item_at t k) (item_at u k)) n.back
      (subst (λ (o : Option Begun). HasGrown o notes (address_of k) (item_at t k) (item_at u k)) new.begun (heard.counts k there n.few)) in
      let none = new.none k in
      let most = taken_and_faulted notes a in
      let fits = few a in
      same_count (item_at u k) _ _ _
      (grew_from_none _ _ _ (ap (λ (c : Count). c.executed) none) fits grown.executed)
      (grew_from_none _ _ _ (ap (λ (c : Count). c.taken) none) (omega (arith, most, fits)) grown.taken)
      (grew_from_none _ _ _ (ap (λ (c : Count). c.faulted) none) (omega (arith, most, fits)) grown.faulted)

  by_number : (a : ℕ) (o : Option ℕ) → place_of a ≡ o → count_at u o ≡ cond (is_some o) record { executed = executed notes a; taken = taken notes a; faulted = faulted notes a } no_count
  by_number a None e = refl
  by_number a (Some k) e = told_at a k e

  pub told : count_of u ≡ counts notes
  unfolding count_of counts
  told = λ i a. by_number a (place_of a) refl i
