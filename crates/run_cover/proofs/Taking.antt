-- A turn notes once that the branch at an address is taken if it takes it, and otherwise not at all; and the
-- same of a fault there. So these notes of a run count its turns too.
use Rattle.std.proofs.Common.{◌≡◌, ◌+◌, ◌-◌, ℕ, zero, suc, Bool, true, false, cond, not, ◌&&◌, ◌||◌, eqb, List, [], ◌∷◌, ◌++◌, Option, Some, None, refl, sym, ◌∙◌, ap, subst, true≢false, arith, get_or-drop}
use Rattle.std.specs.Prelude.{count_by, Result, Ok, Err, slice_index, drop}
use Rattle.std.specs.List.{list_any, range_with_len}
use Rattle.std.proofs.lemmas.List.{map-append}
use Rattle.std.proofs.lemmas.List.Folds.{list_any-append}
use Rattle.std.proofs.lemmas.List.Sums.{sum_by_push}
use Rattle.kernel_abi.specs.declared.Fault.{Fault}
use Rattle.kernel_abi.specs.declared.Note.{Note}
use Rattle.kernel_abi.specs.declared.Note.TheVariants as note
use Rattle.words_core.specs.Regs.{program_counter}
use Rattle.thumb_exec.specs.declared.fetch.Fetched.{Fetched}
use Rattle.task_table.specs.model.State.{Setup, State, Task, Turn}
use Rattle.task_table.specs.model.Reading.{task_at, register, chosen}
use Rattle.task_table.specs.model.Effects.{noted, faulted as task_faulted}
use Rattle.task_table.specs.model.Sane.{Sane}
use Rattle.board_model.specs.declared.outcomes.Level.TheVariants.{All}
use Rattle.board_model.specs.Lifetimes.{notes_in}
use Rattle.board_model.specs.Script.{Scenario}
use Rattle.board_model.specs.Turn.{stepped_by, stepped, after_events, with_current, low_note, high_note, with_registers_noted, turn_of, ended, turn, turned_of, turned}
use Rattle.board_model.specs.Run.{run, at_turn, turn_after, state_after, notes_after}
use Rattle.board_model.proofs.Further.{last_turn}
use Rattle.board_model.proofs.OfTurns.{run_of_turns}
use Rattle.run_cover.specs.declared.counts.Begun.{Begun}
use Rattle.run_cover.specs.Counted.{begun_after, is_taken, faults_at, takes_at, times, faulted, taken, begun_at_end}
use Rattle.run_cover.specs.Executing.{begun_of, begun_by, begun_in, is_fault_of, faulted_in, is_faulting_by, is_taking_by, is_faulting, is_taking, turns_faulting, turns_taking}
use Rattle.run_cover.proofs.Executing.{quiet_acted, quiet_events, all_calmer, range_next, turns_made}
use Rattle.run_cover.proofs.Growing.{begun_append, times_append}
use Rattle.run_cover.proofs.Quiet.{is_loud, AreQuiet, both_quiet, IsQuiet, quiet_itself, quiet_faulted}

with_false : (b : Bool) → (b && false) ≡ false
with_false true = refl
with_false false = refl

or_false : (b : Bool) → (b || false) ≡ b
or_false true = refl
or_false false = refl

-- ## what notes say, one after the other

-- how many of these notes pass a test, and what is under way after them, if this is before them
record Told (p : Note → Option Begun → Bool) (o : Option Begun) (ns : List Note) (k : ℕ) (after : Option Begun) : Type 0 where
  count : times p o (at_turn 0 ns) ≡ k
  begun : begun_at_end o (at_turn 0 ns) ≡ after

-- which note ends nothing, where nothing is begun
after_none : (n : Note) → is_loud false n ≡ false → begun_after None n ≡ None
after_none (note.Insn task at code) e = absurd (true≢false e)
after_none (note.Fault task fault) e = refl
after_none (note.High registers n z c v) e = refl
after_none _ e = refl

after_some : (b : Begun) (n : Note) → is_loud false n ≡ false → begun_after (Some b) n ≡ cond (is_fault_of b.task n) None (Some b)
after_some b (note.Insn task at code) e = absurd (true≢false e)
after_some b (note.Fault task fault) e = refl
after_some b (note.High registers n z c v) e = absurd (true≢false e)
after_some b _ e = refl

module _ (p : Note → Option Begun → Bool) where
  told_nothing : (o : Option Begun) → Told p o [] 0 o
  unfolding times begun_at_end
  told_nothing o = record { count = refl; begun = refl }

  told_one : (o : Option Begun) (n : Note) → Told p o (n ∷ []) (cond (p n o) 1 0) (begun_after o n)
  unfolding times begun_at_end
  told_one o n = record { count = omega arith; begun = refl }

  told_as : (o : Option Begun) (ns : List Note) (k m : ℕ) (q r : Option Begun) → k ≡ m → q ≡ r → Told p o ns k q → Told p o ns m r
  told_as o ns k m q r e f h = record { count = h.count ∙ e; begun = h.begun ∙ f }

  told_both : (o : Option Begun) (ns ms : List Note) (k m : ℕ) (q r : Option Begun) → Told p o ns k q → Told p q ms m r → Told p o (ns ++ ms) (k + m) r
  told_both o ns ms k m q r g h =
      let parts = map-append (λ (n : Note). (0, n)) ns ms in
      record {
        count = ap (times p o) parts ∙ times_append p o (at_turn 0 ns) (at_turn 0 ms) ∙ (λ i. g.count i + times p (g.begun i) (at_turn 0 ms)) ∙ ap (λ j. k + j) h.count;
        begun = ap (begun_at_end o) parts ∙ begun_append o (at_turn 0 ns) (at_turn 0 ms) ∙ ap (λ b. begun_at_end b (at_turn 0 ms)) g.begun ∙ h.begun;
      }

  -- one more note, of which the test says this
  told_then : (o : Option Begun) (ns : List Note) (k : ℕ) (q : Option Begun) (n : Note) (b : Bool) → p n q ≡ b → Told p o ns k q → Told p o (ns ++ n ∷ []) (k + cond b 1 0) (begun_after q n)
  told_then o ns k q n b e h = told_both o ns (n ∷ []) k _ q _ h (told_as q (n ∷ []) _ _ _ _ (ap (λ x. cond x 1 0) e) refl (told_one q n))

  -- a test that no note passes where nothing is begun
  module _ (none : (n : Note) → p n None ≡ false) where
    told_quiet : (ns : List Note) → AreQuiet false ns → Told p None ns 0 None
    told_quiet [] h = told_nothing None
    told_quiet (n ∷ ns) h = told_both None (n ∷ []) ns 0 0 None None (told_as None (n ∷ []) _ 0 _ None (ap (λ x. cond x 1 0) (none n)) (after_none n h.0) (told_one None n)) (told_quiet ns h.1)

    -- and passes of the others only for a fault, if at all, where an instruction is begun
    module _ (b : Begun) (y : Bool) (some : (n : Note) → is_loud false n ≡ false → p n (Some b) ≡ (y && is_fault_of b.task n)) where
      told_more : (n : Note) (ns : List Note) (f r : Bool) → Told p (Some b) (n ∷ []) (cond (y && f) 1 0) (cond f None (Some b)) → Told p None ns 0 None → Told p (Some b) ns (cond (y && r) 1 0) (cond r None (Some b))
          → Told p (Some b) (n ∷ ns) (cond (y && (f || r)) 1 0) (cond (f || r) None (Some b))
      told_more n ns true r one rest later = told_as (Some b) (n ∷ ns) _ _ _ _ (omega arith) refl (told_both (Some b) (n ∷ []) ns _ 0 None None one rest)
      told_more n ns false r one rest later =
          told_as (Some b) (n ∷ ns) _ _ _ _ (ap (λ x. cond x 1 0 + cond (y && r) 1 0) (with_false y) ∙ omega arith) refl
          (told_both (Some b) (n ∷ []) ns _ _ (Some b) _ one later)

      told_begun : (ns : List Note) → AreQuiet false ns → Told p (Some b) ns (cond (y && list_any (is_fault_of b.task) ns) 1 0) (cond (list_any (is_fault_of b.task) ns) None (Some b))
      told_begun [] h = told_as (Some b) [] 0 _ _ _ (ap (λ x. cond x 1 0) (sym (with_false y))) refl (told_nothing (Some b))
      told_begun (n ∷ ns) h =
          told_more n ns (is_fault_of b.task n) (list_any (is_fault_of b.task) ns)
          (told_as (Some b) (n ∷ []) _ _ _ _ (ap (λ x. cond x 1 0) (some n h.0)) (after_some b n h.0) (told_one (Some b) n))
          (told_quiet ns h.1) (told_begun ns h.1)

-- ## faults among the notes of a turn

not_fault : (c : ℕ) (n : Note) → is_loud true n ≡ false → is_fault_of c n ≡ false
not_fault c (note.Fault task fault) e = absurd (true≢false e)
not_fault c _ e = refl

no_fault : (c : ℕ) (ns : List Note) → AreQuiet true ns → list_any (is_fault_of c) ns ≡ false
no_fault c [] h = refl
no_fault c (n ∷ ns) h = ap (λ b. b || list_any (is_fault_of c) ns) (not_fault c n h.0) ∙ no_fault c ns h.1

-- behind these notes and one more that is no fault
fault_behind : (c : ℕ) (ns : List Note) (n : Note) (ms : List Note) → AreQuiet true ns → is_fault_of c n ≡ false → list_any (is_fault_of c) ((ns ++ n ∷ []) ++ ms) ≡ list_any (is_fault_of c) ms
fault_behind c ns n ms calm other =
    let is = is_fault_of c in
    list_any-append is (ns ++ n ∷ []) ms
    ∙ ap (λ b. b || list_any is ms) (list_any-append is ns (n ∷ []) ∙ (λ i. no_fault c ns calm i || (other i || false)))

fault_before : (c : ℕ) (ns : List Note) (n : Note) → is_fault_of c n ≡ false → list_any (is_fault_of c) (ns ++ n ∷ []) ≡ list_any (is_fault_of c) ns
fault_before c ns n other = list_any-append (is_fault_of c) ns (n ∷ []) ∙ ap (λ b. list_any (is_fault_of c) ns || (b || false)) other ∙ or_false (list_any (is_fault_of c) ns)

same_faults : (c : ℕ) (u : Turn) → faulted_in (with_registers_noted All c u) c ≡ faulted_in u c
unfolding with_registers_noted noted
same_faults c u = fault_before c (u.notes ++ low_note (task_at u.state c) ∷ []) (high_note (task_at u.state c)) refl ∙ fault_before c u.notes (low_note (task_at u.state c)) refl

-- the PC that is noted
noted_counter : (c : ℕ) (u : Turn) → slice_index (drop 8 (task_at u.state c).registers) 7 ≡ register (with_registers_noted All c u).state c program_counter
unfolding with_registers_noted noted register task_at
noted_counter c u = get_or-drop 8 (task_at u.state c).registers 7 0

-- ## a turn that begins an instruction

module _ (p : Note → Option Begun → Bool) (none : (n : Note) → p n None ≡ false) where
  -- (t: the turn before the instruction is noted; u: after it was executed)
  module _ (c at code : ℕ) (y : Bool) (some : (n : Note) → is_loud false n ≡ false → p n (Some record { task = c; at = at; code = code }) ≡ (y && is_fault_of c n)) where
    told_executed : (t u : Turn) → AreQuiet true t.notes → IsQuiet false (noted (note.Insn c at code) t) u → Told p None u.notes (cond (y && faulted_in u c) 1 0) (cond (faulted_in u c) None (Some record { task = c; at = at; code = code }))
    unfolding noted
    told_executed t u calm h =
        let b : Begun = record { task = c; at = at; code = code } in
        let begin = told_then p None t.notes 0 None (note.Insn c at code) false (none (note.Insn c at code)) (told_quiet p none t.notes (all_calmer t.notes calm)) in
        let all = told_both p None (t.notes ++ note.Insn c at code ∷ []) h.more _ _ (Some b) _ begin (told_begun p none b y some h.more h.quiet) in
        let same : faulted_in u c ≡ list_any (is_fault_of c) h.more = ap (list_any (is_fault_of c)) h.is ∙ fault_behind c t.notes (note.Insn c at code) h.more calm refl in
        let sum : 0 + 0 + cond (y && list_any (is_fault_of c) h.more) 1 0 ≡ cond (y && list_any (is_fault_of c) h.more) 1 0 = omega arith in
        told_as p None u.notes _ _ _ _ (sum ∙ ap (λ f. cond (y && f) 1 0) (sym same)) (ap (λ f. cond f None (Some b)) (sym same))
        (subst (λ (ns : List Note). Told p None ns (0 + 0 + cond (y && list_any (is_fault_of c) h.more) 1 0) (cond (list_any (is_fault_of c) h.more) None (Some b))) (sym h.is) all)

  -- the registers of the task are noted last
  told_last : (c : ℕ) (u : Turn) (k : ℕ) (o : Option Begun) (b : Bool) → p (low_note (task_at u.state c)) o ≡ false → p (high_note (task_at u.state c)) o ≡ b → Told p None u.notes k o → Told p None (with_registers_noted All c u).notes (k + cond b 1 0) None
  unfolding with_registers_noted noted
  told_last c u k o b low high h =
      told_as p None _ _ _ _ _ (omega arith) refl
      (told_then p None (u.notes ++ low_note (task_at u.state c) ∷ []) _ o (high_note (task_at u.state c)) b high
      (told_then p None u.notes k o (low_note (task_at u.state c)) false low h))

  -- ## a turn that begins none

  told_idle : (t : Turn) → AreQuiet true t.notes → Told p None (noted note.Idle t).notes 0 None
  unfolding noted
  told_idle t calm = told_then p None t.notes 0 None note.Idle false (none note.Idle) (told_quiet p none t.notes (all_calmer t.notes calm))

  told_unfetched : (g : Setup) (c : ℕ) (fault : Fault) (t : Turn) → AreQuiet true t.notes → Told p None (with_registers_noted All c (task_faulted g c fault t)).notes 0 None
  told_unfetched g c fault t calm =
      let h = quiet_faulted t g c fault t (quiet_itself false t) in
      let quiet = subst (AreQuiet false) (sym h.is) (both_quiet false t.notes h.more (all_calmer t.notes calm) h.quiet) in
      let u = task_faulted g c fault t in
      told_last c u 0 None false (none _) (none _) (told_quiet p none u.notes quiet)

-- ## faults

no_faults : (a : ℕ) (n : Note) → faults_at a n None ≡ false
no_faults a (note.Fault task fault) = refl
no_faults a _ = refl

some_faults : (a : ℕ) (b : Begun) (n : Note) → is_loud false n ≡ false → faults_at a n (Some b) ≡ (eqb b.at a && is_fault_of b.task n)
some_faults a b (note.Fault task fault) e = refl
some_faults a b _ e = sym (with_false (eqb b.at a))

-- ## taken branches

no_takes : (a : ℕ) (n : Note) → takes_at a n None ≡ false
no_takes a (note.High registers n z c v) = refl
no_takes a _ = refl

some_takes : (a : ℕ) (b : Begun) (n : Note) → is_loud false n ≡ false → takes_at a n (Some b) ≡ false
some_takes a b (note.High registers n z c v) e = absurd (true≢false e)
some_takes a b _ e = refl

-- no branch is taken where its task faulted
taken_unless : (a : ℕ) (b : Begun) (x : Task) (f : Bool) (pc : ℕ) → slice_index (drop 8 x.registers) 7 ≡ pc → takes_at a (high_note x) (cond f None (Some b)) ≡ (eqb b.at a && (not f && is_taken b pc))
taken_unless a b x true pc e = sym (with_false (eqb b.at a))
taken_unless a b x false pc e = ap (λ k. eqb b.at a && is_taken b k) e

module _ (a : ℕ) where
  faults_in_fetched : (g : Setup) (c at : ℕ) (r : Result Fetched Fault) (t : Turn) → AreQuiet true t.notes →
      let v = with_registers_noted All c (stepped_by All g c at r t) in
      Told (faults_at a) None v.notes (cond (is_faulting_by a v (begun_of c at r)) 1 0) None
  faults_in_fetched g c at (Err fault) t calm = told_unfetched (faults_at a) (no_faults a) g c fault t calm
  faults_in_fetched g c at (Ok f) t calm =
      let u = stepped_by All g c at (Ok f) t in
      let b : Begun = record { task = c; at = at; code = f.code } in
      let h = told_executed (faults_at a) (no_faults a) c at f.code (eqb at a) (some_faults a b) t u calm (quiet_acted g c _ (noted (note.Insn c at f.code) t)) in
      let sum : cond (eqb at a && faulted_in u c) 1 0 + 0 ≡ cond (eqb at a && faulted_in u c) 1 0 = omega arith in
      told_as (faults_at a) None _ _ _ _ _ (sum ∙ ap (λ (x : Bool). cond (eqb at a && x) 1 0) (sym (same_faults c u))) refl
      (told_last (faults_at a) (no_faults a) c u _ _ false refl refl h)

  takes_in_fetched : (g : Setup) (c at : ℕ) (r : Result Fetched Fault) (t : Turn) → AreQuiet true t.notes →
      let v = with_registers_noted All c (stepped_by All g c at r t) in
      Told (takes_at a) None v.notes (cond (is_taking_by a v (begun_of c at r)) 1 0) None
  takes_in_fetched g c at (Err fault) t calm = told_unfetched (takes_at a) (no_takes a) g c fault t calm
  takes_in_fetched g c at (Ok f) t calm =
      let u = stepped_by All g c at (Ok f) t in
      let b : Begun = record { task = c; at = at; code = f.code } in
      let h = told_executed (takes_at a) (no_takes a) c at f.code false (some_takes a b) t u calm (quiet_acted g c _ (noted (note.Insn c at f.code) t)) in
      let last = told_last (takes_at a) (no_takes a) c u _ _ _ refl (taken_unless a b (task_at u.state c) (faulted_in u c) _ (noted_counter c u)) h in
      let passed : Bool → ℕ = λ f. cond (eqb at a && (not f && is_taken b (register (with_registers_noted All c u).state c program_counter))) 1 0 in
      let sum : 0 + passed (faulted_in u c) ≡ passed (faulted_in u c) = omega arith in
      told_as (takes_at a) None _ _ _ _ _ (sum ∙ ap passed (sym (same_faults c u))) refl last

-- what ends a turn changes nothing of that

still_faulting : (a : ℕ) (t : Turn) (o : Option Begun) → is_faulting_by a (ended t) o ≡ is_faulting_by a t o
unfolding ended
still_faulting a t None = refl
still_faulting a t (Some b) = refl

still_taking : (a : ℕ) (t : Turn) (o : Option Begun) → is_taking_by a (ended t) o ≡ is_taking_by a t o
unfolding ended register task_at
still_taking a t None = refl
still_taking a t (Some b) = refl

-- ## turns and runs

-- a test of notes counts the turns that pass a test of turns
module _ (p : Note → Option Begun → Bool) (by : Turn → Option Begun → Bool) (none : (n : Note) → p n None ≡ false) (nothing : (t : Turn) → by t None ≡ false)
    (fetched : (g : Setup) (c at : ℕ) (r : Result Fetched Fault) (t : Turn) → AreQuiet true t.notes →
    let v = with_registers_noted All c (stepped_by All g c at r t) in Told p None v.notes (cond (by v (begun_of c at r)) 1 0) None)
    (still : (t : Turn) (o : Option Begun) → by (ended t) o ≡ by t o) where
  by_choice : (g : Setup) (o : Option ℕ) (t : Turn) → AreQuiet true t.notes → Told p None (turn_of All g o t).notes (cond (by (turn_of All g o t) (begun_by g t.state (turned_of t.state o))) 1 0) None
  unfolding stepped register task_at
  by_choice g None t calm = told_as p None _ _ _ _ _ (ap (λ (b : Bool). cond b 1 0) (sym (nothing (turn_of All g None t)))) refl (told_idle p none t calm)
  by_choice g (Some c) t calm = fetched g c _ _ (with_current c t) calm

  in_turn : (x : Scenario) (s : State) → Told p None (turn All x s).notes (cond (by (turn All x s) (begun_in x s)) 1 0) None
  unfolding turn ended begun_in turned
  in_turn x s =
      let t = after_events x s in
      let o = chosen x.setup t.state in
      told_as p None _ _ _ _ _ (ap (λ (b : Bool). cond b 1 0) (sym (still (turn_of All x.setup o t) (begun_by x.setup t.state (turned_of t.state o))))) refl
      (by_choice x.setup o t (quiet_events x s))

  in_turns : (x : Scenario) (n : ℕ) (s : State) → Told p None (notes_after All x n s) (count_by (λ k. by (turn All x (state_after All x k s)) (begun_in x (state_after All x k s))) (range_with_len 0 n)) None
  unfolding notes_after
  in_turns x zero s = told_nothing p None
  in_turns x (suc n) s =
      let is : ℕ → Bool = λ k. by (turn All x (state_after All x k s)) (begun_in x (state_after All x k s)) in
      let last = subst (λ (t : Turn). Told p None t.notes (cond (is n) 1 0) None) (sym (last_turn All x n s)) (in_turn x (state_after All x n s)) in
      let e : 0 + n ≡ n = omega arith in
      told_as p None _ _ _ _ _ (sym (ap (count_by is) (range_next 0 0 n ∙ ap (λ i. range_with_len 0 n ++ i ∷ []) e) ∙ sum_by_push (λ (k : ℕ). cond (is k) 1 0) (range_with_len 0 n) n)) refl
      (told_both p None (notes_after All x n s) (turn_after All x n s).notes _ _ None None (in_turns x n s) last)

  without_turns : (o : Option Begun) (notes : List (ℕ × Note)) → times p o notes ≡ times p o (at_turn 0 (notes_in notes))
  unfolding times
  without_turns o [] = refl
  without_turns o (n ∷ notes) = ap (λ k. cond (p n.1 o) 1 0 + k) (without_turns (begun_after o n.1) notes)

  counted_in_run : (x : Scenario) (n : ℕ) (s : State) → Sane x.setup s →
      times p None (run All x n s).notes ≡ count_by (λ k. by (turn All x (state_after All x k s)) (begun_in x (state_after All x k s))) (range_with_len 0 ((run All x n s).last.turn - s.turn))
  counted_in_run x n s h =
      let m = run_of_turns All x n s in
      let last = ap (λ (z : State). z.turn) m.last ∙ turns_made x m.turns s h in
      let made : (run All x n s).last.turn - s.turn ≡ m.turns = omega (arith, last) in
      without_turns None (run All x n s).notes ∙ ap (λ ns. times p None (at_turn 0 ns)) m.notes ∙ (in_turns x m.turns s).count
      ∙ ap (λ k. count_by (λ j. by (turn All x (state_after All x j s)) (begun_in x (state_after All x j s))) (range_with_len 0 k)) (sym made)

pub taken_in_run : (x : Scenario) (n : ℕ) (s : State) (a : ℕ) → Sane x.setup s → taken (run All x n s).notes a ≡ turns_taking x a ((run All x n s).last.turn - s.turn) s
unfolding turns_taking is_taking
taken_in_run x n s a h = counted_in_run (takes_at a) (is_taking_by a) (no_takes a) (λ t. refl) (takes_in_fetched a) (still_taking a) x n s h

pub faulted_in_run : (x : Scenario) (n : ℕ) (s : State) (a : ℕ) → Sane x.setup s → faulted (run All x n s).notes a ≡ turns_faulting x a ((run All x n s).last.turn - s.turn) s
unfolding turns_faulting is_faulting
faulted_in_run x n s a h = counted_in_run (faults_at a) (is_faulting_by a) (no_faults a) (λ t. refl) (faults_in_fetched a) (still_faulting a) x n s h
