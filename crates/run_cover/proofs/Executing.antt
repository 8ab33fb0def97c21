-- A turn notes the instruction at an address once if it executes it, and otherwise not at all. So the notes
-- of a run count its turns.
use Rattle.std.proofs.Common.{◌≡◌, ◌+◌, ◌-◌, ◌%◌, ◌≤◌, ℕ, zero, suc, Bool, true, false, cond, ◌&&◌, eqb, List, [], ◌∷◌, ◌++◌, length, Option, Some, None, refl, sym, ◌∙◌, ap, subst, true≢false, arith}
use Rattle.std.specs.Prelude.{count_by, is_ok, Result, Ok, Err}
use Rattle.std.specs.List.{range_with_len}
use Rattle.std.proofs.lemmas.List.Sums.{count_by-le-length, sum_by-append, sum_by-cons, sum_by_push}
use Rattle.std.proofs.lemmas.List.FromFn.{length-range_with_len}
use Rattle.kernel_abi.specs.declared.Fault.{Fault}
use Rattle.kernel_abi.specs.declared.Note.{Note}
use Rattle.kernel_abi.specs.declared.Note.TheVariants as note
use Rattle.kernel_abi.specs.declared.Timer.{Timer}
use Rattle.run_script.specs.declared.events.Event.{Event}
use Rattle.run_script.specs.declared.events.Event.TheVariants.{Tick, Irq, Feed}
use Rattle.run_script.specs.Scripts.{events_of}
use Rattle.thumb_exec.specs.Effect.{Effect, Next, Syscall, Trap, Move, Puts, Takes}
use Rattle.thumb_exec.specs.declared.fetch.Fetched.{Fetched}
use Rattle.task_table.specs.model.State.{Setup, LineSetup, State, Turn}
use Rattle.task_table.specs.model.Reading.{task_at, register, chosen}
use Rattle.task_table.specs.model.Effects.{noted, clocked}
use Rattle.task_table.specs.model.Events.{expired_by, expired, ticked, fed, owner_of, interrupted_by, interrupted, driven_by, driven}
use Rattle.task_table.specs.model.Sane.{Sane}
use Rattle.task_table.specs.model.Start.{begun}
use Rattle.board_model.specs.declared.outcomes.Level.TheVariants.{All}
use Rattle.board_model.specs.Lifetimes.{notes_in}
use Rattle.board_model.specs.Script.{Scenario}
use Rattle.board_model.specs.Turn.{moved, acted, stepped_by, stepped, happened, after_events, with_current, low_note, high_note, with_registers_noted, turn_of, ended, turn, turned_of, turned}
use Rattle.board_model.specs.Run.{run, turn_after, state_after, notes_after}
use Rattle.board_model.proofs.Counts.{turn_more}
use Rattle.board_model.proofs.Further.{last_turn}
use Rattle.board_model.proofs.OfTurns.{run_of_turns}
use Rattle.board_model.proofs.RunKeeps.{sane_turns}
use Rattle.run_cover.specs.declared.counts.PlaceCounts.{PlaceCounts}
use Rattle.run_cover.specs.Counted.{is_at, executed, count_of, counts, Heard, IsNewlyCounted}
use Rattle.run_cover.specs.Executing.{is_executed_by, is_executed, turns_executing}
use Rattle.run_cover.proofs.Growing.{told}
use Rattle.run_cover.proofs.Quiet.{is_loud, AreQuiet, IsQuiet, quiet_itself, quiet_if, quiet_fold, quiet_noted, quiet_processor, quiet_stored, quiet_timer, quiet_clocked, quiet_line, quiet_devices, quiet_posted, quiet_device_stored, quiet_device_taken, quiet_faulted}
use Rattle.run_cover.proofs.QuietRows.{quiet_syscall_noted, quiet_syscall_made}

-- ## an instruction notes itself before it is carried out, and nothing of the kind then

quiet_moved : (t u : Turn) (x : Move) → IsQuiet false t u → IsQuiet false t (moved u x)
quiet_moved t u (Puts x) h = quiet_if _ (quiet_stored false t _ _ _ u h) (quiet_if _ (quiet_device_stored false t _ _ u h) h)
quiet_moved t u (Takes at n) h = quiet_if _ (quiet_device_taken false t at u h) h

pub quiet_acted : (g : Setup) (c : ℕ) (e : Effect) (t : Turn) → IsQuiet false t (acted g c e t)
quiet_acted g c (Next cpu moves) t = quiet_processor false t c _ _ _ (quiet_fold false t moved (λ u x h. quiet_moved t u x h) moves t (quiet_itself false t))
quiet_acted g c Syscall t = quiet_syscall_made t g c _ (quiet_syscall_noted t g c t (quiet_itself false t))
quiet_acted g c (Trap fault) t = quiet_faulted t g c fault t (quiet_itself false t)

-- ## what comes from outside

quiet_expired : (t u : Turn) (i : ℕ) (o : Option Timer) → IsQuiet true t u → IsQuiet true t (expired_by i o u)
quiet_expired t u i None h = h
quiet_expired t u i (Some x) h = quiet_if _ (quiet_posted true t i _ _ (quiet_timer true t i None u h)) h

quiet_interrupted : (t u : Turn) (k : ℕ) (o : Option LineSetup) → IsQuiet true t u → IsQuiet true t (interrupted_by k o u)
quiet_interrupted t u k None h = quiet_noted true t _ u refl h
quiet_interrupted t u k (Some o) h =
    quiet_if _ (quiet_posted true t _ _ _ (quiet_line true t k _ _ (quiet_noted true t _ u refl h)))
    (quiet_line true t k _ _ (quiet_noted true t _ u refl h))

quiet_driven : (g : Setup) (t u : Turn) → IsQuiet true t u → IsQuiet true t (driven g u)
unfolding driven
quiet_driven g t u h = quiet_fold true t (driven_by u.state.devices) (λ v o k. quiet_if _ (quiet_interrupted t v o.line (Some o) k) k) g.lines u h

quiet_happened : (g : Setup) (t u : Turn) (e : Event) → IsQuiet true t u → IsQuiet true t (happened g u e)
unfolding ticked interrupted fed
quiet_happened g t u Tick h = quiet_fold true t expired (λ v i k. quiet_expired t v i (task_at v.state i).timer k) (range_with_len 0 (length u.state.tasks)) (clocked u) (quiet_clocked true t u h)
quiet_happened g t u (Irq line) h = quiet_interrupted t u line (owner_of g line) h
quiet_happened g t u (Feed device byte) h = quiet_driven g t (fed device (byte % 256) u) (quiet_noted true t _ _ refl (quiet_devices true t _ u h))

from_nothing : (t u : Turn) → t.notes ≡ [] → IsQuiet true t u → AreQuiet true u.notes
from_nothing t u none h = subst (AreQuiet true) (sym (h.is ∙ ap (λ ns. ns ++ h.more) none)) h.quiet

nothing_begun : (s : State) → (begun s).notes ≡ []
unfolding begun
nothing_begun s = refl

-- no event notes an instruction or a fault
pub quiet_events : (x : Scenario) (s : State) → AreQuiet true (after_events x s).notes
unfolding after_events
quiet_events x s = from_nothing (begun s) _ (nothing_begun s) (quiet_fold true (begun s) (happened x.setup) (λ u e h. quiet_happened x.setup (begun s) u e h) (events_of x.script s.turn) (begun s) (quiet_itself true (begun s)))

-- what is calm is quiet
calmer : (n : Note) → is_loud true n ≡ false → is_loud false n ≡ false
calmer (note.Insn task at code) e = e
calmer (note.High registers n z c v) e = e
calmer (note.Fault task fault) e = refl
calmer _ e = refl

pub all_calmer : (ns : List Note) → AreQuiet true ns → AreQuiet false ns
all_calmer [] h = tt
all_calmer (n ∷ ns) h = (calmer n h.0, all_calmer ns h.1)

module _ (a : ℕ) where
  -- ## quiet notes are of no instruction

  of_none : (n : Note) → is_loud false n ≡ false → is_at a n ≡ false
  of_none (note.Insn task at code) e = absurd (true≢false e)
  of_none _ e = refl

  none_of : (ns : List Note) → AreQuiet false ns → count_by (is_at a) ns ≡ 0
  none_of [] h = refl
  none_of (n ∷ ns) h =
      let one : cond (is_at a n) 1 0 ≡ 0 = ap (λ b. cond b 1 0) (of_none n h.0) in
      sum_by-cons (λ (m : Note). cond (is_at a m) 1 0) n ns ∙ (λ i. one i + none_of ns h.1 i)

  same : (t u : Turn) → IsQuiet false t u → count_by (is_at a) u.notes ≡ count_by (is_at a) t.notes
  same t u h =
      let none = none_of h.more h.quiet in
      ap (count_by (is_at a)) h.is ∙ sum_by-append (λ (m : Note). cond (is_at a m) 1 0) t.notes h.more ∙ omega (arith, none)

  none_after_events : (x : Scenario) (s : State) → count_by (is_at a) (after_events x s).notes ≡ 0
  none_after_events x s = none_of _ (all_calmer _ (quiet_events x s))

  -- ## a turn

  once : Bool → ℕ
  once b = cond b 1 0

  with_true : (b : Bool) → (b && true) ≡ b
  with_true true = refl
  with_true false = refl

  with_false : (b : Bool) → (b && false) ≡ false
  with_false true = refl
  with_false false = refl

  by_fetch : (g : Setup) (c at : ℕ) (r : Result Fetched Fault) (t : Turn) → count_by (is_at a) t.notes ≡ 0 → count_by (is_at a) (stepped_by All g c at r t).notes ≡ once (eqb at a && is_ok r)
  unfolding once noted
  by_fetch g c at (Ok f) t none =
      same (noted (note.Insn c at f.code) t) _ (quiet_acted g c _ (noted (note.Insn c at f.code) t))
      ∙ sum_by_push (λ (m : Note). cond (is_at a m) 1 0) t.notes (note.Insn c at f.code)
      ∙ ap (λ k. k + once (eqb at a)) none
      ∙ omega arith
      ∙ ap once (sym (with_true (eqb at a)))
  by_fetch g c at (Err fault) t none = same t _ (quiet_faulted t g c fault t (quiet_itself false t)) ∙ none ∙ ap once (sym (with_false (eqb at a)))

  by_step : (g : Setup) (c : ℕ) (t : Turn) → count_by (is_at a) t.notes ≡ 0 → count_by (is_at a) (stepped All g c (with_current c t)).notes ≡ once (is_executed_by g t.state a (turned_of t.state (Some c)))
  unfolding stepped register task_at
  by_step g c t none = by_fetch g c _ _ (with_current c t) none

  same_registers : (c : ℕ) (t : Turn) → count_by (is_at a) (with_registers_noted All c t).notes ≡ count_by (is_at a) t.notes
  unfolding with_registers_noted noted
  same_registers c t =
      let low = sum_by_push (λ (m : Note). cond (is_at a m) 1 0) t.notes (low_note (task_at t.state c)) in
      let high = sum_by_push (λ (m : Note). cond (is_at a m) 1 0) (t.notes ++ low_note (task_at t.state c) ∷ []) (high_note (task_at t.state c)) in
      high ∙ omega (arith, low)

  by_choice : (g : Setup) (o : Option ℕ) (t : Turn) → count_by (is_at a) t.notes ≡ 0 → count_by (is_at a) (turn_of All g o t).notes ≡ once (is_executed_by g t.state a (turned_of t.state o))
  unfolding once
  by_choice g None t none = same t _ (quiet_noted false t note.Idle t refl (quiet_itself false t)) ∙ none
  by_choice g (Some c) t none = same_registers c _ ∙ by_step g c t none

  in_turn : (x : Scenario) (s : State) → count_by (is_at a) (turn All x s).notes ≡ once (is_executed x a s)
  unfolding turn ended is_executed turned
  in_turn x s = let t = after_events x s in by_choice x.setup (chosen x.setup t.state) t (none_after_events x s)

  -- ## turns one after the other

  count_append : (ns ms : List Note) → count_by (is_at a) (ns ++ ms) ≡ count_by (is_at a) ns + count_by (is_at a) ms
  count_append ns ms = sum_by-append (λ (n : Note). cond (is_at a n) 1 0) ns ms

  pub range_next : (k n : ℕ) → range_with_len k (suc n) ≡ range_with_len k n ++ (k + n) ∷ []
  range_next k zero = let e : k ≡ k + 0 = omega arith in ap (λ i. i ∷ []) e
  range_next k (suc n) = let e : k + 1 + n ≡ k + suc n = omega arith in ap (λ is. k ∷ is) (range_next (k + 1) n ∙ ap (λ i. range_with_len (k + 1) n ++ i ∷ []) e)

  in_turns : (x : Scenario) (n : ℕ) (s : State) → count_by (is_at a) (notes_after All x n s) ≡ turns_executing x a n s
  unfolding notes_after turns_executing once
  in_turns x zero s = refl
  in_turns x (suc n) s =
      let is : ℕ → Bool = λ k. is_executed x a (state_after All x k s) in
      let last = ap (λ (t : Turn). count_by (is_at a) t.notes) (last_turn All x n s) ∙ in_turn x (state_after All x n s) in
      let e : 0 + n ≡ n = omega arith in
      count_append (notes_after All x n s) (turn_after All x n s).notes
      ∙ (λ i. in_turns x n s i + last i)
      ∙ sym (ap (count_by is) (range_next 0 n ∙ ap (λ i. range_with_len 0 n ++ i ∷ []) e) ∙ sum_by_push (λ (k : ℕ). cond (is k) 1 0) (range_with_len 0 n) n)

  -- ## a run

  without_turns : (notes : List (ℕ × Note)) → executed notes a ≡ count_by (is_at a) (notes_in notes)
  without_turns [] = refl
  without_turns (n ∷ notes) =
      sum_by-cons (λ (m : ℕ × Note). cond (is_at a m.1) 1 0) n notes
      ∙ ap (λ k. cond (is_at a n.1) 1 0 + k) (without_turns notes)
      ∙ sym (sum_by-cons (λ (m : Note). cond (is_at a m) 1 0) n.1 (notes_in notes))

pub turns_made : (x : Scenario) (n : ℕ) (s : State) → Sane x.setup s → (state_after All x n s).turn ≡ s.turn + n
unfolding state_after
turns_made x zero s h = omega arith
turns_made x (suc n) s h =
    let one = ap (λ (t : Turn). t.state.turn) (last_turn All x n s) ∙ turn_more All x (state_after All x n s) (sane_turns All x n s h) in
    let before = turns_made x n s h in
    omega (arith, one, before)

-- the turns of a run are those in which its number of turns rose
record IsCountedIn (x : Scenario) (n : ℕ) (s : State) (a : ℕ) : Type 0 where
  turns : ℕ
  few : turns ≤ n
  made : (run All x n s).last.turn - s.turn ≡ turns
  is : executed (run All x n s).notes a ≡ turns_executing x a turns s

counted_in : (x : Scenario) (n : ℕ) (s : State) (a : ℕ) → Sane x.setup s → IsCountedIn x n s a
counted_in x n s a h =
    let m = run_of_turns All x n s in
    let last = ap (λ (z : State). z.turn) m.last ∙ turns_made x m.turns s h in
    record {
      turns = m.turns;
      few = m.few;
      made = omega (arith, last);
      is = without_turns a (run All x n s).notes ∙ ap (count_by (is_at a)) m.notes ∙ in_turns a x m.turns s;
    }

pub in_run : (x : Scenario) (n : ℕ) (s : State) (a : ℕ) → Sane x.setup s → executed (run All x n s).notes a ≡ turns_executing x a ((run All x n s).last.turn - s.turn) s
in_run x n s a h = let m = counted_in x n s a h in m.is ∙ ap (λ k. turns_executing x a k s) (sym m.made)

-- so they are at most as many as the run may have
pub few_in_run : (x : Scenario) (n : ℕ) (s : State) (a : ℕ) → Sane x.setup s → executed (run All x n s).notes a ≤ n
unfolding turns_executing
few_in_run x n s a h =
    let m = counted_in x n s a h in
    let few = m.few in
    let most = count_by-le-length (λ (k : ℕ). is_executed x a (state_after All x k s)) (range_with_len 0 m.turns) in
    omega (arith, few, most, m.is, length-range_with_len 0 m.turns)

-- and a table that was told the notes of a run has the counts of the run
pub run_counted : (x : Scenario) (limit : ℕ) (s : State) (t u : PlaceCounts) → Sane x.setup s → limit ≤ 1000000000 → IsNewlyCounted t → Heard t (run All x (limit - s.turn) s).notes u → count_of u ≡ counts (run All x (limit - s.turn) s).notes
run_counted x limit s t u sane few new heard =
    told t u (run All x (limit - s.turn) s).notes new heard (λ a. let le = few_in_run x (limit - s.turn) s a sane in omega (arith, le, few))
