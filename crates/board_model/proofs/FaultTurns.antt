-- A turn whose task faults changes nothing else: so does its instruction, or its system call, and what is noted changes nothing.
use Rattle.std.proofs.Common.{◌≡◌, ◌+◌, ◌<◌, ℕ, true, List, [], length, Option, Some, None, refl, sym, ◌∙◌, ap, arith, inl, inr}
use Rattle.std.specs.Prelude.{Contains, fold, Result, Ok, Err}
use Rattle.std.proofs.lemmas.Bool.{false≢true}
use Rattle.kernel_abi.specs.declared.Fault.{Fault}
use Rattle.kernel_abi.specs.declared.Health.{Health}
use Rattle.kernel_abi.specs.declared.Health.TheVariants.{Well}
use Rattle.kernel_abi.specs.declared.Note.{Note}
use Rattle.kernel_abi.specs.declared.Note.TheVariants as note
use Rattle.thumb_insn.specs.declared.Insn.{Insn}
use Rattle.thumb_exec.specs.declared.fetch.Fetched.{Fetched}
use Rattle.thumb_exec.specs.Effect.{Effect, Next, Syscall, Trap, Move}
use Rattle.task_table.specs.model.State.{Setup, State, Read, Turn}
use Rattle.task_table.specs.model.Reading.{task_at, call_of, listen_of, chosen, is_faulted}
use Rattle.task_table.specs.model.Effects.{noted}
use Rattle.task_table.specs.model.Rows.{syscall_noted}
use Rattle.task_table.specs.model.Start.{begun}
use Rattle.task_table.specs.model.Sane.{Sane}
use Rattle.task_table.specs.model.Lives.{IsFresh}
use Rattle.task_table.proofs.model.Receives.{well-ready}
use Rattle.task_table.proofs.model.Sanity.{sane-current}
use Rattle.board_model.specs.declared.outcomes.Level.{Level}
use Rattle.board_model.specs.declared.outcomes.Level.TheVariants.{Calls, All}
use Rattle.board_model.specs.Script.{Scenario}
use Rattle.board_model.specs.Turn.{moved, acted, executed, noted_at, stepped_by, stepped, after_events, with_current, low_note, high_note, with_registers_noted, turn_of, ended, turn}
use Rattle.board_model.specs.Faults.{IsSameButForFault, AreEntries, IsFaulting, ChangesNothingElse}
use Rattle.board_model.proofs.Events.{fresh-after_events}
use Rattle.board_model.proofs.TurnChains.{IsChosen, chosen_is, as_current, sane-after_events}
use Rattle.board_model.proofs.Stepping.{moves_state}
use Rattle.board_model.proofs.FaultFrames.{both-posted, lone_after}
use Rattle.board_model.proofs.FaultRows.{IsWell, well-processor, Outcome, FaultsAlone, StaysWell, outcome-faulted, outcome-syscall_made}

-- ## what is noted before, and after

noted_before : (g : Setup) (c : ℕ) (n : Note) (t u : Turn) → Outcome g c (noted n t) u → Outcome g c t u
unfolding noted
noted_before g c n t u (FaultsAlone h) = FaultsAlone (lone_after g c t (noted n t) u refl refl (λ r here. inl here) h)
noted_before g c n t u (StaysWell w) = StaysWell w

noted_after : (level : Level) (g : Setup) (c : ℕ) (n : Note) (t u : Turn) → Outcome g c t u → Outcome g c t (noted_at level n u)
unfolding noted
noted_after Calls g c n t u x = x
noted_after All g c n t u (FaultsAlone h) = FaultsAlone record { same = h.same; writes = h.writes; reads = h.reads }
noted_after All g c n t u (StaysWell w) = StaysWell w

-- ## an instruction

well-moves : (c : ℕ) (moves : List Move) (t : Turn) → IsWell c t → IsWell c (fold moved t moves)
unfolding task_at
well-moves c moves t h = ap (λ (s : State). (task_at s c).health) (moves_state moves t) ∙ h

module _ (g : Setup) (c : ℕ) where
  outcome-acted : (t : Turn) → Sane g t.state → IsChosen t.state c → (e : Effect) → Outcome g c t (acted g c e t)
  unfolding syscall_noted noted
  outcome-acted t h is (Next cpu moves) = StaysWell (well-processor c c cpu.regs.words cpu.flags _ (well-moves c moves t (well-ready t.state c is.ready)))
  outcome-acted t h is Syscall = noted_before g c _ t _ (outcome-syscall_made g c (syscall_noted c t) h is.inside is.ready)
  outcome-acted t h is (Trap f) = outcome-faulted g c t is.inside f

  outcome-executed : (level : Level) (at code : ℕ) (insn : Insn) (t : Turn) → Sane g t.state → IsChosen t.state c → Outcome g c t (executed g c insn (noted_at level (note.Insn c at code) t))
  unfolding noted
  outcome-executed Calls at code insn t h is = outcome-acted t h is _
  outcome-executed All at code insn t h is = noted_before g c (note.Insn c at code) t _ (outcome-acted (noted (note.Insn c at code) t) h is _)

  module _ (level : Level) (t : Turn) (h : Sane g t.state) (is : IsChosen t.state c) where
    outcome-by : (at : ℕ) (r : Result Fetched Fault) → Outcome g c t (stepped_by level g c at r t)
    outcome-by at (Ok f) = outcome-executed level at f.code f.insn t h is
    outcome-by at (Err fault) = outcome-faulted g c t is.inside fault

    outcome-stepped : Outcome g c t (stepped level g c t)
    unfolding stepped
    outcome-stepped = outcome-by _ _

    outcome-ran : Outcome g c t (with_registers_noted level c (stepped level g c t))
    unfolding with_registers_noted
    outcome-ran =
        let u = stepped level g c t in
        let low = low_note (task_at u.state c) in
        noted_after level g c (high_note (task_at u.state c)) t (noted_at level low u) (noted_after level g c low t u outcome-stepped)

-- ## the turn

-- from the events to the end of the turn, who is current and the turn's number aside
from_events : (g : Setup) (c n : ℕ) (s u : State) → 0 < length s.tasks → IsSameButForFault g c record s { current = c } u → IsSameButForFault g c s record u { turn = n }
unfolding begun task_at call_of listen_of
from_events g c n s u inside h = record {
  task = h.task;
  idle = record { call = h.idle.call; listen = h.idle.listen };
  supervisor = λ ne.
      let posted_to = h.supervisor ne in
      let same = both-posted 0 g.fault_bits (begun s) (begun record s { current = c }) inside inside record { task = refl; call = refl; listen = refl } in
      record { task = posted_to.task ∙ same.task; call = posted_to.call ∙ same.call; listen = posted_to.listen ∙ same.listen };
  others = λ i apart above. let o = h.others i apart above in record { task = o.task; call = o.call; listen = o.listen };
  memory = h.memory;
  devices = h.devices;
  now = h.now;
  next_call = h.next_call;
  lines = h.lines;
}

-- a turn's task faults by what it does, and nothing else changes
pub record IsFaultedTurn (g : Setup) (c : ℕ) (s : State) (u : Turn) : Type 0 where
  pub same : IsSameButForFault g c s u.state
  pub writes : u.writes ≡ []
  pub reads : AreEntries u.reads

well_is_none : (health : Health) → health ≡ Well → is_faulted health ≡ true → ⊥
well_is_none health well faulted = false≢true (sym (ap is_faulted well) ∙ faulted)

pub faulted_turn : (level : Level) (x : Scenario) (s : State) (c : ℕ) → Sane x.setup s → chosen x.setup (after_events x s).state ≡ Some c → is_faulted (task_at (turn level x s).state c).health ≡ true → IsFaultedTurn x.setup c (after_events x s).state (turn level x s)
unfolding turn ended task_at
faulted_turn level x s c sane e = by_choice (chosen x.setup t.state) e
  where
    t : Turn
    t = after_events x s

    u : Turn
    u = with_current c t

    v : Turn
    v = with_registers_noted level c (stepped level x.setup c u)

    is : IsChosen t.state c
    is = chosen_is t.state c (sane-after_events x s sane) e

    some : 0 < length t.state.tasks
    some = let inside = is.inside in omega arith

    fresh : IsFresh s t
    fresh = fresh-after_events x s

    none : (r : Read) → Contains [] r → ⊥
    none r here = absurd (omega (arith, here.1))

    here : IsChosen u.state c
    here = record { ready = as_current c c t.state is.ready; inside = is.inside }

    by_outcomes : Outcome x.setup c u v → is_faulted (task_at v.state c).health ≡ true → IsFaultedTurn x.setup c t.state (ended v)
    by_outcomes (FaultsAlone h) faulted = record { same = from_events x.setup c (v.state.turn + 1) t.state v.state some h.same; writes = h.writes ∙ fresh.writes; reads = λ r here. elim (h.reads r here) [ inl before ↦ absurd (none r (rw fresh.reads at before)) | inr entry ↦ entry ] }
    by_outcomes (StaysWell w) faulted = absurd (well_is_none _ w faulted)

    by_task : (d : ℕ) → d ≡ c → is_faulted (task_at (ended (turn_of level x.setup (Some d) t)).state c).health ≡ true → IsFaultedTurn x.setup c t.state (ended (turn_of level x.setup (Some d) t))
    by_task d same = rw same (by_outcomes (outcome-ran x.setup c level u (sane-current c t (sane-after_events x s sane) is.inside) here))

    by_choice : (o : Option ℕ) → o ≡ Some c → is_faulted (task_at (ended (turn_of level x.setup o t)).state c).health ≡ true → IsFaultedTurn x.setup c t.state (ended (turn_of level x.setup o t))
    by_choice None none = absurd cc
    by_choice (Some d) same = by_task d cc

pub changes_nothing_else : (level : Level) (x : Scenario) (s : State) (c : ℕ) → Sane x.setup s → IsFaulting level x s c → ChangesNothingElse level x s c
changes_nothing_else level x s c sane h = let f = faulted_turn level x s c sane h.chosen h.faulted in record { state = f.same; writes = f.writes; reads = f.reads }
