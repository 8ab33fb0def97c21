use Rattle.std.proofs.Common.{◌≡◌, ◌+◌, ℕ, ap, subst, arith}
use Rattle.std.specs.Prelude.{fold}
use Rattle.run_script.specs.Scripts.{ScriptData, IsNext, events_of}
use Rattle.task_table.specs.model.State.{State, Turn}
use Rattle.task_table.specs.model.Start.{begun}
use Rattle.task_table.specs.kept.Holds.{Stands}
use Rattle.board_core.specs.declared.machine.Machine.{Machine}
use Rattle.board_core.specs.Machine.{MachineStands}
use Rattle.board_model.specs.Turn.{happened, after_events}
use Rattle.board_core.proofs.Loading.{unloaded_stands}
use Rattle.board_model.proofs.Outside.{all_events, begun_state}
use Rattle.board_core.specs.Data.{boxed}
use Rattle.board_core.proofs.board.Board.happen.Goals as goal

pub happen_all-requires-clause-stands : goal.happen_all-requires-clause-stands
happen_all-requires-clause-stands boxes c =
    let x = c.requires.stands.0 in
    let s = c.requires.stands.1 in
    let due = c.requires.stands.2 in
    let same : (begun s).state.now ≡ s.now = ap (λ (u : State). u.now) (begun_state s) in
    let counted = due.counted.now in
    let turns = due.turns in
    let few = c.requires.few in
    (x.setup, begun s, due.machine, omega (arith, same, counted, turns, few))

pub returns-clause-midway : goal.returns-clause-midway
returns-clause-midway boxes c =
    let shown = boxed (λ p. (goal.Device-dyn boxes p).shown p.1) in
    λ x s due.
    let g = x.setup in
    let b = c.args.self.now in
    let m : Machine _ _ = c.save_context.new.self in
    let S : ScriptData → Type 0 = λ script. MachineStands shown g c.happen_all.new.self (fold (happened g) (begun s) (events_of script b.turns)) in
    let T : ℕ → Type 0 = λ turn. MachineStands shown g c.happen_all.new.self (fold (happened g) (begun s) (events_of x.script turn)) in
    let A : Turn → Type 0 = λ t. MachineStands shown g c.happen_all.new.self t in
    let after : MachineStands shown g c.happen_all.new.self (after_events x s) = subst A (all_events x s) (subst T due.turns (subst S due.script (c.happen_all.ensures.stands g (begun s) due.machine))) in
    let saved = c.save_context.ensures.holds g (after_events x s) after.holds in
    let stands : Stands g c.save_context.new.self.space.kernel (after_events x s) = record { holds = saved.kernel; sane = after.sane } in
    let N : ScriptData → Type 0 = λ script. IsNext script (b.turns + 1) c.next_from-self.result in
    let M : ℕ → Type 0 = λ turn. IsNext x.script (turn + 1) c.next_from-self.result in
    record {
      machine = unloaded_stands _ g m (after_events x s) c.save_context.ensures.unloaded stands saved.devices;
      choice = c.renew_choice.ensures g (after_events x s) stands.holds due.choice;
      script = due.script;
      io_regions = due.io_regions;
      due = subst M due.turns (subst N due.script c.next_from-self.ensures);
    }
