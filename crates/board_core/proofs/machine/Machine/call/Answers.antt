use Rattle.std.proofs.Common.{sym, subst, arith}
use Rattle.task_table.specs.model.State.{Turn}
use Rattle.task_table.proofs.model.Sanity.{sane-current}
use Rattle.board_core.specs.Machine.{IsReady, MachineHolds}
use Rattle.board_model.specs.Turn.{with_current}
use Rattle.board_model.proofs.TurnChains.{chosen_is}
use Rattle.board_core.proofs.fast.Fetching.{call_turned}
use Rattle.board_core.proofs.Loading.{below}
use Rattle.board_core.specs.Data.{boxed}
use Rattle.board_core.proofs.machine.Machine.call.Goals as goal

pub load_context-requires : goal.load_context-requires
load_context-requires boxes c =
    let g = c.requires.next.0 in
    let t = c.requires.next.1 in
    let n = c.requires.next.2 in
    let is = chosen_is t.state c.args.task n.stands.sane (sym n.is) in
    below _ _ g c.args.self.now.space _ t c.args.task n.stands.holds is.inside

pub syscall-requires : goal.syscall-requires
syscall-requires boxes c =
    let g = c.requires.next.0 in
    let t = c.requires.next.1 in
    let n = c.requires.next.2 in
    let task = c.args.task in
    let is = chosen_is t.state task n.stands.sane (sym n.is) in
    record {
      ready = (g, with_current task t, record { loaded = c.load_context.ensures.loaded; holds = c.load_context.ensures.holds g t n.stands.holds is.ready; sane = sane-current task t n.stands.sane is.inside }, c.requires.next.3);
      room = omega (arith, c.requires.room, c.load_context.ensures.count);
    }

pub returns-clause-holds : goal.returns-clause-holds
returns-clause-holds boxes c =
    let shown = boxed (λ p. (goal.Device-dyn boxes p).shown p.1) in
    λ g t n calling.
    let task = c.args.task in
    let is = chosen_is t.state task n.stands.sane (sym n.is) in
    let ready : IsReady shown g c.load_context.new.self (with_current task t) = record { loaded = c.load_context.ensures.loaded; holds = c.load_context.ensures.holds g t n.stands.holds is.ready; sane = sane-current task t n.stands.sane is.inside } in
    subst (λ (u : Turn). MachineHolds shown g c.syscall.new.self u) (sym (call_turned g task t calling)) (c.syscall.ensures.holds g (with_current task t) ready)
