use Rattle.std.proofs.Common.{◌∙◌, sym, ap}
use Rattle.mem_banks.specs.Memory.{Memory, is_held}
use Rattle.debug_core.specs.declared.command.Sought.{Sought}
use Rattle.debug_core.specs.Runs.{state_at}
use Rattle.debug_core.specs.Searched.{can_be}
use Rattle.debug_core.proofs.Ahead.{same_memory}
use Rattle.debug_core.proofs.Finding.{is_there}
use Rattle.debug_core.proofs.replay.Replay.can_find.Goals as goal

pub returns-in-Change : goal.returns-in-Change
returns-in-Change boxes c = λ x turn h.
    let u = h.state.0 in
    let s = state_at x turn in
    c.is_some.ensures
    ∙ is_there u.memory c.in-Change.at c.byte.result (c.byte.ensures x u h.state.1)
    ∙ ap (λ (m : Memory). is_held m c.in-Change.at) (same_memory u s h.state.2)
    ∙ ap (λ (what : Sought). can_be what s.memory) (sym c.in-Change.is)
