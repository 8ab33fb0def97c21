use Rattle.std.proofs.Common.{sym, ◌∙◌, ap}
use Rattle.mem_banks.specs.Memory.{Memory, byte_at}
use Rattle.board_core.proofs.Loading.{rest_held}
use Rattle.board_core.proofs.board.Board.byte.Goals as goal

pub returns : goal.returns
returns boxes c = λ x s st.
    let w = rest_held _ _ x.setup _ _ _ st.holds.machine in
    c.byte.ensures x.setup w.saved w.holds ∙ ap (λ (m : Memory). byte_at m c.args.addr) (sym w.rest.memory)
