use Rattle.std.proofs.Common.{sym, ◌∙◌, ap, length}
use Rattle.mem_banks.specs.Memory.{Memory}
use Rattle.board_core.proofs.Loading.{rest_held}
use Rattle.board_core.proofs.board.Board.ram_len.Goals as goal

pub returns-clause-len : goal.returns-clause-len
returns-clause-len boxes c = λ x s st.
    let w = rest_held _ _ x.setup _ _ _ st.holds.machine in
    c.ram_len.ensures.len ∙ ap (λ (m : Memory). length m.ram) (w.holds.memory ∙ sym w.rest.memory)
