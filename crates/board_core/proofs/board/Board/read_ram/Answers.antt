use Rattle.std.proofs.Common.{sym, ◌∙◌, ap, length}
use Rattle.mem_banks.specs.Memory.{Memory}
use Rattle.board_core.proofs.Loading.{rest_held}
use Rattle.board_core.proofs.board.Board.read_ram.Goals as goal

pub read_ram-requires : goal.read_ram-requires
read_ram-requires boxes c =
    let w = rest_held _ _ c.requires.0.setup _ _ _ c.requires.2.holds.machine in
    c.requires.3 ∙ ap (λ (m : Memory). length m.ram) (sym (w.holds.memory ∙ sym w.rest.memory))

pub returns : goal.returns
returns boxes c = λ x s st.
    let w = rest_held _ _ x.setup _ _ _ st.holds.machine in
    c.read_ram.ensures ∙ ap (λ (m : Memory). m.ram) (w.holds.memory ∙ sym w.rest.memory)
