use Rattle.std.proofs.Common.{subst}
use Rattle.run_script.specs.Scripts.{ScriptData, IsNext}
use Rattle.board_core.proofs.board.Board.next.Goals as goal

pub returns : goal.returns
returns boxes c = λ x s st.
    let N : ScriptData → Type 0 = λ script. IsNext script c.args.from c.next.result in
    subst N st.holds.script c.next.ensures
