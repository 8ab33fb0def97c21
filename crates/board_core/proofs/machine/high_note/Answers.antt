use Rattle.std.proofs.Common.{◌≡◌, ℕ, List, length, ap, rules}
use Rattle.kernel_abi.specs.declared.Note.TheVariants as note
use Rattle.board_core.proofs.Noting.{last_eight}
use Rattle.board_core.proofs.machine.high_note.Goals as goal

pub returns : goal.returns
returns c =
    let sixteen : length c.args.registers.now ≡ 16 = search rules in
    ap (λ (r : List ℕ). note.High r c.args.flags.n c.args.flags.z c.args.flags.c c.args.flags.v) (last_eight c.args.registers.now sixteen)
