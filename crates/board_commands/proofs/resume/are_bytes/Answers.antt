use Rattle.std.proofs.Common.{◌<◌, ℕ, arith, get_or}
use Rattle.mem_banks.proofs.Copies.{all_bytes}
use Rattle.board_commands.proofs.resume.are_bytes.Goals as goal

pub returns : goal.returns
returns c =
    let small : (i : ℕ) → get_or c.args.bytes.now i 0 < 256 = λ i. omega (arith, c.type_inv.bytes i) in
    all_bytes c.args.bytes.now small
