use Rattle.std.proofs.Common.{◌≤◌, ℕ, ap, arith, decimal, length, length-append}
use Rattle.std.proofs.lemmas.Fmt.{length-decimal-le}
use Rattle.debug_core.proofs.text.push_small.Goals as goal

pub returns-clause-len : goal.returns-clause-len
returns-clause-len c =
    let n = c.from.result in
    let digits : length (decimal n) ≤ 3 = length-decimal-le 3 n (omega arith) (omega arith) (omega arith) in
    omega (arith, digits, ap length c.push_decimal.ensures.bytes, length-append {A = ℕ})
