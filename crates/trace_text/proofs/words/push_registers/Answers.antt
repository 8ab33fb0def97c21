use Rattle.std.proofs.Common.{◌*◌, ◌/◌, ◌++◌, List, ℕ, length, get_or, ap, ◌∙◌, arith}
use Rattle.std.specs.List.{between}
use Rattle.trace_text.specs.Text.{spaced_hex}
use Rattle.trace_text.proofs.Lanes.{one_more}
use Rattle.trace_text.proofs.words.push_registers.Goals as goal

pub loop-register-preserved : goal.loop-register-preserved
loop-register-preserved c =
    let xs : List ℕ = c.args.registers.now in
    let k : ℕ = length xs / 4 * 4 in
    let i : ℕ = c.loop-register.register-index in
    let before = c.loop-register.invariant in
    let more = one_more spaced_hex c.args.out.now.bytes xs k i (omega (arith, c.loop-register-test.true)) in
    (c.push_spaced_hex.ensures.bytes ∙ ap (λ (bs : List ℕ). bs ++ spaced_hex (get_or (between k (length xs) xs) i 0)) before.0 ∙ more, omega (arith, before.1, c.push_spaced_hex.ensures.len))
