use Rattle.std.proofs.Common.{◌≡◌, ◌∙◌, ◌+◌, ap, arith}
use Rattle.mem_banks.specs.Memory.{byte_at}
use Rattle.debug_core.proofs.debugger.byte_behind.Goals as goal

pub returns : goal.returns
returns boxes c = λ x s st.
    let is : c.in_ok-checked_add.field-0 ≡ c.args.at + c.args.k = omega (arith, c.in_ok-checked_add.ensures.1, c.from.ensures) in
    c.byte.ensures x s st ∙ ap (byte_at s.memory) is
