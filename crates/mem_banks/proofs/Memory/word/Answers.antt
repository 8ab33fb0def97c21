use Rattle.std.proofs.Common.{arith, refl}
use Rattle.mem_banks.proofs.Within.{number_read}
use Rattle.mem_banks.proofs.Memory.word.Goals as goal

pub returns-then-at-len : goal.returns-then-at-len
returns-then-at-len c =
    let there = rw (← c.index.ensures) at (c.self.invariant.0.hints c.page.result c.index.result.now (omega (arith, c.page.ensures, c.self.invariant.0.pages))) in
    rw (← c.self.view_is, number_read c.self.inside.table.items c.self.inside.banks.items c.index.result.now _ c.args.addr 4 c.index-bank.result.now c.self.invariant.0 there c.index-bank.ensures (omega arith) refl (omega arith) (omega (arith, c.if-at-len.true, c.len.ensures)), ← c.deref.ensures.value) c.whole_word.ensures
