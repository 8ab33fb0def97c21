use Rattle.std.proofs.Common.{◌+◌, ◌%◌, ◌-◌, ◌<◌, arith, length, refl}
use Rattle.std.proofs.lemmas.List.{get_or_read}
use Rattle.mem_banks.proofs.Copies.{number_of_one}
use Rattle.mem_banks.proofs.Within.{number_read}
use Rattle.mem_banks.proofs.Memory.byte.Goals as goal

pub returns-then-at-len : goal.returns-then-at-len
returns-then-at-len c =
    let there = rw (← c.index.ensures) at (c.self.invariant.0.hints c.page.result c.index.result.now (omega (arith, c.page.ensures, c.self.invariant.0.pages))) in
    let lt : (c.args.addr + (4294967296 - c.index-bank.result.now.base)) % 4294967296 < length c.index-bank.result.now.bytes.items = omega (arith, c.if-at-len.true, c.len.ensures) in
    rw (← c.self.view_is, number_read c.self.inside.table.items c.self.inside.banks.items c.index.result.now _ c.args.addr 1 c.index-bank.result.now c.self.invariant.0 there c.index-bank.ensures (omega arith) refl (omega arith) (omega (arith, c.if-at-len.true, c.len.ensures)), number_of_one) (get_or_read c.index-bank.result.now.bytes.items _ c.index-then-at-len.result.now lt c.index-then-at-len.ensures 0)
