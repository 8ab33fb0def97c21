use Rattle.std.proofs.Common.{◌≤◌, arith, not, length, ap, ◌∙◌}
use Rattle.mem_banks.specs.Memory.{Opened}
use Rattle.mem_banks.specs.Kept.{seen}
use Rattle.mem_banks.proofs.Within.{Held, held_found, held_low, unheld_found, unheld_none, two_bytes}
use Rattle.mem_banks.proofs.Memory.half_beyond.Goals as goal

pub returns-then-is_none : goal.returns-then-is_none
returns-then-is_none c =
    let none = rw c.deref.ensures.value at c.find.ensures.none in
    rw (← c.self.view_is, unheld_none (seen c.self.inside.banks.items) c.args.addr 2 (unheld_found c.self.inside.table.items c.self.inside.banks.items c.args.addr c.find.result c.self.invariant.0 (c.is_none.ensures ∙ ap not c.if-is_none.true) none))

pub overflow_add-addr : goal.overflow_add-addr
overflow_add-addr c =
    let found = rw c.deref.ensures.value at c.find.ensures.found in
    let held = held_found c.self.inside.table.items c.self.inside.banks.items c.args.addr c.find.result c.self.invariant.0 (c.is_none.ensures ∙ ap not c.if-is_none.false) found in
    omega (arith, held_low (seen c.self.inside.banks.items) c.args.addr c.self.invariant.0.flash c.self.invariant.0.ram held)

pub returns : goal.returns
returns c =
    let found = rw c.deref.ensures.value at c.find.ensures.found in
    let held = held_found c.self.inside.table.items c.self.inside.banks.items c.args.addr c.find.result c.self.invariant.0 (c.is_none.ensures ∙ ap not c.if-is_none.false) found in
    let small : length c.args.self.now.bytes.flash ≤ 1048576 = omega (arith, ap (λ (m : Opened). length m.bytes.flash) c.self.view_is, c.self.invariant.0.flash) in
    let here : Held c.args.self.now.bytes c.args.addr = rw (← c.self.view_is) held in
    rw (two_bytes c.args.self.now.bytes c.args.addr small here) (omega (arith, c.from.ensures, c.from-2.ensures, c.byte.ensures, c.byte-2.ensures))
