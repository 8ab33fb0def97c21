use Rattle.std.proofs.lemmas.List.{get_or_read}
use Rattle.mem_banks.specs.Kept.{seen}
use Rattle.mem_banks.proofs.Within.{number_held, unheld_none, unheld_at}
use Rattle.mem_banks.proofs.Memory.byte_beyond.Goals as goal

pub returns-in-Some : goal.returns-in-Some
returns-in-Some c =
    let found = rw c.deref.ensures.value at c.in-Some.ensures.found in
    let there = rw (← c.index.ensures) at ((found.1 c.index.result.now).1) in
    rw (← c.self.view_is, number_held c.self.inside.table.items c.self.inside.banks.items c.in-Some.place.bank c.in-Some.place.at c.args.addr c.index.result.now c.self.invariant.0 found c.index.ensures) (get_or_read _ _ _ there c.index-in-Some.ensures 0)

pub returns-in-None : goal.returns-in-None
returns-in-None c =
    let none = rw c.deref.ensures.value at c.in-None.ensures.none in
    rw (← c.self.view_is, unheld_none (seen c.self.inside.banks.items) c.args.addr 1 (unheld_at c.self.inside.table.items c.self.inside.banks.items c.args.addr c.self.invariant.0 none))
