use Rattle.std.proofs.lemmas.Result.{IfOk-weaker}
use Rattle.mem_banks.specs.Kept.{spans_of}
use Rattle.mem_banks.proofs.Laying.{regions_ordered, parts_ordered}
use Rattle.mem_banks.proofs.opening.all_banks.Goals as goal

pub banks_over-requires-clause-regions : goal.banks_over-requires-clause-regions
banks_over-requires-clause-regions c = rw c.deref.ensures.value (regions_ordered c.args.regions.now c.in_ok-sorted.sorted.items c.in_ok-sorted.ensures.same c.args.flash c.args.ram c.requires.regions)

pub returns-clause-parts : goal.returns-clause-parts
returns-clause-parts c = IfOk-weaker c.banks_over.result _ _ (λ b p. parts_ordered c.args.regions.now c.in_ok-sorted.sorted.items c.in_ok-sorted.ensures.same (spans_of b.items) (rw c.deref.ensures.value at p)) c.banks_over.ensures.parts
