use Rattle.insn_vectors.proofs.memory.Memory.new.Goals as goal

pub returns-clause-flash : goal.returns-clause-flash
returns-clause-flash c = c.in_ok-flash.ensures.items_if_clones_equal (λ y e. cc)

pub returns-clause-ram : goal.returns-clause-ram
returns-clause-ram c = c.in_ok-ram.ensures.items_if_clones_equal (λ y e. cc)

pub returns-clause-regions : goal.returns-clause-regions
returns-clause-regions c = c.in_ok-regions.ensures.items
