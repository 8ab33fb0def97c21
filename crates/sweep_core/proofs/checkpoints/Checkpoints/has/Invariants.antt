use Rattle.std.specs.List.{AllWithin}
use Rattle.sweep_core.specs.declared.checkpoints.Checkpoint.{Checkpoint}
use Rattle.sweep_core.specs.Leading.{IsSameAs}
use Rattle.sweep_core.proofs.checkpoints.Checkpoints.has.Given as goal

abbrev pub invariant-loop-k : goal.invariant-loop-k
invariant-loop-k l = AllWithin (λ (m : Checkpoint). IsSameAs l.heard l.state m → ⊥) l.self.states.items 0 l.k
