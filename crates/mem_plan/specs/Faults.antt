-- When a plan is too small.
use Rattle.std.specs.Prelude.{ℕ, ⊤, ◌≡◌, ◌<◌, ◌-◌, ◌^◌, min}
use Rattle.mem_plan.specs.declared.made.PlanFault.{PlanFault}
use Rattle.mem_plan.specs.declared.made.PlanFault.TheVariants as fault

-- sizes of this sum do not fit the room; a lack of memory may come at any sum
abbrev pub IsTooSmall : ℕ → ℕ → PlanFault → Type 0
IsTooSmall sum room (fault.TooSmall needed) = (room < sum) × (needed ≡ min sum (2 ^ 64 - 1))
IsTooSmall sum room fault.Memory = ⊤
