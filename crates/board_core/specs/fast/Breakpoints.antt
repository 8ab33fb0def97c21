-- Breakpoints: addresses at which the turn before an instruction is reported.
use Rattle.std.specs.Prelude.{ℕ, ◌≡◌, ◌⊎◌, ◌+◌, ◌-◌, ◌<◌, ◌≤◌, ◌==◌, Bool, false, List, Contains, Option, None, Some, if◌then◌else◌}
use Rattle.std.specs.List.{list_any}
use Rattle.board_model.specs.declared.outcomes.Turned.{Turned}
use Rattle.board_model.specs.declared.outcomes.Turned.TheVariants.{Idle, Ran}

-- an address is a breakpoint
abbrev pub stands : List ℕ → ℕ → Bool
stands breakpoints at = list_any (λ b. b == at) breakpoints

-- the turn ran a task whose PC was at a breakpoint before it
abbrev pub is_hit : List ℕ → Turned → Bool
is_hit breakpoints Idle = false
is_hit breakpoints (Ran task at) = stands breakpoints at

-- if the PC of the task that ran was at a breakpoint, that task and the PC
abbrev pub hit_of : List ℕ → Turned → Option (ℕ × ℕ)
hit_of breakpoints Idle = None
hit_of breakpoints (Ran task at) = if stands breakpoints at then Some (task, at) else None

-- the longest stretch of a region around PC that holds no breakpoint
pub record IsStretch (breakpoints : List ℕ) (base size pc from len : ℕ) : Type 0 where
  pub inside : (base ≤ from) × (from + len ≤ base + size)
  pub here : (from ≤ pc) × (pc ≤ from + len)
  pub free : (at : ℕ) → from ≤ at → at < from + len → stands breakpoints at ≡ false
  pub before : (from ≡ base) ⊎ Contains breakpoints (from - 1)
  pub behind : (from + len ≡ base + size) ⊎ Contains breakpoints (from + len)
