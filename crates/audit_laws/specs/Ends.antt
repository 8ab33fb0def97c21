-- The lines after the notes, as board_run/specs/Text writes them.
use Rattle.std.specs.Prelude.{ℕ, ◌≡◌, ◌⊎◌, List, ◌++◌, codes, decimal}
use Rattle.kernel_abi.specs.declared.Health.{Health}
use Rattle.kernel_abi.specs.declared.Health.TheVariants.{Well, Stopped, Faulted}
use Rattle.trace_text.specs.Text.{hex}
use Rattle.trace_audit.specs.declared.reading.FinalWait.{FinalWait}
use Rattle.trace_audit.specs.declared.reading.FinalWait.TheVariants as wait
use Rattle.trace_text.specs.Fit.{IsFit}

-- the word for how the turns ended
abbrev pub IsHow : List ℕ → Type 0
IsHow how = (how ≡ codes "bound") ⊎ ((how ≡ codes "still") ⊎ (how ≡ codes "supervisor"))

-- `end <bound, still or supervisor> <turns> <now>`
abbrev pub end_line : List ℕ → ℕ → ℕ → List ℕ
end_line how turns now = codes "end " ++ how ++ codes " " ++ decimal turns ++ codes " " ++ decimal now ++ codes "\n"

abbrev pub IsFitHealth : Health → Type 0
IsFitHealth Well = Unit {0}
IsFitHealth Stopped = Unit {0}
IsFitHealth (Faulted fault) = IsFit fault.number

-- a text for what a task waits for, and what an audit reads it as
abbrev pub IsWaitText : List ℕ → FinalWait → Type 0
IsWaitText text wait.Other = (text ≡ codes "-") ⊎ (text ≡ codes "listen")
IsWaitText text (wait.Offered k) = (text ≡ codes "offered:" ++ decimal k) × IsFit k
IsWaitText text (wait.Taken k) = (text ≡ codes "taken:" ++ decimal k) × IsFit k

-- `mem <base h> <size>`
abbrev pub mem_line : ℕ → ℕ → List ℕ
mem_line base size = codes "mem " ++ hex base ++ codes " " ++ decimal size ++ codes "\n"

-- `<address h> <32 digits>`
abbrev pub row_line : ℕ → List ℕ → List ℕ
row_line a digits = hex a ++ codes " " ++ digits ++ codes "\n"
