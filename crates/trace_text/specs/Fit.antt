-- Notes that their lines have room for: numbers in decimal are in the range of their type, there are as many
-- registers as the line has words for, and the text of an instruction fits.
use Rattle.std.specs.Prelude.{ℕ, ◌<◌, ◌≤◌, ◌^◌, ◌≡◌, List, [], ◌∷◌, length, Option, None, Some}
use Rattle.kernel_abi.specs.declared.FromIndex.{FromIndex}
use Rattle.kernel_abi.specs.declared.FromIndex.TheVariants.{Any, Kernel, One}
use Rattle.kernel_abi.specs.declared.Note.{Note}
use Rattle.kernel_abi.specs.declared.Note.TheVariants as note
use Rattle.kernel_abi.specs.declared.Timer.{Timer}
use Rattle.trace_text.specs.Text.{code_decoded, decoded_text}

abbrev pub IsFit : ℕ → Type 0
IsFit n = n < 2 ^ 32

abbrev pub IsFitFrom : FromIndex → Type 0
IsFitFrom Any = Unit {0}
IsFitFrom Kernel = Unit {0}
IsFitFrom (One index) = IsFit index

-- the deadline of a timer is written in decimal
abbrev pub IsFitTimer : Option Timer → Type 0
IsFitTimer None = Unit {0}
IsFitTimer (Some timer) = timer.deadline < 2 ^ 64

abbrev pub IsFitNote : Note → Type 0
IsFitNote (note.Tick now) = now < 2 ^ 64
IsFitNote (note.Irq line handled) = IsFit line
IsFitNote (note.Post task bits posted) = IsFit task
IsFitNote (note.Syscall task number arguments) = IsFit task × IsFit number × (length arguments ≡ 7)
IsFitNote (note.Ret task results) = IsFit task × (length results ≡ 6)
IsFitNote (note.Close call ending) = IsFit call
IsFitNote (note.Fault task fault) = IsFit task × IsFit fault.number
IsFitNote (note.Listen task from mask) = IsFit task × IsFitFrom from
IsFitNote (note.Take call copied) = IsFit call × IsFit copied
IsFitNote (note.Offer call client server) = IsFit call × IsFit client × IsFit server
IsFitNote (note.Borrow call borrow lease offset moved) = IsFit call × IsFit lease × IsFit offset × IsFit moved
IsFitNote (note.Restart task generation) = IsFit task × IsFit generation
IsFitNote (note.In device byte fed) = IsFit device
IsFitNote (note.Out device byte) = device < 2 ^ 64
IsFitNote (note.IrqStatus task bits status) = IsFit task × IsFit status
IsFitNote (note.Find index found) = IsFit index × IsFit found
IsFitNote (note.Insn task at code) = IsFit task × (length (decoded_text at (code_decoded code)) ≤ 64)
IsFitNote note.Idle = Unit {0}
IsFitNote (note.Low registers) = length registers ≡ 8
IsFitNote (note.High registers n z c v) = length registers ≡ 8

-- the same for each note of a list, with its turn
abbrev pub AreFit : List (ℕ × Note) → Type 0
AreFit [] = Unit {0}
AreFit (n ∷ notes) = IsFit n.0 × IsFitNote n.1 × AreFit notes
