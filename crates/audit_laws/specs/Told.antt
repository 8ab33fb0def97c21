-- What the lines of notes say to an audit.
use Rattle.std.specs.Prelude.{ℕ, ◌≡◌, Bool, true, false, List, [], ◌∷◌, ◌++◌}
use Rattle.kernel_abi.specs.declared.Borrow.TheVariants as borrow
use Rattle.kernel_abi.specs.declared.Borrow.{Borrow}
use Rattle.kernel_abi.specs.declared.Ending.{Ending}
use Rattle.kernel_abi.specs.declared.Ending.TheVariants.{Reply, ReplyFault, Client, Restart}
use Rattle.kernel_abi.specs.declared.Note.{Note}
use Rattle.kernel_abi.specs.declared.Note.TheVariants as note
use Rattle.thumb_insn.specs.declared.Decoded.{Decoded}
use Rattle.thumb_insn.specs.declared.Decoded.TheVariants as decoded
use Rattle.trace_text.specs.Fit.{IsFit}
use Rattle.trace_text.specs.Text.{line_of, code_decoded}
use Rattle.trace_audit.specs.declared.reading.TraceLine.{TraceLine}
use Rattle.trace_audit.specs.declared.reading.TraceLine.TheVariants as line
use Rattle.trace_audit.specs.declared.reading.Saying.{Saying}
use Rattle.trace_audit.specs.declared.reading.Saying.TheVariants as saying
use Rattle.trace_audit.specs.Meaning.{read}
use Rattle.std.specs.List.{list_all}
use Rattle.trace_audit.specs.Judgements.{is_printable}

-- ## what the ranges of a note's numbers do not say

-- a borrow for information moves no bytes, and its offset is 0
abbrev pub IsRightBorrow : Borrow → ℕ → ℕ → Type 0
IsRightBorrow borrow.Read offset moved = Unit {0}
IsRightBorrow borrow.Write offset moved = Unit {0}
IsRightBorrow borrow.Info offset moved = (offset ≡ 0) × (moved ≡ 0)

-- the code is an instruction
abbrev pub IsInsn : Decoded → Type 0
IsInsn (decoded.Narrow i) = Unit {0}
IsInsn (decoded.Wide i) = Unit {0}
IsInsn decoded.Illegal = ⊥
IsInsn decoded.NeedsSecond = ⊥

-- The note is right beyond the ranges of its numbers: a borrow is right, a code is an instruction, and the
-- index of a device that gives out a byte is below 2^32.
abbrev pub IsRight : Note → Type 0
IsRight (note.Borrow call way lease offset moved) = IsRightBorrow way offset moved
IsRight (note.Insn task at code) = IsInsn (code_decoded code)
IsRight (note.Tick now) = Unit {0}
IsRight (note.Irq line handled) = Unit {0}
IsRight (note.Post task bits posted) = Unit {0}
IsRight (note.Syscall task number arguments) = Unit {0}
IsRight (note.Ret task results) = Unit {0}
IsRight (note.Close call ending) = Unit {0}
IsRight (note.Fault task fault) = Unit {0}
IsRight (note.Listen task from mask) = Unit {0}
IsRight (note.Take call copied) = Unit {0}
IsRight (note.Offer call client server) = Unit {0}
IsRight (note.Restart task generation) = Unit {0}
IsRight (note.In device byte fed) = Unit {0}
IsRight (note.Out device byte) = IsFit device
IsRight (note.IrqStatus task bits status) = Unit {0}
IsRight (note.Find index found) = Unit {0}
IsRight note.Idle = Unit {0}
IsRight (note.Low registers) = Unit {0}
IsRight (note.High registers n z c v) = Unit {0}

-- ## what a note says about calls

abbrev pub is_answer : Ending → Bool
is_answer Reply = true
is_answer ReplyFault = true
is_answer Client = false
is_answer Restart = false

abbrev pub told_by : Note → Saying
told_by (note.Offer call client server) = saying.Offers call client
told_by (note.Take call copied) = saying.Takes call
told_by (note.Close call ending) = saying.Closes call (is_answer ending)
told_by (note.Borrow call way lease offset moved) = saying.Borrows call
told_by (note.Tick now) = saying.Nothing
told_by (note.Irq l handled) = saying.Nothing
told_by (note.Post task bits posted) = saying.Nothing
told_by (note.Syscall task number arguments) = saying.Nothing
told_by (note.Ret task results) = saying.Nothing
told_by (note.Fault task fault) = saying.Nothing
told_by (note.Restart task generation) = saying.Nothing
told_by (note.Listen task from mask) = saying.Nothing
told_by (note.In device byte fed) = saying.Nothing
told_by (note.Out device byte) = saying.Nothing
told_by (note.IrqStatus task bits status) = saying.Nothing
told_by (note.Find index found) = saying.Nothing
told_by (note.Insn task at code) = saying.Nothing
told_by note.Idle = saying.Nothing
told_by (note.Low registers) = saying.Nothing
told_by (note.High registers n z c v) = saying.Nothing

-- ## one line

-- the bytes are one line with its LF, and this is what the line says
pub record IsLine (bytes : List ℕ) (l : TraceLine) : Type 0 where
  pub text : List ℕ
  pub spelled : bytes ≡ text ++ 10 ∷ []
  pub printable : list_all is_printable text ≡ true  -- so no LF stands in it
  pub reads : read text ≡ l

abbrev pub IsReadAs : ℕ → Note → Type 0
IsReadAs turn n = IsLine (line_of turn n) (line.Tells turn (told_by n))
