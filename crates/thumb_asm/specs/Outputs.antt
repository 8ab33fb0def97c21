-- The bytes that a statement appends.
use Rattle.std.specs.Prelude.{ℕ, ◌≡◌, List, ◌++◌, length, None, Result, Ok, Err}
use Rattle.thumb_insn.specs.declared.Insn.{Insn}
use Rattle.thumb_asm.specs.Syntax.{Shape}
use Rattle.thumb_asm.specs.Sizes.{shape_size}
use Rattle.thumb_encode.specs.Codes.{insn_size}
use Rattle.thumb_asm.specs.declared.Cause.{Cause}
use Rattle.thumb_asm.specs.Meaning.{Env, Means, Codes, fitting}
use Rattle.thumb_asm.specs.Causes.{shape_cause, insn_cause}

-- the code found an instruction, which fits or has a cause; or it found none, and this is the cause
abbrev pub Finds : Result Insn Cause → Result Insn Cause → Type 0
Finds (Ok i) wanted = wanted ≡ fitting i
Finds (Err c) wanted = wanted ≡ Err c

pub record Gave (env : Env) (at : ℕ) (s : Shape) (old new : List ℕ) : Type 0 where
  pub own : List ℕ
  pub bytes : new ≡ old ++ own
  pub size : length own ≡ shape_size at s
  pub means : Means env at s own
  pub accepted : shape_cause env at s ≡ None

-- the code of an instruction is appended
pub record Coded (i : Insn) (at : ℕ) (old new : List ℕ) : Type 0 where
  pub own : List ℕ
  pub bytes : new ≡ old ++ own
  pub size : length own ≡ insn_size i
  pub codes : Codes i own
  pub fits : fitting i ≡ Ok i
  pub even : insn_cause at (Ok i) ≡ None

-- an instruction was found, and its code is appended
pub record Put (r : Result Insn Cause) (at : ℕ) (old new : List ℕ) : Type 0 where
  pub insn : Insn
  pub is : r ≡ Ok insn
  pub coded : Coded insn at old new
