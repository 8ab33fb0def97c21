-- Why a file is not accepted.
use Rattle.std.specs.Prelude.{◌≡◌, ℕ, ◌<◌, ⊤, List, length, decimal, Option, Some, string_bytes}
use Rattle.outside_io.specs.Outside.{WhereSeen, Rose, short_name}
use Rattle.command_files.specs.declared.file_faults.FileFault.{FileFault}
use Rattle.command_files.specs.declared.file_faults.FileFault.TheVariants as file_faults
use Rattle.command_files.specs.declared.file_faults.NamedFault.{NamedFault}
use Rattle.command_files.specs.declared.file_faults.NamedFault.TheVariants as named_faults
use Rattle.command_files.specs.Contents.{Why}
use Rattle.outside_io.specs.Seen.{FilesSeen}
use Rattle.command_files.specs.Sources.{File, MayBe, MayBeRefused}

-- a read failed: the count says so, and the name of the last failing call, if it is seen, is this one
pub record IsCannotRead (before after : FilesSeen) (name : List ℕ) : Type 0 where
  pub rose : Rose before.read_faults after.read_faults
  pub named : WhereSeen after.last_failing (λ n. n ≡ short_name name)

-- there are contents that may be the file's, and they are longer than the limit
pub record MayBeLong (seen : List ℕ → Option (List ℕ)) (name : List ℕ) (limit : ℕ) : Type 0 where
  pub bytes : List ℕ
  pub held : MayBe seen name bytes
  pub long : limit < length bytes

-- the bytes are refused for this reason, or memory is short
abbrev pub IsFaultFor : Option Why → FileFault → Type 0
IsFaultFor refusal file_faults.Memory = ⊤
IsFaultFor refusal file_faults.CannotRead = ⊥
IsFaultFor refusal (file_faults.Refused cause place) = refusal ≡ Some (cause, string_bytes place)

-- the file cannot be read, or may hold contents that are longer than the limit, or memory is short
abbrev pub CannotTake : FilesSeen → FilesSeen → List ℕ → ℕ → FileFault → Type 0
CannotTake before after name limit file_faults.Memory = ⊤
CannotTake before after name limit file_faults.CannotRead = IsCannotRead before after name
CannotTake before after name limit (file_faults.Refused cause place) =
    (cause ≡ 0) × (string_bytes place ≡ decimal limit) × MayBeLong before.contents name limit

-- the file cannot be read, or may hold contents that are refused for this reason, or memory is short
abbrev pub IsFaultOf : FilesSeen → FilesSeen → File → FileFault → Type 0
IsFaultOf before after f file_faults.Memory = ⊤
IsFaultOf before after f file_faults.CannotRead = IsCannotRead before after f.name
IsFaultOf before after f (file_faults.Refused cause place) = MayBeRefused before.contents f (cause, string_bytes place)

-- the same, with the name of the file
abbrev pub IsNamedFaultOf : FilesSeen → FilesSeen → File → NamedFault → Type 0
IsNamedFaultOf before after f named_faults.Memory = ⊤
IsNamedFaultOf before after f (named_faults.CannotRead name) = (string_bytes name ≡ f.name) × IsCannotRead before after f.name
IsNamedFaultOf before after f (named_faults.Refused name cause place) =
    (string_bytes name ≡ f.name) × MayBeRefused before.contents f (cause, string_bytes place)
