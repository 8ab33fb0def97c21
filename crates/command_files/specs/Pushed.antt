-- What is pushed of a verdict, and of a file that is not accepted.
use Rattle.std.specs.Prelude.{◌≡◌, ℕ, [], string_bytes}
use Rattle.std.specs.Io.KnownBytes.{Appends}
use Rattle.outside_io.specs.Outside.{Rose, AppendsFront}
use Rattle.command_files.specs.declared.file_faults.NamedFault.{NamedFault}
use Rattle.command_files.specs.declared.file_faults.NamedFault.TheVariants as named_faults
use Rattle.outside_io.specs.Seen.{SinkSeen}
use Rattle.command_files.specs.Verdict.{Verdict, unread, refused}

-- the text was pushed whole under the verdict's status; or a push failed and a front of the text was pushed,
-- under status 4
pub data Pushed (w w' : SinkSeen) (v : Verdict) (r : ℕ) : Type 0 where
  whole : r ≡ v.status → Appends w.written w'.written v.text → Pushed w w' v r
  cut : r ≡ 4 → Rose w.faults w'.faults → AppendsFront w.written w'.written v.text → Pushed w w' v r

-- nothing was pushed, because memory ran out
pub record IsSilent (w w' : SinkSeen) (r : ℕ) : Type 0 where
  pub status : r ≡ 5
  pub written : w'.written ≡ w.written
  pub faults : w'.faults ≡ w.faults

-- the text was pushed like that, or memory is short
pub data Says (w w' : SinkSeen) (v : Verdict) (r : ℕ) : Type 0 where
  pushed : Pushed w w' v r → Says w w' v r
  silent : IsSilent w w' r → Says w w' v r

abbrev pub SaysNamedFault : SinkSeen → SinkSeen → NamedFault → ℕ → Type 0
SaysNamedFault w w' named_faults.Memory r = IsSilent w w' r
SaysNamedFault w w' (named_faults.CannotRead name) r = Says w w' (unread [] (string_bytes name)) r
SaysNamedFault w w' (named_faults.Refused name cause place) r = Says w w' (refused (string_bytes name) (cause, string_bytes place)) r
