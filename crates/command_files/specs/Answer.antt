-- What an answer of a command says about the files and the sink.
use Rattle.std.specs.Prelude.{◌≡◌, ◌≢◌, ◌⊎◌, ℕ, List, [], Option, Some, None}
use Rattle.std.specs.Io.KnownBytes.{Appends}
use Rattle.outside_io.specs.Outside.{WhereSeen, Rose, AppendsFront, short_name}
use Rattle.command_files.specs.Contents.{Why}
use Rattle.outside_io.specs.Seen.{FilesSeen, SinkSeen}
use Rattle.command_files.specs.Sources.{File, MayBe, MayBeRefused, Reaches, TakesAll}
use Rattle.command_files.specs.Verdict.{Verdict, refused, unread}

-- ## why a command has a verdict (the files: before and after the call)

-- each earlier file is accepted, and a read of this one failed: the count of failed reads says so, and the name of
-- the last failing call
pub record IsUnread (files_of : List ℕ → List File) (before after : FilesSeen) (f : File) : Type 0 where
  pub contents : List (List ℕ)
  pub reached : Reaches (MayBe before.contents) files_of contents f
  pub rose : Rose before.read_faults after.read_faults
  pub named : WhereSeen after.last_failing (λ name. name ≡ short_name f.name)

-- each earlier file is accepted, and this one may hold contents that are refused like this; if its contents
-- are seen, they are refused like this
pub record IsRefused (files_of : List ℕ → List File) (seen : List ℕ → Option (List ℕ)) (f : File) (why : Why) : Type 0 where
  pub contents : List (List ℕ)
  pub reached : Reaches (MayBe seen) files_of contents f
  pub refused : MayBeRefused seen f why

-- each file is accepted
abbrev pub IsAccepted : (List ℕ → List File) → (List ℕ → Option (List ℕ)) → List (List ℕ) → Type 0
IsAccepted files_of seen contents = TakesAll (MayBe seen) files_of contents

-- a file cannot be read, a file is refused, or the command does this with accepted files
pub data Reason (files_of : List ℕ → List File) (Does : List (List ℕ) → Verdict → Type 0) (before after : FilesSeen) (v : Verdict) : Type 0 where
  cannot_read : (f : File) → IsUnread files_of before after f → v ≡ unread [] f.name → Reason files_of Does before after v
  refuses : (f : File) (why : Why) → IsRefused files_of before.contents f why → v ≡ refused f.name why → Reason files_of Does before after v
  does : (contents : List (List ℕ)) → IsAccepted files_of before.contents contents → Does contents v → Reason files_of Does before after v

-- ## what happened to a verdict

-- what is seen under all other names stays
abbrev pub OthersStay : (List ℕ → Option (List ℕ)) → (List ℕ → Option (List ℕ)) → List ℕ → Type 0
OthersStay seen seen' name = (other : List ℕ) → other ≢ name → seen' other ≡ seen other

-- the file of the verdict, if it has one, was put
abbrev pub HasPut : (List ℕ → Option (List ℕ)) → (List ℕ → Option (List ℕ)) → Option (List ℕ × List ℕ) → Type 0
HasPut seen seen' None = seen' ≡ seen
HasPut seen seen' (Some (name, bytes)) = WhereSeen (seen' name) (λ all. all ≡ bytes) × OthersStay seen seen' name

-- its put failed: under its name is what was there
abbrev pub HasSpoiled : (List ℕ → Option (List ℕ)) → (List ℕ → Option (List ℕ)) → Option (List ℕ × List ℕ) → Type 0
HasSpoiled seen seen' None = ⊥
HasSpoiled seen seen' (Some (name, bytes)) = (seen' name ≡ seen name) × OthersStay seen seen' name

-- nothing was pushed and nothing was put, because memory ran out
pub record IsShort (before after : FilesSeen) (w w' : SinkSeen) (r : ℕ) : Type 0 where
  pub status : r ≡ 5
  pub written : w'.written ≡ w.written
  pub faults : w'.faults ≡ w.faults
  pub files : after.contents ≡ before.contents

-- One of four: the file was put and the text pushed whole, under the verdict's status; the file was put, then
-- a push failed and a front of the text was pushed, under status 4; the put failed and nothing was pushed,
-- under status 4; or memory is short.
pub data Tells (before after : FilesSeen) (w w' : SinkSeen) (v : Verdict) (r : ℕ) : Type 0 where
  whole : r ≡ v.status → HasPut before.contents after.contents v.put → Appends w.written w'.written v.text → Tells before after w w' v r
  cut : r ≡ 4 → Rose w.faults w'.faults → HasPut before.contents after.contents v.put → AppendsFront w.written w'.written v.text → Tells before after w w' v r
  spoiled : r ≡ 4 → Rose before.put_faults after.put_faults → HasSpoiled before.contents after.contents v.put → w'.written ≡ w.written → Tells before after w w' v r
  short : IsShort before after w w' r → Tells before after w w' v r

-- ## the answer: a verdict with its reason was written, or memory is short

abbrev pub AnswersBy : (List ℕ → List File) → (List (List ℕ) → Verdict → Type 0) → FilesSeen → FilesSeen → SinkSeen → SinkSeen → ℕ → Type 0
AnswersBy files_of Does before after w w' r = IsShort before after w w' r ⊎ ((v : Verdict) × Reason files_of Does before after v × Tells before after w w' v r)
