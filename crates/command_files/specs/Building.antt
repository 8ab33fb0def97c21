-- The image that is built from files.
use Rattle.std.specs.Prelude.{◌≡◌, ℕ, ◌+◌, Bool, true, List, [], ◌∷◌, ◌++◌, length, map, slice_get, Option, Some, None}
use Rattle.text_lines.specs.Text.{lines_of}
use Rattle.thumb_asm.specs.Listed.{insn_lines, labels_in, labels_of, placed}
use Rattle.thumb_asm.specs.Meaning.{Names}
use Rattle.thumb_asm.specs.declared.listing.InsnLine.{InsnLine}
use Rattle.app_toml.specs.Apps.{AppData}
use Rattle.image_format.specs.ImageData.{ImageData, Sound}
use Rattle.image_build.specs.Built.{Built}
use Rattle.image_build.specs.Layout.{flash_base}
use Rattle.image_build.specs.Accepted.{HasAccepted, described, next_task}
use Rattle.image_build.specs.declared.builder.Builder.{Builder}
use Rattle.command_files.specs.declared.file_faults.NamedFault.{NamedFault}
use Rattle.command_files.specs.declared.source_lines.SourceLines.{SourceLines}
use Rattle.command_files.specs.Contents.{application_of, source_refusal}
use Rattle.outside_io.specs.Seen.{FilesSeen}
use Rattle.command_files.specs.Sources.{File, files_to_build, first_of, source_files, MayBe, Takes, IsBuilt}
use Rattle.command_files.specs.FileFaults.{IsNamedFaultOf}

-- ## where the instructions and the labels of sources lie

-- the instructions of the i-th task's source
abbrev pub lines_at : AppData → ℕ → List ℕ → List InsnLine
lines_at app i source = insn_lines (placed (flash_base app i) (lines_of source))

-- those of several sources in order; the first is the i-th task's
abbrev pub lines_from : AppData → ℕ → List (List ℕ) → List (List InsnLine)
lines_from app i [] = []
lines_from app i (source ∷ sources) = lines_at app i source ∷ lines_from app (i + 1) sources

-- the labels of the i-th task's source, and those of several sources in order; the first is the i-th task's
abbrev pub labels_at : AppData → ℕ → List ℕ → Names
labels_at app i source = labels_of (placed (flash_base app i) (lines_of source))

abbrev pub labels_from : AppData → ℕ → List (List ℕ) → Names
labels_from app i [] = []
labels_from app i (source ∷ sources) = labels_at app i source ++ labels_from app (i + 1) sources

-- what is kept of each source
abbrev pub kept_lines : SourceLines → List (List InsnLine)
kept_lines l = map (λ v. v.items) l.lists.items

abbrev pub kept_labels : SourceLines → Names
kept_labels l = labels_in l.labels.items

pub record KeepsNone (l : SourceLines) : Type 0 where
  pub lines : kept_lines l ≡ []
  pub labels : kept_labels l ≡ []

-- if it is wanted, what is kept is that of these sources
pub record AreLines (app : AppData) (sources : List (List ℕ)) (l : SourceLines) : Type 0 where
  pub lines : l.wanted ≡ true → kept_lines l ≡ lines_from app 0 sources
  pub labels : l.wanted ≡ true → kept_labels l ≡ labels_from app 0 sources

-- the lines and the labels of one more source are kept, if they are wanted
pub record HasListed (lines : List InsnLine) (labels : Names) (l l' : SourceLines) : Type 0 where
  pub wanted : l'.wanted ≡ l.wanted
  pub listed : l.wanted ≡ true → kept_lines l' ≡ kept_lines l ++ lines ∷ []
  pub labelled : l.wanted ≡ true → kept_labels l' ≡ kept_labels l ++ labels

-- ## files that are accepted

-- each of these files was accepted with its contents
pub record TakesEach (seen : List ℕ → Option (List ℕ)) (files : List File) (contents : List (List ℕ)) : Type 0 where
  pub takes : Takes (MayBe seen) files contents
  pub all : length files ≡ length contents

-- the earlier files were accepted, and this is why the next one was not
pub record IsNamedFaultAfter (before after : FilesSeen) (files : List File) (contents : List (List ℕ)) (named_fault : NamedFault) : Type 0 where
  pub takes : Takes (MayBe before.contents) files contents
  pub file : File
  pub next : slice_get files (length contents) ≡ Some file
  pub fault : IsNamedFaultOf before after file named_fault

-- the builder has accepted one more source
pub record HasNext (seen : List ℕ → Option (List ℕ)) (name : List ℕ) (sources : List (List ℕ)) (before after : Builder) (l l' : SourceLines) : Type 0 where
  pub bytes : List ℕ
  pub held : MayBe seen name bytes
  pub accepted : source_refusal (described before) (next_task before) bytes ≡ None
  pub accepted_sources : HasAccepted (sources ++ bytes ∷ []) after
  pub listed : HasListed (lines_at (described before) (next_task before) bytes) (labels_at (described before) (next_task before) bytes) l l'

-- it has accepted the sources of all tasks
pub record HasAll (seen : List ℕ → Option (List ℕ)) (app : AppData) (builder : Builder) (l : SourceLines) : Type 0 where
  pub sources : List (List ℕ)
  pub each : TakesEach seen (source_files app) sources
  pub accepted_sources : HasAccepted sources builder
  pub lines : AreLines app sources l

-- an image was built from the application and the files of its sources
pub record IsImageOf (seen : List ℕ → Option (List ℕ)) (app : AppData) (image : ImageData) (l : SourceLines) : Type 0 where
  pub sources : List (List ℕ)
  pub each : TakesEach seen (source_files app) sources
  pub built : Built app sources image
  pub sound : Sound image
  pub lines : AreLines app sources l

-- an image was built from the application's files: its own has these bytes, and the sources follow
pub record IsImage (seen : List ℕ → Option (List ℕ)) (app : List ℕ) (image : ImageData) : Type 0 where
  pub bytes : List ℕ
  pub sources : List (List ℕ)
  pub each : TakesEach seen (files_to_build app bytes) (bytes ∷ sources)
  pub is : IsBuilt (bytes ∷ sources) image

-- the same, with where the instructions and the labels of the sources lie
pub record IsBuiltApp (seen : List ℕ → Option (List ℕ)) (name : List ℕ) (wanted : Bool) (app : AppData) (image : ImageData) (l : SourceLines) : Type 0 where
  pub bytes : List ℕ
  pub sources : List (List ℕ)
  pub each : TakesEach seen (files_to_build name bytes) (bytes ∷ sources)
  pub is : IsBuilt (bytes ∷ sources) image
  pub described : application_of bytes ≡ app
  pub wants : l.wanted ≡ wanted
  pub lines : AreLines app sources l

-- one of its sources was not accepted
pub record IsNamedFaultInSources (before after : FilesSeen) (app : AppData) (named_fault : NamedFault) : Type 0 where
  pub sources : List (List ℕ)
  pub at : IsNamedFaultAfter before after (source_files app) sources named_fault

-- one of its files was not accepted
pub record IsNamedFaultInApp (before after : FilesSeen) (app : List ℕ) (named_fault : NamedFault) : Type 0 where
  pub contents : List (List ℕ)
  pub at : IsNamedFaultAfter before after (files_to_build app (first_of contents)) contents named_fault
