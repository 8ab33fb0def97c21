-- The sources that a builder has accepted, as files of its application.
use Rattle.std.proofs.Common.{◌≡◌, ℕ, zero, suc, ◌+◌, ◌<◌, ◌≤◌, Bool, true, List, [], ◌∷◌, ◌++◌, length, get_or, map, Option, Some, None, refl, sym, ap, subst, ◌∙◌, arith, ◌⊎◌, inl, inr}
use Rattle.std.specs.Prelude.{slice_get, Ok}
use Rattle.std.proofs.lemmas.Option.{same_Some}
use Rattle.app_toml.specs.Apps.{AppData, TaskData}
use Rattle.image_build.specs.Built.{Built, source_at}
use Rattle.image_build.specs.Building.{IsAcceptedSource}
use Rattle.image_build.specs.Accepted.{HasAccepted, described, next_task}
use Rattle.image_build.specs.declared.builder.Builder.{Builder}
use Rattle.app_toml.specs.Reading.{read_app}
use Rattle.image_format.specs.ImageData.{ImageData, Sound}
use Rattle.command_files.specs.Contents.{file_limit, source_refusal, app_refusal, application_of, room_refusal}
use Rattle.outside_io.specs.Seen.{FilesSeen}
use Rattle.command_files.specs.Sources.{File, source_file, sources_from, source_files, files_to_build, app_file, first_of, MayBe, Takes}
use Rattle.command_files.specs.FileFaults.{IsNamedFaultOf}
use Rattle.thumb_asm.specs.declared.listing.InsnLine.{InsnLine}
use Rattle.thumb_asm.specs.Meaning.{Names}
use Rattle.command_files.specs.declared.source_lines.SourceLines.{SourceLines}
use Rattle.command_files.specs.Building.{AreLines, HasListed, HasNext, HasAll, IsBuiltApp, IsImageOf, IsImage, lines_at, lines_from, labels_at, labels_from, IsNamedFaultInSources, IsNamedFaultInApp}
use Rattle.command_files.specs.declared.file_faults.NamedFault.{NamedFault}
use Rattle.command_files.specs.declared.file_faults.NamedFault.TheVariants as named_faults
use Rattle.command_files.proofs.Lists.{at_end, longer, takes_none, takes_last, takes_first}
use Rattle.command_files.proofs.Refusals.{is_application, app_by_room}
use Rattle.command_files.proofs.Faulting.{faults_earlier}
use Rattle.std.proofs.lemmas.List.{append-nil, append_assoc, take_all}

-- the source that was accepted last is accepted
pub taken_last : (old new : Builder) (sources : List (List ℕ)) (bytes : List ℕ) → described new ≡ described old → HasAccepted sources old → HasAccepted (sources ++ bytes ∷ []) new
    → IsAcceptedSource (described old) (next_task old) bytes
taken_last old new sources bytes same before after =
    let long = longer sources bytes in
    let last : IsAcceptedSource (described new) (length sources) (source_at (sources ++ bytes ∷ []) (length sources)) = after.holds.accepted (length sources) (omega arith) in
    let app : IsAcceptedSource (described old) (length sources) (source_at (sources ++ bytes ∷ []) (length sources)) =
    subst (λ (a : AppData). IsAcceptedSource a (length sources) (source_at (sources ++ bytes ∷ []) (length sources))) same last in
    let at : IsAcceptedSource (described old) (length sources) bytes = subst (λ (s : List ℕ). IsAcceptedSource (described old) (length sources) s) (at_end sources bytes []) app in
    subst (λ (i : ℕ). IsAcceptedSource (described old) i bytes) (sym before.next) at

-- ## the files of tasks

get_source : (app : AppData) (i : ℕ) (ts : List TaskData) (k : ℕ) (t : TaskData) → slice_get ts k ≡ Some t → slice_get (sources_from app i ts) k ≡ Some (source_file app (i + k) t)
get_source app i [] k t e = absurd (cc)
get_source app i (u ∷ us) zero t e = let same : i ≡ i + 0 = omega arith in
    let file : ℕ → Option File = λ n. Some (source_file app n u) in
    ap file same ∙ ap (λ x. Some (source_file app (i + 0) x)) (same_Some u t e)
get_source app i (u ∷ us) (suc k) t e =
    let file : ℕ → Option File = λ n. Some (source_file app n t) in
    let same : i + 1 + k ≡ i + suc k = omega arith in
    get_source app (i + 1) us k t e ∙ ap file same

pub source_at_index : (app : AppData) (k : ℕ) (t : TaskData) → slice_get app.tasks k ≡ Some t → slice_get (source_files app) k ≡ Some (source_file app k t)
source_at_index app k t e =
    let same : 0 + k ≡ k = omega arith in
    let file : ℕ → Option File = λ n. Some (source_file app n t) in
    get_source app 0 app.tasks k t e ∙ ap file same

as_many : (app : AppData) (i : ℕ) (ts : List TaskData) → length (sources_from app i ts) ≡ length ts
as_many app i [] = refl
as_many app i (t ∷ ts) = ap suc (as_many app (i + 1) ts)

pub as_many_sources : (app : AppData) → length (source_files app) ≡ length app.tasks
as_many_sources app = as_many app 0 app.tasks

-- ## sources one by one

-- these sources were accepted of the first files, so many
pub record HasFirst (seen : List ℕ → Option (List ℕ)) (app : AppData) (builder : Builder) (l : SourceLines) (k : ℕ) : Type 0 where
  pub sources : List (List ℕ)
  pub count : length sources ≡ k
  pub takes : Takes (MayBe seen) (source_files app) sources
  pub accepted_sources : HasAccepted sources builder
  pub lines : AreLines app sources l

-- the lines of one source more stand behind those of the ones before
lines_more : (app : AppData) (i : ℕ) (sources : List (List ℕ)) (bytes : List ℕ) → lines_from app i (sources ++ bytes ∷ []) ≡ lines_from app i sources ++ lines_at app (i + length sources) bytes ∷ []
lines_more app i [] bytes = let same : i ≡ i + 0 = omega arith in ap (λ (n : ℕ). lines_at app n bytes ∷ []) same
lines_more app i (s ∷ sources) bytes =
    let same : i + 1 + length sources ≡ i + suc (length sources) = omega arith in
    ap (λ (ls : List (List InsnLine)). lines_at app i s ∷ ls) (lines_more app (i + 1) sources bytes ∙ ap (λ (n : ℕ). lines_from app (i + 1) sources ++ lines_at app n bytes ∷ []) same)

-- so do its labels
labels_more : (app : AppData) (i : ℕ) (sources : List (List ℕ)) (bytes : List ℕ) → labels_from app i (sources ++ bytes ∷ []) ≡ labels_from app i sources ++ labels_at app (i + length sources) bytes
labels_more app i [] bytes = let same : i ≡ i + 0 = omega arith in append-nil (labels_at app i bytes) ∙ ap (λ (n : ℕ). labels_at app n bytes) same
labels_more app i (s ∷ sources) bytes =
    let same : i + 1 + length sources ≡ i + suc (length sources) = omega arith in
    ap (λ (ls : Names). labels_at app i s ++ ls) (labels_more app (i + 1) sources bytes ∙ ap (λ (n : ℕ). labels_from app (i + 1) sources ++ labels_at app n bytes) same)
    ∙ sym (append_assoc (labels_at app i s) (labels_from app (i + 1) sources) (labels_at app (i + suc (length sources)) bytes))

still_lines : (app : AppData) (i : ℕ) (sources : List (List ℕ)) (bytes : List ℕ) (l l' : SourceLines) → i ≡ length sources → AreLines app sources l → HasListed (lines_at app i bytes) (labels_at app i bytes) l l' → AreLines app (sources ++ bytes ∷ []) l'
still_lines app i sources bytes l l' count are more =
    let from : i ≡ 0 + length sources = omega (arith, count) in
    record {
      lines = λ wanted. let was : l.wanted ≡ true = sym more.wanted ∙ wanted in
          more.listed was ∙ ap (λ (ls : List (List InsnLine)). ls ++ lines_at app i bytes ∷ []) (are.lines was) ∙ ap (λ (n : ℕ). lines_from app 0 sources ++ lines_at app n bytes ∷ []) from ∙ sym (lines_more app 0 sources bytes);
      labels = λ wanted. let was : l.wanted ≡ true = sym more.wanted ∙ wanted in
          more.labelled was ∙ ap (λ (ls : Names). ls ++ labels_at app i bytes) (are.labels was) ∙ ap (λ (n : ℕ). labels_from app 0 sources ++ labels_at app n bytes) from ∙ sym (labels_more app 0 sources bytes);
    }

pub one_more : (seen : List ℕ → Option (List ℕ)) (app : AppData) (old new : Builder) (l l' : SourceLines) (k : ℕ) (t : TaskData) (h : HasFirst seen app old l k) → described old ≡ app
    → slice_get app.tasks k ≡ Some t → HasNext seen t.source h.sources old new l l' → HasFirst seen app new l' (k + 1)
one_more seen app old new l l' k t h same at next =
    let index : next_task old ≡ k = h.accepted_sources.next ∙ h.count in
    let file : slice_get (source_files app) (length h.sources) ≡ Some (source_file app k t) = ap (λ n. slice_get (source_files app) n) h.count ∙ source_at_index app k t at in
    let mine : source_refusal app (next_task old) next.bytes ≡ None = subst (λ (a : AppData). source_refusal a (next_task old) next.bytes ≡ None) same next.accepted in
    let accepted : source_refusal app k next.bytes ≡ None = subst (λ (i : ℕ). source_refusal app i next.bytes ≡ None) index mine in
    record {
      sources = h.sources ++ next.bytes ∷ [];
      count = (let more = longer h.sources next.bytes in let count = h.count in omega arith);
      takes = takes_last (MayBe seen) (source_files app) h.sources (source_file app k t) next.bytes h.takes file next.held accepted;
      accepted_sources = next.accepted_sources;
      lines = still_lines app (next_task old) h.sources next.bytes l l' h.accepted_sources.next h.lines (subst (λ (a : AppData). HasListed (lines_at a (next_task old) next.bytes) (labels_at a (next_task old) next.bytes) l l') same next.listed);
    }

pub each_accepted : (seen : List ℕ → Option (List ℕ)) (app : AppData) (builder : Builder) (l : SourceLines) (k : ℕ) → k ≡ length app.tasks → HasFirst seen app builder l k → HasAll seen app builder l
each_accepted seen app builder l k all h =
    record { sources = h.sources; each = record { takes = h.takes; all = as_many_sources app ∙ sym all ∙ sym h.count }; accepted_sources = h.accepted_sources; lines = h.lines }

-- ## an application before its sources

pub app_then_sources : (seen : List ℕ → Option (List ℕ)) (name bytes : List ℕ) (app : AppData) (sources : List (List ℕ)) → MayBe seen name bytes → (app_file name).refusal bytes ≡ None
    → Takes (MayBe seen) (source_files app) sources → Takes (MayBe seen) (app_file name ∷ source_files app) (bytes ∷ sources)
app_then_sources seen name bytes app sources held accepted takes = takes_first (MayBe seen) (app_file name) (source_files app) bytes sources held accepted takes

-- the next source is not accepted
pub faults_next : (a b c : FilesSeen) (app : AppData) (builder : Builder) (l : SourceLines) (k : ℕ) (t : TaskData) (named_fault : NamedFault) → HasFirst a.contents app builder l k → b.contents ≡ a.contents → a.read_faults ≤ b.read_faults
    → described builder ≡ app → slice_get app.tasks k ≡ Some t → IsNamedFaultOf b c record { name = t.source; limit = file_limit; refusal = source_refusal (described builder) (next_task builder) } named_fault
    → IsNamedFaultInSources a c app named_fault
faults_next a b c app builder l k t named_fault h seen le same at fault =
    let index : next_task builder ≡ k = h.accepted_sources.next ∙ h.count in
    let at_app : AppData → File = λ x. record { name = t.source; limit = file_limit; refusal = source_refusal x (next_task builder) } in
    let at_index : ℕ → File = λ i. record { name = t.source; limit = file_limit; refusal = source_refusal app i } in
    let file : at_app (described builder) ≡ source_file app k t = ap at_app same ∙ ap at_index index in
    let mine : IsNamedFaultOf b c (source_file app k t) named_fault = subst (λ (f : File). IsNamedFaultOf b c f named_fault) file fault in
    record {
      sources = h.sources;
      at = record {
        takes = h.takes;
        file = source_file app k t;
        next = ap (λ n. slice_get (source_files app) n) h.count ∙ source_at_index app k t at;
        fault = faults_earlier a b c (source_file app k t) named_fault seen le mine;
      };
    }

pub get_mapped : {A B : Type 0} (f : A → B) (xs : List A) (k : ℕ) (d : A) → k < length xs → slice_get (map f xs) k ≡ Some (f (get_or xs k d))
get_mapped f [] k d lt = absurd (omega arith)
get_mapped f (x ∷ xs) zero d lt = refl
get_mapped f (x ∷ xs) (suc k) d lt = get_mapped f xs k d (omega arith)

-- ## an application's files

sources_are : (seen : List ℕ → Option (List ℕ)) (name bytes : List ℕ) (app : AppData) (image : ImageData) (l : SourceLines) (wanted : Bool) → application_of bytes ≡ app → MayBe seen name bytes → app_refusal bytes ≡ None
    → l.wanted ≡ wanted → IsImageOf seen app image l → IsBuiltApp seen name wanted app image l
sources_are seen name bytes app image l wanted is held accepted wants h =
    let mine : IsImageOf seen (application_of bytes) image l = subst (λ (a : AppData). IsImageOf seen a image l) (sym is) h in
    let count : length mine.sources ≡ length (application_of bytes).tasks = sym mine.each.all ∙ as_many_sources (application_of bytes) in
    record {
      bytes = bytes;
      sources = mine.sources;
      each = record {
        takes = app_then_sources seen name bytes (application_of bytes) mine.sources held accepted mine.each.takes;
        all = ap suc mine.each.all;
      };
      is = record {
        built = subst (λ (ss : List (List ℕ)). Built (application_of bytes) ss image) (sym (take_all (length (application_of bytes).tasks) mine.sources (omega arith))) mine.built;
        sound = mine.sound;
      };
      described = is;
      wants = wants;
      lines = subst (λ (a : AppData). AreLines a mine.sources l) is mine.lines;
    }

pub image_of_files : (seen : List ℕ → Option (List ℕ)) (name bytes : List ℕ) (app : AppData) (image : ImageData) (l : SourceLines) (wanted : Bool) → length bytes ≤ file_limit → read_app bytes ≡ Ok app → room_refusal app ≡ None
    → MayBe seen name bytes → l.wanted ≡ wanted → IsImageOf seen app image l → IsBuiltApp seen name wanted app image l
image_of_files seen name bytes app image l wanted le is room held wants h =
    sources_are seen name bytes app image l wanted (is_application bytes app is) held (app_by_room bytes app le is ∙ room) wants h

-- the image alone
pub image_in_app : {seen : List ℕ → Option (List ℕ)} {name : List ℕ} {wanted : Bool} {app : AppData} {image : ImageData} {l : SourceLines} → IsBuiltApp seen name wanted app image l → IsImage seen name image
image_in_app b = record { bytes = b.bytes; sources = b.sources; each = b.each; is = b.is }

-- a source is not accepted
pub faults_in_app : (a b c : FilesSeen) (name bytes : List ℕ) (app : AppData) (named_fault : NamedFault) → length bytes ≤ file_limit → read_app bytes ≡ Ok app → room_refusal app ≡ None
    → MayBe a.contents name bytes → b.contents ≡ a.contents → a.read_faults ≤ b.read_faults → IsNamedFaultInSources b c app named_fault → IsNamedFaultInApp a c name named_fault
faults_in_app a b c name bytes app named_fault le is room held seen later h =
    let mine : IsNamedFaultInSources b c (application_of bytes) named_fault = subst (λ (x : AppData). IsNamedFaultInSources b c x named_fault) (sym (is_application bytes app is)) h in
    let takes : Takes (MayBe a.contents) (source_files (application_of bytes)) mine.sources =
    subst (λ (t : List ℕ → Option (List ℕ)). Takes (MayBe t) (source_files (application_of bytes)) mine.sources) seen mine.at.takes in
    record {
      contents = bytes ∷ mine.sources;
      at = record {
        takes = app_then_sources a.contents name bytes (application_of bytes) mine.sources held (app_by_room bytes app le is ∙ room) takes;
        file = mine.at.file;
        next = mine.at.next;
        fault = faults_earlier a b c mine.at.file named_fault seen later mine.at.fault;
      };
    }

-- the application's own file is not accepted
pub faults_at_app : (a c : FilesSeen) (name : List ℕ) (named_fault : NamedFault) → IsNamedFaultOf a c (app_file name) named_fault → IsNamedFaultInApp a c name named_fault
faults_at_app a c name named_fault h = record {
  contents = [];
  at = record {
    takes = takes_none (MayBe a.contents) (files_to_build name (first_of []));
    file = app_file name;
    next = refl;
    fault = h;
  };
}

pub image_of_all : (seen : List ℕ → Option (List ℕ)) (app : AppData) (builder : Builder) (image : ImageData) (l : SourceLines) → described builder ≡ app → HasAll seen app builder l
    → ((sources : List (List ℕ)) → HasAccepted sources builder → Built (described builder) sources image) → Sound image → IsImageOf seen app image l
image_of_all seen app builder image l same all built sound =
    record { sources = all.sources; each = all.each; lines = all.lines; built = subst (λ (a : AppData). Built a all.sources image) same (built all.sources all.accepted_sources); sound = sound }

pub memory_in_app : (a c : FilesSeen) (name : List ℕ) (named_fault : NamedFault) → named_fault ≡ named_faults.Memory → IsNamedFaultInApp a c name named_fault
memory_in_app a c name named_fault is = subst (λ (h : NamedFault). IsNamedFaultInApp a c name h) (sym is) (faults_at_app a c name named_faults.Memory tt)

pub all_next : (seen : List ℕ → Option (List ℕ)) (app : AppData) (builder : Builder) (l : SourceLines) → described builder ≡ app → HasAll seen app builder l → next_task builder ≡ length (described builder).tasks
all_next seen app builder l same all =
    let count : length app.tasks ≡ length all.sources = sym (as_many_sources app) ∙ all.each.all in
    all.accepted_sources.next ∙ sym count ∙ ap (λ (a : AppData). length a.tasks) (sym same)

-- memory is short, or a source is not accepted
pub faults_later : (a b c : FilesSeen) (name bytes : List ℕ) (app : AppData) (named_fault : NamedFault) → length bytes ≤ file_limit → read_app bytes ≡ Ok app → room_refusal app ≡ None
    → MayBe a.contents name bytes → b.contents ≡ a.contents → a.read_faults ≤ b.read_faults → (named_fault ≡ named_faults.Memory) ⊎ IsNamedFaultInSources b c app named_fault → IsNamedFaultInApp a c name named_fault
faults_later a b c name bytes app named_fault le is room held seen later (inl memory) = memory_in_app a c name named_fault memory
faults_later a b c name bytes app named_fault le is room held seen later (inr h) = faults_in_app a b c name bytes app named_fault le is room held seen later h
