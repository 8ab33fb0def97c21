-- From a verdict and its reason to the answer of a command.
use Rattle.std.proofs.Common.{◌≡◌, ℕ, List, [], ◌∷◌, Option, None, refl, sym, ap, subst, ◌∙◌, inl, inr, string_bytes}
use Rattle.image_format.specs.ImageData.{ImageData}
use Rattle.outside_io.specs.Outside.{Rose}
use Rattle.trace_audit.specs.declared.judgement.Judgement as trace
use Rattle.trace_audit.specs.declared.judgement.Judgement.TheVariants.{Yes, No}
use Rattle.command_line.specs.CommandLine.{run}
use Rattle.command_files.specs.declared.file_faults.NamedFault.{NamedFault}
use Rattle.command_files.specs.declared.file_faults.NamedFault.TheVariants as named_faults
use Rattle.command_files.specs.Contents.{Why}
use Rattle.outside_io.specs.Seen.{FilesSeen, SinkSeen}
use Rattle.command_files.specs.Sources.{only, File, image_file, trace_file, files_to_build, MayBe}
use Rattle.command_files.specs.FileFaults.{IsNamedFaultOf}
use Rattle.command_files.specs.Building.{IsImage, IsNamedFaultInApp}
use Rattle.command_files.specs.Ready.{IsImageFile, IsAuditOf, IsNamedFaultIn}
use Rattle.command_files.specs.Pushed.{Pushed, whole, cut, Says, pushed, silent, IsSilent, SaysNamedFault}
use Rattle.command_files.specs.Verdict.{Verdict, refused, unread, listed, built, audited, Builds, Lists, Migrates, Audits}
use Rattle.command_files.specs.Answer.{IsShort, HasPut, HasSpoiled, Tells, Reason, cannot_read, refuses, does, AnswersBy}
use Rattle.command_files.proofs.Lists.{takes_none, takes_first}
use Rattle.command_files.specs.Answer as answer
use Rattle.command_files.proofs.Readying.{faults_first, one_file}

pub silent_short : (a b : FilesSeen) (w w' : SinkSeen) (r : ℕ) → b.contents ≡ a.contents → IsSilent w w' r → IsShort a b w w' r
silent_short a b w w' r same s = record { status = s.status; written = s.written; faults = s.faults; files = same }

pub put_nothing : (a b : FilesSeen) (v : Verdict) → b.contents ≡ a.contents → v.put ≡ None → HasPut a.contents b.contents v.put
put_nothing a b v same none = let P : Option (List ℕ × List ℕ) → Type 0 = HasPut a.contents b.contents in subst P (sym none) same

pub tells_pushed : (a b : FilesSeen) (w w' : SinkSeen) (v : Verdict) (r : ℕ) → HasPut a.contents b.contents v.put → Pushed w w' v r → Tells a b w w' v r
tells_pushed a b w w' v r put (whole is text) = answer.whole is put text
tells_pushed a b w w' v r put (cut is rose front) = answer.cut is rose put front

-- ## a verdict was pushed

pub pushed_by : {files_of : List ℕ → List File} {Does : List (List ℕ) → Verdict → Type 0} (a b : FilesSeen) (w w' : SinkSeen) (v : Verdict) (r : ℕ) → b.contents ≡ a.contents → v.put ≡ None → Reason files_of Does a b v → Pushed w w' v r → AnswersBy files_of Does a b w w' r
pushed_by a b w w' v r same none why p = inr (v, why, tells_pushed a b w w' v r (put_nothing a b v same none) p)

pub said_by : {files_of : List ℕ → List File} {Does : List (List ℕ) → Verdict → Type 0} (a b : FilesSeen) (w w' : SinkSeen) (v : Verdict) (r : ℕ) → b.contents ≡ a.contents → v.put ≡ None → Reason files_of Does a b v → Says w w' v r → AnswersBy files_of Does a b w w' r
said_by a b w w' v r same none why (pushed p) = pushed_by a b w w' v r same none why p
said_by a b w w' v r same none why (silent s) = inl (silent_short a b w w' r same s)

-- a file is not accepted
pub named_fault_by : {files_of : List ℕ → List File} {Does : List (List ℕ) → Verdict → Type 0} (a b : FilesSeen) (w w' : SinkSeen) (h : NamedFault) (r : ℕ) → b.contents ≡ a.contents → IsNamedFaultIn files_of a b h → SaysNamedFault w w' h r → AnswersBy files_of Does a b w w' r
named_fault_by a b w w' named_faults.Memory r same h s = inl (silent_short a b w w' r same s)
named_fault_by a b w w' (named_faults.CannotRead name) r same h s =
    let at = h.at.fault in
    let why = cannot_read h.at.file (record { contents = h.contents; reached = record { takes = h.at.takes; next = h.at.next }; rose = at.1.rose; named = at.1.named }) (ap (unread []) at.0) in
    said_by a b w w' (unread [] (string_bytes name)) r same refl why s
named_fault_by a b w w' (named_faults.Refused name cause place) r same h s =
    let at = h.at.fault in
    let reason : Why = (cause, string_bytes place) in
    let why = refuses h.at.file reason (record { contents = h.contents; reached = record { takes = h.at.takes; next = h.at.next }; refused = at.1 }) (ap (λ (n : List ℕ). refused n reason) at.0) in
    said_by a b w w' (refused (string_bytes name) reason) r same refl why s

-- ## a file was put

earlier_puts : (a b c : FilesSeen) (v : Verdict) → b.contents ≡ a.contents → HasPut b.contents c.contents v.put → HasPut a.contents c.contents v.put
earlier_puts a b c v same p = subst (λ (t : List ℕ → Option (List ℕ)). HasPut t c.contents v.put) same p

pub tells_earlier : (a b c : FilesSeen) (w w' : SinkSeen) (v : Verdict) (r : ℕ) → b.contents ≡ a.contents → b.put_faults ≡ a.put_faults → Tells b c w w' v r → Tells a c w w' v r
tells_earlier a b c w w' v r same puts (answer.whole is put text) = answer.whole is (earlier_puts a b c v same put) text
tells_earlier a b c w w' v r same puts (answer.cut is rose put front) = answer.cut is rose (earlier_puts a b c v same put) front
tells_earlier a b c w w' v r same puts (answer.spoiled is rose left none) =
    answer.spoiled is (subst (λ (n : ℕ). Rose n c.put_faults) puts rose) (subst (λ (t : List ℕ → Option (List ℕ)). HasSpoiled t c.contents v.put) same left) none
tells_earlier a b c w w' v r same puts (answer.short s) =
    answer.short (record { status = s.status; written = s.written; faults = s.faults; files = s.files ∙ same })

pub put_by : {files_of : List ℕ → List File} {Does : List (List ℕ) → Verdict → Type 0} (a b c : FilesSeen) (w w' : SinkSeen) (v : Verdict) (r : ℕ) → b.contents ≡ a.contents → b.put_faults ≡ a.put_faults → Reason files_of Does a c v → Tells b c w w' v r → AnswersBy files_of Does a c w w' r
put_by a b c w w' v r same puts why t = inr (v, why, tells_earlier a b c w w' v r same puts t)

-- ## the commands that run nothing

-- the file of an image is not accepted, and the command takes no other
pub image_alone_faults : (a c : FilesSeen) (image : List ℕ) (h : NamedFault) → IsNamedFaultOf a c (image_file image) h → IsNamedFaultIn (only (image_file image)) a c h
image_alone_faults a c image h fault = faults_first (image_file image) a c h refl fault

pub list_reason : (a b : FilesSeen) (image : List ℕ) (image_data : ImageData) → IsImageFile a.contents image image_data → Reason (only (image_file image)) Lists a b (listed image_data)
list_reason a b image image_data i = does (i.bytes ∷ []) (record { takes = one_file a.contents image image_data [] i; all = refl }) (ap listed i.is)

pub migrate_reason : (a b : FilesSeen) (image out : List ℕ) (image_data : ImageData) → IsImageFile a.contents image image_data → Reason (only (image_file image)) (Migrates out) a b (built out image_data)
migrate_reason a b image out image_data i = does (i.bytes ∷ []) (record { takes = one_file a.contents image image_data [] i; all = refl }) (ap (built out) i.is)

pub audit_faults : (a c : FilesSeen) (name : List ℕ) (h : NamedFault) → IsNamedFaultOf a c (trace_file name) h → IsNamedFaultIn (only (trace_file name)) a c h
audit_faults a c name h fault = faults_first (trace_file name) a c h refl fault

audit_reason : (a b : FilesSeen) (name : List ℕ) (found : trace.Judgement) → IsAuditOf a.contents name found → Reason (only (trace_file name)) Audits a b (audited found)
audit_reason a b name found i =
    does (i.bytes ∷ []) (record { takes = takes_first (MayBe a.contents) (trace_file name) [] i.bytes [] i.held i.accepted (takes_none (MayBe a.contents) []); all = refl })
    (found, i.verdict, refl)

pub audited_alone : (found : trace.Judgement) → (audited found).put ≡ None
audited_alone (Yes calls left) = refl
audited_alone (No line) = refl

pub audited_by : (a b : FilesSeen) (w w' : SinkSeen) (name : List ℕ) (found : trace.Judgement) (r : ℕ) → b.contents ≡ a.contents → IsAuditOf a.contents name found → Says w w' (audited found) r → AnswersBy (only (trace_file name)) Audits a b w w' r
audited_by a b w w' name found r same i says = said_by a b w w' (audited found) r same (audited_alone found) (audit_reason a b name found i) says

pub build_reason : (a b : FilesSeen) (app out : List ℕ) (image_data : ImageData) → IsImage a.contents app image_data → Reason (files_to_build app) (Builds out) a b (built out image_data)
build_reason a b app out image_data i = does (i.bytes ∷ i.sources) (record { takes = i.each.takes; all = i.each.all }) (image_data, i.is, refl)

pub build_faults : (a c : FilesSeen) (app : List ℕ) (h : NamedFault) → IsNamedFaultInApp a c app h → IsNamedFaultIn (files_to_build app) a c h
build_faults a c app h i = record { contents = i.contents; at = i.at }
