-- `build` and then `run` write what `go` writes.
use Rattle.std.proofs.Common.{◌≡◌, ◌≢◌, ℕ, suc, List, [], ◌∷◌, ◌++◌, length, Option, Some, None, refl, sym, ap, subst, ◌∙◌, arith}
use Rattle.std.specs.Prelude.{slice_get}
use Rattle.std.proofs.lemmas.Option.{same_Some, slice_get_within}
use Rattle.kernel_abi.specs.Devices.{DeviceData}
use Rattle.outside_io.specs.Outside.{WhereSeen}
use Rattle.image_format.specs.ImageData.{ImageData, spelling}
use Rattle.command_line.specs.CommandLine.{Asked, build, run, go}
use Rattle.command_line.specs.declared.job.Detail.{Detail}
use Rattle.command_files.specs.Contents.{Why, image_refusal, script_refusal, image_data_of, application_of, scenario_of}
use Rattle.trace_cli.specs.Words.{job_in}
use Rattle.command_files.specs.Sources.{File, image_file, script_file, files_to_build, Are, Takes, Reaches, TakesAll, IsBuilt, script_in}
use Rattle.command_files.specs.Verdict.{Verdict, refused}
use Rattle.trace_cli.specs.Verdict.{IsVerdict, no_job, refuses, does, Does}
use Rattle.board_commands.specs.Verdict.{ran}
use Rattle.command_files.specs.Answer.{HasPut}
use Rattle.command_files.proofs.Lists.{longer, takes_wider, takes_last}
use Rattle.command_files.proofs.Taking.{as_many_sources}
use Rattle.command_files.proofs.Readying.{files_then, go_image, go_script}
use Rattle.trace_cli.proofs.Deciding.{no_job_of}
use Rattle.command_files.proofs.Agreeing.{no_refusal}
use Rattle.trace_cli.proofs.OneVerdict.{one_verdict}
use Rattle.command_files.proofs.Spelling.{spelling_taken}
use Rattle.trace_cli.specs.Sources.{files_of}

-- ## what was built

-- the files of an application are seen and accepted, and this is the image that is built of them
record HasImage (seen : List ℕ → Option (List ℕ)) (app : List ℕ) (image : ImageData) : Type 0 where
  bytes : List ℕ
  sources : List (List ℕ)
  takes : Takes (Are seen) (files_to_build app bytes) (bytes ∷ sources)
  all : length (files_to_build app bytes) ≡ length (bytes ∷ sources)
  is : IsBuilt (bytes ∷ sources) image

-- and it was put under a name
record IsMade (seen : List ℕ → Option (List ℕ)) (app out : List ℕ) (b : Verdict) : Type 0 where
  image : ImageData
  has : HasImage seen app image
  put : b.put ≡ Some (out, spelling image)

has_image : (devices : List DeviceData) (seen : List ℕ → Option (List ℕ)) (app out : List ℕ) (cs : List (List ℕ)) (image : ImageData) → TakesAll (Are seen) (files_of devices (build app out)) cs → IsBuilt cs image → HasImage seen app image
has_image devices seen app out [] image all is = let none = all.all in absurd (omega arith)
has_image devices seen app out (c ∷ cs) image all is = record { bytes = c; sources = cs; takes = all.takes; all = all.all; is = is }

made_by : (devices : List DeviceData) (seen : List ℕ → Option (List ℕ)) (app out : List ℕ) (cs : List (List ℕ)) (b : Verdict) → TakesAll (Are seen) (files_of devices (build app out)) cs → Does devices (build app out) cs b → IsMade seen app out b
made_by devices seen app out cs b all p = record { image = p.0; has = has_image devices seen app out cs p.0 all p.1; put = ap (λ (u : Verdict). u.put) p.2 }

made : {devices : List DeviceData} (words : List (List ℕ)) (seen : List ℕ → Option (List ℕ)) (app out : List ℕ) (b : Verdict) → job_in words ≡ Some (build app out) → IsVerdict devices words seen b → b.status ≡ 0 → IsMade seen app out b
made {devices} words seen app out b at (no_job none e) zero = absurd (no_job_of words (build app out) none at)
made {devices} words seen app out b at (refuses job cs f c why is r held refusal e) zero = let one : b.status ≡ 1 = ap (λ (u : Verdict). u.status) e in absurd (omega arith)
made {devices} words seen app out b at (does job cs is all p) zero =
    let alike : job ≡ build app out = same_Some job (build app out) (sym is ∙ at) in
    made_by devices seen app out cs b (subst (λ (j : Asked). TakesAll (Are seen) (files_of devices j) cs) alike all) (subst (λ (j : Asked). Does devices j cs b) alike p)

-- ## the verdicts of `go`

go_refuses : {devices : List DeviceData} (words : List (List ℕ)) (seen : List ℕ → Option (List ℕ)) (app script : List ℕ) (n : ℕ) (detail : Detail) (image : ImageData) (bytes : List ℕ) (why : Why) (w : Verdict)
    → job_in words ≡ Some (go app script n detail) → HasImage seen app image → seen script ≡ Some bytes → script_refusal bytes ≡ Some why → w ≡ refused script why → IsVerdict devices words seen w
go_refuses words seen app script n detail image bytes why w at h held refusal e =
    let files = files_to_build app h.bytes in
    refuses (go app script n detail) (h.bytes ∷ h.sources) (script_file script) bytes why at (record {
      takes = takes_wider (Are seen) files (script_file script ∷ []) (h.bytes ∷ h.sources) h.takes;
      next = files_then files (script_file script) (length (h.bytes ∷ h.sources)) h.all;
    }) held refusal e

go_runs : {devices : List DeviceData} (words : List (List ℕ)) (seen : List ℕ → Option (List ℕ)) (app script : List ℕ) (n : ℕ) (detail : Detail) (image : ImageData) (bytes : List ℕ) (w : Verdict)
    → job_in words ≡ Some (go app script n detail) → HasImage seen app image → seen script ≡ Some bytes → script_refusal bytes ≡ None → w ≡ ran n detail (scenario_of image bytes devices) → IsVerdict devices words seen w
go_runs {devices} words seen app script n detail image bytes w at h held accepted e =
    let files = files_to_build app h.bytes in
    let count : length (application_of h.bytes).tasks ≡ length h.sources = (let all = h.all in let many = as_many_sources (application_of h.bytes) in omega arith) in
    let contents = h.bytes ∷ (h.sources ++ bytes ∷ []) in
    let scenario : scenario_of image bytes devices ≡ scenario_of image (script_in contents) devices = ap (λ (t : List ℕ). scenario_of image t devices) (sym (go_script h.bytes h.sources bytes count)) in
    does (go app script n detail) contents at (record {
      takes = takes_last (Are seen) (files ++ script_file script ∷ []) (h.bytes ∷ h.sources) (script_file script) bytes
          (takes_wider (Are seen) files (script_file script ∷ []) (h.bytes ∷ h.sources) h.takes)
          (files_then files (script_file script) (length (h.bytes ∷ h.sources)) h.all) held accepted;
      all = longer files (script_file script) ∙ ap suc h.all ∙ sym (longer (h.bytes ∷ h.sources) bytes);
    }) (image, go_image h.bytes h.sources bytes image count h.is, e ∙ ap (ran n detail) scenario)

-- ## from the verdict of `run` to that of `go`

-- what stands after the build: the image under OUT where that is seen, and the same script
record Rebuilt (seen seen' : List ℕ → Option (List ℕ)) (app out script : List ℕ) : Type 0 where
  image : ImageData
  has : HasImage seen app image
  put : WhereSeen (seen' out) (λ all. all ≡ spelling image)
  script_stays : seen' script ≡ seen script

rebuilt : (seen seen' : List ℕ → Option (List ℕ)) (app out script : List ℕ) (b : Verdict) → IsMade seen app out b → script ≢ out → HasPut seen seen' b.put → Rebuilt seen seen' app out script
rebuilt seen seen' app out script b m other put =
    let P : Option (List ℕ × List ℕ) → Type 0 = HasPut seen seen' in
    let mine = subst P m.put put in
    record { image = m.image; has = m.has; put = mine.0; script_stays = mine.1 script other }

-- the image file is accepted
not_the_image : (seen seen' : List ℕ → Option (List ℕ)) (app out script : List ℕ) (f : File) (c : List ℕ) (why : Why) → Rebuilt seen seen' app out script → image_file out ≡ f
    → seen' f.name ≡ Some c → f.refusal c ≡ Some why → ⊥
not_the_image seen seen' app out script f c why r same held refusal =
    let there : seen' out ≡ Some c = subst (λ (g : File). seen' g.name ≡ Some c) (sym same) held in
    let bytes : c ≡ spelling r.image = r.put c there in
    let mine : image_refusal c ≡ Some why = subst (λ (g : File). g.refusal c ≡ Some why) (sym same) refusal in
    let accepted_sources = spelling_taken r.image r.has.is.sound in
    no_refusal (image_file out) c why mine (ap image_refusal bytes ∙ accepted_sources.0)

after_refusal : {devices : List DeviceData} (words : List (List ℕ)) (seen seen' : List ℕ → Option (List ℕ)) (app out script : List ℕ) (n : ℕ) (detail : Detail) (cs : List (List ℕ)) (f : File) (c : List ℕ) (why : Why) (w : Verdict)
    → job_in words ≡ Some (go app script n detail) → Rebuilt seen seen' app out script → slice_get (image_file out ∷ script_file script ∷ []) (length cs) ≡ Some f
    → seen' f.name ≡ Some c → f.refusal c ≡ Some why → w ≡ refused f.name why → IsVerdict devices words seen w
after_refusal words seen seen' app out script n detail [] f c why w at r next held refusal e =
    absurd (not_the_image seen seen' app out script f c why r (same_Some (image_file out) f next) held refusal)
after_refusal words seen seen' app out script n detail (d ∷ []) f c why w at r next held refusal e =
    let file : f ≡ script_file script = sym (same_Some (script_file script) f next) in
    let there : seen' script ≡ Some c = subst (λ (g : File). seen' g.name ≡ Some c) file held in
    let mine : script_refusal c ≡ Some why = subst (λ (g : File). g.refusal c ≡ Some why) file refusal in
    go_refuses words seen app script n detail r.image c why w at r.has (sym r.script_stays ∙ there) mine (e ∙ ap (λ (g : File). refused g.name why) file)
after_refusal words seen seen' app out script n detail (d ∷ d' ∷ ds) f c why w at r next held refusal e =
    let below = slice_get_within (image_file out ∷ script_file script ∷ []) (length (d ∷ d' ∷ ds)) f next in absurd (omega arith)

-- the contents of a file that is known
held_of : (seen : List ℕ → Option (List ℕ)) (f g : File) (c : List ℕ) → Some f ≡ Some g → seen g.name ≡ Some c → seen f.name ≡ Some c
held_of seen f g c e held = subst (λ (h : File). seen h.name ≡ Some c) (sym (same_Some f g e)) held

accepted_of : (f g : File) (c : List ℕ) → Some f ≡ Some g → g.refusal c ≡ None → f.refusal c ≡ None
accepted_of f g c e accepted = subst (λ (h : File). h.refusal c ≡ None) (sym (same_Some f g e)) accepted

ran_of : (devices : List DeviceData) (out script : List ℕ) (n : ℕ) (detail : Detail) (image : ImageData) (c s : List ℕ) (w : Verdict) → image_data_of c ≡ image → Does devices (run out script n detail) (c ∷ s ∷ []) w → w ≡ ran n detail (scenario_of image s devices)
ran_of devices out script n detail image c s w same e = e ∙ ap (λ (i : ImageData). ran n detail (scenario_of i s devices)) same

after_run : {devices : List DeviceData} (words : List (List ℕ)) (seen seen' : List ℕ → Option (List ℕ)) (app out script : List ℕ) (n : ℕ) (detail : Detail) (cs : List (List ℕ)) (w : Verdict)
    → job_in words ≡ Some (go app script n detail) → Rebuilt seen seen' app out script → TakesAll (Are seen') (files_of devices (run out script n detail)) cs → Does devices (run out script n detail) cs w → IsVerdict devices words seen w
after_run words seen seen' app out script n detail [] w at r all p = let two = all.all in absurd (omega arith)
after_run words seen seen' app out script n detail (c ∷ []) w at r all p = let two = all.all in absurd (omega arith)
after_run {devices} words seen seen' app out script n detail (c ∷ s ∷ []) w at r all p =
    let first = all.takes 0 c refl in
    let second = all.takes 1 s refl in
    let bytes : c ≡ spelling r.image = r.put c (held_of seen' (image_file out) first.0 c first.1 first.2) in
    let accepted_sources = spelling_taken r.image r.has.is.sound in
    let image : image_data_of c ≡ r.image = ap image_data_of bytes ∙ sym accepted_sources.1 in
    let held : seen script ≡ Some s = sym r.script_stays ∙ held_of seen' (script_file script) second.0 s second.1 second.2 in
    go_runs words seen app script n detail r.image s w at r.has held (accepted_of (script_file script) second.0 s second.1 second.3) (ran_of devices out script n detail r.image c s w image p)
after_run words seen seen' app out script n detail (c ∷ s ∷ t ∷ more) w at r all p = let two = all.all in absurd (omega arith)

go_by_run : {devices : List DeviceData} (go_words run_words : List (List ℕ)) (seen seen' : List ℕ → Option (List ℕ)) (app out script : List ℕ) (n : ℕ) (detail : Detail) (w : Verdict)
    → job_in go_words ≡ Some (go app script n detail) → job_in run_words ≡ Some (run out script n detail) → Rebuilt seen seen' app out script → IsVerdict devices run_words seen' w → IsVerdict devices go_words seen w
go_by_run {devices} go_words run_words seen seen' app out script n detail w at too r (no_job none e) = absurd (no_job_of run_words (run out script n detail) none too)
go_by_run {devices} go_words run_words seen seen' app out script n detail w at too r (refuses job cs f c why is reached held refusal e) =
    let alike : job ≡ run out script n detail = same_Some job (run out script n detail) (sym is ∙ too) in
    let mine : Reaches (Are seen') (files_of devices (run out script n detail)) cs f = subst (λ (j : Asked). Reaches (Are seen') (files_of devices j) cs f) alike reached in
    after_refusal go_words seen seen' app out script n detail cs f c why w at r mine.next held refusal e
go_by_run {devices} go_words run_words seen seen' app out script n detail w at too r (does job cs is all p) =
    let alike : job ≡ run out script n detail = same_Some job (run out script n detail) (sym is ∙ too) in
    after_run go_words seen seen' app out script n detail cs w at r (subst (λ (j : Asked). TakesAll (Are seen') (files_of devices j) cs) alike all) (subst (λ (j : Asked). Does devices j cs w) alike p)

pub build_then_run : {devices : List DeviceData} (build_words go_words run_words : List (List ℕ)) (seen seen' : List ℕ → Option (List ℕ)) (app out script : List ℕ) (n : ℕ) (detail : Detail) (b v w : Verdict)
    → job_in build_words ≡ Some (build app out) → job_in go_words ≡ Some (go app script n detail) → job_in run_words ≡ Some (run out script n detail)
    → script ≢ out → IsVerdict devices build_words seen b → b.status ≡ 0 → HasPut seen seen' b.put
    → IsVerdict devices go_words seen v → IsVerdict devices run_words seen' w → v ≡ w
build_then_run build_words go_words run_words seen seen' app out script n detail b v w first second third other built zero put going running =
    let r = rebuilt seen seen' app out script b (made build_words seen app out b first built zero) other put in
    one_verdict go_words seen v w going (go_by_run go_words run_words seen seen' app out script n detail w second third r running)
