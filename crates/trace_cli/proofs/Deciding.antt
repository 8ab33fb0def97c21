-- Where the contents are seen: a reason gives the one verdict, but that a file cannot be read.
use Rattle.std.proofs.Common.{◌≡◌, ℕ, ◌⊎◌, Bool, false, true, List, length, Option, Some, None, [], sym, ap, subst, ◌∙◌, inl, inr, arith, cond, zero, suc, refl, ◌<◌}
use Rattle.std.specs.Prelude.{slice_get, slice_index_or, Result, Ok}
use Rattle.std.proofs.lemmas.Option.{same_Some}
use Rattle.kernel_abi.specs.Devices.{DeviceData}
use Rattle.outside_io.specs.Outside.{WhereSeen}
use Rattle.image_format.specs.ImageData.{ImageData}
use Rattle.sample_gen.specs.Sample.{sample_app, sample_sources}
use Rattle.command_line.specs.CommandLine.{Asked, build, run, go, list, sample, migrate, audit, save, resume, debug, cover, sweep, timeline, live, picture, lcov, help, is_accepted, job_of}
use Rattle.debug_core.specs.declared.command.Command.{Command}
use Rattle.debug_core.specs.Reading.{commands_or_fault}
use Rattle.build_laws.proofs.OneImageData.{one_picture}
use Rattle.trace_audit.proofs.Deciding.{one_verdict}
use Rattle.command_files.specs.Contents.{Why, scenario_of}
use Rattle.board_commands.specs.Contents.{sample_scenario}
use Rattle.outside_io.specs.Seen.{FilesSeen}
use Rattle.trace_cli.specs.Words.{job_in}
use Rattle.command_files.specs.Sources.{File, MayBe, Are, Reaches, TakesAll, IsBuilt, first_of, described, sources_in, script_in, scenario_in}
use Rattle.trace_cli.specs.Sources.{files_by, files_of}
use Rattle.trace_cli.specs.Verdict as verdict
use Rattle.command_files.specs.Verdict.{Verdict, refused, unread, built, audited}
use Rattle.trace_cli.specs.Verdict.{IsVerdict, IsCovered, Does, usage, debugged, covered, traced}
use Rattle.board_commands.specs.Verdict.{ran, sampled, run_of}
use Rattle.command_files.specs.Building.{labels_from}
use Rattle.trace_cli.specs.Tracing.{sections}
use Rattle.trace_cli.specs.Answer.{JobReason, cannot_read, refuses, does, IsUnread, CommandReason, no_job, of_job}
use Rattle.command_files.specs.Answer.{IsRefused}
use Rattle.board_model.specs.declared.outcomes.Level.TheVariants.{All}
use Rattle.board_model.specs.Script.{Scenario}
use Rattle.thumb_asm.specs.Meaning.{Names}
use Rattle.run_cover.specs.Counted.{counts}
use Rattle.run_cover.proofs.Knowing.{one_known}
use Rattle.command_files.proofs.Faulting.{where_seen}
use Rattle.trace_cli.proofs.Agreeing.{first_file}
use Rattle.command_files.proofs.Agreeing.{Meets, less, more, same, not_accepted, not_refused, no_file, refused_not_done, same_files, seen_further, may_further, same_contents}

-- ## what is done with files is one thing

same_image : (cs : List (List ℕ)) (a b : ImageData) → IsBuilt cs a → IsBuilt cs b → a ≡ b
same_image cs a b p q = one_picture (described cs) (sources_in cs) a b p.built q.built

same_commands : (r : Result (List Command) (ℕ × ℕ)) (a b : List Command) → r ≡ Ok a → r ≡ Ok b → a ≡ b
same_commands r a b p q = cc

same_covered : (n : ℕ) (x : Scenario) (labels : Names) (u v : Verdict) → IsCovered n x labels u → IsCovered n x labels v → u ≡ v
same_covered n x labels u v p q =
    let r = run_of All n x in
    p.2 ∙ ap (covered n x labels) (one_known x.setup r.last.memory (counts r.notes) p.0 q.0 p.1 q.1) ∙ sym q.2

same_done : (devices : List DeviceData) (job : Asked) (cs : List (List ℕ)) (u v : Verdict) → Does devices job cs u → Does devices job cs v → u ≡ v
same_done devices (build app out) cs u v p q = p.2 ∙ ap (built out) (same_image cs p.0 q.0 p.1 q.1) ∙ sym q.2
same_done devices (run image script steps detail) cs u v p q = p ∙ sym q
same_done devices (go app script steps detail) cs u v p q =
    p.2 ∙ ap (λ (i : ImageData). ran steps detail (scenario_of i (script_in cs) devices)) (same_image cs p.0 q.0 p.1 q.1) ∙ sym q.2
same_done devices (list image) cs u v p q = p ∙ sym q
same_done devices (sample seed steps) cs u v p q =
    p.2 ∙ ap (λ (i : ImageData). sampled steps (sample_scenario seed i)) (one_picture (sample_app seed) (sample_sources seed) p.0 q.0 p.1 q.1) ∙ sym q.2
same_done devices (migrate image out) cs u v p q = p ∙ sym q
same_done devices (audit name) cs u v p q = p.2 ∙ ap audited (one_verdict (first_of cs) p.0 q.0 p.1 q.1) ∙ sym q.2
same_done devices (save image script out steps) cs u v p q = p ∙ sym q
same_done devices (resume image script state steps detail) cs u v p q = p ∙ sym q
same_done devices (debug image script name) cs u v p q =
    p.2 ∙ ap (debugged (scenario_in devices cs)) (same_commands (commands_or_fault (slice_index_or cs 2 [])) p.0 q.0 p.1 q.1) ∙ sym q.2
same_done devices (cover image script steps false) cs u v p q = same_covered steps (scenario_in devices cs) [] u v p q
same_done devices (cover app script steps true) cs u v p q =
    let labels = labels_from (described cs) 0 (sources_in cs) in
    let same : p.0 ≡ q.0 = same_image cs p.0 q.0 p.1 q.1 in
    same_covered steps (scenario_of q.0 (script_in cs) devices) labels u v (subst (λ (i : ImageData). IsCovered steps (scenario_of i (script_in cs) devices) labels u) same p.2) q.2
same_done devices (sweep image script arrival from to steps memory) cs u v p q = p ∙ sym q
same_done devices (timeline image script steps names) cs u v p q = p ∙ sym q
same_done devices (live image script commands) cs u v p q = p ∙ sym q
same_done devices (picture image script out steps names) cs u v p q = p ∙ sym q
same_done devices (lcov app script out steps) cs u v p q =
    p.2 ∙ ap (λ (i : ImageData). traced out steps (sections (described cs) (sources_in cs)) (scenario_of i (script_in cs) devices)) (same_image cs p.0 q.0 p.1 q.1) ∙ sym q.2
same_done devices (help about) cs u v p q = p ∙ sym q

-- ## a refusal by seen contents, and one by contents that may be

-- three ways in which lengths meet
meets_more : (m n : ℕ) → Meets m n → Meets (suc m) (suc n)
meets_more m n (less lt) = less (omega arith)
meets_more m n (more lt) = more (omega arith)
meets_more m n (same e) = same (ap suc e)

meets : (m n : ℕ) → Meets m n
meets zero zero = same refl
meets zero (suc n) = less (omega arith)
meets (suc m) zero = more (omega arith)
meets (suc m) (suc n) = meets_more m n (meets m n)

-- two refusals are one
same_refusal : (devices : List DeviceData) (seen : List ℕ → Option (List ℕ)) (job : Asked) (f g : File) (why why' : Why) (cs : List (List ℕ)) (c : List ℕ) → IsRefused (files_of devices job) seen f why
    → Reaches (Are seen) (files_of devices job) cs g → seen g.name ≡ Some c → g.refusal c ≡ Some why' → refused f.name why ≡ refused g.name why'
same_refusal devices seen job f g why why' cs c h r is refusal = by_length (meets (length cs) (length h.contents)) where
  by_length : Meets (length cs) (length h.contents) → refused f.name why ≡ refused g.name why'
  by_length (less lt) =
      let t = may_further seen (files_of devices job) (first_file devices job) cs h.contents r.takes h.reached.takes lt in
      absurd (not_refused seen g t.0 why' c t.2.0 (same_Some g t.0 (sym r.next ∙ t.1)) is refusal t.2.1 t.2.2)
  by_length (more lt) =
      let t = seen_further seen (files_of devices job) (first_file devices job) cs h.contents r.takes h.reached.takes lt in
      absurd (not_accepted seen f t.0 why t.2.0 (same_Some f t.0 (sym h.reached.next ∙ t.1)) (where_seen seen f why h.refused) t.2.1 t.2.2)
  by_length (same e) =
      let files = same_files seen (files_of devices job) (first_file devices job) cs h.contents r.takes h.reached.takes (length cs) (omega arith) (omega arith) in
      let there : slice_get (files_by devices job h.contents) (length cs) ≡ Some f = ap (λ (k : ℕ). slice_get (files_by devices job h.contents) k) e ∙ h.reached.next in
      let file : g ≡ f = same_Some g f (sym r.next ∙ files ∙ there) in
      let mine : g.refusal c ≡ Some why = subst (λ (i : File). WhereSeen (seen i.name) (λ all. i.refusal all ≡ Some why)) (sym file) (where_seen seen f why h.refused) c is in
      let reason : why ≡ why' = same_Some why why' (sym mine ∙ refusal) in
      ap (λ (i : File). refused i.name why) (sym file) ∙ ap (refused g.name) reason

done_not_refused : (devices : List DeviceData) (seen : List ℕ → Option (List ℕ)) (job : Asked) (ds cs : List (List ℕ)) (g : File) (why : Why) (c : List ℕ) → TakesAll (MayBe seen) (files_of devices job) ds
    → Reaches (Are seen) (files_of devices job) cs g → seen g.name ≡ Some c → g.refusal c ≡ Some why → ⊥
done_not_refused devices seen job ds cs g why c all r is refusal = by_length (meets (length cs) (length ds)) where
  by_length : Meets (length cs) (length ds) → ⊥
  by_length (less lt) =
      let t = may_further seen (files_of devices job) (first_file devices job) cs ds r.takes all.takes lt in
      not_refused seen g t.0 why c t.2.0 (same_Some g t.0 (sym r.next ∙ t.1)) is refusal t.2.1 t.2.2
  by_length (more lt) =
      let t = seen_further seen (files_of devices job) (first_file devices job) cs ds r.takes all.takes lt in
      no_file (files_by devices job ds) (length ds) t.0 all.all t.1
  by_length (same e) =
      let files = same_files seen (files_of devices job) (first_file devices job) cs ds r.takes all.takes (length cs) (omega arith) (omega arith) in
      no_file (files_by devices job ds) (length cs) g (all.all ∙ sym e) (sym files ∙ r.next)

all_same : (devices : List DeviceData) (seen : List ℕ → Option (List ℕ)) (job : Asked) (cs ds : List (List ℕ)) (u v : Verdict) → TakesAll (Are seen) (files_of devices job) cs → TakesAll (MayBe seen) (files_of devices job) ds → Does devices job cs u → Does devices job ds v → v ≡ u
all_same devices seen job cs ds u v are may p q = by_length (meets (length cs) (length ds)) where
  by_length : Meets (length cs) (length ds) → v ≡ u
  by_length (less lt) =
      let t = may_further seen (files_of devices job) (first_file devices job) cs ds are.takes may.takes lt in
      absurd (no_file (files_by devices job cs) (length cs) t.0 are.all t.1)
  by_length (more lt) =
      let t = seen_further seen (files_of devices job) (first_file devices job) cs ds are.takes may.takes lt in
      absurd (no_file (files_by devices job ds) (length ds) t.0 may.all t.1)
  by_length (same e) =
      let contents = same_contents seen (files_of devices job) (first_file devices job) cs ds are.takes may.takes e in
      same_done devices job ds v u q (subst (λ (xs : List (List ℕ)). Does devices job xs u) contents p)

-- ## the verdict

abbrev CannotRead : List DeviceData → Asked → FilesSeen → FilesSeen → Verdict → Type 0
CannotRead devices job before after v = (f : File) × (is : IsUnread devices job before after f) × (v ≡ unread is.told f.name)

on_refusal : {devices : List DeviceData} (job : Asked) (before after : FilesSeen) (v u : Verdict) (cs : List (List ℕ)) (g : File) (c : List ℕ) (why : Why) → JobReason devices job before after v
    → Reaches (Are before.contents) (files_of devices job) cs g → before.contents g.name ≡ Some c → g.refusal c ≡ Some why → u ≡ refused g.name why → (v ≡ u) ⊎ CannotRead devices job before after v
on_refusal {devices} job before after v u cs g c why (cannot_read f h e) r is refusal d = inr (f, h, e)
on_refusal {devices} job before after v u cs g c why (refuses f why' h e) r is refusal d = inl (e ∙ same_refusal devices before.contents job f g why' why cs c h r is refusal ∙ sym d)
on_refusal {devices} job before after v u cs g c why (does ds all p) r is refusal d = absurd (done_not_refused devices before.contents job ds cs g why c all r is refusal)

on_done : {devices : List DeviceData} (job : Asked) (before after : FilesSeen) (v u : Verdict) (cs : List (List ℕ)) → JobReason devices job before after v
    → TakesAll (Are before.contents) (files_of devices job) cs → Does devices job cs u → (v ≡ u) ⊎ CannotRead devices job before after v
on_done {devices} job before after v u cs (cannot_read f h e) all p = inr (f, h, e)
on_done {devices} job before after v u cs (refuses f why h e) all p = absurd (refused_not_done before.contents (files_of devices job) (first_file devices job) f why cs h all)
on_done {devices} job before after v u cs (does ds may q) all p = inl (all_same devices before.contents job cs ds u v all may p q)

pub no_job_in : (words : List (List ℕ)) → is_accepted words ≡ false → job_in words ≡ None
no_job_in words e = ap (λ (b : Bool). cond b (job_of words) None) e

pub no_job_of : (words : List (List ℕ)) (job : Asked) → is_accepted words ≡ false → job_in words ≡ Some job → ⊥
no_job_of words job e d = let none : None ≡ Some job = sym (no_job_in words e) ∙ d in absurd (cc)

on_job : {devices : List DeviceData} (words : List (List ℕ)) (job : Asked) (before after : FilesSeen) (v u : Verdict) → job_in words ≡ Some job → JobReason devices job before after v → IsVerdict devices words before.contents u
    → (v ≡ u) ⊎ CannotRead devices job before after v
on_job {devices} words job before after v u is why (verdict.no_job none e) = absurd (no_job_of words job none is)
on_job {devices} words job before after v u is why (verdict.refuses job' cs g c reason is' r held refusal e) =
    let alike : job' ≡ job = same_Some job' job (sym is' ∙ is) in
    on_refusal job before after v u cs g c reason why (subst (λ (j : Asked). Reaches (Are before.contents) (files_of devices j) cs g) alike r) held refusal e
on_job {devices} words job before after v u is why (verdict.does job' cs is' all p) =
    let alike : job' ≡ job = same_Some job' job (sym is' ∙ is) in
    on_done job before after v u cs why (subst (λ (j : Asked). TakesAll (Are before.contents) (files_of devices j) cs) alike all) (subst (λ (j : Asked). Does devices j cs u) alike p)

on_no_job : {devices : List DeviceData} (words : List (List ℕ)) (seen : List ℕ → Option (List ℕ)) (v u : Verdict) → is_accepted words ≡ false → v ≡ usage → IsVerdict devices words seen u → v ≡ u
on_no_job words seen v u none e (verdict.no_job none' d) = e ∙ sym d
on_no_job words seen v u none e (verdict.refuses job cs g c reason is r held refusal d) = absurd (no_job_of words job none is)
on_no_job words seen v u none e (verdict.does job cs is all p) = absurd (no_job_of words job none is)

-- a verdict that was told is the one verdict, or that a file cannot be read
pub data Decided (devices : List DeviceData) (words : List (List ℕ)) (before after : FilesSeen) (v u : Verdict) : Type 0 where
  agreed : v ≡ u → Decided devices words before after v u
  not_read : (job : Asked) (f : File) → job_in words ≡ Some job → (is : IsUnread devices job before after f) → v ≡ unread is.told f.name → Decided devices words before after v u

by_reason : {devices : List DeviceData} (words : List (List ℕ)) (job : Asked) (before after : FilesSeen) (v u : Verdict) → job_in words ≡ Some job → (v ≡ u) ⊎ CannotRead devices job before after v → Decided devices words before after v u
by_reason words job before after v u is (inl e) = agreed e
by_reason words job before after v u is (inr h) = not_read job h.0 is h.1 h.2

pub decided : {devices : List DeviceData} (words : List (List ℕ)) (before after : FilesSeen) (v u : Verdict) → CommandReason devices words before after v → IsVerdict devices words before.contents u → Decided devices words before after v u
decided words before after v u (no_job none e) is = agreed (on_no_job words before.contents v u none e is)
decided words before after v u (of_job job at why) is = by_reason words job before after v u at (on_job words job before after v u at why is)
