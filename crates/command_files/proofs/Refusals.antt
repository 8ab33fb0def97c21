-- Why a file is refused, by what the crates below say of it.
use Rattle.std.proofs.Common.{◌≡◌, ℕ, ◌≤◌, ◌↔◌, ◌++◌, true, false, List, length, Option, Some, None, refl, sym, ap, ◌∙◌, arith, ltb, cond, codes, Bool, string_bytes}
use Rattle.std.specs.Prelude.{decimal, option_map, Ok, Err}
use Rattle.std.proofs.lemmas.Bool.{eq-eqb, ne_eqb}
use Rattle.std.proofs.lemmas.Bool.Decides.{nat_tests}
use Rattle.app_toml.specs.Apps.{AppData}
use Rattle.app_toml.specs.Reading.{read_app}
use Rattle.text_lines.specs.Text.{lines_of}
use Rattle.thumb_asm.specs.declared.Cause.{Cause}
use Rattle.asm_laws.proofs.Sized.{image_sized}
use Rattle.image_build.specs.Layout.{flash_base, flash_needed, ram_needed, task_at}
use Rattle.image_build.specs.Built.{given}
use Rattle.image_build.specs.Building.{HasRoom, LacksRoom, RefusesSource, IsAcceptedSource, source_cause}
use Rattle.image_build.specs.declared.fault.BuildFault.TheVariants as fault
use Rattle.image_format.specs.ImageData.{ImageData, image_or_fault}
use Rattle.run_script.specs.Scripts.{ScriptData, script_or_fault}
use Rattle.command_files.specs.Contents.{Why, file_limit, trace_limit, trace_refusal, or_later, at_number, script_in, script_refusal, script_of, at_line, fault_in, app_in, image_in, image_refusal, image_data_of, application_of, app_refusal, room_refusal, source_refusal, code_refusal, code_length, names_refusal, tasks_refusal}
use Rattle.trace_audit.specs.declared.judgement.Judgement.{Judgement}
use Rattle.trace_audit.specs.declared.judgement.Judgement.TheVariants.{Yes, No}
use Rattle.trace_audit.specs.Texts as trace
use Rattle.trace_audit.specs.Rules.{IsFirstBad}
use Rattle.trace_audit.specs.Judgements.{first_cause, read_lines, IsGoodWith, IsJudgement}
use Rattle.command_files.specs.declared.file_faults.FileFault.{FileFault}
use Rattle.command_files.specs.declared.file_faults.FileFault.TheVariants as file_faults
use Rattle.command_files.specs.FileFaults.{IsFaultFor}
use Rattle.command_files.proofs.Faulting.{short}

-- ## an image

pub image_taken : (bytes : List ℕ) (p : ImageData) → length bytes ≤ file_limit → image_or_fault bytes ≡ Ok p → (image_refusal bytes ≡ None) × (p ≡ image_data_of bytes)
unfolding image_refusal image_data_of
image_taken bytes p le is = (short file_limit bytes _ le ∙ ap (λ r. option_map at_number (fault_in r)) is, ap image_in (sym is))

pub image_refused : (bytes : List ℕ) (why : ℕ × ℕ) → length bytes ≤ file_limit → image_or_fault bytes ≡ Err why → image_refusal bytes ≡ Some (at_number why)
unfolding image_refusal
image_refused bytes why le is = short file_limit bytes _ le ∙ ap (λ r. option_map at_number (fault_in r)) is

-- ## a script

pub script_taken : (bytes : List ℕ) (x : ScriptData) → length bytes ≤ file_limit → script_or_fault bytes ≡ Ok x → (script_refusal bytes ≡ None) × (x ≡ script_of bytes)
unfolding script_refusal script_of
script_taken bytes x le is = (short file_limit bytes _ le ∙ ap (λ r. option_map at_number (fault_in r)) is, ap script_in (sym is))

pub script_refused : (bytes : List ℕ) (why : ℕ × ℕ) → length bytes ≤ file_limit → script_or_fault bytes ≡ Err why → script_refusal bytes ≡ Some (at_number why)
unfolding script_refusal
script_refused bytes why le is = short file_limit bytes _ le ∙ ap (λ r. option_map at_number (fault_in r)) is

-- ## a trace

by_first : (bytes : List ℕ) (o : Option (ℕ × ℕ)) → length bytes ≤ trace_limit → first_cause 1 (trace.lines_of bytes) ≡ o → trace_refusal bytes ≡ option_map at_number o
unfolding trace_refusal
by_first bytes o le is = short trace_limit bytes _ le ∙ ap (option_map at_number) is

pub trace_taken : (bytes : List ℕ) → length bytes ≤ trace_limit → first_cause 1 (trace.lines_of bytes) ≡ None → trace_refusal bytes ≡ None
trace_taken bytes le is = by_first bytes None le is

pub trace_refused : (bytes : List ℕ) (why : ℕ × ℕ) → length bytes ≤ trace_limit → first_cause 1 (trace.lines_of bytes) ≡ Some why → trace_refusal bytes ≡ Some (at_number why)
trace_refused bytes why le is = by_first bytes (Some why) le is

-- what is answered exactly where it is so
pub verdict_found : (text : List ℕ) (v : Judgement) → ((calls left : ℕ) → (v ≡ Yes calls left) ↔ IsGoodWith (read_lines text) calls left)
    → ((n : ℕ) → (v ≡ No n) ↔ IsFirstBad (read_lines text) n) → IsJudgement text v
verdict_found text (Yes calls left) good bad = (good calls left).0 refl
verdict_found text (No n) good bad = (bad n).0 refl

-- ## an application

pub is_application : (bytes : List ℕ) (app : AppData) → read_app bytes ≡ Ok app → application_of bytes ≡ app
unfolding application_of
is_application bytes app is = ap app_in is

-- of a description that is accepted the plan decides
-- what its description is refused for, it is refused for whatever it is wanted for
pub app_described : (bytes : List ℕ) (why : Why) → length bytes ≤ file_limit → fault_in (read_app bytes) ≡ Some why → app_refusal bytes ≡ Some why
unfolding app_refusal
app_described bytes why le is = short file_limit bytes _ le ∙ ap (λ (o : Option Why). or_later o (room_refusal (application_of bytes))) is

pub names_described : (tasks : ℕ) (bytes : List ℕ) (why : Why) → length bytes ≤ file_limit → fault_in (read_app bytes) ≡ Some why → names_refusal tasks bytes ≡ Some why
unfolding names_refusal
names_described tasks bytes why le is = short file_limit bytes _ le ∙ ap (λ (o : Option Why). or_later o (tasks_refusal tasks (application_of bytes))) is

-- so is the file
pub app_faulty : (bytes : List ℕ) (h : FileFault) → length bytes ≤ file_limit → IsFaultFor (fault_in (read_app bytes)) h → IsFaultFor (app_refusal bytes) h
app_faulty bytes file_faults.Memory le is = tt
app_faulty bytes file_faults.CannotRead le is = is
app_faulty bytes (file_faults.Refused cause place) le is = app_described bytes (cause, string_bytes place) le is

pub names_faulty : (tasks : ℕ) (bytes : List ℕ) (h : FileFault) → length bytes ≤ file_limit → IsFaultFor (fault_in (read_app bytes)) h → IsFaultFor (names_refusal tasks bytes) h
names_faulty tasks bytes file_faults.Memory le is = tt
names_faulty tasks bytes file_faults.CannotRead le is = is
names_faulty tasks bytes (file_faults.Refused cause place) le is = names_described tasks bytes (cause, string_bytes place) le is

-- names of a description that is accepted: by the number of its tasks
pub names_by_tasks : (tasks : ℕ) (bytes : List ℕ) (app : AppData) → length bytes ≤ file_limit → read_app bytes ≡ Ok app → names_refusal tasks bytes ≡ tasks_refusal tasks app
unfolding names_refusal
names_by_tasks tasks bytes app le is = short file_limit bytes _ le ∙ ap (λ r. or_later (fault_in r) (tasks_refusal tasks (application_of bytes))) is ∙ ap (tasks_refusal tasks) (is_application bytes app is)

pub tasks_taken : (tasks : ℕ) (app : AppData) → length app.tasks ≡ tasks → tasks_refusal tasks app ≡ None
tasks_taken tasks app is = ap (λ (b : Bool). cond b None (Some (22, codes "task"))) (eq-eqb (length app.tasks) tasks is)

pub tasks_refused : (tasks : ℕ) (app : AppData) → (length app.tasks ≡ tasks → ⊥) → tasks_refusal tasks app ≡ Some (22, codes "task")
tasks_refused tasks app isnt = ap (λ (b : Bool). cond b None (Some (22, codes "task"))) (ne_eqb (length app.tasks) tasks isnt)

pub app_by_room : (bytes : List ℕ) (app : AppData) → length bytes ≤ file_limit → read_app bytes ≡ Ok app → app_refusal bytes ≡ room_refusal app
unfolding app_refusal
app_by_room bytes app le is = short file_limit bytes _ le ∙ ap (λ r. or_later (fault_in r) (room_refusal (application_of bytes))) is ∙ ap room_refusal (is_application bytes app is)

pub lacks_flash : (app : AppData) (needed : ℕ) → LacksRoom app (fault.Flash needed) → room_refusal app ≡ Some (21, codes "flash:" ++ decimal needed)
lacks_flash app needed h =
    let lacks : ltb app.flash (flash_needed app) ≡ true = let lt = h.0 in grind (arith, nat_tests) in
    let seen : List ℕ → Option Why = λ p. Some (21, codes "flash:" ++ p) in
    rw lacks (ap (λ n. seen (decimal n)) (sym h.1))

pub lacks_ram : (app : AppData) (needed : ℕ) → LacksRoom app (fault.Ram needed) → room_refusal app ≡ Some (21, codes "ram:" ++ decimal needed)
lacks_ram app needed h =
    let flash : ltb app.flash (flash_needed app) ≡ false = let le = h.0 in grind (arith, nat_tests) in
    let ram : ltb app.ram (ram_needed app) ≡ true = let lt = h.1 in grind (arith, nat_tests) in
    let seen : List ℕ → Option Why = λ p. Some (21, codes "ram:" ++ p) in
    rw (flash, ram) (ap (λ n. seen (decimal n)) (sym h.2))

pub has_room : (app : AppData) → HasRoom app → room_refusal app ≡ None
has_room app h =
    let flash : ltb app.flash (flash_needed app) ≡ false = let le = h.flash in grind (arith, nat_tests) in
    let ram : ltb app.ram (ram_needed app) ≡ false = let le = h.ram in grind (arith, nat_tests) in
    rw (flash, ram) refl

-- ## a source

by_cause : (app : AppData) (i : ℕ) (source : List ℕ) (o : Option (Cause × ℕ)) → length source ≤ file_limit → source_cause app i source ≡ o
    → source_refusal app i source ≡ or_later (option_map at_line o) (code_refusal app i source)
unfolding source_refusal
by_cause app i source o le is = short file_limit source _ le ∙ ap (λ p. or_later (option_map at_line p) (code_refusal app i source)) is

pub source_by_cause : (app : AppData) (i : ℕ) (source : List ℕ) (task cause line : ℕ) → length source ≤ file_limit → RefusesSource app i source (fault.Source task cause line)
    → source_refusal app i source ≡ Some (at_number (cause, line))
source_by_cause app i source task cause line le h =
    by_cause app i source (Some (h.1, line)) le h.2 ∙ ap (λ n. Some (at_number (n, line))) (sym h.3)

pub source_too_long : (app : AppData) (i : ℕ) (source : List ℕ) (task bytes : ℕ) → length source ≤ file_limit → RefusesSource app i source (fault.Code task bytes)
    → source_refusal app i source ≡ Some (at_number (15, bytes))
source_too_long app i source task bytes le h =
    let long = h.1 in
    let size : length long.code ≡ code_length app i source = image_sized (lines_of source) (flash_base app i) (given app i) long.code long.labels long.assembled in
    let above : ltb (task_at app i).flash (code_length app i source) ≡ true = let lt = long.above in grind (arith, nat_tests) in
    let code : code_refusal app i source ≡ Some (at_number (15, code_length app i source)) = rw above refl in
    by_cause app i source None le long.assembled.accepted ∙ code ∙ ap (λ n. Some (at_number (15, n))) (sym (long.is ∙ size))

pub source_taken : (app : AppData) (i : ℕ) (source : List ℕ) → length source ≤ file_limit → IsAcceptedSource app i source → source_refusal app i source ≡ None
source_taken app i source le h =
    let size : length h.code ≡ code_length app i source = image_sized (lines_of source) (flash_base app i) (given app i) h.code h.labels h.assembled in
    let fits : ltb (task_at app i).flash (code_length app i source) ≡ false = let at_most = h.fits in grind (arith, nat_tests) in
    let code : code_refusal app i source ≡ None = rw fits refl in
    by_cause app i source None le h.assembled.accepted ∙ code
