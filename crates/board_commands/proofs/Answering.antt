-- From a board to the answer of a command.
use Rattle.std.proofs.Common.{◌≡◌, ℕ, ◌≤◌, List, [], None, refl, ap, subst, arith, inl, inr, string_bytes}
use Rattle.kernel_abi.specs.Devices.{DeviceData}
use Rattle.board_core.specs.Data.{Shows}
use Rattle.board_core.specs.declared.board.Board.{Board}
use Rattle.board_model.specs.Script.{Scenario, start_of}
use Rattle.task_table.specs.model.State.{State}
use Rattle.board_core.specs.Stands.{Stands}
use Rattle.command_line.specs.declared.job.Detail.{Detail}
use Rattle.command_files.specs.declared.file_faults.NamedFault.{NamedFault}
use Rattle.command_files.specs.declared.file_faults.NamedFault.TheVariants as named_faults
use Rattle.command_files.specs.Contents.{Why}
use Rattle.outside_io.specs.Seen.{FilesSeen, SinkSeen}
use Rattle.command_files.specs.Sources.{File, scenario_in}
use Rattle.board_commands.specs.Sources.{state_by, state_files}
use Rattle.board_commands.specs.Ready.{IsResumable}
use Rattle.command_files.specs.Ready.{IsReady, IsNamedFaultIn}
use Rattle.command_files.specs.Pushed.{Pushed, whole, cut, Says, pushed, silent, SaysNamedFault}
use Rattle.command_files.specs.Verdict.{Verdict, refused, unread}
use Rattle.board_commands.specs.Verdict.{ran, saved, resumed, level_of, run_from, Resumes}
use Rattle.board_commands.specs.Fit.{IsOfRun, IsFitRun}
use Rattle.command_files.specs.Answer.{Tells, Reason, cannot_read, refuses, does, AnswersBy}
use Rattle.board_commands.proofs.Starting.{told_from_start, from_start}
use Rattle.board_commands.specs.Answer.{AnswersRun, TellsFit}
use Rattle.board_model.specs.Run.{Run}
use Rattle.command_files.proofs.Answering.{silent_short, put_nothing, tells_pushed, pushed_by, put_by}

-- ## a run from its start

-- a verdict of a run that was not written to its end has no status of a run
no_run : (r : ℕ) → 1 ≤ r → r ≤ 5 → IsOfRun r → ⊥
no_run r low high (inl z) = omega arith
no_run r low high (inr s) = omega arith

fault_fits : (n : ℕ) (detail : Detail) (w w' : SinkSeen) (v : Verdict) (r : ℕ) → 1 ≤ v.status → v.status ≤ 5 → Says w w' v r → TellsFit n detail v r
fault_fits n detail w w' v r low high (pushed (whole is text)) = λ told. absurd (no_run r (omega arith) (omega arith) told)
fault_fits n detail w w' v r low high (pushed (cut is rose front)) = λ told. absurd (no_run r (omega arith) (omega arith) told)
fault_fits n detail w w' v r low high (silent s) = λ told. let is = s.status in absurd (no_run r (omega arith) (omega arith) told)

pub run_said : {files_of : List ℕ → List File} {Does : List (List ℕ) → Verdict → Type 0} (n : ℕ) (detail : Detail) (a b : FilesSeen) (w w' : SinkSeen) (v : Verdict) (r : ℕ) → b.contents ≡ a.contents → v.put ≡ None → Reason files_of Does a b v → 1 ≤ v.status → v.status ≤ 5 → Says w w' v r
    → AnswersRun files_of Does n detail a b w w' r
run_said n detail a b w w' v r same none why low high (pushed p) = inr (v, why, tells_pushed a b w w' v r (put_nothing a b v same none) p, fault_fits n detail w w' v r low high (pushed p))
run_said n detail a b w w' v r same none why low high (silent s) = inl (silent_short a b w w' r same s)

pub run_named_fault : {files_of : List ℕ → List File} {Does : List (List ℕ) → Verdict → Type 0} (n : ℕ) (detail : Detail) (a b : FilesSeen) (w w' : SinkSeen) (h : NamedFault) (r : ℕ) → b.contents ≡ a.contents → IsNamedFaultIn files_of a b h → SaysNamedFault w w' h r → AnswersRun files_of Does n detail a b w w' r
run_named_fault n detail a b w w' named_faults.Memory r same h s = inl (silent_short a b w w' r same s)
run_named_fault n detail a b w w' (named_faults.CannotRead name) r same h s =
    let at = h.at.fault in
    let why = cannot_read h.at.file (record { contents = h.contents; reached = record { takes = h.at.takes; next = h.at.next }; rose = at.1.rose; named = at.1.named }) (ap (unread []) at.0) in
    run_said n detail a b w w' (unread [] (string_bytes name)) r same refl why (omega arith) (omega arith) s
run_named_fault n detail a b w w' (named_faults.Refused name cause place) r same h s =
    let at = h.at.fault in
    let reason : Why = (cause, string_bytes place) in
    let why = refuses h.at.file reason (record { contents = h.contents; reached = record { takes = h.at.takes; next = h.at.next }; refused = at.1 }) (ap (λ (l : List ℕ). refused l reason) at.0) in
    run_said n detail a b w w' (refused (string_bytes name) reason) r same refl why (omega arith) (omega arith) s

pub answers_run : {X : Type 0} {H : X → Type 0} {shown : Shows X H} {files_of : List ℕ → List File} {Does : List (List ℕ) → Verdict → Type 0} (a b : FilesSeen) (w w' : SinkSeen) (n : ℕ) (detail : Detail) (bd : Board X H) (r : ℕ) → b.contents ≡ a.contents → IsReady shown files_of Does a.contents (ran n detail) bd
    → ((x : Scenario) (s : State) → Stands shown x bd s → Pushed w w' (resumed n detail x s) r) → ((x : Scenario) → Stands shown x bd (start_of x) → IsOfRun r → IsFitRun x (run_from (level_of detail) n x (start_of x)))
    → AnswersRun files_of Does n detail a b w w' r
answers_run a b w w' n detail bd r same ready tells fits =
    let x = ready.scenario in
    let told : resumed n detail x (start_of x) ≡ ran n detail x = told_from_start n detail x bd ready.stands ready.turns in
    let whole_run = from_start (level_of detail) x bd n ready.stands ready.turns in
    let v = ran n detail x in
    let p = subst (λ (u : Verdict). Pushed w w' u r) told (tells x (start_of x) ready.stands) in
    inr (v, does ready.contents ready.accepted ready.done, tells_pushed a b w w' v r (put_nothing a b v same refl) p, (λ of_run. (x, refl, subst (λ (q : Run). IsFitRun x q) whole_run (fits x ready.stands of_run))))

-- ## a run that goes on, and one that is saved

pub answers_resumed : {X : Type 0} {H : X → Type 0} {shown : Shows X H} {devices : List DeviceData} (image script state : List ℕ) (a b : FilesSeen) (w w' : SinkSeen) (m : ℕ) (detail : Detail) (bd : Board X H) (r : ℕ) → b.contents ≡ a.contents
    → IsResumable shown devices image script state a.contents m bd → ((x : Scenario) (s : State) → Stands shown x bd s → Pushed w w' (resumed m detail x s) r) → AnswersBy (state_files devices image script state m) (Resumes m detail devices) a b w w' r
answers_resumed {devices = devices} image script state a b w w' m detail bd r same h tells =
    let x = scenario_in devices h.contents in
    pushed_by a b w w' (resumed m detail x (state_by devices h.contents)) r same refl
    (does h.contents h.accepted refl) (tells x (state_by devices h.contents) h.stands)

pub answers_saved : {X : Type 0} {H : X → Type 0} {shown : Shows X H} {files_of : List ℕ → List File} {Does : List (List ℕ) → Verdict → Type 0} (out : List ℕ) (a b c : FilesSeen) (w w' : SinkSeen) (n : ℕ) (bd : Board X H) (r : ℕ) → b.contents ≡ a.contents → b.put_faults ≡ a.put_faults
    → IsReady shown files_of Does a.contents (saved out n) bd → ((x : Scenario) → Stands shown x bd (start_of x) → Tells b c w w' (saved out n x) r) → AnswersBy files_of Does a c w w' r
answers_saved out a b c w w' n bd r same puts h tells =
    let x = h.scenario in
    put_by a b c w w' (saved out n x) r same puts (does h.contents h.accepted h.done) (tells x h.stands)
