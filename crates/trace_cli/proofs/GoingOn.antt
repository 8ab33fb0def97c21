-- What is told from the state that is saved of a run: what is left of that run.
use Rattle.std.proofs.Common.{◌≡◌, ℕ, ◌+◌, ◌-◌, ◌≤◌, ◌⊎◌, Bool, true, false, List, [], ◌∷◌, ◌++◌, length, Some, None, refl, sym, ap, ◌∙◌, inl, inr, arith}
use Rattle.kernel_abi.specs.Devices.{DeviceData}
use Rattle.outside_io.specs.Seen.{FilesSeen, SinkSeen}
use Rattle.task_table.specs.model.State.{Setup}
use Rattle.task_table.specs.model.Sane.{Sane}
use Rattle.board_model.specs.declared.outcomes.Level.TheVariants.{Calls}
use Rattle.board_model.specs.Alike.{reduced}
use Rattle.board_model.specs.Cut.{from_turn, left_of}
use Rattle.board_model.specs.Run.{Run, run}
use Rattle.board_model.specs.Script.{Scenario, start_of}
use Rattle.board_model.proofs.AlikeRuns.{reduced-run}
use Rattle.board_model.proofs.Counts.{counted_run, counted_first}
use Rattle.board_model.proofs.RunKeeps.{sane_run}
use Rattle.board_model.proofs.RunCuts.{rest_of_run as rest_at_cut, sane-cut}
use Rattle.board_model.proofs.SaneReduced.{sane-reduced}
use Rattle.board_core.proofs.Running.{turn_started}
use Rattle.board_run.specs.Text.{trace_text}
use Rattle.board_run.specs.MemoryText.{memory_text}
use Rattle.board_run.proofs.GenerationsTold.{memory_alike, text_alike}
use Rattle.command_line.specs.CommandLine.{Asked, resume}
use Rattle.command_line.specs.declared.job.Detail.{Detail}
use Rattle.snapshot.specs.declared.records.Header.{Header}
use Rattle.snapshot.specs.Records.{header_at}
use Rattle.snapshot.specs.Saved.{parts_of}
use Rattle.snapshot.proofs.Places.{header_place}
use Rattle.snapshot.proofs.Runs.{turn_reduced, counted_reduced, large_run, sites_run, saved_run}
use Rattle.snapshot.proofs.StandsForSome.{parts_stood, spelling_long, spells}
use Rattle.command_files.specs.Contents.{file_limit, image_data_of, scenario_of}
use Rattle.board_commands.specs.Contents.{state_refusal}
use Rattle.trace_cli.specs.Words.{job_in}
use Rattle.command_files.specs.Sources.{File, image_file, script_file, Are, TakesAll}
use Rattle.board_commands.specs.Sources.{state_file, state_files}
use Rattle.board_commands.specs.Ready.{StartsWell, IsSpelled}
use Rattle.command_files.specs.Verdict.{Verdict, line_alone, status_of}
use Rattle.board_commands.specs.Verdict.{level_of, memory_if, rest_of_run, resumed, run_of, saved_bytes}
use Rattle.command_files.specs.Answer as command
use Rattle.trace_cli.specs.Answer.{Answered, GoesOn, TellsEach}
use Rattle.board_commands.specs.Answer.{IsFromSpelled, TellsResumed, TellsUnread}
use Rattle.command_files.specs.Answer.{IsShort, Tells}
use Rattle.command_files.proofs.Lists.{takes_first, takes_none}
use Rattle.board_commands.proofs.Refusals.{state_taken}

-- the memory of two runs, where it is asked for
memory_if_alike : (mem : Bool) (g : Setup) (r q : Run) → memory_text g r.last ≡ memory_text g q.last → memory_if mem g r.last ≡ memory_if mem g q.last
memory_if_alike true g r q same = same
memory_if_alike false g r q same = refl

-- what is told of a run
abbrev told : Detail → Setup → Run → Verdict
told detail g r = line_alone (status_of r.end) (trace_text r ++ memory_if detail.memory g r.last)

-- two runs are told alike that have the same notes and the same end, and the same last state but for births
told_alike : (detail : Detail) (g : Setup) (r q : Run) → r.notes ≡ q.notes → r.end ≡ q.end → reduced r.last ≡ reduced q.last → told detail g r ≡ told detail g q
told_alike detail g r q notes end last =
    let text : trace_text r ≡ trace_text q = text_alike r q end last notes in
    let memory : memory_if detail.memory g r.last ≡ memory_if detail.memory g q.last = memory_if_alike detail.memory g r q (memory_alike r q end last g) in
    λ j. line_alone (status_of (end j)) (text j ++ memory j)

-- from the state of turn k, up to turn m
pub told_rest : (n m : ℕ) (detail : Detail) (x : Scenario) → Sane x.setup (start_of x) → (run_of Calls n x).last.turn ≤ m
    → resumed m detail x (reduced (run_of Calls n x).last) ≡ rest_of_run (run_of Calls n x).last.turn m detail x
told_rest n m detail x sane le =
    let s = start_of x in
    let u = (run_of Calls n x).last in
    let level = level_of detail in
    let none : 0 ≡ s.turn = turn_started x.setup x.devices in
    let few : u.turn ≤ s.turn + m = omega arith in
    let same : (reduced u).turn ≡ u.turn = turn_reduced u in
    let count : m - (reduced u).turn ≡ left_of m s u = omega arith in
    let rest : run level x (left_of m s u) u ≡ from_turn u.turn (run level x m s) = rest_at_cut level Calls x n m s sane few in
    let alike = reduced-run level x (left_of m s u) u (sane-cut Calls x n s sane) in
    ap (λ (k : ℕ). told detail x.setup (run level x k (reduced u))) count
    ∙ told_alike detail x.setup (run level x (left_of m s u) (reduced u)) (from_turn u.turn (run level x m s)) (alike.notes ∙ ap (λ (r : Run). r.notes) rest) (alike.end ∙ ap (λ (r : Run). r.end) rest) (alike.last ∙ ap (λ (r : Run). reduced r.last) rest)

-- ## the state that is saved

-- where the run starts well, the bytes that `save` puts spell the state that they are of
pub saved_spelled : (n : ℕ) (x : Scenario) → StartsWell x → IsSpelled x (saved_bytes n x) (reduced (run_of Calls n x).last)
saved_spelled n x well =
    let s = start_of x in
    let u = (run_of Calls n x).last in
    let sane = sane_run Calls x n s well.sane in
    record {
      spells = spells x.setup u (saved_bytes n x) sane (large_run Calls x n well.sane) refl;
      sane = sane-reduced x.setup u sane;
      counted = counted_reduced u (counted_run Calls x n s well.sane well.events (counted_first x));
      sites = sites_run Calls x n well.sane;
    }

-- they are of the turn at their head, and fit into a file
saved_turn : (n : ℕ) (x : Scenario) → Sane x.setup (start_of x) → (run_of Calls n x).last.turn ≡ (header_at (saved_bytes n x)).turn
saved_turn n x started =
    let u = (run_of Calls n x).last in
    sym (ap (λ (h : Header). h.turn) (header_place (parts_of (reduced u)) (parts_stood x.setup u (sane_run Calls x n (start_of x) started))) ∙ turn_reduced u)

saved_short : (n : ℕ) (x : Scenario) → StartsWell x → length (saved_bytes n x) ≤ file_limit
saved_short n x well =
    let u = (run_of Calls n x).last in
    let sane = sane_run Calls x n (start_of x) well.sane in
    let many = sane.steady.as_many in
    let tasks = well.tasks in
    let devices = sane.steady.devices.few in
    let ram = (large_run Calls x n well.sane).ram in
    let room = well.ram in
    let long = spelling_long x.setup u sane in
    omega (arith, long, many, tasks, devices, ram, room)

-- so they are accepted, up to any bound that is not behind them
saved_taken : (n m : ℕ) (image script : List ℕ) (devices : List DeviceData) → StartsWell (scenario_of (image_data_of image) script devices) → m ≤ 1000000000 → (run_of Calls n (scenario_of (image_data_of image) script devices)).last.turn ≤ m
    → state_refusal devices (image_data_of image) m (saved_bytes n (scenario_of (image_data_of image) script devices)) ≡ None
saved_taken n m image script devices well most few =
    let x : Scenario = scenario_of (image_data_of image) script devices in
    let tasks : length x.setup.tasks ≤ 1024 = let tasks = well.tasks in omega arith in
    let turns : (run_of Calls n x).last.turn ≤ 1000000000 = omega (arith, few, most) in
    state_taken devices (image_data_of image) m (run_of Calls n x).last.turn (saved_bytes n x) (saved_short n x well)
    (saved_run Calls x n well.sane well.events tasks turns) (saved_turn n x well.sane) few

-- and what is told from there is the rest of the run
rest_spelled : (n m : ℕ) (detail : Detail) (x : Scenario) → StartsWell x → (run_of Calls n x).last.turn ≤ m → IsFromSpelled m detail x (saved_bytes n x) (rest_of_run (run_of Calls n x).last.turn m detail x)
rest_spelled n m detail x well few =
    record { state = reduced (run_of Calls n x).last; spelled = saved_spelled n x well; is = sym (told_rest n m detail x well.sane few) }

-- ## the answer

pub goes_on : {devices : List DeviceData} (words : List (List ℕ)) (a b : FilesSeen) (w w' : SinkSeen) (r : ℕ) → ((job : Asked) → job_in words ≡ Some job → TellsEach devices job a b w w' r) → GoesOn devices words a b w w' r
goes_on {devices} words a b w w' r each = λ image_name script_name state_name image script m n detail at has_image has_script has_state image_ok script_ok few.
    let x : Scenario = scenario_of (image_data_of image) script devices in
    let bytes : List ℕ = saved_bytes n x in
    let contents : List (List ℕ) = image ∷ script ∷ bytes ∷ [] in
    let file : File = state_file devices (image_data_of image) m state_name in
    let rest : Verdict = rest_of_run (run_of Calls n x).last.turn m detail x in
    let told : TellsResumed devices image_name script_name state_name m detail a b w w' r = each (resume image_name script_name state_name m detail) at in
    let by_start : StartsWell x × (m ≤ 1000000000) → Answered devices words a b w w' rest r = λ well.
    let state_ok : state_refusal devices (image_data_of image) m bytes ≡ None = saved_taken n m image script devices well.0 well.1 few in
    let all : TakesAll (Are a.contents) (state_files devices image_name script_name state_name m) contents = record {
      takes = takes_first (Are a.contents) (image_file image_name) (script_file script_name ∷ file ∷ []) image (script ∷ bytes ∷ []) has_image image_ok
          (takes_first (Are a.contents) (script_file script_name) (file ∷ []) script (bytes ∷ []) has_script script_ok
          (takes_first (Are a.contents) file [] bytes [] has_state state_ok (takes_none (Are a.contents) [])));
      all = refl;
    } in
    by image_name script_name state_name m detail rest at (told.each contents rest all (λ started. rest_spelled n m detail x well.0 few)) in
    by_well image_name script_name state_name m detail rest at by_start (told.starts image script has_image has_script image_ok script_ok)
  where
    by : (image script state : List ℕ) (m : ℕ) (detail : Detail) (v : Verdict) → job_in words ≡ Some (resume image script state m detail) → Tells a b w w' v r ⊎ TellsUnread (state_files devices image script state m) a b w w' r → Answered devices words a b w w' v r
    by image script state m detail v at (inl t) = inl t
    by image script state m detail v at (inr t) = inr (record {
      job = resume image script state m detail;
      command = at;
      file = t.file;
      is = record { contents = t.is.contents; reached = record { takes = t.is.reached.takes; next = t.is.reached.next }; rose = t.is.rose; named = t.is.named; told = []; was_told = refl };
      tells = t.tells;
    })

    by_well : {W : Type 0} (image script state : List ℕ) (m : ℕ) (detail : Detail) (v : Verdict) → job_in words ≡ Some (resume image script state m detail) → (W → Answered devices words a b w w' v r) → W ⊎ (TellsUnread (state_files devices image script state m) a b w w' r ⊎ IsShort a b w w' r) → Answered devices words a b w w' v r
    by_well image script state m detail v at well (inl started) = well started
    by_well image script state m detail v at well (inr (inl t)) = by image script state m detail v at (inr t)
    by_well image script state m detail v at well (inr (inr s)) = inl (command.short s)
