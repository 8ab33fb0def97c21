-- Lines that are carried out as they come: from their files to the answer.
use Rattle.std.proofs.Common.{◌≡◌, ℕ, ◌≤◌, List, [], ◌∷◌, ◌++◌, take, Option, Some, None, refl, sym, subst, ◌∙◌, arith, inl, inr}
use Rattle.std.proofs.lemmas.List.{take_all}
use Rattle.std.proofs.lemmas.Option.{same_Some}
use Rattle.std.specs.Io.KnownBytes.{Appends}
use Rattle.kernel_abi.specs.Devices.{AreFresh, DeviceData}
use Rattle.image_format.specs.ImageData.{ImageData}
use Rattle.board_model.specs.Script.{Scenario, start_of}
use Rattle.board_core.specs.Data.{Shows}
use Rattle.board_core.specs.declared.board.Board.{Board}
use Rattle.board_core.specs.Stands.{Stands}
use Rattle.debug_core.specs.Live.{BreaksTelling, BreaksUnread, MayBeTaken, TellsLive, begun_text, live_limit, live_text}
use Rattle.debug_core.specs.Session.{opened}
use Rattle.command_line.specs.CommandLine.{live}
use Rattle.outside_io.specs.Outside.{WhereSeen, Rose, IsFront, AppendsFront}
use Rattle.outside_io.specs.Seen.{FilesSeen, SinkSeen}
use Rattle.outside_io.proofs.Pushing.{appends_more, front_more}
use Rattle.command_files.specs.Contents.{image_data_of, scenario_of}
use Rattle.command_files.specs.Sources.{image_file, script_file, MayBe, Takes, TakesAll}
use Rattle.trace_cli.specs.Sources.{lines_file}
use Rattle.command_files.specs.FileFaults.{IsCannotRead}
use Rattle.command_files.specs.Ready.{IsRunSet, TakesImage}
use Rattle.command_files.specs.Pushed.{Pushed, whole, cut}
use Rattle.trace_cli.specs.Pushed.{SaysLive, ended, broken, unsaid}
use Rattle.command_files.specs.Verdict.{line_alone, unread, unread_line}
use Rattle.trace_cli.specs.Verdict.{lived}
use Rattle.trace_cli.specs.Answer.{JobReason, cannot_read, does, AnswersJob}
use Rattle.command_files.proofs.Faulting.{read_earlier}
use Rattle.command_files.proofs.Lists.{takes_none, takes_first}
use Rattle.command_files.proofs.Answering.{silent_short}
use Rattle.trace_cli.proofs.Readying.{answers_pushed}
use Rattle.trace_cli.specs.Sources.{files_of}

-- ## the files

pub takes_lines : {devices : List DeviceData} (fresh : AreFresh devices) (image script name : List ℕ) → TakesImage (files_of devices (live image script name)) image script
takes_lines {devices} fresh image script name = record { more = λ _. lines_file name ∷ []; files = λ first. refl }

-- ## what was told, and a line behind it

pub pushed_behind : (w v w' : SinkSeen) (told line : List ℕ) (r : ℕ) → Appends w.written v.written told → w.faults ≤ v.faults → Pushed v w' (line_alone 3 line) r → Pushed w w' (line_alone 3 (told ++ line)) r
pushed_behind w v w' told line r before later (whole is text) = whole is (appends_more _ _ _ told line before text)
pushed_behind w v w' told line r before later (cut is rose front) = cut is (omega (arith, rose, later)) (front_more _ _ _ told line before front)

-- ## what a session of the debugger told of a file

-- contents that are those that are seen, where some are, and of which it took the front
taken_of : (contents : Option (List ℕ)) (P : List ℕ → Type 0) (bytes : List ℕ) → MayBeTaken contents bytes → P bytes → (all : List ℕ) × WhereSeen contents (λ c. all ≡ c) × P (take live_limit all)
taken_of None P bytes taken told = (bytes, (λ c is. absurd (cc)), subst P (sym (take_all live_limit bytes taken.few)) told)
taken_of (Some all) P bytes taken told = (all, (λ c is. same_Some all c is), subst P (taken.front all refl) told)

pub says_ended : (x : Scenario) (name : List ℕ) (a b : FilesSeen) (w w' : SinkSeen) → TellsLive x opened name a b w w' → SaysLive x name a b w w' 0
says_ended x name a b w w' t = let h = taken_of (a.contents name) (λ bytes. Appends w.written w'.written (live_text x opened bytes)) t.bytes t.taken t.told in ended h.0 h.1 (whole refl h.2)

pub says_cut : (x : Scenario) (name : List ℕ) (a b : FilesSeen) (w w' : SinkSeen) → Rose w.faults w'.faults → BreaksTelling x opened name a w w' → SaysLive x name a b w w' 4
says_cut x name a b w w' rose t = let h = taken_of (a.contents name) (λ bytes. AppendsFront w.written w'.written (live_text x opened bytes)) t.bytes t.taken t.told in ended h.0 h.1 (cut refl rose h.2)

pub says_broken : (x : Scenario) (name : List ℕ) (a b : FilesSeen) (w v w' : SinkSeen) (r : ℕ) → IsCannotRead a b name → w.faults ≤ v.faults → BreaksUnread x opened name a b w v → Pushed v w' (line_alone 3 (unread_line name)) r
    → SaysLive x name a b w w' r
says_broken x name a b w v w' r failed later t p =
    let told : Appends w.written v.written (begun_text x opened t.begun.front) = subst (λ text. Appends w.written v.written text) t.begun.is t.told in
    broken t.begun.front t.begun.held failed (pushed_behind w v w' (begun_text x opened t.begun.front) (unread_line name) r told later p)

-- ## the answer to the job, where its image and its script are accepted and its lines come of a file

module _ {X : Type 0} {H : X → Type 0} {shown : Shows X H} {devices : List DeviceData} (image script name : List ℕ) (a b c : FilesSeen) (w w' : SinkSeen) (bd : Board X H) (r : ℕ) (before : b.contents ≡ a.contents) (after : c.contents ≡ b.contents)
    (later : a.read_faults ≤ b.read_faults) (h : IsRunSet shown devices image script a.contents bd) where
  abbrev scenario : Scenario
  scenario = scenario_of (image_data_of h.of_image.bytes) h.set.script devices

  stands : Stands shown scenario bd (start_of scenario)
  stands = let P : ImageData → Type 0 = λ p. Stands shown (scenario_of p h.set.script devices) bd (start_of (scenario_of p h.set.script devices)) in subst P h.of_image.is h.set.stands

  takes_two : Takes (MayBe a.contents) (image_file image ∷ script_file script ∷ lines_file name ∷ []) (h.of_image.bytes ∷ h.set.script ∷ [])
  takes_two =
      takes_first (MayBe a.contents) (image_file image) (script_file script ∷ lines_file name ∷ []) h.of_image.bytes (h.set.script ∷ []) h.of_image.held h.of_image.accepted
      (takes_first (MayBe a.contents) (script_file script) (lines_file name ∷ []) h.set.script [] h.set.held h.set.accepted (takes_none (MayBe a.contents) (lines_file name ∷ [])))

  takes_three : (bytes : List ℕ) → MayBe a.contents name bytes → TakesAll (MayBe a.contents) (files_of devices (live image script name)) (h.of_image.bytes ∷ h.set.script ∷ bytes ∷ [])
  takes_three bytes held = record {
    takes = takes_first (MayBe a.contents) (image_file image) (script_file script ∷ lines_file name ∷ []) h.of_image.bytes (h.set.script ∷ bytes ∷ []) h.of_image.held h.of_image.accepted
        (takes_first (MayBe a.contents) (script_file script) (lines_file name ∷ []) h.set.script (bytes ∷ []) h.set.held h.set.accepted
        (takes_first (MayBe a.contents) (lines_file name) [] bytes [] held refl (takes_none (MayBe a.contents) [])));
    all = refl;
  }

  broken_off : (front : List ℕ) → WhereSeen (a.contents name) (IsFront front) → IsCannotRead a c name → JobReason devices (live image script name) a c (unread (begun_text scenario opened front) name)
  broken_off front held failed =
      cannot_read (lines_file name) (record {
        contents = h.of_image.bytes ∷ h.set.script ∷ [];
        reached = record { takes = takes_two; next = refl };
        rose = failed.rose;
        named = failed.named;
        told = begun_text scenario opened front;
        was_told = inr (refl, record { front = front; held = held; is = refl });
      }) refl

  by_said : SaysLive scenario name b c w w' r → AnswersJob devices (live image script name) a c w w' r
  by_said (ended bytes held p) =
      let here : MayBe a.contents name bytes = subst (λ t. MayBe t name bytes) before held in
      answers_pushed (live image script name) a c w w' (lived scenario bytes) r (after ∙ before) refl
      (does (h.of_image.bytes ∷ h.set.script ∷ bytes ∷ []) (takes_three bytes here) refl) tt p
  by_said (broken front held failed p) =
      let here : WhereSeen (a.contents name) (IsFront front) = subst (λ t. WhereSeen (t name) (IsFront front)) before held in
      answers_pushed (live image script name) a c w w' (unread (begun_text scenario opened front) name) r (after ∙ before) refl
      (broken_off front here (read_earlier a b c name later failed)) tt p
  by_said (unsaid s) = inl (silent_short a c w w' r (after ∙ before) s)

  pub answers_live : ((x : Scenario) → Stands shown x bd (start_of x) → SaysLive x name b c w w' r) → AnswersJob devices (live image script name) a c w w' r
  answers_live says = by_said (says scenario stands)
