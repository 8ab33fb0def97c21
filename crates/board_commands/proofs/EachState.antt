-- What is told from each state that the file of `resume` spells.
use Rattle.std.proofs.Common.{◌≡◌, ◌≤◌, ◌⊎◌, ℕ, List, [], Option, Some, refl, sym, subst, ◌∙◌, inl, inr, None, string_bytes}
use Rattle.std.specs.Prelude.{slice_index_or}
use Rattle.kernel_abi.specs.Devices.{DeviceData}
use Rattle.task_table.specs.model.State.{State}
use Rattle.task_table.specs.model.Sane.{Sane}
use Rattle.board_model.specs.Script.{Scenario, start_of}
use Rattle.board_core.specs.Data.{Shows}
use Rattle.board_core.specs.declared.board.Board.{Board}
use Rattle.board_core.specs.Stands.{Stands}
use Rattle.command_line.specs.declared.job.Detail.{Detail}
use Rattle.outside_io.specs.Seen.{FilesSeen, SinkSeen}
use Rattle.command_files.specs.declared.file_faults.NamedFault.{NamedFault}
use Rattle.command_files.specs.declared.file_faults.NamedFault.TheVariants as named_faults
use Rattle.command_files.specs.Contents.{Why, image_refusal, script_refusal, image_data_of, scenario_of}
use Rattle.command_files.specs.Sources.{File, MayBeRefused, image_file, script_file, scenario_in}
use Rattle.board_commands.specs.Ready.{StartsWell, StartsSeen, StartsUnless, IsResumable}
use Rattle.command_files.specs.Ready.{IsNamedFaultIn}
use Rattle.command_files.specs.Pushed.{Pushed, Says, pushed, silent, SaysNamedFault}
use Rattle.command_files.specs.Verdict.{Verdict, unread}
use Rattle.board_commands.specs.Verdict.{resumed}
use Rattle.command_files.specs.Answer.{IsShort, Tells}
use Rattle.board_commands.specs.Answer.{IsFromSpelled, TellsUnread, TellsResumed}
use Rattle.command_files.proofs.Faulting.{where_seen}
use Rattle.command_files.proofs.Answering.{silent_short, put_nothing, tells_pushed}
use Rattle.board_commands.specs.Sources.{state_files}
use Rattle.command_files.proofs.Agreeing.{FirstIsOne, same_contents, no_refusal, refused_not_done}
use Rattle.command_files.specs.Answer as answer

-- where memory is short
pub short_each : (devices : List DeviceData) (image script file : List ℕ) (m : ℕ) (detail : Detail) (a b : FilesSeen) (w w' : SinkSeen) (r : ℕ) → IsShort a b w w' r → TellsResumed devices image script file m detail a b w w' r
short_each devices image script file m detail a b w w' r s = record { starts = λ ib sb has_image has_script image_ok script_ok. inr (inr s); each = λ cs v all from. inl (answer.short s) }

-- the first file is the image
one : (devices : List DeviceData) (image script file : List ℕ) (m : ℕ) → FirstIsOne (state_files devices image script file m)
one devices image script file m = λ x y. refl

-- ## a board that stands for each

-- what follows from a sane start, by contents
abbrev FromStart : List DeviceData → Verdict → ℕ → Detail → List (List ℕ) → Type 0
FromStart devices v n detail contents =
    let x = scenario_in devices contents in
    Sane x.setup (start_of x) → IsFromSpelled n detail x (slice_index_or contents 2 []) v

module _ {X : Type 0} {H : X → Type 0} {shown : Shows X H} {devices : List DeviceData} (image script file : List ℕ) (a b : FilesSeen) (w w' : SinkSeen) (m : ℕ) (detail : Detail) (bd : Board X H) (r : ℕ) (stays : b.contents ≡ a.contents)
    (h : IsResumable shown devices image script file a.contents m bd) (tells : (x : Scenario) (s : State) → Stands shown x bd s → Pushed w w' (resumed m detail x s) r) where
  -- by the contents that were read
  told_of : (v : Verdict) → IsFromSpelled m detail (scenario_in devices h.contents) (slice_index_or h.contents 2 []) v → Tells a b w w' v r
  told_of v from =
      let x = scenario_in devices h.contents in
      let u = resumed m detail x from.state in
      subst (λ (z : Verdict). Tells a b w w' z r) (sym from.is) (tells_pushed a b w w' u r (put_nothing a b u stays refl) (tells x from.state (h.each from.state from.spelled)))

  pub told_each : m ≤ 1000000000 → StartsSeen devices a.contents image script → TellsResumed devices image script file m detail a b w w' r
  told_each few started = record {
    starts = λ ib sb has_image has_script image_ok script_ok. inl (started ib sb has_image has_script, few);
    each = λ cs v all from.
        let same : cs ≡ h.contents = same_contents a.contents (state_files devices image script file m) (one devices image script file m) cs h.contents all.takes h.accepted.takes (sym all.all ∙ h.accepted.all) in
        let here : FromStart devices v m detail h.contents = subst (FromStart devices v m detail) same from in
        inl (told_of v (here h.start));
  }

-- ## a file that is not accepted

said : (a b : FilesSeen) (w w' : SinkSeen) (v : Verdict) (r : ℕ) → b.contents ≡ a.contents → v.put ≡ None → Says w w' v r → Tells a b w w' v r
said a b w w' v r same none (pushed p) = tells_pushed a b w w' v r (put_nothing a b v same none) p
said a b w w' v r same none (silent s) = answer.short (silent_short a b w w' r same s)

-- a file of which the contents are seen and accepted is not refused
seen_accepted : (seen : List ℕ → Option (List ℕ)) (f : File) (why : Why) (bytes : List ℕ) → seen f.name ≡ Some bytes → f.refusal bytes ≡ None → MayBeRefused seen f why → ⊥
seen_accepted seen f why bytes has ok h = no_refusal f bytes why (where_seen seen f why h bytes has) ok

-- so where neither the image nor the script is refused, it is another file, and the run of the two starts well
others_start : {devices : List DeviceData} (seen : List ℕ → Option (List ℕ)) (image script : List ℕ) (why : Why) {A B : Type 0} → (A × MayBeRefused seen (image_file image) why) ⊎ ((B × MayBeRefused seen (script_file script) why) ⊎ StartsSeen devices seen image script)
    → (ib sb : List ℕ) → seen image ≡ Some ib → seen script ≡ Some sb → image_refusal ib ≡ None → script_refusal sb ≡ None → StartsWell (scenario_of (image_data_of ib) sb devices)
others_start seen image script why (inl fault) ib sb has_image has_script image_ok script_ok = absurd (seen_accepted seen (image_file image) why ib has_image image_ok fault.1)
others_start seen image script why (inr (inl fault)) ib sb has_image has_script image_ok script_ok = absurd (seen_accepted seen (script_file script) why sb has_script script_ok fault.1)
others_start seen image script why (inr (inr started)) ib sb has_image has_script image_ok script_ok = started ib sb has_image has_script

pub fault_each : {devices : List DeviceData} (image script file : List ℕ) (m : ℕ) (detail : Detail) (a b : FilesSeen) (w w' : SinkSeen) (h : NamedFault) (r : ℕ) → b.contents ≡ a.contents → m ≤ 1000000000
    → IsNamedFaultIn (state_files devices image script file m) a b h → StartsUnless devices a b image script h → SaysNamedFault w w' h r → TellsResumed devices image script file m detail a b w w' r
fault_each {devices} image script file m detail a b w w' named_faults.Memory r same few h unless s = short_each devices image script file m detail a b w w' r (silent_short a b w w' r same s)
fault_each {devices} image script file m detail a b w w' (named_faults.CannotRead name) r same few h unless s =
    let at = h.at.fault in
    let told : TellsUnread (state_files devices image script file m) a b w w' r = record {
      file = h.at.file;
      is = record { contents = h.contents; reached = record { takes = h.at.takes; next = h.at.next }; rose = at.1.rose; named = at.1.named };
      tells = subst (λ (n : List ℕ). Tells a b w w' (unread [] n) r) at.0 (said a b w w' (unread [] (string_bytes name)) r same refl s);
    } in
    record { starts = λ ib sb has_image has_script image_ok script_ok. inr (inl told); each = λ cs v all from. inr told }
fault_each {devices} image script file m detail a b w w' (named_faults.Refused name cause place) r same few h unless s =
    let why : Why = (cause, string_bytes place) in
    record {
      starts = λ ib sb has_image has_script image_ok script_ok. inl (others_start a.contents image script why unless ib sb has_image has_script image_ok script_ok, few);
      each = λ cs v all from. absurd (refused_not_done a.contents (state_files devices image script file m) (one devices image script file m) h.at.file why cs (record { contents = h.contents; reached = record { takes = h.at.takes; next = h.at.next }; refused = h.at.fault.1 }) all);
    }
