-- The contents of a file: why they are refused, and what they say.
use Rattle.std.specs.Prelude.{ℕ, ◌^◌, ◌-◌, ◌==◌, min, nat_lt, if◌then◌else◌, List, [], ◌++◌, length, map, codes, decimal, Option, Some, None, option_map, Result, Ok, Err}
use Rattle.kernel_abi.specs.Devices.{DeviceData}
use Rattle.app_toml.specs.Apps.{AppData}
use Rattle.app_toml.specs.Reading.{read_app}
use Rattle.text_lines.specs.Text.{lines_of}
use Rattle.thumb_asm.specs.Causes.{cause_number}
use Rattle.thumb_asm.specs.declared.Cause.{Cause}
use Rattle.thumb_asm.specs.Passes.{size_from}
use Rattle.image_format.specs.ImageData.{ImageData, image_or_fault}
use Rattle.image_build.specs.Layout.{flash_base, flash_needed, ram_needed, task_at}
use Rattle.image_build.specs.Building.{source_cause}
use Rattle.task_table.specs.model.State.{Setup}
use Rattle.board_core.specs.Opened as opened
use Rattle.run_script.specs.Scripts.{ScriptData, script_or_fault}
use Rattle.board_model.specs.Script.{Scenario}
use Rattle.trace_audit.specs.Texts as trace
use Rattle.trace_audit.specs.Judgements.{first_cause}

-- the number of a cause, and the place as the line of the refusal has it
abbrev pub Why : Type 0
Why = ℕ × List ℕ

abbrev pub or_later : Option Why → Option Why → Option Why
or_later None later = later
or_later (Some why) later = Some why

-- a cause at a place that is a number: a byte of an image, or a line of a text
abbrev pub at_number : ℕ × ℕ → Why
at_number p = (p.0, decimal p.1)

abbrev pub fault_in : {T W : Type 0} → Result T W → Option W
fault_in (Ok value) = None
fault_in (Err why) = Some why

-- the most bytes of an image, a script, an application, a source, a saved state or commands
abbrev pub file_limit : ℕ
file_limit = 2097152

-- the most bytes of a trace
abbrev pub trace_limit : ℕ
trace_limit = 16777216

-- a file that is longer than its limit is refused for its length; otherwise its definition decides
abbrev pub unless_long : ℕ → List ℕ → Option Why → Option Why
unless_long limit bytes refusal = if nat_lt limit (length bytes) then Some (at_number (0, limit)) else refusal

-- ## an image

-- the image to use when there is none
abbrev pub no_picture : ImageData
no_picture = record { fault_bits = 0; ram = 0; tasks = []; lines = []; flash = [] }

abbrev pub image_in : Result ImageData (ℕ × ℕ) → ImageData
image_in (Ok image) = image
image_in (Err why) = no_picture

-- why an image is refused, if it is (docs/FORMATS.md, Image)
unfoldable pub image_refusal : List ℕ → Option Why
image_refusal bytes = unless_long file_limit bytes (option_map at_number (fault_in (image_or_fault bytes)))

-- the image that accepted bytes spell
unfoldable pub image_data_of : List ℕ → ImageData
image_data_of bytes = image_in (image_or_fault bytes)

-- what an image fixes once and for all
abbrev pub setup_of_image : ImageData → Setup
setup_of_image image = opened.setup_of_image image

-- ## a script

-- the script to use when there is none
abbrev pub no_script : ScriptData
no_script = record { every = None; events = [] }

abbrev pub script_in : Result ScriptData (ℕ × ℕ) → ScriptData
script_in (Ok script) = script
script_in (Err why) = no_script

-- why a script is refused, if it is (docs/FORMATS.md, Script)
unfoldable pub script_refusal : List ℕ → Option Why
script_refusal bytes = unless_long file_limit bytes (option_map at_number (fault_in (script_or_fault bytes)))

-- the script that accepted bytes say
unfoldable pub script_of : List ℕ → ScriptData
script_of bytes = script_in (script_or_fault bytes)

-- ## an application

-- the application to use when there is none
abbrev pub no_app : AppData
no_app = record { flash = 0; ram = 0; fault = []; tasks = []; regions = []; devices = []; interrupts = [] }

abbrev pub app_in : Result AppData Why → AppData
app_in (Ok app) = app
app_in (Err why) = no_app

-- the application that accepted bytes describe
unfoldable pub application_of : List ℕ → AppData
application_of bytes = app_in (read_app bytes)

-- how many bytes are needed, at most 2^64 - 1
abbrev pub need_text : ℕ → List ℕ
need_text needed = decimal (min needed (2 ^ 64 - 1))

-- the board has no room for the application's memory; flash is looked at first (docs/FORMATS.md, Building)
abbrev pub room_refusal : AppData → Option Why
room_refusal app = if nat_lt app.flash (flash_needed app) then Some (21, codes "flash:" ++ need_text (flash_needed app))
    else if nat_lt app.ram (ram_needed app) then Some (21, codes "ram:" ++ need_text (ram_needed app))
    else None

-- why an application is refused, if it is: for its description (docs/FORMATS.md, Application) or its plan
unfoldable pub app_refusal : List ℕ → Option Why
app_refusal bytes = unless_long file_limit bytes (or_later (fault_in (read_app bytes)) (room_refusal (application_of bytes)))

-- ## the source of a task

abbrev pub at_line : Cause × ℕ → Why
at_line p = at_number (cause_number p.0, p.1)

-- how many bytes a source is assembled to
abbrev pub code_length : AppData → ℕ → List ℕ → ℕ
code_length app i source = size_from (flash_base app i) (lines_of source)

-- a source is assembled to more bytes than the task's flash has
abbrev pub code_refusal : AppData → ℕ → List ℕ → Option Why
code_refusal app i source =
    if nat_lt (task_at app i).flash (code_length app i source) then Some (at_number (15, code_length app i source)) else None

-- why the i-th task's source is refused, if it is: for the assembler's first cause (docs/FORMATS.md,
-- Assembler) or its length
unfoldable pub source_refusal : AppData → ℕ → List ℕ → Option Why
source_refusal app i source = unless_long file_limit source (or_later (option_map at_line (source_cause app i source)) (code_refusal app i source))

-- ## a trace

-- why a trace is refused, if it is: its first line that is no text of a trace (docs/FORMATS.md, Audit)
unfoldable pub trace_refusal : List ℕ → Option Why
trace_refusal bytes = unless_long trace_limit bytes (option_map at_number (first_cause 1 (trace.lines_of bytes)))

-- ## names of tasks

-- the application has a different number of tasks
abbrev pub tasks_refusal : ℕ → AppData → Option Why
tasks_refusal tasks app = if length app.tasks == tasks then None else Some (22, codes "task")

-- Why an application is refused that is to name this many tasks, if it is: for its description
-- (docs/FORMATS.md, Application) or its number of tasks.
unfoldable pub names_refusal : ℕ → List ℕ → Option Why
names_refusal tasks bytes = unless_long file_limit bytes (or_later (fault_in (read_app bytes)) (tasks_refusal tasks (application_of bytes)))

-- the names that it gives the tasks
abbrev pub names_in : List ℕ → List (List ℕ)
names_in bytes = map (λ t. t.name) (application_of bytes).tasks

-- ## a run

-- the run of an image with a script and devices
abbrev pub scenario_of : ImageData → List ℕ → List DeviceData → Scenario
scenario_of image script devices = record { setup = setup_of_image image; script = script_of script; devices = devices }
