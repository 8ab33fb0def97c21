use Rattle.std.proofs.Common.{◌≡◌, ◌++◌, ◌∷◌, [], ◌∙◌, ℕ, List, ap, arith, get_or, length, map, sym}
use Rattle.std.proofs.lemmas.List.{get_or-map, length-map, map-append}
use Rattle.std.proofs.lemmas.List.FromFn.{map-range_with_len_more}
use Rattle.std.specs.Prelude.{slice_index_or}
use Rattle.std.specs.List.{range_with_len}
use Rattle.app_toml.specs.Apps.{AppData, TaskData}
use Rattle.app_toml.specs.Held.{app_of}
use Rattle.app_toml.specs.Sites.{task_of}
use Rattle.image_build.specs.Layout.{no_task, task_at}
use Rattle.run_cover.specs.Tracefile.{Section, section_of}
use Rattle.thumb_asm.specs.declared.listing.InsnLine.{InsnLine}
use Rattle.command_files.specs.Building.{kept_lines}
use Rattle.trace_cli.proofs.commands.lcov.sources_of.Goals as goal

abbrev section : List ℕ → List InsnLine → Section
section name lines = record { name = name; lines = lines }

-- that of the i-th task
abbrev section_at : AppData → List (List InsnLine) → ℕ → Section
section_at app lists i = section (task_at app i).source (slice_index_or lists i [])

pub loop-i-preserved : goal.loop-i-preserved
loop-i-preserved c =
    let i = c.loop-i.i in
    let tasks = c.tasks-tasks.result.now in
    let task = c.index-tasks-i.result in
    let app = app_of c.args.app.now in
    let lists = kept_lines c.args.lines.now in
    let at : task_at app i ≡ task_of (get_or tasks i task) = ap (λ (ts : List TaskData). get_or ts i no_task) (sym c.tasks-tasks.ensures) ∙ get_or-map task_of tasks i task no_task c.loop-i-test.true in
    let name : c.as_str.result.now ≡ (task_at app i).source = c.as_str.ensures.value ∙ ap (λ (t : TaskData). t.source) (sym at) in
    let is : section c.as_str.result.now c.lines_of.result.now ≡ section_at app lists i = λ k. section (name k) (c.lines_of.ensures k) in
    ap (λ (l : List _). map section_of l) c.in_ok-push.ensures.items ∙ map-append section_of c.loop-i.sources.items _
    ∙ (λ k. c.loop-i.invariant k ++ is k ∷ []) ∙ sym (map-range_with_len_more (section_at app lists) 0 i i (omega arith))

pub returns : goal.returns
returns c =
    let app = app_of c.args.app.now in
    let end : c.loop-i.i ≡ length c.tasks-tasks.result.now = omega arith in
    let many : length app.tasks ≡ length c.tasks-tasks.result.now = ap (λ (ts : List TaskData). length ts) (sym c.tasks-tasks.ensures) ∙ length-map c.tasks-tasks.result.now task_of in
    c.loop-i.invariant ∙ ap (λ (n : ℕ). map (section_at app (kept_lines c.args.lines.now)) (range_with_len 0 n)) (end ∙ sym many)
