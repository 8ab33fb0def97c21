use Rattle.std.proofs.Common.{◌≡◌, ◌+◌, ◌∷◌, [], ℕ, List, ap, arith, subst, sym, ◌∙◌}
use Rattle.std.specs.Prelude.{map, filter, vec_items}
use Rattle.std.proofs.lemmas.List.{map-append}
use Rattle.region_check.specs.declared.Region.{Region}
use Rattle.task_table.specs.kept.Holds.{setup_of, task_count}
use Rattle.board_core.specs.fast.Sights.{is_port}
use Rattle.board_core.specs.fast.IoRegions.{AreIoRegions}
use Rattle.board_core.proofs.fast.IoRegions.{none_first, one_further}
use Rattle.board_core.proofs.opening.io_regions.Goals as goal

pub loop-task-init : goal.loop-task-init
loop-task-init c = none_first (setup_of c.args.kernel.now) _ (ap (map vec_items) c.new-io_regions.ensures.items)

pub loop-task-preserved : goal.loop-task-preserved
loop-task-preserved c =
    let g = setup_of c.args.kernel.now in
    let more = ap (map vec_items) c.in_ok-push.ensures.items ∙ map-append vec_items c.loop-task.io_regions.items (c.in_ok-io_regions_among.field-0 ∷ []) in
    subst (λ (lists : List (List Region)). AreIoRegions g (c.loop-task.task + 1) lists) (sym more) (one_further g c.loop-task.task _ _ c.loop-task.invariant (c.in_ok-io_regions_among.ensures ∙ ap (filter is_port) c.regions.ensures.value))

pub returns : goal.returns
returns c =
    let e : c.loop-task.task ≡ task_count c.args.kernel.now = omega (arith, c.loop-task-test.false, c.loop-task.auto.task-end, c.task_count-task-end.ensures.value) in
    subst (λ (n : ℕ). AreIoRegions (setup_of c.args.kernel.now) n (map vec_items c.loop-task.io_regions.items)) e c.loop-task.invariant
