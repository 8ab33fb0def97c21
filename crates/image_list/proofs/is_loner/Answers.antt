use Rattle.std.proofs.Common.{ℕ, Bool, map, vec_items, sym, ◌∙◌, ap}
use Rattle.std.proofs.lemmas.List.{length-map}
use Rattle.std.specs.List.{list_all, range_with_len}
use Rattle.region_check.specs.Rights.{is_alone}
use Rattle.image_format.specs.Loners.{own_regions, regions_beside}
use Rattle.image_format.proofs.Ranges.{all_more, all_fails}
use Rattle.image_list.proofs.is_loner.Goals as goal

pub returns-then-not-is_alone_beside : goal.returns-then-not-is_alone_beside
returns-then-not-is_alone_beside c =
    let tasks = map vec_items c.args.tasks.now in
    let p : ℕ → Bool = λ j. is_alone (own_regions tasks c.args.i) (regions_beside tasks c.args.i j) in
    sym (ap (λ n. list_all p (range_with_len 0 n)) (length-map c.args.tasks.now vec_items) ∙ all_fails p _ c.loop-j.j c.loop-j-test.true (sym c.is_alone_beside.ensures ∙ c.if-not-is_alone_beside.true))

pub loop-j-preserved : goal.loop-j-preserved
loop-j-preserved c = all_more _ c.loop-j.j c.loop-j.invariant (sym c.is_alone_beside.ensures ∙ c.if-not-is_alone_beside.false)
