use Rattle.std.proofs.Common.{◌≡◌, map, vec_items, true}
use Rattle.std.specs.List.{list_all, range_with_len}
use Rattle.region_check.specs.Rights.{is_alone}
use Rattle.image_format.specs.Loners.{own_regions, regions_beside}
use Rattle.image_list.proofs.is_loner.Given as goal

-- it is alone beside each task so far
abbrev pub invariant-loop-j : goal.invariant-loop-j
invariant-loop-j l = list_all (λ j. is_alone (own_regions (map vec_items l.tasks) l.i) (regions_beside (map vec_items l.tasks) l.i j)) (range_with_len 0 l.j) ≡ true
