use Rattle.std.proofs.Common.{◌≡◌, map, filter, vec_items}
use Rattle.std.specs.List.{range_with_len}
use Rattle.image_format.specs.Loners.{is_loner}
use Rattle.image_list.proofs.loners_among.Given as goal

-- those of the tasks so far
abbrev pub invariant-loop-i : goal.invariant-loop-i
invariant-loop-i l = l.loners.items ≡ filter (is_loner (map vec_items l.tasks)) (range_with_len 0 l.i)
