use Rattle.std.proofs.Common.{◌≡◌, ◌+◌, ◌≤◌, option_map, count_by}
use Rattle.thumb_asm.specs.Cuts.{left_length}
use Rattle.thumb_asm.specs.Sizes.{is_in}
use Rattle.thumb_asm.specs.Kinds.{ranges_in, ranges_left}
use Rattle.thumb_asm.proofs.lists.is_double.Given as goal

abbrev pub invariant-each : goal.invariant-each
invariant-each l = record {
  so_far : count_by (λ range. is_in range l.r) (ranges_in l.text) ≡ l.count + count_by (λ range. is_in range l.r) (ranges_left (option_map (λ r. r.now) l.ranges.rest));
  few : l.count ≤ 1;
}

abbrev pub decreases-each : goal.decreases-each
decreases-each l = left_length (option_map (λ r. r.now) l.ranges.rest)
