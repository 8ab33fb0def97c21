use Rattle.std.proofs.Common.{◌≡◌, ◌∙◌, ◌-◌, ◌^◌, ◌≤◌, map, min, sym, ap, arith, rules}
use Rattle.std.specs.List.{sum_by}
use Rattle.std.specs.List.Sorted.{IsPermutation}
use Rattle.std.proofs.lemmas.List.{length-map}
use Rattle.std.proofs.lemmas.List.Sums.{sum-map}
use Rattle.mem_plan.specs.Order.{numbered}
use Rattle.mem_plan.specs.Placing.{Span}
use Rattle.mem_plan.specs.Sizes.{rounded, total}
use Rattle.mem_plan.proofs.Facts.{once, positive, indices_below, placed_all, rounded_positive, same_length, same_total}
use Rattle.mem_plan.proofs.Aligned.{aligned}
use Rattle.mem_plan.proofs.Apart.{keeps_apart}
use Rattle.mem_plan.proofs.Rooms.{fits_room}
use Rattle.mem_plan.proofs.placing.plan.Goals as goal

pub returns-then-from-needed-clause-none : goal.returns-then-from-needed-clause-none
returns-then-from-needed-clause-none c = λ other spans p.
    let needed : c.needed_of-needed.result ≡ min (total (map rounded c.args.sizes.now)) (2 ^ 64 - 1) = search rules in
    let sizes : sum_by (λ (a : Span). a.size) spans ≡ total (map rounded c.args.sizes.now) = sym (sum-map (λ (a : Span). a.size) spans) ∙ ap total p.lengths in
    absurd (omega (arith, needed, sizes, c.if-from-needed.true, c.from.ensures, c.ranges.room.fits, fits_room c.args.base c.args.room spans p.apart p.inside))

pub packed-requires-clause-room : goal.packed-requires-clause-room
packed-requires-clause-room c =
    let perm : IsPermutation (numbered 0 (map rounded c.args.sizes.now)) c.as_slice-3.result.now = search rules in
    let small : total (map rounded c.args.sizes.now) ≤ c.args.room =
    let needed : c.needed_of-needed.result ≡ min (total (map rounded c.args.sizes.now)) (2 ^ 64 - 1) = search rules in
    omega (arith, needed, c.if-from-needed.false, c.from.ensures, c.ranges.room.fits) in
    omega (arith, same_total _ _ perm, small)

pub packed-requires-clause-positive : goal.packed-requires-clause-positive
packed-requires-clause-positive c =
    let perm : IsPermutation (numbered 0 (map rounded c.args.sizes.now)) c.as_slice-3.result.now = search rules in
    positive _ _ perm (rounded_positive c.args.sizes.now)

pub packed-requires-clause-once : goal.packed-requires-clause-once
packed-requires-clause-once c =
    let perm : IsPermutation (numbered 0 (map rounded c.args.sizes.now)) c.as_slice-3.result.now = search rules in
    once _ _ perm

pub packed-requires-clause-below : goal.packed-requires-clause-below
packed-requires-clause-below c =
    let perm : IsPermutation (numbered 0 (map rounded c.args.sizes.now)) c.as_slice-3.result.now = search rules in
    indices_below _ _ perm

pub returns-clause-len : goal.returns-clause-len
returns-clause-len c =
    let perm : IsPermutation (numbered 0 (map rounded c.args.sizes.now)) c.as_slice-3.result.now = search rules in
    c.in_ok-bases.ensures.len ∙ same_length _ _ perm ∙ length-map c.args.sizes.now rounded

pub returns-clause-placed : goal.returns-clause-placed
returns-clause-placed c =
    let perm : IsPermutation (numbered 0 (map rounded c.args.sizes.now)) c.as_slice-3.result.now = search rules in
    placed_all _ _ _ _ perm (search rules) c.in_ok-bases.ensures.at

pub returns-clause-apart : goal.returns-clause-apart
returns-clause-apart c =
    let perm : IsPermutation (numbered 0 (map rounded c.args.sizes.now)) c.as_slice-3.result.now = search rules in
    let needed : c.needed_of-needed.result ≡ min (total (map rounded c.args.sizes.now)) (2 ^ 64 - 1) = search rules in
    keeps_apart (map rounded c.args.sizes.now) _ c.args.base c.args.room _ perm c.in_ok-bases.ensures.at
    (omega (arith, needed, c.if-from-needed.false, c.from.ensures, c.ranges.room.fits))

pub returns-clause-aligned : goal.returns-clause-aligned
returns-clause-aligned c = λ whole i lt.
    let perm : IsPermutation (numbered 0 (map rounded c.args.sizes.now)) c.as_slice-3.result.now = search rules in
    let at = placed_all (map rounded c.args.sizes.now) _ c.args.base _ perm (search rules) c.in_ok-bases.ensures.at i lt in
    rw at (aligned c.args.sizes.now c.args.base i (omega (arith, lt, length-map c.args.sizes.now rounded)) whole)

pub returns-clause-packed : goal.returns-clause-packed
returns-clause-packed c =
    let perm : IsPermutation (numbered 0 (map rounded c.args.sizes.now)) c.as_slice-3.result.now = search rules in
    keeps_apart (map rounded c.args.sizes.now) _ c.args.base (total (map rounded c.args.sizes.now)) _ perm c.in_ok-bases.ensures.at (omega arith)
