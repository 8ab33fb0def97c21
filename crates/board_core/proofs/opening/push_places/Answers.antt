use Rattle.std.proofs.Common.{◌≡◌, ℕ, List, length, subst, arith, ap, ◌∙◌}
use Rattle.std.proofs.lemmas.Bool.{not-true, not-false}
use Rattle.region_check.specs.declared.Region.{Region}
use Rattle.image_format.specs.Images.{image_data}
use Rattle.board_core.proofs.Opens.{HaveFirst, none_first, places_step, pushed_more, device_more, places_kept, places_further}
use Rattle.board_core.proofs.opening.push_places.Goals.{then-not-region+in_ok-push, else-not-region}
use Rattle.board_core.proofs.opening.push_places.Goals as goal

pub loop-k-init : goal.loop-k-init
loop-k-init c = record { are = c.requires.places; before = c.requires.before; own = c.in_ok-regions.ensures; first = none_first c.in_ok-regions.regions.items c.args.places.now.items }

pub loop-k-preserved : goal.loop-k-preserved
loop-k-preserved c =
    let p = image_data c.args.image.now in
    let inv = c.loop-k.invariant in
    let region = c.index-region.result.now in
    let lt = c.loop-k-test.true in
    elim c.if-not-region.branch [
      | then-not-region+in_ok-push w ↦
          let pushed = ap (λ v. v.items) w.places-is ∙ w.in_ok-push.ensures.items in
          record {
            are = places_step p c.loop-k.places.items c.if-not-region.places.items c.args.i c.loop-k.k c.in_ok-regions.regions.items region inv.are inv.own (omega (arith, lt)) c.index-region.ensures (not-true region.rights.device w.if-not-region.true) pushed;
            before = places_kept p c.args.i c.loop-k.places.items c.if-not-region.places.items _ inv.before pushed;
            own = inv.own;
            first = pushed_more c.in_ok-regions.regions.items c.loop-k.k c.loop-k.places.items c.if-not-region.places.items region inv.first (omega (arith, lt)) c.index-region.ensures pushed;
          }
      | else-not-region w ↦ record {
        are = rw w.places-is inv.are;
        before = rw w.places-is inv.before;
        own = inv.own;
        first = rw w.places-is (device_more c.in_ok-regions.regions.items c.loop-k.k c.loop-k.places.items region inv.first (omega (arith, lt)) c.index-region.ensures (not-false region.rights.device w.if-not-region.false));
      }
    ]

pub returns-clause-all : goal.returns-clause-all
returns-clause-all c =
    let p = image_data c.args.image.now in
    let inv = c.loop-k.invariant in
    let regions : List Region = c.in_ok-regions.regions.items in
    let places : List (ℕ × ℕ) = c.loop-k.places.items in
    let e : c.loop-k.k ≡ length regions = omega (arith, c.loop-k-test.false, c.loop-k.auto.k-end, c.len-k-end.ensures) in
    places_further p c.args.i regions places inv.before inv.own (subst (λ (k : ℕ). HaveFirst regions k places) e inv.first)
