use Rattle.std.proofs.Common.{◌≡◌, ◌∙◌, ap, subst, ℕ, arith}
use Rattle.run_cover.specs.declared.counts.Count.{Count}
use Rattle.run_cover.specs.Counted.{count_of}
use Rattle.run_cover.specs.Places.{is_place}
use Rattle.run_cover.proofs.Counting.{count_of_none}
use Rattle.run_cover.proofs.Knowing.{HaveBegunTo, begun_none, begun_more, begun_all}
use Rattle.run_cover.proofs.Numbered.{address_is_place}
use Rattle.run_cover.specs.Known.{HasBegun}
use Rattle.run_cover.proofs.known.Marks.begin_all.Goals as goal

pub loop-place-init : goal.loop-place-init
loop-place-init c = begun_none (count_of c.args.counts.now) c.args.self.now c.requires

pub begin-requires-clause-place : goal.begin-requires-clause-place
begin-requires-clause-place c = ap is_place c.address_of.ensures ∙ address_is_place c.loop-place.place (omega (arith, c.loop-place-test.true))

pub loop-place-preserved : goal.loop-place-preserved
loop-place-preserved c = begun_more (count_of c.args.counts.now) _ _ c.loop-place.place c.loop-place.invariant
    (subst (λ (a : ℕ). HasBegun (count_of c.args.counts.now) c.loop-place.self a c.begin.new.self) c.address_of.ensures c.begin.ensures)

pub returns : goal.returns
returns c =
    let all : c.loop-place.place ≡ 655360 = omega (arith, c.loop-place.auto.place-end, c.loop-place-test.false) in
    begun_all (count_of c.args.counts.now) _ (λ a e. ap (λ (x : Count). x.executed) (count_of_none c.args.counts.now a e))
    (subst (λ (n : ℕ). HaveBegunTo (count_of c.args.counts.now) c.loop-place.self n) all c.loop-place.invariant)
