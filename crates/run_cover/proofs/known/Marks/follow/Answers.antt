use Rattle.std.proofs.Common.{◌≡◌, ◌∙◌, sym, ap, subst, true, arith}
use Rattle.run_cover.specs.declared.counts.Count.{Count}
use Rattle.run_cover.specs.declared.ways.Ways.{Ways}
use Rattle.run_cover.specs.Counted.{count_of, leads_on}
use Rattle.run_cover.specs.Known.{HasLed}
use Rattle.run_cover.proofs.Marking.{known_place}
use Rattle.run_cover.proofs.Numbered.{numbered}
use Rattle.run_cover.proofs.Knowing.{follow_both}
use Rattle.run_cover.proofs.known.Marks.follow.Goals as goal

pub ways_at-ways-requires : goal.ways_at-ways-requires
ways_at-ways-requires g c =
    let p = known_place c.args.self.now c.args.addr c.requires.known in
    let below = (numbered c.args.addr p.0 p.1).below in
    omega (arith, below)

pub returns-clause-followed : goal.returns-clause-followed
returns-clause-followed g c = λ x s st.
    let n = count_of c.args.counts.now in
    let a = c.args.addr in
    let is = c.ways_at-ways.ensures x s st in
    let goes : leads_on (n a) ≡ true = ap (λ (k : Count). leads_on k) (sym c.at.ensures) ∙ sym c.leads_on.ensures ∙ c.if-not-leads_on.false in
    follow_both x.setup s.memory n a _ _ _ (λ b way. record { goes = goes; way = way })
    (subst (λ (w : Ways). HasLed x.setup s.memory w.behind c.args.self.now c.lead.new.self) is (c.lead.ensures.led x s st))
    (subst (λ (w : Ways). HasLed x.setup s.memory w.target c.lead.new.self c.lead-2.new.self) is (c.lead-2.ensures.led x s st))
