use Rattle.std.proofs.Common.{sym, subst, arith}
use Rattle.board_model.specs.declared.outcomes.Level.TheVariants.{Calls}
use Rattle.board_model.specs.Alike.{reduced}
use Rattle.board_model.specs.Laid.{with_script}
use Rattle.board_model.specs.Run.{run}
use Rattle.snapshot.specs.Saved.{SpellsState}
use Rattle.board_core.specs.Data.{boxed}
use Rattle.sweep_core.specs.Sweeping.{own_script}
use Rattle.sweep_core.proofs.Going.{come_within}
use Rattle.snapshot.proofs.Returned.{back, loadable}
use Rattle.sweep_core.proofs.Sweeps.{at_again, saved_long, told_whole, turns_within, under_way}
use Rattle.sweep_core.proofs.sweeper.Sweeper.tell.Goals as goal

pub save_over-requires : goal.save_over-requires
save_over-requires g c =
    let shown = boxed (λ p. (goal.Device-dyn g p).shown p.1) in
    let r = c.requires.at in
    let w = c.args.self.now in
    let h = r.2.at in
    (with_script r.0 (own_script w), h.come.state, h.come.stands, saved_long shown r.0 r.1.arrival r.1.script w r.1.turn h.scripts h.come)

pub follow-told-requires-clause-way : goal.follow-told-requires-clause-way
follow-told-requires-clause-way g c =
    let shown = boxed (λ p. (goal.Device-dyn g p).shown p.1) in
    let r = c.requires.at in
    (r.0, r.2.at.come.state, under_way shown r.0 r.1.arrival r.1.script c.args.self.now r.1.turn c.args.over r.2.at r.2.goes)

pub follow-told-requires-clause-from : goal.follow-told-requires-clause-from
follow-told-requires-clause-from g c =
    let shown = boxed (λ p. (goal.Device-dyn g p).shown p.1) in
    let r = c.requires.at in
    let h = r.2.at in
    let within = turns_within shown r.0 r.1.arrival r.1.script c.args.self.now r.1.turn h.scripts.start h.come in
    omega (arith, within, r.2.few)

pub load_into-requires : goal.load_into-requires
load_into-requires g c =
    let shown = boxed (λ p. (goal.Device-dyn g p).shown p.1) in
    let r = c.requires.at in
    let w = c.args.self.now in
    let h = r.2.at in
    let u = h.come.state in
    let z = with_script r.0 (own_script w) in
    let within = come_within r.0 r.1.script h.scripts.start r.1.turn u h.come.same in
    let spelled = subst (SpellsState z.setup (reduced u)) (sym c.as_slice.ensures.value) (c.save_over.ensures.spelled z u h.come.stands) in
    let gone = c.follow-told.ensures.last r.0 u (under_way shown r.0 r.1.arrival r.1.script w r.1.turn c.args.over h r.2.goes) in (
      z,
      (run Calls z gone.0 u).last,
      gone.1,
      loadable shown z c.saved_states_are_accepted.ensures w.board u gone.0 c.as_slice.result.now h.come.stands (omega (arith, within, r.2.few, c.requires.few)) spelled,
    )

pub returns-clause-told : goal.returns-clause-told
returns-clause-told g c = λ x f at leads.
    let shown = boxed (λ p. (goal.Device-dyn g p).shown p.1) in
    let w = c.args.self.now in
    let h = at.at in
    told_whole x f.script (own_script w) f.turn c.args.limit h.come.state c.args.mem w.front c.follow-told.result h.scripts.start h.come.stands.sane h.good h.come.same h.come.front at.few
    (c.follow-told.ensures.told x h.come.state (under_way shown x f.arrival f.script w f.turn c.args.over h at.goes) leads)

pub returns-clause-leads : goal.returns-clause-leads
returns-clause-leads g c = λ x f at leads.
    let shown = boxed (λ p. (goal.Device-dyn g p).shown p.1) in
    c.follow-told.ensures.leads x at.at.come.state (under_way shown x f.arrival f.script c.args.self.now f.turn c.args.over at.at at.goes) leads

pub returns-clause-same : goal.returns-clause-same
returns-clause-same g c = λ x f at.
    let shown = boxed (λ p. (goal.Device-dyn g p).shown p.1) in
    let w = c.args.self.now in
    let h = at.at in
    let u = h.come.state in
    let z = with_script x (own_script w) in
    let saved = c.save_over.ensures.spelled z u h.come.stands in
    let spelled = subst (SpellsState z.setup (reduced u)) (sym c.as_slice.ensures.value) saved in
    let gone = c.follow-told.ensures.last x u (under_way shown x f.arrival f.script w f.turn c.args.over h at.goes) in
    let again = back shown z c.follow-told.new.board c.load_into.new.board u gone.0 c.as_slice.result.now h.come.stands.sane h.come.stands.counted gone.1 spelled
    (λ v s st spells sane counted sites. c.load_into.ensures.each z v s st spells sane counted sites) in
    record {
      at = at_again shown x f.arrival f.script w f.turn c.load_into.new.board c.save_over.new.saved c.follow-told.new.self h again saved.small c.save_over.ensures.long;
      few = at.few;
      goes = at.goes;
    }

pub returns-clause-own : goal.returns-clause-own
returns-clause-own g c = λ x f at.
    let shown = boxed (λ p. (goal.Device-dyn g p).shown p.1) in
    let w = c.args.self.now in
    let h = at.at in
    let u = h.come.state in
    let z = with_script x (own_script w) in
    let spelled = subst (SpellsState z.setup (reduced u)) (sym c.as_slice.ensures.value) (c.save_over.ensures.spelled z u h.come.stands) in
    let gone = c.follow-told.ensures.last x u (under_way shown x f.arrival f.script w f.turn c.args.over h at.goes) in
    let again = back shown z c.follow-told.new.board c.load_into.new.board u gone.0 c.as_slice.result.now h.come.stands.sane h.come.stands.counted gone.1 spelled
    (λ v s st spells sane counted sites. c.load_into.ensures.each z v s st spells sane counted sites) in
    again.holds.script
