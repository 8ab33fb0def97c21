use Rattle.std.proofs.Common.{◌∙◌, ◌≤◌, get_or, refl, arith}
use Rattle.run_script.specs.Events.{script_data}
use Rattle.board_model.specs.declared.outcomes.Level.TheVariants.{Calls}
use Rattle.board_model.specs.Laid.{with_script}
use Rattle.board_model.specs.Run.{run}
use Rattle.board_core.specs.Data.{boxed}
use Rattle.board_core.specs.Stands.{script_of, turns_of}
use Rattle.sweep_core.specs.Leading.{run_from}
use Rattle.sweep_core.specs.Outcomes.{heard}
use Rattle.sweep_core.proofs.Following.{IsPassed, heard_more, heard_nothing, led_same, met, now_led, passed_here, passed_more, same_sites, told_since}
use Rattle.sweep_core.proofs.leader.Leader.follow.Goals as goal

pub stops-init : goal.stops-init
stops-init g c =
    let shown = boxed (λ p. (goal.Device-dyn g p).shown p.1) in
    let b = c.args.board.now in
    record {
      led = refl;
      told = refl;
      gone = λ x s u. heard_nothing x (script_data (script_of b)) shown c.args.front.now s b u.stands;
      passed = λ x s u. λ k d low lt. absurd {A = IsPassed x (script_data (script_of b)) shown c.args.over u.goes b c.args.front.now (get_or c.clear.new.self.states.items k d)} (omega (arith, c.clear.ensures, lt));
      here = omega (arith, c.turns-turn.ensures);
      within = omega (arith, c.turns-turn.ensures, c.requires.from);
    }

pub stop-requires-clause-stood : goal.stop-requires-clause-stood
stop-requires-clause-stood g c =
    let r = c.requires.way in
    let h = c.stops.invariant.gone r.0 r.1 r.2 in
    let z = with_script r.0 (script_data (script_of c.args.board.now)) in
    (z, (run Calls z h.n r.1).last, h.stands)

pub stop-requires-clause-within : goal.stop-requires-clause-within
stop-requires-clause-within g c = omega (arith, c.stops.invariant.here, c.stops.invariant.within)

pub stop-requires-clause-turn : goal.stop-requires-clause-turn
stop-requires-clause-turn g c = omega (arith, c.stops.invariant.within, c.requires.few)

pub play_to-requires-clause-stood : goal.play_to-requires-clause-stood
play_to-requires-clause-stood g c =
    let r = c.requires.way in
    let h = c.stops.invariant.gone r.0 r.1 r.2 in
    let z = with_script r.0 (script_data (script_of c.args.board.now)) in
    (z, (run Calls z h.n r.1).last, h.stands)

pub play_to-requires-clause-from : goal.play_to-requires-clause-from
play_to-requires-clause-from g c = omega (arith, c.stops.invariant.here, c.in-Some.ensures.behind)

pub meets-requires : goal.meets-requires
meets-requires g c =
    let r = c.requires.way in
    let h = c.stops.invariant.gone r.0 r.1 r.2 in
    let own = script_data (script_of c.args.board.now) in
    let z = with_script r.0 own in
    let u = (run Calls z h.n r.1).last in
    (z, (run_from r.0 own c.in-Some.stop u).last, c.play_to.ensures.last z u h.stands)

pub returns-then-meets-clause-told : goal.returns-then-meets-clause-told
returns-then-meets-clause-told g c = λ x s u leads.
    let shown = boxed (λ p. (goal.Device-dyn g p).shown p.1) in
    let own = script_data (script_of c.args.board.now) in
    let front = c.args.front.now in
    let i = c.stops.invariant in
    let h = i.gone x s u in
    let z = with_script x own in
    let v = (run Calls z h.n s).last in
    let b = c.play_to.new.board in
    let stop = c.in-Some.stop in
    let le : turns_of c.stops.board ≤ stop = omega (arith, i.here, c.in-Some.ensures.behind) in
    let more = heard_more x own shown front c.stops.heard c.play_to.new.tally s c.stops.board b stop u.stands.sane h le (c.play_to.ensures.last z v h.stands) (c.play_to.ensures.heard z v h.stands) in
    let w = (run Calls z more.n s).last in
    let here = more.stands.holds.turns in
    let late : c.args.over ≤ w.turn = omega (arith, here, c.meets.ensures.at c.if-meets.true, c.in-Some.ensures.over) in
    let led = led_same x c.args.limit c.args.mem c.args.self.now.told c.meets.new.self.told c.args.self.now.led c.stops.self.led (c.meets.ensures.told ∙ i.told) i.led leads in
    let told = met x own shown c.args.over u.goes c.args.limit c.args.mem w c.play_to.new.tally c.meets.new.self.told c.stops.self.led led (c.meets.ensures.met c.if-meets.true z w more.stands) more.stands.sane more.stands.counted
    (same_sites x own shown front c.play_to.new.tally s b u.stands.sane u.sites more) late in
    told_since x own shown front c.play_to.new.tally s b c.args.limit c.args.mem c.meets.new.self.told u.stands.sane more (omega (arith, c.play_to.ensures.within, c.in-Some.ensures.within)) told

pub returns-then-meets-clause-leads : goal.returns-then-meets-clause-leads
returns-then-meets-clause-leads g c = λ x s u leads.
    let i = c.stops.invariant in
    led_same x c.args.limit c.args.mem c.args.self.now.told c.meets.new.self.told c.args.self.now.led c.meets.new.self.led (c.meets.ensures.told ∙ i.told) (c.meets.ensures.led ∙ i.led) leads

pub returns-then-meets-clause-last : goal.returns-then-meets-clause-last
returns-then-meets-clause-last g c = λ x s u.
    let shown = boxed (λ p. (goal.Device-dyn g p).shown p.1) in
    let own = script_data (script_of c.args.board.now) in
    let i = c.stops.invariant in
    let h = i.gone x s u in
    let z = with_script x own in
    let v = (run Calls z h.n s).last in
    let le : turns_of c.stops.board ≤ c.in-Some.stop = omega (arith, i.here, c.in-Some.ensures.behind) in
    let more = heard_more x own shown c.args.front.now c.stops.heard c.play_to.new.tally s c.stops.board c.play_to.new.board c.in-Some.stop u.stands.sane h le (c.play_to.ensures.last z v h.stands) (c.play_to.ensures.heard z v h.stands) in
    (more.n, more.stands)

pub stops-smaller : goal.stops-smaller
stops-smaller g c = omega (arith, c.in-Some.ensures.behind, c.in-Some.ensures.within)

pub stops-preserved : goal.stops-preserved
stops-preserved g c =
    let shown = boxed (λ p. (goal.Device-dyn g p).shown p.1) in
    let own = script_data (script_of c.args.board.now) in
    let front = c.args.front.now in
    let i = c.stops.invariant in
    let b = c.play_to.new.board in
    let stop = c.in-Some.stop in
    let le : turns_of c.stops.board ≤ stop = omega (arith, i.here, c.in-Some.ensures.behind) in
    record {
      led = c.meets.ensures.led ∙ i.led;
      told = c.meets.ensures.told ∙ i.told;
      gone = λ x s u.
          let h = i.gone x s u in
          let z = with_script x own in
          let v = (run Calls z h.n s).last in
          heard_more x own shown front c.stops.heard c.play_to.new.tally s c.stops.board b stop u.stands.sane h le (c.play_to.ensures.last z v h.stands) (c.play_to.ensures.heard z v h.stands);
      passed = λ x s u.
          let h = i.gone x s u in
          let z = with_script x own in
          let v = (run Calls z h.n s).last in
          let more = heard_more x own shown front c.stops.heard c.play_to.new.tally s c.stops.board b stop u.stands.sane h le (c.play_to.ensures.last z v h.stands) (c.play_to.ensures.heard z v h.stands) in
          let w = (run Calls z more.n s).last in
          passed_here x own shown c.args.over u.goes c.stops.self.passed c.meets.new.self.passed c.play_to.new.tally b w stop more.stands (same_sites x own shown front c.play_to.new.tally s b u.stands.sane u.sites more) c.in-Some.ensures.over
          (c.meets.ensures.passed c.if-meets.false z w more.stands)
          (passed_more x own shown c.args.over u.goes c.stops.self.passed c.stops.heard c.play_to.new.tally c.stops.board b stop le (λ a st. c.play_to.ensures.last z a st) (λ a st. c.play_to.ensures.heard z a st) (i.passed x s u));
      here = c.play_to.ensures.within;
      within = omega (arith, c.in-Some.ensures.within);
    }

pub lead-requires-clause-stood : goal.lead-requires-clause-stood
lead-requires-clause-stood g c =
    let r = c.requires.way in
    let h = c.stops.invariant.gone r.0 r.1 r.2 in
    let z = with_script r.0 (script_data (script_of c.args.board.now)) in
    (z, (run Calls z h.n r.1).last, h.stands)

pub lead-requires-clause-from : goal.lead-requires-clause-from
lead-requires-clause-from g c = omega (arith, c.stops.invariant.here, c.stops.invariant.within)

pub returns-clause-told : goal.returns-clause-told
returns-clause-told g c = λ x s u leads.
    let shown = boxed (λ p. (goal.Device-dyn g p).shown p.1) in
    let own = script_data (script_of c.args.board.now) in
    let i = c.stops.invariant in
    let h = i.gone x s u in
    let z = with_script x own in
    told_since x own shown c.args.front.now c.stops.heard s c.stops.board c.args.limit c.args.mem c.lead.result u.stands.sane h (omega (arith, i.here, i.within)) (c.lead.ensures.told z (run Calls z h.n s).last h.stands)

pub returns-clause-leads : goal.returns-clause-leads
returns-clause-leads g c = λ x s u leads.
    let shown = boxed (λ p. (goal.Device-dyn g p).shown p.1) in
    let own = script_data (script_of c.args.board.now) in
    let i = c.stops.invariant in
    let z = with_script x own in
    led_same x c.args.limit c.args.mem c.lead.result c.lead.new.self.told c.stops.self.passed c.lead.new.self.led c.lead.ensures.kept c.lead.ensures.led
    (now_led x own shown c.args.over u.goes c.stops.self.passed c.stops.heard c.stops.board c.args.limit c.args.mem c.lead.result (omega (arith, i.here, i.within)) (λ a st. c.lead.ensures.told z a st) (i.passed x s u))

pub returns-clause-last : goal.returns-clause-last
returns-clause-last g c = λ x s u.
    let shown = boxed (λ p. (goal.Device-dyn g p).shown p.1) in
    let own = script_data (script_of c.args.board.now) in
    let i = c.stops.invariant in
    let h = i.gone x s u in
    let z = with_script x own in
    let v = (run Calls z h.n s).last in
    let more = heard_more x own shown c.args.front.now c.stops.heard (heard c.stops.heard (run_from x own c.args.limit v).notes) s c.stops.board c.lead.new.board c.args.limit u.stands.sane h (omega (arith, i.here, i.within)) (c.lead.ensures.last z v h.stands) refl in
    (more.n, more.stands)
