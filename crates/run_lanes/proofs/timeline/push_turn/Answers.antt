use Rattle.std.proofs.Common.{◌≡◌, ap, ◌∙◌, length, arith}
use Rattle.std.proofs.lemmas.Result.{err_from_is_err_and}
use Rattle.run_lanes.specs.Kept.{kept_of}
use Rattle.run_lanes.proofs.Told.{left_back, seen_breaks, seen_fails, seen_whole}
use Rattle.run_lanes.proofs.timeline.push_turn.Goals as goal

pub returns-in_err-push_overs : goal.returns-in_err-push_overs
returns-in_err-push_overs g c =
    let p = err_from_is_err_and c.from_residual.result c.from_residual.ensures.1 in
    let h = c.in_err-push_overs.ensures in
    rw (p.1) (seen_breaks (kept_of c.args.lanes.now) _ _ (record { turn = c.args.turn; activities = c.args.activities.now; notes = c.args.notes.now }) c.deref.result.now c.deref.ensures.value h.bytes h.cause.later h.cause.failed)

pub returns-in_err-push_notes : goal.returns-in_err-push_notes
returns-in_err-push_notes g c =
    let p = err_from_is_err_and c.from_residual-in_err-push_notes.result c.from_residual-in_err-push_notes.ensures.1 in
    let h = c.in_ok-push_overs.ensures in
    let n = c.in_err-push_notes.ensures in
    rw (p.1) (seen_fails (kept_of c.args.lanes.now) _ (g.S.Sink.seen c.push_overs.new.out) _ (record { turn = c.args.turn; activities = c.args.activities.now; notes = c.args.notes.now }) c.deref.result.now c.deref_mut-2.result.now
    c.deref.ensures.value c.deref_mut-2.ensures.value h.bytes h.cause.later n.bytes n.cause.later n.cause.failed)

pub returns : goal.returns
returns g c =
    let h = c.in_ok-push_overs.ensures in
    let n = c.in_ok-push_notes.ensures in
    let self = c.args.lanes.now in
    let renewed : length c.renew_all.new.stretches ≡ length self.stretches.items = c.renew_all.auto.stretches ∙ ap length c.deref_mut.ensures.value in
    let heard : length c.push_notes.new.offers ≡ length self.offers.items = c.push_notes.auto.offers ∙ ap length c.deref_mut-2.ensures.value in
    seen_whole (kept_of self) _ (g.S.Sink.seen c.args.out.now) (g.S.Sink.seen c.push_overs.new.out) (g.S.Sink.seen c.push_notes.new.out) (record { turn = c.args.turn; activities = c.args.activities.now; notes = c.args.notes.now })
    c.deref.result.now c.deref_mut.result.now c.deref_mut-2.result.now
    c.deref.ensures.value c.deref_mut.ensures.value c.deref_mut-2.ensures.value h.bytes h.cause.later n.bytes n.cause.later
    (left_back c.renew_all.new.stretches self.stretches.items self.stretches.len renewed (omega (arith, self.stretches.ok.0)) ∙ c.renew_all.ensures)
    (left_back c.push_notes.new.offers self.offers.items self.offers.len heard (omega (arith, self.offers.ok.0)) ∙ n.offers)
