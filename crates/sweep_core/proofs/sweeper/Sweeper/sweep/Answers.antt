use Rattle.std.proofs.Common.{subst, sym}
use Rattle.std.proofs.lemmas.Result.{err_from_is_err_and}
use Rattle.board_core.specs.Data.{boxed}
use Rattle.sweep_core.specs.declared.leader.Leader.{Leader}
use Rattle.sweep_core.specs.Leading.{IsLeading}
use Rattle.sweep_core.specs.Sweeping.{asked}
use Rattle.sweep_core.proofs.Following.{none_leads}
use Rattle.sweep_core.proofs.Sweeps.{at_first, first_fork, told_first}
use Rattle.sweep_core.proofs.Whole.{base_failed, none_differs, only_base, then_times}
use Rattle.sweep_core.proofs.sweeper.Sweeper.sweep.Goals as goal

pub tell-base-requires-clause-at : goal.tell-base-requires-clause-at
tell-base-requires-clause-at g c =
    let shown = boxed (λ p. (goal.Device-dyn g p).shown p.1) in
    let r = c.requires.ready in
    (r.0, first_fork r.0 r.1, at_first shown r.0 r.1 c.args.self.now c.args.limit r.2)

pub returns-in_err-push_base-clause-text : goal.returns-in_err-push_base-clause-text
returns-in_err-push_base-clause-text g c = λ x arrival h.
    let shown = boxed (λ p. (goal.Device-dyn g p).shown p.1) in
    let a = asked arrival c.args.from c.args.to c.args.limit c.args.mem in
    let p = err_from_is_err_and c.from_residual.result c.from_residual.ensures.1 in
    let leads = none_leads x c.args.limit c.args.mem c.args.self.now.leader.told c.args.self.now.leader.led h.none in
    let told = c.tell-base.ensures.told x (first_fork x arrival) (at_first shown x arrival c.args.self.now c.args.limit h) leads in
    rw (p.1) (base_failed x a c.tell-base.result.words.bytes told.words _ _ c.in_err-push_base.ensures.bytes)

pub returns-then-from-to-clause-text : goal.returns-then-from-to-clause-text
returns-then-from-to-clause-text g c = λ x arrival h.
    let shown = boxed (λ p. (goal.Device-dyn g p).shown p.1) in
    let a = asked arrival c.args.from c.args.to c.args.limit c.args.mem in
    let leads = none_leads x c.args.limit c.args.mem c.args.self.now.leader.told c.args.self.now.leader.led h.none in
    let told = c.tell-base.ensures.told x (first_fork x arrival) (at_first shown x arrival c.args.self.now c.args.limit h) leads in
    only_base x a c.tell-base.result.words.bytes told.words _ _ c.if-from-to.true c.in_ok-push_base.ensures.bytes

pub returns-then-from-to-clause-makes : goal.returns-then-from-to-clause-makes
returns-then-from-to-clause-makes g c = λ x arrival h. none_differs x (asked arrival c.args.from c.args.to c.args.limit c.args.mem) c.if-from-to.true

pub take_room-requires : goal.take_room-requires
take_room-requires g c =
    let shown = boxed (λ p. (goal.Device-dyn g p).shown p.1) in
    let r = c.requires.ready in
    let w = c.args.self.now in
    let f = first_fork r.0 r.1 in
    let ready = at_first shown r.0 r.1 w c.args.limit r.2 in
    let at = (c.tell-base.ensures.same r.0 f ready).at in
    (r.0, r.1, told_first shown r.0 r.1 w c.tell-base.new.self r.2 at (c.tell-base.ensures.own r.0 f ready) c.tell-base.ensures.script)

pub push_times-requires-clause-based : goal.push_times-requires-clause-based
push_times-requires-clause-based g c =
    let shown = boxed (λ p. (goal.Device-dyn g p).shown p.1) in
    let r = c.requires.ready in
    let w = c.args.self.now in
    let f = first_fork r.0 r.1 in
    let ready = at_first shown r.0 r.1 w c.args.limit r.2 in
    let none = none_leads r.0 c.args.limit c.args.mem w.leader.told w.leader.led r.2.none in
    let at = (c.tell-base.ensures.same r.0 f ready).at in
    let first = told_first shown r.0 r.1 w c.tell-base.new.self r.2 at (c.tell-base.ensures.own r.0 f ready) c.tell-base.ensures.script in
    let leads = c.tell-base.ensures.leads r.0 f ready none in (
      r.0,
      r.1,
      record {
        before = record {
          before = c.take_room.ensures.before r.0 r.1 first c.args.from c.args.limit;
          leads = subst (λ (k : Leader). IsLeading r.0 c.args.limit c.args.mem k) (sym c.take_room.ensures.leader) leads;
        };
        told = c.tell-base.ensures.told r.0 f ready none;
      },
    )

pub returns-clause-text : goal.returns-clause-text
returns-clause-text g c = λ x arrival h.
    let shown = boxed (λ p. (goal.Device-dyn g p).shown p.1) in
    let a = asked arrival c.args.from c.args.to c.args.limit c.args.mem in
    let w = c.args.self.now in
    let f = first_fork x arrival in
    let ready = at_first shown x arrival w c.args.limit h in
    let none = none_leads x c.args.limit c.args.mem w.leader.told w.leader.led h.none in
    let at = (c.tell-base.ensures.same x f ready).at in
    let first = told_first shown x arrival w c.tell-base.new.self h at (c.tell-base.ensures.own x f ready) c.tell-base.ensures.script in
    let told = c.tell-base.ensures.told x f ready none in
    let leads = subst (λ (k : Leader). IsLeading x c.args.limit c.args.mem k) (sym c.take_room.ensures.leader) (c.tell-base.ensures.leads x f ready none) in
    let times = c.push_times.ensures.text x arrival (record { before = record { before = c.take_room.ensures.before x arrival first c.args.from c.args.limit; leads = leads }; told = told }) in
    then_times x a c.tell-base.result.words.bytes told.words _ _ _ c.push_times.result c.in_ok-push_base.ensures.bytes times

pub returns-clause-makes : goal.returns-clause-makes
returns-clause-makes g c = λ x arrival h.
    let shown = boxed (λ p. (goal.Device-dyn g p).shown p.1) in
    let w = c.args.self.now in
    let f = first_fork x arrival in
    let ready = at_first shown x arrival w c.args.limit h in
    let none = none_leads x c.args.limit c.args.mem w.leader.told w.leader.led h.none in
    let at = (c.tell-base.ensures.same x f ready).at in
    let first = told_first shown x arrival w c.tell-base.new.self h at (c.tell-base.ensures.own x f ready) c.tell-base.ensures.script in
    let told = c.tell-base.ensures.told x f ready none in
    let leads = subst (λ (k : Leader). IsLeading x c.args.limit c.args.mem k) (sym c.take_room.ensures.leader) (c.tell-base.ensures.leads x f ready none) in
    c.push_times.ensures.makes x arrival (record { before = record { before = c.take_room.ensures.before x arrival first c.args.from c.args.limit; leads = leads }; told = told })
