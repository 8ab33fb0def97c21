use Rattle.std.proofs.Common.{◌≡◌, ◌+◌, ◌-◌, arith}
use Rattle.std.proofs.lemmas.Result.{err_from_is_err_and}
use Rattle.board_core.specs.Data.{boxed}
use Rattle.sweep_core.specs.Comparing.{compared_of}
use Rattle.sweep_core.specs.Swept.{outcome_at}
use Rattle.sweep_core.specs.Sweeping.{asked}
use Rattle.sweep_core.proofs.Lined.{begins, begins_before, last_done, last_failed, more_pushed, none_pushed, push_failed, pushed_so}
use Rattle.sweep_core.proofs.Looking.{compared_first, compared_next, found_is}
use Rattle.sweep_core.proofs.Sweeps.{later_sweeping}
use Rattle.sweep_core.proofs.Whole.{times_done, times_failed}
use Rattle.sweep_core.proofs.sweeper.Sweeper.push_times.Goals as goal

pub loop-time-init : goal.loop-time-init
loop-time-init g c =
    let shown = boxed (λ p. (goal.Device-dyn g p).shown p.1) in
    let from = c.args.from in
    let at = c.look_at.ensures in
    record {
      before = λ x arrival h. later_sweeping shown x arrival c.look_at.new.self from (from + 1) c.args.limit c.args.mem (omega arith) (at.before x arrival h.before);
      pushed = λ x arrival h. none_pushed (outcome_at x (asked arrival from c.args.to c.args.limit c.args.mem)) c.args.base.now.words.bytes from c.args.to c.look_at.result.bytes _ c.requires.some (at.looked x arrival h.before).words;
      compared = λ x arrival h.
          let a = asked arrival from c.args.to c.args.limit c.args.mem in
          let none = compared_of c.new-compared.result in
          compared_next x a none (compared_of c.look_at.new.compared) from (omega arith) (compared_first x a none c.new-compared.ensures) ((at.looked x arrival h.before).compared h.told);
      first = omega arith;
      later = omega arith;
    }

pub look_at-words-requires-clause-before : goal.look_at-words-requires-clause-before
look_at-words-requires-clause-before g c =
    let r = c.requires.based in
    (r.0, r.1, c.loop-time.invariant.before r.0 r.1 r.2)

pub returns-in_err-go_on-clause-text : goal.returns-in_err-go_on-clause-text
returns-in_err-go_on-clause-text g c = λ x arrival h.
    let a = asked arrival c.args.from c.args.to c.args.limit c.args.mem in
    let p = err_from_is_err_and c.from_residual.result c.from_residual.ensures.1 in
    let i = c.loop-time.invariant in
    let s = c.loop-time.stretch in
    let is = (c.look_at-words.ensures.looked x arrival (i.before x arrival h)).words in
    let failed = push_failed (outcome_at x a) c.args.base.now.words.bytes c.args.from c.args.to c.loop-time.time s.first s.words.bytes c.look_at-words.result.bytes _ _ _ c.loop-time-test.true is (i.pushed x arrival h) c.in_err-go_on.ensures.bytes in
    rw (p.1) (times_failed x a c.args.base.now.words.bytes _ _ h.told.words failed)

pub loop-time-preserved : goal.loop-time-preserved
loop-time-preserved g c =
    let shown = boxed (λ p. (goal.Device-dyn g p).shown p.1) in
    let i = c.loop-time.invariant in
    let s = c.loop-time.stretch in
    let time = c.loop-time.time in
    let base = c.args.base.now.words.bytes in
    let next = c.look_at-words.result.bytes in
    let at = c.look_at-words.ensures in
    let on = c.in_ok-go_on.ensures in
    let before = begins_before (λ n. base) base s.first s.words.bytes time next i.first in
    record {
      before = λ x arrival h. later_sweeping shown x arrival c.look_at-words.new.self time (time + 1) c.args.limit c.args.mem (omega arith) (at.before x arrival (i.before x arrival h));
      pushed = λ x arrival h.
          let f = outcome_at x (asked arrival c.args.from c.args.to c.args.limit c.args.mem) in
          let is = (at.looked x arrival (i.before x arrival h)).words in
          pushed_so f base c.args.from c.args.to (time + 1) (begins f base s.first s.words.bytes time next) c.go_on.new.self.first next c.go_on.new.self.words.bytes _ _ on.first on.words
          (more_pushed f base c.args.from c.args.to time s.first s.words.bytes next _ _ _ c.loop-time-test.true is (i.pushed x arrival h) on.bytes);
      compared = λ x arrival h.
          let a = asked arrival c.args.from c.args.to c.args.limit c.args.mem in
          compared_next x a (compared_of c.loop-time.compared) (compared_of c.look_at-words.new.compared) time (omega (arith, c.loop-time.auto.time)) (i.compared x arrival h) ((at.looked x arrival (i.before x arrival h)).compared h.told);
      first = omega (arith, before, on.first);
      later = omega (arith, i.later, on.cause.later);
    }

pub returns-in_err-end-clause-text : goal.returns-in_err-end-clause-text
returns-in_err-end-clause-text g c = λ x arrival h.
    let a = asked arrival c.args.from c.args.to c.args.limit c.args.mem in
    let p = err_from_is_err_and c.from_residual-in_err-end.result c.from_residual-in_err-end.ensures.1 in
    let base = c.args.base.now.words.bytes in
    let s = c.loop-time.stretch in
    let last : c.loop-time.time ≡ c.args.to = omega (arith, c.loop-time.auto.time-end, c.loop-time-test.false, c.requires.some) in
    let failed = last_failed (outcome_at x a) base c.args.from c.args.to c.loop-time.time s.first s.words.bytes _ _ _ last (c.loop-time.invariant.pushed x arrival h) c.in_err-end.ensures.bytes in
    rw (p.1) (times_failed x a base _ _ h.told.words failed)

pub returns-clause-text : goal.returns-clause-text
returns-clause-text g c = λ x arrival h.
    let a = asked arrival c.args.from c.args.to c.args.limit c.args.mem in
    let base = c.args.base.now.words.bytes in
    let s = c.loop-time.stretch in
    let last : c.loop-time.time ≡ c.args.to = omega (arith, c.loop-time.auto.time-end, c.loop-time-test.false, c.requires.some) in
    let done = last_done (outcome_at x a) base c.args.from c.args.to c.loop-time.time s.first s.words.bytes _ _ _ last (c.loop-time.invariant.pushed x arrival h) c.in_ok-end.ensures.bytes in
    times_done x a base _ _ h.told.words done

pub returns-clause-makes : goal.returns-clause-makes
returns-clause-makes g c = λ x arrival h.
    let a = asked arrival c.args.from c.args.to c.args.limit c.args.mem in
    let last : c.loop-time.time - c.args.from ≡ c.args.to - c.args.from = omega (arith, c.loop-time.auto.time-end, c.loop-time-test.false, c.requires.some) in
    found_is x a (compared_of c.loop-time.compared) (c.loop-time.time - c.args.from) (c.loop-time.invariant.compared x arrival h) last
