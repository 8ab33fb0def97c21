use Rattle.std.proofs.Common.{sym, ◌∙◌, subst, arith}
use Rattle.board_core.specs.Data.{boxed}
use Rattle.board_core.specs.fast.Polling.{sight_of}
use Rattle.board_core.specs.fast.Sights.{IsAtLimit}
use Rattle.board_core.proofs.fast.Polled.{been_on, none_left}
use Rattle.board_core.proofs.fast_path.poller.Poller.run.Goals as goal
use Rattle.board_core.proofs.fast_path.poller.Poller.run.Goals.{then-on-test+else-step, else-on-test}

pub on-preserved : goal.on-preserved
on-preserved boxes c =
    let shown = boxed (λ p. (goal.Device-dyn boxes p).shown p.1) in
    let e = c.step.ensures in
    been_on shown c.args.self.now c.on.self c.step.new.self c.args.most c.on.left _ c.on.invariant (omega (arith, c.on-test.true)) (e.goes c.if-step.true) e.fixed e.io_regions

pub returns-clause-far : goal.returns-clause-far
returns-clause-far boxes c =
    let shown = boxed (λ p. (goal.Device-dyn boxes p).shown p.1) in
    λ lt. elim c.on-test.branch [
      | then-on-test+else-step w ↦ subst (λ q. IsAtLimit (sight_of shown q.seen) q.processor) (sym (w.self-is ∙ w.step.ensures.kept w.if-step.false)) (w.step.ensures.halts w.if-step.false)
      | else-on-test w ↦ none_left (sight_of shown c.on-test.self.seen) c.on-test.self.processor c.args.most c.on.left lt (λ some. omega (arith, some, w.on-test.false))
    ]
