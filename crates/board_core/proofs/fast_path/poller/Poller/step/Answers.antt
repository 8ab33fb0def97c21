use Rattle.std.proofs.Common.{subst, arith}
use Rattle.thumb_insn.specs.Table.{narrow_of, narrow_result}
use Rattle.board_core.specs.Data.{boxed}
use Rattle.board_core.specs.fast.Sights.{GoesOnBeside, IsAtLimit}
use Rattle.board_core.specs.fast.Polling.{sight_of}
use Rattle.board_core.proofs.fast.Polled.{narrow_goes, stayed_keeps}
use Rattle.board_core.proofs.fast_path.poller.Poller.step.Goals as goal

pub returns-then-narrow_to-clause-goes : goal.returns-then-narrow_to-clause-goes
returns-then-narrow_to-clause-goes boxes c = λ done.
    let shown = boxed (λ p. (goal.Device-dyn boxes p).shown p.1) in
    (narrow_goes shown c.args.self.now c.narrow_to.new.to c.get-at.result c.in-Some.first c.get-at.ensures c.in-Some.ensures c.if-narrow_to.ensures.wide c.if-narrow_to.ensures.narrow).beside

pub returns-then-narrow_to-clause-fixed : goal.returns-then-narrow_to-clause-fixed
returns-then-narrow_to-clause-fixed boxes c =
    let shown = boxed (λ p. (goal.Device-dyn boxes p).shown p.1) in
    (narrow_goes shown c.args.self.now c.narrow_to.new.to c.get-at.result c.in-Some.first c.get-at.ensures c.in-Some.ensures c.if-narrow_to.ensures.wide c.if-narrow_to.ensures.narrow).keeps

pub returns-then-narrow_to-clause-io_regions : goal.returns-then-narrow_to-clause-io_regions
returns-then-narrow_to-clause-io_regions boxes c =
    let shown = boxed (λ p. (goal.Device-dyn boxes p).shown p.1) in
    (narrow_goes shown c.args.self.now c.narrow_to.new.to c.get-at.result c.in-Some.first c.get-at.ensures c.in-Some.ensures c.if-narrow_to.ensures.wide c.if-narrow_to.ensures.narrow).io_regions

pub returns-then-first-ge29-clause-goes : goal.returns-then-first-ge29-clause-goes
returns-then-first-ge29-clause-goes boxes c = λ done.
    let shown = boxed (λ p. (goal.Device-dyn boxes p).shown p.1) in
    let same = c.if-narrow_to.ensures.wide (omega (arith, c.if-first-ge29.true)) in
    subst (λ p. GoesOnBeside (sight_of shown p.seen) p.processor (sight_of shown c.step_wide.new.self.seen) c.step_wide.new.self.processor) same (c.step_wide.ensures.goes done)

pub returns-then-first-ge29-clause-halts : goal.returns-then-first-ge29-clause-halts
returns-then-first-ge29-clause-halts boxes c = λ stopped.
    let shown = boxed (λ p. (goal.Device-dyn boxes p).shown p.1) in
    let same = c.if-narrow_to.ensures.wide (omega (arith, c.if-first-ge29.true)) in
    subst (λ p. IsAtLimit (sight_of shown p.seen) p.processor) same (c.step_wide.ensures.halts stopped)

pub returns-clause-fixed : goal.returns-clause-fixed
returns-clause-fixed boxes c =
    let shown = boxed (λ p. (goal.Device-dyn boxes p).shown p.1) in
    stayed_keeps shown c.args.self.now c.narrow_to.new.to (narrow_result (narrow_of c.in-Some.first)) (c.if-narrow_to.ensures.narrow (omega (arith, c.if-first-ge29.false)))
