use Rattle.std.proofs.Common.{◌≡◌, ◌∙◌, sym, List, length, subst, arith}
use Rattle.std.specs.Io.KnownBytes.{Appends}
use Rattle.std.proofs.lemmas.Result.{err_from_is_err_and}
use Rattle.outside_io.specs.Outside.{AppendsFront}
use Rattle.debug_core.specs.declared.command.Command.{Command}
use Rattle.debug_core.specs.declared.command.Command.TheVariants.{Break}
use Rattle.debug_core.specs.Answers.{told_from}
use Rattle.debug_core.proofs.Carried.{carried_all, carried_fails, carried_over, carried_more, carried_none}
use Rattle.debug_core.proofs.debugger.Debugger.carry_out_all.Goals as goal

pub loop-command-init : goal.loop-command-init
loop-command-init g c = record {
  carried = λ x s h. carried_none _ x s c.as_slice-command-items.result.now _ c.args.self.now h;
  later = omega arith;
}

pub command-requires-clause-session : goal.command-requires-clause-session
command-requires-clause-session g c =
    let r = c.requires.session in
    let i = c.loop-command.invariant.carried r.0 r.1 r.2 in
    (r.0, i.here, i.at)

pub command-requires-clause-few : goal.command-requires-clause-few
command-requires-clause-few g c = c.as_slice-command-items.ensures.few c.loop-command.command-index (Break 0) c.loop-command-test.true

pub loop-command-preserved : goal.loop-command-preserved
loop-command-preserved g c = record {
  carried = λ x s h.
      let i = c.loop-command.invariant.carried x s h in
      carried_more _ x s c.as_slice-command-items.result.now c.loop-command.command-index _ _ _ c.loop-command.self (Break 0) c.loop-command-test.true c.command.new.self i (sym i.at.over ∙ c.if-self.false)
      (c.command.ensures.session x i.here i.at) (c.in_ok-command.ensures.told x i.here i.at);
  later = omega (arith, c.loop-command.invariant.later, c.in_ok-command.ensures.cause.later);
}

pub returns-then-self-clause-told : goal.returns-then-self-clause-told
returns-then-self-clause-told g c = λ x s h.
    let i = c.loop-command.invariant.carried x s h in
    subst (λ (cs : List Command). Appends (g.S.Sink.seen c.args.out.now).written (g.S.Sink.seen c.loop-command.out).written (told_from x s cs)) c.as_slice-command-items.ensures.same
    (carried_over _ x s c.as_slice-command-items.result.now c.loop-command.command-index _ _ c.loop-command.self i (sym i.at.over ∙ c.if-self.true))

pub returns-then-self-clause-cause : goal.returns-then-self-clause-cause
returns-then-self-clause-cause g c = record { later = c.loop-command.invariant.later; failed = tt }

pub returns-in_err-command-clause-told : goal.returns-in_err-command-clause-told
returns-in_err-command-clause-told g c = λ x s h.
    let p = err_from_is_err_and c.from_residual.result c.from_residual.ensures.1 in
    let i = c.loop-command.invariant.carried x s h in
    let failed = carried_fails _ x s c.as_slice-command-items.result.now c.loop-command.command-index _ _ _ c.loop-command.self (Break 0) c.loop-command-test.true i (sym i.at.over ∙ c.if-self.false) (c.in_err-command.ensures.told x i.here i.at) in
    rw (p.1) (subst (λ (cs : List Command). AppendsFront (g.S.Sink.seen c.args.out.now).written (g.S.Sink.seen c.command.new.out).written (told_from x s cs)) c.as_slice-command-items.ensures.same failed)

pub returns-in_err-command-clause-cause : goal.returns-in_err-command-clause-cause
returns-in_err-command-clause-cause g c =
    let p = err_from_is_err_and c.from_residual.result c.from_residual.ensures.1 in
    record {
      later = omega (arith, c.loop-command.invariant.later, c.in_err-command.ensures.cause.later);
      failed = rw (p.1) (omega (arith, c.loop-command.invariant.later, c.in_err-command.ensures.cause.failed));
    }

pub returns-clause-told : goal.returns-clause-told
returns-clause-told g c = λ x s h.
    let all : c.loop-command.command-index ≡ length c.as_slice-command-items.result.now = omega (arith, c.loop-command.auto.command-index-end, c.loop-command-test.false) in
    subst (λ (cs : List Command). Appends (g.S.Sink.seen c.args.out.now).written (g.S.Sink.seen c.loop-command.out).written (told_from x s cs)) c.as_slice-command-items.ensures.same
    (carried_all _ x s c.as_slice-command-items.result.now c.loop-command.command-index _ _ c.loop-command.self all (c.loop-command.invariant.carried x s h))

pub returns-clause-cause : goal.returns-clause-cause
returns-clause-cause g c = record { later = c.loop-command.invariant.later; failed = tt }
