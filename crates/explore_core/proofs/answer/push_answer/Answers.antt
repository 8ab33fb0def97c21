use Rattle.std.proofs.Common.{List, ℕ, rules, subst}
use Rattle.std.specs.Io.KnownBytes.{Appends}
use Rattle.std.proofs.lemmas.Result.{err_from_is_err_and}
use Rattle.outside_io.specs.Outside.{AppendsFront}
use Rattle.outside_io.proofs.Pushing.{appends_kept, pushes_kept}
use Rattle.explore_core.proofs.Telling.{each_has_one, is_answer, is_broken, laid_so}
use Rattle.explore_core.proofs.answer.push_answer.Goals as goal

pub push_text-requires-clause-each : goal.push_text-requires-clause-each
push_text-requires-clause-each g c =
    let r = c.requires.answered in
    each_has_one r.0 c.args.given.now c.args.answers.now r.1

pub push_text-requires-clause-laid : goal.push_text-requires-clause-laid
push_text-requires-clause-laid g c =
    let r = c.requires.answered in
    laid_so r.0 c.args.given.now c.args.answers.now r.1 r.3

pub returns-in_err-push_text-clause-text : goal.returns-in_err-push_text-clause-text
returns-in_err-push_text-clause-text g c = λ a is.
    let p = err_from_is_err_and c.from_residual.result c.from_residual.ensures.1 in
    rw (p.1) (subst (λ (t : List ℕ). AppendsFront (g.S.Sink.seen c.args.out.now).written (g.S.Sink.seen c.push_text.new.out).written t) (is_answer a c.args.given.now c.args.answers.now is) c.in_err-push_text.ensures.bytes)

pub returns-in_err-flush-clause-text : goal.returns-in_err-flush-clause-text
returns-in_err-flush-clause-text g c = λ a is.
    let done = subst (λ (t : List ℕ). Appends (g.S.Sink.seen c.args.out.now).written (g.S.Sink.seen c.push_text.new.out).written t) (is_answer a c.args.given.now c.args.answers.now is) c.in_ok-push_text.ensures.bytes in
    pushes_kept _ _ _ _ c.from_residual-in_err-flush.result done c.flush.ensures.written

pub returns-clause-text : goal.returns-clause-text
returns-clause-text g c = λ a is.
    let done = subst (λ (t : List ℕ). Appends (g.S.Sink.seen c.args.out.now).written (g.S.Sink.seen c.push_text.new.out).written t) (is_answer a c.args.given.now c.args.answers.now is) c.in_ok-push_text.ensures.bytes in
    appends_kept _ _ _ _ done c.flush.ensures.written

pub returns-clause-broken : goal.returns-clause-broken
returns-clause-broken g c = λ a is.
    let so = is_broken a c.args.given.now c.args.answers.now is in
    search (rules, so)
