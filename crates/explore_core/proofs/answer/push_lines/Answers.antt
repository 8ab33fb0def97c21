use Rattle.std.proofs.Common.{◌∙◌, ◌<◌, ap, arith, get_or, length, map, sym}
use Rattle.std.proofs.lemmas.List.{drop_more}
use Rattle.std.proofs.lemmas.Result.{err_from_is_err_and}
use Rattle.run_question.specs.declared.question.Stated.{Stated}
use Rattle.run_question.specs.Questions.{arrival_data, stated_data}
use Rattle.explore_core.specs.declared.found.Answer.TheVariants.{Holds}
use Rattle.explore_core.proofs.Leaving.{left_fails, less_left}
use Rattle.explore_core.proofs.Telling.{line_more, mapped_item}
use Rattle.explore_core.proofs.answer.push_lines.Goals as goal

pub returns-in_err-push_line-clause-bytes : goal.returns-in_err-push_line-clause-bytes
returns-in_err-push_line-clause-bytes g c =
    let p = err_from_is_err_and c.from_residual.result c.from_residual.ensures.1 in
    let i = c.loop-i.i in
    let ps = c.args.properties.now in
    let answers = c.args.answers.now in
    let lt : i < length answers = c.loop-i-test.true in
    let within : i < length ps = omega (arith, lt, c.requires.each) in
    let e = mapped_item stated_data ps i c.index-properties-i.result within c.index-properties-i.is in
    let f = drop_more answers i Holds lt in
    let more = line_more (map arrival_data c.args.arrivals.now) _ _ _ _ (get_or answers i Holds) _ c.as_slice.result.now e f (c.as_slice.ensures.value ∙ ap (λ (s : Stated). s.words.items) (sym c.index-properties-i.is)) in
    left_fails _ _ _ _ _ _ _ c.from_residual.result p.0 p.1 c.loop-i.invariant.left more c.in_err-push_line.ensures.bytes

pub loop-i-preserved : goal.loop-i-preserved
loop-i-preserved g c =
    let i = c.loop-i.i in
    let ps = c.args.properties.now in
    let answers = c.args.answers.now in
    let lt : i < length answers = c.loop-i-test.true in
    let within : i < length ps = omega (arith, lt, c.requires.each) in
    let e = mapped_item stated_data ps i c.index-properties-i.result within c.index-properties-i.is in
    let f = drop_more answers i Holds lt in
    let more = line_more (map arrival_data c.args.arrivals.now) _ _ _ _ (get_or answers i Holds) _ c.as_slice.result.now e f (c.as_slice.ensures.value ∙ ap (λ (s : Stated). s.words.items) (sym c.index-properties-i.is)) in
    record {
      left = less_left _ _ _ _ _ _ _ c.loop-i.invariant.left more c.in_ok-push_line.ensures.bytes;
      later = omega (arith, c.loop-i.invariant.later, c.in_ok-push_line.ensures.cause.later);
    }
