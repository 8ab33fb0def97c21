use Rattle.std.proofs.Common.{◌≡◌, ◌∙◌, ◌++◌, List, ap, map, refl, subst, ℕ}
use Rattle.std.specs.Io.KnownBytes.{Appends}
use Rattle.std.proofs.lemmas.Result.{err_from_is_err_and}
use Rattle.outside_io.specs.Outside.{AppendsFront}
use Rattle.run_question.specs.declared.question.Arrival.{Arrival}
use Rattle.run_question.specs.declared.question.Stated.{Stated}
use Rattle.run_question.specs.Questions.{arrival_data, question_data, stated_data}
use Rattle.run_script.specs.Events.{script_data}
use Rattle.explore_core.specs.Answers.{schedules_line}
use Rattle.explore_core.specs.Schedules.{how_many}
use Rattle.explore_core.specs.Telling.{answer_lines, first_ways, found_script}
use Rattle.explore_core.proofs.Leaving.{all_left, left_fails, left_pushed, less_left}
use Rattle.explore_core.proofs.answer.push_text.Goals as goal

pub returns-in_err-push_how_many-clause-bytes : goal.returns-in_err-push_how_many-clause-bytes
returns-in_err-push_how_many-clause-bytes g c =
    let p = err_from_is_err_and c.from_residual.result c.from_residual.ensures.1 in
    let q = question_data c.args.given.now.question in
    let answers = c.args.answers.now in
    let count = schedules_line (how_many q.arrivals) in
    let lines = answer_lines q.arrivals q.properties answers in
    let script = found_script (script_data c.args.given.now.script) q.arrivals (first_ways answers) in
    let whole = count ++ (lines ++ script) in
    let many : c.how_many.result ≡ how_many q.arrivals = c.how_many.ensures ∙ ap (λ (xs : List Arrival). how_many (map arrival_data xs)) c.deref.ensures.value in
    let failed = subst (λ n. AppendsFront (g.S.Sink.seen c.args.out.now).written (g.S.Sink.seen c.push_how_many.new.out).written (schedules_line n)) many c.in_err-push_how_many.ensures.bytes in
    left_fails whole whole count (lines ++ script) _ _ _ c.from_residual.result p.0 p.1 (all_left whole whole _ refl) refl failed

pub returns-in_err-push_lines-clause-bytes : goal.returns-in_err-push_lines-clause-bytes
returns-in_err-push_lines-clause-bytes g c =
    let p = err_from_is_err_and c.from_residual-in_err-push_lines.result c.from_residual-in_err-push_lines.ensures.1 in
    let q = question_data c.args.given.now.question in
    let answers = c.args.answers.now in
    let count = schedules_line (how_many q.arrivals) in
    let lines = answer_lines q.arrivals q.properties answers in
    let script = found_script (script_data c.args.given.now.script) q.arrivals (first_ways answers) in
    let whole = count ++ (lines ++ script) in
    let many : c.how_many.result ≡ how_many q.arrivals = c.how_many.ensures ∙ ap (λ (xs : List Arrival). how_many (map arrival_data xs)) c.deref.ensures.value in
    let counted = subst (λ n. Appends (g.S.Sink.seen c.args.out.now).written (g.S.Sink.seen c.push_how_many.new.out).written (schedules_line n)) many c.in_ok-push_how_many.ensures.bytes in
    let first = less_left whole whole count (lines ++ script) _ _ _ (all_left whole whole _ refl) refl counted in
    let same : answer_lines (map arrival_data c.deref-2.result.now) (map stated_data c.deref-3.result.now) answers ≡ lines =
    ap (λ (xs : List Arrival). answer_lines (map arrival_data xs) (map stated_data c.deref-3.result.now) answers) c.deref-2.ensures.value
    ∙ ap (λ (ps : List Stated). answer_lines q.arrivals (map stated_data ps) answers) c.deref-3.ensures.value in
    let failed = subst (λ (w : List ℕ). AppendsFront (g.S.Sink.seen c.push_how_many.new.out).written (g.S.Sink.seen c.push_lines.new.out).written w) same c.in_err-push_lines.ensures.bytes in
    left_fails whole (lines ++ script) lines script _ _ _ c.from_residual-in_err-push_lines.result p.0 p.1 first refl failed

pub returns-clause-bytes : goal.returns-clause-bytes
returns-clause-bytes g c =
    let q = question_data c.args.given.now.question in
    let answers = c.args.answers.now in
    let count = schedules_line (how_many q.arrivals) in
    let lines = answer_lines q.arrivals q.properties answers in
    let script = found_script (script_data c.args.given.now.script) q.arrivals (first_ways answers) in
    let whole = count ++ (lines ++ script) in
    let many : c.how_many.result ≡ how_many q.arrivals = c.how_many.ensures ∙ ap (λ (xs : List Arrival). how_many (map arrival_data xs)) c.deref.ensures.value in
    let counted = subst (λ n. Appends (g.S.Sink.seen c.args.out.now).written (g.S.Sink.seen c.push_how_many.new.out).written (schedules_line n)) many c.in_ok-push_how_many.ensures.bytes in
    let first = less_left whole whole count (lines ++ script) _ _ _ (all_left whole whole _ refl) refl counted in
    let same : answer_lines (map arrival_data c.deref-2.result.now) (map stated_data c.deref-3.result.now) answers ≡ lines =
    ap (λ (xs : List Arrival). answer_lines (map arrival_data xs) (map stated_data c.deref-3.result.now) answers) c.deref-2.ensures.value
    ∙ ap (λ (ps : List Stated). answer_lines q.arrivals (map stated_data ps) answers) c.deref-3.ensures.value in
    let told = subst (λ (w : List ℕ). Appends (g.S.Sink.seen c.push_how_many.new.out).written (g.S.Sink.seen c.push_lines.new.out).written w) same c.in_ok-push_lines.ensures.bytes in
    let second = less_left whole (lines ++ script) lines script _ _ _ first refl told in
    left_pushed whole script _ _ _ c.push_first.result second c.push_first.ensures.bytes
