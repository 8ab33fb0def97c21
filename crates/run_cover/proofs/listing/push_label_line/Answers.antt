use Rattle.std.proofs.Common.{◌++◌, List, ℕ, rules, string_bytes}
use Rattle.std.specs.Prelude.{codes}
use Rattle.std.specs.Io.KnownBytes.{Appends}
use Rattle.std.proofs.lemmas.Result.{err_from_is_err_and}
use Rattle.outside_io.specs.Outside.{AppendsFront, Pushes}
use Rattle.outside_io.proofs.Pushing.{appends_more, pushes_more, front_more, front_wider}
use Rattle.trace_text.specs.Text.{hex}
use Rattle.run_cover.specs.Text.{label_line}
use Rattle.run_cover.proofs.listing.push_label_line.Goals as goal

pub returns-in_err-push-clause-bytes : goal.returns-in_err-push-clause-bytes
unfolding label_line
returns-in_err-push-clause-bytes g c =
    let p = err_from_is_err_and c.from_residual.result c.from_residual.ensures.1 in
    let l = c.args.label.now in
    let front : List ℕ = codes "label " ++ hex l.at ++ codes " " in
    let failed : AppendsFront (g.S.Sink.seen c.args.out.now).written (g.S.Sink.seen c.push.new.self).written front = search rules in
    rw (p.1) (front_wider _ _ (front ++ string_bytes l.name) (codes "\n") (front_wider _ _ front (string_bytes l.name) failed))

pub returns-in_err-push-2-clause-bytes : goal.returns-in_err-push-2-clause-bytes
unfolding label_line
returns-in_err-push-2-clause-bytes g c =
    let p = err_from_is_err_and c.from_residual-in_err-push-2.result c.from_residual-in_err-push-2.ensures.1 in
    let l = c.args.label.now in
    let front : List ℕ = codes "label " ++ hex l.at ++ codes " " in
    let begun : Appends (g.S.Sink.seen c.args.out.now).written (g.S.Sink.seen c.push.new.self).written front = search rules in
    let failed : AppendsFront (g.S.Sink.seen c.push.new.self).written (g.S.Sink.seen c.push-2.new.self).written (string_bytes l.name) = search rules in
    rw (p.1) (front_wider _ _ (front ++ string_bytes l.name) (codes "\n") (front_more _ _ _ front (string_bytes l.name) begun failed))

pub returns-clause-bytes : goal.returns-clause-bytes
unfolding label_line
returns-clause-bytes g c =
    let l = c.args.label.now in
    let front : List ℕ = codes "label " ++ hex l.at ++ codes " " in
    let begun : Appends (g.S.Sink.seen c.args.out.now).written (g.S.Sink.seen c.push.new.self).written front = search rules in
    let named : Appends (g.S.Sink.seen c.push.new.self).written (g.S.Sink.seen c.push-2.new.self).written (string_bytes l.name) = search rules in
    let ended : Pushes (g.S.Sink.seen c.push-2.new.self).written (g.S.Sink.seen c.push-3.new.self).written (codes "\n") c.push-3.result = search rules in
    pushes_more _ _ _ (front ++ string_bytes l.name) (codes "\n") c.push-3.result (appends_more _ _ _ front (string_bytes l.name) begun named) ended
