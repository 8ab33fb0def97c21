use Rattle.std.proofs.Common.{◌++◌, append_assoc, refl, rules}
use Rattle.std.specs.Prelude.{codes}
use Rattle.std.proofs.lemmas.Result.{err_from_is_err_and}
use Rattle.outside_io.specs.Outside.{Pushes}
use Rattle.explore_core.proofs.Leaving.{all_left, left_fails, left_pushed, less_left}
use Rattle.explore_core.proofs.answer.push_kept.Goals as goal

pub returns-in_err-push-clause-bytes : goal.returns-in_err-push-clause-bytes
returns-in_err-push-clause-bytes g c =
    let p = err_from_is_err_and c.from_residual.result c.from_residual.ensures.1 in
    let front = c.args.front.now in
    let words = c.args.words.now in
    let rest = words ++ codes "\n" in
    left_fails (front ++ words ++ codes "\n") (front ++ rest) front rest _ _ _ c.from_residual.result p.0 p.1 (all_left (front ++ words ++ codes "\n") (front ++ rest) _ (append_assoc front words (codes "\n"))) refl c.in_err-push.ensures.bytes

pub returns-in_err-push-2-clause-bytes : goal.returns-in_err-push-2-clause-bytes
returns-in_err-push-2-clause-bytes g c =
    let p = err_from_is_err_and c.from_residual-in_err-push-2.result c.from_residual-in_err-push-2.ensures.1 in
    let front = c.args.front.now in
    let words = c.args.words.now in
    let rest = words ++ codes "\n" in
    let left = less_left (front ++ words ++ codes "\n") (front ++ rest) front rest _ _ _ (all_left (front ++ words ++ codes "\n") (front ++ rest) _ (append_assoc front words (codes "\n"))) refl c.in_ok-push.ensures.bytes in
    left_fails (front ++ words ++ codes "\n") rest words (codes "\n") _ _ _ c.from_residual-in_err-push-2.result p.0 p.1 left refl c.in_err-push-2.ensures.bytes

pub returns-clause-bytes : goal.returns-clause-bytes
returns-clause-bytes g c =
    let front = c.args.front.now in
    let words = c.args.words.now in
    let rest = words ++ codes "\n" in
    let ended : Pushes (g.S.Sink.seen c.push-2.new.self).written (g.S.Sink.seen c.push-3.new.self).written (codes "\n") c.push-3.result = search rules in
    let first = less_left (front ++ words ++ codes "\n") (front ++ rest) front rest _ _ _ (all_left (front ++ words ++ codes "\n") (front ++ rest) _ (append_assoc front words (codes "\n"))) refl c.in_ok-push.ensures.bytes in
    let second = less_left (front ++ words ++ codes "\n") rest words (codes "\n") _ _ _ first refl c.in_ok-push-2.ensures.bytes in
    left_pushed (front ++ words ++ codes "\n") (codes "\n") _ _ _ c.push-3.result second ended
