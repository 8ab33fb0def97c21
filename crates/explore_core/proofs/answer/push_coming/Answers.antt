use Rattle.std.proofs.Common.{◌++◌, List, ℕ, map, refl, rules, subst}
use Rattle.std.specs.Prelude.{codes, decimal}
use Rattle.std.specs.Io.KnownBytes.{Appends}
use Rattle.std.proofs.lemmas.Result.{err_from_is_err_and}
use Rattle.outside_io.specs.Outside.{AppendsFront, Pushes}
use Rattle.run_question.specs.declared.question.Offer.{Offer}
use Rattle.run_question.specs.Questions.{arrival_data, offer_data}
use Rattle.explore_core.specs.Answers.{byte_words}
use Rattle.explore_core.specs.Ways.{chosen}
use Rattle.explore_core.proofs.Leaving.{all_left, left_fails, left_pushed, less_left}
use Rattle.explore_core.proofs.answer.push_coming.Goals as goal

pub returns-in_err-push_piece-clause-bytes : goal.returns-in_err-push_piece-clause-bytes
returns-in_err-push_piece-clause-bytes g c =
    let p = err_from_is_err_and c.from_residual.result c.from_residual.ensures.1 in
    let way = c.args.way in
    let offers = (arrival_data c.args.arrival.now).offers in
    let front : List ℕ = codes " " ++ decimal way.turn in
    let bytes = byte_words offers (chosen offers way.choice) in
    let failed : AppendsFront (g.S.Sink.seen c.args.out.now).written (g.S.Sink.seen c.push_piece.new.out).written front = search rules in
    left_fails (front ++ bytes) (front ++ bytes) front bytes _ _ _ c.from_residual.result p.0 p.1 (all_left (front ++ bytes) (front ++ bytes) _ refl) refl failed

pub returns-clause-bytes : goal.returns-clause-bytes
returns-clause-bytes g c =
    let way = c.args.way in
    let offers = (arrival_data c.args.arrival.now).offers in
    let front : List ℕ = codes " " ++ decimal way.turn in
    let bytes = byte_words offers (chosen offers way.choice) in
    let done : Appends (g.S.Sink.seen c.args.out.now).written (g.S.Sink.seen c.push_piece.new.out).written front = search rules in
    let left = less_left (front ++ bytes) (front ++ bytes) front bytes _ _ _ (all_left (front ++ bytes) (front ++ bytes) _ refl) refl done in
    let pushed = subst (λ (xs : List Offer). Pushes (g.S.Sink.seen c.push_piece.new.out).written (g.S.Sink.seen c.push_bytes.new.out).written (byte_words (map offer_data xs) (chosen (map offer_data xs) way.choice)) c.push_bytes.result) c.deref.ensures.value c.push_bytes.ensures.bytes in
    left_pushed (front ++ bytes) bytes _ _ _ c.push_bytes.result left pushed
