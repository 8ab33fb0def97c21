use Rattle.std.proofs.Common.{◌++◌, map, refl, rules}
use Rattle.std.specs.Prelude.{codes, decimal}
use Rattle.std.specs.Io.KnownBytes.{Appends}
use Rattle.std.proofs.lemmas.Result.{err_from_is_err_and}
use Rattle.outside_io.specs.Outside.{AppendsFront, Pushes}
use Rattle.run_question.specs.Questions.{arrival_data}
use Rattle.explore_core.specs.Answers.{broken_line, schedule_words}
use Rattle.explore_core.specs.Ways.{schedule_in}
use Rattle.explore_core.proofs.Leaving.{all_left, left_fails, left_pushed, less_left}
use Rattle.explore_core.proofs.Telling.{broken_is}
use Rattle.explore_core.proofs.answer.push_broken.Goals as goal

pub returns-in_err-push-clause-bytes : goal.returns-in_err-push-clause-bytes
returns-in_err-push-clause-bytes g c =
    let p = err_from_is_err_and c.from_residual.result c.from_residual.ensures.1 in
    let arrivals = map arrival_data c.args.arrivals.now in
    let found = c.args.found.now in
    let words = c.args.words.now in
    let ws = schedule_words arrivals (schedule_in arrivals found.ways) in
    let nl = codes "\n" in
    let turn = codes "; turn " ++ (decimal found.turn ++ codes ", arrivals") in
    let whole = broken_line words found.turn ws in
    let all = codes "# broken " ++ (words ++ (turn ++ (ws ++ nl))) in
    let start = all_left whole all (g.S.Sink.seen c.args.out.now).written (broken_is words ws found.turn) in
    let failed : AppendsFront (g.S.Sink.seen c.args.out.now).written (g.S.Sink.seen c.push.new.self).written (codes "# broken ") = search rules in
    left_fails whole all (codes "# broken ") (words ++ (turn ++ (ws ++ nl))) _ _ _ c.from_residual.result p.0 p.1 start refl failed

pub returns-in_err-push-2-clause-bytes : goal.returns-in_err-push-2-clause-bytes
returns-in_err-push-2-clause-bytes g c =
    let p = err_from_is_err_and c.from_residual-in_err-push-2.result c.from_residual-in_err-push-2.ensures.1 in
    let arrivals = map arrival_data c.args.arrivals.now in
    let found = c.args.found.now in
    let words = c.args.words.now in
    let ws = schedule_words arrivals (schedule_in arrivals found.ways) in
    let nl = codes "\n" in
    let turn = codes "; turn " ++ (decimal found.turn ++ codes ", arrivals") in
    let whole = broken_line words found.turn ws in
    let all = codes "# broken " ++ (words ++ (turn ++ (ws ++ nl))) in
    let start = all_left whole all (g.S.Sink.seen c.args.out.now).written (broken_is words ws found.turn) in
    let begun : Appends (g.S.Sink.seen c.args.out.now).written (g.S.Sink.seen c.push.new.self).written (codes "# broken ") = search rules in
    let first = less_left whole all (codes "# broken ") (words ++ (turn ++ (ws ++ nl))) _ _ _ start refl begun in
    left_fails whole (words ++ (turn ++ (ws ++ nl))) words (turn ++ (ws ++ nl)) _ _ _ c.from_residual-in_err-push-2.result p.0 p.1 first refl c.in_err-push-2.ensures.bytes

pub returns-in_err-push_turn-clause-bytes : goal.returns-in_err-push_turn-clause-bytes
returns-in_err-push_turn-clause-bytes g c =
    let p = err_from_is_err_and c.from_residual-in_err-push_turn.result c.from_residual-in_err-push_turn.ensures.1 in
    let arrivals = map arrival_data c.args.arrivals.now in
    let found = c.args.found.now in
    let words = c.args.words.now in
    let ws = schedule_words arrivals (schedule_in arrivals found.ways) in
    let nl = codes "\n" in
    let turn = codes "; turn " ++ (decimal found.turn ++ codes ", arrivals") in
    let whole = broken_line words found.turn ws in
    let all = codes "# broken " ++ (words ++ (turn ++ (ws ++ nl))) in
    let start = all_left whole all (g.S.Sink.seen c.args.out.now).written (broken_is words ws found.turn) in
    let begun : Appends (g.S.Sink.seen c.args.out.now).written (g.S.Sink.seen c.push.new.self).written (codes "# broken ") = search rules in
    let first = less_left whole all (codes "# broken ") (words ++ (turn ++ (ws ++ nl))) _ _ _ start refl begun in
    let second = less_left whole (words ++ (turn ++ (ws ++ nl))) words (turn ++ (ws ++ nl)) _ _ _ first refl c.in_ok-push-2.ensures.bytes in
    left_fails whole (turn ++ (ws ++ nl)) turn (ws ++ nl) _ _ _ c.from_residual-in_err-push_turn.result p.0 p.1 second refl c.in_err-push_turn.ensures.bytes

pub returns-in_err-push_ways-clause-bytes : goal.returns-in_err-push_ways-clause-bytes
returns-in_err-push_ways-clause-bytes g c =
    let p = err_from_is_err_and c.from_residual-in_err-push_ways.result c.from_residual-in_err-push_ways.ensures.1 in
    let arrivals = map arrival_data c.args.arrivals.now in
    let found = c.args.found.now in
    let words = c.args.words.now in
    let ws = schedule_words arrivals (schedule_in arrivals found.ways) in
    let nl = codes "\n" in
    let turn = codes "; turn " ++ (decimal found.turn ++ codes ", arrivals") in
    let whole = broken_line words found.turn ws in
    let all = codes "# broken " ++ (words ++ (turn ++ (ws ++ nl))) in
    let start = all_left whole all (g.S.Sink.seen c.args.out.now).written (broken_is words ws found.turn) in
    let begun : Appends (g.S.Sink.seen c.args.out.now).written (g.S.Sink.seen c.push.new.self).written (codes "# broken ") = search rules in
    let first = less_left whole all (codes "# broken ") (words ++ (turn ++ (ws ++ nl))) _ _ _ start refl begun in
    let second = less_left whole (words ++ (turn ++ (ws ++ nl))) words (turn ++ (ws ++ nl)) _ _ _ first refl c.in_ok-push-2.ensures.bytes in
    let third = less_left whole (turn ++ (ws ++ nl)) turn (ws ++ nl) _ _ _ second refl c.in_ok-push_turn.ensures.bytes in
    left_fails whole (ws ++ nl) ws nl _ _ _ c.from_residual-in_err-push_ways.result p.0 p.1 third refl c.in_err-push_ways.ensures.bytes

pub returns-clause-bytes : goal.returns-clause-bytes
returns-clause-bytes g c =
    let arrivals = map arrival_data c.args.arrivals.now in
    let found = c.args.found.now in
    let words = c.args.words.now in
    let ws = schedule_words arrivals (schedule_in arrivals found.ways) in
    let nl = codes "\n" in
    let turn = codes "; turn " ++ (decimal found.turn ++ codes ", arrivals") in
    let whole = broken_line words found.turn ws in
    let all = codes "# broken " ++ (words ++ (turn ++ (ws ++ nl))) in
    let start = all_left whole all (g.S.Sink.seen c.args.out.now).written (broken_is words ws found.turn) in
    let begun : Appends (g.S.Sink.seen c.args.out.now).written (g.S.Sink.seen c.push.new.self).written (codes "# broken ") = search rules in
    let first = less_left whole all (codes "# broken ") (words ++ (turn ++ (ws ++ nl))) _ _ _ start refl begun in
    let second = less_left whole (words ++ (turn ++ (ws ++ nl))) words (turn ++ (ws ++ nl)) _ _ _ first refl c.in_ok-push-2.ensures.bytes in
    let third = less_left whole (turn ++ (ws ++ nl)) turn (ws ++ nl) _ _ _ second refl c.in_ok-push_turn.ensures.bytes in
    let fourth = less_left whole (ws ++ nl) ws nl _ _ _ third refl c.in_ok-push_ways.ensures.bytes in
    let ended : Pushes (g.S.Sink.seen c.push_ways.new.out).written (g.S.Sink.seen c.push-3.new.self).written nl c.push-3.result = search rules in
    left_pushed whole nl _ _ _ c.push-3.result fourth ended
