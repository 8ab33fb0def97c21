use Rattle.std.proofs.Common.{◌≡◌, ◌≤◌, drop, map}
use Rattle.std.specs.List.{All}
use Rattle.run_question.specs.Questions.{offer_data}
use Rattle.run_question.specs.Reading.{choice_count}
use Rattle.explore_core.specs.Answers.{byte_words}
use Rattle.explore_core.specs.Fine.{IsFineOffer}
use Rattle.explore_core.specs.Ways.{chosen}
use Rattle.explore_core.proofs.Leaving.{IsLeft}
use Rattle.explore_core.proofs.answer.push_bytes.Given as goal

abbrev pub invariant-loop-offer : goal.invariant-loop-offer
invariant-loop-offer g l =
    let all = map offer_data l.offers in
    let now = map offer_data (drop l.offer-index l.offers) in
    record {
      left : IsLeft (byte_words all (chosen all l.choice)) (byte_words now (chosen now l.choice)) (g.S.Sink.seen l.fn.out).written (g.S.Sink.seen l.out).written;
      fine : All IsFineOffer now;
      behind : l.behind ≡ choice_count now;
      later : (g.S.Sink.seen l.fn.out).faults ≤ (g.S.Sink.seen l.out).faults;
    }
