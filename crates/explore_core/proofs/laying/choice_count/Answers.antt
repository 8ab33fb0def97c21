use Rattle.std.proofs.Common.{◌≡◌, ◌∙◌, ◌*◌, ◌+◌, ◌≤◌, drop, map, ap, sym, arith}
use Rattle.std.proofs.lemmas.Nat.{mul-le}
use Rattle.run_question.specs.Questions.{offer_data}
use Rattle.run_question.specs.Reading.{choice_count}
use Rattle.explore_core.proofs.Chosen.{count_of_none, offer_at, some_of_offers}
use Rattle.explore_core.proofs.laying.choice_count.Goals as goal

pub overflow_mul-count : goal.overflow_mul-count
overflow_mul-count c =
    let here = offer_at c.args.offers.now c.loop-offer.offer-index c.offer-item.result c.requires.fine c.loop-offer-test.true c.offer-item.is in
    let rest = choice_count (map offer_data (drop (c.loop-offer.offer-index + 1) c.args.offers.now)) in
    let many : c.loop-offer.count * (c.len.result * rest) ≡ choice_count (map offer_data c.args.offers.now) =
    ap (λ n. c.loop-offer.count * (n * rest)) (c.len.ensures ∙ c.offer-item.result.events.ok.0) ∙ ap (λ n. c.loop-offer.count * n) (sym here.count) ∙ c.loop-offer.invariant in
    let less : c.loop-offer.count * c.len.result * 1 ≤ c.loop-offer.count * c.len.result * rest = mul-le (c.loop-offer.count * c.len.result) 1 (c.loop-offer.count * c.len.result) rest (omega arith) here.some in
    let few = c.requires.few in
    let most : c.loop-offer.count * c.len.result ≤ 1000000000000000000 = omega (arith, many, less, few) in
    omega (arith, most)

pub loop-offer-preserved : goal.loop-offer-preserved
loop-offer-preserved c =
    let here = offer_at c.args.offers.now c.loop-offer.offer-index c.offer-item.result c.requires.fine c.loop-offer-test.true c.offer-item.is in
    let rest = choice_count (map offer_data (drop (c.loop-offer.offer-index + 1) c.args.offers.now)) in
    let many : c.loop-offer.count * (c.len.result * rest) ≡ choice_count (map offer_data c.args.offers.now) =
    ap (λ n. c.loop-offer.count * (n * rest)) (c.len.ensures ∙ c.offer-item.result.events.ok.0) ∙ ap (λ n. c.loop-offer.count * n) (sym here.count) ∙ c.loop-offer.invariant in
    let whole : c.loop-offer.count * c.len.result * rest ≡ c.loop-offer.count * (c.len.result * rest) = omega arith in
    whole ∙ many

pub returns-clause-count : goal.returns-clause-count
returns-clause-count c =
    let one = count_of_none c.args.offers.now c.loop-offer.offer-index c.loop-offer-test.false in
    let once : c.loop-offer.count * 1 ≡ choice_count (map offer_data c.args.offers.now) = ap (λ n. c.loop-offer.count * n) (sym one) ∙ c.loop-offer.invariant in
    omega (arith, once)

pub returns-clause-some : goal.returns-clause-some
returns-clause-some c =
    let one = count_of_none c.args.offers.now c.loop-offer.offer-index c.loop-offer-test.false in
    let once : c.loop-offer.count * 1 ≡ choice_count (map offer_data c.args.offers.now) = ap (λ n. c.loop-offer.count * n) (sym one) ∙ c.loop-offer.invariant in
    let some = some_of_offers (map offer_data c.args.offers.now) c.requires.fine in
    omega (arith, once, some)
