use Rattle.std.proofs.Common.{◌≡◌, ◌∙◌, ◌++◌, ◌+◌, ◌-◌, ◌<◌, ◌≤◌, length, map, ap, arith}
use Rattle.std.proofs.lemmas.List.{length-map}
use Rattle.std.proofs.lemmas.Result.{on_ok_weaker}
use Rattle.run_question.specs.Questions.{arrival_data}
use Rattle.explore_core.specs.Parties.{party_of}
use Rattle.explore_core.proofs.Party.{comes, comes_or_not, ends_with, ends_without, joined, may_fail_there, stays_away, with_bits}
use Rattle.explore_core.proofs.parties.+push_parties.Goals.{then-some-gt0+in_ok-push_parties, else-some-gt0}
use Rattle.explore_core.proofs.parties.+push_parties.Goals as goal

pub returns-in_ok-push : goal.returns-in_ok-push
returns-in_ok-push t c =
    let a = c.args in
    let arrivals = map arrival_data a.arrivals.now in
    let long : length arrivals ≤ a.place = omega (arith, length-map a.arrivals.now arrival_data, c.if-place-arrivals.true) in
    ends_with arrivals a.place a.some a.bits a.list.now.items c.push.new.self.items long c.if-some-eq0.true c.in_ok-push.ensures.items

pub returns-else-some-eq0 : goal.returns-else-some-eq0
returns-else-some-eq0 t c =
    let a = c.args in
    let arrivals = map arrival_data a.arrivals.now in
    let long : length arrivals ≤ a.place = omega (arith, length-map a.arrivals.now arrival_data, c.if-place-arrivals.true) in
    ends_without arrivals a.place a.some a.bits a.list.now.items long c.if-some-eq0.false

pub returns-then-not-arrivals-place : goal.returns-then-not-arrivals-place
returns-then-not-arrivals-place t c =
    let a = c.args in
    let arrival = c.index-arrivals-place.result in
    let arrivals = map arrival_data a.arrivals.now in
    let here : a.place < length a.arrivals.now = omega (arith, c.requires.place, c.if-place-arrivals.false) in
    let inside : a.place < length arrivals = omega (arith, here, length-map a.arrivals.now arrival_data) in
    let all = comes arrivals a.place a.bits (arrival_data arrival) inside a.some c.with_place-with_it.result c.requires.bits c.with_place-with_it.ensures.more
    (may_fail_there a.arrivals.now a.place arrival _ here c.if-not-arrivals-place.true) in
    on_ok_weaker c.push_parties.result (λ pushed. pushed ∙ ap (λ l. map (party_of arrivals) a.list.now.items ++ l) all) c.push_parties.ensures

pub returns : goal.returns
returns t c =
    let a = c.args in
    let n = c.with_place-with_it.result in
    let arrival = c.index-arrivals-place.result in
    let arrivals = map arrival_data a.arrivals.now in
    let old = map (party_of arrivals) a.list.now.items in
    let here : a.place < length a.arrivals.now = omega (arith, c.requires.place, c.if-place-arrivals.false) in
    let inside : a.place < length arrivals = omega (arith, here, length-map a.arrivals.now arrival_data) in
    let may = may_fail_there a.arrivals.now a.place arrival _ here c.if-not-arrivals-place.false in
    let more = with_bits arrivals (a.place + 1) a.some a.bits in
    let whole = with_bits arrivals a.place a.some a.bits in
    let all : map (party_of arrivals) c.if-some-gt0.list.items ++ more ≡ old ++ whole =
    elim c.if-some-gt0.branch [
      | then-some-gt0+in_ok-push_parties w ↦
          let first = with_bits arrivals (a.place + 1) (a.some - 1) n in
          let mid = w.push_parties-then-some-gt0.new.list.items in
          let same : map (party_of arrivals) c.if-some-gt0.list.items ≡ map (party_of arrivals) mid = ap (λ v. map (party_of arrivals) v.items) w.list-is in
          let both : first ++ more ≡ whole = comes_or_not arrivals a.place a.bits (arrival_data arrival) inside a.some n (omega (arith, w.if-some-gt0.true)) c.requires.bits c.with_place-with_it.ensures.more may in
          joined old first more whole (map (party_of arrivals) mid) _ same w.in_ok-push_parties.ensures both
      | else-some-gt0 w ↦
          let pushed : map (party_of arrivals) c.if-some-gt0.list.items ≡ old = ap (λ v. map (party_of arrivals) v.items) w.list-is in
          let same : more ≡ whole = stays_away arrivals a.place a.bits (arrival_data arrival) inside a.some (omega (arith, w.if-some-gt0.false)) may in
          λ i. pushed i ++ same i
    ] in
    on_ok_weaker c.push_parties-2.result (λ pushed. pushed ∙ all) c.push_parties-2.ensures
