use Rattle.std.proofs.Common.{◌≡◌, ◌∙◌, ◌+◌, ◌<◌, ◌∷◌, [], ◌++◌, ℕ, List, length, take, get_or, arith, ap, rules}
use Rattle.std.proofs.lemmas.List.{length-take-le, take_more}
use Rattle.mem_plan.specs.Order.{numbered}
use Rattle.mem_plan.proofs.Ordered.{numbered_push}
use Rattle.mem_plan.proofs.placing.order_of.Goals as goal

numbered_more : (rs : List ℕ) (i d : ℕ) → i < length rs → numbered 0 (take (i + 1) rs) ≡ numbered 0 (take i rs) ++ (record { 0 = get_or rs i d }, i) ∷ []
numbered_more rs i d below =
    let long : 0 + length (take i rs) ≡ i = omega (arith, length-take-le i rs (omega (arith, below))) in
    ap (numbered 0) (take_more rs i d below) ∙ numbered_push 0 (take i rs) (get_or rs i d)
    ∙ ap (λ (k : ℕ). numbered 0 (take i rs) ++ (record { 0 = get_or rs i d }, k) ∷ []) long

pub loop-i-preserved : goal.loop-i-preserved
loop-i-preserved c = let more = numbered_more c.args.rounded.now c.loop-i.i 0 c.loop-i-test.true in search (rules, more, c.loop-i.invariant, c.in_ok-push.ensures.items)
