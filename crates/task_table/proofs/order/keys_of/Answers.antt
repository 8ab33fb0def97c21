use Rattle.std.proofs.Common.{◌≡◌, ◌∙◌, ◌+◌, ◌*◌, ◌<◌, ◌∷◌, [], ◌++◌, ℕ, List, length, take, get_or, arith, ap, rules}
use Rattle.std.proofs.lemmas.List.{length-take-le, take_more}
use Rattle.task_table.specs.kept.Order.{keyed}
use Rattle.task_table.proofs.kept.Ordered.{keyed_push}
use Rattle.task_table.proofs.order.keys_of.Goals as goal

keyed_more : (ps : List ℕ) (i d : ℕ) → i < length ps → keyed 0 (take (i + 1) ps) ≡ keyed 0 (take i ps) ++ (1024 * get_or ps i d + i) ∷ []
keyed_more ps i d below =
    let long : 0 + length (take i ps) ≡ i = omega (arith, length-take-le i ps (omega (arith, below))) in
    ap (keyed 0) (take_more ps i d below) ∙ keyed_push 0 (take i ps) (get_or ps i d) ∙ ap (λ (k : ℕ). keyed 0 (take i ps) ++ (1024 * get_or ps i d + k) ∷ []) long

pub loop-i-preserved : goal.loop-i-preserved
loop-i-preserved c = let more = keyed_more c.args.priorities.now c.loop-i.i 0 c.loop-i-test.true in search (rules, more, c.loop-i.invariant, c.in_ok-push.ensures.items)
