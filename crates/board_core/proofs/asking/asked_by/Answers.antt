use Rattle.std.proofs.Common.{◌≡◌, ◌∙◌, ◌+◌, ◌<◌, ◌++◌, ℕ, Bool, List, [], ◌∷◌, length, map, take, get_or, sym, ap, arith}
use Rattle.std.proofs.lemmas.List.{map_more}
use Rattle.board_core.proofs.asking.asked_by.Goals as goal

-- that of one line more
asked_more : {A : Type 0} (f : A → Bool) (lines : List A) (asked : List Bool) (i : ℕ) (d : A) (asks : Bool) → i < length lines → asked ≡ map f (take i lines) → asks ≡ f (get_or lines i d) → asked ++ asks ∷ [] ≡ map f (take (i + 1) lines)
asked_more f lines asked i d asks lt before at =
    ap (λ (bs : List Bool). bs ++ asks ∷ []) before
    ∙ ap (λ (b : Bool). map f (take i lines) ++ b ∷ []) at
    ∙ sym (map_more f lines i d lt)

pub loop-line-preserved : goal.loop-line-preserved
loop-line-preserved boxes c = record {
  items = c.push.ensures.items ∙ asked_more _ c.args.lines.now c.loop-line.asked.items c.loop-line.line-index _ c.asks_at.result c.loop-line-test.true c.loop-line.invariant.items c.asks_at.ensures;
  len = omega (arith, c.push.ensures.len, c.loop-line.invariant.len);
}
