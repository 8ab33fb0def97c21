use Rattle.std.proofs.Common.{[], ◌∷◌, ◌++◌, sym, ◌∙◌, ap}
use Rattle.image_format.proofs.Ranges.{kept_more, kept_still}
use Rattle.image_list.proofs.loners_among.Goals as goal
use Rattle.image_list.proofs.loners_among.Goals.{then-is_loner+in_ok-push, else-is_loner}

pub loop-i-preserved : goal.loop-i-preserved
loop-i-preserved c =
    elim c.if-is_loner.branch [
      | then-is_loner+in_ok-push w ↦ ap (λ v. v.items) w.loners-is ∙ w.in_ok-push.ensures.items ∙ ap (λ l. l ++ (c.loop-i.i ∷ [])) c.loop-i.invariant ∙ sym (kept_more _ c.loop-i.i (sym c.is_loner.ensures ∙ w.if-is_loner.true))
      | else-is_loner w ↦ ap (λ v. v.items) w.loners-is ∙ c.loop-i.invariant ∙ sym (kept_still _ c.loop-i.i (sym c.is_loner.ensures ∙ w.if-is_loner.false))
    ]
