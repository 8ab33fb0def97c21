use Rattle.std.proofs.Common.{◌≡◌, ◌∙◌, ◌<◌, ◌+◌, ◌++◌, ℕ, List, [], ◌∷◌, ap, arith, get_or, length, map, sym, take}
use Rattle.std.proofs.lemmas.List.{map-append, take_more}
use Rattle.image_format.specs.Images.{image_data}
use Rattle.image_format.specs.ImageData.{no_line}
use Rattle.task_table.specs.kept.Parts.{line_setup}
use Rattle.board_core.specs.Opened.{setup_of_line}
use Rattle.board_core.proofs.opening.line_starts.Goals as goal

one_more : {A B C : Type 0} (f : A → C) (g : B → C) (front : List A) (a : A) (all : List B) (k : ℕ) (d : B) → k < length all
    → map f front ≡ map g (take k all) → f a ≡ g (get_or all k d) → map f (front ++ a ∷ []) ≡ map g (take (k + 1) all)
one_more f g front a all k d within before same =
    map-append f front (a ∷ []) ∙ ap (λ cs. cs ++ f a ∷ []) before ∙ ap (λ c. map g (take k all) ++ c ∷ []) same
    ∙ sym (map-append g (take k all) (get_or all k d ∷ [])) ∙ ap (map g) (sym (take_more all k d within))

pub loop-k-preserved : goal.loop-k-preserved
loop-k-preserved c =
    let p = image_data c.args.image.now in
    ap (map line_setup) c.in_ok-push.ensures.items
    ∙ one_more line_setup (setup_of_line p) c.loop-k.lines.items c.line_start.result p.lines c.loop-k.k no_line (omega (arith, c.line_count-k-end.ensures, c.loop-k-test.true)) c.loop-k.invariant c.line_start.ensures
