use Rattle.std.proofs.Common.{◌≡◌, ◌∙◌, ◌∷◌, ap, sym, length, List, ℕ}
use Rattle.std.proofs.lemmas.Result.{IfOk-weaker}
use Rattle.run_script.specs.Drafts.{said}
use Rattle.run_script.specs.Statements.{from_text_said}
use Rattle.run_script.specs.Words.{words}
use Rattle.run_script.proofs.Wording.{empty, five_words, no_more, not_empty}
use Rattle.run_script.proofs.forms.from_text_said.Goals as goal

pub returns-then-is_empty-2-clause-value : goal.returns-then-is_empty-2-clause-value
returns-then-is_empty-2-clause-value c =
    let v = c.first_word.result.0.now in
    let w = c.first_word-2.result.0.now in
    let x = c.first_word-3.result.0.now in
    let y = c.first_word-4.result.0.now in
    let z = c.first_word-5.result.0.now in
    let all = five_words (words c.args.before.now) v w x y z
    (words c.first_word.result.1.now) (words c.first_word-2.result.1.now) (words c.first_word-3.result.1.now) (words c.first_word-4.result.1.now) (words c.first_word-5.result.1.now)
    c.first_word.ensures.word c.first_word.ensures.none c.first_word-2.ensures.word c.first_word-2.ensures.none c.first_word-3.ensures.word c.first_word-3.ensures.none
    c.first_word-4.ensures.word c.first_word-4.ensures.none c.first_word-5.ensures.word (not_empty (length z) c.is_empty.result c.is_empty.ensures c.if-is_empty.false) in
    let end = no_more (words c.first_word-5.result.1.now) c.first_word-6.result.0.now (words c.first_word-6.result.1.now) c.first_word-6.ensures.word c.first_word-6.ensures.none (empty (length c.first_word-6.result.0.now) c.is_empty-else-is_empty.result c.is_empty-else-is_empty.ensures c.if-is_empty-2.true) in
    IfOk-weaker c.from_and_text.result _ (λ s. said s ≡ from_text_said (words c.args.before.now) c.args.text.now)
    (λ s h. h ∙ ap (λ (l : List (List ℕ)). from_text_said l c.args.text.now) (sym (all ∙ ap (λ (l : List (List ℕ)). v ∷ w ∷ x ∷ y ∷ z ∷ l) end))) c.from_and_text.ensures.value
