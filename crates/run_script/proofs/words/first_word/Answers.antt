use Rattle.std.proofs.Common.{◌∙◌, ap, sym, drop, List, ℕ}
use Rattle.run_script.specs.Words.{words, word_then}
use Rattle.run_script.proofs.Wording.{cuts, cuts_none}
use Rattle.run_script.proofs.words.first_word.Goals as goal

pub returns-clause-word : goal.returns-clause-word
returns-clause-word c =
    let s = c.without_blanks-start.result.now in
    let k = c.word_end.result in
    sym c.without_blanks-start.ensures.same
    ∙ cuts s k c.without_blanks-start.ensures.start c.word_end.ensures.within c.word_end.ensures.before c.word_end.ensures.found
    ∙ ap (λ (t : List ℕ). word_then t (words (drop k s))) (sym c.split_at.ensures.front)
    ∙ ap (λ (t : List ℕ). word_then c.split_at.result.0.now (words t)) (sym c.split_at.ensures.back)

pub returns-clause-none : goal.returns-clause-none
returns-clause-none c e =
    let s = c.without_blanks-start.result.now in
    let k = c.word_end.result in
    ap words c.split_at.ensures.back
    ∙ cuts_none s k c.without_blanks-start.ensures.start c.word_end.ensures.found (sym c.split_at.ensures.front ∙ e)
