use Rattle.std.proofs.Common.{◌∙◌, ap, sym, arith}
use Rattle.run_script.specs.Statements.{from_said}
use Rattle.run_script.specs.Words.{words}
use Rattle.run_script.proofs.Wording.{five_words}
use Rattle.run_script.proofs.forms.from_said.Goals as goal

pub returns-else-is_empty-clause-value : goal.returns-else-is_empty-clause-value
returns-else-is_empty-clause-value c =
    c.from_words.ensures.value
    ∙ ap from_said (sym (five_words (words c.args.text.now) c.first_word.result.0.now c.first_word-2.result.0.now c.first_word-3.result.0.now c.first_word-4.result.0.now c.first_word-5.result.0.now
    (words c.first_word.result.1.now) (words c.first_word-2.result.1.now) (words c.first_word-3.result.1.now) (words c.first_word-4.result.1.now) (words c.first_word-5.result.1.now)
    c.first_word.ensures.word c.first_word.ensures.none c.first_word-2.ensures.word c.first_word-2.ensures.none c.first_word-3.ensures.word c.first_word-3.ensures.none
    c.first_word-4.ensures.word c.first_word-4.ensures.none c.first_word-5.ensures.word (grind arith)))
