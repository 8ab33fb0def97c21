use Rattle.run_script.proofs.Wording.{blank_first, word_and, words_nil}
use Rattle.run_script.proofs.words.words_end_at_blanks.Goals as goal

pub returns : goal.returns
returns c = record { skipped = blank_first; word = word_and; none = words_nil }
