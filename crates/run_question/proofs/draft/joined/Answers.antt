use Rattle.std.proofs.Common.{length}
use Rattle.run_script.specs.Words.{words}
use Rattle.run_script.proofs.Wording.{empty, not_empty}
use Rattle.run_question.specs.Reading.{joined}
use Rattle.run_question.proofs.Joining.{begins, ends, goes_on}
use Rattle.run_question.proofs.draft.joined.Goals as goal

pub words-init : goal.words-init
words-init c =
    begins c.new-words.result.items c.extend_from_slice.new.self.items c.first_word.result.0.now (words c.args.text.now) (words c.first_word.result.1.now)
    c.new-words.ensures.items c.in_ok-extend_from_slice.ensures.items c.first_word.ensures.word c.first_word.ensures.none

pub returns-then-is_empty : goal.returns-then-is_empty
returns-then-is_empty c =
    let word = c.first_word-in-words.result.0.now in
    ends (joined (words c.args.text.now)) c.words.words.items word (words c.words.rest.now) (words c.first_word-in-words.result.1.now)
    c.words.invariant c.first_word-in-words.ensures.word c.first_word-in-words.ensures.none (empty (length word) c.is_empty.result c.is_empty.ensures c.if-is_empty.true)

pub words-preserved : goal.words-preserved
words-preserved c =
    let word = c.first_word-in-words.result.0.now in
    goes_on (joined (words c.args.text.now)) c.words.words.items c.push.new.self.items c.extend_from_slice-in-words.new.self.items word (words c.words.rest.now) (words c.first_word-in-words.result.1.now)
    c.words.invariant c.first_word-in-words.ensures.word (not_empty (length word) c.is_empty.result c.is_empty.ensures c.if-is_empty.false) c.in_ok-push.ensures.items c.in_ok-extend_from_slice-2.ensures.items
