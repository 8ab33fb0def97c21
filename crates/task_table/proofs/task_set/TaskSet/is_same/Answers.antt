use Rattle.std.proofs.Common.{◌≡◌, ◌/◌, ℕ, get_or, ◌≤◌, arith, inl, inr, sym, subst, ◌∙◌, ap}
use Rattle.std.proofs.lemmas.Bool.{cases_lt, false≢true}
use Rattle.task_table.specs.kept.TaskSets.{IsUsed}
use Rattle.task_table.specs.declared.task_set.TaskSet.{TaskSet}
use Rattle.task_table.proofs.kept.Summaries.{used_there, beyond_used, same_word}
use Rattle.task_table.proofs.task_set.TaskSet.is_same.Goals as goal

pub loop-word-init : goal.loop-word-init
loop-word-init c = λ w below. absurd (omega (arith, below))

pub loop-word-preserved : goal.loop-word-preserved
loop-word-preserved c = λ w below. elim (cases_lt w c.loop-word.word) [
  | inl lt ↦ c.loop-word.invariant w lt
  | inr ge ↦ let same : w ≡ c.loop-word.word = omega (arith, below, ge) in rw same c.if-self-word.false
]

pub bounds-self-word : goal.bounds-self-word
bounds-self-word c = omega (arith, used_there c.args.self.now.words c.args.self.now.summary _ c.loop-word.word c.args.self.now.summed c.used_words-word-end.ensures c.loop-word-test.true, c.args.self.now.all_words)

pub bounds-other-word : goal.bounds-other-word
bounds-other-word c = omega (arith, used_there c.args.self.now.words c.args.self.now.summary _ c.loop-word.word c.args.self.now.summed c.used_words-word-end.ensures c.loop-word-test.true, c.args.self.now.all_words)

pub returns-then-self-other : goal.returns-then-self-other
returns-then-self-other c = record { same = λ e. absurd (false≢true e); other = λ e f. c.if-self-other.true (ap (λ (s : TaskSet). s.summary) f) }

pub returns-then-self-word : goal.returns-then-self-word
returns-then-self-word c = record { same = λ e. absurd (false≢true e); other = λ e f. c.if-self-word.true (ap (λ (s : TaskSet). get_or s.words c.loop-word.word 0) f) }

pub returns : goal.returns
returns c =
    let xs = c.args.self.now in
    let ys = c.args.other.now in
    let used = c.used_words-word-end.result in
    let u = c.used_words-word-end.ensures in
    record {
      same = λ e i. elim (cases_lt (i / 32) c.loop-word.word) [
        | inl lt ↦ same_word xs.words ys.words i (c.loop-word.invariant (i / 32) lt)
        | inr ge ↦
            let above : used ≤ i / 32 = omega (arith, ge, c.loop-word-test.false) in
            beyond_used xs.words xs.summary used i xs.summed u above ∙ sym (beyond_used ys.words ys.summary used i ys.summed (subst (λ (s : ℕ). IsUsed s used) c.if-self-other.false u) above)
      ];
      other = λ e. absurd (false≢true (sym e));
    }
