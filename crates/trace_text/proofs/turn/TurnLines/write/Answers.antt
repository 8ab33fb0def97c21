use Rattle.std.proofs.Common.{◌≡◌, ◌∙◌, List, ℕ, Some, length, sym, subst, decimal}
use Rattle.std.proofs.lemmas.Option.{same_Some, none-some}
use Rattle.trace_text.specs.Digits.{HasDigits}
use Rattle.trace_text.specs.Text.{line_of}
use Rattle.trace_text.proofs.Begins.{Begins, line_begins, cut_at, front_of}
use Rattle.trace_text.proofs.turn.TurnLines.write.Goals as goal

pub invariant_of-self : goal.invariant_of-self
invariant_of-self c =
    let turn = c.args.self.now.number in
    let begun = c.begin_line.ensures.begun in
    let is : c.line.new.out.bytes ≡ line_of turn c.args.note.now = c.line.ensures.line turn c.begin_line.ensures.digits in
    let P : List ℕ → Type 0 = Begins (decimal turn) in
    let begins : P c.line.new.out.bytes = subst P (sym is) (line_begins turn c.args.note.now) in
    let count : (n : ℕ) → c.begin_line.new.self.begun ≡ Some n → n ≡ length (decimal turn) = λ n e. same_Some n (length (decimal turn)) (sym e ∙ begun) in
    let kept : HasDigits turn c.line.new.out.bytes c.begin_line.new.self.begun = record {
      empty = λ none. absurd (none-some _ (sym none ∙ begun));
      digits = λ n e. front_of _ _ n (count n e) begins;
      cut = λ n e. cut_at _ _ n (count n e) begins;
      count = count;
      few = c.begin_line.new.self.begun_of.few;
    } in
    record { begun_of = subst (λ (k : ℕ). HasDigits k c.line.new.out.bytes c.begin_line.new.self.begun) (sym c.begin_line.ensures.number) kept; small = c.begin_line.new.self.small }
