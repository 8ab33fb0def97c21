use Rattle.std.proofs.Common.{◌≡◌, ◌++◌, ◌%◌, ◌∙◌, List, ℕ, Option, Some, sym, ap, subst, refl, decimal, arith}
use Rattle.itoa.proofs.Decimal.{pair}
use Rattle.trace_text.specs.Digits.{HasDigits}
use Rattle.trace_text.proofs.Hundreds.{at_least_two, cut_two, other_two, as_long, begun_at}
use Rattle.trace_text.proofs.turn.TurnLines.change_last_two.Goals as goal

pub overflow_sub-begun : goal.overflow_sub-begun
overflow_sub-begun c =
    let P : Option ℕ → Type 0 = HasDigits c.args.self.now.number c.args.self.now.text.bytes in
    let fit = c.args.self.now.small in
    at_least_two c.args.self.now.number c.args.begun c.args.self.now.text.bytes (omega (arith, c.requires.hundreds, c.requires.long)) (omega (arith, fit)) (subst P c.requires.begun c.args.self.now.begun_of)

pub truncate-requires : goal.truncate-requires
truncate-requires c =
    let P : Option ℕ → Type 0 = HasDigits c.args.self.now.number c.args.self.now.text.bytes in
    let fit = c.args.self.now.small in
    (omega arith, λ _. cut_two c.args.self.now.number c.args.begun c.args.self.now.text.bytes (omega (arith, c.requires.hundreds, c.requires.long)) (omega (arith, fit)) (subst P c.requires.begun c.args.self.now.begun_of))

pub returns-clause-digits : goal.returns-clause-digits
returns-clause-digits c =
    let P : Option ℕ → Type 0 = HasDigits c.args.self.now.number c.args.self.now.text.bytes in
    let kept = other_two c.args.self.now.number c.args.number c.args.begun c.args.self.now.text.bytes c.requires.long c.ranges.number.fits c.args.self.now.small c.requires.hundreds (subst P c.requires.begun c.args.self.now.begun_of) in
    c.push_two.ensures.bytes ∙ ap (λ (xs : List ℕ). xs ++ pair (c.args.number % 100)) c.truncate.ensures ∙ kept

pub invariant_of-self : goal.invariant_of-self
invariant_of-self c =
    let P : Option ℕ → Type 0 = HasDigits c.args.self.now.number c.args.self.now.text.bytes in
    let begun : P (Some c.args.begun) = subst P c.requires.begun c.args.self.now.begun_of in
    let kept = other_two c.args.self.now.number c.args.number c.args.begun c.args.self.now.text.bytes c.requires.long c.ranges.number.fits c.args.self.now.small c.requires.hundreds begun in
    let is : c.push_two.new.out.bytes ≡ decimal c.args.number = c.push_two.ensures.bytes ∙ ap (λ (xs : List ℕ). xs ++ pair (c.args.number % 100)) c.truncate.ensures ∙ kept in
    let long = as_long c.args.self.now.number c.args.number c.args.begun c.args.self.now.text.bytes c.requires.long c.ranges.number.fits c.args.self.now.small c.requires.hundreds begun in
    let Q : Option ℕ → Type 0 = HasDigits c.args.number c.push_two.new.out.bytes in
    record {
      begun_of = subst Q (sym c.requires.begun) (begun_at c.args.number c.args.begun c.push_two.new.out.bytes is long (begun.few c.args.begun refl));
      small = c.ranges.number.fits;
    }
