use Rattle.std.proofs.Common.{◌++◌, ◌∷◌, [], List, ℕ, get_or, ap, ◌∙◌}
use Rattle.std.proofs.lemmas.Fmt.{decimal_digit}
use Rattle.itoa.proofs.Decimal.{decimal_two}
use Rattle.trace_text.proofs.words.push_spaced_decimal.Goals as goal

pub returns-then-n-lt10-clause-bytes : goal.returns-then-n-lt10-clause-bytes
returns-then-n-lt10-clause-bytes c = rw (decimal_digit c.args.n c.if-n-lt10.true) c.push_ascii.ensures.bytes

pub returns-then-n-lt100-clause-bytes : goal.returns-then-n-lt100-clause-bytes
returns-then-n-lt100-clause-bytes c =
    let digits = c.two_digits.ensures.bytes in
    rw (decimal_two c.args.n c.if-n-lt10.false c.if-n-lt100.true) (c.push_ascii-then-n-lt100.ensures.bytes ∙ ap (λ (ds : List ℕ). c.args.out.now.bytes ++ 32 ∷ get_or ds 0 0 ∷ get_or ds 1 0 ∷ []) digits)
