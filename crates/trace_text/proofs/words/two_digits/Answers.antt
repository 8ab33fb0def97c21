use Rattle.std.proofs.Common.{◌≡◌, ◌+◌, ◌*◌, ◌/◌, ◌%◌, ◌<◌, ◌∷◌, [], ℕ, get_or, sym, subst, arith}
use Rattle.std.proofs.lemmas.Str.Ascii.{IsAscii-cons, IsAscii-nil}
use Rattle.std.specs.Str.{IsAscii}
use Rattle.itoa.proofs.Decimal.{pair, PAIRS_at}
use Rattle.trace_text.specs.declared.words.TheConstants.{PAIRS}
use Rattle.trace_text.proofs.words.two_digits.Goals as goal

looked_up : (n : ℕ) → n < 100 → get_or PAIRS (n * 2) 0 ∷ get_or PAIRS (n * 2 + 1) 0 ∷ [] ≡ pair n
looked_up n h = let at = PAIRS_at n h in λ r. at.0 r ∷ at.1 r ∷ []

pair_ascii : (n : ℕ) → n < 100 → IsAscii (pair n)
pair_ascii n h = IsAscii-cons (48 + n / 10) ((48 + n % 10) ∷ []) (omega arith) (IsAscii-cons (48 + n % 10) [] (omega arith) IsAscii-nil)

pub returns-clause-bytes : goal.returns-clause-bytes
returns-clause-bytes c = looked_up c.args.n c.requires.two

pub returns-clause-ascii : goal.returns-clause-ascii
returns-clause-ascii c = subst IsAscii (sym (looked_up c.args.n c.requires.two)) (pair_ascii c.args.n c.requires.two)
