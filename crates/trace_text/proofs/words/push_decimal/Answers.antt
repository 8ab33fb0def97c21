use Rattle.std.proofs.Common.{◌≡◌, ◌/◌, ◌%◌, ◌^◌, ◌<◌, ◌≤◌, ◌++◌, ℕ, List, decimal, sym, ap, ◌∙◌, arith, append_assoc}
use Rattle.itoa.proofs.Decimal.{pair, decimal_pair}
use Rattle.trace_text.proofs.words.push_decimal.Goals as goal

two_more : (bs : List ℕ) (n : ℕ) → 100 ≤ n → n < 2 ^ 64 → (bs ++ decimal (n / 100)) ++ pair (n % 100) ≡ bs ++ decimal n
two_more bs n from fits = append_assoc bs (decimal (n / 100)) (pair (n % 100)) ∙ ap (λ (xs : List ℕ). bs ++ xs) (sym (decimal_pair n from fits))

pub returns-then-n-lt10000-clause-bytes : goal.returns-then-n-lt10000-clause-bytes
returns-then-n-lt10000-clause-bytes c =
    let n : ℕ = c.args.n in
    c.push_two.ensures.bytes
    ∙ ap (λ (xs : List ℕ). xs ++ pair (n % 100)) c.push_short-then-n-lt10000.ensures.bytes
    ∙ two_more c.args.out.now.bytes n (omega arith) (omega arith)

pub returns-then-n-lt1000000-clause-bytes : goal.returns-then-n-lt1000000-clause-bytes
returns-then-n-lt1000000-clause-bytes c =
    let n : ℕ = c.args.n in
    let bs : List ℕ = c.args.out.now.bytes in
    let same : n / 10000 ≡ n / 100 / 100 = omega arith in
    let first = c.push_short-then-n-lt1000000.ensures.bytes ∙ ap (λ (k : ℕ). bs ++ decimal k) same in
    let next = c.push_two-then-n-lt1000000.ensures.bytes ∙ ap (λ (xs : List ℕ). xs ++ pair (n / 100 % 100)) first ∙ two_more bs (n / 100) (omega arith) (omega arith) in
    c.push_two-then-n-lt1000000-2.ensures.bytes ∙ ap (λ (xs : List ℕ). xs ++ pair (n % 100)) next ∙ two_more bs n (omega arith) (omega arith)
