-- If one region grants the right to a range, it grants it to each byte of the range.
use Rattle.std.proofs.Common.{◌≡◌, ◌+◌, ◌<◌, ◌≤◌, ℕ, suc, Bool, true, false, ◌&&◌, ◌||◌, List, [], ◌∷◌, None, not, ap, refl, arith, leb}
use Rattle.std.proofs.lemmas.Bool.{false≢true, le-leb, leb-true, and_parts, and_from}
use Rattle.region_check.specs.declared.Region.{Region}
use Rattle.region_check.specs.declared.Right.{Right}
use Rattle.region_check.specs.Rights.{has_right, is_inside, gives, may_use, first_lacking}
use Rattle.region_check.proofs.FirstBad.{find_range_none}
use Rattle.region_check.specs.Spans.{spans, one_gives}

inside : (r : Region) (a n x : ℕ) → spans r a n ≡ true → a ≤ x → x < a + n → is_inside r x ≡ true
inside r a n x h from below =
    let two = and_parts (leb r.base a) (leb (a + n) (r.base + r.size)) h in
    let low = leb-true r.base a two.0 in
    let high = leb-true (a + n) (r.base + r.size) two.1 in
    and_from (leb r.base x) (leb (suc x) (r.base + r.size)) (le-leb _ _ (omega arith)) (le-leb _ _ (omega arith))

pub each_given : (regions : List Region) (right : Right) (a n x : ℕ) → one_gives right a n regions ≡ true → a ≤ x → x < a + n → may_use regions right x ≡ true
each_given [] right a n x h from below = absurd (false≢true h)
each_given (r ∷ rs) right a n x h from below = by_first (spans r a n && has_right r.rights right) refl h (λ k. each_given rs right a n x k from below)
  where
    or_left : (p q : Bool) → p ≡ true → (p || q) ≡ true
    or_left p q e = rw e refl

    or_right : (p q : Bool) → q ≡ true → (p || q) ≡ true
    or_right true q e = refl
    or_right false q e = e

    by_first : (b : Bool) → (spans r a n && has_right r.rights right) ≡ b → (b || one_gives right a n rs) ≡ true → (one_gives right a n rs ≡ true → may_use rs right x ≡ true) → may_use (r ∷ rs) right x ≡ true
    by_first true e h rest =
        let two = and_parts (spans r a n) (has_right r.rights right) e in
        or_left (gives right x r) (may_use rs right x) (and_from (is_inside r x) (has_right r.rights right) (inside r a n x two.0 from below) two.1)
    by_first false e h rest = or_right (gives right x r) (may_use rs right x) (rest h)

-- and none of them is lacking
pub given_none : (regions : List Region) (right : Right) (a n x m : ℕ) → one_gives right a n regions ≡ true → a ≤ x → x + m ≤ a + n → first_lacking (may_use regions) x m right ≡ None
given_none regions right a n x m h from below =
    let test : ℕ → Bool = λ b. not (may_use regions right b) in
    find_range_none test x m (λ b f l. ap not (each_given regions right a n b h (omega (arith, from, f)) (omega (arith, below, l))))
