-- Numbers, digit by digit.
use Rattle.std.proofs.Common.{◌≡◌, ℕ, suc, zero, ◌+◌, ◌*◌, ◌^◌, ◌<◌, ◌≤◌, List, [], ◌∷◌, length, get_or, drop, refl, ap, ◌∙◌, sym, arith, add_assoc, Bool, true, false, nat_le, nat_lt, ◌&&◌, Option, Some, None, if◌then◌else◌, zero-add, add-zero, add-one}
use Rattle.std.proofs.lemmas.Bool.{le-leb, lt-leb, and_right}
use Rattle.std.proofs.Math.Seq.{drop-cons}
use Rattle.text_lines.proofs.Ends.{drop_over}
use Rattle.std.proofs.Math.Nat.{pow-succ', mul_assoc, add-mul, zero-mul, mul-one, le-mul_of_pos_right, pow-zero, one-le-mul}
use Rattle.text_lines.specs.Text.{value_in, digit, number_in}
use Rattle.std.specs.List.{list_all}

abbrev pub fitted : Bool → ℕ → ℕ → Option ℕ
fitted b n max = if b && nat_le n max then Some n else None

-- the value of the digits read so far, and the digits that follow
abbrev pub so_far : (ℕ → Bool) → ℕ → ℕ → List ℕ → ℕ → Option ℕ
so_far p base value rest max = fitted (list_all p rest) (value * base ^ length rest + value_in base rest) max

pub positive : (n : ℕ) → nat_lt 0 (suc n) ≡ true
positive n = grind arith

pub start : (p : ℕ → Bool) (base : ℕ) (s : List ℕ) (max : ℕ) → 0 < length s → number_in p base s max ≡ so_far p base 0 s max
start p base [] max h = absurd (omega arith)
start p base (c ∷ cs) max h = rw (positive (length cs)) (ap (λ n. fitted (list_all p (c ∷ cs)) n max) (sym (ap (λ z. z + value_in base (c ∷ cs)) (zero-mul (base ^ suc (length cs))) ∙ zero-add _)))

-- one more digit
horner : (v d b q r : ℕ) → v * (b * q) + (d * q + r) ≡ (v * b + d) * q + r
horner v d b q r = ap (λ z. z + (d * q + r)) (sym (mul_assoc v b q)) ∙ sym (add_assoc (v * b * q) (d * q) r) ∙ ap (λ z. z + r) (sym (add-mul (v * b) d q))

one_more : (base v c : ℕ) (cs : List ℕ) → v * base ^ suc (length cs) + value_in base (c ∷ cs) ≡ (v * base + digit c) * base ^ length cs + value_in base cs
unfolding value_in
one_more base v c cs = ap (λ z. v * z + (digit c * base ^ length cs + value_in base cs)) (pow-succ' base (length cs)) ∙ horner v (digit c) base (base ^ length cs) (value_in base cs)

all_step : (p : ℕ → Bool) (c : ℕ) (cs : List ℕ) → p c ≡ true → list_all p (c ∷ cs) ≡ list_all p cs
all_step p c cs h = rw h refl

pub next_digit : (p : ℕ → Bool) (base v c : ℕ) (cs : List ℕ) (max : ℕ) → p c ≡ true → so_far p base v (c ∷ cs) max ≡ so_far p base (v * base + digit c) cs max
next_digit p base v c cs max h = ap (λ b. fitted b (v * base ^ suc (length cs) + value_in base (c ∷ cs)) max) (all_step p c cs h) ∙ ap (λ n. fitted (list_all p cs) n max) (one_more base v c cs)

pub no_digit : (p : ℕ → Bool) (base v c : ℕ) (cs : List ℕ) (max : ℕ) → p c ≡ false → so_far p base v (c ∷ cs) max ≡ None
no_digit p base v c cs max h = rw h refl

power_positive : (base n : ℕ) → 0 < base → 0 < base ^ n
power_positive base zero h = rw (pow-zero base) (omega arith)
power_positive base (suc n) h = rw (pow-succ' base n) (one-le-mul h (power_positive base n h))

pub too_large : (p : ℕ → Bool) (base v : ℕ) (cs : List ℕ) (max : ℕ) → 0 < base → max < v → so_far p base v cs max ≡ None
too_large p base v cs max b h =
    let q : 0 < base ^ length cs = power_positive base (length cs) b in
    let e : v ≤ v * base ^ length cs = le-mul_of_pos_right v q in
    rw (and_right (list_all p cs) _ (lt-leb (v * base ^ length cs + value_in base cs) max (omega arith))) refl

pub at_end : (p : ℕ → Bool) (base v max : ℕ) → v ≤ max → so_far p base v [] max ≡ Some v
unfolding value_in
at_end p base v max h = ap (λ n. fitted true n max) (ap (λ z. v * z + 0) (pow-zero base) ∙ ap (λ z. z + 0) (mul-one v) ∙ add-zero v) ∙ rw (le-leb v max h) refl

pub cell : (s : List ℕ) (i : ℕ) → i < length s → drop i s ≡ get_or s i 0 ∷ drop (i + 1) s
cell s i lt = drop-cons s i 0 lt ∙ ap (λ n. get_or s i 0 ∷ drop n s) (sym (add-one i))

pub stops : (p : ℕ → Bool) (base v max i : ℕ) (s : List ℕ) → i < length s → p (get_or s i 0) ≡ false → so_far p base v (drop i s) max ≡ None
stops p base v max i s lt h = ap (λ t. so_far p base v t max) (cell s i lt) ∙ no_digit p base v (get_or s i 0) (drop (i + 1) s) max h

pub steps : (p : ℕ → Bool) (base v max i : ℕ) (s : List ℕ) → i < length s → p (get_or s i 0) ≡ true → so_far p base v (drop i s) max ≡ so_far p base (v * base + digit (get_or s i 0)) (drop (i + 1) s) max
steps p base v max i s lt h = ap (λ t. so_far p base v t max) (cell s i lt) ∙ next_digit p base v (get_or s i 0) (drop (i + 1) s) max h

grown_none : (n max : ℕ) → None ≡ fitted true n max → max < n
grown_none n max h = grind arith

pub overflows : (p : ℕ → Bool) (base v max i : ℕ) (s : List ℕ) → 0 < base → i < length s → p (get_or s i 0) ≡ true → None ≡ fitted true (v * base + digit (get_or s i 0)) max → so_far p base v (drop i s) max ≡ None
overflows p base v max i s b lt h e = steps p base v max i s lt h ∙ too_large p base _ (drop (i + 1) s) max b (grown_none _ max e)

grown_some : (n m max : ℕ) → Some m ≡ fitted true n max → (m ≡ n) × (n ≤ max)
grown_some n m max h = grind arith

pub grows : (p : ℕ → Bool) (base v max i m : ℕ) (s : List ℕ) → i < length s → p (get_or s i 0) ≡ true → Some m ≡ fitted true (v * base + digit (get_or s i 0)) max → (m ≤ max) × (so_far p base v (drop i s) max ≡ so_far p base m (drop (i + 1) s) max)
grows p base v max i m s lt h e =
    let both : (m ≡ v * base + digit (get_or s i 0)) × (v * base + digit (get_or s i 0) ≤ max) = grown_some _ m max e in
    (omega arith, steps p base v max i s lt h ∙ ap (λ n. so_far p base n (drop (i + 1) s) max) (sym both.0))

pub ends : (p : ℕ → Bool) (base v max i : ℕ) (s : List ℕ) → length s ≤ i → v ≤ max → so_far p base v (drop i s) max ≡ Some v
ends p base v max i s h k = ap (λ t. so_far p base v t max) (drop_over s i h) ∙ at_end p base v max k
