-- The turns of the columns, when a turn is added and when two neighbouring columns become one.
use Rattle.std.proofs.Common.{◌≡◌, ◌<◌, ◌≤◌, ◌⊎◌, inl, inr, ℕ, zero, suc, ◌+◌, ◌-◌, ◌*◌, ◌/◌, List, [], ◌++◌, length, take, drop, sym, ap, ◌∙◌, length-append, length-drop, append_assoc, arith}
use Rattle.std.specs.Prelude.{min}
use Rattle.std.proofs.lemmas.Bool.{cases_lt}
use Rattle.std.specs.List.{flat_map, range_with_len}
use Rattle.std.proofs.Math.Nat.{lt-div-mul-add, mul-le-mul_right}
use Rattle.std.proofs.lemmas.Nat.{div-mul-add, row_below_turned}
use Rattle.std.proofs.lemmas.List.{append-nil, drop-append-le, drop-drop, drop-take, drop_all, take-append-drop, take-append-le, take-take, take_all}
use Rattle.run_lanes.specs.Counted.{column_by}
use Rattle.run_lanes.specs.Activities.{TurnSight}

pub next_row : (k n : ℕ) → (k + 1) * n ≡ k * n + n
next_row k n = omega arith

pub rows_below : (k c n : ℕ) → k < c → k * n + n ≤ c * n
rows_below k c n lt = omega (arith, next_row k n, mul-le-mul_right {m = k + 1} {n = c} n (omega arith))

-- columns before the one of the next turn, and those behind it
pub column_before : (w : ℕ) (turns more : List TurnSight) (k c : ℕ) → k < c → c * w ≤ length turns → column_by w (turns ++ more) k ≡ column_by w turns k
column_before w turns more k c lt within =
    let le : k * w ≤ length turns = omega (arith, rows_below k c w lt) in
    let whole : w ≤ length (drop (k * w) turns) = omega (arith, rows_below k c w lt, length-drop (k * w) turns) in
    ap (take w) (drop-append-le (k * w) turns more le) ∙ take-append-le w (drop (k * w) turns) more whole

pub column_none : (w : ℕ) (turns : List TurnSight) (k c : ℕ) → c < k → length turns ≤ c * w + w → column_by w turns k ≡ []
column_none w turns k c lt within = ap (take w) (drop_all (k * w) turns (omega (arith, rows_below c k w lt))) ∙ take_all w [] (omega arith)

pub column_here : (w : ℕ) (turns more : List TurnSight) (c inside : ℕ) → length turns ≡ c * w + inside → inside + length more ≤ w → column_by w (turns ++ more) c ≡ column_by w turns c ++ more
column_here w turns more c inside at fits =
    let le : c * w ≤ length turns = omega arith in
    let few : length (drop (c * w) turns) ≤ w = omega (arith, length-drop (c * w) turns) in
    let all : length (drop (c * w) turns ++ more) ≤ w = omega (arith, length-drop (c * w) turns, length-append (drop (c * w) turns) more) in
    ap (take w) (drop-append-le (c * w) turns more le) ∙ take_all w (drop (c * w) turns ++ more) all ∙ ap (λ (l : List TurnSight). l ++ more) (sym (take_all w (drop (c * w) turns) few))

-- neighbours
pub take_plus : {X : Type 0} (m n : ℕ) (xs : List X) → take (m + n) xs ≡ take m xs ++ take n (drop m xs)
take_plus m n xs =
    sym (take-append-drop m (take (m + n) xs)) ∙ ap (λ (l : List _). l ++ drop m (take (m + n) xs)) (take-take m (m + n) xs (omega arith)) ∙ ap (λ (l : List _). take m xs ++ l) (drop-take m n xs)

pub column_halves : (w : ℕ) (turns : List TurnSight) (k : ℕ) → column_by (2 * w) turns k ≡ column_by w turns (2 * k) ++ column_by w turns (2 * k + 1)
column_halves w turns k =
    let xs : List TurnSight = drop (k * (2 * w)) turns in
    let one : k * (2 * w) ≡ (2 * k) * w = omega arith in
    let two : k * (2 * w) + w ≡ (2 * k + 1) * w = omega arith in
    ap (λ (n : ℕ). take n xs) (omega arith) ∙ take_plus w w xs ∙ ap (λ (l : List TurnSight). take w xs ++ take w l) (drop-drop w (k * (2 * w)) turns)
    ∙ ap (λ (n : ℕ). take w xs ++ take w (drop n turns)) two ∙ ap (λ (n : ℕ). take w (drop n turns) ++ column_by w turns (2 * k + 1)) one

-- ## one column behind the other

flat_from : {X : Type 0} (f : ℕ → List X) (a n : ℕ) → flat_map f (range_with_len a (suc n)) ≡ flat_map f (range_with_len a n) ++ f (a + n)
flat_from f a zero = append-nil (f a) ∙ ap f (omega arith)
flat_from f a (suc n) =
    ap (λ (l : List _). f a ++ l) (flat_from f (a + 1) n) ∙ sym (append_assoc (f a) (flat_map f (range_with_len (a + 1) n)) (f (a + 1 + n)))
    ∙ ap (λ (k : ℕ). (f a ++ flat_map f (range_with_len (a + 1) n)) ++ f k) (omega arith)

pub flat_more : {X : Type 0} (f : ℕ → List X) (n : ℕ) → flat_map f (range_with_len 0 (suc n)) ≡ flat_map f (range_with_len 0 n) ++ f n
flat_more f n = flat_from f 0 n ∙ ap (λ (k : ℕ). flat_map f (range_with_len 0 n) ++ f k) (omega arith)

front_of : (w : ℕ) (turns : List TurnSight) (c : ℕ) → flat_map (column_by w turns) (range_with_len 0 c) ≡ take (c * w) turns
front_of w turns zero = let none : 0 ≡ zero * w = omega arith in ap (λ (n : ℕ). take n turns) none
front_of w turns (suc c) =
    let more : c * w + w ≡ suc c * w = omega (arith, next_row c w) in
    flat_more (column_by w turns) c ∙ ap (λ (l : List TurnSight). l ++ column_by w turns c) (front_of w turns c) ∙ sym (take_plus (c * w) w turns) ∙ ap (λ (n : ℕ). take n turns) more

-- as many columns as they need
needed : (n w : ℕ) → 0 < w → n ≤ (n + w - 1) / w * w
needed n w some = omega (arith, lt-div-mul-add {a = n + w - 1} {b = w} some)

pub tile_by : (w : ℕ) (turns : List TurnSight) → 0 < w → flat_map (column_by w turns) (range_with_len 0 ((length turns + w - 1) / w)) ≡ turns
tile_by w turns some = front_of w turns ((length turns + w - 1) / w) ∙ take_all ((length turns + w - 1) / w * w) turns (needed (length turns) w some)

pub few_columns : (n w : ℕ) → 0 < w → n ≤ 1200 * w → (n + w - 1) / w ≤ 1200
few_columns n w some room = omega (arith, (row_below_turned (n + w - 1) w 1201 w (omega arith) (omega arith)).1)

-- of so many whole ones, and one with some turns
pub whole_columns : (n w c : ℕ) → 0 < w → n ≡ c * w + 0 → (n + w - 1) / w ≡ c
whole_columns n w c some is = ap (λ (m : ℕ). m / w) (omega arith) ∙ div-mul-add c w (w - 1) (omega arith)

pub begun_columns : (n w c inside : ℕ) → 0 < inside → inside < w → n ≡ c * w + inside → (n + w - 1) / w ≡ c + 1
begun_columns n w c inside some less is = ap (λ (m : ℕ). m / w) (omega (arith, next_row c w)) ∙ div-mul-add (c + 1) w (inside - 1) (omega arith)

past_all : (w c : ℕ) → 1200 ≤ c → 1200 * w ≤ c * w
past_all w c le = mul-le-mul_right {m = 1200} {n = c} w le

begun_by : (n w c inside : ℕ) → n ≡ c * w + inside → 0 < inside → inside < w → n ≤ 1200 * w → (c < 1200) ⊎ (1200 ≤ c) → min (c + 1) 1200 ≡ (n + w - 1) / w
begun_by n w c inside at some less room (inl lt) = omega (arith, begun_columns n w c inside some less at)
begun_by n w c inside at some less room (inr past) = absurd (omega (arith, past_all w c past))

pub begun_in_use : (n w c inside : ℕ) → n ≡ c * w + inside → 0 < inside → inside < w → n ≤ 1200 * w → min (c + 1) 1200 ≡ (n + w - 1) / w
begun_in_use n w c inside at some less room = begun_by n w c inside at some less room (cases_lt c 1200)

pub whole_in_use : (n w c inside : ℕ) → n ≡ c * w + inside → inside ≡ 0 → inside < w → c ≡ (n + w - 1) / w
whole_in_use n w c inside at none less = sym (whole_columns n w c (omega arith) (omega arith))
