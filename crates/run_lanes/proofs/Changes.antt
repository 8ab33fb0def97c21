-- Some cells in a row that are changed, one cell after another.
use Rattle.std.proofs.Common.{◌≡◌, ◌≢◌, ◌<◌, ◌≤◌, ℕ, ◌+◌, ◌*◌, ◌||◌, Bool, true, false, List, [], ◌∷◌, length, get_or, set, take, refl, sym, ap, ◌∙◌, below_more, arith}
use Rattle.std.specs.List.{list_any}
use Rattle.std.proofs.lemmas.List.{get_or-set_same, get_or-set_other, get_or_default, length-set}
use Rattle.std.proofs.lemmas.List.Folds.{list_any_more}
use Rattle.std.proofs.Math.Nat.{mul-le-mul_right}
use Rattle.std.proofs.lemmas.Nat.{mul-add-lt}
use Rattle.kernel_abi.specs.declared.Note.{Note}
use Rattle.lane_picture.specs.declared.parts.Cell.{Cell}
use Rattle.lane_picture.specs.Sizes.{no_cell}
use Rattle.run_lanes.specs.Columns.{is_birth_of, is_fault_of}
use Rattle.run_lanes.specs.Counted.{Changed, joined, marked}

pub changed_none : (cells : List Cell) (at : ℕ) (f : ℕ → Cell → Cell) → Changed cells cells at 0 f
changed_none cells at f = record { as_many = refl; made = λ i d lt. absurd (omega arith); before = λ j d lt. refl; behind = λ j d le. refl }

-- one cell more
pub changed_more : (f : ℕ → Cell → Cell) (old now : List Cell) (at i : ℕ) (c : Cell) → at + i < length old → Changed old now at i f → ((d : Cell) → c ≡ f i (get_or old (at + i) d)) → Changed old (set now (at + i) c) at (i + 1) f
changed_more f old now at i c inside h is =
    let room : at + i < length now = omega (arith, h.as_many) in
    record {
      as_many = length-set now (at + i) c ∙ h.as_many;
      made = λ k d lt.
          let P : ℕ → Type 0 = λ m. get_or (set now (at + i) c) (at + m) d ≡ f m (get_or old (at + m) d) in
          let below : (m : ℕ) → m < i → P m = λ m less. let ne : at + m ≢ at + i = omega arith in get_or-set_other now (at + i) (at + m) c d ne ∙ h.made m d less in
          let here : P i = get_or-set_same now (at + i) c d room ∙ is d in
          below_more P i below here k lt;
      before = λ j d lt. let ne : j ≢ at + i = omega arith in get_or-set_other now (at + i) j c d ne ∙ h.before j d lt;
      behind = λ j d le. let ne : j ≢ at + i = omega arith in get_or-set_other now (at + i) j c d ne ∙ h.behind j d (omega arith);
    }

-- a change after a change
pub changed_twice : (f g h : ℕ → Cell → Cell) (a b c : List Cell) (at many : ℕ) → ((i : ℕ) (x : Cell) → h i x ≡ g i (f i x)) → Changed a b at many f → Changed b c at many g → Changed a c at many h
changed_twice f g h a b c at many is p q = record {
  as_many = q.as_many ∙ p.as_many;
  made = λ i d lt. q.made i d lt ∙ ap (λ (x : Cell). g i x) (p.made i d lt) ∙ sym (is i (get_or a (at + i) d));
  before = λ j d lt. q.before j d lt ∙ p.before j d lt;
  behind = λ j d le. q.behind j d le ∙ p.behind j d le;
}

-- notes, one more
or_more : (a b c : Bool) → (a || (b || c)) ≡ ((a || b) || (c || false))
or_more true b c = refl
or_more false true c = refl
or_more false false true = refl
or_more false false false = refl

pub or_none : (a : Bool) → (a || false) ≡ a
or_none true = refl
or_none false = refl

marked_more : (notes : List Note) (n : ℕ) (d : Note) (i : ℕ) (x : Cell) → n < length notes → marked (take (n + 1) notes) i x ≡ marked (get_or notes n d ∷ []) i (marked (take n notes) i x)
marked_more notes n d i x lt =
    ap (λ (b : Bool). record { turns = x.turns; faulted = x.faulted || b; born = x.born || list_any (is_birth_of i) (take (n + 1) notes) }) (list_any_more (is_fault_of i) notes n d lt)
    ∙ ap (λ (b : Bool). record { turns = x.turns; faulted = b; born = x.born || list_any (is_birth_of i) (take (n + 1) notes) }) (or_more x.faulted (list_any (is_fault_of i) (take n notes)) (is_fault_of i (get_or notes n d)))
    ∙ ap (λ (b : Bool). record { turns = x.turns; faulted = (x.faulted || list_any (is_fault_of i) (take n notes)) || (is_fault_of i (get_or notes n d) || false); born = x.born || b }) (list_any_more (is_birth_of i) notes n d lt)
    ∙ ap (λ (b : Bool). record { turns = x.turns; faulted = (x.faulted || list_any (is_fault_of i) (take n notes)) || (is_fault_of i (get_or notes n d) || false); born = b }) (or_more x.born (list_any (is_birth_of i) (take n notes)) (is_birth_of i (get_or notes n d)))

marked_none : (i : ℕ) (x : Cell) → marked [] i x ≡ x
marked_none i x = ap (λ (b : Bool). record { turns = x.turns; faulted = b; born = x.born || false }) (or_none x.faulted) ∙ ap (λ (b : Bool). record { turns = x.turns; faulted = x.faulted; born = b }) (or_none x.born)

-- no note changes nothing
pub marks_none : (cells : List Cell) (at many : ℕ) → Changed cells cells at many (marked [])
marks_none cells at many = record { as_many = refl; made = λ i d lt. sym (marked_none i (get_or cells (at + i) d)); before = λ j d lt. refl; behind = λ j d le. refl }

pub marks_more : (a b c : List Cell) (at many : ℕ) (notes : List Note) (n : ℕ) (d : Note) → n < length notes → Changed a b at many (marked (take n notes)) → Changed b c at many (marked (get_or notes n d ∷ [])) → Changed a c at many (marked (take (n + 1) notes))
marks_more a b c at many notes n d lt p q =
    changed_twice (marked (take n notes)) (marked (get_or notes n d ∷ [])) (marked (take (n + 1) notes)) a b c at many (λ i x. marked_more notes n d i x lt) p q

-- what reading a slice of cells gives behind its end
abbrev pub blank : Cell
blank = record { turns = []; faulted = false; born = false }

-- a cell that is as it was, made of itself
pub changed_here : (g : Cell → Cell) (f : ℕ → Cell → Cell) (old now : List Cell) (at i : ℕ) (c : Cell) → at + i < length old → Changed old now at i f → c ≡ g (get_or now (at + i) blank) → ((x : Cell) → g x ≡ f i x) → Changed old (set now (at + i) c) at (i + 1) f
changed_here g f old now at i c inside h made is =
    changed_more f old now at i c inside h (λ d. made ∙ ap g (get_or_default now (at + i) blank d (omega (arith, h.as_many)) ∙ h.behind (at + i) d (omega arith)) ∙ is (get_or old (at + i) d))

-- cells that stand behind are as they were
pub read_behind : (f : ℕ → Cell → Cell) (old now : List Cell) (at i j : ℕ) (d : Cell) → j < length old → at + i ≤ j → Changed old now at i f → get_or now j blank ≡ get_or old j d
read_behind f old now at i j d inside behind h = get_or_default now j blank d (omega (arith, h.as_many)) ∙ h.behind j d behind

-- a column made of two that stand behind
pub joins_more : (old now : List Cell) (at from tasks i : ℕ) (c : Cell) → at + i < length old → at ≤ from → from + tasks + i < length old → Changed old now at i (λ i _. joined (get_or old (from + i) no_cell) (get_or old (from + tasks + i) no_cell)) →
    c ≡ joined (get_or now (from + i) blank) (get_or now (from + tasks + i) blank) → Changed old (set now (at + i) c) at (i + 1) (λ i _. joined (get_or old (from + i) no_cell) (get_or old (from + tasks + i) no_cell))
joins_more old now at from tasks i c inside order room h is =
    let f : ℕ → Cell → Cell = λ i _. joined (get_or old (from + i) no_cell) (get_or old (from + tasks + i) no_cell) in
    let one : get_or now (from + i) blank ≡ get_or old (from + i) no_cell = read_behind f old now at i (from + i) no_cell (omega arith) (omega arith) h in
    let two : get_or now (from + tasks + i) blank ≡ get_or old (from + tasks + i) no_cell = read_behind f old now at i (from + tasks + i) no_cell room (omega arith) h in
    changed_more f old now at i c inside h
    (λ d. is ∙ ap (λ (x : Cell). joined x (get_or now (from + tasks + i) blank)) one ∙ ap (λ (x : Cell). joined (get_or old (from + i) no_cell) x) two)

-- ## neighbouring columns become one

twice : (k n : ℕ) → 2 * k * n ≡ k * n + k * n
twice k n = omega arith

next : (k n : ℕ) → (k + 1) * n ≡ k * n + n
next k n = omega arith

abbrev halves : List Cell → ℕ → ℕ → ℕ → Cell
halves old tasks k i = joined (get_or old (2 * k * tasks + i) no_cell) (get_or old (2 * k * tasks + tasks + i) no_cell)

-- the k-th of them, where the cells from it on are as they were
pub halves_more : (old now new : List Cell) (tasks k : ℕ) → (2 * k * tasks + tasks) + tasks ≤ length old →
    ((j i : ℕ) (d : Cell) → j < k → i < tasks → get_or now (j * tasks + i) d ≡ halves old tasks j i) → ((j : ℕ) (d : Cell) → k * tasks ≤ j → get_or now j d ≡ get_or old j d) →
    Changed now new (k * tasks) tasks (λ i _. joined (get_or now (2 * k * tasks + i) no_cell) (get_or now (2 * k * tasks + tasks + i) no_cell)) →
    ((j i : ℕ) (d : Cell) → j < k + 1 → i < tasks → get_or new (j * tasks + i) d ≡ halves old tasks j i) × ((j : ℕ) (d : Cell) → (k + 1) * tasks ≤ j → get_or new j d ≡ get_or old j d)
halves_more old now new tasks k room made same h = (
  λ j i d lt less.
      let P : ℕ → Type 0 = λ m. get_or new (m * tasks + i) d ≡ halves old tasks m i in
      let below : (m : ℕ) → m < k → P m = λ m before. h.before (m * tasks + i) d (omega (arith, mul-add-lt m tasks i k before less)) ∙ made m i d before less in
      let one : get_or now (2 * k * tasks + i) no_cell ≡ get_or old (2 * k * tasks + i) no_cell = same (2 * k * tasks + i) no_cell (omega (arith, twice k tasks)) in
      let two : get_or now (2 * k * tasks + tasks + i) no_cell ≡ get_or old (2 * k * tasks + tasks + i) no_cell = same (2 * k * tasks + tasks + i) no_cell (omega (arith, twice k tasks)) in
      let here : P k = h.made i d less ∙ ap (λ (x : Cell). joined x (get_or now (2 * k * tasks + tasks + i) no_cell)) one ∙ ap (λ (x : Cell). joined (get_or old (2 * k * tasks + i) no_cell) x) two in
      below_more P k below here j lt,
  λ j d le. let past : k * tasks + tasks ≤ j = omega (arith, next k tasks) in h.behind j d past ∙ same j d (omega arith),
)

pub halves_room : (tasks k : ℕ) (cells : List Cell) → k < 600 → length cells ≡ 1200 * tasks → (2 * k * tasks + tasks) + tasks ≤ length cells
halves_room tasks k cells lt all = omega (arith, twice k tasks, mul-le-mul_right {m = k + 1} {n = 600} tasks (omega arith))
