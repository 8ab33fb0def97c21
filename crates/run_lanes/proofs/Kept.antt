-- The columns keep all turns: when a turn is added, and when two neighbouring columns become one.
use Rattle.std.proofs.Common.{◌≡◌, ◌<◌, ◌≤◌, ◌⊎◌, inl, inr, ℕ, zero, suc, ◌+◌, ◌-◌, ◌*◌, ◌^◌, Bool, true, false, List, [], ◌∷◌, ◌++◌, length, map, get_or, set, take, drop, refl, sym, ap, subst, ◌∙◌, cond, if◌then◌else◌, length-append, length-drop, arith}
use Rattle.std.specs.Prelude.{count_by, min, replicate}
use Rattle.std.specs.List.{flat_map, list_any, range_with_len}
use Rattle.std.proofs.lemmas.Bool.{cases_lt, cases_order}
use Rattle.std.proofs.lemmas.List.{drop_all, get_or-drop, get_or-replicate, get_or-set_other, get_or-set_same, get_or-take, length-take, take_all}
use Rattle.std.proofs.lemmas.List.FromFn.{fill_by_all}
use Rattle.std.proofs.lemmas.List.Sums.{sum_by-append}
use Rattle.std.proofs.lemmas.Nat.{mul-add-lt}
use Rattle.kernel_abi.specs.declared.Note.{Note}
use Rattle.lane_picture.specs.declared.parts.Cell.{Cell}
use Rattle.lane_picture.specs.Sizes.{no_cell}
use Rattle.run_lanes.specs.declared.activity.Activity.{Activity}
use Rattle.run_lanes.specs.Columns.{cell_of, column_turns, is_outside}
use Rattle.run_lanes.specs.Counted.{CellsOf, Changed, OutsideOf, both, column_by, comes_from_outside, counted, joined, turned}
use Rattle.run_lanes.specs.Timeline.{activity_at}
use Rattle.run_lanes.specs.Activities.{TurnSight, idle_turns}
use Rattle.run_lanes.proofs.Celled.{cell_idle, cell_joined, cell_turned, count_both, count_push, times_idle}
use Rattle.run_lanes.proofs.Sights.{many_idle}
use Rattle.run_lanes.proofs.Tiled.{column_before, column_halves, column_here, column_none, flat_more, next_row, rows_below, take_plus}
use Rattle.run_lanes.proofs.Widths.{width_doubles, width_stays}

few_in_column : (w : ℕ) (turns : List TurnSight) (k : ℕ) → length (column_by w turns k) ≤ length turns
few_in_column w turns k = omega (arith, length-take w (drop (k * w) turns), length-drop (k * w) turns)

abbrev sight_of : ℕ → List Activity → List Note → TurnSight
sight_of turn activities notes = record { turn = turn; activities = activities; notes = notes }

-- ## turns more, for which the column has room

none_behind : (w : ℕ) (turns more : List TurnSight) (k c inside : ℕ) → length turns ≡ c * w + inside → inside + length more ≤ w → c < k → column_by w turns k ≡ column_by w (turns ++ more) k
none_behind w turns more k c inside at fits past =
    column_none w turns k c past (omega arith) ∙ sym (column_none w (turns ++ more) k c past (omega (arith, length-append turns more)))

-- the cells of the column are made from what they were
module _ (w c inside tasks : ℕ) (turns more : List TurnSight) (f : ℕ → Cell → Cell) (old new : List Cell) (at : length turns ≡ c * w + inside) (fits : inside + length more ≤ w) (was : CellsOf w tasks turns old) (h : Changed old new (c * tasks) tasks f)
    (is : (i : ℕ) → cell_of (column_by w turns c ++ more) i ≡ f i (cell_of (column_by w turns c) i)) where
  cell_by : (k i : ℕ) (d : Cell) → k < 1200 → i < tasks → (k ≡ c) ⊎ ((k < c) ⊎ (c < k)) → get_or new (k * tasks + i) d ≡ cell_of (column_by w (turns ++ more) k) i
  cell_by k i d within lt (inl here) =
      let P : ℕ → Type 0 = λ j. get_or new (j * tasks + i) d ≡ cell_of (column_by w (turns ++ more) j) i in
      let there : get_or old (c * tasks + i) d ≡ cell_of (column_by w turns c) i = was c i d (omega arith) lt in
      let at_c : P c = h.made i d lt ∙ ap (λ (x : Cell). f i x) there ∙ sym (is i) ∙ ap (λ (l : List TurnSight). cell_of l i) (sym (column_here w turns more c inside at fits)) in
      subst P (sym here) at_c
  cell_by k i d within lt (inr (inl before)) =
      h.before (k * tasks + i) d (omega (arith, mul-add-lt k tasks i c before lt)) ∙ was k i d within lt
      ∙ ap (λ (l : List TurnSight). cell_of l i) (sym (column_before w turns more k c before (omega arith)))
  cell_by k i d within lt (inr (inr past)) =
      h.behind (k * tasks + i) d (omega (arith, rows_below c k tasks past)) ∙ was k i d within lt ∙ ap (λ (l : List TurnSight). cell_of l i) (none_behind w turns more k c inside at fits past)

  cells_by : CellsOf w tasks (turns ++ more) new
  cells_by = λ k i d within lt. cell_by k i d within lt (cases_order k c)

pub cells_more : (w c inside tasks : ℕ) (turns : List TurnSight) (t : TurnSight) (old new : List Cell) → length turns ≡ c * w + inside → inside < w → length turns < 1000000000 →
    CellsOf w tasks turns old → Changed old new (c * tasks) tasks (turned t.activities t.notes) → CellsOf w tasks (turns ++ (t ∷ [])) new
cells_more w c inside tasks turns t old new at less few was h =
    cells_by w c inside tasks turns (t ∷ []) (turned t.activities t.notes) old new at (omega arith) was h (λ i. cell_turned (column_by w turns c) t i (omega (arith, few_in_column w turns c)))

pub cells_idle : (w c inside tasks : ℕ) (turns : List TurnSight) (turn n : ℕ) (ws : List Activity) (old new : List Cell) → length turns ≡ c * w + inside → inside + n ≤ w → length turns + n ≤ 1000000000 →
    CellsOf w tasks turns old → Changed old new (c * tasks) tasks (λ i x. counted x (activity_at ws i) n) → CellsOf w tasks (turns ++ idle_turns turn n ws) new
cells_idle w c inside tasks turns turn n ws old new at fits few was h =
    cells_by w c inside tasks turns (idle_turns turn n ws) (λ i x. counted x (activity_at ws i) n) old new at (omega (arith, fits, many_idle turn n ws)) was h
    (λ i. cell_idle (column_by w turns c) turn n ws i (omega (arith, few, few_in_column w turns c)))

-- nothing comes from outside
outside_same : (w c inside : ℕ) (turns : List TurnSight) (turn n : ℕ) (ws : List Activity) (outside : List ℕ) → length turns ≡ c * w + inside → inside + length (idle_turns turn n ws) ≤ w → OutsideOf w turns outside →
    (k d : ℕ) → k < 1200 → (k ≡ c) ⊎ ((k < c) ⊎ (c < k)) → get_or outside k d ≡ count_by comes_from_outside (column_by w (turns ++ idle_turns turn n ws) k)
outside_same w c inside turns turn n ws outside at fits was k d within (inl here) =
    let them = idle_turns turn n ws in
    let P : ℕ → Type 0 = λ j. get_or outside j d ≡ count_by comes_from_outside (column_by w (turns ++ them) j) in
    let none = times_idle comes_from_outside false turn n ws (λ j. refl) in
    let all : count_by comes_from_outside (column_by w turns c ++ them) ≡ count_by comes_from_outside (column_by w turns c) =
    sum_by-append (λ x. cond (comes_from_outside x) 1 0) (column_by w turns c) them ∙ omega (arith, none) in
    let at_c : P c = was c d (omega arith) ∙ sym all ∙ ap (λ (l : List TurnSight). count_by comes_from_outside l) (sym (column_here w turns them c inside at fits)) in
    subst P (sym here) at_c
outside_same w c inside turns turn n ws outside at fits was k d within (inr (inl before)) =
    was k d within ∙ ap (λ (l : List TurnSight). count_by comes_from_outside l) (sym (column_before w turns (idle_turns turn n ws) k c before (omega arith)))
outside_same w c inside turns turn n ws outside at fits was k d within (inr (inr past)) =
    was k d within ∙ ap (λ (l : List TurnSight). count_by comes_from_outside l) (none_behind w turns (idle_turns turn n ws) k c inside at fits past)

pub outside_idle : (w c inside : ℕ) (turns : List TurnSight) (turn n : ℕ) (ws : List Activity) (outside : List ℕ) → length turns ≡ c * w + inside → inside + n ≤ w → OutsideOf w turns outside → OutsideOf w (turns ++ idle_turns turn n ws) outside
outside_idle w c inside turns turn n ws outside at fits was =
    λ k d within. outside_same w c inside turns turn n ws outside at (omega (arith, fits, many_idle turn n ws)) was k d within (cases_order k c)

-- the count of the column, where it rises and where not
rises : (xs : List ℕ) (c v : ℕ) (b : Bool) (d : ℕ) → c < length xs → get_or (if b then set xs c v else xs) c d ≡ (if b then v else get_or xs c d)
rises xs c v true d lt = get_or-set_same xs c v d lt
rises xs c v false d lt = refl

stays : (xs : List ℕ) (c k v : ℕ) (b : Bool) (d : ℕ) → (k ≡ c → ⊥) → get_or (if b then set xs c v else xs) k d ≡ get_or xs k d
stays xs c k v true d ne = get_or-set_other xs c k v d ne
stays xs c k v false d ne = refl

outside_by : (w c inside : ℕ) (turns : List TurnSight) (t : TurnSight) (old new : List ℕ) → length turns ≡ c * w + inside → inside < w → length turns < 1000000000 → length old ≡ 1200 → OutsideOf w turns old →
    new ≡ (if list_any is_outside t.notes then set old c (both (get_or old c 0) 1) else old) → (k d : ℕ) → k < 1200 → (k ≡ c) ⊎ ((k < c) ⊎ (c < k)) → get_or new k d ≡ count_by comes_from_outside (column_by w (turns ++ (t ∷ [])) k)
outside_by w c inside turns t old new at less few all was is k d within (inl here) =
    let P : ℕ → Type 0 = λ j. get_or new j d ≡ count_by comes_from_outside (column_by w (turns ++ (t ∷ [])) j) in
    let b : Bool = list_any is_outside t.notes in
    let inside_c : c < 1200 = omega arith in
    let at_c : P c = ap (λ (l : List ℕ). get_or l c d) is ∙ rises old c (both (get_or old c 0) 1) b d (omega arith)
    ∙ ap (λ (n : ℕ). if b then both n 1 else get_or old c d) (was c 0 inside_c) ∙ ap (λ (n : ℕ). if b then both (count_by comes_from_outside (column_by w turns c)) 1 else n) (was c d inside_c)
    ∙ sym (count_push comes_from_outside (column_by w turns c) t (omega (arith, few_in_column w turns c)))
    ∙ ap (λ (l : List TurnSight). count_by comes_from_outside l) (sym (column_here w turns (t ∷ []) c inside at (omega arith))) in
    subst P (sym here) at_c
outside_by w c inside turns t old new at less few all was is k d within (inr (inl before)) =
    ap (λ (l : List ℕ). get_or l k d) is ∙ stays old c k (both (get_or old c 0) 1) (list_any is_outside t.notes) d (λ e. absurd (omega arith)) ∙ was k d within
    ∙ ap (λ (l : List TurnSight). count_by comes_from_outside l) (sym (column_before w turns (t ∷ []) k c before (omega arith)))
outside_by w c inside turns t old new at less few all was is k d within (inr (inr past)) =
    ap (λ (l : List ℕ). get_or l k d) is ∙ stays old c k (both (get_or old c 0) 1) (list_any is_outside t.notes) d (λ e. absurd (omega arith)) ∙ was k d within
    ∙ ap (λ (l : List TurnSight). count_by comes_from_outside l) (none_behind w turns (t ∷ []) k c inside at (omega arith) past)

pub outside_more : (w c inside : ℕ) (turns : List TurnSight) (t : TurnSight) (old new : List ℕ) → length turns ≡ c * w + inside → inside < w → length turns < 1000000000 → length old ≡ 1200 → OutsideOf w turns old →
    new ≡ (if list_any is_outside t.notes then set old c (both (get_or old c 0) 1) else old) → OutsideOf w (turns ++ (t ∷ [])) new
outside_more w c inside turns t old new at less few all was is = λ k d within. outside_by w c inside turns t old new at less few all was is k d within (cases_order k c)

-- ## neighbours become one

halves_few : (w : ℕ) (turns : List TurnSight) (k : ℕ) → length turns < 1000000000 → length (column_by w turns (2 * k)) + length (column_by w turns (2 * k + 1)) < 2 ^ 32
halves_few w turns k few = omega (arith, few_in_column w turns (2 * k), few_in_column w turns (2 * k + 1))

cell_halved : (w tasks : ℕ) (turns : List TurnSight) (old new : List Cell) → length turns ≤ 1200 * w → length turns < 1000000000 → length old ≡ 1200 * tasks → CellsOf w tasks turns old →
    ((k i : ℕ) (d : Cell) → k < 600 → i < tasks → get_or new (k * tasks + i) d ≡ joined (get_or old (2 * k * tasks + i) no_cell) (get_or old (2 * k * tasks + tasks + i) no_cell)) →
    ((j : ℕ) (d : Cell) → 600 * tasks ≤ j → j < length old → get_or new j d ≡ no_cell) →
    (k i : ℕ) (d : Cell) → k < 1200 → i < tasks → (k < 600) ⊎ (600 ≤ k) → get_or new (k * tasks + i) d ≡ cell_of (column_by (2 * w) turns k) i
cell_halved w tasks turns old new room few all was made rest k i d within lt (inl low) =
    let next : 2 * k * tasks + tasks + i ≡ (2 * k + 1) * tasks + i = omega arith in
    let one : get_or old (2 * k * tasks + i) no_cell ≡ cell_of (column_by w turns (2 * k)) i = was (2 * k) i no_cell (omega arith) lt in
    let two : get_or old (2 * k * tasks + tasks + i) no_cell ≡ cell_of (column_by w turns (2 * k + 1)) i = ap (λ (n : ℕ). get_or old n no_cell) next ∙ was (2 * k + 1) i no_cell (omega arith) lt in
    made k i d low lt ∙ ap (λ (x : Cell). joined x (get_or old (2 * k * tasks + tasks + i) no_cell)) one ∙ ap (λ (x : Cell). joined (cell_of (column_by w turns (2 * k)) i) x) two
    ∙ sym (cell_joined (column_by w turns (2 * k)) (column_by w turns (2 * k + 1)) i (halves_few w turns k few)) ∙ ap (λ (l : List TurnSight). cell_of l i) (sym (column_halves w turns k))
cell_halved w tasks turns old new room few all was made rest k i d within lt (inr high) =
    let past : 600 * tasks ≤ k * tasks + i = omega (arith, rows_below 599 k tasks (omega arith)) in
    let there : k * tasks + i < length old = omega (arith, mul-add-lt k tasks i 1200 within lt) in
    rest (k * tasks + i) d past there ∙ ap (λ (l : List TurnSight). cell_of l i) (sym (column_none (2 * w) turns k 599 (omega arith) (omega arith)))

pub cells_halved : (w tasks : ℕ) (turns : List TurnSight) (old new : List Cell) → length turns ≤ 1200 * w → length turns < 1000000000 → length old ≡ 1200 * tasks → CellsOf w tasks turns old →
    ((k i : ℕ) (d : Cell) → k < 600 → i < tasks → get_or new (k * tasks + i) d ≡ joined (get_or old (2 * k * tasks + i) no_cell) (get_or old (2 * k * tasks + tasks + i) no_cell)) →
    ((j : ℕ) (d : Cell) → 600 * tasks ≤ j → j < length old → get_or new j d ≡ no_cell) → CellsOf (2 * w) tasks turns new
cells_halved w tasks turns old new room few all was made rest = λ k i d within lt. cell_halved w tasks turns old new room few all was made rest k i d within lt (cases_lt k 600)

out_halved : (w : ℕ) (turns : List TurnSight) (old new : List ℕ) → length turns ≤ 1200 * w → length turns < 1000000000 → OutsideOf w turns old →
    ((k d : ℕ) → k < 600 → get_or new k d ≡ both (get_or old (2 * k) 0) (get_or old (2 * k + 1) 0)) → ((k d : ℕ) → 600 ≤ k → k < 1200 → get_or new k d ≡ 0) →
    (k d : ℕ) → k < 1200 → (k < 600) ⊎ (600 ≤ k) → get_or new k d ≡ count_by comes_from_outside (column_by (2 * w) turns k)
out_halved w turns old new room few was made rest k d within (inl low) =
    made k d low ∙ ap (λ (n : ℕ). both n (get_or old (2 * k + 1) 0)) (was (2 * k) 0 (omega arith)) ∙ ap (λ (n : ℕ). both (count_by comes_from_outside (column_by w turns (2 * k))) n) (was (2 * k + 1) 0 (omega arith))
    ∙ sym (count_both comes_from_outside (column_by w turns (2 * k)) (column_by w turns (2 * k + 1)) (halves_few w turns k few)) ∙ ap (λ (l : List TurnSight). count_by comes_from_outside l) (sym (column_halves w turns k))
out_halved w turns old new room few was made rest k d within (inr high) =
    rest k d high within ∙ ap (λ (l : List TurnSight). count_by comes_from_outside l) (sym (column_none (2 * w) turns k 599 (omega arith) (omega arith)))

pub outside_halved : (w : ℕ) (turns : List TurnSight) (old new : List ℕ) → length turns ≤ 1200 * w → length turns < 1000000000 → OutsideOf w turns old →
    ((k d : ℕ) → k < 600 → get_or new k d ≡ both (get_or old (2 * k) 0) (get_or old (2 * k + 1) 0)) → ((k d : ℕ) → 600 ≤ k → k < 1200 → get_or new k d ≡ 0) → OutsideOf (2 * w) turns new
outside_halved w turns old new room few was made rest = λ k d within. out_halved w turns old new room few was made rest k d within (cases_lt k 600)

-- ## the numbers of columns

column_empty : (w k : ℕ) → column_by w [] k ≡ []
column_empty w k = ap (take w) (drop_all (k * w) [] (omega arith)) ∙ take_all w [] (omega arith)

pub cells_none : (w tasks : ℕ) (cells : List Cell) → cells ≡ replicate (1200 * tasks) no_cell → CellsOf w tasks [] cells
cells_none w tasks cells is = λ k i d within lt.
    ap (λ (l : List Cell). get_or l (k * tasks + i) d) is ∙ get_or-replicate (1200 * tasks) (k * tasks + i) no_cell d (omega (arith, mul-add-lt k tasks i 1200 within lt)) ∙ ap (λ (l : List TurnSight). cell_of l i) (sym (column_empty w k))

pub outside_none : (w : ℕ) (outside : List ℕ) → outside ≡ replicate 1200 0 → OutsideOf w [] outside
outside_none w outside is = λ k d within.
    ap (λ (l : List ℕ). get_or l k d) is ∙ get_or-replicate 1200 k 0 d within ∙ ap (λ (l : List TurnSight). count_by comes_from_outside l) (sym (column_empty w k))

-- the same, of what is the same
pub cells_moved : (w w' tasks tasks' : ℕ) (turns : List TurnSight) (xs ys : List Cell) → w' ≡ w → tasks' ≡ tasks → ys ≡ xs → CellsOf w tasks turns xs → CellsOf w' tasks' turns ys
cells_moved w w' tasks tasks' turns xs ys same many is h =
    let P : ℕ → Type 0 = λ v. CellsOf v tasks turns xs in
    let Q : ℕ → Type 0 = λ n. CellsOf w' n turns xs in
    let R : List Cell → Type 0 = λ l. CellsOf w' tasks' turns l in
    subst R (sym is) (subst Q (sym many) (subst P (sym same) h))

pub outside_moved : (w w' : ℕ) (turns : List TurnSight) (xs ys : List ℕ) → w' ≡ w → ys ≡ xs → OutsideOf w turns xs → OutsideOf w' turns ys
outside_moved w w' turns xs ys same is h =
    let P : ℕ → Type 0 = λ v. OutsideOf v turns xs in
    let R : List ℕ → Type 0 = λ l. OutsideOf w' turns l in
    subst R (sym is) (subst P (sym same) h)

pub double_width : (n w m : ℕ) → n < 1000000000 → w ≡ column_turns n → n ≡ 1200 * w → m ≡ min (w * 2) (2 ^ 32 - 1) → (m ≡ 2 * w) × (m ≡ column_turns (n + 1))
double_width n w m few wide full is =
    let twice : m ≡ 2 * w = omega arith in
    let full_is : n ≡ 1200 * column_turns n = omega arith in
    (twice, twice ∙ ap (λ (v : ℕ). 2 * v) wide ∙ sym (width_doubles 20 1 n (omega arith) (omega arith) full_is))

pub same_width : (n w c inside : ℕ) → w ≡ column_turns n → n ≡ c * w + inside → inside < w → c < 1200 → w ≡ column_turns (n + 1)
same_width n w c inside wide at less free =
    let more : n + 1 ≤ 1200 * column_turns n = omega (arith, rows_below c 1200 w free) in
    wide ∙ sym (width_stays 20 1 n more)

-- as long as there is room
pub same_widths : (w n some : ℕ) → w ≡ column_turns (n + 1) → 0 < some → n + some ≤ 1200 * w → w ≡ column_turns (n + some)
same_widths w n zero wide more room = absurd (omega arith)
same_widths w n (suc zero) wide more room = wide ∙ ap column_turns (omega arith)
same_widths w n (suc (suc some)) wide more room =
    let before = same_widths w n (suc some) wide (omega arith) (omega arith) in
    let e : n + suc some + 1 ≡ n + suc (suc some) = omega arith in
    let enough : n + suc some + 1 ≤ 1200 * column_turns (n + suc some) = omega (arith, before, room) in
    before ∙ sym (width_stays 20 1 (n + suc some) enough) ∙ ap column_turns e

-- ## what is in use

last_row : (w tasks : ℕ) (turns : List TurnSight) (cells : List Cell) (c : ℕ) → CellsOf w tasks turns cells → length cells ≡ 1200 * tasks → c < 1200 → take tasks (drop (c * tasks) cells) ≡ map (cell_of (column_by w turns c)) (range_with_len 0 tasks)
last_row w tasks turns cells c h all lt =
    let row : c * tasks + tasks ≤ 1200 * tasks = rows_below c 1200 tasks lt in
    let many : length (take tasks (drop (c * tasks) cells)) ≡ tasks = omega (arith, length-take tasks (drop (c * tasks) cells), length-drop (c * tasks) cells) in
    fill_by_all (cell_of (column_by w turns c)) (take tasks (drop (c * tasks) cells)) tasks no_cell many
    (λ i less. get_or-take tasks (drop (c * tasks) cells) i no_cell less ∙ get_or-drop (c * tasks) cells i no_cell ∙ h c i no_cell lt less)

pub cells_in_use : (w tasks : ℕ) (turns : List TurnSight) (cells : List Cell) (c : ℕ) → CellsOf w tasks turns cells → length cells ≡ 1200 * tasks → c ≤ 1200 →
    take (c * tasks) cells ≡ flat_map (λ k. map (cell_of (column_by w turns k)) (range_with_len 0 tasks)) (range_with_len 0 c)
cells_in_use w tasks turns cells zero h all le = let none : zero * tasks ≡ 0 = omega arith in ap (λ (n : ℕ). take n cells) none
cells_in_use w tasks turns cells (suc c) h all le =
    let row : suc c * tasks ≡ c * tasks + tasks = omega (arith, next_row c tasks) in
    ap (λ (n : ℕ). take n cells) row ∙ take_plus (c * tasks) tasks cells ∙ ap (λ (l : List Cell). l ++ take tasks (drop (c * tasks) cells)) (cells_in_use w tasks turns cells c h all (omega arith))
    ∙ ap (λ (l : List Cell). flat_map (λ k. map (cell_of (column_by w turns k)) (range_with_len 0 tasks)) (range_with_len 0 c) ++ l) (last_row w tasks turns cells c h all (omega arith))
    ∙ sym (flat_more (λ k. map (cell_of (column_by w turns k)) (range_with_len 0 tasks)) c)

pub outside_in_use : (w : ℕ) (turns : List TurnSight) (outside : List ℕ) (c : ℕ) → OutsideOf w turns outside → length outside ≡ 1200 → c ≤ 1200 →
    take c outside ≡ map (λ k. count_by comes_from_outside (column_by w turns k)) (range_with_len 0 c)
outside_in_use w turns outside c h all le =
    let many : length (take c outside) ≡ c = omega (arith, length-take c outside) in
    fill_by_all (λ k. count_by comes_from_outside (column_by w turns k)) (take c outside) c 0 many (λ k lt. get_or-take c outside k 0 lt ∙ h k 0 (omega arith))
