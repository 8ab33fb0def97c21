-- The cell of a task for some turns, for the turns of two columns, and for more turns.
use Rattle.std.proofs.Common.{◌≡◌, ◌<◌, ℕ, zero, suc, ◌+◌, ◌-◌, ◌^◌, ◌||◌, Bool, true, false, List, [], ◌∷◌, ◌++◌, length, map, get_or, set, refl, ap, ◌∙◌, cond, if◌then◌else◌, arith}
use Rattle.std.specs.Prelude.{count_by, sum}
use Rattle.std.specs.List.{list_any}
use Rattle.std.proofs.lemmas.List.Folds.{list_any-append}
use Rattle.std.proofs.lemmas.List.Sums.{count_by-le-length, sum_by-append, sum_by-cons, sum_by_push}
use Rattle.kernel_abi.specs.declared.Note.{Note}
use Rattle.lane_picture.specs.declared.parts.Cell.{Cell}
use Rattle.run_lanes.specs.declared.activity.Activity.{Activity}
use Rattle.run_lanes.specs.declared.activity.Activity.TheVariants as activity
use Rattle.run_lanes.specs.Columns.{activities, cell_of, is_birth_of, is_fault_of, is_noted, turns_with}
use Rattle.run_lanes.specs.Counted.{both, counted, joined, turned}
use Rattle.run_lanes.specs.Timeline.{activity_at}
use Rattle.run_lanes.specs.Activities.{TurnSight, activity_number, idle_turns, is_same}
use Rattle.run_lanes.proofs.Changes.{or_none}
use Rattle.run_lanes.proofs.Sights.{seen_turn}

map_same : {A B : Type 0} (f g : A → B) → ((x : A) → f x ≡ g x) → (xs : List A) → map f xs ≡ map g xs
map_same f g same [] = refl
map_same f g same (x ∷ xs) = ap (λ (y : _). y ∷ map f xs) (same x) ∙ ap (λ (l : List _). g x ∷ l) (map_same f g same xs)

abbrev cell : List ℕ → Bool → Bool → Cell
cell ws f b = record { turns = ws; faulted = f; born = b }

-- ## two columns

pub count_both : (p : TurnSight → Bool) (xs ys : List TurnSight) → length xs + length ys < 2 ^ 32 → count_by p (xs ++ ys) ≡ both (count_by p xs) (count_by p ys)
count_both p xs ys few =
    let all : count_by p (xs ++ ys) ≡ count_by p xs + count_by p ys = sum_by-append (λ x. cond (p x) 1 0) xs ys in
    omega (arith, all, count_by-le-length p xs, count_by-le-length p ys)

pub cell_joined : (xs ys : List TurnSight) (i : ℕ) → length xs + length ys < 2 ^ 32 → cell_of (xs ++ ys) i ≡ joined (cell_of xs i) (cell_of ys i)
cell_joined xs ys i few =
    let counts : map (turns_with i (xs ++ ys)) activities ≡ map (λ w. both (turns_with i xs w) (turns_with i ys w)) activities =
    map_same (turns_with i (xs ++ ys)) (λ w. both (turns_with i xs w) (turns_with i ys w)) (λ w. count_both (λ t. is_same (activity_at t.activities i) w) xs ys few) activities in
    ap (λ (l : List ℕ). cell l (is_noted (is_fault_of i) (xs ++ ys)) (is_noted (is_birth_of i) (xs ++ ys))) counts
    ∙ ap (λ (b : Bool). cell (joined (cell_of xs i) (cell_of ys i)).turns b (is_noted (is_birth_of i) (xs ++ ys))) (list_any-append (λ t. list_any (is_fault_of i) t.notes) xs ys)
    ∙ ap (λ (b : Bool). cell (joined (cell_of xs i) (cell_of ys i)).turns (joined (cell_of xs i) (cell_of ys i)).faulted b) (list_any-append (λ t. list_any (is_birth_of i) t.notes) xs ys)

-- ## a turn more

abbrev more_of : (Activity → ℕ) → Activity → ℕ → Activity → ℕ
more_of f w n v = if is_same w v then both (f v) n else f v

-- the one of seven counts
counted_at : (f : Activity → ℕ) (w : Activity) (n : ℕ) → map (more_of f w n) activities ≡ set (map f activities) (activity_number w) (both (get_or (map f activities) (activity_number w) 0) n)
counted_at f activity.Runs n = refl
counted_at f activity.Ready n = refl
counted_at f activity.Offers n = refl
counted_at f activity.Awaits n = refl
counted_at f activity.Listens n = refl
counted_at f activity.Faulted n = refl
counted_at f activity.Stopped n = refl

more_by : (k n m : ℕ) (b : Bool) → k + n < 2 ^ 32 → m ≡ k + cond b n 0 → m ≡ (if b then both k n else k)
more_by k n m true few is = omega arith
more_by k n m false few is = omega arith

pub count_push : (p : TurnSight → Bool) (xs : List TurnSight) (t : TurnSight) → length xs < 2 ^ 32 - 1 → count_by p (xs ++ (t ∷ [])) ≡ (if p t then both (count_by p xs) 1 else count_by p xs)
count_push p xs t few =
    let all : count_by p (xs ++ (t ∷ [])) ≡ count_by p xs + cond (p t) 1 0 = sum_by_push (λ x. cond (p x) 1 0) xs t in
    more_by (count_by p xs) 1 (count_by p (xs ++ (t ∷ []))) (p t) (omega (arith, count_by-le-length p xs)) all

noted_push : (is : Note → Bool) (xs : List TurnSight) (t : TurnSight) → is_noted is (xs ++ (t ∷ [])) ≡ (is_noted is xs || list_any is t.notes)
noted_push is xs t = list_any-append (λ u. list_any is u.notes) xs (t ∷ []) ∙ ap (λ (b : Bool). is_noted is xs || b) (or_none (list_any is t.notes))

pub cell_turned : (xs : List TurnSight) (t : TurnSight) (i : ℕ) → length xs < 2 ^ 32 - 1 → cell_of (xs ++ (t ∷ [])) i ≡ turned t.activities t.notes i (cell_of xs i)
cell_turned xs t i few =
    let w = activity_at t.activities i in
    let counts : map (turns_with i (xs ++ (t ∷ []))) activities ≡ map (more_of (turns_with i xs) w 1) activities =
    map_same (turns_with i (xs ++ (t ∷ []))) (more_of (turns_with i xs) w 1) (λ v. count_push (λ u. is_same (activity_at u.activities i) v) xs t few) activities in
    ap (λ (l : List ℕ). cell l (is_noted (is_fault_of i) (xs ++ (t ∷ []))) (is_noted (is_birth_of i) (xs ++ (t ∷ [])))) (counts ∙ counted_at (turns_with i xs) w 1)
    ∙ ap (λ (b : Bool). cell (counted (cell_of xs i) w 1).turns b (is_noted (is_birth_of i) (xs ++ (t ∷ [])))) (noted_push (is_fault_of i) xs t)
    ∙ ap (λ (b : Bool). cell (counted (cell_of xs i) w 1).turns (is_noted (is_fault_of i) xs || list_any (is_fault_of i) t.notes) b) (noted_push (is_birth_of i) xs t)

-- ## idle turns on end

pub times_idle : (p : TurnSight → Bool) (b : Bool) (turn n : ℕ) (ws : List Activity) → ((k : ℕ) → p (seen_turn k ws []) ≡ b) → count_by p (idle_turns turn n ws) ≡ cond b n 0
times_idle p true turn zero ws is = refl
times_idle p false turn zero ws is = refl
times_idle p true turn (suc n) ws is =
    let rest = idle_turns (turn + 1) n ws in
    let more = times_idle p true (turn + 1) n ws is in
    sum_by-cons (λ u. cond (p u) 1 0) (seen_turn turn ws []) rest ∙ ap (λ (b : Bool). cond b 1 0 + count_by p rest) (is turn) ∙ omega (arith, more)
times_idle p false turn (suc n) ws is =
    let rest = idle_turns (turn + 1) n ws in
    let more = times_idle p false (turn + 1) n ws is in
    sum_by-cons (λ u. cond (p u) 1 0) (seen_turn turn ws []) rest ∙ ap (λ (b : Bool). cond b 1 0 + count_by p rest) (is turn) ∙ omega (arith, more)

any_idle : (is : Note → Bool) (turn n : ℕ) (ws : List Activity) → is_noted is (idle_turns turn n ws) ≡ false
any_idle is turn zero ws = refl
any_idle is turn (suc n) ws = any_idle is (turn + 1) n ws

noted_idle : (is : Note → Bool) (xs : List TurnSight) (turn n : ℕ) (ws : List Activity) → is_noted is (xs ++ idle_turns turn n ws) ≡ is_noted is xs
noted_idle is xs turn n ws =
    list_any-append (λ u. list_any is u.notes) xs (idle_turns turn n ws) ∙ ap (λ (b : Bool). is_noted is xs || b) (any_idle is turn n ws) ∙ or_none (is_noted is xs)

count_idle : (i : ℕ) (xs : List TurnSight) (turn n : ℕ) (ws : List Activity) (v : Activity) → length xs + n < 2 ^ 32 → turns_with i (xs ++ idle_turns turn n ws) v ≡ more_of (turns_with i xs) (activity_at ws i) n v
count_idle i xs turn n ws v few =
    let p : TurnSight → Bool = λ u. is_same (activity_at u.activities i) v in
    let b : Bool = is_same (activity_at ws i) v in
    let all : turns_with i (xs ++ idle_turns turn n ws) v ≡ turns_with i xs v + cond b n 0 =
    sum_by-append (λ u. cond (p u) 1 0) xs (idle_turns turn n ws) ∙ ap (λ (m : ℕ). turns_with i xs v + m) (times_idle p b turn n ws (λ k. refl)) in
    more_by (turns_with i xs v) n (turns_with i (xs ++ idle_turns turn n ws) v) b (omega (arith, few, count_by-le-length p xs)) all

pub cell_idle : (xs : List TurnSight) (turn n : ℕ) (ws : List Activity) (i : ℕ) → length xs + n < 2 ^ 32 → cell_of (xs ++ idle_turns turn n ws) i ≡ counted (cell_of xs i) (activity_at ws i) n
cell_idle xs turn n ws i few =
    let w = activity_at ws i in
    let all = xs ++ idle_turns turn n ws in
    let counts : map (turns_with i all) activities ≡ map (more_of (turns_with i xs) w n) activities = map_same (turns_with i all) (more_of (turns_with i xs) w n) (λ v. count_idle i xs turn n ws v few) activities in
    ap (λ (l : List ℕ). cell l (is_noted (is_fault_of i) all) (is_noted (is_birth_of i) all)) (counts ∙ counted_at (turns_with i xs) w n)
    ∙ ap (λ (b : Bool). cell (counted (cell_of xs i) w n).turns b (is_noted (is_birth_of i) all)) (noted_idle (is_fault_of i) xs turn n ws)
    ∙ ap (λ (b : Bool). cell (counted (cell_of xs i) w n).turns (is_noted (is_fault_of i) xs) b) (noted_idle (is_birth_of i) xs turn n ws)

-- ## the turns of all activities of a task are all turns

abbrev hit : Activity → Activity → ℕ
hit w v = cond (is_same w v) 1 0

one_activity : (w : Activity) → hit w activity.Runs + hit w activity.Ready + hit w activity.Offers + hit w activity.Awaits + hit w activity.Listens + hit w activity.Faulted + hit w activity.Stopped ≡ 1
one_activity activity.Runs = refl
one_activity activity.Ready = refl
one_activity activity.Offers = refl
one_activity activity.Awaits = refl
one_activity activity.Listens = refl
one_activity activity.Faulted = refl
one_activity activity.Stopped = refl

with_cons : (i : ℕ) (t : TurnSight) (turns : List TurnSight) (v : Activity) → turns_with i (t ∷ turns) v ≡ hit (activity_at t.activities i) v + turns_with i turns v
with_cons i t turns v = sum_by-cons (λ u. cond (is_same (activity_at u.activities i) v) 1 0) t turns

seven : (a b c d e f g a' b' c' d' e' f' g' a'' b'' c'' d'' e'' f'' g'' n : ℕ) → a'' ≡ a + a' → b'' ≡ b + b' → c'' ≡ c + c' → d'' ≡ d + d' → e'' ≡ e + e' → f'' ≡ f + f' → g'' ≡ g + g' →
    a + b + c + d + e + f + g ≡ 1 → 0 + a' + b' + c' + d' + e' + f' + g' ≡ n → 0 + a'' + b'' + c'' + d'' + e'' + f'' + g'' ≡ suc n
seven a b c d e f g a' b' c' d' e' f' g' a'' b'' c'' d'' e'' f'' g'' n p q r s t u v one rest = omega arith

pub activities_add_up : (i : ℕ) (turns : List TurnSight) → sum (cell_of turns i).turns ≡ length turns
activities_add_up i [] = refl
activities_add_up i (t ∷ turns) =
    let w = activity_at t.activities i in
    seven (hit w activity.Runs) (hit w activity.Ready) (hit w activity.Offers) (hit w activity.Awaits) (hit w activity.Listens) (hit w activity.Faulted) (hit w activity.Stopped)
    _ _ _ _ _ _ _ _ _ _ _ _ _ _ (length turns)
    (with_cons i t turns activity.Runs) (with_cons i t turns activity.Ready) (with_cons i t turns activity.Offers) (with_cons i t turns activity.Awaits) (with_cons i t turns activity.Listens) (with_cons i t turns activity.Faulted) (with_cons i t turns activity.Stopped)
    (one_activity w) (activities_add_up i turns)
