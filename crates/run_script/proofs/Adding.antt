-- One more event among those of a script, after those of its turn.
use Rattle.std.proofs.Common.{◌≡◌, ◌∙◌, ℕ, zero, suc, ◌+◌, ◌≤◌, ◌<◌, Bool, true, false, List, [], ◌∷◌, ◌++◌, length, length-drop, take, drop, get_or, refl, sym, ap, subst, append_assoc, arith, if◌then◌else◌, ◌==◌, ◌||◌, nat_le}
use Rattle.std.specs.Prelude.{filter, map, is_some, nat_lt, slice_get}
use Rattle.std.specs.List.{All, count_by, insert, list_any}
use Rattle.std.proofs.lemmas.Bool.Decides.{nat_tests}
use Rattle.std.proofs.lemmas.List.{append-nil, length-map, map-append, take-append-drop, get_or-drop}
use Rattle.std.proofs.lemmas.List.Edits.{length-insert}
use Rattle.std.proofs.lemmas.List.Elements.{All-append, All-drop, All-push, All-take, filter-append}
use Rattle.std.proofs.lemmas.List.Sums.{length-filter, sum_by-insert}
use Rattle.std.proofs.lemmas.List.Sorted.{list_any-IsPermutation, IsNonDecreasingBy-insert, IsPermutation-insert}
use Rattle.run_script.specs.declared.events.Event.{Event}
use Rattle.run_script.specs.Facts.{Facts, HasDevice, HasLine, IsListed}
use Rattle.run_script.specs.Laying.{has_no_place}
use Rattle.run_script.specs.Scripts.{Listed, ScriptData, events_of, inserted, lasts, is_of, listed_of, ticks_of}

none_later : (u turn : ℕ) (xs : List Listed) → ((k : ℕ) (d : Listed) → k < length xs → turn < (get_or xs k d).0) → u ≤ turn → filter (is_of u) xs ≡ []
none_later u turn [] h le = refl
none_later u turn (x ∷ xs) h le =
    let here : turn < x.0 = h 0 x (omega arith) in
    let no : is_of u x ≡ false = grind (arith, nat_tests) in
    rw no (none_later u turn xs (λ k d lt. h (suc k) d (omega (arith, lt))) le)

kept : (p : Listed → Bool) (y : Listed) (zs : List Listed) → p y ≡ true → filter p (y ∷ zs) ≡ y ∷ filter p zs
kept p y zs e = rw e refl

dropped : (p : Listed → Bool) (y : Listed) (zs : List Listed) → p y ≡ false → filter p (y ∷ zs) ≡ filter p zs
dropped p y zs e = rw e refl

-- all events from a place on are later
abbrev pub AreLater : ℕ → ℕ → List Listed → Type 0
AreLater turn at xs = (k : ℕ) (d : Listed) → at ≤ k → k < length xs → turn < (get_or xs k d).0

none_behind : (u turn at : ℕ) (xs : List Listed) → AreLater turn at xs → u ≤ turn → filter (is_of u) (drop at xs) ≡ []
none_behind u turn at xs h le =
    none_later u turn (drop at xs) (λ k d lt. let long = length-drop at xs in subst (λ (z : Listed). turn < z.0) (sym (get_or-drop at xs k d)) (h (at + k) d (omega arith) (omega (arith, lt, long)))) le

split : (p : Listed → Bool) (at : ℕ) (xs : List Listed) → filter p xs ≡ filter p (take at xs) ++ filter p (drop at xs)
split p at xs = ap (filter p) (sym (take-append-drop at xs)) ∙ filter-append p (take at xs) (drop at xs)

abbrev events : List Listed → List Event
events xs = map (λ (d : Listed). d.1) xs

same_turn : (turn u : ℕ) → (turn == u) ≡ true → u ≤ turn
same_turn turn u h = grind (arith, nat_tests)

spread_by : (u turn at : ℕ) (event : Event) (xs : List Listed) (b : Bool) → (turn == u) ≡ b → AreLater turn at xs → events (filter (is_of u) (insert xs at (turn, event))) ≡ events (filter (is_of u) xs) ++ (if b then event ∷ [] else [])
spread_by u turn at event xs true e h =
    let p : Listed → Bool = is_of u in
    let front = filter p (take at xs) in
    let none : filter p (drop at xs) ≡ [] = none_behind u turn at xs h (same_turn turn u e) in
    let more : filter p (insert xs at (turn, event)) ≡ front ++ (turn, event) ∷ [] =
    filter-append p (take at xs) ((turn, event) ∷ drop at xs) ∙ ap (λ (l : List Listed). front ++ l) (kept p (turn, event) (drop at xs) e ∙ ap (λ (l : List Listed). (turn, event) ∷ l) none) in
    let all : filter p xs ≡ front = split p at xs ∙ ap (λ (l : List Listed). front ++ l) none ∙ append-nil front in
    ap events more ∙ map-append (λ (d : Listed). d.1) front ((turn, event) ∷ []) ∙ ap (λ (l : List Listed). events l ++ event ∷ []) (sym all)
spread_by u turn at event xs false e h =
    let p : Listed → Bool = is_of u in
    let front = filter p (take at xs) in
    let more : filter p (insert xs at (turn, event)) ≡ filter p xs =
    filter-append p (take at xs) ((turn, event) ∷ drop at xs) ∙ ap (λ (l : List Listed). front ++ l) (dropped p (turn, event) (drop at xs) e) ∙ sym (split p at xs) in
    ap events more ∙ sym (append-nil (events (filter p xs)))

pub spread : (script : ScriptData) (u turn at : ℕ) (event : Event) → AreLater turn at script.events →
    events_of (record script { events = insert script.events at (turn, event) }) u ≡ events_of script u ++ (if turn == u then event ∷ [] else [])
spread script u turn at event h =
    ap (λ (l : List Event). ticks_of script.every u ++ l) (spread_by u turn at event script.events (turn == u) refl h)
    ∙ sym (append_assoc (ticks_of script.every u) (listed_of u script.events) (if turn == u then event ∷ [] else []))

or_turned : (a b c : Bool) → (a || (b || c)) ≡ ((a || c) || b)
or_turned true b c = refl
or_turned false true true = refl
or_turned false true false = refl
or_turned false false true = refl
or_turned false false false = refl

pub lasts_too : (script : ScriptData) (u turn at : ℕ) (event : Event) → lasts (record script { events = insert script.events at (turn, event) }) u ≡ (lasts script u || nat_le u turn)
lasts_too script u turn at event =
    let p : Listed → Bool = λ d. nat_le u d.0 in
    ap (λ (b : Bool). is_some script.every || b) (sym (list_any-IsPermutation p ((turn, event) ∷ script.events) (insert script.events at (turn, event)) (IsPermutation-insert script.events at (turn, event))))
    ∙ or_turned (is_some script.every) (nat_le u turn) (list_any p script.events)

-- ---- the list with it

early : (a turn : ℕ) → a ≤ turn → (nat_le a turn ≡ true) × (nat_lt turn a ≡ false)
early a turn h = (grind (arith, nat_tests), grind (arith, nat_tests))

late : (a turn : ℕ) → turn < a → (nat_le a turn ≡ false) × (nat_lt turn a ≡ true)
late a turn h = (grind (arith, nat_tests), grind (arith, nat_tests))

abbrev up_to : ℕ → Listed → Bool
up_to turn d = nat_le d.0 turn

abbrev beyond : ℕ → Listed → Bool
beyond turn d = nat_lt turn d.0

-- what stands before a place, and what from there on
parted : (turn at : ℕ) (xs : List Listed) → at ≤ length xs → ((k : ℕ) (d : Listed) → k < at → (get_or xs k d).0 ≤ turn) → AreLater turn at xs → (filter (up_to turn) xs ≡ take at xs) × (filter (beyond turn) xs ≡ drop at xs)
parted turn zero [] le before later = (refl, refl)
parted turn (suc at) [] le before later = absurd (omega arith)
parted turn zero (x ∷ xs) le before later =
    let rest = parted turn zero xs (omega arith) (λ k d lt. absurd (omega (arith, lt))) (λ k d a lt. later (suc k) d (omega arith) (omega (arith, lt))) in
    let here = late x.0 turn (later 0 x (omega arith) (omega arith)) in
    (dropped (up_to turn) x xs here.0 ∙ rest.0, kept (beyond turn) x xs here.1 ∙ ap (λ (l : List Listed). x ∷ l) rest.1)
parted turn (suc at) (x ∷ xs) le before later =
    let rest = parted turn at xs (omega arith) (λ k d lt. before (suc k) d (omega (arith, lt))) (λ k d a lt. later (suc k) d (omega (arith, a)) (omega (arith, lt))) in
    let here = early x.0 turn (before 0 x (omega arith)) in
    (kept (up_to turn) x xs here.0 ∙ ap (λ (l : List Listed). x ∷ l) rest.0, dropped (beyond turn) x xs here.1 ∙ rest.1)

pub inserted_is : (turn at : ℕ) (event : Event) (xs : List Listed) → at ≤ length xs → ((k : ℕ) (d : Listed) → k < at → (get_or xs k d).0 ≤ turn) → AreLater turn at xs → insert xs at (turn, event) ≡ inserted turn event xs
inserted_is turn at event xs le before later =
    let both = parted turn at xs le before later in
    ap (λ (l : List Listed). l ++ (turn, event) ∷ drop at xs) (sym both.0) ∙ ap (λ (l : List Listed). filter (up_to turn) xs ++ (turn, event) ∷ l) (sym both.1)

-- ---- whether there is room in the turn

has_at : (l : List Event) (k : ℕ) → is_some (slice_get l k) ≡ nat_lt k (length l)
has_at [] zero = grind (arith, nat_tests)
has_at [] (suc k) = grind (arith, nat_tests)
has_at (x ∷ xs) zero = grind (arith, nat_tests)
has_at (x ∷ xs) (suc k) =
    let rest = has_at xs k in
    let same : nat_lt k (length xs) ≡ nat_lt (suc k) (length (x ∷ xs)) = grind (arith, nat_tests) in
    rest ∙ same

eighth : (n : ℕ) → nat_lt 7 n ≡ nat_le 8 n
eighth n = grind (arith, nat_tests)

pub counted : (turn : ℕ) (xs : List Listed) → is_some (slice_get (listed_of turn xs) 7) ≡ nat_le 8 (count_by (is_of turn) xs)
counted turn xs =
    let long : length (listed_of turn xs) ≡ count_by (is_of turn) xs = length-map (filter (is_of turn) xs) (λ (d : Listed). d.1) ∙ length-filter (is_of turn) xs in
    has_at (listed_of turn xs) 7 ∙ eighth (length (listed_of turn xs)) ∙ ap (nat_le 8) long

pub full_is : (script : ScriptData) (turn : ℕ) (b : Bool) → turn < 1000000000 → length script.events < 65536 → is_some (slice_get (listed_of turn script.events) 7) ≡ b → has_no_place script turn ≡ b
full_is script turn b soon few e =
    let early : nat_le 1000000000 turn ≡ false = grind (arith, nat_tests) in
    let free : nat_le 65536 (length script.events) ≡ false = grind (arith, nat_tests) in
    rw (early, free) (sym (counted turn script.events) ∙ e)

-- ---- what is known of the script with it

pub until : (a turn : ℕ) → nat_lt a (turn + 1) ≡ true → a ≤ turn
until a turn e = grind (arith, nat_tests)

pub behind : (a turn : ℕ) → nat_lt a (turn + 1) ≡ false → turn < a
behind a turn e = grind (arith, nat_tests)

few_of : (n : ℕ) → nat_le 8 n ≡ false → n < 8
few_of n e = grind (arith, nat_tests)

pub more_of : (b : Bool) (n : ℕ) → (b ≡ true → n < 8) → n ≤ 8 → n + (if b then 1 else 0) ≤ 8
more_of true n h k = let few : n < 8 = h refl in omega arith
more_of false n h k = omega arith

pub is_turn : (turn u : ℕ) → (turn == u) ≡ true → turn ≡ u
is_turn turn u e = grind (arith, nat_tests)

pub facts_more : (script : ScriptData) (next : List Listed) (turn at : ℕ) (event : Event) → Facts script → HasLine event → HasDevice event → turn < 1000000000 → length script.events < 65536 →
    is_some (slice_get (listed_of turn script.events) 7) ≡ false → at ≤ length script.events → ((k : ℕ) (d : Listed) → k < at → (get_or script.events k d).0 ≤ turn) → AreLater turn at script.events →
    next ≡ insert script.events at (turn, event) → Facts record { every = script.every; events = next }
facts_more script next turn at event f line device soon few free le before later is =
    let xs = script.events in
    let y : Listed = (turn, event) in
    let long : length next ≡ length xs + 1 = ap length is ∙ length-insert xs at y le in
    let room : count_by (is_of turn) xs < 8 = few_of (count_by (is_of turn) xs) (sym (counted turn xs) ∙ free) in
    let known : IsListed y = record { turn = soon; line = line; device = device } in
    let each : All IsListed (insert xs at y) = subst (All IsListed) (append_assoc (take at xs) (y ∷ []) (drop at xs)) (All-append IsListed (take at xs ++ y ∷ []) (drop at xs) (All-push IsListed (take at xs) y (All-take IsListed at xs f.listed) known) (All-drop IsListed at xs f.listed)) in
    record {
      every = f.every;
      most = omega (arith, long);
      ascending = rw is (IsNonDecreasingBy-insert (λ (l : Listed). l.0) xs at y f.ascending le before (λ k d a b. let more = later k d a b in omega (arith, more)));
      most_each = λ u. rw is (subst (λ n. n ≤ 8) (sym (sum_by-insert (λ (l : Listed). if is_of u l then 1 else 0) xs at y))
          (more_of (turn == u) (count_by (is_of u) xs) (λ e. subst (λ v. count_by (is_of v) xs < 8) (is_turn turn u e) room) (f.most_each u)));
      listed = rw is each;
    }
