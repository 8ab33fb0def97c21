-- Events that are listed in a script one by one, each behind those of its turn: they are those of the script and all of them, in another order.
use Rattle.std.proofs.Common.{Option, ◌≡◌, ◌∙◌, ℕ, ◌+◌, ◌<◌, ◌≤◌, Bool, true, false, not, cond, List, [], ◌∷◌, ◌++◌, length, fold, filter, get_or, refl, sym, ap, subst, append_assoc, length-append, arith, if◌then◌else◌, ◌||◌, ◌&&◌, nat_le, nat_lt, ⊎_elim}
use Rattle.std.specs.List.{All, count_by, list_all}
use Rattle.std.specs.List.Sorted.{IsPermutation}
use Rattle.std.proofs.lemmas.Bool.{and_from, and_parts, both_ways, cases_Bool, eq-eqb, false_from_ne_true, leb-true, le-leb, leb-false, lt-leb, ltb-true, or_from, or_parts}
use Rattle.std.proofs.lemmas.Bool.Decides.{nat_tests}
use Rattle.std.proofs.lemmas.List.{append-nil, get_or_append_left}
use Rattle.std.proofs.lemmas.List.Elements.{All-contains, All-weaker, Contains-append_right, filter-append}
use Rattle.std.proofs.lemmas.List.Sorted.{All-permutation, IsPermutation-append_left, IsPermutation-cons, IsPermutation-filter_both, IsPermutation-middle, IsPermutation-refl, IsPermutation-sym, IsPermutation-to_front, IsPermutation-trans, length_permutation, sum_by-IsPermutation}
use Rattle.std.proofs.lemmas.List.Sums.{AllPass-from_list_all, fold-append, list_all-from_AllPass, sum_by-append, sum_by-cons}
use Rattle.run_script.specs.declared.events.Event.{Event}
use Rattle.run_script.specs.Laying.{has_no_place}
use Rattle.run_script.specs.Scripts.{Listed, ScriptData, inserted, is_of, is_full}
use Rattle.board_model.specs.Laid.{is_free, is_script}
use Rattle.explore_core.specs.Answers.{listed_in}

-- ## all of them are there

is_later : (turn : ℕ) (e : Listed) → nat_lt turn e.0 ≡ not (nat_le e.0 turn)
is_later turn e = grind (arith, nat_tests)

one_listed : (events : List Listed) (d : Listed) → IsPermutation (events ++ d ∷ []) (listed_in events d)
one_listed events d =
    let up_to : Listed → Bool = λ e. nat_le e.0 d.0 in
    let beyond : Listed → Bool = λ e. nat_lt d.0 e.0 in
    let front = filter up_to events in
    let back = filter beyond events in
    let parts : IsPermutation events (front ++ back) = IsPermutation-filter_both up_to beyond (is_later d.0) events in
    IsPermutation-trans (events ++ d ∷ []) (d ∷ events) (front ++ d ∷ back) (IsPermutation-to_front events d)
    (IsPermutation-trans (d ∷ events) (d ∷ (front ++ back)) (front ++ d ∷ back) (IsPermutation-cons d events (front ++ back) parts) (IsPermutation-sym (front ++ d ∷ back) (d ∷ (front ++ back)) (IsPermutation-middle front d back)))

-- with some that are still to be listed
one_of_some : (events more : List Listed) (d : Listed) → IsPermutation (events ++ d ∷ more) (listed_in events d ++ more)
one_of_some events more d =
    subst (λ (l : List Listed). IsPermutation l (listed_in events d ++ more)) (append_assoc events (d ∷ []) more)
    (IsPermutation-append_left more (events ++ d ∷ []) (listed_in events d) (one_listed events d))

pub some_listed : (events now more : List Listed) → IsPermutation (events ++ (now ++ more)) (fold listed_in events now ++ more)
some_listed events [] more = IsPermutation-refl (events ++ more)
some_listed events (d ∷ now) more =
    IsPermutation-trans (events ++ d ∷ (now ++ more)) (listed_in events d ++ (now ++ more)) (fold listed_in (listed_in events d) now ++ more)
    (one_of_some events (now ++ more) d) (some_listed (listed_in events d) now more)

pub all_listed : (events more : List Listed) → IsPermutation (events ++ more) (fold listed_in events more)
all_listed events more =
    let whole : more ++ [] ≡ more = append-nil more in
    let listed : fold listed_in events more ++ [] ≡ fold listed_in events more = append-nil (fold listed_in events more) in
    subst (λ (l : List Listed). IsPermutation (events ++ l) (fold listed_in events more)) whole
    (subst (λ (l : List Listed). IsPermutation (events ++ (more ++ [])) l) listed (some_listed events more []))

pub listed_long : (events more : List Listed) → length (fold listed_in events more) ≡ length events + length more
listed_long events more =
    let same : length (fold listed_in events more) ≡ length (events ++ more) = length_permutation (events ++ more) (fold listed_in events more) (all_listed events more) in
    same ∙ length-append events more

-- ## in each turn they come in the same order

module _ (p q : Listed → Bool) where
  kept_within : ((e : Listed) → p e ≡ true → q e ≡ true) → (xs : List Listed) → filter p (filter q xs) ≡ filter p xs
  kept_within h [] = refl
  kept_within h (x ∷ xs) =
      let rest = kept_within h xs in
      ⊎_elim
      (λ (yes : q x ≡ true). rw yes (ap (λ (l : List Listed). cond (p x) (x ∷ l) l) rest))
      (λ (no : q x ≡ false). let out : p x ≡ false = false_from_ne_true (p x) (λ yes. both_ways (q x) no (h x yes)) in rw (no, out) rest)
      (cases_Bool (q x))

  none_within : ((e : Listed) → q e ≡ true → p e ≡ false) → (xs : List Listed) → filter p (filter q xs) ≡ []
  none_within h [] = refl
  none_within h (x ∷ xs) =
      let rest = none_within h xs in
      ⊎_elim
      (λ (yes : q x ≡ true). let out : p x ≡ false = h x yes in rw (yes, out) rest)
      (λ (no : q x ≡ false). rw no rest)
      (cases_Bool (q x))

in_turn : (turn : ℕ) (events : List Listed) (d : Listed) → filter (is_of turn) (listed_in events d) ≡ filter (is_of turn) (events ++ d ∷ [])
in_turn turn events d =
    let p = is_of turn in
    let up_to : Listed → Bool = λ e. nat_le e.0 d.0 in
    let beyond : Listed → Bool = λ e. nat_lt d.0 e.0 in
    let front = filter up_to events in
    let back = filter beyond events in
    let cut = filter-append p front (d ∷ back) in
    let whole = filter-append p events (d ∷ []) in
    ⊎_elim
    (λ (yes : nat_le turn d.0 ≡ true).
    let all : filter p front ≡ filter p events = kept_within p up_to (λ e here. grind (arith, nat_tests, yes, here)) events in
    let none : filter p back ≡ [] = none_within p beyond (λ e later. grind (arith, nat_tests, yes, later)) events in
    cut ∙ ap (λ (l : List Listed). l ++ cond (p d) (d ∷ filter p back) (filter p back)) all
    ∙ ap (λ (l : List Listed). filter p events ++ cond (p d) (d ∷ l) l) none ∙ sym whole)
    (λ (no : nat_le turn d.0 ≡ false).
    let none : filter p front ≡ [] = none_within p up_to (λ e early. grind (arith, nat_tests, no, early)) events in
    let all : filter p back ≡ filter p events = kept_within p beyond (λ e here. grind (arith, nat_tests, no, here)) events in
    let other : p d ≡ false = grind (arith, nat_tests, no) in
    let left : filter p (front ++ d ∷ back) ≡ filter p events = cut ∙ ap (λ (l : List Listed). l ++ cond (p d) (d ∷ filter p back) (filter p back)) none ∙ rw other all in
    let right : filter p (events ++ d ∷ []) ≡ filter p events = whole ∙ rw other (append-nil (filter p events)) in
    left ∙ sym right)
    (cases_Bool (nat_le turn d.0))

pub all_in_turn : (turn : ℕ) (events more : List Listed) → filter (is_of turn) (fold listed_in events more) ≡ filter (is_of turn) (events ++ more)
all_in_turn turn events [] = ap (filter (is_of turn)) (sym (append-nil events))
all_in_turn turn events (d ∷ more) =
    let p = is_of turn in
    all_in_turn turn (listed_in events d) more
    ∙ filter-append p (listed_in events d) more
    ∙ ap (λ (l : List Listed). l ++ filter p more) (in_turn turn events d)
    ∙ sym (filter-append p (events ++ d ∷ []) more)
    ∙ ap (filter p) (append_assoc events (d ∷ []) more)

-- ## whether they are a script

same_free : (xs ys : List Listed) → IsPermutation xs ys → (d : Listed) → is_free ys d ≡ is_free xs d
same_free xs ys same d = ap (λ n. nat_lt d.0 1000000000 && nat_le n 8) (sum_by-IsPermutation (λ (e : Listed). if is_of d.0 e then 1 else 0) xs ys same)

-- in whatever order
script_in_order : (xs ys : List Listed) → IsPermutation xs ys → is_script xs ≡ true → is_script ys ≡ true
script_in_order xs ys same is =
    let parts = and_parts (nat_le (length xs) 65536) (list_all (is_free xs) xs) is in
    let long : length ys ≡ length xs = length_permutation xs ys same in
    let each = All-permutation (λ d. is_free xs d ≡ true) xs ys same (AllPass-from_list_all (is_free xs) xs parts.1) in
    and_from (nat_le (length ys) 65536) (list_all (is_free ys) ys) (ap (λ n. nat_le n 65536) long ∙ parts.0)
    (list_all-from_AllPass (is_free ys) ys (All-weaker (λ d. is_free xs d ≡ true) (λ d. is_free ys d ≡ true) (λ d free. same_free xs ys same d ∙ free) ys each))

-- so is a front of them
free_in_front : (xs ys : List Listed) (d : Listed) → is_free (xs ++ ys) d ≡ true → is_free xs d ≡ true
free_in_front xs ys d free =
    let parts = and_parts (nat_lt d.0 1000000000) (nat_le (count_by (is_of d.0) (xs ++ ys)) 8) free in
    let few : count_by (is_of d.0) (xs ++ ys) ≤ 8 = leb-true (count_by (is_of d.0) (xs ++ ys)) 8 parts.1 in
    let all = sum_by-append (λ (e : Listed). if is_of d.0 e then 1 else 0) xs ys in
    and_from (nat_lt d.0 1000000000) (nat_le (count_by (is_of d.0) xs) 8) parts.0 (le-leb (count_by (is_of d.0) xs) 8 (omega (arith, few, all)))

pub script_in_front : (xs ys : List Listed) → is_script (xs ++ ys) ≡ true → is_script xs ≡ true
script_in_front xs ys is =
    let all = xs ++ ys in
    let parts = and_parts (nat_le (length all) 65536) (list_all (is_free all) all) is in
    let most = leb-true (length all) 65536 parts.0 in
    let each = AllPass-from_list_all (is_free all) all parts.1 in
    let long = length-append xs ys in
    let here : All (λ d. is_free xs d ≡ true) xs = λ k d lt. free_in_front xs ys (get_or xs k d) (subst (λ (e : Listed). is_free all e ≡ true) (get_or_append_left xs ys d k lt) (each k d (omega (arith, lt, long)))) in
    and_from (nat_le (length xs) 65536) (list_all (is_free xs) xs) (le-leb (length xs) 65536 (omega (arith, most, long))) (list_all-from_AllPass (is_free xs) xs here)

pub script_with_listed : (events now more : List Listed) → is_script (events ++ (now ++ more)) ≡ true → is_script (fold listed_in events now ++ more) ≡ true
script_with_listed events now more = script_in_order (events ++ (now ++ more)) (fold listed_in events now ++ more) (some_listed events now more)

-- each of them has a place behind those before it
has_place : (before : List Listed) (d : Listed) (behind : List Listed) → is_script (before ++ d ∷ behind) ≡ true → (nat_le 1000000000 d.0 || is_full before d.0) ≡ false
has_place before d behind is =
    let all = before ++ d ∷ behind in
    let parts = and_parts (nat_le (length all) 65536) (list_all (is_free all) all) is in
    let each = AllPass-from_list_all (is_free all) all parts.1 in
    let here : is_free all d ≡ true = All-contains (λ e. is_free all e ≡ true) all d each (Contains-append_right before (d ∷ behind) d (0, omega arith, refl)) in
    let free = and_parts (nat_lt d.0 1000000000) (nat_le (count_by (is_of d.0) all) 8) here in
    let f : Listed → ℕ = λ e. if is_of d.0 e then 1 else 0 in
    let most = leb-true (length all) 65536 parts.0 in
    let eight = leb-true (count_by (is_of d.0) all) 8 free.1 in
    let whole = sum_by-append f before (d ∷ behind) in
    let rest = sum_by-cons f d behind in
    let own : f d ≡ 1 = ap (λ (b : Bool). if b then 1 else 0) (eq-eqb d.0 d.0 refl) in
    let long = length-append before (d ∷ behind) in
    let short : length before < 65536 = omega (arith, most, long) in
    let few : count_by (is_of d.0) before < 8 = omega (arith, eight, whole, rest, own) in
    or_from (nat_le 1000000000 d.0) (is_full before d.0) (lt-leb 1000000000 d.0 (ltb-true d.0 1000000000 free.0))
    (or_from (nat_le 65536 (length before)) (nat_le 8 (count_by (is_of d.0) before)) (lt-leb 65536 (length before) short) (lt-leb 8 (count_by (is_of d.0) before) few))

-- ## on the way

-- some events are listed in a script, and the others are to come: they are a script with it
pub record IsLaidBefore (laid script : ScriptData) (behind all : List Listed) : Type 0 where
  pub every : laid.every ≡ script.every
  pub events : fold listed_in laid.events behind ≡ fold listed_in script.events all
  pub fits : is_script (laid.events ++ behind) ≡ true

-- nothing is listed yet
pub none_laid : (laid script : ScriptData) (all : List Listed) → laid ≡ script → is_script (script.events ++ all) ≡ true → IsLaidBefore laid script all all
none_laid laid script all same is = record {
  every = ap (λ (s : ScriptData). s.every) same;
  events = ap (λ (s : ScriptData). fold listed_in s.events all) same;
  fits = ap (λ (s : ScriptData). is_script (s.events ++ all)) same ∙ is;
}

-- some more are
pub some_laid : (next laid script : ScriptData) (now behind all : List Listed) → IsLaidBefore laid script (now ++ behind) all → next ≡ (record laid { events = fold listed_in laid.events now }) → IsLaidBefore next script behind all
some_laid next laid script now behind all before more = record {
  every = ap (λ (s : ScriptData). s.every) more ∙ before.every;
  events =
      ap (λ (s : ScriptData). fold listed_in s.events behind) more
      ∙ sym (fold-append listed_in laid.events now behind)
      ∙ before.events;
  fits = ap (λ (s : ScriptData). is_script (s.events ++ behind)) more ∙ script_with_listed laid.events now behind before.fits;
}

-- all are
pub all_laid : (laid script : ScriptData) (all : List Listed) → IsLaidBefore laid script [] all → laid ≡ (record script { events = fold listed_in script.events all })
all_laid laid script all done =
    ap (λ (every : Option ℕ). record { every = every; events = laid.events }) done.every
    ∙ ap (λ (events : List Listed). record script { events = events }) done.events

-- ## one event

-- the next one has a place
pub next_fits : (laid script : ScriptData) (turn : ℕ) (event : Event) (behind all : List Listed) → IsLaidBefore laid script ((turn, event) ∷ behind) all → has_no_place laid turn ≡ false
next_fits laid script turn event behind all before = has_place laid.events (turn, event) behind before.fits

pub next_early : (laid script : ScriptData) (turn : ℕ) (event : Event) (behind all : List Listed) → IsLaidBefore laid script ((turn, event) ∷ behind) all → turn < 1000000000
next_early laid script turn event behind all before = leb-false 1000000000 turn (or_parts (nat_le 1000000000 turn) (is_full laid.events turn) (next_fits laid script turn event behind all before)).0

pub next_laid : (next laid script : ScriptData) (turn : ℕ) (event : Event) (behind all : List Listed) → IsLaidBefore laid script ((turn, event) ∷ behind) all →
    next ≡ (record laid { events = inserted turn event laid.events }) → IsLaidBefore next script behind all
next_laid next laid script turn event behind all before more = some_laid next laid script ((turn, event) ∷ []) behind all before more
