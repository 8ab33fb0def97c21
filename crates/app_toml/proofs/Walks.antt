-- What walks over lists say where they refuse nothing.
use Rattle.std.proofs.Common.{◌≡◌, ◌∙◌, ◌≢◌, ◌<◌, ◌+◌, not, ℕ, zero, suc, List, [], ◌∷◌, ◌++◌, drop, length, get_or, map, Bool, true, false, Option, None, Some, is_some, option_map, refl, ap, sym, subst, arith, length-append, add-zero, zero-add}
use Rattle.std.proofs.lemmas.Bool.{or_parts}
use Rattle.std.specs.Prelude.{All, Any, AllPairs, Contains}
use Rattle.std.specs.List.{list_any}
use Rattle.std.specs.Str.{bytes_eq}
use Rattle.std.proofs.lemmas.Bool.Decides.{not_from_Decides}
use Rattle.std.proofs.lemmas.List.{drop_more, get_or_append_left}
use Rattle.std.proofs.lemmas.List.Elements.{All-cons, All-nil}
use Rattle.std.proofs.lemmas.List.Folds.{Any-from_list_any}
use Rattle.std.proofs.lemmas.List.Kept.{AllPairs-cons}
use Rattle.std.proofs.lemmas.Slice.Eq.{bytes_eq-Decides}
use Rattle.std.proofs.Math.Seq.{get_or-append_seam}
use Rattle.app_toml.specs.Places.{Refusal, Text, first_clash, first_fault, or_else}
use Rattle.app_toml.proofs.Passed.{both_none}

-- ---- tests

pub none_passes : {T : Type 0} (test : T → Bool) (xs : List T) → list_any test xs ≡ false → All (λ x. test x ≡ false) xs
none_passes test [] e = All-nil (λ x. test x ≡ false)
none_passes test (x ∷ xs) e =
    let parts = or_parts (test x) (list_any test xs) e in
    All-cons (λ y. test y ≡ false) x xs parts.0 (none_passes test xs parts.1)

-- what fails the test has the property
pub all_fail : {T : Type 0} (test : T → Bool) (P : T → Type 0) → ((x : T) → test x ≡ false → P x) → (xs : List T)
    → list_any test xs ≡ false → All P xs
all_fail test P fact xs e i d lt = fact (get_or xs i d) (none_passes test xs e i d lt)

pub any_weaker : {T : Type 0} (P Q : T → Type 0) → ((x : T) → P x → Q x) → (xs : List T) → Any P xs → Any Q xs
any_weaker P Q fact xs a = (a.0, a.1, a.2, a.3, fact a.1 a.4)

pub differs : (m n : Text) → bytes_eq m n ≡ false → m ≢ n
differs m n e = not_from_Decides (bytes_eq m n) (bytes_eq-Decides m n) e

pub same_text : (m n : Text) → bytes_eq m n ≡ true → m ≡ n
same_text m n e = (bytes_eq-Decides m n).0 e

-- a text of the list is the one that is looked for
pub contained : (name : Text) (names : List Text) → list_any (λ n. bytes_eq n name) names ≡ true → Contains names name
contained name names e =
    let a = Any-from_list_any (λ n. bytes_eq n name) names e in
    (a.0, a.2, subst (λ (y : Text). get_or names a.0 y ≡ y) (same_text a.1 name a.4) a.3)

-- ---- walks

pub fault_at : {T : Type 0} (fault : ℕ → T → Option Refusal) (k : ℕ) (xs : List T) → first_fault fault k xs ≡ None
    → (i : ℕ) (d : T) → i < length xs → fault (k + i) (get_or xs i d) ≡ None
fault_at fault k [] e i d lt = absurd (omega (arith, lt))
fault_at fault k (x ∷ xs) e zero d lt =
    subst (λ (n : ℕ). fault n x ≡ None) (sym (add-zero k)) (both_none (fault k x) _ e).0
fault_at fault k (x ∷ xs) e (suc i) d lt =
    let same : k + 1 + i ≡ k + suc i = omega arith in
    subst (λ (n : ℕ). fault n (get_or xs i d) ≡ None) same
    (fault_at fault (k + 1) xs (both_none (fault k x) _ e).1 i d (omega (arith, lt)))

pub fault_in : {T : Type 0} (fault : ℕ → T → Option Refusal) (xs : List T) → first_fault fault 0 xs ≡ None
    → (i : ℕ) (d : T) → i < length xs → fault i (get_or xs i d) ≡ None
fault_in fault xs e i d lt =
    subst (λ (n : ℕ). fault n (get_or xs i d) ≡ None) (zero-add i) (fault_at fault 0 xs e i d lt)

pub each_fine : {T : Type 0} (fault : ℕ → T → Option Refusal) (P : T → Type 0)
    → ((k : ℕ) (x : T) → fault k x ≡ None → P x) → (xs : List T) → first_fault fault 0 xs ≡ None → All P xs
each_fine fault P fact xs e i d lt = fact i (get_or xs i d) (fault_in fault xs e i d lt)

pub each_clear : {T : Type 0} (fault : List T → ℕ → T → Option Refusal) (P : T → Type 0)
    → ((before : List T) (k : ℕ) (x : T) → fault before k x ≡ None → P x)
    → (before : List T) (k : ℕ) (xs : List T) → first_clash fault before k xs ≡ None → All P xs
each_clear fault P fact before k [] e = All-nil P
each_clear fault P fact before k (x ∷ xs) e =
    let parts = both_none (fault before k x) _ e in
    All-cons P x xs (fact before k x parts.0) (each_clear fault P fact (before ++ x ∷ []) (k + 1) xs parts.1)

-- each element before, and each later one
abbrev Beside : {T : Type 0} → (T → T → Type 0) → List T → List T → Type 0
Beside R before xs = All (λ b. All (R b) xs) before

beside_empty : {T : Type 0} (R : T → T → Type 0) (before : List T) → Beside R before []
beside_empty R before i d lt = All-nil (R (get_or before i d))

pairs_empty : {T : Type 0} (R : T → T → Type 0) → AllPairs R []
pairs_empty R i j d lt within = absurd (omega (arith, within))

clear_walk : {T : Type 0} (fault : List T → ℕ → T → Option Refusal) (R : T → T → Type 0)
    → ((before : List T) (k : ℕ) (x : T) → fault before k x ≡ None → All (λ b. R b x) before)
    → (before : List T) (k : ℕ) (xs : List T) → first_clash fault before k xs ≡ None → Beside R before xs × AllPairs R xs
clear_walk fault R fact before k [] e = (beside_empty R before, pairs_empty R)
clear_walk fault R fact before k (x ∷ xs) e =
    let parts = both_none (fault before k x) _ e in
    let here = fact before k x parts.0 in
    let rest = clear_walk fault R fact (before ++ x ∷ []) (k + 1) xs parts.1 in
    let size = length-append before (x ∷ []) in
    let last = subst (λ b. All (R b) xs) (get_or-append_seam before x [] x) (rest.0 (length before) x (omega (arith, size))) in (
      λ i d lt. All-cons (R (get_or before i d)) x xs (here i d lt)
          (subst (λ b. All (R b) xs) (get_or_append_left before (x ∷ []) d i lt) (rest.0 i d (omega (arith, size, lt)))),
      AllPairs-cons R x xs last rest.1,
    )

pub all_clear : {T : Type 0} (fault : List T → ℕ → T → Option Refusal) (R : T → T → Type 0)
    → ((before : List T) (k : ℕ) (x : T) → fault before k x ≡ None → All (λ b. R b x) before)
    → (xs : List T) → first_clash fault [] 0 xs ≡ None → AllPairs R xs
all_clear fault R fact xs e = (clear_walk fault R fact [] 0 xs e).1

-- ---- a walk that stops at the first fault, item by item

clash_step : {S T : Type 0} (of : S → T) (fault : List T → ℕ → T → Option Refusal) (before : List T) (xs : List S) (i : ℕ) (x : S) → i < length xs → x ≡ get_or xs i x
    → first_clash fault before i (map of (drop i xs)) ≡ or_else (fault before i (of x)) (first_clash fault (before ++ of x ∷ []) (i + 1) (map of (drop (i + 1) xs)))
clash_step of fault before xs i x lt here =
    ap (λ ys. first_clash fault before i (map of ys)) (drop_more xs i x lt ∙ ap (λ y. y ∷ drop (i + 1) xs) (sym here))

pub clash_passes : {S T : Type 0} (of : S → T) (fault : List T → ℕ → T → Option Refusal) (before after : List T) (xs : List S) (i : ℕ) (x : S) (whole : Option Refusal)
    → i < length xs → x ≡ get_or xs i x → after ≡ before ++ of x ∷ [] → fault before i (of x) ≡ None
    → first_clash fault before i (map of (drop i xs)) ≡ whole → first_clash fault after (i + 1) (map of (drop (i + 1) xs)) ≡ whole
clash_passes of fault before after xs i x whole lt here more none walk =
    ap (λ b. first_clash fault b (i + 1) (map of (drop (i + 1) xs))) more
    ∙ sym (ap (λ r. or_else r (first_clash fault (before ++ of x ∷ []) (i + 1) (map of (drop (i + 1) xs)))) none)
    ∙ sym (clash_step of fault before xs i x lt here) ∙ walk

-- what is new was not there
pub was_absent : (is_new was_there : Bool) → is_new ≡ not was_there → is_new ≡ true → was_there ≡ false
was_absent true true e new = cc
was_absent true false e new = refl
was_absent false b e new = cc

pub none_stated : {T : Type 0} (f : T → Refusal) (found : Option T) → is_some found ≡ false → option_map f found ≡ None
none_stated f None e = refl
none_stated f (Some x) e = cc
