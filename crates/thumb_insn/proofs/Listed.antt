-- The text of a list of registers when one more register is added.
use Rattle.std.proofs.Common.{◌≡◌, ◌≢◌, ℕ, ◌+◌, ◌/◌, ◌%◌, ◌^◌, ◌<◌, ◌≤◌, Bool, true, false, nat_eq, if◌then◌else◌, List, [], ◌∷◌, ◌++◌, map, arith, refl, ap, ◌∙◌, sym, append_assoc, add-one}
use Rattle.std.specs.Prelude.{codes}
use Rattle.std.proofs.Math.Pow.{pow_mono}
use Rattle.std.proofs.Math.Nat.{div-eq_of_lt}
use Rattle.std.proofs.lemmas.List.{append-nil}
use Rattle.std.proofs.lemmas.Bool.Decides.{nat_tests}
use Rattle.thumb_insn.specs.Fields.{is_listed}
use Rattle.thumb_insn.specs.Text.{joined, registers_below, register_name, is_empty, braces}

joined_more : (xs : List (List ℕ)) (x : List ℕ) → joined (xs ++ x ∷ []) ≡ joined xs ++ (if is_empty xs then x else codes ", " ++ x)
joined_more [] x = refl
joined_more (y ∷ []) x = append_assoc y (codes ", ") x
joined_more (y ∷ z ∷ zs) x = let e = joined_more (z ∷ zs) x in rw e (sym (append_assoc (y ++ codes ", ") (joined (z ∷ zs)) (codes ", " ++ x)))

map_more : (xs : List ℕ) (k : ℕ) → map register_name (xs ++ k ∷ []) ≡ map register_name xs ++ register_name k ∷ []
map_more [] k = refl
map_more (x ∷ xs) k = ap (λ (ys : List (List ℕ)). register_name x ∷ ys) (map_more xs k)

map_empty : (xs : List ℕ) → is_empty (map register_name xs) ≡ is_empty xs
map_empty [] = refl
map_empty (x ∷ xs) = refl

-- the text of a list with one more register, after a comma unless it is the first
pub joined_names : (xs : List ℕ) (k : ℕ) → joined (map register_name (xs ++ k ∷ [])) ≡ joined (map register_name xs) ++ (if is_empty xs then register_name k else codes ", " ++ register_name k)
joined_names xs k = ap joined (map_more xs k) ∙ joined_more (map register_name xs) (register_name k) ∙ ap (λ (b : Bool). joined (map register_name xs) ++ (if b then register_name k else codes ", " ++ register_name k)) (map_empty xs)

not_empty : (xs : List ℕ) (k : ℕ) → is_empty (xs ++ k ∷ []) ≡ false
not_empty [] k = refl
not_empty (x ∷ xs) k = refl

pub start : (list : ℕ) → registers_below list 0 ≡ []
unfolding registers_below
start list = refl

-- if register k is listed, it comes after the registers below k
next : (list k : ℕ) → is_listed list k ≡ true → registers_below list (k + 1) ≡ registers_below list k ++ k ∷ []
unfolding registers_below
next list k e = rw add-one (ap (λ (b : Bool). registers_below list k ++ (if b then k ∷ [] else [])) e)

pub one_more : (list k : ℕ) → is_listed list k ≡ true → joined (map register_name (registers_below list (k + 1))) ≡ joined (map register_name (registers_below list k)) ++ (if is_empty (registers_below list k) then register_name k else codes ", " ++ register_name k)
one_more list k e = ap (λ (xs : List ℕ). joined (map register_name xs)) (next list k e) ∙ joined_names (registers_below list k) k

pub not_first : (list k : ℕ) → is_listed list k ≡ true → is_empty (registers_below list (k + 1)) ≡ false
not_first list k e = ap is_empty (next list k e) ∙ not_empty (registers_below list k) k

-- if register k is not listed, the registers below k + 1 are those below k
pub none_more : (list k : ℕ) → is_listed list k ≡ false → registers_below list (k + 1) ≡ registers_below list k
unfolding registers_below
none_more list k e = rw add-one (ap (λ (b : Bool). registers_below list k ++ (if b then k ∷ [] else [])) e ∙ append-nil (registers_below list k))

pub tested : (n : ℕ) → n ≡ 1 → nat_eq n 1 ≡ true
tested n e = grind (arith, nat_tests)

pub refused : (n : ℕ) → n ≢ 1 → nat_eq n 1 ≡ false
refused n e = grind (arith, nat_tests)

-- the text of the registers below k + 1, if k is listed
pub grows : (text out : List ℕ) (list k : ℕ) (first : Bool) → list / 2 ^ k % 2 ≡ 1 → out ≡ text ++ joined (map register_name (registers_below list k)) → first ≡ is_empty (registers_below list k) → out ++ (if first then register_name k else codes ", " ++ register_name k) ≡ text ++ joined (map register_name (registers_below list (k + 1)))
grows text out list k first e f g =
    let h = one_more list k (tested _ e) in
    rw (f, g, h) (append_assoc text (joined (map register_name (registers_below list k))) (if is_empty (registers_below list k) then register_name k else codes ", " ++ register_name k))

pub stays : (list k : ℕ) → list / 2 ^ k % 2 ≢ 1 → registers_below list (k + 1) ≡ registers_below list k
stays list k e = none_more list k (refused _ e)

pub goes_on : (list k : ℕ) → list / 2 ^ k % 2 ≡ 1 → is_empty (registers_below list (k + 1)) ≡ false
goes_on list k e = not_first list k (tested _ e)

-- the text of a list with one more register at its end
pub ends : (text low out : List ℕ) (xs : List ℕ) (first : Bool) (k : ℕ) → low ≡ (text ++ codes "{") ++ joined (map register_name xs) → first ≡ is_empty xs → out ≡ (low ++ (if first then register_name k else codes ", " ++ register_name k)) ++ codes "}" → out ≡ text ++ braces (xs ++ k ∷ [])
ends text low out xs first k e f g =
    let h = joined_names xs k in
    let more : List ℕ = if is_empty xs then register_name k else codes ", " ++ register_name k in
    g ∙ rw (e, f, h) (ap (λ (zs : List ℕ). zs ++ codes "}") (append_assoc (text ++ codes "{") (joined (map register_name xs)) more) ∙ append_assoc (text ++ codes "{") (joined (map register_name xs) ++ more) (codes "}") ∙ append_assoc text (codes "{") ((joined (map register_name xs) ++ more) ++ codes "}"))

-- no register above r7 is in a list
pub high_is_unlisted : (list n : ℕ) → list < 2 ^ 8 → 8 ≤ n → is_listed list n ≡ false
high_is_unlisted list n f g =
    let below : list < 2 ^ n = omega (arith, pow_mono {i = 8} {j = n} g) in
    let e = div-eq_of_lt below in
    rw e refl
