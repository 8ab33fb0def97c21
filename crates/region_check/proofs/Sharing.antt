-- Tasks that are alone.
use Rattle.std.proofs.Common.{◌≡◌, ◌⊎◌, inl, inr, ◌+◌, ◌<◌, ◌≤◌, ℕ, zero, suc, Bool, true, false, ◌&&◌, ◌||◌, not, leb, ltb, List, [], ◌∷◌, refl, sym, ◌∙◌, ap, arith, ltb-true, eq-eqb}
use Rattle.std.specs.Prelude.{Contains}
use Rattle.std.specs.List.{list_any, list_all}
use Rattle.std.proofs.lemmas.Bool.{leb-true, false≢true, and_parts, not-true}
use Rattle.region_check.specs.declared.Region.{Region}
use Rattle.region_check.specs.Rights.{is_inside, is_same_place, is_alone, SameOrApart}

each_of : {A : Type 0} (p : A → Bool) (xs : List A) (x : A) → list_all p xs ≡ true → Contains xs x → p x ≡ true
each_of p [] x e here = absurd (omega (arith, here.1))
each_of p (y ∷ ys) x e (zero, lt, same) = ap p (sym same) ∙ (and_parts (p y) (list_all p ys) e).0
each_of p (y ∷ ys) x e (suc k, lt, same) = each_of p ys x (and_parts (p y) (list_all p ys) e).1 (k, omega arith, same)

none_of : {A : Type 0} (p : A → Bool) (xs : List A) (x : A) → list_any p xs ≡ false → Contains xs x → p x ≡ false
none_of p [] x e here = absurd (omega (arith, here.1))
none_of p (y ∷ ys) x e (zero, lt, same) = ap p (sym same) ∙ first (p y) (list_any p ys) e
  where
    first : (a b : Bool) → (a || b) ≡ false → a ≡ false
    first false b q = refl
    first true b q = absurd (false≢true (sym q))
none_of p (y ∷ ys) x e (suc k, lt, same) = none_of p ys x (second (p y) (list_any p ys) e) (k, omega arith, same)
  where
    second : (a b : Bool) → (a || b) ≡ false → b ≡ false
    second false b q = q
    second true b q = absurd (false≢true (sym q))

same_place : (r q : Region) → r.base ≡ q.base → r.size ≡ q.size → is_same_place r q ≡ true
same_place r q base size = rw (eq-eqb r.base q.base base, eq-eqb r.size q.size size) refl

module _ (own others : List Region) (alone : is_alone own others ≡ true) where
  own_alone : (r : Region) → Contains own r → (not r.rights.device ≡ true) × (not (list_any (is_same_place r) others) ≡ true)
  own_alone r here = and_parts (not r.rights.device) _ (each_of (λ (x : Region). not x.rights.device && not (list_any (is_same_place x) others)) own r alone here)

  pub no_device : (r : Region) → Contains own r → r.rights.device ≡ false
  no_device r here = not-true _ (own_alone r here).0

  pub apart : (r q : Region) → Contains own r → Contains others q → SameOrApart r q → (a : ℕ) → is_inside r a ≡ true → is_inside q a ≡ false
  apart r q here there (inl same) a inside = absurd (false≢true (sym (none_of (is_same_place r) others q (not-true _ (own_alone r here).1) there) ∙ same_place r q same.0 same.1))
  apart r q here there (inr either) a inside = by_inside (is_inside q a) refl
    where
      from_to : (x : Region) → is_inside x a ≡ true → (x.base ≤ a) × (a < x.base + x.size)
      from_to x e = let b = and_parts (leb x.base a) (ltb a (x.base + x.size)) e in (leb-true _ _ b.0, ltb-true _ _ b.1)

      no_both : (r.base + r.size ≤ q.base) ⊎ (q.base + q.size ≤ r.base) → (r.base ≤ a) × (a < r.base + r.size) → (q.base ≤ a) × (a < q.base + q.size) → ⊥
      no_both (inl below) x y = let one = x.1 in let two = y.0 in absurd (omega arith)
      no_both (inr above) x y = let one = x.0 in let two = y.1 in absurd (omega arith)

      by_inside : (b : Bool) → is_inside q a ≡ b → b ≡ false
      by_inside false e = refl
      by_inside true e = absurd (no_both either (from_to r inside) (from_to q e))
