-- One push after another.
use Rattle.std.proofs.Common.{◌≡◌, ◌<◌, ℕ, zero, suc, arith, List, [], ◌∷◌, ◌++◌, length, take, drop, get_or, Option, Some, None, refl, sym, ap, subst, ◌∙◌, append_assoc}
use Rattle.std.specs.Prelude.{Result, Ok, Err}
use Rattle.std.specs.List.{flat_map}
use Rattle.std.specs.Io.KnownBytes.{Appends, Keeps}
use Rattle.std.proofs.lemmas.List.{append-nil}
use Rattle.outside_io.specs.Outside.{AppendsFront, Pushes}

pub appends_none : (a : Option (List ℕ)) → Appends a a []
appends_none None = tt
appends_none (Some xs) = sym (append-nil xs)

pub appends_more : (a b c : Option (List ℕ)) (x y : List ℕ) → Appends a b x → Appends b c y → Appends a c (x ++ y)
appends_more None b c x y p q = tt
appends_more (Some xs) None c x y p q = absurd p
appends_more (Some xs) (Some ys) None x y p q = absurd q
appends_more (Some xs) (Some ys) (Some zs) x y p q = q ∙ ap (λ (w : List ℕ). w ++ y) p ∙ append_assoc xs x y

-- what was appended is kept
pub appends_kept : (a b c : Option (List ℕ)) (x : List ℕ) → Appends a b x → Keeps b c → Appends a c x
appends_kept None b c x p k = tt
appends_kept (Some xs) None c x p k = absurd p
appends_kept (Some xs) (Some ys) None x p k = absurd k
appends_kept (Some xs) (Some ys) (Some zs) x p k = k ∙ p

-- a text was appended whole, and then passed on or not
pub pushes_kept : {T E : Type 0} (a b c : Option (List ℕ)) (x : List ℕ) (r : Result T E) → Appends a b x → Keeps b c → Pushes a c x r
pushes_kept a b c x (Ok v) p k = appends_kept a b c x p k
pushes_kept a b c x (Err e) p k = (x, ([], sym (append-nil x)), appends_kept a b c x p k)

-- a front of what comes next
pub front_more : (a b c : Option (List ℕ)) (x y : List ℕ) → Appends a b x → AppendsFront b c y → AppendsFront a c (x ++ y)
front_more a b c x y p q =
    (x ++ q.0, (q.1.0, ap (λ (w : List ℕ). x ++ w) q.1.1 ∙ sym (append_assoc x q.0 q.1.0)), appends_more a b c x q.0 p q.2)

-- a front of a part is a front of the whole
pub front_wider : (a b : Option (List ℕ)) (x y : List ℕ) → AppendsFront a b x → AppendsFront a b (x ++ y)
front_wider a b x y q = (q.0, (q.1.0 ++ y, ap (λ (w : List ℕ). w ++ y) q.1.1 ∙ append_assoc q.0 q.1.0 y), q.2)

pub pushes_more : {T E : Type 0} (a b c : Option (List ℕ)) (x y : List ℕ) (r : Result T E) → Appends a b x → Pushes b c y r → Pushes a c (x ++ y) r
pushes_more a b c x y (Ok v) p q = appends_more a b c x y p q
pushes_more a b c x y (Err e) p q = front_more a b c x y p q

-- a failure inside of the text
pub part_fails : {T E : Type 0} (a b c : Option (List ℕ)) (x y z text : List ℕ) (r : Result T E) (e : E) → r ≡ Err e → text ≡ x ++ (y ++ z) → Appends a b x → AppendsFront b c y → Pushes a c text r
part_fails {T} {E} a b c x y z text r e failed is p q =
    let P : List ℕ → Type 0 = λ w. AppendsFront a c w in
    let whole : AppendsFront a c (x ++ (y ++ z)) = front_more a b c x (y ++ z) p (front_wider b c y z q) in
    rw failed (subst P (sym is) whole)

-- ## the texts of a list, one after the other

-- what stands before a place, at it and behind it
flat_map_at : {X : Type 0} (f : X → List ℕ) (xs : List X) (i : ℕ) (d : X) → i < length xs → flat_map f xs ≡ flat_map f (take i xs) ++ (f (get_or xs i d) ++ flat_map f (drop (suc i) xs))
flat_map_at f [] i d lt = absurd (omega arith)
flat_map_at f (x ∷ xs) zero d lt = refl
flat_map_at f (x ∷ xs) (suc i) d lt =
    ap (λ (w : List ℕ). f x ++ w) (flat_map_at f xs i d (omega arith)) ∙ sym (append_assoc (f x) (flat_map f (take i xs)) (f (get_or xs i d) ++ flat_map f (drop (suc i) xs)))

-- a failure at one of them
pub each_fails : {X T E : Type 0} (f : X → List ℕ) (xs : List X) (i : ℕ) (d : X) (a b c : Option (List ℕ)) (r : Result T E) (e : E) → r ≡ Err e → i < length xs
    → Appends a b (flat_map f (take i xs)) → AppendsFront b c (f (get_or xs i d)) → Pushes a c (flat_map f xs) r
each_fails f xs i d a b c r e failed lt p q = part_fails a b c _ _ _ _ r e failed (flat_map_at f xs i d lt) p q
