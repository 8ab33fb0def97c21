-- The pieces of a word between marks.
use Rattle.std.proofs.Common.{◌≡◌, Bool, Bor, IfSome, IfNone, if◌then◌else◌, ℕ, suc, zero, ◌+◌, ◌-◌, ◌<◌, ◌≤◌, Option, Some, None, List, [], ◌∷◌, ◌++◌, length, get_or, take, drop, refl, ap, ◌∙◌, sym, arith, false, true, nat_eq, nat_lt, add-one}
use Rattle.std.proofs.lemmas.Bool.{ne_eqb}
use Rattle.std.proofs.lemmas.List.{append_assoc}
use Rattle.std.proofs.lemmas.Bool.Decides.{nat_tests}
use Rattle.text_lines.specs.Text.{with_first}
use Rattle.text_lines.proofs.Ends.{take_rest}
use Rattle.std.specs.List.{list_all, range_with_len}
use Rattle.run_question.specs.Values.{go_on, pieces, range_of, with_range, with_ranges}

pieces_nil : (mark : ℕ) → pieces mark [] ≡ [] ∷ []
unfolding pieces
pieces_nil mark = refl

at_mark : (mark c : ℕ) (cs : List ℕ) → c ≡ mark → pieces mark (c ∷ cs) ≡ [] ∷ pieces mark cs
unfolding pieces
at_mark mark c cs e =
    let same : nat_eq c mark ≡ true = grind (arith, nat_tests) in
    rw same refl

before_mark : (mark c : ℕ) (cs : List ℕ) → (c ≡ mark → ⊥) → pieces mark (c ∷ cs) ≡ with_first c (pieces mark cs)
unfolding pieces
before_mark mark c cs h = rw (ne_eqb c mark h) refl

cut_at : (mark : ℕ) (s : List ℕ) (k : ℕ) → k < length s → ((j : ℕ) → j < k → get_or s j 0 ≡ mark → ⊥) → get_or s k 0 ≡ mark → pieces mark s ≡ take k s ∷ pieces mark (drop (suc k) s)
cut_at mark [] k lt h e = absurd (omega arith)
cut_at mark (c ∷ cs) zero lt h e = at_mark mark c cs e
cut_at mark (c ∷ cs) (suc k) lt h e =
    before_mark mark c cs (h 0 (omega arith)) ∙ ap (with_first c) (cut_at mark cs k (omega arith) (λ j l. h (suc j) (omega arith)) e)

-- cut at the first mark
pub cut : (mark : ℕ) (s : List ℕ) (k : ℕ) → k < length s → ((j : ℕ) → j < k → get_or s j 0 ≡ mark → ⊥) → get_or s k 0 ≡ mark → pieces mark s ≡ take k s ∷ pieces mark (take (length s - (k + 1)) (drop (k + 1) s))
cut mark s k lt h e =
    cut_at mark s k lt h e ∙ ap (λ n. take k s ∷ pieces mark (drop n s)) (sym (add-one k))
    ∙ ap (λ t. take k s ∷ pieces mark t) (sym (take_rest s (k + 1)))

-- without a mark
pub uncut : (mark : ℕ) (s : List ℕ) → ((j : ℕ) → j < length s → get_or s j 0 ≡ mark → ⊥) → pieces mark s ≡ s ∷ []
uncut mark [] h = pieces_nil mark
uncut mark (c ∷ cs) h = before_mark mark c cs (h 0 (omega arith)) ∙ ap (with_first c) (uncut mark cs (λ j lt. h (suc j) (omega arith)))

grows : (c : ℕ) (ps : List (List ℕ)) → 0 < length (with_first c ps)
grows c [] = omega arith
grows c (p ∷ ps) = omega arith

one_of : (b : Bool) (ps qs : List (List ℕ)) → 0 < length ps → 0 < length qs → 0 < length (if b then ps else qs)
one_of true ps qs h k = h
one_of false ps qs h k = k

some_piece : (mark : ℕ) (s : List ℕ) → 0 < length (pieces mark s)
unfolding pieces
some_piece mark [] = omega arith
some_piece mark (c ∷ cs) = one_of (nat_eq c mark) ([] ∷ pieces mark cs) (with_first c (pieces mark cs)) (omega arith) (grows c (pieces mark cs))

three : (first last : List ℕ) (ps : List (List ℕ)) → 0 < length ps → range_of (first ∷ last ∷ ps) ≡ None
three first last [] h = absurd (omega arith)
three first last (p ∷ ps) h = refl

-- three pieces or more are no range
pub no_range_of : (first last s t u : List ℕ) → pieces 45 s ≡ first ∷ pieces 45 t → pieces 45 t ≡ last ∷ pieces 45 u → None ≡ range_of (pieces 45 s)
no_range_of first last s t u e h =
    sym (ap range_of (e ∙ ap (λ (ps : List (List ℕ)). first ∷ ps) h) ∙ three first last (pieces 45 u) (some_piece 45 u))

-- ---- ranges

grown : (n a : ℕ) → range_with_len a (suc n) ≡ range_with_len a n ++ (a + n) ∷ []
grown zero a = let e : a + 0 ≡ a = omega arith in ap (λ x. x ∷ []) (sym e)
grown (suc n) a =
    let e : a + 1 + n ≡ a + suc n = omega arith in
    ap (λ l. a ∷ l) (grown n (a + 1) ∙ ap (λ x. range_with_len (a + 1) n ++ x ∷ []) e)

pub one_more : (a k : ℕ) → a ≤ k → range_with_len a (k + 1 - a) ≡ range_with_len a (k - a) ++ k ∷ []
one_more a k h =
    let size : k + 1 - a ≡ suc (k - a) = omega arith in
    let last : a + (k - a) ≡ k = omega arith in
    ap (range_with_len a) size ∙ grown (k - a) a ∙ ap (λ x. range_with_len a (k - a) ++ x ∷ []) last

pub one_byte_more : (known bytes more : List ℕ) (a k : ℕ) → a ≤ k → bytes ≡ known ++ range_with_len a (k - a) → more ≡ bytes ++ k ∷ [] → more ≡ known ++ range_with_len a (k + 1 - a)
one_byte_more known bytes more a k le e h =
    h ∙ ap (λ l. l ++ k ∷ []) e ∙ append_assoc known (range_with_len a (k - a)) (k ∷ [])
    ∙ ap (λ l. known ++ l) (sym (one_more a k le))

pub range_more : (known seen more : List ℕ) (r : Option (ℕ × ℕ)) (a b : ℕ) → Some (a, b) ≡ r → seen ≡ known → list_all (λ v. nat_lt v a) seen ≡ true → more ≡ known ++ range_with_len a (b + 1 - a) → with_range known r ≡ Some more
range_more known seen more r a b e same above h =
    let all : list_all (λ v. nat_lt v a) known ≡ true = ap (list_all (λ v. nat_lt v a)) (sym same) ∙ above in
    ap (with_range known) (sym e) ∙ rw all (ap Some (sym h))

pub no_range : (known : List ℕ) → with_ranges known [] ≡ Some known
unfolding with_ranges
no_range known = refl

pub one_range : (known : List ℕ) (piece : List ℕ) (rest : List (List ℕ)) → with_ranges known (piece ∷ rest) ≡ go_on (with_range known (range_of (pieces 45 piece))) (λ more. with_ranges more rest)
unfolding with_ranges
one_range known piece rest = refl

pub goes_on : (known more : List ℕ) (piece : List ℕ) (rest all : List (List ℕ)) → all ≡ piece ∷ rest → with_range known (range_of (pieces 45 piece)) ≡ Some more → with_ranges known all ≡ with_ranges more rest
goes_on known more piece rest all e h =
    ap (with_ranges known) e ∙ one_range known piece rest ∙ ap (λ (o : Option (List ℕ)). go_on o (λ more. with_ranges more rest)) h

pub stops_at : (known : List ℕ) (piece : List ℕ) (rest all : List (List ℕ)) → all ≡ piece ∷ rest → with_range known (range_of (pieces 45 piece)) ≡ None → with_ranges known all ≡ None
stops_at known piece rest all e h =
    ap (with_ranges known) e ∙ one_range known piece rest ∙ ap (λ (o : Option (List ℕ)). go_on o (λ more. with_ranges more rest)) h

pub stops_by : (o : Option (Bor (List ℕ))) (known piece text : List ℕ) → IfSome o (λ rest. pieces 44 text ≡ piece ∷ pieces 44 rest.now) → IfNone o (pieces 44 text ≡ piece ∷ []) →
    with_range known (range_of (pieces 45 piece)) ≡ None → with_ranges known (pieces 44 text) ≡ None
stops_by (Some rest) known piece text more last h = stops_at known piece (pieces 44 rest.now) (pieces 44 text) more h
stops_by None known piece text more last h = stops_at known piece [] (pieces 44 text) last h
