-- How the reader cuts texts that have no blank, comma, bracket, quote, colon or semicolon, and those in brackets.
use Rattle.std.proofs.Common.{◌≡◌, ℕ, List, [], ◌∷◌, ◌++◌, refl, ap, ◌∙◌, sym, arith, Bool, true, false, not, nat_eq, ◌&&◌, ◌||◌, Some, None, append_assoc}
use Rattle.std.proofs.lemmas.Bool.{not-true, and_parts, and_from, and_right}
use Rattle.std.proofs.lemmas.Bool.Decides.{nat_tests}
use Rattle.std.specs.List.{list_all, list_any}
use Rattle.text_lines.specs.Text.{with_first}
use Rattle.thumb_asm.specs.declared.parts.Quoting.TheVariants.{Outside}
use Rattle.thumb_asm.specs.Chars.{is_allowed, is_blank, is_nil, strip_front, strip_end, unless_last, starts_by, until, from_first}
use Rattle.thumb_asm.specs.Parts.{before, after, pieces}
use Rattle.thumb_asm.specs.Operands.{closed_by, ◌>>=◌}

-- a byte that is not a blank
abbrev pub is_visible : ℕ → Bool
is_visible c = not (is_blank c)

-- a byte that is not a quote, a colon or a semicolon
abbrev pub is_unmarked : ℕ → Bool
is_unmarked c = not (nat_eq c 34 || nat_eq c 58 || nat_eq c 59)

-- a byte that a line may have, and that is none of these
abbrev pub is_plain : ℕ → Bool
is_plain c = is_allowed c && is_unmarked c

-- a byte that is not a bracket or a brace
abbrev pub is_flat : ℕ → Bool
is_flat c = not (nat_eq c 91 || nat_eq c 93 || nat_eq c 123 || nat_eq c 125)

-- a byte of a register list or a sum in brackets
abbrev pub is_inner : ℕ → Bool
is_inner c = is_plain c && is_flat c

-- a byte of a name, a number, a register
abbrev pub is_solid : ℕ → Bool
is_solid c = is_inner c && (is_visible c && not (nat_eq c 44))

pub all_by : (p q : ℕ → Bool) → ((c : ℕ) → p c ≡ true → q c ≡ true) → (t : List ℕ) → list_all p t ≡ true → list_all q t ≡ true
all_by p q f [] h = refl
all_by p q f (c ∷ cs) h = let e = and_parts (p c) (list_all p cs) h in and_from (q c) (list_all q cs) (f c e.0) (all_by p q f cs e.1)

pub all_append : (p : ℕ → Bool) (a b : List ℕ) → list_all p a ≡ true → list_all p b ≡ true → list_all p (a ++ b) ≡ true
all_append p [] b h k = k
all_append p (c ∷ cs) b h k = let e = and_parts (p c) (list_all p cs) h in and_from (p c) (list_all p (cs ++ b)) e.0 (all_append p cs b e.1 k)

pub inner_of : (c : ℕ) → is_solid c ≡ true → is_inner c ≡ true
inner_of c h = (and_parts (is_inner c) _ h).0

pub visible_of : (c : ℕ) → is_solid c ≡ true → is_visible c ≡ true
visible_of c h = (and_parts (is_visible c) _ (and_parts (is_inner c) _ h).1).0

pub plain_of : (c : ℕ) → is_solid c ≡ true → is_plain c ≡ true
plain_of c h = (and_parts (is_plain c) _ (inner_of c h)).0

pub plain_inner : (c : ℕ) → is_inner c ≡ true → is_plain c ≡ true
plain_inner c h = (and_parts (is_plain c) _ h).0

pub comma_of : (c : ℕ) → is_solid c ≡ true → nat_eq c 44 ≡ false
comma_of c h = not-true _ (and_parts (is_visible c) _ (and_parts (is_inner c) _ h).1).1

pub allowed_of : (c : ℕ) → is_plain c ≡ true → is_allowed c ≡ true
allowed_of c h = (and_parts (is_allowed c) (is_unmarked c) h).0

unmarked_of : (c : ℕ) → is_plain c ≡ true → is_unmarked c ≡ true
unmarked_of c h = (and_parts (is_allowed c) (is_unmarked c) h).1

pub no_quote : (c : ℕ) → is_plain c ≡ true → nat_eq c 34 ≡ false
no_quote c h = let e = unmarked_of c h in grind (arith, nat_tests)

no_colon : (c : ℕ) → is_plain c ≡ true → nat_eq c 58 ≡ false
no_colon c h = let e = unmarked_of c h in grind (arith, nat_tests)

no_semicolon : (c : ℕ) → is_plain c ≡ true → nat_eq c 59 ≡ false
no_semicolon c h = let e = unmarked_of c h in grind (arith, nat_tests)

-- Lines without quotes, colons and semicolons.

pub before_plain : (t : List ℕ) → list_all is_plain t ≡ true → before 59 Outside t ≡ t
unfolding before
before_plain [] h = refl
before_plain (c ∷ cs) h =
    let e = and_parts (is_plain c) (list_all is_plain cs) h in
    rw (no_semicolon c e.0, no_quote c e.0) (ap (λ t. c ∷ t) (before_plain cs e.1))

pub after_plain : (t : List ℕ) → list_all is_plain t ≡ true → after 58 Outside t ≡ None
unfolding after
after_plain [] h = refl
after_plain (c ∷ cs) h =
    let e = and_parts (is_plain c) (list_all is_plain cs) h in
    rw (no_colon c e.0, no_quote c e.0) (after_plain cs e.1)

-- The first word.

pub word_of : (name rest : List ℕ) → list_all is_visible name ≡ true → until is_blank (name ++ (32 ∷ rest)) ≡ name
unfolding until
word_of [] rest h = refl
word_of (c ∷ cs) rest h =
    let e = and_parts (is_visible c) (list_all is_visible cs) h in
    rw (not-true _ e.0) (ap (λ t. c ∷ t) (word_of cs rest e.1))

pub rest_of : (name rest : List ℕ) → list_all is_visible name ≡ true → from_first is_blank (name ++ (32 ∷ rest)) ≡ 32 ∷ rest
unfolding from_first
rest_of [] rest h = refl
rest_of (c ∷ cs) rest h =
    let e = and_parts (is_visible c) (list_all is_visible cs) h in
    rw (not-true _ e.0) (rest_of cs rest e.1)

-- Blanks at the ends.

pub front_visible : (t : List ℕ) → starts_by is_visible t ≡ true → strip_front t ≡ t
unfolding strip_front
front_visible [] h = refl
front_visible (c ∷ cs) h = rw (not-true _ h) refl

pub front_blank : (t : List ℕ) → starts_by is_visible t ≡ true → strip_front (32 ∷ t) ≡ t
unfolding strip_front
front_blank t h = front_visible t h

pub starts_append : (a b : List ℕ) → starts_by is_visible a ≡ true → starts_by is_visible (a ++ b) ≡ true
starts_append [] b h = cc
starts_append (c ∷ cs) b h = h

pub nil_append : (a b : List ℕ) → is_nil b ≡ false → is_nil (a ++ b) ≡ false
nil_append [] b h = h
nil_append (c ∷ cs) b h = refl

pub keeps : (x : ℕ) (cs : List ℕ) → is_nil cs ≡ false → unless_last x cs ≡ x ∷ cs
keeps x cs h = rw (and_right (is_blank x) (is_nil cs) h) refl

pub ends_append : (front a : List ℕ) → is_nil a ≡ false → strip_end a ≡ a → strip_end (front ++ a) ≡ front ++ a
unfolding strip_end
ends_append [] a h k = k
ends_append (c ∷ cs) a h k = ap (unless_last c) (ends_append cs a h k) ∙ keeps c (cs ++ a) (nil_append cs a h)

pub end_visible : (xs : List ℕ) (b : ℕ) → is_visible b ≡ true → strip_end (xs ++ (b ∷ [])) ≡ xs ++ (b ∷ [])
unfolding strip_end
end_visible xs b h = ends_append xs (b ∷ []) refl (rw (not-true _ h) refl)

pub ends_solid : (t : List ℕ) → list_all is_solid t ≡ true → strip_end t ≡ t
unfolding strip_end
ends_solid [] h = refl
ends_solid (c ∷ cs) h =
    let e = and_parts (is_solid c) (list_all is_solid cs) h in
    ap (unless_last c) (ends_solid cs e.1) ∙ rw (not-true _ (visible_of c e.0)) refl

-- Commas.

-- a text in front of the first piece
abbrev pub with_text : List ℕ → List (List ℕ) → List (List ℕ)
with_text [] ls = ls
with_text (c ∷ cs) ls = with_first c (with_text cs ls)

pub text_first : (t l : List ℕ) (ls : List (List ℕ)) → with_text t (l ∷ ls) ≡ (t ++ l) ∷ ls
text_first [] l ls = refl
text_first (c ∷ cs) l ls = ap (with_first c) (text_first cs l ls)

pub text_append : (a b : List ℕ) (ls : List (List ℕ)) → with_text (a ++ b) ls ≡ with_text a (with_text b ls)
text_append [] b ls = refl
text_append (c ∷ cs) b ls = ap (with_first c) (text_append cs b ls)

flat : (c : ℕ) → is_flat c ≡ true → (nat_eq c 91 ≡ false) × (nat_eq c 93 ≡ false) × (nat_eq c 123 ≡ false) × (nat_eq c 125 ≡ false)
flat c h = (grind (arith, nat_tests), grind (arith, nat_tests), grind (arith, nat_tests), grind (arith, nat_tests))

flat_of : (c : ℕ) → is_inner c ≡ true → (nat_eq c 91 ≡ false) × (nat_eq c 93 ≡ false) × (nat_eq c 123 ≡ false) × (nat_eq c 125 ≡ false)
flat_of c h = flat c (and_parts (is_plain c) (is_flat c) h).1

one_solid : (c : ℕ) (cs : List ℕ) → is_solid c ≡ true → pieces Outside 0 (c ∷ cs) ≡ with_first c (pieces Outside 0 cs)
unfolding pieces
one_solid c cs h =
    let p = no_quote c (plain_of c h) in
    let k = comma_of c h in
    let f = flat_of c (inner_of c h) in
    rw (p, k, f.0, f.1, f.2, f.3) refl

one_inner : (c : ℕ) (cs : List ℕ) → is_inner c ≡ true → pieces Outside 1 (c ∷ cs) ≡ with_first c (pieces Outside 1 cs)
unfolding pieces
one_inner c cs h =
    let p = no_quote c (plain_inner c h) in
    let f = flat_of c h in
    rw (p, f.0, f.1, f.2, f.3) refl

pub solid_pieces : (t rest : List ℕ) → list_all is_solid t ≡ true → pieces Outside 0 (t ++ rest) ≡ with_text t (pieces Outside 0 rest)
solid_pieces [] rest h = refl
solid_pieces (c ∷ cs) rest h =
    let e = and_parts (is_solid c) (list_all is_solid cs) h in
    one_solid c (cs ++ rest) e.0 ∙ ap (with_first c) (solid_pieces cs rest e.1)

inner_pieces : (t rest : List ℕ) → list_all is_inner t ≡ true → pieces Outside 1 (t ++ rest) ≡ with_text t (pieces Outside 1 rest)
inner_pieces [] rest h = refl
inner_pieces (c ∷ cs) rest h =
    let e = and_parts (is_inner c) (list_all is_inner cs) h in
    one_inner c (cs ++ rest) e.0 ∙ ap (with_first c) (inner_pieces cs rest e.1)

-- the text in brackets
abbrev pub framed : ℕ → List ℕ → ℕ → List ℕ
framed left t right = left ∷ (t ++ (right ∷ []))

opens_bracket : (t : List ℕ) → pieces Outside 0 (91 ∷ t) ≡ with_first 91 (pieces Outside 1 t)
unfolding pieces
opens_bracket t = refl

closes_bracket : (t : List ℕ) → pieces Outside 1 (93 ∷ t) ≡ with_first 93 (pieces Outside 0 t)
unfolding pieces
closes_bracket t = refl

opens_brace : (t : List ℕ) → pieces Outside 0 (123 ∷ t) ≡ with_first 123 (pieces Outside 1 t)
unfolding pieces
opens_brace t = refl

closes_brace : (t : List ℕ) → pieces Outside 1 (125 ∷ t) ≡ with_first 125 (pieces Outside 0 t)
unfolding pieces
closes_brace t = refl

pub bracket_pieces : (t rest : List ℕ) → list_all is_inner t ≡ true → pieces Outside 0 (framed 91 t 93 ++ rest) ≡ with_text (framed 91 t 93) (pieces Outside 0 rest)
bracket_pieces t rest h =
    opens_bracket ((t ++ (93 ∷ [])) ++ rest)
    ∙ ap (λ x. with_first 91 (pieces Outside 1 x)) (append_assoc t (93 ∷ []) rest)
    ∙ ap (with_first 91) (inner_pieces t (93 ∷ rest) h ∙ ap (with_text t) (closes_bracket rest) ∙ sym (text_append t (93 ∷ []) (pieces Outside 0 rest)))

pub brace_pieces : (t rest : List ℕ) → list_all is_inner t ≡ true → pieces Outside 0 (framed 123 t 125 ++ rest) ≡ with_text (framed 123 t 125) (pieces Outside 0 rest)
brace_pieces t rest h =
    opens_brace ((t ++ (125 ∷ [])) ++ rest)
    ∙ ap (λ x. with_first 123 (pieces Outside 1 x)) (append_assoc t (125 ∷ []) rest)
    ∙ ap (with_first 123) (inner_pieces t (125 ∷ rest) h ∙ ap (with_text t) (closes_brace rest) ∙ sym (text_append t (125 ∷ []) (pieces Outside 0 rest)))

-- The text before a mark that ends it.

closed_more : (mark c : ℕ) (cs : List ℕ) → is_nil cs ≡ false → closed_by mark (c ∷ cs) ≡ (closed_by mark cs >>= λ front. Some (c ∷ front))
unfolding closed_by
closed_more mark c cs h = rw h refl

closed_one : (mark : ℕ) → nat_eq mark mark ≡ true → closed_by mark (mark ∷ []) ≡ Some []
unfolding closed_by
closed_one mark h = rw h refl

pub closed_framed : (mark : ℕ) (t : List ℕ) → nat_eq mark mark ≡ true → closed_by mark (t ++ (mark ∷ [])) ≡ Some t
closed_framed mark [] h = closed_one mark h
closed_framed mark (c ∷ cs) h = closed_more mark c (cs ++ (mark ∷ [])) (nil_append cs (mark ∷ []) refl) ∙ ap (λ o. o >>= λ front. Some (c ∷ front)) (closed_framed mark cs h)

-- a text without marks does not end with one
pub closed_none : (mark : ℕ) (t : List ℕ) → list_all (λ c. not (nat_eq c mark)) t ≡ true → closed_by mark t ≡ None
unfolding closed_by
closed_none mark [] h = refl
closed_none mark (c ∷ []) h = rw (not-true _ (and_parts (not (nat_eq c mark)) true h).0) refl
closed_none mark (c ∷ d ∷ ds) h = ap (λ o. o >>= λ front. Some (c ∷ front)) (closed_none mark (d ∷ ds) (and_parts (not (nat_eq c mark)) _ h).1)

pub none_is : (mark : ℕ) (t : List ℕ) → list_all (λ c. not (nat_eq c mark)) t ≡ true → list_any (λ c. nat_eq c mark) t ≡ false
none_is mark [] h = refl
none_is mark (c ∷ cs) h = let e = and_parts (not (nat_eq c mark)) (list_all (λ c. not (nat_eq c mark)) cs) h in rw (not-true _ e.0) (none_is mark cs e.1)
