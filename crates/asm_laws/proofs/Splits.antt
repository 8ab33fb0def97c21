-- Texts between commas in brackets and braces.
use Rattle.std.proofs.Common.{◌≡◌, ℕ, List, [], ◌∷◌, ◌++◌, map, refl, ap, ◌∙◌, sym, true, false, nat_eq, append-nil}
use Rattle.std.proofs.lemmas.Bool.{and_parts}
use Rattle.std.specs.List.{list_all}
use Rattle.text_lines.specs.Text.{with_first}
use Rattle.thumb_insn.specs.Text.{joined}
use Rattle.thumb_asm.specs.Chars.{is_nil, strip_end, strip, starts_by}
use Rattle.thumb_asm.specs.Operands.{split_by, stripped_by}
use Rattle.thumb_asm.proofs.Bytes.{is_visible, is_solid, is_inner, all_by, all_append, inner_of, visible_of, front_visible, front_blank, starts_append, ends_solid, with_text, text_first, comma_of}
use Rattle.thumb_asm.proofs.Lines.{joined_more, spaced}

-- a text of solid bytes, at least one
pub record Solid (a : List ℕ) : Type 0 where
  pub some : is_nil a ≡ false
  pub solid : list_all is_solid a ≡ true

abbrev pub AllSolid : List (List ℕ) → Type 0
AllSolid [] = Unit {0}
AllSolid (x ∷ xs) = Solid x × AllSolid xs

begins : (a : List ℕ) → Solid a → starts_by is_visible a ≡ true
begins [] h = let e = h.some in cc
begins (c ∷ cs) h = visible_of c (and_parts (is_solid c) (list_all is_solid cs) h.solid).0

one : (c : ℕ) (cs : List ℕ) → nat_eq c 44 ≡ false → split_by 44 (c ∷ cs) ≡ with_first c (split_by 44 cs)
unfolding split_by
one c cs h = rw h refl

splits : (t rest : List ℕ) → list_all is_solid t ≡ true → split_by 44 (t ++ rest) ≡ with_text t (split_by 44 rest)
splits [] rest h = refl
splits (c ∷ cs) rest h = let e = and_parts (is_solid c) (list_all is_solid cs) h in one c (cs ++ rest) (comma_of c e.0) ∙ ap (with_first c) (splits cs rest e.1)

none : split_by 44 [] ≡ [] ∷ []
unfolding split_by
none = refl

comma : (t : List ℕ) → split_by 44 (44 ∷ t) ≡ [] ∷ split_by 44 t
unfolding split_by
comma t = refl

spread : (x : List ℕ) (xs : List (List ℕ)) → AllSolid (x ∷ xs) → split_by 44 (joined (x ∷ xs)) ≡ x ∷ spaced xs
spread x [] h =
    ap (split_by 44) (sym (append-nil x)) ∙ splits x [] h.0.solid ∙ ap (with_text x) none ∙ text_first x [] [] ∙ ap (λ t. t ∷ []) (append-nil x)
spread x (y ∷ ys) h =
    ap (split_by 44) (joined_more x y ys)
    ∙ splits x (44 ∷ 32 ∷ joined (y ∷ ys)) h.0.solid
    ∙ ap (with_text x) (comma (32 ∷ joined (y ∷ ys)) ∙ ap (λ ps. [] ∷ ps) (one 32 (joined (y ∷ ys)) refl ∙ ap (with_first 32) (spread y ys h.1)))
    ∙ text_first x [] (spaced (y ∷ ys)) ∙ ap (λ t. t ∷ spaced (y ∷ ys)) (append-nil x)

tight : (x : List ℕ) → Solid x → strip (32 ∷ x) ≡ x
unfolding strip
tight x h = ap strip_end (front_blank x (begins x h)) ∙ ends_solid x h.solid

pub tight_first : (x : List ℕ) → Solid x → strip x ≡ x
unfolding strip
tight_first x h = ap strip_end (front_visible x (begins x h)) ∙ ends_solid x h.solid

all_tight : (xs : List (List ℕ)) → AllSolid xs → map strip (spaced xs) ≡ xs
all_tight [] h = refl
all_tight (x ∷ xs) h = let e = tight x h.0 in let f = all_tight xs h.1 in rw (e, f) refl

pub stripped : (x : List ℕ) (xs : List (List ℕ)) → AllSolid (x ∷ xs) → stripped_by 44 (joined (x ∷ xs)) ≡ x ∷ xs
stripped x xs h = ap (map strip) (spread x xs h) ∙ (let e = tight_first x h.0 in let f = all_tight xs h.1 in rw (e, f) refl)

pub joined_begins : (x : List ℕ) (xs : List (List ℕ)) → AllSolid (x ∷ xs) → starts_by is_visible (joined (x ∷ xs)) ≡ true
joined_begins x [] h = begins x h.0
joined_begins x (y ∷ ys) h = rw (joined_more x y ys) (starts_append x (44 ∷ 32 ∷ joined (y ∷ ys)) (begins x h.0))

pub joined_inner : (x : List ℕ) (xs : List (List ℕ)) → AllSolid (x ∷ xs) → list_all is_inner (joined (x ∷ xs)) ≡ true
joined_inner x [] h = all_by is_solid is_inner inner_of x h.0.solid
joined_inner x (y ∷ ys) h = rw (joined_more x y ys) (all_append is_inner x (44 ∷ 32 ∷ joined (y ∷ ys)) (all_by is_solid is_inner inner_of x h.0.solid) (joined_inner y ys h.1))
