-- Commas that separate operands.
use Rattle.std.proofs.Common.{◌≡◌, ℕ, ◌+◌, ◌<◌, ◌≤◌, List, [], ◌∷◌, ◌++◌, length, get_or, take, drop, refl, ap, ◌∙◌, sym, arith, true, false, nat_eq, cond, ◌&&◌, add-one, append_assoc}
use Rattle.std.proofs.lemmas.Bool.{eq-eqb, ne_eqb}
use Rattle.std.proofs.Math.Seq.{take-suc, take-length}
use Rattle.std.proofs.lemmas.List.{append-nil}
use Rattle.text_lines.specs.Text.{with_first}
use Rattle.thumb_asm.specs.declared.parts.Quoting.{Quoting}
use Rattle.thumb_asm.specs.declared.parts.Quoting.TheVariants.{Outside}
use Rattle.thumb_asm.specs.Parts.{pieces, next_place, next_depth, is_outside}
use Rattle.thumb_asm.specs.Cuts.{IsComma}
use Rattle.thumb_asm.specs.Operands.{split_by, stripped_by, memory, ends}
use Rattle.std.proofs.Common.{map, None}
use Rattle.thumb_asm.specs.Chars.{strip}
use Rattle.thumb_asm.proofs.Strips.{cell, drop_all}

-- text before the first piece
abbrev pub glued : List ℕ → List (List ℕ) → List (List ℕ)
glued xs [] = xs ∷ []
glued xs (l ∷ ls) = (xs ++ l) ∷ ls

pub record Pieced (text : List ℕ) (i : ℕ) (p : Quoting) (depth : ℕ) : Type 0 where
  pub rest : pieces Outside 0 text ≡ glued (take i text) (pieces p depth (drop i text))
  pub few : depth ≤ i

nothing : (ls : List (List ℕ)) (c : ℕ) (text : List ℕ) → glued [] (with_first c ls) ≡ with_first c ls
nothing [] c text = refl
nothing (l ∷ ls) c text = refl

never_nil : (p : Quoting) (d : ℕ) (cs : List ℕ) → glued [] (pieces p d cs) ≡ pieces p d cs
unfolding pieces
never_nil p d [] = refl
never_nil p d (c ∷ cs) = elim (is_outside p && nat_eq d 0 && nat_eq c 44) as (λ b. glued [] (cond b ([] ∷ pieces Outside 0 cs) (with_first c (pieces (next_place p c) (next_depth p c d) cs))) ≡ cond b ([] ∷ pieces Outside 0 cs) (with_first c (pieces (next_place p c) (next_depth p c d) cs))) [ true ↦ refl | false ↦ nothing (pieces (next_place p c) (next_depth p c d) cs) c cs ]

pub piece_start : (text : List ℕ) → Pieced text 0 Outside 0
piece_start text = record { rest = sym (never_nil Outside 0 text); few = omega arith }

glue_first : (xs : List ℕ) (c : ℕ) (ls : List (List ℕ)) → glued xs (with_first c ls) ≡ glued (xs ++ (c ∷ [])) ls
glue_first xs c [] = refl
glue_first xs c (l ∷ ls) = ap (λ t. t ∷ ls) (sym (append_assoc xs (c ∷ []) l))

more : (p : Quoting) (d c : ℕ) (cs : List ℕ) → (is_outside p && nat_eq d 0 && nat_eq c 44) ≡ false → pieces p d (c ∷ cs) ≡ with_first c (pieces (next_place p c) (next_depth p c d) cs)
unfolding pieces
more p d c cs h = rw h refl

stop : (p : Quoting) (d c : ℕ) (cs : List ℕ) → (is_outside p && nat_eq d 0 && nat_eq c 44) ≡ true → pieces p d (c ∷ cs) ≡ [] ∷ pieces Outside 0 cs
unfolding pieces
stop p d c cs h = rw h refl

last : (p : Quoting) (d : ℕ) → pieces p d [] ≡ [] ∷ []
unfolding pieces
last p d = refl

take_more : (text : List ℕ) (i : ℕ) → i < length text → take (i + 1) text ≡ take i text ++ (get_or text i 0 ∷ [])
take_more text i lt = ap (λ n. take n text) (add-one i) ∙ take-suc text i 0 lt

pub piece_step : (text : List ℕ) (i : ℕ) (p : Quoting) (d : ℕ) → i < length text → (is_outside p && nat_eq d 0 && nat_eq (get_or text i 0) 44) ≡ false → next_depth p (get_or text i 0) d ≤ d + 1 → Pieced text i p d → Pieced text (i + 1) (next_place p (get_or text i 0)) (next_depth p (get_or text i 0) d)
piece_step text i p d lt h b s = record {
  rest = s.rest ∙ ap (λ t. glued (take i text) (pieces p d t)) (cell text i lt) ∙ ap (glued (take i text)) (more p d (get_or text i 0) (drop (i + 1) text) h) ∙ glue_first (take i text) (get_or text i 0) _ ∙ ap (λ t. glued t (pieces (next_place p (get_or text i 0)) (next_depth p (get_or text i 0) d) (drop (i + 1) text))) (sym (take_more text i lt));
  few = omega (arith, s.few);
}

pub piece_found : (text : List ℕ) (i : ℕ) (p : Quoting) (d : ℕ) → i < length text → (is_outside p && nat_eq d 0 && nat_eq (get_or text i 0) 44) ≡ true → Pieced text i p d → IsComma text i
piece_found text i p d lt h s = record {
  within = omega arith;
  found = λ k. s.rest ∙ ap (λ t. glued (take i text) (pieces p d t)) (cell text i lt) ∙ ap (glued (take i text)) (stop p d (get_or text i 0) (drop (i + 1) text) h) ∙ ap (λ t. t ∷ pieces Outside 0 (drop (i + 1) text)) (append-nil (take i text));
  none = λ k. absurd (omega arith);
}

pub piece_none : (text : List ℕ) (i : ℕ) (p : Quoting) (d : ℕ) → i ≡ length text → Pieced text i p d → IsComma text i
piece_none text i p d h s = record {
  within = omega arith;
  found = λ k. absurd (omega arith);
  none = λ k. s.rest ∙ ap (λ t. glued (take i text) (pieces p d t)) (drop_all text i (omega arith)) ∙ ap (glued (take i text)) (last p d) ∙ ap (λ t. t ∷ []) (append-nil (take i text));
}

-- split at each mark, up to here
abbrev pub Splitting : ℕ → List ℕ → ℕ → Type 0
Splitting mark text i = split_by mark text ≡ glued (take i text) (split_by mark (drop i text))

split_never_nil : (mark : ℕ) (cs : List ℕ) → glued [] (split_by mark cs) ≡ split_by mark cs
unfolding split_by
split_never_nil mark [] = refl
split_never_nil mark (c ∷ cs) = elim (nat_eq c mark) as (λ b. glued [] (cond b ([] ∷ split_by mark cs) (with_first c (split_by mark cs))) ≡ cond b ([] ∷ split_by mark cs) (with_first c (split_by mark cs))) [ true ↦ refl | false ↦ nothing (split_by mark cs) c cs ]

pub split_start : (mark : ℕ) (text : List ℕ) → Splitting mark text 0
split_start mark text = sym (split_never_nil mark text)

split_more : (mark c : ℕ) (cs : List ℕ) → nat_eq c mark ≡ false → split_by mark (c ∷ cs) ≡ with_first c (split_by mark cs)
unfolding split_by
split_more mark c cs h = rw h refl

split_stop : (mark c : ℕ) (cs : List ℕ) → nat_eq c mark ≡ true → split_by mark (c ∷ cs) ≡ [] ∷ split_by mark cs
unfolding split_by
split_stop mark c cs h = rw h refl

split_last : (mark : ℕ) → split_by mark [] ≡ [] ∷ []
unfolding split_by
split_last mark = refl

pub split_step : (mark : ℕ) (text : List ℕ) (i : ℕ) → i < length text → (get_or text i 0 ≡ mark → ⊥) → Splitting mark text i → Splitting mark text (i + 1)
split_step mark text i lt h s = s ∙ ap (λ t. glued (take i text) (split_by mark t)) (cell text i lt) ∙ ap (glued (take i text)) (split_more mark (get_or text i 0) (drop (i + 1) text) (ne_eqb _ mark h)) ∙ glue_first (take i text) (get_or text i 0) _ ∙ ap (λ t. glued t (split_by mark (drop (i + 1) text))) (sym (take_more text i lt))

pub split_found : (mark : ℕ) (text : List ℕ) (i : ℕ) → i < length text → get_or text i 0 ≡ mark → Splitting mark text i → split_by mark text ≡ take i text ∷ split_by mark (drop (i + 1) text)
split_found mark text i lt h s = s ∙ ap (λ t. glued (take i text) (split_by mark t)) (cell text i lt) ∙ ap (glued (take i text)) (split_stop mark (get_or text i 0) (drop (i + 1) text) (eq-eqb _ mark h)) ∙ ap (λ t. t ∷ split_by mark (drop (i + 1) text)) (append-nil (take i text))

pub split_none : (mark : ℕ) (text : List ℕ) (i : ℕ) → i ≡ length text → Splitting mark text i → split_by mark text ≡ text ∷ []
split_none mark text i h s = s ∙ ap (λ t. glued (take i text) (split_by mark t)) (drop_all text i (omega arith)) ∙ ap (glued (take i text)) (split_last mark) ∙ ap (λ t. t ∷ []) (append-nil (take i text) ∙ ap (λ n. take n text) h ∙ take-length text)

with_some : (c : ℕ) (ls : List (List ℕ)) → (x : List ℕ) × ((xs : List (List ℕ)) × (with_first c ls ≡ x ∷ xs))
with_some c [] = (c ∷ [], ([], refl))
with_some c (l ∷ ls) = (c ∷ l, (ls, refl))

some_split : (mark : ℕ) (cs : List ℕ) → (x : List ℕ) × ((xs : List (List ℕ)) × (split_by mark cs ≡ x ∷ xs))
unfolding split_by
some_split mark [] = ([], ([], refl))
some_split mark (c ∷ cs) = elim (nat_eq c mark) as (λ b. (x : List ℕ) × ((xs : List (List ℕ)) × (cond b ([] ∷ split_by mark cs) (with_first c (split_by mark cs)) ≡ x ∷ xs))) [ true ↦ ([], (split_by mark cs, refl)) | false ↦ with_some c (split_by mark cs) ]

-- three pieces are not a memory operand
pub memory_long : (inner rest more base o : List ℕ) → stripped_by 44 inner ≡ base ∷ stripped_by 44 rest → stripped_by 44 rest ≡ o ∷ stripped_by 44 more → memory (stripped_by 44 inner) ≡ None
memory_long inner rest more base o e f =
    let some = some_split 44 more in
    ap memory (e ∙ ap (λ t. base ∷ t) (f ∙ ap (λ t. o ∷ map strip t) some.1.1))

-- three pieces are not a range
pub ends_long : (piece rest more low top : List ℕ) → stripped_by 45 piece ≡ low ∷ stripped_by 45 rest → stripped_by 45 rest ≡ top ∷ stripped_by 45 more → ends (stripped_by 45 piece) ≡ None
ends_long piece rest more low top e f =
    let some = some_split 45 more in
    ap ends (e ∙ ap (λ t. low ∷ t) (f ∙ ap (λ t. top ∷ map strip t) some.1.1))
