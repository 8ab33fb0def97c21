-- How the reader cuts a line of a mnemonic and operands.
use Rattle.std.proofs.Common.{◌≡◌, ℕ, ◌≤◌, ◌+◌, ◌*◌, length, length-append, arith, List, [], ◌∷◌, ◌++◌, map, refl, ap, ◌∙◌, sym, true, false, Option, Some, None, Ok, append-nil, append_assoc, codes, if◌then◌else◌}
use Rattle.std.proofs.lemmas.Bool.{and_parts}
use Rattle.std.specs.List.{list_all}
use Rattle.text_lines.specs.Text.{with_first}
use Rattle.thumb_insn.specs.Text.{joined, line}
use Rattle.thumb_asm.specs.declared.parts.Quoting.TheVariants.{Outside}
use Rattle.thumb_asm.specs.declared.Mnemonic.{Mnemonic}
use Rattle.thumb_asm.specs.Chars.{is_nil, strip_front, strip_end, strip, starts_by}
use Rattle.thumb_asm.specs.Parts.{after, parts, pieces, operand_pieces, with_label}
use Rattle.thumb_asm.specs.Operands.{Operand, operand, operands, ◌>>=◌}
use Rattle.thumb_asm.specs.Syntax.{Shape, mnemonic, shaped}
use Rattle.thumb_asm.specs.Sizes.{checked, named, shaped_by, statement_of}
use Rattle.thumb_asm.proofs.Bytes.{is_visible, is_plain, is_solid, is_inner, all_by, all_append, visible_of, plain_of, plain_inner, before_plain, after_plain, word_of, rest_of, front_visible, front_blank, starts_append, nil_append, ends_append, end_visible, ends_solid, with_text, text_first, solid_pieces, bracket_pieces, brace_pieces, framed}

-- a text that is one piece, with no blank around it
pub record Piece (a : List ℕ) : Type 0 where
  pub whole : (rest : List ℕ) → pieces Outside 0 (a ++ rest) ≡ with_text a (pieces Outside 0 rest)
  pub begins : starts_by is_visible a ≡ true
  pub ends : strip_end a ≡ a
  pub plain : list_all is_plain a ≡ true
  pub short : length a ≤ 60

-- a piece that is read as an operand
pub record Reads (a : List ℕ) (o : Operand) : Type 0 where
  pub piece : Piece a
  pub is : operand a ≡ Some o

-- pieces that are read as operands
abbrev pub AllRead : List (List ℕ) → List Operand → Type 0
AllRead [] [] = Unit {0}
AllRead [] (o ∷ os) = ⊥
AllRead (a ∷ xs) [] = ⊥
AllRead (a ∷ xs) (o ∷ os) = Reads a o × AllRead xs os

abbrev pub AllPieces : List (List ℕ) → Type 0
AllPieces [] = Unit {0}
AllPieces (a ∷ xs) = Piece a × AllPieces xs

all_pieces : (xs : List (List ℕ)) (os : List Operand) → AllRead xs os → AllPieces xs
all_pieces [] os h = tt
all_pieces (a ∷ xs) [] h = absurd h
all_pieces (a ∷ xs) (o ∷ os) h = (h.0.piece, all_pieces xs os h.1)

all_operands : (xs : List (List ℕ)) (os : List Operand) → AllRead xs os → operands xs ≡ Some os
unfolding operands
all_operands [] [] h = refl
all_operands [] (o ∷ os) h = absurd h
all_operands (a ∷ xs) [] h = absurd h
all_operands (a ∷ xs) (o ∷ os) h = rw (h.0.is, all_operands xs os h.1) refl

starts_solid : (a : List ℕ) → is_nil a ≡ false → list_all is_solid a ≡ true → starts_by is_visible a ≡ true
starts_solid [] h k = cc
starts_solid (c ∷ cs) h k = visible_of c (and_parts (is_solid c) (list_all is_solid cs) k).0

pub solid_piece : (a : List ℕ) → is_nil a ≡ false → list_all is_solid a ≡ true → length a ≤ 60 → Piece a
solid_piece a h k l = record {
  whole = λ rest. solid_pieces a rest k;
  begins = starts_solid a h k;
  ends = ends_solid a k;
  plain = all_by is_solid is_plain plain_of a k;
  short = l;
}

pub bracket_piece : (t : List ℕ) → list_all is_inner t ≡ true → length t ≤ 58 → Piece (framed 91 t 93)
bracket_piece t h l = record {
  whole = λ rest. bracket_pieces t rest h;
  begins = refl;
  ends = end_visible (91 ∷ t) 93 refl;
  plain = all_append is_plain t (93 ∷ []) (all_by is_inner is_plain plain_inner t h) refl;
  short = omega (arith, length-append t (93 ∷ []));
}

pub brace_piece : (t : List ℕ) → list_all is_inner t ≡ true → length t ≤ 58 → Piece (framed 123 t 125)
brace_piece t h l = record {
  whole = λ rest. brace_pieces t rest h;
  begins = refl;
  ends = end_visible (123 ∷ t) 125 refl;
  plain = all_append is_plain t (125 ∷ []) (all_by is_inner is_plain plain_inner t h) refl;
  short = omega (arith, length-append t (125 ∷ []));
}

pub joined_more : (x y : List ℕ) (ys : List (List ℕ)) → joined (x ∷ y ∷ ys) ≡ x ++ (44 ∷ 32 ∷ joined (y ∷ ys))
joined_more x y ys = append_assoc x (codes ", ") (joined (y ∷ ys))

pub line_more : (name : List ℕ) (xs : List (List ℕ)) → line name xs ≡ name ++ (32 ∷ joined xs)
line_more name xs = append_assoc name (codes " ") (joined xs)

-- a piece after a blank
abbrev pub spaced : List (List ℕ) → List (List ℕ)
spaced xs = map (λ y. 32 ∷ y) xs

no_piece : pieces Outside 0 [] ≡ [] ∷ []
unfolding pieces
no_piece = refl

comma : (t : List ℕ) → pieces Outside 0 (44 ∷ t) ≡ [] ∷ pieces Outside 0 t
unfolding pieces
comma t = refl

blank : (t : List ℕ) → pieces Outside 0 (32 ∷ t) ≡ with_first 32 (pieces Outside 0 t)
unfolding pieces
blank t = refl

spread : (x : List ℕ) (xs : List (List ℕ)) → AllPieces (x ∷ xs) → pieces Outside 0 (joined (x ∷ xs)) ≡ x ∷ spaced xs
spread x [] h =
    ap (pieces Outside 0) (sym (append-nil x)) ∙ h.0.whole [] ∙ ap (with_text x) no_piece ∙ text_first x [] [] ∙ ap (λ t. t ∷ []) (append-nil x)
spread x (y ∷ ys) h =
    ap (pieces Outside 0) (joined_more x y ys)
    ∙ h.0.whole (44 ∷ 32 ∷ joined (y ∷ ys))
    ∙ ap (with_text x) (comma (32 ∷ joined (y ∷ ys)) ∙ ap (λ ps. [] ∷ ps) (blank (joined (y ∷ ys)) ∙ ap (with_first 32) (spread y ys h.1)))
    ∙ text_first x [] (spaced (y ∷ ys)) ∙ ap (λ t. t ∷ spaced (y ∷ ys)) (append-nil x)

tight : (x : List ℕ) → Piece x → strip (32 ∷ x) ≡ x
unfolding strip
tight x h = ap strip_end (front_blank x h.begins) ∙ h.ends

all_tight : (xs : List (List ℕ)) → AllPieces xs → map strip (spaced xs) ≡ xs
all_tight [] h = refl
all_tight (x ∷ xs) h = let e = tight x h.0 in let f = all_tight xs h.1 in rw (e, f) refl

joined_begins : (x : List ℕ) (xs : List (List ℕ)) → AllPieces (x ∷ xs) → starts_by is_visible (joined (x ∷ xs)) ≡ true
joined_begins x [] h = h.0.begins
joined_begins x (y ∷ ys) h = rw (joined_more x y ys) (starts_append x (44 ∷ 32 ∷ joined (y ∷ ys)) h.0.begins)

nil_of : (a : List ℕ) → starts_by is_visible a ≡ true → is_nil a ≡ false
nil_of [] h = cc
nil_of (c ∷ cs) h = refl

joined_ends : (x : List ℕ) (xs : List (List ℕ)) → AllPieces (x ∷ xs) → strip_end (joined (x ∷ xs)) ≡ joined (x ∷ xs)
joined_ends x [] h = h.0.ends
joined_ends x (y ∷ ys) h = ends_append (x ++ codes ", ") (joined (y ∷ ys)) (nil_of (joined (y ∷ ys)) (joined_begins y ys h.1)) (joined_ends y ys h.1)

joined_plain : (x : List ℕ) (xs : List (List ℕ)) → AllPieces (x ∷ xs) → list_all is_plain (joined (x ∷ xs)) ≡ true
joined_plain x [] h = h.0.plain
joined_plain x (y ∷ ys) h = rw (joined_more x y ys) (all_append is_plain x (44 ∷ 32 ∷ joined (y ∷ ys)) h.0.plain (joined_plain y ys h.1))

joined_short : (x : List ℕ) (xs : List (List ℕ)) → AllPieces (x ∷ xs) → length (joined (x ∷ xs)) ≤ 62 * length xs + 60
joined_short x [] h = let e = h.0.short in omega arith
joined_short x (y ∷ ys) h =
    let e = h.0.short in
    let f = joined_short y ys h.1 in
    let g : length (joined (x ∷ y ∷ ys)) ≡ length x + length (44 ∷ 32 ∷ joined (y ∷ ys)) = ap length (joined_more x y ys) ∙ length-append x (44 ∷ 32 ∷ joined (y ∷ ys)) in
    omega arith

-- the operands of a line are its pieces
pub operand_pieces_of : (x : List ℕ) (xs : List (List ℕ)) → AllPieces (x ∷ xs) → operand_pieces (32 ∷ joined (x ∷ xs)) ≡ x ∷ xs
unfolding operand_pieces strip
operand_pieces_of x xs h =
    let e : is_nil (strip_end (strip_front (32 ∷ joined (x ∷ xs)))) ≡ false =
    ap (λ t. is_nil (strip_end t)) (front_blank (joined (x ∷ xs)) (joined_begins x xs h)) ∙ ap is_nil (joined_ends x xs h) ∙ nil_of (joined (x ∷ xs)) (joined_begins x xs h) in
    ap (λ b. if b then [] else map strip (pieces Outside 0 (32 ∷ joined (x ∷ xs)))) e
    ∙ ap (map strip) (blank (joined (x ∷ xs)) ∙ ap (with_first 32) (spread x xs h))
    ∙ all_tight (x ∷ xs) h

line_plain : (name : List ℕ) (x : List ℕ) (xs : List (List ℕ)) → list_all is_solid name ≡ true → AllPieces (x ∷ xs) → list_all is_plain (line name (x ∷ xs)) ≡ true
line_plain name x xs h k = rw (line_more name (x ∷ xs)) (all_append is_plain name (32 ∷ joined (x ∷ xs)) (all_by is_solid is_plain plain_of name h) (joined_plain x xs k))

line_tight : (name : List ℕ) (x : List ℕ) (xs : List (List ℕ)) → is_nil name ≡ false → list_all is_solid name ≡ true → AllPieces (x ∷ xs) → strip (line name (x ∷ xs)) ≡ line name (x ∷ xs)
unfolding strip
line_tight name x xs n h k =
    let b : starts_by is_visible (line name (x ∷ xs)) ≡ true = rw (line_more name (x ∷ xs)) (starts_append name (32 ∷ joined (x ∷ xs)) (starts_solid name n h)) in
    ap strip_end (front_visible (line name (x ∷ xs)) b)
    ∙ ends_append (name ++ codes " ") (joined (x ∷ xs)) (nil_of (joined (x ∷ xs)) (joined_begins x xs k)) (joined_ends x xs k)

plain_parts : (t : List ℕ) → list_all is_plain t ≡ true → strip t ≡ t → parts t ≡ record { label = None; statement = t }
unfolding parts
plain_parts t h e = ap (λ code. with_label code (after 58 Outside code)) (before_plain t h) ∙ ap (with_label t) (after_plain t h) ∙ ap (λ s. record { label = None; statement = s }) e

statement_line : (name : List ℕ) (x : List ℕ) (xs : List (List ℕ)) → is_nil name ≡ false → list_all is_solid name ≡ true → AllPieces (x ∷ xs) → statement_of (line name (x ∷ xs)) ≡ named (mnemonic name) (32 ∷ joined (x ∷ xs))
unfolding statement_of
statement_line name x xs n h k =
    let v = all_by is_solid is_visible visible_of name h in
    let e : is_nil (name ++ (32 ∷ joined (x ∷ xs))) ≡ false = nil_append name (32 ∷ joined (x ∷ xs)) refl in
    ap statement_of (line_more name (x ∷ xs)) ∙ rw (e, word_of name (joined (x ∷ xs)) v, rest_of name (joined (x ∷ xs)) v) refl

named_shape : (q : Option Mnemonic) (rest : List ℕ) (os : List Operand) (s : Shape) → operands (operand_pieces rest) ≡ Some os → (q >>= λ m. shaped m os) ≡ Some s → named q rest ≡ checked (Some s)
named_shape None rest os s e f = cc
named_shape (Some m) rest os s e f = ap (λ z. checked (shaped_by m z)) e ∙ ap checked f

-- a line with a shape and no label
pub record Line (text : List ℕ) (s : Shape) : Type 0 where
  pub plain : list_all is_plain text ≡ true
  pub short : length text ≤ 255
  pub label : (parts text).label ≡ None
  pub statement : statement_of (parts text).statement ≡ Ok (Some s)

line_short : (name x : List ℕ) (xs : List (List ℕ)) → length name ≤ 9 → length xs ≤ 2 → AllPieces (x ∷ xs) → length (line name (x ∷ xs)) ≤ 255
line_short name x xs n l h =
    let e = joined_short x xs h in
    let g : length (line name (x ∷ xs)) ≡ length name + length (32 ∷ joined (x ∷ xs)) = ap length (line_more name (x ∷ xs)) ∙ length-append name (32 ∷ joined (x ∷ xs)) in
    omega arith

-- a line of a word and operands, which the word turns into an accepted shape
pub line_shape : (name x : List ℕ) (xs : List (List ℕ)) (o : Operand) (os : List Operand) (s : Shape) → is_nil name ≡ false → list_all is_solid name ≡ true → length name ≤ 9 → length xs ≤ 2 → Reads x o → AllRead xs os → (mnemonic name >>= λ m. shaped m (o ∷ os)) ≡ Some s → checked (Some s) ≡ Ok (Some s) → Line (line name (x ∷ xs)) s
line_shape name x xs o os s n h u v r rs e f =
    let k : AllPieces (x ∷ xs) = (r.piece, all_pieces xs os rs) in
    let l = line_plain name x xs h k in
    let p = plain_parts (line name (x ∷ xs)) l (line_tight name x xs n h k) in
    let t = ap operands (operand_pieces_of x xs k) ∙ all_operands (x ∷ xs) (o ∷ os) (r, rs) in
    record {
      plain = l;
      short = line_short name x xs u v k;
      label = ap (λ q. q.label) p;
      statement = ap (λ q. statement_of q.statement) p ∙ statement_line name x xs n h k ∙ named_shape (mnemonic name) (32 ∷ joined (x ∷ xs)) (o ∷ os) s t e ∙ f;
    }
