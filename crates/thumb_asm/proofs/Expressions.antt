-- Operands that are expressions.
use Rattle.std.proofs.Common.{◌≡◌, ℕ, List, [], ◌∷◌, map, refl, ap, ◌∙◌, Bool, true, false, cond, nat_eq, ◌&&◌, Option, Some, None, is_some}
use Rattle.std.proofs.lemmas.Bool.{and_parts}
use Rattle.std.specs.List.{list_all, list_any}
use Rattle.thumb_insn.specs.Fields.{reg}
use Rattle.thumb_insn.specs.declared.Reg.{Reg}
use Rattle.thumb_insn.specs.declared.Size.{Size}
use Rattle.thumb_encode.specs.Codes.{scale}
use Rattle.thumb_asm.specs.declared.Mnemonic.TheVariants.{Values}
use Rattle.thumb_asm.specs.Chars.{register, strip}
use Rattle.thumb_asm.specs.Operands.{Operand, Register, Raised, Immediate, Expression, Memory, MemoryRegister, MemoryImmediate, Registers, Quoted, ◌>>=◌, or_else, closed_by, stripped_by, offset, memory, register_list, text_of, bare, in_brackets, in_braces, in_quotes, operand, operands}
use Rattle.thumb_asm.specs.Syntax.{Data, as_expression, expressions, values, shaped}
use Rattle.thumb_asm.specs.Sizes.{shaped_by}
use Rattle.thumb_asm.specs.Kinds.{is_expression, are_expressions}

-- an operand that is not an expression
abbrev IsOther : Option Operand → Type 0
IsOther o = (o >>= as_expression) ≡ None

quoted_other : (b : Bool) (o : Operand) → as_expression o ≡ None → IsOther (cond b None (Some o))
quoted_other true o h = refl
quoted_other false o h = h

other_then : {A : Type 0} (o : Option A) (f : A → Option Operand) → ((x : A) → IsOther (f x)) → IsOther (o >>= f)
other_then None f h = refl
other_then (Some x) f h = h x

other_cond : (b : Bool) (x y : Option Operand) → IsOther x → IsOther y → IsOther (cond b x y)
other_cond true x y h k = h
other_cond false x y h k = k

offset_other : (n : Reg) (piece : List ℕ) → IsOther (offset n piece)
offset_other n [] = refl
offset_other n (c ∷ cs) = other_cond (nat_eq c 35) _ _ (quoted_other (list_any (λ d. nat_eq d 34) cs) (MemoryImmediate n cs) refl) (other_then (register (c ∷ cs)) (λ m. Some (MemoryRegister n (reg m))) (λ m. refl))

memory_other : (ps : List (List ℕ)) → IsOther (memory ps)
memory_other [] = refl
memory_other (b ∷ []) = other_then (register b) (λ n. Some (Memory (reg n))) (λ n. refl)
memory_other (b ∷ o ∷ []) = other_then (register b) (λ n. offset (reg n) o) (λ n. offset_other (reg n) o)
memory_other (b ∷ o ∷ p ∷ ps) = refl

brackets_other : (text : List ℕ) → IsOther (in_brackets text)
brackets_other text = other_then (closed_by 93 text) (λ inner. memory (stripped_by 44 inner)) (λ inner. memory_other (stripped_by 44 inner))

braces_other : (text : List ℕ) → IsOther (in_braces text)
braces_other text = other_then (closed_by 125 text) (λ inner. register_list inner >>= λ rs. Some (Registers rs)) (λ inner. other_then (register_list inner) (λ rs. Some (Registers rs)) (λ rs. refl))

quotes_other : (text : List ℕ) → IsOther (in_quotes text)
quotes_other text = other_then (text_of false text) (λ cs. Some (Quoted cs)) (λ cs. refl)

-- an operand that is not an expression, or that is the piece itself as an expression
abbrev IsSelf : List ℕ → Option Operand → Type 0
IsSelf piece o = is_some (o >>= as_expression) ≡ true → o ≡ Some (Expression piece)

self_other : (piece : List ℕ) (o : Option Operand) → IsOther o → IsSelf piece o
self_other piece o h k = let e = ap is_some h in cc

self_cond : (piece : List ℕ) (b : Bool) (x y : Option Operand) → IsSelf piece x → IsSelf piece y → IsSelf piece (cond b x y)
self_cond piece true x y h k = h
self_cond piece false x y h k = k

self_or : (piece : List ℕ) (x y : Option Operand) → IsOther x → IsSelf piece y → IsSelf piece (or_else x y)
self_or piece None y h k = k
self_or piece (Some o) y h k = self_other piece (Some o) h

self_quoted : (piece : List ℕ) (b : Bool) → IsSelf piece (cond b None (Some (Expression piece)))
self_quoted piece true h = cc
self_quoted piece false h = refl

bare_self : (piece : List ℕ) → IsSelf piece (bare piece)
bare_self piece = self_or piece _ _ (other_then (register piece) (λ r. Some (Register (reg r))) (λ r. refl)) (self_or piece _ _ (other_then (closed_by 33 piece) (λ front. register (strip front) >>= λ r. Some (Raised (reg r))) (λ front. other_then (register (strip front)) (λ r. Some (Raised (reg r))) (λ r. refl))) (self_quoted piece (list_any (λ d. nat_eq d 34) piece)))

operand_self : (piece : List ℕ) → IsSelf piece (operand piece)
unfolding operand
operand_self [] = λ h. cc
operand_self (c ∷ cs) = self_cond (c ∷ cs) (nat_eq c 35) _ _ (self_other (c ∷ cs) _ (quoted_other (list_any (λ d. nat_eq d 34) cs) (Immediate cs) refl)) (self_cond (c ∷ cs) (nat_eq c 91) _ _ (self_other (c ∷ cs) _ (brackets_other cs)) (self_cond (c ∷ cs) (nat_eq c 123) _ _ (self_other (c ∷ cs) _ (braces_other cs)) (self_cond (c ∷ cs) (nat_eq c 34) _ _ (self_other (c ∷ cs) _ (quotes_other cs)) (bare_self (c ∷ cs)))))

operands_next : (p : List ℕ) (ps : List (List ℕ)) → operands (p ∷ ps) ≡ (operand p >>= λ o. operands ps >>= λ os. Some (o ∷ os))
unfolding operands
operands_next p ps = refl

operands_none : operands [] ≡ Some []
unfolding operands
operands_none = refl

all_operands : (ps : List (List ℕ)) → list_all is_expression ps ≡ true → operands ps ≡ Some (map Expression ps)
all_operands [] h = operands_none
all_operands (p ∷ ps) h =
    let both = and_parts (is_expression p) (list_all is_expression ps) h in
    operands_next p ps ∙ ap (λ o. o >>= λ x. operands ps >>= λ xs. Some (x ∷ xs)) (operand_self p both.0) ∙ ap (λ r. r >>= λ xs. Some (Expression p ∷ xs)) (all_operands ps both.1)

all_texts : (ps : List (List ℕ)) → expressions (map Expression ps) ≡ Some ps
unfolding expressions
all_texts [] = refl
all_texts (p ∷ ps) = ap (λ r. r >>= λ es. Some (p ∷ es)) (all_texts ps)

shaped_values : (s : Size) (os : List Operand) → shaped (Values s) os ≡ (expressions os >>= values (scale s))
unfolding shaped
shaped_values s os = refl

pub values_some : (s : Size) (ps : List (List ℕ)) → are_expressions ps ≡ true → shaped_by (Values s) (operands ps) ≡ Some (Data (scale s) ps)
values_some s [] h = cc
values_some s (p ∷ ps) h = ap (shaped_by (Values s)) (all_operands (p ∷ ps) h) ∙ shaped_values s (map Expression (p ∷ ps)) ∙ ap (λ r. r >>= values (scale s)) (all_texts (p ∷ ps))

abbrev texts : List (List ℕ) → Option (List (List ℕ))
texts ps = operands ps >>= expressions

expressions_next : (o : Operand) (os : List Operand) → expressions (o ∷ os) ≡ (as_expression o >>= λ e. expressions os >>= λ es. Some (e ∷ es))
unfolding expressions
expressions_next o os = refl

no_first : (e : Option (List ℕ)) (r : Option (List (List ℕ))) → is_some e ≡ false → (e >>= λ x. r >>= λ xs. Some (x ∷ xs)) ≡ None
no_first None r h = refl
no_first (Some x) r h = cc

no_rest : (e : Option (List ℕ)) (r : Option (List (List ℕ))) → r ≡ None → (e >>= λ x. r >>= λ xs. Some (x ∷ xs)) ≡ None
no_rest None r h = refl
no_rest (Some x) r h = rw h refl

not_first : (o : Option Operand) (r : Option (List Operand)) → is_some (o >>= as_expression) ≡ false → ((o >>= λ x. r >>= λ xs. Some (x ∷ xs)) >>= expressions) ≡ None
not_first None r h = refl
not_first (Some x) None h = refl
not_first (Some x) (Some xs) h = expressions_next x xs ∙ no_first (as_expression x) (expressions xs) h

not_rest : (o : Option Operand) (r : Option (List Operand)) → (r >>= expressions) ≡ None → ((o >>= λ x. r >>= λ xs. Some (x ∷ xs)) >>= expressions) ≡ None
not_rest None r h = refl
not_rest (Some x) None h = refl
not_rest (Some x) (Some xs) h = expressions_next x xs ∙ no_rest (as_expression x) (expressions xs) h

and_false : (b c : Bool) (A : Type 0) → (b && c) ≡ false → (b ≡ false → A) → (c ≡ false → A) → A
and_false true c A h f g = g h
and_false false c A h f g = f refl

not_all : (ps : List (List ℕ)) → list_all is_expression ps ≡ false → texts ps ≡ None
not_all [] h = cc
not_all (p ∷ ps) h = ap (λ r. r >>= expressions) (operands_next p ps) ∙ and_false (is_expression p) (list_all is_expression ps) _ h (λ k. not_first (operand p) (operands ps) k) (λ k. not_rest (operand p) (operands ps) (not_all ps k))

by_texts : (s : Size) (o : Option (List Operand)) → (o >>= expressions) ≡ None → shaped_by (Values s) o ≡ None
by_texts s None h = refl
by_texts s (Some os) h = shaped_values s os ∙ ap (λ r. r >>= values (scale s)) h

no_texts : (s : Size) → (expressions [] >>= values (scale s)) ≡ None
unfolding expressions
no_texts s = refl

pub values_none : (s : Size) (ps : List (List ℕ)) → are_expressions ps ≡ false → shaped_by (Values s) (operands ps) ≡ None
values_none s [] h = ap (shaped_by (Values s)) operands_none ∙ shaped_values s [] ∙ no_texts s
values_none s (p ∷ ps) h = by_texts s (operands (p ∷ ps)) (not_all (p ∷ ps) h)
