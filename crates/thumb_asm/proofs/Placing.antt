-- The lines that have addresses, one by one.
use Rattle.std.proofs.Common.{◌≡◌, ℕ, ◌+◌, ◌≤◌, ◌<◌, List, [], ◌∷◌, ◌++◌, map, refl, ap, ◌∙◌, sym, arith, append_assoc, Bool, true, false, cond, not, ◌||◌, nat_lt, Option, Some, None, is_some}
use Rattle.std.proofs.lemmas.Bool.{ltb-false}
use Rattle.std.proofs.lemmas.List.{append-nil, map-append}
use Rattle.thumb_asm.specs.declared.Cause.{Cause}
use Rattle.thumb_asm.specs.declared.Cause.TheVariants as cause
use Rattle.thumb_asm.specs.declared.listing.InsnLine.{InsnLine}
use Rattle.thumb_asm.specs.declared.listing.Label.{Label}
use Rattle.thumb_asm.specs.Chars.{entry_at, is_name, register}
use Rattle.thumb_asm.specs.Parts.{parts}
use Rattle.thumb_asm.specs.Sizes.{statement_of}
use Rattle.thumb_asm.specs.Operands.{or_else}
use Rattle.thumb_asm.specs.Meaning.{Names, Env, own_label}
use Rattle.thumb_asm.specs.Causes.{when, has, line_size, label_cause, statement_cause, first_group, first_in, first_cause, at_line, labels_from}
use Rattle.thumb_asm.proofs.Passing.{labels_next, labels_none}
use Rattle.thumb_asm.specs.Listed.{Placed, placed_from, is_instruction, insn_line, insn_lines, named_label, labels_of, labels_in, label_of}

-- ## the next line

pub left_none : (base used number : ℕ) (rest : List (List ℕ)) → rest ≡ [] → placed_from base used number rest ≡ []
unfolding placed_from
left_none base used number rest e = rw e refl

placed_next : (base used number : ℕ) (l : List ℕ) (ls : List (List ℕ)) (b : Bool) → nat_lt 1048576 (used + line_size (base + used) l) ≡ b → placed_from base used number (l ∷ ls) ≡ cond b [] (record { number = number; at = base + used; text = l } ∷ placed_from base (used + line_size (base + used) l) (number + 1) ls)
unfolding placed_from
placed_next base used number l ls true e = rw e refl
placed_next base used number l ls false e = rw e refl

pub left_stops : (base used number : ℕ) (rest more : List (List ℕ)) (l : List ℕ) → rest ≡ l ∷ more → 1048576 < used + line_size (base + used) l → placed_from base used number rest ≡ []
left_stops base used number rest more l e h =
    let over : nat_lt 1048576 (used + line_size (base + used) l) ≡ true = grind (arith, h) in
    ap (placed_from base used number) e ∙ placed_next base used number l more true over

pub left_next : (base used size number : ℕ) (rest more : List (List ℕ)) (l : List ℕ) → rest ≡ l ∷ more → size ≡ line_size (base + used) l → used + size ≤ 1048576 → placed_from base used number rest ≡ record { number = number; at = base + used; text = l } ∷ placed_from base (used + size) (number + 1) more
left_next base used size number rest more l e z w =
    let within : used + line_size (base + used) l ≤ 1048576 = omega (arith, z, w) in
    let under : nat_lt 1048576 (used + line_size (base + used) l) ≡ false = grind (arith, within) in
    let head : Placed = record { number = number; at = base + used; text = l } in
    ap (placed_from base used number) e ∙ placed_next base used number l more false under ∙ ap (λ n. head ∷ placed_from base (used + n) (number + 1) more) (sym z)

-- ## instructions

insn_cons : (p : Placed) (ps : List Placed) (b : Bool) → is_instruction p.text ≡ b → insn_lines (p ∷ ps) ≡ cond b (insn_line p ∷ insn_lines ps) (insn_lines ps)
insn_cons p ps true h = rw h refl
insn_cons p ps false h = rw h refl

pub insn_found : (all found : List InsnLine) (ps qs : List Placed) (p : Placed) → all ≡ found ++ insn_lines ps → ps ≡ p ∷ qs → is_instruction p.text ≡ true → all ≡ (found ++ insn_line p ∷ []) ++ insn_lines qs
insn_found all found ps qs p h e i = h ∙ ap (λ t. found ++ insn_lines t) e ∙ ap (λ t. found ++ t) (insn_cons p qs true i) ∙ sym (append_assoc found (insn_line p ∷ []) (insn_lines qs))

pub insn_passed : (all found : List InsnLine) (ps qs : List Placed) (p : Placed) → all ≡ found ++ insn_lines ps → ps ≡ p ∷ qs → is_instruction p.text ≡ false → all ≡ found ++ insn_lines qs
insn_passed all found ps qs p h e i = h ∙ ap (λ t. found ++ insn_lines t) e ∙ ap (λ t. found ++ t) (insn_cons p qs false i)

pub insn_ends : (all found : List InsnLine) (ps : List Placed) → all ≡ found ++ insn_lines ps → ps ≡ [] → found ≡ all
insn_ends all found ps h e = sym (h ∙ ap (λ t. found ++ insn_lines t) e ∙ append-nil found)

-- ## labels

pub label_found : (all : Names) (old new : List Label) (ps qs : List Placed) (p : Placed) → all ≡ labels_in old ++ labels_of ps → ps ≡ p ∷ qs → labels_in new ≡ labels_in old ++ named_label p.at (parts p.text).label → all ≡ labels_in new ++ labels_of qs
label_found all old new ps qs p h e n =
    h ∙ ap (λ t. labels_in old ++ labels_of t) e ∙ sym (append_assoc (labels_in old) (named_label p.at (parts p.text).label) (labels_of qs)) ∙ ap (λ t. t ++ labels_of qs) (sym n)

pub label_ends : (all : Names) (found : List Label) (ps : List Placed) → all ≡ labels_in found ++ labels_of ps → ps ≡ [] → labels_in found ≡ all
label_ends all found ps h e = sym (h ∙ ap (λ t. labels_in found ++ labels_of t) e ∙ append-nil (labels_in found))

-- a label that is a name is added after those that were found; text that is not a name is not added
pub label_pushed : (old : List Label) (l : Label) (name : List ℕ) (label : Option (List ℕ)) → label ≡ Some name → is_name name ≡ true → label_of l ≡ (name, l.at) → labels_in (old ++ l ∷ []) ≡ labels_in old ++ named_label l.at label
label_pushed old l name label e i n = map-append label_of old (l ∷ []) ∙ ap (λ (t : List ℕ × ℕ). labels_in old ++ t ∷ []) n ∙ ap (λ t. labels_in old ++ t) (sym (ap (named_label l.at) e ∙ ap (λ b. cond {A = Names} b ((name, l.at) ∷ []) []) i))

pub label_left : (old : List Label) (at : ℕ) (name : List ℕ) (label : Option (List ℕ)) → label ≡ Some name → is_name name ≡ false → labels_in old ≡ labels_in old ++ named_label at label
label_left old at name label e i = sym (ap (λ o. labels_in old ++ named_label at o) e ∙ ap (λ b. labels_in old ++ cond {A = Names} b ((name, at) ∷ []) []) i ∙ append-nil (labels_in old))

pub label_none : (old : List Label) (at : ℕ) (label : Option (List ℕ)) → label ≡ None → labels_in old ≡ labels_in old ++ named_label at label
label_none old at label e = sym (ap (λ o. labels_in old ++ named_label at o) e ∙ append-nil (labels_in old))

-- ## accepted texts

neither : {A : Type 0} (a b : Option A) → or_else a b ≡ None → (a ≡ None) × (b ≡ None)
neither None b h = (refl, h)
neither (Some x) b h = cc

pub not_when : (b : Bool) (c : Cause) → when b c ≡ None → b ≡ false
not_when true c h = cc
not_when false c h = refl

no_line : (k : ℕ) (a : Option Cause) (later : Option (Cause × ℕ)) → at_line k a later ≡ None → (a ≡ None) × (later ≡ None)
no_line k None later h = (refl, h)
no_line k (Some c) later h = cc

-- what is true of a line that is not refused
group_none : (given : Env) (base : ℕ) (earlier : Env) (used : ℕ) (line : List ℕ) → first_group given base earlier used line ≡ None → (label_cause given earlier (parts line).label ≡ None) × (used + line_size (base + used) line ≤ 1048576)
unfolding first_group
group_none given base earlier used line h =
    let over : Bool = nat_lt 1048576 (used + line_size (base + used) line) in
    let behind = neither (label_cause given earlier (parts line).label) (or_else (statement_cause (statement_of (parts line).statement)) (when over cause.TooLong)) (neither _ _ (neither _ _ h).1).1 in
    let under : nat_lt 1048576 (used + line_size (base + used) line) ≡ false = not_when over cause.TooLong (neither _ _ behind.1).1 in
    (behind.0, ltb-false 1048576 (used + line_size (base + used) line) under)

named_by : (b r h : Bool) (at : ℕ) (name : List ℕ) → cond (not b) (Some cause.BadLabel) (cond r (Some cause.NameClash) (cond h (Some cause.LabelTwice) None)) ≡ None → cond {A = Names} b ((name, at) ∷ []) [] ≡ (name, at) ∷ []
named_by true r h at name e = refl
named_by false r h at name e = cc

named_own : (given earlier : Env) (at : ℕ) (label : Option (List ℕ)) → label_cause given earlier label ≡ None → named_label at label ≡ own_label at label
named_own given earlier at None h = refl
named_own given earlier at (Some name) h = named_by (is_name name) (is_some (register name) || has given name) (has earlier name) at name h

first_parts : (given : Env) (base : ℕ) (earlier : Names) (used k : ℕ) (l : List ℕ) (ls : List (List ℕ)) → first_in given base earlier used k (l ∷ ls) ≡ None → (first_group given base (entry_at earlier) used l ≡ None) × (first_in given base (earlier ++ own_label (base + used) (parts l).label) (used + line_size (base + used) l) (k + 1) ls ≡ None)
unfolding first_in
first_parts given base earlier used k l ls h = no_line k _ _ h

pub all_placed : (given : Env) (base : ℕ) (earlier : Names) (used k number : ℕ) (ls : List (List ℕ)) → first_in given base earlier used k ls ≡ None → map (λ p. p.text) (placed_from base used number ls) ≡ ls
all_placed given base earlier used k number [] h = ap (map (λ p. p.text)) (left_none base used number [] refl)
all_placed given base earlier used k number (l ∷ ls) h =
    let both = first_parts given base earlier used k l ls h in
    let room = (group_none given base (entry_at earlier) used l both.0).1 in
    ap (map (λ p. p.text)) (left_next base used (line_size (base + used) l) number (l ∷ ls) ls l refl refl room)
    ∙ ap (λ t. l ∷ t) (all_placed given base (earlier ++ own_label (base + used) (parts l).label) (used + line_size (base + used) l) (k + 1) (number + 1) ls both.1)

pub all_listed : (given : Env) (base : ℕ) (earlier : Names) (used k number : ℕ) (ls : List (List ℕ)) → first_in given base earlier used k ls ≡ None → labels_of (placed_from base used number ls) ≡ labels_from (base + used) ls
all_listed given base earlier used k number [] h = ap labels_of (left_none base used number [] refl) ∙ sym (labels_none (base + used))
all_listed given base earlier used k number (l ∷ ls) h =
    let both = first_parts given base earlier used k l ls h in
    let line = group_none given base (entry_at earlier) used l both.0 in
    let size : ℕ = line_size (base + used) l in
    let further : base + (used + size) ≡ base + used + size = omega arith in
    ap labels_of (left_next base used size number (l ∷ ls) ls l refl refl line.1)
    ∙ ap (λ t. t ++ labels_of (placed_from base (used + size) (number + 1) ls)) (named_own given (entry_at earlier) (base + used) (parts l).label line.0)
    ∙ ap (λ t. own_label (base + used) (parts l).label ++ t) (all_listed given base (earlier ++ own_label (base + used) (parts l).label) (used + size) (k + 1) (number + 1) ls both.1 ∙ ap (λ n. labels_from n ls) further)
    ∙ sym (labels_next (base + used) l ls)

pub first_none : (lines : List (List ℕ)) (base : ℕ) (given : Env) → first_cause lines base given ≡ None → first_in given base [] 0 1 lines ≡ None
unfolding first_cause
first_none lines base given h = (neither _ _ h).0
