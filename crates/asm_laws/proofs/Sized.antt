-- An assembly has as many bytes as its lines take.
use Rattle.std.proofs.Common.{◌≡◌, ℕ, ◌+◌, ◌*◌, ◌-◌, List, [], ◌∷◌, ◌++◌, All, cond, take, drop, nat_lt, arith, append_assoc, length, length-append, mul-zero, mul-suc, add_comm, refl, ap, ◌∙◌, sym, subst, Bool, true, false, Option, Some, None, Result, Ok, Err}
use Rattle.std.proofs.lemmas.Bool.{or_parts}
use Rattle.std.proofs.lemmas.List.Elements.{All-nil, All-cons}
use Rattle.std.specs.Prelude.{is_some}
use Rattle.std.specs.List.{list_any}
use Rattle.thumb_encode.proofs.Decodes.{sized}
use Rattle.thumb_asm.specs.declared.Cause.{Cause}
use Rattle.thumb_insn.specs.declared.Reg.{Reg}
use Rattle.thumb_asm.specs.Chars.{entry_at}
use Rattle.thumb_asm.specs.Operands.{or_else, signed}
use Rattle.thumb_asm.specs.Parts.{parts}
use Rattle.thumb_asm.specs.Syntax.{Shape, Fixed, Filled, Within, Aimed, Near, Misplaced, Listed, Block, Data, Text, Zeros, Padding}
use Rattle.thumb_asm.specs.Sizes.{shape_size, statement_of, natural_part, padding}
use Rattle.thumb_asm.specs.Meaning.{Env, Names, env_of, value, value_bytes, data_bytes, insn_at, Means, Spells, Lays}
use Rattle.thumb_asm.specs.Assembly.{Assembles}
use Rattle.thumb_asm.specs.Causes.{is_unknown, shape_cause, second_group, second_in, at_line, size_by, line_size, labels_from, first_in, first_cause}
use Rattle.thumb_asm.proofs.Values.{repeat_length, known_length}
use Rattle.thumb_asm.specs.Passes.{size_from}
use Rattle.thumb_asm.specs.Listed.{Placed, placed_from, placed}
use Rattle.asm_laws.specs.Lines.{HasItsBytes, EachLineHasItsBytes}
use Rattle.asm_laws.proofs.Steady.{Steady, IsSteady, steady_statement}
use Rattle.asm_laws.proofs.Lengths.{Alike, CodesOf, data_length, coded_length, shape_long, insn_long}
use Rattle.asm_laws.proofs.Single.{same_entries, alike_label, alike_env}
use Rattle.thumb_asm.proofs.Placing.{not_when}

-- No cause among several.

former : {A : Type 0} (o p : Option A) → or_else o p ≡ None → o ≡ None
former None p h = refl
former (Some x) p h = cc

latter : {A : Type 0} (o p : Option A) → or_else o p ≡ None → p ≡ None
latter None p h = h
latter (Some x) p h = cc

here : (k : ℕ) (o : Option Cause) (later : Option (Cause × ℕ)) → at_line k o later ≡ None → o ≡ None
here k None later h = refl
here k (Some c) later h = cc

below : (k : ℕ) (o : Option Cause) (later : Option (Cause × ℕ)) → at_line k o later ≡ None → later ≡ None
below k None later h = h
below k (Some c) later h = cc

-- Data, of which every value is known.

data_sized : (env : Env) (k : ℕ) (es : List (List ℕ)) → list_any (λ e. is_unknown (value env e)) es ≡ false → length (data_bytes env k es) ≡ k * length es
unfolding data_bytes
data_sized env k [] h = sym (mul-zero k)
data_sized env k (e ∷ es) h =
    let n = or_parts (is_unknown (value env e)) (list_any (λ d. is_unknown (value env d)) es) h in
    length-append (value_bytes k (value env e)) (data_bytes env k es)
    ∙ ap (λ m. m + length (data_bytes env k es)) (known_length k (value env e) n.0)
    ∙ ap (λ m. k + m) (data_sized env k es n.1)
    ∙ add_comm k (k * length es)
    ∙ sym (mul-suc k (length es))

-- Statements.

listed_long : (loads : Bool) (rs : List (ℕ × ℕ)) → shape_long (Listed loads rs) ≡ 2
listed_long true rs = refl
listed_long false rs = refl

block_long : (n : Reg) (raised loads : Bool) (rs : List (ℕ × ℕ)) → shape_long (Block n raised loads rs) ≡ 2
block_long n raised true rs = refl
block_long n raised false rs = refl

insn_sized : (env : Env) (at : ℕ) (s : Shape) (own : List ℕ) → Steady s → CodesOf (insn_at env at s) own → length own ≡ shape_long s
insn_sized env at s own h p = coded_length (shape_long s) (insn_at env at s) own (insn_long env at s h) p

-- the statement is accepted under values of the same names, perhaps other ones
means_sized : (env env' : Env) (at : ℕ) (s : Shape) (own : List ℕ) → Alike env env' → Steady s → shape_cause env' at s ≡ None → Means env at s own → length own ≡ shape_size at s
unfolding Means shape_size shape_cause
means_sized env env' at (Fixed i) own a h c p = insn_sized env at (Fixed i) own h p ∙ sized i
means_sized env env' at (Filled e f) own a h c p = insn_sized env at (Filled e f) own h p ∙ sized (f 0)
means_sized env env' at (Within low top e f) own a h c p = insn_sized env at (Within low top e f) own h p ∙ sized (f 0)
means_sized env env' at (Aimed e f) own a h c p = insn_sized env at (Aimed e f) own h p ∙ sized (f _)
means_sized env env' at (Near e f) own a h c p = insn_sized env at (Near e f) own h p ∙ sized (f 0)
means_sized env env' at Misplaced own a h c p = insn_sized env at Misplaced own h p
means_sized env env' at (Listed loads rs) own a h c p = insn_sized env at (Listed loads rs) own h p ∙ listed_long loads rs
means_sized env env' at (Block n raised loads rs) own a h c p = insn_sized env at (Block n raised loads rs) own h p ∙ block_long n raised loads rs
means_sized env env' at (Data k es) own a h c p = ap length p ∙ data_length env env' k es a ∙ data_sized env' k es (not_when _ _ (former _ _ (latter _ _ c)))
means_sized env env' at (Text text) own a h c p = ap length p
means_sized env env' at (Zeros e) own a h c p = ap length p ∙ repeat_length (natural_part (signed e))
means_sized env env' at (Padding e) own a h c p = ap length p ∙ repeat_length (padding at (natural_part (signed e)))

spells_sized : (env env' : Env) (at : ℕ) (r : Result (Option Shape) Cause) (own : List ℕ) → Alike env env' → IsSteady r → second_group env' at r ≡ None → Spells env at r own → length own ≡ size_by at r
spells_sized env env' at (Err e) own a h c p = ap length p
spells_sized env env' at (Ok None) own a h c p = ap length p
spells_sized env env' at (Ok (Some s)) own a h c p = means_sized env env' at s own a h c p

-- Lines.

laid_sized : (lines : List (List ℕ)) (env env' : Env) (at number : ℕ) (bytes : List ℕ) (names : Names) → Alike env env' → second_in env' at number lines ≡ None → Lays env at lines bytes names → length bytes ≡ size_from at lines
unfolding Lays second_in size_from line_size
laid_sized [] env env' at number bytes names a c h = ap length h.0
laid_sized (l ∷ ls) env env' at number bytes names a c h =
    let s = statement_of (parts l).statement in
    let next = at + size_by at s in
    let z = spells_sized env env' at s h.0 a (steady_statement (parts l).statement) (here number (second_group env' at s) (second_in env' next (number + 1) ls) c) h.5 in
    let rest : Lays env next ls h.1 h.2 = subst (λ n. Lays env (at + n) ls h.1 h.2) z h.6 in
    ap length h.3
    ∙ length-append h.0 h.1
    ∙ ap (λ n. n + length h.1) z
    ∙ ap (λ n. size_by at s + n) (laid_sized ls env env' next (number + 1) h.1 h.2 a (below number (second_group env' at s) (second_in env' next (number + 1) ls) c) rest)

-- the names of the laid labels are those that acceptance counts, at whatever addresses
alike_from : (lines : List (List ℕ)) (env : Env) (at at' : ℕ) (bytes : List ℕ) (names : Names) → Lays env at lines bytes names → Alike (entry_at names) (entry_at (labels_from at' lines))
unfolding Lays labels_from
alike_from [] env at at' bytes names h = same_entries names [] h.1
alike_from (l ∷ ls) env at at' bytes names h = λ name.
    ap (λ ns. is_some (entry_at ns name)) h.4
    ∙ alike_label (parts l).label at at' h.2 (labels_from (at' + line_size at' l) ls) (alike_from ls env (at + length h.0) (at' + line_size at' l) h.1 h.2 h.6) name

pub image_sized : (lines : List (List ℕ)) (base : ℕ) (given : Env) (bytes : List ℕ) (labels : Env) → Assembles lines base given bytes labels → length bytes ≡ size_from base lines
unfolding first_cause
image_sized lines base given bytes labels h =
    let own = entry_at h.names in
    let from = entry_at (labels_from base lines) in
    let alike = alike_env given own from (alike_from lines (env_of own given) base base bytes h.names h.laid) in
    laid_sized lines (env_of own given) (env_of from given) base 1 bytes h.names alike (latter (first_in given base [] 0 1 lines) _ h.accepted) h.laid

-- Each line has its bytes at its address.

take_front : (xs ys : List ℕ) → take (length xs) (xs ++ ys) ≡ xs
take_front [] ys = refl
take_front (x ∷ xs) ys = ap (λ (r : List ℕ). x ∷ r) (take_front xs ys)

drop_front : (xs ys : List ℕ) → drop (length xs) (xs ++ ys) ≡ ys
drop_front [] ys = refl
drop_front (x ∷ xs) ys = drop_front xs ys

all_if : {A : Type 0} (P : A → Type 0) (b : Bool) (xs : List A) → All P xs → All P (cond b [] xs)
all_if P true xs h = All-nil P
all_if P false xs h = h

-- (front: the bytes of the lines before these; number: of the first of these lines, k: the same for causes)
lines_laid : (lines : List (List ℕ)) (env env' : Env) (base used number k : ℕ) (front bytes : List ℕ) (names : Names) → Alike env env' → length front ≡ used → second_in env' (base + used) k lines ≡ None → Lays env (base + used) lines bytes names → All (HasItsBytes env base (front ++ bytes)) (placed_from base used number lines)
unfolding Lays second_in line_size placed_from
lines_laid [] env env' base used number k front bytes names a f c h = All-nil (HasItsBytes env base (front ++ bytes))
lines_laid (l ∷ ls) env env' base used number k front bytes names a f c h =
    let s = statement_of (parts l).statement in
    let at = base + used in
    let size = size_by at s in
    let cause = second_group env' at s in
    let later = second_in env' (at + size) (k + 1) ls in
    let z : length h.0 ≡ size = spells_sized env env' at s h.0 a (steady_statement (parts l).statement) (here k cause later c) h.5 in
    let laid : Lays env (base + (used + size)) ls h.1 h.2 = let e : at + length h.0 ≡ base + (used + size) = omega (arith, z) in subst (λ (n : ℕ). Lays env n ls h.1 h.2) e h.6 in
    let good : second_in env' (base + (used + size)) (k + 1) ls ≡ None = let e : at + size ≡ base + (used + size) = omega arith in subst (λ (n : ℕ). second_in env' n (k + 1) ls ≡ None) e (below k cause later c) in
    let behind : length (front ++ h.0) ≡ used + size = length-append front h.0 ∙ (λ i. f i + z i) in
    let parted : front ++ bytes ≡ front ++ (h.0 ++ h.1) = ap (λ (b : List ℕ). front ++ b) h.3 in
    let more = lines_laid ls env env' base (used + size) (number + 1) (k + 1) (front ++ h.0) h.1 h.2 a behind good laid in
    let joined : front ++ bytes ≡ (front ++ h.0) ++ h.1 = parted ∙ sym (append_assoc front h.0 h.1) in
    let p : Placed = record { number = number; at = at; text = l } in
    let rest = placed_from base (used + size) (number + 1) ls in
    let away : at - base ≡ length front = omega (arith, f) in
    let there : take (length h.0) (drop (at - base) (front ++ bytes)) ≡ h.0 =
    ap (λ (n : ℕ). take (length h.0) (drop n (front ++ bytes))) away
    ∙ ap (λ (b : List ℕ). take (length h.0) (drop (length front) b)) parted
    ∙ ap (take (length h.0)) (drop_front front (h.0 ++ h.1))
    ∙ take_front h.0 h.1 in
    all_if (HasItsBytes env base (front ++ bytes)) (nat_lt 1048576 (used + size)) (p ∷ rest)
    (All-cons (HasItsBytes env base (front ++ bytes)) p rest (h.0, h.5, there) (subst (λ (b : List ℕ). All (HasItsBytes env base b) rest) (sym joined) more))

pub lines_have_bytes : EachLineHasItsBytes
unfolding first_cause
lines_have_bytes lines base given bytes labels h =
    let own = entry_at h.names in
    let from = entry_at (labels_from base lines) in
    let alike = alike_env given own from (alike_from lines (env_of own given) base base bytes h.names h.laid) in
    let start : base ≡ base + 0 = omega arith in
    let good = subst (λ (n : ℕ). second_in (env_of from given) n 1 lines ≡ None) start (latter (first_in given base [] 0 1 lines) _ h.accepted) in
    let laid = subst (λ (n : ℕ). Lays (env_of own given) n lines bytes h.names) start h.laid in
    let same : own ≡ labels = λ i name. sym (h.labelled name) i in
    subst (λ (e : Env). All (HasItsBytes (env_of e given) base bytes) (placed base lines)) same
    (lines_laid lines (env_of own given) (env_of from given) base 0 1 1 [] bytes h.names alike refl good laid)
