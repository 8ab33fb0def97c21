-- A statement has only one length, whatever values its names have.
use Rattle.std.proofs.Common.{◌≡◌, ℕ, zero, suc, ◌+◌, ◌*◌, ◌/◌, ◌-ℤ◌, List, [], ◌∷◌, length, length-append, refl, ap, ◌∙◌, sym, subst, cond, Bool, true, false, Option, Some, None, Result, Ok, Err, ℤ, pos, negsuc}
use Rattle.std.specs.Prelude.{is_some}
use Rattle.thumb_insn.specs.declared.Insn.{Insn}
use Rattle.thumb_insn.specs.declared.Code.{Code}
use Rattle.thumb_insn.specs.declared.Code.TheVariants.{One, Two}
use Rattle.thumb_encode.specs.Codes.{code_of, code_size, fit_of}
use Rattle.thumb_encode.specs.declared.Fit.{Fit}
use Rattle.thumb_encode.specs.declared.Fit.TheVariants as fit
use Rattle.thumb_encode.proofs.Again.{code_again}
use Rattle.thumb_encode.proofs.Wide.{two_again}
use Rattle.thumb_asm.specs.declared.Cause.{Cause}
use Rattle.thumb_asm.specs.Operands.{Expr, expression}
use Rattle.thumb_asm.specs.Syntax.{Shape, Fixed, Filled, Within, Aimed, Near, Misplaced, Listed, Block, Data, Text, Zeros, Padding}
use Rattle.thumb_asm.specs.Sizes.{list_insn, block_insn, mask_of}
use Rattle.thumb_asm.specs.Meaning.{Env, value, expr_value, named_value, plus_named, fit_cause, fitting, filled, within, aimed, with_value, insn_at, code_bytes, Codes, low_first, number_bytes, value_bytes, data_bytes, Means, Spells}
use Rattle.asm_laws.proofs.Steady.{long, Steady, IsSteady}

-- names have a value in one where they have one in the other
abbrev pub Alike : Env → Env → Type 0
Alike env env' = (name : List ℕ) → is_some (env name) ≡ is_some (env' name)

-- Values.

alike_sum : (o p : Option ℕ) (z : ℤ) → is_some o ≡ is_some p → is_some (plus_named o z) ≡ is_some (plus_named p z)
alike_sum None None z h = refl
alike_sum None (Some n) z h = cc
alike_sum (Some m) None z h = cc
alike_sum (Some m) (Some n) z h = refl

alike_named : (env env' : Env) (name : Option (List ℕ)) (z : ℤ) → Alike env env' → is_some (named_value env name z) ≡ is_some (named_value env' name z)
alike_named env env' None z h = refl
alike_named env env' (Some name) z h = alike_sum (env name) (env' name) z (h name)

alike_expr : (env env' : Env) (e : Option Expr) → Alike env env' → is_some (expr_value env e) ≡ is_some (expr_value env' e)
alike_expr env env' None h = refl
alike_expr env env' (Some e) h = alike_named env env' e.name e.number h

alike_value : (env env' : Env) (e : List ℕ) → Alike env env' → is_some (value env e) ≡ is_some (value env' e)
unfolding value
alike_value env env' e h = alike_expr env env' (expression e) h

low_length : (k n : ℕ) → length (low_first k n) ≡ k
unfolding low_first
low_length zero n = refl
low_length (suc k) n = ap suc (low_length k (n / 256))

pub number_length : (k : ℕ) (z : ℤ) → length (number_bytes k z) ≡ k
number_length k (pos n) = low_length k n
number_length k (negsuc n) = low_length k _

value_length : (k : ℕ) (o p : Option ℤ) → is_some o ≡ is_some p → length (value_bytes k o) ≡ length (value_bytes k p)
value_length k None None h = refl
value_length k None (Some z) h = cc
value_length k (Some y) None h = cc
value_length k (Some y) (Some z) h = number_length k y ∙ sym (number_length k z)

pub data_length : (env env' : Env) (k : ℕ) (es : List (List ℕ)) → Alike env env' → length (data_bytes env k es) ≡ length (data_bytes env' k es)
unfolding data_bytes
data_length env env' k [] h = refl
data_length env env' k (e ∷ es) h =
    length-append (value_bytes k (value env e)) (data_bytes env k es)
    ∙ ap (λ n. n + length (data_bytes env k es)) (value_length k (value env e) (value env' e) (alike_value env env' e h))
    ∙ ap (λ n. length (value_bytes k (value env' e)) + n) (data_length env env' k es h)
    ∙ sym (length-append (value_bytes k (value env' e)) (data_bytes env' k es))

-- Codes.

-- no instruction has two codes
code_is : (i : Insn) (own : List ℕ) → Codes i own → own ≡ code_bytes (code_of i)
code_is i own (One h, f, e, q) = q ∙ ap code_bytes (sym (code_again h i f e).1)
code_is i own (Two a b, f, e, q) = q ∙ ap code_bytes (sym (two_again a b i f.0 f.1 e).1)

code_length : (c : Code) → length (code_bytes c) ≡ code_size c
code_length (One h) = refl
code_length (Two a b) = refl

-- these bytes are the code of the instruction that a statement is
abbrev pub CodesOf : Result Insn Cause → List ℕ → Type 0
CodesOf r own = (i : Insn) × (r ≡ Ok i) × Codes i own

pub inner : (r : Result Insn Cause) (i j : Insn) → r ≡ Ok i → r ≡ Ok j → i ≡ j
inner r i j e f = cc

pub same_code : (r : Result Insn Cause) (own own' : List ℕ) → CodesOf r own → CodesOf r own' → own ≡ own'
same_code r own own' p q = code_is p.0 own p.2 ∙ ap (λ i. code_bytes (code_of i)) (inner r p.0 q.0 p.1 q.1) ∙ sym (code_is q.0 own' q.2)

-- an instruction of this length, or none
abbrev IsLong : ℕ → Result Insn Cause → Type 0
IsLong k (Ok i) = long i ≡ k
IsLong k (Err c) = Unit {0}

pub coded_length : (k : ℕ) (r : Result Insn Cause) (own : List ℕ) → IsLong k r → CodesOf r own → length own ≡ k
coded_length k r own h p = ap length (code_is p.0 own p.2) ∙ code_length (code_of p.0) ∙ subst (IsLong k) p.1 h

fit_long : (k : ℕ) (i : Insn) (f : Option Fit) → long i ≡ k → IsLong k (fit_cause i f)
fit_long k i None h = h
fit_long k i (Some fit.Register) h = tt
fit_long k i (Some fit.Offset) h = tt
fit_long k i (Some fit.Align) h = tt

chosen_long : (k : ℕ) (b : Bool) (i : Insn) (c : Cause) → long i ≡ k → IsLong k (cond b (fitting i) (Err c))
chosen_long k true i c h = fit_long k i (fit_of i) h
chosen_long k false i c h = tt

filled_long : (k : ℕ) (f : ℕ → Insn) (z : ℤ) → ((n : ℕ) → long (f n) ≡ k) → IsLong k (filled f z)
filled_long k f (pos n) h = chosen_long k _ (f n) _ (h n)
filled_long k f (negsuc n) h = tt

within_long : (k low top : ℕ) (f : ℕ → Insn) (z : ℤ) → ((n : ℕ) → long (f n) ≡ k) → IsLong k (within low top f z)
within_long k low top f (pos n) h = chosen_long k _ (f n) _ (h n)
within_long k low top f (negsuc n) h = tt

aimed_long : (k : ℕ) (f : ℤ → Insn) (z : ℤ) → ((w : ℤ) → long (f w) ≡ k) → IsLong k (aimed f z)
aimed_long k f (pos n) h = chosen_long k _ (f (pos n)) _ (h (pos n))
aimed_long k f (negsuc n) h = chosen_long k _ (f (negsuc n)) _ (h (negsuc n))

valued_long : (k : ℕ) (o : Option ℤ) (g : ℤ → Result Insn Cause) → ((z : ℤ) → IsLong k (g z)) → IsLong k (with_value o g)
valued_long k None g h = tt
valued_long k (Some z) g h = h z

-- the length of a shape's instruction
abbrev pub shape_long : Shape → ℕ
shape_long (Fixed i) = long i
shape_long (Filled e f) = long (f 0)
shape_long (Within low top e f) = long (f 0)
shape_long (Aimed e f) = long (f (pos 0))
shape_long (Near e f) = long (f 0)
shape_long (Listed loads rs) = long (list_insn loads rs)
shape_long (Block n raised loads rs) = long (block_insn n loads (mask_of rs))
shape_long s = 0

pub insn_long : (env : Env) (at : ℕ) (s : Shape) → Steady s → IsLong (shape_long s) (insn_at env at s)
unfolding insn_at
insn_long env at (Fixed i) h = fit_long (long i) i (fit_of i) refl
insn_long env at (Filled e f) h = valued_long _ (value env e) (filled f) (λ z. filled_long _ f z h)
insn_long env at (Within low top e f) h = valued_long _ (value env e) (within low top f) (λ z. within_long _ low top f z h)
insn_long env at (Aimed e f) h = valued_long _ (value env e) (λ z. aimed f (z -ℤ pos (at + 4))) (λ z. aimed_long _ f (z -ℤ pos (at + 4)) h)
insn_long env at (Near e f) h = valued_long _ (value env e) (λ z. filled f (z -ℤ pos ((at + 4) / 4 * 4))) (λ z. filled_long _ f (z -ℤ pos ((at + 4) / 4 * 4)) h)
insn_long env at Misplaced h = tt
insn_long env at (Listed loads rs) h = fit_long _ (list_insn loads rs) (fit_of (list_insn loads rs)) refl
insn_long env at (Block n raised loads rs) h = fit_long _ (block_insn n loads (mask_of rs)) (fit_of (block_insn n loads (mask_of rs))) refl
insn_long env at (Data k es) h = tt
insn_long env at (Text text) h = tt
insn_long env at (Zeros e) h = tt
insn_long env at (Padding e) h = tt

insn_length : (env env' : Env) (at : ℕ) (s : Shape) (own own' : List ℕ) → Steady s → CodesOf (insn_at env at s) own → CodesOf (insn_at env' at s) own' → length own ≡ length own'
insn_length env env' at s own own' h p q = coded_length (shape_long s) (insn_at env at s) own (insn_long env at s h) p ∙ sym (coded_length (shape_long s) (insn_at env' at s) own' (insn_long env' at s h) q)

-- Statements.

both_are : (own own' bytes : List ℕ) → own ≡ bytes → own' ≡ bytes → own ≡ own'
both_are own own' bytes p q = p ∙ sym q

means_length : (env env' : Env) (at : ℕ) (s : Shape) (own own' : List ℕ) → Alike env env' → Steady s → Means env at s own → Means env' at s own' → length own ≡ length own'
unfolding Means
means_length env env' at (Fixed i) own own' a h p q = insn_length env env' at (Fixed i) own own' h p q
means_length env env' at (Filled e f) own own' a h p q = insn_length env env' at (Filled e f) own own' h p q
means_length env env' at (Within low top e f) own own' a h p q = insn_length env env' at (Within low top e f) own own' h p q
means_length env env' at (Aimed e f) own own' a h p q = insn_length env env' at (Aimed e f) own own' h p q
means_length env env' at (Near e f) own own' a h p q = insn_length env env' at (Near e f) own own' h p q
means_length env env' at Misplaced own own' a h p q = insn_length env env' at Misplaced own own' h p q
means_length env env' at (Listed loads rs) own own' a h p q = insn_length env env' at (Listed loads rs) own own' h p q
means_length env env' at (Block n raised loads rs) own own' a h p q = insn_length env env' at (Block n raised loads rs) own own' h p q
means_length env env' at (Data k es) own own' a h p q = ap length p ∙ data_length env env' k es a ∙ sym (ap length q)
means_length env env' at (Text text) own own' a h p q = ap length (both_are own own' _ p q)
means_length env env' at (Zeros e) own own' a h p q = ap length (both_are own own' _ p q)
means_length env env' at (Padding e) own own' a h p q = ap length (both_are own own' _ p q)

pub same_length : (env env' : Env) (at : ℕ) (r : Result (Option Shape) Cause) (own own' : List ℕ) → Alike env env' → IsSteady r → Spells env at r own → Spells env' at r own' → length own ≡ length own'
same_length env env' at (Err c) own own' a h p q = ap length (both_are own own' _ p q)
same_length env env' at (Ok None) own own' a h p q = ap length (both_are own own' _ p q)
same_length env env' at (Ok (Some s)) own own' a h p q = means_length env env' at s own own' a h p q

means_one : (env : Env) (at : ℕ) (s : Shape) (own own' : List ℕ) → Means env at s own → Means env at s own' → own ≡ own'
unfolding Means
means_one env at (Fixed i) own own' p q = same_code (insn_at env at (Fixed i)) own own' p q
means_one env at (Filled e f) own own' p q = same_code (insn_at env at (Filled e f)) own own' p q
means_one env at (Within low top e f) own own' p q = same_code (insn_at env at (Within low top e f)) own own' p q
means_one env at (Aimed e f) own own' p q = same_code (insn_at env at (Aimed e f)) own own' p q
means_one env at (Near e f) own own' p q = same_code (insn_at env at (Near e f)) own own' p q
means_one env at Misplaced own own' p q = same_code (insn_at env at Misplaced) own own' p q
means_one env at (Listed loads rs) own own' p q = same_code (insn_at env at (Listed loads rs)) own own' p q
means_one env at (Block n raised loads rs) own own' p q = same_code (insn_at env at (Block n raised loads rs)) own own' p q
means_one env at (Data k es) own own' p q = both_are own own' _ p q
means_one env at (Text text) own own' p q = both_are own own' _ p q
means_one env at (Zeros e) own own' p q = both_are own own' _ p q
means_one env at (Padding e) own own' p q = both_are own own' _ p q

-- a statement has one meaning
pub spells_one : (env : Env) (at : ℕ) (r : Result (Option Shape) Cause) (own own' : List ℕ) → Spells env at r own → Spells env at r own' → own ≡ own'
spells_one env at (Err c) own own' p q = both_are own own' _ p q
spells_one env at (Ok None) own own' p q = both_are own own' _ p q
spells_one env at (Ok (Some s)) own own' p q = means_one env at s own own' p q
