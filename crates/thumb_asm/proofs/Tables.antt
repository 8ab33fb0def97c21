-- Tables of names.
use Rattle.std.proofs.Common.{◌≡◌, ℕ, ◌<◌, List, [], ◌∷◌, ◌++◌, map, refl, ap, ◌∙◌, arith, Bool, true, false, cond, Option, Some, IfSome, bytes_eq}
use Rattle.thumb_asm.specs.Chars.{entry_at, lower, register_names}
use Rattle.thumb_asm.specs.declared.Mnemonic.{Mnemonic}
use Rattle.thumb_asm.specs.Syntax.{◌or◌, mnemonic, mnemonics1, mnemonics2, mnemonics3, mnemonics4, mnemonics5, mnemonics6, mnemonics7}

or_behind : {A : Type 0} (b : Bool) (x : A) (o p q : Option A) → o ≡ (p or q) → cond b (Some x) o ≡ (cond b (Some x) p or q)
or_behind true x o p q h = refl
or_behind false x o p q h = h

-- the entry of the first of two tables, or else that of the second
two_tables : {A : Type 0} (a b : List (List ℕ × A)) (word : List ℕ) → entry_at (a ++ b) word ≡ (entry_at a word or entry_at b word)
unfolding entry_at
two_tables [] b word = refl
two_tables (e ∷ es) b word = or_behind (bytes_eq word e.0) e.1 (entry_at (es ++ b) word) (entry_at es word) (entry_at b word) (two_tables es b word)

then_table : (a b : List (List ℕ × Mnemonic)) (word : List ℕ) (o : Option Mnemonic) → entry_at a word ≡ o → entry_at (a ++ b) word ≡ (o or entry_at b word)
then_table a b word o h = two_tables a b word ∙ ap (λ p. p or entry_at b word) h

abbrev pub all_mnemonics : List (List ℕ × Mnemonic)
all_mnemonics = (((((mnemonics1 ++ mnemonics2) ++ mnemonics3) ++ mnemonics4) ++ mnemonics5) ++ mnemonics6) ++ mnemonics7

pub one_table : (text : List ℕ) → entry_at all_mnemonics (map lower text) ≡ mnemonic text
unfolding mnemonic
one_table text =
    then_table _ mnemonics7 _ _ (then_table _ mnemonics6 _ _ (then_table _ mnemonics5 _ _ (then_table _ mnemonics4 _ _ (then_table _ mnemonics3 _ _ (two_tables mnemonics1 mnemonics2 (map lower text))))))

small_cond : (b : Bool) (n : ℕ) (o : Option ℕ) → n < 16 → IfSome o (λ k. k < 16) → IfSome (cond b (Some n) o) (λ k. k < 16)
small_cond true n o h k = h
small_cond false n o h k = k

abbrev AreSmall : List (List ℕ × ℕ) → Type 0
AreSmall [] = Unit {0}
AreSmall (e ∷ es) = (e.1 < 16) × AreSmall es

small_entry : (es : List (List ℕ × ℕ)) (word : List ℕ) → AreSmall es → IfSome (entry_at es word) (λ k. k < 16)
unfolding entry_at
small_entry [] word h = tt
small_entry (e ∷ es) word h = small_cond (bytes_eq word e.0) e.1 (entry_at es word) h.0 (small_entry es word h.1)

pub small_register : (word : List ℕ) → IfSome (entry_at register_names word) (λ k. k < 16)
unfolding register_names
small_register word = small_entry register_names word (search arith)
