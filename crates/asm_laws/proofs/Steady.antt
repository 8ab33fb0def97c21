-- The instruction of a statement has the same length for every value of its expression.
use Rattle.std.proofs.Common.{◌≡◌, ℕ, ℤ, pos, List, [], ◌∷◌, refl, Bool, true, false, if◌then◌else◌, nat_eq, Option, Some, None, Result, Ok, Err}
use Rattle.std.specs.Prelude.{map, codes, bytes_eq}
use Rattle.thumb_insn.specs.declared.Reg.{Reg}
use Rattle.thumb_insn.specs.declared.Size.{Size}
use Rattle.thumb_insn.specs.declared.Size.TheVariants as size
use Rattle.thumb_insn.specs.declared.Load.{Load as LoadKind}
use Rattle.thumb_insn.specs.declared.Load.TheVariants as load
use Rattle.thumb_insn.specs.declared.Barrier.{Barrier}
use Rattle.thumb_insn.specs.declared.Insn.{Insn}
use Rattle.thumb_insn.specs.declared.Insn.TheVariants as insn
use Rattle.thumb_encode.specs.Codes.{code_of, code_size, scale}
use Rattle.thumb_asm.specs.declared.Cause.{Cause}
use Rattle.thumb_asm.specs.Chars.{is_nil, lower, entry_at}
use Rattle.thumb_asm.specs.Parts.{first_word, behind_word, operand_pieces}
use Rattle.thumb_asm.specs.Operands.{Operand, operands, ◌>>=◌}
use Rattle.thumb_asm.specs.Syntax.{Shape, Fixed, Filled, Within, Aimed, Near, Misplaced, Block, ◌or◌, ◌▹◌, mnemonic, mnemonics1, mnemonics2, mnemonics3, mnemonics4, mnemonics5, mnemonics6, mnemonics7, shaped, values, stored, loaded, literal, plain_load, expressions, system, one, two, three, none, reg_reg, reg_imm, reg_expr, reg_reg_reg, reg_reg_imm, reg_mem, reg_mem_reg, reg_mem_imm, as_register, as_raised, as_immediate, as_expression, as_list, as_quoted}
use Rattle.thumb_asm.specs.Sizes.{statement_of, checked, shaped_by, named, has_bad_count, has_bad_register, has_bad_number, has_bad_list}

-- how many bytes an instruction's code has
abbrev pub long : Insn → ℕ
long i = code_size (code_of i)

-- instructions of one length, whatever the value
abbrev pub Steady : Shape → Type 0
Steady (Filled e f) = (n : ℕ) → long (f n) ≡ long (f 0)
Steady (Within low top e f) = (n : ℕ) → long (f n) ≡ long (f 0)
Steady (Aimed e f) = (z : ℤ) → long (f z) ≡ long (f (pos 0))
Steady (Near e f) = (n : ℕ) → long (f n) ≡ long (f 0)
Steady s = Unit {0}

-- of what there may be
abbrev pub Holds : {A : Type 0} → (A → Type 0) → Option A → Type 0
Holds P None = Unit {0}
Holds P (Some x) = P x

abbrev pub IsSteady : Result (Option Shape) Cause → Type 0
IsSteady (Err c) = Unit {0}
IsSteady (Ok o) = Holds Steady o

-- The combinators of syntaxes.

to : {A : Type 0} (o : Option A) (f : A → Shape) → ((x : A) → Steady (f x)) → Holds Steady (o ▹ f)
to (Some x) f h = h x
to None f h = tt

either : {A : Type 0} (P : A → Type 0) (o p : Option A) → Holds P o → Holds P p → Holds P (o or p)
either P (Some s) p h k = h
either P None p h k = k

on : {A : Type 0} (o : Option A) (f : A → Option Shape) → ((x : A) → Holds Steady (f x)) → Holds Steady (o >>= f)
on (Some x) f h = h x
on None f h = tt

at_base : (b : Bool) (s : Shape) → Steady s → Steady (if b then s else Misplaced)
at_base true s h = h
at_base false s h = tt

word : (b : Bool) (s : Shape) → Steady s → Holds Steady (if b then Some s else None)
word true s h = h
word false s h = tt

two_ways : (b : Bool) (f g : ℕ → Insn) → ((n : ℕ) → long (f n) ≡ long (f 0)) → ((n : ℕ) → long (g n) ≡ long (g 0)) → (n : ℕ) → long ((if b then f else g) n) ≡ long ((if b then f else g) 0)
two_ways true f g h k = h
two_ways false f g h k = k

steady_stored : (s : Size) (t n : Reg) (i : ℕ) → long (stored s t n i) ≡ long (stored s t n 0)
steady_stored size.Word t n = two_ways (nat_eq n.number 13) (insn.StoreSp t) (insn.StoreImm size.Word t n) (λ i. refl) (λ i. refl)
steady_stored size.Half t n = λ i. refl
steady_stored size.Byte t n = λ i. refl

steady_loaded : (s : Size) (t n : Reg) (i : ℕ) → long (loaded s t n i) ≡ long (loaded s t n 0)
steady_loaded size.Word t n = two_ways (nat_eq n.number 13) (insn.LoadSp t) (insn.LoadImm size.Word t n) (λ i. refl) (λ i. refl)
steady_loaded size.Half t n = λ i. refl
steady_loaded size.Byte t n = λ i. refl

steady_literal : (s : Size) (os : List Operand) → Holds Steady (literal s os)
steady_literal size.Word os = to (reg_expr os) _ (λ r n. refl)
steady_literal size.Half os = tt
steady_literal size.Byte os = tt

steady_load : (k : LoadKind) (os : List Operand) → Holds Steady (plain_load k os)
steady_load (load.Whole s) os = either Steady _ _ (either Steady _ _ (to (reg_mem_imm os) _ (λ r. steady_loaded s r.0 r.1.0)) (to (reg_mem os) _ (λ r. tt))) (steady_literal s os)
steady_load load.SignedHalf os = tt
steady_load load.SignedByte os = tt

steady_values : (k : ℕ) (es : List (List ℕ)) → Holds Steady (values k es)
steady_values k [] = tt
steady_values k (e ∷ es) = tt

-- The syntaxes that several mnemonics have.

two_regs : (f : Reg × Reg → Insn) (os : List Operand) → Holds Steady (reg_reg os ▹ λ r. Fixed (f r))
two_regs f os = to (reg_reg os) _ (λ r. tt)

one_reg : (f : Reg → Insn) (os : List Operand) → Holds Steady (one as_register os ▹ λ m. Fixed (f m))
one_reg f os = to (one as_register os) _ (λ m. tt)

one_imm : (f : ℕ → Insn) (os : List Operand) → ((n : ℕ) → long (f n) ≡ long (f 0)) → Holds Steady (one as_immediate os ▹ λ e. Filled e f)
one_imm f os h = to (one as_immediate os) _ (λ e. h)

one_target : (f : ℤ → Insn) (os : List Operand) → ((z : ℤ) → long (f z) ≡ long (f (pos 0))) → Holds Steady (one as_expression os ▹ λ e. Aimed e f)
one_target f os h = to (one as_expression os) _ (λ e. h)

fence : (b : Barrier) (os : List Operand) → Holds Steady ((none os ▹ λ u. Fixed (insn.Fence b 15)) or system b os or (one as_immediate os ▹ λ e. Filled e (insn.Fence b)))
fence b os = either Steady _ _ (either Steady _ _ (to (none os) _ (λ u. tt)) (on (one as_expression os) _ (λ e. word (bytes_eq (map lower e) (codes "sy")) (Fixed (insn.Fence b 15)) tt))) (one_imm (insn.Fence b) os (λ n. refl))

block : (loads : Bool) (os : List Operand) → Holds Steady ((two as_raised as_list os ▹ λ r. Block r.0 true loads r.1) or (two as_register as_list os ▹ λ r. Block r.0 false loads r.1))
block loads os = either Steady _ _ (to (two as_raised as_list os) _ (λ r. tt)) (to (two as_register as_list os) _ (λ r. tt))

-- Each mnemonic.

-- of every entry of a table
abbrev AllOf : {A : Type 0} → (A → Type 0) → List (List ℕ × A) → Type 0
AllOf P [] = Unit {0}
AllOf P (e ∷ es) = P e.1 × AllOf P es

-- whatever the operands
abbrev IsSyntax : {A : Type 0} → (A → List Operand → Option Shape) → A → Type 0
IsSyntax f m = (os : List Operand) → Holds Steady (f m os)

all1 : AllOf (IsSyntax shaped) mnemonics1
unfolding mnemonics1 shaped
all1 = ((λ os. either Steady _ _ (to (three as_register as_register as_immediate os) _ (λ r n. refl)) (two_regs _ os)), ((λ os. either Steady _ _ (to (three as_register as_register as_immediate os) _ (λ r n. refl)) (two_regs _ os)), ((λ os. either Steady _ _ (to (three as_register as_register as_immediate os) _ (λ r n. refl)) (two_regs _ os)), ((λ os. two_regs _ os), ((λ os. either Steady _ _ (two_regs _ os) (to (reg_imm os) _ (λ r n. refl))), ((λ os. either Steady _ _ (either Steady _ _ (to (reg_reg_reg os) _ (λ r. tt)) (to (reg_reg_imm os) _ (λ r n. refl))) (to (reg_imm os) _ (λ r n. refl))), ((λ os. either Steady _ _ (either Steady _ _ (to (reg_reg_reg os) _ (λ r. tt)) (to (reg_reg_imm os) _ (λ r n. refl))) (to (reg_imm os) _ (λ r n. refl))), ((λ os. either Steady _ _ (two_regs _ os) (to (reg_imm os) _ (λ r n. refl))), ((λ os. to (reg_reg_imm os) _ (λ r n. refl)), ((λ os. two_regs _ os), ((λ os. two_regs _ os), ((λ os. two_regs _ os), tt))))))))))))

all2 : AllOf (IsSyntax shaped) mnemonics2
unfolding mnemonics2 shaped
all2 = ((λ os. two_regs _ os), ((λ os. two_regs _ os), ((λ os. two_regs _ os), ((λ os. two_regs _ os), ((λ os. two_regs _ os), ((λ os. two_regs _ os), ((λ os. two_regs _ os), ((λ os. either Steady _ _ (either Steady _ _ (two_regs _ os) (to (reg_reg_imm os) _ (λ r. at_base (nat_eq r.1.number 13) (Filled r.2 (insn.AddSp r.0)) (λ n. refl)))) (to (reg_imm os) _ (λ r. at_base (nat_eq r.0.number 13) (Filled r.1 insn.RaiseSp) (λ n. refl)))), ((λ os. to (reg_imm os) _ (λ r. at_base (nat_eq r.0.number 13) (Filled r.1 insn.LowerSp) (λ n. refl))), ((λ os. two_regs _ os), ((λ os. one_reg _ os), ((λ os. one_reg _ os), tt))))))))))))

all3 : AllOf (IsSyntax shaped) mnemonics3
unfolding mnemonics3 shaped
all3 = ((λ os. either Steady _ _ (to (reg_mem_reg os) _ (λ r. tt)) (steady_load (load.Whole size.Word) os)), ((λ os. either Steady _ _ (to (reg_mem_reg os) _ (λ r. tt)) (steady_load (load.Whole size.Half) os)), ((λ os. either Steady _ _ (to (reg_mem_reg os) _ (λ r. tt)) (steady_load (load.Whole size.Byte) os)), ((λ os. either Steady _ _ (to (reg_mem_reg os) _ (λ r. tt)) (steady_load load.SignedHalf os)), ((λ os. either Steady _ _ (to (reg_mem_reg os) _ (λ r. tt)) (steady_load load.SignedByte os)), ((λ os. either Steady _ _ (either Steady _ _ (to (reg_mem_reg os) _ (λ r. tt)) (to (reg_mem_imm os) _ (λ r. steady_stored size.Word r.0 r.1.0))) (to (reg_mem os) _ (λ r. tt))), ((λ os. either Steady _ _ (either Steady _ _ (to (reg_mem_reg os) _ (λ r. tt)) (to (reg_mem_imm os) _ (λ r. steady_stored size.Half r.0 r.1.0))) (to (reg_mem os) _ (λ r. tt))), ((λ os. either Steady _ _ (either Steady _ _ (to (reg_mem_reg os) _ (λ r. tt)) (to (reg_mem_imm os) _ (λ r. steady_stored size.Byte r.0 r.1.0))) (to (reg_mem os) _ (λ r. tt))), ((λ os. to (reg_expr os) _ (λ r n. refl)), ((λ os. two_regs _ os), ((λ os. two_regs _ os), ((λ os. two_regs _ os), tt))))))))))))

all4 : AllOf (IsSyntax shaped) mnemonics4
unfolding mnemonics4 shaped
all4 = ((λ os. two_regs _ os), ((λ os. two_regs _ os), ((λ os. two_regs _ os), ((λ os. two_regs _ os), ((λ os. to (one as_list os) _ (λ r. tt)), ((λ os. to (one as_list os) _ (λ r. tt)), ((λ os. block _ os), ((λ os. block _ os), ((λ os. on (one as_expression os) _ (λ e. word (bytes_eq (map lower e) (codes "i")) (Fixed insn.Cpsie) tt)), ((λ os. on (one as_expression os) _ (λ e. word (bytes_eq (map lower e) (codes "i")) (Fixed insn.Cpsid) tt)), ((λ os. one_imm _ os (λ n. refl)), ((λ os. one_imm _ os (λ n. refl)), tt))))))))))))

all5 : AllOf (IsSyntax shaped) mnemonics5
unfolding mnemonics5 shaped
all5 = ((λ os. to (one as_immediate os) _ (λ e n. refl)), ((λ os. to (none os) _ (λ u. tt)), ((λ os. to (none os) _ (λ u. tt)), ((λ os. to (none os) _ (λ u. tt)), ((λ os. to (none os) _ (λ u. tt)), ((λ os. to (none os) _ (λ u. tt)), ((λ os. one_target _ os (λ z. refl)), ((λ os. one_target _ os (λ z. refl)), ((λ os. one_target _ os (λ z. refl)), ((λ os. one_target _ os (λ z. refl)), ((λ os. one_target _ os (λ z. refl)), ((λ os. one_target _ os (λ z. refl)), tt))))))))))))

all6 : AllOf (IsSyntax shaped) mnemonics6
unfolding mnemonics6 shaped
all6 = ((λ os. one_target _ os (λ z. refl)), ((λ os. one_target _ os (λ z. refl)), ((λ os. one_target _ os (λ z. refl)), ((λ os. one_target _ os (λ z. refl)), ((λ os. one_target _ os (λ z. refl)), ((λ os. one_target _ os (λ z. refl)), ((λ os. one_target _ os (λ z. refl)), ((λ os. one_target _ os (λ z. refl)), ((λ os. one_target _ os (λ z. refl)), ((λ os. one_target _ os (λ z. refl)), ((λ os. one_target _ os (λ z. refl)), ((λ os. one_target _ os (λ z. refl)), tt))))))))))))

all7 : AllOf (IsSyntax shaped) mnemonics7
unfolding mnemonics7 shaped
all7 = ((λ os. fence _ os), ((λ os. fence _ os), ((λ os. fence _ os), ((λ os. on (reg_expr os) _ (λ r. word (bytes_eq (map lower r.1) (codes "apsr")) (Fixed (insn.Mrs r.0)) tt)), ((λ os. on (two as_expression as_register os) _ (λ r. word (bytes_eq (map lower r.0) (codes "apsr")) (Fixed (insn.Msr r.1)) tt)), ((λ os. on (expressions os) _ (λ es. steady_values (scale size.Byte) es)), ((λ os. on (expressions os) _ (λ es. steady_values (scale size.Half) es)), ((λ os. on (expressions os) _ (λ es. steady_values (scale size.Word) es)), ((λ os. to (one as_quoted os) _ (λ e. tt)), ((λ os. to (one as_expression os) _ (λ e. tt)), ((λ os. to (one as_expression os) _ (λ e. tt)), tt)))))))))))

chosen : {A : Type 0} (P : A → Type 0) (b : Bool) (x : A) (o : Option A) → P x → Holds P o → Holds P (if b then Some x else o)
chosen P true x o h k = h
chosen P false x o h k = k

at_word : {A : Type 0} (P : A → Type 0) (es : List (List ℕ × A)) → AllOf P es → (text : List ℕ) → Holds P (entry_at es text)
unfolding entry_at
at_word P [] h text = tt
at_word P (e ∷ es) h text = chosen P (bytes_eq text e.0) e.1 (entry_at es text) h.0 (at_word P es h.1 text)

each : (text : List ℕ) → Holds (IsSyntax shaped) (mnemonic text)
unfolding mnemonic
each text =
    let name = map lower text in
    let P = IsSyntax shaped in
    either P _ _ (either P _ _ (either P _ _ (either P _ _ (either P _ _ (either P _ _ (at_word P mnemonics1 all1 name) (at_word P mnemonics2 all2 name)) (at_word P mnemonics3 all3 name)) (at_word P mnemonics4 all4 name)) (at_word P mnemonics5 all5 name)) (at_word P mnemonics6 all6 name)) (at_word P mnemonics7 all7 name)

-- Statements.

unless : (b : Bool) (c : Cause) (r : Result (Option Shape) Cause) → IsSteady r → IsSteady (if b then Err c else r)
unless true c r h = tt
unless false c r h = h

steady_checked : (o : Option Shape) → Holds Steady o → IsSteady (checked o)
unfolding checked
steady_checked None h = tt
steady_checked (Some s) h = unless (has_bad_count s) _ _ (unless (has_bad_register s) _ _ (unless (has_bad_number s) _ _ (unless (has_bad_list s) _ (Ok (Some s)) h)))

-- a fact of what there may be, by cases
split : {A : Type 0} (Q : Option A → Type 0) (o : Option A) → Q None → ((x : A) → Q (Some x)) → Q o
split Q None h k = h
split Q (Some x) h k = k x

split_on : {A : Type 0} (P : A → Type 0) (Q : Option A → Type 0) (o : Option A) → Q None → ((x : A) → P x → Q (Some x)) → Holds P o → Q o
split_on P Q None h k p = h
split_on P Q (Some x) h k p = k x p

steady_named : (text rest : List ℕ) → IsSteady (named (mnemonic text) rest)
steady_named text rest =
    let given = operands (operand_pieces rest) in
    split_on (IsSyntax shaped) (λ m. IsSteady (named m rest)) (mnemonic text) tt (λ m h. steady_checked (shaped_by m given) (split (λ o. Holds Steady (shaped_by m o)) given tt h)) (each text)

nothing_or : (b : Bool) (r : Result (Option Shape) Cause) → IsSteady r → IsSteady (if b then Ok None else r)
nothing_or true r h = tt
nothing_or false r h = h

pub steady_statement : (text : List ℕ) → IsSteady (statement_of text)
unfolding statement_of
steady_statement text = nothing_or (is_nil text) (named (mnemonic (first_word text)) (behind_word text)) (steady_named (first_word text) (behind_word text))
