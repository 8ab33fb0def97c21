-- The lists of `push`, `pop`, `stm` and `ldm` are read as these lists.
use Rattle.std.proofs.Common.{◌≡◌, ℕ, ◌≤◌, length, nat_le, ◌%◌, ◌^◌, ◌<◌, List, [], ◌∷◌, ◌++◌, map, refl, ap, ◌∙◌, sym, arith, Bool, true, false, not, nat_eq, nat_lt, ◌&&◌, ◌||◌, if◌then◌else◌, Option, Some, None, Result, Ok, Err, codes}
use Rattle.std.proofs.lemmas.Bool.{not-true, agree_below_at, agree_below, eqb-true, or_from, leb-true, or_parts, and_parts}
use Rattle.std.proofs.lemmas.Bool.Decides.{nat_tests}
use Rattle.std.specs.List.{list_all}
use Rattle.thumb_insn.specs.Fields.{is_listed as has_bit}
use Rattle.thumb_insn.specs.declared.Reg.{Reg}
use Rattle.thumb_insn.specs.declared.Insn.{Insn}
use Rattle.thumb_insn.specs.declared.Insn.TheVariants.{Push, Pop, Stm, Ldm}
use Rattle.thumb_insn.specs.Table.{is_later}
use Rattle.std.specs.Fmt.{digits}
use Rattle.thumb_insn.specs.Text.{joined, register_name, insn_text, low_registers, and_also, registers_below, braces, raised, reg_text, line}
use Rattle.thumb_encode.specs.Codes.{fit_of, is_high}
use Rattle.thumb_asm.specs.declared.Cause.{Cause}
use Rattle.thumb_asm.specs.declared.Cause.TheVariants as cause
use Rattle.thumb_asm.specs.Chars.{entry_at}
use Rattle.thumb_asm.specs.Operands.{Register, Raised, Registers}
use Rattle.thumb_asm.specs.Syntax.{Shape, Listed, Block, mnemonic, mnemonics4, mnemonics1, mnemonics2, mnemonics3, shaped}
use Rattle.thumb_asm.specs.Sizes.{checked, has_bad_count, has_bad_register, has_bad_number, has_bad_list, has_stray, is_no_list, is_raised_wrong, is_listed, mask_of, mask_below, any_below, extra_of}
use Rattle.thumb_asm.specs.Meaning.{Env, insn_at, fitting}
use Rattle.thumb_asm.proofs.Lines.{Reads}
use Rattle.asm_laws.proofs.Operands.{single, AllBelow, reads_list, reads_reg, reads_raised}
use Rattle.asm_laws.proofs.Shapes.{IsReadSo, fits, three_false, low, say}

abbrev pub same_bit : Bool → Bool → Bool
same_bit a b = if a then b else not b

same_bits : (a b : Bool) → same_bit a b ≡ true → a ≡ b
same_bits true b h = sym h
same_bits false b h = sym (not-true b h)

abbrev pub is_none : List ℕ → Bool
is_none [] = true
is_none (k ∷ ks) = false

below_is : (ks : List ℕ) → list_all (λ k. nat_lt k 16) ks ≡ true → AllBelow ks
below_is [] h = tt
below_is (k ∷ ks) h = let e = and_parts (nat_lt k 16) (list_all (λ j. nat_lt j 16) ks) h in let f : k < 16 = grind (arith, nat_tests) in (f, below_is ks e.1)

-- a list of registers that is read as it is, with no other high register than this one
abbrev pub is_good : ℕ → List ℕ → Bool
is_good extra ks = (not (is_none ks) && (nat_le (length (joined (map register_name ks))) 58 && list_all (λ k. nat_lt k 16) ks)) && (not (has_stray extra (map single ks)) && not (is_no_list (map single ks)))

pub record Good (extra : ℕ) (ks : List ℕ) : Type 0 where
  pub reads : Reads (braces ks) (Registers (map single ks))
  pub stray : has_stray extra (map single ks) ≡ false
  pub list : is_no_list (map single ks) ≡ false

some_reads : (ks : List ℕ) → is_none ks ≡ false → AllBelow ks → length (joined (map register_name ks)) ≤ 58 → Reads (braces ks) (Registers (map single ks))
some_reads [] h b l = cc
some_reads (k ∷ ks) h b l = reads_list k ks b l

good : (extra : ℕ) (ks : List ℕ) → is_good extra ks ≡ true → Good extra ks
good extra ks h =
    let e = and_parts (not (is_none ks) && (nat_le (length (joined (map register_name ks))) 58 && list_all (λ k. nat_lt k 16) ks)) (not (has_stray extra (map single ks)) && not (is_no_list (map single ks))) h in
    let a = and_parts (not (is_none ks)) (nat_le (length (joined (map register_name ks))) 58 && list_all (λ k. nat_lt k 16) ks) e.0 in
    let d = and_parts (nat_le (length (joined (map register_name ks))) 58) (list_all (λ k. nat_lt k 16) ks) a.1 in
    let b = and_parts (not (has_stray extra (map single ks))) (not (is_no_list (map single ks))) e.1 in
    record {
      reads = some_reads ks (not-true _ a.0) (below_is ks d.1) (leb-true _ _ d.0);
      stray = not-true _ b.0;
      list = not-true _ b.1;
    }

either : (a b : Bool) → (a || b) ≡ true → a ≡ false → b ≡ true
either true b h e = cc
either false b h e = h

pass : (b d : Bool) (s : Shape) (r : Result (Option Shape) Cause) → b ≡ false → d ≡ false → r ≡ Ok (Some s) → (if b then Err cause.BadRegister else if d then Err cause.BadList else r) ≡ Ok (Some s)
pass b d s r e f h = rw (e, f) h

fitting_is : (i : Insn) → fit_of i ≡ None → fitting i ≡ Ok i
fitting_is i e = rw e refl

-- `push` and `pop`: each list of low registers, with or without the one high register.

abbrev pub whole_list : ℕ → Bool → ℕ → List ℕ
whole_list extra has list = low_registers list ++ and_also has extra

abbrev pub is_right : ℕ → Bool → ℕ → Bool
is_right extra has list =
    (nat_eq list 0 && not has) ||
    (is_good extra (whole_list extra has list) && (nat_eq (mask_of (map single (whole_list extra has list))) list && same_bit (is_listed (map single (whole_list extra has list)) extra) has))

push_with : agree_below (is_right 14 true) (λ k. true) 256 ≡ true
unfolding digits registers_below any_below mask_below
push_with = refl

push_without : agree_below (is_right 14 false) (λ k. true) 256 ≡ true
unfolding digits registers_below any_below mask_below
push_without = refl

pop_with : agree_below (is_right 15 true) (λ k. true) 256 ≡ true
unfolding digits registers_below any_below mask_below
pop_with = refl

pop_without : agree_below (is_right 15 false) (λ k. true) 256 ≡ true
unfolding digits registers_below any_below mask_below
pop_without = refl

pushed : (has : Bool) (list : ℕ) → list < 256 → is_right 14 has list ≡ true
pushed true list h = agree_below_at (is_right 14 true) (λ k. true) 256 list push_with h
pushed false list h = agree_below_at (is_right 14 false) (λ k. true) 256 list push_without h

popped : (has : Bool) (list : ℕ) → list < 256 → is_right 15 has list ≡ true
popped true list h = agree_below_at (is_right 15 true) (λ k. true) 256 list pop_with h
popped false list h = agree_below_at (is_right 15 false) (λ k. true) 256 list pop_without h

pub record Whole (extra : ℕ) (has : Bool) (list : ℕ) : Type 0 where
  pub good : Good extra (whole_list extra has list)
  pub mask : mask_of (map single (whole_list extra has list)) ≡ list
  pub has_extra : is_listed (map single (whole_list extra has list)) extra ≡ has

whole : (extra : ℕ) (has : Bool) (list : ℕ) → is_right extra has list ≡ true → (nat_eq list 0 && not has) ≡ false → Whole extra has list
whole extra has list h n =
    let e = and_parts (is_good extra (whole_list extra has list)) _ (either (nat_eq list 0 && not has) _ h n) in
    let f = and_parts (nat_eq (mask_of (map single (whole_list extra has list))) list) (same_bit (is_listed (map single (whole_list extra has list)) extra) has) e.1 in
    record { good = good extra (whole_list extra has list) e.0; mask = eqb-true _ _ f.0; has_extra = same_bits _ _ f.1 }

listed_ok : (loads : Bool) (rs : List (ℕ × ℕ)) → has_stray (extra_of loads) rs ≡ false → is_no_list rs ≡ false → checked (Some (Listed loads rs)) ≡ Ok (Some (Listed loads rs))
unfolding checked has_bad_count has_bad_register has_bad_number has_bad_list
listed_ok loads rs e f = pass (has_stray (extra_of loads) rs) (is_no_list rs) (Listed loads rs) (Ok (Some (Listed loads rs))) e f refl

push_at : (env : Env) (at list : ℕ) (lr : Bool) (rs : List (ℕ × ℕ)) → mask_of rs ≡ list → is_listed rs 14 ≡ lr → fit_of (Push list lr) ≡ None → insn_at env at (Listed false rs) ≡ Ok (Push list lr)
unfolding insn_at
push_at env at list lr rs m l e = ap (λ x. fitting (Push x (is_listed rs 14))) m ∙ ap (λ b. fitting (Push list b)) l ∙ fitting_is (Push list lr) e

pop_at : (env : Env) (at list : ℕ) (has : Bool) (rs : List (ℕ × ℕ)) → mask_of rs ≡ list → is_listed rs 15 ≡ has → fit_of (Pop list has) ≡ None → insn_at env at (Listed true rs) ≡ Ok (Pop list has)
unfolding insn_at
pop_at env at list has rs m l e = ap (λ x. fitting (Pop x (is_listed rs 15))) m ∙ ap (λ b. fitting (Pop list b)) l ∙ fitting_is (Pop list has) e

pub push : (at list : ℕ) (lr : Bool) → list < 256 → fit_of (Push list lr) ≡ None → IsReadSo (Push list lr) at
unfolding insn_text mnemonic mnemonics1 mnemonics2 mnemonics3 mnemonics4 entry_at shaped
push at list lr h e =
    let n = fits (nat_eq list 0 && not lr) false false e in
    let w = whole 14 lr list (pushed lr list h) n.0 in
    say (Push list lr) at (codes "push") (braces (whole_list 14 lr list)) [] (Registers (map single (whole_list 14 lr list))) [] (Listed false (map single (whole_list 14 lr list))) refl refl refl refl w.good.reads tt refl (listed_ok false (map single (whole_list 14 lr list)) w.good.stray w.good.list) (λ env. push_at env at list lr (map single (whole_list 14 lr list)) w.mask w.has_extra e)

pub pop : (at list : ℕ) (has : Bool) → list < 256 → fit_of (Pop list has) ≡ None → IsReadSo (Pop list has) at
unfolding insn_text mnemonic mnemonics1 mnemonics2 mnemonics3 mnemonics4 entry_at shaped
pop at list has h e =
    let n = fits (nat_eq list 0 && not has) false false e in
    let w = whole 15 has list (popped has list h) n.0 in
    say (Pop list has) at (codes "pop") (braces (whole_list 15 has list)) [] (Registers (map single (whole_list 15 has list))) [] (Listed true (map single (whole_list 15 has list))) refl refl refl refl w.good.reads tt refl (listed_ok true (map single (whole_list 15 has list)) w.good.stray w.good.list) (λ env. pop_at env at list has (map single (whole_list 15 has list)) w.mask w.has_extra e)

-- `stm` and `ldm`: each list of low registers, and each low base.

abbrev pub low_list : ℕ → List (ℕ × ℕ)
low_list list = map single (low_registers list)

abbrev pub is_same_at : ℕ → ℕ → Bool
is_same_at list n = same_bit (is_listed (low_list list) n) (has_bit list n) && same_bit (any_below (is_listed (low_list list)) n) (nat_lt 0 (list % 2 ^ n))

abbrev pub is_block : ℕ → Bool
is_block list = nat_eq list 0 || (is_good 0 (low_registers list) && (nat_eq (mask_of (low_list list)) list && agree_below (is_same_at list) (λ n. true) 8))

all_blocks : agree_below is_block (λ k. true) 256 ≡ true
unfolding digits registers_below any_below mask_below
all_blocks = refl

pub record Blocks (n list : ℕ) : Type 0 where
  pub good : Good 0 (low_registers list)
  pub mask : mask_of (low_list list) ≡ list
  pub base : is_listed (low_list list) n ≡ has_bit list n
  pub lower : any_below (is_listed (low_list list)) n ≡ nat_lt 0 (list % 2 ^ n)

blocks : (n list : ℕ) → n < 8 → list < 256 → nat_eq list 0 ≡ false → Blocks n list
blocks n list l h z =
    let e = and_parts (is_good 0 (low_registers list)) _ (either (nat_eq list 0) _ (agree_below_at is_block (λ k. true) 256 list all_blocks h) z) in
    let f = and_parts (nat_eq (mask_of (low_list list)) list) (agree_below (is_same_at list) (λ k. true) 8) e.1 in
    let g = agree_below_at (is_same_at list) (λ k. true) 8 n f.1 l in
    let s = and_parts (same_bit (is_listed (low_list list) n) (has_bit list n)) (same_bit (any_below (is_listed (low_list list)) n) (nat_lt 0 (list % 2 ^ n))) g in
    record { good = good 0 (low_registers list) e.0; mask = eqb-true _ _ f.0; base = same_bits _ _ s.0; lower = same_bits _ _ s.1 }

block_ok : (n : Reg) (is_up loads : Bool) (rs : List (ℕ × ℕ)) → is_high n ≡ false → has_stray 0 rs ≡ false → is_no_list rs ≡ false → is_raised_wrong n.number is_up loads rs ≡ false → checked (Some (Block n is_up loads rs)) ≡ Ok (Some (Block n is_up loads rs))
unfolding checked has_bad_count has_bad_register has_bad_number has_bad_list
block_ok n is_up loads rs h s l r =
    pass (is_high n || has_stray 0 rs) (is_no_list rs || is_raised_wrong n.number is_up loads rs) (Block n is_up loads rs) (Ok (Some (Block n is_up loads rs))) (or_from (is_high n) (has_stray 0 rs) h s) (or_from (is_no_list rs) (is_raised_wrong n.number is_up loads rs) l r) refl

stm_at : (env : Env) (at list : ℕ) (n : Reg) (rs : List (ℕ × ℕ)) → mask_of rs ≡ list → fit_of (Stm n list) ≡ None → insn_at env at (Block n true false rs) ≡ Ok (Stm n list)
unfolding insn_at
stm_at env at list n rs m e = ap (λ x. fitting (Stm n x)) m ∙ fitting_is (Stm n list) e

ldm_at : (env : Env) (at list : ℕ) (is_up : Bool) (n : Reg) (rs : List (ℕ × ℕ)) → mask_of rs ≡ list → fit_of (Ldm n list) ≡ None → insn_at env at (Block n is_up true rs) ≡ Ok (Ldm n list)
unfolding insn_at
ldm_at env at list is_up n rs m e = ap (λ x. fitting (Ldm n x)) m ∙ fitting_is (Ldm n list) e

below_eight : (n : Reg) → is_high n ≡ false → n.number < 8
below_eight n e = grind (arith, nat_tests)

both_same : (a b c d : Bool) → a ≡ c → b ≡ d → (c && d) ≡ false → (a && b) ≡ false
both_same a b c d e f h = rw (e, f) h

pub stm : (at list : ℕ) (n : Reg) → list < 256 → fit_of (Stm n list) ≡ None → IsReadSo (Stm n list) at
unfolding insn_text mnemonic mnemonics1 mnemonics2 mnemonics3 mnemonics4 entry_at shaped
stm at list n h e =
    let f = fits (is_high n || nat_eq list 0 || is_later list n.number) false false e in
    let l = three_false (is_high n) (nat_eq list 0) (is_later list n.number) f.0 in
    let b = blocks n.number list (below_eight n l.0) h l.1 in
    let w = both_same (is_listed (low_list list) n.number) (any_below (is_listed (low_list list)) n.number) (has_bit list n.number) (nat_lt 0 (list % 2 ^ n.number)) b.base b.lower l.2 in
    say (Stm n list) at (codes "stm") (raised n) (braces (low_registers list) ∷ []) (Raised n) (Registers (low_list list) ∷ []) (Block n true false (low_list list)) refl refl refl refl (reads_raised n (low n l.0)) (b.good.reads, tt) refl (block_ok n true false (low_list list) l.0 b.good.stray b.good.list w) (λ env. stm_at env at list n (low_list list) b.mask e)

ldm_text : (at list : ℕ) (n : Reg) (b : Bool) → has_bit list n.number ≡ b → insn_text (Ldm n list) at ≡ line (codes "ldm") ((if b then reg_text n else raised n) ∷ braces (low_registers list) ∷ [])
unfolding insn_text
ldm_text at list n b h = ap (λ c. line (codes "ldm") ((if c then reg_text n else raised n) ∷ braces (low_registers list) ∷ [])) h

ldm_by : (at list : ℕ) (n : Reg) (b : Bool) → has_bit list n.number ≡ b → list < 256 → fit_of (Ldm n list) ≡ None → IsReadSo (Ldm n list) at
unfolding mnemonic mnemonics1 mnemonics2 mnemonics3 mnemonics4 entry_at shaped
ldm_by at list n true t h e =
    let f = fits (is_high n || nat_eq list 0) false false e in
    let l = or_parts (is_high n) (nat_eq list 0) f.0 in
    let b = blocks n.number list (below_eight n l.0) h l.1 in
    say (Ldm n list) at (codes "ldm") (reg_text n) (braces (low_registers list) ∷ []) (Register n) (Registers (low_list list) ∷ []) (Block n false true (low_list list)) (ldm_text at list n true t) refl refl refl (reads_reg n (low n l.0)) (b.good.reads, tt) refl (block_ok n false true (low_list list) l.0 b.good.stray b.good.list (ap not (b.base ∙ t))) (λ env. ldm_at env at list false n (low_list list) b.mask e)
ldm_by at list n false t h e =
    let f = fits (is_high n || nat_eq list 0) false false e in
    let l = or_parts (is_high n) (nat_eq list 0) f.0 in
    let b = blocks n.number list (below_eight n l.0) h l.1 in
    say (Ldm n list) at (codes "ldm") (raised n) (braces (low_registers list) ∷ []) (Raised n) (Registers (low_list list) ∷ []) (Block n true true (low_list list)) (ldm_text at list n false t) refl refl refl (reads_raised n (low n l.0)) (b.good.reads, tt) refl (block_ok n true true (low_list list) l.0 b.good.stray b.good.list (b.base ∙ t)) (λ env. ldm_at env at list true n (low_list list) b.mask e)

pub ldm : (at list : ℕ) (n : Reg) → list < 256 → fit_of (Ldm n list) ≡ None → IsReadSo (Ldm n list) at
ldm at list n h e = ldm_by at list n (has_bit list n.number) refl h e
