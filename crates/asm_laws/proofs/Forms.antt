-- Instructions by the kinds of their operands.
use Rattle.std.proofs.Common.{◌≡◌, ℕ, zero, suc, ◌+◌, ◌-◌, ◌*◌, ◌/◌, ◌<◌, ◌≤◌, List, [], ◌∷◌, refl, ap, ◌∙◌, arith, true, false, Some, None, decimal, subst, ⊎_elim}
use Rattle.std.proofs.Math.IntN.{sub_ℕ}
use Rattle.std.proofs.lemmas.Bool.{cases_lt, le-ltb, lt-ltb}
use Rattle.std.specs.Prelude.{ℤ, pos, negsuc, ◌-ℤ◌, ◌+ℤ◌}
use Rattle.std.specs.List.{list_all}
use Rattle.thumb_insn.specs.declared.Reg.{Reg}
use Rattle.thumb_insn.specs.declared.Insn.{Insn}
use Rattle.thumb_insn.specs.Text.{insn_text, line, reg_text, imm, place, at_sum, literal_target, branch_target}
use Rattle.thumb_encode.specs.Codes.{fit_of}
use Rattle.thumb_asm.specs.Operands.{Register, Immediate, Expression, MemoryRegister, MemoryImmediate, ◌>>=◌}
use Rattle.thumb_asm.specs.Syntax.{Fixed, Filled, Within, Aimed, Near, mnemonic, shaped}
use Rattle.thumb_asm.specs.Sizes.{is_register_fit}
use Rattle.thumb_asm.proofs.Bytes.{is_solid}
use Rattle.asm_laws.specs.Reading.{IsAddress}
use Rattle.asm_laws.proofs.Numbers.{decimal_is, place_value}
use Rattle.asm_laws.proofs.Operands.{reads_reg, reads_imm, reads_place, reads_sum, reads_beyond}
use Rattle.asm_laws.proofs.Shapes.{IsReadSo, is_word, say, fixed_ok, fixed_at, filled_ok, filled_at, within_ok, within_at, near_ok, near_at, aimed_ok, aimed_at, IsNear}

pub one_reg : (i : Insn) (at : ℕ) (name : List ℕ) (m : Reg) → insn_text i at ≡ line name (reg_text m ∷ []) → is_word name ≡ true → list_all is_solid name ≡ true → (mnemonic name >>= λ q. shaped q (Register m ∷ [])) ≡ Some (Fixed i) → fit_of i ≡ None → m.number < 16 → IsReadSo i at
one_reg i at name m t n s q e h = say i at name (reg_text m) ([]) (Register m) ([]) (Fixed i) t n s refl (reads_reg m h) tt q (fixed_ok i e) (λ env. fixed_at env at i e)

pub two_regs : (i : Insn) (at : ℕ) (name : List ℕ) (d m : Reg) → insn_text i at ≡ line name (reg_text d ∷ reg_text m ∷ []) → is_word name ≡ true → list_all is_solid name ≡ true → (mnemonic name >>= λ q. shaped q (Register d ∷ Register m ∷ [])) ≡ Some (Fixed i) → fit_of i ≡ None → d.number < 16 → m.number < 16 → IsReadSo i at
two_regs i at name d m t n s q e h i' = say i at name (reg_text d) (reg_text m ∷ []) (Register d) (Register m ∷ []) (Fixed i) t n s refl (reads_reg d h) (reads_reg m i', tt) q (fixed_ok i e) (λ env. fixed_at env at i e)

pub three_regs : (i : Insn) (at : ℕ) (name : List ℕ) (d n m : Reg) → insn_text i at ≡ line name (reg_text d ∷ reg_text n ∷ reg_text m ∷ []) → is_word name ≡ true → list_all is_solid name ≡ true → (mnemonic name >>= λ q. shaped q (Register d ∷ Register n ∷ Register m ∷ [])) ≡ Some (Fixed i) → fit_of i ≡ None → d.number < 16 → n.number < 16 → m.number < 16 → IsReadSo i at
three_regs i at name d n m t u s q e h j k = say i at name (reg_text d) (reg_text n ∷ reg_text m ∷ []) (Register d) (Register n ∷ Register m ∷ []) (Fixed i) t u s refl (reads_reg d h) (reads_reg n j, (reads_reg m k, tt)) q (fixed_ok i e) (λ env. fixed_at env at i e)

pub mem_reg : (i : Insn) (at : ℕ) (name : List ℕ) (p n m : Reg) → insn_text i at ≡ line name (reg_text p ∷ at_sum (reg_text n) (reg_text m) ∷ []) → is_word name ≡ true → list_all is_solid name ≡ true → (mnemonic name >>= λ q. shaped q (Register p ∷ MemoryRegister n m ∷ [])) ≡ Some (Fixed i) → fit_of i ≡ None → p.number < 16 → n.number < 16 → m.number < 16 → IsReadSo i at
mem_reg i at name p n m t u s q e h j k = say i at name (reg_text p) (at_sum (reg_text n) (reg_text m) ∷ []) (Register p) (MemoryRegister n m ∷ []) (Fixed i) t u s refl (reads_reg p h) (reads_sum n m j k, tt) q (fixed_ok i e) (λ env. fixed_at env at i e)

pub one_imm : (f : ℕ → Insn) (at : ℕ) (name : List ℕ) (v : ℕ) → insn_text (f v) at ≡ line name (imm v ∷ []) → is_word name ≡ true → list_all is_solid name ≡ true → (mnemonic name >>= λ q. shaped q (Immediate (decimal v) ∷ [])) ≡ Some (Filled (decimal v) f) → fit_of (f v) ≡ None → is_register_fit (fit_of (f 0)) ≡ false → v < 1024 → IsReadSo (f v) at
one_imm f at name v t u s q e r b = say (f v) at name (imm v) ([]) (Immediate (decimal v)) ([]) (Filled (decimal v) f) t u s refl (reads_imm v b) tt q (filled_ok (decimal v) f v r (decimal_is v b).is) (λ env. filled_at env at (decimal v) f v (decimal_is v b).is b e)

pub reg_imm : (f : ℕ → Insn) (at : ℕ) (name : List ℕ) (d : Reg) (v : ℕ) → insn_text (f v) at ≡ line name (reg_text d ∷ imm v ∷ []) → is_word name ≡ true → list_all is_solid name ≡ true → (mnemonic name >>= λ q. shaped q (Register d ∷ Immediate (decimal v) ∷ [])) ≡ Some (Filled (decimal v) f) → fit_of (f v) ≡ None → is_register_fit (fit_of (f 0)) ≡ false → d.number < 16 → v < 1024 → IsReadSo (f v) at
reg_imm f at name d v t u s q e r h b = say (f v) at name (reg_text d) (imm v ∷ []) (Register d) (Immediate (decimal v) ∷ []) (Filled (decimal v) f) t u s refl (reads_reg d h) (reads_imm v b, tt) q (filled_ok (decimal v) f v r (decimal_is v b).is) (λ env. filled_at env at (decimal v) f v (decimal_is v b).is b e)

pub reg_reg_imm : (f : ℕ → Insn) (at : ℕ) (name : List ℕ) (d n : Reg) (v : ℕ) → insn_text (f v) at ≡ line name (reg_text d ∷ reg_text n ∷ imm v ∷ []) → is_word name ≡ true → list_all is_solid name ≡ true → (mnemonic name >>= λ q. shaped q (Register d ∷ Register n ∷ Immediate (decimal v) ∷ [])) ≡ Some (Filled (decimal v) f) → fit_of (f v) ≡ None → is_register_fit (fit_of (f 0)) ≡ false → d.number < 16 → n.number < 16 → v < 1024 → IsReadSo (f v) at
reg_reg_imm f at name d n v t u s q e r h j b = say (f v) at name (reg_text d) (reg_text n ∷ imm v ∷ []) (Register d) (Register n ∷ Immediate (decimal v) ∷ []) (Filled (decimal v) f) t u s refl (reads_reg d h) (reads_reg n j, (reads_imm v b, tt)) q (filled_ok (decimal v) f v r (decimal_is v b).is) (λ env. filled_at env at (decimal v) f v (decimal_is v b).is b e)

pub mem_imm : (f : ℕ → Insn) (at : ℕ) (name : List ℕ) (p n : Reg) (v : ℕ) → insn_text (f v) at ≡ line name (reg_text p ∷ at_sum (reg_text n) (imm v) ∷ []) → is_word name ≡ true → list_all is_solid name ≡ true → (mnemonic name >>= λ q. shaped q (Register p ∷ MemoryImmediate n (decimal v) ∷ [])) ≡ Some (Filled (decimal v) f) → fit_of (f v) ≡ None → is_register_fit (fit_of (f 0)) ≡ false → p.number < 16 → n.number < 16 → v < 1024 → IsReadSo (f v) at
mem_imm f at name p n v t u s q e r h j b = say (f v) at name (reg_text p) (at_sum (reg_text n) (imm v) ∷ []) (Register p) (MemoryImmediate n (decimal v) ∷ []) (Filled (decimal v) f) t u s refl (reads_reg p h) (reads_beyond n v j b, tt) q (filled_ok (decimal v) f v r (decimal_is v b).is) (λ env. filled_at env at (decimal v) f v (decimal_is v b).is b e)

pub one_within : (low top : ℕ) (f : ℕ → Insn) (at : ℕ) (name : List ℕ) (v : ℕ) → insn_text (f v) at ≡ line name (imm v ∷ []) → is_word name ≡ true → list_all is_solid name ≡ true → (mnemonic name >>= λ q. shaped q (Immediate (decimal v) ∷ [])) ≡ Some (Within low top (decimal v) f) → fit_of (f v) ≡ None → is_register_fit (fit_of (f 0)) ≡ false → low ≤ v → v ≤ top → v < 1024 → IsReadSo (f v) at
one_within low top f at name v t u s q e r l m b = say (f v) at name (imm v) [] (Immediate (decimal v)) [] (Within low top (decimal v) f) t u s refl (reads_imm v b) tt q (within_ok low top (decimal v) f v r (decimal_is v b).is) (λ env. within_at env at low top (decimal v) f v (decimal_is v b).is l m e)

pub regs_within : (low top : ℕ) (f : ℕ → Insn) (at : ℕ) (name : List ℕ) (d m : Reg) (v : ℕ) → insn_text (f v) at ≡ line name (reg_text d ∷ reg_text m ∷ imm v ∷ []) → is_word name ≡ true → list_all is_solid name ≡ true → (mnemonic name >>= λ q. shaped q (Register d ∷ Register m ∷ Immediate (decimal v) ∷ [])) ≡ Some (Within low top (decimal v) f) → fit_of (f v) ≡ None → is_register_fit (fit_of (f 0)) ≡ false → d.number < 16 → m.number < 16 → low ≤ v → v ≤ top → v < 1024 → IsReadSo (f v) at
regs_within low top f at name d m v t u s q e r h j l k b = say (f v) at name (reg_text d) (reg_text m ∷ imm v ∷ []) (Register d) (Register m ∷ Immediate (decimal v) ∷ []) (Within low top (decimal v) f) t u s refl (reads_reg d h) (reads_reg m j, (reads_imm v b, tt)) q (within_ok low top (decimal v) f v r (decimal_is v b).is) (λ env. within_at env at low top (decimal v) f v (decimal_is v b).is l k e)

-- Targets.

literal_is : (at i : ℕ) → (at + 4) / 4 * 4 + i < 4294967296 → literal_target at i ≡ (at + 4) / 4 * 4 + i
literal_is at i h = omega arith

sub_pos : (a b n : ℕ) → a ≡ b + n → sub_ℕ a b ≡ pos n
sub_pos a b n h = rw (le-ltb a b (omega arith)) (ap pos (omega arith))

sub_neg : (a b n : ℕ) → a + suc n ≡ b → sub_ℕ a b ≡ negsuc n
sub_neg a b n h = rw (lt-ltb a b (omega arith)) (ap negsuc (omega arith))

minus : (x b : ℕ) → 0 < b → pos x -ℤ pos b ≡ sub_ℕ x b
minus x zero h = absurd (omega arith)
minus x (suc b) h = refl

literal_back : (b i : ℕ) → 0 < b → pos (b + i) -ℤ pos b ≡ pos i
literal_back b i h = minus (b + i) b h ∙ sub_pos (b + i) b i refl

pub near : (f : ℕ → Insn) (at : ℕ) (name : List ℕ) (d : Reg) (v : ℕ) → insn_text (f v) at ≡ line name (reg_text d ∷ place (literal_target at v) ∷ []) → is_word name ≡ true → list_all is_solid name ≡ true → (mnemonic name >>= λ q. shaped q (Register d ∷ Expression (place (literal_target at v)) ∷ [])) ≡ Some (Near (place (literal_target at v)) f) → fit_of (f v) ≡ None → is_register_fit (fit_of (f 0)) ≡ false → d.number < 16 → v < 1024 → (at + 4) / 4 * 4 + v < 4294967296 → IsReadSo (f v) at
near f at name d v t u s q e r h b w =
    let k = literal_is at v w in
    let n : literal_target at v < 4294967296 = omega arith in
    let g = place_value (literal_target at v) n in
    say (f v) at name (reg_text d) (place (literal_target at v) ∷ []) (Register d) (Expression (place (literal_target at v)) ∷ []) (Near (place (literal_target at v)) f) t u s refl (reads_reg d h) (reads_place (literal_target at v), tt) q (near_ok (place (literal_target at v)) f (literal_target at v) r g) (λ env. near_at env at (place (literal_target at v)) f (literal_target at v) v g (ap (λ x. pos x -ℤ pos ((at + 4) / 4 * 4)) k ∙ literal_back ((at + 4) / 4 * 4) v (omega arith)) b e)

branch_small : (at : ℕ) (z : ℤ) → branch_target at z < 4294967296
branch_small at z = omega arith

forward : (at n : ℕ) → at + 4 + n < 4294967296 → branch_target at (pos n) ≡ at + 4 + n
forward at n h = omega arith

backward : (at n : ℕ) → n < at + 4 → at + 3 - n < 4294967296 → n < 4294967296 → branch_target at (negsuc n) ≡ at + 3 - n
backward at n h k l = omega arith

back_pos : (at n : ℕ) → pos (at + 4 + n) -ℤ pos (at + 4) ≡ pos n
back_pos at n = minus (at + 4 + n) (at + 4) (omega arith) ∙ sub_pos (at + 4 + n) (at + 4) n refl

back_neg : (at n : ℕ) → n < at + 4 → pos (at + 3 - n) -ℤ pos (at + 4) ≡ negsuc n
back_neg at n h = minus (at + 3 - n) (at + 4) (omega arith) ∙ sub_neg (at + 3 - n) (at + 4) n (omega arith)

ahead_is : (at n : ℕ) → pos (at + 4) +ℤ pos n ≡ pos (at + 4 + n)
ahead_is at n = refl

behind_is : (at n : ℕ) → n < at + 4 → pos (at + 4) +ℤ negsuc n ≡ pos (at + 3 - n)
behind_is at n h = sub_pos (at + 4) (suc n) (at + 3 - n) (omega arith)

below_is : (at n : ℕ) → at + 4 ≤ n → pos (at + 4) +ℤ negsuc n ≡ negsuc (n - (at + 4))
below_is at n h = sub_neg (at + 4) (suc n) (n - (at + 4)) (omega arith)

branch_back : (at : ℕ) (z : ℤ) → IsNear z → IsAddress (pos (at + 4) +ℤ z) → pos (branch_target at z) -ℤ pos (at + 4) ≡ z
branch_back at (pos n) b h = let k = subst IsAddress (ahead_is at n) h in ap (λ x. pos x -ℤ pos (at + 4)) (forward at n k) ∙ back_pos at n
branch_back at (negsuc n) b h = ⊎_elim
    (λ l. let k = subst IsAddress (behind_is at n l) h in ap (λ x. pos x -ℤ pos (at + 4)) (backward at n l k (omega arith)) ∙ back_neg at n l)
    (λ l. absurd (subst IsAddress (below_is at n l) h))
    (cases_lt n (at + 4))

pub aims : (f : ℤ → Insn) (at : ℕ) (name : List ℕ) (z : ℤ) → insn_text (f z) at ≡ line name (place (branch_target at z) ∷ []) → is_word name ≡ true → list_all is_solid name ≡ true → (mnemonic name >>= λ q. shaped q (Expression (place (branch_target at z)) ∷ [])) ≡ Some (Aimed (place (branch_target at z)) f) → fit_of (f z) ≡ None → IsNear z → IsAddress (pos (at + 4) +ℤ z) → IsReadSo (f z) at
aims f at name z t u s q e b w =
    let g = place_value (branch_target at z) (branch_small at z) in
    say (f z) at name (place (branch_target at z)) [] (Expression (place (branch_target at z))) [] (Aimed (place (branch_target at z)) f) t u s refl (reads_place (branch_target at z)) tt q (aimed_ok (place (branch_target at z)) f (branch_target at z) g) (λ env. aimed_at env at (place (branch_target at z)) f (branch_target at z) z g (branch_back at z b w) b e)
