-- The names of registers are read as these registers.
use Rattle.std.proofs.Common.{◌≡◌, ℕ, nat_le, length, zero, suc, ◌<◌, ◌++◌, refl, arith, true, false, Some, codes}
use Rattle.std.specs.List.{list_all}
use Rattle.std.specs.Fmt.{digits}
use Rattle.thumb_insn.specs.Fields.{reg}
use Rattle.thumb_insn.specs.declared.Reg.{Reg}
use Rattle.thumb_insn.specs.Text.{register_name}
use Rattle.thumb_asm.specs.Chars.{is_nil, register, register_names, entry_at, strip, strip_front, strip_end}
use Rattle.thumb_asm.specs.Operands.{Register, Raised, MemoryRegister, operand, closed_by, split_by, stripped_by, ends, offset}
use Rattle.thumb_asm.proofs.Bytes.{is_solid}

-- one of sixteen
pub sixteen : (P : ℕ → Type 0) → P 0 → P 1 → P 2 → P 3 → P 4 → P 5 → P 6 → P 7 → P 8 → P 9 → P 10 → P 11 → P 12 → P 13 → P 14 → P 15 → (k : ℕ) → k < 16 → P k
sixteen P a b c d e f g h i j l m n o p q zero u = a
sixteen P a b c d e f g h i j l m n o p q (suc zero) u = b
sixteen P a b c d e f g h i j l m n o p q (suc (suc zero)) u = c
sixteen P a b c d e f g h i j l m n o p q (suc (suc (suc zero))) u = d
sixteen P a b c d e f g h i j l m n o p q (suc (suc (suc (suc zero)))) u = e
sixteen P a b c d e f g h i j l m n o p q (suc (suc (suc (suc (suc zero))))) u = f
sixteen P a b c d e f g h i j l m n o p q (suc (suc (suc (suc (suc (suc zero)))))) u = g
sixteen P a b c d e f g h i j l m n o p q (suc (suc (suc (suc (suc (suc (suc zero))))))) u = h
sixteen P a b c d e f g h i j l m n o p q (suc (suc (suc (suc (suc (suc (suc (suc zero)))))))) u = i
sixteen P a b c d e f g h i j l m n o p q (suc (suc (suc (suc (suc (suc (suc (suc (suc zero))))))))) u = j
sixteen P a b c d e f g h i j l m n o p q (suc (suc (suc (suc (suc (suc (suc (suc (suc (suc zero)))))))))) u = l
sixteen P a b c d e f g h i j l m n o p q (suc (suc (suc (suc (suc (suc (suc (suc (suc (suc (suc zero))))))))))) u = m
sixteen P a b c d e f g h i j l m n o p q (suc (suc (suc (suc (suc (suc (suc (suc (suc (suc (suc (suc zero)))))))))))) u = n
sixteen P a b c d e f g h i j l m n o p q (suc (suc (suc (suc (suc (suc (suc (suc (suc (suc (suc (suc (suc zero))))))))))))) u = o
sixteen P a b c d e f g h i j l m n o p q (suc (suc (suc (suc (suc (suc (suc (suc (suc (suc (suc (suc (suc (suc zero)))))))))))))) u = p
sixteen P a b c d e f g h i j l m n o p q (suc (suc (suc (suc (suc (suc (suc (suc (suc (suc (suc (suc (suc (suc (suc zero))))))))))))))) u = q
sixteen P a b c d e f g h i j l m n o p q (suc (suc (suc (suc (suc (suc (suc (suc (suc (suc (suc (suc (suc (suc (suc (suc r)))))))))))))))) u = absurd (omega arith)

-- what the reader makes of a register's name
pub record Named (k : ℕ) : Type 0 where
  pub some : is_nil (register_name k) ≡ false
  pub solid : list_all is_solid (register_name k) ≡ true
  pub is : register (register_name k) ≡ Some k
  pub alone : operand (register_name k) ≡ Some (Register (reg k))
  pub short : nat_le (length (register_name k)) 4 ≡ true
  pub short_raised : nat_le (length (register_name k ++ codes "!")) 60 ≡ true
  pub solid_raised : list_all is_solid (register_name k ++ codes "!") ≡ true
  pub some_raised : is_nil (register_name k ++ codes "!") ≡ false
  pub raised : operand (register_name k ++ codes "!") ≡ Some (Raised (reg k))
  pub listed : ends (stripped_by 45 (register_name k)) ≡ Some (k, k)
  pub added : (n : Reg) → offset n (register_name k) ≡ Some (MemoryRegister n (reg k))

pub named : (k : ℕ) → k < 16 → Named k
unfolding digits register register_names entry_at operand closed_by strip strip_front strip_end split_by
named = sixteen Named
    (record { some = refl; solid = refl; is = refl; alone = refl; solid_raised = refl; short = refl; short_raised = refl; some_raised = refl; raised = refl; listed = refl; added = λ n. refl })
    (record { some = refl; solid = refl; is = refl; alone = refl; solid_raised = refl; short = refl; short_raised = refl; some_raised = refl; raised = refl; listed = refl; added = λ n. refl })
    (record { some = refl; solid = refl; is = refl; alone = refl; solid_raised = refl; short = refl; short_raised = refl; some_raised = refl; raised = refl; listed = refl; added = λ n. refl })
    (record { some = refl; solid = refl; is = refl; alone = refl; solid_raised = refl; short = refl; short_raised = refl; some_raised = refl; raised = refl; listed = refl; added = λ n. refl })
    (record { some = refl; solid = refl; is = refl; alone = refl; solid_raised = refl; short = refl; short_raised = refl; some_raised = refl; raised = refl; listed = refl; added = λ n. refl })
    (record { some = refl; solid = refl; is = refl; alone = refl; solid_raised = refl; short = refl; short_raised = refl; some_raised = refl; raised = refl; listed = refl; added = λ n. refl })
    (record { some = refl; solid = refl; is = refl; alone = refl; solid_raised = refl; short = refl; short_raised = refl; some_raised = refl; raised = refl; listed = refl; added = λ n. refl })
    (record { some = refl; solid = refl; is = refl; alone = refl; solid_raised = refl; short = refl; short_raised = refl; some_raised = refl; raised = refl; listed = refl; added = λ n. refl })
    (record { some = refl; solid = refl; is = refl; alone = refl; solid_raised = refl; short = refl; short_raised = refl; some_raised = refl; raised = refl; listed = refl; added = λ n. refl })
    (record { some = refl; solid = refl; is = refl; alone = refl; solid_raised = refl; short = refl; short_raised = refl; some_raised = refl; raised = refl; listed = refl; added = λ n. refl })
    (record { some = refl; solid = refl; is = refl; alone = refl; solid_raised = refl; short = refl; short_raised = refl; some_raised = refl; raised = refl; listed = refl; added = λ n. refl })
    (record { some = refl; solid = refl; is = refl; alone = refl; solid_raised = refl; short = refl; short_raised = refl; some_raised = refl; raised = refl; listed = refl; added = λ n. refl })
    (record { some = refl; solid = refl; is = refl; alone = refl; solid_raised = refl; short = refl; short_raised = refl; some_raised = refl; raised = refl; listed = refl; added = λ n. refl })
    (record { some = refl; solid = refl; is = refl; alone = refl; solid_raised = refl; short = refl; short_raised = refl; some_raised = refl; raised = refl; listed = refl; added = λ n. refl })
    (record { some = refl; solid = refl; is = refl; alone = refl; solid_raised = refl; short = refl; short_raised = refl; some_raised = refl; raised = refl; listed = refl; added = λ n. refl })
    (record { some = refl; solid = refl; is = refl; alone = refl; solid_raised = refl; short = refl; short_raised = refl; some_raised = refl; raised = refl; listed = refl; added = λ n. refl })
