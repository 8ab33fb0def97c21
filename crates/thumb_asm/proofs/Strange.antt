-- Operands that no syntax takes, by the cases of the code.
use Rattle.std.proofs.Common.{◌≡◌, ℕ, List, [], ◌∷◌, None, refl, sym, true, Bor}
use Rattle.thumb_insn.specs.declared.Reg.{Reg}
use Rattle.thumb_asm.specs.declared.Mnemonic.{Mnemonic}
use Rattle.thumb_asm.specs.declared.operand.Operand.{Operand as Held}
use Rattle.thumb_asm.specs.declared.operand.Operand.TheVariants as held
use Rattle.thumb_asm.specs.Operands.{Operand, Register, Raised, Expression}
use Rattle.thumb_asm.specs.Syntax.{shaped}
use Rattle.thumb_asm.specs.Kinds.{operand_of, IsPlain}
use Rattle.thumb_asm.proofs.Counts.{is_strange, no_shape}

strange : (m : Mnemonic) (os : List Operand) → IsPlain m → is_strange os ≡ true → None ≡ shaped m os
strange m os p h = sym (no_shape m os p h)

-- one operand
pub one_strange : (m : Mnemonic) (o : Held) → IsPlain m → ((r : Reg) → o ≡ held.Register r → ⊥) → ((e : Bor (List ℕ)) → o ≡ held.Immediate e → ⊥) → ((e : Bor (List ℕ)) → o ≡ held.Expression e → ⊥) → ((e : Bor (List ℕ)) → o ≡ held.Registers e → ⊥) → ((e : Bor (List ℕ)) → o ≡ held.Quoted e → ⊥) → None ≡ shaped m (operand_of o ∷ [])
one_strange m (held.Register r) p h0 h1 h2 h3 h4 = absurd (h0 r refl)
one_strange m (held.Raised r) p h0 h1 h2 h3 h4 = strange m _ p refl
one_strange m (held.Immediate e) p h0 h1 h2 h3 h4 = absurd (h1 e refl)
one_strange m (held.Expression e) p h0 h1 h2 h3 h4 = absurd (h2 e refl)
one_strange m (held.Memory n) p h0 h1 h2 h3 h4 = strange m _ p refl
one_strange m (held.MemoryRegister n k) p h0 h1 h2 h3 h4 = strange m _ p refl
one_strange m (held.MemoryImmediate n e) p h0 h1 h2 h3 h4 = strange m _ p refl
one_strange m (held.Registers e) p h0 h1 h2 h3 h4 = absurd (h3 e refl)
one_strange m (held.Quoted e) p h0 h1 h2 h3 h4 = absurd (h4 e refl)

-- two operands
pub behind_register : (m : Mnemonic) (r : Reg) (o : Held) → IsPlain m → ((r : Reg) → o ≡ held.Register r → ⊥) → ((e : Bor (List ℕ)) → o ≡ held.Immediate e → ⊥) → ((e : Bor (List ℕ)) → o ≡ held.Expression e → ⊥) → ((n : Reg) → o ≡ held.Memory n → ⊥) → ((n k : Reg) → o ≡ held.MemoryRegister n k → ⊥) → ((n : Reg) (e : Bor (List ℕ)) → o ≡ held.MemoryImmediate n e → ⊥) → ((e : Bor (List ℕ)) → o ≡ held.Registers e → ⊥) → None ≡ shaped m (Register r ∷ operand_of o ∷ [])
behind_register m q (held.Register r) p h0 h1 h2 h3 h4 h5 h6 = absurd (h0 r refl)
behind_register m q (held.Raised r) p h0 h1 h2 h3 h4 h5 h6 = strange m _ p refl
behind_register m q (held.Immediate e) p h0 h1 h2 h3 h4 h5 h6 = absurd (h1 e refl)
behind_register m q (held.Expression e) p h0 h1 h2 h3 h4 h5 h6 = absurd (h2 e refl)
behind_register m q (held.Memory n) p h0 h1 h2 h3 h4 h5 h6 = absurd (h3 n refl)
behind_register m q (held.MemoryRegister n k) p h0 h1 h2 h3 h4 h5 h6 = absurd (h4 n k refl)
behind_register m q (held.MemoryImmediate n e) p h0 h1 h2 h3 h4 h5 h6 = absurd (h5 n e refl)
behind_register m q (held.Registers e) p h0 h1 h2 h3 h4 h5 h6 = absurd (h6 e refl)
behind_register m q (held.Quoted e) p h0 h1 h2 h3 h4 h5 h6 = strange m _ p refl

pub behind_raised : (m : Mnemonic) (r : Reg) (o : Held) → IsPlain m → ((e : Bor (List ℕ)) → o ≡ held.Registers e → ⊥) → None ≡ shaped m (Raised r ∷ operand_of o ∷ [])
behind_raised m q (held.Register r) p h0 = strange m _ p refl
behind_raised m q (held.Raised r) p h0 = strange m _ p refl
behind_raised m q (held.Immediate e) p h0 = strange m _ p refl
behind_raised m q (held.Expression e) p h0 = strange m _ p refl
behind_raised m q (held.Memory n) p h0 = strange m _ p refl
behind_raised m q (held.MemoryRegister n k) p h0 = strange m _ p refl
behind_raised m q (held.MemoryImmediate n e) p h0 = strange m _ p refl
behind_raised m q (held.Registers e) p h0 = absurd (h0 e refl)
behind_raised m q (held.Quoted e) p h0 = strange m _ p refl

pub behind_expression : (m : Mnemonic) (t : List ℕ) (o : Held) → IsPlain m → ((r : Reg) → o ≡ held.Register r → ⊥) → None ≡ shaped m (Expression t ∷ operand_of o ∷ [])
behind_expression m t (held.Register r) p h0 = absurd (h0 r refl)
behind_expression m t (held.Raised r) p h0 = strange m _ p refl
behind_expression m t (held.Immediate e) p h0 = strange m _ p refl
behind_expression m t (held.Expression e) p h0 = strange m _ p refl
behind_expression m t (held.Memory n) p h0 = strange m _ p refl
behind_expression m t (held.MemoryRegister n k) p h0 = strange m _ p refl
behind_expression m t (held.MemoryImmediate n e) p h0 = strange m _ p refl
behind_expression m t (held.Registers e) p h0 = strange m _ p refl
behind_expression m t (held.Quoted e) p h0 = strange m _ p refl

pub two_strange : (m : Mnemonic) (o : Held) (b : Operand) → IsPlain m → ((r : Reg) → o ≡ held.Register r → ⊥) → ((r : Reg) → o ≡ held.Raised r → ⊥) → ((e : Bor (List ℕ)) → o ≡ held.Expression e → ⊥) → None ≡ shaped m (operand_of o ∷ b ∷ [])
two_strange m (held.Register r) b p h0 h1 h2 = absurd (h0 r refl)
two_strange m (held.Raised r) b p h0 h1 h2 = absurd (h1 r refl)
two_strange m (held.Immediate e) b p h0 h1 h2 = strange m _ p refl
two_strange m (held.Expression e) b p h0 h1 h2 = absurd (h2 e refl)
two_strange m (held.Memory n) b p h0 h1 h2 = strange m _ p refl
two_strange m (held.MemoryRegister n k) b p h0 h1 h2 = strange m _ p refl
two_strange m (held.MemoryImmediate n e) b p h0 h1 h2 = strange m _ p refl
two_strange m (held.Registers e) b p h0 h1 h2 = strange m _ p refl
two_strange m (held.Quoted e) b p h0 h1 h2 = strange m _ p refl

-- three operands
pub behind_registers : (m : Mnemonic) (x y : Reg) (o : Held) → IsPlain m → ((r : Reg) → o ≡ held.Register r → ⊥) → ((e : Bor (List ℕ)) → o ≡ held.Immediate e → ⊥) → None ≡ shaped m (Register x ∷ Register y ∷ operand_of o ∷ [])
behind_registers m x y (held.Register r) p h0 h1 = absurd (h0 r refl)
behind_registers m x y (held.Raised r) p h0 h1 = strange m _ p refl
behind_registers m x y (held.Immediate e) p h0 h1 = absurd (h1 e refl)
behind_registers m x y (held.Expression e) p h0 h1 = strange m _ p refl
behind_registers m x y (held.Memory n) p h0 h1 = strange m _ p refl
behind_registers m x y (held.MemoryRegister n k) p h0 h1 = strange m _ p refl
behind_registers m x y (held.MemoryImmediate n e) p h0 h1 = strange m _ p refl
behind_registers m x y (held.Registers e) p h0 h1 = strange m _ p refl
behind_registers m x y (held.Quoted e) p h0 h1 = strange m _ p refl

pub behind_first : (m : Mnemonic) (x : Reg) (o : Held) (c : Operand) → IsPlain m → ((r : Reg) → o ≡ held.Register r → ⊥) → None ≡ shaped m (Register x ∷ operand_of o ∷ c ∷ [])
behind_first m x (held.Register r) c p h0 = absurd (h0 r refl)
behind_first m x (held.Raised r) c p h0 = strange m _ p refl
behind_first m x (held.Immediate e) c p h0 = strange m _ p refl
behind_first m x (held.Expression e) c p h0 = strange m _ p refl
behind_first m x (held.Memory n) c p h0 = strange m _ p refl
behind_first m x (held.MemoryRegister n k) c p h0 = strange m _ p refl
behind_first m x (held.MemoryImmediate n e) c p h0 = strange m _ p refl
behind_first m x (held.Registers e) c p h0 = strange m _ p refl
behind_first m x (held.Quoted e) c p h0 = strange m _ p refl

pub three_strange : (m : Mnemonic) (o : Held) (b c : Operand) → IsPlain m → ((r : Reg) → o ≡ held.Register r → ⊥) → None ≡ shaped m (operand_of o ∷ b ∷ c ∷ [])
three_strange m (held.Register r) b c p h0 = absurd (h0 r refl)
three_strange m (held.Raised r) b c p h0 = strange m _ p refl
three_strange m (held.Immediate e) b c p h0 = strange m _ p refl
three_strange m (held.Expression e) b c p h0 = strange m _ p refl
three_strange m (held.Memory n) b c p h0 = strange m _ p refl
three_strange m (held.MemoryRegister n k) b c p h0 = strange m _ p refl
three_strange m (held.MemoryImmediate n e) b c p h0 = strange m _ p refl
three_strange m (held.Registers e) b c p h0 = strange m _ p refl
three_strange m (held.Quoted e) b c p h0 = strange m _ p refl
