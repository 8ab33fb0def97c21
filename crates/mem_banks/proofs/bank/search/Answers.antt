use Rattle.std.proofs.Common.{ℕ, ◌≤◌, ◌<◌, ◌-◌, ◌≡◌, ◌⊎◌, inl, inr, List, length, get_or, arith}
use Rattle.std.proofs.lemmas.Bool.{cases_lt}
use Rattle.mem_banks.specs.declared.bank.Bank.{Bank}
use Rattle.mem_banks.specs.Banks.{IsAt}
use Rattle.mem_banks.proofs.bank.search.Goals as goal
use Rattle.mem_banks.proofs.bank.search.Goals.{then-addr-bank+else-at-len, else-addr-bank}

not_here : (banks : List Bank) (j k o a : ℕ) (b : Bank) → b ≡ get_or banks k b → j ≡ k → IsAt banks j o a → (a < b.base) ⊎ (length b.bytes.items ≤ a - b.base) → ⊥
not_here banks j k o a b e same at h =
    let here = rw (same, ← e) at (at.1 b) in
    elim h [ inl x ↦ omega arith | inr x ↦ omega arith ]

pub loop-k-preserved : goal.loop-k-preserved
loop-k-preserved c j o at = elim (cases_lt c.loop-k.k j) [
  | inl lt ↦ omega arith
  | inr le ↦ absurd (not_here c.args.banks.now j c.loop-k.k o c.args.addr _ c.index-banks-k.is (omega (arith, c.loop-k.invariant j o at)) at (elim c.if-addr-bank.branch [
    | then-addr-bank+else-at-len w ↦ inr (omega (arith, w.len.ensures, w.if-at-len.false))
    | else-addr-bank w ↦ inl (omega (arith, w.if-addr-bank.false))
  ]))
]

pub returns-clause-none : goal.returns-clause-none
returns-clause-none c k o at = omega (arith, at.0, c.loop-k.invariant k o at)
