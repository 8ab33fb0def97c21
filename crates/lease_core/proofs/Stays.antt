-- Entries that stay kept: where bytes that move between a lease and a buffer are written.
use Rattle.std.proofs.Common.{◌≡◌, ◌+◌, ◌-◌, ◌*◌, ◌<◌, ◌≤◌, ◌⊎◌, inl, inr, ℕ, zero, suc, Bool, true, false, ◌&&◌, ltb, List, [], ◌∷◌, ◌++◌, length, Some, refl, sym, subst, ◌∙◌, ap, arith}
use Rattle.std.specs.Prelude.{Contains}
use Rattle.std.proofs.lemmas.Bool.{cases_lt, le-ltb}
use Rattle.std.proofs.lemmas.List.Elements.{Contains-append_right}
use Rattle.mem_banks.specs.Memory.{Memory, bytes_at, IsWithin}
use Rattle.mem_banks.proofs.Copies.{bytes_ram, bytes_flash, bytes_zero, length_part}
use Rattle.kernel_abi.specs.declared.LeaseEntry.{LeaseEntry}
use Rattle.task_table.specs.model.State.{State, Call, Ground, Own, Lease, Write, Turn}
use Rattle.task_table.specs.model.Borrows.{grant, moved}
use Rattle.task_table.specs.model.Effects.{looked, copied, writes_on}
use Rattle.task_table.specs.kept.Entries.{kept_at, IsKeptFor, meets}
use Rattle.task_table.specs.kept.Holds.{entries_of}
use Rattle.task_table.specs.declared.entry.KeptEntry.{KeptEntry}
use Rattle.task_table.specs.declared.kernel.Kernel.{Kernel}
use Rattle.lease_core.specs.Loans.{way_of, IsBuffer, IsLeased, WritesNone, IsHeldAfter, target, IsClear}
use Rattle.lease_core.specs.declared.way.Way.{Way}
use Rattle.lease_core.specs.declared.way.Way.TheVariants as way

-- ## bytes that are clear of an entry do not overlap it

and_false : (b : Bool) → (b && false) ≡ false
and_false true = refl
and_false false = refl

pub clear_met : (y : KeptEntry) (a n : ℕ) → 0 < n → IsClear y.base a n → meets y a n ≡ false
clear_met y a n some clear = elim (cases_lt a (y.base + 12)) [
  | inr past ↦ let t : ltb a (y.base + 12) ≡ false = le-ltb _ _ past in rw t refl
  | inl low ↦ elim (cases_lt y.base (a + n)) [
    | inr above ↦ let t : ltb y.base (a + n) ≡ false = le-ltb _ _ above in rw (t, and_false (ltb a (y.base + 12))) refl
    | inl high ↦ elim (cases_lt a y.base) [
      | inl before ↦ elim (clear y.base (omega (arith, before)) high) [ inl lt ↦ absurd (omega (arith, lt)) | inr ge ↦ absurd (omega (arith, ge)) ]
      | inr from ↦ elim (clear a (omega arith) (omega (arith, some))) [ inl lt ↦ absurd (omega (arith, lt, from)) | inr ge ↦ absurd (omega (arith, ge, low)) ]
    ]
  ]
]

-- ## where bytes are written

-- each of the bytes is written
written_in : (on : Ground) (at : ℕ) (bytes : List ℕ) (b : ℕ) → at ≤ b → b < at + length bytes → (w : Write) × Contains (writes_on on at bytes) w × (w.address ≡ b)
written_in on at [] b from below = absurd (omega (arith, from, below))
written_in on at (y ∷ ys) b from below = elim (cases_lt at b) [
  | inl later ↦ let r = written_in on (at + 1) ys b (omega (arith, later)) (omega (arith, below)) in let i = r.1 in (r.0, (suc i.0, omega (arith, i.1), i.2), r.2)
  | inr here ↦ (record { on = on; address = at; byte = y }, (zero, omega arith, refl), omega (arith, from, here))
]

clear_written : (on : Ground) (to n base : ℕ) (bytes : List ℕ) (ws : List Write) → length bytes ≡ n → WritesNone (ws ++ writes_on on to bytes) base 12 → IsClear base to n
clear_written on to n base bytes ws many none = λ b from below.
    let r = written_in on to bytes b from (omega (arith, below, many)) in
    let apart = none r.0 (Contains-append_right ws (writes_on on to bytes) r.0 r.1) in
    subst (λ a. (a < base) ⊎ (base + 12 ≤ a)) r.2 apart

length_bytes : (m : Memory) (a n k : ℕ) → length m.flash ≤ 1048576 → IsWithin m a n → k ≤ n → length (bytes_at m a k) ≡ k
length_bytes m a n k small within few = elim within [
  | inl ram ↦ elim ram [
    | inl none ↦ let zero_bytes : k ≡ 0 = omega (arith, none, few) in ap (λ (xs : List ℕ). length xs) (bytes_zero m a k zero_bytes) ∙ sym zero_bytes
    | inr r ↦ ap (λ (xs : List ℕ). length xs) (bytes_ram m a k r.0) ∙ length_part m.ram (a - 0x20000000) k (omega (arith, r.0, r.1, few))
  ]
  | inr flash ↦ ap (λ (xs : List ℕ). length xs) (bytes_flash m a k (omega (arith, flash.1, small)) flash.0) ∙ length_part m.flash (a - 0x08000000) k (omega (arith, flash.0, flash.1, few))
]

pub clear_moved : (w : Way) (k : Call) (leased own n room base : ℕ) (t : Turn) → length t.state.memory.flash ≤ 1048576 → IsLeased w t.state.memory leased n → IsBuffer w t.state.memory own room → n ≤ room → WritesNone (moved (way_of w).borrow k leased own n t).writes base 12 → IsClear base (target w leased own) n
unfolding looked copied
clear_moved way.Read k leased own n room base t small source buffer few none =
    clear_written Own own n base (bytes_at t.state.memory leased n) t.writes (length_bytes t.state.memory leased n n small source (omega arith)) none
clear_moved way.Write k leased own n room base t small target buffer few none =
    clear_written (Lease k.number) leased n base (bytes_at t.state.memory own n) t.writes (length_bytes t.state.memory own room n small buffer few) none

-- ## an entry that was read stays kept

pub held_on : (old new : Kernel) (i table lease : ℕ) (k : Call) (s : State) (e : LeaseEntry) → k.client.index ≡ i → k.table ≡ table → grant s k lease ≡ e → IsKeptFor (entries_of old) i (table + 12 * lease) e → ((y : KeptEntry) → y.base ≡ table + 12 * lease → kept_at (entries_of old) i ≡ Some y → kept_at (entries_of new) i ≡ Some y) → IsHeldAfter new s k lease
held_on old new i table lease k s e client same is kept stay = (kept.0, rw client (stay kept.0 kept.2 kept.1), rw same kept.2, kept.3 ∙ sym is)
