-- The writes of a turn take the old memory to the new one.
use Rattle.std.proofs.Common.{◌≡◌, ◌+◌, ◌-◌, ◌<◌, ◌≤◌, inl, inr, ℕ, zero, suc, List, [], ◌∷◌, ◌++◌, length, take, drop, min, refl, sym, ◌∙◌, ap, arith}
use Rattle.mem_banks.proofs.Copies.{with_bytes_ram, with_bytes_none}
use Rattle.mem_banks.specs.Memory.{Memory, bytes_at, with_bytes, copied as copied_memory, IsWithinRam}
use Rattle.mem_banks.proofs.Stores.{length-with_bytes}
use Rattle.task_table.specs.model.State.{Setup, State, Ground, Write as Written, Turn}
use Rattle.task_table.specs.model.Effects.{with_call, with_taken, without_call, noted, stored, copied, looked, writes_on, closed, offered, with_devices}
use Rattle.task_table.specs.model.Placed.{ArePlaced}
use Rattle.task_table.specs.model.Grounds.{with_writes}
use Rattle.task_table.specs.model.Chain.{Chain}
use Rattle.task_table.specs.model.Step.{Step}
use Rattle.task_table.specs.model.Lives.{IsFresh}
use Rattle.task_table.proofs.model.Chains.{chain_keeps}
use Rattle.task_table.proofs.model.Handing.{few_bytes}
use Rattle.task_table.proofs.model.Ranges.{within_ram-front}
use Rattle.task_table.proofs.model.Moves.{taken_over, Move, Aside, Writes, Reads, Alters, Lends, Offers, Takes, Closes}
use Rattle.task_table.proofs.model.Happens.{chain_moves}

-- ## bytes over bytes, one by one

unfoldable pub over : List ℕ → ℕ → List ℕ → List ℕ
over xs zero bytes = bytes ++ drop (length bytes) xs
over [] (suc i) bytes = bytes
over (x ∷ xs) (suc i) bytes = x ∷ over xs i bytes

over_is : (xs : List ℕ) (i : ℕ) (bytes : List ℕ) → i ≤ length xs → take i xs ++ bytes ++ drop (i + length bytes) xs ≡ over xs i bytes
unfolding over
over_is xs zero bytes h = let e : 0 + length bytes ≡ length bytes = omega arith in rw e refl
over_is [] (suc i) bytes h = absurd (omega arith)
over_is (x ∷ xs) (suc i) bytes h = let e : suc i + length bytes ≡ suc (i + length bytes) = omega arith in rw e (ap (λ ys. x ∷ ys) (over_is xs i bytes (omega arith)))

over_step : (xs : List ℕ) (i b : ℕ) (bs : List ℕ) → i < length xs → over xs i (b ∷ bs) ≡ over (over xs i (b ∷ [])) (suc i) bs
unfolding over
over_step [] i b bs h = absurd (omega arith)
over_step (x ∷ xs) zero b bs h = refl
over_step (x ∷ xs) (suc i) b bs h = ap (λ ys. x ∷ ys) (over_step xs i b bs (omega arith))

length_over : (xs : List ℕ) (i b : ℕ) → i < length xs → length (over xs i (b ∷ [])) ≡ length xs
unfolding over
length_over [] i b h = absurd (omega arith)
length_over (x ∷ xs) zero b h = refl
length_over (x ∷ xs) (suc i) b h = ap suc (length_over xs i b (omega arith))

over_none : (xs : List ℕ) (i : ℕ) → i ≤ length xs → over xs i [] ≡ xs
unfolding over
over_none xs zero h = refl
over_none [] (suc i) h = absurd (omega arith)
over_none (x ∷ xs) (suc i) h = ap (λ ys. x ∷ ys) (over_none xs i (omega arith))

pub with_over : (m : Memory) (i at : ℕ) (bytes : List ℕ) → at ≡ 0x20000000 + i → i ≤ length m.ram → with_bytes m at bytes ≡ record m { ram = over m.ram i bytes }
with_over m i at bytes e h =
    let place : at - 0x20000000 ≡ i = omega arith in
    with_bytes_ram m at bytes (omega arith) ∙ rw place (ap (λ r. record m { ram = r }) (over_is m.ram i bytes h))

-- the bytes of a store, written one by one
one_by_one : (on : Ground) (bytes : List ℕ) (m : Memory) (i at : ℕ) → at ≡ 0x20000000 + i → i + length bytes ≤ length m.ram → record m { ram = over m.ram i bytes } ≡ with_writes m (writes_on on at bytes)
one_by_one on [] m i at e h = ap (λ r. record m { ram = r }) (over_none m.ram i (omega arith))
one_by_one on (b ∷ bs) m i at e h =
    let v : Memory = record m { ram = over m.ram i (b ∷ []) } in
    let many = length_over m.ram i b (omega arith) in
    ap (λ r. record m { ram = r }) (over_step m.ram i b bs (omega arith))
    ∙ one_by_one on bs v (suc i) (at + 1) (omega arith) (omega arith)
    ∙ ap (λ z. with_writes z (writes_on on (at + 1) bs)) (sym (with_over m i at (b ∷ []) e (omega arith)))

no_bytes : (m : Memory) (at : ℕ) → with_bytes m at [] ≡ m
no_bytes m at = sym (with_bytes_none m at [] refl)

-- what a store does is what its writes say
written_bytes : (on : Ground) (m : Memory) (at : ℕ) (bytes : List ℕ) → IsWithinRam m at (length bytes) → with_bytes m at bytes ≡ with_writes m (writes_on on at bytes)
written_bytes on m at [] within = no_bytes m at
written_bytes on m at (b ∷ bs) within = elim within [
  | inl none ↦ absurd (omega (arith, none))
  | inr x ↦
      let low = x.0 in
      let high = x.1 in
      with_over m (at - 0x20000000) at (b ∷ bs) (omega arith) (omega arith) ∙ one_by_one on (b ∷ bs) m (at - 0x20000000) at (omega arith) (omega arith)
]

joined_writes : (xs ys : List Written) (m : Memory) → with_writes m (xs ++ ys) ≡ with_writes (with_writes m xs) ys
joined_writes [] ys m = refl
joined_writes (x ∷ xs) ys m = joined_writes xs ys (with_bytes m x.address (x.byte ∷ []))

-- ## along a chain

record IsWritten (m : Memory) (u : Turn) : Type 0 where
  memory : u.state.memory ≡ with_writes m u.writes
  room : length u.state.memory.ram ≡ length m.ram

written_same : (m : Memory) (u v : Turn) → v.state.memory ≡ u.state.memory → v.writes ≡ u.writes → IsWritten m u → IsWritten m v
written_same m u v e w h = record { memory = e ∙ h.memory ∙ ap (with_writes m) (sym w); room = ap (λ (x : Memory). length x.ram) e ∙ h.room }

-- bytes within the RAM are written
written_more : (m : Memory) (on : Ground) (at : ℕ) (bytes : List ℕ) (u v : Turn) → IsWithinRam m at (length bytes) → v.state.memory ≡ with_bytes u.state.memory at bytes → v.writes ≡ u.writes ++ writes_on on at bytes → IsWritten m u → IsWritten m v
written_more m on at bytes u v within e w h =
    let room = h.room in
    let here : IsWithinRam u.state.memory at (length bytes) = elim within [ inl none ↦ inl none | inr x ↦ inr (x.0, let high = x.1 in omega arith) ] in
    record {
      memory = e ∙ written_bytes on u.state.memory at bytes here ∙ ap (λ z. with_writes z (writes_on on at bytes)) h.memory ∙ sym (joined_writes u.writes (writes_on on at bytes) m) ∙ ap (with_writes m) (sym w);
      room = ap (λ (x : Memory). length x.ram) e ∙ length-with_bytes u.state.memory at bytes here ∙ h.room;
    }

fresh_written : (s : State) (u : Turn) → IsFresh s u → IsWritten s.memory u
fresh_written s u f = record { memory = f.memory ∙ ap (with_writes s.memory) (sym f.writes); room = ap (λ (m : Memory). length m.ram) f.memory }

move_written : (g : Setup) (s : State) (c : ℕ) (u v : Turn) → Move g s c u v → IsWritten s.memory u → IsWritten s.memory v
unfolding stored looked noted offered with_call copied copied_memory with_taken closed without_call with_devices
move_written g s c _ _ (Aside u v a) h = written_same s.memory u v a.outside.memory a.outside.writes h
move_written g s c _ _ (Writes on at bytes u within may) h = written_more s.memory on at bytes u (stored on at bytes u) within refl refl h
move_written g s c _ _ (Reads r u alive) h = written_same s.memory u (looked r u) refl refl h
move_written g s c _ _ (Alters devices u reached) h = written_same s.memory u (with_devices devices u) refl refl h
move_written g s c _ _ (Lends k borrow lease offset n u alive taken fits) h = written_same s.memory u (noted _ u) refl refl h
move_written g s c _ _ (Offers k u new) h = written_same s.memory u (offered k u) refl refl h
move_written g s c _ _ (Takes on k buffer u t) h =
    let n = min k.message.len buffer.len in
    let bytes = bytes_at u.state.memory k.message.base n in
    let few = few_bytes u.state.memory k.message.base n in
    written_more s.memory on buffer.base bytes u (taken_over on k buffer u) (within_ram-front s.memory buffer.base buffer.len (length bytes) t.room (omega arith)) refl refl h
move_written g s c _ _ (Closes i ending u ends) h = written_same s.memory u (closed i ending u) refl refl h

pub chain_written : (g : Setup) (s : State) (c : ℕ) → ArePlaced g s.memory → (u v : Turn) → Chain (Step g s c) u v → IsFresh s u → v.state.memory ≡ with_writes s.memory v.writes
chain_written g s c placed u v x f = (chain_keeps (Move g s c) (IsWritten s.memory) (move_written g s c) u v (chain_moves g s c placed u v x) (fresh_written s u f)).memory
