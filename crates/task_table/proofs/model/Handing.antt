-- A call that is handed over keeps a state sane.
use Rattle.std.proofs.Common.{◌≢◌, ◌-◌, ◌<◌, ◌≤◌, ℕ, Bool, true, false, cond, List, [], ◌∷◌, length, take, drop, min, leb, arith}
use Rattle.std.proofs.lemmas.List.{length-take}
use Rattle.kernel_abi.specs.Ids.{id_of}
use Rattle.kernel_abi.specs.declared.Note.TheVariants as note
use Rattle.mem_banks.specs.Memory.{Memory, IsWithinRam, bytes_at, with_bytes, copied as copied_memory, AreAllBytes}
use Rattle.mem_banks.proofs.Stores.{flash-with_bytes, length-with_bytes}
use Rattle.task_table.specs.model.State.{Setup, Call, Slice, Ground, Read, MessageFront, Turn}
use Rattle.task_table.specs.model.Effects.{changed, noted, without_listen, with_taken, looked, copied, handed}
use Rattle.task_table.specs.model.Sane.{IsSaneBut, Every}
use Rattle.task_table.proofs.model.Keeps.{keeps-memory, keeps-with_taken, keeps-without_listen}
use Rattle.task_table.proofs.model.Posting.{keeps-given}
use Rattle.task_table.proofs.model.Ranges.{within_ram-front}
use Rattle.task_table.proofs.model.Sanity.{take_in, drop_in, placed_same, written_bytes}

-- ## bytes that are read

pub few_bytes : (m : Memory) (a n : ℕ) → length (bytes_at m a n) ≤ n
unfolding bytes_at
few_bytes m a n = go (leb 0x20000000 a) (leb 0x08000000 a)
  where
    taken : (xs : List ℕ) → length (take n xs) ≤ n
    taken xs = rw length-take (omega arith)

    go : (b d : Bool) → length (cond b (take n (drop (a - 0x20000000) m.ram)) (cond d (take n (drop (a - 0x08000000) m.flash)) [])) ≤ n
    go true d = taken (drop (a - 0x20000000) m.ram)
    go false true = taken (drop (a - 0x08000000) m.flash)
    go false false = omega arith

pub all_bytes_at : (m : Memory) (a n : ℕ) → AreAllBytes m.flash → AreAllBytes m.ram → AreAllBytes (bytes_at m a n)
unfolding bytes_at
all_bytes_at m a n flash_bytes ram = go (leb 0x20000000 a) (leb 0x08000000 a)
  where
    part : (i : ℕ) (xs : List ℕ) → AreAllBytes xs → AreAllBytes (take n (drop i xs))
    part i xs all = λ b here. all b (drop_in i xs b (take_in n (drop i xs) b here))

    go : (b d : Bool) → AreAllBytes (cond b (take n (drop (a - 0x20000000) m.ram)) (cond d (take n (drop (a - 0x08000000) m.flash)) []))
    go true d = part (a - 0x20000000) m.ram ram
    go false true = part (a - 0x08000000) m.flash flash_bytes
    go false false = λ b here. absurd (omega (arith, here.1))

-- ## effects

module _ {M F T : ℕ → Type 0} {W : ℕ → ℕ → Type 0} {g : Setup} where
  pub keeps-looked : (r : Read) (t : Turn) → IsSaneBut M F T W g t.state → IsSaneBut M F T W g (looked r t).state
  unfolding looked
  keeps-looked r t h = h

  -- a copy of any bytes to RAM
  pub keeps-copied : (on : Ground) (from to n : ℕ) (t : Turn) → IsSaneBut M F T W g t.state → IsWithinRam t.state.memory to n → IsSaneBut M F T W g (copied on from to n t).state
  unfolding copied copied_memory
  keeps-copied on from to n t h within =
      let m = t.state.memory in
      let bytes = bytes_at m from n in
      let front = within_ram-front m to n (length bytes) within (few_bytes m from n) in
      keeps-memory (with_bytes m to bytes) h (flash-with_bytes m to bytes front) (written_bytes m to bytes h.steady.bytes (all_bytes_at m from n h.steady.flash_bytes h.steady.bytes))
      (placed_same g m (with_bytes m to bytes) h.steady.placed (flash-with_bytes m to bytes front) (length-with_bytes m to bytes front))

  -- F: no offer fits a listen, required for all clients, or for all except the client of the call
  pub keeps-handed : (on : Ground) (c : Call) (buffer : Slice) (t : Turn) → IsSaneBut M F T W g t.state → ((j : ℕ) → j ≢ c.client.index → F j) → c.server.index < length t.state.tasks → IsWithinRam t.state.memory buffer.base buffer.len → IsSaneBut M Every T W g (handed on c buffer t).state
  unfolding handed looked with_taken without_listen noted copied
  keeps-handed on c buffer t h but inside within =
      let n = min c.message.len buffer.len in
      let r : Read = record { call = c.number; part = MessageFront; base = c.message.base; len = n } in
      let h1 = keeps-copied on c.message.base buffer.base n (looked r t) h (within_ram-front t.state.memory buffer.base buffer.len n within (omega arith)) in
      let h2 = keeps-with_taken c.client.index h1 but in
      let h3 = keeps-without_listen c.server.index h2 in
      keeps-given c.server.index (0 ∷ id_of c.client.index c.client.birth ∷ c.operation ∷ c.message.len ∷ c.reply.len ∷ c.leases ∷ [])
      (changed (without_listen c.server.index) (noted (note.Take c.number n) (changed (with_taken c.client.index) (copied on c.message.base buffer.base n (looked r t))))) h3 inside (omega arith)
