-- What bytes hold where no device lies: what the memory does.
use Rattle.std.proofs.Common.{◌≡◌, ◌-◌, ◌*◌, ◌%◌, ◌^◌, ◌<◌, ◌&&◌, ℕ, Bool, true, false, cond, leb, ltb, [], Option, None, Some, take, drop, refl, arith}
use Rattle.std.specs.Prelude.{option_map}
use Rattle.std.proofs.lemmas.Bool.{leb-true}
use Rattle.kernel_abi.specs.Devices.{behind, device_at, device_number, device_start, device_end, looked, offset_in}
use Rattle.mem_banks.specs.Memory.{Memory, bytes_at, number_at, number_of}
use Rattle.task_table.specs.model.State.{State}
use Rattle.board_model.specs.Turn.{held, is_device, or_zero}

pub no_device_below : (a : ℕ) → a < 0x40000000 → is_device a ≡ false
no_device_below a below = by_start (leb device_start a) refl
  where
    by_start : (b : Bool) → leb device_start a ≡ b → (b && ltb a device_end) ≡ false
    by_start false e = refl
    by_start true e = let above = leb-true device_start a e in absurd (omega arith)

pub held_in_memory : (s : State) (a n : ℕ) → is_device a ≡ false → held s a n ≡ number_at s.memory a n
held_in_memory s a n e = rw e refl

-- no bytes hold nothing, wherever they are
no_bytes : (m : Memory) (a : ℕ) → number_at m a 0 ≡ 0
unfolding bytes_at
no_bytes m a = by_ram (leb 0x20000000 a)
  where
    by_flash : (b : Bool) → number_of (cond b (take 0 (drop (a - 0x08000000) m.flash)) []) ≡ 0
    by_flash true = refl
    by_flash false = refl

    by_ram : (b : Bool) → number_of (cond b (take 0 (drop (a - 0x20000000) m.ram)) (cond (leb 0x08000000 a) (take 0 (drop (a - 0x08000000) m.flash)) [])) ≡ 0
    by_ram true = refl
    by_ram false = by_flash (leb 0x08000000 a)

pub held_nothing : (s : State) (a : ℕ) → held s a 0 ≡ 0
held_nothing s a = by_device (is_device a)
  where
    cut : (o : Option ℕ) → or_zero (option_map (λ k. looked (device_at s.devices k) (offset_in s.devices k a) % 2 ^ (8 * 0)) o) ≡ 0
    cut None = refl
    cut (Some k) = omega arith

    by_device : (b : Bool) → cond b (or_zero (device_number s.devices a 0)) (number_at s.memory a 0) ≡ 0
    by_device true = cut (behind a s.devices)
    by_device false = no_bytes s.memory a
