-- A turn is a chain of steps: its instruction, or the row of its system call, with what is noted besides.
use Rattle.std.proofs.Common.{◌≡◌, ◌+◌, ◌-◌, ◌*◌, ◌/◌, ◌%◌, ◌^◌, ◌<◌, ◌≤◌, ◌⊎◌, inl, inr, ℕ, zero, suc, Bool, true, false, cond, List, [], ◌∷◌, length, take, drop, Option, Some, None, refl, sym, ◌∙◌, ap, arith, leb, ltb, IfSome}
use Rattle.std.specs.Prelude.{Contains, fold, find, Result, Ok, Err, option_map}
use Rattle.std.specs.List.{range_with_len, list_any}
use Rattle.std.proofs.lemmas.List.Elements.{Contains-append_cases}
use Rattle.std.proofs.lemmas.Bool.{leb-true, false≢true, and_parts, or_cases, or_left, or_right}
use Rattle.std.proofs.lemmas.Bool.Decides.{nat_tests}
use Rattle.kernel_abi.specs.declared.Fault.{Fault}
use Rattle.kernel_abi.specs.declared.Given.{Given}
use Rattle.kernel_abi.proofs.Devices.{given_inside}
use Rattle.kernel_abi.specs.Devices.{DeviceData, devices_stored, devices_loaded, device_out, device_number, device_at, offset_in, looked, behind}
use Rattle.kernel_abi.specs.declared.Note.{Note}
use Rattle.kernel_abi.specs.declared.Note.TheVariants as note
use Rattle.region_check.specs.declared.Region.{Region}
use Rattle.region_check.specs.declared.Right.{Right}
use Rattle.region_check.specs.declared.Right.TheVariants.{Write, Read, Execute}
use Rattle.region_check.specs.Rights.{gives, gives_copy, is_inside, has_right}
use Rattle.run_script.specs.declared.events.Event.{Event}
use Rattle.run_script.specs.declared.events.Event.TheVariants.{Tick, Irq, Feed}
use Rattle.run_script.specs.Scripts.{events_of}
use Rattle.thumb_insn.specs.declared.Insn.{Insn}
use Rattle.thumb_insn.specs.declared.Decoded.{Decoded}
use Rattle.thumb_insn.specs.declared.Decoded.TheVariants.{Narrow, Wide, Illegal, NeedsSecond}
use Rattle.thumb_insn.specs.Table.{decoded_of, is_wide}
use Rattle.thumb_exec.specs.Effect.{Effect, Next, Syscall, Trap, Store, Move, Puts, Takes, Refusals, Contents, effect}
use Rattle.thumb_exec.specs.declared.fetch.Fetched.{Fetched}
use Rattle.thumb_exec.specs.Fetch.{instruction, unless_barred, after, fetched}
use Rattle.mem_banks.specs.Memory.{Memory, IsWithinRam, number_at, number_of, bytes_at, is_ram, AreAllBytes}
use Rattle.task_table.specs.model.State.{Setup, State, Ground, Own, Turn}
use Rattle.task_table.specs.model.Reading.{setup_at, task_at, register, call_of, listen_of, chosen, qualifies, around, is_ready}
use Rattle.task_table.specs.model.Effects.{noted, stored, with_devices, given_out, device_stored, device_taken}
use Rattle.task_table.specs.model.Events.{ticked, interrupted, fed, driven}
use Rattle.task_table.specs.model.Rows.{syscall_noted}
use Rattle.task_table.specs.model.Syscalls.{syscall_made}
use Rattle.task_table.specs.model.Start.{begun}
use Rattle.task_table.specs.model.Placed.{ArePlaced}
use Rattle.task_table.specs.model.Sane.{Sane}
use Rattle.task_table.specs.model.Grounds.{MayWrite, MayUse, IsReached}
use Rattle.task_table.proofs.model.Posting.{keeps-noted}
use Rattle.task_table.proofs.model.Equipped.{sane-reached, sane-fed}
use Rattle.task_table.proofs.model.Sanity.{take_in, drop_in, sane-stored, sane-current, sane-turn}
use Rattle.task_table.proofs.model.StepKeeps.{chain_sane}
use Rattle.task_table.proofs.model.Timing.{sane-ticked, sane-interrupted, sane-driven}
use Rattle.task_table.specs.model.Chain.{Chain, Here}
use Rattle.task_table.specs.model.Step.{Step, Notes, Runs, Stores, Halts, Reaches}
use Rattle.task_table.proofs.model.Chains.{one, ◌▷◌, joined}
use Rattle.task_table.proofs.model.Moves.{IsAside, aside_here, aside-noted}
use Rattle.task_table.proofs.model.RowChains.{chain-syscall_made}
use Rattle.mem_banks.proofs.Stores.{length-with_bytes}
use Rattle.board_model.proofs.Sight.{none_lacking}
use Rattle.board_model.specs.declared.outcomes.Level.{Level}
use Rattle.board_model.specs.declared.outcomes.Level.TheVariants.{Calls, All}
use Rattle.board_model.specs.Script.{Scenario}
use Rattle.thumb_exec.specs.Bytes.{bytes_of}
use Rattle.thumb_exec.specs.Sizes.{IsSize}
use Rattle.board_model.specs.Turn.{may, refusals, is_device, or_zero, held, cpu_of, put, took, moved, acted, executed, noted_at, stepped_by, stepped, happened, after_events, with_current, low_note, high_note, with_registers_noted, turn_of, ended, turn}
use Rattle.thumb_exec.specs.Keeps.{IsWholeCpu, IsPermittedTo, IsPermitted, Keeps}
use Rattle.thumb_exec.proofs.Keeping.{keeps}
use Rattle.thumb_insn.specs.Table.{narrow_of, wide_of, narrow_result, wide_result, with_second}
use Rattle.thumb_insn.specs.Range.{IsCoded}
use Rattle.thumb_insn.specs.declared.Code.TheVariants.{One, Two}
use Rattle.task_table.proofs.model.Clients.{same_some}
use Rattle.task_table.proofs.model.Offers.{range_below}

-- ## small things

no_byte : AreAllBytes []
no_byte b h = absurd (omega (arith, h.1))

one_more : (x : ℕ) (xs : List ℕ) → x < 256 → AreAllBytes xs → AreAllBytes (x ∷ xs)
one_more x xs small all b (zero, lt, same) = let e : x ≡ b = same in omega arith
one_more x xs small all b (suc i, lt, same) = all b (i, omega arith, same)

all_bytes : (v n : ℕ) → AreAllBytes (bytes_of v n)
all_bytes v n b here =
    one_more (v % 256) (v / 2 ^ 8 % 256 ∷ v / 2 ^ 16 % 256 ∷ v / 2 ^ 24 % 256 ∷ []) (omega arith) (one_more (v / 2 ^ 8 % 256) (v / 2 ^ 16 % 256 ∷ v / 2 ^ 24 % 256 ∷ []) (omega arith) (one_more (v / 2 ^ 16 % 256) (v / 2 ^ 24 % 256 ∷ []) (omega arith) (one_more (v / 2 ^ 24 % 256) [] (omega arith) no_byte))) b
    (take_in n (v % 256 ∷ v / 2 ^ 8 % 256 ∷ v / 2 ^ 16 % 256 ∷ v / 2 ^ 24 % 256 ∷ []) b here)

pub few_bytes : (v n : ℕ) → (n ≡ 1) ⊎ (n ≡ 2) ⊎ (n ≡ 4) → length (bytes_of v n) ≡ n
few_bytes v n (inl e) = rw e refl
few_bytes v n (inr (inl e)) = rw e refl
few_bytes v n (inr (inr e)) = rw e refl

-- two bytes spell a number below 2 ^ 16
number_small : (xs : List ℕ) → AreAllBytes xs → number_of (take 2 xs) < 65536
number_small [] all = omega arith
number_small (x ∷ []) all = let a = all x (zero, omega arith, refl) in omega arith
number_small (x ∷ y ∷ xs) all = let a = all x (zero, omega arith, refl) in let b = all y (1, omega arith, refl) in omega arith

pub half_small : (m : Memory) (a : ℕ) → AreAllBytes m.flash → AreAllBytes m.ram → number_at m a 2 < 65536
unfolding bytes_at
half_small m a flash ram = by_ram (leb 0x20000000 a)
  where
    by_flash : (b : Bool) → number_of (cond b (take 2 (drop (a - 0x08000000) m.flash)) []) < 65536
    by_flash true = number_small (drop (a - 0x08000000) m.flash) (λ b here. flash b (drop_in _ m.flash b here))
    by_flash false = omega arith

    by_ram : (b : Bool) → number_of (cond b (take 2 (drop (a - 0x20000000) m.ram)) (cond (leb 0x08000000 a) (take 2 (drop (a - 0x08000000) m.flash)) [])) < 65536
    by_ram true = number_small (drop (a - 0x20000000) m.ram) (λ b here. ram b (drop_in _ m.ram b here))
    by_ram false = by_flash (leb 0x08000000 a)

-- and what two bytes show where devices lie
pub held_small : (s : State) (a : ℕ) → AreAllBytes s.memory.flash → AreAllBytes s.memory.ram → held s a 2 < 65536
held_small s a flash ram = by_device (is_device a)
  where
    cut : (o : Option ℕ) → or_zero (option_map (λ k. looked (device_at s.devices k) (offset_in s.devices k a) % 2 ^ (8 * 2)) o) < 65536
    cut None = omega arith
    cut (Some k) = omega arith

    by_device : (b : Bool) → cond b (or_zero (device_number s.devices a 2)) (number_at s.memory a 2) < 65536
    by_device true = cut (behind a s.devices)
    by_device false = half_small s.memory a flash ram

-- ## what an instruction may store

-- below the devices, what an instruction may write a copy may
one_copy : (r : Region) (a : ℕ) → a < 0x40000000 → (r.rights.device ≡ true → 0x40000000 ≤ r.base) → gives Write a r ≡ true → gives_copy Write a r ≡ true
one_copy r a below device h = go r.rights.device refl
  where
    low : r.base ≤ a
    low = leb-true _ _ (and_parts (leb r.base a) (ltb a (r.base + r.size)) (and_parts (is_inside r a) (has_right r.rights Write) h).0).0

    go : (d : Bool) → r.rights.device ≡ d → gives_copy Write a r ≡ true
    go true e = let high = device e in let l = low in absurd (omega arith)
    go false e = rw (h, e) refl

copy_below : (rs : List Region) (a : ℕ) → a < 0x40000000 → ((r : Region) → Contains rs r → r.rights.device ≡ true → 0x40000000 ≤ r.base) → list_any (gives Write a) rs ≡ true → list_any (gives_copy Write a) rs ≡ true
copy_below [] a below devices h = absurd (false≢true h)
copy_below (r ∷ rs) a below devices h =
    elim (or_cases (gives Write a r) (list_any (gives Write a) rs) h) [
      | inl here ↦ or_left (gives_copy Write a r) _ (one_copy r a below (devices r (zero, omega arith, refl)) here)
      | inr later ↦ or_right (gives_copy Write a r) _ (copy_below rs a below (λ x inside. devices x (suc inside.0, omega (arith, inside.1), inside.2)) later)
    ]

-- a store that is not refused, to RAM, is on one's own ground
may_store : (g : Setup) (c : ℕ) (m : Memory) (addr n a : ℕ) → ArePlaced g m → refusals g c addr n Write ≡ None → is_ram m addr n ≡ true → addr ≤ a → a < addr + n → MayWrite g c a
may_store g c m addr n a placed none ram low high =
    let both = and_parts (leb 0x20000000 addr) (leb (addr + n) (0x20000000 + length m.ram)) ram in
    let end = leb-true (addr + n) (0x20000000 + length m.ram) both.1 in
    let room = placed.below in
    copy_below (setup_at g c).regions a (omega arith) (λ r here device. placed.devices c r here device) (none_lacking (may g c Write) addr n none a low high)

ram_stored : (on : Ground) (at : ℕ) (bytes : List ℕ) (v : Turn) → IsWithinRam v.state.memory at (length bytes) → length (stored on at bytes v).state.memory.ram ≡ length v.state.memory.ram
unfolding stored
ram_stored on at bytes v within = length-with_bytes v.state.memory at bytes within

-- one of the devices that there may be
may_give : (k : ℕ) → k < 8 → ltb k 8 ≡ true
may_give k h = grind (arith, nat_tests)

-- ## an instruction

-- by steps, to a sane state with as many bytes of RAM
abbrev Came : (g : Setup) (s : State) (c : ℕ) → Turn → Turn → Type 0
Came g s c v w = Chain (Step g s c) v w × Sane g w.state × (length w.state.memory.ram ≡ length s.memory.ram)

module _ (g : Setup) (s : State) (c : ℕ) (inside : c < length g.tasks) where
  -- devices are reached
  reach_chain : (devices : List DeviceData) (v : Turn) → Sane g v.state → length v.state.memory.ram ≡ length s.memory.ram → IsReached g c v.state.devices devices → Came g s c v (with_devices devices v)
  unfolding with_devices
  reach_chain devices v h same reached = (one (Reaches devices v reached), sane-reached c devices v h reached, same)

  out_chain : (o : Option Given) (v w : Turn) → ((x : Given) → o ≡ Some x → x.device < 8) → Came g s c v w → Came g s c v (given_out o w)
  unfolding noted
  out_chain None v w few k = k
  out_chain (Some x) v w few k = (k.0 ▷ Notes (note.Out x.device x.byte) w (may_give x.device (few x refl)), keeps-noted (note.Out x.device x.byte) w k.1, k.2)

  device_store_chain : (a value : ℕ) (v : Turn) → Sane g v.state → length v.state.memory.ram ≡ length s.memory.ram → MayUse g c Write a → Came g s c v (device_stored a value v)
  unfolding device_stored
  device_store_chain a value v h same may = out_chain (device_out v.state.devices a value) v _ (λ x e. let inside = given_inside v.state.devices a value x e in let few = h.steady.devices.few in omega arith) (reach_chain (devices_stored v.state.devices a) v h same (inr (a, may, refl)))

  device_take_chain : (a : ℕ) (v : Turn) → Sane g v.state → length v.state.memory.ram ≡ length s.memory.ram → MayUse g c Read a → Came g s c v (device_taken a v)
  unfolding device_taken
  device_take_chain a v h same may = reach_chain (devices_loaded v.state.devices a) v h same (inl (a, may, refl))

  some_bytes : (n : ℕ) → IsSize n → 0 < n
  some_bytes n (inl e) = omega arith
  some_bytes n (inr (inl e)) = omega arith
  some_bytes n (inr (inr e)) = omega arith

  -- the first of the bytes may be used so
  may_first : (right : Right) (a n : ℕ) → IsPermittedTo right (refusals g c) a n → MayUse g c right a
  may_first right a n p = let some = some_bytes n p.size in none_lacking (may g c right) a n p.allowed a (omega arith) (omega (arith, some))

  put_chain : (x : Store) (v : Turn) → Sane g v.state → length v.state.memory.ram ≡ length s.memory.ram → IsPermittedTo Write (refusals g c) x.addr x.bytes → Came g s c v (put v x)
  put_chain x v h same permitted = by_ram (is_ram v.state.memory x.addr x.bytes) refl
    where
      by_device : (b : Bool) → Came g s c v (cond b (device_stored x.addr x.value v) v)
      by_device false = (Here v, h, same)
      by_device true = device_store_chain x.addr x.value v h same (may_first Write x.addr x.bytes permitted)

      by_ram : (b : Bool) → is_ram v.state.memory x.addr x.bytes ≡ b → Came g s c v (cond b (stored Own x.addr (bytes_of x.value x.bytes) v) (cond (is_device x.addr) (device_stored x.addr x.value v) v))
      by_ram false e = by_device (is_device x.addr)
      by_ram true e =
          let both = and_parts (leb 0x20000000 x.addr) (leb (x.addr + x.bytes) (0x20000000 + length v.state.memory.ram)) e in
          let few = few_bytes x.value x.bytes permitted.size in
          let above = leb-true 0x20000000 x.addr both.0 in
          let below = leb-true (x.addr + x.bytes) (0x20000000 + length v.state.memory.ram) both.1 in
          let within : IsWithinRam v.state.memory x.addr (length (bytes_of x.value x.bytes)) = inr (above, rw few below) in
          let room : IsWithinRam s.memory x.addr (length (bytes_of x.value x.bytes)) = inr (above, rw (few, ← same) below) in
          let all = all_bytes x.value x.bytes in
          (one (Stores Own x.addr (bytes_of x.value x.bytes) v all within room (λ a low high. may_store g c v.state.memory x.addr x.bytes a h.steady.placed permitted.allowed e low (rw few at high))), sane-stored Own x.addr (bytes_of x.value x.bytes) v h all within, ram_stored Own x.addr (bytes_of x.value x.bytes) v within ∙ same)

  took_chain : (a n : ℕ) (v : Turn) → Sane g v.state → length v.state.memory.ram ≡ length s.memory.ram → IsPermittedTo Read (refusals g c) a n → Came g s c v (took v a)
  took_chain a n v h same permitted = by_device (is_device a)
    where
      by_device : (b : Bool) → Came g s c v (cond b (device_taken a v) v)
      by_device false = (Here v, h, same)
      by_device true = device_take_chain a v h same (may_first Read a n permitted)

  move_chain : (x : Move) (v : Turn) → Sane g v.state → length v.state.memory.ram ≡ length s.memory.ram → IsPermitted (refusals g c) x → Came g s c v (moved v x)
  move_chain (Puts x) v h same permitted = put_chain x v h same permitted
  move_chain (Takes addr bytes) v h same permitted = took_chain addr bytes v h same permitted

  moves_chain : (moves : List Move) (v : Turn) → Sane g v.state → length v.state.memory.ram ≡ length s.memory.ram → ((x : Move) → Contains moves x → IsPermitted (refusals g c) x) → Chain (Step g s c) v (fold moved v moves)
  moves_chain [] v h same ok = Here v
  moves_chain (x ∷ xs) v h same ok =
      let p = move_chain x v h same (ok x (zero, omega arith, refl)) in
      joined (Step g s c) v (moved v x) _ p.0 (moves_chain xs (moved v x) p.1 p.2 (λ y here. ok y (suc here.0, omega (arith, here.1), here.2)))

pub whole_cpu : {g : Setup} (c : ℕ) (t : Turn) → Sane g t.state → c < length t.state.tasks → IsWholeCpu (cpu_of (task_at t.state c))
whole_cpu c t h inside = let x = h.steady.tasks c inside in record { sixteen = x.sixteen; even = x.even; aligned = x.aligned }

module _ (g : Setup) (c : ℕ) (t : Turn) (h : Sane g t.state) (inside : c < length g.tasks) (ready : is_ready t.state c ≡ true) where
  calls_chain : Chain (Step g t.state c) t (syscall_made g c (syscall_noted c t))
  unfolding syscall_noted noted
  calls_chain = joined (Step g t.state c) t (syscall_noted c t) _ (one (Notes _ t refl)) (chain-syscall_made g c (syscall_noted c t) h inside ready)

  acted_chain : (e : Effect) → Keeps (refusals g c) e → Chain (Step g t.state c) t (acted g c e t)
  acted_chain (Next cpu moves) k = moves_chain g t.state c inside moves t h refl k.1 ▷ Runs cpu.regs.words cpu.flags _ inside record { sixteen = k.0.sixteen; even = k.0.even; aligned = k.0.aligned }
  acted_chain Syscall k = calls_chain
  acted_chain (Trap f) k = one (Halts f t inside (omega (arith, k.0)) (omega (arith, k.1)))

narrow_coded : (h : ℕ) (o : Option Insn) (i : Insn) → narrow_of h ≡ o → h < 65536 → (narrow_result o ≡ Narrow i) ⊎ (narrow_result o ≡ Wide i) → IsCoded i
narrow_coded h (Some j) i is f (inl e) = let same : j ≡ i = cc in (One h, f, is ∙ ap Some same)
narrow_coded h (Some j) i is f (inr e) = absurd cc
narrow_coded h None i is f (inl e) = absurd cc
narrow_coded h None i is f (inr e) = absurd cc

wide_coded : (first second : ℕ) (o : Option Insn) (i : Insn) → wide_of (first * 65536 + second) ≡ o → first < 65536 → second < 65536 → (wide_result o ≡ Narrow i) ⊎ (wide_result o ≡ Wide i) → IsCoded i
wide_coded first second (Some j) i is f g (inr e) = let same : j ≡ i = cc in (Two first second, (f, g), is ∙ ap Some same)
wide_coded first second (Some j) i is f g (inl e) = absurd cc
wide_coded first second None i is f g (inl e) = absurd cc
wide_coded first second None i is f g (inr e) = absurd cc

-- what a code decodes to has that code
decoded_coded : (first : ℕ) (two : Option ℕ) (i : Insn) → first < 65536 → IfSome two (λ x. x < 65536) → (b : Bool) → (cond b (with_second first two) (narrow_result (narrow_of first)) ≡ Narrow i) ⊎ (cond b (with_second first two) (narrow_result (narrow_of first)) ≡ Wide i) → IsCoded i
decoded_coded first two i f g false e = narrow_coded first (narrow_of first) i refl f e
decoded_coded first (Some second) i f g true e = wide_coded first second (wide_of (first * 65536 + second)) i refl f g e
decoded_coded first None i f g true (inl e) = absurd cc
decoded_coded first None i f g true (inr e) = absurd cc

-- an instruction that has a code, or a fault that a fetch may be
abbrev pub IsFetchable : Result Fetched Fault → Type 0
IsFetchable (Ok f) = IsCoded f.insn
IsFetchable (Err fault) = (1 ≤ fault.number) × (fault.number ≤ 10)

of_code : (at code first : ℕ) (two : Option ℕ) (d : Decoded) → first < 65536 → IfSome two (λ x. x < 65536) → decoded_of first two ≡ d → IsFetchable (instruction at code d)
of_code at code first two (Narrow i) f g e = decoded_coded first two i f g (is_wide first) (inl e)
of_code at code first two (Wide i) f g e = decoded_coded first two i f g (is_wide first) (inr e)
of_code at code first two Illegal f g e = (omega arith, omega arith)
of_code at code first two NeedsSecond f g e = (omega arith, omega arith)

or_barred : (o : Option ℕ) (at : ℕ) (r : Result Fetched Fault) → IsFetchable r → IsFetchable (unless_barred o at r)
or_barred None at r h = h
or_barred (Some byte) at r h = (omega arith, omega arith)

either : (b : Bool) (r s : Result Fetched Fault) → IsFetchable r → IsFetchable s → IsFetchable (cond b r s)
either true r s h k = h
either false r s h k = k

pub fetchable : (refuses : Refusals) (holds : Contents) (at : ℕ) → ((a : ℕ) → holds a 2 < 65536) → IsFetchable (fetched refuses holds at)
fetchable refuses holds at small =
    let first = holds at 2 in
    let second = holds (after at) 2 in
    or_barred (refuses at 2 Execute) at _ (either (is_wide first) _ _
    (or_barred (refuses (after at) 2 Execute) (after at) _ (of_code at (first * 2 ^ 16 + second) first (Some second) (decoded_of first (Some second)) (small at) (small (after at)) refl))
    (of_code at first first None (decoded_of first None) (small at) tt refl))

pub keeps-here : {g : Setup} (c : ℕ) (t : Turn) (h : Sane g t.state) (inside : c < length t.state.tasks) (insn : Insn) → IsCoded insn → Keeps (refusals g c) (effect (refusals g c) (held t.state) (cpu_of (task_at t.state c)) insn)
keeps-here {g} c t h inside insn coded = keeps (refusals g c) (held t.state) (cpu_of (task_at t.state c)) insn coded (whole_cpu c t h inside)

module _ (level : Level) (g : Setup) (c : ℕ) (t : Turn) (h : Sane g t.state) (inside : c < length g.tasks) (ready : is_ready t.state c ≡ true) where
  within : c < length t.state.tasks
  within = rw h.steady.as_many inside

  executed_chain : (level : Level) (at code : ℕ) (insn : Insn) → IsCoded insn → Chain (Step g t.state c) t (executed g c insn (noted_at level (note.Insn c at code) t))
  unfolding noted
  executed_chain Calls at code insn coded = acted_chain g c t h inside ready _ (keeps-here c t h within insn coded)
  executed_chain All at code insn coded =
      let u = noted (note.Insn c at code) t in
      joined (Step g t.state c) t u _ (one (Notes (note.Insn c at code) t refl)) (acted_chain g c u h inside ready _ (keeps-here c u h within insn coded))

  chain_by : (at : ℕ) (r : Result Fetched Fault) → IsFetchable r → Chain (Step g t.state c) t (stepped_by level g c at r t)
  chain_by at (Ok f) coded = executed_chain level at f.code f.insn coded
  chain_by at (Err fault) known = one (Halts fault t inside (omega (arith, known.0)) (omega (arith, known.1)))

  pub stepped_chain : Chain (Step g t.state c) t (stepped level g c t)
  unfolding stepped
  stepped_chain = chain_by _ _ (fetchable (refusals g c) (held t.state) (register t.state c 15) (λ a. held_small t.state a h.steady.flash_bytes h.steady.bytes))

-- what is noted besides
tells : (g : Setup) (s : State) (c : ℕ) (level : Level) (n : Note) (t u : Turn) → Chain (Step g s c) t u → ((u : Turn) → Step g s c u (noted n u)) → Chain (Step g s c) t (noted_at level n u)
tells g s c Calls n t u x step = x
tells g s c All n t u x step = x ▷ step u

-- from where the chosen task becomes the current one, to the end of its turn
pub ran_chain : (level : Level) (g : Setup) (c : ℕ) (t : Turn) → Sane g t.state → c < length g.tasks → is_ready t.state c ≡ true → Chain (Step g t.state c) t (with_registers_noted level c (stepped level g c t))
unfolding with_registers_noted
ran_chain level g c t h inside ready =
    let u = stepped level g c t in
    let low = low_note (task_at u.state c) in
    tells g t.state c level (high_note (task_at u.state c)) t (noted_at level low u)
    (tells g t.state c level low t u (stepped_chain level g c t h inside ready) (λ v. Notes low v refl))
    (λ v. Notes (high_note (task_at u.state c)) v refl)

-- ## the turn

around_below : (n i k : ℕ) → i ≤ n → Contains (around n i) k → k < n
around_below n i k le h = elim (Contains-append_cases (range_with_len i (n - i)) (range_with_len 0 i) k h) [
  | inl a ↦ let r = range_below i (n - i) k a in omega arith
  | inr b ↦ let r = range_below 0 i k b in omega arith
]

none_some : {A : Type 0} {P : Type 0} {a : A} → None ≡ Some a → P
none_some e = cc

pub found_in : {A : Type 0} (p : A → Bool) (xs : List A) (x : A) → find p xs ≡ Some x → Contains xs x × (p x ≡ true)
found_in p [] x e = none_some e
found_in p (y ∷ ys) x e = go (p y) refl (found_in p ys x)
  where
    go : (b : Bool) → p y ≡ b → (find p ys ≡ Some x → Contains ys x × (p x ≡ true)) → Contains (y ∷ ys) x × (p x ≡ true)
    go true t rest = let same : y ≡ x = same_some (rw t at e) in ((zero, omega arith, same), ap p (sym same) ∙ t)
    go false f rest = let r = rest (rw f at e) in ((suc r.0.0, omega (arith, r.0.1), r.0.2), r.1)

-- who is chosen is ready, and there
pub record IsChosen (s : State) (c : ℕ) : Type 0 where
  pub ready : is_ready s c ≡ true
  pub inside : c < length s.tasks

pub chosen_is : {g : Setup} (s : State) (c : ℕ) → Sane g s → chosen g s ≡ Some c → IsChosen s c
unfolding chosen
chosen_is {g} s c h e =
    let r = found_in (qualifies g s) (around (length s.tasks) s.current) c e in
    record { ready = (and_parts (is_ready s c) _ r.1).0; inside = let b = h.steady.current in around_below (length s.tasks) s.current c (omega arith) r.0 }

pub as_current : (c i : ℕ) (s : State) → is_ready s c ≡ true → is_ready (record s { current = i }) c ≡ true
unfolding is_ready task_at call_of listen_of
as_current c i s h = h

-- what comes from outside keeps a state sane
pub sane-events : (g : Setup) (events : List Event) (t : Turn) → Sane g t.state → Sane g (fold (happened g) t events).state
sane-events g [] t h = h
sane-events g (Tick ∷ events) t h = sane-events g events (ticked t) (sane-ticked t h)
sane-events g (Irq line ∷ events) t h = sane-events g events (interrupted g line t) (sane-interrupted line t h)
sane-events g (Feed device byte ∷ events) t h =
    let u = fed device (byte % 256) t in
    sane-events g events (driven g u) (sane-driven u (sane-fed device (byte % 256) t (omega arith) h))

pub begun_sane : (g : Setup) (s : State) → Sane g s → Sane g (begun s).state
unfolding begun
begun_sane g s h = h

pub sane-after_events : (x : Scenario) (s : State) → Sane x.setup s → Sane x.setup (after_events x s).state
unfolding after_events
sane-after_events x s h = sane-events x.setup (events_of x.script s.turn) (begun s) (begun_sane x.setup s h)

-- an idle turn stands aside
pub idle-aside : (level : Level) (t : Turn) → IsAside t (noted_at level note.Idle t)
idle-aside Calls t = aside_here t
idle-aside All t = aside-noted note.Idle t refl

-- from where the chosen task becomes the current one, to the end of its turn
pub chosen_chain : (level : Level) (g : Setup) (c : ℕ) (t : Turn) → Sane g t.state → chosen g t.state ≡ Some c →
    Chain (Step g (with_current c t).state c) (with_current c t) (with_registers_noted level c (stepped level g c (with_current c t)))
chosen_chain level g c t h e =
    let is = chosen_is t.state c h e in
    ran_chain level g c (with_current c t) (sane-current c t h is.inside) (rw (← h.steady.as_many) is.inside) (as_current c c t.state is.ready)

pub turn_chain : (level : Level) (x : Scenario) (s : State) (c : ℕ) → Sane x.setup s → chosen x.setup (after_events x s).state ≡ Some c →
    Chain (Step x.setup (with_current c (after_events x s)).state c) (with_current c (after_events x s)) (with_registers_noted level c (stepped level x.setup c (with_current c (after_events x s))))
turn_chain level x s c h e = chosen_chain level x.setup c (after_events x s) (sane-after_events x s h) e

-- what is noted changes no state
pub noted_state : (level : Level) (n : Note) (t : Turn) → (noted_at level n t).state ≡ t.state
unfolding noted
noted_state Calls n t = refl
noted_state All n t = refl

pub ready-syscall_noted : (c : ℕ) (t : Turn) → is_ready t.state c ≡ true → is_ready (syscall_noted c t).state c ≡ true
unfolding syscall_noted noted
ready-syscall_noted c t h = h

-- so an instruction and the turn keep a state sane
pub sane-stepped : {g : Setup} (level : Level) (c : ℕ) (t : Turn) → Sane g t.state → c < length t.state.tasks → is_ready t.state c ≡ true → Sane g (stepped level g c t).state
sane-stepped {g} level c t h inside ready = chain_sane g t.state c t (stepped level g c t) (stepped_chain level g c t h (rw (← h.steady.as_many) inside) ready) h

pub sane-ran : {g : Setup} (level : Level) (c : ℕ) (t : Turn) → Sane g t.state → IsChosen t.state c → Sane g (stepped level g c (with_current c t)).state
sane-ran level c t h is = sane-stepped level c (with_current c t) (sane-current c t h is.inside) is.inside (as_current c c t.state is.ready)

sane-noted : {g : Setup} (level : Level) (n : Note) (t : Turn) → Sane g t.state → Sane g (noted_at level n t).state
sane-noted Calls n t h = h
sane-noted All n t h = keeps-noted n t h

sane-ended : {g : Setup} (u : Turn) → Sane g u.state → Sane g (ended u).state
unfolding ended
sane-ended u h = sane-turn (u.state.turn + 1) u h

pub sane-after : (level : Level) (x : Scenario) (s : State) → Sane x.setup s → Sane x.setup (turn level x s).state
unfolding turn
sane-after level x s h = by_choice (chosen x.setup (after_events x s).state) refl
  where
    by_choice : (o : Option ℕ) → chosen x.setup (after_events x s).state ≡ o → Sane x.setup (ended (turn_of level x.setup o (after_events x s))).state
    by_choice None e = sane-ended _ (sane-noted level note.Idle (after_events x s) (sane-after_events x s h))
    by_choice (Some c) e =
        let t = after_events x s in
        let u = with_current c t in
        let h1 = sane-after_events x s h in
        sane-ended _ (chain_sane x.setup u.state c u _ (turn_chain level x s c h e) (sane-current c t h1 (chosen_is t.state c h1 e).inside))
