-- The turns of two loners of the same make, side by side: what one does for itself the other does too, unless it makes a
-- system call.
use Rattle.std.proofs.Common.{◌≡◌, ◌≢◌, ◌⊎◌, inl, inr, ◌+◌, ◌-◌, ◌<◌, ◌≤◌, ℕ, zero, suc, Bool, true, false, eqb, ◌&&◌, List, [], ◌∷◌, length, None, refl, sym, ◌∙◌, ap, arith, cond, get_or, le-leb, eqb-true, eq-eqb}
use Rattle.std.specs.Prelude.{Contains, fold, Result, Ok, Err}
use Rattle.std.proofs.lemmas.Bool.{false≢true}
use Rattle.std.proofs.lemmas.List.Elements.{Contains-push}
use Rattle.kernel_abi.specs.Devices.{DeviceData}
use Rattle.kernel_abi.specs.declared.Fault.{Fault}
use Rattle.kernel_abi.specs.declared.Note.{Note}
use Rattle.kernel_abi.specs.declared.Note.TheVariants as note
use Rattle.words_core.specs.declared.Flags.{Flags}
use Rattle.region_check.specs.declared.Right.{Right}
use Rattle.region_check.specs.declared.Right.TheVariants.{Read, Write, Execute}
use Rattle.region_check.specs.Rights.{first_lacking}
use Rattle.mem_banks.specs.Memory.{number_of, is_ram}
use Rattle.thumb_insn.specs.declared.Insn.{Insn}
use Rattle.thumb_insn.specs.Range.{IsCoded}
use Rattle.thumb_exec.specs.Bytes.{bytes_of}
use Rattle.thumb_exec.specs.Effect.{Effect, Next, Syscall, Trap, Store, Move, Puts, Takes, effect}
use Rattle.thumb_exec.specs.Fetch.{fetched}
use Rattle.thumb_exec.specs.declared.fetch.Fetched.{Fetched}
use Rattle.thumb_exec.specs.Keeps.{IsPermittedTo, IsPermitted, Keeps, Agree}
use Rattle.thumb_exec.proofs.Agreeing.{effect_same}
use Rattle.task_table.specs.model.State.{Setup, State, Task, Own, Turn}
use Rattle.task_table.specs.model.Reading.{task_at, register, call_of, listen_of, is_ready, IsIdle}
use Rattle.task_table.specs.model.Effects.{with_task, noted, with_processor, stored, faulted, with_devices, device_taken}
use Rattle.task_table.specs.model.Rows.{syscall_noted, panicked}
use Rattle.task_table.specs.model.Syscalls.{syscall_made}
use Rattle.task_table.specs.model.Sane.{Sane}
use Rattle.task_table.specs.model.Step.{Step}
use Rattle.task_table.proofs.model.Chains.{chain_keeps}
use Rattle.task_table.proofs.model.Changes.{task_at-with_task, length-with_task, call_of-with_task, listen_of-with_task}
use Rattle.task_table.proofs.model.Counting.{time-faulted}
use Rattle.task_table.proofs.model.Noting.{step_noted}
use Rattle.task_table.proofs.model.RowChains.{chain-syscall_made}
use Rattle.mem_banks.proofs.Stores.{length-with_bytes}
use Rattle.board_model.specs.declared.outcomes.Level.{Level}
use Rattle.board_model.specs.Turn.{may, refusals, is_device, held, cpu_of, put, took, moved, acted, executed, noted_at, stepped_by, stepped}
use Rattle.board_model.proofs.FaultFrames.{task-faulted, lone-faulted}
use Rattle.board_model.proofs.TurnChains.{few_bytes, held_small, IsFetchable, fetchable, keeps-here, noted_state}
use Rattle.board_model.proofs.Sight.{none_lacking}
use Rattle.board_model.proofs.Following.{fetched_same}
use Rattle.board_model.proofs.Held.{held_in_memory, held_nothing}
use Rattle.board_model.specs.Loners.{owns}
use Rattle.board_model.proofs.LonerSteps.{still_there}
use Rattle.board_model.proofs.SameBytes.{HoldSame, read_same, written_same}

-- these notes have a system call of the task that is no PANIC
abbrev pub HasCalled : ℕ → List Note → Type 0
HasCalled c notes = (number : ℕ) × (arguments : List ℕ) × Contains notes (note.Syscall c number arguments) × (number ≢ 8)

-- ## small things

state-syscall_noted : (c : ℕ) (t : Turn) → (syscall_noted c t).state ≡ t.state
unfolding syscall_noted noted
state-syscall_noted c t = refl

has-syscall_noted : (c : ℕ) (t : Turn) → register t.state c 11 ≢ 8 → HasCalled c (syscall_noted c t).notes
unfolding syscall_noted noted
has-syscall_noted c t other = (register t.state c 11, _, Contains-push t.notes (note.Syscall c (register t.state c 11) _), other)

panic_is : (g : Setup) (c : ℕ) (t : Turn) → register t.state c 11 ≡ 8 → syscall_made g c t ≡ panicked g c t
unfolding syscall_made
panic_is g c t e = rw e refl

task_memory : (s : State) (i : ℕ) (x : Task) → (with_task i x s).memory ≡ s.memory
unfolding with_task
task_memory s i x = refl

-- ## the walk

-- tasks c under g and d under k, which may the same, none of it a device, in memories with so many bytes of RAM
pub record IsPair (g k : Setup) (c d n m : ℕ) : Type 0 where
  pub rights : (right : Right) (a : ℕ) → may g c right a ≡ may k d right a
  pub own : (right : Right) (a : ℕ) → may g c right a ≡ true → owns g c a ≡ true
  pub memory : (right : Right) (a : ℕ) → may g c right a ≡ true → is_device a ≡ false
  pub ram : (a : ℕ) → may g c Write a ≡ true → (0x20000000 ≤ a) × (a < 0x20000000 + n) × (a < 0x20000000 + m)

-- what is the same of both, and that neither waits for anything
pub record AreSame (g : Setup) (c d n m : ℕ) (s u : State) : Type 0 where
  pub there : (c < length s.tasks) × (d < length u.tasks)
  pub registers : (task_at s c).registers ≡ (task_at u d).registers
  pub flags : (task_at s c).flags ≡ (task_at u d).flags
  pub health : (task_at s c).health ≡ (task_at u d).health
  pub memory : HoldSame (owns g c) s.memory u.memory
  pub ram : (length s.memory.ram ≡ n) × (length u.memory.ram ≡ m)
  pub idle : IsIdle s c × IsIdle u d

-- and the first is about to run
pub record IsAbout (g : Setup) (c d n m : ℕ) (s u : State) : Type 0 where
  pub same : AreSame g c d n m s u
  pub sane : Sane g s
  pub ready : is_ready s c ≡ true

module _ (l p : Level) (g k : Setup) (c d n m : ℕ) (pair : IsPair g k c d n m) where
  abbrev pub Same : State → State → Type 0
  Same s u = AreSame g c d n m s u

  abbrev pub About : State → State → Type 0
  About s u = IsAbout g c d n m s u

  -- the same, or the first made a system call
  abbrev pub Outcome : Turn → Turn → Type 0
  Outcome t u = AreSame g c d n m t.state u.state ⊎ HasCalled c t.notes

  same_refusals : refusals g c ≡ refusals k d
  same_refusals = λ j. first_lacking (λ r a. pair.rights r a j)

  same_cpu : (s u : State) → Same s u → cpu_of (task_at s c) ≡ cpu_of (task_at u d)
  same_cpu s u h = λ j. record { regs = record { words = h.registers j }; flags = h.flags j }

  same_word : (s u : State) → Same s u → (r : ℕ) → register s c r ≡ register u d r
  unfolding register
  same_word s u h r = ap (λ rs. get_or rs r 0) h.registers

  -- ## what each may do

  same-faulted : (x : Fault) (t u : Turn) → Same t.state u.state → Same (faulted g c x t).state (faulted k d x u).state
  same-faulted x t u h =
      let a = (lone-faulted g c x t h.there.0).same in
      let b = (lone-faulted k d x u h.there.1).same in
      record {
        there = (rw (time-faulted g c x t).count h.there.0, rw (time-faulted k d x u).count h.there.1);
        registers = ap (λ (y : Task). y.registers) a.task ∙ h.registers ∙ sym (ap (λ (y : Task). y.registers) b.task);
        flags = ap (λ (y : Task). y.flags) a.task ∙ h.flags ∙ sym (ap (λ (y : Task). y.flags) b.task);
        health = ap (λ (y : Task). y.health) (task-faulted g c x t h.there.0) ∙ sym (ap (λ (y : Task). y.health) (task-faulted k d x u h.there.1));
        memory = rw (a.memory, b.memory) h.memory;
        ram = (rw a.memory h.ram.0, rw b.memory h.ram.1);
        idle = (a.idle, b.idle);
      }

  -- a store that is permitted goes to the RAM of both
  in_both : (x : Store) (s : State) (z : ℕ) → length s.memory.ram ≡ z → ((a : ℕ) → x.addr ≤ a → a < x.addr + x.bytes → (0x20000000 ≤ a) × (a < 0x20000000 + z)) → (x.bytes ≡ 1) ⊎ (x.bytes ≡ 2) ⊎ (x.bytes ≡ 4) → (is_ram s.memory x.addr x.bytes ≡ true) × (0x20000000 ≤ x.addr) × (x.addr + x.bytes ≤ 0x20000000 + length s.memory.ram)
  in_both x s z same each size =
      let some : 1 ≤ x.bytes = few x.bytes size in
      let low = (each x.addr (omega arith) (omega arith)).0 in
      let last = (each (x.addr + x.bytes - 1) (omega arith) (omega arith)).1 in
      let high : x.addr + x.bytes ≤ 0x20000000 + length s.memory.ram = omega arith in
      ((λ j. le-leb 0x20000000 x.addr low j && le-leb (x.addr + x.bytes) (0x20000000 + length s.memory.ram) high j), low, high)
    where
      few : (w : ℕ) → (w ≡ 1) ⊎ (w ≡ 2) ⊎ (w ≡ 4) → 1 ≤ w
      few w (inl e) = omega arith
      few w (inr (inl e)) = omega arith
      few w (inr (inr e)) = omega arith

  same-stored : (at : ℕ) (bytes : List ℕ) (t u : Turn) → 0x20000000 ≤ at → at + length bytes ≤ 0x20000000 + length t.state.memory.ram → at + length bytes ≤ 0x20000000 + length u.state.memory.ram → Same t.state u.state → Same (stored Own at bytes t).state (stored Own at bytes u).state
  unfolding stored task_at call_of listen_of
  same-stored at bytes t u low one two h = record {
    there = h.there;
    registers = h.registers;
    flags = h.flags;
    health = h.health;
    memory = written_same (owns g c) t.state.memory u.state.memory at bytes low one two h.memory;
    ram = (length-with_bytes t.state.memory at bytes (inr (low, one)) ∙ h.ram.0, length-with_bytes u.state.memory at bytes (inr (low, two)) ∙ h.ram.1);
    idle = (record { call = h.idle.0.call; listen = h.idle.0.listen }, record { call = h.idle.1.call; listen = h.idle.1.listen });
  }

  same-put : (x : Store) (t u : Turn) → IsPermittedTo Write (refusals g c) x.addr x.bytes → Same t.state u.state → Same (put t x).state (put u x).state
  same-put x t u permitted h =
      let may_write : (a : ℕ) → x.addr ≤ a → a < x.addr + x.bytes → may g c Write a ≡ true = λ a lo hi. none_lacking (may g c Write) x.addr x.bytes permitted.allowed a lo hi in
      let one = in_both x t.state n h.ram.0 (λ a lo hi. let r = pair.ram a (may_write a lo hi) in (r.0, r.1)) permitted.size in
      let two = in_both x u.state m h.ram.1 (λ a lo hi. let r = pair.ram a (may_write a lo hi) in (r.0, r.2)) permitted.size in
      let few = few_bytes x.value x.bytes permitted.size in
      rw (one.0, two.0) (same-stored x.addr (bytes_of x.value x.bytes) t u one.1 (rw few one.2) (rw few two.2) h)

  same-devices : (a b : List DeviceData) (s u : State) → Same s u → Same record s { devices = a } record u { devices = b }
  unfolding task_at call_of listen_of
  same-devices a b s u h = record {
    there = h.there;
    registers = h.registers;
    flags = h.flags;
    health = h.health;
    memory = h.memory;
    ram = h.ram;
    idle = (record { call = h.idle.0.call; listen = h.idle.0.listen }, record { call = h.idle.1.call; listen = h.idle.1.listen });
  }

  same-took : (a : ℕ) (t u : Turn) → Same t.state u.state → Same (took t a).state (took u a).state
  unfolding device_taken with_devices
  same-took a t u h = by_device (is_device a)
    where
      by_device : (b : Bool) → Same (cond b (device_taken a t) t).state (cond b (device_taken a u) u).state
      by_device true = same-devices _ _ t.state u.state h
      by_device false = h

  same-move : (x : Move) (t u : Turn) → IsPermitted (refusals g c) x → Same t.state u.state → Same (moved t x).state (moved u x).state
  same-move (Puts x) t u permitted h = same-put x t u permitted h
  same-move (Takes addr bytes) t u permitted h = same-took addr t u h

  same-moves : (xs : List Move) (t u : Turn) → ((x : Move) → Contains xs x → IsPermitted (refusals g c) x) → Same t.state u.state → Same (fold moved t xs).state (fold moved u xs).state
  same-moves [] t u ok h = h
  same-moves (x ∷ xs) t u ok h = same-moves xs (moved t x) (moved u x) (λ y here. ok y (suc here.0, omega (arith, here.1), here.2)) (same-move x t u (ok x (zero, omega arith, refl)) h)

  same-processor : (registers : List ℕ) (flags : Flags) (t u : Turn) → Same t.state u.state → Same (with_processor c registers flags t).state (with_processor d registers flags u).state
  unfolding with_processor
  same-processor registers flags t u h =
      let x : Task = record (task_at t.state c) { registers = registers; flags = flags } in
      let y : Task = record (task_at u.state d) { registers = registers; flags = flags } in
      let a = task_at-with_task t.state c x h.there.0 in
      let b = task_at-with_task u.state d y h.there.1 in
      record {
        there = (rw length-with_task h.there.0, rw length-with_task h.there.1);
        registers = ap (λ (z : Task). z.registers) a ∙ sym (ap (λ (z : Task). z.registers) b);
        flags = ap (λ (z : Task). z.flags) a ∙ sym (ap (λ (z : Task). z.flags) b);
        health = ap (λ (z : Task). z.health) a ∙ h.health ∙ sym (ap (λ (z : Task). z.health) b);
        memory = rw (task_memory t.state c x, task_memory u.state d y) h.memory;
        ram = (rw (task_memory t.state c x) h.ram.0, rw (task_memory u.state d y) h.ram.1);
        idle = (record { call = call_of-with_task t.state c c x ∙ h.idle.0.call; listen = listen_of-with_task t.state c c x ∙ h.idle.0.listen }, record { call = call_of-with_task u.state d d y ∙ h.idle.1.call; listen = listen_of-with_task u.state d d y ∙ h.idle.1.listen });
      }

  -- ## system calls

  calls_on : (t : Turn) → Sane g t.state → c < length t.state.tasks → is_ready t.state c ≡ true → register t.state c 11 ≢ 8 → HasCalled c (syscall_made g c (syscall_noted c t)).notes
  unfolding syscall_noted noted
  calls_on t h inside ready other =
      let u = syscall_noted c t in
      let called = has-syscall_noted c t other in
      let kept = chain_keeps (Step g t.state c) (λ v. Contains v.notes (note.Syscall c called.0 called.1)) (λ v w step here. still_there _ v w (note.Syscall c called.0 called.1) (step_noted g t.state c v w step) here) u (syscall_made g c u) (chain-syscall_made g c u h (rw (← h.steady.as_many) inside) ready) called.2 in
      (called.0, called.1, kept, called.3)

  same-panicked : (t u : Turn) → Same t.state u.state → Same (panicked g c t).state (panicked k d u).state
  unfolding panicked
  same-panicked t u h =
      let x = sym (same_word t.state u.state h 4) in
      let y = sym (same_word t.state u.state h 5) in
      rw (x, y) (same-faulted _ t u h)

  same-call : (t u : Turn) → About t.state u.state → Outcome (syscall_made g c (syscall_noted c t)) (syscall_made k d (syscall_noted d u))
  same-call t u h = by_number (eqb (register t.state c 11) 8) refl
    where
      by_number : (b : Bool) → eqb (register t.state c 11) 8 ≡ b → Outcome (syscall_made g c (syscall_noted c t)) (syscall_made k d (syscall_noted d u))
      by_number false e = inr (calls_on t h.sane h.same.there.0 h.ready (λ q. false≢true (sym e ∙ eq-eqb _ _ q)))
      by_number true e =
          let one : register (syscall_noted c t).state c 11 ≡ 8 = ap (λ (s : State). register s c 11) (state-syscall_noted c t) ∙ eqb-true _ _ e in
          let two : register (syscall_noted d u).state d 11 ≡ 8 = ap (λ (s : State). register s d 11) (state-syscall_noted d u) ∙ sym (same_word t.state u.state h.same 11) ∙ eqb-true _ _ e in
          inl (rw (panic_is g c (syscall_noted c t) one, panic_is k d (syscall_noted d u) two) (same-panicked (syscall_noted c t) (syscall_noted d u) (rw (state-syscall_noted c t, state-syscall_noted d u) h.same)))

  -- ## an instruction

  same-acted : (e : Effect) (t u : Turn) → Keeps (refusals g c) e → About t.state u.state → Outcome (acted g c e t) (acted k d e u)
  same-acted (Next cpu moves) t u kept h = inl (same-processor cpu.regs.words cpu.flags _ _ (same-moves moves t u kept.1 h.same))
  same-acted Syscall t u kept h = same-call t u h
  same-acted (Trap x) t u kept h = inl (same-faulted x t u h.same)

  -- bytes that may be used so hold the same in both: they lie in memory
  same-held : (right : Right) (s u : State) → Same s u → (a w : ℕ) → refusals g c a w right ≡ None → held s a w ≡ held u a w
  same-held right s u h a zero e = held_nothing s a ∙ sym (held_nothing u a)
  same-held right s u h a (suc w) e =
      let may_use : (x : ℕ) → a ≤ x → x < a + suc w → may g c right x ≡ true = none_lacking (may g c right) a (suc w) e in
      let here = pair.memory right a (may_use a (omega arith) (omega arith)) in
      held_in_memory s a (suc w) here
      ∙ ap number_of (read_same (owns g c) s.memory u.memory a (suc w) h.memory (λ x lo hi. pair.own right x (may_use x lo hi)))
      ∙ sym (held_in_memory u a (suc w) here)

  same-loads : (s u : State) → Same s u → Agree (refusals g c) (held s) (held u)
  same-loads s u h a w e = same-held Read s u h a w e

  same-fetched : (s u : State) → Same s u → fetched (refusals g c) (held s) (register s c 15) ≡ fetched (refusals k d) (held u) (register u d 15)
  same-fetched s u h =
      fetched_same (refusals g c) (held s) (held u) (λ a e. same-held Execute s u h a 2 e) (register s c 15)
      ∙ (λ j. fetched (same_refusals j) (held u) (same_word s u h 15 j))

  same-executed : (insn : Insn) (t u : Turn) → IsCoded insn → About t.state u.state → Outcome (executed g c insn t) (executed k d insn u)
  same-executed insn t u coded h = go _ _ same (keeps-here c t h.sane h.same.there.0 insn coded)
    where
      s : State
      s = t.state

      z : State
      z = u.state

      same : effect (refusals g c) (held s) (cpu_of (task_at s c)) insn ≡ effect (refusals k d) (held z) (cpu_of (task_at z d)) insn
      same =
          effect_same (refusals g c) (held s) (held z) (same-loads s z h.same) (cpu_of (task_at s c)) insn
          ∙ (λ j. effect (same_refusals j) (held z) (same_cpu s z h.same j) insn)

      go : (e x : Effect) → e ≡ x → Keeps (refusals g c) e → Outcome (acted g c e t) (acted k d x u)
      go e x q r = rw (sym q) (same-acted e t u r h)

  same-noted_at : (a b : Note) (t u : Turn) → About t.state u.state → About (noted_at l a t).state (noted_at p b u).state
  same-noted_at a b t u h = rw (noted_state l a t, noted_state p b u) h

  same-by : (at place : ℕ) (r x : Result Fetched Fault) (t u : Turn) → IsFetchable r → r ≡ x → About t.state u.state → Outcome (stepped_by l g c at r t) (stepped_by p k d place x u)
  same-by at place r x t u known e h = rw (sym e) (go r known)
    where
      go : (r : Result Fetched Fault) → IsFetchable r → Outcome (stepped_by l g c at r t) (stepped_by p k d place r u)
      go (Ok i) coded = same-executed i.insn _ _ coded (same-noted_at (note.Insn c at i.code) (note.Insn d place i.code) t u h)
      go (Err fault) known = inl (same-faulted fault t u h.same)

  pub same-stepped : (t u : Turn) → About t.state u.state → Outcome (stepped l g c t) (stepped p k d u)
  unfolding stepped
  same-stepped t u h =
      let known = fetchable (refusals g c) (held t.state) (register t.state c 15) (λ a. held_small t.state a h.sane.steady.flash_bytes h.sane.steady.bytes) in
      same-by (register t.state c 15) (register u.state d 15) _ _ t u known (same-fetched t.state u.state h.same) h
