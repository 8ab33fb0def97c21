-- The current task while its context is loaded, and what is noted of a turn.
use Rattle.std.proofs.Common.{◌≡◌, ◌<◌, ◌≤◌, ℕ, zero, suc, true, List, [], ◌∷◌, length, get_or, drop, arith, refl, sym, ◌∙◌, ap}
use Rattle.kernel_abi.specs.declared.Note.{Note}
use Rattle.kernel_abi.specs.Devices.{DeviceData}
use Rattle.thumb_exec.specs.declared.cpu.Cpu.{Cpu}
use Rattle.task_table.specs.declared.kernel.Kernel.{Kernel}
use Rattle.board_core.specs.declared.space.AddressSpace.{AddressSpace}
use Rattle.task_table.specs.model.State.{Setup, Turn}
use Rattle.task_table.specs.model.Reading.{is_ready, task_at}
use Rattle.task_table.specs.model.Effects.{noted}
use Rattle.task_table.specs.model.Rows.{syscall_noted}
use Rattle.task_table.specs.model.Syscalls.{syscall_made}
use Rattle.task_table.specs.kept.Holds.{Holds, Stands}
use Rattle.task_table.proofs.model.RowChains.{stay-syscall_made}
use Rattle.task_table.proofs.model.Sanity.{sane-noted}
use Rattle.task_table.proofs.model.StepKeeps.{sane-syscall_noted}
use Rattle.board_core.specs.declared.machine.Machine.{Machine}
use Rattle.board_model.specs.declared.outcomes.Level.{Level}
use Rattle.board_model.specs.declared.outcomes.Level.TheVariants.{Calls, All}
use Rattle.board_core.specs.Machine.{with_cpu, SpaceHolds, IsLoaded, IsReady}
use Rattle.board_model.specs.Turn.{noted_at, with_registers_noted, high_note, low_note}
use Rattle.board_core.proofs.Loading.{rest_of, loaded_noted}
use Rattle.board_model.proofs.Quiet.{ready-with_processor}
use Rattle.board_model.proofs.TurnChains.{noted_state, ready-syscall_noted}
use Rattle.board_core.specs.Data.{Shows, data_of}

pub loaded_ready : {X : Type 0} {H : X → Type 0} (shown : Shows X H) (g : Setup) (r : AddressSpace X H) (cpu : Cpu) (t : Turn) → IsLoaded shown g r cpu t → t.state.current < length t.state.tasks → is_ready t.state t.state.current ≡ true
loaded_ready shown g r cpu t h inside =
    let s = h.saved in
    let rest = rest_of s t cpu h.is in
    let same : is_ready (with_cpu cpu s).state s.state.current ≡ true = ready-with_processor s.state.current cpu.regs.words cpu.flags s ∙ h.ready in
    ap (λ (i : ℕ). is_ready t.state i) rest.current ∙ ap (λ (u : Turn). is_ready u.state s.state.current) h.is ∙ same

-- the kernel as a task makes a system call: what it stands for, that the caller is ready, and what the devices are
pub record IsCalling (g : Setup) (ds : List DeviceData) (k : Kernel) (c : ℕ) (t : Turn) : Type 0 where
  pub stands : Stands g k (syscall_noted c t)
  pub ready : is_ready (syscall_noted c t).state c ≡ true
  pub inside : c < length g.tasks
  pub devices : ds ≡ (syscall_noted c t).state.devices

devices-syscall_noted : (c : ℕ) (t : Turn) → (syscall_noted c t).state.devices ≡ t.state.devices
unfolding syscall_noted noted
devices-syscall_noted c t = refl

pub calling : {X : Type 0} {H : X → Type 0} (shown : Shows X H) (g : Setup) (r : AddressSpace X H) (k' : Kernel) (m : Machine X H) (c : ℕ) (t : Turn) → IsReady shown g m t → c ≡ t.state.current → SpaceHolds shown g r t → (Holds g r.kernel t → Holds g k' (syscall_noted c t)) → IsCalling g (data_of shown r.devices) k' c t
calling shown g r k' m c t is at h f =
    let inside : c < length t.state.tasks = rw at is.sane.steady.current in
    let ready : is_ready t.state c ≡ true = ap (λ (i : ℕ). is_ready t.state i) at ∙ loaded_ready shown g m.space m.glider.runner.processor t is.holds is.sane.steady.current in
    record {
      stands = record { holds = f h.kernel; sane = sane-syscall_noted c t is.sane inside };
      ready = ready-syscall_noted c t ready;
      inside = rw (← is.sane.steady.as_many) inside;
      devices = h.devices ∙ sym (devices-syscall_noted c t);
    }

-- the kernel has made the call, which changes no device
pub called : {X : Type 0} {H : X → Type 0} (shown : Shows X H) (g : Setup) (r : AddressSpace X H) (k : Kernel) (c : ℕ) (t : Turn) → IsCalling g (data_of shown r.devices) k c t → Holds g r.kernel (syscall_made g c (syscall_noted c t)) → SpaceHolds shown g r (syscall_made g c (syscall_noted c t))
called shown g r k c t by kernel = record { kernel = kernel; devices = by.devices ∙ sym (stay-syscall_made g c (syscall_noted c t) by.stands.sane by.inside by.ready) }

-- a system call that is noted has the number that it had
pub number-syscall_noted : (c : ℕ) (t : Turn) → (syscall_noted c t).state.next_call ≡ t.state.next_call
unfolding syscall_noted noted
number-syscall_noted c t = refl

-- ## what is noted

drop_at : (xs : List ℕ) (k : ℕ) → k < length xs → get_or xs k 0 ∷ drop (suc k) xs ≡ drop k xs
drop_at [] k h = absurd (omega arith)
drop_at (x ∷ xs) zero h = refl
drop_at (x ∷ xs) (suc k) h = drop_at xs k (omega arith)

drop_all : (xs : List ℕ) (n : ℕ) → length xs ≤ n → [] ≡ drop n xs
drop_all [] zero h = refl
drop_all [] (suc n) h = refl
drop_all (x ∷ xs) zero h = absurd (omega arith)
drop_all (x ∷ xs) (suc n) h = drop_all xs n (omega arith)

-- the last eight of sixteen
pub last_eight : (xs : List ℕ) → length xs ≡ 16 → get_or xs 8 0 ∷ get_or xs 9 0 ∷ get_or xs 10 0 ∷ get_or xs 11 0 ∷ get_or xs 12 0 ∷ get_or xs 13 0 ∷ get_or xs 14 0 ∷ get_or xs 15 0 ∷ [] ≡ drop 8 xs
last_eight xs n =
    let at15 = ap (λ (ys : List ℕ). get_or xs 15 0 ∷ ys) (drop_all xs 16 (omega arith)) ∙ drop_at xs 15 (omega arith) in
    let at14 = ap (λ (ys : List ℕ). get_or xs 14 0 ∷ ys) at15 ∙ drop_at xs 14 (omega arith) in
    let at13 = ap (λ (ys : List ℕ). get_or xs 13 0 ∷ ys) at14 ∙ drop_at xs 13 (omega arith) in
    let at12 = ap (λ (ys : List ℕ). get_or xs 12 0 ∷ ys) at13 ∙ drop_at xs 12 (omega arith) in
    let at11 = ap (λ (ys : List ℕ). get_or xs 11 0 ∷ ys) at12 ∙ drop_at xs 11 (omega arith) in
    let at10 = ap (λ (ys : List ℕ). get_or xs 10 0 ∷ ys) at11 ∙ drop_at xs 10 (omega arith) in
    let at9 = ap (λ (ys : List ℕ). get_or xs 9 0 ∷ ys) at10 ∙ drop_at xs 9 (omega arith) in
    ap (λ (ys : List ℕ). get_or xs 8 0 ∷ ys) at9 ∙ drop_at xs 8 (omega arith)

pub noted_current : (level : Level) (n : Note) (t : Turn) → (noted_at level n t).state.current ≡ t.state.current
noted_current level n t = ap (λ s. s.current) (noted_state level n t)

pub ready_noted : {X : Type 0} {H : X → Type 0} (shown : Shows X H) (g : Setup) (m : Machine X H) (k : Kernel) (n : Note) (t : Turn) → ((u : Turn) → Holds g m.space.kernel u → Holds g k (noted n u)) → IsReady shown g m t → IsReady shown g record m { space = record m.space { kernel = k } } (noted n t)
ready_noted shown g m k n t f r = record { loaded = r.loaded; holds = loaded_noted shown g m.space record m.space { kernel = k } m.glider.runner.processor n t refl f r.holds; sane = sane-noted n t r.sane }

-- both notes of the registers, one after the other
pub registers_noted : (c : ℕ) (t : Turn) → noted (high_note (task_at t.state c)) (noted (low_note (task_at t.state c)) t) ≡ with_registers_noted All c t
unfolding with_registers_noted
registers_noted c t = refl

pub no_registers_noted : (c : ℕ) (t : Turn) → t ≡ with_registers_noted Calls c t
unfolding with_registers_noted
no_registers_noted c t = refl
