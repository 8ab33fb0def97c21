-- The instruction that is fetched for the current task is the one of the turn.
use Rattle.std.proofs.Common.{◌≡◌, ◌%◌, ℕ, List, sym, ◌∙◌, ap}
use Rattle.std.specs.Prelude.{Result, Some}
use Rattle.kernel_abi.specs.declared.Fault.{Fault}
use Rattle.kernel_abi.specs.Devices.{DeviceData}
use Rattle.thumb_exec.specs.declared.fetch.Fetched.{Fetched}
use Rattle.thumb_exec.specs.Effect.{effect}
use Rattle.thumb_exec.specs.Fetch.{fetched}
use Rattle.task_table.specs.model.Rows.{syscall_noted}
use Rattle.task_table.specs.model.Syscalls.{syscall_made}
use Rattle.task_table.specs.kept.Holds.{setup_of, current_of}
use Rattle.mem_banks.specs.Memory.{Memory}
use Rattle.task_table.specs.model.Reading.{register, task_at}
use Rattle.task_table.specs.model.State.{Setup, Turn}
use Rattle.board_core.specs.declared.machine.Machine.{Machine}
use Rattle.board_model.specs.declared.outcomes.Level.{Level}
use Rattle.board_model.specs.declared.outcomes.Level.TheVariants.{Calls}
use Rattle.board_core.specs.fast.Windowed.{IsCalling}
use Rattle.board_core.specs.Machine.{IsReady, shown_by}
use Rattle.board_model.specs.Turn.{refusals, held, stepped_by, stepped, with_current, with_registers_noted, turn_of}
use Rattle.board_core.proofs.fast.Gliding.{current_seen}
use Rattle.board_core.proofs.Loading.{rest_of}
use Rattle.board_core.proofs.Running.{held_in}
use Rattle.board_core.specs.Data.{Shows, data_of}

module _ {X : Type 0} {H : X → Type 0} (shown : Shows X H) (g : Setup) (m : Machine X H) (t : Turn) (r : IsReady shown g m t) where
  -- PC is even
  pub even_pc : (at : ℕ) → at ≡ register t.state t.state.current 15 → at % 2 ≡ 0
  unfolding register
  even_pc at is = rw is (r.sane.steady.tasks t.state.current r.sane.steady.current).even

  fetched_here : (at : ℕ) → fetched (refusals (setup_of m.space.kernel) (current_of m.space.kernel)) (shown_by shown m.space) at ≡ fetched (refusals g t.state.current) (held t.state) at
  fetched_here at =
      let k = m.space.kernel in
      let h = r.holds in
      let rest = rest_of h.saved t m.glider.runner.processor h.is in
      ap (λ (x : Setup). fetched (refusals x (current_of k)) (shown_by shown m.space) at) h.holds.kernel.setup
      ∙ ap (λ (i : ℕ). fetched (refusals g i) (shown_by shown m.space) at) (current_seen shown g m t r)
      ∙ ap (λ (x : Memory). fetched (refusals g t.state.current) (held_in x (data_of shown m.space.devices)) at) (h.holds.kernel.memory ∙ sym rest.memory)
      ∙ ap (λ (ds : List DeviceData). fetched (refusals g t.state.current) (held_in t.state.memory ds) at) (h.holds.devices ∙ sym rest.devices)

  -- what the bus of the current task fetches, carried out, is the instruction of the turn
  pub fetched_stepped : (level : Level) (at : ℕ) (x y : Result Fetched Fault) → at ≡ register t.state t.state.current 15 → x ≡ fetched (refusals (setup_of m.space.kernel) (current_of m.space.kernel)) (shown_by shown m.space) at → x ≡ y →
      stepped_by level g t.state.current at y t ≡ stepped level g t.state.current t
  unfolding stepped
  fetched_stepped level at x y is from same =
      ap (λ (z : Result Fetched Fault). stepped_by level g t.state.current at z t) (sym same ∙ from ∙ fetched_here at)
      ∙ ap (λ (a : ℕ). stepped_by level g t.state.current a (fetched (refusals g t.state.current) (held t.state) a) t) is

-- the turn of a task that fetches a system call is that call
pub call_turned : (g : Setup) (c : ℕ) (t : Turn) → IsCalling g c t.state → turn_of Calls g (Some c) t ≡ syscall_made g c (syscall_noted c (with_current c t))
unfolding stepped with_registers_noted register task_at effect
call_turned g c t h =
    let at : ℕ = register t.state c 15 in
    ap (λ (r : Result Fetched Fault). stepped_by Calls g c at r (with_current c t)) h.is
