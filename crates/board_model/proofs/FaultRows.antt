-- A system call either faults its caller at once, which changes nothing else, or leaves the caller well.
use Rattle.std.proofs.Common.{◌≡◌, ◌<◌, inl, ℕ, true, List, length, sym, ◌∙◌}
use Rattle.kernel_abi.specs.declared.Fault.{Fault}
use Rattle.kernel_abi.specs.declared.Health.{Health}
use Rattle.kernel_abi.specs.declared.Health.TheVariants.{Well}
use Rattle.words_core.specs.declared.Flags.{Flags}
use Rattle.task_table.specs.model.State.{Setup, Task, Turn}
use Rattle.task_table.specs.model.Reading.{task_at, is_ready}
use Rattle.task_table.specs.model.Effects.{with_processor, faulted}
use Rattle.task_table.specs.model.Syscalls.{syscall_made}
use Rattle.task_table.specs.model.Sane.{Sane}
use Rattle.task_table.specs.model.Step.{CallOutcome as Rows, Faults, Goes, GoesAfterRestart}
use Rattle.task_table.proofs.model.Receives.{well-ready}
use Rattle.task_table.proofs.model.RowChains.{comes-syscall_made}
use Rattle.task_table.proofs.model.Spared.{left-processor, left-after_restart, left-chain}
use Rattle.board_model.proofs.FaultFrames.{IsLoneFault, lone-faulted, lone_after}

-- ## who is well stays so

abbrev pub IsWell : ℕ → Turn → Type 0
IsWell c t = (task_at t.state c).health ≡ Well

abbrev health_of : Task → Health
health_of x = x.health

by_health : (x y : Task) → x.births ≡ y.births → x.health ≡ y.health → health_of x ≡ health_of y
by_health x y births health = health

pub well-processor : (c i : ℕ) (registers : List ℕ) (flags : Flags) (t : Turn) → IsWell c t → IsWell c (with_processor i registers flags t)
well-processor c i registers flags t h = left-processor health_of by_health c i registers flags t ∙ h

-- what comes of a turn of task c: it faults at once, with nothing else changed, or it is well
pub data Outcome (g : Setup) (c : ℕ) (t u : Turn) : Type 0 where
  FaultsAlone : IsLoneFault g c t u → Outcome g c t u
  StaysWell : IsWell c u → Outcome g c t u

module _ (g : Setup) (c : ℕ) where
  pub outcome-faulted : (t : Turn) → c < length t.state.tasks → (f : Fault) → Outcome g c t (faulted g c f t)
  outcome-faulted t inside f = FaultsAlone (lone-faulted g c f t inside)

  -- ## a system call: the one walk over its rows is task_table's

  outcome-rows : (t u : Turn) → c < length t.state.tasks → IsWell c t → Rows g t.state c t u → Outcome g c t u
  outcome-rows _ _ inside h (Faults f t u there low high x state notes writes reads) =
      FaultsAlone (lone_after g c t u _ state writes reads (lone-faulted g c f u (rw state inside)))
  outcome-rows _ _ inside h (Goes t u x) =
      StaysWell (left-chain health_of by_health c g t.state c (λ i other. inl (λ same. other (sym same))) t u x ∙ h)
  outcome-rows _ _ inside h (GoesAfterRestart i start values t there other within few) =
      StaysWell (left-after_restart health_of by_health c g c i start values t (λ same. other (sym same)) ∙ h)

  pub outcome-syscall_made : (t : Turn) → Sane g t.state → c < length t.state.tasks → is_ready t.state c ≡ true → Outcome g c t (syscall_made g c t)
  outcome-syscall_made t sane inside ready =
      outcome-rows t _ inside (well-ready t.state c ready) (comes-syscall_made g c t sane (rw (← sane.steady.as_many) inside) ready)
