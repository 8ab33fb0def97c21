-- What a runner does with a decoded instruction.
use Rattle.std.specs.Prelude.{◌≡◌, ℕ, Bool, true, false}
use Rattle.thumb_insn.specs.declared.Decoded.{Decoded}
use Rattle.thumb_insn.specs.declared.Decoded.TheVariants.{Narrow, NeedsSecond, Illegal}
use Rattle.thumb_insn.specs.declared.Insn.{Insn}
use Rattle.thumb_exec.specs.Effect.{Effect, Acts, Halts, effect}
use Rattle.thumb_exec.specs.declared.cpu.Outcome.TheVariants as outcome
use Rattle.thumb_exec.specs.Sizes.{IsSize}
use Rattle.thumb_step.specs.declared.window.Runner.{Runner}
use Rattle.thumb_step.specs.declared.window.Window.{Window}
use Rattle.thumb_step.specs.Windows.{may_write, Keeps, refused_by, held_by, write, view_of}

-- a window after a store of n bytes
pub record IsStored (w : Window) (a n x : ℕ) (w' : Window) : Type 0 where
  pub size : IsSize n
  pub inside : may_write (view_of w) a n ≡ true
  pub after : view_of w' ≡ write (view_of w) record { addr = a; bytes = n; value = x }
  pub keeps : Keeps (view_of w) (view_of w')

-- a window after a load: it has no device, so it is the same
abbrev pub IsTaken : Window → ℕ → Window → Type 0
IsTaken w a w' = w' ≡ w

-- the effect of an instruction on the processor and window of a runner
abbrev pub effect_on : Runner → Insn → Effect
effect_on r i = effect (refused_by (view_of r.window)) (held_by (view_of r.window)) r.processor i

-- By the answer: the instruction went on; or nothing changed, and it is a system call, faults, is illegal or is the
-- first halfword of a wide code.
abbrev pub Did : Runner → Decoded → Bool → Runner → Type 0
Did a (Narrow i) true b = Acts IsStored IsTaken a.processor b.processor a.window b.window outcome.Next (effect_on a i)
Did a (Narrow i) false b = Halts (effect_on a i) × (b ≡ a)
Did a Illegal true b = ⊥
Did a Illegal false b = b ≡ a
Did a NeedsSecond true b = ⊥
Did a NeedsSecond false b = b ≡ a
Did a d r b = ⊥
