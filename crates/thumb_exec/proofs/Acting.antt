-- What an instruction that stores nothing does to a bus.
use Rattle.std.proofs.Common.{◌≡◌, ◌≢◌, ℕ, [], ◌∷◌, refl}
use Rattle.thumb_exec.specs.declared.cpu.Cpu.{Cpu}
use Rattle.thumb_exec.specs.declared.cpu.Outcome.{Outcome}
use Rattle.thumb_exec.specs.declared.cpu.Outcome.TheVariants as outcome
use Rattle.thumb_exec.specs.Effect.{Effect, Next, Syscall, Trap, Acts, Effects, Halts}

pub acts_next : {B : Type 0} (stored : B → ℕ → ℕ → ℕ → B → Type 0) (taken : B → ℕ → B → Type 0) (c c' : Cpu) (b : B) (e : Effect) → e ≡ Next c' [] → Acts stored taken c c' b b outcome.Next e
acts_next stored taken c c' b e same = rw same (refl, refl, refl)

pub acts_of : {B : Type 0} (stored : B → ℕ → ℕ → ℕ → B → Type 0) (taken : B → ℕ → B → Type 0) (c c' : Cpu) (b : B) (o : Outcome) (e : Effect) → Effects c c' o e → Acts stored taken c c' b b o e
acts_of stored taken c c' b o (Next d []) h = (h.0, h.1, refl)
acts_of stored taken c c' b o (Next d (s ∷ ss)) h = absurd h
acts_of stored taken c c' b o Syscall h = (h.0, h.1, refl)
acts_of stored taken c c' b o (Trap f) h = (h.0, h.1, refl)

pub acts_halted : {B : Type 0} (stored : B → ℕ → ℕ → ℕ → B → Type 0) (taken : B → ℕ → B → Type 0) (c c' : Cpu) (b b' : B) (o : Outcome) (e : Effect) → Acts stored taken c c' b b' o e → o ≢ outcome.Next → Halts e × (c' ≡ c) × (b' ≡ b)
acts_halted stored taken c c' b b' o (Next d ss) h not = absurd (not h.0)
acts_halted stored taken c c' b b' o Syscall h not = (tt, h.1, h.2)
acts_halted stored taken c c' b b' o (Trap f) h not = (tt, h.1, h.2)
