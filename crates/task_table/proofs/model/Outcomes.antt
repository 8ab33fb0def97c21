-- The outcomes of a system call: its caller faults; or it goes on after steps that do not fault it; or it restarts
-- a task and goes on. Devices do not change.
use Rattle.std.proofs.Common.{◌≡◌, ◌≢◌, ◌<◌, ◌≤◌, inl, ℕ, Bool, true, false, cond, List, length, Option, refl, ◌∙◌, arith}
use Rattle.kernel_abi.specs.declared.Ending.TheVariants.{Client}
use Rattle.kernel_abi.specs.declared.Fault.{Fault}
use Rattle.task_table.specs.model.State.{Setup, State, Turn}
use Rattle.task_table.specs.model.Effects.{given, past_syscall, faulted, restarted}
use Rattle.task_table.specs.model.Rows.{misused, denied, goes_on, goes_on_with}
use Rattle.task_table.specs.model.Chain.{Chain, Here}
use Rattle.task_table.specs.model.Step.{Step, Gives, Returns, PassesSyscall, Halts, Restarts, Spared, ReadsEntries, CallOutcome, Faults, Goes, GoesAfterRestart}
use Rattle.task_table.proofs.model.Chains.{chain_keeps, one, ◌▷◌, refined}
use Rattle.task_table.proofs.model.Devices.{Stay, stay-faulted, stay-after_restart, SparesDevices, spares_caller, stay-step}

-- ## an outcome is a chain of steps

pub chain-spared : (g : Setup) (s : State) (c : ℕ) (u v : Turn) → Chain (Spared g s c) u v → Chain (Step g s c) u v
chain-spared g s c u v x = refined (Spared g s c) (Step g s c) (λ a b step. one step.0) u v x

pub chain-outcome : (g : Setup) (s : State) (c : ℕ) (u v : Turn) → CallOutcome g s c u v → Chain (Step g s c) u v
chain-outcome g s c _ _ (Faults fault u v inside low high x state notes writes reads) = chain-spared g s c u v x ▷ Halts fault v inside low high
chain-outcome g s c _ _ (Goes u v x) = chain-spared g s c u v x
chain-outcome g s c _ _ (GoesAfterRestart i start values u inside other there few) =
    let v = restarted g i start u in
    let w = given c values v in
    one (Restarts i start u other there) ▷ Gives c values v inside few (inl refl) ▷ PassesSyscall w inside ▷ Returns c (past_syscall c w)

-- ## how outcomes are made

-- a step that spares c, all births and all devices
abbrev pub Made : Setup → State → ℕ → Turn → Turn → Type 0
Made g s c u v = (step : Step g s c u v) × SparesDevices step

-- what leads from t to u by such steps, and what turn t may become
abbrev pub Leads : Setup → ℕ → Turn → Turn → Type 0
Leads g c t u = Chain (Made g t.state c) t u

pub record Comes (g : Setup) (c : ℕ) (t u : Turn) : Type 0 where
  pub outcome : CallOutcome g t.state c t u
  pub devices : Stay t u

pub by_outcome : {g : Setup} {c : ℕ} {t : Turn} (b : Bool) {x y : Turn} → (b ≡ true → Comes g c t x) → (b ≡ false → Comes g c t y) → Comes g c t (cond b x y)
by_outcome true here later = here refl
by_outcome false here later = later refl

chain-led : (g : Setup) (c : ℕ) (t u : Turn) → Leads g c t u → Chain (Spared g t.state c) t u
chain-led g c t u x = refined (Made g t.state c) (Spared g t.state c) (λ a b made. one (made.0, spares_caller made.0 made.1)) t u x

stay-led : (g : Setup) (c : ℕ) (t u : Turn) → Leads g c t u → Stay t u
stay-led g c t u x = chain_keeps (Made g t.state c) (Stay t) (λ a b made before. stay-step g t.state c a b made.0 made.1 ∙ before) t u x refl

module _ (g : Setup) (c : ℕ) (t : Turn) (inside : c < length g.tasks) where
  -- the caller faults, at once or after steps that changed nothing
  pub comes-faulted_after : (fault : Fault) (u : Turn) → 1 ≤ fault.number → fault.number ≤ 10 → Leads g c t u → u.state ≡ t.state → u.notes ≡ t.notes → u.writes ≡ t.writes → ReadsEntries t u → Comes g c t (faulted g c fault u)
  comes-faulted_after fault u low high x state notes writes reads = record { outcome = Faults fault t u inside low high (chain-led g c t u x) state notes writes reads; devices = stay-faulted g c fault Client u ∙ stay-led g c t u x }

  pub comes-faulted : (fault : Fault) → 1 ≤ fault.number → fault.number ≤ 10 → Comes g c t (faulted g c fault t)
  comes-faulted fault low high = comes-faulted_after fault t low high (Here t) refl refl refl (λ r here. inl here)

  pub comes-misused : (usage : ℕ) → Comes g c t (misused g c usage t)
  comes-misused usage = comes-faulted record { number = 7; x = usage; y = 0 } (omega arith) (omega arith)

  pub comes-denied : (y : ℕ) (bad : Option ℕ) → Comes g c t (denied g c y bad t)
  comes-denied y bad = comes-faulted _ (omega arith) (omega arith)

  -- it goes on
  pub comes : (u : Turn) → Leads g c t u → Comes g c t u
  comes u x = record { outcome = Goes t u (chain-led g c t u x); devices = stay-led g c t u x }

  pub goes : (u : Turn) → Leads g c t u → Comes g c t (goes_on c u)
  goes u x = comes (goes_on c u) (x ▷ (PassesSyscall u inside, tt) ▷ (Returns c (past_syscall c u), tt))

  pub goes_with : (values : List ℕ) (u : Turn) → length values ≤ 6 → Leads g c t u → Comes g c t (goes_on_with c values u)
  goes_with values u few x = goes (given c values u) (x ▷ (Gives c values u inside few (inl refl), tt))

  -- it restarted another task, and goes on
  pub goes_after_restart : (i : ℕ) (start : Bool) (values : List ℕ) → i ≢ c → i < length g.tasks → length values ≤ 6 → Comes g c t (goes_on_with c values (restarted g i start t))
  goes_after_restart i start values other there few = record { outcome = GoesAfterRestart i start values t inside other there few; devices = stay-after_restart g c i start values t }
