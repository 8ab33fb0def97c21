-- Two turns that go on side by side: what the chosen tasks do is fetched, decoded and carried out in both,
-- and whatever relation holds before, and is kept by what an instruction may do, holds after.
use Rattle.std.proofs.Common.{◌≡◌, ◌+◌, ◌*◌, ◌^◌, ℕ, cond, List, [], ◌∷◌, Option, Some, None, refl, sym, ◌∙◌, ap}
use Rattle.std.specs.Prelude.{fold, Result, Ok, Err}
use Rattle.kernel_abi.specs.declared.Fault.{Fault}
use Rattle.kernel_abi.specs.declared.Note.TheVariants as note
use Rattle.region_check.specs.declared.Right.TheVariants.{Execute}
use Rattle.words_core.specs.declared.Flags.{Flags}
use Rattle.thumb_insn.specs.declared.Insn.{Insn}
use Rattle.thumb_insn.specs.Table.{decoded_of, is_wide}
use Rattle.thumb_exec.specs.Effect.{Effect, Next, Syscall, Trap, Move, Refusals, Contents, effect}
use Rattle.thumb_exec.specs.declared.fetch.Fetched.{Fetched}
use Rattle.thumb_exec.specs.Fetch.{instruction, unless_barred, after, fetched_wide, fetched_by, fetched}
use Rattle.thumb_exec.specs.Keeps.{Agree}
use Rattle.thumb_exec.proofs.Agreeing.{effect_same}
use Rattle.task_table.specs.model.State.{Setup, Turn}
use Rattle.task_table.specs.model.Reading.{task_at, register}
use Rattle.task_table.specs.model.Effects.{with_processor, faulted}
use Rattle.task_table.specs.model.Rows.{syscall_noted}
use Rattle.task_table.specs.model.Syscalls.{syscall_made}
use Rattle.board_model.specs.declared.outcomes.Level.{Level}
use Rattle.board_model.specs.Turn.{refusals, held, cpu_of, moved, acted, executed, noted_at, stepped_by, stepped}

-- ## what is fetched from two memories that hold the same where a halfword may be executed

module _ (refuses : Refusals) (holds shows : Contents) (same : (a : ℕ) → refuses a 2 Execute ≡ None → holds a 2 ≡ shows a 2) where
  unless_same : (o : Option ℕ) (at : ℕ) (r x : Result Fetched Fault) → (o ≡ None → r ≡ x) → unless_barred o at r ≡ unless_barred o at x
  unless_same None at r x e = e refl
  unless_same (Some byte) at r x e = refl

  wide_same : (at first : ℕ) → fetched_wide refuses holds at first ≡ fetched_wide refuses shows at first
  wide_same at first = unless_same (refuses (after at) 2 Execute) (after at) _ _ (λ e. ap (λ (second : ℕ). instruction at (first * 2 ^ 16 + second) (decoded_of first (Some second))) (same (after at) e))

  by_same : (at first : ℕ) → fetched_by refuses holds at first ≡ fetched_by refuses shows at first
  by_same at first = ap (λ (r : Result Fetched Fault). cond (is_wide first) r (instruction at first (decoded_of first None))) (wide_same at first)

  pub fetched_same : (at : ℕ) → fetched refuses holds at ≡ fetched refuses shows at
  fetched_same at = unless_same (refuses at 2 Execute) at _ _ (λ e. ap (fetched_by refuses holds at) (same at e) ∙ by_same at (shows at 2))

-- ## the walk

-- what the walk needs of a relation R before and W after, between the turn of task c under g and that of d under k
pub record IsFollowed (l m : Level) (g k : Setup) (c d : ℕ) (R W : Turn → Turn → Type 0) : Type 0 where
  -- the two tasks have the same rights, registers and flags, and read the same
  pub refused : refusals g c ≡ refusals k d
  pub pc : (t u : Turn) → R t u → register t.state c 15 ≡ register u.state d 15
  pub cpu : (t u : Turn) → R t u → cpu_of (task_at t.state c) ≡ cpu_of (task_at u.state d)
  pub fetches : (t u : Turn) → R t u → (a : ℕ) → refusals g c a 2 Execute ≡ None → held t.state a 2 ≡ held u.state a 2
  pub loads : (t u : Turn) → R t u → Agree (refusals g c) (held t.state) (held u.state)
  -- what an instruction does keeps the relation
  pub noted_at : (at code : ℕ) (t u : Turn) → R t u → R (noted_at l (note.Insn c at code) t) (noted_at m (note.Insn d at code) u)
  pub moved : (x : Move) (t u : Turn) → R t u → R (moved t x) (moved u x)
  pub processor : (registers : List ℕ) (flags : Flags) (t u : Turn) → R t u → W (with_processor c registers flags t) (with_processor d registers flags u)
  pub fault : (x : Fault) (t u : Turn) → R t u → W (faulted g c x t) (faulted k d x u)
  pub call : (t u : Turn) → R t u → W (syscall_made g c (syscall_noted c t)) (syscall_made k d (syscall_noted d u))

module _ (l m : Level) (g k : Setup) (c d : ℕ) (R W : Turn → Turn → Type 0) (f : IsFollowed l m g k c d R W) where
  follow-moves : (xs : List Move) (t u : Turn) → R t u → R (fold moved t xs) (fold moved u xs)
  follow-moves [] t u h = h
  follow-moves (x ∷ xs) t u h = follow-moves xs (moved t x) (moved u x) (f.moved x t u h)

  follow-acted : (e : Effect) (t u : Turn) → R t u → W (acted g c e t) (acted k d e u)
  follow-acted (Next cpu moves) t u h = f.processor cpu.regs.words cpu.flags _ _ (follow-moves moves t u h)
  follow-acted Syscall t u h = f.call t u h
  follow-acted (Trap x) t u h = f.fault x t u h

  pub follow-executed : (insn : Insn) (t u : Turn) → R t u → W (executed g c insn t) (executed k d insn u)
  follow-executed insn t u h = go _ _ same
    where
      same : effect (refusals g c) (held t.state) (cpu_of (task_at t.state c)) insn ≡ effect (refusals k d) (held u.state) (cpu_of (task_at u.state d)) insn
      same =
          effect_same (refusals g c) (held t.state) (held u.state) (f.loads t u h) (cpu_of (task_at t.state c)) insn
          ∙ (λ j. effect (f.refused j) (held u.state) (f.cpu t u h j) insn)

      go : (e x : Effect) → e ≡ x → W (acted g c e t) (acted k d x u)
      go e x q = rw (sym q) (follow-acted e t u h)

  follow-by : (at place : ℕ) (r x : Result Fetched Fault) (t u : Turn) → R t u → at ≡ place → r ≡ x → W (stepped_by l g c at r t) (stepped_by m k d place x u)
  follow-by at place r x t u h here same = rw (sym here, sym same) (go r)
    where
      go : (r : Result Fetched Fault) → W (stepped_by l g c at r t) (stepped_by m k d at r u)
      go (Ok i) = follow-executed i.insn _ _ (f.noted_at at i.code t u h)
      go (Err fault) = f.fault fault t u h

  pub follow-stepped : (t u : Turn) → R t u → W (stepped l g c t) (stepped m k d u)
  unfolding stepped
  follow-stepped t u h =
      follow-by _ _ _ _ t u h (f.pc t u h)
      (fetched_same (refusals g c) (held t.state) (held u.state) (f.fetches t u h) (register t.state c 15) ∙ (λ j. fetched (f.refused j) (held u.state) (f.pc t u h j)))
