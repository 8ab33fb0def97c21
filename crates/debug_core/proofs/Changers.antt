-- The task that an answer names with a change could make it.
use Rattle.std.proofs.Common.{◌≡◌, ◌≢◌, ◌∙◌, ℕ, eqb, Bool, true, false, cond, Option, Some, None, refl, sym, ap}
use Rattle.std.specs.Option.{option_map}
use Rattle.std.proofs.lemmas.Bool.{eq-eqb}
use Rattle.mem_banks.specs.Memory.{byte_at}
use Rattle.task_table.specs.model.Reading.{chosen}
use Rattle.task_table.specs.model.Sane.{Sane}
use Rattle.task_table.specs.model.State.{State}
use Rattle.board_model.specs.declared.outcomes.Level.TheVariants.{Calls}
use Rattle.board_model.specs.Script.{Scenario, start_of}
use Rattle.board_model.specs.Turn.{after_events, turn, turned, turned_of}
use Rattle.board_model.proofs.Changes.{changes_on_grounds}
use Rattle.board_core.specs.Changes.{change_by, runner_of}
use Rattle.board_core.specs.declared.changes.Change.{Change as AChange}
use Rattle.debug_core.specs.declared.answer.Answer.{Answer}
use Rattle.debug_core.specs.declared.answer.Answer.TheVariants.{Changed}
use Rattle.debug_core.specs.declared.command.Sought.TheVariants.{Change}
use Rattle.debug_core.specs.Changers.{CouldChange}
use Rattle.debug_core.specs.Runs.{state_at}
use Rattle.debug_core.specs.Searched.{found}
use Rattle.debug_core.proofs.Ahead.{sane_at}

-- ---- what is told of a change

abbrev told_of : ℕ → ℕ → Option AChange → Option Answer
told_of n at change = option_map (λ (c : AChange). Changed n c.task at c.old c.new) change

module _ (n at old new : ℕ) (task : Option ℕ) where
  abbrev Says : Option ℕ → Option ℕ → Option ℕ → Type 0
  Says runner before after = told_of n at (change_by runner before after) ≡ Some (Changed n task at old new)

  nothing : {P : Type 0} → ◌≡◌ {A = Option Answer} None (Some (Changed n task at old new)) → P
  nothing e = cc

  two : (runner : Option ℕ) (o w : ℕ) (b : Bool) → eqb o w ≡ b → told_of n at (option_map (λ (c : ℕ × ℕ). record { task = runner; old = c.0; new = c.1 }) (cond b None (Some (o, w)))) ≡ Some (Changed n task at old new) → (runner ≡ task) × (◌≢◌ {A = Option ℕ} (Some w) (Some o))
  two runner o w true is e = nothing e
  two runner o w false is e = (same e, λ s. absurd (apart (eq-eqb o w (sym (number s)))))
    where
      same : Some (Changed n runner at o w) ≡ Some (Changed n task at old new) → runner ≡ task
      same h = cc

      number : ◌≡◌ {A = Option ℕ} (Some w) (Some o) → w ≡ o
      number h = cc

      apart : eqb o w ≡ true → ⊥
      apart t = let h : true ≡ false = sym t ∙ is in cc

  of_change : (runner before after : Option ℕ) → Says runner before after → (runner ≡ task) × (after ≢ before)
  of_change runner None None e = nothing e
  of_change runner None (Some w) e = nothing e
  of_change runner (Some o) None e = nothing e
  of_change runner (Some o) (Some w) e = two runner o w (eqb o w) refl e

-- ---- who ran

who_ran : (x : Scenario) (s : State) (c : ℕ) → chosen x.setup (after_events x s).state ≡ Some c → runner_of (turned x s) ≡ Some c
unfolding turned
who_ran x s c e = ap (λ (o : Option ℕ). runner_of (turned_of (after_events x s).state o)) e

pub could_change : (x : Scenario) (n at old new : ℕ) (task : Option ℕ) → Sane x.setup (start_of x) → found x (Change at) n ≡ Some (Changed n task at old new) → CouldChange x n at task
could_change x n at old new task sane e =
    let s = state_at x n in
    let t = of_change n at old new task (runner_of (turned x s)) (byte_at s.memory at) (byte_at (turn Calls x s).state.memory at) e in
    let g = changes_on_grounds Calls x s (sane_at x sane n) at t.1 in
    record { task = g.task; is = sym t.0 ∙ who_ran x s g.task g.chosen; may = g.may }
