-- What is asked of a state, and of the runs from it, depends on births modulo 64 alone.
use Rattle.std.proofs.Common.{◌≡◌, ◌∙◌, ℕ, zero, suc, ◌-◌, ◌%◌, List, Option, Some, None, refl, sym, ap}
use Rattle.std.specs.Prelude.{◌==◌, ◌&&◌, cond, not, bit_and, is_some, is_none, option_map, slice_index}
use Rattle.mem_banks.specs.Memory.{byte_at}
use Rattle.task_table.specs.model.State.{State, Task}
use Rattle.task_table.specs.model.Reading.{task_at, call_of, listen_of, is_ready, is_well}
use Rattle.task_table.specs.model.Sane.{Sane, IsCounted}
use Rattle.board_model.specs.declared.outcomes.End.{End}
use Rattle.board_model.specs.declared.outcomes.Level.TheVariants.{Calls}
use Rattle.board_model.specs.Alike.{but_memory, reduced, seen, seen_call, seen_listen}
use Rattle.board_model.specs.Run.{ending}
use Rattle.board_model.specs.Script.{Scenario}
use Rattle.board_model.specs.Turn.{turn, turned}
use Rattle.board_model.proofs.Alike.{call_alike, listen_alike, shown, task_alike}
use Rattle.board_model.proofs.GenerationsSeen.{ending_reduced, turned_reduced}
use Rattle.board_model.proofs.SaneReduced.{sane-reduced}
use Rattle.board_model.proofs.TurnChains.{sane-after}
use Rattle.board_model.proofs.Views.{reduced-turn}
use Rattle.board_core.specs.Changes.{change_by, change_in, runner_of}
use Rattle.snapshot.specs.Loaded.{IsSpelledBy, sites}
use Rattle.snapshot.specs.Saved.{SpellsState}
use Rattle.snapshot.proofs.Runs.{counted_reduced}
use Rattle.snapshot.proofs.StandsForSome.{reduced_again}
use Rattle.run_question.specs.declared.asked.Condition.{Condition}
use Rattle.run_question.specs.declared.asked.Fact.{Fact}
use Rattle.run_question.specs.declared.asked.Fact.TheVariants as fact
use Rattle.run_question.specs.declared.asked.Property.{Property}
use Rattle.run_question.specs.declared.asked.Property.TheVariants as property
use Rattle.run_question.specs.declared.asked.TaskFact.{TaskFact}
use Rattle.run_question.specs.declared.asked.TaskFact.TheVariants as task_fact
use Rattle.explore_core.specs.Answers.{Asking}
use Rattle.explore_core.specs.Asked.{holds, is_so, is_so_of_task, is_some_other}
use Rattle.explore_core.specs.Clean.{AreClean, IsClean}
use Rattle.explore_core.specs.Kept.{breaks_at_end, broken_from, broken_if, by_turn, from_standing, held_by, on_state, owed_on, tells_such, unless_ended}
use Rattle.explore_core.specs.Schedules.{scheduled}
use Rattle.explore_core.specs.Walked.{Placed, schedule_of}

abbrev births : ℕ → ℕ
births b = b % 64

-- ## a state

none_of_map : {A B : Type 0} (f : A → B) (o : Option A) → is_none (option_map f o) ≡ is_none o
none_of_map f None = refl
none_of_map f (Some a) = refl

some_of_map : {A B : Type 0} (f : A → B) (o : Option A) → is_some (option_map f o) ≡ is_some o
some_of_map f None = refl
some_of_map f (Some a) = refl

module _ (s u : State) (e : reduced s ≡ reduced u) where
  same : shown births s ≡ shown births u
  same = ap but_memory e

  no_call : (i : ℕ) → is_none (call_of s i) ≡ is_none (call_of u i)
  no_call i = sym (none_of_map (seen_call births) (call_of s i)) ∙ ap (λ o. is_none o) (call_alike births s u i same) ∙ none_of_map (seen_call births) (call_of u i)

  a_call : (i : ℕ) → is_some (call_of s i) ≡ is_some (call_of u i)
  a_call i = sym (some_of_map (seen_call births) (call_of s i)) ∙ ap (λ o. is_some o) (call_alike births s u i same) ∙ some_of_map (seen_call births) (call_of u i)

  no_listen : (i : ℕ) → is_none (listen_of s i) ≡ is_none (listen_of u i)
  no_listen i = sym (none_of_map (seen_listen births) (listen_of s i)) ∙ ap (λ o. is_none o) (listen_alike births s u i same) ∙ none_of_map (seen_listen births) (listen_of u i)

  a_listen : (i : ℕ) → is_some (listen_of s i) ≡ is_some (listen_of u i)
  a_listen i = sym (some_of_map (seen_listen births) (listen_of s i)) ∙ ap (λ o. is_some o) (listen_alike births s u i same) ∙ some_of_map (seen_listen births) (listen_of u i)

  task_same : (f : TaskFact) (i : ℕ) → is_so_of_task f s i ≡ is_so_of_task f u i
  unfolding is_ready
  task_same task_fact.Well i = ap (λ (t : Task). is_well t.health) (task_alike births s u i same)
  task_same task_fact.Ready i =
      let well : is_well (task_at s i).health ≡ is_well (task_at u i).health = ap (λ (t : Task). is_well t.health) (task_alike births s u i same) in
      let call = no_call i in
      let listen = no_listen i in
      λ j. well j && call j && listen j
  task_same task_fact.Calling i = a_call i
  task_same task_fact.Listening i = let call = no_call i in let listen = a_listen i in λ j. call j && listen j
  task_same (task_fact.Posted bits) i = ap (λ (t : Task). not (bit_and t.posted bits == 0)) (task_alike births s u i same)

  memory_same : s.memory ≡ u.memory
  unfolding seen
  memory_same = ap (λ (v : State). v.memory) e

  fact_same : (f : Fact) → is_so f s ≡ is_so f u
  unfolding seen
  fact_same (fact.Byte at test value) = ap (λ (v : State). is_so (fact.Byte at test value) v) e
  fact_same (fact.Word at test value) = ap (λ (v : State). is_so (fact.Word at test value) v) e
  fact_same (fact.Task task f) = task_same f task
  fact_same (fact.Waiting device) = ap (λ (v : State). is_so (fact.Waiting device) v) e

  holds_same : (c : Condition) → holds c s ≡ holds c u
  holds_same c = ap (λ b. cond c.negated (not b) b) (fact_same c.fact)

  turn_number_same : s.turn ≡ u.turn
  unfolding seen
  turn_number_same = ap (λ (v : State). v.turn) e

-- ## a turn, and a run

module _ (x : Scenario) where
  ending_same : (n : ℕ) (s u : State) → reduced s ≡ reduced u → ending x n s ≡ ending x n u
  ending_same n s u e = sym (ending_reduced x n s) ∙ ap (ending x n) e ∙ ending_reduced x n u

  turned_same : (s u : State) → reduced s ≡ reduced u → turned x s ≡ turned x u
  turned_same s u e = sym (turned_reduced x s) ∙ ap (turned x) e ∙ turned_reduced x u

  notes_same : (s u : State) → Sane x.setup s → Sane x.setup u → reduced s ≡ reduced u → (turn Calls x s).notes ≡ (turn Calls x u).notes
  notes_same s u h k e = sym (reduced-turn Calls x s h).notes ∙ ap (λ v. (turn Calls x v).notes) e ∙ (reduced-turn Calls x u k).notes

  next_same : (s u : State) → Sane x.setup s → Sane x.setup u → reduced s ≡ reduced u → reduced (turn Calls x s).state ≡ reduced (turn Calls x u).state
  next_same s u h k e = sym (reduced-turn Calls x s h).state ∙ ap (λ v. reduced (turn Calls x v).state) e ∙ (reduced-turn Calls x u k).state

  change_same : (at : ℕ) (s u : State) → Sane x.setup s → Sane x.setup u → reduced s ≡ reduced u → change_in x at s ≡ change_in x at u
  change_same at s u h k e =
      let before = memory_same s u e in
      let after = memory_same (turn Calls x s).state (turn Calls x u).state (next_same s u h k e) in
      let ran = turned_same s u e in
      λ i. change_by (runner_of (ran i)) (byte_at (before i) at) (byte_at (after i) at)

  by_turn_same : (p : Property) (kept : ℕ) (s u : State) → Sane x.setup s → Sane x.setup u → reduced s ≡ reduced u → by_turn p kept x s ≡ by_turn p kept x u
  by_turn_same (property.NeverTold line) kept s u h k e = ap (λ notes. broken_if (tells_such line notes) kept) (notes_same s u h k e)
  by_turn_same (property.NeverChanged at but) kept s u h k e = ap (λ change. broken_if (is_some_other but change) kept) (change_same at s u h k e)
  by_turn_same (property.NeverSo c turns) kept s u h k e = refl
  by_turn_same (property.EndsSo c) kept s u h k e = refl
  by_turn_same property.EndsStill kept s u h k e = refl
  by_turn_same (property.Answered line answer turns) kept s u h k e = ap (λ notes. owed_on (tells_such line notes) (tells_such answer notes) turns kept) (notes_same s u h k e)

  on_state_same : (p : Property) (kept : ℕ) (s u : State) → reduced s ≡ reduced u → on_state p kept s ≡ on_state p kept u
  on_state_same (property.NeverTold line) kept s u e = refl
  on_state_same (property.NeverChanged at but) kept s u e = refl
  on_state_same (property.NeverSo c turns) kept s u e = ap (λ b. held_by b turns kept) (holds_same s u e c)
  on_state_same (property.EndsSo c) kept s u e = refl
  on_state_same property.EndsStill kept s u e = refl
  on_state_same (property.Answered line answer turns) kept s u e = refl

  at_end_same : (p : Property) (kept : ℕ) (end : End) (s u : State) → reduced s ≡ reduced u → breaks_at_end p kept end s ≡ breaks_at_end p kept end u
  at_end_same (property.NeverTold line) kept end s u e = refl
  at_end_same (property.NeverChanged at but) kept end s u e = refl
  at_end_same (property.NeverSo c turns) kept end s u e = refl
  at_end_same (property.EndsSo c) kept end s u e = ap not (holds_same s u e c)
  at_end_same property.EndsStill kept end s u e = refl
  at_end_same (property.Answered line answer turns) kept end s u e = refl

  unless_same : (p : Property) (kept : ℕ) (s u : State) (o q : Option End) (more other : Option ℕ) → reduced s ≡ reduced u → o ≡ q → more ≡ other → unless_ended p kept s o more ≡ unless_ended p kept u q other
  unless_same p kept s u o q more other e is rest = go o ∙ (λ i. unless_ended p kept u (is i) (rest i))
    where
      go : (o : Option End) → unless_ended p kept s o more ≡ unless_ended p kept u o more
      go (Some end) = λ i. cond (at_end_same p kept end s u e i) (Some (turn_number_same s u e i)) None
      go None = refl

  broken_same : (p : Property) (n kept : ℕ) (s u : State) → Sane x.setup s → Sane x.setup u → reduced s ≡ reduced u → broken_from p x n kept s ≡ broken_from p x n kept u
  unfolding broken_from
  broken_same p zero kept s u h k e = unless_same p kept s u (ending x 0 s) (ending x 0 u) None None e (ending_same 0 s u e) refl
  broken_same p (suc n) kept s u h k e =
      let v = (turn Calls x s).state in
      let w = (turn Calls x u).state in
      let next = next_same s u h k e in
      let rest = λ (now : ℕ). broken_same p n now v w (sane-after Calls x s h) (sane-after Calls x u k) next in
      let here = turn_number_same s u e in
      let by = by_turn_same p kept s u h k e in
      let there = turn_number_same v w next in
      let on = λ (later : ℕ). on_state_same p later v w next in
      unless_same p kept s u (ending x (suc n) s) (ending x (suc n) u) _ _ e (ending_same (suc n) s u e)
      (λ i. from_standing (here i) (by i) (λ later. from_standing (there i) (on later i) (λ now. rest now i)))

pub broken_reduced : (p : Property) (x : Scenario) (n kept : ℕ) (s : State) → Sane x.setup s → broken_from p x n kept (reduced s) ≡ broken_from p x n kept s
broken_reduced p x n kept s h = broken_same x p n kept (reduced s) s (sane-reduced x.setup s h) h (reduced_again s)

-- ## clean states

pub clean_reduced : (a : Asking) (live : List (ℕ × Property)) (pending : List Placed) (kept : List ℕ) (s : State) → Sane a.scenario.setup s → IsClean a live pending kept (reduced s) → IsClean a live pending kept s
unfolding seen
clean_reduced a live pending kept s sane clean =
    λ course among p looked. sym (broken_reduced p.1 (scheduled a.scenario (schedule_of a.question.arrivals course)) (a.limit - s.turn) (slice_index kept p.0) s sane) ∙ clean course among p looked

spelled_reduced : (x : Scenario) (bytes : List ℕ) (s : State) → Sane x.setup s → IsCounted s → sites s.devices ≡ sites x.devices → SpellsState x.setup (reduced s) bytes → IsSpelledBy x bytes (reduced s)
unfolding seen
spelled_reduced x bytes s sane counted same spelled = record { spelled = spelled; sane = sane-reduced x.setup s sane; counted = counted_reduced s counted; sites = same }

pub clean_spelled : (a : Asking) (live : List (ℕ × Property)) (pending : List Placed) (kept bytes : List ℕ) (s : State) → Sane a.scenario.setup s → IsCounted s → sites s.devices ≡ sites a.scenario.devices → SpellsState a.scenario.setup (reduced s) bytes →
    AreClean a live pending kept bytes → IsClean a live pending kept s
clean_spelled a live pending kept bytes s sane counted same spelled clean =
    clean_reduced a live pending kept s sane (clean (reduced s) (spelled_reduced a.scenario bytes s sane counted same spelled))
