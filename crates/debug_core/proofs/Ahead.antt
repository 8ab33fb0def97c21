-- The run from the start, turn by turn: a state that equals the run's state at a turn goes on as the run
-- does.
use Rattle.std.proofs.Common.{◌≡◌, ◌∙◌, ℕ, zero, suc, ◌+◌, ◌-◌, ◌≤◌, ◌<◌, Option, Some, None, refl, sym, ap, subst, arith}
use Rattle.task_table.specs.model.State.{State, Turn}
use Rattle.task_table.specs.model.Sane.{Sane}
use Rattle.board_model.specs.declared.outcomes.End.{End}
use Rattle.board_model.specs.declared.outcomes.End.TheVariants.{Bound}
use Rattle.board_model.specs.declared.outcomes.Level.{Level}
use Rattle.board_model.specs.declared.outcomes.Level.TheVariants.{Calls}
use Rattle.board_model.specs.Alike.{reduced, seen}
use Rattle.board_model.specs.Cut.{cut_at, left_of}
use Rattle.board_model.specs.Run.{Run, run, ending, unless, ended_at, with_front, at_turn, turn_after, state_after}
use Rattle.board_model.specs.Script.{Scenario, start_of}
use Rattle.board_model.specs.Turn.{turn, turned}
use Rattle.board_model.proofs.AlikeRuns.{reduced-run}
use Rattle.board_model.proofs.Counts.{turn_more}
use Rattle.board_model.proofs.Endings.{before_bound}
use Rattle.board_model.proofs.Further.{last_turn}
use Rattle.board_model.proofs.GenerationsSeen.{ending_reduced, turned_reduced}
use Rattle.board_model.proofs.RunCuts.{cut, reached, sane-cut}
use Rattle.board_model.proofs.TurnChains.{sane-after}
use Rattle.board_model.proofs.Views.{reduced-turn}
use Rattle.board_run.proofs.Going.{run_stays}
use Rattle.board_model.proofs.SameTurn.{first_turn, same_turn}
use Rattle.debug_core.specs.Runs.{state_at}

abbrev pub run_on : Scenario → ℕ → State → State
run_on x n s = cut_at Calls x n s

abbrev pub next : Scenario → State → State
next x s = (turn Calls x s).state

pub stays : (x : Scenario) (s : State) → run_on x 0 s ≡ s
stays x s = run_stays Calls x s

-- ---- a run by its first turn

ends : (x : Scenario) (n : ℕ) (s : State) (e : End) → ending x n s ≡ Some e → run_on x n s ≡ s
unfolding run
ends x zero s e is = ap (λ (o : Option End). (unless s o (ended_at s Bound)).last) is
ends x (suc n) s e is = ap (λ (o : Option End). (unless s o (with_front (at_turn s.turn (turn Calls x s).notes) (run Calls x n (next x s)))).last) is

goes : (x : Scenario) (n : ℕ) (s : State) → ending x (suc n) s ≡ None → run_on x (suc n) s ≡ run_on x n (next x s)
unfolding run
goes x n s is = ap (λ (o : Option End). (unless s o (with_front (at_turn s.turn (turn Calls x s).notes) (run Calls x n (next x s)))).last) is

by_turn : (x : Scenario) (n : ℕ) (s : State) (P : State → Type 0) → P s → (ending x (suc n) s ≡ None → P (run_on x n (next x s))) → P (run_on x (suc n) s)
by_turn x n s P here more = by (ending x (suc n) s) refl
  where
    by : (o : Option End) → ending x (suc n) s ≡ o → P (run_on x (suc n) s)
    by (Some e) is = subst P (sym (ends x (suc n) s e is)) here
    by None is = subst P (sym (goes x n s is)) (more is)

later : (x : Scenario) (n : ℕ) (s : State) → Sane x.setup s → s.turn ≤ (run_on x n s).turn
later x zero s h = subst (λ (u : State). s.turn ≤ u.turn) (sym (stays x s)) (omega arith)
later x (suc n) s h =
    let rest = later x n (next x s) (sane-after Calls x s h) in
    let more = turn_more Calls x s h in
    by_turn x n s (λ u. s.turn ≤ u.turn) (omega arith) (λ is. omega (arith, rest, more))

-- with a turn left it is the same whether and why the run ends
same_end : (x : Scenario) (n : ℕ) (s : State) → ending x (suc n) s ≡ ending x 1 s
same_end x n s = sym (before_bound x s (suc n) (omega arith)) ∙ before_bound x s 1 (omega arith)

-- ---- states that are equal with births modulo 64

pub same_now : (s u : State) → reduced s ≡ reduced u → s.now ≡ u.now
unfolding seen
same_now s u e = ap (λ (v : State). v.now) e

pub same_memory : (s u : State) → reduced s ≡ reduced u → s.memory ≡ u.memory
unfolding seen
same_memory s u e = ap (λ (v : State). v.memory) e

pub ending_same : (x : Scenario) (left : ℕ) (s u : State) → reduced s ≡ reduced u → ending x left s ≡ ending x left u
ending_same x left s u e = sym (ending_reduced x left s) ∙ ap (ending x left) e ∙ ending_reduced x left u

pub turned_same : (x : Scenario) (s u : State) → reduced s ≡ reduced u → turned x s ≡ turned x u
turned_same x s u e = sym (turned_reduced x s) ∙ ap (turned x) e ∙ turned_reduced x u

-- their turns note the same, and come to states that are equal so
pub same_notes : (level : Level) (x : Scenario) (s u : State) → Sane x.setup s → Sane x.setup u → reduced s ≡ reduced u → (turn level x s).notes ≡ (turn level x u).notes
same_notes level x s u sane good e = sym (reduced-turn level x s sane).notes ∙ ap (λ (v : State). (turn level x v).notes) e ∙ (reduced-turn level x u good).notes

pub same_next : (x : Scenario) (s u : State) → Sane x.setup s → Sane x.setup u → reduced s ≡ reduced u → reduced (next x s) ≡ reduced (next x u)
same_next x s u sane good e = sym (reduced-turn Calls x s sane).state ∙ ap (λ (v : State). reduced (next x v)) e ∙ (reduced-turn Calls x u good).state

-- a sane state that is equal to the run's at a turn that it reaches
pub record Follows (x : Scenario) (turn : ℕ) (u : State) : Type 0 where
  pub sane : Sane x.setup u
  pub same : reduced u ≡ reduced (state_at x turn)
  pub reached : (state_at x turn).turn ≡ turn

-- before the first of some turns the run does not end, and neither does it after each but the last
pub turns_made : (x : Scenario) (n : ℕ) (u : State) → ending x 1 u ≡ None → ((k : ℕ) → k < n → ending x 1 (turn_after Calls x k u).state ≡ None) → (k : ℕ) → k < suc n → ending x 1 (state_after Calls x k u) ≡ None
unfolding state_after
turns_made x n u first on zero lt = first
turns_made x n u first on (suc k) lt = on k (omega (arith, lt))

module _ (x : Scenario) (sane : Sane x.setup (start_of x)) where
  pub sane_at : (n : ℕ) → Sane x.setup (state_at x n)
  sane_at n = sane-cut Calls x n (start_of x) sane

  -- ---- from a turn to a later one

  -- the run goes on from where it is at a turn
  from_there : (c to : ℕ) → (state_at x c).turn ≡ c → c ≤ to → state_at x to ≡ run_on x (to - c) (state_at x c)
  from_there c to there le =
      let zeroth = first_turn x in
      let u = state_at x c in
      let left : left_of to (start_of x) u ≡ to - c = omega arith in
      ap (λ (r : Run). r.last) (cut Calls x c to (start_of x) sane (omega arith)) ∙ ap (λ k. run_on x k u) left

  -- it comes to each turn before
  pub reaches : (n k : ℕ) → (state_at x n).turn ≡ n → k ≤ n → (state_at x k).turn ≡ k
  reaches n k there le =
      let zeroth = first_turn x in
      let is = reached Calls x n k (start_of x) sane (omega arith) in
      omega (arith, is)

  pub further : (c to : ℕ) → (state_at x c).turn ≡ c → c ≤ to → c ≤ (state_at x to).turn
  further c to there le =
      let more = later x (to - c) (state_at x c) (sane_at c) in
      subst (λ (v : State). c ≤ v.turn) (sym (from_there c to there le)) (omega (arith, more, there))

  -- where it does not end it makes a turn
  pub makes : (c to : ℕ) → (state_at x c).turn ≡ c → c < to → ending x 1 (state_at x c) ≡ None → c < (state_at x to).turn
  makes c to there lt on = by (to - c) refl
    where
      by : (n : ℕ) → to - c ≡ n → c < (state_at x to).turn
      by zero e = absurd (omega arith)
      by (suc n) e =
          let u = state_at x c in
          let more = turn_more Calls x u (sane_at c) in
          let rest = later x n (next x u) (sane-after Calls x u (sane_at c)) in
          let is = from_there c to there (omega arith) ∙ ap (λ k. run_on x k u) e ∙ goes x n u (same_end x n u ∙ on) in
          subst (λ (v : State). c < v.turn) (sym is) (omega (arith, more, rest, there))

  -- where it ends, with turns up to another one left, it has come to by that one
  pub ends_at : (c to : ℕ) (e : End) → (state_at x c).turn ≡ c → c ≤ to → ending x (to - c) (state_at x c) ≡ Some e → state_at x to ≡ state_at x c
  ends_at c to e there le is = from_there c to there le ∙ ends x (to - c) (state_at x c) e is

  -- where it comes to a later turn it goes on
  pub goes_at : (c to : ℕ) → (state_at x to).turn ≡ to → c < to → ending x 1 (state_at x c) ≡ None
  goes_at c to there lt = by (ending x 1 (state_at x c)) refl
    where
      by : (o : Option End) → ending x 1 (state_at x c) ≡ o → ending x 1 (state_at x c) ≡ None
      by None is = is
      by (Some e) is =
          let n : ℕ = to - c - 1 in
          let left : to - c ≡ suc n = omega arith in
          let here = reaches to c there (omega arith) in
          let ended = ends_at c to e here (omega arith) (ap (λ k. ending x k (state_at x c)) left ∙ same_end x n (state_at x c) ∙ is) in
          absurd (omega (arith, ap (λ (s : State). s.turn) ended, here, there))

  -- ---- a state that follows it

  pub ahead : (c to : ℕ) (u : State) → Follows x c u → c ≤ to → reduced (run_on x (to - c) u) ≡ reduced (state_at x to)
  ahead c to u h le =
      sym (reduced-run Calls x (to - c) u h.sane).last
      ∙ ap (λ (v : State). reduced (run_on x (to - c) v)) h.same
      ∙ (reduced-run Calls x (to - c) (state_at x c) (sane_at c)).last
      ∙ ap reduced (sym (from_there c to h.reached le))

  one_ahead : (c : ℕ) (u : State) → Follows x c u → ending x 1 u ≡ None → Follows x (c + 1) (next x u)
  one_ahead c u h is =
      let one : c + 1 - c ≡ 1 = omega arith in
      let last : run_on x 1 u ≡ next x u = goes x 0 u is ∙ stays x (next x u) in
      let on : reduced (next x u) ≡ reduced (state_at x (c + 1)) = ap reduced (sym last) ∙ ap (λ k. reduced (run_on x k u)) (sym one) ∙ ahead c (c + 1) u h (omega arith) in
      let here : u.turn ≡ c = same_turn u (state_at x c) h.same ∙ h.reached in
      let more = turn_more Calls x u h.sane in
      record {
        sane = sane-after Calls x u h.sane;
        same = on;
        reached = sym (same_turn (next x u) (state_at x (c + 1)) on) ∙ more ∙ ap (λ n. n + 1) here;
      }

  -- turns on end, before none of which the run ends
  pub turns_ahead : (n c : ℕ) (u : State) → Follows x c u → ((k : ℕ) → k < n → ending x 1 (state_after Calls x k u) ≡ None) → Follows x (c + n) (state_after Calls x n u)
  unfolding state_after
  turns_ahead zero c u h on = let same : c ≡ c + 0 = omega arith in subst (λ m. Follows x m u) same h
  turns_ahead (suc n) c u h on =
      let before = turns_ahead n c u h (λ k lt. on k (omega (arith, lt))) in
      let here = one_ahead (c + n) (state_after Calls x n u) before (on n (omega arith)) in
      let same : c + n + 1 ≡ c + suc n = omega arith in
      subst (λ m. Follows x m (turn_after Calls x n u).state) same
      (subst (λ (t : Turn). Follows x (c + n + 1) t.state) (sym (last_turn Calls x n u)) here)
