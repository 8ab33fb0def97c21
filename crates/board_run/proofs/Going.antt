-- The run goes on by one turn, and ends.
use Rattle.std.proofs.Common.{◌≡◌, ℕ, zero, suc, ◌+◌, ◌-◌, ◌*◌, ◌<◌, ◌≤◌, Bool, true, false, List, [], ◌∷◌, ◌++◌, length, Option, Some, None, refl, sym, ap, subst, ◌∙◌, length-append, arith, cond, ◌==◌}
use Rattle.std.proofs.lemmas.List.{append-nil}
use Rattle.std.proofs.lemmas.Bool.Decides.{nat_tests}
use Rattle.kernel_abi.specs.declared.Note.{Note}
use Rattle.task_table.specs.kept.Limits.{turn_notes}
use Rattle.task_table.specs.model.State.{State}
use Rattle.board_core.specs.declared.board.Board.{Board}
use Rattle.board_core.specs.Data.{Shows}
use Rattle.board_model.specs.declared.outcomes.End.{End}
use Rattle.board_model.specs.declared.outcomes.Level.{Level}
use Rattle.board_model.specs.declared.outcomes.End.TheVariants.{Bound, Still, Supervisor}
use Rattle.board_model.specs.Script.{Scenario}
use Rattle.board_model.specs.Turn.{turn}
use Rattle.board_core.specs.Stands.{Stands, notes_of, turns_of}
use Rattle.board_core.specs.fast.Advanced.{IsAdvanced}
use Rattle.board_model.specs.Run.{turn_after, end_at, Run, run, ending, end_by, is_down, is_still, unless, ended_at, with_front, at_turn}
use Rattle.board_model.proofs.Counts.{turn_more}
use Rattle.board_model.proofs.TurnChains.{sane-after}
use Rattle.task_table.specs.model.Sane.{Sane}
use Rattle.board_run.specs.Midway.{Midway}
use Rattle.board_run.specs.Running.{StandsMidway, end_within}
use Rattle.board_model.proofs.RunCuts.{fronts}

-- the turn number of a board is that of the states for which it stands
pub turns_seen : {X : Type 0} {H : X → Type 0} (shown : Shows X H) (x : Scenario) (b : Board X H) (s : State) → Stands shown x b s → s.turn ≡ turns_of b
turns_seen shown x b s st = sym st.holds.turns

-- ## a run by its first turn

pub run_ends : (level : Level) (x : Scenario) (left : ℕ) (s : State) (e : End) → ending x left s ≡ Some e → run level x left s ≡ ended_at s e
unfolding run
run_ends level x zero s e is = ap (λ (o : Option End). unless s o (ended_at s Bound)) is
run_ends level x (suc left) s e is = ap (λ (o : Option End). unless s o (with_front (at_turn s.turn (turn level x s).notes) (run level x left (turn level x s).state))) is

pub run_goes : (level : Level) (x : Scenario) (left : ℕ) (s : State) → ending x (suc left) s ≡ None → run level x (suc left) s ≡ with_front (at_turn s.turn (turn level x s).notes) (run level x left (turn level x s).state)
unfolding run
run_goes level x left s is = ap (λ (o : Option End). unless s o (with_front (at_turn s.turn (turn level x s).notes) (run level x left (turn level x s).state))) is

-- with no turn left it ends here
pub kept_last : (s : State) (o : Option End) → (unless s o (ended_at s Bound)).last ≡ s
kept_last s None = refl
kept_last s (Some e) = refl

pub run_stays : (level : Level) (x : Scenario) (s : State) → (run level x 0 s).last ≡ s
unfolding run
run_stays level x s = kept_last s (ending x 0 s)

-- where a run goes on, it does so however many turns are left
never : (b : Bool) → cond b (Some Bound) (Some Still) ≡ None → ⊥
never true is = cc
never false is = cc

goes_by : (down still : Bool) (left more : ℕ) → end_by down left still ≡ None → end_by down (suc more) still ≡ None
goes_by true still left more is = absurd (cc)
goes_by false true left more is = absurd (never (left == 0) is)
goes_by false false left more is = let some : (suc more == 0) ≡ false = grind (arith, nat_tests) in ap (λ (b : Bool). cond b (Some Bound) None) some

pub goes_on : (x : Scenario) (s : State) (left more : ℕ) → ending x left s ≡ None → ending x (suc more) s ≡ None
unfolding ending
goes_on x s left more is = goes_by (is_down s) (is_still x s) left more is

-- turns on end keep a state sane
sane_after : (level : Level) (x : Scenario) (n : ℕ) (t : State) → Sane x.setup t → Sane x.setup (turn_after level x n t).state
unfolding turn_after
sane_after level x zero t h = sane-after level x t h
sane_after level x (suc n) t h = sane-after level x (turn_after level x n t).state (sane_after level x n t h)

-- the turn number after n turns and one more
turns_after : (level : Level) (x : Scenario) (n : ℕ) (t : State) → Sane x.setup t → (turn_after level x n t).state.turn ≡ t.turn + suc n
unfolding turn_after
turns_after level x zero t h = let more = turn_more level x t h in omega (arith, more)
turns_after level x (suc n) t h =
    let more = turn_more level x (turn_after level x n t).state (sane_after level x n t h) in
    let before = turns_after level x n t h in
    omega (arith, more, before)

-- the end under a bound is that of the definition
by_tests : (down still : Bool) (left : ℕ) → end_within (cond down (Some Supervisor) (cond still (Some Still) None)) left ≡ end_by down left still
by_tests true still left = refl
by_tests false true left = refl
by_tests false false left = refl

pub end_within_is : (x : Scenario) (s : State) (left : ℕ) → end_within (end_at x s) left ≡ ending x left s
unfolding ending
end_within_is x s left = by_tests (is_down s) (is_still x s) left

-- ## further turns

-- with no notes before it, a run is itself
no_front : (r : Run) → with_front [] r ≡ r
no_front r = refl

-- n turns that note nothing, and one more: the run goes on with the notes of that one
pub run_advances : (level : Level) (x : Scenario) (left n : ℕ) (t : State) → Sane x.setup t → ending x 1 t ≡ None → ((k : ℕ) → k < n → (turn_after level x k t).notes ≡ []) → ((k : ℕ) → k < n → ending x 1 (turn_after level x k t).state ≡ None) →
    run level x (n + suc left) t ≡ with_front (at_turn (t.turn + n) (turn_after level x n t).notes) (run level x left (turn_after level x n t).state)
unfolding turn_after
run_advances level x left zero t h goes none on =
    let e : t.turn ≡ t.turn + 0 = omega arith in
    let z : 0 + suc left ≡ suc left = omega arith in
    ap (λ (m : ℕ). run level x m t) z ∙ run_goes level x left t (goes_on x t 1 left goes) ∙ ap (λ (k : ℕ). with_front (at_turn k (turn level x t).notes) (run level x left (turn level x t).state)) e
run_advances level x left (suc n) t h goes none on =
    let u : State = (turn_after level x n t).state in
    let k : suc n + suc left ≡ n + suc (suc left) = omega arith in
    let at : u.turn ≡ t.turn + suc n = turns_after level x n t h in
    ap (λ (m : ℕ). run level x m t) k
    ∙ run_advances level x (suc left) n t h goes (λ k lt. none k (omega (arith, lt))) (λ k lt. on k (omega (arith, lt)))
    ∙ ap (λ (ns : List Note). with_front (at_turn (t.turn + n) ns) (run level x (suc left) u)) (none n (omega arith))
    ∙ no_front (run level x (suc left) u)
    ∙ run_goes level x left u (goes_on x u 1 left (on n (omega arith)))
    ∙ ap (λ (m : ℕ). with_front (at_turn m (turn level x u).notes) (run level x left (turn level x u).state)) at

-- what is known of further turns: they were to be made, the board stands for the state after them, and tells the
-- notes of the last, before which n noted nothing
pub record IsTurned {X : Type 0} {H : X → Type 0} (shown : Shows X H) (level : Level) (x : Scenario) (n : ℕ) (b b' : Board X H) (notes : List Note) : Type 0 where
  pub goes : (t : State) → Stands shown x b t → ending x 1 t ≡ None
  pub advanced : (t : State) → Stands shown x b t → IsAdvanced shown level x n t b'
  pub tells : notes ≡ notes_of b'
  pub turns : turns_of b' ≡ turns_of b + n + 1
  pub few : length notes ≤ turn_notes

-- as many notes, each with its turn
length_at : (n : ℕ) (notes : List Note) → length (at_turn n notes) ≡ length notes
length_at n [] = refl
length_at n (x ∷ xs) = ap suc (length_at n xs)

-- ## midway, as a observer has heard

module _ {T : Type 0} {X : Type 0} {H : X → Type 0} (shown : Shows X H) (heard : T → List (ℕ × Note) → T → Type 0) (level : Level) (x : Scenario) where
  pub midway_start : (t : T) (s : State) (b : Board X H) → heard t [] t → Stands shown x b s → Midway shown heard level x t t s b
  midway_start t s b none st =
      record {
        front = [];
        here = s;
        stands = st;
        after = omega arith;
        told = none;
        few = omega arith;
        rest = λ left. let e : s.turn - s.turn + left ≡ left = omega arith in ap (λ (k : ℕ). run level x k s) e;
      }

  -- the run by the notes so far, those of this turn, and the rest
  pub turn_rest : (n : ℕ) (t t' : T) (s : State) (b b' : Board X H) (notes : List Note) → IsTurned shown level x n b b' notes → (m : Midway shown heard level x t t' s b) →
      let u : State = m.here in
      let next : State = (turn_after level x n u).state in
      (s.turn ≤ next.turn) × ((left : ℕ) → run level x (next.turn - s.turn + left) s ≡ with_front (m.front ++ at_turn (u.turn + n) (turn_after level x n u).notes) (run level x left next))
  turn_rest n t t' s b b' notes h m =
      let u : State = m.here in
      let a = h.advanced u m.stands in
      let next : State = (turn_after level x n u).state in
      let at : u.turn ≡ turns_of b = turns_seen shown x b u m.stands in
      let at' : next.turn ≡ turns_of b' = turns_seen shown x b' next a.stands in
      let more : next.turn ≡ u.turn + n + 1 = omega (arith, h.turns) in
      let le : s.turn ≤ u.turn = m.after in (
        omega arith,
        λ left.
            let k : next.turn - s.turn + left ≡ u.turn - s.turn + (n + suc left) = omega arith in
            ap (λ (i : ℕ). run level x i s) k ∙ m.rest (n + suc left)
            ∙ ap (with_front m.front) (run_advances level x left n u m.stands.sane (h.goes u m.stands) a.nothing a.goes_on)
            ∙ fronts m.front (at_turn (u.turn + n) (turn_after level x n u).notes) (run level x left next),
      )

  -- the notes that a board tells are those of the turn
  pub told_notes : (n at : ℕ) (t t' : T) (s : State) (b b' : Board X H) (notes : List Note) → IsTurned shown level x n b b' notes → at + 1 ≡ turns_of b' → (m : Midway shown heard level x t t' s b) →
      at_turn at notes ≡ at_turn (m.here.turn + n) (turn_after level x n m.here).notes
  told_notes n at t t' s b b' notes h last m =
      let here : m.here.turn ≡ turns_of b = turns_seen shown x b m.here m.stands in
      let e : at ≡ m.here.turn + n = omega (arith, h.turns) in
      ap (λ (i : ℕ). at_turn i notes) e ∙ ap (at_turn (m.here.turn + n)) (h.tells ∙ (h.advanced m.here m.stands).notes)

  pub midway_turn : (on : (t u v : T) (a b : List (ℕ × Note)) → heard t a u → heard u b v → heard t (a ++ b) v) (n at : ℕ) (t now after : T) (s : State) (b b' : Board X H) (notes : List Note) → IsTurned shown level x n b b' notes → at + 1 ≡ turns_of b' →
      heard now (at_turn at notes) after → Midway shown heard level x t now s b → Midway shown heard level x t after s b'
  midway_turn on n at t now after s b b' notes h last hears m =
      let u : State = m.here in
      let a = h.advanced u m.stands in
      let next : State = (turn_after level x n u).state in
      let new : List (ℕ × Note) = at_turn (u.turn + n) (turn_after level x n u).notes in
      let rest = turn_rest n t now s b b' notes h m in
      let here : u.turn ≡ turns_of b = turns_seen shown x b u m.stands in
      let there : next.turn ≡ turns_of b' = turns_seen shown x b' next a.stands in
      let same = told_notes n at t now s b b' notes h last m in
      let long : length new ≡ length notes = sym (ap length same) ∙ length_at at notes in
      let both : length (m.front ++ new) ≡ length m.front + length new = length-append m.front new in
      let P : List (ℕ × Note) → Type 0 = λ ns. heard now ns after in
      record {
        front = m.front ++ new;
        here = next;
        stands = a.stands;
        after = rest.0;
        told = on t now after m.front new m.told (subst P same hears);
        few = omega (arith, m.few, h.few, h.turns);
        rest = rest.1;
      }

  -- the state after a turn is that of the run, too, though its notes were not told
  pub midway_board : (t t' : T) (s : State) (b : Board X H) → Midway shown heard level x t t' s b → StandsMidway shown level x b s
  midway_board t t' s b m =
      let at : m.here.turn ≡ turns_of b = turns_seen shown x b m.here m.stands in
      let k : turns_of b - s.turn ≡ m.here.turn - s.turn + 0 = omega arith in
      let is : (run level x (turns_of b - s.turn) s).last ≡ m.here = ap (λ (n : ℕ). (run level x n s).last) k ∙ ap (λ (r : Run). r.last) (m.rest 0) ∙ run_stays level x m.here in
      let P : State → Type 0 = λ u. Stands shown x b u in
      subst P (sym is) m.stands

  pub turned_board : (n : ℕ) (t t' : T) (s : State) (b b' : Board X H) (notes : List Note) → IsTurned shown level x n b b' notes → Midway shown heard level x t t' s b → StandsMidway shown level x b' s
  turned_board n t t' s b b' notes h m =
      let u : State = m.here in
      let stands = (h.advanced u m.stands).stands in
      let next : State = (turn_after level x n u).state in
      let rest = turn_rest n t t' s b b' notes h m in
      let at : next.turn ≡ turns_of b' = turns_seen shown x b' next stands in
      let k : turns_of b' - s.turn ≡ next.turn - s.turn + 0 = omega arith in
      let is : (run level x (turns_of b' - s.turn) s).last ≡ next = ap (λ (i : ℕ). (run level x i s).last) k ∙ ap (λ (r : Run). r.last) (rest.1 0) ∙ run_stays level x next in
      let P : State → Type 0 = λ v. Stands shown x b' v in
      subst P (sym is) stands

  -- ## the end

  -- the whole run, where it ends here
  ended_run : (limit : ℕ) (t t' : T) (s : State) (b : Board X H) (e : End) (m : Midway shown heard level x t t' s b) → turns_of b ≤ limit →
      ((u : State) → Stands shown x b u → ending x (limit - u.turn) u ≡ Some e) →
      run level x (limit - s.turn) s ≡ with_front m.front (ended_at m.here e)
  ended_run limit t t' s b e m le ends =
      let at : m.here.turn ≡ turns_of b = turns_seen shown x b m.here m.stands in
      let from : s.turn ≤ m.here.turn = m.after in
      let k : limit - s.turn ≡ m.here.turn - s.turn + (limit - m.here.turn) = omega arith in
      ap (λ (n : ℕ). run level x n s) k ∙ m.rest (limit - m.here.turn) ∙ ap (with_front m.front) (run_ends level x (limit - m.here.turn) m.here e (ends m.here m.stands))

  pub end_is : (limit : ℕ) (t t' : T) (s : State) (b : Board X H) (e : End) → turns_of b ≤ limit →
      ((u : State) → Stands shown x b u → ending x (limit - u.turn) u ≡ Some e) → Midway shown heard level x t t' s b →
      (e ≡ (run level x (limit - s.turn) s).end) × Stands shown x b (run level x (limit - s.turn) s).last
  end_is limit t t' s b e le ends m =
      let is = ended_run limit t t' s b e m le ends in
      let P : State → Type 0 = λ u. Stands shown x b u in
      (sym (ap (λ (r : Run). r.end) is), subst P (sym (ap (λ (r : Run). r.last) is)) m.stands)

  -- all notes of the run were told
  pub all_notes : (limit : ℕ) (t t' : T) (s : State) (b : Board X H) (e : End) (m : Midway shown heard level x t t' s b) → turns_of b ≤ limit →
      ((u : State) → Stands shown x b u → ending x (limit - u.turn) u ≡ Some e) →
      (run level x (limit - s.turn) s).notes ≡ m.front
  all_notes limit t t' s b e m le ends = ap (λ (r : Run). r.notes) (ended_run limit t t' s b e m le ends) ∙ append-nil m.front

  pub all_told : (limit : ℕ) (t t' : T) (s : State) (b : Board X H) (e : End) → turns_of b ≤ limit →
      ((u : State) → Stands shown x b u → ending x (limit - u.turn) u ≡ Some e) → Midway shown heard level x t t' s b →
      heard t (run level x (limit - s.turn) s).notes t'
  all_told limit t t' s b e le ends m =
      let P : List (ℕ × Note) → Type 0 = λ ns. heard t ns t' in
      subst P (sym (all_notes limit t t' s b e m le ends)) m.told

  pub all_few : (limit : ℕ) (t t' : T) (s : State) (b : Board X H) (e : End) → turns_of b ≤ limit →
      ((u : State) → Stands shown x b u → ending x (limit - u.turn) u ≡ Some e) → Midway shown heard level x t t' s b →
      length (run level x (limit - s.turn) s).notes ≤ turn_notes * limit
  all_few limit t t' s b e le ends m =
      let at : m.here.turn ≡ turns_of b = turns_seen shown x b m.here m.stands in
      let is : length (run level x (limit - s.turn) s).notes ≡ length m.front = ap length (all_notes limit t t' s b e m le ends) in
      omega (arith, m.few)
