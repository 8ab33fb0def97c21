-- Runs from alike states are alike, to a viewer who sees all bytes.
use Rattle.std.proofs.Common.{◌≡◌, ◌%◌, ℕ, zero, suc, Bool, true, false, cond, not, ◌&&◌, is_none, List, [], ◌∷◌, ◌++◌, Option, Some, None, refl, sym, ◌∙◌, ap}
use Rattle.std.specs.Prelude.{filter}
use Rattle.kernel_abi.specs.declared.Note.{Note}
use Rattle.run_script.specs.Scripts.{lasts}
use Rattle.task_table.specs.model.State.{Task, State, Turn}
use Rattle.task_table.specs.model.Reading.{is_faulted}
use Rattle.task_table.specs.model.Sane.{Sane}
use Rattle.board_model.specs.Levels.{without_instructions}
use Rattle.task_table.specs.model.Start.{begun}
use Rattle.std.proofs.lemmas.List.Elements.{filter-append}
use Rattle.board_model.specs.declared.outcomes.End.{End}
use Rattle.board_model.specs.declared.outcomes.Level.{Level}
use Rattle.board_model.specs.declared.outcomes.Level.TheVariants.{Calls, All}
use Rattle.board_model.specs.Script.{Scenario}
use Rattle.board_model.specs.Turn.{after_events, turn}
use Rattle.board_model.proofs.TurnChains.{sane-after_events, sane-after}
use Rattle.board_model.specs.Run.{is_down, is_still, end_by, ending, Run, with_front, unless, at_turn, run}
use Rattle.board_model.specs.Alike.{Viewer, IsAttentive, AreAlikeMemories, IsAlike, reduced}
use Rattle.board_model.proofs.Alike.{shown, task_alike, chosen_alike, turn_alike, memories_same}
use Rattle.board_model.proofs.AlikeTurns.{IsHeardAs, alike-turn}
use Rattle.board_model.proofs.Sight.{IsOpen}
use Rattle.board_model.proofs.Views.{all_heard, listener, attentive_listener, open_listener, alike_of_told, told_of_alike, told_plainly, told_sanely, archivist, attentive_archivist, level_heard, alike-reduced, reduced_from}
use Rattle.board_model.proofs.Births.{AreTellable}
use Rattle.board_model.proofs.SaneReduced.{sane-reduced}

record AreAlikeStates (w : Viewer) (s u : State) : Type 0 where
  state : shown w.birth s ≡ shown w.birth u
  memory : AreAlikeMemories w.sees s.memory u.memory

record AreAlikeRuns (w : Viewer) (r q : Run) : Type 0 where
  last : AreAlikeStates w r.last q.last
  notes : r.notes ≡ filter (λ n. w.hears n.1) q.notes
  end : r.end ≡ q.end

heard_at : (h : Note → Bool) (n : ℕ) (notes : List Note) → at_turn n (filter h notes) ≡ filter (λ x. h x.1) (at_turn n notes)
heard_at h n [] = refl
heard_at h n (x ∷ xs) = go (h x) (heard_at h n xs)
  where
    less : List (ℕ × Note)
    less = filter (λ y. h y.1) (at_turn n xs)

    go : (b : Bool) → at_turn n (filter h xs) ≡ less → at_turn n (cond b (x ∷ filter h xs) (filter h xs)) ≡ cond b ((n, x) ∷ less) less
    go true e = ap (λ l. (n, x) ∷ l) e
    go false e = e

alike_begun : (w : Viewer) (s u : State) → AreAlikeStates w s u → IsAlike w (begun s) (begun u)
unfolding begun
alike_begun w s u h = record { state = h.state; memory = h.memory; notes = refl; writes = refl; reads = refl }

-- I holds of each state of the first run, J of each of the second; they say that what listens name is told apart
module _ (w : Viewer) (a : IsAttentive w) (l m : Level) (heard : IsHeardAs w l m) (x : Scenario) (sight : (c : ℕ) → IsOpen w x.setup c) (all : (b : ℕ) → w.sees b ≡ true)
    (I J : State → Type 0) (tell : (s : State) → I s → AreTellable w.birth (after_events x s).state) (tell' : (s : State) → J s → AreTellable w.birth (after_events x s).state)
    (next : (s : State) → I s → I (turn l x s).state) (next' : (s : State) → J s → J (turn m x s).state) where
  alike-one_turn : (s u : State) → I s → J u → AreAlikeStates w s u → IsAlike w (turn l x s) (turn m x u)
  alike-one_turn s u i j h = (alike-turn w a l m heard x s u sight (tell s i) (tell' u j) (alike_begun w s u h)).alike (λ r here b lo hi. all b)

  ending_same : (left : ℕ) (s u : State) → AreAlikeStates w s u → ending x left s ≡ ending x left u
  unfolding ending
  ending_same left s u h =
      let down : is_down s ≡ is_down u = ap (λ (t : Task). is_faulted t.health) (task_alike w.birth s u 0 h.state) in
      let c = chosen_alike w.birth x.setup s u h.state in
      let n = turn_alike w.birth s u h.state in
      let still : is_still x s ≡ is_still x u = λ k. is_none (c k) && not (lasts x.script (n k)) in
      λ k. end_by (down k) left (still k)

  alike-unless : (s u : State) (o p : Option End) (r q : Run) → o ≡ p → AreAlikeStates w s u → AreAlikeRuns w r q → AreAlikeRuns w (unless s o r) (unless u p q)
  alike-unless s u o p r q e h more = rw (sym e) (go o)
    where
      go : (y : Option End) → AreAlikeRuns w (unless s y r) (unless u y q)
      go (Some z) = record { last = h; notes = refl; end = refl }
      go None = more

  alike-front : (n k : ℕ) (t u : Turn) (r q : Run) → n ≡ k → t.notes ≡ filter w.hears u.notes → AreAlikeRuns w r q → AreAlikeRuns w (with_front (at_turn n t.notes) r) (with_front (at_turn k u.notes) q)
  alike-front n k t u r q e h more = record {
    last = more.last;
    notes =
        (λ i. at_turn (e i) (h i) ++ more.notes i)
        ∙ ap (λ y. y ++ filter (λ z. w.hears z.1) q.notes) (heard_at w.hears k u.notes)
        ∙ sym (filter-append (λ z. w.hears z.1) (at_turn k u.notes) q.notes);
    end = more.end;
  }

  alike-run : (n : ℕ) (s u : State) → I s → J u → AreAlikeStates w s u → AreAlikeRuns w (run l x n s) (run m x n u)
  unfolding run
  alike-run zero s u i j h = alike-unless s u _ _ _ _ (ending_same 0 s u h) h record { last = h; notes = refl; end = refl }
  alike-run (suc n) s u i j h =
      let t = alike-one_turn s u i j h in
      let more = alike-run n (turn l x s).state (turn m x u).state (next s i) (next' u j) record { state = t.state; memory = t.memory } in
      alike-unless s u _ _ _ _ (ending_same (suc n) s u h) h (alike-front s.turn u.turn (turn l x s) (turn m x u) _ _ (turn_alike w.birth s u h.state) t.notes more)

-- ## what is noted on request

-- so the run is the same without it
pub less_noted-run : (x : Scenario) (n : ℕ) (s : State) → run Calls x n s ≡ without_instructions (run All x n s)
unfolding listener begun
less_noted-run x n s =
    let start = alike_of_told (begun s) (begun s) record { state = refl; writes = refl; reads = refl; notes = refl } in
    let r = alike-run listener attentive_listener Calls All (λ k request. request) x (open_listener x.setup) (λ b. refl) (λ u. Unit {0}) (λ u. Unit {0}) (λ u i. told_plainly (after_events x u).state) (λ u i. told_plainly (after_events x u).state) (λ u i. tt) (λ u i. tt) n s s tt tt record { state = start.state; memory = start.memory } in
    let last = (told_of_alike (begun (run Calls x n s).last) (begun (run All x n s).last) (alike_begun listener _ _ r.last)).state in
    λ i. record { last = last i; notes = r.notes i; end = r.end i }

-- ## births modulo 64

pub record IsReducedRun (r q : Run) : Type 0 where
  pub last : reduced r.last ≡ reduced q.last
  pub notes : r.notes ≡ q.notes
  pub end : r.end ≡ q.end

pub reduced-run : (level : Level) (x : Scenario) (n : ℕ) (s : State) → Sane x.setup s → IsReducedRun (run level x n (reduced s)) (run level x n s)
unfolding archivist begun
reduced-run level x n s sane =
    let births : ℕ → ℕ = λ b. b % 64 in
    let noted_at : (u : State) → Sane x.setup u → AreTellable births (after_events x u).state = λ u h. told_sanely births x.setup (after_events x u).state (sane-after_events x u h) in
    let start = alike-reduced s in
    let r = alike-run archivist attentive_archivist level level (level_heard level) x (λ c. record { rights = λ right b e. refl }) (λ b. refl) (Sane x.setup) (Sane x.setup) noted_at noted_at (λ u h. sane-after level x u h) (λ u h. sane-after level x u h) n (reduced s) s (sane-reduced x.setup s sane) sane record { state = start.state; memory = start.memory } in
    record {
      last = reduced_from _ _ r.last.state (memories_same _ _ r.last.memory);
      notes = r.notes ∙ sym (all_heard (run level x n s).notes);
      end = r.end;
    }
