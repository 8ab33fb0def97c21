-- Where telling fails: the notes of all turns but the last were told.
use Rattle.std.proofs.Common.{◌≡◌, ℕ, zero, suc, ◌+◌, ◌-◌, ◌<◌, ◌≤◌, Bool, false, List, [], ◌++◌, Option, Some, None, refl, sym, ap, subst, ◌∙◌, append_assoc, arith, cond, ◌==◌}
use Rattle.std.specs.Prelude.{Result, Err}
use Rattle.std.proofs.lemmas.List.{append-nil}
use Rattle.std.proofs.lemmas.Bool.Decides.{nat_tests}
use Rattle.std.proofs.lemmas.Grind.{flat_map-append}
use Rattle.std.specs.Io.KnownBytes.{Appends}
use Rattle.kernel_abi.specs.declared.Note.{Note}
use Rattle.task_table.specs.model.Sane.{Sane}
use Rattle.task_table.specs.model.State.{State}
use Rattle.board_core.specs.declared.board.Board.{Board}
use Rattle.board_core.specs.Data.{Shows}
use Rattle.board_model.specs.declared.outcomes.End.{End}
use Rattle.board_model.specs.declared.outcomes.End.TheVariants.{Bound, Still, Supervisor}
use Rattle.board_model.specs.declared.outcomes.Level.{Level}
use Rattle.board_model.specs.Script.{Scenario}
use Rattle.board_model.specs.Turn.{turn}
use Rattle.board_core.specs.Stands.{Stands, turns_of}
use Rattle.board_model.specs.Run.{turn_after, Run, run, ending, is_down, is_still, unless, ended_at, with_front, at_turn}
use Rattle.outside_io.specs.Outside.{AppendsFront, Pushes}
use Rattle.board_run.specs.Text.{end_text, trace_text}
use Rattle.trace_text.specs.Lines.{notes_text}
use Rattle.board_run.specs.Midway.{Midway}
use Rattle.board_run.specs.Running.{BreaksOff, turn_lines}
use Rattle.board_run.specs.Telling.{BreaksTelling, notes_in}
use Rattle.outside_io.proofs.Pushing.{appends_more, part_fails, pushes_more}
use Rattle.board_run.proofs.Appending.{line_at}
use Rattle.board_run.proofs.Going.{IsTurned, turns_seen, run_advances, turn_rest, told_notes, all_notes}

module _ (level : Level) (x : Scenario) where
  -- ## more turns tell more

  no_notes : (s : State) (o : Option End) → (unless s o (ended_at s Bound)).notes ≡ []
  no_notes s None = refl
  no_notes s (Some e) = refl

  nothing_run : (s : State) → (run level x 0 s).notes ≡ []
  unfolding run
  nothing_run s = no_notes s (ending x 0 s)

  same_end : (n : ℕ) (s : State) → ending x (suc (suc n)) s ≡ ending x (suc n) s
  unfolding ending
  same_end n s =
      let more : (suc (suc n) == 0) ≡ false = grind (arith, nat_tests) in
      let some : (suc n == 0) ≡ false = grind (arith, nat_tests) in
      ap (λ (b : Bool). cond (is_down s) (Some Supervisor) (cond b (Some Bound) (cond (is_still x s) (Some Still) None))) (more ∙ sym some)

  -- by the end that is tested before the first turn
  longer_by : (o : Option End) (s : State) (a : List (ℕ × Note)) (r q : Run) (back : List (ℕ × Note)) → r.notes ≡ q.notes ++ back →
      (rest : List (ℕ × Note)) × ((unless s o (with_front a r)).notes ≡ (unless s o (with_front a q)).notes ++ rest)
  longer_by None s a r q back e = (back, ap (λ (ns : List (ℕ × Note)). a ++ ns) e ∙ sym (append_assoc a q.notes back))
  longer_by (Some end) s a r q back e = ([], refl)

  run_longer : (n : ℕ) (s : State) → (back : List (ℕ × Note)) × ((run level x (suc n) s).notes ≡ (run level x n s).notes ++ back)
  unfolding run
  run_longer zero s = ((run level x 1 s).notes, ap (λ (ns : List (ℕ × Note)). ns ++ (run level x 1 s).notes) (sym (nothing_run s)))
  run_longer (suc n) s =
      let next : State = (turn level x s).state in
      let a = at_turn s.turn (turn level x s).notes in
      let less = run_longer n next in
      let more = longer_by (ending x (suc n) s) s a (run level x (suc n) next) (run level x n next) less.0 less.1 in
      (more.0, ap (λ (o : Option End). (unless s o (with_front a (run level x (suc n) next))).notes) (same_end n s) ∙ more.1)

  -- by however many turns more
  pub runs_longer : (k n : ℕ) (s : State) → (back : List (ℕ × Note)) × ((run level x (k + n) s).notes ≡ (run level x n s).notes ++ back)
  runs_longer zero n s = let e : zero + n ≡ n = omega arith in ([], ap (λ (i : ℕ). (run level x i s).notes) e ∙ sym (append-nil (run level x n s).notes))
  runs_longer (suc k) n s =
      let e : suc k + n ≡ suc (k + n) = omega arith in
      let less = runs_longer k n s in
      let more = run_longer (k + n) s in
      (less.0 ++ more.0, ap (λ (i : ℕ). (run level x i s).notes) e ∙ more.1 ∙ ap (λ (ns : List (ℕ × Note)). ns ++ more.0) less.1 ∙ append_assoc (run level x n s).notes less.0 more.0)

  run_shorter : (n : ℕ) (s : State) → (back : List (ℕ × Note)) × ((run level x n s).notes ≡ (run level x (n - 1) s).notes ++ back)
  run_shorter zero s = ([], sym (append-nil (run level x 0 s).notes))
  run_shorter (suc n) s = let e : suc n - 1 ≡ n = omega arith in rw e (run_longer n s)

  -- turns that note nothing tell nothing
  silent : (n : ℕ) (t : State) → Sane x.setup t → ending x 1 t ≡ None → ((k : ℕ) → k < n → (turn_after level x k t).notes ≡ []) → ((k : ℕ) → k < n → ending x 1 (turn_after level x k t).state ≡ None) → (run level x n t).notes ≡ []
  silent zero t h goes none on = nothing_run t
  silent (suc n) t h goes none on =
      let last : State = (turn_after level x n t).state in
      let e : suc n ≡ n + suc 0 = omega arith in
      ap (λ (i : ℕ). (run level x i t).notes) e
      ∙ ap (λ (r : Run). r.notes) (run_advances level x 0 n t h goes (λ k lt. none k (omega (arith, lt))) (λ k lt. on k (omega (arith, lt))))
      ∙ ap (λ (ns : List Note). at_turn (t.turn + n) ns ++ (run level x 0 last).notes) (none n (omega arith))
      ∙ nothing_run last

  -- ## what was told so far

  module _ {T : Type 0} {X : Type 0} {H : X → Type 0} (shown : Shows X H) (heard : T → List (ℕ × Note) → T → Type 0) where
    notes_so_far : (n : ℕ) (t t' : T) (s : State) (b : Board X H) (m : Midway shown heard level x t t' s b) → (run level x n m.here).notes ≡ [] → notes_in level x (turns_of b - s.turn + n) s ≡ m.front
    notes_so_far n t t' s b m none =
        let at : m.here.turn ≡ turns_of b = turns_seen shown x b m.here m.stands in
        let k : turns_of b - s.turn + n ≡ m.here.turn - s.turn + n = omega arith in
        ap (λ (i : ℕ). notes_in level x i s) k
        ∙ ap (λ (r : Run). r.notes) (m.rest n)
        ∙ ap (λ (ns : List (ℕ × Note)). m.front ++ ns) none
        ∙ append-nil m.front

    -- where the run ends here, the turns so far have all its notes
    pub whole_notes : (limit : ℕ) (t t' : T) (s : State) (b : Board X H) (e : End) → turns_of b ≤ limit →
        ((u : State) → Stands shown x b u → ending x (limit - u.turn) u ≡ Some e) → Midway shown heard level x t t' s b →
        notes_in level x (turns_of b - s.turn) s ≡ notes_in level x (limit - s.turn) s
    whole_notes limit t t' s b e le ends m =
        let k : turns_of b - s.turn ≡ turns_of b - s.turn + 0 = omega arith in
        ap (λ (i : ℕ). notes_in level x i s) k ∙ notes_so_far 0 t t' s b m (nothing_run m.here) ∙ sym (all_notes shown heard level x limit t t' s b e m le ends)

    -- ## a failure as the notes of a turn are told

    pub breaks_in_turn : (broke : T → List (ℕ × Note) → T → Type 0) (n at : ℕ) (t now after : T) (s : State) (b b' : Board X H) (notes : List Note) → IsTurned shown level x n b b' notes → at + 1 ≡ turns_of b' →
        broke now (at_turn at notes) after → Midway shown heard level x t now s b → BreaksTelling heard broke level x t after s b'
    breaks_in_turn broke n at t now after s b b' notes h last breaks m =
        let u : State = m.here in
        let advanced = h.advanced u m.stands in
        let next : State = (turn_after level x n u).state in
        let new : List (ℕ × Note) = at_turn (u.turn + n) (turn_after level x n u).notes in
        let rest = turn_rest shown heard level x n t now s b b' notes h m in
        let here : u.turn ≡ turns_of b = turns_seen shown x b u m.stands in
        let there : next.turn ≡ turns_of b' = turns_seen shown x b' next advanced.stands in
        let from : s.turn ≤ u.turn = m.after in
        let less : turns_of b' - s.turn - 1 ≡ turns_of b - s.turn + n = omega (arith, h.turns) in
        let before : notes_in level x (turns_of b' - s.turn - 1) s ≡ m.front =
        ap (λ (i : ℕ). notes_in level x i s) less ∙ notes_so_far n t now s b m (silent n u m.stands.sane (h.goes u m.stands) advanced.nothing advanced.goes_on) in
        let k : turns_of b' - s.turn ≡ next.turn - s.turn + 0 = omega arith in
        let all : notes_in level x (turns_of b' - s.turn) s ≡ m.front ++ new =
        ap (λ (i : ℕ). notes_in level x i s) k
        ∙ ap (λ (r : Run). r.notes) (rest.1 0)
        ∙ ap (λ (ns : List (ℕ × Note)). (m.front ++ new) ++ ns) (nothing_run next)
        ∙ append-nil (m.front ++ new) in
        let B : List (ℕ × Note) → Type 0 = λ ns. broke now ns after in
        let H : List (ℕ × Note) → Type 0 = λ ns. heard t ns now in
        record {
          between = now;
          last = new;
          made = omega (arith, h.turns);
          is_last = all ∙ ap (λ (ns : List (ℕ × Note)). ns ++ new) (sym before);
          before = subst H (sym before) m.told;
          broken = subst B (told_notes shown heard level x n at t now s b b' notes h last m) breaks;
        }

  -- ## a failure of a sink

  module _ {X : Type 0} {H : X → Type 0} (w w' : Option (List ℕ)) (s : State) (b : Board X H) where
    -- a sink that broke off has a front of the text
    pub broken_text : {R E : Type 0} (limit : ℕ) (now : Option (List ℕ)) (last : List (ℕ × Note)) (r : Result R E) (e : E) → r ≡ Err e → turns_of b ≤ limit →
        notes_in level x (turns_of b - s.turn) s ≡ notes_in level x (turns_of b - s.turn - 1) s ++ last →
        Appends w now (turn_lines level x (turns_of b - s.turn - 1) s) → AppendsFront now w' (notes_text last) →
        Pushes w w' (trace_text (run level x (limit - s.turn) s)) r
    broken_text {R} {E} limit now last r e failed le is before broken =
        let n : ℕ = turns_of b - s.turn in
        let whole : Run = run level x (limit - s.turn) s in
        let more = runs_longer (limit - s.turn - n) n s in
        let k : limit - s.turn ≡ limit - s.turn - n + n = omega arith in
        let all : whole.notes ≡ (notes_in level x (n - 1) s ++ last) ++ more.0 =
        ap (λ (i : ℕ). notes_in level x i s) k ∙ more.1 ∙ ap (λ (ns : List (ℕ × Note)). ns ++ more.0) is in
        let front : List (ℕ × Note) = notes_in level x (n - 1) s in
        let end : List ℕ = end_text whole.end whole.last in
        let split : trace_text whole ≡ notes_text front ++ (notes_text last ++ (notes_text more.0 ++ end)) =
        ap (λ (ns : List (ℕ × Note)). notes_text ns ++ end) all
        ∙ ap (λ (text : List ℕ). text ++ end) (flat_map-append line_at (front ++ last) more.0)
        ∙ ap (λ (text : List ℕ). (text ++ notes_text more.0) ++ end) (flat_map-append line_at front last)
        ∙ append_assoc (notes_text front ++ notes_text last) (notes_text more.0) end
        ∙ append_assoc (notes_text front) (notes_text last) (notes_text more.0 ++ end) in
        part_fails w now w' (notes_text front) (notes_text last) (notes_text more.0 ++ end) (trace_text whole) r e failed split before broken

    pub breaks_off : (limit : ℕ) (now : Option (List ℕ)) (last : List (ℕ × Note)) →
        notes_in level x (turns_of b - s.turn) s ≡ notes_in level x (turns_of b - s.turn - 1) s ++ last →
        Appends w now (turn_lines level x (turns_of b - s.turn - 1) s) → AppendsFront now w' (notes_text last) →
        BreaksOff level x limit w w' s b
    breaks_off limit now last is before q =
        let front : List ℕ = turn_lines level x (turns_of b - s.turn - 1) s in
        let end : List ℕ = end_text (run level x limit s).end (run level x (turns_of b - s.turn) s).last in
        let all : turn_lines level x (turns_of b - s.turn) s ≡ front ++ notes_text last =
        ap notes_text is ∙ flat_map-append line_at (notes_in level x (turns_of b - s.turn - 1) s) last in
        record {
          front = front ++ q.0;
          most = (q.1.0 ++ end, ap (λ (text : List ℕ). text ++ end) (all ∙ ap (λ (text : List ℕ). front ++ text) q.1.1) ∙ append_assoc front (q.0 ++ q.1.0) end ∙ ap (λ (text : List ℕ). front ++ text) (append_assoc q.0 q.1.0 end) ∙ sym (append_assoc front q.0 (q.1.0 ++ end)));
          least = (q.0, refl);
          pushed = appends_more w now w' front q.0 before q.2;
        }

    -- a failure among the lines of the end
    pub breaks_at_end : (limit : ℕ) (now : Option (List ℕ)) (e : End) → e ≡ (run level x limit s).end →
        notes_in level x (turns_of b - s.turn) s ≡ notes_in level x limit s →
        Appends w now (notes_text (notes_in level x limit s)) → AppendsFront now w' (end_text e (run level x (turns_of b - s.turn) s).last) →
        BreaksOff level x limit w w' s b
    breaks_at_end limit now e end all before q =
        let lines : List ℕ = notes_text (notes_in level x limit s) in
        let last : State = (run level x (turns_of b - s.turn) s).last in
        let less : List ℕ = turn_lines level x (turns_of b - s.turn - 1) s in
        let shorter = run_shorter (turns_of b - s.turn) s in
        let split : lines ≡ less ++ notes_text shorter.0 =
        ap notes_text (sym all ∙ shorter.1) ∙ flat_map-append line_at (notes_in level x (turns_of b - s.turn - 1) s) shorter.0 in
        record {
          front = lines ++ q.0;
          most = (
            q.1.0,
            ap (λ (ns : List (ℕ × Note)). notes_text ns ++ end_text (run level x limit s).end last) all
                ∙ ap (λ (i : End). lines ++ end_text i last) (sym end)
                ∙ ap (λ (text : List ℕ). lines ++ text) q.1.1
                ∙ sym (append_assoc lines q.0 q.1.0),
          );
          least = (notes_text shorter.0 ++ q.0, ap (λ (text : List ℕ). text ++ q.0) split ∙ append_assoc less (notes_text shorter.0) q.0);
          pushed = appends_more w now w' lines q.0 before q.2;
        }

-- the text of a run by that of its notes and that of its end
pub ended_text : {R E : Type 0} (w now w' : Option (List ℕ)) (e : End) (r : Result R E) (whole : Run) → e ≡ whole.end → Appends w now (notes_text whole.notes) → Pushes now w' (end_text e whole.last) r → Pushes w w' (trace_text whole) r
ended_text {R} {E} w now w' e r whole is before pushed =
    let P : End → Type 0 = λ i. Pushes now w' (end_text i whole.last) r in
    pushes_more w now w' (notes_text whole.notes) (end_text whole.end whole.last) r before (subst P is pushed)
