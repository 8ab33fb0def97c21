-- The way through all schedules, from fork to fork.
use Rattle.std.proofs.Common.{◌≡◌, ◌∙◌, ℕ, zero, suc, ◌+◌, ◌-◌, ◌<◌, ◌≤◌, Bool, false, get_or, List, [], ◌∷◌, ◌++◌, map, Option, Some, None, refl, sym, ap, subst, append-nil, arith}
use Rattle.std.specs.Prelude.{Contains, find, is_some, slice_index}
use Rattle.std.specs.Option.{option_or}
use Rattle.std.specs.List.{All, AllZip}
use Rattle.std.proofs.lemmas.List.Elements.{All-contains, All-nil, Contains-get_or}
use Rattle.run_script.specs.Scripts.{ScriptData}
use Rattle.task_table.specs.model.State.{State}
use Rattle.task_table.specs.model.Sane.{Sane}
use Rattle.board_model.specs.declared.outcomes.End.{End}
use Rattle.board_model.specs.declared.outcomes.Level.TheVariants.{Calls}
use Rattle.board_model.specs.Laid.{with_script}
use Rattle.board_model.specs.Run.{ending, state_after}
use Rattle.board_model.specs.SameScripts.{AgreeFor, AreEquivalent}
use Rattle.board_model.specs.Script.{Scenario}
use Rattle.run_question.specs.declared.asked.Property.{Property}
use Rattle.explore_core.specs.declared.verdict.Verdict.TheVariants.{Open, Broken}
use Rattle.explore_core.specs.Answers.{Asking}
use Rattle.explore_core.specs.Clean.{IsClean}
use Rattle.explore_core.specs.Exploring.{Ascends, Fork, GoesOnTo, IsAsBefore, IsFork, IsOverBefore, decided, first_onward, onward, pending, ways_in, with_onward}
use Rattle.explore_core.specs.Playing.{after_turns, stepped_after}
use Rattle.explore_core.specs.Schedules.{Coming, Schedule, scheduled}
use Rattle.explore_core.specs.Verdicts.{ended, stepped}
use Rattle.explore_core.specs.Walked.{Course, Placed, begun_by, comings_in, courses, courses_in, end_of, may_come_in, placed, schedule_of}
use Rattle.explore_core.specs.Watching.{Judged}
use Rattle.explore_core.proofs.Ahead.{agree, lasts_too}
use Rattle.explore_core.proofs.Onward.{IsTaken, begun_whole, first_alike, first_at_fork, first_begun, from_turn, in_turn, in_turn_taken, none_first, none_passes, one_on, passed_one, same_before, same_from, some_on}
use Rattle.explore_core.proofs.OneTurn.{ends}
use Rattle.explore_core.proofs.Over.{agree_from}
use Rattle.explore_core.proofs.Played.{all_zip_map, one_kept, turn_after_turns}
use Rattle.explore_core.proofs.SameBreaks.{same_broken, same_end}

-- ## what is looked for was looked for before

broken_stays : (p : Property) (x : Scenario) (n : ℕ) (s : State) (turn : ℕ) → stepped_after p x n s (Broken turn) ≡ Broken turn
unfolding stepped_after
broken_stays p x zero s turn = refl
broken_stays p x (suc n) s turn = ap (λ v. stepped p x v (state_after Calls x n s)) (broken_stays p x n s turn)

module _ (a : Asking) where
  abbrev end : ℕ
  end = end_of a.question.arrivals

  -- ## the script of the board has what each schedule has, up to where something may come

  pub board_agrees : (f : Fork) (turn from n : ℕ) (board : ScriptData) (more : Course) → IsFork a f → AreEquivalent board (scheduled a.scenario (ways_in a f)).script → IsTaken turn (pending f) more → from + n ≤ turn →
      AgreeFor board (scheduled a.scenario (with_onward a f more)).script from n
  board_agrees f turn from n board more fork good taken le =
      let same = same_before turn (placed a.question.arrivals 0) f.came more (pending f) fork.offered taken in
      let all = agree a.scenario (ways_in a f) (with_onward a f more) turn from n le same in
      record { events = λ at low high. all.events at low high ∙ sym (good.events at); last = λ at low high. all.last at low high ∙ sym (good.last at) }

  -- ## what is known of a property stays as it is, while an arrival that may not come is passed over

  same_known : (f : Fork) (s : State) (ws : List Judged) → AllZip (IsAsBefore a f s s) ws ws
  same_known f s [] = tt
  same_known f s (w ∷ ws) = (record { property = refl; broken = λ turn is. is; same = λ more has. refl }, same_known f s ws)

  pub passes_over : (came : Course) (passed : List Placed) (p : Placed) (rest : List Placed) (s : State) (ws : List Judged) → may_come_in p.1 s.turn ≡ false →
      GoesOnTo a record { came = came; passed = passed; rest = p ∷ rest } record { came = came; passed = passed ++ p ∷ []; rest = rest } s s ws ws
  passes_over came passed p rest s ws none = record {
    came = refl;
    onward = sym (passed_one (courses (end - (s.turn + 1)) (s.turn + 1)) s.turn passed p rest none);
    known = same_known record { came = came; passed = passed; rest = p ∷ rest } s ws;
  }

  -- ## turns are made in which none may come

  abbrev NoneBetween : ℕ → ℕ → List Placed → Type 0
  NoneBetween from to ps = (t : ℕ) → from ≤ t → t < to → All (λ (p : Placed). may_come_in p.1 t ≡ false) ps

  module _ (came : Course) (ps : List Placed) (s u : State) (to : ℕ) (more_turns : s.turn < u.turn) (within : u.turn ≤ to) (none : NoneBetween (s.turn + 1) to ps) (fork : IsFork a record { came = came; passed = ps; rest = [] }) where
    abbrev below : All (λ (p : Placed). p.1.below ≤ end) ps
    below = subst (λ (l : List Placed). All (λ (p : Placed). p.1.below ≤ end) l) (append-nil ps) fork.below

    then_to : in_turn end u.turn [] ps ≡ in_turn end to [] ps
    then_to =
        let e : u.turn + (to - u.turn) ≡ to = omega (arith, within) in
        some_on (to - u.turn) end u.turn ps below (λ t low high. none t (omega (arith, low, more_turns)) (omega (arith, high, e))) ∙ ap (λ t. in_turn end t [] ps) e

    first_to : in_turn end s.turn ps [] ≡ in_turn end to [] ps
    first_to =
        let e : s.turn + 1 + (to - (s.turn + 1)) ≡ to = omega (arith, within, more_turns) in
        one_on end s.turn ps [] fork.below (All-nil (λ (p : Placed). may_come_in p.1 s.turn ≡ false))
        ∙ ap (λ (l : List Placed). in_turn end (s.turn + 1) [] l) (append-nil ps)
        ∙ some_on (to - (s.turn + 1)) end (s.turn + 1) ps below (λ t low high. none t low (omega (arith, high, e)))
        ∙ ap (λ t. in_turn end t [] ps) e

    pub goes_on_same : in_turn end u.turn [] ps ≡ in_turn end s.turn ps []
    goes_on_same = then_to ∙ sym first_to

  pub played_on : (came : Course) (ps : List Placed) (s : State) (to n : ℕ) (board : ScriptData) (old new : List Judged) → Sane a.scenario.setup s → IsFork a record { came = came; passed = ps; rest = [] } →
      AreEquivalent board (scheduled a.scenario (ways_in a record { came = came; passed = ps; rest = [] })).script → 0 < n → (state_after Calls (with_script a.scenario board) n s).turn ≤ to → to ≤ a.limit → NoneBetween (s.turn + 1) to ps →
      ((k : ℕ) → k < n → ending (with_script a.scenario board) 1 (state_after Calls (with_script a.scenario board) k s) ≡ None) → new ≡ map (after_turns (with_script a.scenario board) n s) old →
      GoesOnTo a record { came = came; passed = ps; rest = [] } record { came = came; passed = []; rest = ps } s (state_after Calls (with_script a.scenario board) n s) old new
  played_on came ps s to n board old new sane fork good some within le none goes is =
      let x = with_script a.scenario board in
      let f : Fork = record { came = came; passed = ps; rest = [] } in
      let u = state_after Calls x n s in
      let at = turn_after_turns x n s sane in
      let later : s.turn < u.turn = omega (arith, at, some) in
      let order = subst (λ (l : List Placed). Ascends 0 l) (append-nil ps) fork.order in
      let same = goes_on_same came ps s u to later within none fork in
      let taken : (more : Course) → Contains (in_turn end s.turn ps []) more → IsTaken to (ps ++ []) more = λ more has.
      let begun = subst (λ (l : List Course). Contains l more) (first_to came ps s u to later within none fork) has in
      subst (λ (l : List Placed). IsTaken to l more) (sym (append-nil ps)) (All-contains (IsTaken to ps) (in_turn end to [] ps) more (in_turn_taken end to 0 [] ps order) begun) in
      let each : (w : Judged) → IsAsBefore a f s u w (after_turns x n s w) = λ w. record {
        property = refl;
        broken = λ turn is. ap (stepped_after w.0 x n s) is ∙ broken_stays w.0 x n s turn;
        same = λ more has.
            let script = (scheduled a.scenario (with_onward a f more)).script in
            let agrees = board_agrees f to s.turn (to - s.turn) board more fork good (taken more has) (omega (arith, later, within)) in
            (one_kept x script s n to a.limit w sane agrees le goes within).broken;
      } in
      record {
        came = refl;
        onward = same;
        known = subst (λ (l : List Judged). AllZip (IsAsBefore a f s u) old l) (sym is) (all_zip_map (IsAsBefore a f s u) (after_turns x n s) each old);
      }

  -- ## at a fork, the first one is one that an arrival begins in the first of its ways, or in another, or one in which it is passed over

  abbrev breaks : Judged → State → Schedule → Bool
  breaks w s schedule = is_some (decided a w s schedule)

  -- those that an arrival begins in these ways
  abbrev pub first_begun_by : Course → List Placed → Placed → List Placed → Judged → State → List Coming → Option Schedule
  first_begun_by came passed q rest w s ways =
      find (λ schedule. is_some (decided a w s schedule)) (map (λ more. schedule_of a.question.arrivals (came ++ more)) (begun_by q.0 ways (courses_in (courses (end_of a.question.arrivals - (s.turn + 1)) (s.turn + 1)) s.turn passed rest)))

  pub first_forked : (came : Course) (passed : List Placed) (q : Placed) (rest : List Placed) (w : Judged) (s : State) →
      first_onward a record { came = came; passed = passed; rest = q ∷ rest } w s
      ≡ option_or (first_begun_by came passed q rest w s (comings_in q.1 s.turn)) (first_onward a record { came = came; passed = passed ++ q ∷ []; rest = rest } w s)
  first_forked came passed q rest w s =
      first_at_fork (breaks w s) (courses (end - (s.turn + 1)) (s.turn + 1)) s.turn (λ (more : Course). schedule_of a.question.arrivals (came ++ more)) passed q rest

  pub first_way : (came : Course) (passed : List Placed) (q : Placed) (rest : List Placed) (w : Judged) (s : State) (c : Coming) (ways : List Coming) →
      first_begun_by came passed q rest w s (c ∷ ways)
      ≡ option_or (first_onward a record { came = came ++ (q.0, c) ∷ []; passed = passed; rest = rest } w s) (first_begun_by came passed q rest w s ways)
  first_way came passed q rest w s c ways =
      let now = courses_in (courses (end - (s.turn + 1)) (s.turn + 1)) s.turn passed rest in
      first_begun (breaks w s) (λ (more : Course). schedule_of a.question.arrivals (came ++ more)) q.0 c ways now
      ∙ ap (λ (g : Course → Schedule). option_or (find (breaks w s) (map g now)) (first_begun_by came passed q rest w s ways)) (begun_whole (schedule_of a.question.arrivals) came (q.0, c))

  -- ## where the way goes on, the first one stays the first one

  pub first_goes_on : (f g : Fork) (s u : State) (old new : Judged) → g.came ≡ f.came → onward a u.turn g ≡ onward a s.turn f → IsAsBefore a f s u old new → first_onward a f old s ≡ first_onward a g new u
  first_goes_on f g s u old new came same known =
      let all = onward a s.turn f in
      first_alike (breaks old s) (breaks new u) (with_onward a f) all (λ more has. ap (λ (o : Option ℕ). is_some o) (known.same more has))
      ∙ ap (λ (l : List Course). find (breaks new u) (map (with_onward a f) l)) (sym same)
      ∙ ap (λ (c : Course). find (breaks new u) (map (λ (more : Course). schedule_of a.question.arrivals (c ++ more)) (onward a u.turn g))) (sym came)

  -- ## a run that ends: with each schedule that goes on it ends so

  pub ends_too : (f : Fork) (s : State) (left : ℕ) (board : ScriptData) (more : Course) (e : End) → IsFork a f → AreEquivalent board (scheduled a.scenario (ways_in a f)).script → Contains (onward a s.turn f) more →
      ending (with_script a.scenario board) left s ≡ Some e → ending (scheduled a.scenario (with_onward a f more)) left s ≡ Some e
  ends_too f s left board more e fork good has is =
      let taken = All-contains (IsTaken s.turn (pending f)) (onward a s.turn f) more (in_turn_taken end s.turn 0 f.passed f.rest fork.order) has in
      let same = same_before s.turn (placed a.question.arrivals 0) f.came more (pending f) fork.offered taken in
      let last = lasts_too a.scenario (ways_in a f) (with_onward a f more) s.turn same in
      same_end (with_script a.scenario board) (scheduled a.scenario (with_onward a f more)).script left s (last ∙ sym (good.last s.turn)) ∙ is

  pub decided_at_end : (f : Fork) (s : State) (board : ScriptData) (w : Judged) (more : Course) (e : End) → IsFork a f → AreEquivalent board (scheduled a.scenario (ways_in a f)).script → Contains (onward a s.turn f) more →
      ending (with_script a.scenario board) (a.limit - s.turn) s ≡ Some e → decided a w s (with_onward a f more) ≡ ended w.0 w.1 e s
  decided_at_end f s board w more e fork good has is =
      ends w.0 (scheduled a.scenario (with_onward a f more)) (a.limit - s.turn) w.1 s e (ends_too f s (a.limit - s.turn) board more e fork good has is)

  -- ## a state that was seen

  pub met : (came : Course) (ps : List Placed) (s : State) (live : List (ℕ × Property)) (numbers : List ℕ) (place : ℕ) (p : Property) → Sane a.scenario.setup s → IsFork a record { came = came; passed = []; rest = ps } → IsOverBefore s.turn came →
      IsClean a live ps numbers s → Contains live (place, p) → first_onward a record { came = came; passed = []; rest = ps } (p, Open (slice_index numbers place)) s ≡ None
  met came ps s live numbers place p sane fork over clean looked =
      let f : Fork = record { came = came; passed = []; rest = ps } in
      let n = a.limit - s.turn in
      let kept = slice_index numbers place in
      let all = onward a s.turn f in
      let none : (more : Course) → Contains all more → breaks (p, Open kept) s (with_onward a f more) ≡ false = λ more has.
      let taken = All-contains (IsTaken s.turn ps) all more (in_turn_taken end s.turn 0 [] ps fork.order) has in
      let same = same_from s.turn (placed a.question.arrivals 0) came more ps over fork.apart taken in
      let alone = schedule_of a.question.arrivals more in
      let agrees = agree_from a.scenario (with_onward a f more) alone s.turn s.turn n (omega arith) same in
      let is = same_broken p (scheduled a.scenario alone) (scheduled a.scenario (with_onward a f more)).script n kept s sane agrees in
      let from = subst (λ (l : List Course). Contains l more) (sym (from_turn end s.turn ps fork.below)) has in
      ap (λ (o : Option ℕ). is_some o) (is ∙ clean more from (place, p) looked) in
      none_first (breaks (p, Open kept) s) (with_onward a f) all (λ k d lt. none (get_or all k d) (Contains-get_or all k d lt))

  -- ## a state from which nothing was found is clean

  pub clean_after : (came : Course) (ps : List Placed) (s : State) (live : List (ℕ × Property)) (numbers : List ℕ) → Sane a.scenario.setup s → IsFork a record { came = came; passed = []; rest = ps } → IsOverBefore s.turn came →
      ((place : ℕ) (p : Property) → Contains live (place, p) → first_onward a record { came = came; passed = []; rest = ps } (p, Open (slice_index numbers place)) s ≡ None) → IsClean a live ps numbers s
  clean_after came ps s live numbers sane fork over none =
      let f : Fork = record { came = came; passed = []; rest = ps } in
      let n = a.limit - s.turn in
      let all = onward a s.turn f in
      λ more from q looked.
      let has = subst (λ (l : List Course). Contains l more) (from_turn end s.turn ps fork.below) from in
      let kept = slice_index numbers q.0 in
      let taken = All-contains (IsTaken s.turn ps) all more (in_turn_taken end s.turn 0 [] ps fork.order) has in
      let same = same_from s.turn (placed a.question.arrivals 0) came more ps over fork.apart taken in
      let alone = schedule_of a.question.arrivals more in
      let agrees = agree_from a.scenario (with_onward a f more) alone s.turn s.turn n (omega arith) same in
      let is = same_broken q.1 (scheduled a.scenario alone) (scheduled a.scenario (with_onward a f more)).script n kept s sane agrees in
      let silent = All-contains (λ (c : Course). breaks (q.1, Open kept) s (with_onward a f c) ≡ false) all more (none_passes (breaks (q.1, Open kept) s) (with_onward a f) all (none q.0 q.1 looked)) has in
      sym is ∙ nothing (decided a (q.1, Open kept) s (with_onward a f more)) silent
    where
      nothing : (o : Option ℕ) → is_some o ≡ false → o ≡ None
      nothing None e = refl
      nothing (Some k) e = absurd (let no : ⊥ = cc in no)
