-- What is watched, as the code has it and as it is said.
use Rattle.std.proofs.Common.{◌≡◌, ◌∙◌, ℕ, zero, suc, ◌+◌, ◌<◌, ◌≤◌, List, [], ◌∷◌, ◌++◌, length, length-append, map, take, drop, get_or, set, replicate, Option, Some, None, refl, sym, ap, subst, arith}
use Rattle.std.specs.Prelude.{◌||◌, slice_get, slice_index, option_map}
use Rattle.std.specs.List.{All, list_any}
use Rattle.std.proofs.lemmas.List.{append-nil, drop_all, get_or_default, map-append, map_more, take_all}
use Rattle.std.proofs.lemmas.List.Edits.{map_over_more}
use Rattle.std.proofs.lemmas.Option.{slice_get-get_or, slice_get-map, slice_get_past}
use Rattle.std.proofs.lemmas.List.Elements.{All-cons, All-head, All-nil, All-tail, All-weaker}
use Rattle.task_table.specs.model.State.{State}
use Rattle.task_table.specs.model.Sane.{Sane}
use Rattle.board_model.specs.declared.outcomes.End.{End}
use Rattle.board_model.specs.declared.outcomes.Level.TheVariants.{Calls}
use Rattle.board_model.specs.declared.outcomes.Turned.{Turned}
use Rattle.board_model.specs.Script.{Scenario}
use Rattle.board_model.specs.Turn.{turn, turned}
use Rattle.board_core.specs.declared.board.Board.{Board}
use Rattle.board_core.specs.Data.{Shows}
use Rattle.board_core.specs.Stands.{Stands, notes_of, turns_of}
use Rattle.run_question.specs.declared.asked.Fact.{Fact}
use Rattle.run_question.specs.declared.asked.Fact.TheVariants as fact
use Rattle.run_question.specs.declared.asked.Property.{Property}
use Rattle.run_question.specs.declared.asked.Property.TheVariants as property
use Rattle.run_question.specs.declared.question.Stated.{Stated}
use Rattle.explore_core.specs.declared.verdict.Verdict.{Verdict}
use Rattle.explore_core.specs.declared.verdict.Verdict.TheVariants.{Open}
use Rattle.explore_core.specs.declared.watch.Watched.{Watched}
use Rattle.explore_core.specs.Made.{IsMade}
use Rattle.explore_core.specs.There.{AreThere, IsThere, byte_before}
use Rattle.explore_core.specs.Watching.{AllThere, Judged, are_open, begun_at, begun_in, finished_at, finished_in, is_open, judged, looked, number_at, number_in, number_of, stepped_in, turned_on, unjudged, with_verdict}

-- ## what there is stays there

fact_still : (f : Fact) (s u : State) → length s.tasks ≡ length u.tasks → IsThere f s → IsThere f u
fact_still (fact.Byte at test value) s u e h = tt
fact_still (fact.Word at test value) s u e h = h
fact_still (fact.Task task f) s u e h = omega (arith, e, h)
fact_still (fact.Waiting device) s u e h = tt

pub there_still : (p : Property) (s u : State) → length s.tasks ≡ length u.tasks → AreThere p s → AreThere p u
there_still (property.NeverTold line) s u e h = tt
there_still (property.NeverChanged at but) s u e h = tt
there_still (property.NeverSo c turns) s u e h = fact_still c.fact s u e h
there_still (property.EndsSo c) s u e h = fact_still c.fact s u e h
there_still property.EndsStill s u e h = tt
there_still (property.Answered line answer turns) s u e h = tt

pub as_many_tasks : (x : Scenario) (s u : State) → Sane x.setup s → Sane x.setup u → length s.tasks ≡ length u.tasks
as_many_tasks x s u h k = h.steady.as_many ∙ sym k.steady.as_many

pub all_there_still : (s u : State) (ws : List Judged) → length s.tasks ≡ length u.tasks → AllThere s ws → AllThere u ws
all_there_still s u ws e all = All-weaker (λ (w : Judged). AreThere w.0 s) (λ (w : Judged). AreThere w.0 u) (λ w h. there_still w.0 s u e h) ws all

-- ## as the code has it

pub there_in : (s : State) (ws : List Watched) → AllThere s (map judged ws) → All (λ (w : Watched). AreThere w.property s) ws
there_in s [] all = All-nil (λ (w : Watched). AreThere w.property s)
there_in s (w ∷ ws) all =
    All-cons (λ (v : Watched). AreThere v.property s) w ws (All-head (λ (v : Judged). AreThere v.0 s) (judged w) (map judged ws) all)
    (there_in s ws (All-tail (λ (v : Judged). AreThere v.0 s) (judged w) (map judged ws) all))

turned_all : (x : Scenario) (s : State) (ws : List Watched) → map judged (map (stepped_in x s) (map (looked s) ws)) ≡ map (turned_on x s) (map judged ws)
turned_all x s [] = refl
turned_all x s (w ∷ ws) = ap (λ (l : List Judged). turned_on x s (judged w) ∷ l) (turned_all x s ws)

pub turned_as : (x : Scenario) (s : State) (ws mid new : List Watched) → mid ≡ map (looked s) ws → new ≡ map (stepped_in x s) mid → map judged new ≡ map (turned_on x s) (map judged ws)
turned_as x s ws mid new is are = ap (λ (l : List Watched). map judged l) (are ∙ ap (λ (l : List Watched). map (stepped_in x s) l) is) ∙ turned_all x s ws

pub begun_as : (s : State) (ws : List Watched) → map judged (map (begun_in s) ws) ≡ map (begun_at s) (map judged ws)
begun_as s [] = refl
begun_as s (w ∷ ws) = ap (λ (l : List Judged). begun_at s (judged w) ∷ l) (begun_as s ws)

pub finished_as : (end : End) (s : State) (ws : List Watched) → map judged (map (finished_in end s) ws) ≡ map (finished_at end s) (map judged ws)
finished_as end s [] = refl
finished_as end s (w ∷ ws) = ap (λ (l : List Judged). finished_at end s (judged w) ∷ l) (finished_as end s ws)

-- ## a board that has made a turn

module _ {X : Type 0} {H : X → Type 0} (shown : Shows X H) (x : Scenario) (s : State) (made : Turned) (b : Board X H)
    (stands : Stands shown x b (turn Calls x s).state) (notes : notes_of b ≡ (turn Calls x s).notes) (is : made ≡ turned x s) (turns : turns_of b ≡ s.turn + 1) where
  one_made : (w : Watched) → AreThere w.property (turn Calls x s).state → IsMade shown x w.property (looked s w).before made b s
  one_made w there = record { stands = stands; notes = notes; turned = is; byte = refl; there = there; turns = turns }

  all_made : (ws : List Watched) → All (λ (w : Watched). AreThere w.property (turn Calls x s).state) ws → All (λ (w : Watched). IsMade shown x w.property w.before made b s) (map (looked s) ws)
  all_made [] all = All-nil (λ (w : Watched). IsMade shown x w.property w.before made b s)
  all_made (w ∷ ws) all =
      All-cons (λ (v : Watched). IsMade shown x v.property v.before made b s) (looked s w) (map (looked s) ws)
      (one_made w (All-head (λ (v : Watched). AreThere v.property (turn Calls x s).state) w ws all))
      (all_made ws (All-tail (λ (v : Watched). AreThere v.property (turn Calls x s).state) w ws all))

  pub made_as : (ws mid : List Watched) → mid ≡ map (looked s) ws → length s.tasks ≡ length (turn Calls x s).state.tasks → AllThere s (map judged ws) → All (λ (w : Watched). IsMade shown x w.property w.before made b s) mid
  made_as ws mid mids e all =
      let there = all_there_still s (turn Calls x s).state (map judged ws) e all in
      subst (λ (l : List Watched). All (λ (w : Watched). IsMade shown x w.property w.before made b s) l) (sym mids) (all_made ws (there_in (turn Calls x s).state ws there))

-- ## a list that is gone over

pub map_over_all : {A : Type 0} (f : A → A) (ws ys : List A) (i : ℕ) → length ws ≤ i → ys ≡ map f (take i ws) ++ drop i ws → ys ≡ map f ws
map_over_all f ws ys i le is = is ∙ (λ j. map f (take_all i ws le j) ++ drop_all i ws le j) ∙ append-nil (map f ws)

pub map_over_one : {A : Type 0} (f : A → A) (ws ys : List A) (i : ℕ) (d w v : A) → i < length ws → length ys ≡ length ws → ys ≡ map f (take i ws) ++ drop i ws → w ≡ get_or ys i d → v ≡ f w → set ys i v ≡ map f (take (i + 1) ws) ++ drop (i + 1) ws
map_over_one f ws ys i d w v lt long is read new = ap (λ x. set ys i x) new ∙ map_over_more f ws ys i w lt is (read ∙ get_or_default ys i d w (omega (arith, lt, long)))

-- the next one was not changed yet
pub one_of_rest : {A : Type 0} (f : A → A) (P : A → Type 0) (ws ys : List A) (i : ℕ) (d : A) → i < length ws → ys ≡ map f (take i ws) ++ drop i ws → All P ws → P (get_or ys i d)
one_of_rest f P ws ys i d lt is all =
    let same : get_or ys i d ≡ get_or ws i d = ap (λ l. get_or l i d) is ∙ behind f ws i d lt in
    subst P (sym same) (all i d lt)
  where
    behind : {A : Type 0} (f : A → A) (ws : List A) (i : ℕ) (d : A) → i < length ws → get_or (map f (take i ws) ++ drop i ws) i d ≡ get_or ws i d
    behind f [] i d lt = absurd (omega (arith, lt))
    behind f (w ∷ ws) zero d lt = refl
    behind f (w ∷ ws) (suc i) d lt = behind f ws i d (omega (arith, lt))

pub look_one : (s : State) (ws ys : List Watched) (i : ℕ) (d : Watched) (r : Option ℕ) → i < length ws → length ys ≡ length ws → ys ≡ map (looked s) (take i ws) ++ drop i ws → r ≡ byte_before (get_or ys i d).property s →
    set ys i (record (get_or ys i d) { before = r }) ≡ map (looked s) (take (i + 1) ws) ++ drop (i + 1) ws
look_one s ws ys i d r lt long is read =
    let w = get_or ys i d in
    map_over_one (looked s) ws ys i d w (record w { before = r }) lt long is refl (ap (λ b. record w { before = b }) read)

pub judge_one : (f : Watched → Verdict) (ws ys : List Watched) (i : ℕ) (d : Watched) (v : Verdict) → i < length ws → length ys ≡ length ws → ys ≡ map (λ w. with_verdict (f w) w) (take i ws) ++ drop i ws → v ≡ f (get_or ys i d) →
    set ys i (record (get_or ys i d) { verdict = v }) ≡ map (λ w. with_verdict (f w) w) (take (i + 1) ws) ++ drop (i + 1) ws
judge_one f ws ys i d v lt long is read =
    let w = get_or ys i d in
    map_over_one (λ w. with_verdict (f w) w) ws ys i d w (record w { verdict = v }) lt long is refl (ap (λ u. record w { verdict = u }) read)

-- ## what is kept at a place

pub any_judged : (ws : List Watched) → list_any (λ w. is_open w.verdict) ws ≡ are_open (map judged ws)
any_judged [] = refl
any_judged (w ∷ ws) = ap (λ b. is_open w.verdict || b) (any_judged ws)

pub number_there : (ws : List Watched) (k : ℕ) (d : Watched) (n : ℕ) → k < length ws → n ≡ number_of (get_or ws k d).verdict → n ≡ number_at (map judged ws) k
number_there ws k d n lt is = is ∙ sym (ap number_in (slice_get-map judged ws k ∙ ap (option_map judged) (slice_get-get_or ws k d lt)))

pub none_there : (ws : List Watched) (k : ℕ) → length ws ≤ k → 0 ≡ number_at (map judged ws) k
none_there ws k le = sym (ap number_in (slice_get-map judged ws k ∙ ap (option_map judged) (slice_get_past ws k le)))

pub number_in_same : (ws vs : List Watched) (k : ℕ) (d : Watched) (n : ℕ) → k < length ws → vs ≡ ws → n ≡ number_of (get_or vs k d).verdict → n ≡ number_at (map judged ws) k
number_in_same ws vs k d n lt same is = number_there ws k d n lt (is ∙ ap (λ (l : List Watched). number_of (get_or l k d).verdict) same)

pub all_zero : (n k : ℕ) → slice_index (replicate n 0) k ≡ 0
all_zero zero k = refl
all_zero (suc n) zero = refl
all_zero (suc n) (suc k) = all_zero n k

-- a place is set
pub set_here : (ws : List Watched) (k : ℕ) (w : Watched) → k < length ws → slice_get (map judged (set ws k w)) k ≡ Some (judged w)
set_here [] k w lt = absurd (omega (arith, lt))
set_here (v ∷ ws) zero w lt = refl
set_here (v ∷ ws) (suc k) w lt = set_here ws k w (omega (arith, lt))

pub set_other : (ws : List Watched) (k j : ℕ) (w : Watched) → (j ≡ k → ⊥) → slice_get (map judged (set ws k w)) j ≡ slice_get (map judged ws) j
set_other [] k j w other = refl
set_other (v ∷ ws) zero zero w other = absurd (other refl)
set_other (v ∷ ws) zero (suc j) w other = refl
set_other (v ∷ ws) (suc k) zero w other = refl
set_other (v ∷ ws) (suc k) (suc j) w other = set_other ws k j w (λ e. other (ap (λ (n : ℕ). suc n) e))

pub at_here : (ws : List Watched) (k : ℕ) (d w : Watched) → k < length ws → w ≡ get_or ws k d → slice_get (map judged ws) k ≡ Some (judged w)
at_here ws k d w lt is = slice_get-map judged ws k ∙ ap (option_map judged) (slice_get-get_or ws k d lt) ∙ ap (λ (v : Watched). Some (judged v)) (sym is)

pub nothing_past : (ws : List Watched) (k : ℕ) → length ws ≤ k → slice_get (map judged ws) k ≡ None
nothing_past ws k le = slice_get-map judged ws k ∙ ap (option_map judged) (slice_get_past ws k le)

-- ## one more is made

pub made_more : (stated : List Stated) (ws : List Watched) (i : ℕ) (one : Stated) (o : Option ℕ) → i < length stated → one ≡ get_or stated i one → map judged ws ≡ map (λ (p : Stated). unjudged p.property) (take i stated) →
    map judged (ws ++ (record { property = one.property; verdict = Open 0; before = o }) ∷ []) ≡ map (λ (p : Stated). unjudged p.property) (take (i + 1) stated)
made_more stated ws i one o lt read is =
    map-append judged ws ((record { property = one.property; verdict = Open 0; before = o }) ∷ [])
    ∙ (λ k. is k ++ unjudged (read k).property ∷ [])
    ∙ sym (map_more (λ (p : Stated). unjudged p.property) stated i one lt)

pub long_more : (ws : List Watched) (w : Watched) (i : ℕ) → length ws ≡ i → length (ws ++ w ∷ []) ≡ i + 1
long_more ws w i is = let n = length-append ws (w ∷ []) in omega (arith, n, is)
