-- A search goes through what is left, way by way.
use Rattle.std.proofs.Common.{◌≡◌, ◌∙◌, ℕ, suc, ◌+◌, ◌<◌, ◌≤◌, get_or, List, [], ◌∷◌, ◌++◌, length, map, None, Some, Vec, Global, refl, sym, ap, subst, arith}
use Rattle.std.specs.Prelude.{slice_get}
use Rattle.std.specs.List.{All}
use Rattle.std.proofs.lemmas.List.Elements.{All-cons, All-head, All-nil, All-tail}
use Rattle.std.proofs.lemmas.Option.{get_or_from_slice_get}
use Rattle.kernel_abi.specs.declared.Kind.{Kind}
use Rattle.task_table.specs.model.State.{Setup, State}
use Rattle.task_table.specs.model.Sane.{Sane, IsCounted}
use Rattle.run_question.specs.Questions.{Question, question_data}
use Rattle.run_script.specs.Events.{script_data}
use Rattle.board_model.specs.Alike.{reduced}
use Rattle.board_model.specs.Laid.{with_script}
use Rattle.board_model.specs.Script.{Scenario}
use Rattle.board_model.proofs.SaneReduced.{sane-reduced}
use Rattle.board_core.specs.declared.board.Board.{Board}
use Rattle.board_core.specs.Data.{Shows}
use Rattle.board_core.specs.Stands.{Stands, script_of, turns_of}
use Rattle.snapshot.specs.Loaded.{sites}
use Rattle.snapshot.specs.Saved.{SpellsState, expected_of}
use Rattle.snapshot.specs.Waits.{state_fault}
use Rattle.snapshot.proofs.Few.{few_tasks}
use Rattle.snapshot.proofs.Returned.{kinds_in}
use Rattle.snapshot.proofs.Runs.{counted_reduced, turn_reduced}
use Rattle.snapshot.proofs.StandsForSome.{as_long}
use Rattle.explore_core.specs.declared.given.Given.{Given}
use Rattle.explore_core.specs.declared.position.Position.{Position}
use Rattle.explore_core.specs.declared.search.Search.{Search}
use Rattle.explore_core.specs.declared.seen.Seen.{Seen}
use Rattle.explore_core.specs.declared.watch.Watch.{Watch}
use Rattle.explore_core.specs.Answers.{Asking}
use Rattle.explore_core.specs.Fine.{IsFineArrival}
use Rattle.explore_core.specs.Schedules.{Arrival}
use Rattle.explore_core.specs.Searching.{AreSeen, Ends, HasBegun, HasEnded, HasRoomFor, IsAsked, IsAt, IsLayable, IsNext, behind, next_way, party_in, to_do, without_next}
use Rattle.explore_core.specs.Walked.{Course}
use Rattle.explore_core.specs.Watching.{watched_of}
use Rattle.explore_core.specs.Ways.{coming_of}
use Rattle.explore_core.proofs.Forked.{got_within}
use Rattle.explore_core.proofs.Left.{party_less}
use Rattle.explore_core.proofs.Ranges.{layable_at}

-- what was saved fits the board wherever it has gone
pub fits : {X : Type 0} {H : X → Type 0} (shown : Shows X H) →
    ((g : Setup) (s : State) (bytes : List ℕ) → Sane g s → IsCounted s → s.turn ≤ 1000000000 → length g.tasks ≤ 1024 → SpellsState g s bytes → state_fault (expected_of g s.devices) bytes ≡ None) →
    (x : Scenario) (b : Board X H) (s v : State) (bytes : List ℕ) → Stands shown x b s → s.turn ≤ 1000000000 → SpellsState x.setup (reduced s) bytes → sites v.devices ≡ sites s.devices → state_fault (expected_of x.setup v.devices) bytes ≡ None
fits shown accepted x b s v bytes st few spelled same =
    let u = reduced s in
    let tasks = few_tasks shown x b s st in
    let none = accepted x.setup u bytes (sane-reduced x.setup s st.sane) (counted_reduced s st.counted) (omega (arith, turn_reduced s, few)) (omega (arith, tasks)) spelled in
    let kinds = ap (λ (ps : List (Kind × ℕ)). map (λ (p : Kind × ℕ). p.0) ps) (ap sites (as_long s).devices ∙ sym same) in
    subst (λ (ks : List Kind). state_fault record (expected_of x.setup u.devices) { kinds = ks } bytes ≡ None) (kinds_in u.devices ∙ kinds ∙ sym (kinds_in v.devices)) none

-- rooms
abbrev lengths : List (Vec ℕ Global) → List ℕ
lengths rooms = map (λ r. length r.items) rooms

pub all_long : (n : ℕ) (xs ys : List (Vec ℕ Global)) → lengths xs ≡ lengths ys → All (λ (r : Vec ℕ Global). length r.items ≡ n) ys → All (λ (r : Vec ℕ Global). length r.items ≡ n) xs
all_long n [] ys same all = All-nil (λ (r : Vec ℕ Global). length r.items ≡ n)
all_long n (x ∷ xs) [] same all = absurd (let no_way : ⊥ = cc in no_way)
all_long n (x ∷ xs) (y ∷ ys) same all =
    let here : length x.items ≡ length y.items = ap (λ (l : List ℕ). get_or l 0 0) same in
    let rest : lengths xs ≡ lengths ys = ap (λ (l : List ℕ). behind_first l) same in
    All-cons (λ (r : Vec ℕ Global). length r.items ≡ n) x xs (here ∙ All-head (λ (r : Vec ℕ Global). length r.items ≡ n) y ys all) (all_long n xs ys rest (All-tail (λ (r : Vec ℕ Global). length r.items ≡ n) y ys all))
  where
    behind_first : List ℕ → List ℕ
    behind_first [] = []
    behind_first (k ∷ l) = l

pub as_many : (xs ys : List (Vec ℕ Global)) → lengths xs ≡ lengths ys → length xs ≡ length ys
as_many [] [] same = refl
as_many [] (y ∷ ys) same = absurd (let no_way : ⊥ = cc in no_way)
as_many (x ∷ xs) [] same = absurd (let no_way : ⊥ = cc in no_way)
as_many (x ∷ xs) (y ∷ ys) same = ap (λ (n : ℕ). suc n) (as_many xs ys (ap behind_first same))
  where
    behind_first : List ℕ → List ℕ
    behind_first [] = []
    behind_first (k ∷ l) = l

-- the next arrival
module _ (a : Asking) (given : Given) (asked : IsAsked a given) (turn : ℕ) (at : Position) (next : IsNext (question_data given.question).arrivals turn at) where
  asks : (question_data given.question).arrivals ≡ a.question.arrivals
  asks = ap (λ (q : Question). q.arrivals) asked.is.question

  there : slice_get a.question.arrivals at.next ≡ Some next.arrival
  there = ap (λ (l : List Arrival). slice_get l at.next) (sym asks) ∙ next.there

  pub one_less : length (party_in a.question.arrivals (without_next at).pending) + 1 ≡ length (party_in a.question.arrivals at.pending)
  one_less = party_less a.question.arrivals at.pending at.next next.arrival there next.pending

  pub few_choices : at.choice < 1000000000000000000
  few_choices =
      let inside = got_within a.question.arrivals at.next next.arrival there in
      let fine = subst IsFineArrival (get_or_from_slice_get a.question.arrivals at.next next.arrival next.arrival there) (asked.fine.each at.next next.arrival inside) in
      let few = fine.few in
      let lt = next.choice in
      omega (arith, few, lt)

  pub falls_behind : (turns : ℕ) → to_do turns (behind at) < to_do turns at
  falls_behind turns = let few = few_choices in omega (arith, few)

-- where the next arrival has come, the search is under way deeper
module _ {X : Type 0} {H : X → Type 0} (shown : Shows X H) (given : Given) (at : Position) (w0 w1 : Search X H) (next : IsNext (question_data given.question).arrivals (turns_of w0.board) at) (begun : HasBegun shown given at w0 w1)
    (a : Asking) (came : Course) (s : State) (asked : IsAsked a given) (stands : IsAt shown a at came s w0) (seen : AreSeen a s.turn (watched_of w0.watch) w0.seen) where
  abbrev pub deeper_came : Course
  deeper_came = came ++ (at.next, coming_of next.arrival (next_way s.turn at)) ∷ []

  pub deeper_at : IsAt shown a (without_next at) deeper_came s w1
  deeper_at = begun.begun a came s asked stands next.arrival (there a given asked (turns_of w0.board) at next)

  pub deeper_seen : AreSeen a s.turn (watched_of w1.watch) w1.seen
  deeper_seen =
      let watch = ap (λ (w : Search X H). w.watch) begun.same in
      let table = ap (λ (w : Search X H). w.seen) begun.same in
      subst (λ (t : Seen). AreSeen a s.turn (watched_of w1.watch) t) (sym table) (subst (λ (v : Watch). AreSeen a s.turn (watched_of v) w0.seen) (sym watch) seen)

  module _ (w2 : Search X H) (deeper : Ends shown given (without_next at) w1 w2) where
    pub deeper_ended : HasEnded shown a (without_next at) deeper_came s w1 w2
    deeper_ended = deeper.ended a deeper_came s asked deeper_at deeper_seen

    pub layable_back : IsLayable given (record w2 { ways = w0.ways })
    layable_back =
        let room = deeper_ended.room in
        layable_at given a w2 w0.ways asked stands.range (subst (λ (n : ℕ). HasRoomFor n w2) (begun.events a asked came s stands) room)

    pub fits_back : ((g : Setup) (s : State) (bytes : List ℕ) → Sane g s → IsCounted s → s.turn ≤ 1000000000 → length g.tasks ≤ 1024 → SpellsState g s bytes → state_fault (expected_of g s.devices) bytes ≡ None) → (bytes : List ℕ) →
        ((x : Scenario) (s : State) → Stands shown x w0.board s → SpellsState x.setup (reduced s) bytes) → state_fault (expected_of a.scenario.setup deeper_ended.state.devices) bytes ≡ None
    fits_back accepted bytes saved =
        let x = with_script a.scenario (script_data (script_of w0.board)) in
        let few = stands.few in
        let limit = asked.limit in
        fits shown accepted x w0.board s deeper_ended.state bytes stands.way.stands (omega (arith, few, limit)) (saved x s stands.way.stands) (deeper_ended.sites ∙ sym stands.way.sites)
