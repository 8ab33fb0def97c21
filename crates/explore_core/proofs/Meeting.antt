-- A state that was seen, and one that is kept.
use Rattle.std.proofs.Common.{◌≡◌, ◌∙◌, ℕ, zero, suc, ◌+◌, ◌<◌, ◌≤◌, ◌⊎◌, inl, inr, Bool, List, [], ◌∷◌, length, get_or, Option, Some, None, Global, refl, sym, ap, subst, arith}
use Rattle.std.specs.Prelude.{Contains, Vec, cond, find, is_some, option_map, slice_index, slice_set}
use Rattle.std.specs.List.{AllZip}
use Rattle.std.specs.Option.{option_or}
use Rattle.std.proofs.lemmas.List.Elements.{Contains-append_cases}
use Rattle.std.proofs.lemmas.Option.{none-some}
use Rattle.run_script.specs.Events.{script_data}
use Rattle.task_table.specs.model.State.{State}
use Rattle.board_model.specs.Alike.{reduced}
use Rattle.board_model.specs.Laid.{with_script}
use Rattle.board_core.specs.Data.{Shows}
use Rattle.board_core.specs.Stands.{Stands, script_of, turns_of}
use Rattle.snapshot.specs.Loaded.{IsSpelledBy}
use Rattle.snapshot.specs.Saved.{SpellsState, spelling}
use Rattle.snapshot.proofs.SpelledAlike.{stands_spelled}
use Rattle.run_question.specs.declared.asked.Property.{Property}
use Rattle.explore_core.specs.declared.position.Position.{Position}
use Rattle.explore_core.specs.declared.search.Search.{Search}
use Rattle.explore_core.specs.declared.seen.Seen.{Seen}
use Rattle.explore_core.specs.declared.seen.Slot.{Slot}
use Rattle.explore_core.specs.declared.verdict.Verdict.TheVariants.{Open, Broken}
use Rattle.explore_core.specs.Answers.{Asking}
use Rattle.explore_core.specs.Clean.{AreClean, breaks_on, courses_from}
use Rattle.explore_core.specs.Exploring.{Fork, IsFork, IsOverBefore, decided, first_onward}
use Rattle.explore_core.specs.Schedules.{Schedule}
use Rattle.explore_core.specs.Searching.{AreOverAt, AreSeen, IsAt, IsCleanIn, IsOwed, first_left, first_with, left_at, left_in, party_in, schedules_on}
use Rattle.explore_core.specs.Seen.{HasSame, IsSameAs}
use Rattle.explore_core.specs.Walked.{Course}
use Rattle.explore_core.specs.Watching.{Judged, live, live_from, number_at, watched_of}
use Rattle.explore_core.proofs.Exploring.{clean_after, met}
use Rattle.explore_core.proofs.Generations.{clean_spelled}
use Rattle.explore_core.proofs.Left.{left_is_on, none_passed}
use Rattle.explore_core.proofs.Overs.{over_before}
use Rattle.explore_core.proofs.Watched.{all_there_still, as_many_tasks}

-- ## the first that breaks a property

pub none_with : (d : Schedule → Option ℕ) (xs : List Schedule) → find (λ x. is_some (d x)) xs ≡ None → first_with d xs ≡ None
unfolding first_with
none_with d [] e = refl
none_with d (x ∷ xs) e = go (d x) e (none_with d xs)
  where
    go : (o : Option ℕ) → cond (is_some o) (Some x) (find (λ y. is_some (d y)) xs) ≡ None → (find (λ y. is_some (d y)) xs ≡ None → first_with d xs ≡ None) → option_or (option_map (λ turn. (x, turn)) o) (first_with d xs) ≡ None
    go None e more = more e
    go (Some turn) e more = absurd (none-some x (sym e))

pub none_found : (d : Schedule → Option ℕ) (xs : List Schedule) → first_with d xs ≡ None → find (λ x. is_some (d x)) xs ≡ None
unfolding first_with
none_found d [] e = refl
none_found d (x ∷ xs) e = go (d x) e (none_found d xs)
  where
    go : (o : Option ℕ) → option_or (option_map (λ turn. (x, turn)) o) (first_with d xs) ≡ None → (first_with d xs ≡ None → find (λ y. is_some (d y)) xs ≡ None) → cond (is_some o) (Some x) (find (λ y. is_some (d y)) xs) ≡ None
    go None e more = more e
    go (Some turn) e more = absurd (none-some (x, turn) (sym e))

-- ## what is looked for at a place

one_of : {X : Type 0} (x y : X) → Contains (x ∷ []) y → x ≡ y
one_of x y h = at h.0 h.1 h.2
  where
    at : (k : ℕ) → k < 1 → get_or (x ∷ []) k y ≡ y → x ≡ y
    at zero lt e = e
    at (suc k) lt e = absurd (omega (arith, lt))

none_of : {X : Type 0} (y : X) → Contains [] y → ⊥
none_of y h = let lt = h.1 in omega (arith, lt)

pub record IsLive (ws : List Judged) (from : ℕ) (p : ℕ × Property) : Type 0 where
  pub place : ℕ
  pub at : p.0 ≡ from + place
  pub is : (v : Judged) → get_or ws place v ≡ (p.1, Open (number_at ws place))

live_on : (ws : List Judged) (from : ℕ) (p : ℕ × Property) → Contains (live_from from ws) p → IsLive ws from p
live_on [] from p h = absurd (none_of p h)
live_on ((q, Broken turn) ∷ ws) from p h =
    let more = live_on ws (from + 1) p h in
    record { place = suc more.place; at = omega (arith, more.at); is = more.is }
live_on ((q, Open kept) ∷ ws) from p h = go (Contains-append_cases ((from, q) ∷ []) (live_from (from + 1) ws) p h) (live_on ws (from + 1) p)
  where
    go : Contains ((from, q) ∷ []) p ⊎ Contains (live_from (from + 1) ws) p → (Contains (live_from (from + 1) ws) p → IsLive ws (from + 1) p) → IsLive ((q, Open kept) ∷ ws) from p
    go (inl h) later =
        let is = one_of (from, q) p h in
        record { place = 0; at = omega (arith, ap (λ (x : ℕ × Property). x.0) is); is = λ v. ap (λ (x : ℕ × Property). (x.1, Open kept)) is }
    go (inr h) later =
        let more = later h in
        record { place = suc more.place; at = omega (arith, more.at); is = more.is }

pub live_there : (ws : List Judged) (p : ℕ × Property) (v : Judged) → Contains (live ws) p → get_or ws p.0 v ≡ (p.1, Open (number_at ws p.0))
live_there ws p v h =
    let is = live_on ws 0 p h in
    let at : is.place ≡ p.0 = omega (arith, is.at) in
    subst (λ (k : ℕ). get_or ws k v ≡ (p.1, Open (number_at ws k))) at (is.is v)

-- with the numbers that are kept
pub numbered_there : (ws : List Judged) (numbers : List ℕ) (p : ℕ × Property) (v : Judged) → ((place : ℕ) → slice_index numbers place ≡ number_at ws place) → Contains (live ws) p → get_or ws p.0 v ≡ (p.1, Open (slice_index numbers p.0))
numbered_there ws numbers p v are h = live_there ws p v h ∙ ap (λ (n : ℕ). (p.1, Open n)) (sym (are p.0))

-- ## what is left at the start of a turn

abbrev first_fork : Asking → Position → Course → Fork
first_fork a at came = record { came = came; passed = []; rest = party_in a.question.arrivals at.pending }

left_first : (a : Asking) (at : Position) (came : Course) (turn : ℕ) → at.next ≡ 0 → at.choice ≡ 0 → left_at a at came turn ≡ schedules_on a turn (first_fork a at came)
left_first a at came turn next choice =
    let is = none_passed a at came next in
    (λ i. left_in a turn came (is i).passed (is i).rest (choice i)) ∙ left_is_on a turn came [] (party_in a.question.arrivals at.pending)

module _ (a : Asking) (at : Position) (came : Course) (s : State) (w : Judged) (next : at.next ≡ 0) (choice : at.choice ≡ 0) where
  pub none_left : first_onward a (first_fork a at came) w s ≡ None → first_left a at came s w ≡ None
  none_left none = ap (first_with (decided a w s)) (left_first a at came s.turn next choice) ∙ none_with (decided a w s) (schedules_on a s.turn (first_fork a at came)) none

  pub none_onward : first_left a at came s w ≡ None → first_onward a (first_fork a at came) w s ≡ None
  none_onward none = none_found (decided a w s) (schedules_on a s.turn (first_fork a at came)) (sym (ap (first_with (decided a w s)) (left_first a at came s.turn next choice)) ∙ none)

-- ## where a search stands

module _ {X : Type 0} {H : X → Type 0} (shown : Shows X H) (a : Asking) (at : Position) (came : Course) (s : State) (w : Search X H) (here : IsAt shown a at came s w)
    (next : at.next ≡ 0) (choice : at.choice ≡ 0) (over : AreOverAt a.question.arrivals at.pending (turns_of w.board) w.ways) (numbers bytes : List ℕ)
    (numbers_are : (place : ℕ) → slice_index numbers place ≡ number_at (watched_of w.watch) place)
    (spelled : SpellsState a.scenario.setup (reduced s) bytes) where
  turn_is : turns_of w.board ≡ s.turn
  turn_is = here.way.stands.holds.turns

  fork_first : IsFork a (first_fork a at came)
  fork_first = subst (IsFork a) (none_passed a at came next) here.way.fork

  over_at : (turn : ℕ) → turns_of w.board ≡ turn → IsOverBefore turn came
  over_at turn e = subst (λ (t : ℕ). IsOverBefore t came) e (over_before a at came (turns_of w.board) w.ways over here.come here.way.fork.apart)

  -- a slot that has it is clean, where each is clean or of an earlier turn
  clean_of : (slot : Slot) (earlier of_turn : ℕ) → of_turn ≡ turns_of w.board → earlier < s.turn → IsSameAs of_turn at.pending numbers bytes slot → IsCleanIn a (watched_of w.watch) slot ⊎ (slot.turn ≤ earlier) →
      AreClean a (live (watched_of w.watch)) (party_in a.question.arrivals at.pending) numbers bytes
  clean_of slot earlier of_turn e lt same (inl clean) =
      let all = clean same.used in
      let pending = same.pending in
      let kept = same.kept in
      let state = same.state in
      subst (λ (l : List ℕ). AreClean a (live (watched_of w.watch)) (party_in a.question.arrivals at.pending) numbers l) state
      (subst (λ (l : List ℕ). AreClean a (live (watched_of w.watch)) (party_in a.question.arrivals at.pending) l slot.state.items) kept
      (subst (λ (l : List Bool). AreClean a (live (watched_of w.watch)) (party_in a.question.arrivals l) slot.kept slot.state.items) pending all))
  clean_of slot earlier of_turn e lt same (inr late) = absurd (omega (arith, late, lt, e, same.turn, turn_is))

  pub seen_none : (earlier of_turn : ℕ) → of_turn ≡ turns_of w.board → earlier < s.turn → HasSame of_turn at.pending numbers bytes w.seen → AreSeen a earlier (watched_of w.watch) w.seen →
      (p : ℕ × Property) → Contains (live (watched_of w.watch)) p → (v : Judged) → first_left a at came s (get_or (watched_of w.watch) p.0 v) ≡ None
  seen_none earlier of_turn e lt found seen p looked v =
      let slot = found.slot in
      let there = subst (λ (x : Slot). IsCleanIn a (watched_of w.watch) x ⊎ (x.turn ≤ earlier)) (found.at slot) (seen found.place slot found.inside) in
      let all = clean_of slot earlier of_turn e lt found.same there in
      let stands = here.way.stands in
      let clean = clean_spelled a (live (watched_of w.watch)) (party_in a.question.arrivals at.pending) numbers bytes s stands.sane stands.counted here.way.sites spelled all in
      let none = met a came (party_in a.question.arrivals at.pending) s (live (watched_of w.watch)) numbers p.0 p.1 stands.sane fork_first (over_at s.turn turn_is) clean looked in
      none_left a at came s (get_or (watched_of w.watch) p.0 v) next choice
      (subst (λ (x : Judged). first_onward a (first_fork a at came) x s ≡ None) (sym (numbered_there (watched_of w.watch) numbers p v numbers_are looked)) none)

  -- the board stands for each state that the bytes spell
  module _ (u : State) (by : IsSpelledBy a.scenario bytes u) where
    stands_too : Stands shown (with_script a.scenario (script_data (script_of w.board))) w.board u
    stands_too = stands_spelled shown (with_script a.scenario (script_data (script_of w.board))) w.board s u bytes here.way.stands spelled by.spelled by.sane by.counted (by.sites ∙ sym here.way.sites)

    turn_too : turns_of w.board ≡ u.turn
    turn_too = stands_too.holds.turns

    pub at_too : IsAt shown a at came u w
    at_too = record {
      way = record { fork = here.way.fork; stands = stands_too; sites = by.sites; script = here.way.script };
      ways = here.ways;
      range = here.range;
      come = here.come;
      room = here.room;
      few = let few = here.few in omega (arith, few, turn_is, turn_too);
      long = ap (λ (v : State). length (spelling v)) by.spelled.small ∙ ap (λ (l : List ℕ). length l) (sym by.spelled.is ∙ spelled.is) ∙ here.long;
      there = all_there_still s u (watched_of w.watch) (as_many_tasks a.scenario s u here.way.stands.sane by.sane) here.there;
      written = here.written;
      unfound = here.unfound;
    }

    pub clean_too : (p : ℕ × Property) → Contains (live (watched_of w.watch)) p → (v : Judged) → first_left a at came u (get_or (watched_of w.watch) p.0 v) ≡ None →
        (course : Course) → Contains (courses_from a u.turn (party_in a.question.arrivals at.pending)) course → breaks_on a p.1 course (slice_index numbers p.0) u ≡ None
    clean_too p looked v none course among =
        let first = none_onward a at came u (get_or (watched_of w.watch) p.0 v) next choice none in
        let now = subst (λ (x : Judged). first_onward a (first_fork a at came) x u ≡ None) (numbered_there (watched_of w.watch) numbers p v numbers_are looked) first in
        let alone = clean_after a came (party_in a.question.arrivals at.pending) u (p ∷ []) numbers by.sane fork_first (over_at u.turn turn_too)
        (λ place q one. subst (λ (x : ℕ × Property). first_onward a (first_fork a at came) (x.1, Open (slice_index numbers x.0)) u ≡ None) (one_of p (place, q) one) now) in
        alone course among p (0, omega (arith), refl)

  -- a slot that has it is owed
  pub slot_owed : (slot : Slot) (of_turn : ℕ) → of_turn ≡ turns_of w.board → IsSameAs of_turn at.pending numbers bytes slot → IsOwed shown a at came w slot
  slot_owed slot of_turn e same = record {
    turn = omega (arith, e, same.turn);
    clean = λ u by.
        let mine = subst (λ (l : List ℕ). IsSpelledBy a.scenario l u) same.state by in (
          u,
          at_too u mine,
          λ p looked v none course among.
              let all = clean_too u mine p looked v none course (subst (λ (l : List Bool). Contains (courses_from a u.turn (party_in a.question.arrivals l)) course) same.pending among) in
              subst (λ (l : List ℕ). breaks_on a p.1 course (slice_index l p.0) u ≡ None) (sym same.kept) all,
        );
  }

-- ## the table

pub as_it_was : {X : Type 0} (P : X → Type 0) (xs : List X) → AllZip (λ x y. (y ≡ x) ⊎ P y) xs xs
as_it_was P [] = tt
as_it_was P (x ∷ xs) = (inl refl, as_it_was P xs)

pub with_one : {X : Type 0} (P : X → Type 0) (xs : List X) (place : ℕ) (x : X) → P x → AllZip (λ y z. (z ≡ y) ⊎ P z) xs (slice_set xs place x)
with_one P [] place x h = tt
with_one P (y ∷ xs) zero x h = (inr h, as_it_was P xs)
with_one P (y ∷ xs) (suc place) x h = (inl refl, with_one P xs place x h)

-- where a search stands does not depend on the table, nor on the room
pub at_same : {X : Type 0} {H : X → Type 0} (shown : Shows X H) (a : Asking) (at : Position) (came : Course) (s : State) (w : Search X H) (seen : Seen) (room : Vec ℕ Global) → IsAt shown a at came s w →
    IsAt shown a at came s (record w { seen = seen; here = room })
at_same shown a at came s w seen room h = record { way = h.way; ways = h.ways; range = h.range; come = h.come; room = record { spare = h.room.spare; listed = h.room.listed }; few = h.few; long = h.long; there = h.there; written = h.written; unfound = h.unfound }
