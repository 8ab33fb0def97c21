-- An arrival that does not come in this turn is passed over: the same is left.
use Rattle.std.proofs.Common.{◌≡◌, ◌∙◌, ℕ, zero, suc, ◌-◌, ◌<◌, ◌≤◌, ◌⊎◌, inl, Bool, true, false, get_or, List, [], ◌∷◌, length, map, Option, None, refl, sym, ap, subst, arith}
use Rattle.std.specs.Prelude.{◌||◌}
use Rattle.std.specs.List.{All, list_any}
use Rattle.task_table.specs.model.State.{State}
use Rattle.board_model.specs.SameScripts.{AreEquivalent}
use Rattle.board_core.specs.Data.{Shows}
use Rattle.board_core.specs.Stands.{script_of, turns_of}
use Rattle.run_script.specs.Events.{script_data}
use Rattle.run_question.specs.Questions.{Question, question_data}
use Rattle.explore_core.specs.declared.given.Given.{Given}
use Rattle.explore_core.specs.declared.position.Position.{Position}
use Rattle.explore_core.specs.declared.search.Search.{Search}
use Rattle.explore_core.specs.declared.seen.Slot.{Slot}
use Rattle.explore_core.specs.Answers.{Asking}
use Rattle.explore_core.specs.Exploring.{Ascends, IsFork, at_place, decided, pending, way_by, ways_in}
use Rattle.explore_core.specs.Schedules.{Coming, Schedule, scheduled}
use Rattle.explore_core.specs.Searching.{Ends, GoesOn, IsAt, IsCleanIn, IsOwed, IsSomewhere, IsUnderWay, LeadAll, Leads, first_left, first_with, fork_at, found_at, left_at, party_in, to_do}
use Rattle.explore_core.specs.Walked.{Course, Placed, end_of, placed}
use Rattle.explore_core.specs.Watching.{Judged, are_open, is_open, watched_of}
use Rattle.explore_core.proofs.Left.{pending_at}
use Rattle.explore_core.proofs.Steps.{lead_itself, seen_there, zip_itself}

module _ (a : Asking) (at later : Position) (came : Course) (same : later.pending ≡ at.pending) where
  same_pending : pending (fork_at a at came) ≡ pending (fork_at a later came)
  same_pending = pending_at a at came ∙ ap (λ (l : List Bool). party_in a.question.arrivals l) (sym same) ∙ sym (pending_at a later came)

  fork_moved : IsFork a (fork_at a at came) → IsFork a (fork_at a later came)
  fork_moved h = record {
    order = subst (λ (l : List Placed). Ascends 0 l) same_pending h.order;
    apart = subst (λ (l : List Placed). All (λ (c : ℕ × Coming). at_place c.0 l ≡ None) came) same_pending h.apart;
    offered = subst (λ (l : List Placed). All (λ (p : Placed). 0 < length p.1.offers) l) same_pending h.offered;
    below = subst (λ (l : List Placed). All (λ (p : Placed). p.1.below ≤ end_of a.question.arrivals) l) same_pending h.below;
  }

  ways_moved : ways_in a (fork_at a at came) ≡ ways_in a (fork_at a later came)
  ways_moved = ap (λ (l : List Placed). map (way_by came l) (placed a.question.arrivals 0)) same_pending

  module _ {X : Type 0} {H : X → Type 0} (shown : Shows X H) where
    pub at_moved : (s : State) (w : Search X H) → IsAt shown a at came s w → IsAt shown a later came s w
    at_moved s w h = record {
      way = record {
        fork = fork_moved h.way.fork;
        stands = h.way.stands;
        sites = h.way.sites;
        script = subst (λ (l : List (Option Coming)). AreEquivalent (script_data (script_of w.board)) (scheduled a.scenario l).script) ways_moved h.way.script;
      };
      ways = h.ways ∙ ways_moved;
      range = h.range;
      come = h.come;
      room = h.room;
      few = h.few;
      long = h.long;
      there = h.there;
      written = h.written;
      unfound = h.unfound;
    }

-- the same is left at another place of the turn
pub passed_to : {X : Type 0} {H : X → Type 0} (shown : Shows X H) (given : Given) (at later : Position) (w : Search X H) → later.pending ≡ at.pending →
    ((a : Asking) → a.question.arrivals ≡ (question_data given.question).arrivals → (came : Course) → left_at a later came (turns_of w.board) ≡ left_at a at came (turns_of w.board)) → GoesOn shown given at later w w
passed_to {X} {H} shown given at later w same left = record {
  led = λ a came s asked h seen.
      let here : turns_of w.board ≡ s.turn = h.way.stands.holds.turns in
      let arrivals = ap (λ (q : Question). q.arrivals) (sym asked.is.question) in
      let is : left_at a at came s.turn ≡ left_at a later came s.turn = subst (λ (n : ℕ). left_at a at came n ≡ left_at a later came n) here (sym (left a arrivals came)) in
      let itself = lead_itself a (watched_of w.watch) w.found (first_left a at came s) in
      record {
        state = s;
        stands = at_moved a at later came same shown s w h;
        events = refl;
        leads = subst (λ (l : List Schedule). LeadAll a (watched_of w.watch) (watched_of w.watch) w.found w.found (first_left a at came s) (λ v. first_with (decided a v s) l)) is itself;
      };
  owed = λ a came s asked h seen. zip_itself (λ (before now : Slot). (now ≡ before) ⊎ (IsCleanIn a (watched_of w.watch) now ⊎ IsOwed shown a later came w now)) (λ slot. inl refl) w.seen.slots.items;
}

-- where a search goes on from under way, it is under way
pub under_way_on : {X : Type 0} {H : X → Type 0} (shown : Shows X H) (given : Given) (at later : Position) (old new : Search X H) → turns_of old.board ≤ turns_of new.board → GoesOn shown given at later old new → IsUnderWay shown given at old → IsUnderWay shown given later new
under_way_on shown given at later old new le goes h =
    let led = goes.led h.0 h.1 h.2 h.3 h.4 h.5 in
    (h.0, h.1, led.state, h.3, led.stands, seen_there shown given at later old new le goes h.0 h.1 h.2 h.3 h.4 h.5)

-- where no property is looked for, the search is at its end
not_any : {A : Type 0} (q : A → Bool) (xs : List A) → list_any q xs ≡ false → (k : ℕ) (d : A) → k < length xs → q (get_or xs k d) ≡ false
not_any q [] none k d lt = absurd (omega (arith, lt))
not_any {A} q (x ∷ xs) none k d lt = go (q x) refl none k lt (not_any q xs)
  where
    go : (b : Bool) → q x ≡ b → (b || list_any q xs) ≡ false → (k : ℕ) → k < length (x ∷ xs) → (list_any q xs ≡ false → (j : ℕ) (e : A) → j < length xs → q (get_or xs j e) ≡ false) → q (get_or (x ∷ xs) k d) ≡ false
    go true e none k lt rest = absurd (let no_way : ⊥ = cc in no_way)
    go false e none zero lt rest = e
    go false e none (suc k) lt rest = rest none k d (omega (arith, lt))

closed : (w : Judged) (before : Option Schedule) (first : Option (Schedule × ℕ)) → is_open w.1 ≡ false → Leads w w before before first None
closed w before first shut = record {
  property = refl;
  broken = λ turn is. (is, refl);
  looked = λ is. absurd (let same = sym is ∙ shut in let no_way : ⊥ = cc in no_way);
}

pub none_open : {X : Type 0} {H : X → Type 0} (shown : Shows X H) (given : Given) (at : Position) (w : Search X H) → are_open (watched_of w.watch) ≡ false → Ends shown given at w w
none_open shown given at w none = record {
  ended = λ a came s asked h seen. record {
    leads = record {
      long = refl;
      each = λ place v lt. closed (get_or (watched_of w.watch) place v) (found_at a w.found place) (first_left a at came s (get_or (watched_of w.watch) place v)) (not_any (λ (u : Judged). is_open u.1) (watched_of w.watch) none place v lt);
    };
    written = h.written;
    room = h.room;
    state = s;
    stands = h.way.stands;
    sites = h.way.sites;
  };
  kept = λ a came s asked h seen. zip_itself (λ (before now : Slot). (now ≡ before) ⊎ IsCleanIn a (watched_of w.watch) now) (λ slot. inl refl) w.seen.slots.items;
}

pub somewhere : {X : Type 0} {H : X → Type 0} (shown : Shows X H) (given : Given) (at : Position) (w : Search X H) → IsUnderWay shown given at w → IsSomewhere shown given at w
somewhere shown given at w h = (h.0, h.1, h.2, h.3, h.4)

-- in later turns there is less to do, wherever in them
pub falls_by : (limit before now : ℕ) (at later : Position) → before < now → now ≤ limit → to_do (limit - now) later ≤ to_do (limit - before) at
falls_by limit before now at later lt le = omega (arith, lt, le)
