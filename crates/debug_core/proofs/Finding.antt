-- What is found in turns of the run, and the searches for it.
use Rattle.std.proofs.Common.{◌≡◌, ◌∙◌, ℕ, ◌+◌, ◌-◌, ◌≤◌, ◌<◌, inl, inr, true, false, is_some, List, [], Option, Some, None, sym, ap, subst, arith}
use Rattle.std.proofs.lemmas.Bool.{cases_lt}
use Rattle.std.specs.Prelude.{find}
use Rattle.std.specs.Option.{option_map}
use Rattle.kernel_abi.specs.declared.Note.{Note}
use Rattle.mem_banks.specs.Memory.{Memory, byte_at, is_held}
use Rattle.task_table.specs.model.State.{State, Turn}
use Rattle.board_model.specs.declared.outcomes.End.{End}
use Rattle.board_model.specs.declared.outcomes.Level.TheVariants.{All, Calls}
use Rattle.board_model.specs.Run.{ending, state_after, turn_after}
use Rattle.board_model.specs.Script.{Scenario}
use Rattle.board_model.specs.Turn.{turn, turned}
use Rattle.board_model.proofs.Further.{last_turn}
use Rattle.board_model.proofs.Views.{less_noted-turn}
use Rattle.board_core.specs.declared.board.Board.{Board}
use Rattle.board_core.specs.fast.Advanced.{IsAdvanced}
use Rattle.board_core.specs.Changes.{change_in, runner_of}
use Rattle.board_core.specs.declared.changes.Change.{Change}
use Rattle.board_core.proofs.Changing.{change_told, no_change_in}
use Rattle.board_core.specs.Data.{Shows}
use Rattle.board_core.specs.Stands.{Stands, notes_of, turns_of}
use Rattle.trace_text.specs.declared.kinds.NoteKind.{NoteKind}
use Rattle.trace_text.specs.Kinds.{is_sought}
use Rattle.debug_core.specs.declared.answer.Answer.{Answer}
use Rattle.debug_core.specs.declared.answer.Answer.TheVariants.{Changed, Told}
use Rattle.debug_core.specs.declared.command.Sought.{Sought}
use Rattle.debug_core.specs.declared.command.Sought.TheVariants as sought
use Rattle.debug_core.specs.declared.replay.Replay.{Replay}
use Rattle.debug_core.specs.Runs.{most_turns, state_at}
use Rattle.debug_core.specs.Searched.{found, is_found, last_found, last_of}
use Rattle.debug_core.specs.Searches.{CameFor, IsLastFound, WentBackFor, WentFor}
use Rattle.debug_core.specs.Times.{IsAt}
use Rattle.debug_core.proofs.Ahead.{ending_same, next, reaches, same_memory, same_next, same_notes, sane_at, turned_same}
use Rattle.debug_core.proofs.Bytes.{missing, there}
use Rattle.debug_core.proofs.Lasts.{is_last, last_is, none_last, none_of, same_last}
use Rattle.debug_core.proofs.Passing.{Passed, Went, first_passed, none_passed, passed_more}
use Rattle.debug_core.proofs.Standing.{IsUntil, follows_after, turns_at, until_first, went}

pub is_there : (m : Memory) (at : ℕ) (o : Option ℕ) → o ≡ byte_at m at → is_some o ≡ is_held m at
is_there m at None is = sym (missing m at is)
is_there m at (Some byte) is = sym (there m at byte is)

-- the last of some turns in which it is found lies among them
pub found_before : (x : Scenario) (what : Sought) (from to n : ℕ) (answer : Answer) → from ≤ to → IsLastFound x what from to (Some (n, answer)) → n < to
found_before x what from to n answer less is = let l = last_is (is_found x what) from (to - from) n is.0 in omega (arith, l.before)

module _ {X : Type 0} {H : X → Type 0} (shown : Shows X H) (x : Scenario) where
  -- ---- one turn

  pub one_turn : (t : Replay X H) (turn : ℕ) (b : Board X H) → (h : IsAt shown x t turn) → ending x 1 h.state.0 ≡ None → Stands shown x b (next x h.state.0) → turn < most_turns → IsAt shown x record t { board = b } (turn + 1)
  unfolding turn_after
  one_turn t turn b h first st few =
      let same : turn + 0 + 1 ≡ turn + 1 = omega arith in
      subst (λ n. IsAt shown x record t { board = b } n) same (went shown x t turn 0 b h first (λ k lt. absurd (omega (arith, lt))) st (omega arith))

  -- one of which each instruction is noted too
  pub whole_turn : (t : Replay X H) (n : ℕ) (b : Board X H) → (h : IsAt shown x t n) → ending x 1 h.state.0 ≡ None → Stands shown x b (turn All x h.state.0).state → n < most_turns → IsAt shown x record t { board = b } (n + 1)
  whole_turn t n b h first st few = one_turn t n b h first (subst (λ (s : State). Stands shown x b s) (sym (less_noted-turn x h.state.0).state) st) few

  pub whole_notes : (t : Replay X H) (n : ℕ) → (h : IsAt shown x t n) → (turn All x h.state.0).notes ≡ (turn All x (state_at x n)).notes
  whole_notes t n h = same_notes All x h.state.0 (state_at x n) h.state.1.sane (sane_at x h.start n) h.state.2

  -- ---- what is found in a turn

  -- by what is noted of the last of some turns, where those before noted nothing
  noted : (t t' : Replay X H) (from n : ℕ) (kind : NoteKind) (number : Option ℕ) (notes : List Note) (answer : Option Answer) → (h : IsAt shown x t from) → IsAt shown x t' (from + n + 1) → ending x 1 h.state.0 ≡ None →
      ((k : ℕ) → k < n → ending x 1 (turn_after Calls x k h.state.0).state ≡ None) → ((k : ℕ) → k < n → (turn_after Calls x k h.state.0).notes ≡ []) → notes ≡ (turn_after Calls x n h.state.0).notes →
      answer ≡ option_map (λ note. Told (from + n) note) (find (is_sought kind number) notes) → WentFor shown x (sought.Note kind number) from t' answer
  noted t t' from n kind number notes answer h at first on nothing last is =
      record {
        last = from + n;
        later = omega arith;
        at = at;
        none = λ k a b.
            let j : ℕ = k - from in
            let same : from + j ≡ k = omega (arith, a) in
            subst (λ m. found x (sought.Note kind number) m ≡ None) same
            (ap (λ (ns : List Note). option_map (λ note. Told (from + j) note) (find (is_sought kind number) ns)) (sym (noted_as j (omega (arith, a, b))) ∙ nothing j (omega (arith, a, b))));
        is = is ∙ ap (λ (ns : List Note). option_map (λ note. Told (from + n) note) (find (is_sought kind number) ns)) (last ∙ noted_as n (omega arith));
      }
    where
      noted_as : (k : ℕ) → k ≤ n → (turn_after Calls x k h.state.0).notes ≡ (turn Calls x (state_at x (from + k))).notes
      noted_as k le =
          let f = follows_after shown x t from n h first on k le in
          ap (λ (u : Turn). u.notes) (last_turn Calls x k h.state.0)
          ∙ same_notes Calls x (state_after Calls x k h.state.0) (state_at x (from + k)) f.sane (sane_at x h.start (from + k)) f.same

  -- of turns on end, none of which before the last noted anything
  module _ (t : Replay X H) (from n : ℕ) (b : Board X H) (h : IsAt shown x t from) (first : ending x 1 (state_at x from) ≡ None) (a : IsAdvanced shown Calls x n h.state.0 b) (few : from + n < most_turns) where
    on : ending x 1 h.state.0 ≡ None
    on = ending_same x 1 h.state.0 (state_at x from) h.state.2 ∙ first

    there_then : IsAt shown x record t { board = b } (from + n + 1)
    there_then = went shown x t from n b h on a.goes_on a.stands few

    pub noted_none : (kind : NoteKind) (number : Option ℕ) (notes : List Note) (answer : Option Answer) → notes ≡ notes_of b → None ≡ find (is_sought kind number) notes → answer ≡ None → WentFor shown x (sought.Note kind number) from record t { board = b } answer
    noted_none kind number notes answer same is none =
        noted t record t { board = b } from n kind number notes answer h there_then on a.goes_on a.nothing (same ∙ a.notes) (none ∙ ap (λ o. option_map (λ note. Told (from + n) note) o) is)

    pub noted_some : (kind : NoteKind) (number : Option ℕ) (notes : List Note) (k : ℕ) (note : Note) → notes ≡ notes_of b → Some note ≡ find (is_sought kind number) notes → k ≡ from + n → WentFor shown x (sought.Note kind number) from record t { board = b } (Some (Told k note))
    noted_some kind number notes k note same is turn =
        noted t record t { board = b } from n kind number notes (Some (Told k note)) h there_then on a.goes_on a.nothing (same ∙ a.notes) (ap (λ m. Some (Told m note)) turn ∙ ap (λ o. option_map (λ note. Told (from + n) note) o) is)

  -- of turns on end, none of which before the last changed the byte at an address
  module _ (t : Replay X H) (from n at : ℕ) (b : Board X H) (h : IsAt shown x t from) (first : ending x 1 (state_at x from) ≡ None) (a : IsAdvanced shown Calls x n h.state.0 b) (few : from + n < most_turns)
      (untouched : (k : ℕ) → k < n → byte_at (turn_after Calls x k h.state.0).state.memory at ≡ byte_at h.state.0.memory at) where
    change_as : (k : ℕ) → k ≤ n → change_in x at (state_after Calls x k h.state.0) ≡ change_in x at (state_at x (from + k))
    change_as k le =
        let f = follows_after shown x t from n h (ending_same x 1 h.state.0 (state_at x from) h.state.2 ∙ first) a.goes_on k le in
        let u = state_after Calls x k h.state.0 in
        let s = state_at x (from + k) in
        let old = same_memory u s f.same in
        let new = same_memory (next x u) (next x s) (same_next x u s f.sane (sane_at x h.start (from + k)) f.same) in
        change_told x at s (runner_of (turned x u)) (byte_at u.memory at) (byte_at (next x u).memory at) (ap runner_of (turned_same x u s f.same)) (ap (λ (m : Memory). byte_at m at) old) (ap (λ (m : Memory). byte_at m at) new)

    pub changed : (change : Option Change) (answer : Option Answer) → change ≡ change_in x at (state_after Calls x n h.state.0) → answer ≡ option_map (λ change. Changed (from + n) change.task at change.old change.new) change → WentFor shown x (sought.Change at) from record t { board = b } answer
    changed change answer told is =
        record {
          last = from + n;
          later = omega arith;
          at = there_then t from n b h first a few;
          none = λ turn low high.
              let k : ℕ = turn - from in
              let same : from + k ≡ turn = omega (arith, low) in
              subst (λ m. found x (sought.Change at) m ≡ None) same
              (ap (λ o. option_map (λ change. Changed (from + k) change.task at change.old change.new) o) (sym (change_as k (omega (arith, low, high))) ∙ sym (no_change_in x h.state.0 n at untouched k (omega (arith, low, high)))));
          is = is ∙ ap (λ o. option_map (λ change. Changed (from + n) change.task at change.old change.new) o) (told ∙ change_as n (omega arith));
        }

  module _ (what : Sought) where
    -- ---- on to the first turn in which it is found

    -- where it stands at the same turn
    pub kept_for : (t t' : Replay X H) (from : ℕ) (answer : Option Answer) → WentFor shown x what from t answer → ((turn : ℕ) → IsAt shown x t turn → IsAt shown x t' turn) → WentFor shown x what from t' answer
    kept_for t t' from answer w stays = record { last = w.last; later = w.later; at = stays (w.last + 1) w.at; none = w.none; is = w.is }

    abbrev went_as : (from : ℕ) (t : Replay X H) (answer : Option Answer) → WentFor shown x what from t answer → Went shown x (is_found x what) from t (is_some answer)
    went_as from t answer w = record { last = w.last; later = w.later; at = w.at; none = λ turn a b. ap is_some (w.none turn a b); is = ap is_some (sym w.is) }

    module _ (from to : ℕ) where
      abbrev pub Unfound : Replay X H → Type 0
      Unfound t = Passed shown x (is_found x what) from to t

      pub unfound_more : (t t' : Replay X H) (answer : Option Answer) → Unfound t → WentFor shown x what (turns_of t.board) t' answer → is_some answer ≡ false → turns_of t'.board ≤ to → Unfound t'
      unfound_more t t' answer h w none within = passed_more shown x (is_found x what) from to t t' h (subst (λ b. Went shown x (is_found x what) (turns_of t.board) t' b) none (went_as (turns_of t.board) t' answer w)) within

      pub none_found : (t : Replay X H) (o : Option End) → Unfound t → is_some o ≡ true → o ≡ ending x (to - turns_of t.board) (state_at x (turns_of t.board)) → CameFor shown x what from to t None
      none_found t o h some is = none_passed shown x (is_found x what) from to t o h some is

      pub one_found : (t t' : Replay X H) (answer : Option Answer) → Unfound t → WentFor shown x what (turns_of t.board) t' answer → is_some answer ≡ true → turns_of t'.board ≤ to → CameFor shown x what from to t' answer
      one_found t t' None h w some within = absurd (cc)
      one_found t t' (Some answer) h w some within =
          (w.last, w.at, first_passed shown x (is_found x what) from to t t' h (went_as (turns_of t.board) t' (Some answer) w) within, sym w.is)

    -- ---- the last of some turns in which it is found

    module _ (from to : ℕ) where
      -- it stands at a turn from the first one on, and this is the last before
      pub record LastSoFar (t : Replay X H) (last : Option (ℕ × Answer)) : Type 0 where
        pub until : IsUntil shown x to t
        pub later : from ≤ turns_of t.board
        pub is : IsLastFound x what from (turns_of t.board) last

      pub last_first : (t : Replay X H) → IsAt shown x t from → from ≤ to → LastSoFar t None
      unfolding last_of
      last_first t h le =
          let is = turns_at shown x t from h in
          let none : turns_of t.board - from ≡ 0 = omega arith in
          record { until = until_first shown x t from to h le; later = omega arith; is = ap (λ n. last_found x what from n) none }

      none_since : (c : ℕ) (t' : Replay X H) → from ≤ c → (w : WentFor shown x what c t' None) → (turn : ℕ) → from + (c - from) ≤ turn → turn < from + (w.last + 1 - from) → is_found x what turn ≡ false
      none_since c t' le w turn a b = elim (cases_lt turn w.last) [
        | inl before ↦ ap is_some (w.none turn (omega (arith, a, le)) before)
        | inr after ↦ let last : w.last ≡ turn = omega (arith, after, b, le, w.later) in subst (λ n. is_found x what n ≡ false) last (ap is_some (sym w.is))
      ]

      -- none of more turns, or the last of them
      pub last_stays : (t t' : Replay X H) (last : Option (ℕ × Answer)) → LastSoFar t last → WentFor shown x what (turns_of t.board) t' None → turns_of t'.board ≤ to → LastSoFar t' last
      last_stays t t' last h w within =
          let c = turns_of t.board in
          let is = turns_at shown x t' (w.last + 1) w.at in
          let same : last_found x what from (w.last + 1 - from) ≡ last_found x what from (c - from) = same_last (is_found x what) from (c - from) (w.last + 1 - from) (omega (arith, w.later)) (none_since c t' h.later w) in
          record {
            until = until_first shown x t' (w.last + 1) to w.at (omega arith);
            later = omega (arith, h.later, w.later);
            is = subst (λ n. IsLastFound x what from n last) (sym is) (stays last same h.is);
          }
        where
          stays : (o : Option (ℕ × Answer)) → last_found x what from (w.last + 1 - from) ≡ last_found x what from (turns_of t.board - from) → IsLastFound x what from (turns_of t.board) o → IsLastFound x what from (w.last + 1) o
          stays None same e = same ∙ e
          stays (Some one) same e = (same ∙ e.0, e.1)

      pub last_now : (t t' : Replay X H) (n : ℕ) (last : Option (ℕ × Answer)) (answer : Answer) → LastSoFar t last → WentFor shown x what (turns_of t.board) t' (Some answer) → turns_of t'.board ≤ to → n ≡ turns_of t'.board - 1 → LastSoFar t' (Some (n, answer))
      last_now t t' n last answer h w within is =
          let there = turns_at shown x t' (w.last + 1) w.at in
          let same : w.last ≡ n = omega arith in
          let here : is_found x what w.last ≡ true = ap is_some (sym w.is) in
          let found_last : last_found x what from (w.last + 1 - from) ≡ Some w.last = is_last (is_found x what) from (w.last + 1 - from) w.last (omega (arith, h.later, w.later)) (omega (arith, h.later, w.later)) here (λ turn a b. absurd (omega (arith, a, b, h.later, w.later))) in
          record {
            until = until_first shown x t' (w.last + 1) to w.at (omega arith);
            later = omega (arith, h.later, w.later);
            is = subst (λ k. IsLastFound x what from (turns_of t'.board) (Some (k, answer))) same (subst (λ k. IsLastFound x what from k (Some (w.last, answer))) (sym there) (found_last, sym w.is));
          }

    -- ---- back to the last before a turn

    module _ (low cursor : ℕ) where
      -- it stands at a turn, or behind it, from which on it is not found before the cursor
      pub record Behind (to : ℕ) (t : Replay X H) : Type 0 where
        pub at : IsAt shown x t (turns_of t.board)
        pub after : to ≤ turns_of t.board
        pub above : low ≤ to
        pub within : to ≤ cursor
        pub none : (turn : ℕ) → to ≤ turn → turn < cursor → is_found x what turn ≡ false

      pub behind_first : (t : Replay X H) → IsAt shown x t cursor → low ≤ cursor → Behind (turns_of t.board) t
      behind_first t h le =
          let is = turns_at shown x t cursor h in
          record {
            at = subst (λ n. IsAt shown x t n) (sym is) h;
            after = omega arith;
            above = omega arith;
            within = omega arith;
            none = λ turn a b. absurd (omega (arith, a, b, is));
          }

      -- the run reaches it, and each turn before
      pub behind_reached : (to from : ℕ) (t : Replay X H) → Behind to t → from ≤ to → (state_at x from).turn ≡ from
      behind_reached to from t h le = reaches x h.at.start (turns_of t.board) from h.at.reached (omega (arith, h.after))

      pub behind_more : (from to : ℕ) (t t' : Replay X H) → Behind to t → low ≤ from → from ≤ to → IsAt shown x t' to → IsLastFound x what from to None → Behind from t'
      behind_more from to t t' h le less at is =
          let there = turns_at shown x t' to at in
          record {
            at = subst (λ n. IsAt shown x t' n) (sym there) at;
            after = omega arith;
            above = le;
            within = omega (arith, h.within);
            none = λ turn a b. elim (cases_lt turn to) [ inl before ↦ none_of (is_found x what) from (to - from) is turn a (omega (arith, before)) | inr after ↦ h.none turn after b ];
          }

      pub none_behind : (to : ℕ) (t t' : Replay X H) → Behind to t → to ≤ low → IsAt shown x t' low → WentBackFor shown x what low cursor t' None
      none_behind to t t' h le at = (at, none_last (is_found x what) low (cursor - low) (λ turn a b. h.none turn (omega (arith, a)) (omega (arith, b, a))))

      pub one_behind : (from to n : ℕ) (t t' : Replay X H) (answer : Answer) → Behind to t → low ≤ from → from ≤ to → IsLastFound x what from to (Some (n, answer)) → IsAt shown x t' n → WentBackFor shown x what low cursor t' (Some answer)
      one_behind from to n t t' answer h le less is at =
          let l = last_is (is_found x what) from (to - from) n is.0 in
          let before : n < to = omega (arith, l.before, less) in (
            n,
            at,
            is_last (is_found x what) low (cursor - low) n (omega (arith, l.later)) (omega (arith, h.within)) l.here
                (λ turn a b. elim (cases_lt turn to) [ inl under ↦ l.none turn a (omega (arith, under)) | inr after ↦ h.none turn after (omega (arith, b)) ]),
            is.1,
          )
