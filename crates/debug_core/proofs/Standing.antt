-- A board with its checkpoints while it goes from turn to turn of the run.
use Rattle.std.proofs.Common.{◌≡◌, ◌≢◌, ◌∙◌, ℕ, zero, suc, ◌+◌, ◌-◌, ◌≤◌, ◌<◌, List, [], ◌∷◌, length, get_or, set, map, true, is_some, Option, Some, None, refl, sym, ap, subst, arith, Global}
use Rattle.std.specs.Prelude.{Vec}
use Rattle.std.specs.List.{All, HoldsAt}
use Rattle.std.proofs.lemmas.List.{length-set, get_or-set_other, get_or-set_same}
use Rattle.std.proofs.lemmas.List.Elements.{All-set, All-get_or}
use Rattle.kernel_abi.specs.declared.Kind.{Kind}
use Rattle.kernel_abi.specs.Devices.{DeviceData}
use Rattle.task_table.specs.model.State.{Setup, State}
use Rattle.task_table.specs.model.Sane.{Sane, IsCounted}
use Rattle.board_model.specs.declared.outcomes.End.{End}
use Rattle.board_model.specs.declared.outcomes.Level.TheVariants.{Calls}
use Rattle.board_model.specs.Alike.{seen, reduced}
use Rattle.board_model.specs.Run.{ending, turn_after, state_after}
use Rattle.board_model.specs.Script.{Scenario, start_of}
use Rattle.board_model.proofs.SaneReduced.{sane-reduced}
use Rattle.board_core.specs.declared.board.Board.{Board}
use Rattle.board_core.specs.Data.{Shows}
use Rattle.board_core.specs.Stands.{Stands, turns_of}
use Rattle.snapshot.specs.Loaded.{sites}
use Rattle.snapshot.specs.Saved.{SpellsState, expected_of}
use Rattle.snapshot.specs.Waits.{state_fault}
use Rattle.snapshot.proofs.Fixed.{fixed_run}
use Rattle.snapshot.proofs.Returned.{kinds_in}
use Rattle.snapshot.proofs.Runs.{counted_reduced, turn_reduced}
use Rattle.snapshot.proofs.StandsForSome.{as_long}
use Rattle.board_model.proofs.SameTurn.{first_turn, same_turn}
use Rattle.debug_core.specs.declared.replay.Checkpoint.{Checkpoint}
use Rattle.debug_core.specs.declared.replay.Replay.{Replay}
use Rattle.debug_core.specs.Runs.{most_turns, state_at}
use Rattle.debug_core.specs.Times.{IsAt, IsFree, IsKept, IsSaved}
use Rattle.debug_core.proofs.Ahead.{Follows, ahead, ends_at, run_on, sane_at, stays, turns_ahead, turns_made}
use Rattle.snapshot.proofs.Few.{few_tasks}
use Rattle.debug_core.proofs.Bytes.{no_byte}
use Rattle.debug_core.proofs.Latest.{some_same}

module _ {X : Type 0} {H : X → Type 0} (shown : Shows X H) (x : Scenario) where
  -- ---- where it stands

  pub turns_at : (t : Replay X H) (turn : ℕ) → IsAt shown x t turn → turns_of t.board ≡ turn
  turns_at t turn h = h.state.1.holds.turns ∙ same_turn h.state.0 (state_at x turn) h.state.2 ∙ h.reached

  pub follows : (t : Replay X H) (turn : ℕ) → (h : IsAt shown x t turn) → Follows x turn h.state.0
  follows t turn h = record { sane = h.state.1.sane; same = h.state.2; reached = h.reached }

  -- with another board that stands for a state that follows the run
  with_board : (t : Replay X H) (turn : ℕ) (b : Board X H) (to : ℕ) (u : State) → IsAt shown x t turn → Stands shown x b u → Follows x to u → to ≤ most_turns → IsAt shown x record t { board = b } to
  with_board t turn b to u h st f most = record { state = (u, st, f.same); reached = f.reached; most = most; start = h.start; count = h.count; kept = h.kept; first = h.first }

  -- ---- on

  -- turns on end, before none of which the run ends
  pub went : (t : Replay X H) (turn n : ℕ) (b : Board X H) → (h : IsAt shown x t turn) → ending x 1 h.state.0 ≡ None → ((k : ℕ) → k < n → ending x 1 (turn_after Calls x k h.state.0).state ≡ None) → Stands shown x b (turn_after Calls x n h.state.0).state → turn + n < most_turns → IsAt shown x record t { board = b } (turn + n + 1)
  unfolding state_after
  went t turn n b h first on st few =
      let f = turns_ahead x h.start (suc n) turn h.state.0 (follows t turn h) (turns_made x n h.state.0 first on) in
      let same : turn + suc n ≡ turn + n + 1 = omega arith in
      with_board t turn b (turn + n + 1) (turn_after Calls x n h.state.0).state h st (subst (λ m. Follows x m (turn_after Calls x n h.state.0).state) same f) (omega arith)

  -- and so does each of them
  pub follows_after : (t : Replay X H) (turn n : ℕ) → (h : IsAt shown x t turn) → ending x 1 h.state.0 ≡ None → ((k : ℕ) → k < n → ending x 1 (turn_after Calls x k h.state.0).state ≡ None) → (k : ℕ) → k ≤ n → Follows x (turn + k) (state_after Calls x k h.state.0)
  follows_after t turn n h first on k le = turns_ahead x h.start k turn h.state.0 (follows t turn h) (λ j lt. turns_made x n h.state.0 first on j (omega (arith, lt, le)))

  -- a board that stands where a run to turn `to` comes to
  pub played : (t : Replay X H) (turn : ℕ) (b : Board X H) (to : ℕ) → (h : IsAt shown x t turn) → turn ≤ to → to ≤ most_turns →
      Stands shown x b (run_on x (to - h.state.0.turn) h.state.0) → Stands shown x b (run_on x (turns_of b - h.state.0.turn) h.state.0) → turns_of b ≤ to → IsAt shown x record t { board = b } (state_at x to).turn
  played t turn b to h le few last midway within = subst (λ n. IsAt shown x record t { board = b } n) end (by (turns_of b - turn) refl)
    where
      u : State
      u = h.state.0

      f : Follows x turn u
      f = follows t turn h

      here : u.turn ≡ turn
      here = same_turn u (state_at x turn) f.same ∙ f.reached

      end : turns_of b ≡ (state_at x to).turn
      end = last.holds.turns ∙ ap (λ k. (run_on x (to - k) u).turn) here ∙ same_turn (run_on x (to - turn) u) (state_at x to) (ahead x h.start turn to u f le)

      now : Stands shown x b (run_on x (turns_of b - turn) u)
      now = subst (λ k. Stands shown x b (run_on x (turns_of b - k) u)) here midway

      by : (n : ℕ) → turns_of b - turn ≡ n → IsAt shown x record t { board = b } (turns_of b)
      by zero e =
          let st : Stands shown x b u = subst (λ (v : State). Stands shown x b v) (ap (λ k. run_on x k u) e ∙ stays x u) now in
          let same : turns_of b ≡ turn = st.holds.turns ∙ here in
          subst (λ n. IsAt shown x record t { board = b } n) (sym same) (with_board t turn b turn u h st f h.most)
      by (suc n) e =
          let v = run_on x (turns_of b - turn) u in
          let on : reduced v ≡ reduced (state_at x (turns_of b)) = ahead x h.start turn (turns_of b) u f (omega arith) in
          let there : (state_at x (turns_of b)).turn ≡ turns_of b = sym (now.holds.turns ∙ same_turn v (state_at x (turns_of b)) on) in
          with_board t turn b (turns_of b) v h now (record { sane = now.sane; same = on; reached = there }) (omega arith)

  -- it stands at a turn until another one
  pub record IsUntil (to : ℕ) (t : Replay X H) : Type 0 where
    pub at : IsAt shown x t (turns_of t.board)
    pub within : turns_of t.board ≤ to

  pub until_first : (t : Replay X H) (turn to : ℕ) → IsAt shown x t turn → turn ≤ to → IsUntil to t
  until_first t turn to h le =
      let is = turns_at t turn h in
      record { at = subst (λ n. IsAt shown x t n) (sym is) h; within = omega arith }

  -- where it ended it is where the run comes to until that
  pub until_end : (t : Replay X H) (to : ℕ) (o : Option End) → IsUntil to t → is_some o ≡ true → o ≡ ending x (to - turns_of t.board) (state_at x (turns_of t.board)) → IsAt shown x t (state_at x to).turn
  until_end t to None h some is = absurd (cc)
  until_end t to (Some e) h some is =
      let ended : state_at x to ≡ state_at x (turns_of t.board) = ends_at x h.at.start (turns_of t.board) to e h.at.reached h.within (sym is) in
      subst (λ n. IsAt shown x t n) (sym (ap (λ (s : State). s.turn) ended ∙ h.at.reached)) h.at

  -- ---- checkpoints

  -- what a board that stands at a turn is saved as is a checkpoint of it
  is_saved : (t : Replay X H) (turn : ℕ) (bytes : List ℕ) → IsAt shown x t turn → ((s : State) → Stands shown x t.board s → SpellsState x.setup (reduced s) bytes) → IsSaved x turn bytes
  is_saved t turn bytes h spells =
      let u = h.state.0 in
      record {
        spelled = subst (λ (v : State). SpellsState x.setup v bytes) h.state.2 (spells u h.state.1);
        counted = subst IsCounted h.state.2 (counted_reduced u h.state.1.counted);
        reached = h.reached;
        most = h.most;
      }

  pub is_kept : (t : Replay X H) (turn : ℕ) (c : Checkpoint) → IsAt shown x t turn → c.turn ≡ Some (turns_of t.board) → ((s : State) → Stands shown x t.board s → SpellsState x.setup (reduced s) c.bytes.items) → IsKept x c
  is_kept t turn c h is spells =
      λ n e.
      let same : n ≡ turn = some_same n (turns_of t.board) (sym e ∙ is) ∙ turns_at t turn h in
      subst (λ k. IsSaved x k c.bytes.items) (sym same) (is_saved t turn c.bytes.items h spells)

  -- with one of the checkpoints but the first made anew
  pub with_checkpoint : (t : Replay X H) (turn place : ℕ) (kept : Vec Checkpoint Global) (c : Checkpoint) → IsAt shown x t turn → 0 < place → kept.items ≡ set t.kept.items place c → IsKept x c → IsAt shown x record t { kept = kept } turn
  with_checkpoint t turn place kept c h behind is good =
      let other : 0 ≢ place = omega arith in
      record {
        state = h.state;
        reached = h.reached;
        most = h.most;
        start = h.start;
        count = ap (λ (cs : List Checkpoint). length cs) is ∙ length-set t.kept.items place c ∙ h.count;
        kept = subst (All (IsKept x)) (sym is) (All-set (IsKept x) t.kept.items place c good h.kept);
        first = λ d. subst (λ (cs : List Checkpoint). (get_or cs 0 d).turn ≡ Some 0) (sym is) (ap (λ (k : Checkpoint). k.turn) (get_or-set_other t.kept.items place 0 c d other) ∙ h.first d);
      }

  -- ---- back

  pub saved_at : (t : Replay X H) (turn place from : ℕ) (d : Checkpoint) → IsAt shown x t turn → place < length t.kept.items → HoldsAt (λ c. c.turn ≡ Some from) t.kept.items place → IsSaved x from (get_or t.kept.items place d).bytes.items
  saved_at t turn place from d h inside is = (All-get_or (IsKept x) t.kept.items place d inside h.kept) from (is d)

  -- a run keeps which devices stand where
  sites_at : Sane x.setup (start_of x) → (turn : ℕ) → sites (reduced (state_at x turn)).devices ≡ sites (start_of x).devices
  sites_at sane turn = ap sites (as_long (state_at x turn)).devices ∙ (fixed_run Calls x turn (start_of x) sane).sites

  sites_of : Sane x.setup (start_of x) → (turn : ℕ) (u : State) → reduced u ≡ reduced (state_at x turn) → sites u.devices ≡ sites (start_of x).devices
  sites_of sane turn u same = ap sites (sym (as_long u).devices) ∙ ap (λ (v : State). sites v.devices) same ∙ sites_at sane turn

  sites_from : Sane x.setup (start_of x) → (from turn : ℕ) (u : State) → reduced u ≡ reduced (state_at x turn) → sites (reduced (state_at x from)).devices ≡ sites u.devices
  sites_from sane from turn u same = sites_at sane from ∙ sym (sites_of sane turn u same)

  -- no cause is found in the bytes of a checkpoint
  pub loadable : ((g : Setup) (s : State) (bytes : List ℕ) → Sane g s → IsCounted s → s.turn ≤ 1000000000 → length g.tasks ≤ 1024 → SpellsState g s bytes → state_fault (expected_of g s.devices) bytes ≡ None) →
      (t : Replay X H) (turn from : ℕ) (bytes : List ℕ) → (h : IsAt shown x t turn) → IsSaved x from bytes → state_fault (expected_of x.setup h.state.0.devices) bytes ≡ None
  loadable accepted t turn from bytes h saved =
      let u = h.state.0 in
      let s = reduced (state_at x from) in
      let few = few_tasks shown x t.board u h.state.1 in
      let none = accepted x.setup s bytes (sane-reduced x.setup (state_at x from) (sane_at x h.start from)) saved.counted (omega (arith, turn_reduced (state_at x from), saved.reached, saved.most)) (omega arith) saved.spelled in
      let kinds = ap (λ (ps : List (Kind × ℕ)). map (λ (p : Kind × ℕ). p.0) ps) (sites_from h.start from turn u h.state.2) in
      subst (λ (ks : List Kind). state_fault record (expected_of x.setup s.devices) { kinds = ks } bytes ≡ None) (kinds_in s.devices ∙ kinds ∙ sym (kinds_in u.devices)) none

  -- and the board stands at its turn then
  pub loaded : (t : Replay X H) (turn from : ℕ) (bytes : List ℕ) (b : Board X H) → IsAt shown x t turn → IsSaved x from bytes →
      ((u s : State) → Stands shown x t.board u → SpellsState x.setup s bytes → Sane x.setup s → IsCounted s → sites s.devices ≡ sites u.devices → Stands shown x b s) → IsAt shown x record t { board = b } from
  loaded t turn from bytes b h saved goes =
      let s = reduced (state_at x from) in
      let sane = sane-reduced x.setup (state_at x from) (sane_at x h.start from) in
      let st = goes h.state.0 s h.state.1 saved.spelled sane saved.counted (sites_from h.start from turn h.state.0 h.state.2) in
      with_board t turn b from s h st (record { sane = sane; same = saved.spelled.small; reached = saved.reached }) saved.most

  -- ---- the start

  free_kept : (c : Checkpoint) → IsFree c → IsKept x c
  free_kept c h n e = absurd (no_byte n (sym h ∙ e))

  pub opened_at : (board : Board X H) (free kept : Vec Checkpoint Global) (c : Checkpoint) → Stands shown x board (start_of x) → length free.items ≡ 64 → All IsFree free.items →
      kept.items ≡ set free.items 0 c → c.turn ≡ Some (turns_of board) → SpellsState x.setup (reduced (start_of x)) c.bytes.items → IsAt shown x record { board = board; kept = kept } 0
  opened_at board free kept c st count all is turn spells =
      let at_start : state_at x 0 ≡ start_of x = stays x (start_of x) in
      let zeroth : turns_of board ≡ 0 = st.holds.turns ∙ first_turn x in
      let some : 0 < length free.items = omega (arith, count) in
      let spelled : SpellsState x.setup (reduced (state_at x 0)) c.bytes.items = subst (λ (v : State). SpellsState x.setup (reduced v) c.bytes.items) (sym at_start) spells in
      let counted : IsCounted (reduced (state_at x 0)) = subst (λ (v : State). IsCounted (reduced v)) (sym at_start) (counted_reduced (start_of x) st.counted) in
      let reached : (state_at x 0).turn ≡ 0 = ap (λ (v : State). v.turn) at_start ∙ first_turn x in
      let here : IsSaved x 0 c.bytes.items = record { spelled = spelled; counted = counted; reached = reached; most = omega arith } in
      let good : IsKept x c = λ n e. let same : 0 ≡ n = sym zeroth ∙ some_same (turns_of board) n (sym turn ∙ e) in subst (λ k. IsSaved x k c.bytes.items) same here in
      record {
        state = (start_of x, st, ap reduced (sym at_start));
        reached = reached;
        most = omega arith;
        start = st.sane;
        count = ap (λ (cs : List Checkpoint). length cs) is ∙ length-set free.items 0 c ∙ count;
        kept = subst (All (IsKept x)) (sym is) (All-set (IsKept x) free.items 0 c good (λ i d lt. free_kept (get_or free.items i d) (all i d lt)));
        first = λ d. subst (λ (cs : List Checkpoint). (get_or cs 0 d).turn ≡ Some 0) (sym is) (ap (λ (k : Checkpoint). k.turn) (get_or-set_same free.items 0 c d some) ∙ turn ∙ ap (λ n. Some n) zeroth);
      }
