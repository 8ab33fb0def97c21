-- A sweeper while it goes on from one arrival time to the next.
use Rattle.std.proofs.Common.{◌≡◌, ◌∙◌, ℕ, ◌+◌, ◌-◌, ◌≤◌, min, Bool, List, [], ◌∷◌, length, length-append, map, None, refl, sym, ap, subst, arith, Global}
use Rattle.std.specs.Prelude.{Vec}
use Rattle.std.proofs.lemmas.List.{length-map}
use Rattle.kernel_abi.specs.declared.Kind.{Kind}
use Rattle.kernel_abi.specs.Devices.{DeviceData}
use Rattle.run_script.specs.declared.script.Script.{Script}
use Rattle.run_script.specs.Events.{script_data}
use Rattle.run_script.specs.Laying.{HasRoom}
use Rattle.run_script.specs.Scripts.{Listed, ScriptData}
use Rattle.task_table.specs.model.State.{Setup, State}
use Rattle.task_table.specs.model.Sane.{Sane, IsCounted}
use Rattle.board_model.specs.declared.outcomes.Level.TheVariants.{Calls}
use Rattle.board_model.specs.Alike.{reduced}
use Rattle.board_model.specs.Cut.{cut_at}
use Rattle.board_model.specs.Laid.{laid, postponed, with_script}
use Rattle.board_model.specs.Run.{Run, run}
use Rattle.board_model.specs.Script.{Scenario, start_of}
use Rattle.board_model.proofs.SaneReduced.{sane-reduced}
use Rattle.board_core.specs.declared.board.Board.{Board}
use Rattle.board_core.specs.Data.{Shows}
use Rattle.board_core.specs.Stands.{Holds, Stands, script_of, turns_of}
use Rattle.snapshot.specs.Loaded.{sites}
use Rattle.snapshot.specs.Records.{total}
use Rattle.snapshot.specs.Saved.{SpellsState, expected_of, spelling}
use Rattle.snapshot.specs.Waits.{state_fault}
use Rattle.snapshot.proofs.Fixed.{fixed_run}
use Rattle.snapshot.proofs.Runs.{counted_reduced, turn_reduced}
use Rattle.snapshot.proofs.Returned.{as_long_as_first, same_ram, with_own}
use Rattle.snapshot.proofs.StandsForSome.{as_long}
use Rattle.sweep_core.specs.declared.leader.Leader.{Leader}
use Rattle.sweep_core.specs.declared.sweeper.Sweeper.{Sweeper}
use Rattle.sweep_core.specs.declared.tally.Tally.{Tally}
use Rattle.sweep_core.specs.declared.told.Told.{Told}
use Rattle.board_model.specs.SameScripts.{IsLaid}
use Rattle.sweep_core.specs.Leading.{GoesOnAs, IsUnderWay}
use Rattle.sweep_core.specs.Outcomes.{heard, nothing_heard}
use Rattle.sweep_core.specs.Sweeping.{Fork, HasComeTo, HasScripts, HasTold, IsAsGood, IsAt, IsAtFork, IsBefore, IsReady, IsSweeping, own_script, run_of}
use Rattle.sweep_core.specs.Told.{IsTold, IsToldFrom}
use Rattle.snapshot.proofs.Few.{few_tasks}
use Rattle.sweep_core.proofs.Following.{goes_as_itself, told_alike}
use Rattle.sweep_core.proofs.Going.{as_good_run, come_within, goes_on, good_itself, heard_on, one_before, silent, stays}

-- ---- what is told of the rest of a run is told of the whole

pub told_whole : (x : Scenario) (script other : ScriptData) (m limit : ℕ) (u : State) (mem : Bool) (front : Tally) (t : Told) → Sane x.setup (start_of x) → Sane x.setup u → IsAsGood other script →
    reduced u ≡ reduced (cut_at Calls (with_script x script) m (start_of x)) → front ≡ heard nothing_heard (run Calls (with_script x script) m (start_of x)).notes → m ≤ limit →
    IsToldFrom mem front (run Calls (with_script x other) (limit - u.turn) u) t → IsTold mem (run_of x script limit) t
told_whole x script other m limit u mem front t sane hu good same is le h =
    let r = run Calls (with_script x other) (limit - u.turn) u in
    let w = run_of x script limit in
    let rest = goes_on x script sane other m limit u hu good same le in
    told_alike mem front nothing_heard r w t (heard_on x script sane m limit front r is rest) (sym rest.end) rest.last h

-- the run without the arrival, from its start
abbrev pub first_fork : Scenario → List Listed → Fork
first_fork x arrival = record { arrival = arrival; script = x.script; turn = 0 }

module _ {X : Type 0} {H : X → Type 0} (shown : Shows X H) (x : Scenario) where
  module _ (arrival : List Listed) where
    -- the turn at which it stands
    pub turns_within : (script : ScriptData) (w : Sweeper X H) (m : ℕ) → Sane x.setup (start_of x) → (h : HasComeTo shown x script w m) → turns_of w.board ≤ m
    turns_within script w m sane h =
        let le = come_within x script sane m h.state h.same in
        let is = h.stands.holds.turns in
        omega (arith, le, is)

    pub saved_long : (script : ScriptData) (w : Sweeper X H) (m : ℕ) → HasScripts x arrival w → (h : HasComeTo shown x script w m) → length w.saved.items ≡ length (spelling (reduced h.state))
    saved_long script w m scripts h = scripts.saved ∙ sym (as_long_as_first x script m h.state scripts.start h.stands.sane h.same)

    -- once the run was told and the state before it is loaded
    pub at_again : (script : ScriptData) (w : Sweeper X H) (m : ℕ) (b : Board X H) (saved : Vec ℕ Global) (leader : Leader) → (h : IsAt shown x arrival script w m) → Stands shown (with_script x (own_script w)) b (reduced h.come.state) →
        reduced (reduced h.come.state) ≡ reduced h.come.state → length saved.items ≡ length w.saved.items → IsAt shown x arrival script record w { board = b; saved = saved; leader = leader } m
    at_again script w m b saved leader h st small long = record {
      scripts = record { start = h.scripts.start; script = h.scripts.script; arriving = h.scripts.arriving; spare = h.scripts.spare; saved = long ∙ h.scripts.saved };
      good = subst (λ (s : ScriptData). IsAsGood s script) (sym st.holds.script) h.good;
      come = record { state = reduced h.come.state; stands = with_own shown x (own_script w) b (reduced h.come.state) st; same = small ∙ h.come.same; front = h.come.front };
    }

    -- the run from where it stands may meet one that leads, from where its script is as good as the scenario's own
    pub under_way : (script : ScriptData) (w : Sweeper X H) (m over : ℕ) → (h : IsAt shown x arrival script w m) → GoesOnAs x script over → IsUnderWay shown x over w.board h.come.state
    under_way script w m over h goes =
        let u = h.come.state in
        let c = cut_at Calls (with_script x script) m (start_of x) in
        record {
          stands = h.come.stands;
          sites = ap sites (sym (as_long u).devices) ∙ ap (λ (v : State). sites v.devices) h.come.same ∙ ap sites (as_long c).devices ∙ (fixed_run Calls (with_script x script) m (start_of x) h.scripts.start).sites;
          goes = λ n s sane late. as_good_run x (own_script w) script n s sane h.good ∙ goes n s sane late;
        }

    -- ---- on to an arrival time

    count_laid : (script : ScriptData) (time : ℕ) → length (laid script arrival time).events ≡ length script.events + length arrival
    count_laid script time = length-append script.events (postponed time arrival) ∙ ap (λ n. length script.events + n) (length-map arrival (λ (d : Listed). (time + d.0, d.1)))

    -- the script that was laid
    good_laid : (w : Sweeper X H) (d : ScriptData) (time : ℕ) → HasScripts x arrival w → IsLaid d (script_data w.script) (script_data w.arrival).events time →
        length d.events ≡ length (script_data w.script).events + length (script_data w.arrival).events → IsAsGood d (laid x.script arrival time)
    good_laid w d time scripts is count =
        let over : IsLaid d x.script arrival time = subst (λ (s : ScriptData). IsLaid d s arrival time) scripts.script (subst (λ (l : List Listed). IsLaid d (script_data w.script) l time) scripts.arriving is) in
        let script = ap (λ (s : ScriptData). length s.events) scripts.script in
        let arriving = ap (λ (l : List Listed). length l) scripts.arriving in
        record { events = over.events; last = over.last; count = omega (arith, count, script, arriving, count_laid x.script time) }

    pub arrived : (w : Sweeper X H) (time limit : ℕ) (d spare : Script) (b : Board X H) (front : Tally) (n : ℕ) → (h : IsBefore shown x arrival w time limit) → n ≡ min time limit →
        IsLaid (script_data d) (script_data w.script) (script_data w.arrival).events time → length (script_data d).events ≡ length (script_data w.script).events + length (script_data w.arrival).events →
        spare ≡ script_of w.board →
        Stands shown (with_script x (script_data d)) b (run Calls (with_script x (script_data d)) (n - h.come.state.turn) h.come.state).last →
        front ≡ heard w.front (run Calls (with_script x (script_data d)) (n - h.come.state.turn) h.come.state).notes →
        IsAt shown x arrival (laid x.script arrival time) record w { board = b; spare = spare; front = front } (min time limit)
    arrived w time limit d spare b front n h least is count given st told =
        let sane = h.scripts.start in
        let u = h.come.state in
        let script = laid x.script arrival time in
        let good = good_laid w (script_data d) time h.scripts is count in
        let early = h.early in
        let few = h.few in
        let ahead : h.turn ≤ n = omega (arith, least, early, few) in
        let runs = one_before x arrival h.turn time h.turn sane (omega arith) early in
        let same : reduced u ≡ reduced (cut_at Calls (with_script x script) h.turn (start_of x)) = h.come.same ∙ ap (λ (r : Run). reduced r.last) runs in
        let heard_there : w.front ≡ heard nothing_heard (run Calls (with_script x script) h.turn (start_of x)).notes = h.come.front ∙ ap (λ (r : Run). heard nothing_heard r.notes) runs in
        let r = run Calls (with_script x (script_data d)) (n - u.turn) u in
        let rest = goes_on x script sane (script_data d) h.turn n u h.come.stands.sane good same ahead in
        record {
          scripts = record { start = sane; script = h.scripts.script; arriving = h.scripts.arriving; spare = subst (λ (s : Script). HasRoom s (length x.script.events + length arrival)) (sym given) h.own; saved = h.scripts.saved };
          good = subst (λ (s : ScriptData). IsAsGood s script) (sym st.holds.script) good;
          come = record {
            state = r.last;
            stands = with_own shown x (script_data d) b r.last st;
            same = rest.last ∙ ap (λ k. reduced (cut_at Calls (with_script x script) k (start_of x))) least;
            front = told ∙ heard_on x script sane h.turn n w.front r heard_there rest ∙ ap (λ k. heard nothing_heard (run Calls (with_script x script) k (start_of x)).notes) least;
          };
        }

    -- where there is no script it stays where it is
    pub not_laid : (w : Sweeper X H) (time limit : ℕ) (spare : Script) → IsBefore shown x arrival w time limit → HasRoom spare (length x.script.events + length arrival) → IsBefore shown x arrival record w { spare = spare } time limit
    not_laid w time limit spare h room = record {
      scripts = record { start = h.scripts.start; script = h.scripts.script; arriving = h.scripts.arriving; spare = room; saved = h.scripts.saved };
      own = h.own;
      turn = h.turn;
      early = h.early;
      few = h.few;
      come = record { state = h.come.state; stands = h.come.stands; same = h.come.same; front = h.come.front };
    }

    -- a script that lists so many events has room for them
    room_of : (s : Script) (n : ℕ) → length (script_data s).events ≡ n → HasRoom s n
    room_of s n is = omega (arith, s.events.ok.0, s.events.ok.1, is)

    -- and from there further
    pub before_again : (w : Sweeper X H) (time limit : ℕ) → IsAt shown x arrival (laid x.script arrival time) w (min time limit) → IsBefore shown x arrival w time limit
    before_again w time limit h =
        let m : ℕ = min time limit in
        let runs = one_before x arrival time m m h.scripts.start (omega arith) (omega arith) in
        record {
          scripts = h.scripts;
          own = room_of (script_of w.board) (length x.script.events + length arrival) (h.good.count ∙ count_laid x.script time);
          turn = m;
          early = omega arith;
          few = omega arith;
          come = record {
            state = h.come.state;
            stands = h.come.stands;
            same = h.come.same ∙ ap (λ (r : Run). reduced r.last) runs;
            front = h.come.front ∙ ap (λ (r : Run). heard nothing_heard r.notes) runs;
          };
        }

    -- of a later one
    pub later : (w : Sweeper X H) (time next limit : ℕ) → time ≤ next → IsBefore shown x arrival w time limit → IsBefore shown x arrival w next limit
    later w time next limit le h = record { scripts = h.scripts; own = h.own; turn = h.turn; early = omega (arith, h.early, le); few = h.few; come = h.come }

    pub later_sweeping : (w : Sweeper X H) (time next limit : ℕ) (mem : Bool) → time ≤ next → IsSweeping shown x arrival w time limit mem → IsSweeping shown x arrival w next limit mem
    later_sweeping w time next limit mem le h = record { before = later w time next limit le h.before; leads = h.leads }

    -- ---- the start

    pub ready_at : (w : Sweeper X H) → IsReady shown x arrival w → IsAt shown x arrival x.script w 0
    ready_at w h = record {
      scripts = h.scripts;
      good = good_itself x.script (own_script w) h.stands.holds.script;
      come = record {
        state = start_of x;
        stands = with_own shown x x.script w.board (start_of x) h.stands;
        same = ap reduced (sym (stays x (start_of x)));
        front = h.front ∙ ap (λ l. heard nothing_heard l) (sym (silent x (start_of x)));
      };
    }

    pub at_first : (w : Sweeper X H) (limit : ℕ) → IsReady shown x arrival w → IsAtFork shown x (first_fork x arrival) w limit limit
    at_first w limit h = record { at = ready_at w h; few = omega arith; goes = goes_as_itself x limit }

    pub told_first : (w w' : Sweeper X H) → IsReady shown x arrival w → IsAt shown x arrival x.script w' 0 → own_script w' ≡ own_script w → w'.script ≡ w.script → HasTold shown x arrival w'
    told_first w w' h at own script = record {
      scripts = at.scripts;
      room = subst (λ (s : Script). HasRoom s (length x.script.events + length arrival)) (sym script) h.own;
      own = own ∙ h.stands.holds.script;
      come = at.come;
    }

    -- with the script that has room
    pub with_room : (w : Sweeper X H) (b : Board X H) (given : Script) → (h : HasTold shown x arrival w) → Holds shown (with_script x (script_data w.script)) b h.come.state → script_of b ≡ w.script → given ≡ script_of w.board →
        (time limit : ℕ) → IsBefore shown x arrival record w { board = b; script = given } time limit
    with_room w b given h holds taken is time limit =
        let s = start_of x in
        let y = with_script x (laid x.script arrival 0) in
        let st : Stands shown (with_script x (script_data w.script)) b h.come.state = record { holds = holds; sane = h.come.stands.sane; counted = h.come.stands.counted } in
        record {
          scripts = record { start = h.scripts.start; script = ap script_data is ∙ h.own; arriving = h.scripts.arriving; spare = h.scripts.spare; saved = h.scripts.saved };
          own = subst (λ (k : Script). HasRoom k (length x.script.events + length arrival)) (sym taken) h.room;
          turn = 0;
          early = omega arith;
          few = omega arith;
          come = record {
            state = h.come.state;
            stands = with_own shown x (script_data w.script) b h.come.state st;
            same = h.come.same ∙ ap reduced (stays x s ∙ sym (stays y s));
            front = h.come.front ∙ ap (λ l. heard nothing_heard l) (silent x s ∙ sym (silent y s));
          };
        }
