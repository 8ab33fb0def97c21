-- A run that follows the leading one: what is told of it if they meet, and which states are kept of it if
-- they do not.
use Rattle.std.proofs.Common.{◌≡◌, ◌∙◌, ℕ, ◌+◌, ◌-◌, ◌≤◌, ◌<◌, Bool, true, List, [], ◌∷◌, ◌++◌, get_or, refl, sym, ap, subst, arith, inl, inr, ◌⊎◌}
use Rattle.std.specs.List.{All, AllWithin}
use Rattle.std.specs.Prelude.{nat_lt}
use Rattle.std.proofs.lemmas.Bool.{and_from, lt-ltb}
use Rattle.std.proofs.lemmas.List.Elements.{All-head, All-tail, AllWithin-more_set}
use Rattle.run_script.specs.Scripts.{Listed, ScriptData}
use Rattle.task_table.specs.model.State.{State}
use Rattle.task_table.specs.model.Sane.{Sane, IsCounted}
use Rattle.board_model.specs.declared.outcomes.Level.TheVariants.{Calls}
use Rattle.board_model.specs.Alike.{reduced}
use Rattle.board_model.specs.Cut.{cut_at, left_of}
use Rattle.board_model.specs.Laid.{is_over, laid, with_script}
use Rattle.board_model.specs.Run.{Run, run, with_front}
use Rattle.board_model.specs.Script.{Scenario}
use Rattle.board_model.proofs.AlikeRuns.{reduced-run}
use Rattle.board_model.proofs.Counts.{turn_more}
use Rattle.board_model.proofs.Forks.{after}
use Rattle.board_model.proofs.RunCuts.{cut}
use Rattle.board_model.proofs.RunKeeps.{state_run}
use Rattle.board_model.proofs.SaneReduced.{sane-reduced}
use Rattle.board_core.specs.declared.board.Board.{Board}
use Rattle.board_core.specs.Data.{Shows}
use Rattle.board_core.specs.Stands.{Stands, turns_of}
use Rattle.snapshot.specs.Loaded.{IsSpelledBy, sites}
use Rattle.snapshot.specs.Saved.{SpellsState}
use Rattle.snapshot.proofs.Fixed.{fixed_run}
use Rattle.snapshot.proofs.Returned.{same_ram}
use Rattle.snapshot.proofs.Runs.{counted_reduced, turn_reduced}
use Rattle.snapshot.proofs.SpelledAlike.{stands_spelled}
use Rattle.snapshot.proofs.StandsForSome.{as_long}
use Rattle.sweep_core.specs.declared.tally.Tally.{Tally}
use Rattle.sweep_core.specs.declared.told.Told.{Told}
use Rattle.sweep_core.specs.declared.checkpoints.Checkpoint.{Checkpoint}
use Rattle.sweep_core.specs.declared.checkpoints.Checkpoints.{Checkpoints}
use Rattle.sweep_core.specs.Leading.{GoesOnAs, HasMet, HasPassed, IsLedBy, IsMeeting, run_from}
use Rattle.sweep_core.specs.Outcomes.{front_words, heard, memory_word}
use Rattle.sweep_core.specs.Swept.{is_supervisors}
use Rattle.sweep_core.specs.Told.{IsToldAt, IsToldFrom}
use Rattle.sweep_core.proofs.Going.{heard_parts, silent, stays}
use Rattle.sweep_core.proofs.Letters.{letters_alike}

-- ---- what is told of a run is told of one of which as much is heard, with the same end

pub told_alike : (mem : Bool) (front other : Tally) (r q : Run) (t : Told) → heard front r.notes ≡ heard other q.notes → r.end ≡ q.end → reduced r.last ≡ reduced q.last →
    IsToldFrom mem front r t → IsToldFrom mem other q t
told_alike mem front other r q t all end last h = record {
  words = h.words ∙ (λ i. front_words (end i) (all i) ++ letters_alike r.last q.last last i ++ memory_word mem (same_ram r.last q.last last i));
  faults = h.faults ∙ ap (λ (k : Tally). k.faults) all;
  by_supervisor = h.by_supervisor ∙ ap (λ e. is_supervisors e) end;
}

-- ---- an arrival that is over

over_from : (events : List Listed) (time span turn : ℕ) → All (λ (d : Listed). d.0 < span) events → time + span ≤ turn → is_over events time turn ≡ true
over_from [] time span turn all late = refl
over_from (d ∷ ds) time span turn all late =
    let here = All-head (λ (e : Listed). e.0 < span) d ds all in
    and_from (nat_lt (time + d.0) turn) (is_over ds time turn) (lt-ltb (time + d.0) turn (omega (arith, here, late))) (over_from ds time span turn (All-tail (λ (e : Listed). e.0 < span) d ds all) late)

pub over_behind : (x : Scenario) (arrival : List Listed) (time span : ℕ) → All (λ (d : Listed). d.0 < span) arrival → GoesOnAs x (laid x.script arrival time) (time + span)
over_behind x arrival time span all = λ n s sane late. after Calls x arrival time n s sane (over_from arrival time span s.turn all late)

-- without an arrival
pub goes_as_itself : (x : Scenario) (over : ℕ) → GoesOnAs x x.script over
goes_as_itself x over = λ n s sane late. refl

-- no run leads
pub none_leads : (x : Scenario) (limit : ℕ) (mem : Bool) (t : Told) (led : Checkpoints) → led.count ≡ 0 → IsLedBy x limit mem t led
none_leads x limit mem t led none = λ k d low lt. absurd (omega (arith, none, lt))

pub led_same : (x : Scenario) (limit : ℕ) (mem : Bool) (t now : Told) (led same : Checkpoints) → now ≡ t → same ≡ led → IsLedBy x limit mem t led → IsLedBy x limit mem now same
led_same x limit mem t now led same is are h =
    let P : Told → Type 0 = λ k. IsLedBy x limit mem k same in
    let Q : Checkpoints → Type 0 = λ p. IsLedBy x limit mem t p in
    subst P (sym is) (subst Q (sym are) h)

-- ---- a run that is cut at a turn

module _ (x : Scenario) (script : ScriptData) where
  later : (n : ℕ) (s : State) → Sane x.setup s → s.turn ≤ (cut_at Calls (with_script x script) n s).turn
  later n s h =
      let z = with_script x script in
      state_run Calls z (λ (v : State). s.turn ≤ v.turn) (λ v sane le. let more = turn_more Calls z v sane in omega (arith, le, more)) n s h (omega arith)

  whole : (n to : ℕ) (s : State) → Sane x.setup s → (cut_at Calls (with_script x script) n s).turn ≤ to →
      run_from x script to s ≡ with_front (run Calls (with_script x script) n s).notes (run_from x script to (cut_at Calls (with_script x script) n s))
  whole n to s h le =
      let z = with_script x script in
      let c = cut_at Calls z n s in
      let on = later n s h in
      let left : left_of (to - s.turn) s c ≡ to - c.turn = omega (arith, on, le) in
      cut Calls z n (to - s.turn) s h (omega (arith, on, le)) ∙ ap (λ k. with_front (run Calls z n s).notes (run Calls z k c)) left

  told_behind : (n limit : ℕ) (s : State) (mem : Bool) (front tally : Tally) (t : Told) → Sane x.setup s → (cut_at Calls (with_script x script) n s).turn ≤ limit →
      tally ≡ heard front (run Calls (with_script x script) n s).notes → IsToldFrom mem tally (run_from x script limit (cut_at Calls (with_script x script) n s)) t → IsToldFrom mem front (run_from x script limit s) t
  told_behind n limit s mem front tally t h le is told =
      let notes = (run Calls (with_script x script) n s).notes in
      let r = run_from x script limit (cut_at Calls (with_script x script) n s) in
      let all : heard tally r.notes ≡ heard front (notes ++ r.notes) = ap (λ (k : Tally). heard k r.notes) is ∙ sym (heard_parts front notes r.notes) in
      let P : Run → Type 0 = λ q. IsToldFrom mem front q t in
      let Q : Tally → Type 0 = λ k. IsToldAt mem r.end k r.last t in
      subst P (sym (whole n limit s h le)) (subst Q all told)

  -- ---- a board

  module _ {X : Type 0} {H : X → Type 0} (shown : Shows X H) where
    -- it has gone on from a state, with what was heard since then
    pub record HasHeard (front : Tally) (s : State) (b : Board X H) (tally : Tally) : Type 0 where
      pub n : ℕ
      pub stands : Stands shown (with_script x script) b (run Calls (with_script x script) n s).last
      pub heard : tally ≡ heard front (run Calls (with_script x script) n s).notes

    pub heard_nothing : (front : Tally) (s : State) (b : Board X H) → Stands shown (with_script x script) b s → HasHeard front s b front
    heard_nothing front s b st =
        let z = with_script x script in
        let P : State → Type 0 = λ v. Stands shown z b v in
        record { n = 0; stands = subst P (sym (stays z s)) st; heard = ap (λ l. heard front l) (sym (silent z s)) }

    -- on to a turn
    pub heard_more : (front tally more : Tally) (s : State) (b b' : Board X H) (to : ℕ) → Sane x.setup s → (h : HasHeard front s b tally) → turns_of b ≤ to →
        Stands shown (with_script x script) b' (run_from x script to (cut_at Calls (with_script x script) h.n s)).last →
        more ≡ heard tally (run_from x script to (cut_at Calls (with_script x script) h.n s)).notes → HasHeard front s b' more
    heard_more front tally more s b b' to sane h le st is =
        let z = with_script x script in
        let c = cut_at Calls z h.n s in
        let here = h.stands.holds.turns in
        let all = whole h.n to s sane (omega (arith, here, le)) in
        let P : Run → Type 0 = λ r. Stands shown z b' r.last in
        record {
          n = to - s.turn;
          stands = subst P (sym all) st;
          heard =
              is
              ∙ ap (λ (k : Tally). heard k (run_from x script to c).notes) h.heard
              ∙ sym (heard_parts front (run Calls z h.n s).notes (run_from x script to c).notes)
              ∙ ap (λ (r : Run). heard front r.notes) (sym all);
        }

    -- what is told from where it stands is told from there
    pub told_since : (front tally : Tally) (s : State) (b : Board X H) (limit : ℕ) (mem : Bool) (t : Told) → Sane x.setup s → (h : HasHeard front s b tally) → turns_of b ≤ limit →
        IsToldFrom mem tally (run_from x script limit (cut_at Calls (with_script x script) h.n s)) t → IsToldFrom mem front (run_from x script limit s) t
    told_since front tally s b limit mem t sane h le told = told_behind h.n limit s mem front tally t sane (let here = h.stands.holds.turns in omega (arith, here, le)) h.heard told

    pub same_sites : (front tally : Tally) (s : State) (b : Board X H) → Sane x.setup s → sites s.devices ≡ sites x.devices → (h : HasHeard front s b tally) → sites (cut_at Calls (with_script x script) h.n s).devices ≡ sites x.devices
    same_sites front tally s b sane at h = (fixed_run Calls (with_script x script) h.n s sane).sites ∙ at

    module _ (over : ℕ) (goes : GoesOnAs x script over) where
      -- ---- where it meets the run that leads

      pub met : (limit : ℕ) (mem : Bool) (c : State) (tally : Tally) (t : Told) (led : Checkpoints) → IsLedBy x limit mem t led → HasMet (with_script x script) c tally led → Sane x.setup c → IsCounted c → sites c.devices ≡ sites x.devices → over ≤ c.turn →
          IsToldFrom mem tally (run_from x script limit c) t
      met limit mem c tally t led is h sane counted at late =
          let v = reduced c in
          let k : ℕ = limit - c.turn in
          let m = h.same.meeting in
          let fact : IsMeeting x limit mem t m = subst (IsMeeting x limit mem t) (h.same.at m) (is h.same.place m (omega arith) h.same.inside) in
          let spelled : SpellsState x.setup v m.state.items = subst (SpellsState x.setup v) (sym h.same.same.state) h.spelled in
          let told = fact v (record { spelled = spelled; sane = sane-reduced x.setup c sane; counted = counted_reduced c counted; sites = ap sites (as_long c).devices ∙ at }) in
          let heard_so : IsToldFrom mem tally (run Calls x (limit - v.turn) v) t = subst (λ (f : Tally). IsToldFrom mem f (run Calls x (limit - v.turn) v) t) h.same.same.heard told in
          let here : IsToldFrom mem tally (run Calls x k v) t = subst (λ (n : ℕ). IsToldFrom mem tally (run Calls x (limit - n) v) t) (turn_reduced c) heard_so in
          let alike = reduced-run Calls x k c sane in
          let P : Run → Type 0 = λ r. IsToldFrom mem tally r t in
          subst P (sym (goes k c sane late)) (told_alike mem tally tally (run Calls x k v) (run Calls x k c) t (ap (heard tally) alike.notes) alike.end alike.last here)

      -- ---- states that it came to

      -- of each state that the bytes spell: the board has gone on from there
      abbrev pub IsPassed : Board X H → Tally → Checkpoint → Type 0
      IsPassed b tally m = (s : State) → IsSpelledBy x m.state.items s → (over ≤ s.turn) × HasHeard m.heard s b tally

      abbrev pub ArePassed : Board X H → Tally → Checkpoints → Type 0
      ArePassed b tally p = AllWithin (IsPassed b tally) p.states.items 0 p.count

      pub passed_more : (p : Checkpoints) (tally more : Tally) (b b' : Board X H) (to : ℕ) → turns_of b ≤ to →
          ((c : State) → Stands shown (with_script x script) b c → Stands shown (with_script x script) b' (run_from x script to c).last) →
          ((c : State) → Stands shown (with_script x script) b c → more ≡ heard tally (run_from x script to c).notes) → ArePassed b tally p → ArePassed b' more p
      passed_more p tally more b b' to le last told are = λ k d low lt s spelled.
          let one = are k d low lt s spelled in
          let h = one.1 in
          (one.0, heard_more (get_or p.states.items k d).heard tally more s b b' to spelled.sane h le (last (cut_at Calls (with_script x script) h.n s) h.stands) (told (cut_at Calls (with_script x script) h.n s) h.stands))

      -- with the state where the board stands
      pub passed_here : (old new : Checkpoints) (tally : Tally) (b : Board X H) (c : State) (stop : ℕ) → Stands shown (with_script x script) b c → sites c.devices ≡ sites x.devices → over ≤ stop →
          (new ≡ old) ⊎ HasPassed (with_script x script) c tally stop old new → ArePassed b tally old → ArePassed b tally new
      passed_here old new tally b c stop st at late (inl same) are = subst (ArePassed b tally) (sym same) are
      passed_here old new tally b c stop st at late (inr h) are =
          let one : IsPassed b tally h.meeting =
          λ s spelled.
          let stands = stands_spelled shown (with_script x script) b c s h.meeting.state.items st h.spelled spelled.spelled spelled.sane spelled.counted (spelled.sites ∙ sym at) in
          let turn : s.turn ≡ stop = sym stands.holds.turns ∙ st.holds.turns ∙ h.turn in
          (omega (arith, turn, late), subst (λ (f : Tally). HasHeard f s b tally) (sym h.heard) (heard_nothing tally s b stands)) in
          let all = AllWithin-more_set old.states.items old.count h.meeting h.inside (IsPassed b tally) are one in
          let P : List Checkpoint → Type 0 = λ items. AllWithin (IsPassed b tally) items 0 (old.count + 1) in
          let Q : ℕ → Type 0 = λ n. AllWithin (IsPassed b tally) new.states.items 0 n in
          subst Q (sym h.count) (subst P (sym h.states) all)

      -- and what is told where it stands is told of each
      pub now_led : (p : Checkpoints) (tally : Tally) (b : Board X H) (limit : ℕ) (mem : Bool) (t : Told) → turns_of b ≤ limit →
          ((c : State) → Stands shown (with_script x script) b c → IsToldFrom mem tally (run_from x script limit c) t) → ArePassed b tally p → IsLedBy x limit mem t p
      now_led p tally b limit mem t le told are = λ k d low lt s spelled.
          let one = are k d low lt s spelled in
          let h = one.1 in
          let front = (get_or p.states.items k d).heard in
          let since = told_since front tally s b limit mem t spelled.sane h le (told (cut_at Calls (with_script x script) h.n s) h.stands) in
          let P : Run → Type 0 = λ r. IsToldFrom mem front r t in
          subst P (goes (limit - s.turn) s spelled.sane one.0) since
