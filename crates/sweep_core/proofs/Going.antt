-- A run that goes on from a turn with an equivalent script.
use Rattle.std.proofs.Common.{◌≡◌, ◌∙◌, ℕ, ◌-◌, ◌≤◌, List, [], ◌++◌, length, Option, Some, None, refl, sym, ap, arith}
use Rattle.std.proofs.lemmas.List.Sums.{fold-append}
use Rattle.kernel_abi.specs.declared.Note.{Note}
use Rattle.run_script.specs.Scripts.{Listed, ScriptData, events_of, lasts}
use Rattle.task_table.specs.model.State.{State}
use Rattle.task_table.specs.model.Sane.{Sane}
use Rattle.board_model.specs.declared.outcomes.End.{End}
use Rattle.board_model.specs.declared.outcomes.End.TheVariants.{Bound}
use Rattle.board_model.specs.declared.outcomes.Level.TheVariants.{Calls}
use Rattle.board_model.specs.Alike.{reduced, seen}
use Rattle.board_model.specs.Cut.{cut_at, left_of}
use Rattle.board_model.specs.Laid.{laid, with_script}
use Rattle.board_model.specs.Run.{Run, run, ending, unless, ended_at, with_front}
use Rattle.board_model.specs.SameScripts.{EndAlike}
use Rattle.board_model.specs.Script.{Scenario, start_of}
use Rattle.board_model.proofs.AlikeRuns.{reduced-run}
use Rattle.board_model.proofs.Forks.{before, no_further}
use Rattle.board_model.proofs.RunCuts.{cut, sane-cut}
use Rattle.board_model.proofs.SameScripts.{same_run}
use Rattle.board_model.proofs.SameTurn.{first_turn, same_turn}
use Rattle.sweep_core.specs.declared.tally.Tally.{Tally}
use Rattle.sweep_core.specs.Outcomes.{heard, heard_note, nothing_heard}
use Rattle.sweep_core.specs.Sweeping.{IsAsGood}
use Rattle.board_run.proofs.Going.{kept_last}

-- notes that are heard in two parts
pub heard_parts : (t : Tally) (a b : List (ℕ × Note)) → heard t (a ++ b) ≡ heard (heard t a) b
heard_parts t a b = fold-append (λ (u : Tally) (n : ℕ × Note). heard_note u n.1) t a b

-- ---- no turn at all

none_noted : (s : State) (o : Option End) → (unless s o (ended_at s Bound)).notes ≡ []
none_noted s None = refl
none_noted s (Some e) = refl

pub stays : (x : Scenario) (s : State) → cut_at Calls x 0 s ≡ s
unfolding run
stays x s = kept_last s (ending x 0 s)

pub silent : (x : Scenario) (s : State) → (run Calls x 0 s).notes ≡ []
unfolding run
silent x s = none_noted s (ending x 0 s)

-- ---- scripts that are as good

pub as_good_run : (x : Scenario) (other script : ScriptData) (n : ℕ) (s : State) → Sane x.setup s → IsAsGood other script → run Calls (with_script x other) n s ≡ run Calls (with_script x script) n s
as_good_run x other script n s h good = same_run Calls (with_script x script) other n s h (record { events = λ turn le lt. good.events turn; last = λ turn le lt. good.last turn })

pub good_itself : (script other : ScriptData) → other ≡ script → IsAsGood other script
good_itself script other e = record {
  events = λ turn. ap (λ (s : ScriptData). events_of s turn) e;
  last = λ turn. ap (λ (s : ScriptData). lasts s turn) e;
  count = ap (λ (s : ScriptData). length s.events) e;
}

-- ---- on from a turn

module _ (x : Scenario) (script : ScriptData) (sane : Sane x.setup (start_of x)) where
  -- from states that are equal with births modulo 64
  alike : (k : ℕ) (u c : State) → Sane x.setup u → Sane x.setup c → reduced u ≡ reduced c → EndAlike (run Calls (with_script x script) k u) (run Calls (with_script x script) k c)
  alike k u c hu hc same =
      let y = with_script x script in
      let a = reduced-run Calls y k u hu in
      let b = reduced-run Calls y k c hc in
      let mid : run Calls y k (reduced u) ≡ run Calls y k (reduced c) = ap (λ (v : State). run Calls y k v) same in
      record {
        notes = sym a.notes ∙ ap (λ (r : Run). r.notes) mid ∙ b.notes;
        end = sym a.end ∙ ap (λ (r : Run). r.end) mid ∙ b.end;
        last = sym a.last ∙ ap (λ (r : Run). reduced r.last) mid ∙ b.last;
      }

  abbrev whole : ℕ → Run
  whole n = run Calls (with_script x script) n (start_of x)

  -- r is what the run of at most n turns has behind its first m
  pub record IsRest (m n : ℕ) (r : Run) : Type 0 where
    pub notes : (run Calls (with_script x script) n (start_of x)).notes ≡ (run Calls (with_script x script) m (start_of x)).notes ++ r.notes
    pub end : (run Calls (with_script x script) n (start_of x)).end ≡ r.end
    pub last : reduced r.last ≡ reduced (run Calls (with_script x script) n (start_of x)).last

  -- what was heard of both parts was heard of the whole
  pub heard_on : (m n : ℕ) (front : Tally) (r : Run) → front ≡ heard nothing_heard (run Calls (with_script x script) m (start_of x)).notes → IsRest m n r →
      heard front r.notes ≡ heard nothing_heard (run Calls (with_script x script) n (start_of x)).notes
  heard_on m n front r is rest =
      ap (λ (t : Tally). heard t r.notes) is
      ∙ sym (heard_parts nothing_heard (run Calls (with_script x script) m (start_of x)).notes r.notes)
      ∙ ap (λ (l : List (ℕ × Note)). heard nothing_heard l) (sym rest.notes)

  pub come_within : (m : ℕ) (u : State) → reduced u ≡ reduced (cut_at Calls (with_script x script) m (start_of x)) → u.turn ≤ m
  come_within m u same =
      let here = same_turn u (cut_at Calls (with_script x script) m (start_of x)) same in
      let far = no_further Calls (with_script x script) m (start_of x) sane in
      let zeroth = first_turn x in
      omega (arith, here, far, zeroth)

  pub goes_on : (other : ScriptData) (m n : ℕ) (u : State) → Sane x.setup u → IsAsGood other script → reduced u ≡ reduced (cut_at Calls (with_script x script) m (start_of x)) → m ≤ n →
      IsRest m n (run Calls (with_script x other) (n - u.turn) u)
  goes_on other m n u hu good same le =
      let y = with_script x script in
      let s = start_of x in
      let c = cut_at Calls y m s in
      let k : ℕ = n - u.turn in
      let hc = sane-cut Calls y m s sane in
      let here = same_turn u c same in
      let far = no_further Calls y m s sane in
      let zeroth = first_turn x in
      let left : left_of n s c ≡ k = omega (arith, here, zeroth) in
      let all : run Calls y n s ≡ with_front (run Calls y m s).notes (run Calls y k c) = cut Calls y m n s sane (omega (arith, far, le)) ∙ ap (λ j. with_front (run Calls y m s).notes (run Calls y j c)) left in
      let ends = alike k u c hu hc same in
      let o : run Calls (with_script x other) k u ≡ run Calls y k u = as_good_run x other script k u hu good in
      record {
        notes = ap (λ (r : Run). r.notes) all ∙ ap (λ (l : List (ℕ × Note)). (run Calls y m s).notes ++ l) (sym ends.notes ∙ ap (λ (r : Run). r.notes) (sym o));
        end = ap (λ (r : Run). r.end) all ∙ sym ends.end ∙ ap (λ (r : Run). r.end) (sym o);
        last = ap (λ (r : Run). reduced r.last) o ∙ ends.last ∙ ap (λ (r : Run). reduced r.last) (sym all);
      }

-- ---- before an arrival

-- up to a turn not behind it, the run of an arrival time is that of any other one not before that turn
pub one_before : (x : Scenario) (arrival : List Listed) (time later m : ℕ) → Sane x.setup (start_of x) → m ≤ time → m ≤ later →
    run Calls (with_script x (laid x.script arrival time)) m (start_of x) ≡ run Calls (with_script x (laid x.script arrival later)) m (start_of x)
one_before x arrival time later m sane le more =
    let zeroth = first_turn x in
    before Calls x arrival time later m (start_of x) sane (omega (arith, zeroth, le)) (omega (arith, zeroth, more))
