-- The run of an arrival time goes on from that of a later one; and runs of two arrival times that meet end alike.
use Rattle.std.proofs.Common.{◌≡◌, ◌∙◌, ℕ, zero, suc, ◌+◌, ◌≤◌, true, List, Option, Some, None, sym, ap, arith}
use Rattle.run_script.specs.Scripts.{Listed}
use Rattle.task_table.specs.model.State.{State}
use Rattle.task_table.specs.model.Sane.{Sane}
use Rattle.board_model.specs.declared.outcomes.Level.{Level}
use Rattle.board_model.specs.declared.outcomes.End.{End}
use Rattle.board_model.specs.declared.outcomes.End.TheVariants.{Bound}
use Rattle.board_model.specs.Alike.{reduced}
use Rattle.board_model.specs.Script.{Scenario}
use Rattle.board_model.specs.Turn.{turn}
use Rattle.board_model.specs.Run.{Run, run, ending, unless, ended_at, with_front, at_turn}
use Rattle.board_model.specs.Cut.{cut_at, left_of}
use Rattle.board_model.proofs.Counts.{turn_more}
use Rattle.board_model.proofs.TurnChains.{sane-after}
use Rattle.board_model.proofs.AlikeRuns.{reduced-run}
use Rattle.board_model.proofs.RunCuts.{cut}
use Rattle.board_model.specs.Laid.{laid, arriving, is_over}
use Rattle.board_model.specs.SameScripts.{EndAlike}
use Rattle.board_model.proofs.SameScripts.{same_run}
use Rattle.board_model.proofs.Laid.{agree_before, agree_after}

pub before : (level : Level) (x : Scenario) (arrival : List Listed) (time later n : ℕ) (s : State) → Sane x.setup s → s.turn + n ≤ time → s.turn + n ≤ later → run level (arriving x arrival time) n s ≡ run level (arriving x arrival later) n s
before level x arrival time later n s h le more = same_run level (arriving x arrival later) (laid x.script arrival time) n s h (agree_before x.script arrival time later s.turn n le more)

pub after : (level : Level) (x : Scenario) (arrival : List Listed) (time n : ℕ) (s : State) → Sane x.setup s → is_over arrival time s.turn ≡ true → run level (arriving x arrival time) n s ≡ run level x n s
after level x arrival time n s h over = same_run level x (laid x.script arrival time) n s h (agree_after x.script arrival time s.turn n over)

-- ## a run of n turns comes no further than n turns

last_by : (s : State) (o : Option End) (r : Run) (k : ℕ) → s.turn ≤ k → r.last.turn ≤ k → (unless s o r).last.turn ≤ k
last_by s (Some e) r k here more = here
last_by s None r k here more = more

pub no_further : (level : Level) (x : Scenario) (n : ℕ) (s : State) → Sane x.setup s → (cut_at level x n s).turn ≤ s.turn + n
unfolding run
no_further level x zero s h = last_by s (ending x 0 s) (ended_at s Bound) (s.turn + 0) (omega arith) (omega arith)
no_further level x (suc n) s h =
    let t = (turn level x s).state in
    let rest = no_further level x n t (sane-after level x s h) in
    let more = turn_more level x s h in
    last_by s (ending x (suc n) s) (with_front (at_turn s.turn (turn level x s).notes) (run level x n t)) (s.turn + suc n) (omega arith) (omega (arith, rest, more))

-- ## from a state before both arrival times

pub fork : (level : Level) (x : Scenario) (arrival : List Listed) (time later m n : ℕ) (s : State) → Sane x.setup s → m ≤ n → s.turn + m ≤ time → s.turn + m ≤ later →
    let c = cut_at level (arriving x arrival later) m s in
    run level (arriving x arrival time) n s ≡ with_front (run level (arriving x arrival later) m s).notes (run level (arriving x arrival time) (left_of n s c) c)
fork level x arrival time later m n s h few le more =
    let y = arriving x arrival time in
    let same : run level y m s ≡ run level (arriving x arrival later) m s = before level x arrival time later m s h le more in
    let far = no_further level y m s h in
    let whole = cut level y m n s h (omega (arith, far, few)) in
    whole ∙ ap (λ (r : Run). with_front r.notes (run level y (left_of n s r.last) r.last)) same

-- ## where they meet

pub meet : (level : Level) (x : Scenario) (arrival : List Listed) (time other n : ℕ) (s u : State) → Sane x.setup s → Sane x.setup u → reduced s ≡ reduced u →
    is_over arrival time s.turn ≡ true → is_over arrival other u.turn ≡ true → EndAlike (run level (arriving x arrival time) n s) (run level (arriving x arrival other) n u)
meet level x arrival time other n s u hs hu same over over_too =
    let a = reduced-run level x n s hs in
    let b = reduced-run level x n u hu in
    let r : run level (arriving x arrival time) n s ≡ run level x n s = after level x arrival time n s hs over in
    let q : run level (arriving x arrival other) n u ≡ run level x n u = after level x arrival other n u hu over_too in
    let mid : run level x n (reduced s) ≡ run level x n (reduced u) = ap (λ (v : State). run level x n v) same in
    record {
      notes = ap (λ (k : Run). k.notes) r ∙ sym a.notes ∙ ap (λ (k : Run). k.notes) mid ∙ b.notes ∙ sym (ap (λ (k : Run). k.notes) q);
      end = ap (λ (k : Run). k.end) r ∙ sym a.end ∙ ap (λ (k : Run). k.end) mid ∙ b.end ∙ sym (ap (λ (k : Run). k.end) q);
      last = ap (λ (k : Run). reduced k.last) r ∙ sym a.last ∙ ap (λ (k : Run). reduced k.last) mid ∙ b.last ∙ sym (ap (λ (k : Run). reduced k.last) q);
    }
