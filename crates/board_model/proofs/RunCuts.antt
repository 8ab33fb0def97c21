-- A run that is cut at a turn, and goes on.
use Rattle.std.proofs.Common.{◌≡◌, ◌∙◌, ℕ, zero, suc, ◌+◌, ◌-◌, ◌≤◌, Bool, true, false, cond, eqb, leb, List, [], ◌∷◌, ◌++◌, Option, Some, None, refl, sym, ap, subst, append_assoc, arith}
use Rattle.std.specs.Prelude.{filter}
use Rattle.std.proofs.lemmas.Bool.{lt-leb, le-leb}
use Rattle.std.proofs.lemmas.Bool.Decides.{nat_tests}
use Rattle.kernel_abi.specs.declared.Note.{Note}
use Rattle.task_table.specs.model.State.{State}
use Rattle.task_table.specs.model.Sane.{Sane}
use Rattle.board_model.specs.declared.outcomes.Level.{Level}
use Rattle.board_model.specs.declared.outcomes.Level.TheVariants.{Calls, All}
use Rattle.board_model.specs.declared.outcomes.End.{End}
use Rattle.board_model.specs.declared.outcomes.End.TheVariants.{Bound, Still}
use Rattle.board_model.specs.Script.{Scenario}
use Rattle.board_model.specs.Turn.{turn}
use Rattle.board_model.specs.Run.{Run, run, ending, end_by, is_down, is_still, unless, ended_at, with_front, at_turn}
use Rattle.board_model.proofs.Counts.{turn_more}
use Rattle.board_model.proofs.TurnChains.{sane-after}
use Rattle.board_model.proofs.AlikeRuns.{less_noted-run}
use Rattle.board_model.proofs.RunKeeps.{sane_run}
use Rattle.board_model.specs.Cut.{cut_at, left_of, from_turn}

-- ## a run by its first turn

ends : (level : Level) (x : Scenario) (n : ℕ) (s : State) (e : End) → ending x n s ≡ Some e → run level x n s ≡ ended_at s e
unfolding run
ends level x zero s e is = ap (λ (o : Option End). unless s o (ended_at s Bound)) is
ends level x (suc n) s e is = ap (λ (o : Option End). unless s o (with_front (at_turn s.turn (turn level x s).notes) (run level x n (turn level x s).state))) is

goes : (level : Level) (x : Scenario) (n : ℕ) (s : State) → ending x (suc n) s ≡ None → run level x (suc n) s ≡ with_front (at_turn s.turn (turn level x s).notes) (run level x n (turn level x s).state)
unfolding run
goes level x n s is = ap (λ (o : Option End). unless s o (with_front (at_turn s.turn (turn level x s).notes) (run level x n (turn level x s).state))) is

stops : (level : Level) (x : Scenario) (s : State) → (e : End) × (run level x 0 s ≡ ended_at s e)
unfolding run
stops level x s = by (ending x 0 s)
  where
    by : (o : Option End) → (e : End) × (unless s o (ended_at s Bound) ≡ ended_at s e)
    by (Some e) = (e, refl)
    by None = (Bound, refl)

-- with a turn left the bound does not count
same_tests : (down still : Bool) (n m : ℕ) → end_by down (suc n) still ≡ end_by down (suc m) still
same_tests true still n m = refl
same_tests false still n m =
    let some : eqb (suc n) 0 ≡ false = grind (arith, nat_tests) in
    let more : eqb (suc m) 0 ≡ false = grind (arith, nat_tests) in
    ap (λ (b : Bool). cond b (Some Bound) (cond still (Some Still) None)) (some ∙ sym more)

goes_too : (x : Scenario) (s : State) (n m : ℕ) → ending x (suc n) s ≡ None → ending x (suc m) s ≡ None
unfolding ending
goes_too x s n m is = same_tests (is_down s) (is_still x s) m n ∙ is

-- what holds of a run, by whether it ends at once or makes a turn
by_none : (level : Level) (x : Scenario) (s : State) (P : Run → Type 0) → ((e : End) → P (ended_at s e)) → P (run level x 0 s)
by_none level x s P here = let e = stops level x s in subst P (sym e.1) (here e.0)

by_turn : (level : Level) (x : Scenario) (n : ℕ) (s : State) (P : Run → Type 0) → ((e : End) → P (ended_at s e)) →
    (ending x (suc n) s ≡ None → P (with_front (at_turn s.turn (turn level x s).notes) (run level x n (turn level x s).state))) → P (run level x (suc n) s)
by_turn level x n s P here more = by (ending x (suc n) s) refl
  where
    by : (o : Option End) → ending x (suc n) s ≡ o → P (run level x (suc n) s)
    by (Some e) is = subst P (sym (ends level x (suc n) s e is)) (here e)
    by None is = subst P (sym (goes level x n s is)) (more is)

pub fronts : (a b : List (ℕ × Note)) (r : Run) → with_front a (with_front b r) ≡ with_front (a ++ b) r
fronts a b r = ap (λ (ns : List (ℕ × Note)). record r { notes = ns }) (sym (append_assoc a b r.notes))

-- ## where it comes to

pub sane-cut : (level : Level) (x : Scenario) (n : ℕ) (s : State) → Sane x.setup s → Sane x.setup (cut_at level x n s)
sane-cut level x n s h = sane_run level x n s h

later : (level : Level) (x : Scenario) (n : ℕ) (s : State) → Sane x.setup s → s.turn ≤ (cut_at level x n s).turn
later level x zero s h = by_none level x s (λ r. s.turn ≤ r.last.turn) (λ e. omega arith)
later level x (suc n) s h =
    let next = later level x n (turn level x s).state (sane-after level x s h) in
    let more = turn_more level x s h in
    by_turn level x n s (λ r. s.turn ≤ r.last.turn) (λ e. omega arith) (λ is. omega (arith, next, more))

-- ## cut and gone on

abbrev Whole : Level → Scenario → ℕ → State → Run → Type 0
Whole level x m s r = r.last.turn ≤ s.turn + m → run level x m s ≡ with_front r.notes (run level x (left_of m s r.last) r.last)

at_once : (level : Level) (x : Scenario) (m : ℕ) (s : State) (e : End) → Whole level x m s (ended_at s e)
at_once level x m s e le = let all : m ≡ s.turn + m - s.turn = omega arith in ap (λ (k : ℕ). run level x k s) all

-- behind one turn more
one_more : (level : Level) (x : Scenario) (n m : ℕ) (s : State) (r : Run) → ending x (suc n) s ≡ None → (turn level x s).state.turn ≡ s.turn + 1 → (turn level x s).state.turn ≤ r.last.turn →
    ((m : ℕ) → Whole level x m (turn level x s).state r) → Whole level x m s (with_front (at_turn s.turn (turn level x s).notes) r)
one_more level x n zero s r is more next rest le = absurd (omega (arith, le, next, more))
one_more level x n (suc m) s r is more next rest le =
    let t = (turn level x s).state in
    let front = at_turn s.turn (turn level x s).notes in
    let left : t.turn + m - r.last.turn ≡ s.turn + suc m - r.last.turn = omega (arith, more) in
    goes level x m s (goes_too x s n m is) ∙ ap (with_front front) (rest m (omega (arith, le, more))) ∙ fronts front r.notes (run level x (t.turn + m - r.last.turn) r.last)
    ∙ ap (λ (k : ℕ). with_front (front ++ r.notes) (run level x k r.last)) left

pub cut : (level : Level) (x : Scenario) (n m : ℕ) (s : State) → Sane x.setup s → Whole level x m s (run level x n s)
cut level x zero m s h = by_none level x s (Whole level x m s) (λ e. at_once level x m s e)
cut level x (suc n) m s h =
    let t = (turn level x s).state in
    let sane = sane-after level x s h in
    by_turn level x n s (Whole level x m s) (λ e. at_once level x m s e)
    (λ is. one_more level x n m s (run level x n t) is (turn_more level x s h) (later level x n t sane) (λ k. cut level x n k t sane))

-- ## turns that were made

abbrev Reaches : Level → Scenario → ℕ → State → Run → Type 0
Reaches level x k s r = s.turn + k ≤ r.last.turn → (cut_at level x k s).turn ≡ s.turn + k

reach_more : (level : Level) (x : Scenario) (n k : ℕ) (s : State) (r : Run) → ending x (suc n) s ≡ None → (turn level x s).state.turn ≡ s.turn + 1 →
    ((k : ℕ) → Reaches level x k (turn level x s).state r) → Reaches level x k s (with_front (at_turn s.turn (turn level x s).notes) r)
reach_more level x n zero s r is more rest le = by_none level x s (λ q. q.last.turn ≡ s.turn + 0) (λ e. omega arith)
reach_more level x n (suc k) s r is more rest le =
    let next = rest k (omega (arith, le, more)) in
    ap (λ (q : Run). q.last.turn) (goes level x k s (goes_too x s n k is)) ∙ omega (arith, next, more)

reach_none : (level : Level) (x : Scenario) (k : ℕ) (s : State) (e : End) → Reaches level x k s (ended_at s e)
reach_none level x zero s e le = by_none level x s (λ q. q.last.turn ≡ s.turn + 0) (λ e. omega arith)
reach_none level x (suc k) s e le = absurd (omega (arith, le))

-- a run that comes to a turn comes to each turn before, with a bound of just so many
pub reached : (level : Level) (x : Scenario) (n k : ℕ) (s : State) → Sane x.setup s → Reaches level x k s (run level x n s)
reached level x zero k s h = by_none level x s (Reaches level x k s) (λ e. reach_none level x k s e)
reached level x (suc n) k s h =
    let t = (turn level x s).state in
    by_turn level x n s (Reaches level x k s) (λ e. reach_none level x k s e)
    (λ is. reach_more level x n k s (run level x n t) is (turn_more level x s h) (λ j. reached level x n j t (sane-after level x s h)))

-- ## the notes before and after

-- all notes of a turn are of it
of_turn : (n : ℕ) (notes : List Note) (p : ℕ → Bool) (b : Bool) → p n ≡ b → (rest : List (ℕ × Note)) → filter (λ y. p y.0) (at_turn n notes ++ rest) ≡ cond b (at_turn n notes) [] ++ filter (λ y. p y.0) rest
of_turn n [] p true e rest = refl
of_turn n [] p false e rest = refl
of_turn n (x ∷ xs) p true e rest = rw e (ap (λ l. (n, x) ∷ l) (of_turn n xs p true e rest))
of_turn n (x ∷ xs) p false e rest = rw e (of_turn n xs p false e rest)

abbrev from : ℕ → List (ℕ × Note) → List (ℕ × Note)
from k notes = filter (λ y. leb k y.0) notes

abbrev NoneFrom : ℕ → Run → Type 0
NoneFrom k r = r.last.turn ≤ k → (rest : List (ℕ × Note)) → from k (r.notes ++ rest) ≡ from k rest

-- none of its notes is of a later turn than those that it made
pub before_cut : (level : Level) (x : Scenario) (n : ℕ) (s : State) (k : ℕ) → Sane x.setup s → NoneFrom k (run level x n s)
before_cut level x zero s k h = by_none level x s (NoneFrom k) (λ e le rest. refl)
before_cut level x (suc n) s k h =
    let t = (turn level x s).state in
    let sane = sane-after level x s h in
    let next = later level x n t sane in
    let more = turn_more level x s h in
    let r = run level x n t in
    let front = at_turn s.turn (turn level x s).notes in
    by_turn level x n s (NoneFrom k) (λ e le rest. refl)
    (λ is le rest.
    let early : leb k s.turn ≡ false = lt-leb _ _ (omega (arith, le, next, more)) in
    ap (from k) (append_assoc front r.notes rest) ∙ of_turn s.turn (turn level x s).notes (leb k) false early (r.notes ++ rest) ∙ before_cut level x n t k sane le rest)

abbrev AllFrom : ℕ → Run → Type 0
AllFrom k r = from k r.notes ≡ r.notes

-- all of its notes are of turns from the first one on
pub after_start : (level : Level) (x : Scenario) (n : ℕ) (s : State) (k : ℕ) → Sane x.setup s → k ≤ s.turn → AllFrom k (run level x n s)
after_start level x zero s k h le = by_none level x s (AllFrom k) (λ e. refl)
after_start level x (suc n) s k h le =
    let t = (turn level x s).state in
    let more = turn_more level x s h in
    let there : leb k s.turn ≡ true = le-leb _ _ le in
    by_turn level x n s (AllFrom k) (λ e. refl)
    (λ is. of_turn s.turn (turn level x s).notes (leb k) true there (run level x n t).notes
    ∙ ap (λ l. at_turn s.turn (turn level x s).notes ++ l) (after_start level x n t k (sane-after level x s h) (omega (arith, more, le))))

-- ## what is left of a run behind a cut

same_level : (level : Level) (x : Scenario) (n : ℕ) (s : State) → cut_at level x n s ≡ cut_at All x n s
same_level All x n s = refl
same_level Calls x n s = ap (λ (r : Run). r.last) (less_noted-run x n s)

rest_here : (level : Level) (x : Scenario) (n m : ℕ) (s : State) → Sane x.setup s → (cut_at level x n s).turn ≤ s.turn + m →
    run level x (left_of m s (cut_at level x n s)) (cut_at level x n s) ≡ from_turn (cut_at level x n s).turn (run level x m s)
rest_here level x n m s h le =
    let u = cut_at level x n s in
    let left = run level x (left_of m s u) u in
    let all : run level x m s ≡ with_front (run level x n s).notes left = cut level x n m s h le in
    let none : from u.turn ((run level x n s).notes ++ left.notes) ≡ from u.turn left.notes = before_cut level x n s u.turn h (omega arith) left.notes in
    let each : from u.turn left.notes ≡ left.notes = after_start level x (left_of m s u) u u.turn (sane-cut level x n s h) (omega arith) in
    ap (λ ns. record left { notes = ns }) (sym each ∙ sym none) ∙ ap (from_turn u.turn) (sym all)

pub rest_of_run : (level before : Level) (x : Scenario) (n m : ℕ) (s : State) → Sane x.setup s → (cut_at before x n s).turn ≤ s.turn + m →
    run level x (left_of m s (cut_at before x n s)) (cut_at before x n s) ≡ from_turn (cut_at before x n s).turn (run level x m s)
rest_of_run level before x n m s h le =
    let same : cut_at level x n s ≡ cut_at before x n s = same_level level x n s ∙ sym (same_level before x n s) in
    let here : (cut_at level x n s).turn ≤ s.turn + m = subst (λ (u : State). u.turn ≤ s.turn + m) (sym same) le in
    subst (λ (u : State). run level x (left_of m s u) u ≡ from_turn u.turn (run level x m s)) same (rest_here level x n m s h here)
