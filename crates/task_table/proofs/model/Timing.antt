-- Ticks, interrupts and lines, also those that devices drive, keep a state sane.
use Rattle.std.proofs.Common.{◌≡◌, ◌≢◌, ◌+◌, ◌<◌, ◌⊎◌, inl, inr, ℕ, zero, suc, Bool, true, false, cond, ◌&&◌, List, [], ◌∷◌, length, Option, Some, None, refl, sym, ◌∙◌, ap, arith, eqb, leb, get_or, set, IfSome}
use Rattle.std.specs.Prelude.{Contains, fold}
use Rattle.std.proofs.lemmas.Bool.{false≢true, eqb-true, leb-false}
use Rattle.std.proofs.lemmas.Bool.Decides.{eqb_tells}
use Rattle.kernel_abi.specs.Devices.{DeviceData}
use Rattle.kernel_abi.specs.declared.Handled.TheVariants.{Posted, Held}
use Rattle.kernel_abi.specs.declared.Note.TheVariants as note
use Rattle.kernel_abi.specs.declared.Timer.{Timer}
use Rattle.task_table.specs.declared.Line.{Line}
use Rattle.task_table.specs.model.State.{Setup, LineSetup, Task, State, Turn}
use Rattle.task_table.specs.model.Asking.{asks_at}
use Rattle.task_table.specs.model.Reading.{task_at, line_at, line_off, no_line}
use Rattle.task_table.specs.model.Effects.{noted, posted, with_timer, clocked, with_line}
use Rattle.task_table.specs.model.Events.{expired_by, expired, ticked, owner_of, interrupted_by, interrupted, driven_by, driven}
use Rattle.task_table.specs.model.Sane.{Sane, IsSaneBut, Every, Both, IsOwned}
use Rattle.task_table.proofs.model.Changes.{task_at-with_task}
use Rattle.task_table.proofs.model.Keeps.{found_in, keeps-lines, keeps-now}
use Rattle.task_table.proofs.model.Posting.{still, keeps-noted, keeps-timer, sane-posted}
use Rattle.task_table.proofs.model.Offering.{fold_keeps}

-- ## a tick

Upto : ℕ → ℕ → Type 0
Upto k i = i < k

-- the timer of one more task is known to be ahead
one_more : {g : Setup} {s : State} (k : ℕ) → IsSaneBut Every Every (Upto k) Both g s → IfSome (task_at s k).timer (λ x. s.now < x.deadline) → IsSaneBut Every Every (Upto (k + 1)) Both g s
unfolding Upto
one_more {s = s} k h here = record {
  steady = h.steady;
  well = h.well;
  present = h.present;
  unmet = h.unmet;
  unfit = h.unfit;
  ahead = λ j below lt. elim (eqb_tells j k) [ inl same ↦ rw same.1 here | inr other ↦ let ne : j ≢ k = other.1 in h.ahead j below (omega arith) ];
}

timer_gone : (i : ℕ) (t : Turn) → i < length t.state.tasks → (task_at (with_timer i None t).state i).timer ≡ None
unfolding with_timer
timer_gone i t inside = ap (λ (x : Task). x.timer) (task_at-with_task t.state i _ inside)

none_ahead : (now : ℕ) (o : Option Timer) → o ≡ None → IfSome o (λ x. now < x.deadline)
none_ahead now o e = rw e tt

sane-expired : {g : Setup} (k : ℕ) (t : Turn) → k < length t.state.tasks → IsSaneBut Every Every (Upto k) Both g t.state → IsSaneBut Every Every (Upto (k + 1)) Both g (expired t k).state
unfolding Upto
sane-expired {g} k t inside h = by_timer (task_at t.state k).timer refl
  where
    by_timer : (o : Option Timer) → (task_at t.state k).timer ≡ o → IsSaneBut Every Every (Upto (k + 1)) Both g (expired_by k o t).state
    by_timer None e = one_more k h (none_ahead _ _ e)
    by_timer (Some x) e = by_due (leb x.deadline t.state.now) refl
      where
        by_due : (b : Bool) → leb x.deadline t.state.now ≡ b → IsSaneBut Every Every (Upto (k + 1)) Both g (cond b (posted k x.bits (with_timer k None t)) t).state
        by_due true due =
            let h1 = keeps-timer k None t h inside (λ lt. tt) in
            let h2 = one_more k h1 (none_ahead _ _ (timer_gone k t inside)) in
            sane-posted k x.bits (with_timer k None t) h2 (still h h2 inside)
        by_due false later = one_more k h (rw e (leb-false _ _ later))

clock_started : {g : Setup} (t : Turn) → Sane g t.state → IsSaneBut Every Every (Upto 0) Both g (clocked t).state
unfolding clocked noted Upto
clock_started t h =
    let k = keeps-now (t.state.now + 1) h in
    record { steady = k.steady; well = k.well; present = k.present; unmet = k.unmet; unfit = k.unfit; ahead = λ i below lt. absurd (omega arith) }

pub sane-ticked : {g : Setup} (t : Turn) → Sane g t.state → Sane g (ticked t).state
unfolding ticked Upto
sane-ticked {g} t h =
    let n = length t.state.tasks in
    let all : IsSaneBut Every Every (Upto (0 + n)) Both g (ticked t).state =
    fold_keeps (λ k u. IsSaneBut Every Every (Upto k) Both g u.state) expired 0 n (clocked t) (clock_started t h) (λ k u from below v. sane-expired k u (still h v (omega arith)) v) in
    record {
      steady = all.steady;
      well = all.well;
      present = all.present;
      unmet = all.unmet;
      unfit = all.unfit;
      ahead = λ i below x. all.ahead i below (let many = all.steady.as_many in let before = h.steady.as_many in omega arith);
    }

-- ## lines

get_or_set_either : {X : Type 0} (xs : List X) (k j : ℕ) (x d : X) → (get_or (set xs k x) j d ≡ x) ⊎ (get_or (set xs k x) j d ≡ get_or xs j d)
get_or_set_either [] k j x d = inr refl
get_or_set_either (y ∷ ys) zero zero x d = inl refl
get_or_set_either (y ∷ ys) zero (suc j) x d = inr refl
get_or_set_either (y ∷ ys) (suc k) zero x d = inr refl
get_or_set_either (y ∷ ys) (suc k) (suc j) x d = get_or_set_either ys k j x d

get_or_set_which : {X : Type 0} (xs : List X) (k j : ℕ) (x d : X) → j ≢ k → get_or (set xs k x) j d ≡ get_or xs j d
get_or_set_which [] k j x d ne = refl
get_or_set_which (y ∷ ys) zero zero x d ne = absurd (ne refl)
get_or_set_which (y ∷ ys) zero (suc j) x d ne = refl
get_or_set_which (y ∷ ys) (suc k) zero x d ne = refl
get_or_set_which (y ∷ ys) (suc k) (suc j) x d ne = get_or_set_which ys k j x d (λ e. ne (ap suc e))

no_true : {A : Type 0} → false ≡ true → A
no_true e = absurd (false≢true e)

-- a line that is off may be pending where it is owned; one that is on is not pending
pub keeps-line : {M F T : ℕ → Type 0} {W : ℕ → ℕ → Type 0} {g : Setup} (k : ℕ) (line : Line) (t : Turn) → IsSaneBut M F T W g t.state → (line.pending ≡ true → (line.enabled ≡ false) × IsOwned g k) → IsSaneBut M F T W g (with_line k line t).state
unfolding with_line line_at
keeps-line k line t h owned = keeps-lines (set t.state.lines k line) h (λ j p. elim (eqb_tells j k) [
  | inl same ↦ elim (get_or_set_either t.state.lines k j line no_line) [
    | inl e ↦ let o = owned (ap (λ (l : Line). l.pending) (sym e) ∙ p) in (ap (λ (l : Line). l.enabled) e ∙ o.0, rw same.1 o.1)
    | inr e ↦ let o = h.steady.lines j (ap (λ (l : Line). l.pending) (sym e) ∙ p) in (ap (λ (l : Line). l.enabled) e ∙ o.0, o.1)
  ]
  | inr other ↦ let e = get_or_set_which t.state.lines k j line no_line other.1 in let o = h.steady.lines j (ap (λ (l : Line). l.pending) (sym e) ∙ p) in (ap (λ (l : Line). l.enabled) e ∙ o.0, o.1)
])

is_owner : (g : Setup) (k : ℕ) (o : LineSetup) → owner_of g k ≡ Some o → Contains g.lines o × (o.line ≡ k)
unfolding owner_of
is_owner g k o e = let r = found_in (λ (x : LineSetup). eqb x.line k) g.lines o e in (r.0, eqb-true _ _ r.1)

-- the owner of a line is a task
pub line_owner_there : {g : Setup} (o : LineSetup) (s : State) → Sane g s → Contains g.lines o → o.owner < length s.tasks
line_owner_there o s h here = rw h.steady.as_many (h.steady.placed.owners o here)

pub owner_there : {g : Setup} (k : ℕ) (o : LineSetup) (s : State) → Sane g s → owner_of g k ≡ Some o → o.owner < length s.tasks
owner_there {g} k o s h e = line_owner_there o s h (is_owner g k o e).0

sane-interrupted_by : {g : Setup} (k : ℕ) (o : LineSetup) (t : Turn) → Sane g t.state → Contains g.lines o → o.line ≡ k → Sane g (interrupted_by k (Some o) t).state
sane-interrupted_by {g} k o t h here same = by_line (line_at t.state k).enabled
  where
    by_line : (b : Bool) → Sane g (cond b (posted o.owner o.bits (with_line k (line_off false) (noted (note.Irq k Posted) t))) (with_line k (line_off true) (noted (note.Irq k Held) t))).state
    by_line true =
        let h1 = keeps-line k (line_off false) (noted (note.Irq k Posted) t) (keeps-noted _ t h) no_true in
        sane-posted o.owner o.bits (with_line k (line_off false) (noted (note.Irq k Posted) t)) h1 (still h h1 (line_owner_there o t.state h here))
    by_line false = keeps-line k (line_off true) (noted (note.Irq k Held) t) (keeps-noted _ t h) (λ p. (refl, (o, here, same)))

pub sane-interrupted : {g : Setup} (k : ℕ) (t : Turn) → Sane g t.state → Sane g (interrupted g k t).state
unfolding interrupted
sane-interrupted {g} k t h = by_owner (owner_of g k) refl
  where
    by_owner : (o : Option LineSetup) → owner_of g k ≡ o → Sane g (interrupted_by k o t).state
    by_owner None e = keeps-noted _ t h
    by_owner (Some o) e = let r = is_owner g k o e in sane-interrupted_by k o t h r.0 r.1

-- ## the lines that devices drive

-- one of them, whose device asks or not
pub sane-driven_by : {g : Setup} (asks : Bool) (o : LineSetup) (t : Turn) → Sane g t.state → Contains g.lines o → Sane g (cond ((line_at t.state o.line).enabled && asks) (interrupted_by o.line (Some o) t) t).state
sane-driven_by {g} asks o t h here = by_test ((line_at t.state o.line).enabled && asks)
  where
    by_test : (b : Bool) → Sane g (cond b (interrupted_by o.line (Some o) t) t).state
    by_test true = sane-interrupted_by o.line o t h here refl
    by_test false = h

sane-driven_all : {g : Setup} (ds : List DeviceData) (os : List LineSetup) (t : Turn) → Sane g t.state → ((o : LineSetup) → Contains os o → Contains g.lines o) → Sane g (fold (driven_by ds) t os).state
sane-driven_all ds [] t h here = h
sane-driven_all ds (o ∷ os) t h here = sane-driven_all ds os (driven_by ds t o) (sane-driven_by (asks_at ds o.device) o t h (here o (zero, omega arith, refl))) (λ x later. here x (suc later.0, omega (arith, later.1), later.2))

pub sane-driven : {g : Setup} (t : Turn) → Sane g t.state → Sane g (driven g t).state
unfolding driven
sane-driven {g} t h = sane-driven_all t.state.devices g.lines t h (λ o here. here)
