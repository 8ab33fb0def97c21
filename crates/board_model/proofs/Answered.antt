-- Behind the events of a turn no enabled line is asked for, if none was before.
use Rattle.std.proofs.Common.{◌≡◌, ◌≢◌, ◌%◌, ◌&&◌, ◌⊎◌, inl, inr, subst, ℕ, zero, suc, Bool, true, false, cond, List, [], ◌∷◌, ◌++◌, Option, Some, None, refl, sym, ◌∙◌, ap, arith, get_or, set, get_or-set_other}
use Rattle.std.specs.Prelude.{Contains, fold}
use Rattle.std.proofs.lemmas.Bool.{false≢true}
use Rattle.std.proofs.lemmas.Bool.Decides.{eqb_tells}
use Rattle.std.proofs.lemmas.List.Elements.{Contains-append_left, Contains-push}
use Rattle.kernel_abi.specs.Devices.{DeviceData}
use Rattle.kernel_abi.specs.declared.Handled.TheVariants.{Posted, Held, Unowned}
use Rattle.kernel_abi.specs.declared.Note.{Note}
use Rattle.kernel_abi.specs.declared.Note.TheVariants as note
use Rattle.run_script.specs.declared.events.Event.{Event}
use Rattle.run_script.specs.declared.events.Event.TheVariants.{Tick, Irq, Feed}
use Rattle.run_script.specs.Scripts.{events_of}
use Rattle.task_table.specs.declared.Line.{Line}
use Rattle.task_table.specs.model.State.{Setup, LineSetup, State, Turn}
use Rattle.task_table.specs.model.Asking.{asks_at, is_asked}
use Rattle.task_table.specs.model.Reading.{line_at, no_line, line_off, line_on}
use Rattle.task_table.specs.model.Effects.{noted, posted, with_line, with_devices}
use Rattle.task_table.specs.model.Events.{ticked, owner_of, interrupted_by, interrupted, fed, driven_by, driven}
use Rattle.task_table.specs.model.Start.{begun}
use Rattle.task_table.proofs.model.Moves.{aside-posted}
use Rattle.task_table.proofs.model.Outside.{devices-ticked, aside-interrupted, aside-driven}
use Rattle.board_model.specs.Script.{Scenario}
use Rattle.board_model.specs.Turn.{happened, after_events}
use Rattle.board_model.specs.Asked.{AreAnswered}
use Rattle.board_model.proofs.LinesKept.{HasLines, has-posted, has-ticked}

-- ## lines that devices drive

-- the lines of a list, where these are the devices
abbrev AreUnasked : List DeviceData → List LineSetup → State → Type 0
AreUnasked ds lines s = (o : LineSetup) → Contains lines o → (line_at s o.line).enabled ≡ true → asks_at ds o.device ≡ false

unasked_rest : (ds : List DeviceData) (o : LineSetup) (lines : List LineSetup) (s : State) → AreUnasked ds (o ∷ lines) s → AreUnasked ds lines s
unasked_rest ds o lines s h p here = h p (suc here.0, omega (arith, here.1), here.2)

-- where none is asked for, nothing happens
driven_by_unasked : (ds : List DeviceData) (o : LineSetup) (t : Turn) → ((line_at t.state o.line).enabled ≡ true → asks_at ds o.device ≡ false) → driven_by ds t o ≡ t
driven_by_unasked ds o t h = by_tests (line_at t.state o.line).enabled (asks_at ds o.device) (interrupted_by o.line (Some o) t) h
  where
    by_tests : (e a : Bool) (u : Turn) → (e ≡ true → a ≡ false) → cond (e && a) u t ≡ t
    by_tests true a u unasked = ap (λ (b : Bool). cond b u t) (unasked refl)
    by_tests false a u unasked = refl

all_unasked : (ds : List DeviceData) (lines : List LineSetup) (t : Turn) → AreUnasked ds lines t.state → fold (driven_by ds) t lines ≡ t
all_unasked ds [] t h = refl
all_unasked ds (o ∷ lines) t h =
    ap (λ (u : Turn). fold (driven_by ds) u lines) (driven_by_unasked ds o t (h o (zero, omega arith, refl)))
    ∙ all_unasked ds lines t (unasked_rest ds o lines t.state h)

pub driven_unasked : (g : Setup) (t : Turn) → AreAnswered g t.state → driven g t ≡ t
unfolding driven
driven_unasked g t h = all_unasked t.state.devices g.lines t h

-- ## lines, one by one

-- a line that is turned off, with or without an interrupt pending, enables none, and is off
off_enables : (ls : List Line) (k j : ℕ) (p : Bool) → (get_or (set ls k (line_off p)) j no_line).enabled ≡ true → (get_or ls j no_line).enabled ≡ true
off_enables [] k j p on = on
off_enables (l ∷ ls) zero zero p on = absurd (false≢true on)
off_enables (l ∷ ls) zero (suc j) p on = on
off_enables (l ∷ ls) (suc k) zero p on = on
off_enables (l ∷ ls) (suc k) (suc j) p on = off_enables ls k j p on

off_here : (ls : List Line) (k : ℕ) (p : Bool) → (get_or (set ls k (line_off p)) k no_line).enabled ≡ false
off_here [] k p = refl
off_here (l ∷ ls) zero p = refl
off_here (l ∷ ls) (suc k) p = off_here ls k p

pub on_enables : (ls : List Line) (k j : ℕ) → (get_or (set ls k line_on) j no_line).enabled ≡ true → (j ≡ k) ⊎ ((get_or ls j no_line).enabled ≡ true)
on_enables [] k j on = inr on
on_enables (l ∷ ls) zero zero on = inl refl
on_enables (l ∷ ls) zero (suc j) on = inr on
on_enables (l ∷ ls) (suc k) zero on = inr on
on_enables (l ∷ ls) (suc k) (suc j) on = elim (on_enables ls k j on) [ inl same ↦ inl (ap suc same) | inr old ↦ inr old ]

-- each line that is enabled was so before
pub record EnablesNone (s u : State) : Type 0 where
  pub enabled : (k : ℕ) → (line_at u k).enabled ≡ true → (line_at s k).enabled ≡ true

pub none_here : (s : State) → EnablesNone s s
none_here s = record { enabled = λ k on. on }

none_then : (s u v : State) → EnablesNone s u → EnablesNone u v → EnablesNone s v
none_then s u v a b = record { enabled = λ k on. a.enabled k (b.enabled k on) }

pub none_same : (s u : State) → u.lines ≡ s.lines → EnablesNone s u
unfolding line_at
none_same s u e = record { enabled = λ k on. ap (λ (ls : List Line). (get_or ls k no_line).enabled) (sym e) ∙ on }

pub none_by : (s u : State) (k : ℕ) (p : Bool) → u.lines ≡ set s.lines k (line_off p) → EnablesNone s u
unfolding line_at
none_by s u k p e = record { enabled = λ j on. off_enables s.lines k j p (ap (λ (ls : List Line). (get_or ls j no_line).enabled) (sym e) ∙ on) }

off_by : (s u : State) (k : ℕ) (p : Bool) → u.lines ≡ set s.lines k (line_off p) → (line_at u k).enabled ≡ false
unfolding line_at
off_by s u k p e = ap (λ (ls : List Line). (get_or ls k no_line).enabled) e ∙ off_here s.lines k p

other_by : (s u : State) (k j : ℕ) (p : Bool) → u.lines ≡ set s.lines k (line_off p) → j ≢ k → (line_at s j).enabled ≡ true → (line_at u j).enabled ≡ true
unfolding line_at
other_by s u k j p e apart on =
    ap (λ (ls : List Line). (get_or ls j no_line).enabled) e ∙ ap (λ (l : Line). l.enabled) (get_or-set_other s.lines k j (line_off p) no_line apart) ∙ on

answered_by : (g : Setup) (s u : State) → EnablesNone s u → u.devices ≡ s.devices → AreAnswered g s → AreAnswered g u
answered_by g s u none same h = λ o here on. ap (λ (ds : List DeviceData). asks_at ds o.device) same ∙ h o here (none.enabled o.line on)

-- ## an interrupt

-- it posts, or it is held
posts_lines : (k owner bits : ℕ) (t : Turn) → (posted owner bits (with_line k (line_off false) (noted (note.Irq k Posted) t))).state.lines ≡ set t.state.lines k (line_off false)
unfolding with_line noted
posts_lines k owner bits t =
    let off = with_line k (line_off false) (noted (note.Irq k Posted) t) in
    let here : HasLines off.state.lines off = record { lines = refl } in
    (has-posted owner bits here).lines

-- what was noted stays, and that it posts is noted
posts_notes : (k owner bits : ℕ) (t : Turn) → let u = posted owner bits (with_line k (line_off false) (noted (note.Irq k Posted) t)) in
    ((n : Note) → Contains t.notes n → Contains u.notes n) × Contains u.notes (note.Irq k Posted)
unfolding with_line noted
posts_notes k owner bits t =
    let off = with_line k (line_off false) (noted (note.Irq k Posted) t) in
    let aside = (aside-posted owner bits off).outside in
    let irq = note.Irq k Posted in
    let later : (n : Note) → Contains (t.notes ++ irq ∷ []) n → Contains (posted owner bits off).notes n =
    λ n here. subst (λ (ns : List Note). Contains ns n) (sym aside.notes) (Contains-append_left (t.notes ++ irq ∷ []) aside.new n here) in
    (λ n here. later n (Contains-append_left t.notes (irq ∷ []) n here), later irq (Contains-push t.notes irq))

held_lines : (k : ℕ) (t : Turn) → (with_line k (line_off true) (noted (note.Irq k Held) t)).state.lines ≡ set t.state.lines k (line_off true)
unfolding with_line noted
held_lines k t = refl

unowned_lines : (k : ℕ) (t : Turn) → (noted (note.Irq k Unowned) t).state.lines ≡ t.state.lines
unfolding noted
unowned_lines k t = refl

none_interrupted : (g : Setup) (k : ℕ) (t : Turn) → EnablesNone t.state (interrupted g k t).state
unfolding interrupted
none_interrupted g k t = by_owner (owner_of g k)
  where
    by_owner : (o : Option LineSetup) → EnablesNone t.state (interrupted_by k o t).state
    by_owner None = none_same t.state _ (unowned_lines k t)
    by_owner (Some o) = by_line (line_at t.state k).enabled
      where
        by_line : (b : Bool) → EnablesNone t.state (cond b (posted o.owner o.bits (with_line k (line_off false) (noted (note.Irq k Posted) t))) (with_line k (line_off true) (noted (note.Irq k Held) t))).state
        by_line true = none_by t.state _ k false (posts_lines k o.owner o.bits t)
        by_line false = none_by t.state _ k true (held_lines k t)

-- Line o is off after it was driven, or its device does not ask. If it was on and its device asks, it has posted. Each
-- other line that was on still is, or it has posted too.
record IsDriven (ds : List DeviceData) (o : LineSetup) (t u : Turn) : Type 0 where
  none : EnablesNone t.state u.state
  unasked : (line_at u.state o.line).enabled ≡ true → asks_at ds o.device ≡ false
  notes : (n : Note) → Contains t.notes n → Contains u.notes n
  posted : (line_at t.state o.line).enabled ≡ true → asks_at ds o.device ≡ true → Contains u.notes (note.Irq o.line Posted)
  others : (k : ℕ) → (line_at t.state k).enabled ≡ true → ((line_at u.state k).enabled ≡ true) ⊎ Contains u.notes (note.Irq k Posted)

drives_one : (ds : List DeviceData) (o : LineSetup) (t : Turn) → IsDriven ds o t (driven_by ds t o)
drives_one ds o t = by_tests (line_at t.state o.line).enabled (asks_at ds o.device) refl refl
  where
    posts : Turn
    posts = posted o.owner o.bits (with_line o.line (line_off false) (noted (note.Irq o.line Posted) t))

    held : Turn
    held = with_line o.line (line_off true) (noted (note.Irq o.line Held) t)

    lines : posts.state.lines ≡ set t.state.lines o.line (line_off false)
    lines = posts_lines o.line o.owner o.bits t

    by_tests : (e a : Bool) → (line_at t.state o.line).enabled ≡ e → asks_at ds o.device ≡ a → IsDriven ds o t (cond (e && a) (cond e posts held) t)
    by_tests true true is asked =
        let told = posts_notes o.line o.owner o.bits t in
        record {
          none = none_by t.state posts.state o.line false lines;
          unasked = λ on. absurd (false≢true (sym (off_by t.state posts.state o.line false lines) ∙ on));
          notes = told.0;
          posted = λ on asks. told.1;
          others = λ k on. elim (eqb_tells k o.line) [ inl same ↦ inr (subst (λ (j : ℕ). Contains posts.notes (note.Irq j Posted)) (sym same.1) told.1) | inr apart ↦ inl (other_by t.state posts.state o.line k false lines apart.1 on) ];
        }
    by_tests true false is asked = record { none = none_here t.state; unasked = λ on. asked; notes = λ n here. here; posted = λ on asks. absurd (false≢true (sym asked ∙ asks)); others = λ k on. inl on }
    by_tests false a is asked = record { none = none_here t.state; unasked = λ on. absurd (false≢true (sym is ∙ on)); notes = λ n here. here; posted = λ on asks. absurd (false≢true (sym is ∙ on)); others = λ k on. inl on }

drives_all : (ds : List DeviceData) (lines : List LineSetup) (t : Turn) → EnablesNone t.state (fold (driven_by ds) t lines).state × AreUnasked ds lines (fold (driven_by ds) t lines).state
drives_all ds [] t = (none_here t.state, λ o here. absurd (omega (arith, here.1)))
drives_all ds (o ∷ lines) t =
    let u = driven_by ds t o in
    let one = drives_one ds o t in
    let rest = drives_all ds lines u in
    (none_then t.state u.state _ one.none rest.0, by_place one rest)
  where
    v : Turn
    v = fold (driven_by ds) (driven_by ds t o) lines

    by_place : IsDriven ds o t (driven_by ds t o) → EnablesNone (driven_by ds t o).state v.state × AreUnasked ds lines v.state → AreUnasked ds (o ∷ lines) v.state
    by_place one rest p (zero, lt, same) =
        let is : o ≡ p = same in
        subst (λ (q : LineSetup). (line_at v.state q.line).enabled ≡ true → asks_at ds q.device ≡ false) is (λ on. one.unasked (rest.0.enabled o.line on))
    by_place one rest p (suc i, lt, same) = rest.1 p (i, omega (arith, lt), same)

-- so no enabled line is asked for then, whatever the state was
pub driven_answers : (g : Setup) (t : Turn) → AreAnswered g (driven g t).state
unfolding driven
driven_answers g t = λ o here on. ap (λ (ds : List DeviceData). asks_at ds o.device) (aside-driven g t).devices ∙ (drives_all t.state.devices g.lines t).1 o here on

-- no note is taken back, and each line that was on and whose device asks has posted
notes_all : (ds : List DeviceData) (lines : List LineSetup) (t : Turn) (n : Note) → Contains t.notes n → Contains (fold (driven_by ds) t lines).notes n
notes_all ds [] t n here = here
notes_all ds (o ∷ lines) t n here = notes_all ds lines (driven_by ds t o) n ((drives_one ds o t).notes n here)

posts_all : (ds : List DeviceData) (lines : List LineSetup) (t : Turn) (p : LineSetup) → Contains lines p → (line_at t.state p.line).enabled ≡ true → asks_at ds p.device ≡ true →
    Contains (fold (driven_by ds) t lines).notes (note.Irq p.line Posted)
posts_all ds [] t p here on asks = absurd (omega (arith, here.1))
posts_all ds (o ∷ lines) t p (zero, lt, same) on asks =
    let is : p ≡ o = sym same in
    let told = subst (λ (q : LineSetup). Contains (driven_by ds t q).notes (note.Irq p.line Posted)) is ((drives_one ds p t).posted on asks) in
    notes_all ds lines (driven_by ds t o) (note.Irq p.line Posted) told
posts_all ds (o ∷ lines) t p (suc i, lt, same) on asks = elim ((drives_one ds o t).others p.line on) [
  | inl still ↦ posts_all ds lines (driven_by ds t o) p (i, omega (arith, lt), same) still asks
  | inr told ↦ notes_all ds lines (driven_by ds t o) (note.Irq p.line Posted) told
]

pub driven_posts : (g : Setup) (t : Turn) (o : LineSetup) → Contains g.lines o → (line_at t.state o.line).enabled ≡ true → is_asked t.state o ≡ true → Contains (driven g t).notes (note.Irq o.line Posted)
unfolding driven
driven_posts g t o here on asks = posts_all t.state.devices g.lines t o here on asks

pub line-fed : (device byte k : ℕ) (t : Turn) → line_at (fed device byte t).state k ≡ line_at t.state k
unfolding fed with_devices noted line_at
line-fed device byte k t = refl

-- ## events

answered-happened : (g : Setup) (t : Turn) (e : Event) → AreAnswered g t.state → AreAnswered g (happened g t e).state
answered-happened g t Tick h =
    let here : HasLines t.state.lines t = record { lines = refl } in
    answered_by g t.state (ticked t).state (none_same t.state _ (has-ticked t here).lines) (devices-ticked t) h
answered-happened g t (Irq line) h = answered_by g t.state (interrupted g line t).state (none_interrupted g line t) (aside-interrupted g line t).devices h
answered-happened g t (Feed device byte) h = driven_answers g (fed device (byte % 256) t)

answered-events : (g : Setup) (events : List Event) (t : Turn) → AreAnswered g t.state → AreAnswered g (fold (happened g) t events).state
answered-events g [] t h = h
answered-events g (e ∷ events) t h = answered-events g events (happened g t e) (answered-happened g t e h)

answered-begun : (g : Setup) (s : State) → AreAnswered g s → AreAnswered g (begun s).state
unfolding begun
answered-begun g s h = h

pub answered-after_events : (x : Scenario) (s : State) → AreAnswered x.setup s → AreAnswered x.setup (after_events x s).state
unfolding after_events
answered-after_events x s h = answered-events x.setup (events_of x.script s.turn) (begun s) (answered-begun x.setup s h)
