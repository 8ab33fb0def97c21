-- A turn that notes nothing after its events leaves each task as ready as it was, so the choice stands.
use Rattle.std.proofs.Common.{◌≡◌, ◌+◌, ◌-◌, ◌≤◌, ℕ, suc, Bool, true, cond, not, ◌&&◌, ◌||◌, List, [], ◌∷◌, ◌++◌, length, Option, Some, None, refl, sym, ◌∙◌, ap, arith, leb}
use Rattle.std.specs.Prelude.{find}
use Rattle.std.specs.List.{range_with_len, list_all}
use Rattle.kernel_abi.specs.declared.Note.TheVariants as note
use Rattle.words_core.specs.declared.Flags.{Flags}
use Rattle.task_table.specs.model.State.{Setup, State, Turn}
use Rattle.task_table.specs.model.Reading.{task_at, call_of, listen_of, chosen, qualifies, around, is_ready, is_faulted, priority}
use Rattle.task_table.specs.model.Effects.{noted, with_processor, with_devices}
use Rattle.task_table.specs.model.Events.{fed}
use Rattle.task_table.specs.model.Counts.{IsAsReady}
use Rattle.task_table.specs.model.Sane.{Sane}
use Rattle.task_table.proofs.model.Noting.{more-noted}
use Rattle.task_table.proofs.model.Quieting.{ready_same, ready_then, ready-with_task, not_more, chain_quiet}
use Rattle.board_model.specs.declared.outcomes.Level.{Level}
use Rattle.board_model.specs.declared.outcomes.Level.TheVariants.{Calls, All}
use Rattle.board_model.specs.Script.{Scenario}
use Rattle.board_model.specs.Run.{is_down}
use Rattle.board_model.specs.Turn.{noted_at, stepped, after_events, with_current, with_registers_noted, turn_of, ended, turn}
use Rattle.board_model.proofs.TurnChains.{chosen_is, found_in, chosen_chain}

-- who gets a processor is as ready
pub ready-with_processor : (c : ℕ) (registers : List ℕ) (flags : Flags) (t : Turn) → is_ready (with_processor c registers flags t).state c ≡ is_ready t.state c
unfolding with_processor
ready-with_processor c registers flags t = (ready-with_task t.state c record (task_at t.state c) { registers = registers; flags = flags } refl).ready c

ready-turn : (s : State) (n : ℕ) → IsAsReady s record s { turn = n }
unfolding is_ready task_at call_of listen_of
ready-turn s n = record { count = refl; health = λ i. refl; ready = λ i. refl; current = refl }

-- the supervisor has faulted or not as before
same-down : (s u : State) → IsAsReady s u → is_down u ≡ is_down s
same-down s u h = ap is_faulted (h.health 0)

-- ## the choice

find_same : (p q : ℕ → Bool) (xs : List ℕ) → ((i : ℕ) → p i ≡ q i) → find p xs ≡ find q xs
find_same p q [] h = refl
find_same p q (x ∷ xs) h = rw (h x) (ap (cond (q x) (Some x)) (find_same p q xs h))

all_same : (p q : ℕ → Bool) (xs : List ℕ) → ((i : ℕ) → p i ≡ q i) → list_all p xs ≡ list_all q xs
all_same p q [] h = refl
all_same p q (x ∷ xs) h = rw (h x) (ap (λ (b : Bool). q x && b) (all_same p q xs h))

-- whether i is ready and goes before every other one that is
abbrev goes : Setup → (ℕ → Bool) → ℕ → ℕ → Bool
goes g ready n i = ready i && list_all (λ j. not (ready j) || leb (priority g i) (priority g j)) (range_with_len 0 n)

goes_same : (g : Setup) (p q : ℕ → Bool) (n i : ℕ) → ((j : ℕ) → p j ≡ q j) → goes g p n i ≡ goes g q n i
goes_same g p q n i h =
    let first : ℕ → Bool = λ j. not (p j) || leb (priority g i) (priority g j) in
    let then : ℕ → Bool = λ j. not (q j) || leb (priority g i) (priority g j) in
    ap (λ (b : Bool). b && list_all first (range_with_len 0 n)) (h i)
    ∙ ap (λ (b : Bool). q i && b) (all_same first then (range_with_len 0 n) (λ j. ap (λ (b : Bool). not b || leb (priority g i) (priority g j)) (h j)))

-- the choice hangs on who is ready and who is current
pub chosen_by : (g : Setup) (s u : State) → length u.tasks ≡ length s.tasks → ((i : ℕ) → is_ready u i ≡ is_ready s i) → u.current ≡ s.current → chosen g u ≡ chosen g s
unfolding chosen
chosen_by g s u count ready current =
    ap (λ (n : ℕ). find (goes g (is_ready u) n) (around n u.current)) count
    ∙ ap (λ (i : ℕ). find (goes g (is_ready u) (length s.tasks)) (around (length s.tasks) i)) current
    ∙ find_same (goes g (is_ready u) (length s.tasks)) (goes g (is_ready s) (length s.tasks)) (around (length s.tasks) s.current) (λ i. goes_same g (is_ready u) (is_ready s) (length s.tasks) i ready)

chosen_same : (g : Setup) (s u : State) → IsAsReady s u → chosen g u ≡ chosen g s
chosen_same g s u h = chosen_by g s u h.count h.ready h.current

first_found : (p : ℕ → Bool) (c m k : ℕ) (rest : List ℕ) → m ≡ suc k → p c ≡ true → find p (range_with_len c m ++ rest) ≡ Some c
first_found p c m k rest e h = rw (e, h) refl

ready-current : (s : State) (c i : ℕ) → is_ready (record s { current = c }) i ≡ is_ready s i
unfolding is_ready task_at call_of listen_of
ready-current s c i = refl

-- who is chosen stays so as the current task
chosen_stays : {g : Setup} (s : State) (c : ℕ) → Sane g s → chosen g s ≡ Some c → chosen g record s { current = c } ≡ Some c
unfolding chosen is_ready task_at call_of listen_of
chosen_stays {g} s c h e =
    let inside = (chosen_is s c h e).inside in
    let n = length s.tasks in
    let found = found_in (qualifies g s) (around n s.current) c e in
    first_found (qualifies g s) c (n - c) (n - c - 1) (range_with_len 0 c) (omega arith) found.1

-- who was chosen and is current is chosen again where the same tasks are ready
pub chosen_again : (g : Setup) (s u : State) (c : ℕ) → Sane g s → length g.tasks ≡ length u.tasks → ((i : ℕ) → is_ready u i ≡ is_ready s i) → chosen g s ≡ Some c → u.current ≡ c → chosen g u ≡ Some c
chosen_again g s u c sane many same is current =
    let count = sym many ∙ sym sane.steady.as_many in
    let v : State = record s { current = c } in
    chosen_by g v u count (λ i. same i ∙ sym (ready-current s c i)) current ∙ chosen_stays s c sane is

-- who is ready, who is chosen next, and whether the supervisor has faulted, as in another state
pub record IsChosenAlike (g : Setup) (s u : State) : Type 0 where
  pub next : chosen g u ≡ chosen g s
  pub ready : (i : ℕ) → is_ready u i ≡ is_ready s i
  pub down : is_down u ≡ is_down s

-- a byte for a device makes no one ready, and no one wait
pub ready-fed : (device byte : ℕ) (t : Turn) → IsAsReady t.state (fed device byte t).state
unfolding fed with_devices noted is_ready task_at call_of listen_of
ready-fed device byte t = record { count = refl; health = λ i. refl; ready = λ i. refl; current = refl }

pub next-fed : (g : Setup) (device byte : ℕ) (t : Turn) → chosen g (fed device byte t).state ≡ chosen g t.state
next-fed g device byte t = chosen_same g t.state _ (ready-fed device byte t)

pub down-fed : (device byte : ℕ) (t : Turn) → is_down (fed device byte t).state ≡ is_down t.state
down-fed device byte t = same-down t.state _ (ready-fed device byte t)

current-down : (s : State) (c : ℕ) → is_down record s { current = c } ≡ is_down s
unfolding task_at
current-down s c = refl

quiet-idle : (level : Level) (t : Turn) → length (noted_at level note.Idle t).notes ≤ length t.notes → IsAsReady t.state (noted_at level note.Idle t).state
quiet-idle Calls t few = ready_same t.state
quiet-idle All t few = absurd (not_more few (more-noted note.Idle t))

-- the choice after the events is the one after the turn
pub quiet-turn : (level : Level) (x : Scenario) (s : State) → Sane x.setup (after_events x s).state → length (turn level x s).notes ≤ length (after_events x s).notes → IsChosenAlike x.setup (after_events x s).state (turn level x s).state
unfolding turn ended
quiet-turn level x s h few = by_choice (chosen x.setup t.state) refl few
  where
    t : Turn
    t = after_events x s

    by_choice : (o : Option ℕ) → chosen x.setup t.state ≡ o → length (turn_of level x.setup o t).notes ≤ length t.notes → IsChosenAlike x.setup t.state (record (turn_of level x.setup o t).state { turn = (turn_of level x.setup o t).state.turn + 1 })
    by_choice None e few =
        let v : Turn = noted_at level note.Idle t in
        let same = ready_then t.state v.state _ (quiet-idle level t few) (ready-turn v.state (v.state.turn + 1)) in
        record { next = chosen_same x.setup t.state _ same; ready = same.ready; down = same-down t.state _ same }
    by_choice (Some c) e few =
        let u : Turn = with_current c t in
        let v : Turn = with_registers_noted level c (stepped level x.setup c u) in
        let same = ready_then u.state v.state _ (chain_quiet x.setup u.state c u v (chosen_chain level x.setup c t h e) few) (ready-turn v.state (v.state.turn + 1)) in
        record { next = chosen_same x.setup u.state _ same ∙ chosen_stays t.state c h e ∙ sym e; ready = λ i. same.ready i ∙ ready-current t.state c i; down = same-down u.state _ same ∙ current-down t.state c }
