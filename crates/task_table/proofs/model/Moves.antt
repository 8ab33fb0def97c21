-- What changes calls, memory and the notes about them; and changes that do not touch these.
use Rattle.std.proofs.Common.{◌≡◌, ◌+◌, ℕ, zero, suc, Bool, true, false, cond, List, [], ◌∷◌, ◌++◌, length, Option, Some, None, refl, sym, ◌∙◌, ap, arith, eqb, bit_and, append_assoc, append-nil, length-set, min}
use Rattle.std.specs.Prelude.{Contains, fold}
use Rattle.kernel_abi.specs.Devices.{DeviceData}
use Rattle.kernel_abi.specs.declared.Borrow.{Borrow}
use Rattle.kernel_abi.specs.declared.Ending.{Ending}
use Rattle.kernel_abi.specs.declared.Health.{Health}
use Rattle.kernel_abi.specs.declared.Note.{Note}
use Rattle.kernel_abi.specs.declared.Note.TheVariants as note
use Rattle.kernel_abi.specs.declared.Timer.{Timer}
use Rattle.words_core.specs.declared.Flags.{Flags}
use Rattle.task_table.specs.declared.Line.{Line}
use Rattle.mem_banks.specs.Memory.{IsWithinRam}
use Rattle.task_table.specs.model.State.{Setup, State, Call, Listen, Slice, Offered, Taken, Ground, Read, MessageFront, Turn}
use Rattle.task_table.specs.model.Reading.{task_at, call_of, listen_of}
use Rattle.task_table.specs.model.Effects.{with_task, without_listen, with_listen, with_taken, changed, noted, with_processor, with_health, stored, copied, looked, given, returned, past_syscall, bits_added, bits_cleared, woken_by, woken, posted, with_timer, clocked, with_line, closed, offered, reborn, with_devices}
use Rattle.task_table.specs.model.Grounds.{Lies, MayChange, IsAlive, IsRightRead, IsReached}
use Rattle.task_table.specs.model.Step.{is_plain, IsOpenAs, IsMoved, IsNew, MayChangeAll, Ends}

-- ## changes that do not touch calls and memory

-- none of these notes is about a call
abbrev pub ArePlain : List Note → Type 0
ArePlain [] = Unit {0}
ArePlain (n ∷ ns) = (is_plain n ≡ true) × ArePlain ns

plain_joined : (xs ys : List Note) → ArePlain xs → ArePlain ys → ArePlain (xs ++ ys)
plain_joined [] ys a b = b
plain_joined (x ∷ xs) ys a b = (a.0, plain_joined xs ys a.1 b)

pub plain_one : (ns : List Note) (n : Note) → ArePlain ns → Contains ns n → is_plain n ≡ true
plain_one [] n a h = absurd (omega (arith, h.1))
plain_one (x ∷ xs) n a (zero, lt, same) = let e : x ≡ n = same in rw (← e) a.0
plain_one (x ∷ xs) n a (suc k, lt, same) = plain_one xs n a.1 (k, omega arith, same)

-- calls, memory, the number of tasks and the number of the turn stay; no byte is written, and no byte of another
-- task is read; each new note is plain
pub record IsOutside (u v : Turn) : Type 0 where
  pub calls : v.state.calls ≡ u.state.calls
  pub next_call : v.state.next_call ≡ u.state.next_call
  pub memory : v.state.memory ≡ u.state.memory
  pub turn : v.state.turn ≡ u.state.turn
  pub count : length v.state.tasks ≡ length u.state.tasks
  pub writes : v.writes ≡ u.writes
  pub reads : v.reads ≡ u.reads
  pub new : List Note
  pub notes : v.notes ≡ u.notes ++ new
  pub plain : ArePlain new

pub outside_then : (t u v : Turn) → IsOutside t u → IsOutside u v → IsOutside t v
outside_then t u v a b = record {
  calls = b.calls ∙ a.calls;
  next_call = b.next_call ∙ a.next_call;
  memory = b.memory ∙ a.memory;
  turn = b.turn ∙ a.turn;
  count = b.count ∙ a.count;
  writes = b.writes ∙ a.writes;
  reads = b.reads ∙ a.reads;
  new = a.new ++ b.new;
  notes = b.notes ∙ ap (λ ns. ns ++ b.new) a.notes ∙ append_assoc t.notes a.new b.new;
  plain = plain_joined a.new b.new a.plain b.plain;
}

pub outside_here : (u : Turn) → IsOutside u u
outside_here u = record { calls = refl; next_call = refl; memory = refl; turn = refl; count = refl; writes = refl; reads = refl; new = []; notes = sym (append-nil u.notes); plain = tt }

-- and the time and the devices stay too
pub record IsAside (u v : Turn) : Type 0 where
  pub outside : IsOutside u v
  pub now : v.state.now ≡ u.state.now
  pub devices : v.state.devices ≡ u.state.devices

pub aside_then : (t u v : Turn) → IsAside t u → IsAside u v → IsAside t v
aside_then t u v a b = record { outside = outside_then t u v a.outside b.outside; now = b.now ∙ a.now; devices = b.devices ∙ a.devices }

pub aside_here : (u : Turn) → IsAside u u
aside_here u = record { outside = outside_here u; now = refl; devices = refl }

outside-noted : (n : Note) (u : Turn) → is_plain n ≡ true → IsOutside u (noted n u)
unfolding noted
outside-noted n u h = record { calls = refl; next_call = refl; memory = refl; turn = refl; count = refl; writes = refl; reads = refl; new = n ∷ []; notes = refl; plain = (h, tt) }

pub aside-noted : (n : Note) (u : Turn) → is_plain n ≡ true → IsAside u (noted n u)
unfolding noted
aside-noted n u h = record { outside = outside-noted n u h; now = refl; devices = refl }

-- only the tasks, the listens, the lines or the current task change
outside_state : (u : Turn) (s : State) → s.calls ≡ u.state.calls → s.next_call ≡ u.state.next_call → s.memory ≡ u.state.memory → s.turn ≡ u.state.turn → length s.tasks ≡ length u.state.tasks → IsOutside u record u { state = s }
outside_state u s a b m t c = record { calls = a; next_call = b; memory = m; turn = t; count = c; writes = refl; reads = refl; new = []; notes = sym (append-nil u.notes); plain = tt }

aside_state : (u : Turn) (s : State) → s.calls ≡ u.state.calls → s.next_call ≡ u.state.next_call → s.memory ≡ u.state.memory → s.turn ≡ u.state.turn → length s.tasks ≡ length u.state.tasks → s.now ≡ u.state.now → s.devices ≡ u.state.devices → IsAside u record u { state = s }
aside_state u s a b m t c n d = record { outside = outside_state u s a b m t c; now = n; devices = d }

pub aside-given : (i : ℕ) (values : List ℕ) (u : Turn) → IsAside u (given i values u)
unfolding given with_task
aside-given i values u = aside_state u _ refl refl refl refl (length-set u.state.tasks i _) refl refl

pub aside-returned : (i : ℕ) (u : Turn) → IsAside u (returned i u)
unfolding returned
aside-returned i u = aside-noted _ u refl

pub aside-past_syscall : (i : ℕ) (u : Turn) → IsAside u (past_syscall i u)
unfolding past_syscall with_task
aside-past_syscall i u = aside_state u _ refl refl refl refl (length-set u.state.tasks i _) refl refl

pub aside-cleared : (i mask : ℕ) (u : Turn) → IsAside u (bits_cleared i mask u)
unfolding bits_cleared with_task
aside-cleared i mask u = aside_state u _ refl refl refl refl (length-set u.state.tasks i _) refl refl

pub aside-unlistened : (i : ℕ) (u : Turn) → IsAside u (changed (without_listen i) u)
unfolding without_listen
aside-unlistened i u = aside_state u _ refl refl refl refl refl refl refl

pub aside-listening : (l : Listen) (u : Turn) → IsAside u (changed (with_listen l) u)
unfolding with_listen
aside-listening l u = aside_state u _ refl refl refl refl refl refl refl

pub aside-timer : (i : ℕ) (timer : Option Timer) (u : Turn) → IsAside u (with_timer i timer u)
unfolding with_timer with_task
aside-timer i timer u = aside_state u _ refl refl refl refl (length-set u.state.tasks i _) refl refl

pub aside-line : (k : ℕ) (line : Line) (u : Turn) → IsAside u (with_line k line u)
unfolding with_line
aside-line k line u = aside_state u _ refl refl refl refl refl refl refl

pub aside-health : (i : ℕ) (health : Health) (u : Turn) → IsAside u (with_health i health u)
unfolding with_health with_task
aside-health i health u = aside_state u _ refl refl refl refl (length-set u.state.tasks i _) refl refl

pub aside-processor : (i : ℕ) (registers : List ℕ) (flags : Flags) (u : Turn) → IsAside u (with_processor i registers flags u)
unfolding with_processor with_task
aside-processor i registers flags u = aside_state u _ refl refl refl refl (length-set u.state.tasks i _) refl refl

-- a change of devices does not touch any of that
pub outside-devices : (devices : List DeviceData) (u : Turn) → IsOutside u (with_devices devices u)
unfolding with_devices
outside-devices devices u = outside_state u _ refl refl refl refl refl

pub aside-reborn : (g : Setup) (i : ℕ) (start : Bool) (u : Turn) → IsAside u (changed (reborn g i start) u)
unfolding reborn with_task
aside-reborn g i start u = aside_state u _ refl refl refl refl (length-set u.state.tasks i _) refl refl

-- the time goes on
pub outside-clocked : (u : Turn) → IsOutside u (clocked u)
unfolding clocked
outside-clocked u = let v = changed (λ s. record s { now = s.now + 1 }) u in outside_then u v _ (outside_state u v.state refl refl refl refl refl) (outside-noted (note.Tick (u.state.now + 1)) v refl)

pub aside-added : (i bits : ℕ) (u : Turn) → IsAside u (bits_added i bits u)
unfolding bits_added with_task
aside-added i bits u = aside_then u _ _ (aside_state u _ refl refl refl refl (length-set u.state.tasks i _) refl refl) (aside-noted _ _ refl)

pub aside-woken_by : (i : ℕ) (lo : Option Listen) (u : Turn) → IsAside u (woken_by i lo u)
aside-woken_by i None u = aside_here u
aside-woken_by i (Some l) u = go (eqb (bit_and (task_at u.state i).posted l.mask) 0)
  where
    a : Turn
    a = changed (without_listen i) u

    b : Turn
    b = bits_cleared i l.mask a

    d : Turn
    d = given i (0 ∷ 0xFFFF ∷ bit_and (task_at u.state i).posted l.mask ∷ 0 ∷ 0 ∷ 0 ∷ []) b

    go : (x : Bool) → IsAside u (cond x u (returned i d))
    go true = aside_here u
    go false = aside_then u d (returned i d) (aside_then u b d (aside_then u a b (aside-unlistened i u) (aside-cleared i l.mask a)) (aside-given i _ b)) (aside-returned i d)

pub aside-posted : (i bits : ℕ) (u : Turn) → IsAside u (posted i bits u)
unfolding posted woken
aside-posted i bits u = aside_then u (bits_added i bits u) _ (aside-added i bits u) (aside-woken_by i (listen_of (bits_added i bits u).state i) (bits_added i bits u))

pub aside-fold : {A : Type 0} (f : Turn → A → Turn) (xs : List A) (u : Turn) → ((x : A) (v : Turn) → IsAside v (f v x)) → IsAside u (fold f u xs)
aside-fold f [] u step = aside_here u
aside-fold f (x ∷ xs) u step = aside_then u (f u x) _ (step x u) (aside-fold f xs (f u x) step)

-- ## the rest

-- the front of the message is copied into a buffer, and the call is taken
abbrev pub taken_over : Ground → Call → Slice → Turn → Turn
taken_over on k buffer u =
    let n = min k.message.len buffer.len in
    noted (note.Take k.number n)
    (changed (with_taken k.client.index)
    (copied on k.message.base buffer.base n
    (looked record { call = k.number; part = MessageFront; base = k.message.base; len = n } u)))

pub record IsTaking (g : Setup) (s : State) (c : ℕ) (u : Turn) (on : Ground) (k : Call) (buffer : Slice) : Type 0 where
  pub here : Contains u.state.calls k
  pub offered : k.phase ≡ Offered
  pub alive : IsAlive s c u k.number
  pub may : (a : ℕ) → Lies buffer a → MayChange g s c (taken_over on k buffer u) on a
  pub room : IsWithinRam s.memory buffer.base buffer.len

-- one thing that happens in a turn of c, where s is the state after the events
pub data Move (g : Setup) (s : State) (c : ℕ) : Turn → Turn → Type 0 where
  Aside : (u v : Turn) → IsAside u v → Move g s c u v
  Writes : (on : Ground) (at : ℕ) (bytes : List ℕ) (u : Turn) → IsWithinRam s.memory at (length bytes) → MayChangeAll g s c u on at (length bytes) → Move g s c u (stored on at bytes u)
  Reads : (r : Read) (u : Turn) → IsAlive s c u r.call × IsRightRead g s c r r.part → Move g s c u (looked r u)
  Alters : (devices : List DeviceData) (u : Turn) → IsReached g c u.state.devices devices → Move g s c u (with_devices devices u)
  Lends : (k : ℕ) (borrow : Borrow) (lease offset moved : ℕ) (u : Turn) → IsAlive s c u k → IsOpenAs u.state k Taken → IsMoved borrow offset moved → Move g s c u (noted (note.Borrow k borrow lease offset moved) u)
  Offers : (k : Call) (u : Turn) → IsNew s c u k → Move g s c u (offered k u)
  Takes : (on : Ground) (k : Call) (buffer : Slice) (u : Turn) → IsTaking g s c u on k buffer → Move g s c u (taken_over on k buffer u)
  Closes : (i : ℕ) (ending : Ending) (u : Turn) → Ends ending (call_of u.state i) → Move g s c u (closed i ending u)
