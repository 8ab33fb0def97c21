-- A run changes neither the number of interrupt lines nor the kinds and bases of the devices.
use Rattle.std.proofs.Common.{◌≡◌, ◌∙◌, ℕ, zero, suc, ◌%◌, inl, inr, Bool, true, false, cond, ◌&&◌, eqb, leb, bit_and, List, [], ◌∷◌, length, set, length-set, Option, Some, None, refl, ap}
use Rattle.std.specs.Prelude.{fold, nat_lt}
use Rattle.std.specs.List.{range_with_len}
use Rattle.kernel_abi.specs.Ids.{dead_code_of}
use Rattle.kernel_abi.specs.Devices.{DeviceData, device_at, with_device, after_load, after_store, after_input, offset_in, behind, loaded_at, stored_at, devices_loaded, devices_stored, devices_fed}
use Rattle.kernel_abi.specs.declared.Ending.{Ending}
use Rattle.kernel_abi.specs.declared.Ending.TheVariants.{Client, Restart}
use Rattle.kernel_abi.specs.declared.Fault.{Fault}
use Rattle.kernel_abi.specs.declared.Handled.TheVariants.{Posted, Held}
use Rattle.kernel_abi.specs.declared.Health.TheVariants.{Faulted}
use Rattle.kernel_abi.specs.declared.Kind.{Kind}
use Rattle.kernel_abi.specs.declared.Note.TheVariants as note
use Rattle.kernel_abi.specs.declared.Timer.{Timer}
use Rattle.run_script.specs.declared.events.Event.{Event}
use Rattle.run_script.specs.declared.events.Event.TheVariants.{Tick, Irq, Feed}
use Rattle.run_script.specs.Scripts.{events_of}
use Rattle.task_table.specs.declared.slot.Slice.{Slice}
use Rattle.task_table.specs.model.State.{Setup, LineSetup, State, Call, Listen, Ground, Own, Message, Turn}
use Rattle.task_table.specs.model.Asking.{asks_at}
use Rattle.task_table.specs.model.Reading.{task_at, line_at, call_of, listen_of, admits, chosen, line_off}
use Rattle.task_table.specs.model.Effects.{with_task, with_listen, with_call, with_taken, without_call, without_listen, changed, noted, with_processor, with_health, stored, copied, looked, given, returned, past_syscall, bits_added, bits_cleared, woken_by, woken, posted, with_timer, clocked, with_line, with_devices, closed, faulted_as, offered, handed, reborn, is_to, awaits, dead_answered, restarted}
use Rattle.task_table.specs.model.Events.{expired_by, expired, ticked, owner_of, interrupted_by, interrupted, fed, driven_by, driven}
use Rattle.task_table.specs.model.Sends.{taken_at_once, offers_call}
use Rattle.task_table.specs.model.Start.{begun}
use Rattle.task_table.specs.model.Sane.{Sane}
use Rattle.task_table.specs.model.Chain.{Chain}
use Rattle.task_table.specs.model.Grounds.{IsReached, AreReached, Untouched, Once}
use Rattle.task_table.specs.model.Step.{Step, Notes, Gives, Returns, PassesSyscall, Runs, Clears, Posts, Times, Lines, Listens, Sends, Receives, Stores, Copies, Reaches, Looks, Borrows, Ceases, Halts, Strikes, Restarts}
use Rattle.task_table.proofs.model.Chains.{chain_keeps}
use Rattle.board_model.specs.declared.outcomes.Level.{Level}
use Rattle.board_model.specs.Script.{Scenario}
use Rattle.board_model.specs.Turn.{happened, after_events, with_current, turn_of, ended, turn}
use Rattle.board_model.specs.Run.{run}
use Rattle.board_model.specs.Lifetimes.{devices_after}
use Rattle.board_model.proofs.Changes.{ram_turn}
use Rattle.board_model.proofs.RunKeeps.{state_run}
use Rattle.board_model.proofs.TurnChains.{turn_chain, noted_state}
use Rattle.board_model.proofs.Reached.{reached_in, none_in, fed_before}
use Rattle.snapshot.specs.Loaded.{sites}
use Rattle.snapshot.proofs.Loads.{site}

-- ## lines

abbrev AsMany : Turn → Turn → Type 0
AsMany t u = length u.state.lines ≡ length t.state.lines

many_fold : {A : Type 0} (f : Turn → A → Turn) (xs : List A) (t : Turn) → ((x : A) (u : Turn) → AsMany u (f u x)) → AsMany t (fold f t xs)
many_fold f [] t step = refl
many_fold f (x ∷ xs) t step = many_fold f xs (f t x) step ∙ step x t

many_woken_by : (i : ℕ) (o : Option Listen) (t : Turn) → AsMany t (woken_by i o t)
unfolding without_listen bits_cleared given returned with_task noted
many_woken_by i None t = refl
many_woken_by i (Some l) t = by_zero (eqb (bit_and (task_at t.state i).posted l.mask) 0)
  where
    awake : Turn
    awake = returned i (given i (0 ∷ 0xFFFF ∷ bit_and (task_at t.state i).posted l.mask ∷ 0 ∷ 0 ∷ 0 ∷ []) (bits_cleared i l.mask (changed (without_listen i) t)))

    by_zero : (b : Bool) → AsMany t (cond b t awake)
    by_zero true = refl
    by_zero false = refl

many_posted : (i bits : ℕ) (t : Turn) → AsMany t (posted i bits t)
unfolding posted woken bits_added with_task noted
many_posted i bits t = many_woken_by i (listen_of (bits_added i bits t).state i) (bits_added i bits t)

many_faulted : (g : Setup) (i : ℕ) (fault : Fault) (ending : Ending) (t : Turn) → AsMany t (faulted_as g i fault ending t)
unfolding faulted_as closed noted with_health with_task without_call without_listen
many_faulted g i fault ending t = by_zero (eqb i 0)
  where
    shut : Turn
    shut = closed i ending (noted (note.Fault i fault) (changed (without_listen i) (with_health i (Faulted fault) t)))

    by_zero : (b : Bool) → AsMany t (cond b shut (posted 0 g.fault_bits shut))
    by_zero true = refl
    by_zero false = many_posted 0 g.fault_bits shut

many_dead_answered : (i j : ℕ) (t : Turn) → AsMany t (dead_answered i t j)
unfolding closed without_call without_listen given returned with_task noted
many_dead_answered i j t = by_wait (is_to i (call_of t.state j)) (awaits i (listen_of t.state j)) (dead_code_of _)
  where
    by_wait : (a b : Bool) (code : ℕ) → AsMany t (cond a (returned j (given j (code ∷ 0 ∷ []) (closed j Restart t))) (cond b (returned j (given j (code ∷ 0 ∷ 0 ∷ 0 ∷ 0 ∷ 0 ∷ []) (changed (without_listen j) t))) t))
    by_wait true b code = refl
    by_wait false true code = refl
    by_wait false false code = refl

many_restarted : (g : Setup) (i : ℕ) (start : Bool) (t : Turn) → AsMany t (restarted g i start t)
unfolding restarted closed without_call without_listen reborn with_task noted
many_restarted g i start t = many_fold (dead_answered i) (range_with_len 0 (length t.state.tasks)) _ (λ j u. many_dead_answered i j u)

many_handed : (on : Ground) (k : Call) (buffer : Slice) (t : Turn) → AsMany t (handed on k buffer t)
unfolding handed looked copied with_taken noted without_listen given with_task
many_handed on k buffer t = refl

many_taken : (k : Call) (o : Option Listen) (t : Turn) → AsMany t (taken_at_once k o t)
unfolding returned noted
many_taken k None t = refl
many_taken k (Some l) t = by_test (admits l.from k.client)
  where
    by_test : (b : Bool) → AsMany t (cond b (returned k.server.index (handed (Message k.number) k l.buffer t)) t)
    by_test true = many_handed (Message k.number) k l.buffer t
    by_test false = refl

many_offered : (k : Call) (t : Turn) → AsMany t (offers_call k t)
unfolding offered with_call noted
many_offered k t = many_taken k (listen_of t.state k.server.index) (offered k t)

many_step : (g : Setup) (s : State) (c : ℕ) (t u : Turn) → Step g s c t u → AsMany t u
unfolding noted given returned past_syscall with_processor with_task bits_cleared with_timer with_line with_listen stored copied with_devices looked closed without_call
many_step g s c _ _ (Notes n u plain) = refl
many_step g s c _ _ (Gives i values u lt few party) = refl
many_step g s c _ _ (Returns i u) = refl
many_step g s c _ _ (PassesSyscall u lt) = refl
many_step g s c _ _ (Runs registers flags u lt whole) = refl
many_step g s c _ _ (Clears mask u lt none) = refl
many_step g s c _ _ (Posts i bits u lt) = many_posted i bits u
many_step g s c _ _ (Times timer u lt ahead) = refl
many_step g s c _ _ (Lines k line u owned) = length-set u.state.lines k line
many_step g s c _ _ (Listens l u own may) = refl
many_step g s c _ _ (Sends k u may) = many_offered k u
many_step g s c _ _ (Receives k buffer u may) = many_handed Own k buffer u
many_step g s c _ _ (Stores on at bytes u all within room may) = refl
many_step g s c _ _ (Copies on from at n i r u target may) = refl
many_step g s c _ _ (Reaches devices u reached) = refl
many_step g s c _ _ (Looks r u alive) = refl
many_step g s c _ _ (Borrows k way lease offset moved u alive taken fits) = refl
many_step g s c _ _ (Ceases i ending u ends) = refl
many_step g s c _ _ (Halts fault u lt low high) = many_faulted g c fault Client u
many_step g s c _ _ (Strikes i fault ending u apart lt low high party ends) = many_faulted g i fault ending u
many_step g s c _ _ (Restarts i start u apart lt) = many_restarted g i start u

many_chain : (g : Setup) (s : State) (c : ℕ) (t u : Turn) → Chain (Step g s c) t u → AsMany t u
many_chain g s c t u x = chain_keeps (Step g s c) (AsMany t) (λ v w step h. many_step g s c v w step ∙ h) t u x refl

-- what comes from outside
many_expired : (i : ℕ) (t : Turn) → AsMany t (expired t i)
unfolding with_timer with_task
many_expired i t = by_timer (task_at t.state i).timer
  where
    by_timer : (o : Option Timer) → AsMany t (expired_by i o t)
    by_timer None = refl
    by_timer (Some x) = by_due (leb x.deadline t.state.now)
      where
        by_due : (b : Bool) → AsMany t (cond b (posted i x.bits (with_timer i None t)) t)
        by_due true = many_posted i x.bits (with_timer i None t)
        by_due false = refl

many_ticked : (t : Turn) → AsMany t (ticked t)
unfolding ticked clocked noted
many_ticked t = many_fold expired (range_with_len 0 (length t.state.tasks)) (clocked t) (λ i u. many_expired i u)

many_interrupted_by : (k : ℕ) (o : Option LineSetup) (t : Turn) → AsMany t (interrupted_by k o t)
unfolding with_line noted
many_interrupted_by k None t = refl
many_interrupted_by k (Some o) t = by_line (line_at t.state k).enabled
  where
    off : Turn
    off = with_line k (line_off false) (noted (note.Irq k Posted) t)

    by_line : (b : Bool) → AsMany t (cond b (posted o.owner o.bits off) (with_line k (line_off true) (noted (note.Irq k Held) t)))
    by_line true = many_posted o.owner o.bits off ∙ length-set t.state.lines k (line_off false)
    by_line false = length-set t.state.lines k (line_off true)

many_interrupted : (g : Setup) (k : ℕ) (t : Turn) → AsMany t (interrupted g k t)
unfolding interrupted
many_interrupted g k t = many_interrupted_by k (owner_of g k) t

many_driven_by : (ds : List DeviceData) (t : Turn) (o : LineSetup) → AsMany t (driven_by ds t o)
many_driven_by ds t o = by_test ((line_at t.state o.line).enabled && asks_at ds o.device)
  where
    by_test : (b : Bool) → AsMany t (cond b (interrupted_by o.line (Some o) t) t)
    by_test true = many_interrupted_by o.line (Some o) t
    by_test false = refl

many_driven : (g : Setup) (t : Turn) → AsMany t (driven g t)
unfolding driven
many_driven g t = many_fold (driven_by t.state.devices) g.lines t (λ o u. many_driven_by t.state.devices u o)

many_fed : (device byte : ℕ) (t : Turn) → AsMany t (fed device byte t)
unfolding fed with_devices noted
many_fed device byte t = refl

many_happened : (g : Setup) (e : Event) (t : Turn) → AsMany t (happened g t e)
many_happened g Tick t = many_ticked t
many_happened g (Irq line) t = many_interrupted g line t
many_happened g (Feed device byte) t = many_driven g (fed device (byte % 256) t) ∙ many_fed device (byte % 256) t

many_after_events : (x : Scenario) (s : State) → length (after_events x s).state.lines ≡ length s.lines
unfolding after_events begun
many_after_events x s = many_fold (happened x.setup) (events_of x.script s.turn) (begun s) (λ e t. many_happened x.setup e t)

many_turn : (level : Level) (x : Scenario) (s : State) → Sane x.setup s → length (turn level x s).state.lines ≡ length s.lines
unfolding turn ended
many_turn level x s h = by_choice (chosen x.setup (after_events x s).state) refl ∙ many_after_events x s
  where
    by_choice : (o : Option ℕ) → chosen x.setup (after_events x s).state ≡ o → AsMany (after_events x s) (ended (turn_of level x.setup o (after_events x s)))
    by_choice None e = ap (λ (u : State). length u.lines) (noted_state level note.Idle (after_events x s))
    by_choice (Some c) e = many_chain x.setup (with_current c (after_events x s)).state c (with_current c (after_events x s)) _ (turn_chain level x s c h e)

-- ## devices

-- another device of the same kind at the same place
sites_with : (ds : List DeviceData) (k : ℕ) (d : DeviceData) → site d ≡ site (device_at ds k) → sites (set ds k d) ≡ sites ds
sites_with [] k d e = refl
sites_with (y ∷ ys) zero d e = ap (λ (p : Kind × ℕ). p ∷ sites ys) e
sites_with (y ∷ ys) (suc k) d e = ap (λ (ps : List (Kind × ℕ)). site y ∷ ps) (sites_with ys k d e)

sites_loaded : (ds : List DeviceData) (a : ℕ) → sites (devices_loaded ds a) ≡ sites ds
sites_loaded ds a = by_place (behind a ds)
  where
    by_place : (o : Option ℕ) → sites (loaded_at ds o a) ≡ sites ds
    by_place None = refl
    by_place (Some k) = sites_with ds k (after_load (device_at ds k) (offset_in ds k a)) refl

sites_stored : (ds : List DeviceData) (a : ℕ) → sites (devices_stored ds a) ≡ sites ds
sites_stored ds a = by_place (behind a ds)
  where
    by_place : (o : Option ℕ) → sites (stored_at ds o a) ≡ sites ds
    by_place None = refl
    by_place (Some k) = sites_with ds k (after_store (device_at ds k) (offset_in ds k a)) refl

sites_fed : (ds : List DeviceData) (k byte : ℕ) → sites (devices_fed ds k byte) ≡ sites ds
sites_fed ds k byte = by_place (nat_lt k (length ds))
  where
    by_place : (b : Bool) → sites (cond b (with_device ds k (after_input (device_at ds k) byte)) ds) ≡ sites ds
    by_place true = sites_with ds k (after_input (device_at ds k) byte) refl
    by_place false = refl

sites_reached : (g : Setup) (c : ℕ) (ds es : List DeviceData) → IsReached g c ds es → sites es ≡ sites ds
sites_reached g c ds es (inl r) = ap sites r.2 ∙ sites_loaded ds r.0
sites_reached g c ds es (inr r) = ap sites r.2 ∙ sites_stored ds r.0

sites_all_reached : (g : Setup) (c : ℕ) (ds es : List DeviceData) → AreReached g c ds es → sites es ≡ sites ds
sites_all_reached g c _ _ (Untouched ds) = refl
sites_all_reached g c _ _ (Once old between new before last) = sites_reached g c between new last ∙ sites_all_reached g c old between before

sites_after : (events : List Event) (ds : List DeviceData) → sites (fold devices_after ds events) ≡ sites ds
sites_after [] ds = refl
sites_after (Tick ∷ events) ds = sites_after events ds
sites_after (Irq line ∷ events) ds = sites_after events ds
sites_after (Feed device byte ∷ events) ds = sites_after events (devices_fed ds device (byte % 256)) ∙ sites_fed ds device (byte % 256)

sites_turn : (level : Level) (x : Scenario) (s : State) → Sane x.setup s → sites (turn level x s).state.devices ≡ sites s.devices
sites_turn level x s h = by_choice (chosen x.setup (after_events x s).state) refl ∙ ap sites (fed_before x s) ∙ sites_after (events_of x.script s.turn) s.devices
  where
    by_choice : (o : Option ℕ) → chosen x.setup (after_events x s).state ≡ o → sites (turn level x s).state.devices ≡ sites (after_events x s).state.devices
    by_choice None e = ap sites (none_in level x s e)
    by_choice (Some c) e = sites_all_reached x.setup c _ _ (reached_in level x s c h e)

-- ## runs

pub record IsFixed (s u : State) : Type 0 where
  pub lines : length u.lines ≡ length s.lines
  pub sites : sites u.devices ≡ sites s.devices
  pub ram : length u.memory.ram ≡ length s.memory.ram

fixed_here : (s : State) → IsFixed s s
fixed_here s = record { lines = refl; sites = refl; ram = refl }

fixed_then : (s u v : State) → IsFixed s u → IsFixed u v → IsFixed s v
fixed_then s u v a b = record { lines = b.lines ∙ a.lines; sites = b.sites ∙ a.sites; ram = b.ram ∙ a.ram }

fixed_turn : (level : Level) (x : Scenario) (s : State) → Sane x.setup s → IsFixed s (turn level x s).state
fixed_turn level x s h = record { lines = many_turn level x s h; sites = sites_turn level x s h; ram = ram_turn level x s h }

pub fixed_run : (level : Level) (x : Scenario) (n : ℕ) (s : State) → Sane x.setup s → IsFixed s (run level x n s).last
fixed_run level x n s h = state_run level x (IsFixed s) (λ z sane before. fixed_then s z (turn level x z).state before (fixed_turn level x z sane)) n s h (fixed_here s)
