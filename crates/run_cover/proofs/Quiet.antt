-- The notes that an effect appends begin and end no instruction, and only a fault of a task notes a fault.
-- (calm: whether faults count as loud; t: where the effects began)
use Rattle.std.proofs.Common.{◌≡◌, ℕ, Bool, true, false, cond, List, [], ◌∷◌, ◌++◌, length, Option, Some, None, refl, sym, ◌∙◌, ap, append_assoc, append-nil}
use Rattle.std.specs.Prelude.{fold, ⊤}
use Rattle.std.specs.List.{range_with_len}
use Rattle.kernel_abi.specs.declared.Ending.{Ending}
use Rattle.kernel_abi.specs.declared.Ending.TheVariants.{Restart}
use Rattle.kernel_abi.specs.declared.Fault.{Fault}
use Rattle.kernel_abi.specs.declared.Given.{Given}
use Rattle.kernel_abi.specs.declared.Health.{Health}
use Rattle.kernel_abi.specs.declared.Health.TheVariants.{Faulted}
use Rattle.kernel_abi.specs.declared.Note.{Note}
use Rattle.kernel_abi.specs.declared.Note.TheVariants as note
use Rattle.kernel_abi.specs.declared.Timer.{Timer}
use Rattle.kernel_abi.specs.Devices.{DeviceData}
use Rattle.words_core.specs.declared.Flags.{Flags}
use Rattle.task_table.specs.declared.Line.{Line}
use Rattle.task_table.specs.declared.slot.Slice.{Slice}
use Rattle.task_table.specs.model.State.{Setup, Call, Listen, Ground, Message, Read, Turn}
use Rattle.task_table.specs.model.Reading.{listen_of, call_of}
use Rattle.task_table.specs.model.Effects.{without_listen, changed, noted, with_processor, with_health, stored, copied, looked, given, returned, past_syscall, bits_added, bits_cleared, woken_by, posted, woken, with_timer, clocked, with_line, with_devices, given_out, device_stored, device_taken, close_notes, closed, faulted_as, faulted, offered, handed, dead_answered, restarted}
use Rattle.task_table.specs.model.Sends.{taken_at_once, offers_call}

-- whether a note is loud: it begins an instruction or ends one, or, where all shall be calm, it is a fault
abbrev pub is_loud : Bool → Note → Bool
is_loud calm (note.Insn task at code) = true
is_loud calm (note.High registers n z c v) = true
is_loud calm (note.Fault task fault) = calm
is_loud calm _ = false

abbrev pub AreQuiet : Bool → List Note → Type 0
AreQuiet calm [] = ⊤
AreQuiet calm (n ∷ ns) = (is_loud calm n ≡ false) × AreQuiet calm ns

pub both_quiet : (calm : Bool) (ns ms : List Note) → AreQuiet calm ns → AreQuiet calm ms → AreQuiet calm (ns ++ ms)
both_quiet calm [] ms g h = h
both_quiet calm (n ∷ ns) ms g h = (g.0, both_quiet calm ns ms g.1 h)

-- u has the notes of t, and behind them quiet ones
pub record IsQuiet (calm : Bool) (t u : Turn) : Type 0 where
  pub more : List Note
  pub is : u.notes ≡ t.notes ++ more
  pub quiet : AreQuiet calm more

pub quiet_itself : (calm : Bool) (t : Turn) → IsQuiet calm t t
quiet_itself calm t = record { more = []; is = sym (append-nil t.notes); quiet = tt }

pub quiet_if : {calm : Bool} {t : Turn} (b : Bool) {u v : Turn} → IsQuiet calm t u → IsQuiet calm t v → IsQuiet calm t (cond b u v)
quiet_if true here later = here
quiet_if false here later = later

pub quiet_fold : {X : Type 0} (calm : Bool) (t : Turn) (f : Turn → X → Turn) → ((u : Turn) (x : X) → IsQuiet calm t u → IsQuiet calm t (f u x)) → (xs : List X) (u : Turn) → IsQuiet calm t u → IsQuiet calm t (fold f u xs)
quiet_fold calm t f each [] u h = h
quiet_fold calm t f each (x ∷ xs) u h = quiet_fold calm t f each xs (f u x) (each u x h)

module _ (calm : Bool) (t : Turn) where
  pub quiet_noted : (n : Note) (u : Turn) → is_loud calm n ≡ false → IsQuiet calm t u → IsQuiet calm t (noted n u)
  unfolding noted
  quiet_noted n u other h = record {
    more = h.more ++ n ∷ [];
    is = ap (λ ns. ns ++ n ∷ []) h.is ∙ append_assoc t.notes h.more (n ∷ []);
    quiet = both_quiet calm h.more (n ∷ []) h.quiet (other, tt);
  }

  -- ## what notes nothing

  pub quiet_same : (u v : Turn) → v.notes ≡ u.notes → IsQuiet calm t u → IsQuiet calm t v
  quiet_same u v e h = record { more = h.more; is = e ∙ h.is; quiet = h.quiet }

  pub quiet_processor : (i : ℕ) (registers : List ℕ) (flags : Flags) (u : Turn) → IsQuiet calm t u → IsQuiet calm t (with_processor i registers flags u)
  unfolding with_processor
  quiet_processor i registers flags u h = record { more = h.more; is = h.is; quiet = h.quiet }

  pub quiet_health : (i : ℕ) (health : Health) (u : Turn) → IsQuiet calm t u → IsQuiet calm t (with_health i health u)
  unfolding with_health
  quiet_health i health u h = record { more = h.more; is = h.is; quiet = h.quiet }

  quiet_unlistened : (i : ℕ) (u : Turn) → IsQuiet calm t u → IsQuiet calm t (changed (without_listen i) u)
  quiet_unlistened i u h = record { more = h.more; is = h.is; quiet = h.quiet }

  pub quiet_stored : (on : Ground) (at : ℕ) (bytes : List ℕ) (u : Turn) → IsQuiet calm t u → IsQuiet calm t (stored on at bytes u)
  unfolding stored
  quiet_stored on at bytes u h = record { more = h.more; is = h.is; quiet = h.quiet }

  pub quiet_copied : (on : Ground) (from to n : ℕ) (u : Turn) → IsQuiet calm t u → IsQuiet calm t (copied on from to n u)
  unfolding copied
  quiet_copied on from to n u h = record { more = h.more; is = h.is; quiet = h.quiet }

  pub quiet_looked : (r : Read) (u : Turn) → IsQuiet calm t u → IsQuiet calm t (looked r u)
  unfolding looked
  quiet_looked r u h = record { more = h.more; is = h.is; quiet = h.quiet }

  pub quiet_given : (i : ℕ) (values : List ℕ) (u : Turn) → IsQuiet calm t u → IsQuiet calm t (given i values u)
  unfolding given
  quiet_given i values u h = record { more = h.more; is = h.is; quiet = h.quiet }

  pub quiet_past_syscall : (i : ℕ) (u : Turn) → IsQuiet calm t u → IsQuiet calm t (past_syscall i u)
  unfolding past_syscall
  quiet_past_syscall i u h = record { more = h.more; is = h.is; quiet = h.quiet }

  pub quiet_cleared : (i mask : ℕ) (u : Turn) → IsQuiet calm t u → IsQuiet calm t (bits_cleared i mask u)
  unfolding bits_cleared
  quiet_cleared i mask u h = record { more = h.more; is = h.is; quiet = h.quiet }

  pub quiet_timer : (i : ℕ) (timer : Option Timer) (u : Turn) → IsQuiet calm t u → IsQuiet calm t (with_timer i timer u)
  unfolding with_timer
  quiet_timer i timer u h = record { more = h.more; is = h.is; quiet = h.quiet }

  pub quiet_line : (k : ℕ) (line : Line) (u : Turn) → IsQuiet calm t u → IsQuiet calm t (with_line k line u)
  unfolding with_line
  quiet_line k line u h = record { more = h.more; is = h.is; quiet = h.quiet }

  pub quiet_devices : (devices : List DeviceData) (u : Turn) → IsQuiet calm t u → IsQuiet calm t (with_devices devices u)
  unfolding with_devices
  quiet_devices devices u h = record { more = h.more; is = h.is; quiet = h.quiet }

  -- ## what notes something else

  pub quiet_returned : (i : ℕ) (u : Turn) → IsQuiet calm t u → IsQuiet calm t (returned i u)
  unfolding returned
  quiet_returned i u h = quiet_noted _ u refl h

  pub quiet_clocked : (u : Turn) → IsQuiet calm t u → IsQuiet calm t (clocked u)
  unfolding clocked
  quiet_clocked u h = quiet_noted _ _ refl (quiet_same u _ refl h)

  quiet_added : (i bits : ℕ) (u : Turn) → IsQuiet calm t u → IsQuiet calm t (bits_added i bits u)
  unfolding bits_added
  quiet_added i bits u h = quiet_noted _ _ refl (quiet_same u _ refl h)

  quiet_woken : (i : ℕ) (o : Option Listen) (u : Turn) → IsQuiet calm t u → IsQuiet calm t (woken_by i o u)
  quiet_woken i None u h = h
  quiet_woken i (Some l) u h = quiet_if _ h (quiet_returned i _ (quiet_given i _ _ (quiet_cleared i l.mask _ (quiet_same u _ refl h))))

  pub quiet_posted : (i bits : ℕ) (u : Turn) → IsQuiet calm t u → IsQuiet calm t (posted i bits u)
  unfolding posted woken
  quiet_posted i bits u h = quiet_woken i (listen_of (bits_added i bits u).state i) (bits_added i bits u) (quiet_added i bits u h)

  quiet_out : (o : Option Given) (u : Turn) → IsQuiet calm t u → IsQuiet calm t (given_out o u)
  quiet_out None u h = h
  quiet_out (Some x) u h = quiet_noted _ u refl h

  pub quiet_device_stored : (at value : ℕ) (u : Turn) → IsQuiet calm t u → IsQuiet calm t (device_stored at value u)
  unfolding device_stored
  quiet_device_stored at value u h = quiet_out _ _ (quiet_devices _ u h)

  pub quiet_device_taken : (at : ℕ) (u : Turn) → IsQuiet calm t u → IsQuiet calm t (device_taken at u)
  unfolding device_taken
  quiet_device_taken at u h = quiet_devices _ u h

  pub quiet_closed : (i : ℕ) (ending : Ending) (u : Turn) → IsQuiet calm t u → IsQuiet calm t (closed i ending u)
  unfolding closed
  quiet_closed i ending u h = record {
    more = h.more ++ close_notes ending (call_of u.state i);
    is = ap (λ ns. ns ++ close_notes ending (call_of u.state i)) h.is ∙ append_assoc t.notes h.more (close_notes ending (call_of u.state i));
    quiet = both_quiet calm h.more (close_notes ending (call_of u.state i)) h.quiet (by_call (call_of u.state i));
  }
    where
      by_call : (o : Option Call) → AreQuiet calm (close_notes ending o)
      by_call None = tt
      by_call (Some k) = (refl, tt)

  -- ## calls and births

  pub quiet_handed : (on : Ground) (k : Call) (buffer : Slice) (u : Turn) → IsQuiet calm t u → IsQuiet calm t (handed on k buffer u)
  unfolding handed
  quiet_handed on k buffer u h = quiet_given _ _ _ (quiet_same _ _ refl (quiet_noted _ _ refl (quiet_same _ _ refl (quiet_copied _ _ _ _ _ (quiet_looked _ u h)))))

  quiet_taken : (k : Call) (o : Option Listen) (u : Turn) → IsQuiet calm t u → IsQuiet calm t (taken_at_once k o u)
  quiet_taken k None u h = h
  quiet_taken k (Some l) u h = quiet_if _ (quiet_returned _ _ (quiet_handed (Message k.number) k l.buffer u h)) h

  quiet_offered : (k : Call) (u : Turn) → IsQuiet calm t u → IsQuiet calm t (offered k u)
  unfolding offered
  quiet_offered k u h = quiet_noted _ _ refl (quiet_same u _ refl h)

  pub quiet_offers : (k : Call) (u : Turn) → IsQuiet calm t u → IsQuiet calm t (offers_call k u)
  quiet_offers k u h = quiet_taken k (listen_of u.state k.server.index) (offered k u) (quiet_offered k u h)

  quiet_dead : (i : ℕ) (u : Turn) (j : ℕ) → IsQuiet calm t u → IsQuiet calm t (dead_answered i u j)
  quiet_dead i u j h = search (quiet_if, quiet_returned, quiet_given, quiet_closed, quiet_unlistened) depth 12

  pub quiet_restarted : (g : Setup) (i : ℕ) (start : Bool) (u : Turn) → IsQuiet calm t u → IsQuiet calm t (restarted g i start u)
  unfolding restarted
  quiet_restarted g i start u h =
      quiet_fold calm t (dead_answered i) (λ v j k. quiet_dead i v j k) (range_with_len 0 (length u.state.tasks)) _
      (quiet_noted _ _ refl (quiet_same (closed i Restart u) _ refl (quiet_closed i Restart u h)))

-- ## faults

module _ (t : Turn) where
  pub quiet_faulted_as : (g : Setup) (i : ℕ) (fault : Fault) (ending : Ending) (u : Turn) → IsQuiet false t u → IsQuiet false t (faulted_as g i fault ending u)
  unfolding faulted_as
  quiet_faulted_as g i fault ending u h =
      let shut = quiet_closed false t i ending _ (quiet_noted false t (note.Fault i fault) _ refl (quiet_same false t _ _ refl (quiet_health false t i (Faulted fault) u h))) in
      quiet_if _ shut (quiet_posted false t 0 g.fault_bits _ shut)

  pub quiet_faulted : (g : Setup) (i : ℕ) (fault : Fault) (u : Turn) → IsQuiet false t u → IsQuiet false t (faulted g i fault u)
  quiet_faulted g i fault u h = quiet_faulted_as g i fault _ u h
