-- No note is removed, and a step makes at most four notes. A restart makes two more for each task.
use Rattle.std.proofs.Common.{◌≡◌, ◌≢◌, ◌+◌, ◌*◌, ◌%◌, ◌<◌, ◌≤◌, ℕ, zero, suc, Bool, true, false, cond, List, [], ◌∷◌, ◌++◌, length, Option, Some, None, refl, sym, ◌∙◌, ap, arith, eqb, bit_and, bit_or, append_assoc, append-nil, length-append}
use Rattle.std.specs.Prelude.{fold}
use Rattle.std.specs.List.{range_with_len}
use Rattle.kernel_abi.specs.Ids.{dead_code_of}
use Rattle.kernel_abi.specs.declared.Ending.{Ending}
use Rattle.kernel_abi.specs.declared.Ending.TheVariants.{Client, Restart}
use Rattle.kernel_abi.specs.declared.Fault.{Fault}
use Rattle.kernel_abi.specs.declared.Health.TheVariants.{Faulted}
use Rattle.kernel_abi.specs.declared.Note.{Note}
use Rattle.kernel_abi.specs.declared.Note.TheVariants as note
use Rattle.task_table.specs.model.State.{Setup, State, Call, Listen, Slice, Ground, Own, Message, Turn}
use Rattle.task_table.specs.model.Reading.{task_at, call_of, listen_of, admits}
use Rattle.task_table.specs.model.Effects.{without_listen, with_listen, changed, noted, with_processor, with_health, stored, copied, looked, given, returned, past_syscall, bits_added, bits_cleared, woken_by, woken, posted, with_timer, with_line, close_notes, closed, faulted_as, offered, handed, reborn, is_to, awaits, dead_answered, restarted, with_devices}
use Rattle.task_table.specs.model.Sends.{taken_at_once, offers_call}
use Rattle.task_table.specs.model.Counts.{AreNoted, IsNoted}
use Rattle.task_table.specs.model.Chain.{Chain}
use Rattle.task_table.specs.model.Step.{Step, Notes, Gives, Returns, PassesSyscall, Runs, Clears, Posts, Times, Lines, Listens, Sends, Receives, Stores, Copies, Looks, Borrows, Ceases, Halts, Strikes, Restarts, Reaches}
use Rattle.task_table.proofs.model.Chains.{chain_keeps}

-- ## how many lines

same : (n : ℕ) (u v : Turn) → v.notes ≡ u.notes → AreNoted n u v
same n u v e = record { new = []; notes = e ∙ sym (append-nil u.notes); few = omega arith }

one : (n : Note) (u : Turn) → AreNoted 1 u (noted n u)
unfolding noted
one n u = record { new = n ∷ []; notes = refl; few = omega arith }

then : (n m : ℕ) (t u v : Turn) → AreNoted n t u → AreNoted m u v → AreNoted (n + m) t v
then n m t u v a b = record {
  new = a.new ++ b.new;
  notes = b.notes ∙ ap (λ ns. ns ++ b.new) a.notes ∙ append_assoc t.notes a.new b.new;
  few = omega (arith, a.few, b.few, length-append a.new b.new);
}

more : (n m : ℕ) (u v : Turn) → n ≤ m → AreNoted n u v → AreNoted m u v
more n m u v le a = record { new = a.new; notes = a.notes; few = omega (arith, le, a.few) }

-- ## effects

quiet-given : (i : ℕ) (values : List ℕ) (u : Turn) → (given i values u).notes ≡ u.notes
unfolding given
quiet-given i values u = refl

quiet-cleared : (i mask : ℕ) (u : Turn) → (bits_cleared i mask u).notes ≡ u.notes
unfolding bits_cleared
quiet-cleared i mask u = refl

pub noted-returned : (i : ℕ) (u : Turn) → AreNoted 1 u (returned i u)
unfolding returned
noted-returned i u = one _ u

added : (i bits : ℕ) (u : Turn) → AreNoted 1 u (bits_added i bits u)
unfolding bits_added noted
added i bits u = record { new = note.Post i bits (bit_or (task_at u.state i).posted bits) ∷ []; notes = refl; few = omega arith }

awake : (i : ℕ) (lo : Option Listen) (u : Turn) → AreNoted 1 u (woken_by i lo u)
awake i None u = same 1 u u refl
awake i (Some l) u = go (eqb (bit_and (task_at u.state i).posted l.mask) 0)
  where
    cleared : Turn
    cleared = bits_cleared i l.mask (changed (without_listen i) u)

    taken : Turn
    taken = given i (0 ∷ 0xFFFF ∷ bit_and (task_at u.state i).posted l.mask ∷ 0 ∷ 0 ∷ 0 ∷ []) cleared

    go : (b : Bool) → AreNoted 1 u (cond b u (returned i taken))
    go true = same 1 u u refl
    go false = then 0 1 u taken (returned i taken) (same 0 u taken (quiet-given i _ cleared ∙ quiet-cleared i l.mask (changed (without_listen i) u))) (noted-returned i taken)

posts : (i bits : ℕ) (u : Turn) → AreNoted 2 u (posted i bits u)
unfolding posted woken
posts i bits u = then 1 1 u (bits_added i bits u) (posted i bits u) (added i bits u) (awake i (listen_of (bits_added i bits u).state i) (bits_added i bits u))

closes : (i : ℕ) (ending : Ending) (u : Turn) → AreNoted 1 u (closed i ending u)
unfolding closed
closes i ending u = record { new = close_notes ending (call_of u.state i); notes = refl; few = at_most (call_of u.state i) }
  where
    at_most : (call : Option Call) → length (close_notes ending call) ≤ 1
    at_most None = omega arith
    at_most (Some k) = omega arith

module _ (g : Setup) (i : ℕ) (fault : Fault) (ending : Ending) (u : Turn) where
  stopped : Turn
  stopped = changed (without_listen i) (with_health i (Faulted fault) u)

  as_noted : Turn
  as_noted = noted (note.Fault i fault) stopped

  fault_as_noted : AreNoted 1 u as_noted
  unfolding stopped as_noted with_health noted
  fault_as_noted = record { new = note.Fault i fault ∷ []; notes = refl; few = omega arith }

  after_fault : AreNoted 3 as_noted (faulted_as g i fault ending u)
  unfolding faulted_as stopped as_noted
  after_fault = by_zero (eqb i 0)
    where
      shut : Turn
      shut = closed i ending as_noted

      by_zero : (b : Bool) → AreNoted 3 as_noted (cond b shut (posted 0 g.fault_bits shut))
      by_zero true = more 1 3 as_noted shut (omega arith) (closes i ending as_noted)
      by_zero false = then 1 2 as_noted shut (posted 0 g.fault_bits shut) (closes i ending as_noted) (posts 0 g.fault_bits shut)

  faults : AreNoted 4 u (faulted_as g i fault ending u)
  faults = then 1 3 u as_noted _ fault_as_noted after_fault

hands : (on : Ground) (k : Call) (buffer : Slice) (u : Turn) → AreNoted 1 u (handed on k buffer u)
unfolding handed looked copied noted given
hands on k buffer u = record { new = note.Take k.number _ ∷ []; notes = refl; few = omega arith }

-- ## a call is offered

offer_as_noted : (k : Call) (u : Turn) → AreNoted 1 u (offered k u)
unfolding offered noted
offer_as_noted k u = record { new = note.Offer k.number k.client.index k.server.index ∷ []; notes = refl; few = omega arith }

takes : (k : Call) (lo : Option Listen) (u : Turn) → AreNoted 2 u (taken_at_once k lo u)
takes k None u = same 2 u u refl
takes k (Some l) u = go (admits l.from k.client)
  where
    taken : Turn
    taken = handed (Message k.number) k l.buffer u

    go : (b : Bool) → AreNoted 2 u (cond b (returned k.server.index taken) u)
    go true = then 1 1 u taken (returned k.server.index taken) (hands (Message k.number) k l.buffer u) (noted-returned k.server.index taken)
    go false = same 2 u u refl

after_offer : (k : Call) (u : Turn) → AreNoted 2 (offered k u) (offers_call k u)
after_offer k u = takes k (listen_of u.state k.server.index) (offered k u)

offers : (k : Call) (u : Turn) → AreNoted 3 u (offers_call k u)
offers k u = then 1 2 u (offered k u) (offers_call k u) (offer_as_noted k u) (after_offer k u)

-- ## a task is born again

answers_dead : (i j : ℕ) (u : Turn) → AreNoted 2 u (dead_answered i u j)
answers_dead i j u = go (is_to i (call_of u.state j)) (awaits i (listen_of u.state j))
  where
    shut : Turn
    shut = closed j Restart u

    sent : Turn
    sent = given j (dead_code_of ((task_at u.state i).births % 64) ∷ 0 ∷ []) shut

    deaf : Turn
    deaf = changed (without_listen j) u

    heard : Turn
    heard = given j (dead_code_of ((task_at u.state i).births % 64) ∷ 0 ∷ 0 ∷ 0 ∷ 0 ∷ 0 ∷ []) deaf

    go : (b d : Bool) → AreNoted 2 u (cond b (returned j sent) (cond d (returned j heard) u))
    go true d = then 1 1 u shut (returned j sent) (closes j Restart u) (then 0 1 shut sent (returned j sent) (same 0 shut sent (quiet-given j _ shut)) (noted-returned j sent))
    go false true = then 1 1 u heard (returned j heard) (same 1 u heard (quiet-given j _ deaf)) (noted-returned j heard)
    go false false = same 2 u u refl

answer_dead : (i a n : ℕ) (u : Turn) → AreNoted (2 * n) u (fold (dead_answered i) u (range_with_len a n))
answer_dead i a zero u = same _ u u refl
answer_dead i a (suc n) u = more (2 + 2 * n) (2 * suc n) u _ (omega arith) (then 2 (2 * n) u (dead_answered i u a) _ (answers_dead i a u) (answer_dead i (a + 1) n (dead_answered i u a)))

module _ (g : Setup) (i : ℕ) (start : Bool) (u : Turn) where
  born : Turn
  born = changed (reborn g i start) (changed (without_listen i) (closed i Restart u))

  birth : Turn
  birth = noted (note.Restart i ((task_at born.state i).births % 64)) born

  birth_as_noted : AreNoted 2 u birth
  unfolding birth born noted
  birth_as_noted = then 1 1 u (closed i Restart u) birth (closes i Restart u) record { new = note.Restart i ((task_at born.state i).births % 64) ∷ []; notes = refl; few = omega arith }

  after_birth : AreNoted (2 * length u.state.tasks) birth (restarted g i start u)
  unfolding restarted birth born
  after_birth = answer_dead i 0 (length u.state.tasks) birth

  restarts : AreNoted (4 + 2 * length u.state.tasks) u (restarted g i start u)
  restarts = more (2 + 2 * length u.state.tasks) (4 + 2 * length u.state.tasks) u _ (omega arith) (then 2 (2 * length u.state.tasks) u birth _ birth_as_noted after_birth)

-- ## steps and chains

none : (u v : Turn) → v.notes ≡ u.notes → AreNoted (4 + 2 * length u.state.tasks) u v
none u v e = same _ u v e

at_most : (n : ℕ) (u v : Turn) → n ≤ 4 → AreNoted n u v → AreNoted (4 + 2 * length u.state.tasks) u v
at_most n u v le a = more n (4 + 2 * length u.state.tasks) u v (omega (arith, le)) a

pub step_noted : (g : Setup) (s : State) (c : ℕ) (u v : Turn) → Step g s c u v → AreNoted (4 + 2 * length u.state.tasks) u v
unfolding past_syscall with_processor with_timer with_line stored copied looked with_devices
step_noted g s c _ _ (Notes n u plain) = at_most 1 u _ (omega arith) (one n u)
step_noted g s c _ _ (Gives i values u lt few party) = none u _ (quiet-given i values u)
step_noted g s c _ _ (Returns i u) = at_most 1 u _ (omega arith) (noted-returned i u)
step_noted g s c _ _ (PassesSyscall u lt) = none u (past_syscall c u) refl
step_noted g s c _ _ (Runs registers flags u lt whole) = none u (with_processor c registers flags u) refl
step_noted g s c _ _ (Clears mask u lt off) = none u _ (quiet-cleared c mask u)
step_noted g s c _ _ (Posts i bits u lt) = at_most 2 u _ (omega arith) (posts i bits u)
step_noted g s c _ _ (Times timer u lt ahead) = none u (with_timer c timer u) refl
step_noted g s c _ _ (Lines k line u owned) = none u (with_line k line u) refl
step_noted g s c _ _ (Listens l u own may) = at_most 1 u _ (omega arith) (then 0 1 u (changed (with_listen l) u) _ (same 0 u (changed (with_listen l) u) refl) (one _ (changed (with_listen l) u)))
step_noted g s c _ _ (Sends k u may) = at_most 3 u _ (omega arith) (offers k u)
step_noted g s c _ _ (Receives k buffer u may) = at_most 1 u _ (omega arith) (hands Own k buffer u)
step_noted g s c _ _ (Stores on at bytes u all within room may) = none u (stored on at bytes u) refl
step_noted g s c _ _ (Copies on from at n i r u target may) = none u (copied on from at n u) refl
step_noted g s c _ _ (Reaches devices u reached) = none u (with_devices devices u) refl
step_noted g s c _ _ (Looks r u alive) = none u (looked r u) refl
step_noted g s c _ _ (Borrows k borrow lease offset moved u alive taken fits) = at_most 1 u _ (omega arith) (one _ u)
step_noted g s c _ _ (Ceases i ending u ends) = at_most 1 u _ (omega arith) (closes i ending u)
step_noted g s c _ _ (Halts fault u lt low high) = at_most 4 u _ (omega arith) (faults g c fault Client u)
step_noted g s c _ _ (Strikes i fault ending u other lt low high party ends) = at_most 4 u _ (omega arith) (faults g i fault ending u)
step_noted g s c _ _ (Restarts i start u other lt) = restarts g i start u

-- ## something is noted

-- v has more notes than u
abbrev pub HasMore : Turn → Turn → Type 0
HasMore u v = length u.notes < length v.notes

pub none_fewer : (n : ℕ) (u v : Turn) → AreNoted n u v → length u.notes ≤ length v.notes
none_fewer n u v a = rw a.notes (omega (arith, length-append u.notes a.new))

still_more : (n : ℕ) (t u v : Turn) → AreNoted n u v → HasMore t u → HasMore t v
still_more n t u v a more = omega (arith, more, none_fewer n u v a)

pub one_longer : (xs : List Note) (n : Note) → length xs < length (xs ++ n ∷ [])
one_longer xs n = omega (arith, length-append xs (n ∷ []))

pub more-noted : (n : Note) (t : Turn) → HasMore t (noted n t)
unfolding noted
more-noted n t = one_longer t.notes n

more-added : (i bits : ℕ) (t : Turn) → HasMore t (bits_added i bits t)
unfolding bits_added noted
more-added i bits t = one_longer t.notes _

pub more-posted : (i bits : ℕ) (t : Turn) → HasMore t (posted i bits t)
unfolding posted woken
more-posted i bits t = still_more 1 t (bits_added i bits t) _ (awake i (listen_of (bits_added i bits t).state i) (bits_added i bits t)) (more-added i bits t)

more-as_noted : (g : Setup) (i : ℕ) (fault : Fault) (ending : Ending) (t : Turn) → HasMore t (as_noted g i fault ending t)
unfolding as_noted stopped with_health noted
more-as_noted g i fault ending t = one_longer t.notes _

pub more-faulted_as : (g : Setup) (i : ℕ) (fault : Fault) (ending : Ending) (t : Turn) → HasMore t (faulted_as g i fault ending t)
more-faulted_as g i fault ending t = still_more 3 t (as_noted g i fault ending t) _ (after_fault g i fault ending t) (more-as_noted g i fault ending t)

more-offered : (k : Call) (u : Turn) → HasMore u (offered k u)
unfolding offered
more-offered k u = more-noted _ _

pub more-offers : (k : Call) (u : Turn) → HasMore u (offers_call k u)
more-offers k u = still_more 2 u (offered k u) _ (after_offer k u) (more-offered k u)

more-birth : (g : Setup) (i : ℕ) (start : Bool) (u : Turn) → HasMore u (birth g i start u)
unfolding birth born
more-birth g i start u = omega (arith, none_fewer 1 u (closed i Restart u) (closes i Restart u), more-noted (note.Restart i ((task_at (born g i start u).state i).births % 64)) (born g i start u))

pub more-restarted : (g : Setup) (i : ℕ) (start : Bool) (u : Turn) → HasMore u (restarted g i start u)
more-restarted g i start u = still_more (2 * length u.state.tasks) u (birth g i start u) _ (after_birth g i start u) (more-birth g i start u)

-- ## so there are notes

pub is_noted : (u v : Turn) → HasMore u v → IsNoted v
is_noted u v more = λ none. omega (arith, more, ap (λ (ns : List Note). length ns) none)

some_more : (xs ys : List Note) → xs ≢ [] → xs ++ ys ≢ []
some_more [] ys h e = h refl
some_more (x ∷ xs) ys h e = cc

pub chain_noted : (g : Setup) (s : State) (c : ℕ) (u v : Turn) → Chain (Step g s c) u v → IsNoted u → IsNoted v
chain_noted g s c = chain_keeps (Step g s c) IsNoted (λ t w step h none. let a = step_noted g s c t w step in some_more t.notes a.new h (sym a.notes ∙ none))
