-- What effects do not change: which tasks wait, and other tasks.
use Rattle.std.proofs.Common.{◌≡◌, ℕ, Bool, true, false, ◌&&◌, List, [], ◌∷◌, Option, Some, None, inl, inr, refl, ◌∙◌, eqb, bit_and, cond, is_none}
use Rattle.std.proofs.lemmas.Bool.Decides.{eqb_tells}
use Rattle.std.proofs.lemmas.Bool.{false≢true, and_parts}
use Rattle.kernel_abi.specs.declared.Note.{Note}
use Rattle.kernel_abi.specs.declared.Timer.{Timer}
use Rattle.task_table.specs.declared.Line.{Line}
use Rattle.task_table.specs.model.State.{State, Listen, Turn, Ground}
use Rattle.task_table.specs.model.Reading.{task_at, call_of, listen_of, is_ready, is_well, IsIdle, IsSameAt, IsSameBut}
use Rattle.task_table.specs.model.Effects.{without_listen, changed, noted, given, returned, bits_added, bits_cleared, woken_by, woken, posted, with_timer, with_line, stored}
use Rattle.task_table.proofs.model.Changes.{call_of-with_task, listen_of-with_task, call_of-without_listen, listen_of-without_listen, listen_of-without_listen_other, same_but-with_task, same_but-without_listen, same_but_here, same_but_then}

pub none_is : {A : Type 0} (o : Option A) → is_none o ≡ true → o ≡ None
none_is None h = refl
none_is (Some x) h = absurd (false≢true h)

-- a ready task waits for nothing
pub idle-ready : (s : State) (i : ℕ) → is_ready s i ≡ true → IsIdle s i
unfolding is_ready
idle-ready s i h =
    let two = and_parts (is_well (task_at s i).health && is_none (call_of s i)) (is_none (listen_of s i)) h in
    record { call = none_is _ (and_parts (is_well (task_at s i).health) (is_none (call_of s i)) two.0).1; listen = none_is _ two.1 }

-- a store, a note and another current task leave each task as it was
pub same_at-stored : (j : ℕ) (on : Ground) (a : ℕ) (bytes : List ℕ) (t : Turn) → IsSameAt j t.state (stored on a bytes t).state
unfolding stored task_at call_of listen_of
same_at-stored j on a bytes t = record { task = refl; call = refl; listen = refl }

pub same_at-noted : (j : ℕ) (n : Note) (t : Turn) → IsSameAt j t.state (noted n t).state
unfolding noted
same_at-noted j n t = record { task = refl; call = refl; listen = refl }

pub same_at-current : (j i : ℕ) (t : Turn) → IsSameAt j t.state (changed (λ s. record s { current = i }) t).state
unfolding task_at call_of listen_of
same_at-current j i t = record { task = refl; call = refl; listen = refl }

pub ready-same : (i : ℕ) (s u : State) → IsSameAt i s u → is_ready s i ≡ true → is_ready u i ≡ true
unfolding is_ready
ready-same i s u same h = rw (same.task, same.call, same.listen) h

pub idle-same : (i : ℕ) (s u : State) → IsSameAt i s u → IsIdle s i → IsIdle u i
idle-same i s u same h = record { call = same.call ∙ h.call; listen = same.listen ∙ h.listen }

-- a task that waits for nothing still does after results are given to it, and after it has taken bits
pub idle-given : (i j : ℕ) (values : List ℕ) (t : Turn) → IsIdle t.state i → IsIdle (given j values t).state i
unfolding given
idle-given i j values t h = record { call = call_of-with_task t.state j i _ ∙ h.call; listen = listen_of-with_task t.state j i _ ∙ h.listen }

pub idle-timer : (i j : ℕ) (timer : Option Timer) (t : Turn) → IsIdle t.state i → IsIdle (with_timer j timer t).state i
unfolding with_timer
idle-timer i j timer t h = record { call = call_of-with_task t.state j i _ ∙ h.call; listen = listen_of-with_task t.state j i _ ∙ h.listen }

pub idle-line : (i k : ℕ) (line : Line) (t : Turn) → IsIdle t.state i → IsIdle (with_line k line t).state i
unfolding with_line call_of listen_of
idle-line i k line t h = record { call = h.call; listen = h.listen }

-- a post does not make a task wait
idle-added : (i j bits : ℕ) (t : Turn) → IsIdle t.state i → IsIdle (bits_added j bits t).state i
unfolding bits_added noted
idle-added i j bits t h = record { call = call_of-with_task t.state j i _ ∙ h.call; listen = listen_of-with_task t.state j i _ ∙ h.listen }

unlistened : (i j : ℕ) (s : State) → listen_of s i ≡ None → listen_of (without_listen j s) i ≡ None
unlistened i j s none = elim (eqb_tells i j) [
  | inl same ↦ rw same.1 (listen_of-without_listen s j)
  | inr other ↦ listen_of-without_listen_other s j i other.1 ∙ none
]

idle-woken_by : (i j : ℕ) (lo : Option Listen) (t : Turn) → IsIdle t.state i → IsIdle (woken_by j lo t).state i
unfolding returned noted given bits_cleared
idle-woken_by i j None t h = h
idle-woken_by i j (Some l) t h = go (eqb (bit_and (task_at t.state j).posted l.mask) 0)
  where
    u : State
    u = without_listen j t.state

    v : Turn
    v = bits_cleared j l.mask (changed (without_listen j) t)

    w : Turn
    w = given j (0 ∷ 0xFFFF ∷ bit_and (task_at t.state j).posted l.mask ∷ 0 ∷ 0 ∷ 0 ∷ []) v

    taken : IsIdle w.state i
    taken = record {
      call = call_of-with_task v.state j i _ ∙ call_of-with_task u j i _ ∙ call_of-without_listen t.state j i ∙ h.call;
      listen = listen_of-with_task v.state j i _ ∙ listen_of-with_task u j i _ ∙ unlistened i j t.state h.listen;
    }

    go : (b : Bool) → IsIdle (cond b t (returned j w)).state i
    go true = h
    go false = taken

pub idle-posted : (i j bits : ℕ) (t : Turn) → IsIdle t.state i → IsIdle (posted j bits t).state i
unfolding posted woken
idle-posted i j bits t h = idle-woken_by i j (listen_of (bits_added j bits t).state j) (bits_added j bits t) (idle-added i j bits t h)

-- ## a post changes no task but its own

same_but-woken_by : (i : ℕ) (lo : Option Listen) (t : Turn) → IsSameBut i t.state (woken_by i lo t).state
unfolding returned noted given bits_cleared
same_but-woken_by i None t = same_but_here i t.state
same_but-woken_by i (Some l) t = by_bits (eqb (bit_and (task_at t.state i).posted l.mask) 0)
  where
    u : State
    u = without_listen i t.state

    v : Turn
    v = bits_cleared i l.mask (changed (without_listen i) t)

    w : Turn
    w = given i (0 ∷ 0xFFFF ∷ bit_and (task_at t.state i).posted l.mask ∷ 0 ∷ 0 ∷ 0 ∷ []) v

    by_bits : (b : Bool) → IsSameBut i t.state (cond b t (returned i w)).state
    by_bits true = same_but_here i t.state
    by_bits false = same_but_then i t.state u w.state (same_but-without_listen t.state i) (same_but_then i u v.state w.state (same_but-with_task u i _) (same_but-with_task v.state i _))

pub same_but-posted : (i bits : ℕ) (t : Turn) → IsSameBut i t.state (posted i bits t).state
unfolding posted woken bits_added noted
same_but-posted i bits t =
    let u = bits_added i bits t in
    same_but_then i t.state u.state _ (same_but-with_task t.state i _) (same_but-woken_by i (listen_of u.state i) u)
