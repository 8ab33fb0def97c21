-- Effects do not change the turn, the time or the number of the next call. A chain of steps makes at most one call.
use Rattle.std.proofs.Common.{◌+◌, ℕ, Bool, true, false, cond, List, refl, ◌∙◌, arith, eqb, length-set}
use Rattle.kernel_abi.specs.declared.Ending.TheVariants.{Client}
use Rattle.kernel_abi.specs.declared.Fault.{Fault}
use Rattle.kernel_abi.specs.declared.Health.TheVariants.{Faulted}
use Rattle.kernel_abi.specs.declared.Note.{Note}
use Rattle.kernel_abi.specs.declared.Note.TheVariants as note
use Rattle.words_core.specs.declared.Flags.{Flags}
use Rattle.task_table.specs.model.State.{Setup, State, Turn, Ground}
use Rattle.task_table.specs.model.Effects.{with_task, with_call, without_call, without_listen, with_taken, changed, noted, with_processor, with_health, stored, copied, looked, posted, closed, faulted_as, faulted, offered, with_devices}
use Rattle.task_table.specs.model.Rows.{syscall_noted}
use Rattle.task_table.specs.model.Placed.{ArePlaced}
use Rattle.task_table.specs.model.Sane.{IsCounted}
use Rattle.task_table.specs.model.Counts.{IsSameTime, AreCounts}
use Rattle.task_table.specs.model.Chain.{Chain}
use Rattle.task_table.specs.model.Step.{Step}
use Rattle.task_table.proofs.model.Chains.{chain_keeps}
use Rattle.task_table.proofs.model.Moves.{IsAside, aside-processor, aside-posted, taken_over, Move, Aside, Writes, Reads, Alters, Lends, Offers, Takes, Closes}
use Rattle.task_table.proofs.model.Happens.{chain_moves}

-- ## effects

pub time-joined : (s u v : State) → IsSameTime s u → IsSameTime u v → IsSameTime s v
time-joined s u v a b = record { count = b.count ∙ a.count; turn = b.turn ∙ a.turn; now = b.now ∙ a.now; next_call = b.next_call ∙ a.next_call }

-- changes that do not touch calls and memory do not change the time
pub time-aside : (u v : Turn) → IsAside u v → IsSameTime u.state v.state
time-aside u v a = record { count = a.outside.count; turn = a.outside.turn; now = a.now; next_call = a.outside.next_call }

pub time-noted : (n : Note) (t : Turn) → IsSameTime t.state (noted n t).state
unfolding noted
time-noted n t = record { count = refl; turn = refl; now = refl; next_call = refl }

pub time-processor : (i : ℕ) (registers : List ℕ) (flags : Flags) (t : Turn) → IsSameTime t.state (with_processor i registers flags t).state
time-processor i registers flags t = time-aside t _ (aside-processor i registers flags t)

pub time-stored : (on : Ground) (a : ℕ) (bytes : List ℕ) (t : Turn) → IsSameTime t.state (stored on a bytes t).state
unfolding stored
time-stored on a bytes t = record { count = refl; turn = refl; now = refl; next_call = refl }

pub time-current : (i : ℕ) (t : Turn) → IsSameTime t.state (changed (λ s. record s { current = i }) t).state
time-current i t = record { count = refl; turn = refl; now = refl; next_call = refl }

pub time-posted : (i bits : ℕ) (t : Turn) → IsSameTime t.state (posted i bits t).state
time-posted i bits t = time-aside t _ (aside-posted i bits t)

pub time-faulted : (g : Setup) (i : ℕ) (fault : Fault) (t : Turn) → IsSameTime t.state (faulted g i fault t).state
unfolding faulted_as closed noted with_health with_task without_call without_listen
time-faulted g i fault t = go (eqb i 0)
  where
    shut : Turn
    shut = closed i Client (noted (note.Fault i fault) (changed (without_listen i) (with_health i (Faulted fault) t)))

    same : IsSameTime t.state shut.state
    same = record { count = length-set t.state.tasks i _; turn = refl; now = refl; next_call = refl }

    go : (b : Bool) → IsSameTime t.state (cond b shut (posted 0 g.fault_bits shut)).state
    go true = same
    go false = time-joined t.state shut.state (posted 0 g.fault_bits shut).state same (time-posted 0 g.fault_bits shut)

pub time-syscall_noted : (c : ℕ) (t : Turn) → IsSameTime t.state (syscall_noted c t).state
unfolding syscall_noted
time-syscall_noted c t = time-noted _ t

-- ## chains

pub counts_here : (s : State) → AreCounts s s
counts_here s = record { count = refl; turn = refl; now = refl; from = omega arith; upto = omega arith }

pub counts_then : (s u v : State) → AreCounts s u → IsSameTime u v → AreCounts s v
counts_then s u v h same = record { count = same.count ∙ h.count; turn = same.turn ∙ h.turn; now = same.now ∙ h.now; from = rw same.next_call h.from; upto = rw same.next_call h.upto }

pub counts_same : (s u : State) → IsSameTime s u → AreCounts s u
counts_same s u same = counts_then s s u (counts_here s) same

move_counts : (g : Setup) (s : State) (c : ℕ) (u v : Turn) → Move g s c u v → AreCounts s u.state → AreCounts s v.state
unfolding looked noted offered with_call copied with_taken closed without_call with_devices
move_counts g s c _ _ (Aside u v a) h = counts_then s u.state v.state h (time-aside u v a)
move_counts g s c _ _ (Writes on at bytes u within may) h = counts_then s u.state _ h (time-stored on at bytes u)
move_counts g s c _ _ (Reads r u alive) h = counts_then s u.state (looked r u).state h record { count = refl; turn = refl; now = refl; next_call = refl }
move_counts g s c _ _ (Alters devices u reached) h = counts_then s u.state (with_devices devices u).state h record { count = refl; turn = refl; now = refl; next_call = refl }
move_counts g s c _ _ (Lends k borrow lease offset moved u alive taken fits) h = counts_then s u.state _ h (time-noted (note.Borrow k borrow lease offset moved) u)
move_counts g s c _ _ (Offers k u new) h = let next = new.next in record { count = h.count; turn = h.turn; now = h.now; from = omega arith; upto = omega arith }
move_counts g s c _ _ (Takes on k buffer u t) h = counts_then s u.state (taken_over on k buffer u).state h record { count = refl; turn = refl; now = refl; next_call = refl }
move_counts g s c _ _ (Closes i ending u ends) h = counts_then s u.state (closed i ending u).state h record { count = refl; turn = refl; now = refl; next_call = refl }

-- over a whole chain
pub chain_counts : (g : Setup) (s : State) (c : ℕ) → ArePlaced g s.memory → (u v : Turn) → Chain (Step g s c) u v → AreCounts s u.state → AreCounts s v.state
chain_counts g s c placed u v x h = chain_keeps (Move g s c) (λ w. AreCounts s w.state) (move_counts g s c) u v (chain_moves g s c placed u v x) h

-- ## the counts are in order from one turn to the next

pub counted-turn : (s u : State) → IsCounted s → AreCounts s u → IsCounted record u { turn = u.turn + 1 }
counted-turn s u h same = record {
  some = omega (arith, h.some, same.from);
  calls = omega (arith, h.calls, same.upto, same.turn);
  now = omega (arith, h.now, same.now, same.turn);
}
