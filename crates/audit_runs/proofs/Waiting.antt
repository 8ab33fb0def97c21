-- A task waits as the notes say, and a chain of moves keeps what notes say good.
use Rattle.std.proofs.Common.{◌≡◌, ◌≢◌, ℕ, ◌⊎◌, inl, inr, true, false, eqb, List, ◌++◌, Option, Some, None, refl, ap, ◌∙◌}
use Rattle.std.proofs.lemmas.Bool.Decides.{eqb_tells}
use Rattle.kernel_abi.specs.declared.Note.{Note}
use Rattle.task_table.specs.model.State.{Setup, State, Call, Turn}
use Rattle.task_table.specs.model.Reading.{call_of}
use Rattle.task_table.specs.model.Chain.{Chain}
use Rattle.task_table.specs.declared.slot.Phase.{Phase}
use Rattle.task_table.specs.declared.slot.Phase.TheVariants.{Offered, Taken}
use Rattle.task_table.proofs.model.Chains.{chain_keeps}
use Rattle.task_table.proofs.model.Keeps.{unmade}
use Rattle.task_table.proofs.model.Happens.{chain_moves}
use Rattle.task_table.proofs.model.Moves.{Move}
use Rattle.task_table.specs.model.Placed.{ArePlaced}
use Rattle.task_table.specs.model.Step.{Step}
use Rattle.trace_audit.proofs.Adding.{judged}
use Rattle.trace_audit.specs.declared.reading.FinalWait.TheVariants as wait
use Rattle.trace_audit.specs.Books.{waits_as}
use Rattle.trace_audit.specs.Rules.{IsGoodWait}
use Rattle.audit_runs.specs.Spoken.{sayings, is_taken, open_of, IsSpoken, wait_in, wait_by_call}
use Rattle.audit_runs.proofs.Speaking.{move_spoken, made}

same_number : (n : ℕ) → eqb n n ≡ true
same_number n = by_tell (eqb_tells n n)
  where
    by_tell : ((eqb n n ≡ true) × (n ≡ n)) ⊎ ((eqb n n ≡ false) × (n ≢ n)) → eqb n n ≡ true
    by_tell (inl e) = e.0
    by_tell (inr e) = absurd (e.1 refl)

waits_so : (p : Phase) (n : ℕ) → waits_as (Some (record { call = n; taken = is_taken p })) (wait_in p n) ≡ true
waits_so Offered n = rw (same_number n) refl
waits_so Taken n = rw (same_number n) refl

pub spoken_waits : (ns : List Note) (s : State) (i : ℕ) → IsSpoken ns s → (o : Option Call) → call_of s i ≡ o → IsGoodWait (sayings ns) i (wait_by_call o)
spoken_waits ns s i h None e = judged (sayings ns) h.kept h.told i None (h.held i ∙ ap open_of (unmade s i e)) wait.Other true refl
spoken_waits ns s i h (Some d) e = judged (sayings ns) h.kept h.told i (Some (record { call = d.number; taken = is_taken d.phase })) (h.held i ∙ ap open_of (made s i d e)) (wait_in d.phase d.number) true (waits_so d.phase d.number)

pub chain_spoken : (g : Setup) (s : State) (c : ℕ) → ArePlaced g s.memory → (old : List Note) (u v : Turn) → Chain (Step g s c) u v → IsSpoken (old ++ u.notes) u.state → IsSpoken (old ++ v.notes) v.state
chain_spoken g s c placed old u v x h = chain_keeps (Move g s c) (λ w. IsSpoken (old ++ w.notes) w.state) (move_spoken g s c old) u v (chain_moves g s c placed u v x) h
