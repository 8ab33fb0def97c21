-- Each effect keeps a state sane.
use Rattle.std.proofs.Common.{◌≡◌, ◌+◌, ◌-◌, ◌<◌, ◌≤◌, inl, inr, ℕ, zero, suc, Bool, true, false, cond, leb, List, [], ◌∷◌, ◌++◌, length, take, drop, refl, ◌∙◌, arith, eqb}
use Rattle.std.specs.Prelude.{Contains}
use Rattle.std.proofs.lemmas.List.Elements.{Contains-append_cases}
use Rattle.kernel_abi.specs.declared.Fault.{Fault}
use Rattle.kernel_abi.specs.declared.Health.{Health}
use Rattle.kernel_abi.specs.declared.Health.TheVariants.{Faulted}
use Rattle.kernel_abi.specs.declared.Note.{Note}
use Rattle.kernel_abi.specs.declared.Note.TheVariants as note
use Rattle.kernel_abi.specs.declared.Ending.{Ending}
use Rattle.kernel_abi.specs.declared.Ending.TheVariants.{Client}
use Rattle.words_core.specs.declared.Flags.{Flags}
use Rattle.mem_banks.specs.Memory.{Memory, with_bytes, pasted, IsWithinRam, AreAllBytes}
use Rattle.mem_banks.proofs.Stores.{flash-with_bytes, length-with_bytes}
use Rattle.task_table.specs.model.State.{Setup, State, Turn, Ground}
use Rattle.task_table.specs.model.Reading.{task_at}
use Rattle.task_table.specs.model.Effects.{with_task, without_call, without_listen, changed, noted, with_processor, with_health, stored, posted, closed, faulted_as, faulted}
use Rattle.task_table.specs.model.Placed.{ArePlaced}
use Rattle.task_table.specs.model.Sane.{Sane, IsFaultKnown}
use Rattle.task_table.specs.model.Counts.{AreWhole}
use Rattle.task_table.proofs.model.Changes.{call_of-without_call, listen_of-without_listen, listen_of-without_call}
use Rattle.task_table.proofs.model.Keeps.{idle_listen, keeps-with_task, keeps-without_call, keeps-without_listen, keeps-memory, keeps-current, keeps-turn}
use Rattle.task_table.proofs.model.Posting.{still, sane-posted}

-- ## memory

pub placed_same : (g : Setup) (m v : Memory) → ArePlaced g m → v.flash ≡ m.flash → length v.ram ≡ length m.ram → ArePlaced g v
placed_same g m v h f r = record {
  within = λ i x here none. rw (r, f) (h.within i x here none);
  writable = λ i x here none w. rw r (h.writable i x here none w);
  flash = rw f h.flash;
  stack = h.stack;
  devices = h.devices;
  owners = h.owners;
  below = rw r h.below;
}

pub take_in : (n : ℕ) (xs : List ℕ) (b : ℕ) → Contains (take n xs) b → Contains xs b
take_in zero xs b h = absurd (omega (arith, h.1))
take_in (suc n) [] b h = absurd (omega (arith, h.1))
take_in (suc n) (x ∷ xs) b (zero, lt, same) = (zero, omega arith, same)
take_in (suc n) (x ∷ xs) b (suc i, lt, same) = let r = take_in n xs b (i, omega arith, same) in (suc r.0, omega (arith, r.1), r.2)

pub drop_in : (n : ℕ) (xs : List ℕ) (b : ℕ) → Contains (drop n xs) b → Contains xs b
drop_in zero xs b h = h
drop_in (suc n) [] b h = h
drop_in (suc n) (x ∷ xs) b h = let r = drop_in n xs b h in (suc r.0, omega (arith, r.1), r.2)

-- bytes written over bytes
pub written_bytes : (m : Memory) (a : ℕ) (bytes : List ℕ) → AreAllBytes m.ram → AreAllBytes bytes → AreAllBytes (with_bytes m a bytes).ram
unfolding with_bytes
written_bytes m a bytes old new = go (leb 0x20000000 a)
  where
    over : AreAllBytes (pasted m.ram (a - 0x20000000) bytes)
    over = λ b here. elim (Contains-append_cases (take (a - 0x20000000) m.ram ++ bytes) (drop (a - 0x20000000 + length bytes) m.ram) b here) [
      | inl y ↦ elim (Contains-append_cases (take (a - 0x20000000) m.ram) bytes b y) [
        | inl x ↦ old b (take_in (a - 0x20000000) m.ram b x)
        | inr x ↦ new b x
      ]
      | inr x ↦ old b (drop_in (a - 0x20000000 + length bytes) m.ram b x)
    ]

    go : (b : Bool) → AreAllBytes (cond b (record m { ram = pasted m.ram (a - 0x20000000) bytes }) (record m { flash = pasted m.flash (a - 0x08000000) bytes })).ram
    go true = over
    go false = old

-- ## effects

module _ {g : Setup} where
  pub sane-noted : (n : Note) (t : Turn) → Sane g t.state → Sane g (noted n t).state
  unfolding noted
  sane-noted n t h = h

  pub sane-processor : (i : ℕ) (registers : List ℕ) (flags : Flags) (t : Turn) → Sane g t.state → i < length t.state.tasks → AreWhole registers → Sane g (with_processor i registers flags t).state
  unfolding with_processor
  sane-processor i registers flags t h inside whole =
      let x = h.steady.tasks i inside in
      keeps-with_task i h inside record {
        births = refl;
        health = inl refl;
        sane = record { sixteen = whole.sixteen; even = whole.even; aligned = whole.aligned; fault = x.fault };
        ahead = h.ahead i inside;
        unmet = λ l here m same. rw same at (h.unmet l here m);
      }

  pub sane-stored : (on : Ground) (at : ℕ) (bytes : List ℕ) (t : Turn) → Sane g t.state → AreAllBytes bytes → IsWithinRam t.state.memory at (length bytes) → Sane g (stored on at bytes t).state
  unfolding stored
  sane-stored on at bytes t h all within =
      let m = t.state.memory in
      keeps-memory (with_bytes m at bytes) h (flash-with_bytes m at bytes within) (written_bytes m at bytes h.steady.bytes all)
      (placed_same g m (with_bytes m at bytes) h.steady.placed (flash-with_bytes m at bytes within) (length-with_bytes m at bytes within))

  pub sane-current : (i : ℕ) (t : Turn) → Sane g t.state → i < length t.state.tasks → Sane g (changed (λ s. record s { current = i }) t).state
  sane-current i t h inside = keeps-current i h inside

  pub sane-turn : (n : ℕ) (t : Turn) → Sane g t.state → Sane g (changed (λ s. record s { turn = n }) t).state
  sane-turn n t h = keeps-turn n h

  -- a task stops waiting, and then its health changes
  stopped : (i : ℕ) (health : Health) (s : State) → Sane g s → i < length s.tasks → IsFaultKnown health → Sane g (with_task i record (task_at s i) { health = health } (without_call i (without_listen i s)))
  unfolding task_at without_call without_listen
  stopped i health s h inside known =
      let u = without_call i (without_listen i s) in
      let h1 : Sane g u = keeps-without_call i (keeps-without_listen i h) in
      let x = h.steady.tasks i inside in
      keeps-with_task i h1 inside record {
        births = refl;
        health = inr record { call = call_of-without_call (without_listen i s) i; listen = listen_of-without_call (without_listen i s) i i ∙ listen_of-without_listen s i };
        sane = record { sixteen = x.sixteen; even = x.even; aligned = x.aligned; fault = known };
        ahead = h.ahead i inside;
        unmet = λ l here m same. absurd (idle_listen u i l (listen_of-without_call (without_listen i s) i i ∙ listen_of-without_listen s i) here same);
      }

  pub sane-faulted_as : (i : ℕ) (fault : Fault) (ending : Ending) (t : Turn) → Sane g t.state → i < length t.state.tasks → 1 ≤ fault.number → fault.number ≤ 10 → Sane g (faulted_as g i fault ending t).state
  unfolding faulted_as closed noted with_health with_task without_call without_listen
  sane-faulted_as i fault ending t h inside low high = by_zero (eqb i 0)
    where
      shut : Turn
      shut = closed i ending (noted (note.Fault i fault) (changed (without_listen i) (with_health i (Faulted fault) t)))

      shut_sane : Sane g shut.state
      shut_sane = stopped i (Faulted fault) t.state h inside (low, high)

      by_zero : (b : Bool) → Sane g (cond b shut (posted 0 g.fault_bits shut)).state
      by_zero true = shut_sane
      by_zero false = sane-posted 0 g.fault_bits shut shut_sane (still h shut_sane (omega (arith, inside)))

  pub sane-faulted : (i : ℕ) (fault : Fault) (t : Turn) → Sane g t.state → i < length t.state.tasks → 1 ≤ fault.number → fault.number ≤ 10 → Sane g (faulted g i fault t).state
  sane-faulted i fault t h inside low high = sane-faulted_as i fault Client t h inside low high
