-- The bytes of a task that no other may write stay while it takes no part.
use Rattle.std.proofs.Common.{◌≡◌, ◌≢◌, ◌+◌, ◌-◌, ◌<◌, ◌≤◌, inl, inr, ℕ, zero, suc, Bool, true, false, cond, leb, List, [], ◌∷◌, length, None, refl, sym, subst, ◌∙◌, ap, arith}
use Rattle.std.specs.Prelude.{Contains, slice_get}
use Rattle.std.proofs.lemmas.Bool.{leb-true, false≢true, and_parts}
use Rattle.region_check.specs.declared.Region.{Region}
use Rattle.region_check.specs.declared.Right.TheVariants as right
use Rattle.region_check.specs.Rights.{is_inside, gives_copy}
use Rattle.mem_banks.specs.Memory.{Memory, byte_at, with_bytes, IsWithinRam}
use Rattle.task_table.specs.model.State.{Setup, State, Ground, Own, Message, Reply, Lease, Write as Written, Turn}
use Rattle.task_table.specs.model.Reading.{setup_at, IsIdle}
use Rattle.task_table.specs.model.Placed.{ArePlaced}
use Rattle.task_table.specs.model.Grounds.{MayWrite, MayChange, AreGrounded, with_writes}
use Rattle.task_table.proofs.model.Keeps.{idle_call, idle_listen}
use Rattle.task_table.proofs.model.Ranges.{within_ram-given}
use Rattle.task_table.proofs.model.Writing.{over, with_over}
use Rattle.mem_banks.proofs.Stores.{length-with_bytes}
use Rattle.board_model.proofs.Views.{any_in}
use Rattle.board_model.specs.Loners.{IsLoner, owns}

-- ## a byte that is not written

get_over : (xs : List ℕ) (i k b : ℕ) → i < length xs → k ≢ i → slice_get (over xs i (b ∷ [])) k ≡ slice_get xs k
unfolding over
get_over [] i k b lt ne = absurd (omega arith)
get_over (x ∷ xs) zero zero b lt ne = absurd (ne refl)
get_over (x ∷ xs) zero (suc k) b lt ne = refl
get_over (x ∷ xs) (suc i) zero b lt ne = refl
get_over (x ∷ xs) (suc i) (suc k) b lt ne = get_over xs i k b (omega arith) (λ e. ne (ap suc e))

other_byte : (m : Memory) (at b a : ℕ) → 0x20000000 ≤ at → at < 0x20000000 + length m.ram → at ≢ a → byte_at (with_bytes m at (b ∷ [])) a ≡ byte_at m a
other_byte m at b a low high ne =
    let i : ℕ = at - 0x20000000 in
    ap (λ v. byte_at v a) (with_over m (at - 0x20000000) at (b ∷ []) (omega arith) (omega arith)) ∙ by_place (leb 0x20000000 a) refl
  where
    by_place : (d : Bool) → leb 0x20000000 a ≡ d → cond d (slice_get (over m.ram (at - 0x20000000) (b ∷ [])) (a - 0x20000000)) (cond (leb 0x08000000 a) (slice_get m.flash (a - 0x08000000)) None) ≡ cond d (slice_get m.ram (a - 0x20000000)) (cond (leb 0x08000000 a) (slice_get m.flash (a - 0x08000000)) None)
    by_place true e = let above = leb-true 0x20000000 a e in get_over m.ram (at - 0x20000000) (a - 0x20000000) b (omega arith) (omega arith)
    by_place false e = refl

pub unwritten : (ws : List Written) (m : Memory) (a : ℕ) → ((w : Written) → Contains ws w → (0x20000000 ≤ w.address) × (w.address < 0x20000000 + length m.ram) × (w.address ≢ a)) → byte_at (with_writes m ws) a ≡ byte_at m a
unwritten [] m a h = refl
unwritten (w ∷ ws) m a h =
    let r = h w (zero, omega arith, refl) in
    let high = r.1 in
    let v = with_bytes m w.address (w.byte ∷ []) in
    let same : length v.ram ≡ length m.ram = length-with_bytes m w.address (w.byte ∷ []) (inr (r.0, omega arith)) in
    unwritten ws v a (λ y here. let q = h y (suc here.0, omega (arith, here.1), here.2) in (q.0, rw same q.1, q.2)) ∙ other_byte m w.address w.byte a r.0 r.1 r.2

-- ## on whose ground

-- no other task may write a byte of a loner
pub own_alone : (g : Setup) (j i a : ℕ) → IsLoner g j → owns g j a ≡ true → i ≢ j → MayWrite g i a → ⊥
own_alone g j i a loner own ne may =
    let r = any_in (λ (x : Region). is_inside x a) (setup_at g j).regions own in
    let q = any_in (gives_copy right.Write a) (setup_at g i).regions may in
    let inside : is_inside q.0 a ≡ true = (and_parts (is_inside q.0 a) _ (and_parts _ _ q.2).0).0 in
    false≢true (sym (loner.apart i ne r.0 q.0 r.1 q.1 a r.2) ∙ inside)

module _ (g : Setup) (s : State) (c : ℕ) (u : Turn) (j : ℕ) (apart : j ≢ c) (waits : IsIdle s j) where
  -- each ground is one that another task may write
  by_other : (on : Ground) (a : ℕ) → MayChange g s c u on a → (i : ℕ) × (i ≢ j) × MayWrite g i a
  by_other Own a h = (c, λ e. apart (sym e), h)
  by_other (Message k) a h = (h.listen.task, λ e. idle_listen s j h.listen waits.listen h.here e, h.may)
  by_other (Reply k) a h = (h.call.client.index, λ e. idle_call s j h.call waits.call h.taken.here e, h.may)
  by_other (Lease k) a h = (h.call.client.index, λ e. idle_call s j h.call waits.call h.taken.here e, h.may)

  in_ram : (m : Memory) (a : ℕ) → IsWithinRam m a 1 → (0x20000000 ≤ a) × (a < 0x20000000 + length m.ram)
  in_ram m a w = elim w [ inl none ↦ absurd (omega arith) | inr x ↦ let high = x.1 in (x.0, omega arith) ]

  pub own_stays : (m : Memory) (a : ℕ) → ArePlaced g m → AreGrounded g s c u → IsLoner g j → owns g j a ≡ true → byte_at (with_writes m u.writes) a ≡ byte_at m a
  own_stays m a placed grounded loner own = unwritten u.writes m a (λ w here.
      let other = by_other w.on w.address (grounded w here) in
      let place = in_ram m w.address (within_ram-given g m other.0 w.address placed other.2) in
      (place.0, place.1, λ e. own_alone g j other.0 a loner own other.1 (subst (λ x. MayWrite g other.0 x) e other.2)))
