-- What a board shows of bytes and of devices, and one turn of a run that is watched.
use Rattle.std.proofs.Common.{◌≡◌, ◌∙◌, ℕ, zero, suc, ◌+◌, ◌-◌, ◌*◌, ◌<◌, ◌≤◌, ◌⊎◌, inl, inr, Bool, true, false, List, [], ◌∷◌, length, take, drop, Option, Some, None, refl, sym, ap, arith}
use Rattle.std.specs.Prelude.{◌&&◌, nat_le, nat_lt, cond, slice_get}
use Rattle.std.proofs.lemmas.Bool.{le-leb, lt-leb}
use Rattle.std.proofs.lemmas.Bool.Decides.{nat_tests}
use Rattle.kernel_abi.specs.Devices.{DeviceData, device_at}
use Rattle.mem_banks.specs.Memory.{Memory, byte_at, bytes_at, number_at, number_of}
use Rattle.board_model.specs.Turn.{or_zero}
use Rattle.task_table.specs.model.State.{State}
use Rattle.board_model.specs.declared.outcomes.End.{End}
use Rattle.board_model.specs.declared.outcomes.Level.TheVariants.{Calls}
use Rattle.board_model.specs.Run.{ending}
use Rattle.board_model.specs.Script.{Scenario}
use Rattle.board_model.specs.Turn.{turn}
use Rattle.run_question.specs.declared.asked.Property.{Property}
use Rattle.explore_core.specs.declared.standing.Standing.{Standing}
use Rattle.explore_core.specs.declared.standing.Standing.TheVariants as standing
use Rattle.explore_core.specs.declared.verdict.Verdict.{Verdict}
use Rattle.explore_core.specs.declared.verdict.Verdict.TheVariants as verdict
use Rattle.explore_core.specs.Verdicts.{broken_by, ended, stepped, unless_broken}
use Rattle.explore_core.specs.Asked.{is_waiting}
use Rattle.explore_core.specs.Kept.{broken_from, by_turn, found_at_end, from_standing, on_state, unless_ended}

-- ## a word

four : (l : List ℕ) → number_of (take 4 l) ≡ or_zero (slice_get l 0) + 256 * (or_zero (slice_get l 1) + 256 * (or_zero (slice_get l 2) + 256 * or_zero (slice_get l 3)))
four [] = refl
four (a ∷ []) = omega arith
four (a ∷ b ∷ []) = omega arith
four (a ∷ b ∷ c ∷ []) = omega arith
four (a ∷ b ∷ c ∷ d ∷ l) = omega arith

get_further : (k j : ℕ) (l : List ℕ) → slice_get (drop k l) j ≡ slice_get l (j + k)
get_further zero j l = ap (slice_get l) (let e : j ≡ j + 0 = omega arith in e)
get_further (suc k) j [] = refl
get_further (suc k) j (a ∷ l) = let e : j + suc k ≡ suc (j + k) = omega arith in rw e (get_further k j l)

abbrev of_four : (ℕ → Option ℕ) → ℕ → ℕ
of_four byte at = or_zero (byte at) + 256 * (or_zero (byte (at + 1)) + 256 * (or_zero (byte (at + 2)) + 256 * or_zero (byte (at + 3))))

four_from : (base at : ℕ) (l : List ℕ) → base ≤ at → number_of (take 4 (drop (at - base) l)) ≡ of_four (λ a. slice_get l (a - base)) at
four_from base at l le =
    let one : 1 + (at - base) ≡ at + 1 - base = omega (arith, le) in
    let two : 2 + (at - base) ≡ at + 2 - base = omega (arith, le) in
    let three : 3 + (at - base) ≡ at + 3 - base = omega (arith, le) in
    let none : 0 + (at - base) ≡ at - base = omega arith in
    let get = λ (j : ℕ). get_further (at - base) j l in
    four (drop (at - base) l)
    ∙ (λ i. or_zero (get 0 i) + 256 * (or_zero (get 1 i) + 256 * (or_zero (get 2 i) + 256 * or_zero (get 3 i))))
    ∙ (λ i. or_zero (slice_get l (none i)) + 256 * (or_zero (slice_get l (one i)) + 256 * (or_zero (slice_get l (two i)) + 256 * or_zero (slice_get l (three i)))))

in_ram : (m : Memory) (a : ℕ) → 0x20000000 ≤ a → byte_at m a ≡ slice_get m.ram (a - 0x20000000)
in_ram m a le = let yes : nat_le 0x20000000 a ≡ true = le-leb 0x20000000 a le in rw yes refl

in_flash : (m : Memory) (a : ℕ) → a < 0x20000000 → byte_at m a ≡ cond (nat_le 0x08000000 a) (slice_get m.flash (a - 0x08000000)) None
in_flash m a lt = let other : nat_le 0x20000000 a ≡ false = lt-leb 0x20000000 a lt in rw other refl

by_bytes : (f g : ℕ → Option ℕ) (at : ℕ) → f at ≡ g at → f (at + 1) ≡ g (at + 1) → f (at + 2) ≡ g (at + 2) → f (at + 3) ≡ g (at + 3) → of_four f at ≡ of_four g at
by_bytes f g at a b c d = λ i. or_zero (a i) + 256 * (or_zero (b i) + 256 * (or_zero (c i) + 256 * or_zero (d i)))

in_flash_too : (m : Memory) (a : ℕ) → 0x08000000 ≤ a → a < 0x20000000 → byte_at m a ≡ slice_get m.flash (a - 0x08000000)
in_flash_too m a le lt = let yes : nat_le 0x08000000 a ≡ true = le-leb 0x08000000 a le in in_flash m a lt ∙ rw yes refl

pub word_is : (m : Memory) (at : ℕ) → ((0x08000000 ≤ at) × (at + 3 < 0x20000000)) ⊎ ((0x20000000 ≤ at) × (at + 3 < 4294967296)) → number_at m at 4 ≡ of_four (byte_at m) at
unfolding bytes_at
word_is m at (inr h) =
    let le = h.0 in
    let yes : nat_le 0x20000000 at ≡ true = le-leb 0x20000000 at le in
    rw yes (four_from 0x20000000 at m.ram le)
    ∙ sym (by_bytes (byte_at m) (λ a. slice_get m.ram (a - 0x20000000)) at (in_ram m at le) (in_ram m (at + 1) (omega (arith, le))) (in_ram m (at + 2) (omega (arith, le))) (in_ram m (at + 3) (omega (arith, le))))
word_is m at (inl h) =
    let le = h.0 in
    let lt = h.1 in
    let other : nat_le 0x20000000 at ≡ false = lt-leb 0x20000000 at (omega (arith, lt)) in
    let yes : nat_le 0x08000000 at ≡ true = le-leb 0x08000000 at le in
    rw (other, yes) (four_from 0x08000000 at m.flash le)
    ∙ sym (by_bytes (byte_at m) (λ a. slice_get m.flash (a - 0x08000000)) at (in_flash_too m at le (omega (arith, lt))) (in_flash_too m (at + 1) (omega (arith, le)) (omega (arith, lt))) (in_flash_too m (at + 2) (omega (arith, le)) (omega (arith, lt)))
    (in_flash_too m (at + 3) (omega (arith, le)) lt))

-- ## a device

abbrev waits : Option DeviceData → Bool
waits None = false
waits (Some d) = nat_lt 0 (length d.queue)

waits_at : (devices : List DeviceData) (d : ℕ) → waits (slice_get devices d) ≡ (nat_lt d (length devices) && nat_lt 0 (length (device_at devices d).queue))
waits_at [] zero = refl
waits_at [] (suc d) = let none : nat_lt (suc d) 0 ≡ false = grind (arith, nat_tests) in sym (ap (λ b. b && false) none)
waits_at (x ∷ devices) zero = let some : nat_lt 0 (suc (length devices)) ≡ true = grind (arith, nat_tests) in sym (ap (λ b. b && nat_lt 0 (length x.queue)) some)
waits_at (x ∷ devices) (suc d) =
    let less : nat_lt (suc d) (suc (length devices)) ≡ nat_lt d (length devices) = grind (arith, nat_tests) in
    waits_at devices d ∙ sym (ap (λ b. b && nat_lt 0 (length (device_at devices d).queue)) less)

pub waiting_is : (s : State) (d : ℕ) (o : Option DeviceData) → o ≡ slice_get s.devices d → waits o ≡ is_waiting s d
waiting_is s d o e = ap waits e ∙ waits_at s.devices d

-- ## a turn

module _ (p : Property) (x : Scenario) (left kept : ℕ) (s : State) (goes : ending x (suc left) s ≡ None) where
  abbrev next : State
  next = (turn Calls x s).state

  one_turn : broken_from p x (suc left) kept s ≡ from_standing s.turn (by_turn p kept x s) (λ later. from_standing next.turn (on_state p later next) (λ now. broken_from p x left now next))
  unfolding broken_from
  one_turn = ap (λ o. unless_ended p kept s o (from_standing s.turn (by_turn p kept x s) (λ later. from_standing next.turn (on_state p later next) (λ now. broken_from p x left now next)))) goes

pub goes_on : (p : Property) (x : Scenario) (left : ℕ) (v : Verdict) (s : State) → ending x (suc left) s ≡ None → broken_by p x (suc left) v s ≡ broken_by p x left (stepped p x v s) (turn Calls x s).state
goes_on p x left (verdict.Broken t) s goes = refl
goes_on p x left (verdict.Open kept) s goes = one_turn p x left kept s goes ∙ by_first (by_turn p kept x s)
  where
    next : State
    next = (turn Calls x s).state

    by_second : (t : Standing) → from_standing next.turn t (λ now. broken_from p x left now next) ≡ broken_by p x left (unless_broken next.turn t (λ now. verdict.Open now)) next
    by_second standing.Broken = refl
    by_second (standing.Kept now) = refl

    by_first : (t : Standing) → from_standing s.turn t (λ later. from_standing next.turn (on_state p later next) (λ now. broken_from p x left now next)) ≡
        broken_by p x left (unless_broken s.turn t (λ later. unless_broken next.turn (on_state p later next) (λ now. verdict.Open now))) next
    by_first standing.Broken = refl
    by_first (standing.Kept later) = by_second (on_state p later next)

ended_from : (p : Property) (x : Scenario) (left kept : ℕ) (s : State) (e : End) → ending x left s ≡ Some e → broken_from p x left kept s ≡ found_at_end p kept e s
unfolding broken_from
ended_from p x zero kept s e h = ap (λ o. unless_ended p kept s o None) h
ended_from p x (suc left) kept s e h =
    ap (λ o. unless_ended p kept s o (from_standing s.turn (by_turn p kept x s) (λ later. from_standing (turn Calls x s).state.turn (on_state p later (turn Calls x s).state) (λ now. broken_from p x left now (turn Calls x s).state)))) h

pub ends : (p : Property) (x : Scenario) (left : ℕ) (v : Verdict) (s : State) (e : End) → ending x left s ≡ Some e → broken_by p x left v s ≡ ended p v e s
ends p x left (verdict.Broken t) s e h = refl
ends p x left (verdict.Open kept) s e h = ended_from p x left kept s e h
