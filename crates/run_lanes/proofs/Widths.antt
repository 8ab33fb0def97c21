-- How many turns a column has, while turns are added.
use Rattle.std.proofs.Common.{◌≡◌, ◌<◌, ◌≤◌, ◌⊎◌, ℕ, zero, suc, ◌+◌, ◌*◌, Bool, true, false, refl, ap, ◌∙◌, if◌then◌else◌, inl, inr, arith}
use Rattle.std.proofs.lemmas.Bool.{lt-leb, le-leb, leb-true, leb-false}
use Rattle.std.specs.Prelude.{nat_le}
use Rattle.run_lanes.specs.Columns.{doubled_until, most_columns}

-- p twice as often as there are steps
abbrev pub reach : ℕ → ℕ → ℕ
reach zero p = p
reach (suc more) p = reach more (2 * p)

-- a turn more for which there is room
stays_by : (more p n : ℕ) (b : Bool) → nat_le n (most_columns * p) ≡ b → (n + 1 ≤ most_columns * doubled_until more (2 * p) n → doubled_until more (2 * p) (n + 1) ≡ doubled_until more (2 * p) n) →
    n + 1 ≤ most_columns * (if b then p else doubled_until more (2 * p) n) → (if nat_le (n + 1) (most_columns * p) then p else doubled_until more (2 * p) (n + 1)) ≡ (if b then p else doubled_until more (2 * p) n)
stays_by more p n true is rest room = ap (λ (b : Bool). if b then p else doubled_until more (2 * p) (n + 1)) (le-leb (n + 1) (most_columns * p) room)
stays_by more p n false is rest room =
    ap (λ (b : Bool). if b then p else doubled_until more (2 * p) (n + 1)) (lt-leb (n + 1) (most_columns * p) (omega (arith, leb-false n (most_columns * p) is))) ∙ rest room

pub width_stays : (more p n : ℕ) → n + 1 ≤ most_columns * doubled_until more p n → doubled_until more p (n + 1) ≡ doubled_until more p n
unfolding doubled_until
width_stays zero p n room = refl
width_stays (suc more) p n room = stays_by more p n (nat_le n (most_columns * p)) refl (λ h. width_stays more (2 * p) n h) room

-- one for which there is none
width_first : (more p n : ℕ) → n ≤ most_columns * p → doubled_until more p n ≡ p
unfolding doubled_until
width_first zero p n room = refl
width_first (suc more) p n room = ap (λ (b : Bool). if b then p else doubled_until more (2 * p) n) (le-leb n (most_columns * p) room)

doubles_by : (more p n : ℕ) (b : Bool) → nat_le n (most_columns * p) ≡ b → 0 < p → (n ≡ most_columns * doubled_until more (2 * p) n → doubled_until more (2 * p) (n + 1) ≡ 2 * doubled_until more (2 * p) n) →
    n ≡ most_columns * (if b then p else doubled_until more (2 * p) n) → (if nat_le (n + 1) (most_columns * p) then p else doubled_until more (2 * p) (n + 1)) ≡ 2 * (if b then p else doubled_until more (2 * p) n)
doubles_by more p n true is some rest full =
    ap (λ (b : Bool). if b then p else doubled_until more (2 * p) (n + 1)) (lt-leb (n + 1) (most_columns * p) (omega arith)) ∙ width_first more (2 * p) (n + 1) (omega arith)
doubles_by more p n false is some rest full =
    ap (λ (b : Bool). if b then p else doubled_until more (2 * p) (n + 1)) (lt-leb (n + 1) (most_columns * p) (omega (arith, leb-false n (most_columns * p) is))) ∙ rest full

pub width_doubles : (more p n : ℕ) → 0 < p → n < most_columns * reach more p → n ≡ most_columns * doubled_until more p n → doubled_until more p (n + 1) ≡ 2 * doubled_until more p n
unfolding doubled_until
width_doubles zero p n some within full = absurd (omega arith)
width_doubles (suc more) p n some within full = doubles_by more p n (nat_le n (most_columns * p)) refl some (λ h. width_doubles more (2 * p) n (omega arith) within h) full

-- it is at least one, it is enough, and half of it is not
some_by : (p m : ℕ) (b : Bool) → 0 < p → 0 < m → 0 < (if b then p else m)
some_by p m true h k = h
some_by p m false h k = k

pub width_some : (more p n : ℕ) → 0 < p → 0 < doubled_until more p n
unfolding doubled_until
width_some zero p n some = some
width_some (suc more) p n some = some_by p (doubled_until more (2 * p) n) (nat_le n (most_columns * p)) some (width_some more (2 * p) n (omega arith))

enough_by : (p m n : ℕ) (b : Bool) → nat_le n (most_columns * p) ≡ b → n ≤ most_columns * m → n ≤ most_columns * (if b then p else m)
enough_by p m n true is h = leb-true n (most_columns * p) is
enough_by p m n false is h = h

pub width_enough : (more p n : ℕ) → n ≤ most_columns * reach more p → n ≤ most_columns * doubled_until more p n
unfolding doubled_until
width_enough zero p n within = within
width_enough (suc more) p n within = enough_by p (doubled_until more (2 * p) n) n (nat_le n (most_columns * p)) refl (width_enough more (2 * p) n within)

abbrev Least : ℕ → ℕ → ℕ → Type 0
Least p w n = (w ≡ p) ⊎ ((half : ℕ) × (w ≡ 2 * half) × (most_columns * half < n))

least_next : (p w n : ℕ) → most_columns * p < n → Least (2 * p) w n → Least p w n
least_next p w n over (inl is) = inr (p, is, over)
least_next p w n over (inr h) = inr h

least_by : (p m n : ℕ) (b : Bool) → nat_le n (most_columns * p) ≡ b → Least (2 * p) m n → Least p (if b then p else m) n
least_by p m n true is h = inl refl
least_by p m n false is h = least_next p m n (leb-false n (most_columns * p) is) h

pub width_least : (more p n : ℕ) → (doubled_until more p n ≡ p) ⊎ ((half : ℕ) × (doubled_until more p n ≡ 2 * half) × (most_columns * half < n))
unfolding doubled_until
width_least zero p n = inl refl
width_least (suc more) p n = least_by p (doubled_until more (2 * p) n) n (nat_le n (most_columns * p)) refl (width_least more (2 * p) n)
