-- States that were seen.
use Rattle.std.specs.Prelude.{ℕ, ◌≡◌, ◌<◌, true, Bool, List, length, slice_set}
use Rattle.std.specs.List.{HoldsAt}
use Rattle.explore_core.specs.declared.seen.Seen.{Seen}
use Rattle.explore_core.specs.declared.seen.Slot.{Slot}

-- a slot has this state of a turn, with as much to come and as much kept
pub record IsSameAs (of_turn : ℕ) (coming : List Bool) (numbers bytes : List ℕ) (slot : Slot) : Type 0 where
  pub used : slot.used ≡ true
  pub turn : slot.turn ≡ of_turn
  pub pending : slot.pending ≡ coming
  pub kept : slot.kept ≡ numbers
  pub state : slot.state.items ≡ bytes

-- one of the slots does
pub record HasSame (of_turn : ℕ) (coming : List Bool) (numbers bytes : List ℕ) (seen : Seen) : Type 0 where
  pub place : ℕ
  pub inside : place < length seen.slots.items
  pub slot : Slot
  pub at : HoldsAt (λ s. s ≡ slot) seen.slots.items place
  pub same : IsSameAs of_turn coming numbers bytes slot

-- one of the slots is another one now, which does
pub record IsWithSlot (of_turn : ℕ) (coming : List Bool) (numbers bytes : List ℕ) (old new : Seen) : Type 0 where
  pub place : ℕ
  pub slot : Slot
  pub same : IsSameAs of_turn coming numbers bytes slot
  pub slots : new.slots.items ≡ slice_set old.slots.items place slot
