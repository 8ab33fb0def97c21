-- Devices change only where the chosen task reaches them.
use Rattle.std.proofs.Common.{ℕ, List, sym, subst}
use Rattle.kernel_abi.specs.Devices.{DeviceData}
use Rattle.task_table.specs.model.State.{Setup, State, Turn}
use Rattle.task_table.specs.model.Effects.{with_call, with_taken, without_call, noted, stored, copied, looked, closed, offered, with_devices}
use Rattle.task_table.specs.model.Grounds.{AreReached, Untouched, Once}
use Rattle.task_table.specs.model.Chain.{Chain}
use Rattle.task_table.specs.model.Placed.{ArePlaced}
use Rattle.task_table.specs.model.Step.{Step}
use Rattle.task_table.proofs.model.Chains.{chain_keeps}
use Rattle.task_table.proofs.model.Happens.{chain_moves}
use Rattle.task_table.proofs.model.Moves.{Move, Aside, Writes, Reads, Alters, Lends, Offers, Takes, Closes}

move_reaches : (g : Setup) (s : State) (c : ℕ) (old : List DeviceData) (u v : Turn) → Move g s c u v → AreReached g c old u.state.devices → AreReached g c old v.state.devices
unfolding stored looked noted offered with_call copied with_taken closed without_call with_devices
move_reaches g s c old _ _ (Aside u v a) h = subst (AreReached g c old) (sym a.devices) h
move_reaches g s c old _ _ (Writes on at bytes u within may) h = h
move_reaches g s c old _ _ (Reads r u alive) h = h
move_reaches g s c old _ _ (Alters devices u reached) h = Once old u.state.devices devices h reached
move_reaches g s c old _ _ (Lends k borrow lease offset moved u alive taken fits) h = h
move_reaches g s c old _ _ (Offers k u new) h = h
move_reaches g s c old _ _ (Takes on k buffer u t) h = h
move_reaches g s c old _ _ (Closes i ending u ends) h = h

-- over a whole chain
pub chain_reaches : (g : Setup) (s : State) (c : ℕ) → ArePlaced g s.memory → (u v : Turn) → Chain (Step g s c) u v → AreReached g c u.state.devices v.state.devices
chain_reaches g s c placed u v x = chain_keeps (Move g s c) (λ w. AreReached g c u.state.devices w.state.devices) (move_reaches g s c u.state.devices) u v (chain_moves g s c placed u v x) (Untouched u.state.devices)
