use Rattle.std.proofs.Common.{sym, ◌∙◌, refl}
use Rattle.board_core.proofs.Reaching.{taken_device, taken_nowhere}
use Rattle.board_core.proofs.space.AddressSpaceBus.taken.Goals as goal

pub returns-then-is_device-clause-done : goal.returns-then-is_device-clause-done
returns-then-is_device-clause-done boxes c = taken_device _ c.args.self.now _ c.args.addr (sym c.is_device.ensures ∙ c.if-is_device.true) refl c.taken.ensures

pub returns-else-is_device-clause-done : goal.returns-else-is_device-clause-done
returns-else-is_device-clause-done boxes c = taken_nowhere _ c.args.self.now c.args.addr (sym c.is_device.ensures ∙ c.if-is_device.false)
