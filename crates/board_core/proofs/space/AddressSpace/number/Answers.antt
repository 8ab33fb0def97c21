use Rattle.std.proofs.Common.{sym, ◌∙◌}
use Rattle.board_core.proofs.Reaching.{device_shown, memory_shown}
use Rattle.board_core.proofs.space.AddressSpace.number.Goals as goal

pub returns-then-is_device : goal.returns-then-is_device
returns-then-is_device boxes c = c.device_number.ensures ∙ device_shown c.args.self.now.kernel _ c.args.addr c.args.n (sym c.is_device.ensures ∙ c.if-is_device.true)

pub returns-else-is_device : goal.returns-else-is_device
returns-else-is_device boxes c = c.number.ensures.value ∙ memory_shown c.args.self.now.kernel _ c.args.addr c.args.n (sym c.is_device.ensures ∙ c.if-is_device.false)
