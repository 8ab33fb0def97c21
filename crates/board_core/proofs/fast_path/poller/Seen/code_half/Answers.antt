use Rattle.std.proofs.Common.{sym, ◌∙◌}
use Rattle.board_core.specs.Data.{boxed}
use Rattle.board_core.specs.fast.Polling.{sight_of}
use Rattle.board_core.proofs.fast.Polled.{in_sight}
use Rattle.board_core.proofs.fast_path.poller.Seen.code_half.Goals as goal

pub returns : goal.returns
returns boxes c = in_sight (sight_of (boxed (λ p. (goal.Device-dyn boxes p).shown p.1)) c.args.self.now) c.args.addr c.code_half.result (sym c.is_device.ensures ∙ c.if-is_device.false) c.requires.apart c.code_half.ensures
