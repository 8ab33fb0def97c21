use Rattle.std.proofs.Common.{arith}
use Rattle.board_core.proofs.Loading.{devices_held}
use Rattle.board_core.proofs.Queues.{device_seen, no_device}
use Rattle.board_core.proofs.board.Board.device.Goals as goal

pub returns : goal.returns
returns boxes c = λ x s st. device_seen _ _ c.args.k _ (devices_held _ _ x.setup _ _ _ st.holds.machine) st.sane.steady.devices (omega (arith, c.len.ensures, c.if-k-len.false)) c.view.ensures

pub returns-then-k-len : goal.returns-then-k-len
returns-then-k-len boxes c = λ x s st. no_device _ _ c.args.k (devices_held _ _ x.setup _ _ _ st.holds.machine) (omega (arith, c.len.ensures, c.if-k-len.true))
