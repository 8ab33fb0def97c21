use Rattle.std.proofs.Common.{◌≡◌, take, length}
use Rattle.kernel_abi.specs.Devices.{device_at}
use Rattle.board_core.specs.Data.{boxed, data_of}
use Rattle.board_core.proofs.device_view.queue.Given as goal

-- the bytes so far
abbrev pub invariant-loop-j : goal.invariant-loop-j
invariant-loop-j boxes l =
    let shown = boxed (λ p. (goal.Device-dyn boxes p).shown p.1) in
    record {
      items : l.queue.items ≡ take l.j (device_at (data_of shown l.devices) l.k).queue;
      len : length l.queue.items ≡ l.j;
    }
