use Rattle.std.proofs.Common.{arith, sym}
use Rattle.kernel_abi.specs.Devices.{is_behind, device_at}
use Rattle.board_core.proofs.Members.{none_behind, one_more, placed}
use Rattle.board_core.proofs.list.Devices.place.Goals as goal

pub loop-k-init : goal.loop-k-init
loop-k-init g c = record { inside = c.len-len.ensures; before = λ j h. absurd (omega (arith, h)) }

pub loop-k-preserved : goal.loop-k-preserved
loop-k-preserved g c =
    record {
      inside = c.loop-k.invariant.inside;
      before = one_more (λ j. is_behind c.args.addr (device_at _ j)) c.loop-k.k c.loop-k.invariant.before c.in_default.ensures;
    }

pub returns-in-Some : goal.returns-in-Some
returns-in-Some g c = placed c.args.addr _ c.loop-k.k c.in-Some.off (rw (sym c.loop-k.invariant.inside) c.loop-k-test.true) c.loop-k.invariant.before c.in-Some.ensures

pub returns : goal.returns
returns g c = sym (none_behind c.args.addr _ c.loop-k.k (rw (sym c.loop-k.invariant.inside) (omega (arith, c.loop-k-test.false))) c.loop-k.invariant.before)
