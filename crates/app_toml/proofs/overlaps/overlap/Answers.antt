use Rattle.std.proofs.Common.{◌∙◌, ◌+◌, [], ap, arith, codes, map, subst, sym, take}
use Rattle.app_toml.specs.Crossed.{overlap}
use Rattle.app_toml.specs.Places.{first_clash, index_site, refuse_if}
use Rattle.app_toml.specs.Sites.{device_of}
use Rattle.app_toml.specs.Spread.{IsByBase}
use Rattle.app_toml.proofs.Gathered.{taken_more}
use Rattle.app_toml.proofs.Spreading.{placed_at, placed_before}
use Rattle.app_toml.proofs.Walks.{clash_passes}
use Rattle.app_toml.proofs.overlaps.overlap.Goals as goal

pub is_met-met-requires : goal.is_met-met-requires
is_met-met-requires c = placed_at c.args.devices.now c.loop-i.i c.index-devices-i.result c.requires (omega arith) c.index-devices-i.is

pub keep-requires : goal.keep-requires
keep-requires c = placed_at c.args.devices.now c.loop-i.i c.index-devices-i.result c.requires (omega arith) c.index-devices-i.is

pub loop-i-preserved : goal.loop-i-preserved
loop-i-preserved c =
    let before = map device_of (take c.loop-i.i c.args.devices.now) in
    let more = taken_more device_of c.args.devices.now c.loop-i.i c.index-devices-i.result (omega arith) c.index-devices-i.is in
    let same = c.is_met-met.ensures before c.loop-i.invariant.1 c.loop-i.invariant.2 in
    let apart = sym same ∙ c.if-met.false in (
      clash_passes device_of overlap before (map device_of (take (c.loop-i.i + 1) c.args.devices.now)) c.args.devices.now c.loop-i.i c.index-devices-i.result
          (first_clash overlap [] 0 (map device_of c.args.devices.now)) (omega arith) c.index-devices-i.is more
          (ap (λ b. refuse_if b 20 (index_site (codes "device") c.loop-i.i)) apart) c.loop-i.invariant.0,
      subst (IsByBase c.keep.new.bases) (sym more)
          (c.in_ok-keep.ensures.by_base before c.loop-i.invariant.1 apart (placed_before c.args.devices.now c.loop-i.i c.requires)),
      c.in_ok-keep.ensures.spread before c.loop-i.invariant.1 apart c.loop-i.invariant.2,
    )
