use Rattle.std.proofs.Common.{◌≡◌, ◌∙◌, ◌+◌, ◌||◌, [], ap, arith, codes, false, map, subst, sym, take}
use Rattle.std.specs.BTreeSet.{contains_text}
use Rattle.std.specs.Str.{bytes_eq}
use Rattle.app_toml.specs.Crossed.{device_site, device_twice, has_device, has_region}
use Rattle.app_toml.specs.Places.{first_clash, refuse_if}
use Rattle.app_toml.specs.Sites.{device_of, region_of}
use Rattle.app_toml.proofs.Gathered.{joined_more, taken_more}
use Rattle.app_toml.proofs.Walks.{clash_passes, was_absent}
use Rattle.app_toml.proofs.repeats.devices_twice.Goals as goal

pub loop-i-preserved : goal.loop-i-preserved
loop-i-preserved c =
    let before = map device_of (take c.loop-i.i c.args.devices.now) in
    let here = device_of c.index-devices-i.result in
    let old = was_absent c.in_ok-is_new.is_new (contains_text c.loop-i.known c.as_str-name.result.now) c.in_ok-is_new.ensures.new c.if-not-is_new.false in
    let absent : (has_region here.name (map region_of c.args.regions.now) || has_device here.name before) ≡ false =
    sym (c.loop-i.invariant.1 here.name) ∙ subst (λ n. contains_text c.loop-i.known n ≡ false) c.as_str-name.ensures.value old in (
      clash_passes device_of (device_twice (map region_of c.args.regions.now)) before (map device_of (take (c.loop-i.i + 1) c.args.devices.now)) c.args.devices.now c.loop-i.i c.index-devices-i.result
          (first_clash (device_twice (map region_of c.args.regions.now)) [] 0 (map device_of c.args.devices.now)) (omega arith) c.index-devices-i.is
          (taken_more device_of c.args.devices.now c.loop-i.i c.index-devices-i.result (omega arith) c.index-devices-i.is)
          (ap (λ b. refuse_if b 7 (device_site c.loop-i.i (codes "name"))) absent) c.loop-i.invariant.0,
      λ q. joined_more device_of (λ d. bytes_eq d.name q) c.args.devices.now c.loop-i.i c.index-devices-i.result
          (has_region q (map region_of c.args.regions.now)) (contains_text c.loop-i.known q) (contains_text c.learn.new.known q) (omega arith) c.index-devices-i.is (c.loop-i.invariant.1 q)
          (subst (λ n. contains_text c.learn.new.known q ≡ (bytes_eq n q || contains_text c.loop-i.known q)) c.as_str-name.ensures.value (c.in_ok-is_new.ensures.known q)),
    )
