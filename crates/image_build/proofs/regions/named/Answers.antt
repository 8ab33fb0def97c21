use Rattle.std.proofs.Common.{◌≡◌, ◌∙◌, ◌+◌, ◌<◌, ap, arith, if◌then◌else◌, length, rules}
use Rattle.app_toml.specs.Held.{app_of}
use Rattle.app_toml.specs.Sites.{task_of}
use Rattle.image_build.specs.Layout.{ram_base, region_base}
use Rattle.image_build.proofs.Finding.{same_count}
use Rattle.image_build.proofs.Recorded.{device_below, device_is, region_is, region_small}
use Rattle.image_build.proofs.regions.named.Goals as goal

pub rounded-requires : goal.rounded-requires
rounded-requires c =
    region_small (app_of c.args.app.now) c.regions-regions.result.now c.facts.ensures c.regions-regions.ensures c.region_place-k.result c.index-regions-k.result c.if-k-regions.true

pub offset_bounds-devices-device_place : goal.offset_bounds-devices-device_place
offset_bounds-devices-device_place c =
    let below : c.device_place.result < length c.devices-devices.result.now = device_below (app_of c.args.app.now) c.args.name.now c.regions-regions.result.now c.region_place-k.result c.devices-devices.result.now c.device_place.result c.regions-regions.ensures c.region_place-k.ensures (omega (arith, c.if-k-regions.false)) c.devices-devices.ensures c.device_place.ensures c.requires.known in
    search (below, rules)

pub bounds-devices-device_place : goal.bounds-devices-device_place
bounds-devices-device_place c =
    device_below (app_of c.args.app.now) c.args.name.now c.regions-regions.result.now c.region_place-k.result c.devices-devices.result.now c.device_place.result c.regions-regions.ensures c.region_place-k.ensures (omega (arith, c.if-k-regions.false)) c.devices-devices.ensures c.device_place.ensures c.requires.known

pub returns-then-k-regions : goal.returns-then-k-regions
returns-then-k-regions c =
    let app = app_of c.args.app.now in
    let at : c.ram_base.result ≡ region_base app c.region_place-k.result =
    c.ram_base.ensures.base ∙ ap (λ n. ram_base app (n + c.region_place-k.result)) (same_count task_of c.tasks.result.now app.tasks c.tasks.ensures) in
    let rights : c.if-is_written.rights ≡ (if c.args.is_written then 3 else 1) = search rules in
    region_is app c.args.is_written c.args.name.now c.regions-regions.result.now c.region_place-k.result c.index-regions-k.result _ _ _ c.regions-regions.ensures c.region_place-k.ensures c.if-k-regions.true at (search rules) rights

pub returns-else-k-regions : goal.returns-else-k-regions
returns-else-k-regions c =
    let app = app_of c.args.app.now in
    let rights : c.if-is_written.rights ≡ (if c.args.is_written then 3 else 1) = search rules in
    device_is app c.args.is_written c.args.name.now c.regions-regions.result.now c.region_place-k.result c.devices-devices.result.now c.device_place.result c.index-devices-device_place.result _ _ _
    c.regions-regions.ensures c.region_place-k.ensures (omega (arith, c.if-k-regions.false)) c.devices-devices.ensures c.device_place.ensures c.requires.known (ap (λ x. x.base) c.index-devices-device_place.is) (ap (λ x. x.size) c.index-devices-device_place.is) rights
