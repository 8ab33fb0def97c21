use Rattle.std.specs.BTreeMap.{get}
use Rattle.std.specs.Ordering.{nat_cmp}
use Rattle.app_toml.specs.Sites.{device_of}
use Rattle.app_toml.proofs.Spreading.{away, kept_more, positive, spread_more}
use Rattle.app_toml.proofs.overlaps.keep.Goals as goal

pub returns-clause-by_base : goal.returns-clause-by_base
returns-clause-by_base c = λ kept has none placed.
    let updates = c.in_ok-insert.ensures.updates in
    kept_more (get nat_cmp c.args.bases.now) (get nat_cmp c.insert.new.self) (device_of c.args.device.now) kept
    (λ q other. updates.2 q (away c.args.device.now.base q other)) updates.1 has none placed (positive c.args.device.now.size c.requires.size)

pub returns-clause-spread : goal.returns-clause-spread
returns-clause-spread c = λ kept has none spread.
    let updates = c.in_ok-insert.ensures.updates in
    spread_more (get nat_cmp c.args.bases.now) (get nat_cmp c.insert.new.self) (device_of c.args.device.now) kept
    (λ q other. updates.2 q (away c.args.device.now.base q other)) updates.1 has none spread
