use Rattle.std.proofs.Common.{◌≡◌, ◌++◌, drop, map, string_bytes}
use Rattle.app_toml.specs.Held.{app_of}
use Rattle.image_format.specs.ImageData.{region_record}
use Rattle.image_build.specs.Layout.{named}
use Rattle.image_build.proofs.regions.push_named.Given as goal

abbrev pub invariant-loop-name : goal.invariant-loop-name
invariant-loop-name l =
    l.out.items ++ map region_record (map (named (app_of l.app) l.is_written) (map string_bytes (drop l.name-index l.names)))
    ≡ l.fn.out.items ++ map region_record (map (named (app_of l.app) l.is_written) (map string_bytes l.names))
