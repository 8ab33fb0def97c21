use Rattle.std.proofs.Common.{◌≡◌, ◌++◌, drop, map, string_bytes}
use Rattle.std.specs.List.{flat_map}
use Rattle.image_format.specs.ImageData.{name_bytes, names_bytes}
use Rattle.image_build.proofs.spelled.push_names.Given as goal

abbrev pub invariant-loop-name : goal.invariant-loop-name
invariant-loop-name l =
    l.out.items ++ flat_map (λ n. name_bytes (string_bytes n)) (drop l.name-index l.names)
    ≡ l.fn.out.items ++ names_bytes (map string_bytes l.names)
