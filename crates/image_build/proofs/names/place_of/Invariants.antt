use Rattle.std.proofs.Common.{◌≡◌, drop, map, string_bytes}
use Rattle.image_build.specs.Layout.{index_from}
use Rattle.image_build.proofs.names.place_of.Given as goal

abbrev pub invariant-loop-i : goal.invariant-loop-i
invariant-loop-i l =
    index_from l.i l.name (map string_bytes (drop l.i l.names)) ≡ index_from 0 l.name (map string_bytes l.names)
