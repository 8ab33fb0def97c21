use Rattle.std.proofs.Common.{◌≡◌, drop, map, string_bytes}
use Rattle.app_toml.specs.Crossed.{is_among}
use Rattle.app_toml.proofs.names.is_among.Given as goal

abbrev pub invariant-loop-each : goal.invariant-loop-each
invariant-loop-each l =
    is_among l.name (map string_bytes (drop l.each-index l.names)) ≡ is_among l.name (map string_bytes l.names)
