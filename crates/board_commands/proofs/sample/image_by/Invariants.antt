use Rattle.std.proofs.Common.{◌≡◌, map, take, string_bytes}
use Rattle.app_toml.specs.Held.{app_of}
use Rattle.image_build.specs.Accepted.{HasAccepted, described}
use Rattle.board_commands.proofs.sample.image_by.Given as goal

abbrev pub invariant-loop-source : goal.invariant-loop-source
invariant-loop-source l = record {
  same : described l.builder ≡ app_of l.app;
  accepted_sources : HasAccepted (take l.source-index (map string_bytes l.sources)) l.builder;
}
