use Rattle.std.proofs.Common.{◌≡◌, map, take}
use Rattle.app_toml.specs.Held.{app_of}
use Rattle.image_build.specs.Accepted.{HasAccepted, described}
use Rattle.image_build.proofs.finishing.build.Given as goal

abbrev pub invariant-loop-source : goal.invariant-loop-source
invariant-loop-source l = record {
  same : described l.builder ≡ app_of l.app;
  accepted : HasAccepted (take l.source-index (map (λ v. v.items) l.sources)) l.builder;
}
