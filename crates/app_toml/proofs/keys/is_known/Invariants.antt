use Rattle.std.proofs.Common.{◌≡◌, drop}
use Rattle.app_toml.specs.Keys.{is_known}
use Rattle.app_toml.specs.Sites.{keys_of}
use Rattle.app_toml.proofs.keys.is_known.Given as goal

abbrev pub invariant-loop-key : goal.invariant-loop-key
invariant-loop-key l = is_known l.name (keys_of (drop l.key-index l.keys)) ≡ is_known l.name (keys_of l.keys)
