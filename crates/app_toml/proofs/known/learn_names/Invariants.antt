use Rattle.std.proofs.Common.{◌≡◌, ◌||◌, map, take, string_bytes}
use Rattle.std.specs.BTreeSet.{contains_text}
use Rattle.app_toml.specs.Crossed.{is_among}
use Rattle.app_toml.specs.Places.{Text}
use Rattle.app_toml.proofs.known.learn_names.Given as goal

abbrev pub invariant-loop-name : goal.invariant-loop-name
invariant-loop-name l =
    (q : Text) → contains_text l.known q ≡ (contains_text l.initial.known q || is_among q (map string_bytes (take l.name-index l.names)))
