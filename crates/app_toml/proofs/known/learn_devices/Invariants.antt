use Rattle.std.proofs.Common.{◌≡◌, ◌||◌, map, take}
use Rattle.std.specs.BTreeSet.{contains_text}
use Rattle.app_toml.specs.Crossed.{has_device}
use Rattle.app_toml.specs.Places.{Text}
use Rattle.app_toml.specs.Sites.{device_of}
use Rattle.app_toml.proofs.known.learn_devices.Given as goal

abbrev pub invariant-loop-device : goal.invariant-loop-device
invariant-loop-device l =
    (q : Text) → contains_text l.known q ≡ (contains_text l.initial.known q || has_device q (map device_of (take l.device-index l.devices)))
