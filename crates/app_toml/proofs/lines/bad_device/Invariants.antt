use Rattle.std.proofs.Common.{◌≡◌, drop, map}
use Rattle.app_toml.specs.Crossed.{bad_device}
use Rattle.app_toml.specs.Places.{first_fault}
use Rattle.app_toml.specs.Sites.{device_of}
use Rattle.app_toml.proofs.lines.bad_device.Given as goal

abbrev pub invariant-loop-i : goal.invariant-loop-i
invariant-loop-i l =
    first_fault bad_device l.i (map device_of (drop l.i l.devices))
    ≡ first_fault bad_device 0 (map device_of l.devices)
