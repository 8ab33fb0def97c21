use Rattle.std.proofs.Common.{◌≡◌, ◌++◌, drop, map}
use Rattle.app_toml.specs.Sites.{device_of}
use Rattle.thumb_asm.specs.Passes.{names_of}
use Rattle.image_build.specs.Symbols.{device_symbols}
use Rattle.image_build.proofs.symbols.push_devices.Given as goal

abbrev pub invariant-loop-device : goal.invariant-loop-device
invariant-loop-device l =
    names_of l.out.items ++ device_symbols (map device_of (drop l.device-index l.devices))
    ≡ names_of l.fn.out.items ++ device_symbols (map device_of l.devices)
