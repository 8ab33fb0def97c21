use Rattle.std.proofs.Common.{◌∙◌, map, sym}
use Rattle.app_toml.specs.Crossed.{bad_device}
use Rattle.app_toml.specs.Relations.{IsPlaced}
use Rattle.app_toml.specs.Sites.{device_of, refusal_of}
use Rattle.app_toml.proofs.Related.{placed}
use Rattle.app_toml.proofs.Walks.{each_fine, none_stated}
use Rattle.app_toml.proofs.lines.line_fault.Goals as goal

pub overlap-requires : goal.overlap-requires
overlap-requires c =
    each_fine bad_device IsPlaced placed (map device_of c.as_slice-devices.result.now)
    (sym c.bad_device-device.ensures ∙ none_stated refusal_of c.bad_device-device.result (sym c.is_some-2.ensures ∙ c.if-is_some-2.false))
