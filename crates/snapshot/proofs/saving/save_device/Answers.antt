use Rattle.std.proofs.Common.{◌≡◌, ◌∙◌, ◌++◌, Some, None, [], ap, sym, take}
use Rattle.std.proofs.lemmas.Option.{get_or_from_slice_get, slice_get-get_or}
use Rattle.kernel_abi.specs.Devices.{DeviceData, device_at}
use Rattle.board_core.specs.DeviceViews.{device_told as data_of_view}
use Rattle.snapshot.specs.declared.records.DeviceRecord.{DeviceRecord}
use Rattle.snapshot.specs.Records.{device_bytes}
use Rattle.snapshot.specs.Saved.{device_told}
use Rattle.snapshot.proofs.saving.save_device.Goals as goal

-- what stands past the last device
abbrev no_device : DeviceData
no_device = device_at [] 0

none_there : (d : DeviceData) → None ≡ Some d → ⊥
none_there d e = cc

pub unreachable-requires : goal.unreachable-requires
unreachable-requires g c =
    let r = c.requires.there in
    none_there _ (c.in-None.ensures r.0 r.1 r.2 ∙ slice_get-get_or r.1.devices c.args.k no_device r.3)

pub returns-clause-front : goal.returns-clause-front
returns-clause-front g c = λ x s st.
    let k = c.args.k in
    let is : data_of_view c.in-Some.view ≡ device_at s.devices k = sym (get_or_from_slice_get s.devices k (data_of_view c.in-Some.view) no_device (sym (c.in-Some.ensures x s st))) in
    c.put_device.ensures.front ∙ ap (λ (r : DeviceRecord). take c.args.at c.args.out.now ++ device_bytes r) (c.device_record_of.ensures ∙ ap device_told is)
