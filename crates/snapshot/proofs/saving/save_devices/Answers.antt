use Rattle.std.proofs.Common.{◌≡◌, ◌∙◌, ◌++◌, ℕ, List, [], ap, sym, arith, take, map, length}
use Rattle.std.specs.List.{flat_map, range_with_len}
use Rattle.kernel_abi.specs.Devices.{DeviceData, device_at}
use Rattle.snapshot.specs.declared.records.DeviceRecord.{DeviceRecord}
use Rattle.snapshot.specs.Records.{device_bytes}
use Rattle.snapshot.specs.Saved.{device_told}
use Rattle.snapshot.proofs.StandsForSome.{as_long}
use Rattle.snapshot.proofs.Written.{written_more, each_by_index}
use Rattle.snapshot.proofs.saving.save_devices.Goals as goal

pub loop-k-preserved : goal.loop-k-preserved
loop-k-preserved g c = record {
  front = λ x s st. written_more device_bytes (λ k. device_told (device_at s.devices k)) c.loop-k.k _ _ _ (c.loop-k.invariant.front x s st) (c.save_device-end.ensures.front x s st);
  place = omega (arith, c.loop-k.invariant.place, c.save_device-end.ensures.after);
  len = c.save_device-end.ensures.len ∙ c.loop-k.invariant.len;
}

pub returns-clause-front : goal.returns-clause-front
returns-clause-front g c = λ x s st.
    let all : c.loop-k.k ≡ length s.devices = omega (arith, c.device_count-k-end.ensures x s st, c.loop-k.auto.k-end, c.loop-k-test.false) in
    let told : ℕ → DeviceRecord = λ k. device_told (device_at s.devices k) in
    c.loop-k.invariant.front x s st
    ∙ ap (λ n. take c.args.at c.args.out.now ++ flat_map device_bytes (map told (range_with_len 0 n))) all
    ∙ ap (λ (rs : List DeviceRecord). take c.args.at c.args.out.now ++ flat_map device_bytes rs) (each_by_index device_told s.devices (device_at [] 0) ∙ ap (λ (ds : List DeviceData). map device_told ds) (sym (as_long s).devices))
