use Rattle.std.proofs.Common.{◌≡◌, ◌∙◌, ◌-◌, ◌++◌, ℕ, List, length, drop, ap}
use Rattle.std.specs.Prelude.{replicate}
use Rattle.std.proofs.lemmas.List.{drop-replicate}
use Rattle.snapshot.specs.declared.records.DeviceRecord.{DeviceRecord}
use Rattle.snapshot.proofs.shown.device_record_of.Goals as goal

padded : (count : ℕ) (copied waiting queue : List ℕ) → copied ≡ waiting → waiting ≡ queue →
    ◌≡◌ {A = DeviceRecord} (record { count = count; queued = length waiting; queue = copied ++ drop (length waiting) (replicate 64 0) }) (record { count = count; queued = length queue; queue = queue ++ replicate (64 - length queue) 0 })
padded count copied waiting queue e f =
    λ i. record { count = count; queued = length (f i); queue = (e ∙ f) i ++ (ap (λ (xs : List ℕ). drop (length xs) (replicate 64 0)) f ∙ drop-replicate (length queue) 64 0) i }

pub returns : goal.returns
returns c = padded c.args.view.now.count c.copy_from_slice.new.self c.as_slice-waiting.result.now c.args.view.now.queue.items c.copy_from_slice.ensures.after c.as_slice-waiting.ensures.value
