-- One step of a loop over records.
use Rattle.std.proofs.Common.{◌≡◌, ◌∙◌, ◌+◌, ◌-◌, ◌<◌, ℕ, suc, List, [], ◌∷◌, ◌++◌, drop, arith, ap, append_assoc}
use Rattle.image_format.specs.declared.records.ImageForm.{ImageForm}
use Rattle.image_format.specs.declared.records.TaskRecord.{TaskRecord}
use Rattle.image_format.specs.declared.records.RegionRecord.{RegionRecord}
use Rattle.image_format.specs.declared.records.LineRecord.{LineRecord}
use Rattle.image_format.specs.Records.{line_at, lines_at, region_at, regions_at, task_at, tasks_at}

pub tasks_more : (front : List TaskRecord) (n i : ℕ) (bytes : List ℕ) → i < n
    → (front ++ task_at bytes ∷ []) ++ tasks_at (n - (i + 1)) (drop 12 bytes) ≡ front ++ tasks_at (n - i) bytes
tasks_more front n i bytes lt =
    let e : suc (n - (i + 1)) ≡ n - i = omega (arith, lt) in
    append_assoc front (task_at bytes ∷ []) (tasks_at (n - (i + 1)) (drop 12 bytes)) ∙ ap (λ (k : ℕ). front ++ tasks_at k bytes) e

pub regions_more : (front : List RegionRecord) (n i : ℕ) (bytes : List ℕ) → i < n
    → (front ++ region_at bytes ∷ []) ++ regions_at (n - (i + 1)) (drop 12 bytes) ≡ front ++ regions_at (n - i) bytes
regions_more front n i bytes lt =
    let e : suc (n - (i + 1)) ≡ n - i = omega (arith, lt) in
    append_assoc front (region_at bytes ∷ []) (regions_at (n - (i + 1)) (drop 12 bytes)) ∙ ap (λ (k : ℕ). front ++ regions_at k bytes) e

pub lines_more : (form : ImageForm) (front : List LineRecord) (n i : ℕ) (bytes : List ℕ) → i < n
    → (front ++ line_at form bytes ∷ []) ++ lines_at form (n - (i + 1)) (drop 8 bytes) ≡ front ++ lines_at form (n - i) bytes
lines_more form front n i bytes lt =
    let e : suc (n - (i + 1)) ≡ n - i = omega (arith, lt) in
    append_assoc front (line_at form bytes ∷ []) (lines_at form (n - (i + 1)) (drop 8 bytes)) ∙ ap (λ (k : ℕ). front ++ lines_at form k bytes) e
