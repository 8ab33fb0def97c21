-- One task's regions among those of all tasks.
use Rattle.std.proofs.Common.{◌≡◌, ◌∙◌, ◌+◌, ◌-◌, ◌*◌, ◌<◌, ℕ, List, [], ◌++◌, Option, None, Some, false, take, drop, length, get_or, arith, ap, sym, refl}
use Rattle.std.proofs.Math.Seq.{take-add}
use Rattle.std.proofs.lemmas.List.{drop-drop, drop_more}
use Rattle.std.proofs.lemmas.List.Sums.{sum_by-cons}
use Rattle.std.specs.Option.{is_some}
use Rattle.image_format.specs.declared.records.Header.{Header}
use Rattle.image_format.specs.declared.records.TaskRecord.{TaskRecord}
use Rattle.image_format.specs.declared.records.RegionRecord.{RegionRecord}
use Rattle.image_format.specs.declared.records.LineRecord.{LineRecord}
use Rattle.image_format.specs.Regions.{entries_from, entry_fault, own_fault, regions_from}
use Rattle.image_format.specs.Steps.{Refusal, counted, or_else}

abbrev pub blank : TaskRecord
blank = record { priority = 0; flags = 0; regions = 0; names = 0; entry = 0; sp = 0 }

abbrev pub blank_line : LineRecord
blank_line = record { line = 0; task = 0; device = 0; bits = 0 }

pub none_found : (found : Option Refusal) → is_some found ≡ false → found ≡ None
none_found None e = refl
none_found (Some r) e = cc

pub counted_step : (ts : List TaskRecord) (i : ℕ) → i < length ts → counted (drop i ts) ≡ (get_or ts i blank).regions + counted (drop (i + 1) ts)
counted_step ts i lt = ap counted (drop_more ts i blank lt) ∙ sum_by-cons (λ (t : TaskRecord). t.regions) (get_or ts i blank) (drop (i + 1) ts)

own_length : (start n k : ℕ) → n ≡ k → (start + n) - start ≡ k
own_length start n k e = omega (arith, e)

pub regions_step : (h : Header) (ts : List TaskRecord) (rs : List RegionRecord) (place start i n : ℕ) (found : Option Refusal)
    → i < length ts → n ≡ (get_or ts i blank).regions
    → found ≡ own_fault h (take start rs) [] place (take ((start + n) - start) (drop start rs)) → found ≡ None
    → regions_from h (take (start + n) rs) (place + 12 * n) (drop (i + 1) ts) (drop (start + n) rs) ≡ regions_from h (take start rs) place (drop i ts) (drop start rs)
regions_step h ts rs place start i n found lt e own none =
    let t = get_or ts i blank in
    let rest = drop start rs in
    let more = drop (i + 1) ts in
    let passed : own_fault h (take start rs) [] place (take t.regions rest) ≡ None =
    sym (ap (λ (k : ℕ). own_fault h (take start rs) [] place (take k rest)) (own_length start n t.regions e)) ∙ sym own ∙ none in
    let one : regions_from h (take start rs) place (drop i ts) rest ≡ regions_from h (take start rs ++ take t.regions rest) (place + 12 * t.regions) more (drop t.regions rest) =
    ap (λ (us : List TaskRecord). regions_from h (take start rs) place us rest) (drop_more ts i blank lt)
    ∙ ap (λ (f : Option Refusal). or_else f (regions_from h (take start rs ++ take t.regions rest) (place + 12 * t.regions) more (drop t.regions rest))) passed in
    let two : regions_from h (take start rs ++ take n rest) (place + 12 * n) more (drop n rest) ≡ regions_from h (take (start + n) rs) (place + 12 * n) more (drop (start + n) rs) =
    ap (λ (xs : List RegionRecord). regions_from h xs (place + 12 * n) more (drop n rest)) (sym (take-add start n rs))
    ∙ ap (λ (xs : List RegionRecord). regions_from h (take (start + n) rs) (place + 12 * n) more xs) (drop-drop n start rs) in
    sym (one ∙ ap (λ (k : ℕ). regions_from h (take start rs ++ take k rest) (place + 12 * k) more (drop k rest)) (sym e) ∙ two)

pub entries_step : (ts : List TaskRecord) (rs : List RegionRecord) (place start i n : ℕ) (found : Option Refusal)
    → i < length ts → n ≡ (get_or ts i blank).regions
    → found ≡ entry_fault (take ((start + n) - start) (drop start rs)) (get_or ts i blank) place → found ≡ None
    → entries_from (place + 12) (drop (i + 1) ts) (drop (start + n) rs) ≡ entries_from place (drop i ts) (drop start rs)
entries_step ts rs place start i n found lt e own none =
    let t = get_or ts i blank in
    let rest = drop start rs in
    let more = drop (i + 1) ts in
    let passed : entry_fault (take t.regions rest) t place ≡ None =
    sym (ap (λ (k : ℕ). entry_fault (take k rest) t place) (own_length start n t.regions e)) ∙ sym own ∙ none in
    let one : entries_from place (drop i ts) rest ≡ entries_from (place + 12) more (drop t.regions rest) =
    ap (λ (us : List TaskRecord). entries_from place us rest) (drop_more ts i blank lt)
    ∙ ap (λ (f : Option Refusal). or_else f (entries_from (place + 12) more (drop t.regions rest))) passed in
    sym (one ∙ ap (λ (k : ℕ). entries_from (place + 12) more (drop k rest)) (sym e)
    ∙ ap (λ (xs : List RegionRecord). entries_from (place + 12) more xs) (drop-drop n start rs))
