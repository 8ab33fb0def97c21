-- Records that no step refuses in one form are refused by none in the other, where they keep its limits: the conditions are the same, and a place matters only where something is refused.
use Rattle.std.proofs.Common.{◌≡◌, ◌+◌, ◌*◌, ◌%◌, ◌≤◌, ℕ, suc, List, [], ◌∷◌, ◌++◌, Bool, true, false, not, ◌||◌, ◌&&◌, ◌==◌, None, Some, length, take, drop, map, nat_le, nat_lt, cond, arith, ap, refl}
use Rattle.std.proofs.lemmas.Bool.{eqb-true, not-false, or_parts, or_from, ltb-false, le-ltb}
use Rattle.std.specs.Prelude.{Contains}
use Rattle.std.specs.List.{list_any}
use Rattle.image_format.specs.declared.records.ImageForm.{ImageForm}
use Rattle.image_format.specs.declared.records.ImageForm.TheVariants.{First, Second}
use Rattle.image_format.specs.declared.records.Header.{Header}
use Rattle.image_format.specs.declared.records.TaskRecord.{TaskRecord}
use Rattle.image_format.specs.declared.records.RegionRecord.{RegionRecord}
use Rattle.image_format.specs.declared.records.LineRecord.{LineRecord}
use Rattle.image_format.specs.Accepted.{Accepted}
use Rattle.image_format.specs.ImageData.{ImageLine, ImageData, Sound, SpellsFirst, ImageTask, line_record, records_of, task_record}
use Rattle.image_format.specs.Records.{Records}
use Rattle.image_format.specs.Regions.{clashes, entries_from, entry_fault, has_area, has_rights, has_shape, line_device_fault, line_devices_from, may_drive, own_fault, own_regions, region_fault, regions_from, runs_at}
use Rattle.image_format.specs.Steps.{Refusal, count_place, counted, header_size, highest_line, line_fault, lines_from, lines_place, most_names, names_place, regions_place, task_fault, tasks_from}
use Rattle.image_format.proofs.Limits.{Limits, limits, lines_64, no_zero, plain_names, row_none, row_pass, taken, tasks_512}
use Rattle.image_format.proofs.Named.{names_moved}
use Rattle.image_format.proofs.Passed.{Passed, both_none, none_both, passed_steps, steps_passed}

-- the header, and the records, in the form
abbrev pub header_in_form : ImageForm → Header → Header
header_in_form f h = record h { form = f }

abbrev pub in_form : ImageForm → Records → Records
in_form f r = record r { header = header_in_form f r.header }

-- ---- tasks

-- no task has more names than the form allows
abbrev pub AreFew : ImageForm → List TaskRecord → Type 0
AreFew f [] = Unit {0}
AreFew f (t ∷ ts) = (nat_lt (most_names f) t.names ≡ false) × AreFew f ts

task_moved : (f g : ImageForm) (index : ℕ) (t : TaskRecord) (place other : ℕ) → nat_lt (most_names g) t.names ≡ false → task_fault f index t place ≡ None → task_fault g index t other ≡ None
task_moved f g index t place other few e =
    let a = row_none ((index == 0 && not (t.priority == 0)) || (not (index == 0) && t.priority == 0)) _ _ e in
    let b = row_none (nat_lt 1 t.flags || (index == 0 && not (t.flags == 1))) _ _ a.1 in
    let c = row_none (nat_lt t.regions 1 || nat_lt 8 t.regions) _ _ b.1 in
    let d = row_none (nat_lt (most_names f) t.names) _ _ c.1 in
    let s = row_none (not (t.sp % 4 == 0)) _ _ d.1 in
    row_pass ((index == 0 && not (t.priority == 0)) || (not (index == 0) && t.priority == 0)) _ _ a.0
    (row_pass (nat_lt 1 t.flags || (index == 0 && not (t.flags == 1))) _ _ b.0
    (row_pass (nat_lt t.regions 1 || nat_lt 8 t.regions) _ _ c.0
    (row_pass (nat_lt (most_names g) t.names) _ _ few
    (row_pass (not (t.sp % 4 == 0)) _ _ s.0 refl))))

tasks_moved : (f g : ImageForm) (index place other : ℕ) (ts : List TaskRecord) → AreFew g ts → tasks_from f index place ts ≡ None → tasks_from g index other ts ≡ None
tasks_moved f g index place other [] few e = refl
tasks_moved f g index place other (t ∷ ts) few e =
    let a = both_none (task_fault f index t place) (tasks_from f (index + 1) (place + 12) ts) e in
    none_both (task_fault g index t other) (tasks_from g (index + 1) (other + 12) ts) (task_moved f g index t place other few.0 a.0)
    (tasks_moved f g (index + 1) (place + 12) (other + 12) ts few.1 a.1)

more_names : (f : ImageForm) (n : ℕ) → nat_lt (most_names f) n ≡ false → nat_lt 32 n ≡ false
more_names First n e = let le = ltb-false 0 n e in le-ltb 32 n (omega (arith, le))
more_names Second n e = e

-- what a form allows, the second does
few_second : (f : ImageForm) (index place : ℕ) (ts : List TaskRecord) → tasks_from f index place ts ≡ None → AreFew Second ts
few_second f index place [] e = tt
few_second f index place (t ∷ ts) e =
    let a = both_none (task_fault f index t place) (tasks_from f (index + 1) (place + 12) ts) e in
    let b = row_none ((index == 0 && not (t.priority == 0)) || (not (index == 0) && t.priority == 0)) _ _ a.0 in
    let c = row_none (nat_lt 1 t.flags || (index == 0 && not (t.flags == 1))) _ _ b.1 in
    let d = row_none (nat_lt t.regions 1 || nat_lt 8 t.regions) _ _ c.1 in
    let n = row_none (nat_lt (most_names f) t.names) _ _ d.1 in
    (more_names f t.names n.0, few_second f (index + 1) (place + 12) ts a.1)

-- tasks without names keep the limit of the first form
few_first : (ts : List ImageTask) → ((t : ImageTask) → Contains ts t → t.names ≡ []) → AreFew First (map task_record ts)
few_first [] h = tt
few_first (t ∷ ts) h =
    let none = h t (0, omega arith, refl) in
    (ap (λ (names : List (List ℕ)). nat_lt 0 (length names)) none, few_first ts (λ u is. h u (suc is.0, omega (arith, is.1), is.2)))

-- ---- the number of regions

count_moved : (b : Bool) (r s : Refusal) → cond b None (Some r) ≡ None → cond b None (Some s) ≡ None
count_moved true r s e = refl
count_moved false r s e = cc

-- ---- regions and entries

region_moved : (f : ImageForm) (h : Header) (overlaps : Bool) (r : RegionRecord) (place other : ℕ) → region_fault h overlaps r place ≡ None → region_fault (header_in_form f h) overlaps r other ≡ None
region_moved f h overlaps r place other e =
    let a = row_none (not (has_rights r)) _ _ e in
    let b = row_none (not (has_shape r)) _ _ a.1 in
    let c = row_none (not (has_area h r)) _ _ b.1 in
    let d = row_none overlaps _ _ c.1 in
    row_pass (not (has_rights r)) _ _ a.0 (row_pass (not (has_shape r)) _ _ b.0 (row_pass (not (has_area (header_in_form f h) r)) _ _ c.0 (row_pass overlaps _ _ d.0 refl)))

own_moved : (f : ImageForm) (h : Header) (others own : List RegionRecord) (place other : ℕ) (rs : List RegionRecord) → own_fault h others own place rs ≡ None → own_fault (header_in_form f h) others own other rs ≡ None
own_moved f h others own place other [] e = refl
own_moved f h others own place other (r ∷ rs) e =
    let a = both_none (region_fault h (clashes others own r) r place) (own_fault h others (own ++ r ∷ []) (place + 12) rs) e in
    none_both (region_fault (header_in_form f h) (clashes others own r) r other) (own_fault (header_in_form f h) others (own ++ r ∷ []) (other + 12) rs)
    (region_moved f h (clashes others own r) r place other a.0) (own_moved f h others (own ++ r ∷ []) (place + 12) (other + 12) rs a.1)

regions_moved : (f : ImageForm) (h : Header) (others : List RegionRecord) (place other : ℕ) (ts : List TaskRecord) (rs : List RegionRecord)
    → regions_from h others place ts rs ≡ None → regions_from (header_in_form f h) others other ts rs ≡ None
regions_moved f h others place other [] rs e = refl
regions_moved f h others place other (t ∷ ts) rs e =
    let own = take t.regions rs in
    let more = drop t.regions rs in
    let a = both_none (own_fault h others [] place own) (regions_from h (others ++ own) (place + 12 * t.regions) ts more) e in
    none_both (own_fault (header_in_form f h) others [] other own) (regions_from (header_in_form f h) (others ++ own) (other + 12 * t.regions) ts more)
    (own_moved f h others [] place other own a.0) (regions_moved f h (others ++ own) (place + 12 * t.regions) (other + 12 * t.regions) ts more a.1)

entry_moved : (own : List RegionRecord) (t : TaskRecord) (place other : ℕ) → entry_fault own t place ≡ None → entry_fault own t other ≡ None
entry_moved own t place other e =
    row_pass (t.entry % 2 == 0 || not (list_any (runs_at t.entry) own)) (12, other + 4) None (row_none (t.entry % 2 == 0 || not (list_any (runs_at t.entry) own)) (12, place + 4) None e).0 refl

entries_moved : (place other : ℕ) (ts : List TaskRecord) (rs : List RegionRecord) → entries_from place ts rs ≡ None → entries_from other ts rs ≡ None
entries_moved place other [] rs e = refl
entries_moved place other (t ∷ ts) rs e =
    let a = both_none (entry_fault (take t.regions rs) t place) (entries_from (place + 12) ts (drop t.regions rs)) e in
    none_both (entry_fault (take t.regions rs) t other) (entries_from (other + 12) ts (drop t.regions rs)) (entry_moved (take t.regions rs) t place other a.0)
    (entries_moved (place + 12) (other + 12) ts (drop t.regions rs) a.1)

-- ---- interrupts

-- a form does not allow such a device
abbrev pub no_device : ImageForm → ℕ → Bool
no_device First d = not (d == 0)
no_device Second d = nat_lt 8 d

-- the form allows the interrupt's line and its device
pub record Fits (f : ImageForm) (l : LineRecord) : Type 0 where
  pub high : nat_lt (highest_line f) l.line ≡ false
  pub device : no_device f l.device ≡ false

-- what both forms ask of an interrupt
pub record IsOwned (least tasks : ℕ) (l : LineRecord) : Type 0 where
  pub low : nat_lt l.line least ≡ false
  pub owner : nat_le tasks l.task ≡ false
  pub bits : (l.bits == 0) ≡ false

pub line_rows : (f : ImageForm) (least tasks : ℕ) (l : LineRecord) (place : ℕ) → line_fault f least tasks l place ≡ None → Fits f l × IsOwned least tasks l
line_rows First least tasks l place e =
    let a = row_none (nat_lt 31 l.line || nat_lt l.line least) _ _ e in
    let b = row_none (nat_le tasks l.task) _ _ a.1 in
    let c = row_none (not (l.device == 0)) _ _ b.1 in
    let d = row_none (l.bits == 0) _ _ c.1 in
    let line = or_parts (nat_lt 31 l.line) (nat_lt l.line least) a.0 in
    (record { high = line.0; device = c.0 }, record { low = line.1; owner = b.0; bits = d.0 })
line_rows Second least tasks l place e =
    let a = row_none (nat_lt 63 l.line || nat_lt l.line least) _ _ e in
    let b = row_none (nat_lt 8 l.device) _ _ a.1 in
    let c = row_none (nat_le tasks l.task) _ _ b.1 in
    let d = row_none (l.bits == 0) _ _ c.1 in
    let line = or_parts (nat_lt 63 l.line) (nat_lt l.line least) a.0 in
    (record { high = line.0; device = b.0 }, record { low = line.1; owner = c.0; bits = d.0 })

rows_line : (f : ImageForm) (least tasks : ℕ) (l : LineRecord) (place : ℕ) → Fits f l → IsOwned least tasks l → line_fault f least tasks l place ≡ None
rows_line First least tasks l place fits o =
    row_pass (nat_lt 31 l.line || nat_lt l.line least) _ _ (or_from (nat_lt 31 l.line) (nat_lt l.line least) fits.high o.low)
    (row_pass (nat_le tasks l.task) _ _ o.owner (row_pass (not (l.device == 0)) _ _ fits.device (row_pass (l.bits == 0) _ _ o.bits refl)))
rows_line Second least tasks l place fits o =
    row_pass (nat_lt 63 l.line || nat_lt l.line least) _ _ (or_from (nat_lt 63 l.line) (nat_lt l.line least) fits.high o.low)
    (row_pass (nat_lt 8 l.device) _ _ fits.device (row_pass (nat_le tasks l.task) _ _ o.owner (row_pass (l.bits == 0) _ _ o.bits refl)))

-- the form allows the line and the device of each interrupt
abbrev pub AllFit : ImageForm → List LineRecord → Type 0
AllFit f [] = Unit {0}
AllFit f (l ∷ ls) = Fits f l × AllFit f ls

lines_moved : (f g : ImageForm) (least tasks place other : ℕ) (ls : List LineRecord) → AllFit g ls → lines_from f least tasks place ls ≡ None → lines_from g least tasks other ls ≡ None
lines_moved f g least tasks place other [] fit e = refl
lines_moved f g least tasks place other (l ∷ ls) fit e =
    let a = both_none (line_fault f least tasks l place) (lines_from f (l.line + 1) tasks (place + 8) ls) e in
    none_both (line_fault g least tasks l other) (lines_from g (l.line + 1) tasks (other + 8) ls) (rows_line g least tasks l other fit.0 (line_rows f least tasks l place a.0).1)
    (lines_moved f g (l.line + 1) tasks (place + 8) (other + 8) ls fit.1 a.1)

higher : (f : ImageForm) (n : ℕ) → nat_lt (highest_line f) n ≡ false → nat_lt 63 n ≡ false
higher First n e = let le = ltb-false 31 n e in le-ltb 63 n (omega (arith, le))
higher Second n e = e

-- a device that a form allows is no higher than a task has regions
pub bounded : (f : ImageForm) (d : ℕ) → no_device f d ≡ false → nat_lt 8 d ≡ false
bounded First d e = let none = eqb-true d 0 (not-false (d == 0) e) in le-ltb 8 d (omega (arith, none))
bounded Second d e = e

fit_second : (f : ImageForm) (least tasks place : ℕ) (ls : List LineRecord) → lines_from f least tasks place ls ≡ None → AllFit Second ls
fit_second f least tasks place [] e = tt
fit_second f least tasks place (l ∷ ls) e =
    let a = both_none (line_fault f least tasks l place) (lines_from f (l.line + 1) tasks (place + 8) ls) e in
    let fits = (line_rows f least tasks l place a.0).0 in
    (record { high = higher f l.line fits.high; device = bounded f l.device fits.device }, fit_second f (l.line + 1) tasks (place + 8) ls a.1)

-- no line of an image is too high for the first form, and none has a device
fit_first : (ls : List ImageLine) → ((l : ImageLine) → Contains ls l → l.line ≤ highest_line First) → ((l : ImageLine) → Contains ls l → l.device ≡ 0) → AllFit First (map line_record ls)
fit_first [] low none = tt
fit_first (l ∷ ls) low none =
    let here : Contains (l ∷ ls) l = (0, omega arith, refl) in (
      record { high = le-ltb 31 l.line (low l here); device = ap (λ (d : ℕ). not (d == 0)) (none l here) },
      fit_first ls (λ m is. low m (suc is.0, omega (arith, is.1), is.2)) (λ m is. none m (suc is.0, omega (arith, is.1), is.2)),
    )

-- ---- the devices that drive lines

line_device_moved : (own : List RegionRecord) (l : LineRecord) (place other : ℕ) → line_device_fault own l place ≡ None → line_device_fault own l other ≡ None
line_device_moved own l place other e = count_moved (may_drive own l.device) (3, place + 1) (3, other + 1) e

line_devices_moved : (ts : List TaskRecord) (rs : List RegionRecord) (place other : ℕ) (ls : List LineRecord) → line_devices_from ts rs place ls ≡ None → line_devices_from ts rs other ls ≡ None
line_devices_moved ts rs place other [] e = refl
line_devices_moved ts rs place other (l ∷ ls) e =
    let own = own_regions ts rs l.task in
    let a = both_none (line_device_fault own l place) (line_devices_from ts rs (place + 8) ls) e in
    none_both (line_device_fault own l other) (line_devices_from ts rs (other + 8) ls) (line_device_moved own l place other a.0) (line_devices_moved ts rs (place + 8) (other + 8) ls a.1)

-- ---- the whole

passed_moved : (f : ImageForm) (r : Records) → AreFew f r.tasks → AllFit f r.lines → Passed r → Passed (in_form f r)
passed_moved f r few fit p =
    let h = r.header in
    let g = header_in_form f h in
    record {
      tasks = tasks_moved h.form f 0 (header_size h.form) (header_size f) r.tasks few p.tasks;
      count = count_moved (counted r.tasks == h.regions) (3, count_place h.form) (3, count_place f) p.count;
      regions = regions_moved f h [] (regions_place h) (regions_place g) r.tasks r.regions p.regions;
      entries = entries_moved (header_size h.form) (header_size f) r.tasks r.regions p.entries;
      lines = lines_moved h.form f 0 h.tasks (lines_place h) (lines_place g) r.lines fit p.lines;
      devices = line_devices_moved r.tasks r.regions (lines_place h) (lines_place g) r.lines p.devices;
      names = names_moved (names_place h + length r.names) (names_place g + length r.names) r.tasks r.names p.names;
    }

accepted_moved : (f : ImageForm) (r : Records) → Limits f (header_in_form f r.header) → AreFew f r.tasks → AllFit f r.lines → Accepted r → Accepted (in_form f r)
accepted_moved f r l few fit a = record {
  tasks = a.tasks;
  regions = a.regions;
  lines = a.lines;
  names = a.names;
  flash = a.flash;
  fields = taken (header_in_form f r.header) l;
  records = steps_passed (in_form f r) (passed_moved f r few fit (passed_steps r a.records));
}

-- accepted records of either form are accepted in the second
pub second_accepted : (r : Records) → Accepted r → (r.header.form ≡ First → (r.header.zero ≡ 0) × (r.header.names ≡ 0)) → Accepted (in_form Second r)
second_accepted r a plain =
    let h = r.header in
    let l = limits h a.fields in
    let s = passed_steps r a.records in
    accepted_moved Second r (record {
      some_task = l.some_task;
      tasks = omega (arith, l.tasks, tasks_512 h.form);
      lines = omega (arith, l.lines, lines_64 h.form);
      some_region = l.some_region;
      regions = l.regions;
      some_flash = l.some_flash;
      flash = l.flash;
      ram = l.ram;
      bits = l.bits;
      second = λ e. (no_zero h a.fields (λ f. (plain f).0), plain_names h h.form refl a.fields (λ f. (plain f).1));
    }) (few_second h.form 0 (header_size h.form) r.tasks s.tasks) (fit_second h.form 0 h.tasks (lines_place h) r.lines s.lines) a

-- a sound image that the first form can hold is accepted in it
pub first_accepted : (p : ImageData) (bytes : List ℕ) → SpellsFirst p bytes → Sound p → Accepted (records_of First p)
first_accepted p bytes f a =
    let r = records_of Second p in
    let l = limits r.header a.fields in
    accepted_moved First r (record {
      some_task = l.some_task;
      tasks = f.few_tasks;
      lines = f.few_lines;
      some_region = l.some_region;
      regions = l.regions;
      some_flash = l.some_flash;
      flash = l.flash;
      ram = l.ram;
      bits = l.bits;
      second = λ e. cc;
    }) (few_first p.tasks f.unnamed) (fit_first p.lines f.low_lines f.undriven) a
