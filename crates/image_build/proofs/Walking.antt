-- When the steps over an image's records refuse nothing.
use Rattle.std.proofs.Common.{◌≡◌, ◌∙◌, ℕ, zero, suc, Bool, true, false, not, ◌+◌, ◌*◌, ◌%◌, ◌≤◌, ◌<◌, ◌||◌, ◌&&◌, ◌==◌, List, [], ◌∷◌, ◌++◌, Option, None, length, take, drop, get_or, map, length-append, refl, sym, subst, arith, inl, inr}
use Rattle.std.specs.List.{list_any}
use Rattle.std.specs.Prelude.{⊤, All}
use Rattle.std.proofs.lemmas.Bool.{and_left, and_right, cases_eq, eq-eqb, le-ltb, lt-leb, ne_eqb, or_from, not_from_true}
use Rattle.std.proofs.lemmas.List.Folds.{list_any-append}
use Rattle.std.proofs.lemmas.List.Sums.{sum_by-cons}
use Rattle.image_format.specs.ImageData.{ImageLine, ImageTask, all_regions, line_record, region_record, task_record}
use Rattle.image_format.specs.Regions.{clashes, cuts, entries_from, entry_fault, has_area, has_rights, has_shape, line_device_fault, line_devices_from, may_drive, meets, own_fault, own_regions, region_fault, regions_from, runs_at}
use Rattle.image_format.specs.Steps.{Refusal, count_fault, counted, line_fault, or_else, second_field_fault, task_fault, tasks_from}
use Rattle.image_format.specs.declared.records.ImageForm.TheVariants.{Second}
use Rattle.image_format.specs.declared.records.Header.{Header}
use Rattle.image_format.specs.declared.records.RegionRecord.{RegionRecord}
use Rattle.image_format.specs.declared.records.TaskRecord.{TaskRecord}
use Rattle.app_toml.proofs.Related.{above_zero}
use Rattle.image_format.proofs.Shape.{front, behind}

-- ---- each element, and each pair

abbrev pub Each : {T : Type 0} → (T → Type 0) → List T → Type 0
Each P [] = ⊤
Each P (x ∷ xs) = P x × Each P xs

abbrev pub Pairs : {T : Type 0} → (T → T → Type 0) → List T → Type 0
Pairs R [] = ⊤
Pairs R (x ∷ xs) = Each (R x) xs × Pairs R xs

pub each_weaker : {T : Type 0} (P Q : T → Type 0) → ((x : T) → P x → Q x) → (xs : List T) → Each P xs → Each Q xs
each_weaker P Q fact [] h = tt
each_weaker P Q fact (x ∷ xs) h = (fact x h.0, each_weaker P Q fact xs h.1)

pub each_all : {T : Type 0} (P : T → Type 0) (xs : List T) → Each P xs → All P xs
each_all P [] h i d lt = absurd (omega (arith, lt))
each_all P (x ∷ xs) h zero d lt = h.0
each_all P (x ∷ xs) h (suc i) d lt = each_all P xs h.1 i d (omega (arith, lt))

pub each_append : {T : Type 0} (P : T → Type 0) (xs ys : List T) → Each P xs → Each P ys → Each P (xs ++ ys)
each_append P [] ys h g = g
each_append P (x ∷ xs) ys h g = (h.0, each_append P xs ys h.1 g)

pub none_any : {T : Type 0} (test : T → Bool) (xs : List T) → Each (λ x. test x ≡ false) xs → list_any test xs ≡ false
none_any test [] h = refl
none_any test (x ∷ xs) h = or_from (test x) (list_any test xs) h.0 (none_any test xs h.1)

-- ---- rows

pub both : (a b : Option Refusal) → a ≡ None → b ≡ None → or_else a b ≡ None
both a b e f = rw e f

-- ---- the header

pub fields_none : (h : Header) → 1 ≤ h.tasks → h.tasks ≤ 512 → h.lines ≤ 64 → h.tasks ≤ h.regions → h.regions ≤ 8 * h.tasks → h.zero ≡ 0 → 1 ≤ h.flash → h.flash ≤ 1048576
    → h.ram ≤ 262144 → 0 < h.bits → h.names ≤ 409600 → second_field_fault h ≡ None
fields_none h some few lines low high none code flash ram bits short =
    let tasks_low = le-ltb h.tasks 1 some in
    let tasks_high = le-ltb 512 h.tasks few in
    let lines_high = le-ltb 64 h.lines lines in
    let regions_low = le-ltb h.regions h.tasks low in
    let regions_high = le-ltb (8 * h.tasks) h.regions high in
    let no_zero = eq-eqb h.zero 0 none in
    let flash_low = le-ltb h.flash 1 code in
    let flash_high = le-ltb 1048576 h.flash flash in
    let ram_high = le-ltb 262144 h.ram ram in
    let no_bits = above_zero h.bits bits in
    let names_high = le-ltb 409600 h.names short in
    rw (tasks_low, tasks_high, lines_high, regions_low, regions_high, no_zero, flash_low, flash_high, ram_high, no_bits, names_high) refl

-- ---- tasks

pub record IsGood (index : ℕ) (t : TaskRecord) : Type 0 where
  pub first_priority : index ≡ 0 → t.priority ≡ 0
  pub first_flags : index ≡ 0 → t.flags ≡ 1
  pub priority : 0 < index → 0 < t.priority
  pub flags : t.flags ≤ 1
  pub some : 1 ≤ t.regions
  pub most : t.regions ≤ 8
  pub names : t.names ≤ 32
  pub stack : t.sp % 4 ≡ 0

priority_test : (i p : ℕ) → (i ≡ 0 → p ≡ 0) → (0 < i → 0 < p) → ((i == 0 && not (p == 0)) || (not (i == 0) && p == 0)) ≡ false
priority_test i p same more = elim (cases_eq i 0) [
  | inl e ↦ let a = eq-eqb i 0 e in let b = eq-eqb p 0 (same e) in rw (a, b) refl
  | inr ne ↦ let a = ne_eqb i 0 ne in let b = above_zero p (more (above i ne)) in rw (a, b) refl
]
  where
    above : (n : ℕ) → (n ≡ 0 → ⊥) → 0 < n
    above zero ne = absurd (ne refl)
    above (suc n) ne = omega arith

flags_test : (i f : ℕ) → (i ≡ 0 → f ≡ 1) → (i == 0 && not (f == 1)) ≡ false
flags_test i f same = elim (cases_eq i 0) [
  | inl e ↦ and_right (i == 0) (not (f == 1)) (not_from_true (f == 1) (eq-eqb f 1 (same e)))
  | inr ne ↦ and_left (i == 0) (not (f == 1)) (ne_eqb i 0 ne)
]

task_none : (index : ℕ) (t : TaskRecord) (place : ℕ) → IsGood index t → task_fault Second index t place ≡ None
task_none index t place g =
    let priority = priority_test index t.priority g.first_priority g.priority in
    let flags_high = le-ltb 1 t.flags g.flags in
    let flags = flags_test index t.flags g.first_flags in
    let regions_low = le-ltb t.regions 1 g.some in
    let regions_high = le-ltb 8 t.regions g.most in
    let names_high = le-ltb 32 t.names g.names in
    let stack = eq-eqb (t.sp % 4) 0 g.stack in
    rw (priority, flags_high, flags, regions_low, regions_high, names_high, stack) refl

abbrev pub blank : TaskRecord
blank = record { priority = 0; flags = 0; regions = 0; names = 0; entry = 0; sp = 0 }

pub tasks_none : (index place : ℕ) (ts : List TaskRecord) → ((i : ℕ) → i < length ts → IsGood (index + i) (get_or ts i blank)) → tasks_from Second index place ts ≡ None
tasks_none index place [] each = refl
tasks_none index place (t ∷ ts) each =
    let here : index + 0 ≡ index = omega arith in
    both (task_fault Second index t place) (tasks_from Second (index + 1) (place + 12) ts)
    (task_none index t place (subst (λ (n : ℕ). IsGood n t) here (each 0 (omega arith))))
    (tasks_none (index + 1) (place + 12) ts (λ i lt. let next : index + suc i ≡ (index + 1) + i = omega arith in
    subst (λ (n : ℕ). IsGood n (get_or ts i blank)) next (each (suc i) (omega (arith, lt)))))

-- ---- the number of regions

pub counted_all : (ts : List ImageTask) → counted (map task_record ts) ≡ length (all_regions ts)
counted_all [] = refl
counted_all (t ∷ ts) =
    omega (arith, sum_by-cons (λ (r : TaskRecord). r.regions) (task_record t) (map task_record ts), counted_all ts, length-append t.regions (all_regions ts))

pub counted_none : (h : Header) (ts : List TaskRecord) → counted ts ≡ h.regions → count_fault h ts ≡ None
counted_none h ts is = let e = eq-eqb (counted ts) h.regions is in rw e refl

-- ---- regions

pub record IsFine (h : Header) (r : RegionRecord) : Type 0 where
  pub rights : has_rights r ≡ true
  pub shape : has_shape r ≡ true
  pub area : has_area h r ≡ true

region_none : (h : Header) (overlaps : Bool) (r : RegionRecord) (place : ℕ) → IsFine h r → overlaps ≡ false → region_fault h overlaps r place ≡ None
region_none h overlaps r place f e =
    let rights = f.rights in
    let shape = f.shape in
    let area = f.area in
    rw (rights, shape, area, e) refl

-- none of them meets one more
more_own : (own rs : List RegionRecord) (r : RegionRecord) → Each (λ e. list_any (meets e) own ≡ false) rs → Each (λ e. meets e r ≡ false) rs
    → Each (λ e. list_any (meets e) (own ++ r ∷ []) ≡ false) rs
more_own own [] r h g = tt
more_own own (e ∷ rs) r h g =
    (list_any-append (meets e) own (r ∷ []) ∙ or_from (list_any (meets e) own) (list_any (meets e) (r ∷ [])) h.0 (or_from (meets e r) false g.0 refl), more_own own rs r h.1 g.1)

own_none : (h : Header) (others own : List RegionRecord) (place : ℕ) (rs : List RegionRecord) → Each (IsFine h) rs
    → Each (λ r. list_any (cuts r) others ≡ false) rs → Each (λ r. list_any (meets r) own ≡ false) rs → Pairs (λ r e. meets e r ≡ false) rs
    → own_fault h others own place rs ≡ None
own_none h others own place [] fine cut met apart = refl
own_none h others own place (r ∷ rs) fine cut met apart =
    both (region_fault h (clashes others own r) r place) (own_fault h others (own ++ r ∷ []) (place + 12) rs)
    (region_none h (clashes others own r) r place fine.0 (or_from (list_any (meets r) own) (list_any (cuts r) others) met.0 cut.0))
    (own_none h others (own ++ r ∷ []) (place + 12) rs fine.1 cut.1 (more_own own rs r met.1 apart.0) apart.1)

nothing_met : (rs : List RegionRecord) → Each (λ r. list_any (meets r) [] ≡ false) rs
nothing_met [] = tt
nothing_met (r ∷ rs) = (refl, nothing_met rs)

-- a task's regions: each is one of those, and no two meet
pub record HasOwn (L : RegionRecord → Type 0) (t : ImageTask) : Type 0 where
  pub each : Each L (map region_record t.regions)
  pub apart : Pairs (λ r e. meets e r ≡ false) (map region_record t.regions)

pub regions_none : (h : Header) (L : RegionRecord → Type 0) → ((r : RegionRecord) → L r → IsFine h r) → ((r e : RegionRecord) → L r → L e → cuts r e ≡ false)
    → (others : List RegionRecord) → Each L others → (place : ℕ) (ts : List ImageTask) → Each (HasOwn L) ts
    → regions_from h others place (map task_record ts) (map region_record (all_regions ts)) ≡ None
regions_none h L fine whole others known place [] each = refl
regions_none h L fine whole others known place (t ∷ ts) each =
    let own = map region_record t.regions in
    let rest = all_regions ts in
    let all = map region_record (t.regions ++ rest) in
    let uncut = each_weaker L (λ r. list_any (cuts r) others ≡ false)
    (λ r here. none_any (cuts r) others (each_weaker L (λ e. cuts r e ≡ false) (λ e there. whole r e here there) others known)) own each.0.each in
    let first_none : own_fault h others [] place (take (length t.regions) all) ≡ None =
    subst (λ (rs : List RegionRecord). own_fault h others [] place rs ≡ None) (sym (front t.regions rest))
    (own_none h others [] place own (each_weaker L (IsFine h) fine own each.0.each) uncut (nothing_met own) each.0.apart) in
    let more = regions_none h L fine whole (others ++ own) (each_append L others own known each.0.each) (place + 12 * length t.regions) ts each.1 in
    let rest_none : regions_from h (others ++ take (length t.regions) all) (place + 12 * length t.regions) (map task_record ts) (drop (length t.regions) all) ≡ None =
    subst (λ (rs : List RegionRecord). regions_from h (others ++ rs) (place + 12 * length t.regions) (map task_record ts) (drop (length t.regions) all) ≡ None) (sym (front t.regions rest))
    (subst (λ (rs : List RegionRecord). regions_from h (others ++ own) (place + 12 * length t.regions) (map task_record ts) rs ≡ None) (sym (behind t.regions rest)) more) in
    both _ _ first_none rest_none

-- ---- entries

pub record Runs (t : ImageTask) : Type 0 where
  pub odd : (t.entry % 2 == 0) ≡ false
  pub inside : list_any (runs_at t.entry) (map region_record t.regions) ≡ true

entry_none : (own : List RegionRecord) (t : TaskRecord) (place : ℕ) → (t.entry % 2 == 0) ≡ false → list_any (runs_at t.entry) own ≡ true → entry_fault own t place ≡ None
entry_none own t place odd inside = rw (odd, inside) refl

pub entries_none : (place : ℕ) (ts : List ImageTask) → Each Runs ts → entries_from place (map task_record ts) (map region_record (all_regions ts)) ≡ None
entries_none place [] each = refl
entries_none place (t ∷ ts) each =
    let rest = all_regions ts in
    let all = map region_record (t.regions ++ rest) in
    both _ _
    (subst (λ (rs : List RegionRecord). entry_fault rs (task_record t) place ≡ None) (sym (front t.regions rest))
    (entry_none (map region_record t.regions) (task_record t) place each.0.odd each.0.inside))
    (subst (λ (rs : List RegionRecord). entries_from (place + 12) (map task_record ts) rs ≡ None) (sym (behind t.regions rest))
    (entries_none (place + 12) ts each.1))

-- ---- interrupts

pub record IsOf (line tasks : ℕ) (l : ImageLine) : Type 0 where
  pub is : l.line ≡ line
  pub owner : l.task < tasks
  pub bits : 0 < l.bits
  pub device : l.device ≤ 8

pub line_none : (least tasks line : ℕ) (l : ImageLine) (place : ℕ) → least ≤ line → line < 64 → IsOf line tasks l → line_fault Second least tasks (line_record l) place ≡ None
line_none least tasks line l place low high g =
    let line_high = le-ltb 63 l.line (omega (arith, g.is, high)) in
    let line_low = le-ltb l.line least (omega (arith, g.is, low)) in
    let owner = lt-leb tasks l.task g.owner in
    let bits = above_zero l.bits g.bits in
    let device = le-ltb 8 l.device g.device in
    rw (line_high, line_low, device, owner, bits) refl

-- ---- the devices that drive lines

line_device_none : (own : List RegionRecord) (l : ImageLine) (place : ℕ) → may_drive own l.device ≡ true → line_device_fault own (line_record l) place ≡ None
line_device_none own l place drives = rw drives refl

pub line_devices_none : (ts : List TaskRecord) (rs : List RegionRecord) (place : ℕ) (ls : List ImageLine) → Each (λ l. may_drive (own_regions ts rs l.task) l.device ≡ true) ls
    → line_devices_from ts rs place (map line_record ls) ≡ None
line_devices_none ts rs place [] each = refl
line_devices_none ts rs place (l ∷ ls) each =
    both (line_device_fault (own_regions ts rs l.task) (line_record l) place) (line_devices_from ts rs (place + 8) (map line_record ls))
    (line_device_none (own_regions ts rs l.task) l place each.0) (line_devices_none ts rs (place + 8) ls each.1)
