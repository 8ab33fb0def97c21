-- What a header that is not refused says of its numbers.
use Rattle.std.proofs.Common.{◌≡◌, ◌*◌, ◌≤◌, ◌<◌, ℕ, List, Option, cond, None, Some, arith, Bool, true, false, not, ◌||◌, ◌==◌, refl, nat_lt}
use Rattle.std.proofs.lemmas.Bool.{eqb-true, le-ltb, ltb-false, or_parts, or_from}
use Rattle.std.proofs.lemmas.Bool.Decides.{nat_tests}
use Rattle.image_format.specs.declared.records.ImageForm.{ImageForm}
use Rattle.image_format.specs.declared.records.ImageForm.TheVariants.{First, Second}
use Rattle.image_format.specs.declared.records.Header.{Header}
use Rattle.image_format.specs.declared.records.TaskRecord.{TaskRecord}
use Rattle.image_format.specs.Records.{header_at, total}
use Rattle.image_format.specs.Steps.{Refusal, count_fault, count_place, counted, field_fault, field_fault_in, header_size, lines_place, most_lines, most_tasks, names_place, regions_place}

-- a table that refuses nothing: its first row's condition does not hold, nor does another's
pub row_none : (b : Bool) (r : Refusal) (next : Option Refusal) → cond b (Some r) next ≡ None → (b ≡ false) × (next ≡ None)
row_none true r next e = cc
row_none false r next e = (refl, e)

-- and the other way round
pub row_pass : (b : Bool) (r : Refusal) (next : Option Refusal) → b ≡ false → next ≡ None → cond b (Some r) next ≡ None
row_pass true r next b e = cc
row_pass false r next b e = e

pub positive : (n : ℕ) → (n == 0) ≡ false → 0 < n
positive n e = grind (arith, nat_tests)

pub not_zero : (n : ℕ) → 0 < n → (n == 0) ≡ false
not_zero n lt = grind (arith, nat_tests)

is_zero : (n : ℕ) → not (n == 0) ≡ false → n ≡ 0
is_zero n e = grind (arith, nat_tests)

zero_is : (n : ℕ) → n ≡ 0 → not (n == 0) ≡ false
zero_is n e = rw e refl

-- the limits of a form
pub record Limits (f : ImageForm) (h : Header) : Type 0 where
  pub some_task : 1 ≤ h.tasks
  pub tasks : h.tasks ≤ most_tasks f
  pub lines : h.lines ≤ most_lines f
  pub some_region : h.tasks ≤ h.regions
  pub regions : h.regions ≤ 8 * h.tasks
  pub some_flash : 1 ≤ h.flash
  pub flash : h.flash ≤ 1048576
  pub ram : h.ram ≤ 262144
  pub bits : 0 < h.bits
  pub second : f ≡ Second → (h.zero ≡ 0) × (h.names ≤ 409600)

pub limits_in : (f : ImageForm) (h : Header) → field_fault_in f h ≡ None → Limits f h
limits_in First h e =
    let a = row_none (nat_lt h.tasks 1 || nat_lt 32 h.tasks) _ _ e in
    let b = row_none (nat_lt 32 h.lines) _ _ a.1 in
    let c = row_none (nat_lt h.regions h.tasks || nat_lt (8 * h.tasks) h.regions) _ _ b.1 in
    let d = row_none (nat_lt h.flash 1 || nat_lt 1048576 h.flash) _ _ c.1 in
    let f = row_none (nat_lt 262144 h.ram) _ _ d.1 in
    let g = row_none (h.bits == 0) _ _ f.1 in
    let tasks = or_parts (nat_lt h.tasks 1) (nat_lt 32 h.tasks) a.0 in
    let regions = or_parts (nat_lt h.regions h.tasks) (nat_lt (8 * h.tasks) h.regions) c.0 in
    let flash = or_parts (nat_lt h.flash 1) (nat_lt 1048576 h.flash) d.0 in
    record {
      some_task = ltb-false h.tasks 1 tasks.0;
      tasks = ltb-false 32 h.tasks tasks.1;
      lines = ltb-false 32 h.lines b.0;
      some_region = ltb-false h.regions h.tasks regions.0;
      regions = ltb-false (8 * h.tasks) h.regions regions.1;
      some_flash = ltb-false h.flash 1 flash.0;
      flash = ltb-false 1048576 h.flash flash.1;
      ram = ltb-false 262144 h.ram f.0;
      bits = positive h.bits g.0;
      second = λ s. cc;
    }
limits_in Second h e =
    let a = row_none (nat_lt h.tasks 1 || nat_lt 512 h.tasks) _ _ e in
    let b = row_none (nat_lt 64 h.lines) _ _ a.1 in
    let c = row_none (nat_lt h.regions h.tasks || nat_lt (8 * h.tasks) h.regions) _ _ b.1 in
    let z = row_none (not (h.zero == 0)) _ _ c.1 in
    let d = row_none (nat_lt h.flash 1 || nat_lt 1048576 h.flash) _ _ z.1 in
    let f = row_none (nat_lt 262144 h.ram) _ _ d.1 in
    let g = row_none (h.bits == 0) _ _ f.1 in
    let n = row_none (nat_lt 409600 h.names) _ _ g.1 in
    let tasks = or_parts (nat_lt h.tasks 1) (nat_lt 512 h.tasks) a.0 in
    let regions = or_parts (nat_lt h.regions h.tasks) (nat_lt (8 * h.tasks) h.regions) c.0 in
    let flash = or_parts (nat_lt h.flash 1) (nat_lt 1048576 h.flash) d.0 in
    record {
      some_task = ltb-false h.tasks 1 tasks.0;
      tasks = ltb-false 512 h.tasks tasks.1;
      lines = ltb-false 64 h.lines b.0;
      some_region = ltb-false h.regions h.tasks regions.0;
      regions = ltb-false (8 * h.tasks) h.regions regions.1;
      some_flash = ltb-false h.flash 1 flash.0;
      flash = ltb-false 1048576 h.flash flash.1;
      ram = ltb-false 262144 h.ram f.0;
      bits = positive h.bits g.0;
      second = λ s. (is_zero h.zero z.0, ltb-false 409600 h.names n.0);
    }

pub limits : (h : Header) → field_fault h ≡ None → Limits h.form h
unfolding field_fault
limits h e = limits_in h.form h e

-- a header within the limits of a form is not refused in it
pub taken_in : (f : ImageForm) (h : Header) → Limits f h → field_fault_in f h ≡ None
taken_in First h l =
    row_pass (nat_lt h.tasks 1 || nat_lt 32 h.tasks) _ _ (or_from (nat_lt h.tasks 1) (nat_lt 32 h.tasks) (le-ltb h.tasks 1 l.some_task) (le-ltb 32 h.tasks l.tasks))
    (row_pass (nat_lt 32 h.lines) _ _ (le-ltb 32 h.lines l.lines)
    (row_pass (nat_lt h.regions h.tasks || nat_lt (8 * h.tasks) h.regions) _ _
    (or_from (nat_lt h.regions h.tasks) (nat_lt (8 * h.tasks) h.regions) (le-ltb h.regions h.tasks l.some_region) (le-ltb (8 * h.tasks) h.regions l.regions))
    (row_pass (nat_lt h.flash 1 || nat_lt 1048576 h.flash) _ _ (or_from (nat_lt h.flash 1) (nat_lt 1048576 h.flash) (le-ltb h.flash 1 l.some_flash) (le-ltb 1048576 h.flash l.flash))
    (row_pass (nat_lt 262144 h.ram) _ _ (le-ltb 262144 h.ram l.ram)
    (row_pass (h.bits == 0) _ _ (not_zero h.bits l.bits) refl)))))
taken_in Second h l =
    let s = l.second refl in
    row_pass (nat_lt h.tasks 1 || nat_lt 512 h.tasks) _ _ (or_from (nat_lt h.tasks 1) (nat_lt 512 h.tasks) (le-ltb h.tasks 1 l.some_task) (le-ltb 512 h.tasks l.tasks))
    (row_pass (nat_lt 64 h.lines) _ _ (le-ltb 64 h.lines l.lines)
    (row_pass (nat_lt h.regions h.tasks || nat_lt (8 * h.tasks) h.regions) _ _
    (or_from (nat_lt h.regions h.tasks) (nat_lt (8 * h.tasks) h.regions) (le-ltb h.regions h.tasks l.some_region) (le-ltb (8 * h.tasks) h.regions l.regions))
    (row_pass (not (h.zero == 0)) _ _ (zero_is h.zero s.0)
    (row_pass (nat_lt h.flash 1 || nat_lt 1048576 h.flash) _ _ (or_from (nat_lt h.flash 1) (nat_lt 1048576 h.flash) (le-ltb h.flash 1 l.some_flash) (le-ltb 1048576 h.flash l.flash))
    (row_pass (nat_lt 262144 h.ram) _ _ (le-ltb 262144 h.ram l.ram)
    (row_pass (h.bits == 0) _ _ (not_zero h.bits l.bits)
    (row_pass (nat_lt 409600 h.names) _ _ (le-ltb 409600 h.names s.1) refl)))))))

pub taken : (h : Header) → Limits h.form h → field_fault h ≡ None
unfolding field_fault
taken h l = taken_in h.form h l

-- ---- of both forms

size_28 : (f : ImageForm) → header_size f ≤ 28
size_28 First = omega arith
size_28 Second = omega arith

pub tasks_512 : (f : ImageForm) → most_tasks f ≤ 512
tasks_512 First = omega arith
tasks_512 Second = omega arith

pub lines_64 : (f : ImageForm) → most_lines f ≤ 64
lines_64 First = omega arith
lines_64 Second = omega arith

pub few_tasks : (h : Header) → field_fault h ≡ None → h.tasks ≤ 512
few_tasks h e = let l = limits h e in omega (arith, l.tasks, tasks_512 h.form)

pub few_lines : (h : Header) → field_fault h ≡ None → h.lines ≤ 64
few_lines h e = let l = limits h e in omega (arith, l.lines, lines_64 h.form)

pub few_regions : (h : Header) → field_fault h ≡ None → h.regions ≤ 4096
few_regions h e = let l = limits h e in omega (arith, few_tasks h e, l.regions)

pub early_regions : (h : Header) → field_fault h ≡ None → regions_place h ≤ 8192
early_regions h e = omega (arith, size_28 h.form, few_tasks h e)

pub early_lines : (h : Header) → field_fault h ≡ None → lines_place h ≤ 65536
early_lines h e = omega (arith, size_28 h.form, few_tasks h e, few_regions h e)

pub early_names : (h : Header) → field_fault h ≡ None → names_place h ≤ 65536
early_names h e = omega (arith, size_28 h.form, few_tasks h e, few_regions h e, few_lines h e)

-- the bytes of names are few in the second form, and none in the first
pub few_names : (h : Header) → field_fault h ≡ None → h.form ≡ Second → h.names ≤ 409600
few_names h e s = ((limits h e).second s).1

pub plain_names : (h : Header) (f : ImageForm) → h.form ≡ f → field_fault h ≡ None → (h.form ≡ First → h.names ≡ 0) → h.names ≤ 409600
plain_names h First is e none = omega (arith, none is)
plain_names h Second is e none = few_names h e is

pub short_total : (h : Header) → field_fault h ≡ None → (h.form ≡ First → h.names ≡ 0) → total h ≤ 2097152
short_total h e none = let l = limits h e in omega (arith, early_names h e, plain_names h h.form refl e none, l.flash)

-- the zero that a header has, if its form has one, is 0
pub no_zero : (h : Header) → field_fault h ≡ None → (h.form ≡ First → h.zero ≡ 0) → h.zero ≡ 0
no_zero h e first = by h.form refl
  where
    by : (f : ImageForm) → h.form ≡ f → h.zero ≡ 0
    by First is = first is
    by Second is = ((limits h e).second is).0

-- what the first form has not is 0
pub plain_header : (f : ImageForm) (bytes : List ℕ) → (header_at f bytes).form ≡ First → ((header_at f bytes).zero ≡ 0) × ((header_at f bytes).names ≡ 0)
plain_header First bytes e = (refl, refl)
plain_header Second bytes e = cc

-- ---- the number of regions

-- a condition that does not refuse
pub holds : (t : Bool) (r : Refusal) → cond t None (Some r) ≡ None → t ≡ true
holds true r e = refl
holds false r e = cc

equal : (a b : ℕ) (r : Refusal) → cond (a == b) None (Some r) ≡ None → a ≡ b
equal a b r e = eqb-true a b (holds (a == b) r e)

-- the numbers of regions sum to the header's
pub all_counted : (h : Header) (ts : List TaskRecord) → count_fault h ts ≡ None → counted ts ≡ h.regions
all_counted h ts e = equal (counted ts) h.regions (3, count_place h.form) e
