-- The records of an accepted image are those that spell its contents.
use Rattle.std.proofs.Common.{◌≡◌, ◌∙◌, ◌+◌, ◌*◌, ◌%◌, ◌<◌, ◌≤◌, ℕ, zero, suc, List, All, [], ◌∷◌, ◌++◌, Bool, true, false, not, ◌||◌, ◌&&◌, ◌==◌, None, length, take, drop, map, nat_lt, ◌⊎◌, inl, inr, arith, ap, ap₂, refl, sym, subst, length-drop}
use Rattle.std.specs.List.{list_any}
use Rattle.std.proofs.Math.Seq.{drop-append_seam, take-append_seam}
use Rattle.std.proofs.lemmas.Bool.{eqb-true, ltb-false, not-false, or_cases, leb-false}
use Rattle.std.proofs.lemmas.Bool.Decides.{nat_tests}
use Rattle.std.proofs.lemmas.List.{length-map, length-take, map-append, take-append-drop}
use Rattle.std.proofs.lemmas.List.Sums.{sum_by-cons}
use Rattle.image_format.specs.declared.records.ImageForm.{ImageForm}
use Rattle.image_format.specs.declared.records.ImageForm.TheVariants.{Second}
use Rattle.image_format.specs.declared.records.Header.{Header}
use Rattle.image_format.specs.declared.records.TaskRecord.{TaskRecord}
use Rattle.image_format.specs.declared.records.RegionRecord.{RegionRecord}
use Rattle.image_format.specs.declared.records.LineRecord.{LineRecord}
use Rattle.region_check.specs.declared.Region.{Region}
use Rattle.region_check.specs.declared.Rights.{Rights}
use Rattle.image_format.specs.Accepted.{Accepted}
use Rattle.image_format.specs.ImageData.{ImageLine, ImageData, Sound, ImageTask, all_names, all_regions, bit, line_of, line_record, image_data_of, records_of, region_of, region_record, rights_number, rights_of, task_of, task_record, tasks_of}
use Rattle.image_format.specs.Names.{after_name, after_names, names_of}
use Rattle.image_format.specs.Records.{Records}
use Rattle.image_format.specs.Regions.{clashes, has_area, has_rights, has_shape, own_fault, region_fault, regions_from}
use Rattle.image_format.specs.Steps.{counted, header_size, highest_line, line_fault, lines_from, lines_place, most_names, names_place, regions_place, task_fault, tasks_from}
use Rattle.image_format.proofs.Limits.{all_counted, limits, positive, row_none}
use Rattle.image_format.proofs.Moved.{bounded, line_rows}
use Rattle.image_format.proofs.Named.{all_names_again, names_after, names_back}
use Rattle.image_format.proofs.Passed.{both_none, passed_steps}

-- ---- tests

pub equals : (n m : ℕ) → not (n == m) ≡ false → n ≡ m
equals n m e = eqb-true n m (not-false (n == m) e)

-- ---- what the step says of a task

pub record IsTask (form : ImageForm) (index : ℕ) (t : TaskRecord) : Type 0 where
  pub supervisor : index ≡ 0 → t.priority ≡ 0
  pub others : 0 < index → 0 < t.priority
  pub flags : t.flags ≤ 1
  pub started : index ≡ 0 → t.flags ≡ 1
  pub some_region : 1 ≤ t.regions
  pub most_regions : t.regions ≤ 8
  pub most_names : t.names ≤ most_names form
  pub stack : t.sp % 4 ≡ 0

pub is_task : (form : ImageForm) (index : ℕ) (t : TaskRecord) (place : ℕ) → task_fault form index t place ≡ None → IsTask form index t
is_task form index t place e =
    let a = row_none ((index == 0 && not (t.priority == 0)) || (not (index == 0) && t.priority == 0)) _ _ e in
    let b = row_none (nat_lt 1 t.flags || (index == 0 && not (t.flags == 1))) _ _ a.1 in
    let c = row_none (nat_lt t.regions 1 || nat_lt 8 t.regions) _ _ b.1 in
    let d = row_none (nat_lt (most_names form) t.names) _ _ c.1 in
    let f = row_none (not (t.sp % 4 == 0)) _ _ d.1 in
    record {
      supervisor = supervisor index t.priority a.0;
      others = others index t.priority a.0;
      flags = most_flags index t.flags b.0;
      started = started index t.flags b.0;
      some_region = some t.regions c.0;
      most_regions = most t.regions c.0;
      most_names = ltb-false (most_names form) t.names d.0;
      stack = equals (t.sp % 4) 0 f.0;
    }
  where
    supervisor : (index p : ℕ) → ((index == 0 && not (p == 0)) || (not (index == 0) && p == 0)) ≡ false → index ≡ 0 → p ≡ 0
    supervisor index p e i = grind (arith, nat_tests)

    others : (index p : ℕ) → ((index == 0 && not (p == 0)) || (not (index == 0) && p == 0)) ≡ false → 0 < index → 0 < p
    others index p e i = grind (arith, nat_tests)

    most_flags : (index f : ℕ) → (nat_lt 1 f || (index == 0 && not (f == 1))) ≡ false → f ≤ 1
    most_flags index f e = grind (arith, nat_tests)

    started : (index f : ℕ) → (nat_lt 1 f || (index == 0 && not (f == 1))) ≡ false → index ≡ 0 → f ≡ 1
    started index f e i = grind (arith, nat_tests)

    some : (n : ℕ) → (nat_lt n 1 || nat_lt 8 n) ≡ false → 1 ≤ n
    some n e = grind (arith, nat_tests)

    most : (n : ℕ) → (nat_lt n 1 || nat_lt 8 n) ≡ false → n ≤ 8
    most n e = grind (arith, nat_tests)

-- ---- what the step says of a region

pub record IsRegion (h : Header) (r : RegionRecord) : Type 0 where
  pub rights : has_rights r ≡ true
  pub shape : has_shape r ≡ true
  pub area : has_area h r ≡ true

pub is_region : (h : Header) (r : RegionRecord) (overlaps : Bool) (place : ℕ) → region_fault h overlaps r place ≡ None → IsRegion h r × (overlaps ≡ false)
is_region h r overlaps place e =
    let a = row_none (not (has_rights r)) _ _ e in
    let b = row_none (not (has_shape r)) _ _ a.1 in
    let c = row_none (not (has_area h r)) _ _ b.1 in
    let d = row_none overlaps _ _ c.1 in
    (record { rights = not-false (has_rights r) a.0; shape = not-false (has_shape r) b.0; area = not-false (has_area h r) c.0 }, d.0)

abbrev pub Every : (RegionRecord → Type 0) → List RegionRecord → Type 0
Every P [] = Unit {0}
Every P (r ∷ rs) = P r × Every P rs

pub every_append : (P : RegionRecord → Type 0) (xs ys : List RegionRecord) → Every P xs → Every P ys → Every P (xs ++ ys)
every_append P [] ys a b = b
every_append P (x ∷ xs) ys a b = (a.0, every_append P xs ys a.1 b)

own_regions : (h : Header) (others own : List RegionRecord) (place : ℕ) (rs : List RegionRecord) → own_fault h others own place rs ≡ None → Every (IsRegion h) rs
own_regions h others own place [] e = tt
own_regions h others own place (r ∷ rs) e =
    let a = both_none (region_fault h (clashes others own r) r place) (own_fault h others (own ++ r ∷ []) (place + 12) rs) e in
    ((is_region h r (clashes others own r) place a.0).0, own_regions h others (own ++ r ∷ []) (place + 12) rs a.1)

pub nothing_left : (rs : List RegionRecord) → 0 ≡ length rs → rs ≡ []
nothing_left [] e = refl
nothing_left (r ∷ rs) e = absurd (omega (arith, e))

-- the first task's regions, and those of the others
pub rest_counted : (t : TaskRecord) (ts : List TaskRecord) (rs : List RegionRecord) → counted (t ∷ ts) ≡ length rs
    → (length (take t.regions rs) ≡ t.regions) × (counted ts ≡ length (drop t.regions rs))
rest_counted t ts rs e =
    let sum = sum_by-cons (λ (t : TaskRecord). t.regions) t ts in
    (omega (arith, sum, e, length-take t.regions rs), omega (arith, sum, e, length-drop t.regions rs))

pub every_region : (h : Header) (others : List RegionRecord) (place : ℕ) (ts : List TaskRecord) (rs : List RegionRecord)
    → counted ts ≡ length rs → regions_from h others place ts rs ≡ None → Every (IsRegion h) rs
every_region h others place [] rs n e = subst (Every (IsRegion h)) (sym (nothing_left rs n)) tt
every_region h others place (t ∷ ts) rs n e =
    let own = take t.regions rs in
    let more = drop t.regions rs in
    let a = both_none (own_fault h others [] place own) (regions_from h (others ++ own) (place + 12 * t.regions) ts more) e in
    subst (Every (IsRegion h)) (take-append-drop t.regions rs)
    (every_append (IsRegion h) own more (own_regions h others [] place own a.0)
    (every_region h (others ++ own) (place + 12 * t.regions) ts more (rest_counted t ts rs n).1 a.1))

-- ---- rights

-- what holds of a number that is one of the list
one_of : (P : ℕ → Type 0) (n k : ℕ) (ks : List ℕ) → P k → (list_any (λ j. n == j) ks ≡ true → P n) → list_any (λ j. n == j) (k ∷ ks) ≡ true → P n
one_of P n k ks here there e = by (or_cases (n == k) (list_any (λ j. n == j) ks) e)
  where
    by : ((n == k) ≡ true) ⊎ (list_any (λ j. n == j) ks ≡ true) → P n
    by (inl h) = subst P (sym (eqb-true n k h)) here
    by (inr h) = there h

one_of_none : (P : ℕ → Type 0) (n : ℕ) → list_any (λ j. n == j) [] ≡ true → P n
one_of_none P n e = cc

-- what holds of each number of rights that is taken
pub rights_cases : (P : ℕ → Type 0) → P 1 → P 3 → P 5 → P 7 → P 9 → P 11 → (n : ℕ) → list_any (λ k. n == k) (1 ∷ 3 ∷ 5 ∷ 7 ∷ 9 ∷ 11 ∷ []) ≡ true → P n
rights_cases P one three five seven nine eleven n e =
    one_of P n 1 (3 ∷ 5 ∷ 7 ∷ 9 ∷ 11 ∷ []) one (one_of P n 3 (5 ∷ 7 ∷ 9 ∷ 11 ∷ []) three (one_of P n 5 (7 ∷ 9 ∷ 11 ∷ []) five
    (one_of P n 7 (9 ∷ 11 ∷ []) seven (one_of P n 9 (11 ∷ []) nine (one_of P n 11 [] eleven (one_of_none P n)))))) e

rights_again : (n : ℕ) → list_any (λ k. n == k) (1 ∷ 3 ∷ 5 ∷ 7 ∷ 9 ∷ 11 ∷ []) ≡ true → rights_number (rights_of n) ≡ n
rights_again = rights_cases (λ n. rights_number (rights_of n) ≡ n) refl refl refl refl refl refl

region_again : (h : Header) (r : RegionRecord) → IsRegion h r → region_record (region_of r) ≡ r
region_again h r g = ap (λ (n : ℕ). record r { rights = n }) (rights_again r.rights g.rights)

regions_again : (h : Header) (rs : List RegionRecord) → Every (IsRegion h) rs → map region_record (map region_of rs) ≡ rs
regions_again h [] g = refl
regions_again h (r ∷ rs) g = ap₂ (λ x xs. x ∷ xs) (region_again h r g.0) (regions_again h rs g.1)

-- ---- tasks

pub tasks_length : (ts : List TaskRecord) (rs : List RegionRecord) (ns : List ℕ) → length (tasks_of ts rs ns) ≡ length ts
tasks_length [] rs ns = refl
tasks_length (t ∷ ts) rs ns = omega (arith, tasks_length ts (drop t.regions rs) (after_names t.names ns))

all_again : (ts : List TaskRecord) (rs : List RegionRecord) (ns : List ℕ) → counted ts ≡ length rs → all_regions (tasks_of ts rs ns) ≡ map region_of rs
all_again [] rs ns e = sym (ap (map region_of) (nothing_left rs e))
all_again (t ∷ ts) rs ns e =
    ap (λ (xs : List Region). map region_of (take t.regions rs) ++ xs) (all_again ts (drop t.regions rs) (after_names t.names ns) (rest_counted t ts rs e).1)
    ∙ sym (map-append region_of (take t.regions rs) (drop t.regions rs)) ∙ ap (map region_of) (take-append-drop t.regions rs)

flag_again : (n : ℕ) → n ≤ 1 → bit (n == 1) 1 ≡ n
flag_again n le = grind (arith, nat_tests)

same_task : (t : TaskRecord) (f n z : ℕ) → f ≡ t.flags → n ≡ t.regions → z ≡ t.names
    → ◌≡◌ {A = TaskRecord} (record { priority = t.priority; flags = f; regions = n; names = z; entry = t.entry; sp = t.sp }) t
same_task t f n z a b c = rw (a, b, c) refl

-- so many names are there
pub names_length : (n : ℕ) (bytes : List ℕ) → length (names_of n bytes) ≡ n
names_length zero bytes = refl
names_length (suc n) bytes = omega (arith, names_length n (after_name bytes))

task_again : (form : ImageForm) (index : ℕ) (t : TaskRecord) (own : List RegionRecord) (ns : List ℕ) → IsTask form index t → length own ≡ t.regions → task_record (task_of t own (names_of t.names ns)) ≡ t
task_again form index t own ns g e = same_task t _ _ _ (flag_again t.flags g.flags) (length-map own region_of ∙ e) (names_length t.names ns)

tasks_again : (form : ImageForm) (index place : ℕ) (ts : List TaskRecord) (rs : List RegionRecord) (ns : List ℕ) → counted ts ≡ length rs → tasks_from form index place ts ≡ None
    → map task_record (tasks_of ts rs ns) ≡ ts
tasks_again form index place [] rs ns n e = refl
tasks_again form index place (t ∷ ts) rs ns n e =
    let a = both_none (task_fault form index t place) (tasks_from form (index + 1) (place + 12) ts) e in
    let c = rest_counted t ts rs n in
    ap₂ (λ x xs. x ∷ xs) (task_again form index t (take t.regions rs) ns (is_task form index t place a.0) c.0)
    (tasks_again form (index + 1) (place + 12) ts (drop t.regions rs) (after_names t.names ns) c.1 a.1)

-- ---- interrupts

pub record IsLine (form : ImageForm) (least tasks : ℕ) (l : LineRecord) : Type 0 where
  pub most : l.line ≤ highest_line form
  pub least_line : least ≤ l.line
  pub owner : l.task < tasks
  pub device : l.device ≤ 8
  pub bits : 0 < l.bits

pub is_line : (form : ImageForm) (least tasks : ℕ) (l : LineRecord) (place : ℕ) → line_fault form least tasks l place ≡ None → IsLine form least tasks l
is_line form least tasks l place e =
    let rows = line_rows form least tasks l place e in
    record {
      most = ltb-false (highest_line form) l.line rows.0.high;
      least_line = ltb-false l.line least rows.1.low;
      owner = leb-false tasks l.task rows.1.owner;
      device = ltb-false 8 l.device (bounded form l.device rows.0.device);
      bits = positive l.bits rows.1.bits;
    }

lines_again : (ls : List LineRecord) → map line_record (map line_of ls) ≡ ls
lines_again [] = refl
lines_again (l ∷ ls) = ap (λ (xs : List LineRecord). l ∷ xs) (lines_again ls)

pub are_lines : (form : ImageForm) (least tasks place : ℕ) (ls : List LineRecord) → lines_from form least tasks place ls ≡ None → All (IsLine form least tasks) ls
are_lines form least tasks place [] e k d lt = absurd (omega (arith, lt))
are_lines form least tasks place (l ∷ ls) e zero d lt =
    is_line form least tasks l place (both_none (line_fault form least tasks l place) (lines_from form (l.line + 1) tasks (place + 8) ls) e).0
are_lines form least tasks place (l ∷ ls) e (suc k) d lt =
    let a = both_none (line_fault form least tasks l place) (lines_from form (l.line + 1) tasks (place + 8) ls) e in
    let here = is_line form least tasks l place a.0 in
    let next = are_lines form (l.line + 1) tasks (place + 8) ls a.1 k d (omega (arith, lt)) in
    record { most = next.most; least_line = omega (arith, here.least_line, next.least_line); owner = next.owner; device = next.device; bits = next.bits }

pub each_line : (r : Records) → Accepted r → All (IsLine r.header.form 0 r.header.tasks) r.lines
each_line r a = are_lines r.header.form 0 r.header.tasks (lines_place r.header) r.lines (passed_steps r a.records).lines

-- ---- the whole

same_records : (r : Records) (t l g z f n : ℕ) (ts : List TaskRecord) (rs : List RegionRecord) (ls : List LineRecord) (ns : List ℕ)
    → t ≡ r.header.tasks → l ≡ r.header.lines → g ≡ r.header.regions → z ≡ r.header.zero → f ≡ r.header.flash → n ≡ r.header.names → ts ≡ r.tasks → rs ≡ r.regions → ls ≡ r.lines → ns ≡ r.names
    → ◌≡◌ {A = Records} (record {
      header = record { form = r.header.form; tasks = t; lines = l; regions = g; zero = z; flash = f; ram = r.header.ram; bits = r.header.bits; names = n };
      tasks = ts;
      regions = rs;
      lines = ls;
      names = ns;
      flash = r.flash;
    }) r
same_records r t l g z f n ts rs ls ns a b c d e h x y u v = rw (a, b, c, d, e, h, x, y, u, v) refl

pub counts : (r : Records) → Accepted r → counted r.tasks ≡ length r.regions
counts r a = all_counted r.header r.tasks (passed_steps r a.records).count ∙ sym a.regions

pub shape_again : (r : Records) → Accepted r → r.header.zero ≡ 0 → records_of r.header.form (image_data_of r) ≡ r
shape_again r a nothing =
    let h = r.header in
    let s = passed_steps r a.records in
    let n = counts r a in
    let all = all_again r.tasks r.regions r.names n in
    let names = all_names_again (names_place h + length r.names) r.tasks r.regions r.names s.names in
    same_records r _ _ _ _ _ _ _ _ _ _ (tasks_length r.tasks r.regions r.names ∙ a.tasks) (length-map r.lines line_of ∙ a.lines)
    (ap length all ∙ length-map r.regions region_of ∙ a.regions) (sym nothing) a.flash (ap length names ∙ a.names)
    (tasks_again h.form 0 (header_size h.form) r.tasks r.regions r.names n s.tasks)
    (ap (map region_record) all ∙ regions_again h r.regions (every_region h [] (regions_place h) r.tasks r.regions n s.regions))
    (lines_again r.lines)
    names

-- records of the second form are those of their picture
pub second_again : (r : Records) → r.header.form ≡ Second → Accepted r → records_of Second (image_data_of r) ≡ r
second_again r is a =
    let nothing = ((limits r.header a.fields).second is).0 in
    ap (λ (f : ImageForm). records_of f (image_data_of r)) (sym is) ∙ shape_again r a nothing

pub sound_image_data : (r : Records) → r.header.form ≡ Second → Accepted r → Sound (image_data_of r)
sound_image_data r is a = subst Accepted (sym (second_again r is a)) a

-- ---- and the other way round, for each picture

bit_again : (b : Bool) → (bit b 1 == 1) ≡ b
bit_again true = refl
bit_again false = refl

all_rights : (r w x d : Bool) → rights_of (rights_number (record { read = r; write = w; execute = x; device = d })) ≡ record { read = r; write = w; execute = x; device = d }
all_rights true true true true = refl
all_rights true true true false = refl
all_rights true true false true = refl
all_rights true true false false = refl
all_rights true false true true = refl
all_rights true false true false = refl
all_rights true false false true = refl
all_rights true false false false = refl
all_rights false true true true = refl
all_rights false true true false = refl
all_rights false true false true = refl
all_rights false true false false = refl
all_rights false false true true = refl
all_rights false false true false = refl
all_rights false false false true = refl
all_rights false false false false = refl

regions_back : (rs : List Region) → map region_of (map region_record rs) ≡ rs
regions_back [] = refl
regions_back (r ∷ rs) =
    ap₂ (λ x xs. x ∷ xs) (ap (λ (t : Rights). record r { rights = t }) (all_rights r.rights.read r.rights.write r.rights.execute r.rights.device)) (regions_back rs)

lines_back : (ls : List ImageLine) → map line_of (map line_record ls) ≡ ls
lines_back [] = refl
lines_back (l ∷ ls) = ap (λ (xs : List ImageLine). l ∷ xs) (lines_back ls)

-- the front of a list's image, as long as that list, and what follows it
pub front : (xs ys : List Region) → take (length xs) (map region_record (xs ++ ys)) ≡ map region_record xs
front xs ys = ap (take (length xs)) (map-append region_record xs ys) ∙ ap (λ (n : ℕ). take n (map region_record xs ++ map region_record ys)) (sym (length-map xs region_record))
    ∙ take-append_seam (map region_record xs) (map region_record ys)

pub behind : (xs ys : List Region) → drop (length xs) (map region_record (xs ++ ys)) ≡ map region_record ys
behind xs ys = ap (drop (length xs)) (map-append region_record xs ys) ∙ ap (λ (n : ℕ). drop n (map region_record xs ++ map region_record ys)) (sym (length-map xs region_record))
    ∙ drop-append_seam (map region_record xs) (map region_record ys)

same_image_data : (t : ImageTask) (b : Bool) (rs : List Region) (ns : List (List ℕ)) → b ≡ t.started → rs ≡ t.regions → ns ≡ t.names → ◌≡◌ {A = ImageTask} (record t { started = b; regions = rs; names = ns }) t
same_image_data t b rs ns d e f = rw (d, e, f) refl

tasks_back : (ts : List ImageTask) → tasks_of (map task_record ts) (map region_record (all_regions ts)) (all_names ts) ≡ ts
tasks_back [] = refl
tasks_back (t ∷ ts) =
    ap₂ (λ x xs. x ∷ xs) (same_image_data t _ _ _ (bit_again t.started) (ap (map region_of) (front t.regions (all_regions ts)) ∙ regions_back t.regions) (names_back t.names (all_names ts)))
    (ap₂ (tasks_of (map task_record ts)) (behind t.regions (all_regions ts)) (names_after t.names (all_names ts)) ∙ tasks_back ts)

pub image_data_again : (form : ImageForm) (p : ImageData) → image_data_of (records_of form p) ≡ p
image_data_again form p = same_parts (tasks_back p.tasks) (lines_back p.lines)
  where
    same_parts : {ts : List ImageTask} {ls : List ImageLine} → ts ≡ p.tasks → ls ≡ p.lines → ◌≡◌ {A = ImageData} (record p { tasks = ts; lines = ls }) p
    same_parts d e = rw (d, e) refl
