-- What is known of each sound image, from what the steps say.
use Rattle.std.proofs.Common.{◌≡◌, ◌∙◌, ◌+◌, ◌-◌, ◌*◌, ◌/◌, ◌%◌, ◌<◌, ◌≤◌, ℕ, zero, suc, List, All, [], ◌∷◌, ◌++◌, Bool, true, false, not, ◌||◌, ◌&&◌, ◌==◌, Option, None, Some, length, take, drop, map, get_or, nat_le, nat_lt, ◌⊎◌, inl, inr, arith, ap, refl, sym, subst, append_assoc, mul_assoc, div-add-mod'}
use Rattle.std.specs.Prelude.{Contains, slice_get}
use Rattle.std.specs.List.{list_all, list_any}
use Rattle.std.proofs.lemmas.Bool.{cases_lt, eqb-true, le-leb, leb-true, lt-ltb, ltb-false, ltb-true, and_parts, or_parts, not-false, or_cases}
use Rattle.std.proofs.lemmas.Bool.Decides.{nat_tests}
use Rattle.std.proofs.lemmas.Nat.{mod-mul-add}
use Rattle.std.proofs.lemmas.List.{append-nil, get_or-map, get_or_past, length-map, take-append-drop}
use Rattle.image_format.specs.declared.records.ImageForm.{ImageForm}
use Rattle.image_format.specs.declared.records.ImageForm.TheVariants.{First, Second}
use Rattle.image_format.specs.declared.records.Header.{Header}
use Rattle.image_format.specs.declared.records.TaskRecord.{TaskRecord}
use Rattle.image_format.specs.declared.records.RegionRecord.{RegionRecord}
use Rattle.image_format.specs.declared.records.LineRecord.{LineRecord}
use Rattle.region_check.specs.declared.Region.{Region}
use Rattle.region_check.specs.declared.Right.TheVariants.{Execute}
use Rattle.region_check.specs.Rights.{gives, may_use, SameOrApart}
use Rattle.image_format.specs.Accepted.{Accepted}
use Rattle.image_format.specs.Facts.{Facts, HasLines, HasNames, HasRegions, HasSizes, HasTasks, IsInFlash, IsInRam}
use Rattle.image_format.specs.ImageData.{ImageLine, ImageData, ImageTask, device_region, line_of, names_in, no_line, no_task, image_data_of, region_by, region_of, regions_in, rights_of, task_of, tasks_of}
use Rattle.image_format.specs.Names.{after_names, names_from, task_names_fault}
use Rattle.image_format.specs.Records.{Records}
use Rattle.image_format.specs.Regions.{clashes, cuts, entries_from, entry_fault, has_area, is_devices, lies_in, line_device_fault, line_devices_from, may_drive, meets, own_fault, own_regions, region_fault, regions_from, runs_at}
use Rattle.region_check.specs.Sizes.{is_size, sizes}
use Rattle.text_lines.specs.Names.{is_name}
use Rattle.image_format.specs.Steps.{counted, header_size, highest_line, line_fault, lines_from, lines_place, most_names, names_place, regions_place, task_fault, tasks_from}
use Rattle.image_format.proofs.Chunks.{blank, blank_line}
use Rattle.image_format.proofs.Limits.{holds, limits, lines_64, row_none, tasks_512}
use Rattle.image_format.proofs.Lookups.{In, in_list, in_own, names_at, names_looked, region_source, regions_looked, task_looked}
use Rattle.image_format.proofs.Named.{AreNew, are_new, new_apart, new_named}
use Rattle.image_format.proofs.Passed.{both_none, passed_steps}
use Rattle.image_format.proofs.Shape.{Every, IsLine, IsRegion, IsTask, are_lines, counts, each_line, equals, every_append, every_region, is_region, is_task, names_length, nothing_left, rest_counted, rights_cases, tasks_length}

-- ---- tests

-- ---- one region

lies : (r : RegionRecord) (base end : ℕ) → lies_in r base end ≡ true → (base ≤ r.base) × (r.base + r.size ≤ end)
lies r base end e =
    let b = and_parts (nat_le base r.base) (nat_le (r.base + r.size) end) e in
    (leb-true base r.base b.0, leb-true (r.base + r.size) end b.1)

-- what a region is, of an image with so much flash and RAM
record IsPlaced (p : ImageData) (r : Region) : Type 0 where
  readable : r.rights.read ≡ true
  no_code : r.rights.device ≡ true → r.rights.execute ≡ false
  within : r.rights.device ≡ false → IsInFlash p r ⊎ IsInRam p r
  writable : r.rights.device ≡ false → r.rights.write ≡ true → IsInRam p r
  devices : r.rights.device ≡ true → (0x40000000 ≤ r.base) × (r.base + r.size ≤ 0x60000000)

no : {A : Type 0} → false ≡ true → A
no e = cc

yes : {A : Type 0} → true ≡ false → A
yes e = cc

either_area : (h : Header) (p : ImageData) (r : RegionRecord) → length p.flash ≡ h.flash → p.ram ≡ h.ram
    → (lies_in r 0x08000000 (0x08000000 + h.flash) || lies_in r 0x20000000 (0x20000000 + h.ram)) ≡ true
    → IsInFlash p (region_of r) ⊎ IsInRam p (region_of r)
either_area h p r f m e =
    elim (or_cases (lies_in r 0x08000000 (0x08000000 + h.flash)) (lies_in r 0x20000000 (0x20000000 + h.ram)) e) [
      | inl a ↦ let l = lies r 0x08000000 (0x08000000 + h.flash) a in inl (l.0, omega (arith, l.1, f))
      | inr a ↦ let l = lies r 0x20000000 (0x20000000 + h.ram) a in inr (l.0, omega (arith, l.1, m))
    ]

ram_area : (h : Header) (p : ImageData) (r : RegionRecord) → p.ram ≡ h.ram → lies_in r 0x20000000 (0x20000000 + h.ram) ≡ true → IsInRam p (region_of r)
ram_area h p r m e = let l = lies r 0x20000000 (0x20000000 + h.ram) e in (l.0, omega (arith, l.1, m))

placed : (h : Header) (p : ImageData) (r : RegionRecord) → length p.flash ≡ h.flash → p.ram ≡ h.ram → IsRegion h r → IsPlaced p (region_of r)
placed h p r f m g =
    rights_cases (λ n. has_area h (record r { rights = n }) ≡ true → IsPlaced p (region_of (record r { rights = n })))
    (λ e. record { readable = refl; no_code = λ d. no d; within = λ d. either_area h p (record r { rights = 1 }) f m e; writable = λ d w. no w; devices = λ d. no d })
    (λ e. let in_ram = ram_area h p (record r { rights = 3 }) m e in record { readable = refl; no_code = λ d. no d; within = λ d. inr in_ram; writable = λ d w. in_ram; devices = λ d. no d })
    (λ e. record { readable = refl; no_code = λ d. no d; within = λ d. either_area h p (record r { rights = 5 }) f m e; writable = λ d w. no w; devices = λ d. no d })
    (λ e. let in_ram = ram_area h p (record r { rights = 7 }) m e in record { readable = refl; no_code = λ d. no d; within = λ d. inr in_ram; writable = λ d w. in_ram; devices = λ d. no d })
    (λ e. record { readable = refl; no_code = λ d. refl; within = λ d. yes d; writable = λ d w. yes d; devices = λ d. lies r 0x40000000 0x60000000 e })
    (λ e. record { readable = refl; no_code = λ d. refl; within = λ d. yes d; writable = λ d w. yes d; devices = λ d. lies r 0x40000000 0x60000000 e })
    r.rights g.rights g.area

-- ---- sizes

-- what holds of each number of a list holds of one that is among them
among : (test : ℕ → Bool) (n : ℕ) (ks : List ℕ) → list_all test ks ≡ true → list_any (λ k. n == k) ks ≡ true → test n ≡ true
among test n [] a e = cc
among test n (k ∷ ks) a e =
    let b = and_parts (test k) (list_all test ks) a in
    elim (or_cases (n == k) (list_any (λ k. n == k) ks) e) [
      | inl h ↦ ap test (eqb-true n k h) ∙ b.0
      | inr h ↦ among test n ks b.1 h
    ]

sized : (h : Header) (r : RegionRecord) → IsRegion h r → 256 ≤ r.size
unfolding is_size
sized h r g = leb-true 256 r.size (among (nat_le 256) r.size sizes refl (and_parts (is_size r.size) (r.base % r.size == 0) g.shape).0)

-- a multiple of a multiple of 256 is one too
multiple : (base size : ℕ) → size % 256 ≡ 0 → base % size ≡ 0 → base % 256 ≡ 0
multiple base size by_256 whole =
    let parts : size ≡ size / 256 * 256 = omega (arith, by_256) in
    let times : base ≡ base / size * size + 0 = sym (div-add-mod' base size) ∙ ap (λ (n : ℕ). base / size * size + n) whole in
    let all : base / size * size ≡ base / size * (size / 256) * 256 = ap (λ (n : ℕ). base / size * n) parts ∙ sym (mul_assoc (base / size) (size / 256) 256) in
    ap (λ (n : ℕ). n % 256) (times ∙ ap (λ (n : ℕ). n + 0) all) ∙ mod-mul-add (base / size * (size / 256)) 256 0 (omega arith)

aligned : (h : Header) (r : RegionRecord) → IsRegion h r → r.base % 256 ≡ 0
unfolding is_size
aligned h r g =
    let shape = and_parts (is_size r.size) (r.base % r.size == 0) g.shape in
    let size : r.size % 256 ≡ 0 = eqb-true (r.size % 256) 0 (among (λ k. k % 256 == 0) r.size sizes refl shape.0) in
    multiple r.base r.size size (eqb-true (r.base % r.size) 0 shape.1)

-- ---- regions apart

abbrev Apart : RegionRecord → RegionRecord → Type 0
Apart r e = ((r.base ≡ e.base) × (r.size ≡ e.size)) ⊎ (r.base + r.size ≤ e.base) ⊎ (e.base + e.size ≤ r.base)

turned : (r e : RegionRecord) → Apart r e → Apart e r
turned r e (inl h) = inl (sym h.0, sym h.1)
turned r e (inr (inl h)) = inr (inr h)
turned r e (inr (inr h)) = inr (inl h)

not_meeting : (r e : RegionRecord) → meets r e ≡ false → (r.base + r.size ≤ e.base) ⊎ (e.base + e.size ≤ r.base)
not_meeting r e h = by (nat_lt r.base (e.base + e.size)) refl h
  where
    by : (b : Bool) → nat_lt r.base (e.base + e.size) ≡ b → (b && nat_lt e.base (r.base + r.size)) ≡ false → (r.base + r.size ≤ e.base) ⊎ (e.base + e.size ≤ r.base)
    by true a h = inl (ltb-false e.base (r.base + r.size) h)
    by false a h = inr (ltb-false r.base (e.base + e.size) a)

not_cutting : (r e : RegionRecord) → cuts r e ≡ false → Apart r e
not_cutting r e h = by (meets r e) refl h
  where
    by : (b : Bool) → meets r e ≡ b → (b && (not (r.base == e.base) || not (r.size == e.size))) ≡ false → Apart r e
    by true a h = let s = or_parts (not (r.base == e.base)) (not (r.size == e.size)) h in inl (equals r.base e.base s.0, equals r.size e.size s.1)
    by false a h = inr (not_meeting r e a)

none_of : (test : RegionRecord → Bool) (P : RegionRecord → Type 0) → ((e : RegionRecord) → test e ≡ false → P e) → (xs : List RegionRecord) → list_any test xs ≡ false → Every P xs
none_of test P each [] h = tt
none_of test P each (x ∷ xs) h = let b = or_parts (test x) (list_any test xs) h in (each x b.0, none_of test P each xs b.1)

-- each region is apart from those before it
abbrev AllApart : List RegionRecord → List RegionRecord → Type 0
AllApart before [] = Unit {0}
AllApart before (r ∷ rs) = Every (Apart r) before × AllApart (before ++ r ∷ []) rs

own_apart : (h : Header) (others own : List RegionRecord) (place : ℕ) (rs : List RegionRecord) → own_fault h others own place rs ≡ None → AllApart (others ++ own) rs
own_apart h others own place [] e = tt
own_apart h others own place (r ∷ rs) e =
    let a = both_none (region_fault h (clashes others own r) r place) (own_fault h others (own ++ r ∷ []) (place + 12) rs) e in
    let c = or_parts (list_any (meets r) own) (list_any (cuts r) others) (is_region h r (clashes others own r) place a.0).1 in (
      every_append (Apart r) others own (none_of (cuts r) (Apart r) (not_cutting r) others c.1) (none_of (meets r) (Apart r) (λ e m. inr (not_meeting r e m)) own c.0),
      subst (λ (xs : List RegionRecord). AllApart xs rs) (sym (append_assoc others own (r ∷ []))) (own_apart h others (own ++ r ∷ []) (place + 12) rs a.1),
    )

apart_append : (before xs ys : List RegionRecord) → AllApart before xs → AllApart (before ++ xs) ys → AllApart before (xs ++ ys)
apart_append before [] ys a b = subst (λ (zs : List RegionRecord). AllApart zs ys) (append-nil before) b
apart_append before (x ∷ xs) ys a b =
    (a.0, apart_append (before ++ x ∷ []) xs ys a.1 (subst (λ (zs : List RegionRecord). AllApart zs ys) (sym (append_assoc before (x ∷ []) xs)) b))

regions_apart : (h : Header) (others : List RegionRecord) (place : ℕ) (ts : List TaskRecord) (rs : List RegionRecord)
    → counted ts ≡ length rs → regions_from h others place ts rs ≡ None → AllApart others rs
regions_apart h others place [] rs n e = subst (AllApart others) (sym (nothing_left rs n)) tt
regions_apart h others place (t ∷ ts) rs n e =
    let own = take t.regions rs in
    let more = drop t.regions rs in
    let a = both_none (own_fault h others [] place own) (regions_from h (others ++ own) (place + 12 * t.regions) ts more) e in
    subst (AllApart others) (take-append-drop t.regions rs)
    (apart_append others own more (subst (λ (zs : List RegionRecord). AllApart zs own) (append-nil others) (own_apart h others [] place own a.0))
    (regions_apart h (others ++ own) (place + 12 * t.regions) ts more (rest_counted t ts rs n).1 a.1))

every_in : (P : RegionRecord → Type 0) (xs : List RegionRecord) (x : RegionRecord) → Every P xs → In x xs → P x
every_in P [] x a h = absurd h
every_in P (y ∷ ys) x a (inl e) = subst P e a.0
every_in P (y ∷ ys) x a (inr h) = every_in P ys x a.1 h

in_left : (xs ys : List RegionRecord) (x : RegionRecord) → In x xs → In x (xs ++ ys)
in_left [] ys x h = absurd h
in_left (z ∷ xs) ys x (inl e) = inl e
in_left (z ∷ xs) ys x (inr h) = inr (in_left xs ys x h)

in_end : (xs : List RegionRecord) (x : RegionRecord) → In x (xs ++ x ∷ [])
in_end [] x = inl refl
in_end (z ∷ xs) x = inr (in_end xs x)

later : (before rs : List RegionRecord) (x y : RegionRecord) → AllApart before rs → In x before → In y rs → Apart y x
later before [] x y a h k = absurd k
later before (r ∷ rs) x y a h (inl e) = subst (λ (z : RegionRecord). Apart z x) e (every_in (Apart r) before x a.0 h)
later before (r ∷ rs) x y a h (inr k) = later (before ++ r ∷ []) rs x y a.1 (in_left before (r ∷ []) x h) k

pairs : (before rs : List RegionRecord) (x y : RegionRecord) → AllApart before rs → In x rs → In y rs → Apart x y
pairs before [] x y a h k = absurd h
pairs before (r ∷ rs) x y a (inl d) (inl e) = inl (ap (λ (z : RegionRecord). z.base) (sym d ∙ e), ap (λ (z : RegionRecord). z.size) (sym d ∙ e))
pairs before (r ∷ rs) x y a (inl d) (inr k) = turned y x (later (before ++ r ∷ []) rs x y a.1 (subst (λ (z : RegionRecord). In z (before ++ r ∷ [])) d (in_end before r)) k)
pairs before (r ∷ rs) x y a (inr h) (inl e) = later (before ++ r ∷ []) rs y x a.1 (subst (λ (z : RegionRecord). In z (before ++ r ∷ [])) e (in_end before r)) h
pairs before (r ∷ rs) x y a (inr h) (inr k) = pairs (before ++ r ∷ []) rs x y a.1 h k

-- ---- regions of the picture

has_regions : (r : Records) → Accepted r → HasRegions (image_data_of r)
has_regions r a =
    let s = passed_steps r a.records in
    let n = counts r a in
    let p = image_data_of r in
    let place = regions_place r.header in
    let every = every_region r.header [] place r.tasks r.regions n s.regions in
    let apart = regions_apart r.header [] place r.tasks r.regions n s.regions in
    record {
      readable = λ i g c. (each every i g c).readable;
      no_code = λ i g c. (each every i g c).no_code;
      sizes = λ i g c. let q = region_source r.tasks r.regions r.names i g c in
          subst (λ (z : Region). 256 ≤ z.size) q.2 (sized r.header q.0 (every_in (IsRegion r.header) r.regions q.0 every q.1));
      aligned = λ i g c. let q = region_source r.tasks r.regions r.names i g c in
          subst (λ (z : Region). z.base % 256 ≡ 0) q.2 (aligned r.header q.0 (every_in (IsRegion r.header) r.regions q.0 every q.1));
      within = λ i g c. (each every i g c).within;
      writable = λ i g c. (each every i g c).writable;
      devices = λ i g c. (each every i g c).devices;
      apart = λ i j g e c d. let q = region_source r.tasks r.regions r.names i g c in let o = region_source r.tasks r.regions r.names j e d in
          subst (λ (z : Region). SameOrApart z e) q.2 (subst (λ (z : Region). SameOrApart (region_of q.0) z) o.2 (pairs [] r.regions q.0 o.0 apart q.1 o.1));
    }
  where
    each : Every (IsRegion r.header) r.regions → (i : ℕ) (g : Region) → Contains (regions_in (image_data_of r) i) g → IsPlaced (image_data_of r) g
    each every i g c =
        let q = region_source r.tasks r.regions r.names i g c in
        subst (IsPlaced (image_data_of r)) q.2 (placed r.header (image_data_of r) q.0 a.flash refl (every_in (IsRegion r.header) r.regions q.0 every q.1))

-- ---- tasks

task_steps : (form : ImageForm) (index place : ℕ) (ts : List TaskRecord) (i : ℕ) → i < length ts → tasks_from form index place ts ≡ None → IsTask form (index + i) (get_or ts i blank)
task_steps form index place [] i lt e = absurd (omega (arith, lt))
task_steps form index place (t ∷ ts) zero lt e =
    let a = both_none (task_fault form index t place) (tasks_from form (index + 1) (place + 12) ts) e in
    let same : index ≡ index + 0 = omega arith in
    subst (λ (k : ℕ). IsTask form k t) same (is_task form index t place a.0)
task_steps form index place (t ∷ ts) (suc i) lt e =
    let a = both_none (task_fault form index t place) (tasks_from form (index + 1) (place + 12) ts) e in
    let same : (index + 1) + i ≡ index + suc i = omega arith in
    subst (λ (k : ℕ). IsTask form k (get_or ts i blank)) same (task_steps form (index + 1) (place + 12) ts i (omega (arith, lt)) a.1)

record Enters (own : List RegionRecord) (t : TaskRecord) : Type 0 where
  odd : t.entry % 2 ≡ 1
  runs : list_any (runs_at t.entry) own ≡ true

enters : (own : List RegionRecord) (t : TaskRecord) (place : ℕ) → entry_fault own t place ≡ None → Enters own t
enters own t place e =
    let b = row_none (t.entry % 2 == 0 || not (list_any (runs_at t.entry) own)) (12, place + 4) None e in
    let c = or_parts (t.entry % 2 == 0) (not (list_any (runs_at t.entry) own)) b.0 in
    record { odd = odd t.entry c.0; runs = not-false (list_any (runs_at t.entry) own) c.1 }
  where
    odd : (n : ℕ) → (n % 2 == 0) ≡ false → n % 2 ≡ 1
    odd n e = by (n % 2) (omega arith) e
      where
        by : (m : ℕ) → m < 2 → (m == 0) ≡ false → m ≡ 1
        by m lt e = grind (arith, nat_tests)

entry_steps : (place : ℕ) (ts : List TaskRecord) (rs : List RegionRecord) (i : ℕ) → i < length ts → entries_from place ts rs ≡ None → Enters (own_regions ts rs i) (get_or ts i blank)
entry_steps place [] rs i lt e = absurd (omega (arith, lt))
entry_steps place (t ∷ ts) rs zero lt e =
    enters (take t.regions rs) t place (both_none (entry_fault (take t.regions rs) t place) (entries_from (place + 12) ts (drop t.regions rs)) e).0
entry_steps place (t ∷ ts) rs (suc i) lt e =
    entry_steps (place + 12) ts (drop t.regions rs) i (omega (arith, lt)) (both_none (entry_fault (take t.regions rs) t place) (entries_from (place + 12) ts (drop t.regions rs)) e).1

gives_there : (entry : ℕ) (r : RegionRecord) → runs_at entry r ≡ true → gives Execute (entry - 1) (region_of r) ≡ true
gives_there entry r e =
    let a = and_parts ((r.rights == 5 || r.rights == 7) && nat_lt r.base entry) (nat_le entry (r.base + r.size)) e in
    let b = and_parts (r.rights == 5 || r.rights == 7) (nat_lt r.base entry) a.0 in
    let low : r.base ≤ entry - 1 = omega (arith, ltb-true r.base entry b.1) in
    let high : entry - 1 < r.base + r.size = omega (arith, ltb-true r.base entry b.1, leb-true entry (r.base + r.size) a.1) in
    let one = le-leb r.base (entry - 1) low in
    let two = lt-ltb (entry - 1) (r.base + r.size) high in
    rw (one, two) (elim (or_cases (r.rights == 5) (r.rights == 7) b.0) [
      | inl h ↦ ap (λ (n : ℕ). (rights_of n).execute) (eqb-true r.rights 5 h)
      | inr h ↦ ap (λ (n : ℕ). (rights_of n).execute) (eqb-true r.rights 7 h)
    ])

some_gives : (entry : ℕ) (rs : List RegionRecord) → list_any (runs_at entry) rs ≡ true → may_use (map region_of rs) Execute (entry - 1) ≡ true
some_gives entry [] e = cc
some_gives entry (r ∷ rs) e =
    elim (or_cases (runs_at entry r) (list_any (runs_at entry) rs) e) [
      | inl h ↦ let g = gives_there entry r h in or_left (gives Execute (entry - 1) (region_of r)) (may_use (map region_of rs) Execute (entry - 1)) g
      | inr h ↦ or_right (gives Execute (entry - 1) (region_of r)) (may_use (map region_of rs) Execute (entry - 1)) (some_gives entry rs h)
    ]
  where
    or_left : (a b : Bool) → a ≡ true → (a || b) ≡ true
    or_left true b e = refl
    or_left false b e = cc

    or_right : (a b : Bool) → b ≡ true → (a || b) ≡ true
    or_right true b e = refl
    or_right false b e = e

own_length : (ts : List TaskRecord) (rs : List RegionRecord) (i : ℕ) → i < length ts → counted ts ≡ length rs → length (own_regions ts rs i) ≡ (get_or ts i blank).regions
own_length [] rs i lt e = absurd (omega (arith, lt))
own_length (t ∷ ts) rs zero lt e = (rest_counted t ts rs e).0
own_length (t ∷ ts) rs (suc i) lt e = own_length ts (drop t.regions rs) i (omega (arith, lt)) (rest_counted t ts rs e).1

past_end : (ts : List TaskRecord) (rs : List RegionRecord) (ns : List ℕ) (i : ℕ) → length ts ≤ i → get_or (tasks_of ts rs ns) i no_task ≡ no_task
past_end ts rs ns i le = get_or_past (tasks_of ts rs ns) i no_task (omega (arith, le, tasks_length ts rs ns))

task_there : (r : Records) → Accepted r → (i : ℕ) → i < length r.tasks → IsTask r.header.form i (get_or r.tasks i blank)
task_there r a i lt =
    let same : 0 + i ≡ i = omega arith in
    subst (λ (k : ℕ). IsTask r.header.form k (get_or r.tasks i blank)) same (task_steps r.header.form 0 (header_size r.header.form) r.tasks i lt (passed_steps r a.records).tasks)

has_tasks : (r : Records) → Accepted r → HasTasks (image_data_of r)
has_tasks r a =
    let l = limits r.header a.fields in
    let some : 0 < length r.tasks = omega (arith, a.tasks, l.some_task) in
    record {
      supervisor = ap (λ (t : ImageTask). t.priority) (look 0 some) ∙ (each 0 some).supervisor refl;
      supervisor_started = ap (λ (t : ImageTask). t.started) (look 0 some) ∙ ap (λ (n : ℕ). n == 1) ((each 0 some).started refl);
      priorities = λ i above below. let lt = within i below in subst (λ (t : ImageTask). 0 < t.priority) (sym (look i lt)) ((each i lt).others above);
      stacks = λ i. elim (cases_lt i (length r.tasks)) [
        | inl lt ↦ ap (λ (t : ImageTask). t.sp % 4) (look i lt) ∙ (each i lt).stack
        | inr le ↦ ap (λ (t : ImageTask). t.sp % 4) (past_end r.tasks r.regions r.names i le)
      ];
      some_region = λ i below. let lt = within i below in omega (arith, long i lt, (each i lt).some_region);
      most_regions = λ i. elim (cases_lt i (length r.tasks)) [
        | inl lt ↦ omega (arith, long i lt, (each i lt).most_regions)
        | inr le ↦ let e = ap (λ (t : ImageTask). length t.regions) (past_end r.tasks r.regions r.names i le) in omega (arith, e)
      ];
      odd_entries = λ i below. let lt = within i below in ap (λ (t : ImageTask). t.entry % 2) (look i lt) ∙ (enter i lt).odd;
      entries = λ i below. let lt = within i below in
          ap (λ (t : ImageTask). may_use t.regions Execute (t.entry - 1)) (look i lt)
          ∙ some_gives (get_or r.tasks i blank).entry (own_regions r.tasks r.regions i) (enter i lt).runs;
    }
  where
    within : (i : ℕ) → i < length (tasks_of r.tasks r.regions r.names) → i < length r.tasks
    within i lt = omega (arith, lt, tasks_length r.tasks r.regions r.names)

    look : (i : ℕ) → i < length r.tasks → get_or (tasks_of r.tasks r.regions r.names) i no_task ≡ task_of (get_or r.tasks i blank) (own_regions r.tasks r.regions i) (names_at r.tasks r.names i)
    look i lt = task_looked r.tasks r.regions r.names i lt

    each : (i : ℕ) → i < length r.tasks → IsTask r.header.form i (get_or r.tasks i blank)
    each i lt = task_there r a i lt

    enter : (i : ℕ) → i < length r.tasks → Enters (own_regions r.tasks r.regions i) (get_or r.tasks i blank)
    enter i lt = entry_steps (header_size r.header.form) r.tasks r.regions i lt (passed_steps r a.records).entries

    long : (i : ℕ) → i < length r.tasks → length (regions_in (image_data_of r) i) ≡ (get_or r.tasks i blank).regions
    long i lt = ap length (regions_looked r.tasks r.regions r.names i) ∙ length-map (own_regions r.tasks r.regions i) region_of ∙ own_length r.tasks r.regions i lt (counts r a)

-- ---- interrupts

line_order : (form : ImageForm) (least tasks place : ℕ) (ls : List LineRecord) (k m : ℕ) → k < m → m < length ls → lines_from form least tasks place ls ≡ None
    → (get_or ls k blank_line).line < (get_or ls m blank_line).line
line_order form least tasks place [] k m lt in_list e = absurd (omega (arith, in_list))
line_order form least tasks place (l ∷ ls) k zero lt in_list e = absurd (omega (arith, lt))
line_order form least tasks place (l ∷ ls) zero (suc m) lt in_list e =
    let a = both_none (line_fault form least tasks l place) (lines_from form (l.line + 1) tasks (place + 8) ls) e in
    let next = are_lines form (l.line + 1) tasks (place + 8) ls a.1 m blank_line (omega (arith, in_list)) in
    omega (arith, next.least_line)
line_order form least tasks place (l ∷ ls) (suc k) (suc m) lt in_list e =
    line_order form (l.line + 1) tasks (place + 8) ls k m (omega (arith, lt)) (omega (arith, in_list)) (both_none (line_fault form least tasks l place) (lines_from form (l.line + 1) tasks (place + 8) ls) e).1

drive_steps : (ts : List TaskRecord) (rs : List RegionRecord) (place : ℕ) (ls : List LineRecord) (k : ℕ) → k < length ls → line_devices_from ts rs place ls ≡ None
    → may_drive (own_regions ts rs (get_or ls k blank_line).task) (get_or ls k blank_line).device ≡ true
drive_steps ts rs place [] k lt e = absurd (omega (arith, lt))
drive_steps ts rs place (l ∷ ls) zero lt e =
    let own = own_regions ts rs l.task in
    holds (may_drive own l.device) (3, place + 1) (both_none (line_device_fault own l place) (line_devices_from ts rs (place + 8) ls) e).0
drive_steps ts rs place (l ∷ ls) (suc k) lt e =
    drive_steps ts rs (place + 8) ls k (omega (arith, lt)) (both_none (line_device_fault (own_regions ts rs l.task) l place) (line_devices_from ts rs (place + 8) ls) e).1

-- a device's region among those of a task, by its number
record IsDriver (own : List RegionRecord) (r : Option Region) : Type 0 where
  from : RegionRecord
  among : In from own
  is : r ≡ Some (region_of from)
  high : nat_le 8 from.rights ≡ true

driver_at : (own : List RegionRecord) (k : ℕ) → is_devices (slice_get own k) ≡ true → IsDriver own (slice_get (map region_of own) k)
driver_at [] k e = cc
driver_at (r ∷ rs) zero e = record { from = r; among = inl refl; is = refl; high = e }
driver_at (r ∷ rs) (suc k) e = let d = driver_at rs k e in record { from = d.from; among = inr d.among; is = d.is; high = d.high }

driver : (own : List RegionRecord) (number : ℕ) → 0 < number → may_drive own number ≡ true → IsDriver own (region_by (map region_of own) number)
driver own zero above e = absurd (omega (arith, above))
driver own (suc k) above e = driver_at own k e

-- rights that are taken, and at least 8, are a device's
device_rights : (n : ℕ) → list_any (λ k. n == k) (1 ∷ 3 ∷ 5 ∷ 7 ∷ 9 ∷ 11 ∷ []) ≡ true → nat_le 8 n ≡ true → (rights_of n).device ≡ true
device_rights = rights_cases (λ n. nat_le 8 n ≡ true → (rights_of n).device ≡ true) (λ e. no e) (λ e. no e) (λ e. no e) (λ e. no e) (λ e. refl) (λ e. refl)

line_63 : (form : ImageForm) → highest_line form < 64
line_63 First = omega arith
line_63 Second = omega arith

has_lines : (r : Records) → Accepted r → HasLines (image_data_of r)
has_lines r a = record {
  ascending = λ k m lt below. let n = within m below in
      omega (arith, ap (λ (l : ImageLine). l.line) (look k (omega (arith, lt, n))), ap (λ (l : ImageLine). l.line) (look m n), line_order r.header.form 0 r.header.tasks (lines_place r.header) r.lines k m lt n step);
  below = λ k. elim (cases_lt k (length r.lines)) [
    | inl lt ↦ omega (arith, ap (λ (l : ImageLine). l.line) (look k lt), (each k lt).most, line_63 r.header.form)
    | inr le ↦ omega (arith, ap (λ (l : ImageLine). l.line) (get_or_past (map line_of r.lines) k no_line (omega (arith, le, length-map r.lines line_of))))
  ];
  owners = λ k below. let n = within k below in
      omega (arith, ap (λ (l : ImageLine). l.task) (look k n), (each k n).owner, a.tasks, tasks_length r.tasks r.regions r.names);
  bits = λ k below. let n = within k below in omega (arith, ap (λ (l : ImageLine). l.bits) (look k n), (each k n).bits);
  devices = λ k below driven. let n = within k below in let d = drives k n (subst (λ (l : ImageLine). 0 < l.device) (look k n) driven) in
      (region_of d.from, region k n ∙ d.is, device_rights d.from.rights (every_in (IsRegion r.header) r.regions d.from every (in_own r.tasks r.regions (line k).task d.from d.among)).rights d.high);
}
  where
    line : ℕ → LineRecord
    line k = get_or r.lines k blank_line

    step : lines_from r.header.form 0 r.header.tasks (lines_place r.header) r.lines ≡ None
    step = (passed_steps r a.records).lines

    within : (k : ℕ) → k < length (map line_of r.lines) → k < length r.lines
    within k lt = omega (arith, lt, length-map r.lines line_of)

    look : (k : ℕ) → k < length r.lines → get_or (map line_of r.lines) k no_line ≡ line_of (get_or r.lines k blank_line)
    look k lt = get_or-map line_of r.lines k blank_line no_line lt

    each : (k : ℕ) → k < length r.lines → IsLine r.header.form 0 r.header.tasks (get_or r.lines k blank_line)
    each k lt = each_line r a k blank_line lt

    every : Every (IsRegion r.header) r.regions
    every = every_region r.header [] (regions_place r.header) r.tasks r.regions (counts r a) (passed_steps r a.records).regions

    own : ℕ → List RegionRecord
    own k = own_regions r.tasks r.regions (line k).task

    drives : (k : ℕ) → k < length r.lines → 0 < (line k).device → IsDriver (own k) (region_by (map region_of (own k)) (line k).device)
    drives k lt above = driver (own k) (line k).device above (drive_steps r.tasks r.regions (lines_place r.header) r.lines k lt (passed_steps r a.records).devices)

    region : (k : ℕ) → k < length r.lines → device_region (image_data_of r) k ≡ region_by (map region_of (own k)) (line k).device
    region k lt =
        ap (λ (l : ImageLine). region_by (regions_in (image_data_of r) l.task) l.device) (look k lt)
        ∙ ap (λ (rs : List Region). region_by rs (line k).device) (regions_looked r.tasks r.regions r.names (line k).task)

-- ---- names

most_32 : (form : ImageForm) → most_names form ≤ 32
most_32 First = omega arith
most_32 Second = omega arith

names_new : (end : ℕ) (ts : List TaskRecord) (ns : List ℕ) (i : ℕ) → names_from end ts ns ≡ None → AreNew [] (names_at ts ns i)
names_new end [] ns i e = tt
names_new end (t ∷ ts) ns zero e = are_new t.names [] ns (end - length ns) (both_none (task_names_fault t.names [] ns (end - length ns)) (names_from end ts (after_names t.names ns)) e).0
names_new end (t ∷ ts) ns (suc i) e = names_new end ts (after_names t.names ns) i (both_none (task_names_fault t.names [] ns (end - length ns)) (names_from end ts (after_names t.names ns)) e).1

names_count : (ts : List TaskRecord) (ns : List ℕ) (i : ℕ) → i < length ts → length (names_at ts ns i) ≡ (get_or ts i blank).names
names_count [] ns i lt = absurd (omega (arith, lt))
names_count (t ∷ ts) ns zero lt = names_length t.names ns
names_count (t ∷ ts) ns (suc i) lt = names_count ts (after_names t.names ns) i (omega (arith, lt))

all_new : (r : Records) → Accepted r → (i : ℕ) → AreNew [] (names_in (image_data_of r) i)
all_new r a i = subst (AreNew []) (sym (names_looked r.tasks r.regions r.names i)) (names_new (names_place r.header + length r.names) r.tasks r.names i (passed_steps r a.records).names)

pub all_named : (r : Records) → Accepted r → (i : ℕ) → All (λ name. is_name name ≡ true) (names_in (image_data_of r) i)
all_named r a i k d lt = new_named [] (names_in (image_data_of r) i) (all_new r a i) k d lt

has_names : (r : Records) → Accepted r → HasNames (image_data_of r)
has_names r a = record {
  few = λ i. elim (cases_lt i (length r.tasks)) [
    | inl lt ↦ omega (arith, ap length (look i), names_count r.tasks r.names i lt, (task_there r a i lt).most_names, most_32 r.header.form)
    | inr le ↦ let e = ap (λ (t : ImageTask). length t.names) (past_end r.tasks r.regions r.names i le) in omega (arith, e)
  ];
  named = λ i name c. subst (λ (n : List ℕ). is_name n ≡ true) c.2 (new_named [] (names_in (image_data_of r) i) (all_new r a i) c.0 name c.1);
  different = λ i k m lt below. new_apart [] (names_in (image_data_of r) i) (all_new r a i) k m (omega (arith, lt)) below;
}
  where
    look : (i : ℕ) → names_in (image_data_of r) i ≡ names_at r.tasks r.names i
    look i = names_looked r.tasks r.regions r.names i

-- ---- the whole

has_sizes : (r : Records) → Accepted r → HasSizes (image_data_of r)
has_sizes r a =
    let l = limits r.header a.fields in
    let tasks = tasks_length r.tasks r.regions r.names in
    record {
      some_task = omega (arith, tasks, a.tasks, l.some_task);
      most_tasks = omega (arith, tasks, a.tasks, l.tasks, tasks_512 r.header.form);
      most_lines = omega (arith, length-map r.lines line_of, a.lines, l.lines, lines_64 r.header.form);
      some_flash = omega (arith, a.flash, l.some_flash);
      most_flash = omega (arith, a.flash, l.flash);
      most_ram = l.ram;
      fault_bits = l.bits;
    }

pub facts : (r : Records) → Accepted r → Facts (image_data_of r)
facts r a = record { sizes = has_sizes r a; tasks = has_tasks r a; regions = has_regions r a; lines = has_lines r a; names = has_names r a }
