-- The i-th task of an image, its regions and its names.
use Rattle.std.proofs.Common.{◌≡◌, ◌∙◌, ◌+◌, ◌-◌, ◌<◌, ℕ, zero, suc, List, [], ◌∷◌, length, take, drop, get_or, map, arith, ap, refl, subst, sym, ◌⊎◌, inl, inr}
use Rattle.std.specs.Prelude.{Contains, option_map, slice_get}
use Rattle.std.proofs.lemmas.Option.{slice_get-map}
use Rattle.std.proofs.lemmas.List.{drop-drop}
use Rattle.std.specs.List.{sum_by}
use Rattle.std.proofs.lemmas.List.Sums.{sum_by-cons}
use Rattle.image_format.specs.declared.records.TaskRecord.{TaskRecord}
use Rattle.image_format.specs.declared.records.RegionRecord.{RegionRecord}
use Rattle.region_check.specs.declared.Region.{Region}
use Rattle.image_format.specs.Names.{after_name, after_names, names_of}
use Rattle.image_format.specs.ImageData.{no_task, region_by, region_of, task_of, tasks_of}
use Rattle.image_format.specs.Regions.{is_devices, may_drive, own_regions}
use Rattle.image_format.specs.Steps.{counted}
use Rattle.image_format.proofs.Chunks.{blank}

-- the i-th task's names
abbrev pub names_at : List TaskRecord → List ℕ → ℕ → List (List ℕ)
names_at [] ns i = []
names_at (t ∷ ts) ns zero = names_of t.names ns
names_at (t ∷ ts) ns (suc i) = names_at ts (after_names t.names ns) i

pub task_looked : (ts : List TaskRecord) (rs : List RegionRecord) (ns : List ℕ) (i : ℕ) → i < length ts
    → get_or (tasks_of ts rs ns) i no_task ≡ task_of (get_or ts i blank) (own_regions ts rs i) (names_at ts ns i)
task_looked [] rs ns i lt = absurd (omega (arith, lt))
task_looked (t ∷ ts) rs ns zero lt = refl
task_looked (t ∷ ts) rs ns (suc i) lt = task_looked ts (drop t.regions rs) (after_names t.names ns) i (omega (arith, lt))

after_both : (n m : ℕ) (ns : List ℕ) → after_names m (after_names n ns) ≡ after_names (n + m) ns
after_both zero m ns = let e : zero + m ≡ m = omega arith in ap (λ (k : ℕ). after_names k ns) (sym e)
after_both (suc n) m ns = let e : suc n + m ≡ suc (n + m) = omega arith in after_both n m (after_name ns) ∙ ap (λ (k : ℕ). after_names k ns) (sym e)

-- they follow those of the tasks before
pub names_sliced : (ts : List TaskRecord) (ns : List ℕ) (i : ℕ) → i < length ts
    → names_at ts ns i ≡ names_of (get_or ts i blank).names (after_names (sum_by (λ (t : TaskRecord). t.names) (take i ts)) ns)
names_sliced [] ns i lt = absurd (omega (arith, lt))
names_sliced (t ∷ ts) ns zero lt = refl
names_sliced (t ∷ ts) ns (suc i) lt =
    let sum = sum_by-cons (λ (t : TaskRecord). t.names) t (take i ts) in
    names_sliced ts (after_names t.names ns) i (omega (arith, lt))
    ∙ ap (names_of (get_or ts i blank).names) (after_both t.names (sum_by (λ (t : TaskRecord). t.names) (take i ts)) ns ∙ ap (λ (k : ℕ). after_names k ns) (sym sum))

pub names_looked : (ts : List TaskRecord) (rs : List RegionRecord) (ns : List ℕ) (i : ℕ) → (get_or (tasks_of ts rs ns) i no_task).names ≡ names_at ts ns i
names_looked [] rs ns i = past i
  where
    past : (i : ℕ) → (get_or [] i no_task).names ≡ []
    past zero = refl
    past (suc i) = refl
names_looked (t ∷ ts) rs ns zero = refl
names_looked (t ∷ ts) rs ns (suc i) = names_looked ts (drop t.regions rs) (after_names t.names ns) i

pub own_sliced : (ts : List TaskRecord) (rs : List RegionRecord) (i : ℕ) → i < length ts
    → own_regions ts rs i ≡ take (get_or ts i blank).regions (drop (counted (take i ts)) rs)
own_sliced [] rs i lt = absurd (omega (arith, lt))
own_sliced (t ∷ ts) rs zero lt = refl
own_sliced (t ∷ ts) rs (suc i) lt =
    let sum = sum_by-cons (λ (t : TaskRecord). t.regions) t (take i ts) in
    own_sliced ts (drop t.regions rs) i (omega (arith, lt))
    ∙ ap (take (get_or ts i blank).regions) (drop-drop (counted (take i ts)) t.regions rs ∙ ap (λ (k : ℕ). drop k rs) (sym sum))

-- an element, by where it stands
abbrev pub In : {T : Type 0} → T → List T → Type 0
In x [] = ⊥
In x (y ∷ ys) = (y ≡ x) ⊎ In x ys

pub in_list : {T : Type 0} (xs : List T) (x : T) → Contains xs x → In x xs
in_list {T} xs x c = at xs c.0 c.1 c.2
  where
    at : (ys : List T) (k : ℕ) → k < length ys → get_or ys k x ≡ x → In x ys
    at [] k lt e = absurd (omega (arith, lt))
    at (y ∷ ys) zero lt e = inl e
    at (y ∷ ys) (suc k) lt e = inr (at ys k (omega (arith, lt)) e)

pub in_map : {S T : Type 0} (f : S → T) (xs : List S) (y : T) → In y (map f xs) → (x : S) × (In x xs) × (f x ≡ y)
in_map f [] y h = absurd h
in_map f (x ∷ xs) y (inl e) = (x, inl refl, e)
in_map f (x ∷ xs) y (inr h) = let m = in_map f xs y h in (m.0, inr m.1, m.2)

pub in_take : {T : Type 0} (n : ℕ) (xs : List T) (x : T) → In x (take n xs) → In x xs
in_take zero xs x h = absurd h
in_take (suc n) [] x h = absurd h
in_take (suc n) (y ∷ ys) x (inl e) = inl e
in_take (suc n) (y ∷ ys) x (inr h) = inr (in_take n ys x h)

pub in_drop : {T : Type 0} (n : ℕ) (xs : List T) (x : T) → In x (drop n xs) → In x xs
in_drop zero xs x h = h
in_drop (suc n) [] x h = absurd h
in_drop (suc n) (y ∷ ys) x h = inr (in_drop n ys x h)

pub in_own : (ts : List TaskRecord) (rs : List RegionRecord) (i : ℕ) (r : RegionRecord) → In r (own_regions ts rs i) → In r rs
in_own [] rs i r h = absurd h
in_own (t ∷ ts) rs zero r h = in_take t.regions rs r h
in_own (t ∷ ts) rs (suc i) r h = in_drop t.regions rs r (in_own ts (drop t.regions rs) i r h)

pub regions_looked : (ts : List TaskRecord) (rs : List RegionRecord) (ns : List ℕ) (i : ℕ) → (get_or (tasks_of ts rs ns) i no_task).regions ≡ map region_of (own_regions ts rs i)
regions_looked [] rs ns i = past i
  where
    past : (i : ℕ) → (get_or [] i no_task).regions ≡ []
    past zero = refl
    past (suc i) = refl
regions_looked (t ∷ ts) rs ns zero = refl
regions_looked (t ∷ ts) rs ns (suc i) = regions_looked ts (drop t.regions rs) (after_names t.names ns) i

-- a region by its number, which counts from one
pub region_numbered : (own : List RegionRecord) (number : ℕ) → 0 < number → region_by (map region_of own) number ≡ option_map region_of (slice_get own (number - 1))
region_numbered own zero above = absurd (omega (arith, above))
region_numbered own (suc k) above =
    let same : k ≡ suc k - 1 = omega arith in
    slice_get-map region_of own k ∙ ap (λ (j : ℕ). option_map region_of (slice_get own j)) same

-- whether it may drive a line
pub drive_numbered : (own : List RegionRecord) (number : ℕ) → 0 < number → may_drive own number ≡ is_devices (slice_get own (number - 1))
drive_numbered own zero above = absurd (omega (arith, above))
drive_numbered own (suc k) above = let same : k ≡ suc k - 1 = omega arith in ap (λ (j : ℕ). is_devices (slice_get own j)) same

-- the record that a region of a task comes from
pub region_source : (ts : List TaskRecord) (rs : List RegionRecord) (ns : List ℕ) (i : ℕ) (r : Region)
    → Contains (get_or (tasks_of ts rs ns) i no_task).regions r → (q : RegionRecord) × (In q rs) × (region_of q ≡ r)
region_source ts rs ns i r c =
    let h : In r (map region_of (own_regions ts rs i)) = subst (In r) (regions_looked ts rs ns i) (in_list (get_or (tasks_of ts rs ns) i no_task).regions r c) in
    let m = in_map region_of (own_regions ts rs i) r h in
    (m.0, in_own ts rs i m.0 m.1, m.2)
