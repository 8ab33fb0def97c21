-- The setup of a sound image is sound.
use Rattle.std.proofs.Common.{◌≡◌, ◌+◌, ◌<◌, ◌≤◌, inl, inr, ℕ, zero, suc, Bool, true, false, List, [], ◌∷◌, ◌++◌, length, map, take, replicate, get_or, refl, sym, subst, ◌∙◌, ap, arith, eqb}
use Rattle.std.specs.Prelude.{Contains}
use Rattle.std.proofs.lemmas.Bool.{eqb-true, eqb-false, false≢true}
use Rattle.std.proofs.lemmas.List.Elements.{Contains-append_cases, Contains-append_left, Contains-push, Contains-push_cases}
use Rattle.std.proofs.lemmas.List.{length-map, length-replicate, take_more, take_all}
use Rattle.region_check.specs.declared.Region.{Region}
use Rattle.image_format.specs.ImageData.{ImageData, ImageTask, ImageLine, no_task, no_line, task_in, regions_in}
use Rattle.image_format.specs.Facts.{Facts}
use Rattle.task_table.specs.kept.Limits.{most_tasks, board_lines}
use Rattle.mem_banks.specs.Memory.{Memory, AreAllBytes, AreRegions}
use Rattle.task_table.specs.model.State.{Setup, TaskSetup, LineSetup}
use Rattle.task_table.specs.model.Reading.{setup_at}
use Rattle.task_table.specs.model.Start.{start}
use Rattle.task_table.specs.kept.Parts.{IsSound, setup_of_parts, task_setup, line_setup}
use Rattle.task_table.specs.declared.start.TaskStart.{TaskStart}
use Rattle.task_table.specs.declared.start.LineStart.{LineStart}
use Rattle.task_table.specs.kept.Openable.{AreOpenable}
use Rattle.board_core.specs.Regions.{ArePlaces, HavePlaces}
use Rattle.board_core.specs.Opened.{setup_of_image, setup_of_task, setup_of_line}

-- the setup that the parts spell is the image's
pub parts_are : (p : ImageData) (m : Memory) (bits : ℕ) (ts : List TaskStart) (ls : List LineStart) → m ≡ record { flash = p.flash; ram = replicate p.ram 0 } → bits ≡ p.fault_bits →
    map task_setup ts ≡ map setup_of_task p.tasks → map line_setup ls ≡ map (setup_of_line p) p.lines → setup_of_parts m bits ts ls ≡ setup_of_image p
parts_are p m bits ts ls memory faults tasks lines =
    let of : Memory → ℕ → List TaskSetup → List LineSetup → Setup = λ m b t l. record { tasks = t; lines = l; fault_bits = b; flash = m.flash; ram = length m.ram; line_count = board_lines } in
    let zeros : Memory = record { flash = p.flash; ram = replicate p.ram 0 } in
    ap (λ (x : Memory). of x bits (map task_setup ts) (map line_setup ls)) memory
    ∙ ap (λ (x : ℕ). of zeros x (map task_setup ts) (map line_setup ls)) faults
    ∙ ap (λ (x : List TaskSetup). of zeros p.fault_bits x (map line_setup ls)) tasks
    ∙ ap (λ (x : List LineSetup). of zeros p.fault_bits (map setup_of_task p.tasks) x) lines
    ∙ ap (λ (x : ℕ). record { tasks = map setup_of_task p.tasks; lines = map (setup_of_line p) p.lines; fault_bits = p.fault_bits; flash = p.flash; ram = x; line_count = board_lines }) (length-replicate p.ram 0)

-- a task of the setup is that of the image
map_at : (f : ImageTask → TaskSetup) (xs : List ImageTask) (i : ℕ) (d : ImageTask) → get_or (map f xs) i (f d) ≡ f (get_or xs i d)
map_at f [] i d = refl
map_at f (x ∷ xs) zero d = refl
map_at f (x ∷ xs) (suc i) d = map_at f xs i d

pub setup_is : (p : ImageData) (i : ℕ) → setup_at (setup_of_image p) i ≡ setup_of_task (task_in p i)
setup_is p i = map_at setup_of_task p.tasks i no_task

-- each line of the setup has an owner
owned : (p : ImageData) (xs : List ImageLine) (n : ℕ) → ((k : ℕ) → k < length xs → (get_or xs k no_line).task < n) → (o : LineSetup) → Contains (map (setup_of_line p) xs) o → o.owner < n
owned p [] n all o h = absurd (omega (arith, h.1))
owned p (x ∷ xs) n all o (zero, lt, same) =
    let e : setup_of_line p x ≡ o = same in
    let first = all zero (omega arith) in
    let is : x.task ≡ o.owner = ap (λ (l : LineSetup). l.owner) e in
    omega arith
owned p (x ∷ xs) n all o (suc i, lt, same) = owned p xs n (λ k below. all (suc k) (omega arith)) o (i, omega arith, same)

regions_here : (p : ImageData) (i : ℕ) (r : Region) → Contains (setup_at (setup_of_image p) i).regions r → Contains (regions_in p i) r
regions_here p i r h = rw (setup_is p i) at h

same_pair : (x y : ℕ × ℕ) → x.0 ≡ y.0 → x.1 ≡ y.1 → x ≡ y
same_pair x y a b = λ j. (a j, b j)

only_one : (a x : ℕ × ℕ) → Contains (a ∷ []) x → a ≡ x
only_one a x (zero, lt, same) = same
only_one a x (suc i, lt, same) = absurd (omega (arith, lt))

-- as many lines are started as the image has
pub few_lines : (p : ImageData) (ls : List LineStart) → Facts p → map line_setup ls ≡ map (setup_of_line p) p.lines → length ls ≤ board_lines
few_lines p ls f e =
    let same : length ls ≡ length p.lines = sym (length-map ls line_setup) ∙ ap length e ∙ length-map p.lines (setup_of_line p) in
    let most = f.sizes.most_lines in
    omega arith

-- as many tasks are started as the image has
pub few_tasks : (p : ImageData) (ts : List TaskStart) → Facts p → map task_setup ts ≡ map setup_of_task p.tasks → length ts ≤ most_tasks
few_tasks p ts f e =
    let same : length ts ≡ length p.tasks = sym (length-map ts task_setup) ∙ ap length e ∙ length-map p.tasks setup_of_task in
    let most = f.sizes.most_tasks in
    omega arith

-- the places of regions that are no device are regions of the memory
pub places_are : (p : ImageData) (xs : List (ℕ × ℕ)) → Facts p → ArePlaces p xs → AreRegions (length p.flash) p.ram xs
places_are p xs f all = record {
  some = λ x here. let a = all x here in let size = a.size in let much = f.regions.sizes a.task a.region a.has in omega arith;
  inside = λ x here. let a = all x here in let base = a.base in let size = a.size in elim (f.regions.within a.task a.region a.has a.no_device) [
    | inl flash ↦ inr (let low = flash.0 in omega arith, let high = flash.1 in omega arith)
    | inr ram ↦ inl (let low = ram.0 in omega arith, let high = ram.1 in omega arith)
  ];
  apart = λ x y here there.
      let a = all x here in
      let b = all y there in
      let start = a.base in
      let size = a.size in
      let other_start = b.base in
      let other_size = b.size in
      elim (f.regions.apart a.task b.task a.region b.region a.has b.has) [
        | inl same ↦ inl (same_pair x y (start ∙ same.0 ∙ sym other_start) (size ∙ same.1 ∙ sym other_size))
        | inr apart ↦ inr (elim apart [ inl low ↦ inl (omega arith) | inr high ↦ inr (omega arith) ])
      ];
}

-- a place more
pub places_more : (p : ImageData) (xs : List (ℕ × ℕ)) (i : ℕ) (r : Region) → ArePlaces p xs → Contains (regions_in p i) r → r.rights.device ≡ false → ArePlaces p (xs ++ (r.base, r.size) ∷ [])
places_more p xs i r all has none = λ x here. elim (Contains-append_cases xs ((r.base, r.size) ∷ []) x here) [
  | inl old ↦ all x old
  | inr new ↦ let e : (r.base, r.size) ≡ x = only_one _ x new in record { task = i; region = r; has = has; no_device = none; base = ap (λ (y : ℕ × ℕ). y.0) (sym e); size = ap (λ (y : ℕ × ℕ). y.1) (sym e) }
]

-- a place more, of the k-th region of a task
pub places_step : (p : ImageData) (xs ys : List (ℕ × ℕ)) (i k : ℕ) (rs : List Region) (r : Region) → ArePlaces p xs → rs ≡ regions_in p i → k < length rs → r ≡ get_or rs k r → r.rights.device ≡ false → ys ≡ xs ++ (r.base, r.size) ∷ [] → ArePlaces p ys
places_step p xs ys i k rs r all own lt at none same =
    let has : Contains (regions_in p i) r = subst (λ (zs : List Region). Contains zs r) own (k, lt, sym at) in
    subst (ArePlaces p) (sym same) (places_more p xs i r all has none)

-- the first k regions of a task have their places, where they are no device
abbrev pub HaveFirst : List Region → ℕ → List (ℕ × ℕ) → Type 0
HaveFirst rs k xs = (r : Region) → Contains (take k rs) r → r.rights.device ≡ false → Contains xs (r.base, r.size)

pub none_first : (rs : List Region) (xs : List (ℕ × ℕ)) → HaveFirst rs 0 xs
none_first rs xs r here none = absurd (omega (arith, here.1))

-- one region more, which is a device or whose place is there
first_more : (rs : List Region) (k : ℕ) (xs ys : List (ℕ × ℕ)) (r : Region) → HaveFirst rs k xs → k < length rs → r ≡ get_or rs k r → ((x : ℕ × ℕ) → Contains xs x → Contains ys x) → (r.rights.device ≡ false → Contains ys (r.base, r.size)) → HaveFirst rs (k + 1) ys
first_more rs k xs ys r first lt at kept there y here none =
    let e : take (k + 1) rs ≡ take k rs ++ r ∷ [] = take_more rs k r lt ∙ ap (λ (z : Region). take k rs ++ z ∷ []) (sym at) in
    elim (Contains-push_cases (take k rs) r y (subst (λ (zs : List Region). Contains zs y) e here)) [
      | inl old ↦ kept (y.base, y.size) (first y old none)
      | inr new ↦ subst (λ (z : Region). Contains ys (z.base, z.size)) new (there (ap (λ (z : Region). z.rights.device) new ∙ none))
    ]

-- a place more
pub pushed_more : (rs : List Region) (k : ℕ) (xs ys : List (ℕ × ℕ)) (r : Region) → HaveFirst rs k xs → k < length rs → r ≡ get_or rs k r → ys ≡ xs ++ (r.base, r.size) ∷ [] → HaveFirst rs (k + 1) ys
pushed_more rs k xs ys r first lt at same =
    first_more rs k xs ys r first lt at (λ x here. subst (λ (zs : List (ℕ × ℕ)). Contains zs x) (sym same) (Contains-append_left xs ((r.base, r.size) ∷ []) x here))
    (λ none. subst (λ (zs : List (ℕ × ℕ)). Contains zs (r.base, r.size)) (sym same) (Contains-push xs (r.base, r.size)))

pub device_more : (rs : List Region) (k : ℕ) (xs : List (ℕ × ℕ)) (r : Region) → HaveFirst rs k xs → k < length rs → r ≡ get_or rs k r → r.rights.device ≡ true → HaveFirst rs (k + 1) xs
device_more rs k xs r first lt at device = first_more rs k xs xs r first lt at (λ x here. here) (λ none. absurd (false≢true (sym none ∙ device)))

-- what was there before a place was added is there still
pub places_kept : (p : ImageData) (n : ℕ) (xs ys : List (ℕ × ℕ)) (x : ℕ × ℕ) → HavePlaces p n xs → ys ≡ xs ++ x ∷ [] → HavePlaces p n ys
places_kept p n xs ys x have same i r lt here none = subst (λ (zs : List (ℕ × ℕ)). Contains zs (r.base, r.size)) (sym same) (Contains-append_left xs (x ∷ []) (r.base, r.size) (have i r lt here none))

-- those of a task more
pub places_further : (p : ImageData) (n : ℕ) (rs : List Region) (xs : List (ℕ × ℕ)) → HavePlaces p n xs → rs ≡ regions_in p n → HaveFirst rs (length rs) xs → HavePlaces p (n + 1) xs
places_further p n rs xs have own first i r lt here none = by (eqb i n) refl
  where
    by : (b : Bool) → eqb i n ≡ b → Contains xs (r.base, r.size)
    by true e =
        let same : i ≡ n = eqb-true i n e in
        let there : Contains rs r = subst (λ (zs : List Region). Contains zs r) (sym own) (subst (λ (j : ℕ). Contains (regions_in p j) r) same here) in
        first r (subst (λ (zs : List Region). Contains zs r) (sym (take_all (length rs) rs (omega arith))) there) none
    by false e = have i r (omega (arith, lt, eqb-false i n e)) here none

-- a task of the setup is one of the image
task_there : (xs : List ImageTask) (t : TaskSetup) → Contains (map setup_of_task xs) t → (i : ℕ) × (i < length xs) × (setup_of_task (get_or xs i no_task) ≡ t)
task_there [] t h = absurd (omega (arith, h.1))
task_there (x ∷ xs) t (zero, lt, same) = (zero, omega arith, same)
task_there (x ∷ xs) t (suc i, lt, same) = let rest = task_there xs t (i, omega arith, same) in (suc rest.0, omega (arith, rest.1), rest.2)

-- the regions of the tasks that are no device were given to the memory
pub openable : (p : ImageData) (xs : List (ℕ × ℕ)) (ts : List TaskStart) → HavePlaces p (length p.tasks) xs → map task_setup ts ≡ map setup_of_task p.tasks → AreOpenable xs (map task_setup ts)
openable p xs ts have same task r has here none =
    let there = task_there p.tasks task (subst (λ (zs : List TaskSetup). Contains zs task) same has) in
    have there.0 r there.1 (subst (λ (x : TaskSetup). Contains x.regions r) (sym there.2) here) none

pub sound_setup : (p : ImageData) → Facts p → AreAllBytes p.flash → IsSound (setup_of_image p)
unfolding start
sound_setup p f bytes =
    let zeros : List ℕ = replicate p.ram 0 in
    let ram : length zeros ≡ p.ram = length-replicate p.ram 0 in
    let count : length (map setup_of_task p.tasks) ≡ length p.tasks = length-map p.tasks setup_of_task in
    let ram_small = f.sizes.most_ram in
    let some = f.sizes.some_task in
    record {
      some = omega arith;
      placed = record {
        within = λ i r here none. elim (f.regions.within i r (regions_here p i r here) none) [
          | inl flash ↦ inr flash
          | inr inside ↦ inl (inr (inside.0, rw ram inside.1))
        ];
        writable = λ i r here none write. let inside = f.regions.writable i r (regions_here p i r here) none write in inr (inside.0, rw ram inside.1);
        flash = f.sizes.most_flash;
        devices = λ i r here device. (f.regions.devices i r (regions_here p i r here) device).0;
        below = rw ram (omega (arith, ram_small));
        owners = λ o here. rw count (owned p p.lines (length p.tasks) (λ k below. f.lines.owners k below) o here);
        stack = λ i. rw (setup_is p i) (f.tasks.stacks i);
      };
      flash_bytes = bytes;
    }
