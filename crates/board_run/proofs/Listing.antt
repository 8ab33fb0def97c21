-- What a function gives over a range of numbers, as a list; and the regions of RAM as such a list.
use Rattle.std.proofs.Common.{◌≡◌, ℕ, zero, suc, ◌+◌, ◌-◌, ◌*◌, ◌/◌, ◌%◌, ◌<◌, ◌≤◌, inl, inr, true, ◌==◌, List, [], ◌∷◌, ◌++◌, get_or, Option, Some, None, refl, sym, ap, subst, ◌∙◌, arith, append-nil, eq-eqb}
use Rattle.std.specs.Prelude.{Contains, AllPairs, flat_map, option_to_list, find}
use Rattle.std.specs.List.{range_with_len}
use Rattle.std.specs.Option.{option_map_or}
use Rattle.std.proofs.lemmas.Bool.{false≢true}
use Rattle.std.proofs.lemmas.Bool.Decides.{eqb_tells}
use Rattle.std.proofs.lemmas.List.Concat.{flat_map-append}
use Rattle.std.proofs.lemmas.List.Elements.{Contains-get_or, Contains-append_left, Contains-append_right, Contains-append_cases}
use Rattle.region_check.specs.declared.Region.{Region}
use Rattle.mem_banks.specs.Memory.{Memory}
use Rattle.task_table.specs.model.State.{Setup, TaskSetup, State}
use Rattle.task_table.specs.model.Reading.{setup_in}
use Rattle.image_format.specs.ImageData.{ImageData, regions_in}
use Rattle.region_check.specs.Rights.{SameOrApart}
use Rattle.image_format.specs.Facts.{Facts}
use Rattle.board_core.specs.Opened.{setup_of_image}
use Rattle.board_core.proofs.Opens.{setup_is}
use Rattle.task_table.proofs.model.Keeps.{found_in, not_found}
use Rattle.board_run.specs.MemoryText.{begins_at, regions_of, region_at, region_text, places_text, memory_text}
use Rattle.board_run.specs.Regions.{BeginsInRam, HasRamRegions, ListsRam}

-- ## what a function gives over a range

-- what f gives at n numbers from k on
listed : {X : Type 0} → (ℕ → Option X) → ℕ → ℕ → List X
listed f k n = flat_map (λ i. option_to_list (f i)) (range_with_len k n)

one_told : {X Y : Type 0} (tell : X → List Y) (o : Option X) → option_map_or tell o [] ≡ flat_map tell (option_to_list o)
one_told tell None = refl
one_told tell (Some x) = sym (append-nil (tell x))

each_told : {X Y : Type 0} (tell : X → List Y) (f : ℕ → Option X) (k n : ℕ) → flat_map (λ i. option_map_or tell (f i) []) (range_with_len k n) ≡ flat_map tell (listed f k n)
unfolding listed
each_told tell f k zero = refl
each_told tell f k (suc n) =
    (λ j. one_told tell (f k) j ++ each_told tell f (k + 1) n j) ∙ sym (flat_map-append tell (option_to_list (f k)) (listed f (k + 1) n))

only_one : {X : Type 0} (o : Option X) (x : X) → Contains (option_to_list o) x → o ≡ Some x
only_one None x h = absurd (omega (arith, h.1))
only_one (Some y) x (zero, lt, same) = let e : y ≡ x = same in ap Some e
only_one (Some y) x (suc i, lt, same) = absurd (omega arith)

is_one : {X : Type 0} (o : Option X) (x : X) → o ≡ Some x → Contains (option_to_list o) x
is_one None x e = absurd (cc)
is_one (Some y) x e = let same : y ≡ x = cc in (zero, omega arith, same)

-- what is listed is given at a number of the range
given_at : {X : Type 0} (f : ℕ → Option X) (k n : ℕ) (x : X) → Contains (listed f k n) x → (i : ℕ) × (k ≤ i) × (i < k + n) × (f i ≡ Some x)
unfolding listed
given_at f k zero x h = absurd (omega (arith, h.1))
given_at f k (suc n) x h = elim (Contains-append_cases (option_to_list (f k)) (listed f (k + 1) n) x h) [
  | inl a ↦ (k, omega arith, omega arith, only_one (f k) x a)
  | inr b ↦ let r = given_at f (k + 1) n x b in (r.0, omega (arith, r.1), omega (arith, r.2), r.3)
]

-- and what is given is listed
listed_from : {X : Type 0} (f : ℕ → Option X) (k n j i : ℕ) (x : X) → j < n → i ≡ k + j → f i ≡ Some x → Contains (listed f k n) x
unfolding listed
listed_from f k zero j i x lt e given = absurd (omega arith)
listed_from f k (suc n) zero i x lt e given =
    let here : k ≡ i = omega arith in
    Contains-append_left (option_to_list (f k)) (listed f (k + 1) n) x (is_one (f k) x (ap f here ∙ given))
listed_from f k (suc n) (suc j) i x lt e given =
    Contains-append_right (option_to_list (f k)) (listed f (k + 1) n) x (listed_from f (k + 1) n j i x (omega arith) (omega arith) given)

module _ {X : Type 0} (R : X → X → Type 0) where
  pairs_cons : (x : X) (xs : List X) → ((y : X) → Contains xs y → R x y) → AllPairs R xs → AllPairs R (x ∷ xs)
  pairs_cons x xs head tail i zero d lt within = absurd (omega arith)
  pairs_cons x xs head tail zero (suc j) d lt within = head (get_or xs j d) (Contains-get_or xs j d (omega arith))
  pairs_cons x xs head tail (suc i) (suc j) d lt within = tail i j d (omega arith) (omega arith)

  pairs_front : (o : Option X) (xs : List X) → ((x y : X) → o ≡ Some x → Contains xs y → R x y) → AllPairs R xs → AllPairs R (option_to_list o ++ xs)
  pairs_front None xs head tail = tail
  pairs_front (Some x) xs head tail = pairs_cons x xs (λ y. head x y refl) tail

  -- what is given at a number comes before what is given at a later one
  in_order : (f : ℕ → Option X) → ((i j : ℕ) (x y : X) → i < j → f i ≡ Some x → f j ≡ Some y → R x y) → (k n : ℕ) → AllPairs R (listed f k n)
  unfolding listed
  in_order f ordered k zero = λ i j d lt within. absurd (omega arith)
  in_order f ordered k (suc n) =
      pairs_front (f k) (listed f (k + 1) n) (λ x y here later. let r = given_at f (k + 1) n y later in ordered k r.0 x y (omega (arith, r.1)) here r.3) (in_order f ordered (k + 1) n)

-- ## the regions of RAM

-- the region at the i-th place in RAM
region_of : Setup → ℕ → Option Region
region_of g i = region_at g (0x20000000 + 256 * i)

-- the regions at n places from the first on
pub ram_regions : Setup → ℕ → List Region
ram_regions g n = listed (region_of g) 0 n

tells_same : (a b : ℕ) → a == b ≡ true → a ≡ b
tells_same a b h = elim (eqb_tells a b) [ inl e ↦ e.1 | inr e ↦ absurd (false≢true (sym e.0 ∙ h)) ]

-- it is a region of a task and begins there
found_region : (g : Setup) (i : ℕ) (r : Region) → region_of g i ≡ Some r → Contains (regions_of g) r × (r.base ≡ 0x20000000 + 256 * i)
unfolding region_of region_at
found_region g i r e =
    let f = found_in (begins_at (0x20000000 + 256 * i)) (regions_of g) r e in
    (f.0, tells_same r.base (0x20000000 + 256 * i) f.1)

-- where a region of a task begins there, one is found
some_region : (g : Setup) (i : ℕ) (r : Region) → Contains (regions_of g) r → r.base ≡ 0x20000000 + 256 * i → (q : Region) × (region_of g i ≡ Some q)
unfolding region_of region_at
some_region g i r has e = go (find (begins_at (0x20000000 + 256 * i)) (regions_of g)) refl
  where
    go : (o : Option Region) → find (begins_at (0x20000000 + 256 * i)) (regions_of g) ≡ o → (q : Region) × (find (begins_at (0x20000000 + 256 * i)) (regions_of g) ≡ Some q)
    go None none = absurd (not_found (begins_at (0x20000000 + 256 * i)) (regions_of g) r none has (eq-eqb r.base (0x20000000 + 256 * i) e))
    go (Some q) found = (q, found)

-- the place at which a region of RAM begins
place_of : (r : Region) → BeginsInRam r → r.base % 256 ≡ 0 → (i : ℕ) × (i < 1024) × (r.base ≡ 0x20000000 + 256 * i)
place_of r inside multiple = let low = inside.0 in let high = inside.1 in (r.base / 256 - 0x200000, omega arith, omega arith)

later_base : (g : Setup) (i j : ℕ) (r q : Region) → i < j → region_of g i ≡ Some r → region_of g j ≡ Some q → r.base < q.base
later_base g i j r q lt a b = omega (arith, (found_region g i r a).1, (found_region g j q b).1)

pub lists_ram : (g : Setup) (n : ℕ) → n ≡ 1024 → HasRamRegions g → ListsRam g (ram_regions g n)
unfolding ram_regions
lists_ram g n is h = record {
  ascending = in_order (λ r q. r.base < q.base) (region_of g) (later_base g) 0 n;
  of_tasks = λ r has.
      let a = given_at (region_of g) 0 n r has in
      let f = found_region g a.0 r a.3 in
      (f.0, (omega (arith, f.1), omega (arith, f.1, a.2)));
  all = λ r has inside.
      let p = place_of r inside (h.placed r has inside) in
      let s = some_region g p.0 r has p.2 in
      let f = found_region g p.0 s.0 s.1 in
      let same : r.base ≡ s.0.base = p.2 ∙ sym f.1 in
      (s.0, listed_from (region_of g) 0 n p.0 p.0 s.0 (omega (arith, p.1)) (omega arith) s.1, sym same, sym (h.sized r s.0 has f.0 inside same));
}

places_told : (g : Setup) (m : Memory) (n : ℕ) → places_text g m n ≡ flat_map (region_text m) (ram_regions g n)
unfolding places_text ram_regions region_of
places_told g m n = each_told (region_text m) (region_of g) 0 n

pub memory_told : (g : Setup) (n : ℕ) → n ≡ 1024 → (s : State) → memory_text g s ≡ flat_map (region_text s.memory) (ram_regions g n)
unfolding memory_text
memory_told g n is s = ap (places_text g s.memory) (sym is) ∙ places_told g s.memory n

-- ## the regions of an image

-- a region of a setup is one of a task's
pub region_of_task : (tasks : List TaskSetup) (r : Region) → Contains (flat_map (λ t. t.regions) tasks) r → (i : ℕ) × Contains (setup_in tasks i).regions r
region_of_task [] r c = absurd (omega (arith, c.1))
region_of_task (t ∷ ts) r c = elim (Contains-append_cases t.regions (flat_map (λ u. u.regions) ts) r c) [ inl here ↦ (zero, here) | inr later ↦ let next = region_of_task ts r later in (suc next.0, next.1) ]

of_image : (p : ImageData) (r : Region) → Contains (regions_of (setup_of_image p)) r → (i : ℕ) × Contains (regions_in p i) r
of_image p r has =
    let own = region_of_task (setup_of_image p).tasks r has in
    (own.0, subst (λ (t : TaskSetup). Contains t.regions r) (setup_is p own.0) own.1)

-- regions of some size that begin alike are as long, where they are the same or apart
as_long : (r q : Region) → 256 ≤ r.size → 256 ≤ q.size → r.base ≡ q.base → SameOrApart r q → r.size ≡ q.size
as_long r q some also same (inl alike) = alike.1
as_long r q some also same (inr (inl before)) = absurd (omega (arith, some, same, before))
as_long r q some also same (inr (inr behind)) = absurd (omega (arith, also, same, behind))

pub of_images : (p : ImageData) → Facts p → HasRamRegions (setup_of_image p)
of_images p f = record {
  placed = λ r has inside. let own = of_image p r has in f.regions.aligned own.0 r own.1;
  sized = λ r q has also inside same.
      let a = of_image p r has in
      let b = of_image p q also in
      as_long r q (f.regions.sizes a.0 r a.1) (f.regions.sizes b.0 q b.1) same (f.regions.apart a.0 b.0 r q a.1 b.1);
}
