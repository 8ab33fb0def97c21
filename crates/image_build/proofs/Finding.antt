-- Names that are found, and lists that grow.
use Rattle.std.proofs.Common.{◌≡◌, ◌∙◌, ℕ, suc, true, false, ◌+◌, ◌-◌, ◌≤◌, ◌<◌, List, [], ◌∷◌, ◌++◌, append_assoc, codes, drop, drop-cons, length, get_or, map, length-append, Global, String, string_bytes, refl, sym, ap, subst, arith, inl, inr}
use Rattle.std.specs.List.{flat_map, range_with_len}
use Rattle.std.specs.Str.{bytes_eq}
use Rattle.std.proofs.lemmas.Bool.{cases_Bool}
use Rattle.std.proofs.lemmas.List.{append-nil, get_or-map, length-map, map-append}
use Rattle.app_toml.specs.Accepted.{IsAccepted, IsTask}
use Rattle.app_toml.specs.Apps.{AppData, InterruptData, TaskData}
use Rattle.app_toml.specs.Crossed.{areas_of, has_task, is_among, notifications_of}
use Rattle.app_toml.specs.Places.{Text}
use Rattle.app_toml.specs.Sites.{interrupt_of, region_of, task_of}
use Rattle.app_toml.specs.declared.parts.LineSpec.{LineSpec}
use Rattle.app_toml.specs.declared.parts.RegionSpec.{RegionSpec}
use Rattle.app_toml.specs.declared.parts.TaskSpec.{TaskSpec}
use Rattle.image_format.specs.ImageData.{ImageLine, bit, line_record, task_record}
use Rattle.image_format.specs.declared.records.LineRecord.{LineRecord}
use Rattle.image_format.specs.declared.records.TaskRecord.{TaskRecord}
use Rattle.thumb_asm.specs.Meaning.{Names}
use Rattle.image_build.specs.Building.{IsOwned}
use Rattle.image_build.specs.Built.{task_built}
use Rattle.image_build.specs.Layout.{flash_base, index_from, index_of, named, no_task, ram_base, region_base, task_at, task_regions}
use Rattle.image_build.specs.Symbols.{region_symbols}
use Rattle.image_build.proofs.Known.{few_notes, few_regions, owned}

-- ---- a name among names

pub among_below : (k : ℕ) (name : Text) (names : List Text) → is_among name names ≡ true → index_from k name names < k + length names
among_below k name [] e = cc
among_below k name (n ∷ ns) e = elim (cases_Bool (bytes_eq n name)) [
  | inl hit ↦ rw hit (omega arith)
  | inr miss ↦ let rest : is_among name ns ≡ true = rw miss at e in rw miss (omega (arith, among_below (k + 1) name ns rest))
]

pub place_most : (k : ℕ) (name : Text) (names : List Text) → index_from k name names ≤ k + length names
place_most k name [] = omega arith
place_most k name (n ∷ ns) = elim (cases_Bool (bytes_eq n name)) [
  | inl hit ↦ rw hit (omega arith)
  | inr miss ↦ rw miss (omega (arith, place_most (k + 1) name ns))
]

pub task_below : (k : ℕ) (name : Text) (ts : List TaskData) → has_task name ts ≡ true → index_from k name (map (λ t. t.name) ts) < k + length ts
task_below k name [] e = cc
task_below k name (t ∷ ts) e = elim (cases_Bool (bytes_eq t.name name)) [
  | inl hit ↦ rw hit (omega arith)
  | inr miss ↦ let rest : has_task name ts ≡ true = rw miss at e in rw miss (omega (arith, task_below (k + 1) name ts rest))
]

-- ---- a name in two lists, the second behind the first

place_first : (k : ℕ) (name : Text) (xs ys : List Text) → index_from k name xs < k + length xs → index_from k name xs ≡ index_from k name (xs ++ ys)
place_first k name [] ys lt = absurd (omega (arith, lt))
place_first k name (x ∷ xs) ys lt = elim (cases_Bool (bytes_eq x name)) [
  | inl hit ↦ rw hit refl
  | inr miss ↦
      let rest : index_from (k + 1) name xs < k + suc (length xs) = rw miss at lt in
      rw miss (place_first (k + 1) name xs ys (omega (arith, rest)))
]

place_behind : (k : ℕ) (name : Text) (xs ys : List Text) → k + length xs ≤ index_from k name xs → index_from (k + length xs) name ys ≡ index_from k name (xs ++ ys)
place_behind k name [] ys le = let same : k + 0 ≡ k = omega arith in rw same refl
place_behind k name (x ∷ xs) ys le = elim (cases_Bool (bytes_eq x name)) [
  | inl hit ↦ let here : k + suc (length xs) ≤ k = rw hit at le in absurd (omega (arith, here))
  | inr miss ↦
      let rest : k + suc (length xs) ≤ index_from (k + 1) name xs = rw miss at le in
      let same : k + suc (length xs) ≡ (k + 1) + length xs = omega arith in
      rw miss (ap (λ (n : ℕ). index_from n name ys) same ∙ place_behind (k + 1) name xs ys (omega (arith, rest)))
]

place_later : (m k : ℕ) (name : Text) (names : List Text) → index_from (m + k) name names ≡ m + index_from k name names
place_later m k name [] = refl
place_later m k name (n ∷ ns) = elim (cases_Bool (bytes_eq n name)) [
  | inl hit ↦ rw hit refl
  | inr miss ↦ let same : (m + k) + 1 ≡ m + (k + 1) = omega arith in
      rw miss (ap (λ (i : ℕ). index_from i name ns) same ∙ place_later m (k + 1) name ns)
]

pub in_first : (name : Text) (xs ys : List Text) → index_of name xs < length xs → index_of name xs ≡ index_of name (xs ++ ys)
in_first name xs ys lt = place_first 0 name xs ys (omega (arith, lt))

pub in_second : (name : Text) (xs ys : List Text) → length xs ≤ index_of name xs → index_of name xs + index_of name ys ≡ index_of name (xs ++ ys)
in_second name xs ys le =
    let past : index_of name xs ≡ length xs = omega (arith, le, place_most 0 name xs) in
    let from : length xs + 0 ≡ 0 + length xs = omega arith in
    ap (λ (n : ℕ). n + index_of name ys) past ∙ sym (place_later (length xs) 0 name ys)
    ∙ ap (λ (n : ℕ). index_from n name ys) from ∙ place_behind 0 name xs ys (omega (arith, le))

-- ---- how many

few_of : (name : Text) (ts : List TaskData) → ((i : ℕ) → i < length ts → length (get_or ts i no_task).notifications ≤ 32) → length (notifications_of name ts) ≤ 32
few_of name [] each = omega arith
few_of name (t ∷ ts) each = elim (cases_Bool (bytes_eq t.name name)) [
  | inl hit ↦ rw hit (each 0 (omega arith))
  | inr miss ↦ rw miss (few_of name ts (λ i lt. each (suc i) (omega (arith, lt))))
]

pub owner_notes : (app : AppData) → IsAccepted app → (name : Text) → length (notifications_of name app.tasks) ≤ 32
owner_notes app a name = few_of name app.tasks (few_notes app a)

few_areas : (name : Text) (ts : List TaskData) → ((i : ℕ) → i < length ts → length (get_or ts i no_task).uses + length (get_or ts i no_task).reads ≤ 6)
    → length (areas_of name ts) ≤ 6
few_areas name [] each = omega arith
few_areas name (t ∷ ts) each = elim (cases_Bool (bytes_eq t.name name)) [
  | inl hit ↦ rw hit (omega (arith, length-append t.uses t.reads, each 0 (omega arith)))
  | inr miss ↦ rw miss (few_areas name ts (λ i lt. each (suc i) (omega (arith, lt))))
]

pub owner_areas : (app : AppData) → IsAccepted app → (name : Text) → length (areas_of name app.tasks) ≤ 6
owner_areas app a name = few_areas name app.tasks (few_regions app a)

-- ---- of the code's lists

pub same_count : {A : Type 0} → {B : Type 0} → (f : A → B) (xs : List A) (ys : List B) → map f xs ≡ ys → length xs ≡ length ys
same_count f xs ys e = sym (length-map xs f) ∙ ap length e

-- what a task uses and what it reads
pub few_in_two : (app : AppData) → IsAccepted app → (name : Text) (ts : List TaskData) (uses reads : List (String Global)) → ts ≡ app.tasks
    → map string_bytes uses ++ map string_bytes reads ≡ areas_of name ts → length uses + length reads ≤ 6
few_in_two app a name ts uses reads same is = omega (
  arith,
  length-map uses string_bytes,
  length-map reads string_bytes,
  length-append (map string_bytes uses) (map string_bytes reads),
  ap length (is ∙ ap (areas_of name) same),
  owner_areas app a name,
)

pub owned_in : (app : AppData) (xs : List LineSpec) → IsAccepted app → map interrupt_of xs ≡ app.interrupts
    → (k : ℕ) (d : LineSpec) → k < length xs → IsOwned app (interrupt_of (get_or xs k d))
owned_in app xs a m k d lt =
    let look : get_or app.interrupts k (interrupt_of d) ≡ interrupt_of (get_or xs k d) =
    ap (λ (ys : List InterruptData). get_or ys k (interrupt_of d)) (sym m) ∙ get_or-map interrupt_of xs k d (interrupt_of d) lt in
    subst (IsOwned app) look (owned app a k (interrupt_of d) (omega (arith, lt, same_count interrupt_of xs app.interrupts m)))

pub few_notes_in : (app : AppData) (xs : List TaskSpec) → IsAccepted app → map task_of xs ≡ app.tasks
    → (k : ℕ) (d : TaskSpec) → k < length xs → length (get_or xs k d).notifications.items ≤ 32
few_notes_in app xs a m k d lt =
    let below : k < length app.tasks = omega (arith, lt, same_count task_of xs app.tasks m) in
    let look : get_or app.tasks k no_task ≡ task_of (get_or xs k d) =
    ap (λ (ys : List TaskData). get_or ys k no_task) (sym m) ∙ get_or-map task_of xs k d no_task lt in
    let same : length (task_at app k).notifications ≡ length (get_or xs k d).notifications.items =
    ap (λ (t : TaskData). length t.notifications) look ∙ length-map (get_or xs k d).notifications.items string_bytes in
    omega (arith, same, few_notes app a k below)

pub few_regions_in : (app : AppData) (xs : List TaskSpec) → IsAccepted app → map task_of xs ≡ app.tasks
    → (k : ℕ) (d : TaskSpec) → k < length xs → length (get_or xs k d).uses.items + length (get_or xs k d).reads.items ≤ 6
few_regions_in app xs a m k d lt =
    let below : k < length app.tasks = omega (arith, lt, same_count task_of xs app.tasks m) in
    let look : get_or app.tasks k no_task ≡ task_of (get_or xs k d) =
    ap (λ (ys : List TaskData). get_or ys k no_task) (sym m) ∙ get_or-map task_of xs k d no_task lt in
    let uses : length (task_at app k).uses ≡ length (get_or xs k d).uses.items =
    ap (λ (t : TaskData). length t.uses) look ∙ length-map (get_or xs k d).uses.items string_bytes in
    let reads : length (task_at app k).reads ≡ length (get_or xs k d).reads.items =
    ap (λ (t : TaskData). length t.reads) look ∙ length-map (get_or xs k d).reads.items string_bytes in
    omega (arith, uses, reads, few_regions app a k below)

pub task_in : (app : AppData) (xs : List TaskSpec) → map task_of xs ≡ app.tasks → (k : ℕ) (d : TaskSpec) → k < length xs → task_of (get_or xs k d) ≡ task_at app k
task_in app xs m k d lt = sym (ap (λ (ys : List TaskData). get_or ys k no_task) (sym m) ∙ get_or-map task_of xs k d no_task lt)

pub is_task_in : (app : AppData) (xs : List TaskSpec) → IsAccepted app → map task_of xs ≡ app.tasks → (k : ℕ) (d : TaskSpec) → k < length xs → IsTask (task_of (get_or xs k d))
is_task_in app xs a m k d lt =
    subst IsTask (sym (task_in app xs m k d lt)) (a.tasks k no_task (omega (arith, lt, same_count task_of xs app.tasks m)))

-- what is known of the k-th task
pub record Known (app : AppData) (k : ℕ) (t : TaskSpec) : Type 0 where
  pub task : task_of t ≡ task_at app k
  pub notes : length t.notifications.items ≤ 32
  pub regions : length t.uses.items + length t.reads.items ≤ 6
  pub form : IsTask (task_of t)

pub known_task : (app : AppData) (xs : List TaskSpec) → IsAccepted app → map task_of xs ≡ app.tasks → (k : ℕ) (t : TaskSpec) → k < length app.tasks → t ≡ get_or xs k t → Known app k t
known_task app xs a m k t lt is =
    let below : k < length xs = omega (arith, lt, same_count task_of xs app.tasks m) in
    subst (Known app k) (sym is) (record {
      task = task_in app xs m k t below;
      notes = few_notes_in app xs a m k t below;
      regions = few_regions_in app xs a m k t below;
      form = is_task_in app xs a m k t below;
    })

-- ---- lists that grow

pub three_more : (a b c d : Names) (x y z : List ℕ × ℕ) → b ≡ a ++ x ∷ [] → c ≡ b ++ y ∷ [] → d ≡ c ++ z ∷ [] → d ≡ a ++ (x ∷ y ∷ z ∷ [])
three_more a b c d x y z e f g =
    g ∙ ap (λ (ns : Names). ns ++ z ∷ []) (f ∙ ap (λ (ns : Names). ns ++ y ∷ []) e)
    ∙ append_assoc (a ++ x ∷ []) (y ∷ []) (z ∷ []) ∙ append_assoc a (x ∷ []) (y ∷ z ∷ [])

pub ram_three : (a b c d : Names) (base r size top : ℕ) → r ≡ size → b ≡ a ++ (codes "ram", base) ∷ [] → c ≡ b ++ (codes "ram_size", r) ∷ []
    → d ≡ c ++ (codes "stack_top", top) ∷ [] → d ≡ a ++ ((codes "ram", base) ∷ (codes "ram_size", size) ∷ (codes "stack_top", top) ∷ [])
ram_three a b c d base r size top is e f g =
    three_more a b c d (codes "ram", base) (codes "ram_size", r) (codes "stack_top", top) e f g
    ∙ ap (λ (v : ℕ). a ++ ((codes "ram", base) ∷ (codes "ram_size", v) ∷ (codes "stack_top", top) ∷ [])) is

pub region_more : (app : AppData) (names more all : Names) (rs : List RegionSpec) (k v : ℕ) (item : RegionSpec) → k < length rs → item ≡ get_or rs k item
    → v ≡ region_base app k → more ≡ names ++ (codes "region_" ++ string_bytes item.name, v) ∷ []
    → names ++ region_symbols app k (map region_of (drop k rs)) ≡ all → more ++ region_symbols app (k + 1) (map region_of (drop (k + 1) rs)) ≡ all
region_more app names more all rs k v item lt at_k at is before =
    let name = codes "region_" ++ string_bytes item.name in
    let rest : Names = region_symbols app (k + 1) (map region_of (drop (k + 1) rs)) in
    let next : suc k ≡ k + 1 = omega arith in
    let split : drop k rs ≡ item ∷ drop (k + 1) rs =
    drop-cons rs k item lt ∙ ap (λ (x : RegionSpec). x ∷ drop (suc k) rs) (sym at_k) ∙ ap (λ (n : ℕ). item ∷ drop n rs) next in
    let here : names ++ ((name, region_base app k) ∷ rest) ≡ all =
    subst (λ (xs : List RegionSpec). names ++ region_symbols app k (map region_of xs) ≡ all) split before in
    ap (λ (ns : Names). ns ++ rest) (is ∙ ap (λ (n : ℕ). names ++ (name, n) ∷ []) at) ∙ append_assoc names ((name, region_base app k) ∷ []) rest ∙ here

pub lines_more : (at : ℕ → List ImageLine) (out more all : List LineRecord) (line : ℕ) → line < 64 → more ≡ out ++ map line_record (at line)
    → out ++ map line_record (flat_map at (range_with_len line (64 - line))) ≡ all
    → more ++ map line_record (flat_map at (range_with_len (line + 1) (64 - (line + 1)))) ≡ all
lines_more at out more all line lt is before =
    let m = 64 - (line + 1) in
    let rest : List ImageLine = flat_map at (range_with_len (line + 1) m) in
    let e : 64 - line ≡ suc m = omega (arith, lt) in
    let here : out ++ map line_record (at line ++ rest) ≡ all =
    subst (λ (n : ℕ). out ++ map line_record (flat_map at (range_with_len line n)) ≡ all) e before in
    ap (λ (o : List LineRecord). o ++ map line_record rest) is ∙ append_assoc out (map line_record (at line)) (map line_record rest)
    ∙ ap (λ (x : List LineRecord). out ++ x) (sym (map-append line_record (at line) rest)) ∙ here

pub lines_end : (at : ℕ → List ImageLine) (out all : List LineRecord) (line : ℕ) → 64 ≤ line
    → out ++ map line_record (flat_map at (range_with_len line (64 - line))) ≡ all → out ≡ all
lines_end at out all line le before =
    let e : 64 - line ≡ 0 = omega (arith, le) in
    sym (append-nil out) ∙ subst (λ (n : ℕ). out ++ map line_record (flat_map at (range_with_len line n)) ≡ all) e before

-- ---- a task's record

pub region_count : (app : AppData) (i : ℕ) (t : TaskSpec) → length (task_regions app i (task_of t)) ≡ 2 + length t.uses.items + length t.reads.items
region_count app i t =
    let uses = map string_bytes t.uses.items in
    let reads = map string_bytes t.reads.items in
    omega (
      arith,
      length-append (map (named app true) uses) (map (named app false) reads),
      length-map uses (named app true),
      length-map reads (named app false),
      length-map t.uses.items string_bytes,
      length-map t.reads.items string_bytes,
    )

same_fields : (p f g r s n m e h a b : ℕ) → f ≡ g → r ≡ s → n ≡ m → e ≡ h → a ≡ b
    → ◌≡◌ {A = TaskRecord} (record { priority = p; flags = f; regions = r; names = n; entry = e; sp = a }) (record { priority = p; flags = g; regions = s; names = m; entry = h; sp = b })
same_fields p f g r s n m e h a b i j o k l = rw (i, j, o, k, l) refl

pub same_record : (app : AppData) (i : ℕ) (t : TaskSpec) (flags regions names entry sp : ℕ) → task_of t ≡ task_at app i → flags ≡ bit t.start 1
    → regions ≡ 2 + length t.uses.items + length t.reads.items → names ≡ length t.notifications.items → entry ≡ flash_base app i + 1 → sp ≡ ram_base app i + t.stack
    → ◌≡◌ {A = TaskRecord} (record { priority = t.priority; flags = flags; regions = regions; names = names; entry = entry; sp = sp }) (task_record (task_built app i (task_at app i)))
same_record app i t flags regions names entry sp is f r n e s =
    subst (λ (d : TaskData). ◌≡◌ {A = TaskRecord} (record { priority = t.priority; flags = flags; regions = regions; names = names; entry = entry; sp = sp }) (task_record (task_built app i d))) is
    (same_fields t.priority flags _ regions _ names _ entry _ sp _ f (r ∙ sym (region_count app i t)) (n ∙ sym (length-map t.notifications.items string_bytes)) e s)
