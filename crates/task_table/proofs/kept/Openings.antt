-- What a window of four regions changes of the kernel, and what it leaves.
use Rattle.std.proofs.Common.{◌≡◌, ◌<◌, ◌⊎◌, inl, inr, ℕ, zero, suc, List, [], ◌∷◌, Contains, Bool, true, false, length, Option, Some, refl, ◌∙◌, ap, subst, sym, arith}
use Rattle.std.proofs.lemmas.Bool.{false≢true}
use Rattle.std.proofs.lemmas.List.{nil_from_length}
use Rattle.std.proofs.Math.Logic.{∥∥₁_elim}
use Rattle.mem_banks.specs.Memory.{Memory, with_bytes, IsWithinRam}
use Rattle.mem_banks.specs.Windows.{Doing, AreGiven, IsGivenOrNone, IsOpened, IsInMemory, IsInRam, bytes_of}
use Rattle.mem_banks.proofs.Copies.{with_bytes_none}
use Rattle.mem_banks.proofs.Windows.{same_ram_length}
use Rattle.task_table.specs.model.State.{Setup, Turn, TaskSetup}
use Rattle.task_table.specs.model.Reading.{setup_at, setup_in, task_at, call_of, listen_of}
use Rattle.task_table.specs.kept.Holds.{Shows, Kept}
use Rattle.region_check.specs.declared.Region.{Region}
use Rattle.task_table.specs.kept.Openable.{AreOpenable, AreUsable, IsUsable, IsUsableOrNone, span_of}
use Rattle.task_table.specs.kept.Window.{overlaid, overlaid_all}
use Rattle.task_table.specs.kept.Entries.{AreFresh, kept_at, meets}
use Rattle.task_table.specs.declared.entry.KeptEntry.{KeptEntry}
use Rattle.task_table.proofs.kept.KeptEntries.{fresh_stored}
use Rattle.task_table.proofs.kept.Steps.{kept_same, setup_stored}

-- memory that has these bytes from an address on
pub holds_overlaid : (g : Setup) (k : Kept) (t : Turn) (a : ℕ) (bytes : List ℕ) (setup : Setup) (memory : Memory) → Shows g k t → setup ≡ k.setup → memory ≡ with_bytes k.memory a bytes → Shows g record k { setup = setup; memory = memory } (overlaid a bytes t)
unfolding task_at call_of listen_of
holds_overlaid g k t a bytes setup memory h same e = record {
  setup = same ∙ h.setup;
  count = h.count;
  many = h.many;
  notes = h.notes;
  now = h.now;
  lines = h.lines;
  current = h.current;
  next_call = h.next_call;
  tasks = λ j below d. kept_same t.state _ j _ refl refl refl (h.tasks j below d);
  memory = e ∙ ap (λ m. with_bytes m a bytes) h.memory;
}

-- those of the three regions
pub holds_all : (g : Setup) (k : Kept) (t : Turn) (ram area second : Region) (ys zs ws : List ℕ) (setup : Setup) (memory : Memory) → Shows g k t → setup ≡ k.setup → memory ≡ with_bytes (with_bytes (with_bytes k.memory ram.base ys) area.base zs) second.base ws → Shows g record k { setup = setup; memory = memory } (overlaid_all ram ys area zs second ws t)
holds_all g k t ram area second ys zs ws setup memory h same e =
    let one : Memory = with_bytes k.memory ram.base ys in
    let two : Memory = with_bytes one area.base zs in
    let first = holds_overlaid g k t ram.base ys k.setup one h refl refl in
    let then = holds_overlaid g record k { memory = one } (overlaid ram.base ys t) area.base zs k.setup two first refl refl in
    holds_overlaid g record k { memory = two } (overlaid area.base zs (overlaid ram.base ys t)) second.base ws setup memory then same e

-- the same window of the same memory
abbrev pub loan_of : {B : Type 0} (did : Doing B) (m n : Memory) (flash ram area second : ℕ × ℕ) (b b' : B) (m' : Memory) → n ≡ m → IsOpened did n flash ram area second b b' m' → IsOpened did m flash ram area second b b' m'
loan_of did m n flash ram area second b b' m' e l = record {
  flash_there = subst (λ x. IsInMemory x flash) e l.flash_there;
  ram_there = subst (λ x. IsInRam x ram) e l.ram_there;
  area_there = subst (λ x. IsInRam x area) e l.area_there;
  second_there = subst (λ x. IsInRam x second) e l.second_there;
  apart = l.apart;
  area_apart = l.area_apart;
  second_apart = l.second_apart;
  after = l.after;
  area_after = l.area_after;
  second_after = l.second_after;
  work = subst (λ x. did b (bytes_of x flash) (bytes_of x ram) (bytes_of x area) (bytes_of x second) b' l.after l.area_after l.second_after) e l.work;
  size = l.size;
  area_size = l.area_size;
  second_size = l.second_size;
  left = subst (λ x. m' ≡ with_bytes (with_bytes (with_bytes x ram.0 l.after) area.0 l.area_after) second.0 l.second_after) e l.left;
}

-- regions of the RAM are written over, one after the other
abbrev pub AreOverlaid : List (ℕ × ℕ) → Memory → Memory → Type 0
AreOverlaid [] m m' = m' ≡ m
AreOverlaid (r ∷ rs) m m' = (bytes : List ℕ) × (length bytes ≡ r.1) × IsWithinRam m r.0 (length bytes) × AreOverlaid rs (with_bytes m r.0 bytes) m'

-- or nothing is
abbrev pub Overlaid : List (ℕ × ℕ) → Memory → Memory → Type 0
Overlaid rs m m' = (m' ≡ m) ⊎ AreOverlaid rs m m'

overlaid_by : {B : Type 0} (did : Doing B) (m : Memory) (flash ram area second : ℕ × ℕ) (b b' : B) (m' : Memory) → IsOpened did m flash ram area second b b' m' → AreOverlaid (ram ∷ area ∷ second ∷ []) m m'
overlaid_by did m flash ram area second b b' m' l =
    let one : Memory = with_bytes m ram.0 l.after in
    let there : IsInRam m (ram.0, length l.after) = rw l.size l.ram_there in
    let same = same_ram_length m ram.0 l.after there in
    let beside : IsInRam one (area.0, length l.area_after) = (l.area_there.0, omega (arith, l.area_there.1, l.area_size, same)) in
    let still = same_ram_length one area.0 l.area_after beside in
    (l.after, l.size, inr there, (l.area_after, l.area_size, inr beside, (l.second_after, l.second_size, inr (l.second_there.0, omega (arith, l.second_there.1, l.second_size, same, still)), l.left)))

pub lent_or_not : {B : Type 0} (did : Doing B) (r : Bool) (m : Memory) (flash ram area second : ℕ × ℕ) (b b' : B) (m' : Memory) → (r ≡ true → IsOpened did m flash ram area second b b' m') → (r ≡ false → m' ≡ m) → Overlaid (ram ∷ area ∷ second ∷ []) m m'
lent_or_not did true m flash ram area second b b' m' lent kept = inr (overlaid_by did m flash ram area second b b' m' (lent refl))
lent_or_not did false m flash ram area second b b' m' lent kept = inl (kept refl)

-- the setup that the kernel keeps does not change
setup_over : (f : List ℕ → ℕ → Setup) (rs : List (ℕ × ℕ)) (m m' : Memory) → AreOverlaid rs m m' → f m'.flash (length m'.ram) ≡ f m.flash (length m.ram)
setup_over f [] m m' e = rw e refl
setup_over f (r ∷ rs) m m' o = setup_over f rs (with_bytes m r.0 o.0) m' o.3 ∙ setup_stored f m (with_bytes m r.0 o.0) r.0 o.0 o.2 refl

pub setup_lent : (f : List ℕ → ℕ → Setup) (rs : List (ℕ × ℕ)) (m m' : Memory) → Overlaid rs m m' → f m'.flash (length m'.ram) ≡ f m.flash (length m.ram)
setup_lent f rs m m' (inl e) = rw e refl
setup_lent f rs m m' (inr o) = setup_over f rs m m' o

-- no entry has one of the bytes of regions
abbrev pub AreClear : List (Option KeptEntry) → List (ℕ × ℕ) → Type 0
AreClear entries [] = Unit {0}
AreClear entries (r ∷ rs) = (0 < r.1 → (i : ℕ) (x : KeptEntry) → kept_at entries i ≡ Some x → meets x r.0 r.1 ≡ false) × AreClear entries rs

-- entries that have none of the bytes are what memory has
fresh_one : (m : Memory) (low span : ℕ) (entries : List (Option KeptEntry)) (a n : ℕ) (bytes : List ℕ) → AreFresh m low span entries → (0 < n → (i : ℕ) (x : KeptEntry) → kept_at entries i ≡ Some x → meets x a n ≡ false) → IsWithinRam m a (length bytes) → length bytes ≡ n → AreFresh (with_bytes m a bytes) low span entries
fresh_one m low span entries a zero bytes h apart within size = subst (λ (x : Memory). AreFresh x low span entries) (with_bytes_none m a bytes (nil_from_length bytes size)) h
fresh_one m low span entries a (suc n) bytes h apart within size = fresh_stored m low span entries a (suc n) bytes h (apart (omega arith)) within (omega (arith, size))

fresh_over : (rs : List (ℕ × ℕ)) (m m' : Memory) (low span : ℕ) (entries : List (Option KeptEntry)) → AreFresh m low span entries → AreClear entries rs → AreOverlaid rs m m' → AreFresh m' low span entries
fresh_over [] m m' low span entries h clear e = rw e h
fresh_over (r ∷ rs) m m' low span entries h clear o = fresh_over rs (with_bytes m r.0 o.0) m' low span entries (fresh_one m low span entries r.0 r.1 o.0 h clear.0 o.2 o.1) clear.1 o.3

pub fresh_lent : (rs : List (ℕ × ℕ)) (m m' : Memory) (low span : ℕ) (entries : List (Option KeptEntry)) → AreFresh m low span entries → AreClear entries rs → Overlaid rs m m' → AreFresh m' low span entries
fresh_lent rs m m' low span entries h clear (inl e) = rw e h
fresh_lent rs m m' low span entries h clear (inr o) = fresh_over rs m m' low span entries h clear o

-- ## regions of a task are regions that were given
task_there : (tasks : List TaskSetup) (i : ℕ) (r : Region) → Contains (setup_in tasks i).regions r → Contains tasks (setup_in tasks i)
task_there [] i r h = absurd (omega (arith, h.1))
task_there (x ∷ xs) zero r h = (0, omega arith, refl)
task_there (x ∷ xs) (suc i) r h = let c = task_there xs i r h in (suc c.0, omega (arith, c.1), c.2)

given_span : (s : Setup) (regions : List (ℕ × ℕ)) (task : ℕ) (r : Region) → AreOpenable regions s.tasks → IsUsable (setup_at s task).regions r → Contains regions (span_of r)
given_span s regions task r openable u = openable (setup_at s task) r (task_there s.tasks task r u.here) u.here u.no_device

given_or_none : (s : Setup) (regions : List (ℕ × ℕ)) (task : ℕ) (r : Region) → AreOpenable regions s.tasks → IsUsableOrNone (setup_at s task).regions r → IsGivenOrNone regions (span_of r)
given_or_none s regions task r openable (inl none) = inl none
given_or_none s regions task r openable (inr u) = inr (given_span s regions task r openable u.0, u.0.some, u.1)

pub usable_given : (s : Setup) (regions : List (ℕ × ℕ)) (task : ℕ) (flash ram area second : Region) → AreOpenable regions s.tasks → AreUsable (setup_at s task).regions flash ram area second → AreGiven regions (span_of flash) (span_of ram) (span_of area) (span_of second)
usable_given s regions task flash ram area second openable u = record {
  flash_given = given_span s regions task flash openable u.flash_usable;
  flash_some = u.flash_usable.some;
  below = u.below;
  ram_given = given_or_none s regions task ram openable u.ram_usable;
  area_given = given_or_none s regions task area openable u.area_usable;
  second_given = given_or_none s regions task second openable u.second_usable;
  other = u.other;
  second_other = u.second_other;
}

-- the regions stay, whatever is written
pub lendable_same : (old new : List (ℕ × ℕ)) (tasks : List TaskSetup) → new ≡ old → ∥ AreOpenable old tasks ∥₁ → ∥ AreOpenable new tasks ∥₁
lendable_same old new tasks e h = subst (λ x. ∥ AreOpenable x tasks ∥₁) (sym e) h

-- an answer that follows from a fact follows from its truncation
pub answered : {A : Type 0} (r : Bool) → ∥ A ∥₁ → (A → r ≡ true) → r ≡ true
answered true fact lends = refl
answered false fact lends = absurd (∥∥₁_elim {P = ⊥} fact (hlevel) (λ a. false≢true (lends a)))
