-- What the ports of a task give.
use Rattle.std.proofs.Common.{◌≡◌, ◌+◌, ◌≤◌, ◌<◌, ℕ, zero, suc, Bool, true, false, not, ◌||◌, cond, List, [], ◌∷◌, ◌++◌, length, get_or, set, None, refl, sym, ◌∙◌, ap, subst, arith, leb, below_more, length-append}
use Rattle.std.specs.Prelude.{Contains, filter}
use Rattle.std.proofs.lemmas.Bool.{leb-true, le-leb, false≢true, or_left, or_right, and_parts}
use Rattle.region_check.specs.declared.Region.{Region}
use Rattle.region_check.specs.declared.Right.{Right}
use Rattle.region_check.specs.declared.Right.TheVariants.{Read}
use Rattle.region_check.specs.Rights.{gives, has_right, may_use}
use Rattle.region_check.specs.Spans.{spans}
use Rattle.region_check.proofs.FirstBad.{find_range_none}
use Rattle.task_table.specs.model.State.{Setup, Turn}
use Rattle.task_table.specs.declared.kernel.Kernel.{Kernel}
use Rattle.task_table.specs.kept.Holds.{Holds, setup_of, task_count}
use Rattle.task_table.specs.model.Reading.{setup_at}
use Rattle.board_model.specs.Turn.{may, refusals}
use Rattle.std.proofs.lemmas.List.{set-get_or, get_or_append_left}
use Rattle.std.proofs.Math.Seq.{get_or-append_seam}
use Rattle.board_core.specs.fast.IoRegions.{AreIoRegions, AllIoRegions}
use Rattle.board_core.specs.fast.Sights.{is_port, io_regions_of, in_io_region}

given_by : (right : Right) (r : Region) (a : ℕ) → has_right r.rights right ≡ true → r.base ≤ a → a < r.base + r.size → gives right a r ≡ true
given_by right r a has low high =
    let p : leb r.base a ≡ true = le-leb _ _ low in
    let q : leb (suc a) (r.base + r.size) ≡ true = le-leb _ _ (omega (arith, high)) in
    rw (p, q, has) refl

-- what a region of a list gives
pub each_byte : (regions : List Region) (right : Right) (r : Region) (a : ℕ) → Contains regions r → has_right r.rights right ≡ true → r.base ≤ a → a < r.base + r.size → may_use regions right a ≡ true
each_byte [] right r a (i, lt, same) has low high = absurd (omega (arith, lt))
each_byte (x ∷ xs) right r a (zero, lt, same) has low high =
    let is : x ≡ r = same in
    or_left (gives right a x) (may_use xs right a) (ap (gives right a) is ∙ given_by right r a has low high)
each_byte (x ∷ xs) right r a (suc i, lt, same) has low high = or_right (gives right a x) (may_use xs right a) (each_byte xs right r a (i, omega arith, same) has low high)

-- one of them has all of the bytes
found : (io_regions : List Region) (a n : ℕ) → in_io_region io_regions a n ≡ true → (r : Region) × Contains io_regions r × (spans r a n ≡ true)
found [] a n e = absurd (false≢true e)
found (p ∷ ps) a n e = by (spans p a n) refl e (found ps a n)
  where
    by : (b : Bool) → spans p a n ≡ b → (b || in_io_region ps a n) ≡ true → (in_io_region ps a n ≡ true → (r : Region) × Contains ps r × (spans r a n ≡ true)) → (r : Region) × Contains (p ∷ ps) r × (spans r a n ≡ true)
    by true is e more = (p, (zero, omega arith, refl), is)
    by false is e more = let f = more e in (f.0, (suc f.1.0, omega (arith, f.1.1), f.1.2), f.2)

-- what one of them has may be read
pub read_there : (g : Setup) (c : ℕ) (io_regions : List Region) → ((r : Region) → Contains io_regions r → Contains (setup_at g c).regions r × (is_port r ≡ true)) → (a n : ℕ) → in_io_region io_regions a n ≡ true → refusals g c a n Read ≡ None
read_there g c io_regions are a n e =
    let f = found io_regions a n e in
    let here = are f.0 f.1 in
    let range = and_parts _ _ f.2 in
    let low = leb-true f.0.base a range.0 in
    let high = leb-true (a + n) (f.0.base + f.0.size) range.1 in
    let legible = and_parts f.0.rights.device f.0.rights.read here.1 in
    find_range_none (λ b. not (may g c Read b)) a n (λ b from below. ap not (each_byte (setup_at g c).regions Read f.0 b here.0 legible.1 (omega (arith, low, from)) (omega (arith, high, below))))

-- what passes a test is one of the list, and passes it
filtered : (test : Region → Bool) (xs : List Region) (r : Region) → Contains (filter test xs) r → Contains xs r × (test r ≡ true)
filtered test [] r (i, lt, same) = absurd (omega (arith, lt))
filtered test (x ∷ xs) r here = by (test x) refl here (filtered test xs r)
  where
    later : Contains xs r × (test r ≡ true) → Contains (x ∷ xs) r × (test r ≡ true)
    later h = ((suc h.0.0, omega (arith, h.0.1), h.0.2), h.1)

    by : (b : Bool) → test x ≡ b → Contains (cond b (x ∷ filter test xs) (filter test xs)) r → (Contains (filter test xs) r → Contains xs r × (test r ≡ true)) → Contains (x ∷ xs) r × (test r ≡ true)
    by true e (zero, lt, same) more = ((zero, omega arith, same), let is : x ≡ r = same in ap test (sym is) ∙ e)
    by true e (suc i, lt, same) more = later (more (i, omega (arith, lt), same))
    by false e h more = later (more h)

pub own_ports : (g : Setup) (c : ℕ) (r : Region) → Contains (io_regions_of g c) r → Contains (setup_at g c).regions r × (is_port r ≡ true)
own_ports g c r here = filtered is_port (setup_at g c).regions r here

-- ## as a board keeps them

pub none_first : (g : Setup) (lists : List (List Region)) → lists ≡ [] → AreIoRegions g 0 lists
none_first g lists e = record { count = ap length e; each = λ c lt. absurd (omega (arith, lt)) }

pub one_further : (g : Setup) (n : ℕ) (lists : List (List Region)) (v : List Region) → AreIoRegions g n lists → v ≡ io_regions_of g n → AreIoRegions g (n + 1) (lists ++ v ∷ [])
one_further g n lists v h e = record {
  count = length-append lists (v ∷ []) ∙ ap (λ (k : ℕ). k + 1) h.count;
  each = below_more _ n
      (λ c lt. get_or_append_left lists (v ∷ []) [] c (let all = h.count in omega (arith, lt, all)) ∙ h.each c lt)
      (subst (λ (k : ℕ). get_or (lists ++ v ∷ []) k [] ≡ io_regions_of g n) h.count (get_or-append_seam lists v [] [] ∙ e));
}

-- with one of a list put again in its place
pub same_again : {A : Type 0} (xs : List A) (i : ℕ) (y d : A) → y ≡ get_or xs i d → set xs i y ≡ xs
same_again xs i y d e = ap (λ (x : _). set xs i x) e ∙ set-get_or xs i d

-- those of a kernel are those of the setup that it has
pub all_ports : (g : Setup) (k : Kernel) (t : Turn) (lists : List (List Region)) → Holds g k t → AreIoRegions (setup_of k) (task_count k) lists → AllIoRegions g lists
all_ports g k t lists h io_regions =
    let count : task_count k ≡ length g.tasks = h.count ∙ sym h.many in
    subst (λ (n : ℕ). AreIoRegions g n lists) count (subst (λ (x : Setup). AreIoRegions x (task_count k) lists) h.setup io_regions)
