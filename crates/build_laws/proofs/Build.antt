-- A build refuses nothing in the sample.
use Rattle.std.proofs.Common.{◌≡◌, ℕ, ◌≤◌, ◌<◌, [], length, refl, ap, ◌∙◌, sym, arith, subst, true, Option, Some, None, nat_eq}
use Rattle.std.proofs.lemmas.Bool.{agree_below_at, eqb-true}
use Rattle.std.proofs.lemmas.List.FromFn.{get_or-map-range_with_len}
use Rattle.text_lines.specs.Text.{lines_of}
use Rattle.thumb_asm.specs.Causes.{first_cause}
use Rattle.thumb_asm.specs.Passes.{size_from}
use Rattle.asm_laws.proofs.Sized.{image_sized}
use Rattle.image_build.specs.Built.{given, source_at}
use Rattle.image_build.specs.Layout.{flash_base, flash_needed, ram_needed, task_at, no_task}
use Rattle.image_build.specs.Building.{Refuses, IsTooLong, source_cause}
use Rattle.image_build.specs.declared.fault.BuildFault.{BuildFault}
use Rattle.image_build.specs.declared.fault.BuildFault.TheVariants as fault
use Rattle.build_laws.proofs.Cards.{at_256}
use Rattle.sample_gen.specs.Sample.{app_by, task_by, source_of, sample_sources}
use Rattle.build_laws.proofs.Symbols.{bases}
use Rattle.build_laws.proofs.Each.{each_fine}

base_is : (p : ℕ → ℕ) (i : ℕ) → i < 32 → flash_base (app_by p) i ≡ at_256 i
base_is p i h = eqb-true _ _ (agree_below_at (λ j. nat_eq (flash_base (app_by p) j) (at_256 j)) (λ j. true) 32 i (bases p) h)

pub flash_full : (p : ℕ → ℕ) → flash_needed (app_by p) ≡ 8192
flash_full p = refl

pub ram_full : (p : ℕ → ℕ) → ram_needed (app_by p) ≡ 8192
ram_full p = refl

pub count : (p : ℕ → ℕ) → length (app_by p).tasks ≡ 32
count p = refl

source_is : (seed i : ℕ) → i < 32 → source_at (sample_sources seed) i ≡ source_of seed i
source_is seed i h = get_or-map-range_with_len (source_of seed) 0 32 i i [] h (omega arith)

task_is : (p : ℕ → ℕ) (i : ℕ) → i < 32 → task_at (app_by p) i ≡ task_by p i
task_is p i h = get_or-map-range_with_len (task_by p) 0 32 i i no_task h (omega arith)

flash_is : (p : ℕ → ℕ) (i : ℕ) → i < 32 → (task_at (app_by p) i).flash ≡ 256
flash_is p i h = ap (λ t. t.flash) (task_is p i h)

no_room : (n m : ℕ) → m ≡ n → n < m → ⊥
no_room n m e h = omega arith

some_none : {A : Type 0} (x : A) (o : Option A) → o ≡ None → o ≡ Some x → ⊥
some_none x None e h = cc
some_none x (Some y) e h = cc

pub no_source_cause : (seed : ℕ) (p : ℕ → ℕ) (i : ℕ) → i < 32 → source_cause (app_by p) i (source_at (sample_sources seed) i) ≡ None
no_source_cause seed p i h =
    ap (λ text. source_cause (app_by p) i text) (source_is seed i h)
    ∙ ap (λ base. first_cause (lines_of (source_of seed i)) base (given (app_by p) i)) (base_is p i h)
    ∙ (each_fine seed p i h).accepted

pub short : (seed : ℕ) (p : ℕ → ℕ) (i : ℕ) → i < 32 → size_from (flash_base (app_by p) i) (lines_of (source_at (sample_sources seed) i)) ≤ 256
short seed p i h =
    subst (λ text. size_from (flash_base (app_by p) i) (lines_of text) ≤ 256) (sym (source_is seed i h))
    (subst (λ base. size_from base (lines_of (source_of seed i)) ≤ 256) (sym (base_is p i h)) (each_fine seed p i h).short)

too_long : (l s f : ℕ) → l ≡ s → s ≤ 256 → f ≡ 256 → f < l → ⊥
too_long l s f e h g k = omega arith

not_long : (seed : ℕ) (p : ℕ → ℕ) (i n : ℕ) → i < 32 → IsTooLong (app_by p) i (source_at (sample_sources seed) i) n → ⊥
not_long seed p i n h l =
    too_long (length l.code) _ (task_at (app_by p) i).flash (image_sized (lines_of (source_at (sample_sources seed) i)) (flash_base (app_by p) i) (given (app_by p) i) l.code l.labels l.assembled) (short seed p i h) (flash_is p i h) l.above

below : (p : ℕ → ℕ) (i : ℕ) → i < length (app_by p).tasks → i < 32
below p i h = subst (λ n. i < n) (count p) h

pub not_refused : (seed : ℕ) (p : ℕ → ℕ) (f : BuildFault) → Refuses (app_by p) (sample_sources seed) f → f ≡ fault.Memory
not_refused seed p (fault.Flash needed) h = absurd (no_room 8192 (flash_needed (app_by p)) (flash_full p) h.0)
not_refused seed p (fault.Ram needed) h = absurd (no_room 8192 (ram_needed (app_by p)) (ram_full p) h.1)
not_refused seed p (fault.Source task cause line) (room, (i, within, earlier, (same, c, is, number))) =
    absurd (some_none (c, line) _ (no_source_cause seed p i (below p i within)) is)
not_refused seed p (fault.Code task bytes) (room, (i, within, earlier, (same, long))) =
    absurd (not_long seed p i bytes (below p i within) long)
not_refused seed p fault.Memory h = refl
