-- The next source's code is put into the flash: the programs before it stand as they did, and what follows them is zero.
use Rattle.std.proofs.Common.{◌≡◌, ◌∙◌, ℕ, suc, ◌+◌, ◌-◌, ◌*◌, ◌≤◌, ◌<◌, ◌⊎◌, List, [], ◌∷◌, ◌++◌, length, get_or, length-append, nat_le, refl, sym, ap, subst, arith, inl, inr}
use Rattle.std.proofs.lemmas.Bool.{cases_Bool, cases_lt, leb-true}
use Rattle.std.proofs.lemmas.List.{get_or_append_left, get_or_past, get_or_push}
use Rattle.app_toml.specs.Apps.{AppData}
use Rattle.mem_plan.specs.Sizes.{doubled, rounded}
use Rattle.text_lines.specs.Text.{lines_of}
use Rattle.thumb_asm.specs.Assembly.{Assembles}
use Rattle.thumb_asm.specs.Meaning.{Env}
use Rattle.image_build.specs.Building.{Holds, IsLaid, IsAcceptedSource}
use Rattle.image_build.specs.Built.{HasProgram, flash_byte, given, source_at}
use Rattle.image_build.specs.Layout.{flash_base, flash_sizes, task_at}
use Rattle.image_build.specs.declared.layout.Layout.{Layout}
use Rattle.image_build.proofs.Planning.{flash_count, flash_size}

-- ---- a size is no larger when it is rounded

step : (k p s : ℕ) → s ≤ doubled k (2 * p) s → s ≤ doubled (suc k) p s
step k p s rest = elim (cases_Bool (nat_le s p)) [
  | inl fits ↦ rw fits (leb-true s p fits)
  | inr more ↦ rw more rest
]

pub rounded_up : (s : ℕ) → s ≤ 1048576 → s ≤ rounded s
rounded_up s most =
    step 11 256 s (step 10 512 s (step 9 1024 s (step 8 2048 s (step 7 4096 s (step 6 8192 s
    (step 5 16384 s (step 4 32768 s (step 3 65536 s (step 2 131072 s (step 1 262144 s (step 0 524288 s most)))))))))))

-- ---- the last source, and those before

source_before : (sources : List (List ℕ)) (source : List ℕ) (i : ℕ) → i < length sources → source_at sources i ≡ source_at (sources ++ source ∷ []) i
source_before sources source i lt = sym (get_or_append_left sources (source ∷ []) [] i lt)

source_last : (sources : List (List ℕ)) (source : List ℕ) (i : ℕ) → length sources ≡ i → source ≡ source_at (sources ++ source ∷ []) i
source_last sources source i is = sym (get_or_push sources source [] i is)

-- ---- one more

-- another task's bytes lie beside the code
beside : (app : AppData) (layout : Layout) (i n k at size : ℕ) → IsLaid app layout → i < length app.tasks → n < length app.tasks → (i ≡ n → ⊥)
    → k < rounded (task_at app i).flash → at ≡ flash_base app n - 0x08000000 → size ≤ rounded (task_at app n).flash
    → (flash_base app i - 0x08000000 + k < at) ⊎ (at + size ≤ flash_base app i - 0x08000000 + k)
beside app layout i n k at size l li ln other below is fits = elim (cases_lt (flash_base app i - 0x08000000 + k) at) [
  | inl low ↦ inl low
  | inr high ↦ elim (cases_lt (flash_base app i - 0x08000000 + k) (at + size)) [
    | inl inside ↦ absurd (l.flash.apart i n mi mn other
        (omega (arith, inside, high, is, fits, below, l.flash.low i mi, l.flash.low n mn, flash_size app n ln))
        (omega (arith, inside, high, is, fits, below, l.flash.low i mi, l.flash.low n mn, flash_size app i li)))
    | inr after ↦ inr after
  ]
]
  where
    mi : i < length (flash_sizes app)
    mi = omega (arith, li, flash_count app)

    mn : n < length (flash_sizes app)
    mn = omega (arith, ln, flash_count app)

-- the code of a source is put into the flash, at the n-th task's place
pub record Puts (app : AppData) (sources : List (List ℕ)) (n base : ℕ) (source code old flash : List ℕ) (labels : Env) : Type 0 where
  pub holds : Holds app sources old
  pub left : n < length app.tasks
  pub assembled : Assembles (lines_of source) (flash_base app n) (given app n) code labels
  pub fits : length code ≤ (task_at app n).flash
  pub most : (task_at app n).flash ≤ 1048576
  pub same : length flash ≡ length old
  pub stands : (k : ℕ) → k < length code → get_or flash (base - 0x08000000 + k) 0 ≡ get_or code k 0
  pub kept : (k : ℕ) → (k < base - 0x08000000) ⊎ (base - 0x08000000 + length code ≤ k) → get_or flash k 0 ≡ get_or old k 0

-- and that task is the next
abbrev PutsNext : AppData → List (List ℕ) → List ℕ → List ℕ → List ℕ → List ℕ → Env → Type 0
PutsNext app sources source code old flash labels = Puts app sources (length sources) (flash_base app (length sources)) source code old flash labels

-- the bytes of another task are kept
others : (app : AppData) (layout : Layout) (sources : List (List ℕ)) (source code old flash : List ℕ) (labels : Env) → IsLaid app layout
    → PutsNext app sources source code old flash labels → (i k : ℕ) → i < length app.tasks → (i ≡ length sources → ⊥) → k < rounded (task_at app i).flash
    → flash_byte app i flash k ≡ flash_byte app i old k
others app layout sources source code old flash labels l p i k li other below =
    let n = length sources in
    p.kept _ (beside app layout i n k _ (length code) l li p.left other below refl (omega (arith, p.fits, rounded_up (task_at app n).flash p.most)))

-- those before stand as they did
earlier : (app : AppData) (layout : Layout) (sources : List (List ℕ)) (source code old flash : List ℕ) (labels : Env) → IsLaid app layout
    → PutsNext app sources source code old flash labels → (i : ℕ) → i < length sources → HasProgram app i (source_at (sources ++ source ∷ []) i) flash
earlier app layout sources source code old flash labels l p i lt =
    let h = p.holds.programs i lt in
    subst (λ (s : List ℕ). HasProgram app i s flash) (source_before sources source i lt) (record {
      code = h.code;
      labels = h.labels;
      assembled = h.assembled;
      fits = h.fits;
      stands = λ k below. others app layout sources source code old flash labels l p i k (omega (arith, lt, p.left)) (λ same. absurd (omega (arith, same, lt))) below
          ∙ h.stands k below;
    })

-- what has been zero follows the code
behind : (app : AppData) (sources : List (List ℕ)) (source code old flash : List ℕ) (labels : Env) → PutsNext app sources source code old flash labels
    → (k : ℕ) → k < rounded (task_at app (length sources)).flash → flash_byte app (length sources) flash k ≡ get_or code k 0
behind app sources source code old flash labels p k below = elim (cases_lt k (length code)) [
  | inl inside ↦ p.stands k inside
  | inr after ↦ p.kept _ (inr (omega (arith, after))) ∙ p.holds.zeros (length sources) k (omega arith) p.left below
      ∙ sym (get_or_past code k 0 after)
]

-- and its own stands
own : (app : AppData) (sources : List (List ℕ)) (source code old flash : List ℕ) (labels : Env) → PutsNext app sources source code old flash labels
    → HasProgram app (length sources) source flash
own app sources source code old flash labels p = record {
  code = code;
  labels = labels;
  assembled = p.assembled;
  fits = p.fits;
  stands = behind app sources source code old flash labels p;
}

own_accepted : (app : AppData) (sources : List (List ℕ)) (source code old flash : List ℕ) (labels : Env) → PutsNext app sources source code old flash labels
    → IsAcceptedSource app (length sources) source
own_accepted app sources source code old flash labels p = record {
  code = code;
  labels = labels;
  assembled = p.assembled;
  fits = p.fits;
}

count_more : (sources : List (List ℕ)) (source : List ℕ) → length (sources ++ source ∷ []) ≡ length sources + 1
count_more sources source = length-append sources (source ∷ [])

-- of what holds of each of them and of the last
each_source : (P : ℕ → List ℕ → Type 0) (sources : List (List ℕ)) (source : List ℕ)
    → ((i : ℕ) → i < length sources → P i (source_at (sources ++ source ∷ []) i)) → P (length sources) source
    → (i : ℕ) → i < length (sources ++ source ∷ []) → P i (source_at (sources ++ source ∷ []) i)
each_source P sources source before last i lt = elim (cases_lt i (length sources)) [
  | inl low ↦ before i low
  | inr high ↦ let here : length sources ≡ i = omega (arith, high, lt, count_more sources source) in
      subst (λ (n : ℕ). P n (source_at (sources ++ source ∷ []) n)) here (subst (P (length sources)) (source_last sources source (length sources) refl) last)
]

holds_next : (app : AppData) (layout : Layout) (sources : List (List ℕ)) (source code old flash : List ℕ) (labels : Env) → IsLaid app layout
    → PutsNext app sources source code old flash labels → Holds app (sources ++ source ∷ []) flash
holds_next app layout sources source code old flash labels l p = record {
  length_of_flash = p.same ∙ p.holds.length_of_flash;
  programs = each_source (λ (i : ℕ) (s : List ℕ). HasProgram app i s flash) sources source
      (earlier app layout sources source code old flash labels l p) (own app sources source code old flash labels p);
  accepted = each_source (IsAcceptedSource app) sources source
      (λ i lt. subst (IsAcceptedSource app i) (source_before sources source i lt) (p.holds.accepted i lt)) (own_accepted app sources source code old flash labels p);
  zeros = λ i k le lt below.
      let low : length sources ≤ i = omega (arith, le, count_more sources source) in
      others app layout sources source code old flash labels l p i k lt (λ same. absurd (omega (arith, same, le, count_more sources source))) below
      ∙ p.holds.zeros i k low lt below;
}

pub holds_more : (app : AppData) (layout : Layout) (sources : List (List ℕ)) (n base : ℕ) (source code old flash : List ℕ) (labels : Env) → IsLaid app layout
    → n ≡ length sources → base ≡ flash_base app n → Puts app sources n base source code old flash labels → Holds app (sources ++ source ∷ []) flash
holds_more app layout sources n base source code old flash labels l next at p =
    holds_next app layout sources source code old flash labels l (
    subst (λ (b : ℕ). Puts app sources (length sources) b source code old flash labels) (at ∙ ap (flash_base app) next)
    (subst (λ (m : ℕ). Puts app sources m base source code old flash labels) next p)
    )
