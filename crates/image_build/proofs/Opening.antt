-- A flash of zeros holds no source.
use Rattle.std.proofs.Common.{◌≡◌, ◌∙◌, ℕ, zero, suc, ◌+◌, ◌-◌, List, [], ap, arith, get_or, length, refl, replicate}
use Rattle.app_toml.specs.Apps.{AppData}
use Rattle.image_build.specs.Building.{Holds}
use Rattle.image_build.specs.Layout.{flash_base, flash_needed}

abbrev pub zeros_of : ℕ → List ℕ
zeros_of n = replicate n 0

zeros_at : (n i : ℕ) → get_or (zeros_of n) i 0 ≡ 0
zeros_at zero i = refl
zeros_at (suc n) zero = refl
zeros_at (suc n) (suc i) = zeros_at n i

count_zeros : (n : ℕ) → length (zeros_of n) ≡ n
count_zeros zero = refl
count_zeros (suc n) = ap suc (count_zeros n)

pub no_source : (app : AppData) (n : ℕ) (flash : List ℕ) → flash ≡ zeros_of n → n ≡ flash_needed app → Holds app [] flash
no_source app n flash is count = record {
  length_of_flash = ap length is ∙ count_zeros n ∙ count;
  programs = λ i lt. absurd (omega (arith, lt));
  accepted = λ i lt. absurd (omega (arith, lt));
  zeros = λ i k le lt below. let at = flash_base app i - 0x08000000 + k in ap (λ (xs : List ℕ). get_or xs at 0) is ∙ zeros_at n at;
}
