-- An application and its sources have at most one image.
use Rattle.std.proofs.Common.{◌≡◌, ◌∙◌, ℕ, ◌+◌, ◌-◌, ◌≤◌, ◌<◌, List, length, get_or, refl, sym, ap, arith}
use Rattle.std.proofs.lemmas.List.{ext_get_or}
use Rattle.app_toml.specs.Apps.{AppData}
use Rattle.image_format.specs.ImageData.{ImageData}
use Rattle.mem_plan.specs.Placing.{placed}
use Rattle.mem_plan.specs.Sizes.{rounded}
use Rattle.text_lines.specs.Text.{lines_of}
use Rattle.thumb_asm.specs.Assembly.{Assembles}
use Rattle.thumb_asm.specs.Meaning.{Env}
use Rattle.image_build.specs.Built.{Built, HasProgram, flash_byte, given, image_data_built, source_at}
use Rattle.image_build.specs.Layout.{flash_base, flash_needed, flash_sizes, task_at}
use Rattle.build_laws.proofs.Filling.{filled}
use Rattle.image_build.proofs.Planning.{flash_size, flash_count}

-- the source of the i-th task assembles to one code
abbrev pub HasOneCode : AppData → List (List ℕ) → ℕ → Type 0
HasOneCode app sources i = (code code' : List ℕ) (labels labels' : Env)
    → Assembles (lines_of (source_at sources i)) (flash_base app i) (given app i) code labels
    → Assembles (lines_of (source_at sources i)) (flash_base app i) (given app i) code' labels' → code ≡ code'

-- two flashes with programs of one source have the same bytes there
one_program : (app : AppData) (sources : List (List ℕ)) (i : ℕ) (flash flash' : List ℕ) → HasOneCode app sources i
    → HasProgram app i (source_at sources i) flash → HasProgram app i (source_at sources i) flash'
    → (k : ℕ) → k < rounded (task_at app i).flash → flash_byte app i flash k ≡ flash_byte app i flash' k
one_program app sources i flash flash' once p q k below =
    let same : p.code ≡ q.code = once p.code q.code p.labels q.labels p.assembled q.assembled in
    p.stands k below ∙ ap (λ (code : List ℕ). get_or code k 0) same ∙ sym (q.stands k below)

-- where k bytes from a region's base on is j bytes from the start
offset : (start at k j : ℕ) → start ≤ at → at ≤ start + j → k ≡ start + j - at → at - start + k ≡ j
offset start at k j low below is = omega (arith, low, below, is)

from_start : (start : ℕ) (sizes : List ℕ) (i : ℕ) → start ≤ placed start sizes i
from_start start sizes i = omega arith

one_byte : (app : AppData) (sources : List (List ℕ)) (flash flash' : List ℕ) → ((i : ℕ) → i < length app.tasks → HasOneCode app sources i)
    → ((i : ℕ) → i < length app.tasks → HasProgram app i (source_at sources i) flash)
    → ((i : ℕ) → i < length app.tasks → HasProgram app i (source_at sources i) flash')
    → (j : ℕ) → j < flash_needed app → get_or flash j 0 ≡ get_or flash' j 0
one_byte app sources flash flash' once p q j below =
    let (i, lies) = filled 0x08000000 (flash_sizes app) (0x08000000 + j) (omega arith) (omega (arith, below)) in
    let index : i < length app.tasks = omega (arith, lies.index, flash_count app) in
    let k : ℕ = 0x08000000 + j - flash_base app i in
    let there : flash_base app i - 0x08000000 + k ≡ j = offset 0x08000000 (flash_base app i) k j (from_start 0x08000000 (flash_sizes app) i) lies.low refl in
    let inside : k < rounded (task_at app i).flash = omega (arith, lies.low, lies.high, flash_size app i index) in
    let same : flash_byte app i flash k ≡ flash_byte app i flash' k = one_program app sources i flash flash' (once i index) (p i index) (q i index) k inside in
    ap (λ (n : ℕ). get_or flash n 0) (sym there) ∙ same ∙ ap (λ (n : ℕ). get_or flash' n 0) there

pub one_flash : (app : AppData) (sources : List (List ℕ)) (image image' : ImageData) → ((i : ℕ) → i < length app.tasks → HasOneCode app sources i)
    → Built app sources image → Built app sources image' → image ≡ image'
one_flash app sources image image' once a b =
    let same : image.flash ≡ image'.flash = ext_get_or 0 image.flash image'.flash (a.length_of_flash ∙ sym b.length_of_flash)
    (λ j below. one_byte app sources image.flash image'.flash once a.programs b.programs j (omega (arith, below, a.length_of_flash))) in
    a.parts ∙ ap (image_data_built app) same ∙ sym b.parts
