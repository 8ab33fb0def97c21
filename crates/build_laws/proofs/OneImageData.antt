-- An application and its sources have one image.
use Rattle.std.proofs.Common.{◌≡◌, ℕ, List}
use Rattle.text_lines.specs.Text.{lines_of}
use Rattle.app_toml.specs.Apps.{AppData}
use Rattle.image_format.specs.ImageData.{ImageData}
use Rattle.image_build.specs.Built.{Built, given, source_at}
use Rattle.image_build.specs.Layout.{flash_base}
use Rattle.asm_laws.proofs.Single.{one_bytes}
use Rattle.build_laws.proofs.OneImage.{one_flash}

pub one_picture : (app : AppData) (sources : List (List ℕ)) (image image' : ImageData) → Built app sources image → Built app sources image' → image ≡ image'
one_picture app sources image image' a b = one_flash app sources image image'
    (λ i below code code' labels labels' p q. one_bytes (lines_of (source_at sources i)) (flash_base app i) (given app i) code code' labels labels' p q) a b
