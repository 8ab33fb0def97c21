use Rattle.std.proofs.Common.{refl}
use Rattle.board_run.proofs.Listing.{ram_regions, lists_ram, memory_told, of_images}
use Rattle.board_run.proofs.laws.memories_have_each_region_once.Goals as goal

pub returns-clause-images : goal.returns-clause-images
returns-clause-images c = of_images

pub returns-clause-once : goal.returns-clause-once
returns-clause-once c = λ g h. (ram_regions g 1024, lists_ram g 1024 refl h, memory_told g 1024 refl)
