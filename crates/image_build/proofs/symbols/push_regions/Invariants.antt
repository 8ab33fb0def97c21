use Rattle.std.proofs.Common.{◌≡◌, ◌++◌, drop, map}
use Rattle.app_toml.specs.Held.{app_of}
use Rattle.app_toml.specs.Sites.{region_of}
use Rattle.thumb_asm.specs.Passes.{names_of}
use Rattle.image_build.specs.Symbols.{region_symbols}
use Rattle.image_build.proofs.symbols.push_regions.Given as goal

abbrev pub invariant-loop-k : goal.invariant-loop-k
invariant-loop-k l =
    names_of l.out.items ++ region_symbols (app_of l.app) l.k (map region_of (drop l.k l.regions))
    ≡ names_of l.fn.out.items ++ region_symbols (app_of l.app) 0 (map region_of l.regions)
