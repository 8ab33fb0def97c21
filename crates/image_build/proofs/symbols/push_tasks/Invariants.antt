use Rattle.std.proofs.Common.{◌≡◌, ◌++◌, drop, map}
use Rattle.app_toml.specs.Sites.{task_of}
use Rattle.thumb_asm.specs.Passes.{names_of}
use Rattle.image_build.specs.Symbols.{task_symbols}
use Rattle.image_build.proofs.symbols.push_tasks.Given as goal

abbrev pub invariant-loop-k : goal.invariant-loop-k
invariant-loop-k l =
    names_of l.out.items ++ task_symbols l.k (map task_of (drop l.k l.tasks))
    ≡ names_of l.fn.out.items ++ task_symbols 0 (map task_of l.tasks)
