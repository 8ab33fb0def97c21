use Rattle.std.proofs.Common.{◌≡◌, ◌++◌, drop, map, string_bytes}
use Rattle.thumb_asm.specs.Passes.{names_of}
use Rattle.image_build.specs.Symbols.{note_symbols}
use Rattle.image_build.proofs.symbols.push_notes.Given as goal

abbrev pub invariant-loop-k : goal.invariant-loop-k
invariant-loop-k l =
    names_of l.out.items ++ note_symbols l.prefix l.k (map string_bytes (drop l.k l.notifications))
    ≡ names_of l.fn.out.items ++ note_symbols l.prefix 0 (map string_bytes l.notifications)
