use Rattle.std.proofs.Common.{take}
use Rattle.thumb_asm.specs.Passes.{names_of, Indexes}
use Rattle.thumb_asm.proofs.index.of_symbols.Given as goal

abbrev pub invariant-loop-symbol : goal.invariant-loop-symbol
invariant-loop-symbol l = Indexes l.index (names_of (take l.symbol-index l.symbols))
