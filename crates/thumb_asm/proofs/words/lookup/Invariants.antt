use Rattle.std.proofs.Common.{◌≡◌, length, map}
use Rattle.thumb_asm.specs.Chars.{entry_at, lower}
use Rattle.thumb_asm.proofs.words.lookup.Given as goal

abbrev pub invariant-loop-table : goal.invariant-loop-table
invariant-loop-table o l = entry_at (map (λ e. (e.0.now, e.1)) l.table) (map lower l.word) ≡ entry_at (map (λ e. (e.0.now, e.1)) l.initial.table) (map lower l.word)

abbrev pub decreases-loop-table : goal.decreases-loop-table
decreases-loop-table o l = length l.table
