-- What the codes of the loop are.
use Rattle.std.proofs.Common.{◌≡◌, [], ◌∷◌, map, Some, refl}
use Rattle.thumb_insn.specs.Table.{narrow_of, rows}
use Rattle.exec_bench.specs.Words.{loop_insns}

pub loop_is_coded : map narrow_of (0x1C40 ∷ 0x00C1 ∷ 0x404A ∷ 0x6022 ∷ 0x6863 ∷ 0xB405 ∷ 0xBC22 ∷ 0x1AC6 ∷ 0x2E00 ∷ 0xD1F5 ∷ []) ≡ map Some loop_insns
unfolding narrow_of rows
loop_is_coded = refl
