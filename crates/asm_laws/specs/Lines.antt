-- Where the bytes of each line of an assembled source are.
use Rattle.std.specs.Prelude.{ℕ, ◌≡◌, ◌-◌, List, All, length, take, drop}
use Rattle.thumb_asm.specs.Assembly.{Assembles}
use Rattle.thumb_asm.specs.Listed.{Placed, placed}
use Rattle.thumb_asm.specs.Meaning.{Env, env_of, Spells}
use Rattle.thumb_asm.specs.Parts.{parts}
use Rattle.thumb_asm.specs.Sizes.{statement_of}

-- the image, whose first byte has the base as its address, has the bytes of a line's statement from the line's address on
abbrev pub HasItsBytes : Env → ℕ → List ℕ → Placed → Type 0
HasItsBytes env base bytes p = (own : List ℕ) × Spells env p.at (statement_of (parts p.text).statement) own × (take (length own) (drop (p.at - base) bytes) ≡ own)

-- each line that is listed has
abbrev pub EachLineHasItsBytes : Type 0
EachLineHasItsBytes = (lines : List (List ℕ)) (base : ℕ) (given : Env) (bytes : List ℕ) (labels : Env) → Assembles lines base given bytes labels → All (HasItsBytes (env_of labels given) base bytes) (placed base lines)
