-- The assemblies of one source.
use Rattle.std.specs.Prelude.{ℕ, List}
use Rattle.thumb_asm.specs.Assembly.{Assembles}
use Rattle.thumb_asm.specs.Meaning.{Env}

-- a relation holds between the bytes and the labels of any two assemblies of one source
abbrev pub EachTwo : (List ℕ → List ℕ → Env → Env → Type 0) → Type 0
EachTwo holds = (lines : List (List ℕ)) (base : ℕ) (given : Env) (bytes bytes' : List ℕ) (labels labels' : Env)
    → Assembles lines base given bytes labels → Assembles lines base given bytes' labels' → holds bytes bytes' labels labels'
