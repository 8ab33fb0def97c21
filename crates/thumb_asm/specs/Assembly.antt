-- The result of assembling a text.
use Rattle.std.specs.Prelude.{ℕ, ◌≡◌, List, None}
use Rattle.thumb_asm.specs.Chars.{entry_at}
use Rattle.thumb_asm.specs.Meaning.{Names, Env, env_of, Lays}
use Rattle.thumb_asm.specs.Causes.{first_cause}

-- No line is refused. `labels` has the labels of the lines with their addresses, and no other name. Names have the
-- values of these labels and of the given symbols. The first line is at the base.
pub record Assembles (lines : List (List ℕ)) (base : ℕ) (given : Env) (bytes : List ℕ) (labels : Env) : Type 0 where
  pub accepted : first_cause lines base given ≡ None
  pub names : Names
  pub labelled : (name : List ℕ) → labels name ≡ entry_at names name
  pub laid : Lays (env_of (entry_at names) given) base lines bytes names
