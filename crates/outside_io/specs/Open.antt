-- The file that was read last.
use Rattle.std.specs.Prelude.{◌≡◌, ℕ, List, IfSome}
use Rattle.std.specs.String.{string_bytes}
use Rattle.outside_io.specs.declared.host.OpenFile.{OpenFile}

-- if its name is known, it is this one
abbrev pub IsNamed : {F : Type 0} → OpenFile F → List ℕ → Type 0
IsNamed {F} file name = IfSome file.name (λ own. string_bytes own ≡ name)

-- if its position is known, it is this one
abbrev pub StandsAt : {F : Type 0} → OpenFile F → ℕ → Type 0
StandsAt {F} file place = IfSome file.place (λ at. at ≡ place)
