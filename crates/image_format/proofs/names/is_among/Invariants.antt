use Rattle.std.proofs.Common.{◌≡◌, ◌-◌}
use Rattle.std.specs.List.{list_any}
use Rattle.image_format.specs.Names.{names_of, same_name}
use Rattle.image_format.proofs.names.is_among.Given as goal

-- it is none of the names before
abbrev pub invariant-loop-k : goal.invariant-loop-k
invariant-loop-k l = list_any (λ other. same_name other l.name) (names_of l.n l.bytes) ≡ list_any (λ other. same_name other l.name) (names_of (l.n - l.k) l.rest)
