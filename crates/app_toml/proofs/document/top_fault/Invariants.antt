use Rattle.std.proofs.Common.{◌≡◌}
use Rattle.toml.specs.View.{members_view}
use Rattle.app_toml.specs.Document.{top_fault}
use Rattle.app_toml.proofs.document.top_fault.Given as goal

abbrev pub invariant-loop-name : goal.invariant-loop-name
invariant-loop-name l =
    (goal.iterator-loop-name).can_next l.name-iterator × (goal.iterator-loop-name).is_finite l.name-iterator
    × (top_fault (members_view l.name-iterator) ≡ top_fault (members_view l.document.entries))
