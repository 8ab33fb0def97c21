use Rattle.std.proofs.Common.{◌≡◌}
use Rattle.toml.specs.View.{members_view}
use Rattle.app_toml.specs.Keys.{unknown_fault}
use Rattle.app_toml.specs.Sites.{keys_of, site_of}
use Rattle.app_toml.proofs.keys.unknown_fault.Given as goal

abbrev pub invariant-loop-name : goal.invariant-loop-name
invariant-loop-name l =
    (goal.iterator-loop-name).can_next l.name-iterator × (goal.iterator-loop-name).is_finite l.name-iterator
    × (unknown_fault (keys_of l.keys) (site_of l.place) (members_view l.name-iterator) ≡ unknown_fault (keys_of l.keys) (site_of l.place) (members_view l.table.entries))
