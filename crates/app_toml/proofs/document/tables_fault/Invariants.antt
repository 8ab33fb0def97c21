use Rattle.std.proofs.Common.{◌≡◌, drop}
use Rattle.toml.specs.View.{items_view}
use Rattle.app_toml.specs.Document.{tables_fault}
use Rattle.app_toml.specs.Sites.{keys_of}
use Rattle.app_toml.proofs.document.tables_fault.Given as goal

abbrev pub invariant-loop-i : goal.invariant-loop-i
invariant-loop-i l = tables_fault l.name (keys_of l.keys) l.i (items_view (drop l.i l.values)) ≡ tables_fault l.name (keys_of l.keys) 0 (items_view l.values)
