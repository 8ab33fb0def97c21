use Rattle.std.proofs.Common.{◌≡◌, drop}
use Rattle.toml.specs.View.{table_view}
use Rattle.app_toml.specs.Keys.{keys_fault}
use Rattle.app_toml.specs.Sites.{keys_of, site_of}
use Rattle.app_toml.proofs.keys.keys_fault.Given as goal

abbrev pub invariant-loop-key : goal.invariant-loop-key
invariant-loop-key l = keys_fault (keys_of (drop l.key-index l.keys)) (site_of l.place) (table_view l.table) ≡ keys_fault (keys_of l.keys) (site_of l.place) (table_view l.table)
