use Rattle.std.proofs.Common.{◌≡◌, drop}
use Rattle.toml.specs.View.{items_view}
use Rattle.app_toml.specs.Forms.{names_fault}
use Rattle.app_toml.specs.Sites.{site_of}
use Rattle.app_toml.proofs.forms.names_fault.Given as goal

abbrev pub invariant-loop-i : goal.invariant-loop-i
invariant-loop-i l = names_fault (site_of l.place) l.i (items_view (drop l.i l.values)) ≡ names_fault (site_of l.place) 0 (items_view l.values)
