use Rattle.std.proofs.Common.{◌++◌, List, ℕ, ap, ◌∙◌}
use Rattle.std.specs.Prelude.{codes, decimal}
use Rattle.run_cover.proofs.Sections.{four}
use Rattle.run_cover.proofs.tracefile.lines_found.Goals as goal

pub returns : goal.returns
returns c = c.in_ok-text.ensures.ok ∙ ap (λ (t : List ℕ). codes "LF:" ++ t) (four (decimal c.args.totals.known) (codes "\nLH:") (decimal c.args.totals.executed) (codes "\nend_of_record\n"))
