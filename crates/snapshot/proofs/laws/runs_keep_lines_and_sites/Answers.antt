use Rattle.snapshot.proofs.Fixed.{fixed_run}
use Rattle.snapshot.proofs.laws.runs_keep_lines_and_sites.Goals as goal

pub returns-clause-lines : goal.returns-clause-lines
returns-clause-lines c = λ level x n s h. (fixed_run level x n s h).lines

pub returns-clause-sites : goal.returns-clause-sites
returns-clause-sites c = λ level x n s h. (fixed_run level x n s h).sites
