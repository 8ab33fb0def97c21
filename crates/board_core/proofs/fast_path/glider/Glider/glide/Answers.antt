use Rattle.std.proofs.lemmas.Bool.{false≢true}
use Rattle.board_core.proofs.fast_path.glider.Glider.glide.Goals as goal

pub returns-then-not-is_apart-clause-tells : goal.returns-then-not-is_apart-clause-tells
returns-then-not-is_apart-clause-tells c = record {
  short = λ e. absurd (false≢true e);
  calling = λ e. absurd (false≢true e);
  told = λ apart lt. absurd (c.is_apart.ensures.otherwise c.if-not-is_apart.true apart);
}

pub returns-clause-tells : goal.returns-clause-tells
returns-clause-tells c = record { short = c.run.ensures.short; calling = c.run.ensures.calls; told = λ apart. c.run.ensures.told }
