use Rattle.std.proofs.Common.{refl, ap, ℕ, Global}
use Rattle.std.specs.Prelude.{Vec}
use Rattle.sweep_core.proofs.checkpoints.Checkpoints.keep.Goals as goal

pub returns-then-self-len-clause-more : goal.returns-then-self-len-clause-more
returns-then-self-len-clause-more c = λ room. record {
  meeting = record { turn = c.args.turn; heard = c.args.heard.now; state = c.swap.new.x };
  turn = refl;
  same = record { heard = refl; state = ap (λ (v : Vec ℕ Global). v.items) c.swap.ensures.x_after };
  states = refl;
  count = refl;
}
