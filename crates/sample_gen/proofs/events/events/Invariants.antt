use Rattle.std.proofs.Common.{◌≡◌, ◌+◌, ◌-◌, ◌*◌, ℕ}
use Rattle.sample_gen.specs.Draws.{number}
use Rattle.sample_gen.specs.Sample.{events_to}
use Rattle.sample_gen.proofs.events.events.Given as goal

abbrev pub invariant-loop-k : goal.invariant-loop-k
invariant-loop-k l = (seed : ℕ) → l.fn.numbers.last ≡ number seed 127
    → (l.numbers.last ≡ number seed (125 + 2 * l.k)) × (l.events.items ≡ events_to seed (l.k - 1))
