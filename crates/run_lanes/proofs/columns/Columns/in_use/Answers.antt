use Rattle.std.proofs.Common.{ℕ, ◌+◌, ◌-◌, ◌/◌, ◌∙◌, length, ap, arith}
use Rattle.run_lanes.proofs.Tiled.{begun_in_use, whole_in_use}
use Rattle.run_lanes.proofs.columns.Columns.in_use.Goals as goal

pub returns-then-self-eq0-clause-used : goal.returns-then-self-eq0-clause-used
returns-then-self-eq0-clause-used c = λ turns h.
    let self = c.args.self.now in
    whole_in_use (length turns) self.width self.column self.inside h.at c.if-self-eq0.true self.more ∙ ap (λ (m : ℕ). (length turns + m - 1) / m) h.wide

pub returns-else-self-eq0-clause-used : goal.returns-else-self-eq0-clause-used
returns-else-self-eq0-clause-used c = λ turns h.
    let self = c.args.self.now in
    c.min.ensures ∙ begun_in_use (length turns) self.width self.column self.inside h.at (omega (arith, c.if-self-eq0.false)) self.more h.room ∙ ap (λ (m : ℕ). (length turns + m - 1) / m) h.wide
