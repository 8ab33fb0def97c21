use Rattle.std.proofs.Common.{subst, sym, refl}
use Rattle.kernel_abi.specs.declared.Note.{Note}
use Rattle.run_cover.specs.Counted.{HeardNote}
use Rattle.run_cover.proofs.counts.PlaceCounts.hear.Goals as goal

pub returns-in-High : goal.returns-in-High
returns-in-High c =
    let h = c.in-High in
    subst (λ (n : Note). HeardNote c.args.self.now n c.end.new.self) (sym h.is) (c.end.ensures h.registers h.n h.z h.c h.v refl)
