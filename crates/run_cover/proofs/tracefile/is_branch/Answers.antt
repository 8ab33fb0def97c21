use Rattle.std.proofs.Common.{◌∙◌, sym, arith}
use Rattle.run_cover.proofs.Numbered.{numbered}
use Rattle.run_cover.proofs.tracefile.is_branch.Goals as goal

pub stands_at-requires : goal.stands_at-requires
stands_at-requires g c =
    let below = (numbered c.args.addr _ (sym c.place_of.ensures ∙ c.in-Some.is)).below in
    omega (arith, below)
