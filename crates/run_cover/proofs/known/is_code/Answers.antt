use Rattle.std.proofs.Common.{◌∙◌, sym, arith}
use Rattle.run_cover.proofs.Numbered.{numbered}
use Rattle.run_cover.proofs.known.is_code.Goals as goal

pub is_insn_in_code-requires : goal.is_insn_in_code-requires
is_insn_in_code-requires g c =
    let below = (numbered c.args.addr _ (sym c.place_of.ensures ∙ c.in-Some.is)).below in
    omega (arith, below)
