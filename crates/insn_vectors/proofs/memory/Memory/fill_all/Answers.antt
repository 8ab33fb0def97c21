use Rattle.std.proofs.Common.{◌+◌, ◌∙◌, ap, sym, arith, drop}
use Rattle.insn_vectors.specs.Flat.{with_bytes}
use Rattle.insn_vectors.specs.Played.{banks_of}
use Rattle.insn_vectors.proofs.Filled.{banks_are, no_more, one_more}
use Rattle.insn_vectors.proofs.memory.Memory.fill_all.Goals as goal

pub loop-pair-preserved : goal.loop-pair-preserved
loop-pair-preserved c =
    let k = c.loop-pair.pair-index in
    let here = banks_are _ _ _ _ c.fill.ensures.flash c.fill.ensures.ram in
    record {
      banks = ap (λ m. with_bytes m (drop (k + 1) c.args.bytes.now)) here ∙ sym (one_more (banks_of c.loop-pair.self) c.args.bytes.now k _ c.loop-pair-test.true)
          ∙ c.loop-pair.invariant.banks;
      regions = c.fill.ensures.regions ∙ c.loop-pair.invariant.regions;
    }

pub returns-clause-banks : goal.returns-clause-banks
returns-clause-banks c =
    sym (no_more (banks_of c.loop-pair.self) c.args.bytes.now c.loop-pair.pair-index (omega (arith, c.loop-pair-test.false))) ∙ c.loop-pair.invariant.banks
