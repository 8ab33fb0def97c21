use Rattle.std.proofs.Common.{◌∙◌, ap}
use Rattle.insn_vectors.specs.Flat.{with_bytes}
use Rattle.insn_vectors.specs.Played.{banks_of, with_code}
use Rattle.insn_vectors.proofs.Filled.{banks_are}
use Rattle.insn_vectors.proofs.play.memory_of.Goals as goal

pub returns : goal.returns
returns c =
    let case = c.args.case.now in
    let zeros = banks_are _ _ _ _ c.in_ok-memory.ensures.flash c.in_ok-memory.ensures.ram in
    record {
      banks = c.fill_code.ensures.banks
          ∙ ap (λ m. with_code m c.get.result case.first case.second)
          (c.fill_all.ensures.banks ∙ ap (λ bs. with_bytes (banks_of c.in_ok-memory.memory) bs) c.deref.ensures.value ∙ ap (λ m. with_bytes m case.bytes.items) zeros)
          ∙ ap (λ at. with_code (with_bytes _ case.bytes.items) at case.first case.second) c.get.ensures;
      regions = ap (λ v. v.items) (c.fill_code.ensures.regions ∙ c.fill_all.ensures.regions) ∙ c.in_ok-memory.ensures.regions;
    }
