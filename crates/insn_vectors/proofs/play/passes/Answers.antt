use Rattle.std.proofs.Common.{subst}
use Rattle.thumb_exec.specs.Effect.{Acts}
use Rattle.thumb_exec.specs.Fetch.{step_effect}
use Rattle.thumb_exec.specs.declared.cpu.Cpu.{Cpu}
use Rattle.insn_vectors.specs.Played.{refused_by, held_by, IsAfter, IsTaken}
use Rattle.insn_vectors.proofs.play.passes.Goals as goal

pub returns-clause-judged : goal.returns-clause-judged
returns-clause-judged c even =
    let acts : Cpu → Type 0 = λ p. Acts IsAfter IsTaken p c.step-outcome.new.cpu c.in_ok-memory.memory c.step-outcome.new.bus c.step-outcome.result (step_effect (refused_by c.in_ok-memory.memory) (held_by c.in_ok-memory.memory) p) in
    record {
      before = c.in_ok-memory.memory;
      memory = c.step-outcome.new.bus;
      cpu = c.step-outcome.new.cpu;
      outcome = c.step-outcome.result;
      begins = c.in_ok-memory.ensures;
      acts = subst acts c.copied-cpu.ensures c.step-outcome.ensures;
      judged = c.is_wanted.ensures;
    }
