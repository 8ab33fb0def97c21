use Rattle.std.proofs.Common.{◌+◌, ◌*◌, ◌^◌, ℕ, sym, ap, ◌∙◌}
use Rattle.std.proofs.lemmas.Bool.{le-leb}
use Rattle.thumb_insn.specs.declared.Decoded.{Decoded}
use Rattle.thumb_exec.specs.Effect.{Effect}
use Rattle.thumb_exec.specs.Fetch.{instruction, executed}
use Rattle.thumb_step.specs.Windows.{View, refused_by, held_by, view_of}
use Rattle.thumb_step.proofs.Gliding.{wide_here, goes_so, keeps_by}
use Rattle.thumb_step.proofs.window.Runner.step_wide.Goals as goal

pub returns-in-Wide-clause-goes : goal.returns-in-Wide-clause-goes
returns-in-Wide-clause-goes c = λ done.
    let w = c.args.self.now.window in
    let v : View = view_of w in
    let p = c.args.self.now.processor in
    let here = wide_here v p c.args.at c.args.first c.requires.apart c.requires.here c.requires.first c.in-Some.second (le-leb _ _ c.requires.wide) c.in-Some.ensures in
    let code : ℕ = c.args.first * 2 ^ 16 + c.in-Some.second in
    let E : Decoded → Effect = λ d. executed (refused_by v) (held_by v) p (instruction c.args.at code d) in
    goes_so p c.proceed.new.cpu w c.proceed.new.bus _ (here ∙ ap E (sym c.decode.ensures.table ∙ c.in-Wide.is)) (c.proceed.ensures.done done)

pub returns-in-Wide-clause-fixed : goal.returns-in-Wide-clause-fixed
returns-in-Wide-clause-fixed c = keeps_by c.args.self.now.processor c.proceed.new.cpu c.args.self.now.window c.proceed.new.bus _ c.proceed.result c.proceed.ensures.done c.proceed.ensures.bus
