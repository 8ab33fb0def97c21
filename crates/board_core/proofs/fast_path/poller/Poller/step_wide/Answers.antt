use Rattle.std.proofs.Common.{sym, ◌∙◌}
use Rattle.board_core.specs.Data.{boxed}
use Rattle.board_core.proofs.fast.Polled.{wide_goes, wide_keeps}
use Rattle.board_core.proofs.fast_path.poller.Poller.step_wide.Goals as goal

pub returns-in-Wide-clause-goes : goal.returns-in-Wide-clause-goes
returns-in-Wide-clause-goes boxes c = λ done.
    let shown = boxed (λ p. (goal.Device-dyn boxes p).shown p.1) in
    (wide_goes shown c.args.self.now c.args.at c.args.first c.in-Some.second c.requires.here c.requires.first c.requires.wide c.in-Some.ensures c.proceed.new.cpu c.proceed.new.bus c.in-Wide.insn (sym c.decode.ensures.table ∙ c.in-Wide.is) (c.proceed.ensures.done done)).beside

pub returns-in-Wide-clause-fixed : goal.returns-in-Wide-clause-fixed
returns-in-Wide-clause-fixed boxes c =
    let shown = boxed (λ p. (goal.Device-dyn boxes p).shown p.1) in
    (wide_keeps shown c.args.self.now c.args.at c.args.first c.in-Some.second c.requires.here c.requires.first c.requires.wide c.in-Some.ensures c.proceed.new.cpu c.proceed.new.bus c.in-Wide.insn (sym c.decode.ensures.table ∙ c.in-Wide.is) c.proceed.result c.proceed.ensures.done c.proceed.ensures.bus).0

pub returns-in-Wide-clause-io_regions : goal.returns-in-Wide-clause-io_regions
returns-in-Wide-clause-io_regions boxes c =
    let shown = boxed (λ p. (goal.Device-dyn boxes p).shown p.1) in
    (wide_keeps shown c.args.self.now c.args.at c.args.first c.in-Some.second c.requires.here c.requires.first c.requires.wide c.in-Some.ensures c.proceed.new.cpu c.proceed.new.bus c.in-Wide.insn (sym c.decode.ensures.table ∙ c.in-Wide.is) c.proceed.result c.proceed.ensures.done c.proceed.ensures.bus).1
