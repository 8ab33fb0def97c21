use Rattle.std.proofs.Common.{true}
use Rattle.std.proofs.lemmas.Bool.{lt-leb}
use Rattle.thumb_step.specs.Windows.{view_of}
use Rattle.thumb_step.proofs.Gliding.{narrow_here, went_narrow, did_goes, did_keeps}
use Rattle.thumb_step.proofs.window.Runner.step.Goals as goal

pub returns-then-narrow_to-clause-goes : goal.returns-then-narrow_to-clause-goes
returns-then-narrow_to-clause-goes c = λ done.
    let narrow = went_narrow c.in-Some.first c.if-narrow_to.ensures.wide in
    let here = narrow_here (view_of c.args.self.now.window) c.args.self.now.processor c.get-at.result c.in-Some.first c.requires.apart c.get-at.ensures c.in-Some.ensures (lt-leb _ _ narrow) in
    did_goes c.args.self.now c.narrow_to.new.to c.get-at.result c.in-Some.first _ here (c.if-narrow_to.ensures.narrow narrow)

pub returns-then-narrow_to-clause-fixed : goal.returns-then-narrow_to-clause-fixed
returns-then-narrow_to-clause-fixed c =
    let narrow = went_narrow c.in-Some.first c.if-narrow_to.ensures.wide in
    did_keeps c.args.self.now c.narrow_to.new.to _ true (c.if-narrow_to.ensures.narrow narrow)
