use Rattle.std.proofs.Common.{◌≡◌, ◌+◌, ◌≤◌, length, List, take, ap, sym, ◌∙◌, subst, arith}
use Rattle.std.specs.Prelude.{fold, slice_get}
use Rattle.std.proofs.lemmas.List.{length-map}
use Rattle.task_table.specs.kept.Holds.{Stands}
use Rattle.task_table.specs.kept.Parts.{line_setup}
use Rattle.task_table.specs.model.State.{LineSetup, Turn}
use Rattle.task_table.specs.model.Asking.{is_asked}
use Rattle.task_table.specs.model.Events.{driven_by, driven}
use Rattle.timer_irq.specs.Midway.{driven_if, with_any}
use Rattle.timer_irq.proofs.Lines.{asked_any, fold_any, take_whole}
use Rattle.timer_irq.proofs.interrupts.drive.Goals as goal

pub loop-i-preserved : goal.loop-i-preserved
loop-i-preserved c = record {
  frame = record {
    notes = omega (arith, c.drive_at.ensures.frame.notes, c.loop-i.invariant.frame.notes);
    tasks = c.drive_at.ensures.frame.tasks ∙ c.loop-i.invariant.frame.tasks;
    setup = c.drive_at.ensures.frame.setup ∙ c.loop-i.invariant.frame.setup;
  };
  stood =
      let g = c.loop-i.invariant.stood.0 in
      let t = c.loop-i.invariant.stood.1 in
      (g, with_any (driven_if c.is_asked.result) (slice_get g.lines c.loop-i.i) t, c.drive_at.ensures.stands g t c.loop-i.invariant.stood.2);
  stands = λ g t h a.
      let i = c.loop-i.i in
      let f : Turn → LineSetup → Turn = driven_by t.state.devices in
      let before = fold f t (take i g.lines) in
      let known : with_any (driven_if c.is_asked.result) (slice_get g.lines i) before ≡ fold f t (take (i + 1) g.lines) =
      ap (λ b. with_any (driven_if b) (slice_get g.lines i) before) c.is_asked.ensures
      ∙ asked_any driven_if (is_asked t.state) g.lines c.args.asked.now i before a
      ∙ fold_any f t g.lines i in
      let P : Turn → Type 0 = λ u. Stands g c.drive_at.new.k u in
      subst P known (c.drive_at.ensures.stands g before (c.loop-i.invariant.stands g t h a));
}

pub returns-clause-stands : goal.returns-clause-stands
unfolding driven
returns-clause-stands c = λ g t h a.
    let many : length g.lines ≡ length c.owners-i-end.result.now = ap length (sym (c.owners-i-end.ensures.holds g t h.holds)) ∙ length-map c.owners-i-end.result.now line_setup in
    let whole : length g.lines ≤ c.loop-i.i = omega (arith, many, c.loop-i-test.false) in
    let P : List LineSetup → Type 0 = λ xs. Stands g c.loop-i.k (fold (driven_by t.state.devices) t xs) in
    subst P (take_whole g.lines c.loop-i.i whole) (c.loop-i.invariant.stands g t h a)
