use Rattle.std.proofs.Common.{◌≡◌, ◌+◌, ◌≤◌, Bool, length, take, subst, arith, ◌∙◌, ap, sym, List, cond}
use Rattle.std.specs.Prelude.{fold, filter, slice_get}
use Rattle.std.proofs.lemmas.List.{length-map}
use Rattle.task_table.specs.model.State.{LineSetup, Turn}
use Rattle.task_table.specs.kept.Parts.{line_setup}
use Rattle.task_table.specs.model.Asking.{is_asked}
use Rattle.task_table.specs.model.Rows.{owns_with, line_controlled}
use Rattle.task_table.specs.kept.Holds.{Holds}
use Rattle.timer_irq.specs.Midway.{with_any}
use Rattle.timer_irq.proofs.Lines.{asked_any, fold_next, take_whole}
use Rattle.timer_irq.proofs.controlling.control_all.Goals as goal

pub loop-i-preserved : goal.loop-i-preserved
loop-i-preserved c = record {
  frame = record {
    notes = omega (arith, c.control_at.ensures.frame.notes, c.loop-i.invariant.frame.notes);
    tasks = c.control_at.ensures.frame.tasks ∙ c.loop-i.invariant.frame.tasks;
    setup = c.control_at.ensures.frame.setup ∙ c.loop-i.invariant.frame.setup;
  };
  holds = λ g t h a.
      let i = c.loop-i.i in
      let p : LineSetup → Bool = owns_with c.args.caller c.args.bits in
      let f : Bool → Turn → LineSetup → Turn = λ b u o. line_controlled c.args.caller c.args.bits c.args.enable b o.line u in
      let own : Turn → LineSetup → Turn = λ u o. f (is_asked t.state o) u o in
      let next : Bool → Turn → LineSetup → Turn = λ b u o. cond (p o) (f b u o) u in
      let before = fold own t (filter p (take i g.lines)) in
      let known : with_any (next c.is_asked.result) (slice_get g.lines i) before ≡ fold own t (filter p (take (i + 1) g.lines)) =
      ap (λ b. with_any (next b) (slice_get g.lines i) before) c.is_asked.ensures
      ∙ asked_any next (is_asked t.state) g.lines c.args.asked.now i before a
      ∙ fold_next own p t g.lines i in
      let P : Turn → Type 0 = λ u. Holds g c.control_at.new.k u in
      subst P known (c.control_at.ensures.holds g before (c.loop-i.invariant.holds g t h a));
}

pub returns-clause-holds : goal.returns-clause-holds
returns-clause-holds c = λ g t h a.
    let f : Turn → LineSetup → Turn = λ u o. line_controlled c.args.caller c.args.bits c.args.enable (is_asked t.state o) o.line u in
    let many : length g.lines ≡ length c.owners-i-end.result.now = ap length (sym (c.owners-i-end.ensures.holds g t h)) ∙ length-map c.owners-i-end.result.now line_setup in
    let whole : length g.lines ≤ c.loop-i.i = omega (arith, many, c.loop-i-test.false) in
    let P : List LineSetup → Type 0 = λ xs. Holds g c.loop-i.k (fold f t (filter (owns_with c.args.caller c.args.bits) xs)) in
    subst P (take_whole g.lines c.loop-i.i whole) (c.loop-i.invariant.holds g t h a)
