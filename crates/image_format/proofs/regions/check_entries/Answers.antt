use Rattle.std.proofs.Common.{◌∙◌, arith, sym}
use Rattle.std.proofs.lemmas.Grind.{common_steps}
use Rattle.image_format.proofs.Chunks.{counted_step, entries_step, none_found}
use Rattle.image_format.proofs.regions.check_entries.Goals as goal

pub loop-i-preserved : goal.loop-i-preserved
loop-i-preserved c =
    let count = counted_step c.args.tasks.now c.loop-i.i c.loop-i-test.true in
    let none = none_found c.check_entry-found.result (sym c.is_some.ensures ∙ c.if-is_some.false) in
    record {
      place = omega arith;
      left_over = omega (arith, count);
      left =
          entries_step c.args.tasks.now c.args.regions.now c.loop-i.place c.loop-i.start c.loop-i.i c.from.result c.check_entry-found.result c.loop-i-test.true c.from.ensures c.check_entry-found.ensures none
          ∙ c.loop-i.invariant.left;
    }

pub returns-then-is_some : goal.returns-then-is_some
returns-then-is_some c = grind (arith, common_steps)

pub returns : goal.returns
returns c = grind (arith, common_steps)
