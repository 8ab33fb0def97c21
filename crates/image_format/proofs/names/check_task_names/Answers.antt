use Rattle.std.proofs.Common.{◌≡◌, ◌∙◌, ◌+◌, length, arith, ap, sym}
use Rattle.image_format.specs.Names.{after_name}
use Rattle.image_format.proofs.Named.{after_more, nearer, names_end, names_go_on}
use Rattle.image_format.proofs.names.check_task_names.Goals as goal

pub returns-then-is_some : goal.returns-then-is_some
returns-then-is_some c = sym (c.loop-k.invariant.fault ∙ names_end c.args.n c.loop-k.k c.loop-k.at c.args.bytes.now c.loop-k.rest.now c.check_name-found.result c.loop-k-test.true c.check_name-found.ensures c.if-is_some.ensures)

pub overflow_add-at-in-loop-k : goal.overflow_add-at-in-loop-k
overflow_add-at-in-loop-k c = omega (arith, nearer c.loop-k.rest.now c.split_name.result.0.now c.split_name.result.1.now c.split_name.ensures.name c.split_name.ensures.rest, c.loop-k.invariant.near, c.requires.few, c.requires.room, c.loop-k-test.true)

pub loop-k-preserved : goal.loop-k-preserved
loop-k-preserved c =
    let name = c.split_name.result.0.now in
    let more = c.split_name.result.1.now in
    let at : c.loop-k.at + (1 + length name) ≡ c.loop-k.at + 1 + length name = omega arith in
    record {
      rest = c.split_name.ensures.rest ∙ ap after_name c.loop-k.invariant.rest ∙ sym (after_more c.loop-k.k c.args.bytes.now);
      fault = c.loop-k.invariant.fault ∙ names_go_on c.args.n c.loop-k.k c.loop-k.at _ c.args.bytes.now c.loop-k.rest.now name more c.check_name-found.result c.loop-k-test.true c.loop-k.invariant.rest c.check_name-found.ensures c.if-is_some.ensures c.split_name.ensures.name c.split_name.ensures.rest at;
      near = omega (arith, nearer c.loop-k.rest.now name more c.split_name.ensures.name c.split_name.ensures.rest, c.loop-k.invariant.near);
    }
