use Rattle.std.proofs.Common.{◌≡◌, ◌∙◌, ◌++◌, ap, arith, take, map, length}
use Rattle.std.specs.List.{flat_map, range_with_len}
use Rattle.board_model.specs.Alike.{reduced}
use Rattle.snapshot.specs.Records.{task_bytes}
use Rattle.snapshot.specs.Saved.{record_of}
use Rattle.snapshot.proofs.StandsForSome.{as_long}
use Rattle.snapshot.proofs.Written.{written_more}
use Rattle.snapshot.proofs.saving.save_tasks.Goals as goal

pub loop-i-preserved : goal.loop-i-preserved
loop-i-preserved g c = record {
  front = λ x s st. written_more task_bytes (record_of (reduced s)) c.loop-i.i _ _ _ (c.loop-i.invariant.front x s st) (c.save_task-end.ensures.front x s st);
  place = omega (arith, c.loop-i.invariant.place, c.save_task-end.ensures.after);
  len = c.save_task-end.ensures.len ∙ c.loop-i.invariant.len;
}

pub returns-clause-front : goal.returns-clause-front
returns-clause-front g c = λ x s st.
    let all : c.loop-i.i ≡ length (reduced s).tasks = omega (arith, c.task_count-i-end.ensures.tasks x s st, (as_long s).tasks, c.loop-i.auto.i-end, c.loop-i-test.false) in
    c.loop-i.invariant.front x s st ∙ ap (λ n. take c.args.at c.args.out.now ++ flat_map task_bytes (map (record_of (reduced s)) (range_with_len 0 n))) all
