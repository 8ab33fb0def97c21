use Rattle.std.proofs.Common.{arith, map}
use Rattle.run_question.specs.Drafts.{capped}
use Rattle.run_question.specs.Questions.{arrival_data}
use Rattle.run_question.specs.Reading.{schedule_count}
use Rattle.run_question.proofs.Counting.{schedules_end, schedules_more}
use Rattle.run_question.proofs.schedules.are_few.Goals as goal

pub loop-arrival-preserved : goal.loop-arrival-preserved
loop-arrival-preserved c =
    schedules_more 1000000000000000000 (capped 1000000000000000000 (schedule_count (map arrival_data c.args.arrivals.now))) c.loop-arrival.count c.times-count.result c.way_count.result c.loop-arrival.arrival-index c.args.arrivals.now c.arrival-item.result
    (omega arith) c.arrival-item.is c.loop-arrival.invariant c.way_count.ensures c.times-count.ensures

pub returns : goal.returns
returns c =
    schedules_end 1000000000000000000 (schedule_count (map arrival_data c.args.arrivals.now)) c.loop-arrival.count c.loop-arrival.arrival-index c.args.arrivals.now (omega arith) c.loop-arrival.invariant
