use Rattle.region_check.proofs.Sharing as alone
use Rattle.task_table.specs.model.Reading.{setup_at}
use Rattle.board_model.proofs.loners.who_is_alone_is_a_loner.Goals as goal

pub returns : goal.returns
returns c = λ g i h. record {
  there = h.there;
  no_device = h.no_device;
  apart = λ j other r q here yonder a inside. alone.apart (setup_at g i).regions (setup_at g j).regions (h.alone j other) r q here yonder (h.placed j r q here yonder) a inside;
}
