use Rattle.std.proofs.Common.{◌∙◌, ap, map}
use Rattle.app_toml.specs.Sites.{interrupt_of, task_of}
use Rattle.sample_gen.proofs.Made.{accepted_made, facts_made}
use Rattle.sample_gen.proofs.making.sample.Goals as goal

pub of-requires : goal.of-requires
of-requires c = accepted_made c.args.seed _ _ (ap (map task_of) c.as_slice.ensures.value ∙ c.in_ok-tasks.ensures.tasks) (ap (map interrupt_of) c.as_slice-2.ensures.value ∙ c.in_ok-lines.ensures)

pub of-requires-2 : goal.of-requires-2
of-requires-2 c = facts_made c.args.seed _ (c.as_slice-3.ensures.value ∙ c.in_ok-listed.ensures c.args.seed c.in_ok-tasks.ensures.next)
