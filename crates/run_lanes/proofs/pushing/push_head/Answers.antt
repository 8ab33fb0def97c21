use Rattle.std.proofs.Common.{◌+◌, ◌++◌, length}
use Rattle.std.specs.Prelude.{string_bytes}
use Rattle.std.specs.List.{flat_map}
use Rattle.std.proofs.lemmas.Result.{err_from_is_err_and}
use Rattle.outside_io.proofs.Pushing.{front_more, front_wider}
use Rattle.run_lanes.specs.Timeline.{orders_text, outside_text}
use Rattle.run_lanes.proofs.pushing.push_head.Goals as goal

pub returns-in_err-push_lines-clause-bytes : goal.returns-in_err-push_lines-clause-bytes
returns-in_err-push_lines-clause-bytes g c =
    let p = err_from_is_err_and c.from_residual-in_err-push_lines.result c.from_residual-in_err-push_lines.ensures.1 in
    rw (p.1) (front_wider _ _ (outside_text ++ flat_map string_bytes c.args.lines.now) (orders_text (length c.args.lines.now + 1))
    (front_more _ _ _ outside_text (flat_map string_bytes c.args.lines.now) c.in_ok-push_outside.ensures.bytes c.in_err-push_lines.ensures.bytes))
