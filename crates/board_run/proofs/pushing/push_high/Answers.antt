use Rattle.std.proofs.Common.{◌∙◌, ℕ, List, subst}
use Rattle.outside_io.specs.Outside.{Pushes}
use Rattle.board_run.proofs.pushing.push_high.Goals as goal

pub returns-clause-bytes : goal.returns-clause-bytes
returns-clause-bytes g c =
    let P : List ℕ → Type 0 = λ w. Pushes (g.S.Sink.seen c.args.out.now).written (g.S.Sink.seen c.push.new.self).written w c.push.result in
    subst P (c.as_bytes.ensures.value ∙ c.as_str.ensures.value ∙ c.high_line.ensures) c.push.ensures.bytes

pub returns-clause-cause : goal.returns-clause-cause
returns-clause-cause g c = c.push.ensures.cause
