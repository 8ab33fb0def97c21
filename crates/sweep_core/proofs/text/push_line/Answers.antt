use Rattle.std.proofs.Common.{◌≡◌, subst, rules}
use Rattle.std.specs.Io.KnownBytes.{Appends}
use Rattle.outside_io.proofs.Pushing.{pushes_kept}
use Rattle.sweep_core.proofs.text.push_line.Goals as goal

pub returns-clause-bytes : goal.returns-clause-bytes
returns-clause-bytes g c =
    let line : c.as_bytes.result.now ≡ c.args.line.now.bytes = search rules in
    pushes_kept _ _ _ c.args.line.now.bytes c.flush.result
    (subst (Appends (g.S.Sink.seen c.args.out.now).written (g.S.Sink.seen c.push.new.self).written) line c.in_ok-push.ensures.bytes) c.flush.ensures.written
