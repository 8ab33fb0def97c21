use Rattle.trace_cli.proofs.Rerunning.{build_then_run}
use Rattle.trace_cli.proofs.laws.build_then_run_is_go.Goals as goal

pub returns : goal.returns
returns c = λ devices. build_then_run {devices = devices}
