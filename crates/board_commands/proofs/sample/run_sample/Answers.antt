use Rattle.std.proofs.Common.{inl, refl}
use Rattle.board_commands.proofs.Seeding.{answers_sample, sample_stood}
use Rattle.board_commands.proofs.sample.run_sample.Goals as goal

pub tell_sample-requires : goal.tell_sample-requires
tell_sample-requires g c =
    let stood = sample_stood c.args.seed c.in-Ok.board c.in-Ok.ensures.ready in
    record { stood = stood.0; fresh = stood.1; few = c.requires.few }

pub returns-in-Ok : goal.returns-in-Ok
returns-in-Ok g c = λ a b same.
    let w = g.S.Sink.seen c.args.out.now in
    let w' = g.S.Sink.seen c.tell_sample.new.out in
    answers_sample c.args.seed c.args.steps a b w w' c.in-Ok.board c.tell_sample.result same c.in-Ok.ensures.ready c.tell_sample.ensures

pub returns-in-Err : goal.returns-in-Err
returns-in-Err g c = λ a b same. inl (record { status = refl; written = refl; faults = refl; files = same })
