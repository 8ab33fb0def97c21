use Rattle.std.proofs.Common.{◌∙◌, ◌<◌, length, refl, ap, arith}
use Rattle.board_model.specs.Script.{start_of}
use Rattle.debug_core.specs.declared.replay.Checkpoint.{Checkpoint}
use Rattle.debug_core.proofs.Standing.{opened_at}
use Rattle.debug_core.proofs.replay.Replay.open.Goals as goal

pub save-requires : goal.save-requires
save-requires boxes c =
    let x = c.requires.0 in
    let kept = c.in_ok-kept.ensures in
    let count = kept.count in
    let some : 0 < length c.in_ok-kept.kept.items = omega arith in
    let long = ap (λ (k : Checkpoint). length k.bytes.items) c.index_mut.ensures.value ∙ kept.room 0 c.index_mut.result.now some in
    record { room = (x, start_of x, c.requires.1, long ∙ c.saved_len.ensures x (start_of x) c.requires.1) }

pub returns : goal.returns
returns boxes c = λ x st.
    opened_at _ x c.args.board c.in_ok-kept.kept _ c.save.new.checkpoint st c.in_ok-kept.ensures.count c.in_ok-kept.ensures.free refl c.save.ensures.turn (c.save.ensures.spelled x (start_of x) st)
