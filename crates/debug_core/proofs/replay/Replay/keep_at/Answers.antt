use Rattle.std.proofs.Common.{◌∙◌, ◌<◌, length, refl, sym, ap, arith}
use Rattle.std.proofs.lemmas.List.{get_or_default}
use Rattle.debug_core.specs.declared.replay.Checkpoint.{Checkpoint}
use Rattle.debug_core.proofs.Standing.{is_kept, with_checkpoint}
use Rattle.debug_core.proofs.replay.Replay.keep_at.Goals as goal

pub save-requires : goal.save-requires
save-requires boxes c =
    let r = c.requires.at in
    let h = r.2 in
    let kept = c.args.self.now.kept.items in
    let count = h.count in
    let lt : c.args.place < length kept = omega (arith, c.requires.inside) in
    let same = c.index_mut.ensures.value ∙ get_or_default kept c.args.place _ c.index.result.now lt ∙ sym c.index.ensures in
    let long = ap (λ (k : Checkpoint). length k.bytes.items) same in
    let len = c.saved_len.ensures r.0 h.state.0 h.state.1 in
    record { room = (r.0, h.state.0, h.state.1, omega (arith, long, len, c.index.result.now.bytes.ok.0, c.len.ensures, c.if-len-saved_len.true)) }

pub returns-then-len-saved_len-clause-at : goal.returns-then-len-saved_len-clause-at
returns-then-len-saved_len-clause-at boxes c = λ x turn h.
    let made = c.save.new.checkpoint in
    with_checkpoint _ x c.args.self.now turn c.args.place _ made h c.requires.behind refl
    (is_kept _ x c.args.self.now turn made h c.save.ensures.turn (λ s st. c.save.ensures.spelled x s st))
