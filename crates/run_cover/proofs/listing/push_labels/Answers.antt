use Rattle.std.proofs.Common.{◌≤◌, length, subst, sym, arith, ℕ, List}
use Rattle.std.specs.Io.KnownBytes.{Appends}
use Rattle.std.specs.List.{flat_map}
use Rattle.std.proofs.lemmas.Result.{err_from_is_err_and}
use Rattle.std.proofs.lemmas.List.{take_all}
use Rattle.std.proofs.lemmas.List.Folds.{flat_map-map}
use Rattle.outside_io.specs.Outside.{AppendsFront, Pushes}
use Rattle.outside_io.proofs.Pushing.{each_fails}
use Rattle.thumb_asm.specs.declared.listing.Label.{Label}
use Rattle.thumb_asm.specs.Listed.{label_of}
use Rattle.run_cover.specs.Text.{label_at, labels_text}
use Rattle.run_cover.proofs.listing.push_labels.Goals as goal

pub returns-in_err-push_label-clause-bytes : goal.returns-in_err-push_label-clause-bytes
unfolding labels_text
returns-in_err-push_label-clause-bytes g c =
    let p = err_from_is_err_and c.from_residual.result c.from_residual.ensures.1 in
    let ls = c.args.labels.now in
    subst (λ (t : List ℕ). Pushes (g.S.Sink.seen c.args.out.now).written (g.S.Sink.seen c.push_label.new.out).written t c.from_residual.result) (sym (flat_map-map (label_at c.args.addr) label_of ls))
    (each_fails (λ x. label_at c.args.addr (label_of x)) ls c.loop-label.label-index c.label-item.result _ _ _ c.from_residual.result p.0 p.1 (omega (arith, c.loop-label-test.true)) c.loop-label.invariant.pushed
    (subst (λ (l : Label). AppendsFront (g.S.Sink.seen c.loop-label.out).written (g.S.Sink.seen c.push_label.new.out).written (label_at c.args.addr (label_of l))) c.label-item.is c.in_err-push_label.ensures.bytes))

pub returns-clause-bytes : goal.returns-clause-bytes
unfolding labels_text
returns-clause-bytes g c =
    let ls = c.args.labels.now in
    let end : length ls ≤ c.loop-label.label-index = omega (arith, c.loop-label-test.false) in
    let P : List ℕ → Type 0 = λ t. Appends (g.S.Sink.seen c.args.out.now).written (g.S.Sink.seen c.loop-label.out).written t in
    subst P (sym (flat_map-map (label_at c.args.addr) label_of ls))
    (subst (λ (taken : List Label). P (flat_map (λ x. label_at c.args.addr (label_of x)) taken)) (take_all c.loop-label.label-index ls end) c.loop-label.invariant.pushed)
