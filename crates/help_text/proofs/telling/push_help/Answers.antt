use Rattle.std.proofs.Common.{◌≡◌, ◌∙◌, ◌<◌, ℕ, List, Bor, ap, arith, length, map, subst, sym, take}
use Rattle.std.specs.List.{flat_map}
use Rattle.std.specs.Io.KnownBytes.{Appends}
use Rattle.std.proofs.Math.Seq.{take-length}
use Rattle.std.proofs.lemmas.Result.{err_from_is_err_and}
use Rattle.outside_io.specs.Outside.{Pushes}
use Rattle.outside_io.proofs.Pushing.{each_fails}
use Rattle.help_text.specs.Help.{parts_of, text}
use Rattle.help_text.proofs.Joined.{joined, joined_each}
use Rattle.help_text.proofs.telling.push_help.Goals as goal

same_text : (parts : List (Bor (List (Bor (List ℕ))))) (lines : List (List (List ℕ))) → map (λ part. map (λ line. line.now) part.now) parts ≡ lines
    → flat_map (λ part. flat_map (λ line. line.now) part.now) parts ≡ flat_map text lines
same_text parts lines same =
    sym (joined_each (λ part. map (λ line. line.now) part.now) (λ part. flat_map (λ line. line.now) part.now) parts (λ part. joined (λ line. line.now) part.now)) ∙ ap (flat_map text) same

pub returns-in_err-push_lines-clause-bytes : goal.returns-in_err-push_lines-clause-bytes
returns-in_err-push_lines-clause-bytes g c =
    let p = err_from_is_err_and c.from_residual.result c.from_residual.ensures.1 in
    let parts = c.parts-part-items.result.now in
    let within : c.loop-part.part-index < length parts = omega (arith, c.loop-part-test.true) in
    subst (λ (t : List ℕ). Pushes (g.S.Sink.seen c.args.out.now).written (g.S.Sink.seen c.push_lines.new.out).written t c.from_residual.result) (same_text parts (parts_of c.args.about) c.parts-part-items.ensures)
    (each_fails (λ part. flat_map (λ line. line.now) part.now) parts c.loop-part.part-index _ _ _ _ c.from_residual.result p.0 p.1 within c.loop-part.invariant.pushed c.in_err-push_lines.ensures.bytes)

pub returns-clause-bytes : goal.returns-clause-bytes
returns-clause-bytes g c =
    let parts = c.parts-part-items.result.now in
    let all : c.loop-part.part-index ≡ length parts = omega (arith, c.loop-part.auto.part-index-end, c.loop-part-test.false) in
    let P : List ℕ → Type 0 = λ t. Appends (g.S.Sink.seen c.args.out.now).written (g.S.Sink.seen c.loop-part.out).written t in
    let whole : P (flat_map (λ part. flat_map (λ line. line.now) part.now) parts) =
    subst (λ (taken : List (Bor (List (Bor (List ℕ))))). P (flat_map (λ part. flat_map (λ line. line.now) part.now) taken)) (ap (λ n. take n parts) all ∙ take-length parts) c.loop-part.invariant.pushed in
    subst P (same_text parts (parts_of c.args.about) c.parts-part-items.ensures) whole
