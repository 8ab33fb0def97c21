use Rattle.std.proofs.Common.{◌≡◌, ◌∙◌, ◌++◌, ℕ, length, take, drop, ap, sym, subst, arith}
use Rattle.std.proofs.Math.Seq.{take-append_seam}
use Rattle.board_model.specs.Alike.{reduced}
use Rattle.snapshot.specs.Saved.{SpellsState}
use Rattle.snapshot.proofs.saving.save_over.Goals as goal

pub returns-clause-spelled : goal.returns-clause-spelled
returns-clause-spelled boxes c = λ x s st.
    let bytes = c.args.saved.now in
    let written = c.save_into.new.out in
    let rest = drop (length written) bytes.items in
    let long : bytes.len ≡ length written = omega (arith, c.save_into.auto.out, c.as_mut_slice.ensures.len, bytes.ok.0) in
    subst (SpellsState x.setup (reduced s)) (sym (ap (λ (n : ℕ). take n (written ++ rest)) long ∙ take-append_seam written rest)) (c.save_into.ensures x s st)
