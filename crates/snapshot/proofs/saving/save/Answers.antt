use Rattle.std.proofs.Common.{◌≡◌, ◌∙◌, ◌++◌, ℕ, length, take, drop, ap, sym, subst, arith}
use Rattle.std.proofs.Math.Seq.{take-append_seam}
use Rattle.board_model.specs.Alike.{reduced}
use Rattle.snapshot.specs.Saved.{SpellsState}
use Rattle.snapshot.proofs.saving.save.Goals as goal

pub returns : goal.returns
returns g c = λ x s st.
    let written = c.save_into.new.out in
    let rest = drop (length written) c.in_ok-bytes.bytes.items in
    let long : c.in_ok-bytes.bytes.len ≡ length written = omega (arith, c.save_into.auto.out, c.deref_mut.ensures.len, c.in_ok-bytes.bytes.ok) in
    subst (SpellsState x.setup (reduced s)) (sym (ap (λ (n : ℕ). take n (written ++ rest)) long ∙ take-append_seam written rest)) (c.save_into.ensures x s st)
