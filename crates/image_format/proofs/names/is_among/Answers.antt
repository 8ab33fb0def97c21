use Rattle.std.proofs.Common.{◌∙◌, ◌-◌, ◌+◌, ℕ, List, Bool, refl, sym, ap}
use Rattle.std.specs.List.{list_any}
use Rattle.image_format.specs.Names.{names_of, same_name}
use Rattle.image_format.proofs.Named.{among_step}
use Rattle.image_format.proofs.names.is_among.Goals as goal

pub loop-k-preserved : goal.loop-k-preserved
loop-k-preserved c =
    let p : List ℕ → Bool = λ other. same_name other c.args.name.now in
    let m = c.args.n - (c.loop-k.k + 1) in
    c.loop-k.invariant ∙ among_step p c.args.n c.loop-k.k m c.loop-k.rest.now c.loop-k-test.true refl (ap p (sym c.split_name.ensures.name) ∙ sym c.if-eq.ensures)
    ∙ ap (λ (r : List ℕ). list_any p (names_of m r)) (sym c.split_name.ensures.rest)
