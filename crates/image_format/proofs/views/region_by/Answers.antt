use Rattle.std.proofs.Common.{◌≡◌, ◌∙◌, ◌<◌, ◌-◌, ℕ, Some, arith, ap, refl, sym, length}
use Rattle.std.specs.Prelude.{option_map, slice_get}
use Rattle.std.proofs.lemmas.Bool.{ltb-false, ltb-true}
use Rattle.std.proofs.lemmas.Option.{slice_get_past, slice_get_read}
use Rattle.image_format.specs.ImageData.{region_of}
use Rattle.image_format.proofs.Lookups.{region_numbered}
use Rattle.image_format.proofs.views.region_by.Goals as goal

pub returns-in-Some : goal.returns-in-Some
returns-in-Some c =
    let own = c.args.own.now in
    let some : 0 < c.args.number = omega (arith, c.if-number-eq0.false) in
    let there : c.from.result - 1 < length own = ltb-true _ _ (sym c.in-Some.ensures.lookup.0) in
    let is : slice_get own (c.from.result - 1) ≡ Some c.in-Some.region.now = slice_get_read own (length own) _ _ refl there c.in-Some.ensures.lookup.1 in
    ap Some c.region_of.ensures ∙ ap (option_map region_of) (sym is)
    ∙ ap (λ (n : ℕ). option_map region_of (slice_get own (n - 1))) c.from.ensures
    ∙ sym (region_numbered own c.args.number some)

pub returns-in-None : goal.returns-in-None
returns-in-None c =
    let own = c.args.own.now in
    let some : 0 < c.args.number = omega (arith, c.if-number-eq0.false) in
    let past = ltb-false _ _ (sym c.in-None.ensures.lookup.0) in
    ap (option_map region_of) (sym (slice_get_past own (c.from.result - 1) past))
    ∙ ap (λ (n : ℕ). option_map region_of (slice_get own (n - 1))) c.from.ensures
    ∙ sym (region_numbered own c.args.number some)
