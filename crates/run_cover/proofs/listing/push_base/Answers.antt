use Rattle.std.proofs.Common.{◌≡◌, Some, ◌∙◌, sym, subst, ℕ}
use Rattle.run_cover.specs.Text.{code_at, base_of}
use Rattle.run_cover.proofs.listing.push_base.Goals as goal

pub returns-in-Some-clause-bytes : goal.returns-in-Some-clause-bytes
returns-in-Some-clause-bytes g c = λ x s st.
    let is : code_at x.setup (base_of c.args.i) ≡ Some c.in-Some.region = subst (λ (b : ℕ). code_at x.setup b ≡ Some c.in-Some.region) c.base_of.ensures.is (sym (c.code_at.ensures.found x s st) ∙ c.in-Some.is) in
    rw is (c.push_region.ensures.bytes x s st)
