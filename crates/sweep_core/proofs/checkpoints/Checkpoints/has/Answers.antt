use Rattle.std.proofs.Common.{◌≡◌, ◌∙◌, ◌<◌, ℕ, length, sym, subst, arith}
use Rattle.std.specs.List.{AllWithin}
use Rattle.std.proofs.lemmas.Bool.{false≢true}
use Rattle.std.proofs.lemmas.List.{get_or_default}
use Rattle.std.proofs.lemmas.List.Elements.{AllWithin-more}
use Rattle.sweep_core.specs.declared.checkpoints.Checkpoint.{Checkpoint}
use Rattle.sweep_core.specs.Leading.{IsSameAs}
use Rattle.sweep_core.proofs.checkpoints.Checkpoints.has.Goals as goal

pub returns-then-is_same-clause-some : goal.returns-then-is_same-clause-some
returns-then-is_same-clause-some c = λ found.
    let items = c.args.self.now.states.items in
    let lt : c.loop-k.k < length items = omega (arith, c.loop-k-test.true, c.args.self.now.within, c.args.self.now.states.ok.0) in
    record {
      place = c.loop-k.k;
      inside = omega (arith, c.loop-k-test.true);
      meeting = c.index.result.now;
      at = λ d. get_or_default items c.loop-k.k d _ lt ∙ sym c.index.ensures;
      same = c.is_same.ensures.same c.if-is_same.true;
    }

pub loop-k-preserved : goal.loop-k-preserved
loop-k-preserved c =
    let items = c.args.self.now.states.items in
    let lt : c.loop-k.k < length items = omega (arith, c.loop-k-test.true, c.args.self.now.within, c.args.self.now.states.ok.0) in
    let P : Checkpoint → Type 0 = λ m. IsSameAs c.args.heard.now c.args.state.now m → ⊥ in
    let Q : Checkpoint → Type 0 = λ m. IsSameAs c.args.heard.now c.args.state.now m in
    AllWithin-more P items 0 c.loop-k.k c.loop-k.invariant (λ d same. false≢true (sym c.if-is_same.false ∙ c.is_same.ensures.other (subst Q (get_or_default items c.loop-k.k d _ lt ∙ sym c.index.ensures) same)))

pub returns-clause-none : goal.returns-clause-none
returns-clause-none c = λ no.
    let P : Checkpoint → Type 0 = λ m. IsSameAs c.args.heard.now c.args.state.now m → ⊥ in
    let last : c.loop-k.k ≡ c.args.self.now.count = omega (arith, c.loop-k-test.false, c.loop-k.auto.k-end) in
    let Q : ℕ → Type 0 = λ n. AllWithin P c.args.self.now.states.items 0 n in
    subst Q last c.loop-k.invariant
