use Rattle.std.proofs.Common.{◌≡◌, ◌+◌, ℕ, Option, refl, subst, arith}
use Rattle.std.specs.Prelude.{MatchOption, vec_len}
use Rattle.run_cover.proofs.Marking.{next_is}
use Rattle.run_cover.proofs.known.Marks.next.Goals as goal

pub returns : goal.returns
returns c =
    let t = c.args.self.now in
    next_is t _ c.pop.result c.requires c.pop.ensures.items refl c.pop.ensures.capacity
    (λ e.
    let both = subst (λ (o : Option ℕ). MatchOption o ((vec_len t.todo ≡ 0) × (vec_len c.pop.new.self ≡ 0)) (λ _. vec_len c.pop.new.self + 1 ≡ vec_len t.todo)) e c.pop.ensures.cases in
    omega (arith, both.0, t.todo.ok.0))
