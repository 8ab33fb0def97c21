use Rattle.std.proofs.Common.{ℕ, Option, subst}
use Rattle.run_script.specs.Next.{IsNextBy}
use Rattle.run_script.proofs.Coming.{second_before}
use Rattle.run_script.proofs.turns.lesser.Goals as goal

pub returns-else-turn-next : goal.returns-else-turn-next
returns-else-turn-next c = λ happens too from a b.
    let one : Option ℕ → Type 0 = λ o. IsNextBy happens from o in
    let other : Option ℕ → Type 0 = λ o. IsNextBy too from o in
    second_before happens too from c.in-Some-Some.turn c.in-Some-Some.next c.if-turn-next.false (subst one c.in-Some-Some.is-0 a) (subst other c.in-Some-Some.is-1 b)
