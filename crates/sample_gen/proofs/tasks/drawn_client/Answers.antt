use Rattle.std.proofs.Common.{ℕ, ◌≡◌, ◌≤◌, ◌+◌, ap}
use Rattle.sample_gen.specs.Draws.{number}
use Rattle.sample_gen.specs.Sample.{draws_before, first_draw}
use Rattle.sample_gen.proofs.Drawn.{Five, drawn, five_draws}
use Rattle.sample_gen.proofs.tasks.drawn_client.Goals as goal

five : (c : goal.After-draw-period) (seed i : ℕ) → 8 ≤ i → c.args.numbers.now.last ≡ number seed (draws_before i) → Five seed i c.args.numbers.now.last c.draw.new.self.last c.draw-server.new.self.last c.draw-operation.new.self.last c.draw-size.new.self.last c.draw-period.new.self.last
five c seed i h e = five_draws seed i _ _ _ _ _ _ h e c.draw.ensures.next c.draw-server.ensures.next c.draw-operation.ensures.next c.draw-size.ensures.next c.draw-period.ensures.next

pub returns-clause-next : goal.returns-clause-next
returns-clause-next c = λ seed i h e. (five c seed i h e).last

pub returns-clause-drawn : goal.returns-clause-drawn
returns-clause-drawn c = λ seed i h e.
    let f = five c seed i h e in (
      ap (λ n. 2 + n) (drawn seed _ (first_draw i) 4 _ f.a c.draw.ensures.drawn),
      ap (λ n. 1 + n) (drawn seed _ (first_draw i + 1) 7 _ f.b c.draw-server.ensures.drawn),
      drawn seed _ (first_draw i + 2) 6 _ f.c c.draw-operation.ensures.drawn,
      drawn seed _ (first_draw i + 3) 33 _ f.d c.draw-size.ensures.drawn,
      ap (λ n. 1 + n) (drawn seed _ (first_draw i + 4) 8 _ f.e c.draw-period.ensures.drawn),
    )
