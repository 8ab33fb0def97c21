use Rattle.run_cover.proofs.Marking.{unmarked}
use Rattle.run_cover.proofs.known.Marks.open.Goals as goal

pub returns : goal.returns
returns c = unmarked _ _ (c.in_ok-known.ensures.items_if_clones_equal (λ y e. e)) c.in_ok-todo.ensures.items c.in_ok-todo.ensures.capacity
