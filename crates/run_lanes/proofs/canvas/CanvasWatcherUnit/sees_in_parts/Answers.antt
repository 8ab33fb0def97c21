use Rattle.std.proofs.Common.{◌++◌, List, append_assoc, length-append, subst, sym, arith}
use Rattle.std.proofs.lemmas.List.{append-nil}
use Rattle.run_lanes.specs.Painted.{Painted}
use Rattle.run_lanes.specs.Activities.{TurnSight}
use Rattle.run_lanes.proofs.canvas.CanvasWatcherUnit.sees_in_parts.Goals as goal

pub returns-clause-nothing : goal.returns-clause-nothing
returns-clause-nothing c = λ w o tasks front le p.
    let P : List TurnSight → Type 0 = λ l. Painted tasks w l in
    subst P (sym (append-nil front)) p

pub returns-clause-parts : goal.returns-clause-parts
returns-clause-parts c = λ u v w o p q a b h k tasks front le painted.
    let P : List TurnSight → Type 0 = λ l. Painted tasks w l in
    subst P (append_assoc front a b) (k tasks (front ++ a) (omega (arith, length-append a b, length-append front a)) (h tasks front (omega (arith, length-append a b)) painted))

pub returns-clause-fails : goal.returns-clause-fails
returns-clause-fails c = λ u v w o p q a b h k. k
