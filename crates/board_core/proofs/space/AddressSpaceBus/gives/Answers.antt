use Rattle.std.proofs.Common.{◌≡◌, ◌+◌, ◌*◌, ◌%◌, ◌^◌, ℕ, List, true, None, arith, ap, sym, ◌∙◌, subst}
use Rattle.region_check.specs.declared.Region.{Region}
use Rattle.task_table.specs.model.Reading.{setup_at}
use Rattle.task_table.specs.kept.Holds.{setup_of, current_of}
use Rattle.board_model.specs.Turn.{refusals}
use Rattle.region_check.specs.Spans.{one_gives}
use Rattle.region_check.proofs.Spanning.{given_none}
use Rattle.board_core.proofs.space.AddressSpaceBus.gives.Goals as goal

pub returns : goal.returns
returns boxes c = λ yes k lt.
    let a = c.args.addr in
    let near : (a + 4 * k) % 2 ^ 32 ≡ a + 4 * k = omega (arith, lt) in
    let P : ℕ → Type 0 = λ x. refusals (setup_of c.args.self.now.kernel) (current_of c.args.self.now.kernel) x 4 c.args.right ≡ None in
    let Q : List Region → Type 0 = λ rs. one_gives c.args.right a (4 * c.args.count) rs ≡ true in
    let K = c.args.self.now.kernel in
    let regions = c.regions-regions.ensures.value ∙ ap (λ (i : ℕ). (setup_at (setup_of K) i).regions) c.current.ensures.value in
    let one = subst Q regions (sym c.one_gives.ensures ∙ yes) in
    subst P (sym near) (given_none _ c.args.right a (4 * c.args.count) (a + 4 * k) 4 one (omega arith) (omega (arith, lt)))
