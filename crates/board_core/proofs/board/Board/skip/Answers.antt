use Rattle.std.proofs.Common.{◌+◌, ◌-◌, ◌≡◌, ℕ, ◌∙◌, subst, arith}
use Rattle.board_model.specs.declared.outcomes.Level.TheVariants.{Calls}
use Rattle.board_core.specs.Stands.{Stands, turns_of}
use Rattle.board_model.specs.Run.{state_after}
use Rattle.board_core.proofs.Turning.{rested}
use Rattle.board_core.proofs.fast.Skipping.{quiet_begun, begun_board, skipped, not_due}
use Rattle.board_core.specs.Data.{boxed}
use Rattle.board_core.proofs.board.Board.skip.Goals as goal

pub returns-clause-model : goal.returns-clause-model
returns-clause-model boxes c =
    let shown = boxed (λ p. (goal.Device-dyn boxes p).shown p.1) in
    λ x s st.
    let b = c.args.self.now in
    let m = c.begin.new.self in
    let to : ℕ = c.args.to in
    let idle = c.requires.idle x s st in
    let begun = c.begin.ensures.holds x.setup (rested b.machine s) st.holds.machine in
    let from = c.requires.from in
    let at = st.holds.turns in
    let e : turns_of b + (to - s.turn) ≡ to = omega (arith, from, at) in
    let few = c.requires.few in
    let done = skipped _ x s record b { machine = m } (to - s.turn) (begun_board _ x s b m st begun) (quiet_begun _ x s m begun) (st.holds.choice.next ∙ idle.none) (λ turn lt. not_due x.script s.turn to b.due st.holds.due idle.nothing turn (omega (arith, lt, e))) (omega (arith, few, e)) in
    subst (λ (n : ℕ). Stands shown x record b { machine = m; turns = n } (state_after Calls x (to - s.turn) s)) e done

pub returns-clause-nothing : goal.returns-clause-nothing
returns-clause-nothing boxes c =
    let x = c.requires.stood.0 in
    let s = c.requires.stood.1 in
    let st = c.requires.stood.2 in
    quiet_begun _ x s c.begin.new.self (c.begin.ensures.holds x.setup (rested c.args.self.now.machine s) st.holds.machine)
