use Rattle.std.proofs.Common.{◌≡◌, ◌-◌, ℕ, sym, arith, subst}
use Rattle.board_model.specs.declared.outcomes.Level.{Level}
use Rattle.board_core.specs.Stands.{turns_of}
use Rattle.board_core.specs.fast.Advanced.{IsAdvanced}
use Rattle.board_core.proofs.fast.Gliding.{first_turn}
use Rattle.board_core.specs.Data.{boxed}
use Rattle.board_core.proofs.board.Board.advance.Goals as goal

pub returns-in-Calls-clause-advanced : goal.returns-in-Calls-clause-advanced
returns-in-Calls-clause-advanced boxes c =
    let shown = boxed (λ p. (goal.Device-dyn boxes p).shown p.1) in
    λ x s st.
    let b = c.go_on.new.self in
    let n : ℕ = turns_of b - turns_of c.args.self.now - 1 in
    subst (λ (l : Level). IsAdvanced shown l x n s b) (sym c.in-Calls.is) (c.go_on.ensures.advanced x s st)

pub returns-in-Calls-clause-far : goal.returns-in-Calls-clause-far
returns-in-Calls-clause-far boxes c = λ brief. c.go_on.ensures.far

pub returns-in-All-clause-advanced : goal.returns-in-All-clause-advanced
returns-in-All-clause-advanced boxes c =
    let shown = boxed (λ p. (goal.Device-dyn boxes p).shown p.1) in
    λ x s st.
    let b = c.turn_at.new.self in
    let first : IsAdvanced shown c.args.level x 0 s b = subst (λ (l : Level). IsAdvanced shown l x 0 s b) (sym c.in-All.is) (first_turn _ _ x s b (c.turn_at.ensures.model x s st) (c.turn_at.ensures.notes x s st)) in
    let e : 0 ≡ turns_of b - turns_of c.args.self.now - 1 = omega (arith, c.turn_at.ensures.turns) in
    subst (λ (k : ℕ). IsAdvanced shown c.args.level x k s b) e first
