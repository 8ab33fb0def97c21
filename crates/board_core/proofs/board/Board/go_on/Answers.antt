use Rattle.std.proofs.Common.{◌≡◌, ◌-◌, ◌+◌, ℕ, suc, eqb, length, true, false, [], Option, Some, None, inr, not, sym, ◌∙◌, ap, subst, arith}
use Rattle.std.specs.Option.{is_some}
use Rattle.std.proofs.lemmas.Bool.{false≢true}
use Rattle.task_table.specs.model.State.{State}
use Rattle.board_model.specs.declared.outcomes.End.{End}
use Rattle.board_model.specs.declared.outcomes.Level.TheVariants.{Calls}
use Rattle.board_model.specs.Script.{Scenario}
use Rattle.board_model.specs.Run.{ending, turn_after}
use Rattle.board_core.specs.Stands.{notes_of, turns_of}
use Rattle.board_core.specs.fast.Advanced.{IsAdvanced}
use Rattle.board_core.proofs.Turning.{empty_of}
use Rattle.board_core.proofs.fast.Gliding.{joined}
use Rattle.board_core.specs.Data.{boxed}
use Rattle.board_core.proofs.board.Board.go_on.Goals as goal

goes_on : (x : Scenario) (s : State) (r : Option End) → r ≡ ending x 1 s → is_some r ≡ false → ending x 1 s ≡ None
goes_on x s None is none = sym is
goes_on x s (Some end) is none = absurd (false≢true (sym none))

pub ended-requires : goal.ended-requires
ended-requires boxes c =
    let x : Scenario = c.requires.stood.0 in
    let s : State = c.requires.stood.1 in
    (x, (turn_after Calls x (turns_of c.on.self - turns_of c.args.self.now - 1) s).state, (c.on.invariant.advanced x s c.requires.stood.2).stands)

pub advance_past-requires-in-on-clause-stood : goal.advance_past-requires-in-on-clause-stood
advance_past-requires-in-on-clause-stood boxes c =
    let x : Scenario = c.requires.stood.0 in
    let s : State = c.requires.stood.1 in
    (x, (turn_after Calls x (turns_of c.on.self - turns_of c.args.self.now - 1) s).state, (c.on.invariant.advanced x s c.requires.stood.2).stands)

pub on-preserved : goal.on-preserved
on-preserved boxes c =
    let shown = boxed (λ p. (goal.Device-dyn boxes p).shown p.1) in
    let inv = c.on.invariant in
    let b = c.args.self.now in
    let b1 = c.on.self in
    let b2 = c.advance_past-in-on.new.self in
    let none : notes_of b1 ≡ [] = sym c.notes.ensures ∙ empty_of c.notes.result.now (sym c.is_empty.ensures ∙ c.if-is_empty.true) in
    let from = inv.more in
    let more = c.advance_past-in-on.ensures.more in
    let n : ℕ = turns_of b1 - turns_of b - 1 in
    let m : ℕ = turns_of b2 - turns_of b1 - 1 in
    let e : n + suc m ≡ turns_of b2 - turns_of b - 1 = omega (arith, from, more) in
    record {
      advanced = λ x s st.
          let before = inv.advanced x s st in
          let u : State = (turn_after Calls x n s).state in
          let goes : ending x 1 u ≡ None = goes_on x u c.ended.result (c.ended.ensures.before x u 1 before.stands (omega arith)) (c.is_none.ensures ∙ ap not c.if-is_none.true) in
          subst (λ (k : ℕ). IsAdvanced shown Calls x k s b2) e (joined _ x n m s b1 b2 before none goes (c.advance_past-in-on.ensures.advanced x u before.stands));
      more = omega (arith, from, more);
      within = c.advance_past-in-on.ensures.within;
      noted = c.advance_past-in-on.ensures.noted;
    }

pub returns-else-is_none-clause-far : goal.returns-else-is_none-clause-far
returns-else-is_none-clause-far boxes c = λ x s st none few.
    let ends : c.ended.result ≡ ending x 1 s = c.ended.ensures.before x s 1 st (omega arith) in
    let some : is_some c.ended.result ≡ true = c.is_none.ensures ∙ ap not c.if-is_none.false in
    inr (λ goes. false≢true (sym (ap is_some (ends ∙ goes)) ∙ some))

pub returns-else-is_empty-clause-far : goal.returns-else-is_empty-clause-far
returns-else-is_empty-clause-far boxes c = λ x s st none few.
    absurd (false≢true (sym c.if-is_empty.false ∙ c.is_empty.ensures ∙ ap (λ notes. eqb (length notes) 0) (c.notes.ensures ∙ none)))

pub returns-after-on-clause-far : goal.returns-after-on-clause-far
returns-after-on-clause-far boxes c = λ x s st none few. absurd (omega (arith, few, c.on-test.false))
