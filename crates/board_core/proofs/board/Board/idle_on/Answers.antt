use Rattle.std.proofs.Common.{◌-◌, ◌≡◌, ℕ, true, false, sym, ◌∙◌, ap, subst, arith}
use Rattle.std.proofs.lemmas.Bool.{false≢true}
use Rattle.run_script.specs.Scripts.{ScriptData, lasts}
use Rattle.board_core.specs.Stands.{turns_of}
use Rattle.board_core.specs.fast.Advanced.{HasGlidden}
use Rattle.board_core.proofs.fast.Gliding.{none_made}
use Rattle.board_core.proofs.fast.Skipping.{idle_board_until, idle_made}
use Rattle.board_core.specs.Data.{boxed}
use Rattle.board_core.proofs.board.Board.idle_on.Goals as goal

pub skip-requires-clause-idle : goal.skip-requires-clause-idle
skip-requires-clause-idle boxes c = let r = c.requires in λ x s st. idle_board_until _ x s c.args.self.now c.args.until st r.next r.up r.may.later r.may.few

pub returns-then-lasts-clause-fast : goal.returns-then-lasts-clause-fast
returns-then-lasts-clause-fast boxes c =
    let shown = boxed (λ p. (goal.Device-dyn boxes p).shown p.1) in
    let b = c.args.self.now in
    let b' = c.skip.new.self in
    let to : ℕ = c.args.until in
    let r = c.requires in
    let made = c.skip.ensures in
    λ stops.
    record {
      glided = λ x s st.
          let at = st.holds.turns in
          let idle = idle_board_until _ x s b to st r.next r.up r.may.later r.may.few in
          let more : lasts x.script to ≡ true = ap (λ (script : ScriptData). lasts script to) (sym st.holds.script) ∙ sym c.lasts.ensures ∙ c.if-lasts.true in
          let e : to - s.turn ≡ turns_of b' - turns_of b = omega (arith, at, made.turns) in
          subst (λ (n : ℕ). HasGlidden shown stops x s n b') e (idle_made _ stops x s to b' idle (omega (arith, at, r.left)) more (made.model x s st) made.nothing);
      more = omega (arith, r.left, made.turns);
      within = λ less. omega (arith, made.turns);
    }

pub returns-else-lasts-clause-fast : goal.returns-else-lasts-clause-fast
returns-else-lasts-clause-fast boxes c = λ stops. record { glided = λ x s st. none_made _ stops x s c.args.self.now st; more = omega arith; within = λ less. less }

pub returns-else-lasts-clause-idle : goal.returns-else-lasts-clause-idle
returns-else-lasts-clause-idle boxes c = λ x s st more.
    let none : lasts x.script c.args.until ≡ false = ap (λ (script : ScriptData). lasts script c.args.until) (sym st.holds.script) ∙ sym c.lasts.ensures ∙ c.if-lasts.false in
    absurd (false≢true (sym none ∙ more))
