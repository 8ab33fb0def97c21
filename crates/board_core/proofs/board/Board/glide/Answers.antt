use Rattle.std.proofs.Common.{◌≡◌, ℕ, Bool, true, false, Some, sym, ◌∙◌, subst, arith}
use Rattle.board_core.specs.fast.Advanced.{IsFar, state_now}
use Rattle.board_core.proofs.fast.Gliding.{none_made}
use Rattle.board_core.specs.fast.Stops.{stops_at}
use Rattle.board_core.proofs.board.Board.glide.Goals as goal

pub returns-then-self-until-clause-fast : goal.returns-then-self-until-clause-fast
returns-then-self-until-clause-fast boxes c = record { glided = λ x s st. none_made _ _ x s c.args.self.now st; more = omega arith; within = λ less. less }

pub returns-in-None-clause-fast : goal.returns-in-None-clause-fast
returns-in-None-clause-fast boxes c = c.idle_on.ensures.fast (stops_at c.args.breakpoints.now c.args.watched)

pub returns-then-glide_on-clause-fast : goal.returns-then-glide_on-clause-fast
returns-then-glide_on-clause-fast boxes c = c.glide_on.ensures.fast

pub returns-else-glide_on-clause-fast : goal.returns-else-glide_on-clause-fast
returns-else-glide_on-clause-fast boxes c = c.glide_on.ensures.fast

pub returns-then-glide_on-clause-far : goal.returns-then-glide_on-clause-far
returns-then-glide_on-clause-far boxes c = λ x s i st is up lt.
    let task = c.in-Some.task in
    let u = state_now x c.args.self.now s c.glide_on.new.self in
    let both : Some task ≡ Some i = sym c.in-Some.is ∙ st.holds.choice.next ∙ is in
    let same : task ≡ i = cc in
    subst (λ (k : ℕ). IsFar (stops_at c.args.breakpoints.now c.args.watched) x k s u true) same (subst (λ (calls : Bool). IsFar (stops_at c.args.breakpoints.now c.args.watched) x task s u calls) c.if-glide_on.true (c.glide_on.ensures.far x s st lt))

pub returns-else-glide_on-clause-far : goal.returns-else-glide_on-clause-far
returns-else-glide_on-clause-far boxes c = λ x s i st is up lt.
    let task = c.in-Some.task in
    let u = state_now x c.args.self.now s c.glide_on.new.self in
    let both : Some task ≡ Some i = sym c.in-Some.is ∙ st.holds.choice.next ∙ is in
    let same : task ≡ i = cc in
    subst (λ (k : ℕ). IsFar (stops_at c.args.breakpoints.now c.args.watched) x k s u false) same (subst (λ (calls : Bool). IsFar (stops_at c.args.breakpoints.now c.args.watched) x task s u calls) c.if-glide_on.false (c.glide_on.ensures.far x s st lt))
