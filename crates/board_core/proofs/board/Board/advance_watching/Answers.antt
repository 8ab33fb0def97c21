use Rattle.std.specs.Prelude.{is_some}
use Rattle.std.proofs.Common.{Some, ◌≡◌, ◌≢◌, ◌-◌, ℕ, Bool, refl, [], suc, arith, ap, subst}
use Rattle.run_script.specs.Scripts.{events_of}
use Rattle.task_table.specs.model.State.{State}
use Rattle.board_model.specs.declared.outcomes.Level.TheVariants.{Calls}
use Rattle.board_model.specs.Run.{state_after}
use Rattle.board_core.specs.declared.board.Board.{Board}
use Rattle.board_core.specs.Stands.{turns_of}
use Rattle.board_core.specs.fast.Advanced.{IsAdvanced, HasGlidden, IsFar, NeedsTurn}
use Rattle.board_core.specs.Changes.{change_in}
use Rattle.board_core.specs.fast.Stops.{stops_at}
use Rattle.board_core.proofs.fast.Gliding.{one_more, all_made, below_limit, either_way}
use Rattle.board_core.proofs.Changing.{no_change_in}
use Rattle.board_core.proofs.fast.Skipping.{lasts_from, due_now}
use Rattle.board_core.specs.Data.{boxed}
use Rattle.board_core.proofs.board.Board.advance_watching.Goals as goal

pub turn_watching-requires-clause-stood : goal.turn_watching-requires-clause-stood
turn_watching-requires-clause-stood boxes c =
    let x = c.requires.stood.0 in
    let s = c.requires.stood.1 in
    (x, state_after Calls x (turns_of c.glide.new.self - turns_of c.args.self.now) s, (c.glide.ensures.fast.glided x s c.requires.stood.2).stands)

pub returns-clause-advanced : goal.returns-clause-advanced
returns-clause-advanced boxes c =
    let shown = boxed (λ p. (goal.Device-dyn boxes p).shown p.1) in
    λ x s st.
    let b = c.args.self.now in
    let b1 = c.glide.new.self in
    let b2 = c.turn_watching.new.self in
    let n : ℕ = turns_of b1 - turns_of b in
    let u : State = state_after Calls x n s in
    let made = c.glide.ensures.fast.glided x s st in
    let e : n ≡ turns_of b2 - turns_of b - 1 = omega (arith, c.glide.ensures.fast.more, c.turn_watching.ensures.turns) in
    subst (λ (k : ℕ). IsAdvanced shown Calls x k s b2) e (one_more shown (stops_at [] (Some c.args.at)) x n s b1 b2 made (c.turn_watching.ensures.model x u made.stands) (c.turn_watching.ensures.notes x u made.stands))

pub returns-then-self-limit-clause-advanced : goal.returns-then-self-limit-clause-advanced
returns-then-self-limit-clause-advanced boxes c =
    let shown = boxed (λ p. (goal.Device-dyn boxes p).shown p.1) in
    λ x s st.
    let b = c.args.self.now in
    let b1 = c.glide.new.self in
    let n : ℕ = turns_of b1 - turns_of b - 1 in
    let e : turns_of b1 - turns_of b ≡ suc n = omega (arith, c.if-self-limit.true, c.requires.left) in
    all_made _ (stops_at [] (Some c.args.at)) x n s b1 (subst (λ (k : ℕ). HasGlidden shown (stops_at [] (Some c.args.at)) x s k b1) e (c.glide.ensures.fast.glided x s st))

pub returns-then-self-limit-clause-within : goal.returns-then-self-limit-clause-within
returns-then-self-limit-clause-within boxes c =
    below_limit c.quiet_until.result (turns_of c.args.self.now) (turns_of c.glide.new.self) c.args.limit c.glide.ensures.fast.within (λ h. ap (λ (b : Board _ _). turns_of b) (c.glide.ensures.stays h)) (omega (arith, c.quiet_until.ensures.within, c.requires.left)) c.requires.left

pub returns-then-self-limit-clause-noted : goal.returns-then-self-limit-clause-noted
returns-then-self-limit-clause-noted boxes c =
    let made = c.glide.ensures.fast.glided c.requires.stood.0 c.requires.stood.1 c.requires.stood.2 in
    rw (made.notes (omega (arith, c.if-self-limit.true, c.requires.left))) (omega arith)

pub returns-clause-needed : goal.returns-clause-needed
returns-clause-needed boxes c = λ x s task st is up lt.
    let b = c.args.self.now in
    let b1 = c.glide.new.self in
    let b2 = c.turn_watching.new.self in
    let until : ℕ = c.quiet_until.result in
    let n : ℕ = turns_of b1 - turns_of b in
    let u : State = state_after Calls x n s in
    let e : n ≡ turns_of b2 - turns_of b - 1 = omega (arith, c.glide.ensures.fast.more, c.turn_watching.ensures.turns) in
    let made = c.glide.ensures.fast.glided x s st in
    subst (λ (k : ℕ). NeedsTurn (stops_at [] (Some c.args.at)) x task s (state_after Calls x k s)) e
    (either_way (turns_of b1) until ((calls : Bool) × IsFar (stops_at [] (Some c.args.at)) x task s u calls) (events_of x.script u.turn ≢ []) (λ less. (is_some c.glide.result, c.glide.ensures.far x s task st is up less))
    (λ over. due_now x s u b.due (turns_of b) (turns_of b1) until c.args.limit st.holds.due c.quiet_until.ensures.met st.holds.turns made.stands.holds.turns c.glide.ensures.fast.within over (omega (arith, c.if-self-limit.false))))

pub returns-clause-idle : goal.returns-clause-idle
returns-clause-idle boxes c = λ x s st none up more lt.
    let b = c.args.self.now in
    let b1 = c.glide.new.self in
    let b2 = c.turn_watching.new.self in
    let until : ℕ = c.quiet_until.result in
    let n : ℕ = turns_of b1 - turns_of b in
    let u : State = state_after Calls x n s in
    let e : n ≡ turns_of b2 - turns_of b - 1 = omega (arith, c.glide.ensures.fast.more, c.turn_watching.ensures.turns) in
    let made = c.glide.ensures.fast.glided x s st in
    let over = c.glide.ensures.idle x s st none up (lasts_from x.script until c.args.limit (omega (arith, c.quiet_until.ensures.within, c.requires.left)) more) in
    subst (λ (k : ℕ). events_of x.script (state_after Calls x k s).turn ≢ []) e
    (due_now x s u b.due (turns_of b) (turns_of b1) until c.args.limit st.holds.due c.quiet_until.ensures.met st.holds.turns made.stands.holds.turns c.glide.ensures.fast.within over (omega (arith, c.if-self-limit.false)))

pub returns-then-self-limit-clause-changed : goal.returns-then-self-limit-clause-changed
returns-then-self-limit-clause-changed boxes c = λ x s st.
    let n : ℕ = turns_of c.glide.new.self - turns_of c.args.self.now in
    no_change_in x s n c.args.at (λ k lt. (c.glide.ensures.fast.glided x s st).untouched k c.args.at lt refl) (n - 1) (omega (arith, c.if-self-limit.true, c.requires.left))

pub returns-clause-changed : goal.returns-clause-changed
returns-clause-changed boxes c = λ x s st.
    let n : ℕ = turns_of c.glide.new.self - turns_of c.args.self.now in
    let e : n ≡ turns_of c.turn_watching.new.self - turns_of c.args.self.now - 1 = omega (arith, c.glide.ensures.fast.more, c.turn_watching.ensures.turns) in
    subst (λ (k : ℕ). c.turn_watching.result ≡ change_in x c.args.at (state_after Calls x k s)) e (c.turn_watching.ensures.changed x (state_after Calls x n s) (c.glide.ensures.fast.glided x s st).stands)
