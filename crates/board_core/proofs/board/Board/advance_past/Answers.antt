use Rattle.std.specs.Prelude.{is_some}
use Rattle.std.proofs.Common.{◌≡◌, ◌≢◌, ◌-◌, ℕ, Bool, [], suc, None, ◌∙◌, arith, ap, subst}
use Rattle.run_script.specs.Scripts.{events_of}
use Rattle.task_table.specs.model.State.{State}
use Rattle.board_model.specs.declared.outcomes.Level.TheVariants.{Calls}
use Rattle.board_model.specs.Turn.{turned}
use Rattle.board_model.specs.Run.{state_after}
use Rattle.board_core.specs.declared.board.Board.{Board}
use Rattle.board_core.specs.Stands.{turns_of}
use Rattle.board_core.specs.fast.Advanced.{IsAdvanced, HasGlidden, IsFar, NeedsTurn}
use Rattle.board_core.specs.fast.Breakpoints.{hit_of}
use Rattle.board_core.specs.fast.Stops.{stops_at}
use Rattle.board_core.proofs.fast.Gliding.{one_more, all_made, below_limit, either_way}
use Rattle.board_core.proofs.fast.Stretches.{no_hit}
use Rattle.board_core.proofs.fast.Skipping.{lasts_from, due_now}
use Rattle.board_core.specs.Data.{boxed}
use Rattle.board_core.proofs.board.Board.advance_past.Goals as goal

pub turn_at-requires-clause-stood : goal.turn_at-requires-clause-stood
turn_at-requires-clause-stood boxes c =
    let x = c.requires.stood.0 in
    let s = c.requires.stood.1 in
    (x, state_after Calls x (turns_of c.glide.new.self - turns_of c.args.self.now) s, (c.glide.ensures.fast.glided x s c.requires.stood.2).stands)

pub call-requires-clause-stood : goal.call-requires-clause-stood
call-requires-clause-stood boxes c =
    let x = c.requires.stood.0 in
    let s = c.requires.stood.1 in
    let st = c.requires.stood.2 in
    (x, state_after Calls x (turns_of c.glide.new.self - turns_of c.args.self.now) s, (c.glide.ensures.fast.glided x s st).stands, (c.glide.ensures.calls c.in-Some.task c.in-Some.is x s st).call)

pub call-requires-clause-few : goal.call-requires-clause-few
call-requires-clause-few boxes c = let less = c.glide.ensures.before c.in-Some.task c.in-Some.is in omega (arith, less, c.quiet_until.ensures.within, c.requires.few)

pub returns-in-Some-clause-within : goal.returns-in-Some-clause-within
returns-in-Some-clause-within boxes c = let less = c.glide.ensures.before c.in-Some.task c.in-Some.is in omega (arith, less, c.quiet_until.ensures.within, c.call.ensures.turns)

pub returns-else-self-limit-clause-advanced : goal.returns-else-self-limit-clause-advanced
returns-else-self-limit-clause-advanced boxes c =
    let shown = boxed (λ p. (goal.Device-dyn boxes p).shown p.1) in
    λ x s st.
    let b = c.args.self.now in
    let b1 = c.glide.new.self in
    let b2 = c.turn_at.new.self in
    let n : ℕ = turns_of b1 - turns_of b in
    let u : State = state_after Calls x n s in
    let made = c.glide.ensures.fast.glided x s st in
    let e : n ≡ turns_of b2 - turns_of b - 1 = omega (arith, c.glide.ensures.fast.more, c.turn_at.ensures.turns) in
    subst (λ (k : ℕ). IsAdvanced shown Calls x k s b2) e (one_more shown (stops_at c.args.breakpoints.now None) x n s b1 b2 made (c.turn_at.ensures.model x u made.stands) (c.turn_at.ensures.notes x u made.stands))

pub returns-in-Some-clause-advanced : goal.returns-in-Some-clause-advanced
returns-in-Some-clause-advanced boxes c =
    let shown = boxed (λ p. (goal.Device-dyn boxes p).shown p.1) in
    λ x s st.
    let b = c.args.self.now in
    let b1 = c.glide.new.self in
    let b2 = c.call.new.self in
    let n : ℕ = turns_of b1 - turns_of b in
    let u : State = state_after Calls x n s in
    let made = c.glide.ensures.fast.glided x s st in
    let last = c.call.ensures.made x u made.stands (c.glide.ensures.calls c.in-Some.task c.in-Some.is x s st).call in
    let e : n ≡ turns_of b2 - turns_of b - 1 = omega (arith, c.glide.ensures.fast.more, c.call.ensures.turns) in
    subst (λ (k : ℕ). IsAdvanced shown Calls x k s b2) e (one_more shown (stops_at c.args.breakpoints.now None) x n s b1 b2 made last.stands last.notes)

pub returns-then-self-limit-clause-advanced : goal.returns-then-self-limit-clause-advanced
returns-then-self-limit-clause-advanced boxes c =
    let shown = boxed (λ p. (goal.Device-dyn boxes p).shown p.1) in
    λ x s st.
    let b = c.args.self.now in
    let b1 = c.glide.new.self in
    let n : ℕ = turns_of b1 - turns_of b - 1 in
    let e : turns_of b1 - turns_of b ≡ suc n = omega (arith, c.if-self-limit.true, c.requires.left) in
    all_made _ (stops_at c.args.breakpoints.now None) x n s b1 (subst (λ (k : ℕ). HasGlidden shown (stops_at c.args.breakpoints.now None) x s k b1) e (c.glide.ensures.fast.glided x s st))

-- ## which turns are at a breakpoint

pub returns-else-self-limit-clause-passed : goal.returns-else-self-limit-clause-passed
returns-else-self-limit-clause-passed boxes c = λ x s st k lt. (c.glide.ensures.fast.glided x s st).past k (omega (arith, lt, c.glide.ensures.fast.more, c.turn_at.ensures.turns))

pub returns-in-Some-clause-passed : goal.returns-in-Some-clause-passed
returns-in-Some-clause-passed boxes c = λ x s st k lt. (c.glide.ensures.fast.glided x s st).past k (omega (arith, lt, c.glide.ensures.fast.more, c.call.ensures.turns))

pub returns-then-self-limit-clause-passed : goal.returns-then-self-limit-clause-passed
returns-then-self-limit-clause-passed boxes c = λ x s st k lt. (c.glide.ensures.fast.glided x s st).past k (omega (arith, lt))

pub returns-else-self-limit-clause-hit : goal.returns-else-self-limit-clause-hit
returns-else-self-limit-clause-hit boxes c = λ x s st.
    let breakpoints = c.args.breakpoints.now in
    let n : ℕ = turns_of c.glide.new.self - turns_of c.args.self.now in
    let u : State = state_after Calls x n s in
    let e : n ≡ turns_of c.turn_at.new.self - turns_of c.args.self.now - 1 = omega (arith, c.glide.ensures.fast.more, c.turn_at.ensures.turns) in
    subst (λ (k : ℕ). c.hit_of.result ≡ hit_of breakpoints (turned x (state_after Calls x k s))) e
    (c.hit_of.ensures ∙ ap (hit_of breakpoints) (c.turn_at.ensures.turned x u (c.glide.ensures.fast.glided x s st).stands))

pub returns-in-Some-clause-hit : goal.returns-in-Some-clause-hit
returns-in-Some-clause-hit boxes c = λ x s st.
    let breakpoints = c.args.breakpoints.now in
    let n : ℕ = turns_of c.glide.new.self - turns_of c.args.self.now in
    let e : n ≡ turns_of c.call.new.self - turns_of c.args.self.now - 1 = omega (arith, c.glide.ensures.fast.more, c.call.ensures.turns) in
    subst (λ (k : ℕ). None ≡ hit_of breakpoints (turned x (state_after Calls x k s))) e
    (no_hit breakpoints (turned x (state_after Calls x n s)) (c.glide.ensures.calls c.in-Some.task c.in-Some.is x s st).past)

pub returns-then-self-limit-clause-hit : goal.returns-then-self-limit-clause-hit
returns-then-self-limit-clause-hit boxes c = λ x s st.
    let n : ℕ = turns_of c.glide.new.self - turns_of c.args.self.now - 1 in
    no_hit c.args.breakpoints.now (turned x (state_after Calls x n s)) ((c.glide.ensures.fast.glided x s st).past n (omega (arith, c.if-self-limit.true, c.requires.left)))

pub returns-then-self-limit-clause-within : goal.returns-then-self-limit-clause-within
returns-then-self-limit-clause-within boxes c =
    below_limit c.quiet_until.result (turns_of c.args.self.now) (turns_of c.glide.new.self) c.args.limit c.glide.ensures.fast.within (λ h. ap (λ (b : Board _ _). turns_of b) (c.glide.ensures.stays h)) (omega (arith, c.quiet_until.ensures.within, c.requires.left)) c.requires.left

pub returns-then-self-limit-clause-noted : goal.returns-then-self-limit-clause-noted
returns-then-self-limit-clause-noted boxes c =
    let made = c.glide.ensures.fast.glided c.requires.stood.0 c.requires.stood.1 c.requires.stood.2 in
    rw (made.notes (omega (arith, c.if-self-limit.true, c.requires.left))) (omega arith)

pub returns-else-self-limit-clause-needed : goal.returns-else-self-limit-clause-needed
returns-else-self-limit-clause-needed boxes c = λ x s task st is up lt.
    let b = c.args.self.now in
    let b1 = c.glide.new.self in
    let b2 = c.turn_at.new.self in
    let until : ℕ = c.quiet_until.result in
    let n : ℕ = turns_of b1 - turns_of b in
    let u : State = state_after Calls x n s in
    let e : n ≡ turns_of b2 - turns_of b - 1 = omega (arith, c.glide.ensures.fast.more, c.turn_at.ensures.turns) in
    let made = c.glide.ensures.fast.glided x s st in
    subst (λ (k : ℕ). NeedsTurn (stops_at c.args.breakpoints.now None) x task s (state_after Calls x k s)) e
    (either_way (turns_of b1) until ((calls : Bool) × IsFar (stops_at c.args.breakpoints.now None) x task s u calls) (events_of x.script u.turn ≢ []) (λ less. (is_some c.glide.result, c.glide.ensures.far x s task st is up less))
    (λ over. due_now x s u b.due (turns_of b) (turns_of b1) until c.args.limit st.holds.due c.quiet_until.ensures.met st.holds.turns made.stands.holds.turns c.glide.ensures.fast.within over (omega (arith, c.if-self-limit.false))))

pub returns-in-Some-clause-needed : goal.returns-in-Some-clause-needed
returns-in-Some-clause-needed boxes c = λ x s task st is up lt.
    let b = c.args.self.now in
    let b1 = c.glide.new.self in
    let b2 = c.call.new.self in
    let until : ℕ = c.quiet_until.result in
    let n : ℕ = turns_of b1 - turns_of b in
    let u : State = state_after Calls x n s in
    let e : n ≡ turns_of b2 - turns_of b - 1 = omega (arith, c.glide.ensures.fast.more, c.call.ensures.turns) in
    let made = c.glide.ensures.fast.glided x s st in
    subst (λ (k : ℕ). NeedsTurn (stops_at c.args.breakpoints.now None) x task s (state_after Calls x k s)) e
    (either_way (turns_of b1) until ((calls : Bool) × IsFar (stops_at c.args.breakpoints.now None) x task s u calls) (events_of x.script u.turn ≢ []) (λ less. (is_some c.glide.result, c.glide.ensures.far x s task st is up less))
    (λ over. due_now x s u b.due (turns_of b) (turns_of b1) until c.args.limit st.holds.due c.quiet_until.ensures.met st.holds.turns made.stands.holds.turns c.glide.ensures.fast.within over (let less = c.glide.ensures.before c.in-Some.task c.in-Some.is in omega (arith, less, c.quiet_until.ensures.within))))

pub returns-else-self-limit-clause-idle : goal.returns-else-self-limit-clause-idle
returns-else-self-limit-clause-idle boxes c = λ x s st none up more lt.
    let b = c.args.self.now in
    let b1 = c.glide.new.self in
    let b2 = c.turn_at.new.self in
    let until : ℕ = c.quiet_until.result in
    let n : ℕ = turns_of b1 - turns_of b in
    let u : State = state_after Calls x n s in
    let e : n ≡ turns_of b2 - turns_of b - 1 = omega (arith, c.glide.ensures.fast.more, c.turn_at.ensures.turns) in
    let made = c.glide.ensures.fast.glided x s st in
    let over = c.glide.ensures.idle x s st none up (lasts_from x.script until c.args.limit (omega (arith, c.quiet_until.ensures.within, c.requires.left)) more) in
    subst (λ (k : ℕ). events_of x.script (state_after Calls x k s).turn ≢ []) e
    (due_now x s u b.due (turns_of b) (turns_of b1) until c.args.limit st.holds.due c.quiet_until.ensures.met st.holds.turns made.stands.holds.turns c.glide.ensures.fast.within over (omega (arith, c.if-self-limit.false)))

pub returns-in-Some-clause-idle : goal.returns-in-Some-clause-idle
returns-in-Some-clause-idle boxes c = λ x s st none up more lt.
    let b = c.args.self.now in
    let b1 = c.glide.new.self in
    let b2 = c.call.new.self in
    let until : ℕ = c.quiet_until.result in
    let n : ℕ = turns_of b1 - turns_of b in
    let u : State = state_after Calls x n s in
    let e : n ≡ turns_of b2 - turns_of b - 1 = omega (arith, c.glide.ensures.fast.more, c.call.ensures.turns) in
    let made = c.glide.ensures.fast.glided x s st in
    let over = c.glide.ensures.idle x s st none up (lasts_from x.script until c.args.limit (omega (arith, c.quiet_until.ensures.within, c.requires.left)) more) in
    subst (λ (k : ℕ). events_of x.script (state_after Calls x k s).turn ≢ []) e
    (due_now x s u b.due (turns_of b) (turns_of b1) until c.args.limit st.holds.due c.quiet_until.ensures.met st.holds.turns made.stands.holds.turns c.glide.ensures.fast.within over (let less = c.glide.ensures.before c.in-Some.task c.in-Some.is in omega (arith, less, c.quiet_until.ensures.within)))
