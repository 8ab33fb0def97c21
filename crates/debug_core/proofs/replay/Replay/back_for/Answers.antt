use Rattle.std.proofs.Common.{◌≤◌, sym, subst, arith}
use Rattle.board_core.specs.Data.{boxed}
use Rattle.board_core.specs.Stands.{turns_of}
use Rattle.debug_core.proofs.Finding.{Behind, behind_first, behind_more, behind_reached, found_before, none_behind, one_behind}
use Rattle.debug_core.proofs.replay.Replay.back_for.Goals as goal

pub segments-init : goal.segments-init
segments-init boxes c = λ x turn h le.
    let shown = boxed (λ p. (goal.Device-dyn boxes p).shown p.1) in
    subst (λ n. Behind shown x c.args.sought.now c.args.low turn n c.args.self.now) (sym c.turns-to.ensures) (behind_first shown x c.args.sought.now c.args.low turn c.args.self.now h le)

pub back_before-from-requires-clause-from : goal.back_before-from-requires-clause-from
back_before-from-requires-clause-from boxes c =
    let r = c.requires in
    let i = c.segments.invariant r.0 r.1 r.2 r.3 in
    (r.0, turns_of c.segments.self.board, i.at, i.after)

pub last_found-requires-clause-from : goal.last_found-requires-clause-from
last_found-requires-clause-from boxes c =
    let r = c.requires in
    let i = c.segments.invariant r.0 r.1 r.2 r.3 in
    let to = c.segments.to in
    let less : c.back_before-from.result ≤ to = omega (arith, c.back_before-from.ensures.before) in
    let there = behind_reached _ r.0 c.args.sought.now c.args.low r.1 to to c.segments.self i (omega arith) in
    (r.0, c.back_before-from.result, c.back_before-from.ensures.at r.0 (turns_of c.segments.self.board) i.at i.after, less, there)

pub last_found-requires-clause-few : goal.last_found-requires-clause-few
last_found-requires-clause-few boxes c =
    let r = c.requires in
    let i = c.segments.invariant r.0 r.1 r.2 r.3 in
    omega (arith, i.after, i.at.most)

pub back_to-requires : goal.back_to-requires
back_to-requires boxes c =
    let r = c.requires in
    let i = c.segments.invariant r.0 r.1 r.2 r.3 in
    let to = c.segments.to in
    let from = c.back_before-from.result in
    let at = c.back_before-from.ensures.at r.0 (turns_of c.segments.self.board) i.at i.after in
    let less : from ≤ to = omega (arith, c.back_before-from.ensures.before) in
    let there = behind_reached _ r.0 c.args.sought.now c.args.low r.1 to to c.segments.self i (omega arith) in
    let before = found_before r.0 c.args.sought.now from to c.in-Some.found c.in-Some.answer less (c.in-Some.ensures.last r.0 from at less there) in
    (r.0, to, c.in-Some.ensures.at r.0 from at less there, omega (arith, before))

pub segments-smaller : goal.segments-smaller
segments-smaller boxes c = c.back_before-from.ensures.before

pub segments-preserved : goal.segments-preserved
segments-preserved boxes c = λ x turn h le.
    let i = c.segments.invariant x turn h le in
    let to = c.segments.to in
    let from = c.back_before-from.result in
    let at = c.back_before-from.ensures.at x (turns_of c.segments.self.board) i.at i.after in
    let less : from ≤ to = omega (arith, c.back_before-from.ensures.before) in
    let there = behind_reached _ x c.args.sought.now c.args.low turn to to c.segments.self i (omega arith) in
    behind_more _ x c.args.sought.now c.args.low turn from to c.segments.self c.last_found.new.self i c.back_before-from.ensures.above less
    (c.in_default.ensures.at x from at less there) (c.in_default.ensures.last x from at less there)

pub returns-in-Some : goal.returns-in-Some
returns-in-Some boxes c = λ x turn h le.
    let i = c.segments.invariant x turn h le in
    let to = c.segments.to in
    let from = c.back_before-from.result in
    let at = c.back_before-from.ensures.at x (turns_of c.segments.self.board) i.at i.after in
    let less : from ≤ to = omega (arith, c.back_before-from.ensures.before) in
    let there = behind_reached _ x c.args.sought.now c.args.low turn to to c.segments.self i (omega arith) in
    let last = c.in-Some.ensures.last x from at less there in
    let before = found_before x c.args.sought.now from to c.in-Some.found c.in-Some.answer less last in
    one_behind _ x c.args.sought.now c.args.low turn from to c.in-Some.found c.segments.self c.back_to.new.self c.in-Some.answer i c.back_before-from.ensures.above less last
    (c.back_to.ensures x to (c.in-Some.ensures.at x from at less there) (omega (arith, before)))

pub back_to-requires-2 : goal.back_to-requires-2
back_to-requires-2 boxes c =
    let r = c.requires in
    let i = c.segments.invariant r.0 r.1 r.2 r.3 in
    (r.0, turns_of c.segments.self.board, i.at, omega (arith, i.above, i.after))

pub returns : goal.returns
returns boxes c = λ x turn h le.
    let i = c.segments.invariant x turn h le in
    let at = c.back_to-2.ensures x (turns_of c.segments.self.board) i.at (omega (arith, i.above, i.after)) in
    none_behind _ x c.args.sought.now c.args.low turn c.segments.to c.segments.self c.back_to-2.new.self i c.segments-test.false at
