use Rattle.std.proofs.Common.{◌∙◌, ◌≡◌, ◌+◌, List, length, map, ap, arith}
use Rattle.std.proofs.lemmas.List.{with_items_is}
use Rattle.board_model.specs.declared.outcomes.Level.TheVariants.{Calls}
use Rattle.board_model.specs.Turn.{turn}
use Rattle.board_core.specs.Data.{boxed}
use Rattle.board_core.specs.Stands.{turns_of}
use Rattle.explore_core.specs.declared.watch.Watched.{Watched}
use Rattle.explore_core.specs.Watching.{judged, looked}
use Rattle.explore_core.proofs.Watched.{as_many_tasks, made_as, turned_as}
use Rattle.explore_core.proofs.watch.Watch.make_turn.Goals as goal

pub returns-clause-judged : goal.returns-clause-judged
returns-clause-judged g c = λ x s st all.
    let shown = boxed (λ p. (goal.Device-dyn g p).shown p.1) in
    let items = c.args.self.now.properties.items in
    let mid = c.look_before.new.watched in
    let new = c.judge_turn.new.watched in
    let b = c.turn_at-made.new.self in
    let then = c.turn_at-made.ensures.model x s st in
    let turns : turns_of b ≡ s.turn + 1 = c.turn_at-made.ensures.turns ∙ ap (λ n. n + 1) st.holds.turns in
    let first : mid ≡ map (looked s) items = c.look_before.ensures x s st ∙ ap (λ (l : List Watched). map (looked s) l) c.as_mut_slice-watched.ensures.value in
    let made = made_as shown x s c.turn_at-made.result b then (c.turn_at-made.ensures.notes x s st) (c.turn_at-made.ensures.turned x s st) turns items mid first (as_many_tasks x s (turn Calls x s).state st.sane then.sane) all in
    let long : length new ≡ c.args.self.now.properties.len = omega (arith, c.judge_turn.auto.watched, c.look_before.auto.watched, c.as_mut_slice-watched.ensures.len) in
    ap (λ (l : List Watched). map judged l) (with_items_is c.args.self.now.properties new long) ∙ turned_as x s items mid new first (c.judge_turn.ensures x s made)
