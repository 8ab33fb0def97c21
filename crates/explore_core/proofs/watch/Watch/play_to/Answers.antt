use Rattle.std.proofs.Common.{arith}
use Rattle.board_model.specs.declared.outcomes.Level.TheVariants.{Calls}
use Rattle.board_model.specs.Turn.{turn}
use Rattle.board_core.specs.Data.{boxed}
use Rattle.explore_core.specs.Watching.{watched_of}
use Rattle.explore_core.proofs.Played.{has_played, kept_so, one_turn_more, played_none}
use Rattle.explore_core.proofs.watch.Watch.play_to.Goals as goal

pub turns-init : goal.turns-init
turns-init g c =
    let shown = boxed (λ p. (goal.Device-dyn g p).shown p.1) in
    record {
      stood = c.requires.stood;
      within = c.requires.from;
      played = λ x s st all. played_none shown x s (watched_of c.args.self.now) c.args.board.now st all;
    }

pub is_playing-requires-clause-stood : goal.is_playing-requires-clause-stood
is_playing-requires-clause-stood g c = c.turns.invariant.stood

pub make_turn-requires-clause-stood : goal.make_turn-requires-clause-stood
make_turn-requires-clause-stood g c = c.turns.invariant.stood

pub turns-smaller : goal.turns-smaller
turns-smaller g c = omega (arith, c.make_turn.ensures.turns, c.is_playing.ensures.left c.turns-test.true)

pub turns-preserved : goal.turns-preserved
turns-preserved g c =
    let shown = boxed (λ p. (goal.Device-dyn g p).shown p.1) in
    record {
      stood = let r = c.turns.invariant.stood in (r.0, (turn Calls r.0 r.1).state, c.make_turn.ensures.made r.0 r.1 r.2);
      within = omega (arith, c.make_turn.ensures.turns, c.is_playing.ensures.left c.turns-test.true);
      played = λ x s st all.
          one_turn_more shown x s (watched_of c.args.self.now) (watched_of c.turns.self) (watched_of c.make_turn.new.self) c.turns.board c.make_turn.new.board (c.turns.invariant.played x s st all)
          (λ u stands. c.is_playing.ensures.playing c.turns-test.true x u stands) (λ u stands. c.make_turn.ensures.made x u stands) (λ u stands there. c.make_turn.ensures.judged x u stands there);
    }

pub returns-clause-played : goal.returns-clause-played
returns-clause-played g c = λ x s st all.
    let shown = boxed (λ p. (goal.Device-dyn g p).shown p.1) in
    has_played shown x s c.args.to (watched_of c.args.self.now) (watched_of c.turns.self) c.turns.board (c.turns.invariant.played x s st all) c.turns.invariant.within
    (λ u stands. c.is_playing.ensures.through c.turns-test.false x u stands)

pub returns-clause-kept : goal.returns-clause-kept
returns-clause-kept g c = λ x s st all script limit le agree.
    let shown = boxed (λ p. (goal.Device-dyn g p).shown p.1) in
    kept_so shown x s c.args.to limit script (watched_of c.args.self.now) (watched_of c.turns.self) c.turns.board (c.turns.invariant.played x s st all) c.turns.invariant.within le agree
