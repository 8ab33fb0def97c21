use Rattle.std.proofs.Common.{ℕ, ◌-◌, sym, refl, arith}
use Rattle.std.proofs.lemmas.Result.{err_from_is_err_and}
use Rattle.board_model.specs.Run.{turn_after}
use Rattle.board_core.specs.Data.{boxed}
use Rattle.board_core.specs.Stands.{turns_of, notes_of}
use Rattle.board_run.proofs.Going.{IsTurned, midway_start, midway_turn, midway_board, turned_board, end_is, all_told, all_few}
use Rattle.board_run.proofs.Breaking.{breaks_in_turn, whole_notes}
use Rattle.board_run.proofs.running.play.Goals as goal

pub turns-init : goal.turns-init
turns-init g c =
    let shown = boxed (λ p. (goal.Device-dyn g p).shown p.1) in
    record {
      midway = λ x s st. midway_start shown g.T.Observer.heard c.args.level x _ s _ (c.hears_in_parts.ensures.nothing _) st;
      stood = c.requires.stood;
      turns = omega arith;
      due = omega arith;
      later = λ lt. lt;
    }

pub returns-in-Some-clause-told : goal.returns-in-Some-clause-told
returns-in-Some-clause-told g c =
    let shown = boxed (λ p. (goal.Device-dyn g p).shown p.1) in
    λ x s st.
    all_told shown g.T.Observer.heard c.args.level x c.args.limit _ _ s c.turns.board c.in-Some.end c.turns.invariant.turns (λ t u. sym (c.in-Some.ensures.end x t u)) (c.turns.invariant.midway x s st)

pub returns-in-Some-clause-end : goal.returns-in-Some-clause-end
returns-in-Some-clause-end g c =
    let shown = boxed (λ p. (goal.Device-dyn g p).shown p.1) in
    λ x s st.
    (end_is shown g.T.Observer.heard c.args.level x c.args.limit _ _ s c.turns.board c.in-Some.end c.turns.invariant.turns (λ t u. sym (c.in-Some.ensures.end x t u)) (c.turns.invariant.midway x s st)).0

pub returns-in-Some-clause-last : goal.returns-in-Some-clause-last
returns-in-Some-clause-last g c =
    let shown = boxed (λ p. (goal.Device-dyn g p).shown p.1) in
    λ x s st.
    (end_is shown g.T.Observer.heard c.args.level x c.args.limit _ _ s c.turns.board c.in-Some.end c.turns.invariant.turns (λ t u. sym (c.in-Some.ensures.end x t u)) (c.turns.invariant.midway x s st)).1

pub returns-in-Some-clause-whole : goal.returns-in-Some-clause-whole
returns-in-Some-clause-whole g c =
    let shown = boxed (λ p. (goal.Device-dyn g p).shown p.1) in
    λ x s st.
    whole_notes c.args.level x shown g.T.Observer.heard c.args.limit _ _ s c.turns.board c.in-Some.end c.turns.invariant.turns (λ t u. sym (c.in-Some.ensures.end x t u)) (c.turns.invariant.midway x s st)

pub returns-in-Some-clause-noted : goal.returns-in-Some-clause-noted
returns-in-Some-clause-noted g c =
    let shown = boxed (λ p. (goal.Device-dyn g p).shown p.1) in
    λ x s st.
    all_few shown g.T.Observer.heard c.args.level x c.args.limit _ _ s c.turns.board c.in-Some.end c.turns.invariant.turns (λ t u. sym (c.in-Some.ensures.end x t u)) (c.turns.invariant.midway x s st)

pub returns-in-Some-clause-midway : goal.returns-in-Some-clause-midway
returns-in-Some-clause-midway g c =
    let shown = boxed (λ p. (goal.Device-dyn g p).shown p.1) in
    λ x s st. midway_board shown g.T.Observer.heard c.args.level x _ _ s c.turns.board (c.turns.invariant.midway x s st)

pub turns-preserved : goal.turns-preserved
turns-preserved g c =
    let shown = boxed (λ p. (goal.Device-dyn g p).shown p.1) in
    let b = c.turns.board in
    let b' = c.advance.new.self in
    let n : ℕ = turns_of b' - turns_of b - 1 in
    let more = c.advance.ensures.more in
    let stood = c.turns.invariant.stood in
    let a = c.advance.ensures.advanced stood.0 stood.1 stood.2 in
    record {
      midway = λ x s st.
          let h : IsTurned shown c.args.level x n b b' (notes_of b') = record {
            goes = λ t u. c.in-None.ensures.goes refl x t u;
            advanced = λ t u. c.advance.ensures.advanced x t u;
            tells = refl;
            turns = omega arith;
            few = c.advance.ensures.noted;
          } in
          midway_turn shown g.T.Observer.heard c.args.level x c.hears_in_parts.ensures.parts n _ _ _ _ s b b' (notes_of b') h (omega arith) c.in_ok-due.ensures.told (c.turns.invariant.midway x s st);
      stood = (stood.0, (turn_after c.args.level stood.0 n stood.1).state, a.stands);
      turns = omega (arith, c.advance.ensures.within, c.turns.invariant.due);
      due = c.in_ok-due.ensures.within;
      later = c.in_ok-due.ensures.later;
    }

pub returns-in_err-due-clause-midway : goal.returns-in_err-due-clause-midway
returns-in_err-due-clause-midway g c =
    let shown = boxed (λ p. (goal.Device-dyn g p).shown p.1) in
    λ x s st.
    let b = c.turns.board in
    let b' = c.advance.new.self in
    let n : ℕ = turns_of b' - turns_of b - 1 in
    let more = c.advance.ensures.more in
    let h : IsTurned shown c.args.level x n b b' (notes_of b') = record {
      goes = λ t u. c.in-None.ensures.goes refl x t u;
      advanced = λ t u. c.advance.ensures.advanced x t u;
      tells = refl;
      turns = omega arith;
      few = c.advance.ensures.noted;
    } in
    turned_board shown g.T.Observer.heard c.args.level x n _ _ s b b' (notes_of b') h (c.turns.invariant.midway x s st)

pub returns-in_err-due-clause-broken : goal.returns-in_err-due-clause-broken
returns-in_err-due-clause-broken g c =
    let shown = boxed (λ p. (goal.Device-dyn g p).shown p.1) in
    λ x s st.
    let p = err_from_is_err_and c.from_residual.result c.from_residual.ensures.1 in
    let b = c.turns.board in
    let b' = c.advance.new.self in
    let n : ℕ = turns_of b' - turns_of b - 1 in
    let more = c.advance.ensures.more in
    let h : IsTurned shown c.args.level x n b b' (notes_of b') = record {
      goes = λ t u. c.in-None.ensures.goes refl x t u;
      advanced = λ t u. c.advance.ensures.advanced x t u;
      tells = refl;
      turns = omega arith;
      few = c.advance.ensures.noted;
    } in
    rw (p.1) (breaks_in_turn c.args.level x shown g.T.Observer.heard g.T.Observer.broke n _ _ _ _ s b b' (notes_of b') h (omega arith) c.in_err-due.ensures.told (c.turns.invariant.midway x s st))
