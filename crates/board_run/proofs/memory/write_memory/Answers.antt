use Rattle.std.proofs.Common.{arith, ◌≡◌}
use Rattle.std.proofs.lemmas.Result.{err_from_is_err_and}
use Rattle.board_run.specs.MemoryText.{memory_text, places_text, place_text}
use Rattle.outside_io.proofs.Pushing.{appends_none}
use Rattle.board_run.proofs.Appending.{range_pushed, range_fails}
use Rattle.board_run.proofs.memory.write_memory.Goals as goal

pub loop-k-init : goal.loop-k-init
unfolding places_text
loop-k-init g c = record { pushed = λ x s st. appends_none _; later = omega arith }

pub loop-k-preserved : goal.loop-k-preserved
unfolding places_text
loop-k-preserved g c = record {
  pushed = λ x s st. range_pushed _ _ _ (place_text x.setup s.memory) c.loop-k.k (c.loop-k.invariant.pushed x s st) (c.in_ok-push_place.ensures.bytes x s st);
  later = omega (arith, c.loop-k.invariant.later, c.in_ok-push_place.ensures.cause.later);
}

pub returns-in_err-push_place-clause-text : goal.returns-in_err-push_place-clause-text
unfolding memory_text places_text
returns-in_err-push_place-clause-text g c = λ x s st.
    let p = err_from_is_err_and c.from_residual.result c.from_residual.ensures.1 in
    range_fails _ _ _ (place_text x.setup s.memory) c.loop-k.k 1024 c.from_residual.result p.0 p.1 (omega (arith, c.loop-k-test.true)) (c.loop-k.invariant.pushed x s st) (c.in_err-push_place.ensures.bytes x s st)

pub returns-clause-text : goal.returns-clause-text
unfolding memory_text
returns-clause-text g c = λ x s st.
    let all : c.loop-k.k ≡ 1024 = omega (arith, c.loop-k.auto.k-end, c.loop-k-test.false) in
    rw all at (c.loop-k.invariant.pushed x s st)
