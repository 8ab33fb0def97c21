use Rattle.std.proofs.Common.{◌∙◌, List, ℕ, inl, inr, sym, subst, vec_len, arith}
use Rattle.std.proofs.lemmas.Bool.{cases_lt}
use Rattle.board_model.specs.Alike.{reduced}
use Rattle.snapshot.specs.Saved.{SpellsState}
use Rattle.sweep_core.specs.Leading.{HasNone}
use Rattle.sweep_core.proofs.leader.Leader.meets.Goals as goal

pub returns-clause-passed : goal.returns-clause-passed
returns-clause-passed g c = λ no x s st.
    let passed = c.args.self.now.passed in
    elim (cases_lt passed.count (vec_len passed.states)) [
      | inl room ↦
          let one = c.keep.ensures.more room in
          inr (record {
            meeting = one.meeting;
            heard = one.same.heard;
            spelled = subst (SpellsState x.setup (reduced s)) (sym one.same.state) (c.save_over.ensures.spelled x s st);
            turn = let turns = st.holds.turns in omega (arith, turns, c.turns.ensures, c.if-turns-stop.false);
            inside = omega (arith, room, passed.states.ok.0);
            states = one.states;
            count = one.count;
          })
      | inr none ↦ inl (c.keep.ensures.full none)
    ]

pub returns-clause-missed : goal.returns-clause-missed
returns-clause-missed g c = λ no x s h.
    let bytes = (c.save_over.ensures.spelled x s h.stands).is in
    let P : List ℕ → Type 0 = λ b. HasNone c.args.heard.now b c.args.self.now.led in
    subst P (c.as_slice.ensures.value ∙ bytes) (c.has.ensures.none c.if-has.false)
