use Rattle.std.proofs.Common.{◌≡◌, ◌∙◌, sym}
use Rattle.std.specs.Cmp.{booleans_Decides}
use Rattle.std.proofs.lemmas.Bool.{both_ways, eqb-true}
use Rattle.std.proofs.lemmas.Bool.Decides.{Decides-eqb}
use Rattle.std.proofs.lemmas.Slice.Eq.{slice_eq-Decides}
use Rattle.explore_core.proofs.seen.Slot.is_same.Goals.{then-self, else-self, then-self-turn, else-self-turn, then-eq, else-eq}
use Rattle.explore_core.proofs.seen.Slot.is_same.Goals as goal

pub returns-then-eq-2 : goal.returns-then-eq-2
returns-then-eq-2 c = λ found.
    let slot = c.args.self.now in
    let state : slot.state.items ≡ c.args.state.now = sym c.as_slice.ensures.value ∙ (slice_eq-Decides Decides-eqb c.as_slice.result.now c.args.state.now c.eq-then-eq-2.result c.eq-then-eq-2.ensures).0 found in
    elim c.if-eq.branch [
      | then-eq w ↦ elim c.if-self-turn.branch [
        | then-self-turn v ↦ elim c.if-self.branch [
          | then-self u ↦ record {
            used = u.if-self.true;
            turn = eqb-true slot.turn c.args.turn (sym u.value-is ∙ v.if-self-turn.true);
            pending = (slice_eq-Decides booleans_Decides slot.pending c.args.pending.now v.eq.result v.eq.ensures).0 (sym v.value-is ∙ w.if-eq.true);
            kept = (slice_eq-Decides Decides-eqb slot.kept c.args.kept.now w.eq-then-eq.result w.eq-then-eq.ensures).0 (sym w.value-is ∙ c.if-eq-2.true);
            state = state;
          }
          | else-self u ↦ absurd (both_ways _ (u.value-is ∙ u.if-self.false) v.if-self-turn.true)
        ]
        | else-self-turn v ↦ absurd (both_ways _ (v.value-is ∙ v.if-self-turn.false) w.if-eq.true)
      ]
      | else-eq w ↦ absurd (both_ways _ (w.value-is ∙ w.if-eq.false) c.if-eq-2.true)
    ]
