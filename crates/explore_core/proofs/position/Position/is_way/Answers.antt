use Rattle.std.proofs.Common.{◌≡◌, ◌∙◌, ◌≤◌, List, map, nat_lt, slice_index_or, sym, ap, subst}
use Rattle.std.specs.Prelude.{◌&&◌, Bool, false}
use Rattle.std.specs.List.{All}
use Rattle.run_question.specs.declared.question.Offer.{Offer}
use Rattle.run_question.specs.Questions.{arrival_data, offer_data}
use Rattle.run_question.specs.Reading.{choice_count}
use Rattle.explore_core.specs.Fine.{IsFineOffer}
use Rattle.explore_core.specs.Walked.{may_come_in}
use Rattle.explore_core.proofs.Passed.{both_else, both_then, fine_there, there_is, way_there}
use Rattle.explore_core.proofs.position.Position.is_way.Goals as goal
use Rattle.explore_core.proofs.position.Position.is_way.Goals.{then-self, else-self}

pub choice_count-requires-clause-fine : goal.choice_count-requires-clause-fine
choice_count-requires-clause-fine c =
    let fine = fine_there c.args.arrivals.now c.args.self.now.next c.index-arrivals-self.result c.requires.fine c.requires.inside c.index-arrivals-self.is in
    subst (λ (l : List Offer). All IsFineOffer (map offer_data l)) (sym c.deref.ensures.value) fine.offers

pub choice_count-requires-clause-few : goal.choice_count-requires-clause-few
choice_count-requires-clause-few c =
    let fine = fine_there c.args.arrivals.now c.args.self.now.next c.index-arrivals-self.result c.requires.fine c.requires.inside c.index-arrivals-self.is in
    subst (λ (l : List Offer). choice_count (map offer_data l) ≤ 1000000000000000000) (sym c.deref.ensures.value) fine.few

pub returns-then-may_come_in : goal.returns-then-may_come_in
returns-then-may_come_in c =
    let at = c.args.self.now in
    let x = arrival_data c.index-arrivals-self.result in
    let may = may_come_in x c.args.turn in
    let some = nat_lt at.choice (choice_count x.offers) in
    let now = slice_index_or at.pending at.next false in
    let value : c.if-self.value ≡ (now && may) = elim c.if-self.branch [
      | then-self w ↦ w.value-is ∙ w.may_come_in.ensures ∙ ap (λ (b : Bool). b && may) (sym w.if-self.true)
      | else-self w ↦ w.value-is ∙ w.if-self.false ∙ ap (λ (b : Bool). b && may) (sym w.if-self.false)
    ] in
    ap (nat_lt at.choice) (c.choice_count.ensures.count ∙ ap (λ (l : List Offer). choice_count (map offer_data l)) c.deref.ensures.value)
    ∙ sym (both_then now may some (sym value ∙ c.if-may_come_in.true))
    ∙ sym (way_there (map arrival_data c.args.arrivals.now) c.args.turn at x (there_is c.args.arrivals.now at.next c.index-arrivals-self.result c.requires.inside c.index-arrivals-self.is))

pub returns-else-may_come_in : goal.returns-else-may_come_in
returns-else-may_come_in c =
    let at = c.args.self.now in
    let x = arrival_data c.index-arrivals-self.result in
    let may = may_come_in x c.args.turn in
    let some = nat_lt at.choice (choice_count x.offers) in
    let now = slice_index_or at.pending at.next false in
    let value : c.if-self.value ≡ (now && may) = elim c.if-self.branch [
      | then-self w ↦ w.value-is ∙ w.may_come_in.ensures ∙ ap (λ (b : Bool). b && may) (sym w.if-self.true)
      | else-self w ↦ w.value-is ∙ w.if-self.false ∙ ap (λ (b : Bool). b && may) (sym w.if-self.false)
    ] in
    c.if-may_come_in.false
    ∙ sym (both_else now may some (sym value ∙ c.if-may_come_in.false))
    ∙ sym (way_there (map arrival_data c.args.arrivals.now) c.args.turn at x (there_is c.args.arrivals.now at.next c.index-arrivals-self.result c.requires.inside c.index-arrivals-self.is))
