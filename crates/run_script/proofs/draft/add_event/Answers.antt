use Rattle.std.proofs.Common.{◌≡◌, ◌∙◌, true, false, refl, sym, ap, arith}
use Rattle.std.specs.Prelude.{is_some}
use Rattle.run_script.specs.Events.{script_data}
use Rattle.run_script.specs.Scripts.{is_full}
use Rattle.run_script.proofs.Adding.{behind, inserted_is, until}
use Rattle.run_script.proofs.Series.{facts_by, full_by_turn, listed_free, refused_full}
use Rattle.run_script.proofs.draft.add_event.Goals as goal

pub returns-then-is_some-clause-err : goal.returns-then-is_some-clause-err
returns-then-is_some-clause-err c =
    let s = script_data c.args.script.now in
    let few = c.if-len-ge-MOST.false in
    let long = c.len.ensures in
    (refl, refused_full s c.args.turn c.args.event (full_by_turn s c.args.turn true (omega (arith, few, long)) (ap is_some (sym c.listed_at.ensures) ∙ sym c.is_some.ensures ∙ c.if-is_some.true)))

pub invariant_of-script : goal.invariant_of-script
invariant_of-script c =
    let s = script_data c.args.script.now in
    let few = c.if-len-ge-MOST.false in
    let long = c.len.ensures in
    let turn = c.args.turn in
    let at = c.first_of-at.ensures in
    record {
      facts = facts_by s c.insert.new.self.items turn c.first_of-at.result c.args.event _ c.args.script.now.facts c.requires (omega (arith, few, long))
          (ap is_some (sym c.listed_at.ensures) ∙ sym c.is_some.ensures ∙ c.if-is_some.false) at.within (λ k d lt. until _ turn (at.before k d lt)) (λ k d a b. behind _ turn (at.from k d a b)) c.insert.ensures.items;
    }

pub returns-in-Ok-clause-ok : goal.returns-in-Ok-clause-ok
returns-in-Ok-clause-ok c =
    let s = script_data c.args.script.now in
    let few = c.if-len-ge-MOST.false in
    let long = c.len.ensures in
    let turn = c.args.turn in
    let at = c.first_of-at.ensures in
    let free : is_full s.events turn ≡ false = full_by_turn s turn false (omega (arith, few, long)) (ap is_some (sym c.listed_at.ensures) ∙ sym c.is_some.ensures ∙ c.if-is_some.false) in
    listed_free s c.insert.new.self.items turn c.args.event free
    (c.in-Ok.ensures.items ∙ inserted_is turn c.first_of-at.result c.args.event s.events at.within (λ k d lt. until _ turn (at.before k d lt)) (λ k d a b. behind _ turn (at.from k d a b)))
