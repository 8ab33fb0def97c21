use Rattle.std.proofs.Common.{◌≡◌, ◌∙◌, if◌then◌else◌, true, false, refl, sym, ap, arith}
use Rattle.std.specs.Prelude.{is_ok, is_some, List}
use Rattle.std.specs.List.{insert}
use Rattle.run_script.specs.Events.{script_data}
use Rattle.run_script.specs.Scripts.{Listed, events_of, lasts}
use Rattle.run_script.proofs.Adding.{behind, facts_more, full_is, inserted_is, lasts_too, spread, until}
use Rattle.run_script.proofs.script.Script.add.Goals as goal

pub returns-then-is_some-clause-free : goal.returns-then-is_some-clause-free
returns-then-is_some-clause-free c =
    let soon = c.if-turn-ge-TURNS.false in
    let few = c.if-len-ge-MOST.false in
    let long = c.len.ensures in
    let full = full_is (script_data c.args.self.now) c.args.turn true (omega (arith, soon)) (omega (arith, few, long)) (ap is_some (sym c.listed_at.ensures) ∙ sym c.is_some.ensures ∙ c.if-is_some.true) in
    rw full refl

pub invariant_of-self : goal.invariant_of-self
invariant_of-self c =
    let soon = c.if-turn-ge-TURNS.false in
    let few = c.if-len-ge-MOST.false in
    let long = c.len.ensures in
    let turn = c.args.turn in
    let at = c.first_of-at.ensures in
    let events = c.args.self.now.events.items in
    let ok : is_ok c.insert.result ≡ true = c.insert.ensures.succeeds (omega (arith, c.requires.room)) in
    let items : c.insert.new.self.items ≡ insert events c.first_of-at.result (turn, c.args.event) =
    c.insert.ensures.items ∙ ap (λ b. if b then insert events c.first_of-at.result (turn, c.args.event) else events) ok in
    record {
      facts = facts_more (script_data c.args.self.now) c.insert.new.self.items turn c.first_of-at.result c.args.event c.args.self.now.facts c.requires.line c.requires.device (omega (arith, soon)) (omega (arith, few, long))
          (ap is_some (sym c.listed_at.ensures) ∙ sym c.is_some.ensures ∙ c.if-is_some.false) at.within (λ k d lt. until _ turn (at.before k d lt)) (λ k d a b. behind _ turn (at.from k d a b)) items;
    }

pub returns-clause-free : goal.returns-clause-free
returns-clause-free c =
    let soon = c.if-turn-ge-TURNS.false in
    let few = c.if-len-ge-MOST.false in
    let long = c.len.ensures in
    let full = full_is (script_data c.args.self.now) c.args.turn false (omega (arith, soon)) (omega (arith, few, long)) (ap is_some (sym c.listed_at.ensures) ∙ sym c.is_some.ensures ∙ c.if-is_some.false) in
    rw full refl

pub returns-clause-list : goal.returns-clause-list
returns-clause-list c = λ same.
    let turn = c.args.turn in
    let at = c.first_of-at.ensures in
    let s = script_data c.args.self.now in
    ap (λ (l : List Listed). record s { events = l })
    (c.in-Ok.ensures.items ∙ inserted_is turn c.first_of-at.result c.args.event s.events at.within (λ k d lt. until _ turn (at.before k d lt)) (λ k d a b. behind _ turn (at.from k d a b)))

pub returns-clause-events : goal.returns-clause-events
returns-clause-events c = λ same u.
    let turn = c.args.turn in
    let at = c.first_of-at.ensures in
    let s = script_data c.args.self.now in
    ap (λ (l : List Listed). events_of (record s { events = l }) u) c.in-Ok.ensures.items ∙ spread s u turn c.first_of-at.result c.args.event (λ k d a b. behind _ turn (at.from k d a b))

pub returns-clause-lasts : goal.returns-clause-lasts
returns-clause-lasts c = λ same u.
    let s = script_data c.args.self.now in
    ap (λ (l : List Listed). lasts (record s { events = l }) u) c.in-Ok.ensures.items ∙ lasts_too s u c.args.turn c.first_of-at.result c.args.event
