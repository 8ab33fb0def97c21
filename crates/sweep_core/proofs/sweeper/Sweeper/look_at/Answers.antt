use Rattle.std.proofs.Common.{◌∙◌, ℕ, ◌+◌, ◌<◌, min, List, sym, ap, subst, arith}
use Rattle.std.specs.List.{All}
use Rattle.run_script.specs.Scripts.{Listed}
use Rattle.board_model.specs.Laid.{laid}
use Rattle.board_model.specs.Script.{Scenario}
use Rattle.board_core.specs.Data.{boxed}
use Rattle.sweep_core.specs.Leading.{IsLeading}
use Rattle.sweep_core.specs.declared.leader.Leader.{Leader}
use Rattle.sweep_core.specs.Sweeping.{Fork, IsAtFork, asked_at}
use Rattle.sweep_core.proofs.Following.{over_behind}
use Rattle.sweep_core.specs.Swept.{is_late}
use Rattle.sweep_core.proofs.Looking.{late_looked, looked, not_looked}
use Rattle.sweep_core.proofs.Sweeps.{before_again}
use Rattle.sweep_core.proofs.sweeper.Sweeper.look_at.Goals as goal

pub returns-then-is_late-clause-looked : goal.returns-then-is_late-clause-looked
returns-then-is_late-clause-looked g c = λ x arrival h.
    let a = asked_at arrival c.args.time c.args.limit c.args.mem in
    let late = sym (c.is_late.ensures ∙ ap (λ (l : List Listed). is_late l c.args.time c.args.limit) h.before.scripts.arriving) ∙ c.if-is_late.true in
    late_looked x a c.args.time c.args.base.now c.args.compared.now c.late.result late c.late.ensures

pub returns-then-not-go_to-clause-before : goal.returns-then-not-go_to-clause-before
returns-then-not-go_to-clause-before g c = λ x arrival h. record {
  before = c.go_to.ensures.stays c.if-not-go_to.true x arrival h.before;
  leads = subst (λ (w : Leader). IsLeading x c.args.limit c.args.mem w) (sym c.go_to.ensures.leader) h.leads;
}

pub returns-then-not-go_to-clause-looked : goal.returns-then-not-go_to-clause-looked
returns-then-not-go_to-clause-looked g c = λ x arrival h.
    let a = asked_at arrival c.args.time c.args.limit c.args.mem in
    let early = sym (c.is_late.ensures ∙ ap (λ (l : List Listed). is_late l c.args.time c.args.limit) h.before.scripts.arriving) ∙ c.if-is_late.false in
    not_looked x a c.args.time c.args.base.now c.args.compared.now c.full.result early (sym (c.go_to.ensures.made x arrival h.before) ∙ c.if-not-go_to.true) c.full.ensures

-- where the run of an arrival time forks off
abbrev fork_at : Scenario → List Listed → ℕ → ℕ → Fork
fork_at x arrival time limit = record { arrival = arrival; script = laid x.script arrival time; turn = min time limit }

pub tell-told-requires-clause-at : goal.tell-told-requires-clause-at
tell-told-requires-clause-at g c =
    let r = c.requires.before in
    let at = c.go_to.ensures.at c.if-not-go_to.false r.0 r.1 r.2.before in
    let all = subst (All (λ (d : Listed). d.0 < c.span.result)) at.scripts.arriving c.span.ensures.all in
    (r.0, fork_at r.0 r.1 c.args.time c.args.limit, record { at = at; few = omega arith; goes = over_behind r.0 r.1 c.args.time c.span.result all })

pub returns-clause-before : goal.returns-clause-before
returns-clause-before g c = λ x arrival h.
    let shown = boxed (λ p. (goal.Device-dyn g p).shown p.1) in
    let f = fork_at x arrival c.args.time c.args.limit in
    let at = c.go_to.ensures.at c.if-not-go_to.false x arrival h.before in
    let goes = over_behind x arrival c.args.time c.span.result (subst (All (λ (d : Listed). d.0 < c.span.result)) at.scripts.arriving c.span.ensures.all) in
    let fork : IsAtFork shown x f c.go_to.new.self (c.args.time + c.span.result) c.args.limit = record { at = at; few = omega arith; goes = goes } in
    let leads = subst (λ (w : Leader). IsLeading x c.args.limit c.args.mem w) (sym c.go_to.ensures.leader) h.leads in
    record {
      before = before_again shown x arrival c.tell-told.new.self c.args.time c.args.limit (c.tell-told.ensures.same x f fork).at;
      leads = c.tell-told.ensures.leads x f fork leads;
    }

pub returns-clause-looked : goal.returns-clause-looked
returns-clause-looked g c = λ x arrival h.
    let shown = boxed (λ p. (goal.Device-dyn g p).shown p.1) in
    let a = asked_at arrival c.args.time c.args.limit c.args.mem in
    let f = fork_at x arrival c.args.time c.args.limit in
    let at = c.go_to.ensures.at c.if-not-go_to.false x arrival h.before in
    let goes = over_behind x arrival c.args.time c.span.result (subst (All (λ (d : Listed). d.0 < c.span.result)) at.scripts.arriving c.span.ensures.all) in
    let fork : IsAtFork shown x f c.go_to.new.self (c.args.time + c.span.result) c.args.limit = record { at = at; few = omega arith; goes = goes } in
    let leads = subst (λ (w : Leader). IsLeading x c.args.limit c.args.mem w) (sym c.go_to.ensures.leader) h.leads in
    let early = sym (c.is_late.ensures ∙ ap (λ (l : List Listed). is_late l c.args.time c.args.limit) h.before.scripts.arriving) ∙ c.if-is_late.false in
    looked x a c.args.time c.args.base.now c.tell-told.result c.args.compared.now c.add.new.self early (sym (c.go_to.ensures.made x arrival h.before) ∙ c.if-not-go_to.false)
    (c.tell-told.ensures.told x f fork leads) c.add.ensures
