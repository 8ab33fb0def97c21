use Rattle.std.proofs.Common.{◌∙◌, sym}
use Rattle.run_script.specs.Events.{script_data}
use Rattle.board_model.specs.Laid.{with_script}
use Rattle.board_core.specs.Data.{boxed}
use Rattle.board_core.specs.Stands.{script_of}
use Rattle.explore_core.proofs.Begun.{early_now, has_begun, layable_now}
use Rattle.explore_core.proofs.search.Search.begin_way.Goals as goal

pub save_over-requires : goal.save_over-requires
save_over-requires g c =
    let r = c.requires.somewhere in
    (with_script r.0.scenario (script_data (script_of c.args.self.now.board)), r.2, r.4.way.stands, r.5 ∙ sym r.4.long)

pub lay_script-requires-clause-layable : goal.lay_script-requires-clause-layable
lay_script-requires-clause-layable g c =
    let shown = boxed (λ p. (goal.Device-dyn g p).shown p.1) in
    let r = c.requires.somewhere in
    layable_now shown c.args.given.now c.args.at.now c.args.self.now c.turns.result c.turns.ensures c.requires.next r.0 r.1 r.2 r.3 r.4

pub lay_script-requires-clause-turns : goal.lay_script-requires-clause-turns
lay_script-requires-clause-turns g c =
    let shown = boxed (λ p. (goal.Device-dyn g p).shown p.1) in
    let r = c.requires.somewhere in
    early_now shown c.args.given.now c.args.at.now c.args.self.now c.turns.result c.turns.ensures c.requires.next r.0 r.3

pub returns-clause-begun : goal.returns-clause-begun
returns-clause-begun g c =
    let shown = boxed (λ p. (goal.Device-dyn g p).shown p.1) in
    let r = c.requires.somewhere in
    has_begun shown c.args.given.now c.args.at.now c.args.self.now c.turns.result c.turns.ensures c.requires.next c.lay_script.new.self (r.0, r.1, r.2, r.3, r.4) c.lay_script.ensures
