use Rattle.std.proofs.Common.{◌∙◌, sym, ap, subst, arith}
use Rattle.run_script.specs.Events.{script_data}
use Rattle.snapshot.specs.Restored.{state_in}
use Rattle.explore_core.specs.declared.watch.Watch.{Watch}
use Rattle.explore_core.specs.Searching.{IsBackAt}
use Rattle.explore_core.specs.Watching.{watched_of}
use Rattle.explore_core.proofs.Back.{back_at, turn_again, turn_within}
use Rattle.explore_core.proofs.search.Search.end_way.Goals as goal

pub lay_script-requires-clause-layable : goal.lay_script-requires-clause-layable
lay_script-requires-clause-layable g c =
    let l = c.requires.layable in
    record { fine = l.fine; few = l.few; ways = l.ways; script = l.script; room = l.room }

pub lay_script-requires-clause-turns : goal.lay_script-requires-clause-turns
lay_script-requires-clause-turns g c =
    let r = c.requires.loadable in
    let stood = c.load_into.ensures.stands r.0 r.1 r.2 in
    let turns = stood.holds.turns in
    let within = turn_within r.0.setup r.1.devices c.args.room.now r.3 in
    omega (arith, turns, within)

pub returns : goal.returns
returns g c =
    let r = c.requires.loadable in
    let old = c.args.self.now in
    let laid = c.lay_script.ensures in
    let new = c.lay_script.new.self in
    let loaded = c.load_into.ensures in
    let there = state_in r.0.setup r.1.devices c.args.room.now in
    let stood = loaded.stands r.0 r.1 r.2 in
    let watch = ap (λ v. v.watch) laid.same in
    record {
      same = laid.same ∙ ap (λ (v : Watch). record old { board = new.board; ways = c.args.ways.now; watch = v; spare = new.spare }) (sym watch);
      watched = subst (λ (v : Watch). IsBackAt c.args.kept.now (watched_of old.watch) (watched_of v)) (sym watch) (back_at c.args.kept.now (watched_of old.watch) (watched_of c.go_back.new.self) c.go_back.ensures);
      turns = λ x s spelled. (laid.holds r.0 there stood.holds).turns ∙ turn_again r.0.setup x.setup r.1.devices s c.args.room.now spelled;
      stands = λ x v s before spelled sane counted sites. record { holds = laid.holds x s (loaded.each x v s before spelled sane counted sites).holds; sane = sane; counted = counted };
      script = laid.script;
      spare = ap script_data laid.spare ∙ stood.holds.script ∙ sym r.2.holds.script;
    }
