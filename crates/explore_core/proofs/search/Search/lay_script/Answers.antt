use Rattle.std.proofs.Common.{◌∙◌, List, map, refl, sym, ap, subst}
use Rattle.run_script.specs.Events.{script_data}
use Rattle.run_script.specs.declared.script.Script.{Script}
use Rattle.run_question.specs.declared.question.Arrival.{Arrival}
use Rattle.run_question.specs.Questions.{arrival_data}
use Rattle.board_model.specs.Laid.{with_script}
use Rattle.board_core.specs.Data.{boxed}
use Rattle.board_core.specs.Stands.{Holds}
use Rattle.explore_core.specs.Ways.{laid_by, schedule_in}
use Rattle.explore_core.proofs.search.Search.lay_script.Goals as goal

pub returns : goal.returns
returns g c =
    let shown = boxed (λ p. (goal.Device-dyn g p).shown p.1) in
    let e = c.exchange_script in
    record {
      same = refl;
      script =
          ap script_data e.ensures.taken ∙ c.lay_ways.ensures.laid
          ∙ ap (λ (l : List Arrival). laid_by (script_data c.args.given.now.script) (schedule_in (map arrival_data l) c.args.self.now.ways)) c.deref.ensures.value;
      spare = e.ensures.given;
      holds = λ x s stood. subst (λ (k : Script). Holds shown (with_script x (script_data k)) e.new.self s) (sym e.ensures.taken) (e.ensures.holds x s stood);
    }
