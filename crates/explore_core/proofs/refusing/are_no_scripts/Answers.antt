use Rattle.std.proofs.Common.{◌∙◌, map, sym, arith}
use Rattle.std.proofs.lemmas.Bool.{both_ways, lt-ltb, ltb-false}
use Rattle.run_script.specs.Events.{script_data}
use Rattle.run_question.specs.Questions.{arrival_data}
use Rattle.explore_core.specs.Refusals.{may_be_late}
use Rattle.explore_core.proofs.Refused.{any_mapped, late_only}
use Rattle.explore_core.proofs.refusing.are_no_scripts.Goals.{else-most_together-gt-MOST_OF_TURN, then-most_together-gt-MOST_OF_TURN}
use Rattle.explore_core.proofs.refusing.are_no_scripts.Goals as goal

pub returns-else-all_together-gt-MOST : goal.returns-else-all_together-gt-MOST
returns-else-all_together-gt-MOST c =
    let script = script_data c.args.script.now in
    let arrivals = map arrival_data c.args.arrivals.now in
    elim c.if-most_together-gt-MOST_OF_TURN.branch [
      | then-most_together-gt-MOST_OF_TURN w ↦ absurd (both_ways _ c.if-all_together-gt-MOST.false (w.value-is ∙ lt-ltb 8 c.most_together.result w.if-most_together-gt-MOST_OF_TURN.true))
      | else-most_together-gt-MOST_OF_TURN w ↦
          late_only script arrivals c.may_any_be_late.result c.facts.ensures.script (omega (arith, c.most_together.ensures, w.if-most_together-gt-MOST_OF_TURN.false))
          (omega (arith, w.all_together.ensures, ltb-false 65536 w.all_together.result (sym w.value-is ∙ c.if-all_together-gt-MOST.false)))
          (c.may_any_be_late.ensures ∙ sym (any_mapped may_be_late arrival_data c.args.arrivals.now))
    ]
