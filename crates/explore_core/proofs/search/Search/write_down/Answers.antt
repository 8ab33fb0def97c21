use Rattle.std.proofs.Common.{◌≡◌, ◌<◌, List, None, Some, cond, length, map, get_or, subst, arith}
use Rattle.std.specs.Option.{option_or}
use Rattle.std.proofs.lemmas.List.{length-map}
use Rattle.run_question.specs.declared.question.Arrival as code
use Rattle.run_question.specs.Questions.{arrival_data}
use Rattle.explore_core.specs.declared.watch.Watched.{Watched}
use Rattle.explore_core.specs.Searching.{AreEarliest}
use Rattle.explore_core.specs.Watching.{is_open, judged}
use Rattle.explore_core.proofs.search.Search.write_down.Goals as goal

pub returns-clause-written : goal.returns-clause-written
returns-clause-written g c =
    let old = c.args.self.now in
    let ways = c.earliest_ways-ways.result in
    record {
      taken = ways;
      early = subst (λ (l : List code.Arrival). AreEarliest (map arrival_data l) c.args.pending.now c.args.from old.ways ways) c.deref.ensures.value c.earliest_ways-ways.ensures;
      each = λ place w lt.
          subst (λ (l : List Watched). place < length l → get_or c.write_broken.new.found place None ≡ option_or (get_or old.found place None) (cond (is_open (get_or (map judged l) place w).1) None (Some ways)))
          c.as_slice.ensures.value (c.write_broken.ensures place w) (omega (arith, lt, length-map old.watch.properties.items judged));
    }
