use Rattle.std.proofs.Common.{◌≡◌, ◌∙◌, ◌+◌, true, List, ◌++◌, Some, length, map, ap, sym, subst, append_assoc, length-append, arith}
use Rattle.std.proofs.lemmas.List.{drop_all, get_or-map, length-map}
use Rattle.run_question.specs.declared.question.Arrival.{Arrival}
use Rattle.run_question.specs.Questions.{arrival_data}
use Rattle.run_script.specs.Events.{script_data}
use Rattle.run_script.specs.Laying.{HasRoom}
use Rattle.run_script.specs.declared.script.Script.{Script}
use Rattle.run_script.specs.Scripts.{Listed, ScriptData}
use Rattle.board_model.specs.Laid.{is_script}
use Rattle.explore_core.specs.Fine.{IsFineArrival}
use Rattle.explore_core.specs.Schedules.{events_of_schedule, events_of_way}
use Rattle.explore_core.specs.Ways.{coming_of, schedule_by}
use Rattle.explore_core.proofs.Chosen.{arrival_at, events_behind, none_at}
use Rattle.explore_core.proofs.Listing.{IsLaidBefore, all_laid, listed_long, script_in_front, some_laid}
use Rattle.explore_core.proofs.laying.lay_ways.Goals as goal
use Rattle.explore_core.proofs.laying.lay_ways.Goals.{in-Some, in_default}

pub lay_arrival-requires-clause-fine : goal.lay_arrival-requires-clause-fine
lay_arrival-requires-clause-fine c =
    let x = c.index-arrivals-place.result in
    let lt = c.loop-place-test.true in
    let long = length-map c.args.arrivals.now arrival_data in
    let fine = c.requires.fine c.loop-place.place (arrival_data x) (omega (arith, lt, long)) in
    subst IsFineArrival (get_or-map arrival_data c.args.arrivals.now c.loop-place.place x (arrival_data x) lt ∙ ap arrival_data (sym c.index-arrivals-place.is)) fine

pub lay_arrival-requires-clause-script : goal.lay_arrival-requires-clause-script
lay_arrival-requires-clause-script c =
    let arrivals = c.args.arrivals.now in
    let ways = c.args.ways.now in
    let x = c.index-arrivals-place.result in
    let events = (script_data c.loop-place.laid).events in
    let now = events_of_way (Some (coming_of (arrival_data x) c.in-Some.way)) in
    let behind = events_behind arrivals ways (c.loop-place.place + 1) in
    let cut = arrival_at arrivals ways c.loop-place.place x (Some c.in-Some.way) c.loop-place-test.true c.index-arrivals-place.is c.in-Some.is in
    let fits = subst (λ (l : List Listed). is_script (events ++ l) ≡ true) cut c.loop-place.invariant.laid.fits in
    script_in_front (events ++ now) behind (subst (λ (l : List Listed). is_script l ≡ true) (sym (append_assoc events now behind)) fits)

pub lay_arrival-requires-clause-room : goal.lay_arrival-requires-clause-room
lay_arrival-requires-clause-room c =
    let arrivals = c.args.arrivals.now in
    let ways = c.args.ways.now in
    let x = c.index-arrivals-place.result in
    let events = (script_data c.loop-place.laid).events in
    let now = events_of_way (Some (coming_of (arrival_data x) c.in-Some.way)) in
    let behind = events_behind arrivals ways (c.loop-place.place + 1) in
    let cut = ap length (arrival_at arrivals ways c.loop-place.place x (Some c.in-Some.way) c.loop-place-test.true c.index-arrivals-place.is c.in-Some.is) in
    let long = length-append now behind in
    let place = c.loop-place.invariant.place in
    omega (arith, cut, long, place)

pub loop-place-preserved : goal.loop-place-preserved
loop-place-preserved c = elim c.match-ways-place.branch [
  | in-Some w ↦
      let arrivals = c.args.arrivals.now in
      let ways = c.args.ways.now in
      let old = script_data c.args.script.now in
      let laid = script_data c.loop-place.laid in
      let next = script_data w.lay_arrival.new.laid in
      let x = w.index-arrivals-place.result in
      let now = events_of_way (Some (coming_of (arrival_data x) w.in-Some.way)) in
      let behind = events_behind arrivals ways (c.loop-place.place + 1) in
      let all = events_behind arrivals ways 0 in
      let cut = arrival_at arrivals ways c.loop-place.place x (Some w.in-Some.way) c.loop-place-test.true w.index-arrivals-place.is w.in-Some.is in
      let before = subst (λ (l : List Listed). IsLaidBefore laid old l all) cut c.loop-place.invariant.laid in
      let many = ap length cut ∙ length-append now behind in
      let count : length next.events ≡ length laid.events + length now = ap (λ (s : ScriptData). length s.events) w.lay_arrival.ensures.laid ∙ listed_long laid.events now in
      let room = w.lay_arrival.ensures.room _ c.loop-place.invariant.place in
      let place : HasRoom w.lay_arrival.new.laid (length next.events + length behind) = omega (arith, room, count, many) in
      record {
        laid = subst (λ (s : Script). IsLaidBefore (script_data s) old behind all) (sym w.laid-is) (some_laid next laid old now behind all before w.lay_arrival.ensures.laid);
        place = subst (λ (s : Script). HasRoom s (length (script_data s).events + length behind)) (sym w.laid-is) place;
        room = λ n had. subst (λ (s : Script). HasRoom s n) (sym w.laid-is) (w.lay_arrival.ensures.room n (c.loop-place.invariant.room n had));
      }
  | in_default w ↦
      let arrivals = c.args.arrivals.now in
      let ways = c.args.ways.now in
      let old = script_data c.args.script.now in
      let behind = events_behind arrivals ways (c.loop-place.place + 1) in
      let all = events_behind arrivals ways 0 in
      let cut = none_at arrivals ways c.loop-place.place c.loop-place-test.true w.in_default.not-Some in
      let laid = subst (λ (l : List Listed). IsLaidBefore (script_data c.loop-place.laid) old l all) cut c.loop-place.invariant.laid in
      let place = subst (λ (l : List Listed). HasRoom c.loop-place.laid (length (script_data c.loop-place.laid).events + length l)) cut c.loop-place.invariant.place in
      record {
        laid = subst (λ (s : Script). IsLaidBefore (script_data s) old behind all) (sym w.laid-is) laid;
        place = subst (λ (s : Script). HasRoom s (length (script_data s).events + length behind)) (sym w.laid-is) place;
        room = λ n had. subst (λ (s : Script). HasRoom s n) (sym w.laid-is) (c.loop-place.invariant.room n had);
      }
]

pub returns-clause-laid : goal.returns-clause-laid
returns-clause-laid c =
    let old = script_data c.args.script.now in
    let all = events_behind c.args.arrivals.now c.args.ways.now 0 in
    let none = drop_all c.loop-place.place c.args.arrivals.now c.loop-place-test.false in
    let rest : List Arrival → List Listed = λ xs. events_of_schedule (schedule_by c.loop-place.place (map arrival_data xs) c.args.ways.now) in
    let done = subst (λ (xs : List Arrival). IsLaidBefore (script_data c.loop-place.laid) old (rest xs) all) none c.loop-place.invariant.laid in
    all_laid (script_data c.loop-place.laid) old all done

pub returns-clause-count : goal.returns-clause-count
returns-clause-count c =
    let old = script_data c.args.script.now in
    let all = events_behind c.args.arrivals.now c.args.ways.now 0 in
    let none = drop_all c.loop-place.place c.args.arrivals.now c.loop-place-test.false in
    let rest : List Arrival → List Listed = λ xs. events_of_schedule (schedule_by c.loop-place.place (map arrival_data xs) c.args.ways.now) in
    let done = subst (λ (xs : List Arrival). IsLaidBefore (script_data c.loop-place.laid) old (rest xs) all) none c.loop-place.invariant.laid in
    ap length done.events ∙ listed_long old.events all
