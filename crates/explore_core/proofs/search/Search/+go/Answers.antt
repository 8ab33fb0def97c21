use Rattle.std.proofs.Common.{◌≡◌, ◌∙◌, ℕ, ◌-◌, ◌≤◌, Bool, List, ◌∷◌, None, length, map, Vec, Global, refl, sym, ap, subst, arith}
use Rattle.std.specs.List.{All}
use Rattle.std.proofs.lemmas.List.Elements.{All-head, All-tail}
use Rattle.board_model.specs.Alike.{reduced}
use Rattle.board_model.specs.Script.{start_of}
use Rattle.snapshot.specs.Saved.{expected_of, spelling}
use Rattle.board_core.specs.Data.{boxed}
use Rattle.board_core.specs.Stands.{script_of, turns_of}
use Rattle.board_model.specs.Laid.{with_script}
use Rattle.run_script.specs.Events.{script_data}
use Rattle.snapshot.specs.Waits.{state_fault}
use Rattle.explore_core.specs.declared.position.Position.{Position}
use Rattle.explore_core.specs.Searching.{Ends, HasReturned, IsAt, behind, party_in, to_do, without_next}
use Rattle.explore_core.proofs.Forked.{forked, turns_again}
use Rattle.explore_core.proofs.Gone.{all_long, as_many, deeper_at, deeper_came, deeper_ended, deeper_seen, falls_behind, few_choices, fits_back, layable_back, one_less}
use Rattle.explore_core.proofs.Moved.{under_way_on}
use Rattle.explore_core.proofs.Steps.{ends_then, goes_itself, goes_then, seen_there}
use Rattle.explore_core.specs.contracts.search.Search.go as contract
use Rattle.explore_core.proofs.search.Search.+go.Goals as goal

pub ways-init : goal.ways-init
ways-init g t c =
    let shown = boxed {X = g.dyn-1.0.I} {H = λ x. (g.dyn-1.0.entry x).0.Denot} (λ z. (contract.dyn-1.members (contract.dyn-1-ghosts (g.dyn-1.0, g.dyn-1.1)) z).shown z.1) in
    record { goes = goes_itself shown c.args.given.now c.args.at c.args.self.now; pending = refl; later = omega arith; rooms = refl }

pub come_to_way-requires : goal.come_to_way-requires
come_to_way-requires g t c =
    let shown = boxed {X = g.dyn-1.0.I} {H = λ x. (g.dyn-1.0.entry x).0.Denot} (λ z. (contract.dyn-1.members (contract.dyn-1-ghosts (g.dyn-1.0, g.dyn-1.1)) z).shown z.1) in
    let h = c.requires.under_way in
    let i = c.ways.invariant in
    record { under_way = under_way_on shown c.args.given.now c.args.at c.ways.at c.args.self.now c.ways.self i.later i.goes (h.0, h.1, h.2, h.3, h.4, h.5) }

pub begin_way-next-requires-clause-somewhere : goal.begin_way-next-requires-clause-somewhere
begin_way-next-requires-clause-somewhere g t c =
    let shown = boxed {X = g.dyn-1.0.I} {H = λ x. (g.dyn-1.0.entry x).0.Denot} (λ z. (contract.dyn-1.members (contract.dyn-1-ghosts (g.dyn-1.0, g.dyn-1.1)) z).shown z.1) in
    let given = c.args.given.now in
    let h = c.requires.under_way in
    let i = c.ways.invariant in
    let at = c.come_to_way.new.at in
    let w0 = c.come_to_way.new.self in
    let yes = c.ways-test.true in
    let later = c.come_to_way.ensures.later yes in
    let le : turns_of c.args.self.now.board ≤ turns_of w0.board = let before = i.later in omega (arith, before, later) in
    let all = goes_then shown given c.args.at c.ways.at at c.args.self.now c.ways.self w0 i.later later i.goes (c.come_to_way.ensures.on yes) in
    let led = all.led h.0 h.1 h.2 h.3 h.4 h.5 in
    let P : Vec ℕ Global → Type 0 = λ r. length r.items ≡ length (spelling (reduced (start_of h.0.scenario))) in
    let cases = c.in-Some.ensures.cases in
    let rooms = subst (λ (l : List (Vec ℕ Global)). All P l) cases.0 (all_long (length (spelling (reduced (start_of h.0.scenario)))) c.ways.rooms c.args.rooms.now i.rooms h.7) in
    (h.0, h.1, led.state, h.3, led.stands, All-head P c.in-Some.room.now c.in-Some.deeper.now rooms)

pub go-requires : goal.go-requires
go-requires g t c =
    let shown = boxed {X = g.dyn-1.0.I} {H = λ x. (g.dyn-1.0.entry x).0.Denot} (λ z. (contract.dyn-1.members (contract.dyn-1-ghosts (g.dyn-1.0, g.dyn-1.1)) z).shown z.1) in
    let given = c.args.given.now in
    let h = c.requires.under_way in
    let i = c.ways.invariant in
    let at = c.come_to_way.new.at in
    let w0 = c.come_to_way.new.self in
    let yes = c.ways-test.true in
    let later = c.come_to_way.ensures.later yes in
    let le : turns_of c.args.self.now.board ≤ turns_of w0.board = let before = i.later in omega (arith, before, later) in
    let all = goes_then shown given c.args.at c.ways.at at c.args.self.now c.ways.self w0 i.later later i.goes (c.come_to_way.ensures.on yes) in
    let led = all.led h.0 h.1 h.2 h.3 h.4 h.5 in
    let seen = seen_there shown given c.args.at at c.args.self.now w0 le all h.0 h.1 h.2 h.3 h.4 h.5 in
    let next = c.come_to_way.ensures.next yes in
    let w1 = c.begin_way-next.new.self in
    let begun = c.begin_way-next.ensures.begun in
    let P : Vec ℕ Global → Type 0 = λ r. length r.items ≡ length (spelling (reduced (start_of h.0.scenario))) in
    let cases = c.in-Some.ensures.cases in
    let rooms = subst (λ (l : List (Vec ℕ Global)). All P l) cases.0 (all_long (length (spelling (reduced (start_of h.0.scenario)))) c.ways.rooms c.args.rooms.now i.rooms h.7) in
    let e = c.begin_way-next.ensures.next in
    let less = one_less h.0 given h.3 (turns_of w0.board) at next in
    let same : length (party_in h.0.question.arrivals at.pending) ≡ length (party_in h.0.question.arrivals c.args.at.pending) = ap (λ (l : List Bool). length (party_in h.0.question.arrivals l)) (c.come_to_way.ensures.pending ∙ i.pending) in
    let few = h.6 in
    let many = as_many c.ways.rooms c.args.rooms.now i.rooms in
    let one = cases.1 in
    let fewer : length (party_in h.0.question.arrivals (without_next at).pending) ≤ length c.in-Some.deeper.now = omega (arith, less, same, few, many, one) in
    let falls = c.decreases in (
      omega (arith, many, one, falls),
      (
        h.0,
        deeper_came shown given at w0 w1 next begun h.0 h.1 led.state h.3 led.stands seen,
        led.state,
        h.3,
        subst (λ (p : Position). IsAt shown h.0 p (deeper_came shown given at w0 w1 next begun h.0 h.1 led.state h.3 led.stands seen) led.state w1) (sym e) (deeper_at shown given at w0 w1 next begun h.0 h.1 led.state h.3 led.stands seen),
        deeper_seen shown given at w0 w1 next begun h.0 h.1 led.state h.3 led.stands seen,
        subst (λ (p : Position). length (party_in h.0.question.arrivals p.pending) ≤ length c.in-Some.deeper.now) (sym e) fewer,
        All-tail P c.in-Some.room.now c.in-Some.deeper.now rooms,
      ),
    )

pub end_way-requires-clause-loadable : goal.end_way-requires-clause-loadable
end_way-requires-clause-loadable g t c =
    let shown = boxed {X = g.dyn-1.0.I} {H = λ x. (g.dyn-1.0.entry x).0.Denot} (λ z. (contract.dyn-1.members (contract.dyn-1-ghosts (g.dyn-1.0, g.dyn-1.1)) z).shown z.1) in
    let given = c.args.given.now in
    let h = c.requires.under_way in
    let i = c.ways.invariant in
    let at = c.come_to_way.new.at in
    let w0 = c.come_to_way.new.self in
    let yes = c.ways-test.true in
    let later = c.come_to_way.ensures.later yes in
    let le : turns_of c.args.self.now.board ≤ turns_of w0.board = let before = i.later in omega (arith, before, later) in
    let all = goes_then shown given c.args.at c.ways.at at c.args.self.now c.ways.self w0 i.later later i.goes (c.come_to_way.ensures.on yes) in
    let led = all.led h.0 h.1 h.2 h.3 h.4 h.5 in
    let seen = seen_there shown given c.args.at at c.args.self.now w0 le all h.0 h.1 h.2 h.3 h.4 h.5 in
    let next = c.come_to_way.ensures.next yes in
    let w1 = c.begin_way-next.new.self in
    let begun = c.begin_way-next.ensures.begun in
    let w2 = c.go.new.self in
    let deeper = subst (λ (p : Position). Ends shown given p w1 w2) c.begin_way-next.ensures.next c.go.ensures.ended in
    let ended = deeper_ended shown given at w0 w1 next begun h.0 h.1 led.state h.3 led.stands seen w2 deeper in (
      with_script h.0.scenario (script_data (script_of w2.board)),
      ended.state,
      ended.stands,
      subst (λ (b : List ℕ). state_fault (expected_of h.0.scenario.setup ended.state.devices) b ≡ None) (sym c.deref.ensures.value)
          (fits_back shown given at w0 w1 next begun h.0 h.1 led.state h.3 led.stands seen w2 deeper c.saved_states_are_accepted.ensures c.begin_way-next.new.room.items c.begin_way-next.ensures.saved),
    )

pub end_way-requires-clause-layable : goal.end_way-requires-clause-layable
end_way-requires-clause-layable g t c =
    let shown = boxed {X = g.dyn-1.0.I} {H = λ x. (g.dyn-1.0.entry x).0.Denot} (λ z. (contract.dyn-1.members (contract.dyn-1-ghosts (g.dyn-1.0, g.dyn-1.1)) z).shown z.1) in
    let given = c.args.given.now in
    let h = c.requires.under_way in
    let i = c.ways.invariant in
    let at = c.come_to_way.new.at in
    let w0 = c.come_to_way.new.self in
    let yes = c.ways-test.true in
    let later = c.come_to_way.ensures.later yes in
    let le : turns_of c.args.self.now.board ≤ turns_of w0.board = let before = i.later in omega (arith, before, later) in
    let all = goes_then shown given c.args.at c.ways.at at c.args.self.now c.ways.self w0 i.later later i.goes (c.come_to_way.ensures.on yes) in
    let led = all.led h.0 h.1 h.2 h.3 h.4 h.5 in
    let seen = seen_there shown given c.args.at at c.args.self.now w0 le all h.0 h.1 h.2 h.3 h.4 h.5 in
    let next = c.come_to_way.ensures.next yes in
    let w1 = c.begin_way-next.new.self in
    let begun = c.begin_way-next.ensures.begun in
    let w2 = c.go.new.self in
    let deeper = subst (λ (p : Position). Ends shown given p w1 w2) c.begin_way-next.ensures.next c.go.ensures.ended in
    layable_back shown given at w0 w1 next begun h.0 h.1 led.state h.3 led.stands seen w2 deeper

pub overflow_add-at : goal.overflow_add-at
overflow_add-at g t c =
    let h = c.requires.under_way in
    let few = few_choices h.0 c.args.given.now h.3 (turns_of c.come_to_way.new.self.board) c.come_to_way.new.at (c.come_to_way.ensures.next c.ways-test.true) in
    omega (arith, few)

pub ways-smaller : goal.ways-smaller
ways-smaller g t c =
    let shown = boxed {X = g.dyn-1.0.I} {H = λ x. (g.dyn-1.0.entry x).0.Denot} (λ z. (contract.dyn-1.members (contract.dyn-1-ghosts (g.dyn-1.0, g.dyn-1.1)) z).shown z.1) in
    let given = c.args.given.now in
    let h = c.requires.under_way in
    let i = c.ways.invariant in
    let at = c.come_to_way.new.at in
    let w0 = c.come_to_way.new.self in
    let yes = c.ways-test.true in
    let later = c.come_to_way.ensures.later yes in
    let le : turns_of c.args.self.now.board ≤ turns_of w0.board = let before = i.later in omega (arith, before, later) in
    let all = goes_then shown given c.args.at c.ways.at at c.args.self.now c.ways.self w0 i.later later i.goes (c.come_to_way.ensures.on yes) in
    let led = all.led h.0 h.1 h.2 h.3 h.4 h.5 in
    let seen = seen_there shown given c.args.at at c.args.self.now w0 le all h.0 h.1 h.2 h.3 h.4 h.5 in
    let next = c.come_to_way.ensures.next yes in
    let w1 = c.begin_way-next.new.self in
    let begun = c.begin_way-next.ensures.begun in
    let w2 = c.go.new.self in
    let deeper = subst (λ (p : Position). Ends shown given p w1 w2) c.begin_way-next.ensures.next c.go.ensures.ended in
    let back = subst (λ (b : List ℕ). HasReturned shown given w0.ways b c.numbers-kept.result w2 c.end_way.new.self) c.deref.ensures.value c.end_way.ensures in
    let turns = turns_again shown given at c.numbers-kept.result c.begin_way-next.new.room.items w0 w1 w2 c.end_way.new.self next begun c.begin_way-next.ensures.saved c.numbers-kept.ensures deeper back h.0 h.1 led.state led.stands in
    let less = falls_behind h.0 given h.3 (turns_of w0.board) at next (given.limit - turns_of w0.board) in
    let before = c.come_to_way.ensures.falls yes in
    let same : to_do (given.limit - turns_of c.end_way.new.self.board) (behind at) ≡ to_do (given.limit - turns_of w0.board) (behind at) = ap (λ (n : ℕ). to_do (given.limit - n) (behind at)) turns in
    omega (arith, less, before, same)

pub ways-preserved : goal.ways-preserved
ways-preserved g t c =
    let shown = boxed {X = g.dyn-1.0.I} {H = λ x. (g.dyn-1.0.entry x).0.Denot} (λ z. (contract.dyn-1.members (contract.dyn-1-ghosts (g.dyn-1.0, g.dyn-1.1)) z).shown z.1) in
    let given = c.args.given.now in
    let h = c.requires.under_way in
    let i = c.ways.invariant in
    let at = c.come_to_way.new.at in
    let w0 = c.come_to_way.new.self in
    let yes = c.ways-test.true in
    let later = c.come_to_way.ensures.later yes in
    let le : turns_of c.args.self.now.board ≤ turns_of w0.board = let before = i.later in omega (arith, before, later) in
    let all = goes_then shown given c.args.at c.ways.at at c.args.self.now c.ways.self w0 i.later later i.goes (c.come_to_way.ensures.on yes) in
    let led = all.led h.0 h.1 h.2 h.3 h.4 h.5 in
    let seen = seen_there shown given c.args.at at c.args.self.now w0 le all h.0 h.1 h.2 h.3 h.4 h.5 in
    let next = c.come_to_way.ensures.next yes in
    let w1 = c.begin_way-next.new.self in
    let begun = c.begin_way-next.ensures.begun in
    let w2 = c.go.new.self in
    let deeper = subst (λ (p : Position). Ends shown given p w1 w2) c.begin_way-next.ensures.next c.go.ensures.ended in
    let w3 = c.end_way.new.self in
    let back = subst (λ (b : List ℕ). HasReturned shown given w0.ways b c.numbers-kept.result w2 w3) c.deref.ensures.value c.end_way.ensures in
    let step = forked shown given at c.numbers-kept.result c.begin_way-next.new.room.items w0 w1 w2 w3 next begun c.begin_way-next.ensures.saved c.numbers-kept.ensures deeper back in
    let turns = turns_again shown given at c.numbers-kept.result c.begin_way-next.new.room.items w0 w1 w2 w3 next begun c.begin_way-next.ensures.saved c.numbers-kept.ensures deeper back h.0 h.1 led.state led.stands in
    let long = c.begin_way-next.ensures.long in
    let others = c.go.ensures.rooms in
    record {
      goes = goes_then shown given c.args.at at (behind at) c.args.self.now w0 w3 le (omega (arith, turns)) all step;
      pending = c.come_to_way.ensures.pending ∙ i.pending;
      later = omega (arith, turns, le);
      rooms = (λ j. long j ∷ others j) ∙ ap (λ (l : List (Vec ℕ Global)). map (λ r. length r.items) l) (sym c.in-Some.ensures.cases.0) ∙ i.rooms;
    }

pub unreachable-requires : goal.unreachable-requires
unreachable-requires g t c =
    let h = c.requires.under_way in
    let i = c.ways.invariant in
    let at = c.come_to_way.new.at in
    let less = one_less h.0 c.args.given.now h.3 (turns_of c.come_to_way.new.self.board) at (c.come_to_way.ensures.next c.ways-test.true) in
    let same : length (party_in h.0.question.arrivals at.pending) ≡ length (party_in h.0.question.arrivals c.args.at.pending) = ap (λ (l : List Bool). length (party_in h.0.question.arrivals l)) (c.come_to_way.ensures.pending ∙ i.pending) in
    let few = h.6 in
    let many = as_many c.ways.rooms c.args.rooms.now i.rooms in
    let none = c.in-None.ensures.cases in
    omega (arith, less, same, few, many, none)

pub returns-clause-ended : goal.returns-clause-ended
returns-clause-ended g t c =
    let shown = boxed {X = g.dyn-1.0.I} {H = λ x. (g.dyn-1.0.entry x).0.Denot} (λ z. (contract.dyn-1.members (contract.dyn-1-ghosts (g.dyn-1.0, g.dyn-1.1)) z).shown z.1) in
    let i = c.ways.invariant in
    ends_then shown c.args.given.now c.args.at c.ways.at c.args.self.now c.ways.self c.come_to_way.new.self i.later i.goes (c.come_to_way.ensures.ended c.ways-test.false)

pub returns-clause-rooms : goal.returns-clause-rooms
returns-clause-rooms g t c = c.ways.invariant.rooms
