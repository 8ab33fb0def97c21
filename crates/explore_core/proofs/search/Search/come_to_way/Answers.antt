use Rattle.std.proofs.Common.{◌≡◌, ◌∙◌, ℕ, ◌-◌, List, map, refl, sym, ap, subst, arith}
use Rattle.run_question.specs.declared.question.Arrival.{Arrival}
use Rattle.run_question.specs.Questions.{arrival_data}
use Rattle.board_core.specs.Data.{boxed}
use Rattle.board_core.specs.Stands.{turns_of}
use Rattle.explore_core.specs.Searching.{left_at}
use Rattle.explore_core.proofs.Moved.{falls_by, none_open, passed_to, somewhere, under_way_on}
use Rattle.explore_core.proofs.Steps.{ends_then, goes_itself, goes_then}
use Rattle.explore_core.proofs.search.Search.come_to_way.Goals as goal

pub turns-init : goal.turns-init
turns-init g c =
    let shown = boxed (λ p. (goal.Device-dyn g p).shown p.1) in
    record { goes = goes_itself shown c.args.given.now c.args.at.now c.args.self.now; pending = refl; later = omega arith; falls = omega arith }

pub returns-then-find_next-clause-on : goal.returns-then-find_next-clause-on
returns-then-find_next-clause-on g c = λ yes.
    let shown = boxed (λ p. (goal.Device-dyn g p).shown p.1) in
    let given = c.args.given.now in
    let w = c.turns.self in
    let i = c.turns.invariant in
    let read = sym (ap (λ (l : List Arrival). map arrival_data l) c.deref.ensures.value) in
    let step = passed_to shown given c.turns.at c.find_next.new.self w c.find_next.ensures.pending
    (λ a is came. subst (λ (n : ℕ). left_at a c.find_next.new.self came n ≡ left_at a c.turns.at came n) c.turns-in-turns.ensures (c.find_next.ensures.left a (is ∙ read) came)) in
    goes_then shown given c.args.at.now c.turns.at c.find_next.new.self c.args.self.now w w i.later (omega arith) i.goes step

pub returns-then-find_next-clause-falls : goal.returns-then-find_next-clause-falls
returns-then-find_next-clause-falls g c = λ yes.
    let one = c.find_next.ensures.falls (c.args.given.now.limit - turns_of c.turns.self.board) in
    let two = c.turns.invariant.falls in
    omega (arith, one, two)

pub go_on-requires-clause-somewhere : goal.go_on-requires-clause-somewhere
go_on-requires-clause-somewhere g c =
    let shown = boxed (λ p. (goal.Device-dyn g p).shown p.1) in
    let given = c.args.given.now in
    let w = c.turns.self in
    let i = c.turns.invariant in
    let read = sym (ap (λ (l : List Arrival). map arrival_data l) c.deref.ensures.value) in
    let step = passed_to shown given c.turns.at c.find_next.new.self w c.find_next.ensures.pending
    (λ a is came. subst (λ (n : ℕ). left_at a c.find_next.new.self came n ≡ left_at a c.turns.at came n) c.turns-in-turns.ensures (c.find_next.ensures.left a (is ∙ read) came)) in
    let all = goes_then shown given c.args.at.now c.turns.at c.find_next.new.self c.args.self.now w w i.later (omega arith) i.goes step in
    somewhere shown given c.find_next.new.self w (under_way_on shown given c.args.at.now c.find_next.new.self c.args.self.now w i.later all c.requires.under_way)

pub returns-then-not-go_on-clause-ended : goal.returns-then-not-go_on-clause-ended
returns-then-not-go_on-clause-ended g c = λ no_more.
    let shown = boxed (λ p. (goal.Device-dyn g p).shown p.1) in
    let given = c.args.given.now in
    let w = c.turns.self in
    let i = c.turns.invariant in
    let read = sym (ap (λ (l : List Arrival). map arrival_data l) c.deref.ensures.value) in
    let step = passed_to shown given c.turns.at c.find_next.new.self w c.find_next.ensures.pending
    (λ a is came. subst (λ (n : ℕ). left_at a c.find_next.new.self came n ≡ left_at a c.turns.at came n) c.turns-in-turns.ensures (c.find_next.ensures.left a (is ∙ read) came)) in
    let all = goes_then shown given c.args.at.now c.turns.at c.find_next.new.self c.args.self.now w w i.later (omega arith) i.goes step in
    ends_then shown given c.args.at.now c.find_next.new.self c.args.self.now w c.go_on.new.self i.later all (c.go_on.ensures.ended c.if-not-go_on.true)

pub turns-smaller : goal.turns-smaller
turns-smaller g c =
    let later = c.go_on.ensures.later c.if-not-go_on.false in
    let within = c.go_on.ensures.within c.if-not-go_on.false in
    omega (arith, later, within)

pub turns-preserved : goal.turns-preserved
turns-preserved g c =
    let shown = boxed (λ p. (goal.Device-dyn g p).shown p.1) in
    let given = c.args.given.now in
    let w = c.turns.self in
    let i = c.turns.invariant in
    let read = sym (ap (λ (l : List Arrival). map arrival_data l) c.deref.ensures.value) in
    let step = passed_to shown given c.turns.at c.find_next.new.self w c.find_next.ensures.pending
    (λ a is came. subst (λ (n : ℕ). left_at a c.find_next.new.self came n ≡ left_at a c.turns.at came n) c.turns-in-turns.ensures (c.find_next.ensures.left a (is ∙ read) came)) in
    let all = goes_then shown given c.args.at.now c.turns.at c.find_next.new.self c.args.self.now w w i.later (omega arith) i.goes step in
    let later = c.go_on.ensures.later c.if-not-go_on.false in
    let within = c.go_on.ensures.within c.if-not-go_on.false in
    record {
      goes = goes_then shown given c.args.at.now c.find_next.new.self c.go_on.new.at c.args.self.now w c.go_on.new.self i.later (omega (arith, later)) all (c.go_on.ensures.on c.if-not-go_on.false);
      pending = c.go_on.ensures.pending ∙ c.find_next.ensures.pending ∙ i.pending;
      later = let before = i.later in omega (arith, before, later);
      falls =
          let before = i.falls in
          let less = falls_by c.args.given.now.limit (turns_of w.board) (turns_of c.go_on.new.self.board) c.turns.at c.go_on.new.at later within in
          omega (arith, before, less);
    }

pub returns-clause-ended : goal.returns-clause-ended
returns-clause-ended g c = λ no_more.
    let shown = boxed (λ p. (goal.Device-dyn g p).shown p.1) in
    let i = c.turns.invariant in
    ends_then shown c.args.given.now c.args.at.now c.turns.at c.args.self.now c.turns.self c.turns.self i.later i.goes (none_open shown c.args.given.now c.turns.at c.turns.self (sym c.is_open.ensures ∙ c.turns-test.false))
