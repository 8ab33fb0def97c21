use Rattle.std.proofs.Common.{◌≡◌, ◌∙◌, ◌<◌, ℕ, Option, None, Some, List, [], length, get_or, drop, Bool, true, false, is_some, sym, refl, ap, arith}
use Rattle.std.specs.Prelude.{find}
use Rattle.std.specs.List.{flat_map}
use Rattle.region_check.specs.declared.Region.{Region}
use Rattle.task_table.specs.model.State.{TaskSetup}
use Rattle.board_run.proofs.MemoryLines.{find_on, find_here, find_none}
use Rattle.board_run.proofs.regions.first_region.Goals as goal

-- the setup that stands where there is no task
abbrev no_setup : TaskSetup
no_setup = record { priority = 0; entry = 0; stack = 0; regions = []; start = false }

not_some : (o : Option Region) → is_some o ≡ false → o ≡ None
not_some None e = refl
not_some (Some r) e = absurd (cc)

here : (test : Region → Bool) (f : TaskSetup → List Region) (tasks : List TaskSetup) (i : ℕ) (d : TaskSetup) (o : Option Region) → i < length tasks → is_some o ≡ true →
    o ≡ find test (f (get_or tasks i d)) → o ≡ find test (flat_map f (drop i tasks))
here test f tasks i d None lt some is = absurd (cc)
here test f tasks i d (Some r) lt some is = sym (find_here test f tasks i d r lt (sym is))

pub loop-i-init : goal.loop-i-init
loop-i-init g c = λ x s st. refl

pub returns-then-is_some-clause-found : goal.returns-then-is_some-clause-found
returns-then-is_some-clause-found g c = λ x s st.
    let f : TaskSetup → List Region = λ t. t.regions in
    let i = c.loop-i.i in
    let lt : i < length x.setup.tasks = omega (arith, c.task_count-i-end.ensures.tasks x s st, st.sane.steady.as_many, c.loop-i.auto.i-end, c.loop-i-test.true) in
    let is = c.region_in-found.ensures.found ∙ ap (find (g.T.RegionTest.holds c.args.test.now)) (c.regions.ensures x s st) in
    here (g.T.RegionTest.holds c.args.test.now) f x.setup.tasks i no_setup c.region_in-found.result lt (sym c.is_some.ensures ∙ c.if-is_some.true) is ∙ c.loop-i.invariant x s st

pub loop-i-preserved : goal.loop-i-preserved
loop-i-preserved g c = λ x s st.
    let f : TaskSetup → List Region = λ t. t.regions in
    let i = c.loop-i.i in
    let lt : i < length x.setup.tasks = omega (arith, c.task_count-i-end.ensures.tasks x s st, st.sane.steady.as_many, c.loop-i.auto.i-end, c.loop-i-test.true) in
    let is = c.region_in-found.ensures.found ∙ ap (find (g.T.RegionTest.holds c.args.test.now)) (c.regions.ensures x s st) in
    let none = sym is ∙ not_some c.region_in-found.result (sym c.is_some.ensures ∙ c.if-is_some.false) in
    sym (find_on (g.T.RegionTest.holds c.args.test.now) f x.setup.tasks i no_setup lt none) ∙ c.loop-i.invariant x s st

pub returns-clause-found : goal.returns-clause-found
returns-clause-found g c = λ x s st.
    let f : TaskSetup → List Region = λ t. t.regions in
    let all : length x.setup.tasks ≡ c.loop-i.i = omega (arith, c.task_count-i-end.ensures.tasks x s st, st.sane.steady.as_many, c.loop-i.auto.i-end, c.loop-i-test.false) in
    sym (find_none (g.T.RegionTest.holds c.args.test.now) f x.setup.tasks c.loop-i.i all) ∙ c.loop-i.invariant x s st
