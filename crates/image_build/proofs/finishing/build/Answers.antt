use Rattle.std.proofs.Common.{◌≡◌, ◌∙◌, ◌<◌, ℕ, List, ap, arith, get_or, length, map, rules, subst, sym, []}
use Rattle.std.proofs.lemmas.Grind.{common_steps}
use Rattle.std.proofs.lemmas.List.{get_or-map, length-map}
use Rattle.std.proofs.lemmas.Result.{IfOk-weaker}
use Rattle.app_toml.specs.Apps.{AppData}
use Rattle.app_toml.specs.Held.{app_of}
use Rattle.image_format.specs.Images.{image_data}
use Rattle.image_build.specs.Built.{Built}
use Rattle.image_build.specs.Accepted.{HasAccepted}
use Rattle.image_build.proofs.Whole.{all_accepted, each_accepted, next_is, one_more, refuses_next}
use Rattle.image_build.proofs.finishing.build.Goals as goal

pub returns-in_err-source-clause-refused : goal.returns-in_err-source-clause-refused
returns-in_err-source-clause-refused c =
    let all : List (List ℕ) = map (λ v. v.items) c.args.sources.now in
    let k = c.loop-source.source-index in
    let below : k < length all = omega (arith, c.loop-source-test.true, length-map c.args.sources.now (λ v. v.items)) in
    let at : c.as_slice.result.now ≡ get_or all k [] =
    c.as_slice.ensures.value ∙ ap (λ v. v.items) c.source-item.is ∙ sym (get_or-map (λ v. v.items) c.args.sources.now k c.source-item.result [] c.loop-source-test.true) in
    let stopped = refuses_next (app_of c.args.app.now) all k c.loop-source.builder c.as_slice.result.now c.in_err-source.field-0.0 c.loop-source.invariant.same below
    (length-map c.args.sources.now (λ v. v.items) ∙ c.requires) at c.loop-source.invariant.accepted c.in_err-source.ensures.refused in
    search (stopped, rules)

pub loop-source-preserved : goal.loop-source-preserved
loop-source-preserved c =
    let all : List (List ℕ) = map (λ v. v.items) c.args.sources.now in
    let k = c.loop-source.source-index in
    let below : k < length all = omega (arith, c.loop-source-test.true, length-map c.args.sources.now (λ v. v.items)) in
    let at : c.as_slice.result.now ≡ get_or all k [] =
    c.as_slice.ensures.value ∙ ap (λ v. v.items) c.source-item.is ∙ sym (get_or-map (λ v. v.items) c.args.sources.now k c.source-item.result [] c.loop-source-test.true) in
    record {
      same = c.in_ok-source.ensures.described ∙ c.loop-source.invariant.same;
      accepted = one_more all k c.as_slice.result.now c.source.new.self below at (c.in_ok-source.ensures.accepted _ c.loop-source.invariant.accepted);
    }

pub source-requires : goal.source-requires
source-requires c =
    let all : List (List ℕ) = map (λ v. v.items) c.args.sources.now in
    let k = c.loop-source.source-index in
    let count = length-map c.args.sources.now (λ v. v.items) in
    let tasks = ap (λ a. length a.tasks) c.loop-source.invariant.same in
    omega (arith, c.loop-source-test.true, tasks, next_is all k c.loop-source.builder (omega (arith, c.loop-source-test.true, count)) c.loop-source.invariant.accepted)

pub finish-requires : goal.finish-requires
finish-requires c =
    let all : List (List ℕ) = map (λ v. v.items) c.args.sources.now in
    let k = c.loop-source.source-index in
    let count = length-map c.args.sources.now (λ v. v.items) in
    let tasks = ap (λ a. length a.tasks) c.loop-source.invariant.same in
    omega (arith, c.loop-source-test.false, tasks, next_is all k c.loop-source.builder (omega (arith, count)) c.loop-source.invariant.accepted)

done : (c : goal.After-finish) → length (map (λ v. v.items) c.args.sources.now) ≡ c.loop-source.source-index
done c = omega (arith, c.loop-source-test.false, c.loop-source.auto.source-index-end, length-map c.args.sources.now (λ v. v.items))

accepted : (c : goal.After-finish) → HasAccepted (map (λ v. v.items) c.args.sources.now) c.loop-source.builder
accepted c = each_accepted _ c.loop-source.source-index c.loop-source.builder (done c) c.loop-source.invariant.accepted

pub returns-clause-built : goal.returns-clause-built
returns-clause-built c =
    let all : List (List ℕ) = map (λ v. v.items) c.args.sources.now in
    IfOk-weaker c.finish.result _ _ (λ i h. subst (λ (a : AppData). Built a all (image_data i)) c.loop-source.invariant.same (h all (accepted c))) c.finish.ensures.built

pub returns-clause-accepted : goal.returns-clause-accepted
returns-clause-accepted c =
    let app = app_of c.args.app.now in
    let all : List (List ℕ) = map (λ v. v.items) c.args.sources.now in
    let count : length all ≡ length app.tasks = length-map c.args.sources.now (λ v. v.items) ∙ c.requires in
    IfOk-weaker c.finish.result _ _ (λ i h. all_accepted app all c.loop-source.builder c.loop-source.invariant.same count (accepted c)) c.finish.ensures.sound

pub loop-source-init : goal.loop-source-init
loop-source-init c = record { same = c.in_ok-builder.ensures.described; accepted = c.in_ok-builder.ensures.none }

pub returns-clause-sound : goal.returns-clause-sound
returns-clause-sound c = c.finish.ensures.sound

pub returns-clause-refused : goal.returns-clause-refused
returns-clause-refused c = grind (arith, common_steps)
