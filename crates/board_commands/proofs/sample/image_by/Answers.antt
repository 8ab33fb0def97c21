use Rattle.std.proofs.Common.{◌≡◌, ◌∙◌, ◌<◌, ℕ, List, ap, arith, get_or, length, map, rules, subst, sym, string_bytes, []}
use Rattle.std.proofs.lemmas.List.{get_or-map, length-map}
use Rattle.std.proofs.lemmas.Result.{IfOk-weaker}
use Rattle.app_toml.specs.Apps.{AppData}
use Rattle.app_toml.specs.Held.{app_of}
use Rattle.image_format.specs.Images.{image_data}
use Rattle.image_build.specs.Built.{Built}
use Rattle.image_build.specs.Accepted.{HasAccepted}
use Rattle.image_build.proofs.Whole.{each_accepted, one_more, refuses_next}
use Rattle.board_commands.proofs.sample.image_by.Goals as goal

pub returns-in_err-source-clause-refused : goal.returns-in_err-source-clause-refused
returns-in_err-source-clause-refused c =
    let all : List (List ℕ) = map string_bytes c.args.sources.now in
    let k = c.loop-source.source-index in
    let below : k < length all = omega (arith, c.loop-source-test.true, length-map c.args.sources.now string_bytes) in
    let at : c.as_bytes.result.now ≡ get_or all k [] =
    c.as_bytes.ensures.value ∙ ap string_bytes c.source-item.is ∙ sym (get_or-map string_bytes c.args.sources.now k c.source-item.result [] c.loop-source-test.true) in
    let seen = refuses_next (app_of c.args.app.now) all k c.loop-source.builder c.as_bytes.result.now c.in_err-source.field-0.0 c.loop-source.invariant.same below
    (length-map c.args.sources.now string_bytes ∙ c.requires) at c.loop-source.invariant.accepted_sources c.in_err-source.ensures.refused in
    search (seen, rules)

pub loop-source-preserved : goal.loop-source-preserved
loop-source-preserved c =
    let all : List (List ℕ) = map string_bytes c.args.sources.now in
    let k = c.loop-source.source-index in
    let below : k < length all = omega (arith, c.loop-source-test.true, length-map c.args.sources.now string_bytes) in
    let at : c.as_bytes.result.now ≡ get_or all k [] =
    c.as_bytes.ensures.value ∙ ap string_bytes c.source-item.is ∙ sym (get_or-map string_bytes c.args.sources.now k c.source-item.result [] c.loop-source-test.true) in
    record {
      same = c.in_ok-source.ensures.described ∙ c.loop-source.invariant.same;
      accepted_sources = one_more all k c.as_bytes.result.now c.source.new.self below at (c.in_ok-source.ensures.accepted _ c.loop-source.invariant.accepted_sources);
    }

done : (c : goal.After-finish) → length (map string_bytes c.args.sources.now) ≡ c.loop-source.source-index
done c = omega (arith, c.loop-source-test.false, c.loop-source.auto.source-index-end, length-map c.args.sources.now string_bytes)

accepted_sources : (c : goal.After-finish) → HasAccepted (map string_bytes c.args.sources.now) c.loop-source.builder
accepted_sources c = each_accepted _ c.loop-source.source-index c.loop-source.builder (done c) c.loop-source.invariant.accepted_sources

pub returns-clause-built : goal.returns-clause-built
returns-clause-built c =
    let all : List (List ℕ) = map string_bytes c.args.sources.now in
    IfOk-weaker c.finish.result _ _ (λ i h. subst (λ (a : AppData). Built a all (image_data i)) c.loop-source.invariant.same (h all (accepted_sources c))) c.finish.ensures.built
