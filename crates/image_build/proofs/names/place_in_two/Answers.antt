use Rattle.std.proofs.Common.{◌∙◌, ◌+◌, ◌<◌, ◌≤◌, ap₂, arith, length, map, string_bytes}
use Rattle.std.proofs.lemmas.List.{length-map}
use Rattle.image_build.specs.Layout.{index_of}
use Rattle.image_build.proofs.Finding.{in_first, in_second, place_most}
use Rattle.image_build.proofs.names.place_in_two.Goals as goal
use Rattle.image_build.proofs.names.place_in_two.Goals.{After-place_of}

few : (c : After-place_of) → c.place_of-place.result + c.place_of.result ≤ 6
few c =
    let first = map string_bytes c.args.first.now in
    let second = map string_bytes c.args.second.now in
    omega (
      arith,
      c.requires,
      c.place_of-place.ensures,
      c.place_of.ensures,
      place_most 0 c.args.name.now first,
      place_most 0 c.args.name.now second,
      length-map c.args.first.now string_bytes,
      length-map c.args.second.now string_bytes,
    )

pub overflow_add-result : goal.overflow_add-result
overflow_add-result c = omega (arith, few c)

pub returns-then-place-first : goal.returns-then-place-first
returns-then-place-first c =
    let first = map string_bytes c.args.first.now in
    let below : index_of c.args.name.now first < length first = omega (arith, c.place_of-place.ensures, length-map c.args.first.now string_bytes) in
    record {
      place = c.place_of-place.ensures ∙ in_first c.args.name.now first (map string_bytes c.args.second.now) below;
      most = omega (arith, c.requires, c.if-place-first.true);
    }

pub returns-else-place-first : goal.returns-else-place-first
returns-else-place-first c =
    let first = map string_bytes c.args.first.now in
    let past : length first ≤ index_of c.args.name.now first = omega (arith, c.place_of-place.ensures, length-map c.args.first.now string_bytes) in
    record {
      place = ap₂ (λ n m. n + m) c.place_of-place.ensures c.place_of.ensures ∙ in_second c.args.name.now first (map string_bytes c.args.second.now) past;
      most = few c;
    }
