use Rattle.std.proofs.Common.{◌≡◌, ◌<◌, ◌++◌, ◌∷◌, [], ◌∙◌, sym, ap, map, length, arith, ℕ, List, get_or}
use Rattle.std.specs.Prelude.{string_bytes, codes}
use Rattle.std.proofs.lemmas.List.{get_or-map, map-append}
use Rattle.serde_json.specs.Written.{compact_text}
use Rattle.run_lanes.specs.Timeline.{name_data, name_text}
use Rattle.run_lanes.proofs.Pushed.{named_more}
use Rattle.run_lanes.proofs.thread_names.name_lines.Goals as goal

pub loop-i-preserved : goal.loop-i-preserved
loop-i-preserved c =
    let names = map string_bytes c.args.names.now in
    let i = c.loop-i.i in
    let within : i < length c.args.names.now = omega (arith, c.loop-i-test.true) in
    let name : c.as_str.result.now ≡ get_or names i [] =
    c.as_str.ensures.value ∙ sym (get_or-map string_bytes c.args.names.now i c.index-names-i.result [] within ∙ ap string_bytes (sym c.index-names-i.is)) in
    let line : string_bytes c.in_ok-name_line.field-0 ≡ name_text names i = c.in_ok-name_line.ensures ∙ ap (λ (t : List ℕ). codes ",\n" ++ compact_text (name_data i t)) name in
    ap (λ (l : List _). map string_bytes l) c.in_ok-push.ensures.items ∙ map-append string_bytes c.loop-i.lines.items (c.in_ok-name_line.field-0 ∷ [])
    ∙ named_more names (map string_bytes c.loop-i.lines.items) i (string_bytes c.in_ok-name_line.field-0) c.loop-i.invariant line
