use Rattle.std.proofs.Common.{◌++◌, ◌∷◌, [], List, ℕ, sym, ap, subst, ◌∙◌, append_assoc}
use Rattle.std.specs.List.{flat_map}
use Rattle.std.specs.Str.{IsAscii}
use Rattle.trace_text.specs.Text.{spaced_hex}
use Rattle.trace_text.proofs.Lanes.{ended_ascii, seven_ended}
use Rattle.trace_text.proofs.words.push_arguments.Goals as goal

pub push_ascii-requires-clause-ascii : goal.push_ascii-requires-clause-ascii
push_ascii-requires-clause-ascii c =
    let is = seven_ended c.spaced_eight-text.result c.args.arguments.now c.told-arguments c.spaced_eight-text.ensures in
    subst IsAscii (sym is) (ended_ascii c.args.arguments.now)

pub returns-clause-bytes : goal.returns-clause-bytes
returns-clause-bytes c =
    let is = seven_ended c.spaced_eight-text.result c.args.arguments.now c.told-arguments c.spaced_eight-text.ensures in
    c.push_ascii.ensures.bytes ∙ ap (λ (xs : List ℕ). c.args.out.now.bytes ++ xs) is ∙ sym (append_assoc c.args.out.now.bytes (flat_map spaced_hex c.args.arguments.now) (10 ∷ []))
