use Rattle.std.proofs.Common.{◌≡◌, ◌∙◌, List, ℕ, Bool, true, false, None, Option, refl, rules, cond}
use Rattle.std.specs.Str.{IsUtf8, is_utf8}
use Rattle.std.proofs.lemmas.Str.{IsUtf8-from_is_utf8, is_utf8-from_IsUtf8}
use Rattle.toml.specs.Data.{Members}
use Rattle.toml.specs.Parse.{parse_document}
use Rattle.app_toml.specs.Reading.{parsed}
use Rattle.app_toml.proofs.reading.document_of.Goals as goal

unless_utf8 : (b : Bool) (x : Option Members) → (b ≡ true → ⊥) → cond b x None ≡ None
unless_utf8 true x h = absurd (h refl)
unless_utf8 false x h = refl

not_text : (bs : List ℕ) → (IsUtf8 bs → ⊥) → parsed bs ≡ None
not_text bs h = unless_utf8 (is_utf8 bs) (parse_document bs) (λ yes. h (IsUtf8-from_is_utf8 bs yes))

is_text : (bs : List ℕ) → IsUtf8 bs → parsed bs ≡ parse_document bs
is_text bs h = rw (is_utf8-from_IsUtf8 bs h) refl

pub returns-in-Err-clause-refused : goal.returns-in-Err-clause-refused
returns-in-Err-clause-refused c =
    let none = not_text c.args.bytes.now c.in-Err.ensures.cases.0 in
    search (rules, none, c.no_toml.ensures)

pub returns-in-Ok-table_from_str-clause-ok : goal.returns-in-Ok-table_from_str-clause-ok
returns-in-Ok-table_from_str-clause-ok c =
    is_text c.args.bytes.now c.in-Ok.ensures.cases.1 ∙ rw (← c.in-Ok.ensures.cases.0) c.in-Ok-table_from_str.ensures.ok
