-- The description that bytes hold, or why they are refused. docs/FORMATS.md, Application.
use Rattle.std.specs.Prelude.{ℕ, List, Option, Some, None, Result, Ok, Err, codes, if◌then◌else◌}
use Rattle.std.specs.Str.{is_utf8}
use Rattle.toml.specs.Data.{Members}
use Rattle.toml.specs.Parse.{parse_document}
use Rattle.app_toml.specs.Apps.{AppData}
use Rattle.app_toml.specs.Crossed.{cross_fault}
use Rattle.app_toml.specs.Document.{form_fault}
use Rattle.app_toml.specs.Places.{Refusal, Text, or_else, refusal_text}
use Rattle.app_toml.specs.Values.{app_in}

-- the document, where the bytes are a text of TOML
abbrev pub parsed : List ℕ → Option Members
parsed bytes = if is_utf8 bytes then parse_document bytes else None

abbrev pub not_toml : ℕ × Text
not_toml = (1, codes "-")

-- the first fault of causes 2 to 20
abbrev pub app_fault : Members → Option Refusal
app_fault ms = or_else (form_fault ms) (cross_fault (app_in ms))

abbrev pub unless : Option Refusal → AppData → Result AppData (ℕ × Text)
unless None app = Ok app
unless (Some r) app = Err (refusal_text r)

abbrev pub app_or_fault : Option Members → Result AppData (ℕ × Text)
app_or_fault None = Err not_toml
app_or_fault (Some ms) = unless (app_fault ms) (app_in ms)

-- the description that the bytes hold, or the first cause and its place
abbrev pub read_app : List ℕ → Result AppData (ℕ × Text)
read_app bytes = app_or_fault (parsed bytes)
