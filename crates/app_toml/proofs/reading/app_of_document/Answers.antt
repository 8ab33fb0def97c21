use Rattle.std.proofs.Common.{◌∙◌, ap, option_map, sym}
use Rattle.toml.specs.View.{table_view}
use Rattle.app_toml.specs.Held.{parts_of}
use Rattle.app_toml.specs.Sites.{refusal_of}
use Rattle.app_toml.proofs.Kept.{accepted_parts}
use Rattle.app_toml.proofs.reading.app_of_document.Goals as goal

pub app_of_parts-requires : goal.app_of_parts-requires
app_of_parts-requires c =
    accepted_parts (table_view c.args.document.now) (parts_of c.in-Ok.parts) c.in-Ok.ensures
    (sym c.in-None.ensures) (sym c.in-Ok-cross_fault.ensures ∙ ap (option_map refusal_of) c.in-None-found.is)
