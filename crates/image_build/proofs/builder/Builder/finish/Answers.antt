use Rattle.std.proofs.Common.{◌≡◌, ◌∙◌, ap, arith, length, subst, sym}
use Rattle.app_toml.specs.Held.{app_of}
use Rattle.image_format.specs.Accepted.{Accepted}
use Rattle.image_format.specs.Images.{image_data}
use Rattle.image_format.specs.ImageData.{Sound}
use Rattle.image_format.specs.declared.records.Header.{Header}
use Rattle.image_build.specs.Built.{image_data_built}
use Rattle.image_build.specs.Layout.{flash_needed}
use Rattle.image_build.proofs.Sound.{built_as, records_made, sound_built}
use Rattle.image_build.proofs.builder.Builder.finish.Goals as goal

pub of_parts-requires-clause-second : goal.of_parts-requires-clause-second
of_parts-requires-clause-second c =
    ap (λ (h : Header). h.form) (c.header_of-header.ensures c.args.self.flash.items (c.args.self.filled ∙ c.args.self.laid.flash_length))

pub of_parts-requires-clause-accepted : goal.of_parts-requires-clause-accepted
of_parts-requires-clause-accepted c =
    let app = app_of c.args.self.app.now in
    let flash = c.args.self.flash.items in
    let whole : length flash ≡ flash_needed app = c.args.self.filled ∙ c.args.self.laid.flash_length in
    subst Accepted (records_made app flash _ _ _ _ _ (c.header_of-header.ensures flash whole) c.in_ok-tasks.ensures c.in_ok-regions.ensures c.in_ok-lines.ensures c.in_ok-names.ensures)
    (sound_built app c.args.self.layout c.args.self.laid c.facts.ensures c.relations.ensures flash whole)

whole : (c : goal.After-drop-self-4) → length c.args.self.flash.items ≡ flash_needed (app_of c.args.self.app.now)
whole c = c.args.self.filled ∙ c.args.self.laid.flash_length

is_built : (c : goal.After-drop-self-4) → image_data c.of_parts.result ≡ image_data_built (app_of c.args.self.app.now) c.args.self.flash.items
is_built c =
    let app = app_of c.args.self.app.now in
    let flash = c.args.self.flash.items in
    c.of_parts.ensures (image_data_built app flash)
    (records_made app flash _ _ _ _ _ (c.header_of-header.ensures flash (whole c)) c.in_ok-tasks.ensures c.in_ok-regions.ensures c.in_ok-lines.ensures c.in_ok-names.ensures)

pub returns-clause-built : goal.returns-clause-built
returns-clause-built c = λ sources h.
    built_as (app_of c.args.self.app.now) sources c.args.self.flash.items (image_data c.of_parts.result) (is_built c) (omega (arith, h.next, c.requires)) h.holds

pub returns-clause-sound : goal.returns-clause-sound
returns-clause-sound c =
    subst Sound (sym (is_built c))
    (sound_built (app_of c.args.self.app.now) c.args.self.layout c.args.self.laid c.facts.ensures c.relations.ensures c.args.self.flash.items (whole c))
