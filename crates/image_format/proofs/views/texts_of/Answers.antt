use Rattle.std.proofs.Common.{◌≡◌, ◌∙◌, List, ℕ, [], true, arith, ap, subst, sym}
use Rattle.std.specs.Prelude.{string_bytes}
use Rattle.text_lines.specs.Names.{is_name}
use Rattle.image_format.specs.Names.{after_name, first_name}
use Rattle.image_format.proofs.Named.{after_more}
use Rattle.image_format.proofs.Shape.{names_length}
use Rattle.image_format.proofs.Texts.{name_there, texts_more}
use Rattle.image_format.proofs.views.texts_of.Goals as goal

pub text_of-requires : goal.text_of-requires
text_of-requires c =
    let k = c.loop-k.k in
    let bytes = c.args.bytes.now in
    subst (λ (name : List ℕ). is_name name ≡ true) (name_there c.args.n k bytes c.loop-k-test.true ∙ ap first_name (sym c.loop-k.invariant.rest) ∙ sym c.split_name.ensures.name)
    (c.requires k [] (omega (arith, names_length c.args.n bytes, c.loop-k-test.true)))

pub loop-k-preserved : goal.loop-k-preserved
loop-k-preserved c = record {
  rest = c.split_name.ensures.rest ∙ ap after_name c.loop-k.invariant.rest ∙ sym (after_more c.loop-k.k c.args.bytes.now);
  texts = texts_more string_bytes c.loop-k.texts.items c.push.new.self.items c.in_ok-text_of.field-0 c.loop-k.k c.args.bytes.now c.loop-k.rest.now c.split_name.result.0.now
      c.loop-k.invariant.rest c.split_name.ensures.name c.loop-k.invariant.texts c.in_ok-text_of.ensures c.in_ok-push.ensures.items;
}
