use Rattle.std.proofs.Common.{◌∙◌, ap, sym}
use Rattle.image_format.specs.Names.{after_name}
use Rattle.image_format.proofs.Named.{after_more}
use Rattle.image_format.proofs.names.skip_names.Goals as goal

pub loop-k-preserved : goal.loop-k-preserved
loop-k-preserved c = c.split_name.ensures.rest ∙ ap after_name c.loop-k.invariant ∙ sym (after_more c.loop-k.k c.args.bytes.now)
