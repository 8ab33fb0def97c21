use Rattle.std.proofs.Common.{◌∷◌, [], ◌%◌, ◌/◌}
use Rattle.thumb_asm.specs.Meaning.{low_first}
use Rattle.thumb_asm.proofs.Values.{low_two, after}
use Rattle.thumb_asm.proofs.data.push_half.Goals as goal

pub returns-clause-ok : goal.returns-clause-ok
returns-clause-ok c = after c.args.out.now.items c.push.new.out.items c.push-2.new.out.items (c.args.number % 256 ∷ []) (c.args.number / 256 % 256 ∷ []) (low_first 2 c.args.number) c.push-2.result c.in-Ok.ensures.ok c.push-2.ensures.ok (low_two c.args.number)
