use Rattle.std.proofs.Common.{refl}
use Rattle.std.proofs.lemmas.List.{get_or_default}
use Rattle.mem_banks.proofs.moving.put_in.Goals as goal

pub returns : goal.returns
returns c = (_, refl, λ d. (rw (get_or_default c.args.banks.now c.args.k d c.index-banks-k.result c.requires.there), rw (get_or_default c.args.banks.now c.args.k d c.index-banks-k.result c.requires.there) c.put.ensures))
