use Rattle.std.proofs.lemmas.Bool.{not-false}
use Rattle.board_core.proofs.Reaching.{nothing_taken}
use Rattle.board_core.proofs.space.AddressSpaceBus.takes.Goals as goal

pub returns : goal.returns
returns boxes c = λ no addr. nothing_taken _ c.args.self.now addr (c.is_empty.ensures.none (not-false c.is_empty.result no))
