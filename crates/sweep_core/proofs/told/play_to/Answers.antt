use Rattle.sweep_core.proofs.told.play_to.Goals as goal

pub unreachable-requires : goal.unreachable-requires
unreachable-requires g c = (c.in-Err.ensures.broken c.requires.stood.0 c.requires.stood.1 c.requires.stood.2).broken
