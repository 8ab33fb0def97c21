use Rattle.explore_core.proofs.Generations.{broken_reduced, clean_reduced, clean_spelled}
use Rattle.explore_core.proofs.laws.a_clean_state_is_clean_for_each_state_of_its_bytes.Goals as goal

pub returns : goal.returns
returns c = record { broken = broken_reduced; clean = clean_reduced; spelled = clean_spelled }
