-- How many schedules there are.
use Rattle.std.proofs.Common.{◌≡◌, ◌∙◌, ◌*◌, List, [], ◌∷◌, length, map, refl, ap, arith}
use Rattle.std.specs.List.{flat_map}
use Rattle.std.proofs.lemmas.List.{length-append, length-map}
use Rattle.std.proofs.lemmas.List.Concat.{flat_map-cons}
use Rattle.explore_core.specs.Schedules.{Arrival, how_many, schedules, ways}

-- of each of some before each of others
pub length_pairs : {X : Type 0} (firsts : List X) (rests : List (List X)) →
    length (flat_map (λ first. map (λ rest. first ∷ rest) rests) firsts) ≡ length firsts * length rests
length_pairs [] rests = grind (arith)
length_pairs (first ∷ firsts) rests =
    let one = length-map rests (λ rest. first ∷ rest) in
    let cut = ap length (flat_map-cons (λ first. map (λ rest. first ∷ rest) rests) first firsts) in
    let both = length-append (map (λ rest. first ∷ rest) rests) (flat_map (λ first. map (λ rest. first ∷ rest) rests) firsts) in
    let more = length_pairs firsts rests in
    grind (arith, one, cut, both, more)

pub schedules_counted : (arrivals : List Arrival) → length (schedules arrivals) ≡ how_many arrivals
unfolding schedules how_many
schedules_counted [] = refl
schedules_counted (a ∷ rest) = length_pairs (ways a) (schedules rest) ∙ ap (λ n. length (ways a) * n) (schedules_counted rest)
