use Rattle.std.proofs.Common.{◌≡◌, ◌++◌, ◌∙◌, List, ℕ, take, drop, length, Option, None, Some, append_assoc, ap, arith, ◌-◌}
use Rattle.std.proofs.lemmas.Grind.{common_steps}
use Rattle.std.specs.Io.KnownBytes.{Appends}
use Rattle.outside_io.proofs.host.write_whole.Goals as goal

-- what was appended, and then more
appends_more : (a b c : Option (List ℕ)) (front more : List ℕ) → Appends a b front → Appends b c more → Appends a c (front ++ more)
appends_more None b c front more h k = tt
appends_more (Some xs) None c front more h k = absurd h
appends_more (Some xs) (Some ys) None front more h k = absurd k
appends_more (Some xs) (Some ys) (Some zs) front more h k = k ∙ ap (λ (l : List ℕ). l ++ more) h ∙ append_assoc xs front more

-- what was written, and then the rest without that part
split_more : (bytes front rest : List ℕ) (n : ℕ) → bytes ≡ front ++ rest → bytes ≡ (front ++ take n rest) ++ take (length rest - n) (drop n rest)
split_more bytes front rest n h = grind (arith, common_steps)

pub writes-preserved : goal.writes-preserved
writes-preserved g c =
    let so_far = c.writes.invariant in
    let n : ℕ = c.in-Ok.count in
    let rest : List ℕ = c.writes.rest.now in (
      so_far.0 ++ take n rest,
      split_more c.args.bytes.now so_far.0 rest n so_far.1,
      appends_more _ _ _ so_far.0 (take n rest) so_far.2 c.in-Ok.ensures.bytes,
    )
