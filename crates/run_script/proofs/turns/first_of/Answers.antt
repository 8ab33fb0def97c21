use Rattle.std.proofs.Common.{◌≡◌, ltb, arith, rules, subst, sym, List, get_or, true, false}
use Rattle.std.specs.List.Sorted.{IsNonDecreasingBy}
use Rattle.std.proofs.lemmas.List.Sorted.{IsPartitionPoint-from_clause, IsPartitionedBy-ltb}
use Rattle.run_script.specs.Scripts.{Listed}
use Rattle.run_script.proofs.turns.first_of.Goals as goal

pub returns : goal.returns
returns c =
    let same = c.as_slice.ensures.value in
    let sorted = subst (λ (xs : List Listed). IsNonDecreasingBy (λ (l : Listed). l.0) xs) (sym same) c.args.script.now.facts.ascending in
    let parted = IsPartitionedBy-ltb (λ (l : Listed). l.0) c.as_slice.result.now c.args.turn sorted in
    let point = IsPartitionPoint-from_clause (λ (l : Listed). ltb l.0 c.args.turn) _ _ c.partition_point.ensures.partitioned parted (λ a r q k. search rules) in
    record {
      within = omega (arith, c.as_slice.ensures.len, c.partition_point.ensures.bound);
      before = λ k d h. subst (λ (xs : List Listed). ltb (get_or xs k d).0 c.args.turn ≡ true) same (point.0 k d (omega arith) h);
      from = λ k d a b. subst (λ (xs : List Listed). ltb (get_or xs k d).0 c.args.turn ≡ false) same (point.1 k d a (omega (arith, b, c.as_slice.ensures.len)));
    }
