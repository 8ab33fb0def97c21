use Rattle.std.proofs.Common.{◌≡◌, ◌++◌, ◌∷◌, [], ◌∙◌, sym, ap, arith, map, List}
use Rattle.std.specs.Prelude.{string_bytes}
use Rattle.std.proofs.lemmas.Grind.{common_steps}
use Rattle.std.proofs.lemmas.List.{map-append}
use Rattle.std.proofs.lemmas.List.FromFn.{map-range_with_len_more}
use Rattle.command_files.specs.Verdict.{task_name}
use Rattle.command_files.proofs.naming.task_names.Goals as goal

pub loop-i-preserved : goal.loop-i-preserved
loop-i-preserved c =
    let i = c.loop-i.i in
    let name : string_bytes c.in_ok-task_name.field-0 ≡ task_name i = c.in_ok-task_name.ensures in
    record {
      is = ap (λ (l : List _). map string_bytes l) c.in_ok-push.ensures.items ∙ map-append string_bytes c.loop-i.names.items (c.in_ok-task_name.field-0 ∷ [])
          ∙ (λ k. c.loop-i.invariant.is k ++ name k ∷ []) ∙ sym (map-range_with_len_more task_name 0 i i (omega arith));
      many = grind (arith, common_steps);
    }
