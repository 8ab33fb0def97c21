use Rattle.std.proofs.Common.{◌≡◌, ◌<◌, Some, refl, sym, ◌∙◌, arith, length}
use Rattle.std.proofs.lemmas.List.{get_or_default}
use Rattle.task_table.specs.kept.Entries.{kept_at}
use Rattle.task_table.specs.kept.Holds.{kept_of}
use Rattle.task_table.proofs.kept.KeptEntries.{kept_tells}
use Rattle.task_table.proofs.kernel.Kernel.kept_entry.Goals as goal

pub returns-then-kept-base-clause-kept : goal.returns-then-kept-base-clause-kept
returns-then-kept-base-clause-kept c =
    let k = c.args.self.now in
    let i = c.args.task in
    let x = c.in-Some.kept in
    let there : i < length k.entries.items = omega (arith, c.requires, k.of_calls.count) in
    let kept : kept_at k.entries.items i ≡ Some x = get_or_default k.entries.items i _ c.index.result.now there ∙ sym c.index.ensures ∙ c.in-Some.is in
    (x, kept, c.if-kept-base.true, refl)

pub returns-then-kept-base-clause-holds : goal.returns-then-kept-base-clause-holds
returns-then-kept-base-clause-holds c = λ g t h.
    let k = c.args.self.now in
    let i = c.args.task in
    let x = c.in-Some.kept in
    let there : i < length k.entries.items = omega (arith, c.requires, k.of_calls.count) in
    let kept : kept_at k.entries.items i ≡ Some x = get_or_default k.entries.items i _ c.index.result.now there ∙ sym c.index.ensures ∙ c.in-Some.is in
    kept_tells g (kept_of k) t k.watch.low k.watch.span k.entries.items i x c.args.base h k.fresh k.of_calls kept c.if-kept-base.true
