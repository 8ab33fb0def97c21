use Rattle.std.proofs.Common.{◌≡◌, ◌≢◌, ◌%◌, ◌<◌, ap, sym, ◌∙◌, not, arith, length}
use Rattle.std.proofs.lemmas.Bool.{le-leb, lt-leb, ne_eqb, eq-eqb}
use Rattle.kernel_abi.specs.Ids.{index_of, generation_of}
use Rattle.task_table.specs.model.Reading.{task_at, is_out, is_dead}
use Rattle.task_table.specs.declared.slot.Slot.{Slot}
use Rattle.task_table.proofs.kernel.Kernel.lookup.Goals as goal

pub returns-then-index-len-clause-found : goal.returns-then-index-len-clause-found
unfolding is_out
returns-then-index-len-clause-found c = λ g t h.
    le-leb _ _ (omega (arith, h.count, c.len.ensures, c.from-index.ensures, c.index.ensures.value, c.of-id.ensures, c.if-index-len.true))

pub returns-then-generation-clause-found : goal.returns-then-generation-clause-found
unfolding is_out is_dead
returns-then-generation-clause-found c = λ g t h.
    let index : c.from-index.result ≡ index_of c.args.id = omega (arith, c.from-index.ensures, c.index.ensures.value, c.of-id.ensures) in
    let there : index_of c.args.id < length t.state.tasks = omega (arith, h.count, c.len.ensures, index, c.if-index-len.false) in
    let kept : c.slot-slot.result.generation.number ≡ (task_at t.state c.from-index.result).births % 64 = ap (λ (o : Slot). o.generation.number) (c.slot-slot.ensures g t h).is in
    let here = rw index at kept in
    let same : generation_of c.args.id ≡ (task_at t.state (index_of c.args.id)).births % 64 = omega (arith, c.generation.ensures.value, c.of-id.ensures, c.if-generation.true, here) in
    (lt-leb _ _ there, ap not (eq-eqb _ _ same), index)

pub returns-else-generation-clause-found : goal.returns-else-generation-clause-found
unfolding is_out is_dead
returns-else-generation-clause-found c = λ g t h.
    let index : c.from-index.result ≡ index_of c.args.id = omega (arith, c.from-index.ensures, c.index.ensures.value, c.of-id.ensures) in
    let there : index_of c.args.id < length t.state.tasks = omega (arith, h.count, c.len.ensures, index, c.if-index-len.false) in
    let kept : c.slot-slot.result.generation.number ≡ (task_at t.state c.from-index.result).births % 64 = ap (λ (o : Slot). o.generation.number) (c.slot-slot.ensures g t h).is in
    let here = rw index at kept in
    let same : c.slot-slot.result.generation.number % 64 ≡ (task_at t.state (index_of c.args.id)).births % 64 = omega (arith, here) in
    let as_noted : c.generation.result.number ≡ generation_of c.args.id = omega (arith, c.generation.ensures.value, c.of-id.ensures) in
    let other : generation_of c.args.id ≢ (task_at t.state (index_of c.args.id)).births % 64 = λ e. c.if-generation.false (same ∙ sym e ∙ sym as_noted) in
    (lt-leb _ _ there, ap not (ne_eqb _ _ other), same)
