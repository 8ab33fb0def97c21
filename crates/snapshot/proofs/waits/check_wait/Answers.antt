use Rattle.std.proofs.Common.{◌≡◌, ◌∙◌, ◌+◌, ◌*◌, true, false, cond, [], Some, None, length, map, vec_items, sym, ap}
use Rattle.std.proofs.lemmas.List.{get_or-map, length-map}
use Rattle.snapshot.specs.Records.{header_at, task_in}
use Rattle.snapshot.specs.Waits.{regions_at, is_good_wait}
use Rattle.snapshot.proofs.waits.check_wait.Goals as goal

pub returns-then-is_good_wait : goal.returns-then-is_good_wait
returns-then-is_good_wait c =
    let rs = c.args.regions.now in
    let own = get_or-map vec_items rs c.args.i c.index-regions-i.result [] c.requires.there ∙ ap vec_items (sym c.index-regions-i.is) ∙ sym c.as_slice.ensures.value in
    let count = length-map rs vec_items in
    let next = sym c.requires.next in
    let good : true ≡ is_good_wait (regions_at (map vec_items rs) c.args.i) (task_in c.args.bytes.now) (length (map vec_items rs)) (header_at c.args.bytes.now).next_call c.args.i =
    sym c.if-is_good_wait.true ∙ c.is_good_wait.ensures ∙ sym (λ k. is_good_wait (own k) (task_in c.args.bytes.now) (count k) (next k) c.args.i) in
    ap (λ b. cond b None (Some (6, 100 + 132 * c.args.i + 3))) good

pub returns-else-is_good_wait : goal.returns-else-is_good_wait
returns-else-is_good_wait c =
    let rs = c.args.regions.now in
    let own = get_or-map vec_items rs c.args.i c.index-regions-i.result [] c.requires.there ∙ ap vec_items (sym c.index-regions-i.is) ∙ sym c.as_slice.ensures.value in
    let count = length-map rs vec_items in
    let next = sym c.requires.next in
    let bad : false ≡ is_good_wait (regions_at (map vec_items rs) c.args.i) (task_in c.args.bytes.now) (length (map vec_items rs)) (header_at c.args.bytes.now).next_call c.args.i =
    sym c.if-is_good_wait.false ∙ c.is_good_wait.ensures ∙ sym (λ k. is_good_wait (own k) (task_in c.args.bytes.now) (count k) (next k) c.args.i) in
    ap (λ b. cond b None (Some (6, 100 + 132 * c.args.i + 3))) bad
