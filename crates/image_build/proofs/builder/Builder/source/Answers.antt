use Rattle.std.proofs.Common.{◌≡◌, ◌∙◌, ◌++◌, ◌∷◌, ℕ, List, [], ap, arith, get_or, length, length-append, refl, rules, subst, sym}
use Rattle.std.proofs.lemmas.Grind.{common_steps}
use Rattle.std.specs.BTreeMap.{get_by_text}
use Rattle.std.specs.Vec.{with_items}
use Rattle.std.proofs.lemmas.List.{with_items_is}
use Rattle.text_lines.specs.Text.{lines_of}
use Rattle.thumb_asm.specs.Assembly.{Assembles}
use Rattle.image_build.specs.Building.{Holds}
use Rattle.image_build.specs.Built.{given}
use Rattle.image_build.specs.Layout.{flash_base, task_at}
use Rattle.image_build.specs.Accepted.{HasAccepted, described, next_task}
use Rattle.image_build.proofs.Holding.{holds_more, rounded_up}
use Rattle.image_build.proofs.builder.Builder.source.Goals as goal

pub returns-then-task-length-clause-refused : goal.returns-then-task-length-clause-refused
returns-then-task-length-clause-refused c =
    let flash : c.task.result.now.flash ≡ (task_at (described c.args.self.now) (next_task c.args.self.now)).flash = ap (λ t. t.flash) c.task.ensures.task in
    let is : c.len-length.result ≡ length c.in_ok-object.object.bytes.items = search rules in (
      refl,
      record {
        code = c.in_ok-object.object.bytes.items;
        labels = get_by_text c.in_ok-object.object.labels;
        assembled = c.in_ok-object.ensures.assembled;
        is = is;
        above = omega (arith, is, flash, c.if-task-length.true);
      },
    )

pub put-requires : goal.put-requires
put-requires c =
    let app = described c.args.self.now in
    let next = next_task c.args.self.now in
    let flash : c.task.result.now.flash ≡ (task_at app next).flash = ap (λ t. t.flash) c.task.ensures.task in
    let is : c.len-length.result ≡ length c.as_slice.result.now = search rules in
    omega (
      arith,
      is,
      flash,
      c.if-task-length.false,
      c.task.ensures.flash,
      rounded_up (task_at app next).flash (omega (arith, flash, c.task.ensures.flash)),
      c.flash_base.ensures.high,
      c.flash_base.ensures.low,
      ap length c.as_mut_slice.ensures.value,
      c.args.self.now.filled,
      c.args.self.now.laid.flash_length,
    )

holds : (c : goal.After-drop-object-3) → (sources : List (List ℕ)) → HasAccepted sources c.args.self.now
    → Holds (described c.args.self.now) (sources ++ c.args.bytes.now ∷ []) (with_items c.args.self.now.flash c.put.new.flash).items
holds c sources h =
    let app = described c.args.self.now in
    let next = next_task c.args.self.now in
    let flash : c.task.result.now.flash ≡ (task_at app next).flash = ap (λ t. t.flash) c.task.ensures.task in
    let code : c.len-length.result ≡ length c.as_slice.result.now = search rules in
    let count : length c.put.new.flash ≡ c.args.self.now.flash.len = search rules in
    let same : length c.put.new.flash ≡ length c.args.self.now.flash.items = search rules in
    subst (Holds app (sources ++ c.args.bytes.now ∷ [])) (sym (with_items_is c.args.self.now.flash c.put.new.flash count)) (
    holds_more app c.args.self.now.layout sources next c.flash_base.result c.args.bytes.now c.as_slice.result.now c.args.self.now.flash.items c.put.new.flash
    (get_by_text c.in_ok-object.object.labels) c.args.self.now.laid h.next c.flash_base.ensures.base (record {
      holds = h.holds;
      left = c.requires;
      assembled = subst (λ (bytes : List ℕ). Assembles (lines_of c.args.bytes.now) (flash_base app next) (given app next) bytes (get_by_text c.in_ok-object.object.labels)) (sym c.as_slice.ensures.value) c.in_ok-object.ensures.assembled;
      fits = omega (arith, code, flash, c.if-task-length.false);
      most = omega (arith, flash, c.task.ensures.flash);
      same = same;
      stands = c.put.ensures.stands;
      kept = λ k side. c.put.ensures.kept k side ∙ ap (λ (xs : List ℕ). get_or xs k 0) c.as_mut_slice.ensures.value;
    })
    )

pub returns-clause-accepted : goal.returns-clause-accepted
returns-clause-accepted c = λ sources h. record {
  next = omega (arith, h.next, length-append sources (c.args.bytes.now ∷ []));
  most = omega (arith, h.next, c.requires, length-append sources (c.args.bytes.now ∷ []));
  holds = holds c sources h;
}

pub invariant_of-self : goal.invariant_of-self
invariant_of-self c = record { laid = c.args.self.now.laid; filled = grind (arith, common_steps); indexed = c.args.self.now.indexed }
