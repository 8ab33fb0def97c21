use Rattle.std.proofs.Common.{◌≡◌, ◌∙◌, ◌+◌, ◌||◌, [], ap, arith, codes, false, map, subst, sym, take}
use Rattle.std.specs.BTreeSet.{contains_text}
use Rattle.std.specs.Str.{bytes_eq}
use Rattle.app_toml.specs.Crossed.{has_task, lists_twice, task_site, task_twice}
use Rattle.app_toml.specs.Places.{first_clash, or_else, refuse_if}
use Rattle.app_toml.specs.Sites.{refusal_of, task_of}
use Rattle.app_toml.proofs.Gathered.{known_more, taken_more}
use Rattle.app_toml.proofs.Walks.{clash_passes, none_stated, was_absent}
use Rattle.app_toml.proofs.repeats.tasks_twice.Goals as goal

pub loop-i-preserved : goal.loop-i-preserved
loop-i-preserved c =
    let before = map task_of (take c.loop-i.i c.args.tasks.now) in
    let here = task_of c.index-tasks-i.result in
    let old = was_absent c.in_ok-is_new.is_new (contains_text c.loop-i.known c.as_str-name.result.now) c.in_ok-is_new.ensures.new c.if-not-is_new.false in
    let absent : has_task here.name before ≡ false =
    sym (c.loop-i.invariant.1 here.name) ∙ subst (λ n. contains_text c.loop-i.known n ≡ false) c.as_str-name.ensures.value old in
    let none = sym c.in_ok-lists.ensures ∙ none_stated refusal_of c.in_ok-lists.lists (sym c.is_some.ensures ∙ c.if-is_some.false) in (
      clash_passes task_of task_twice before (map task_of (take (c.loop-i.i + 1) c.args.tasks.now)) c.args.tasks.now c.loop-i.i c.index-tasks-i.result
          (first_clash task_twice [] 0 (map task_of c.args.tasks.now)) (omega arith) c.index-tasks-i.is
          (taken_more task_of c.args.tasks.now c.loop-i.i c.index-tasks-i.result (omega arith) c.index-tasks-i.is)
          (ap (λ b. or_else (refuse_if b 7 (task_site c.loop-i.i (codes "name"))) (lists_twice c.loop-i.i here)) absent ∙ none) c.loop-i.invariant.0,
      λ q. known_more task_of (λ t. bytes_eq t.name q) c.args.tasks.now c.loop-i.i c.index-tasks-i.result
          (contains_text c.loop-i.known q) (contains_text c.learn.new.known q) (omega arith) c.index-tasks-i.is (c.loop-i.invariant.1 q)
          (subst (λ n. contains_text c.learn.new.known q ≡ (bytes_eq n q || contains_text c.loop-i.known q)) c.as_str-name.ensures.value (c.in_ok-is_new.ensures.known q)),
    )
