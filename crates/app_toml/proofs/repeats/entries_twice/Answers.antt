use Rattle.std.proofs.Common.{◌≡◌, ◌∙◌, ◌+◌, ◌||◌, [], ap, arith, false, map, string_bytes, subst, sym, take}
use Rattle.std.specs.BTreeSet.{contains_text}
use Rattle.std.specs.Str.{bytes_eq}
use Rattle.app_toml.specs.Crossed.{entry_twice, is_among, task_site}
use Rattle.app_toml.specs.Places.{at_entry, first_clash, refuse_if}
use Rattle.app_toml.proofs.Gathered.{joined_more, taken_more}
use Rattle.app_toml.proofs.Walks.{clash_passes, was_absent}
use Rattle.app_toml.proofs.repeats.entries_twice.Goals as goal

pub loop-i-preserved : goal.loop-i-preserved
loop-i-preserved c =
    let before = map string_bytes (take c.loop-i.i c.args.names.now) in
    let here = string_bytes c.index-names-i.result in
    let site = task_site c.args.k c.args.key.now in
    let old = was_absent c.in_ok-is_new.is_new (contains_text c.loop-i.known c.as_str-name.result.now) c.in_ok-is_new.ensures.new c.if-not-is_new.false in
    let absent : (is_among here (map string_bytes c.args.earlier.now) || is_among here before) ≡ false =
    sym (c.loop-i.invariant.1 here) ∙ subst (λ n. contains_text c.loop-i.known n ≡ false) c.as_str-name.ensures.value old in (
      clash_passes string_bytes (entry_twice (map string_bytes c.args.earlier.now) site) before (map string_bytes (take (c.loop-i.i + 1) c.args.names.now)) c.args.names.now c.loop-i.i c.index-names-i.result
          (first_clash (entry_twice (map string_bytes c.args.earlier.now) site) [] 0 (map string_bytes c.args.names.now)) (omega arith) c.index-names-i.is
          (taken_more string_bytes c.args.names.now c.loop-i.i c.index-names-i.result (omega arith) c.index-names-i.is)
          (ap (λ b. refuse_if b 7 (at_entry c.loop-i.i site)) absent) c.loop-i.invariant.0,
      λ q. joined_more string_bytes (λ n. bytes_eq n q) c.args.names.now c.loop-i.i c.index-names-i.result
          (is_among q (map string_bytes c.args.earlier.now)) (contains_text c.loop-i.known q) (contains_text c.learn.new.known q) (omega arith) c.index-names-i.is (c.loop-i.invariant.1 q)
          (subst (λ n. contains_text c.learn.new.known q ≡ (bytes_eq n q || contains_text c.loop-i.known q)) c.as_str-name.ensures.value (c.in_ok-is_new.ensures.known q)),
    )
