use Rattle.std.proofs.Common.{◌≡◌, ◌∙◌, ◌+◌, ◌||◌, [], ap, arith, codes, false, map, subst, sym, take}
use Rattle.std.specs.BTreeSet.{contains_text}
use Rattle.std.specs.Str.{bytes_eq}
use Rattle.app_toml.specs.Crossed.{has_region, region_site, region_twice}
use Rattle.app_toml.specs.Places.{first_clash, refuse_if}
use Rattle.app_toml.specs.Sites.{region_of}
use Rattle.app_toml.proofs.Gathered.{known_more, taken_more}
use Rattle.app_toml.proofs.Walks.{clash_passes, was_absent}
use Rattle.app_toml.proofs.repeats.regions_twice.Goals as goal

pub loop-i-preserved : goal.loop-i-preserved
loop-i-preserved c =
    let before = map region_of (take c.loop-i.i c.args.regions.now) in
    let here = region_of c.index-regions-i.result in
    let old = was_absent c.in_ok-is_new.is_new (contains_text c.loop-i.known c.as_str-name.result.now) c.in_ok-is_new.ensures.new c.if-not-is_new.false in
    let absent : has_region here.name before ≡ false =
    sym (c.loop-i.invariant.1 here.name) ∙ subst (λ n. contains_text c.loop-i.known n ≡ false) c.as_str-name.ensures.value old in (
      clash_passes region_of region_twice before (map region_of (take (c.loop-i.i + 1) c.args.regions.now)) c.args.regions.now c.loop-i.i c.index-regions-i.result
          (first_clash region_twice [] 0 (map region_of c.args.regions.now)) (omega arith) c.index-regions-i.is
          (taken_more region_of c.args.regions.now c.loop-i.i c.index-regions-i.result (omega arith) c.index-regions-i.is)
          (ap (λ b. refuse_if b 7 (region_site c.loop-i.i (codes "name"))) absent) c.loop-i.invariant.0,
      λ q. known_more region_of (λ r. bytes_eq r.name q) c.args.regions.now c.loop-i.i c.index-regions-i.result
          (contains_text c.loop-i.known q) (contains_text c.learn.new.known q) (omega arith) c.index-regions-i.is (c.loop-i.invariant.1 q)
          (subst (λ n. contains_text c.learn.new.known q ≡ (bytes_eq n q || contains_text c.loop-i.known q)) c.as_str-name.ensures.value (c.in_ok-is_new.ensures.known q)),
    )
