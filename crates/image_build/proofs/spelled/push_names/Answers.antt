use Rattle.std.proofs.Common.{◌++◌, List, ℕ, ap, arith, length, rules, string_bytes, sym}
use Rattle.std.proofs.lemmas.Grind.{common_steps}
use Rattle.image_format.specs.ImageData.{name_bytes}
use Rattle.image_build.proofs.EachName.{bytes_more, flat_map_twice}
use Rattle.image_build.proofs.spelled.push_names.Goals as goal

pub loop-name-init : goal.loop-name-init
loop-name-init c = ap (λ (bs : List ℕ). c.args.out.now.items ++ bs) (sym (flat_map_twice name_bytes string_bytes c.args.names.now))

pub push_name-requires : goal.push_name-requires
push_name-requires c =
    omega (arith, ap length c.as_str.ensures.value, ap (λ n. length (string_bytes n)) c.name-item.is, c.requires c.loop-name.name-index c.name-item.result c.loop-name-test.true)

pub loop-name-preserved : goal.loop-name-preserved
loop-name-preserved c =
    bytes_more (λ n. name_bytes (string_bytes n)) _ _ _ c.args.names.now c.loop-name.name-index c.name-item.result c.loop-name-test.true c.name-item.is
    (search rules) c.loop-name.invariant

pub returns : goal.returns
returns c = grind (arith, common_steps)
