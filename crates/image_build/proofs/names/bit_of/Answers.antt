use Rattle.std.proofs.Common.{arith, map, string_bytes}
use Rattle.std.proofs.lemmas.List.{length-map}
use Rattle.image_build.proofs.Finding.{among_below}
use Rattle.image_build.proofs.names.bit_of.Goals as goal

pub bit-requires : goal.bit-requires
bit-requires c = omega (
  arith,
  c.place_of.ensures,
  c.requires.few,
  among_below 0 c.args.name.now (map string_bytes c.args.notifications.now) c.requires.known,
  length-map c.args.notifications.now string_bytes,
)
