use Rattle.std.proofs.Common.{◌≡◌, map}
use Rattle.std.specs.Prelude.{string_bytes}
use Rattle.image_format.specs.Names.{after_names, names_of}
use Rattle.image_format.proofs.views.texts_of.Given as goal

-- the names so far
abbrev pub invariant-loop-k : goal.invariant-loop-k
invariant-loop-k l = record {
  rest : l.rest ≡ after_names l.k l.bytes;
  texts : map string_bytes l.texts.items ≡ names_of l.k l.bytes;
}
