-- Calls that only read, one after the other.
use Rattle.std.proofs.Common.{◌∙◌, arith, refl}
use Rattle.outside_io.specs.Seen.{FilesSeen, OnlyReads}

pub none_read : (a : FilesSeen) → OnlyReads a a
none_read a = record { later = omega arith; grown = omega arith; contents = refl; puts = refl }

pub reads_more : {a b c : FilesSeen} → OnlyReads a b → OnlyReads b c → OnlyReads a c
reads_more h k = record {
  later = omega (arith, h.later, k.later);
  grown = omega (arith, h.grown, k.grown);
  contents = k.contents ∙ h.contents;
  puts = k.puts ∙ h.puts;
}
