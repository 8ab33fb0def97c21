use Rattle.std.proofs.Common.{◌≡◌, ◌+◌, ◌-◌, ◌≤◌, length, take, vec_len}
use Rattle.outside_io.specs.Outside.{WhereSeen, raised}
use Rattle.outside_io.proofs.reading.read_all.Given as goal

abbrev pub invariant-pieces : goal.invariant-pieces
invariant-pieces g l = record {
  front : WhereSeen ((g.F.Files.seen l.fn.files).contents l.name) (λ all. (l.out.items ≡ take (vec_len l.out) all) × (vec_len l.out ≤ length all));
  given : raised (g.F.Files.seen l.fn.files).given (vec_len l.out) ≤ (g.F.Files.seen l.files).given;
  most : (g.F.Files.seen l.files).given ≤ (g.F.Files.seen l.fn.files).given + vec_len l.out;
  grown : (g.F.Files.seen l.fn.files).given ≤ (g.F.Files.seen l.files).given;
  later : (g.F.Files.seen l.fn.files).read_faults ≤ (g.F.Files.seen l.files).read_faults;
  contents : (g.F.Files.seen l.files).contents ≡ (g.F.Files.seen l.fn.files).contents;
  puts : (g.F.Files.seen l.files).put_faults ≡ (g.F.Files.seen l.fn.files).put_faults;
  small : vec_len l.out ≤ l.limit + 4096;
}

abbrev pub decreases-pieces : goal.decreases-pieces
decreases-pieces g l = l.limit + 1 - vec_len l.out
