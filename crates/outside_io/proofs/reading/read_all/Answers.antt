use Rattle.std.proofs.Common.{◌≡◌, ◌+◌, ◌≤◌, length, ℕ, List, take, ap, sym, ◌∙◌, refl, arith, vec_len}
use Rattle.std.proofs.lemmas.Grind.{common_steps}
use Rattle.outside_io.proofs.Pieces.{read_end, read_more}
use Rattle.outside_io.proofs.reading.read_all.Goals as goal

pub pieces-init : goal.pieces-init
pieces-init g c = record {
  front = λ all h. grind (arith, common_steps);
  given = omega arith;
  most = omega arith;
  grown = omega arith;
  later = omega arith;
  contents = refl;
  puts = refl;
  small = omega arith;
}

pub returns-then-count-eq0-clause-whole : goal.returns-then-count-eq0-clause-whole
returns-then-count-eq0-clause-whole g c = (
  omega (arith, c.pieces.out.ok.0),
  λ all h.
      let front = (c.pieces.invariant.front all h).0 in
      let contents = ap (λ (t : List ℕ → _). t c.args.name.now) c.pieces.invariant.contents ∙ h in
      let none : c.in_ok-count.count ≡ 0 = omega arith in
      let part = rw none at (c.in_ok-count.ensures.bytes.1 all contents) in
      read_end all _ _ (vec_len c.pieces.out) _ front (omega arith) part (omega arith),
)

pub pieces-preserved : goal.pieces-preserved
pieces-preserved g c =
    let count : c.in_ok-count.count ≤ length c.read.new.buf = c.in_ok-count.ensures.bytes.0 in
    let len : vec_len c.extend_from_slice.new.self ≡ vec_len c.pieces.out + c.in_ok-count.count = grind (arith, common_steps) in
    record {
      front = λ all h.
          let front = c.pieces.invariant.front all h in
          let contents = ap (λ (t : List ℕ → _). t c.args.name.now) c.pieces.invariant.contents ∙ h in
          let part = c.in_ok-count.ensures.bytes.1 all contents in
          let more = read_more all _ _ (vec_len c.pieces.out) _ c.in_ok-count.count front.0 front.1 (omega arith) part in
          (c.in_ok-extend_from_slice.ensures.items ∙ more.0 ∙ ap (λ (k : ℕ). take k all) (sym len), omega (arith, more.1));
      given = omega (arith, c.in_ok-count.ensures.count, c.pieces.invariant.given);
      most = omega (arith, c.in_ok-count.ensures.count, c.pieces.invariant.most);
      grown = omega (arith, c.in_ok-count.ensures.grown, c.pieces.invariant.grown);
      later = omega (arith, c.in_ok-count.ensures.cause.later, c.pieces.invariant.later);
      contents = c.in_ok-count.ensures.contents ∙ c.pieces.invariant.contents;
      puts = c.in_ok-count.ensures.puts ∙ c.pieces.invariant.puts;
      small = omega arith;
    }
