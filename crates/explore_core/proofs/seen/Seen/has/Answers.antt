use Rattle.std.proofs.Common.{◌∙◌, ◌<◌, ◌%◌, ℕ, zero, length, sym, arith}
use Rattle.std.proofs.Math.Nat.{mod-lt}
use Rattle.std.proofs.lemmas.List.{get_or_default}
use Rattle.explore_core.proofs.seen.Seen.has.Goals as goal

pub returns : goal.returns
returns c = λ found.
    let items = c.args.self.now.slots.items in
    let place : ℕ = c.args.digest % c.len.result in
    let some : zero < c.len.result = omega (arith, c.len.ensures, c.args.self.now.some) in
    let lt : place < length items = omega (arith, mod-lt c.args.digest some, c.len.ensures, c.args.self.now.slots.ok.0) in
    record {
      place = place;
      inside = lt;
      slot = c.index.result.now;
      at = λ d. get_or_default items place d _ lt ∙ sym c.index.ensures;
      same = c.is_same.ensures found;
    }
