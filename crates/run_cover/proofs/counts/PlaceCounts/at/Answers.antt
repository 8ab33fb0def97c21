use Rattle.std.proofs.Common.{◌<◌, ◌∙◌, sym, length, arith}
use Rattle.std.proofs.lemmas.List.{get_or_read}
use Rattle.run_cover.specs.Counted.{no_count}
use Rattle.run_cover.proofs.Counting.{count_of_place, count_of_none, count_of_past}
use Rattle.run_cover.proofs.counts.PlaceCounts.at.Goals as goal

pub returns-then-k-len : goal.returns-then-k-len
returns-then-k-len c =
    let t = c.args.self.now in
    let inside : c.in-Some.k < length t.counts.items = omega (arith, c.if-k-len.true, c.len.ensures) in
    get_or_read t.counts.items _ _ inside c.index.ensures no_count ∙ sym (count_of_place t c.args.addr c.in-Some.k (sym c.place_of.ensures ∙ c.in-Some.is))

pub returns-else-k-len : goal.returns-else-k-len
returns-else-k-len c =
    c.none-else-k-len.ensures ∙ sym (count_of_past c.args.self.now c.args.addr c.in-Some.k (sym c.place_of.ensures ∙ c.in-Some.is) (omega (arith, c.if-k-len.false, c.len.ensures)))

pub returns-in-None : goal.returns-in-None
returns-in-None c = c.none.ensures ∙ sym (count_of_none c.args.self.now c.args.addr (sym c.place_of.ensures ∙ c.in-None.is))
