use Rattle.std.proofs.Common.{◌≡◌, ◌<◌, ◌∙◌, ap, sym, length, set, arith, refl}
use Rattle.std.proofs.lemmas.List.{get_or_read}
use Rattle.run_cover.specs.declared.counts.Count.{Count}
use Rattle.run_cover.specs.Counted.{no_count, item_at, raised_in}
use Rattle.run_cover.proofs.Counting.{counted_there, counted_nowhere, no_number_here, some_number}
use Rattle.run_cover.proofs.counts.PlaceCounts.count.Goals as goal

pub returns-then-k-len : goal.returns-then-k-len
returns-then-k-len c =
    let t = c.args.self.now in
    let inside : c.in-Some.k < length t.counts.items = omega (arith, c.if-k-len.true, c.len.ensures) in
    let read : c.index.result.now ≡ item_at t c.in-Some.k = get_or_read t.counts.items _ _ inside c.index.ensures no_count in
    counted_there t _ c.args.at c.in-Some.k c.args.what (sym c.place_of.ensures ∙ c.in-Some.is) inside refl
    (ap (λ (x : Count). set t.counts.items c.in-Some.k x) (c.raised.ensures ∙ ap (raised_in c.args.what) read))

pub returns-else-k-len : goal.returns-else-k-len
returns-else-k-len c = counted_nowhere c.args.self.now c.args.at c.args.what (λ j lt few is.
    let same = some_number j c.in-Some.k (sym is ∙ sym c.place_of.ensures ∙ c.in-Some.is) in
    absurd (omega (arith, lt, same, c.if-k-len.false, c.len.ensures)))

pub returns-in-None : goal.returns-in-None
returns-in-None c = counted_nowhere c.args.self.now c.args.at c.args.what (λ j lt few is. no_number_here j (sym is ∙ sym c.place_of.ensures ∙ c.in-None.is))
