use Rattle.std.proofs.Common.{◌<◌, ◌∙◌, false, sym, length, arith}
use Rattle.std.proofs.lemmas.List.{get_or_read}
use Rattle.std.proofs.lemmas.Bool.{le-ltb}
use Rattle.run_cover.proofs.Marking.{known_at, known_none, known_past}
use Rattle.run_cover.proofs.known.Marks.has.Goals as goal

pub returns-in-None : goal.returns-in-None
returns-in-None c = sym (known_none c.args.self.now c.args.addr (sym c.place_of.ensures ∙ c.in-None.is))

pub returns-then-k-len : goal.returns-then-k-len
returns-then-k-len c =
    let t = c.args.self.now in
    let inside : c.in-Some.k < length t.known.items = omega (arith, c.if-k-len.true, c.len.ensures, t.known.ok.0) in
    get_or_read t.known.items _ _ inside c.index.ensures false ∙ sym (known_at t c.args.addr c.in-Some.k (sym c.place_of.ensures ∙ c.in-Some.is))

pub returns-else-k-len : goal.returns-else-k-len
returns-else-k-len c =
    le-ltb c.in-Some.k c.len.result c.if-k-len.false
    ∙ sym (known_past c.args.self.now c.args.addr c.in-Some.k (sym c.place_of.ensures ∙ c.in-Some.is) (omega (arith, c.if-k-len.false, c.len.ensures, c.args.self.now.known.ok.0)))
