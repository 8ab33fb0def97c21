use Rattle.std.proofs.Common.{◌∙◌, sym, refl, arith}
use Rattle.run_cover.proofs.Numbered.{numbered}
use Rattle.run_cover.proofs.Marking.{has_room, marked}
use Rattle.run_cover.proofs.known.Marks.mark.Goals as goal

pub index_mut-requires : goal.index_mut-requires
index_mut-requires c =
    let n = (numbered c.args.addr c.in-Some.k (sym c.place_of.ensures ∙ c.in-Some.is)).few in
    omega (arith, n, c.requires.marks.as_many)

pub push_reserved-requires : goal.push_reserved-requires
push_reserved-requires c =
    let t = c.args.self.now in
    let room = has_room t c.args.addr c.in-Some.k c.requires.marks (sym c.place_of.ensures ∙ c.in-Some.is) c.requires.new in
    omega (arith, room, t.todo.ok.0)

pub returns-in-Some : goal.returns-in-Some
returns-in-Some c =
    let t = c.args.self.now in
    let e = sym c.place_of.ensures ∙ c.in-Some.is in
    marked t _ c.args.addr c.in-Some.k c.requires.marks c.requires.new record { place = e; known = refl; todo = c.push_reserved.ensures.items; room = c.push_reserved.ensures.capacity }
