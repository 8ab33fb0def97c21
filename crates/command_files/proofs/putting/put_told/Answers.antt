use Rattle.std.proofs.Common.{ℕ, List, Option, subst, sym}
use Rattle.command_files.specs.Answer.{HasPut}
use Rattle.command_files.proofs.Answering.{tells_pushed}
use Rattle.command_files.proofs.putting.put_told.Goals as goal

pub returns-in-Ok-clause-tells : goal.returns-in-Ok-clause-tells
returns-in-Ok-clause-tells g c = λ v status text put.
    let a = g.F.Files.seen c.args.files.now in
    let b = g.F.Files.seen c.put.new.self in
    let w = g.S.Sink.seen c.args.out.now in
    let w' = g.S.Sink.seen c.tell.new.out in
    let P : Option (List ℕ × List ℕ) → Type 0 = HasPut a.contents b.contents in
    tells_pushed a b w w' v c.tell.result (subst P (sym put) (c.in-Ok.ensures.bytes, c.put.ensures.others)) (c.tell.ensures v status text)
