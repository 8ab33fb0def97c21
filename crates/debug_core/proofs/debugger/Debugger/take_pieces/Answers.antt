use Rattle.std.proofs.Common.{◌≡◌, ◌∙◌, inl, inr, ◌+◌, ◌++◌, ◌<◌, ◌≤◌, [], List, ℕ, length, refl, sym, ap, subst, arith, take, drop}
use Rattle.std.proofs.lemmas.List.{append-nil, length-append, length-drop, length-take, take-append-le}
use Rattle.outside_io.specs.Outside.{IsPart, WhereSeen}
use Rattle.debug_core.specs.Live.{MayBeTaken, begun_text}
use Rattle.outside_io.proofs.OnlyReading.{none_read, reads_more}
use Rattle.debug_core.proofs.Taking.{IsRead, given_all, given_end, given_more, given_none, given_same, read_begun, read_end, read_most, read_none, read_on, read_within}
use Rattle.debug_core.proofs.Telling.{amid_begun, amid_none}
use Rattle.debug_core.proofs.debugger.Debugger.take_pieces.Goals as goal

pub pieces-init : goal.pieces-init
pieces-init g c = record {
  most = omega arith;
  room = refl;
  amid = λ x s h. ([], read_none _, amid_none _ x s _ _ _ h c.requires.none);
  given = given_none _;
  later = omega arith;
  only_reads = none_read _;
}

pub returns-then-self-clause-amid : goal.returns-then-self-clause-amid
returns-then-self-clause-amid g c = λ x s h.
    let i = c.pieces.invariant.amid x s h in
    let all = read_within _ c.pieces.place i.0 c.pieces.invariant.most i.1 in
    record {
      text = i.0;
      rest = all.0;
      taken = all.1;
      given = given_all _ _ _ _ i.0 i.1 c.pieces.invariant.given;
      amid = i.2;
      all = inr (sym i.2.at.over ∙ c.if-self.true);
    }

pub returns-in_default-clause-unread : goal.returns-in_default-clause-unread
returns-in_default-clause-unread g c = λ x s h e.
    let i = c.pieces.invariant.amid x s h in
    record {
      text = begun_text x s i.0;
      begun = record { front = i.0; held = read_begun _ _ _ i.1; given = given_all _ _ _ _ _ i.1 (given_same _ _ _ _ c.pieces.invariant.given c.in_default.ensures.count); is = refl };
      told = amid_begun _ x s i.0 _ _ _ _ i.2;
    }

pub returns-then-count-eq0-clause-amid : goal.returns-then-count-eq0-clause-amid
returns-then-count-eq0-clause-amid g c = λ x s h.
    let i = c.pieces.invariant.amid x s h in
    let none : c.in-Ok.count ≡ 0 = c.if-count-eq0.true in
    let room : 0 < length c.read.new.buf = omega (arith, length-take c.min-room.result c.pieces.buf, c.min-room.ensures, c.pieces.invariant.room) in
    let part : WhereSeen ((g.F.Files.seen c.args.files.now).contents c.args.name.now) (λ all. IsPart all c.pieces.place 0 c.read.new.buf) = λ all seen.
    let contents = ap (λ (t : List ℕ → _). t c.args.name.now) c.pieces.invariant.only_reads.contents ∙ seen in
    subst (λ (n : ℕ). IsPart all c.pieces.place n c.read.new.buf) none (c.in-Ok.ensures.bytes.1 all contents) in
    record {
      text = i.0;
      rest = [];
      taken = subst (MayBeTaken _) (sym (append-nil i.0)) (read_end _ c.pieces.place i.0 c.read.new.buf c.pieces.invariant.most room i.1 part);
      given = given_all _ _ _ _ i.0 i.1 (given_end _ _ _ _ c.in-Ok.count c.pieces.invariant.given c.in-Ok.ensures.count none);
      amid = i.2;
      all = inl refl;
    }

pub take_piece-requires : goal.take_piece-requires
take_piece-requires g c =
    let r = c.requires.session in
    let i = c.pieces.invariant.amid r.0 r.1 r.2 in
    (r.0, r.1, i.0, _, i.2)

pub returns-in-Err-clause-failed : goal.returns-in-Err-clause-failed
returns-in-Err-clause-failed g c = λ x s h e.
    let i = c.pieces.invariant.amid x s h in
    let count = c.in-Ok.count in
    let contents = (g.F.Files.seen c.args.files.now).contents c.args.name.now in
    let within : count ≤ length c.read.new.buf = c.in-Ok.ensures.bytes.0 in
    let most : c.pieces.place + count ≤ 4294967295 = omega (arith, within, length-take c.min-room.result c.pieces.buf, c.min-room.ensures) in
    let same : take count c.read.new.buf ≡ take count (c.read.new.buf ++ drop c.min-room.result c.pieces.buf) = sym (take-append-le count c.read.new.buf (drop c.min-room.result c.pieces.buf) within) in
    let part : WhereSeen contents (λ all. IsPart all c.pieces.place count c.read.new.buf) = λ all seen.
    c.in-Ok.ensures.bytes.1 all (ap (λ (t : List ℕ → _). t c.args.name.now) c.pieces.invariant.only_reads.contents ∙ seen) in
    let read = subst (λ (t : List ℕ). IsRead contents (c.pieces.place + count) (i.0 ++ t)) same (read_on contents c.pieces.place count i.0 c.read.new.buf within i.1 part) in
    let rest = read_within contents (c.pieces.place + count) _ most read in
    record { bytes = _; taken = rest.1; told = c.in-Err.ensures.failed x s i.0 _ i.2 rest.0 }

pub pieces-preserved : goal.pieces-preserved
pieces-preserved g c =
    let count = c.in-Ok.count in
    let contents = (g.F.Files.seen c.args.files.now).contents c.args.name.now in
    let within : count ≤ length c.read.new.buf = c.in-Ok.ensures.bytes.0 in
    let same : take count c.read.new.buf ≡ take count (c.read.new.buf ++ drop c.min-room.result c.pieces.buf) = sym (take-append-le count c.read.new.buf (drop c.min-room.result c.pieces.buf) within) in
    let part : WhereSeen contents (λ all. IsPart all c.pieces.place count c.read.new.buf) = λ all seen.
    c.in-Ok.ensures.bytes.1 all (ap (λ (t : List ℕ → _). t c.args.name.now) c.pieces.invariant.only_reads.contents ∙ seen) in
    record {
      most = omega (arith, within, length-take c.min-room.result c.pieces.buf, c.min-room.ensures);
      room = omega (arith, length-append c.read.new.buf (drop c.min-room.result c.pieces.buf), length-drop c.min-room.result c.pieces.buf, length-take c.min-room.result c.pieces.buf, c.min-room.ensures, c.pieces.invariant.room);
      amid = λ x s h.
          let i = c.pieces.invariant.amid x s h in
          let read = subst (λ (t : List ℕ). IsRead contents (c.pieces.place + count) (i.0 ++ t)) same (read_on contents c.pieces.place count i.0 c.read.new.buf within i.1 part) in
          (_, read, c.in-Ok-take_piece.ensures.amid x s i.0 _ i.2);
      later = omega (arith, c.pieces.invariant.later, c.in-Ok-take_piece.ensures.cause.later);
      given = given_more _ _ _ c.pieces.place count c.pieces.invariant.given c.in-Ok.ensures.count;
      only_reads = reads_more c.pieces.invariant.only_reads (record { later = c.in-Ok.ensures.cause.later; grown = c.in-Ok.ensures.grown; contents = c.in-Ok.ensures.contents; puts = c.in-Ok.ensures.puts });
    }

pub returns-clause-amid : goal.returns-clause-amid
returns-clause-amid g c = λ x s h.
    let i = c.pieces.invariant.amid x s h in
    let all : c.pieces.place ≡ 4294967295 = omega (arith, c.pieces.invariant.most, c.pieces-test.false) in
    record {
      text = i.0;
      rest = [];
      taken = subst (MayBeTaken _) (sym (append-nil i.0)) (read_most _ c.pieces.place i.0 all i.1);
      given = given_all _ _ _ _ i.0 i.1 c.pieces.invariant.given;
      amid = i.2;
      all = inl refl;
    }
