use Rattle.std.proofs.Common.{◌≡◌, ◌∙◌, ◌++◌, List, ℕ, sym, ap, subst, arith, take, drop, suc, length}
use Rattle.std.proofs.lemmas.List.{append-nil}
use Rattle.std.proofs.lemmas.Result.{err_from_is_err_and}
use Rattle.std.proofs.Math.Seq.{take-length}
use Rattle.outside_io.specs.Outside.{AppendsFront}
use Rattle.board_core.specs.Data.{boxed}
use Rattle.debug_core.specs.Live.{live_text}
use Rattle.debug_core.specs.UnderWay.{IsAmid}
use Rattle.debug_core.proofs.Cutting.{piece_at, piece_more}
use Rattle.debug_core.proofs.debugger.Debugger.take_piece.Goals as goal

pub loop-byte-init : goal.loop-byte-init
loop-byte-init g c = record {
  amid = λ x s text old h.
      let shown = boxed (λ p. (goal.Device-dyn g p).shown p.1) in
      subst (λ (t : List ℕ). IsAmid shown x s t old (g.S.Sink.seen c.args.out.now).written c.args.self.now c.args.under_way.now) (sym (append-nil text)) h;
  later = omega arith;
}

pub take_byte-requires : goal.take_byte-requires
take_byte-requires g c =
    let r = c.requires in
    (r.0, r.1, r.2 ++ take c.loop-byte.byte-index c.args.piece.now, r.3, c.loop-byte.invariant.amid r.0 r.1 r.2 r.3 r.4)

pub loop-byte-preserved : goal.loop-byte-preserved
loop-byte-preserved g c = record {
  amid = λ x s text old h.
      let shown = boxed (λ p. (goal.Device-dyn g p).shown p.1) in
      let i = c.loop-byte.byte-index in
      subst (λ (t : List ℕ). IsAmid shown x s t old (g.S.Sink.seen c.take_byte.new.out).written c.take_byte.new.self c.take_byte.new.under_way) (piece_more text c.args.piece.now i c.loop-byte-test.true)
      (c.in_ok-take_byte.ensures.amid x s (text ++ take i c.args.piece.now) old (c.loop-byte.invariant.amid x s text old h));
  later = omega (arith, c.loop-byte.invariant.later, c.in_ok-take_byte.ensures.cause.later);
}

pub returns-in_err-take_byte : goal.returns-in_err-take_byte
returns-in_err-take_byte g c =
    let p = err_from_is_err_and c.from_residual.result c.from_residual.ensures.1 in
    record {
      amid = λ x s text old h. rw (p.1) tt;
      failed = λ x s text old h.
          let i = c.loop-byte.byte-index in
          let failed = c.in_err-take_byte.ensures.failed x s (text ++ take i c.args.piece.now) old (c.loop-byte.invariant.amid x s text old h) in
          rw (p.1) (λ rest. subst (λ (t : List ℕ). AppendsFront old (g.S.Sink.seen c.take_byte.new.out).written (live_text x s t)) (piece_at text c.args.piece.now rest i c.loop-byte-test.true) (failed (drop (suc i) c.args.piece.now ++ rest)));
      cause = record {
        later = omega (arith, c.loop-byte.invariant.later, c.in_err-take_byte.ensures.cause.later);
        failed = rw (p.1) (omega (arith, c.loop-byte.invariant.later, c.in_err-take_byte.ensures.cause.failed));
      };
    }

pub returns : goal.returns
returns g c =
    let shown = boxed (λ p. (goal.Device-dyn g p).shown p.1) in
    let piece = c.args.piece.now in
    let all : c.loop-byte.byte-index ≡ length piece = omega (arith, c.loop-byte.auto.byte-index-end, c.loop-byte-test.false) in
    let whole : take c.loop-byte.byte-index piece ≡ piece = ap (λ n. take n piece) all ∙ take-length piece in
    record {
      amid = λ x s text old h.
          subst (λ (t : List ℕ). IsAmid shown x s (text ++ t) old (g.S.Sink.seen c.loop-byte.out).written c.loop-byte.self c.loop-byte.under_way) whole (c.loop-byte.invariant.amid x s text old h);
      failed = λ x s text old h. tt;
      cause = record { later = c.loop-byte.invariant.later; failed = tt };
    }
