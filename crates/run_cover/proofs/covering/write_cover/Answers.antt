use Rattle.std.proofs.Common.{◌-◌, ℕ, Bool, subst}
use Rattle.std.specs.Io.KnownBytes.{Appends}
use Rattle.outside_io.specs.Outside.{AppendsFront}
use Rattle.std.proofs.lemmas.Result.{err_from_is_err_and}
use Rattle.board_model.specs.declared.outcomes.Level.TheVariants.{All}
use Rattle.board_model.specs.Run.{run}
use Rattle.thumb_asm.specs.Listed.{labels_in}
use Rattle.run_cover.specs.declared.counts.Count.{Count}
use Rattle.run_cover.specs.Known.{IsKnown}
use Rattle.run_cover.specs.Marked.{known_of}
use Rattle.run_cover.specs.Text.{listing_text}
use Rattle.run_cover.proofs.covering.write_cover.Goals as goal

pub returns-in_err-push_listing-clause-text : goal.returns-in_err-push_listing-clause-text
returns-in_err-push_listing-clause-text g c = λ x s st.
    let p = err_from_is_err_and c.from_residual.result c.from_residual.ensures.1 in
    let r = run All x (c.args.limit - s.turn) s in
    let same = c.count_run-end.ensures.counted x s st in
    let k : ℕ → Bool = known_of c.find.new.self in
    let last = c.count_run-end.ensures.last x s st in (
      k,
      subst (λ (n : ℕ → Count). IsKnown x.setup r.last.memory n k) same (c.find.ensures x r.last last),
      rw (p.1) (subst (λ (n : ℕ → Count). AppendsFront (g.S.Sink.seen c.args.out.now).written (g.S.Sink.seen c.push_listing.new.out).written (listing_text x.setup (record { memory = r.last.memory; counts = n; known = k }) (labels_in c.args.labels.now))) same (c.in_err-push_listing.ensures.bytes x r.last last)),
    )

pub returns-clause-text : goal.returns-clause-text
returns-clause-text g c = λ x s st.
    let r = run All x (c.args.limit - s.turn) s in
    let same = c.count_run-end.ensures.counted x s st in
    let k : ℕ → Bool = known_of c.find.new.self in
    let last = c.count_run-end.ensures.last x s st in (
      k,
      subst (λ (n : ℕ → Count). IsKnown x.setup r.last.memory n k) same (c.find.ensures x r.last last),
      subst (λ (n : ℕ → Count). Appends (g.S.Sink.seen c.args.out.now).written (g.S.Sink.seen c.push_listing.new.out).written (listing_text x.setup (record { memory = r.last.memory; counts = n; known = k }) (labels_in c.args.labels.now))) same (c.in_ok-push_listing.ensures.bytes x r.last last),
    )
