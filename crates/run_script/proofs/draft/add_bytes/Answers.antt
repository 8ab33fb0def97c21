use Rattle.std.proofs.Common.{◌+◌, ◌∙◌, ℕ, List, ap, arith, drop, get_or, map, refl}
use Rattle.std.proofs.lemmas.List.{drop_all}
use Rattle.run_script.specs.declared.events.Event.{Event}
use Rattle.run_script.specs.declared.events.Event.TheVariants.{Feed}
use Rattle.run_script.specs.Events.{script_data}
use Rattle.run_script.specs.Scripts.{with_series}
use Rattle.run_script.proofs.Series.{further, goes_on, one_byte_more, series_end, stops_at}
use Rattle.run_script.proofs.draft.add_bytes.Goals as goal

pub loop-byte-preserved : goal.loop-byte-preserved
loop-byte-preserved c =
    let k = c.loop-byte.byte-index in
    let bytes = c.args.bytes.now in
    let f : ℕ → Event = λ byte. Feed c.args.device byte in
    record {
      turn = ap (λ n. n + c.args.step) c.loop-byte.invariant.turn ∙ further c.args.first c.args.step k;
      same = c.loop-byte.invariant.same ∙ goes_on (script_data c.loop-byte.script) (script_data c.add_event.new.script) c.loop-byte.turn c.args.step (f (get_or bytes k 0))
          (map f (drop (k + 1) bytes)) (map f (drop k bytes)) (one_byte_more f bytes k (get_or bytes k 0) (omega arith) refl) c.in-Ok.ensures.ok;
    }

pub returns-clause-ok : goal.returns-clause-ok
returns-clause-ok c =
    let f : ℕ → Event = λ byte. Feed c.args.device byte in
    c.loop-byte.invariant.same ∙ ap (λ (l : List ℕ). with_series (script_data c.loop-byte.script) c.loop-byte.turn c.args.step (map f l)) (drop_all c.loop-byte.byte-index c.args.bytes.now (omega arith))
    ∙ series_end (script_data c.loop-byte.script) c.loop-byte.turn c.args.step

pub returns-in-Err-clause-err : goal.returns-in-Err-clause-err
returns-in-Err-clause-err c =
    let k = c.loop-byte.byte-index in
    let bytes = c.args.bytes.now in
    let f : ℕ → Event = λ byte. Feed c.args.device byte in
    stops_at (script_data c.loop-byte.script) c.loop-byte.turn c.args.step c.args.line (f (get_or bytes k 0)) (map f (drop (k + 1) bytes)) (map f (drop k bytes))
    (with_series (script_data c.args.script.now) c.args.first c.args.step (map f bytes)) c.in-Err.fault c.loop-byte.invariant.same (one_byte_more f bytes k (get_or bytes k 0) (omega arith) refl) c.in-Err.ensures.err
