use Rattle.std.proofs.Common.{◌∙◌, length, sym, ap, arith}
use Rattle.run_script.specs.Scripts.{ScriptData}
use Rattle.board_model.specs.Script.{start_of}
use Rattle.sweep_core.proofs.sweeper.Sweeper.open.Goals as goal

pub returns : goal.returns
returns g c = λ x st is.
    let events = ap (λ (s : ScriptData). length s.events) is in
    let room = c.in_ok-own.ensures.room in
    let spare = c.in_ok-spare.ensures.room in
    let own = c.become_as.ensures.room _ room in
    record {
      scripts = record {
        start = st.sane;
        script = c.become_as.ensures.same ∙ sym is;
        arriving = ap (λ (s : ScriptData). s.events) c.in_ok-arrival.ensures;
        spare = omega (arith, events, spare, c.count.ensures, c.count-2.ensures);
        saved = omega (arith, c.in_ok-saved.ensures.len, c.in_ok-saved.saved.ok.0, c.saved_len-len.ensures x (start_of x) st);
      };
      own = omega (arith, events, own, c.count.ensures, c.count-2.ensures);
      stands = st;
      front = c.new.ensures;
      none = c.in_ok-leader.ensures;
    }
