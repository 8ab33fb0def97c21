use Rattle.std.proofs.Common.{◌≡◌, ◌∙◌, true, Some, sym, ap}
use Rattle.run_cover.specs.Known.{is_code}
use Rattle.run_cover.specs.Marked.{known_of}
use Rattle.run_cover.proofs.Marking.{grows_one}
use Rattle.run_cover.proofs.Counting.{some_number}
use Rattle.run_cover.proofs.known.Marks.lead.Goals as goal

pub returns-then-is_code-clause-led : goal.returns-then-is_code-clause-led
returns-then-is_code-clause-led g c = λ x s st.
    record {
      grows = grows_one (λ b. (c.args.way ≡ Some b) × (is_code x.setup s.memory b ≡ true)) _ _ c.in-Some.addr c.mark.ensures (c.in-Some.is, sym (c.is_code.ensures.code x s st) ∙ c.if-is_code.true);
      done = λ b e code. ap (known_of c.mark.new.self) (some_number _ _ (sym e ∙ c.in-Some.is)) ∙ c.mark.ensures.known;
    }
