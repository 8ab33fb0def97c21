use Rattle.run_cover.specs.Counted.{count_of}
use Rattle.run_cover.proofs.Knowing.{HaveBegunTo}
use Rattle.run_cover.proofs.known.Marks.begin_all.Given as goal

abbrev pub invariant-loop-place : goal.invariant-loop-place
invariant-loop-place l = HaveBegunTo (count_of l.counts) l.self l.place
