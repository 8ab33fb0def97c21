use Rattle.std.proofs.Common.{◌≡◌, ◌≤◌, ◌<◌, ◌+◌, ◌*◌, ℕ, get_or}
use Rattle.run_lanes.specs.Counted.{both}
use Rattle.run_lanes.proofs.cells.halve_outside.Given as goal

abbrev pub invariant-loop-k : goal.invariant-loop-k
invariant-loop-k l = record {
  made : (j d : ℕ) → j < l.k → get_or l.outside j d ≡ both (get_or l.fn.outside (2 * j) 0) (get_or l.fn.outside (2 * j + 1) 0);
  behind : (j d : ℕ) → l.k ≤ j → get_or l.outside j d ≡ get_or l.fn.outside j d;
}

abbrev pub invariant-loop-k-2 : goal.invariant-loop-k-2
invariant-loop-k-2 l = record {
  made : (j d : ℕ) → j < 600 → get_or l.outside j d ≡ both (get_or l.fn.outside (2 * j) 0) (get_or l.fn.outside (2 * j + 1) 0);
  rest : (j d : ℕ) → 600 ≤ j → j < l.k → get_or l.outside j d ≡ 0;
}
