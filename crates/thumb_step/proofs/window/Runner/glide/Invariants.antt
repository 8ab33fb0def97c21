use Rattle.std.proofs.Common.{◌-◌, ◌≤◌}
use Rattle.thumb_step.specs.Windows.{view_of, Glides, Keeps}
use Rattle.thumb_step.proofs.window.Runner.glide.Given as goal

abbrev pub invariant-on : goal.invariant-on
invariant-on l = record {
  glides : Glides (view_of l.fn.self.window) l.fn.self.processor (l.most - l.left) (view_of l.self.window) l.self.processor;
  fixed : Keeps (view_of l.fn.self.window) (view_of l.self.window);
  within : l.left ≤ l.most;
}

abbrev pub decreases-on : goal.decreases-on
decreases-on l = l.left
