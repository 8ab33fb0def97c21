use Rattle.std.proofs.Common.{◌≡◌, ℕ, suc, ◌-◌, subst, arith}
use Rattle.thumb_step.specs.Windows.{view_of, Glides}
use Rattle.thumb_step.proofs.Gliding.{kept_on}
use Rattle.thumb_step.proofs.window.Runner.glide.Goals as goal

pub on-preserved : goal.on-preserved
on-preserved c =
    let w = c.on.self.window in
    let made : ℕ = c.args.most - c.on.left in
    let one_more : suc made ≡ c.args.most - (c.on.left - 1) = omega (arith, c.on-test.true, c.on.invariant.within) in
    let G : ℕ → Type 0 = λ n. Glides (view_of c.args.self.now.window) c.args.self.now.processor n (view_of c.step.new.self.window) c.step.new.self.processor in
    record {
      glides = subst G one_more (view_of w, c.on.self.processor, c.on.invariant.glides, c.step.ensures.goes c.if-step.true);
      fixed = kept_on (view_of c.args.self.now.window) (view_of w) (view_of c.step.new.self.window) c.on.invariant.fixed c.step.ensures.fixed;
      within = omega (arith, c.on.invariant.within);
    }
