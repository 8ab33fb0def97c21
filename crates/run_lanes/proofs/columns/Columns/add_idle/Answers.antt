use Rattle.std.proofs.Common.{◌≡◌, ◌≤◌, ◌+◌, ◌-◌, ◌∙◌, ◌++◌, ℕ, List, [], append_assoc, length, length-append, ap, subst, sym, refl, arith}
use Rattle.std.proofs.lemmas.List.{append-nil}
use Rattle.run_lanes.specs.declared.activity.Activity.{Activity}
use Rattle.run_lanes.specs.declared.columns.Columns.{Columns}
use Rattle.run_lanes.specs.Columned.{Columned}
use Rattle.run_lanes.specs.Activities.{TurnSight, idle_turns}
use Rattle.run_lanes.proofs.Sights.{idle_parts, many_idle}
use Rattle.run_lanes.proofs.columns.Columns.add_idle.Goals as goal

-- the same columns, by numbers that are equal
none_added : (c : Columns) (n turn : ℕ) (front : List TurnSight) (ws : List Activity) → Columned c (length front) front → Columned c (length front + (n - n)) (front ++ idle_turns turn (n - n) ws)
none_added c n turn front ws h =
    let none : n - n ≡ 0 = omega arith in
    let P : ℕ → Type 0 = λ m. Columned c (length front + m) (front ++ idle_turns turn m ws) in
    let Q : ℕ → Type 0 = λ m. Columned c m (front ++ []) in
    let R : List TurnSight → Type 0 = λ l. Columned c (length front) l in
    subst P (sym none) (subst Q (omega arith) (subst R (sym (append-nil front)) h))

more_added : (c d : Columns) (a r n turn : ℕ) (front : List TurnSight) (ws : List Activity) → a + r ≡ n → length front + n ≤ 1000000000 → Columned c (length front + a) (front ++ idle_turns turn a ws) →
    ((from : ℕ) (all : List TurnSight) → length all + r ≤ 1000000000 → Columned c (length all) all → Columned d (length all + r) (all ++ idle_turns from r ws)) → Columned d (length front + n) (front ++ idle_turns turn n ws)
more_added c d a r n turn front ws sum few so_far add =
    let before = front ++ idle_turns turn a ws in
    let long : length front + a ≡ length before = omega (arith, length-append front (idle_turns turn a ws), many_idle turn a ws) in
    let P : ℕ → Type 0 = λ m. Columned c m before in
    let Q : ℕ → Type 0 = λ m. Columned d m (before ++ idle_turns (turn + a) r ws) in
    let R : List TurnSight → Type 0 = λ l. Columned d (length front + n) l in
    let e : length before + r ≡ length front + n = omega (arith, long, sum) in
    let is : before ++ idle_turns (turn + a) r ws ≡ front ++ idle_turns turn n ws =
    append_assoc front (idle_turns turn a ws) (idle_turns (turn + a) r ws) ∙ ap (λ (l : List TurnSight). front ++ l) (sym (idle_parts turn a r ws) ∙ ap (λ (m : ℕ). idle_turns turn m ws) sum) in
    subst R is (subst Q e (add (turn + a) before (omega (arith, long, sum, few)) (subst P long so_far)))

pub columns-init : goal.columns-init
columns-init c = record {
  left = omega arith;
  tasks = refl;
  added = λ turn front few h. none_added c.args.self.now c.args.turns turn front c.args.activities.now h;
}

pub columns-preserved : goal.columns-preserved
columns-preserved c =
    let i = c.columns.invariant in
    let within = c.add_some-added.ensures.within in
    record {
      left = omega (arith, i.left);
      tasks = c.add_some-added.ensures.tasks ∙ i.tasks;
      added = λ turn front few h.
          more_added c.columns.self c.add_some-added.new.self (c.args.turns - c.columns.left) c.add_some-added.result _ turn front c.args.activities.now (omega (arith, i.left, within)) (omega (arith, few, i.left)) (i.added turn front few h) c.add_some-added.ensures.added;
    }

pub returns-clause-added : goal.returns-clause-added
returns-clause-added c = λ turn front few h.
    let i = c.columns.invariant in
    let all : c.args.turns - c.columns.left ≡ c.args.turns = omega (arith, c.columns-test.false) in
    let P : ℕ → Type 0 = λ m. Columned c.columns.self (length front + m) (front ++ idle_turns turn m c.args.activities.now) in
    subst P all (i.added turn front few h)
