-- There is one order of the tasks, so the same set of places has the same tasks.
use Rattle.std.proofs.Common.{◌≡◌, ◌∙◌, ◌%◌, ◌*◌, ◌+◌, ◌<◌, ◌≤◌, ℕ, zero, suc, Bool, false, ◌&&◌, List, length, ap, arith, inl, inr, is_none, sym}
use Rattle.std.proofs.lemmas.Bool.{cases_lt}
use Rattle.std.proofs.lemmas.List.{get_or_past, length-map}
use Rattle.task_table.specs.model.State.{Setup, State, Task, TaskSetup}
use Rattle.task_table.specs.model.Reading.{call_of, is_ready, is_well, listen_of, no_task, task_at}
use Rattle.task_table.specs.kept.TaskSets.{has}
use Rattle.task_table.specs.declared.order.Order.{Order}
use Rattle.task_table.specs.kept.Order.{AreAtPlaces, AreOrdered, key_in, place_in, priorities_of, priority_at}

-- where two orders have the same keys before a place, the second's there is none above the first's
no_later : (ps ks ls ms ns : List ℕ) (p : ℕ) → AreOrdered ps ks ls → AreOrdered ps ms ns → p < length ps → ((q : ℕ) → q < p → key_in ks q ≡ key_in ms q) → key_in ms p ≤ key_in ks p
no_later ps ks ls ms ns p a b lt before =
    let task = key_in ks p % 1024 in
    let there = a.there p lt in
    let key : key_in ks p ≡ 1024 * priority_at ps task + task = ap (key_in ks) (sym (a.place p lt)) ∙ a.key task there in
    let q = place_in ns task in
    let inside = b.inside task there in
    let same : key_in ms q ≡ key_in ks p = b.key task there ∙ sym key in
    elim (cases_lt q p) [
      | inl less ↦ (
          let both : key_in ks q ≡ key_in ks p = before q less ∙ same in
          let rises : key_in ks q < key_in ks p = a.rising q p less lt in
          absurd (omega (arith, both, rises))
          )
      | inr most ↦ elim (cases_lt p q) [
        | inl less ↦ (let rises : key_in ms p < key_in ms q = b.rising p q less inside in omega (arith, same, rises))
        | inr least ↦ (
            let at : q ≡ p = omega (arith, most, least) in
            let here : key_in ms p ≡ key_in ks p = ap (key_in ms) (sym at) ∙ same in
            omega (arith, here)
            )
      ]
    ]

same_keys : (ps ks ls ms ns : List ℕ) (n p : ℕ) → AreOrdered ps ks ls → AreOrdered ps ms ns → p < n → p < length ps → key_in ks p ≡ key_in ms p
same_keys ps ks ls ms ns zero p a b below lt = absurd (omega (arith, below))
same_keys ps ks ls ms ns (suc n) p a b below lt =
    let before : (q : ℕ) → q < p → key_in ks q ≡ key_in ms q = λ q less. same_keys ps ks ls ms ns n q a b (omega (arith, below, less)) (omega (arith, lt, less)) in
    let one = no_later ps ks ls ms ns p a b lt before in
    let other = no_later ps ms ns ks ls p b a lt (λ q less. sym (before q less)) in
    omega (arith, one, other)

same_places : (ps ks ls ms ns : List ℕ) (i : ℕ) → AreOrdered ps ks ls → AreOrdered ps ms ns → i < length ps → place_in ls i ≡ place_in ns i
same_places ps ks ls ms ns i a b lt =
    let p = place_in ls i in
    let q = place_in ns i in
    let inside = b.inside i lt in
    let keys : key_in ks p ≡ key_in ks q = a.key i lt ∙ sym (b.key i lt) ∙ sym (same_keys ps ks ls ms ns (length ps) q a b inside inside) in
    sym (a.place p (a.inside i lt)) ∙ ap (λ (key : ℕ). place_in ls (key % 1024)) keys ∙ a.place q inside

-- two sets of the same places have the tasks of which two tests hold: both hold of the same tasks
pub same_tests : (tasks : List TaskSetup) (order_a order_b : Order) (words_a words_b : List ℕ) (test_a test_b : ℕ → Bool) → AreAtPlaces tasks order_a words_a test_a → AreAtPlaces tasks order_b words_b test_b
    → ((p : ℕ) → has words_a p ≡ has words_b p) → (i : ℕ) → i < length tasks → test_a i ≡ test_b i
same_tests tasks order_a order_b words_a words_b test_a test_b a b same i lt =
    let inside : i < length (priorities_of tasks) = (let n = length-map tasks (λ x. x.priority) in omega (arith, n, lt)) in
    let place : place_in order_a.places.items i ≡ place_in order_b.places.items i = same_places (priorities_of tasks) order_a.keys.items order_a.places.items order_b.keys.items order_b.places.items i a.ordered b.ordered inside in
    sym (a.each i lt) ∙ ap (has words_a) place ∙ same (place_in order_b.places.items i) ∙ b.each i lt

-- a task that is not there is not ready
unready_past : (s : State) (i : ℕ) → length s.tasks ≤ i → is_ready s i ≡ false
unfolding is_ready task_at
unready_past s i past = ap (λ (x : Task). is_well x.health && is_none (call_of s i) && is_none (listen_of s i)) (get_or_past s.tasks i no_task past)

-- two states in which the same tasks are ready, of those that there are
pub same_ready : (g : Setup) (s u : State) → length g.tasks ≡ length s.tasks → length g.tasks ≡ length u.tasks → ((i : ℕ) → i < length g.tasks → is_ready u i ≡ is_ready s i) → (i : ℕ) → is_ready u i ≡ is_ready s i
same_ready g s u many_s many_u same i = elim (cases_lt i (length g.tasks)) [
  | inl there ↦ same i there
  | inr past ↦ unready_past u i (omega (arith, many_u, past)) ∙ sym (unready_past s i (omega (arith, many_s, past)))
]
