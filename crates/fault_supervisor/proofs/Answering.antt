-- While the waiting tasks are answered, the tasks that others wait for keep indices of ten bits.
use Rattle.std.proofs.Common.{◌≡◌, ◌+◌, ◌%◌, ℕ, zero, suc, Bool, true, false, cond, not, List, [], ◌∷◌, ◌∙◌, ap, arith, eqb}
use Rattle.std.specs.Prelude.{fold}
use Rattle.std.specs.List.{range_with_len}
use Rattle.kernel_abi.specs.Ids.{dead_code_of}
use Rattle.kernel_abi.specs.declared.Ending.{Ending}
use Rattle.kernel_abi.specs.declared.Ending.TheVariants.{Restart}
use Rattle.kernel_abi.specs.declared.Note.{Note}
use Rattle.task_table.specs.model.State.{Setup, State, Task, Call, Listen, Turn}
use Rattle.task_table.specs.model.Reading.{task_at, call_of, listen_of}
use Rattle.task_table.specs.model.Effects.{with_task, without_call, without_listen, changed, noted, given, returned, closed, reborn, is_to, awaits, dead_answered}
use Rattle.task_table.specs.kept.Waits.{AreFew}
use Rattle.task_table.proofs.model.Keeps.{filter_in}

few-task : (s : State) (i : ℕ) (x : Task) → AreFew s → AreFew (with_task i x s)
unfolding with_task
few-task s i x few = record { called = few.called; heard = few.heard }

few-without_call : (s : State) (i : ℕ) → AreFew s → AreFew (without_call i s)
unfolding without_call
few-without_call s i few = record {
  called = λ c here. few.called c (filter_in (λ (d : Call). not (eqb d.client.index i)) s.calls c here).0;
  heard = few.heard;
}

few-without_listen : (s : State) (i : ℕ) → AreFew s → AreFew (without_listen i s)
unfolding without_listen
few-without_listen s i few = record {
  called = few.called;
  heard = λ l b here named. few.heard l b (filter_in (λ (m : Listen). not (eqb m.task i)) s.listens l here).0 named;
}

pub few-noted : (n : Note) (t : Turn) → AreFew t.state → AreFew (noted n t).state
unfolding noted
few-noted n t few = few

pub few-closed : (i : ℕ) (ending : Ending) (t : Turn) → AreFew t.state → AreFew (closed i ending t).state
unfolding closed
few-closed i ending t few = few-without_call t.state i few

pub few-unlistened : (i : ℕ) (t : Turn) → AreFew t.state → AreFew (changed (without_listen i) t).state
few-unlistened i t few = few-without_listen t.state i few

pub few-reborn : (g : Setup) (i : ℕ) (start : Bool) (t : Turn) → AreFew t.state → AreFew (changed (reborn g i start) t).state
unfolding reborn
few-reborn g i start t few = few-task t.state i _ few

few-given : (i : ℕ) (values : List ℕ) (t : Turn) → AreFew t.state → AreFew (given i values t).state
unfolding given
few-given i values t few = few-task t.state i _ few

few-returned : (i : ℕ) (t : Turn) → AreFew t.state → AreFew (returned i t).state
unfolding returned
few-returned i t few = few-noted _ t few

few-answered : (i : ℕ) (t : Turn) (j : ℕ) → AreFew t.state → AreFew (dead_answered i t j).state
few-answered i t j few = go (is_to i (call_of t.state j)) (awaits i (listen_of t.state j))
  where
    code : ℕ
    code = dead_code_of ((task_at t.state i).births % 64)

    answered : AreFew (returned j (given j (code ∷ 0 ∷ []) (closed j Restart t))).state
    answered = few-returned j _ (few-given j _ _ (few-closed j Restart t few))

    woken : AreFew (returned j (given j (code ∷ 0 ∷ 0 ∷ 0 ∷ 0 ∷ 0 ∷ []) (changed (without_listen j) t))).state
    woken = few-returned j _ (few-given j _ _ (few-unlistened j t few))

    go : (a b : Bool) → AreFew (cond a (returned j (given j (code ∷ 0 ∷ []) (closed j Restart t))) (cond b (returned j (given j (code ∷ 0 ∷ 0 ∷ 0 ∷ 0 ∷ 0 ∷ []) (changed (without_listen j) t))) t)).state
    go true b = answered
    go false true = woken
    go false false = few

pub few-all_answered : (i : ℕ) (js : List ℕ) (t : Turn) → AreFew t.state → AreFew (fold (dead_answered i) t js).state
few-all_answered i [] t few = few
few-all_answered i (j ∷ js) t few = few-all_answered i js (dead_answered i t j) (few-answered i t j few)

-- one more index at the end of a range
fold_range_suc : {B : Type 0} (f : B → ℕ → B) (b : B) (a n : ℕ) → fold f b (range_with_len a (suc n)) ≡ f (fold f b (range_with_len a n)) (a + n)
fold_range_suc f b a zero = let e : a ≡ a + 0 = omega arith in ap (f b) e
fold_range_suc f b a (suc n) = let e : a + 1 + n ≡ a + suc n = omega arith in fold_range_suc f (f b a) (a + 1) n ∙ ap (f (fold f (f b a) (range_with_len (a + 1) n))) e

pub fold_range_more : {B : Type 0} (f : B → ℕ → B) (b : B) (n : ℕ) → fold f b (range_with_len 0 (n + 1)) ≡ f (fold f b (range_with_len 0 n)) n
fold_range_more f b n = let e : n + 1 ≡ suc n = omega arith in let z : 0 + n ≡ n = omega arith in rw e (fold_range_suc f b 0 n ∙ ap (f (fold f b (range_with_len 0 n))) z)
