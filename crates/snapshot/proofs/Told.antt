-- A record that is valid by itself gives a task, a call and a listen; saving these gives the same record
-- again.
use Rattle.std.proofs.Common.{◌≡◌, ◌≢◌, ◌∙◌, ◌+◌, ◌*◌, ◌/◌, ◌%◌, ◌<◌, ◌≤◌, ℕ, zero, suc, true, ◌&&◌, eqb, leb, ltb, cond, List, [], ◌∷◌, length, replicate, IfSome, arith, ap, refl, sym}
use Rattle.std.proofs.lemmas.Bool.{and_parts, eqb-true, ltb-true, leb-true}
use Rattle.kernel_abi.specs.Ids.{id_of}
use Rattle.kernel_abi.specs.declared.Fault.{Fault}
use Rattle.kernel_abi.specs.declared.Timer.{Timer}
use Rattle.task_table.specs.model.Sane.{IsSaneTask, IsFaultKnown}
use Rattle.snapshot.specs.declared.records.TaskRecord.{TaskRecord}
use Rattle.snapshot.specs.Causes.{are_zeros, has_words}
use Rattle.snapshot.specs.Accepted.{IsGoodRecord}
use Rattle.snapshot.specs.Saved.{bit, health_number, fault_of, flags_number, timer_flag, timer_of, wait_number, wait_words, record_told}
use Rattle.snapshot.specs.Restored.{health_from, flags_from, timer_from, task_from, call_in, listen_in}

-- ## its health

health_again : (h : ℕ) (f : Fault) → h ≤ 2 → health_number (health_from h f) ≡ h
health_again zero f few = refl
health_again (suc zero) f few = refl
health_again (suc (suc zero)) f few = refl
health_again (suc (suc (suc h))) f few = absurd (omega (arith, few))

fault_again : (h : ℕ) (f : Fault) → cond (eqb h 2) (leb 1 f.number && leb f.number 10) (eqb f.number 0) ≡ true → (h ≢ 2 → (f.x ≡ 0) × (f.y ≡ 0)) → h ≤ 2 → fault_of (health_from h f) ≡ f
fault_again zero f e quiet few = let q = quiet (omega arith) in let n = eqb-true f.number 0 e in λ i. record { number = sym n i; x = sym q.0 i; y = sym q.1 i }
fault_again (suc zero) f e quiet few = let q = quiet (omega arith) in let n = eqb-true f.number 0 e in λ i. record { number = sym n i; x = sym q.0 i; y = sym q.1 i }
fault_again (suc (suc zero)) f e quiet few = refl
fault_again (suc (suc (suc h))) f e quiet few = absurd (omega (arith, few))

fault_known : (h : ℕ) (f : Fault) → cond (eqb h 2) (leb 1 f.number && leb f.number 10) (eqb f.number 0) ≡ true → h ≤ 2 → IsFaultKnown (health_from h f)
fault_known zero f e few = tt
fault_known (suc zero) f e few = tt
fault_known (suc (suc zero)) f e few = let p = and_parts _ _ e in (leb-true _ _ p.0, leb-true _ _ p.1)
fault_known (suc (suc (suc h))) f e few = absurd (omega (arith, few))

-- ## its flags and its timer

bit_again : (n v : ℕ) → n < 2 → bit (eqb n 1) v ≡ n * v
bit_again zero v lt = omega arith
bit_again (suc zero) v lt = omega arith
bit_again (suc (suc n)) v lt = absurd (omega (arith, lt))

flags_again : (n : ℕ) → n ≤ 15 → flags_number (flags_from n) ≡ n
flags_again n few =
    let a : n / 8 % 2 < 2 = omega arith in
    let b : n / 4 % 2 < 2 = omega arith in
    let c : n / 2 % 2 < 2 = omega arith in
    let d : n % 2 < 2 = omega arith in
    let ea = bit_again (n / 8 % 2) 8 a in
    let eb = bit_again (n / 4 % 2) 4 b in
    let ec = bit_again (n / 2 % 2) 2 c in
    let ed = bit_again (n % 2) 1 d in
    let sum : n / 8 % 2 * 8 + n / 4 % 2 * 4 + n / 2 % 2 * 2 + n % 2 * 1 ≡ n = omega (arith, few) in
    (λ i. ea i + eb i + ec i + ed i) ∙ sum

abbrev pub timer_told : ℕ → ℕ → Timer → Type 0
timer_told clock f t = (leb f 1 && cond (eqb f 0) (eqb t.deadline 0 && eqb t.bits 0) (ltb clock t.deadline)) ≡ true

timer_again : (clock f : ℕ) (t : Timer) → timer_told clock f t → (timer_flag (timer_from f t) ≡ f) × (timer_of (timer_from f t) ≡ t)
timer_again clock zero t e = let p = and_parts _ _ e in let d = eqb-true t.deadline 0 p.0 in let b = eqb-true t.bits 0 p.1 in (refl, λ i. record { deadline = sym d i; bits = sym b i })
timer_again clock (suc zero) t e = (refl, refl)
timer_again clock (suc (suc f)) t e = let few = leb-true (suc (suc f)) 1 (and_parts _ _ e).0 in absurd (omega (arith, few))

pub timer_ahead : (clock f : ℕ) (t : Timer) → timer_told clock f t → IfSome (timer_from f t) (λ x. clock < x.deadline)
timer_ahead clock zero t e = tt
timer_ahead clock (suc zero) t e = ltb-true _ _ e
timer_ahead clock (suc (suc f)) t e = let few = leb-true (suc (suc f)) 1 (and_parts _ _ e).0 in absurd (omega (arith, few))

-- ## what it waits for

wait_again : (i w : ℕ) (r : TaskRecord) → w ≤ 5 → wait_number (call_in i record r { wait = w }) (listen_in i record r { wait = w }) ≡ w
wait_again i zero r few = refl
wait_again i (suc zero) r few = refl
wait_again i (suc (suc zero)) r few = refl
wait_again i (suc (suc (suc zero))) r few = refl
wait_again i (suc (suc (suc (suc zero)))) r few = refl
wait_again i (suc (suc (suc (suc (suc zero))))) r few = refl
wait_again i (suc (suc (suc (suc (suc (suc w)))))) r few = absurd (omega (arith, few))

pub zeros_are : (xs : List ℕ) → are_zeros xs ≡ true → xs ≡ replicate (length xs) 0
zeros_are [] e = refl
zeros_are (x ∷ xs) e = let p = and_parts (eqb x 0) (are_zeros xs) e in let is = eqb-true x 0 p.0 in λ i. is i ∷ zeros_are xs p.1 i

id_again : (b : ℕ) → id_of (b % 65536 % 1024) (b % 65536 / 1024) + 65536 * (b / 65536) ≡ b
id_again b = omega arith

name_again : (b : ℕ) → b ≤ 65535 → id_of (b % 1024) (b / 1024) ≡ b
name_again b few = omega (arith, few)

words_again : (i w a b c d e f g h : ℕ) (r : TaskRecord) → w ≤ 5 → has_words record r { wait = w; words = a ∷ b ∷ c ∷ d ∷ e ∷ f ∷ g ∷ h ∷ [] } ≡ true
    → wait_words (call_in i record r { wait = w; words = a ∷ b ∷ c ∷ d ∷ e ∷ f ∷ g ∷ h ∷ [] }) (listen_in i record r { wait = w; words = a ∷ b ∷ c ∷ d ∷ e ∷ f ∷ g ∷ h ∷ [] }) ≡ a ∷ b ∷ c ∷ d ∷ e ∷ f ∷ g ∷ h ∷ []
words_again i zero a b c d e f g h r few ok = sym (zeros_are (a ∷ b ∷ c ∷ d ∷ e ∷ f ∷ g ∷ h ∷ []) ok)
words_again i (suc zero) a b c d e f g h r few ok = λ j. a ∷ id_again b j ∷ c ∷ d ∷ e ∷ f ∷ g ∷ h ∷ []
words_again i (suc (suc zero)) a b c d e f g h r few ok = λ j. a ∷ id_again b j ∷ c ∷ d ∷ e ∷ f ∷ g ∷ h ∷ []
words_again i (suc (suc (suc zero))) a b c d e f g h r few ok =
    let p = and_parts (are_zeros (e ∷ f ∷ g ∷ h ∷ [])) (eqb b 0) ok in
    let rest = zeros_are (e ∷ f ∷ g ∷ h ∷ []) p.0 in
    let none = eqb-true b 0 p.1 in
    λ j. a ∷ sym none j ∷ c ∷ d ∷ sym rest j
words_again i (suc (suc (suc (suc zero)))) a b c d e f g h r few ok =
    let p = and_parts (are_zeros (e ∷ f ∷ g ∷ h ∷ [])) (eqb b 0) ok in
    let rest = zeros_are (e ∷ f ∷ g ∷ h ∷ []) p.0 in
    let none = eqb-true b 0 p.1 in
    λ j. a ∷ sym none j ∷ c ∷ d ∷ sym rest j
words_again i (suc (suc (suc (suc (suc zero))))) a b c d e f g h r few ok =
    let p = and_parts (are_zeros (e ∷ f ∷ g ∷ h ∷ [])) (leb b 65535) ok in
    let rest = zeros_are (e ∷ f ∷ g ∷ h ∷ []) p.0 in
    let name = name_again b (leb-true _ _ p.1) in
    λ j. a ∷ name j ∷ c ∷ d ∷ sym rest j
words_again i (suc (suc (suc (suc (suc (suc w)))))) a b c d e f g h r few ok = absurd (omega (arith, few))

-- ## all of it

-- a record whose words are eight
pub told_again : (clock i : ℕ) (r : TaskRecord) (a b c d e f g h : ℕ) → r.words ≡ a ∷ b ∷ c ∷ d ∷ e ∷ f ∷ g ∷ h ∷ [] → IsGoodRecord clock r → record_told (task_from r) (call_in i r) (listen_in i r) ≡ r
told_again clock i r a b c d e f g h eight good =
    let fault = fault_again r.health record { number = r.fault; x = r.x; y = r.y } good.fault good.quiet good.health in
    let timer = timer_again clock r.timer record { deadline = r.deadline; bits = r.bits } good.timer in
    let is : r ≡ record r { words = a ∷ b ∷ c ∷ d ∷ e ∷ f ∷ g ∷ h ∷ [] } = λ j. record r { words = eight j } in
    let words : wait_words (call_in i r) (listen_in i r) ≡ r.words =
    ap (λ (x : TaskRecord). wait_words (call_in i x) (listen_in i x)) is
    ∙ words_again i r.wait a b c d e f g h r good.wait (ap has_words (sym is) ∙ good.words) ∙ sym eight in
    λ j. record {
      generation = r.generation;
      health = health_again r.health record { number = r.fault; x = r.x; y = r.y } good.health j;
      fault = (fault j).number;
      wait = wait_again i r.wait r good.wait j;
      x = (fault j).x;
      y = (fault j).y;
      registers = r.registers;
      flags = flags_again r.flags good.flags j;
      posted = r.posted;
      timer = timer.0 j;
      deadline = (timer.1 j).deadline;
      bits = (timer.1 j).bits;
      words = words j;
    }

pub task_sane : (clock : ℕ) (r : TaskRecord) → length r.registers ≡ 16 → IsGoodRecord clock r → IsSaneTask (task_from r)
task_sane clock r sixteen good = record {
  sixteen = sixteen;
  even = good.even;
  aligned = good.aligned;
  fault = fault_known r.health record { number = r.fault; x = r.x; y = r.y } good.fault good.health;
}
