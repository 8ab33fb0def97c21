-- A text has one answer.
use Rattle.std.proofs.Common.{◌≡◌, ℕ, zero, suc, ◌+◌, ◌<◌, ◌⊎◌, inl, inr, ◌↔◌, false, List, [], ◌∷◌, ◌++◌, length, Some, None, refl, sym, subst, ap, ◌∙◌, arith, append-nil, length-append}
use Rattle.std.specs.Prelude.{All, Contains}
use Rattle.std.specs.declared.result.Result.{Result}
use Rattle.std.specs.declared.result.Result.TheVariants.{Ok, Err}
use Rattle.std.proofs.lemmas.Bool.{false≢true}
use Rattle.std.proofs.lemmas.Bool.Decides.{leb_tells}
use Rattle.std.proofs.lemmas.List.Elements.{All-contains, Contains-append_right}
use Rattle.trace_audit.specs.declared.reading.TraceLine.{TraceLine}
use Rattle.trace_audit.specs.declared.judgement.Judgement.{Judgement}
use Rattle.trace_audit.specs.declared.judgement.Judgement.TheVariants as judgement
use Rattle.trace_audit.specs.Rules.{has_ended, IsGoodLine, IsGood, IsFirstBad}
use Rattle.trace_audit.specs.declared.judgement.AuditFault.{AuditFault}
use Rattle.trace_audit.specs.declared.judgement.AuditFault.TheVariants as fault
use Rattle.trace_audit.proofs.Pushing.{head_same, tail_same}
use Rattle.trace_audit.specs.Judgements.{cause_of, cause_at, first_cause, IsFirstCause, HasNoCause, read_lines, IsGoodWith, IsJudgement}

some_same : {a b : ℕ} → Some a ≡ Some b → a ≡ b
some_same e = cc

none_some : {P : Type 0} {a : ℕ} → None ≡ Some a → P
none_some e = cc

-- of two fronts of a list, the longer one has the element that comes after the shorter one
longer : {A : Type 0} (b : List A) (l : A) (a c rest : List A) → b ++ l ∷ a ≡ c ++ rest → length b < length c → (r : List A) × (c ≡ b ++ l ∷ r)
longer [] l a [] rest e lt = absurd (omega arith)
longer [] l a (y ∷ ys) rest e lt = (ys, ap (λ z. z ∷ ys) (sym (head_same e)))
longer (x ∷ xs) l a [] rest e lt = absurd (omega arith)
longer (x ∷ xs) l a (y ∷ ys) rest e lt =
    let more = longer xs l a ys rest (tail_same e) (omega arith) in
    (more.0, ap (λ z. z ∷ ys) (sym (head_same e)) ∙ ap (λ zs. x ∷ zs) more.1)

-- ## the first bad line

module _ (lines : List TraceLine) where
  earlier : (n m : ℕ) (p : IsFirstBad lines n) (q : IsFirstBad lines m) → length p.before < length q.before → ⊥
  earlier n m p q lt = by p.bad q.bad
    where
      by : ((l : TraceLine) × (after : List TraceLine) × (lines ≡ p.before ++ l ∷ after) × ¬ IsGoodLine p.before l) ⊎ ((lines ≡ p.before) × (has_ended lines ≡ false))
          → ((l : TraceLine) × (after : List TraceLine) × (lines ≡ q.before ++ l ∷ after) × ¬ IsGoodLine q.before l) ⊎ ((lines ≡ q.before) × (has_ended lines ≡ false)) → ⊥
      by (inl a) (inl b) = let r = longer p.before a.0 a.1 q.before (b.0 ∷ b.1) (sym a.2 ∙ b.2) lt in a.3 (q.good p.before a.0 r.0 r.1)
      by (inl a) (inr b) = let r = longer p.before a.0 a.1 q.before [] (sym a.2 ∙ b.0 ∙ sym (append-nil q.before)) lt in a.3 (q.good p.before a.0 r.0 r.1)
      by (inr a) (inl b) = let e = ap length (sym a.0 ∙ b.2) in let k = length-append q.before (b.0 ∷ b.1) in omega arith
      by (inr a) (inr b) = let e = ap length (sym a.0 ∙ b.0) in omega arith

  one_bad : (n m : ℕ) → IsFirstBad lines n → IsFirstBad lines m → n ≡ m
  one_bad n m p q = elim (leb_tells (length p.before) (length q.before)) [
    | inl le ↦ elim (leb_tells (length q.before) (length p.before)) [
      | inl ge ↦ let a = p.number in let b = q.number in let x = le.1 in let y = ge.1 in omega arith
      | inr lt ↦ absurd (earlier n m p q lt.1)
    ]
    | inr gt ↦ absurd (earlier m n q p gt.1)
  ]

  -- a good trace has no bad line
  good_bad : (n : ℕ) → IsGood lines → IsFirstBad lines n → ⊥
  good_bad n g p = by p.bad
    where
      by : ((l : TraceLine) × (after : List TraceLine) × (lines ≡ p.before ++ l ∷ after) × ¬ IsGoodLine p.before l) ⊎ ((lines ≡ p.before) × (has_ended lines ≡ false)) → ⊥
      by (inl a) = a.3 (g.each p.before a.0 a.1 a.2)
      by (inr a) = false≢true (sym a.1 ∙ g.ended)

pub one_verdict : (text : List ℕ) (v w : Judgement) → IsJudgement text v → IsJudgement text w → v ≡ w
one_verdict text (judgement.Yes a b) (judgement.Yes c d) h k = ap (λ n. judgement.Yes n b) (h.1 ∙ sym k.1) ∙ ap (λ n. judgement.Yes c n) (h.2 ∙ sym k.2)
one_verdict text (judgement.Yes a b) (judgement.No m) h k = absurd (good_bad (read_lines text) m h.0 k)
one_verdict text (judgement.No n) (judgement.Yes c d) h k = absurd (good_bad (read_lines text) n k.0 h)
one_verdict text (judgement.No n) (judgement.No m) h k = ap judgement.No (one_bad (read_lines text) n m h k)

-- ## the first cause

here_in : (before : List (List ℕ)) (l : List ℕ) (after : List (List ℕ)) (ls : List (List ℕ)) → ls ≡ before ++ l ∷ after → All (λ x. cause_of x ≡ None) ls → cause_of l ≡ None
here_in before l after ls e all = All-contains (λ x. cause_of x ≡ None) ls l all (subst (λ xs. Contains xs l) (sym e) (Contains-append_right before (l ∷ after) l (zero, omega arith, refl)))

pub no_cause_here : (lines : List (List ℕ)) (a n : ℕ) → HasNoCause lines → IsFirstCause lines a n → ⊥
no_cause_here lines a n all p = none_some (sym (here_in p.before p.line p.after lines p.is all) ∙ p.here)

cause_earlier : (lines : List (List ℕ)) (a b n m : ℕ) (p : IsFirstCause lines a n) (q : IsFirstCause lines b m) → length p.before < length q.before → ⊥
cause_earlier lines a b n m p q lt =
    let r = longer p.before p.line p.after q.before (q.line ∷ q.after) (sym p.is ∙ q.is) lt in
    none_some (sym (here_in p.before p.line r.0 q.before r.1 q.fine) ∙ p.here)

-- two fronts of the same length are the same
as_long : {A : Type 0} (b : List A) (l : A) (a c : List A) (m : A) (d : List A) → b ++ l ∷ a ≡ c ++ m ∷ d → length b ≡ length c → l ≡ m
as_long [] l a [] m d e same = head_same e
as_long [] l a (y ∷ ys) m d e same = absurd (omega arith)
as_long (x ∷ xs) l a [] m d e same = absurd (omega arith)
as_long (x ∷ xs) l a (y ∷ ys) m d e same = as_long xs l a ys m d (tail_same e) (omega arith)

pub one_cause : (lines : List (List ℕ)) (a b n m : ℕ) → IsFirstCause lines a n → IsFirstCause lines b m → (a ≡ b) × (n ≡ m)
one_cause lines a b n m p q = elim (leb_tells (length p.before) (length q.before)) [
  | inl le ↦ elim (leb_tells (length q.before) (length p.before)) [
    | inl ge ↦
        let x = le.1 in
        let y = ge.1 in
        let same : length p.before ≡ length q.before = omega arith in
        let l = as_long p.before p.line p.after q.before q.line q.after (sym p.is ∙ q.is) same in
        let c : a ≡ b = some_same (sym p.here ∙ ap cause_of l ∙ q.here) in
        (c, p.number ∙ ap (λ k. k + 1) same ∙ sym q.number)
    | inr lt ↦ absurd (cause_earlier lines a b n m p q lt.1)
  ]
  | inr gt ↦ absurd (cause_earlier lines b a m n q p gt.1)
]

-- ## the first cause as a function

abbrev tail_fine : (l : List ℕ) (ls : List (List ℕ)) → HasNoCause (l ∷ ls) → HasNoCause ls
tail_fine l ls all = λ k d lt. all (suc k) d (omega arith)

abbrev head_fine : (l : List ℕ) (ls : List (List ℕ)) → HasNoCause (l ∷ ls) → cause_of l ≡ None
head_fine l ls all = all zero l (omega arith)

none_from : (n : ℕ) (ls : List (List ℕ)) → HasNoCause ls → first_cause n ls ≡ None
unfolding first_cause
none_from n [] all = refl
none_from n (l ∷ ls) all =
    ap (λ c. cause_at n c (first_cause (n + 1) ls)) (head_fine l ls all) ∙ none_from (n + 1) ls (tail_fine l ls all)

behind : (n : ℕ) (before : List (List ℕ)) (l : List ℕ) (after : List (List ℕ)) (cause : ℕ) → HasNoCause before → cause_of l ≡ Some cause
    → first_cause n (before ++ l ∷ after) ≡ Some (cause, n + length before)
unfolding first_cause
behind n [] l after cause all here =
    let same : n ≡ n + 0 = omega arith in
    ap (λ c. cause_at n c (first_cause (n + 1) after)) here ∙ ap (λ k. Some (cause, k)) same
behind n (b ∷ bs) l after cause all here =
    let same : (n + 1) + length bs ≡ n + suc (length bs) = omega arith in
    ap (λ c. cause_at n c (first_cause (n + 1) (bs ++ l ∷ after))) (head_fine b bs all) ∙ behind (n + 1) bs l after cause (tail_fine b bs all) here ∙ ap (λ k. Some (cause, k)) same

pub no_first : (lines : List (List ℕ)) → HasNoCause lines → first_cause 1 lines ≡ None
no_first lines all = none_from 1 lines all

pub is_first : (lines : List (List ℕ)) (a n : ℕ) → IsFirstCause lines a n → first_cause 1 lines ≡ Some (a, n)
is_first lines a n p =
    let same : 1 + length p.before ≡ n = let m = p.number in omega arith in
    ap (first_cause 1) p.is ∙ behind 1 p.before p.line p.after a p.fine p.here ∙ ap (λ k. Some (a, k)) same

-- ## each answer is given exactly if it is right

pub yes_exactly : (text : List ℕ) (v : Judgement) → IsJudgement text v → (calls left : ℕ) → (v ≡ judgement.Yes calls left) ↔ IsGoodWith (read_lines text) calls left
yes_exactly text v h calls left = (λ e. subst (λ w. IsJudgement text w) e h, λ good. one_verdict text v (judgement.Yes calls left) h good)

pub no_exactly : (text : List ℕ) (v : Judgement) → IsJudgement text v → (n : ℕ) → (v ≡ judgement.No n) ↔ IsFirstBad (read_lines text) n
no_exactly text v h n = (λ e. subst (λ w. IsJudgement text w) e h, λ bad. one_verdict text v (judgement.No n) h bad)

abbrev answer : Type 0
answer = Result Judgement AuditFault

abbrev refusal : ℕ → ℕ → answer
refusal cause n = Err (fault.Refused cause n)

abbrev the_answer : Judgement → answer
the_answer v = Ok v

abbrev out_of_memory : answer
out_of_memory = Err fault.Memory

same_cause : (a b n m : ℕ) → refusal a n ≡ refusal b m → (a ≡ b) × (n ≡ m)
same_cause a b n m e = (cc, cc)

pub refused_exactly : (lines : List (List ℕ)) (a n : ℕ) → IsFirstCause lines a n → (b m : ℕ) → (refusal a n ≡ refusal b m) ↔ IsFirstCause lines b m
refused_exactly lines a n h b m = (
  λ e. let s = same_cause a b n m e in subst (λ c. IsFirstCause lines c m) s.0 (subst (λ k. IsFirstCause lines a k) s.1 h),
  λ k. let s = one_cause lines a b n m h k in ap (λ c. refusal c n) s.0 ∙ ap (λ l. refusal b l) s.1,
)

not_refused : (r : answer) → ((b m : ℕ) → r ≡ refusal b m → ⊥) → (lines : List (List ℕ)) → HasNoCause lines → (b m : ℕ) → (r ≡ refusal b m) ↔ IsFirstCause lines b m
not_refused r other lines all b m = (λ e. absurd (other b m e), λ h. absurd (no_cause_here lines b m all h))

verdict_not : (v : Judgement) (b m : ℕ) → (the_answer v) ≡ refusal b m → ⊥
verdict_not v b m e = cc

memory_not : (b m : ℕ) → out_of_memory ≡ refusal b m → ⊥
memory_not b m e = cc

pub first_refused : (r : answer) (lines : List (List ℕ)) → ((b m : ℕ) → (r ≡ refusal b m) ↔ IsFirstCause lines b m) → (b m : ℕ) → r ≡ refusal b m → first_cause 1 lines ≡ Some (b, m)
first_refused r lines exactly b m e = is_first lines b m ((exactly b m).0 e)

pub judged : (v : Judgement) (lines : List (List ℕ)) → HasNoCause lines → (b m : ℕ) → (the_answer v ≡ refusal b m) ↔ IsFirstCause lines b m
judged v = not_refused (the_answer v) (verdict_not v)

pub unjudged : (lines : List (List ℕ)) → HasNoCause lines → (b m : ℕ) → (out_of_memory ≡ refusal b m) ↔ IsFirstCause lines b m
unjudged = not_refused out_of_memory memory_not
