-- What can be counted of the life of a call.
use Rattle.std.proofs.Common.{◌≡◌, ◌≢◌, ◌+◌, ◌<◌, ◌≤◌, ◌⊎◌, inl, inr, ℕ, Bool, true, false, cond, List, [], ◌∷◌, ◌++◌, refl, sym, ◌∙◌, ap, arith, eqb}
use Rattle.std.specs.Prelude.{Contains}
use Rattle.std.specs.List.{count_by}
use Rattle.std.proofs.lemmas.List.Sums.{sum_by-cons}
use Rattle.std.proofs.lemmas.Bool.{false≢true, and_parts}
use Rattle.kernel_abi.specs.declared.Note.{Note}
use Rattle.task_table.specs.model.State.{State, Call}
use Rattle.task_table.specs.model.Ledger.{Saying, Offers, Takes, Closes, Nothing, saying, is_answer, says_offer, says_take, says_close, says_answer, is_offer_of, is_take_of, is_close_of, IsOpen, IsLedger}
use Rattle.task_table.specs.model.Lives.{Life, New, Waiting, Held, Over, Wrong, after_offer, after_take, after_close, after, lived, AreApart, Lives, IsAsNoted}

pub lived_on : (k : ℕ) (l : Life) (xs ys : List Note) → lived k l (xs ++ ys) ≡ lived k (lived k l xs) ys
lived_on k l [] ys = refl
lived_on k l (x ∷ xs) ys = lived_on k (after k (saying x) l) xs ys

-- ## what is counted

abbrev offers_in : Life → ℕ
offers_in New = 0
offers_in Waiting = 1
offers_in Held = 1
offers_in Over = 1
offers_in Wrong = 0

abbrev closes_in : Life → ℕ
closes_in New = 0
closes_in Waiting = 0
closes_in Held = 0
closes_in Over = 1
closes_in Wrong = 0

abbrev takes_at_most : Life → ℕ
takes_at_most New = 0
takes_at_most Waiting = 0
takes_at_most Held = 1
takes_at_most Over = 1
takes_at_most Wrong = 0

abbrev bit : Bool → ℕ
bit b = cond b 1 0

-- one saying adds to the counts exactly what it adds to those of the life
record Counted (m : Life) (l : Life) (o t c : ℕ) : Type 0 where
  offers : o + offers_in l ≡ offers_in m
  takes : t + takes_at_most l ≤ takes_at_most m
  closes : c + closes_in l ≡ closes_in m
  held : m ≡ Held → t + takes_at_most l ≡ 1

waiting_held : {A : Type 0} → Waiting ≡ Held → A
waiting_held e = cc

over_held : {A : Type 0} → Over ≡ Held → A
over_held e = cc

wrong_held : {A : Type 0} → Wrong ≡ Held → A
wrong_held e = cc

counted_offer : (l : Life) → after_offer l ≢ Wrong → Counted (after_offer l) l 1 0 0
counted_offer New h = record { offers = refl; takes = omega arith; closes = refl; held = λ e. waiting_held e }
counted_offer Waiting h = absurd (h refl)
counted_offer Held h = absurd (h refl)
counted_offer Over h = absurd (h refl)
counted_offer Wrong h = absurd (h refl)

counted_take : (l : Life) → after_take l ≢ Wrong → Counted (after_take l) l 0 1 0
counted_take New h = absurd (h refl)
counted_take Waiting h = record { offers = refl; takes = omega arith; closes = refl; held = λ e. refl }
counted_take Held h = absurd (h refl)
counted_take Over h = absurd (h refl)
counted_take Wrong h = absurd (h refl)

counted_close : (b : Bool) (l : Life) → after_close b l ≢ Wrong → Counted (after_close b l) l 0 0 1
counted_close b New h = absurd (h refl)
counted_close true Waiting h = absurd (h refl)
counted_close false Waiting h = record { offers = refl; takes = omega arith; closes = refl; held = λ e. over_held e }
counted_close b Held h = record { offers = refl; takes = omega arith; closes = refl; held = λ e. over_held e }
counted_close b Over h = absurd (h refl)
counted_close b Wrong h = absurd (h refl)

counted_none : (l : Life) → Counted l l 0 0 0
counted_none New = record { offers = refl; takes = omega arith; closes = refl; held = λ e. cc }
counted_none Waiting = record { offers = refl; takes = omega arith; closes = refl; held = λ e. cc }
counted_none Held = record { offers = refl; takes = omega arith; closes = refl; held = λ e. refl }
counted_none Over = record { offers = refl; takes = omega arith; closes = refl; held = λ e. over_held e }
counted_none Wrong = record { offers = refl; takes = omega arith; closes = refl; held = λ e. cc }

counted_one : (k : ℕ) (x : Saying) (l : Life) → after k x l ≢ Wrong → Counted (after k x l) l (bit (says_offer k x)) (bit (says_take k x)) (bit (says_close k x))
counted_one k (Offers call) l h = go (eqb call k) h
  where
    go : (b : Bool) → cond b (after_offer l) l ≢ Wrong → Counted (cond b (after_offer l) l) l (bit b) 0 0
    go true h = counted_offer l h
    go false h = counted_none l
counted_one k (Takes call) l h = go (eqb call k) h
  where
    go : (b : Bool) → cond b (after_take l) l ≢ Wrong → Counted (cond b (after_take l) l) l 0 (bit b) 0
    go true h = counted_take l h
    go false h = counted_none l
counted_one k (Closes call ending) l h = go (eqb call k) h
  where
    go : (b : Bool) → cond b (after_close (is_answer ending) l) l ≢ Wrong → Counted (cond b (after_close (is_answer ending) l) l) l 0 0 (bit b)
    go true h = counted_close (is_answer ending) l h
    go false h = counted_none l
counted_one k Nothing l h = counted_none l

-- a wrong life stays wrong
same_either : {A : Type 0} (b : Bool) (x : A) → cond b x x ≡ x
same_either true x = refl
same_either false x = refl

wrong_after : (k : ℕ) (x : Saying) → after k x Wrong ≡ Wrong
wrong_after k (Offers call) = same_either (eqb call k) Wrong
wrong_after k (Takes call) = same_either (eqb call k) Wrong
wrong_after k (Closes call ending) = same_either (eqb call k) Wrong
wrong_after k Nothing = refl

pub wrong_stays : (k : ℕ) (ns : List Note) → lived k Wrong ns ≡ Wrong
wrong_stays k [] = refl
wrong_stays k (n ∷ ns) = ap (λ l. lived k l ns) (wrong_after k (saying n)) ∙ wrong_stays k ns

-- a closed call is never taken or offered again
over_after : (k : ℕ) (x : Saying) → (after k x Over ≡ Over) ⊎ (after k x Over ≡ Wrong)
over_after k (Offers call) = go (eqb call k)
  where
    go : (b : Bool) → (cond b Wrong Over ≡ Over) ⊎ (cond b Wrong Over ≡ Wrong)
    go true = inr refl
    go false = inl refl
over_after k (Takes call) = go (eqb call k)
  where
    go : (b : Bool) → (cond b Wrong Over ≡ Over) ⊎ (cond b Wrong Over ≡ Wrong)
    go true = inr refl
    go false = inl refl
over_after k (Closes call ending) = go (eqb call k)
  where
    go : (b : Bool) → (cond b Wrong Over ≡ Over) ⊎ (cond b Wrong Over ≡ Wrong)
    go true = inr refl
    go false = inl refl
over_after k Nothing = inl refl

over_not_held : (k : ℕ) (ns : List Note) → lived k Over ns ≡ Held → ⊥
over_not_held k [] e = over_held e
over_not_held k (n ∷ ns) e = elim (over_after k (saying n)) [
  | inl same ↦ over_not_held k ns (ap (λ l. lived k l ns) (sym same) ∙ e)
  | inr wrong ↦ wrong_held (sym (ap (λ l. lived k l ns) wrong ∙ wrong_stays k ns) ∙ e)
]

-- how many takes a life counts up to where it is held
held_takes : (k : ℕ) (ns : List Note) (m l : Life) (t r : ℕ) → lived k m ns ≡ Held → t + takes_at_most l ≤ takes_at_most m → (m ≡ Held → t + takes_at_most l ≡ 1) → r + takes_at_most m ≡ 1 → t + r + takes_at_most l ≡ 1
held_takes k ns New l t r e le held rest = omega arith
held_takes k ns Waiting l t r e le held rest = omega arith
held_takes k ns Held l t r e le held rest = let h = held refl in omega arith
held_takes k ns Over l t r e le held rest = absurd (over_not_held k ns e)
held_takes k ns Wrong l t r e le held rest = wrong_held (sym (wrong_stays k ns) ∙ e)

abbrev counts : ℕ → List Note → Life → Life → Type 0
counts k ns m l = Counted m l (count_by (is_offer_of k) ns) (count_by (is_take_of k) ns) (count_by (is_close_of k) ns)

counted : (k : ℕ) (ns : List Note) (l : Life) → lived k l ns ≢ Wrong → counts k ns (lived k l ns) l
counted k [] l h = counted_none l
counted k (n ∷ ns) l h =
    let m = after k (saying n) l in
    let rest = counted k ns m h in
    let one = counted_one k (saying n) l (λ e. h (ap (λ x. lived k x ns) e ∙ wrong_stays k ns)) in
    let o = sum_by-cons (λ x. bit (is_offer_of k x)) n ns in
    let t = sum_by-cons (λ x. bit (is_take_of k x)) n ns in
    let c = sum_by-cons (λ x. bit (is_close_of k x)) n ns in
    record {
      offers = omega (arith, o, one.offers, rest.offers);
      takes = omega (arith, t, one.takes, rest.takes);
      closes = omega (arith, c, one.closes, rest.closes);
      held = λ e. let both = held_takes k ns m l (bit (is_take_of k n)) (count_by (is_take_of k) ns) e one.takes one.held (rest.held e) in omega (arith, t, both);
    }

-- ## so the ledger is right

not_wrong : (s : State) (k : ℕ) (l : Life) → Lives s k l → l ≢ Wrong
not_wrong s k New h e = cc
not_wrong s k Waiting h e = cc
not_wrong s k Held h e = cc
not_wrong s k Over h e = cc
not_wrong s k Wrong h e = absurd h

-- between 1 and the next number a life has begun
begun_offers : (s : State) (k : ℕ) (l : Life) → Lives s k l → 1 ≤ k → k < s.next_call → offers_in l ≡ 1
begun_offers s k New h one lt = elim h [ inl a ↦ absurd (omega arith) | inr b ↦ absurd (omega arith) ]
begun_offers s k Waiting h one lt = refl
begun_offers s k Held h one lt = refl
begun_offers s k Over h one lt = refl
begun_offers s k Wrong h one lt = absurd h

-- and no other number has a life
unbegun_offers : (s : State) (k : ℕ) (l : Life) → AreApart s → Lives s k l → (k ≡ 0) ⊎ (s.next_call ≤ k) → offers_in l ≡ 0
unbegun_offers s k New a h out = refl
unbegun_offers s k Waiting a h out = absurd (outside s k a h.0 h.1 h.2 out)
  where
    outside : (s : State) (k : ℕ) → AreApart s → (c : Call) → Contains s.calls c → c.number ≡ k → (k ≡ 0) ⊎ (s.next_call ≤ k) → ⊥
    outside s k a c here e out = let f = a.from c here in let b = a.below c here in elim out [ inl x ↦ omega arith | inr x ↦ omega arith ]
unbegun_offers s k Held a h out = absurd (outside s k a h.0 h.1 h.2 out)
  where
    outside : (s : State) (k : ℕ) → AreApart s → (c : Call) → Contains s.calls c → c.number ≡ k → (k ≡ 0) ⊎ (s.next_call ≤ k) → ⊥
    outside s k a c here e out = let f = a.from c here in let b = a.below c here in elim out [ inl x ↦ omega arith | inr x ↦ omega arith ]
unbegun_offers s k Over a h out = elim out [ inl x ↦ absurd (omega (arith, h.0)) | inr x ↦ absurd (omega (arith, h.1)) ]
unbegun_offers s k Wrong a h out = absurd h

open_lives : (s : State) (k : ℕ) (l : Life) → AreApart s → Lives s k l → IsOpen s k → (offers_in l ≡ 1) × (closes_in l ≡ 0)
open_lives s k New a h o = let f = a.from o.0 o.1 in let b = a.below o.0 o.1 in let e = o.2 in elim h [ inl x ↦ absurd (omega arith) | inr x ↦ absurd (omega arith) ]
open_lives s k Waiting a h o = (refl, refl)
open_lives s k Held a h o = (refl, refl)
open_lives s k Over a h o = absurd (h.2 o.0 o.1 o.2)
open_lives s k Wrong a h o = absurd h

lives_open : (s : State) (k : ℕ) (l : Life) → Lives s k l → offers_in l ≡ 1 → closes_in l ≡ 0 → IsOpen s k
lives_open s k New h o c = absurd (omega arith)
lives_open s k Waiting h o c = (h.0, h.1, h.2)
lives_open s k Held h o c = (h.0, h.1, h.2)
lives_open s k Over h o c = absurd (omega arith)
lives_open s k Wrong h o c = absurd h

few_takes : (l : Life) → takes_at_most l ≤ 1
few_takes New = omega arith
few_takes Waiting = omega arith
few_takes Held = omega arith
few_takes Over = omega arith
few_takes Wrong = omega arith

few_closes : (l : Life) → closes_in l ≤ 1
few_closes New = omega arith
few_closes Waiting = omega arith
few_closes Held = omega arith
few_closes Over = omega arith
few_closes Wrong = omega arith

-- a take comes where the call is offered; a close where it is open; an answer where it is held
take_where : (k : ℕ) (x : Saying) (l : Life) → says_take k x ≡ true → after k x l ≢ Wrong → l ≡ Waiting
take_where k (Offers call) l e h = absurd (false≢true e)
take_where k (Takes call) l e h = go l (λ w. h (rw e w))
  where
    go : (l : Life) → after_take l ≢ Wrong → l ≡ Waiting
    go New h = absurd (h refl)
    go Waiting h = refl
    go Held h = absurd (h refl)
    go Over h = absurd (h refl)
    go Wrong h = absurd (h refl)
take_where k (Closes call ending) l e h = absurd (false≢true e)
take_where k Nothing l e h = absurd (false≢true e)

close_where : (k : ℕ) (x : Saying) (l : Life) → says_close k x ≡ true → after k x l ≢ Wrong → offers_in l ≡ 1
close_where k (Offers call) l e h = absurd (false≢true e)
close_where k (Takes call) l e h = absurd (false≢true e)
close_where k (Closes call ending) l e h = go (is_answer ending) l (λ w. h (rw e w))
  where
    go : (b : Bool) (l : Life) → after_close b l ≢ Wrong → offers_in l ≡ 1
    go b New h = absurd (h refl)
    go b Waiting h = refl
    go b Held h = refl
    go b Over h = absurd (h refl)
    go b Wrong h = absurd (h refl)
close_where k Nothing l e h = absurd (false≢true e)

answer_where : (k : ℕ) (x : Saying) (l : Life) → says_answer k x ≡ true → after k x l ≢ Wrong → l ≡ Held
answer_where k (Offers call) l e h = absurd (false≢true e)
answer_where k (Takes call) l e h = absurd (false≢true e)
answer_where k (Closes call ending) l e h = let two = and_parts (eqb call k) (is_answer ending) e in go l (λ w. h (rw (two.0, two.1) w))
  where
    go : (l : Life) → after_close true l ≢ Wrong → l ≡ Held
    go New h = absurd (h refl)
    go Waiting h = absurd (h refl)
    go Held h = refl
    go Over h = absurd (h refl)
    go Wrong h = absurd (h refl)
answer_where k Nothing l e h = absurd (false≢true e)

module _ (notes : List Note) (s : State) (h : IsAsNoted notes s) where
  fine : (k : ℕ) → lived k New notes ≢ Wrong
  fine k = not_wrong s k (lived k New notes) (h.lives k)

  -- the counts before a note, and that the note is not wrong there
  before_fine : (k : ℕ) (before later : List Note) (n : Note) → notes ≡ before ++ n ∷ later → after k (saying n) (lived k New before) ≢ Wrong
  before_fine k before later n e = λ w. fine k (ap (lived k New) e ∙ lived_on k New before (n ∷ later) ∙ ap (λ l. lived k l later) w ∙ wrong_stays k later)

  before_wrong : (k : ℕ) (before later : List Note) (n : Note) → notes ≡ before ++ n ∷ later → lived k New before ≢ Wrong
  before_wrong k before later n e = λ w. before_fine k before later n e (ap (after k (saying n)) w ∙ wrong_after k (saying n))

  pub as_noted-ledger : IsLedger notes s
  as_noted-ledger = record {
    offered = λ k one lt. let c = counted k notes New (fine k) in let b = begun_offers s k (lived k New notes) (h.lives k) one lt in omega (arith, c.offers, b);
    no_other = λ k out. let c = counted k notes New (fine k) in let b = unbegun_offers s k (lived k New notes) h.apart (h.lives k) out in omega (arith, c.offers, b);
    taken = λ k. let c = counted k notes New (fine k) in let f = few_takes (lived k New notes) in omega (arith, c.takes, f);
    closed = λ k. let c = counted k notes New (fine k) in let f = few_closes (lived k New notes) in omega (arith, c.closes, f);
    take_after = λ k before later n e is.
        let c = counted k before New (before_wrong k before later n e) in
        let w = take_where k (saying n) (lived k New before) is (before_fine k before later n e) in
        let o : offers_in (lived k New before) ≡ 1 = rw w refl in
        omega (arith, c.offers, o);
    close_after = λ k before later n e is.
        let c = counted k before New (before_wrong k before later n e) in
        let o = close_where k (saying n) (lived k New before) is (before_fine k before later n e) in
        omega (arith, c.offers, o);
    answer_after = λ k before later n e is.
        let c = counted k before New (before_wrong k before later n e) in
        let t = c.held (answer_where k (saying n) (lived k New before) is (before_fine k before later n e)) in
        omega (arith, t);
    is_open = λ k o. let c = counted k notes New (fine k) in let two = open_lives s k (lived k New notes) h.apart (h.lives k) o in (omega (arith, c.offers, two.0), omega (arith, c.closes, two.1));
    still_open = λ k o no. let c = counted k notes New (fine k) in lives_open s k (lived k New notes) (h.lives k) (omega (arith, c.offers, o)) (omega (arith, c.closes, no));
  }
