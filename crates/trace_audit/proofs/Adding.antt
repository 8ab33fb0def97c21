-- One more line in a book.
use Rattle.std.proofs.Common.{◌≡◌, ℕ, ◌<◌, ◌≤◌, inl, inr, Bool, true, false, eqb, not, ◌&&◌, ◌||◌, List, [], ◌∷◌, ◌++◌, length, map, Option, Some, None, refl, sym, subst, ap, ◌∙◌, arith}
use Rattle.std.proofs.lemmas.Bool.{false≢true, and_parts, and_from, not-true, eqb-true, eq-eqb}
use Rattle.std.proofs.lemmas.List.Folds.{list_any-append}
use Rattle.trace_audit.specs.declared.book.Book.{Book}
use Rattle.trace_audit.specs.declared.book.Open.{Open}
use Rattle.trace_audit.specs.declared.reading.TraceLine.{TraceLine}
use Rattle.trace_audit.specs.declared.reading.TraceLine.TheVariants as line
use Rattle.trace_audit.specs.declared.reading.Saying.{Saying}
use Rattle.trace_audit.specs.declared.reading.Saying.TheVariants as saying
use Rattle.trace_audit.specs.declared.reading.FinalWait.{FinalWait}
use Rattle.trace_audit.specs.declared.reading.FinalWait.TheVariants as wait
use Rattle.trace_audit.specs.Rules.{said, is_end, turn_after, has_ended, IsOffered, IsTaken, IsClosed, IsGoodWait, IsGoodLine, AreGood}
use Rattle.trace_audit.specs.Books.{CallBook, Kept, kept_in, calls_with, waits_as, IsTold, HasHeard, Notes, IsRest, IsKept, Adds}
use Rattle.trace_audit.proofs.Telling.{only, none_some, true_false}
use Rattle.trace_audit.proofs.Hearing.{books_nothing}
use Rattle.trace_audit.proofs.Pushing.{push_split}

-- ## lists of lines

turn_push : (n : ℕ) (lines : List TraceLine) (l : TraceLine) → turn_after n (lines ++ l ∷ []) ≡ turn_after (turn_after n lines) (l ∷ [])
turn_push n [] l = refl
turn_push n (line.Tells t s ∷ lines) l = turn_push t lines l
turn_push n (line.Ends ∷ lines) l = turn_push n lines l
turn_push n (line.Waits i w ∷ lines) l = turn_push n lines l
turn_push n (line.Shows ∷ lines) l = turn_push n lines l
turn_push n (line.Strange ∷ lines) l = turn_push n lines l

or_none : (b : Bool) → (b || false) ≡ b
or_none true = refl
or_none false = refl

ended_push : (lines : List TraceLine) (l : TraceLine) → has_ended (lines ++ l ∷ []) ≡ (has_ended lines || is_end l)
ended_push lines l = list_any-append is_end lines (l ∷ []) ∙ ap (λ b. has_ended lines || b) (or_none (is_end l))

said_push : (lines : List TraceLine) (l : TraceLine) → map said (lines ++ l ∷ []) ≡ map said lines ++ said l ∷ []
said_push [] l = refl
said_push (x ∷ lines) l = ap (λ xs. said x ∷ xs) (said_push lines l)

heard_push : (lines : List TraceLine) (l : TraceLine) (b : Kept) → HasHeard (map said lines ++ said l ∷ []) b → HasHeard (map said (lines ++ l ∷ [])) b
heard_push lines l b h = subst (λ ss. HasHeard ss b) (sym (said_push lines l)) h

-- ## a book of one more line

adds_told : (lines : List TraceLine) (b c : Book) (turn : ℕ) (s : Saying) → IsKept lines b → b.ended ≡ false → b.turn ≤ turn → c.turn ≡ turn → c.ended ≡ b.ended → (good : Bool) → Notes (map said lines) s (kept_in c) good → Adds lines (line.Tells turn s) c good
adds_told lines b c turn s h going low now same true k = (
  record { before_end = sym h.ended ∙ going; not_below = subst (λ n. n ≤ turn) h.turn low; saying = k.0 },
  record {
    turn = now ∙ sym (turn_push 0 lines (line.Tells turn s));
    ended = same ∙ h.ended ∙ sym (ended_push lines (line.Tells turn s) ∙ or_none (has_ended lines));
    heard = heard_push lines (line.Tells turn s) (kept_in c) k.1;
  },
)
adds_told lines b c turn s h going low now same false k = λ g. k g.saying

pub adds_tell : (lines : List TraceLine) (b c : Book) (turn : ℕ) (s : Saying) → IsKept lines b → b.ended ≡ false → b.turn ≤ turn → IsRest (record b { turn = turn }) c → (good : Bool) → Notes (map said lines) s (kept_in c) good → Adds lines (line.Tells turn s) c good
adds_tell lines b c turn s h going low rest good k = adds_told lines b c turn s h going low rest.turn rest.ended good k

pub tells_late : (lines : List TraceLine) (b : Book) (turn : ℕ) (s : Saying) → IsKept lines b → b.ended ≡ true → ¬ IsGoodLine lines (line.Tells turn s)
tells_late lines b turn s h e = λ g. false≢true (sym g.before_end ∙ sym h.ended ∙ e)

pub tells_below : (lines : List TraceLine) (b : Book) (turn : ℕ) (s : Saying) → IsKept lines b → turn < b.turn → ¬ IsGoodLine lines (line.Tells turn s)
tells_below lines b turn s h lt = λ g. let low : b.turn ≤ turn = subst (λ n. n ≤ turn) (sym h.turn) g.not_below in absurd (omega arith)

-- the same book
aside : (lines : List TraceLine) (b : Book) (l : TraceLine) → said l ≡ saying.Nothing → is_end l ≡ false → turn_after (turn_after 0 lines) (l ∷ []) ≡ turn_after 0 lines → IsKept lines b → IsKept (lines ++ l ∷ []) b
aside lines b l nothing plain same h = record {
  turn = h.turn ∙ sym (turn_push 0 lines l ∙ same);
  ended = h.ended ∙ sym (ended_push lines l ∙ ap (λ e. has_ended lines || e) plain ∙ or_none (has_ended lines));
  heard = heard_push lines l (kept_in b) (books_nothing (map said lines) (kept_in b) h.heard (said l) nothing).1;
}

pub adds_end : (lines : List TraceLine) (b : Book) → IsKept lines b → b.ended ≡ false → Adds lines line.Ends (record b { ended = true }) true
adds_end lines b h going = (
  sym h.ended ∙ going,
  record {
    turn = h.turn ∙ sym (turn_push 0 lines line.Ends);
    ended = sym (ended_push lines line.Ends ∙ or_true (has_ended lines));
    heard = heard_push lines line.Ends (kept_in b) (books_nothing (map said lines) (kept_in b) h.heard saying.Nothing refl).1;
  },
)
  where
    or_true : (e : Bool) → (e || true) ≡ true
    or_true true = refl
    or_true false = refl

pub ends_twice : (lines : List TraceLine) (b : Book) → IsKept lines b → b.ended ≡ true → ¬ IsGoodLine lines line.Ends
ends_twice lines b h e = λ g. false≢true (sym g ∙ sym h.ended ∙ e)

pub adds_show : (lines : List TraceLine) (b : Book) → IsKept lines b → (e : Bool) → b.ended ≡ e → Adds lines line.Shows b e
adds_show lines b h true e = (sym h.ended ∙ e, aside lines b line.Shows refl refl refl h)
adds_show lines b h false e = λ g. false≢true (sym e ∙ h.ended ∙ g)

-- ## what a task waits for

other_offered : {A : Type 0} (k : ℕ) → wait.Other ≡ wait.Offered k → A
other_offered k e = cc

other_taken : {A : Type 0} (k : ℕ) → wait.Other ≡ wait.Taken k → A
other_taken k e = cc

offered_taken : {A : Type 0} (k j : ℕ) → wait.Offered k ≡ wait.Taken j → A
offered_taken k j e = cc

taken_offered : {A : Type 0} (k j : ℕ) → wait.Taken k ≡ wait.Offered j → A
taken_offered k j e = cc

offered_same : (k j : ℕ) → wait.Offered k ≡ wait.Offered j → k ≡ j
offered_same k j e = cc

taken_same : (k j : ℕ) → wait.Taken k ≡ wait.Taken j → k ≡ j
taken_same k j e = cc

module _ (before : List Saying) (x : CallBook) (h : IsTold before x) (i : ℕ) where
  -- whether the task waits as it should
  abbrev Judges : FinalWait → Bool → Type 0
  Judges w true = IsGoodWait before i w
  Judges w false = ¬ IsGoodWait before i w

  no_call : x.held i ≡ None → (k : ℕ) → IsOffered before k i → ¬ IsClosed before k → ⊥
  no_call e k offered still = let l = h.left k i offered still in none_some (sym e ∙ l.1)

  as_offered : (z : Open) → x.held i ≡ Some z → (k : ℕ) → z.call ≡ k → z.taken ≡ false → IsGoodWait before i (wait.Offered k)
  as_offered z e k call taken = record {
    offered = λ j. (
      λ same. let a = h.kept i z e in let n : z.call ≡ j = call ∙ offered_same k j same in (subst (λ m. IsOffered before m i) n a.offered, λ c. a.still (subst (λ m. IsClosed before m) (sym n) c), λ t. a.no taken (subst (λ m. IsTaken before m) (sym n) t)),
      λ is. ap wait.Offered (sym call ∙ only before x h j i z e is.0 is.1),
    );
    taken = λ j. (
      λ same. offered_taken k j same,
      λ is. let n = only before x h j i z e is.0 is.1 in absurd ((h.kept i z e).no taken (subst (λ m. IsTaken before m) (sym n) is.2)),
    );
  }

  as_taken : (z : Open) → x.held i ≡ Some z → (k : ℕ) → z.call ≡ k → z.taken ≡ true → IsGoodWait before i (wait.Taken k)
  as_taken z e k call taken = record {
    offered = λ j. (
      λ same. taken_offered k j same,
      λ is. let n = only before x h j i z e is.0 is.1 in absurd (is.2 (subst (λ m. IsTaken before m) n ((h.kept i z e).yes taken))),
    );
    taken = λ j. (
      λ same. let a = h.kept i z e in let n : z.call ≡ j = call ∙ taken_same k j same in (subst (λ m. IsOffered before m i) n a.offered, λ c. a.still (subst (λ m. IsClosed before m) (sym n) c), subst (λ m. IsTaken before m) n (a.yes taken)),
      λ is. ap wait.Taken (sym call ∙ only before x h j i z e is.0 is.1),
    );
  }

  other_with : (z : Open) → x.held i ≡ Some z → (b : Bool) → z.taken ≡ b → ¬ IsGoodWait before i wait.Other
  other_with z e true t = λ g. let a = h.kept i z e in other_taken z.call ((g.taken z.call).1 (a.offered, a.still, a.yes t))
  other_with z e false t = λ g. let a = h.kept i z e in other_offered z.call ((g.offered z.call).1 (a.offered, a.still, a.no t))

  not_offered_so : (z : Open) → x.held i ≡ Some z → (k : ℕ) → (b : Bool) → z.taken ≡ b → (eqb z.call k && not z.taken) ≡ false → ¬ IsGoodWait before i (wait.Offered k)
  not_offered_so z e k true t is = λ g. let p = (g.offered k).0 refl in let n = only before x h k i z e p.0 p.1 in p.2 (subst (λ m. IsTaken before m) n ((h.kept i z e).yes t))
  not_offered_so z e k false t is = λ g. let p = (g.offered k).0 refl in let n = only before x h k i z e p.0 p.1 in true_false (sym (and_from _ _ (eq-eqb z.call k n) (ap not t)) ∙ is)

  not_taken_so : (z : Open) → x.held i ≡ Some z → (k : ℕ) → (b : Bool) → z.taken ≡ b → (eqb z.call k && z.taken) ≡ false → ¬ IsGoodWait before i (wait.Taken k)
  not_taken_so z e k true t is = λ g. let p = (g.taken k).0 refl in let n = only before x h k i z e p.0 p.1 in true_false (sym (and_from _ _ (eq-eqb z.call k n) t) ∙ is)
  not_taken_so z e k false t is = λ g. let p = (g.taken k).0 refl in let n = only before x h k i z e p.0 p.1 in (h.kept i z e).no t (subst (λ m. IsTaken before m) (sym n) p.2)

  pub judged : (o : Option Open) → x.held i ≡ o → (w : FinalWait) (good : Bool) → waits_as o w ≡ good → Judges w good
  judged None e wait.Other true is = record {
    offered = λ k. (λ s. other_offered k s, λ is. absurd (no_call e k is.0 is.1));
    taken = λ k. (λ s. other_taken k s, λ is. absurd (no_call e k is.0 is.1));
  }
  judged None e wait.Other false is = true_false is
  judged None e (wait.Offered k) true is = true_false (sym is)
  judged None e (wait.Offered k) false is = λ g. let p = (g.offered k).0 refl in no_call e k p.0 p.1
  judged None e (wait.Taken k) true is = true_false (sym is)
  judged None e (wait.Taken k) false is = λ g. let p = (g.taken k).0 refl in no_call e k p.0 p.1
  judged (Some z) e wait.Other true is = true_false (sym is)
  judged (Some z) e wait.Other false is = other_with z e z.taken refl
  judged (Some z) e (wait.Offered k) true is = let p = and_parts _ _ is in as_offered z e k (eqb-true z.call k p.0) (not-true z.taken p.1)
  judged (Some z) e (wait.Offered k) false is = not_offered_so z e k z.taken refl is
  judged (Some z) e (wait.Taken k) true is = let p = and_parts _ _ is in as_taken z e k (eqb-true z.call k p.0) p.1
  judged (Some z) e (wait.Taken k) false is = not_taken_so z e k z.taken refl is

-- the line of a task
pub adds_wait : (lines : List TraceLine) (b : Book) (i : ℕ) (w : FinalWait) → IsKept lines b → b.ended ≡ true → (good : Bool) → waits_as ((kept_in b).held i) w ≡ good → Adds lines (line.Waits i w) b good
adds_wait lines b i w h e true is = ((sym h.ended ∙ e, judged (map said lines) (calls_with h.heard.clients (kept_in b)) h.heard.told i _ refl w true is), aside lines b (line.Waits i w) refl refl refl h)
adds_wait lines b i w h e false is = λ g. judged (map said lines) (calls_with h.heard.clients (kept_in b)) h.heard.told i _ refl w false is g.1

pub waits_early : (lines : List TraceLine) (b : Book) (i : ℕ) (w : FinalWait) → IsKept lines b → b.ended ≡ false → ¬ IsGoodLine lines (line.Waits i w)
waits_early lines b i w h e = λ g. false≢true (sym e ∙ h.ended ∙ g.0)

-- nothing has been said yet
pub none_said : (x : CallBook) → x.clients ≡ [] → ((i : ℕ) → x.held i ≡ None) → x.left ≡ 0 → IsTold [] x
none_said x none held left = record {
  number = ap length none;
  client = λ k lt. let q : k < 0 = subst (λ xs. k < length xs) none lt in absurd (omega arith);
  least = λ k i o. absurd (omega (arith, o.1));
  most = λ k i o. absurd (omega (arith, o.1));
  by = λ k i o. absurd (omega (arith, o.1));
  taken = λ k t. absurd (omega (arith, t.1));
  taken_least = λ k t. absurd (omega (arith, t.1));
  closed = λ k c. absurd (omega (arith, c.1.1));
  once = λ k i o. absurd (omega (arith, o.1));
  no_more = λ k lt. refl;
  kept = λ i o e. none_some (sym (held i) ∙ e);
  left = λ k i o c. absurd (omega (arith, o.1));
  count = left;
}

-- ## good lines, one more

pub good_none : AreGood []
good_none [] l after e = let q = ap length e in absurd (omega arith)
good_none (b ∷ bs) l after e = let q = ap length e in absurd (omega arith)

pub good_push : (ls : List TraceLine) (l : TraceLine) → AreGood ls → IsGoodLine ls l → AreGood (ls ++ l ∷ [])
good_push ls l good here before x after e = elim (push_split ls l before x after e) [
  | inl h ↦ good before x h.0 h.1
  | inr h ↦ subst (λ z. IsGoodLine before z) h.1 (subst (λ zs. IsGoodLine zs l) h.0 here)
]
