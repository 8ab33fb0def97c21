-- What happens in a turn keeps the ledger of calls.
use Rattle.std.proofs.Common.{◌≡◌, ◌≢◌, ◌+◌, ◌≤◌, ◌⊎◌, inl, inr, ℕ, zero, suc, Bool, true, false, cond, not, List, [], ◌∷◌, ◌++◌, Option, Some, None, refl, sym, subst, ◌∙◌, ap, arith, eqb, append_assoc, min}
use Rattle.std.specs.Prelude.{Contains, filter, map}
use Rattle.std.proofs.lemmas.Bool.{false≢true, eq-eqb, eqb-true}
use Rattle.std.proofs.lemmas.Bool.Decides.{eqb_tells}
use Rattle.std.proofs.lemmas.List.Elements.{Contains-append_left, Contains-push}
use Rattle.kernel_abi.specs.declared.Ending.{Ending}
use Rattle.kernel_abi.specs.declared.Ending.TheVariants as ending
use Rattle.kernel_abi.specs.declared.Note.{Note}
use Rattle.kernel_abi.specs.declared.Note.TheVariants as note
use Rattle.task_table.specs.model.State.{Setup, State, Call, Slice, Phase, Offered, Taken, Ground, Turn}
use Rattle.task_table.specs.model.Reading.{call_of}
use Rattle.task_table.specs.model.Effects.{with_call, without_call, with_taken, taken_from, noted, stored, looked, copied, close_notes, closed, offered}
use Rattle.task_table.specs.model.Ledger.{Offers as SaysOffer, Takes as SaysTake, Closes as SaysClose, Nothing, saying, is_answer}
use Rattle.task_table.proofs.model.Keeps.{found_in, added_in, map_in, idle_call, dropped_call}
use Rattle.task_table.specs.model.Chain.{Chain}
use Rattle.task_table.specs.model.Placed.{ArePlaced}
use Rattle.task_table.specs.model.Start.{start}
use Rattle.task_table.specs.model.Step.{is_plain, IsNew, Ends, Step}
use Rattle.task_table.specs.model.Lives.{Life, New, Waiting, Held, Over, Wrong, after_offer, after_take, after_close, after, lived, AreApart, Lives, IsAsNoted}
use Rattle.task_table.proofs.model.Chains.{chain_keeps}
use Rattle.task_table.proofs.model.Lives.{lived_on}
use Rattle.task_table.proofs.model.Moves.{ArePlain, IsOutside, taken_over, IsTaking, Move, Aside, Writes, Reads, Alters, Lends, Offers, Takes, Closes, outside-devices}
use Rattle.task_table.proofs.model.Happens.{chain_moves}

-- ## lists

filter_has : {X : Type 0} (p : X → Bool) (xs : List X) (x : X) → Contains xs x → p x ≡ true → Contains (filter p xs) x
filter_has p [] x h t = absurd (omega (arith, h.1))
filter_has {X} p (y ∷ ys) x h t = go (p y) refl h (λ c. filter_has p ys x c t)
  where
    more : Contains (filter p ys) x → Contains (y ∷ filter p ys) x
    more h = (suc h.0, omega (arith, h.1), h.2)

    go : (b : Bool) → p y ≡ b → Contains (y ∷ ys) x → (Contains ys x → Contains (filter p ys) x) → Contains (cond b (y ∷ filter p ys) (filter p ys)) x
    go true e (zero, lt, same) rest = (zero, omega arith, same)
    go true e (suc k, lt, same) rest = more (rest (k, omega arith, same))
    go false e (zero, lt, same) rest = let s : y ≡ x = same in absurd (false≢true (sym e ∙ ap p s ∙ t))
    go false e (suc k, lt, same) rest = rest (k, omega arith, same)

map_has : {X : Type 0} (f : X → X) (xs : List X) (x : X) → Contains xs x → Contains (map f xs) (f x)
map_has f [] x h = absurd (omega (arith, h.1))
map_has f (y ∷ ys) x (zero, lt, same) = let e : y ≡ x = same in (zero, omega arith, ap f e)
map_has f (y ∷ ys) x (suc k, lt, same) = let r = map_has f ys x (k, omega arith, same) in (suc r.0, omega (arith, r.1), r.2)

-- ## lives

taken_offered : {A : Type 0} → Taken ≡ Offered → A
taken_offered e = cc

-- nothing of calls changed
lives_same : (s v : State) (j : ℕ) (l : Life) → v.calls ≡ s.calls → v.next_call ≡ s.next_call → Lives s j l → Lives v j l
lives_same s v j New e n h = elim h [ inl a ↦ inl a | inr b ↦ inr (rw n b) ]
lives_same s v j Waiting e n h = (h.0, rw e h.1, h.2, h.3)
lives_same s v j Held e n h = (h.0, rw e h.1, h.2, h.3)
lives_same s v j Over e n h = (h.0, rw n h.1, λ c here. h.2 c (rw e at here))
lives_same s v j Wrong e n h = h

apart_same : (s v : State) → v.calls ≡ s.calls → v.next_call ≡ s.next_call → AreApart s → AreApart v
apart_same s v e n h = record {
  some = rw n h.some;
  from = λ c here. h.from c (rw e at here);
  below = λ c here. rw n (h.below c (rw e at here));
  client = λ c d x y. h.client c d (rw e at x) (rw e at y);
  number = λ c d x y. h.number c d (rw e at x) (rw e at y);
}

-- a number that does not occur is that of no call
no_call_at : (s : State) → AreApart s → (c : Call) → Contains s.calls c → (j : ℕ) → c.number ≡ j → (j ≡ 0) ⊎ (s.next_call ≤ j) → ⊥
no_call_at s a c here j e out = let f = a.from c here in let b = a.below c here in elim out [ inl x ↦ omega arith | inr x ↦ omega arith ]

-- ## a call is offered

apart-offer : (s : State) (k : Call) → AreApart s → k.number ≡ s.next_call → call_of s k.client.index ≡ None → AreApart (with_call k s)
unfolding with_call
apart-offer s k a number free = record {
  some = omega arith;
  from = λ c here. elim (added_in s.calls k c here) [ inl old ↦ a.from c old | inr new ↦ let n : c.number ≡ k.number = ap (λ (x : Call). x.number) new in let o = a.some in omega arith ];
  below = λ c here. elim (added_in s.calls k c here) [ inl old ↦ let b = a.below c old in omega arith | inr new ↦ let n : c.number ≡ k.number = ap (λ (x : Call). x.number) new in omega arith ];
  client = λ c d x y same. elim (added_in s.calls k c x) [
    | inl old ↦ elim (added_in s.calls k d y) [ inl old2 ↦ a.client c d old old2 same | inr new2 ↦ absurd (idle_call s k.client.index c free old (same ∙ ap (λ (z : Call). z.client.index) new2)) ]
    | inr new ↦ elim (added_in s.calls k d y) [ inl old2 ↦ absurd (idle_call s k.client.index d free old2 (sym same ∙ ap (λ (z : Call). z.client.index) new)) | inr new2 ↦ new ∙ sym new2 ]
  ];
  number = λ c d x y same. elim (added_in s.calls k c x) [
    | inl old ↦ elim (added_in s.calls k d y) [ inl old2 ↦ a.number c d old old2 same | inr new2 ↦ let b = a.below c old in let n : d.number ≡ k.number = ap (λ (z : Call). z.number) new2 in absurd (omega arith) ]
    | inr new ↦ elim (added_in s.calls k d y) [ inl old2 ↦ let b = a.below d old2 in let n : c.number ≡ k.number = ap (λ (z : Call). z.number) new in absurd (omega arith) | inr new2 ↦ new ∙ sym new2 ]
  ];
}

live-offer : (s : State) (k : Call) → AreApart s → k.number ≡ s.next_call → k.phase ≡ Offered → (j : ℕ) (l : Life) → Lives s j l → Lives (with_call k s) j (after j (SaysOffer k.number) l)
unfolding with_call
live-offer s k a number phase j l h = elim (eqb_tells k.number j) [
  | inl same ↦ rw same.0 (here l h same.1)
  | inr other ↦ rw other.0 (there l h other.1)
]
  where
    here : (l : Life) → Lives s j l → k.number ≡ j → Lives record s { calls = s.calls ++ k ∷ []; next_call = s.next_call + 1 } j (after_offer l)
    here New h e = (k, Contains-push s.calls k, e, phase)
    here Waiting h e = absurd (no_call_at s a h.0 h.1 j h.2 (inr (omega arith)))
    here Held h e = absurd (no_call_at s a h.0 h.1 j h.2 (inr (omega arith)))
    here Over h e = let lt = h.1 in absurd (omega arith)
    here Wrong h e = h

    there : (l : Life) → Lives s j l → k.number ≢ j → Lives record s { calls = s.calls ++ k ∷ []; next_call = s.next_call + 1 } j l
    there New h ne = elim h [ inl x ↦ inl x | inr x ↦ inr (omega arith) ]
    there Waiting h ne = (h.0, Contains-append_left s.calls (k ∷ []) h.0 h.1, h.2, h.3)
    there Held h ne = (h.0, Contains-append_left s.calls (k ∷ []) h.0 h.1, h.2, h.3)
    there Over h ne = (h.0, omega (arith, h.1), λ c x e. elim (added_in s.calls k c x) [ inl old ↦ h.2 c old e | inr new ↦ ne (ap (λ (z : Call). z.number) (sym new) ∙ e) ])
    there Wrong h ne = h

-- ## a call is taken

apart-take : (s : State) (i : ℕ) → AreApart s → AreApart (with_taken i s)
unfolding with_taken
apart-take s i a = record {
  some = a.some;
  from = λ c here. let r = map_in (taken_from i) s.calls c here in rw r.2 (a.from r.0 r.1);
  below = λ c here. let r = map_in (taken_from i) s.calls c here in rw r.2 (a.below r.0 r.1);
  client = λ c d x y same. let r = map_in (taken_from i) s.calls c x in let q = map_in (taken_from i) s.calls d y in r.2 ∙ ap (taken_from i) (a.client r.0 q.0 r.1 q.1 (sym (ap (λ (k : Call). k.client.index) r.2) ∙ same ∙ ap (λ (k : Call). k.client.index) q.2)) ∙ sym q.2;
  number = λ c d x y same. let r = map_in (taken_from i) s.calls c x in let q = map_in (taken_from i) s.calls d y in r.2 ∙ ap (taken_from i) (a.number r.0 q.0 r.1 q.1 (sym (ap (λ (k : Call). k.number) r.2) ∙ same ∙ ap (λ (k : Call). k.number) q.2)) ∙ sym q.2;
}

still_taken : (b : Bool) (p : Phase) → p ≡ Taken → cond b Taken p ≡ Taken
still_taken true p e = refl
still_taken false p e = e

live-take : (s : State) (k : Call) → AreApart s → Contains s.calls k → k.phase ≡ Offered → (j : ℕ) (l : Life) → Lives s j l → Lives (with_taken k.client.index s) j (after j (SaysTake k.number) l)
unfolding with_taken
live-take s k a inside phase j l h = elim (eqb_tells k.number j) [
  | inl same ↦ rw same.0 (here l h same.1)
  | inr other ↦ rw other.0 (there l h other.1)
]
  where
    f : Call → Call
    f = taken_from k.client.index

    here : (l : Life) → Lives s j l → k.number ≡ j → Lives record s { calls = map (taken_from k.client.index) s.calls } j (after_take l)
    here New h e = absurd (no_call_at s a k inside j e h)
    here Waiting h e = (taken_from k.client.index k, map_has (taken_from k.client.index) s.calls k inside, e, ap (λ b. cond b Taken k.phase) (eq-eqb k.client.index k.client.index refl))
    here Held h e = let same : h.0 ≡ k = a.number h.0 k h.1 inside (h.2 ∙ sym e) in taken_offered (sym h.3 ∙ ap (λ (c : Call). c.phase) same ∙ phase)
    here Over h e = absurd (h.2 k inside e)
    here Wrong h e = h

    there : (l : Life) → Lives s j l → k.number ≢ j → Lives record s { calls = map (taken_from k.client.index) s.calls } j l
    there New h ne = h
    there Waiting h ne = (
      taken_from k.client.index h.0,
      map_has (taken_from k.client.index) s.calls h.0 h.1,
      h.2,
      elim (eqb_tells h.0.client.index k.client.index) [
        | inl mine ↦ absurd (ne (ap (λ (c : Call). c.number) (sym (a.client h.0 k h.1 inside mine.1)) ∙ h.2))
        | inr other ↦ ap (λ b. cond b Taken h.0.phase) other.0 ∙ h.3
      ],
    )
    there Held h ne = (taken_from k.client.index h.0, map_has (taken_from k.client.index) s.calls h.0 h.1, h.2, still_taken (eqb h.0.client.index k.client.index) h.0.phase h.3)
    there Over h ne = (h.0, h.1, λ c x e. let r = map_in (taken_from k.client.index) s.calls c x in h.2 r.0 r.1 (ap (λ (z : Call). z.number) (sym r.2) ∙ e))
    there Wrong h ne = h

-- ## a call is closed

next-close : (s : State) (i : ℕ) → (without_call i s).next_call ≡ s.next_call
unfolding without_call
next-close s i = refl

apart-close : (s : State) (i : ℕ) → AreApart s → AreApart (without_call i s)
apart-close s i a = go (without_call i s) (λ c here. (dropped_call s i c here).0) (next-close s i)
  where
    go : (v : State) → ((c : Call) → Contains v.calls c → Contains s.calls c) → v.next_call ≡ s.next_call → AreApart v
    go v fewer n = record {
      some = rw n a.some;
      from = λ c here. a.from c (fewer c here);
      below = λ c here. rw n (a.below c (fewer c here));
      client = λ c d x y. a.client c d (fewer c x) (fewer d y);
      number = λ c d x y. a.number c d (fewer c x) (fewer d y);
    }

stays_open : (s : State) (i : ℕ) (c : Call) → Contains s.calls c → c.client.index ≢ i → Contains (without_call i s).calls c
unfolding without_call
stays_open s i c here ne = elim (eqb_tells c.client.index i) [
  | inl same ↦ absurd (ne same.1)
  | inr other ↦ filter_has (λ (d : Call). not (eqb d.client.index i)) s.calls c here (ap not other.0)
]

-- a call that was not closed keeps its life
live-rest : (s : State) (i j : ℕ) (l : Life) → ((c : Call) → Contains s.calls c → c.number ≡ j → c.client.index ≢ i) → Lives s j l → Lives (without_call i s) j l
live-rest s i j l ne h = go l h
  where
    next : (without_call i s).next_call ≡ s.next_call
    next = next-close s i

    go : (l : Life) → Lives s j l → Lives (without_call i s) j l
    go New h = elim h [ inl x ↦ inl x | inr x ↦ inr (rw next x) ]
    go Waiting h = (h.0, stays_open s i h.0 h.1 (ne h.0 h.1 h.2), h.2, h.3)
    go Held h = (h.0, stays_open s i h.0 h.1 (ne h.0 h.1 h.2), h.2, h.3)
    go Over h = (h.0, rw next h.1, λ c x. h.2 c (dropped_call s i c x).0)
    go Wrong h = h

found_of : (s : State) (i : ℕ) (d : Call) → call_of s i ≡ Some d → Contains s.calls d × (d.client.index ≡ i)
unfolding call_of
found_of s i d e = let r = found_in (λ (c : Call). eqb c.client.index i) s.calls d e in (r.0, eqb-true _ _ r.1)

ends_taken : (ending : Ending) (d : Call) → Ends ending (Some d) → is_answer ending ≡ true → d.phase ≡ Taken
ends_taken ending.Reply d h e = h
ends_taken ending.ReplyFault d h e = h
ends_taken ending.Client d h e = absurd (false≢true e)
ends_taken ending.Restart d h e = absurd (false≢true e)

live-close : (s : State) (i : ℕ) (ending : Ending) (d : Call) → AreApart s → call_of s i ≡ Some d → Ends ending (Some d) → (j : ℕ) (l : Life) → Lives s j l → Lives (without_call i s) j (after j (SaysClose d.number ending) l)
live-close s i ending d a found ends j l h = elim (eqb_tells d.number j) [
  | inl same ↦ rw same.0 (here (is_answer ending) refl l h same.1)
  | inr other ↦ rw other.0 (live-rest s i j l (λ c x e mine. other.1 (ap (λ (z : Call). z.number) (a.client d c at_d.0 x (at_d.1 ∙ sym mine)) ∙ e)) h)
]
  where
    at_d : Contains s.calls d × (d.client.index ≡ i)
    at_d = found_of s i d found

    next : (without_call i s).next_call ≡ s.next_call
    next = next-close s i

    over : d.number ≡ j → Lives (without_call i s) j Over
    over e = (let f = a.from d at_d.0 in omega arith, let b = a.below d at_d.0 in rw next (omega arith), λ c x same. let r = dropped_call s i c x in r.1 (ap (λ (z : Call). z.client.index) (a.number c d r.0 at_d.0 (same ∙ sym e)) ∙ at_d.1))

    by_answer : (b : Bool) → is_answer ending ≡ b → (c : Call) → Contains s.calls c → c.number ≡ j → c.phase ≡ Offered → d.number ≡ j → Lives (without_call i s) j (cond b Wrong Over)
    by_answer true t c x n o e = taken_offered (sym (ends_taken ending d ends t) ∙ ap (λ (z : Call). z.phase) (a.number d c at_d.0 x (e ∙ sym n)) ∙ o)
    by_answer false t c x n o e = over e

    here : (b : Bool) → is_answer ending ≡ b → (l : Life) → Lives s j l → d.number ≡ j → Lives (without_call i s) j (after_close b l)
    here b t New h e = absurd (no_call_at s a d at_d.0 j e h)
    here b t Waiting h e = by_answer b t h.0 h.1 h.2 h.3 e
    here b t Held h e = over e
    here b t Over h e = absurd (h.2 d at_d.0 e)
    here b t Wrong h e = h

-- ## the ledger goes on

-- once more is noted
as_noted_on : (old ns new : List Note) (s v : State) → AreApart v → ((k : ℕ) (l : Life) → Lives s k l → Lives v k (lived k l new)) → IsAsNoted (old ++ ns) s → IsAsNoted (old ++ (ns ++ new)) v
as_noted_on old ns new s v apart lives h = record {
  apart = apart;
  lives = λ k. rw (← append_assoc old ns new, lived_on k New (old ++ ns) new) (lives k (lived k New (old ++ ns)) (h.lives k));
}

-- a plain note says nothing about a call
plain_says : (n : Note) → is_plain n ≡ true → saying n ≡ Nothing
plain_says (note.Offer call client server) h = absurd (false≢true h)
plain_says (note.Take call copied) h = absurd (false≢true h)
plain_says (note.Close call ending) h = absurd (false≢true h)
plain_says (note.Borrow call borrow lease offset moved) h = absurd (false≢true h)
plain_says (note.Tick now) h = refl
plain_says (note.Irq line handled) h = refl
plain_says (note.Post task bits posted) h = refl
plain_says (note.Syscall task number arguments) h = refl
plain_says (note.Ret task results) h = refl
plain_says (note.Fault task fault) h = refl
plain_says (note.Restart task generation) h = refl
plain_says (note.In device byte fed) h = refl
plain_says (note.Out device byte) h = refl
plain_says (note.IrqStatus task bits status) h = refl
plain_says (note.Find index found) h = refl
plain_says (note.Listen task from mask) h = refl
plain_says (note.Insn task at code) h = refl
plain_says note.Idle h = refl
plain_says (note.Low registers) h = refl
plain_says (note.High registers n z c v) h = refl

plain_lived : (k : ℕ) (l : Life) (ns : List Note) → ArePlain ns → lived k l ns ≡ l
plain_lived k l [] h = refl
plain_lived k l (n ∷ ns) h = ap (λ x. lived k (after k x l) ns) (plain_says n h.0) ∙ plain_lived k l ns h.1

pub as_noted-aside : (old : List Note) (u v : Turn) → IsOutside u v → IsAsNoted (old ++ u.notes) u.state → IsAsNoted (old ++ v.notes) v.state
as_noted-aside old u v a h =
    subst (λ ns. IsAsNoted (old ++ ns) v.state) (sym a.notes)
    (as_noted_on old u.notes a.new u.state v.state (apart_same u.state v.state a.calls a.next_call h.apart) (λ k l x. rw (plain_lived k l a.new a.plain) (lives_same u.state v.state k l a.calls a.next_call x)) h)

-- calls stay, and so do the notes
pub as_noted-same : (old : List Note) (u v : Turn) → v.state.calls ≡ u.state.calls → v.state.next_call ≡ u.state.next_call → v.notes ≡ u.notes → IsAsNoted (old ++ u.notes) u.state → IsAsNoted (old ++ v.notes) v.state
as_noted-same old u v e n same h = rw same record { apart = apart_same u.state v.state e n h.apart; lives = λ k. lives_same u.state v.state k (lived k New (old ++ u.notes)) e n (h.lives k) }

as_noted-closed : (old : List Note) (i : ℕ) (ending : Ending) (u : Turn) → Ends ending (call_of u.state i) → IsAsNoted (old ++ u.notes) u.state → IsAsNoted (old ++ (closed i ending u).notes) (closed i ending u).state
unfolding closed
as_noted-closed old i ending u ends h = by_call (call_of u.state i) refl ends
  where
    by_call : (o : Option Call) → call_of u.state i ≡ o → Ends ending o → IsAsNoted (old ++ (u.notes ++ close_notes ending o)) (without_call i u.state)
    by_call None e ends = as_noted_on old u.notes [] u.state (without_call i u.state) (apart-close u.state i h.apart) (λ k l x. live-rest u.state i k l (λ c here same. idle_call u.state i c e here) x) h
    by_call (Some d) e ends = as_noted_on old u.notes (note.Close d.number ending ∷ []) u.state (without_call i u.state) (apart-close u.state i h.apart) (live-close u.state i ending d h.apart e ends) h

as_noted-offered : (g : Setup) (s : State) (c : ℕ) (old : List Note) (k : Call) (u : Turn) → IsNew s c u k → IsAsNoted (old ++ u.notes) u.state → IsAsNoted (old ++ (offered k u).notes) (offered k u).state
unfolding offered noted
as_noted-offered g s c old k u new h =
    let free : call_of u.state k.client.index ≡ None = rw new.client new.free in
    as_noted_on old u.notes (note.Offer k.number k.client.index k.server.index ∷ []) u.state (with_call k u.state) (apart-offer u.state k h.apart new.number free) (live-offer u.state k h.apart new.number new.phase) h

as_noted-taken : (g : Setup) (s : State) (c : ℕ) (old : List Note) (on : Ground) (k : Call) (buffer : Slice) (u : Turn) → IsTaking g s c u on k buffer → IsAsNoted (old ++ u.notes) u.state → IsAsNoted (old ++ (taken_over on k buffer u).notes) (taken_over on k buffer u).state
unfolding noted copied looked
as_noted-taken g s c old on k buffer u t h = go (min k.message.len buffer.len) _ refl refl
  where
    go : (m : ℕ) (v : State) → v.calls ≡ u.state.calls → v.next_call ≡ u.state.next_call → IsAsNoted (old ++ (u.notes ++ note.Take k.number m ∷ [])) (with_taken k.client.index v)
    go m v e n = as_noted_on old u.notes (note.Take k.number m ∷ []) u.state (with_taken k.client.index v) (apart-take v k.client.index (apart_same u.state v e n h.apart)) (λ j l x. live-take v k (apart_same u.state v e n h.apart) (rw e t.here) t.offered j l (lives_same u.state v j l e n x)) h

as_noted-stored : (old : List Note) (on : Ground) (at : ℕ) (bytes : List ℕ) (u : Turn) → IsAsNoted (old ++ u.notes) u.state → IsAsNoted (old ++ (stored on at bytes u).notes) (stored on at bytes u).state
unfolding stored
as_noted-stored old on at bytes u h = as_noted-same old u (stored on at bytes u) refl refl refl h

move_as_noted : (g : Setup) (s : State) (c : ℕ) (old : List Note) (u v : Turn) → Move g s c u v → IsAsNoted (old ++ u.notes) u.state → IsAsNoted (old ++ v.notes) v.state
unfolding looked noted
move_as_noted g s c old _ _ (Aside u v a) h = as_noted-aside old u v a.outside h
move_as_noted g s c old _ _ (Writes on at bytes u within may) h = as_noted-stored old on at bytes u h
move_as_noted g s c old _ _ (Reads r u alive) h = as_noted-same old u (looked r u) refl refl refl h
move_as_noted g s c old _ _ (Alters devices u reached) h = as_noted-aside old u _ (outside-devices devices u) h
move_as_noted g s c old _ _ (Lends k borrow lease offset n u alive taken fits) h = as_noted_on old u.notes (note.Borrow k borrow lease offset n ∷ []) u.state u.state h.apart (λ j l x. x) h
move_as_noted g s c old _ _ (Offers k u new) h = as_noted-offered g s c old k u new h
move_as_noted g s c old _ _ (Takes on k buffer u t) h = as_noted-taken g s c old on k buffer u t h
move_as_noted g s c old _ _ (Closes i ending u ends) h = as_noted-closed old i ending u ends h

-- over a whole chain
pub chain_as_noted : (g : Setup) (s : State) (c : ℕ) → ArePlaced g s.memory → (old : List Note) (u v : Turn) → Chain (Step g s c) u v → IsAsNoted (old ++ u.notes) u.state → IsAsNoted (old ++ v.notes) v.state
chain_as_noted g s c placed old u v x h = chain_keeps (Move g s c) (λ w. IsAsNoted (old ++ w.notes) w.state) (move_as_noted g s c old) u v (chain_moves g s c placed u v x) h

-- at the start there is no call
pub as_noted-start : (g : Setup) → IsAsNoted [] (start g)
unfolding start
as_noted-start g = record {
  apart = record { some = omega arith; from = λ c here. absurd (omega (arith, here.1)); below = λ c here. absurd (omega (arith, here.1)); client = λ c d here. absurd (omega (arith, here.1)); number = λ c d here. absurd (omega (arith, here.1)) };
  lives = λ k. begun_or_zero k;
}
  where
    begun_or_zero : (k : ℕ) → (k ≡ 0) ⊎ (1 ≤ k)
    begun_or_zero zero = inl refl
    begun_or_zero (suc k) = inr (omega arith)
