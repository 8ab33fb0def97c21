-- A call that is closed stays closed, and no turn writes on its ground.
use Rattle.std.proofs.Common.{◌≡◌, ◌≤◌, ◌⊎◌, inl, inr, ℕ, List, [], ◌∷◌, ◌++◌, Option, Some, None, refl, sym, subst, ◌∙◌, ap, arith, IfSome, append-nil}
use Rattle.std.specs.Prelude.{Contains}
use Rattle.std.proofs.lemmas.Bool.{false≢true}
use Rattle.std.proofs.lemmas.List.Elements.{Contains-append_cases}
use Rattle.kernel_abi.specs.declared.Borrow.{Borrow}
use Rattle.kernel_abi.specs.declared.Ending.{Ending}
use Rattle.kernel_abi.specs.declared.Note.{Note}
use Rattle.kernel_abi.specs.declared.Note.TheVariants as note
use Rattle.task_table.specs.model.State.{Setup, State, Call, Slice, Ground, Turn}
use Rattle.task_table.specs.model.Reading.{call_of}
use Rattle.task_table.specs.model.Effects.{with_call, without_call, with_taken, taken_from, noted, stored, copied, looked, close_notes, closed, offered}
use Rattle.task_table.specs.model.Placed.{ArePlaced}
use Rattle.task_table.specs.model.Grounds.{IsAlive, AreAlive, call_of_ground}
use Rattle.task_table.specs.model.Ledger.{IsOpen}
use Rattle.task_table.specs.model.Chain.{Chain}
use Rattle.task_table.specs.model.Step.{Step}
use Rattle.task_table.specs.model.Lives.{IsFresh, IsClosed, IsSilent}
use Rattle.task_table.proofs.model.Chains.{chain_keeps}
use Rattle.task_table.proofs.model.Keeps.{added_in, map_in, dropped_call}
use Rattle.task_table.proofs.model.Moves.{plain_one, IsOutside, taken_over, Move, Aside, Writes, Reads, Alters, Lends, Offers, Takes, Closes, outside-devices}
use Rattle.task_table.proofs.model.Happens.{chain_moves}
use Rattle.task_table.proofs.model.Grounding.{one_in, honest_alive, chain_honest}

-- a call whose number was used in s was open in s; a call that is offered in the turn has a later number
pub record NoneReopened (s : State) (u : Turn) : Type 0 where
  pub from : s.next_call ≤ u.state.next_call
  pub open_before : (call : Call) → Contains u.state.calls call → (s.next_call ≤ call.number) ⊎ IsOpen s call.number
  pub offered_later : (k client server : ℕ) → Contains u.notes (note.Offer k client server) → s.next_call ≤ k

-- ## each move

-- (new: the notes that came)
reopened : (s : State) (u v : Turn) (new : List Note) → u.state.next_call ≤ v.state.next_call → ((call : Call) → Contains v.state.calls call → (s.next_call ≤ call.number) ⊎ IsOpen u.state call.number) → v.notes ≡ u.notes ++ new → ((k client server : ℕ) → Contains new (note.Offer k client server) → s.next_call ≤ k) → NoneReopened s u → NoneReopened s v
reopened s u v new more calls notes later h = record {
  from = let from = h.from in omega arith;
  open_before = λ call here. elim (calls call here) [ inl after ↦ inl after | inr old ↦ subst (λ k. (s.next_call ≤ k) ⊎ IsOpen s k) old.2 (h.open_before old.0 old.1) ];
  offered_later = λ k client server here. elim (Contains-append_cases u.notes new _ (rw notes at here)) [ inl old ↦ h.offered_later k client server old | inr fresh ↦ later k client server fresh ];
}

no_note : {A : Type 0} (n : Note) → Contains [] n → A
no_note n here = absurd (omega (arith, here.1))

taken_offer : {A : Type 0} {a b k client server : ℕ} → note.Take a b ≡ note.Offer k client server → A
taken_offer e = cc

lent_offer : {A : Type 0} {a lease offset moved k client server : ℕ} {borrow : Borrow} → note.Borrow a borrow lease offset moved ≡ note.Offer k client server → A
lent_offer e = cc

closed_offer : {A : Type 0} {a k client server : ℕ} {ending : Ending} → note.Close a ending ≡ note.Offer k client server → A
closed_offer e = cc

offer_number : {a b d k client server : ℕ} → note.Offer a b d ≡ note.Offer k client server → a ≡ k
offer_number e = cc

module _ (z : State) where
  pub reopened-outside : (u v : Turn) → IsOutside u v → NoneReopened z u → NoneReopened z v
  reopened-outside u v a = let next = a.next_call in reopened z u v a.new (omega arith) (λ call here. inr (call, rw a.calls at here, refl)) a.notes (λ k client server here. absurd (false≢true (plain_one a.new (note.Offer k client server) a.plain here)))

  -- calls and notes stay
  reopened-same : (u v : Turn) → v.state.next_call ≡ u.state.next_call → v.state.calls ≡ u.state.calls → v.notes ≡ u.notes → NoneReopened z u → NoneReopened z v
  reopened-same u v next calls notes = reopened z u v [] (omega arith) (λ call here. inr (call, rw calls at here, refl)) (notes ∙ sym (append-nil u.notes)) (λ k client server here. no_note _ here)

  reopened-lent : (k : ℕ) (borrow : Borrow) (lease offset moved : ℕ) (u : Turn) → NoneReopened z u → NoneReopened z (noted (note.Borrow k borrow lease offset moved) u)
  unfolding noted
  reopened-lent k borrow lease offset moved u = reopened z u (noted (note.Borrow k borrow lease offset moved) u) (note.Borrow k borrow lease offset moved ∷ []) (omega arith) (λ call here. inr (call, here, refl)) refl (λ j client server here. lent_offer (one_in _ _ here))

  reopened-offered : (k : Call) (u : Turn) → k.number ≡ u.state.next_call → NoneReopened z u → NoneReopened z (offered k u)
  unfolding offered with_call noted
  reopened-offered k u number h =
      let from = h.from in
      reopened z u (offered k u) (note.Offer k.number k.client.index k.server.index ∷ []) (omega arith)
      (λ call here. elim (added_in u.state.calls k call here) [ inl old ↦ inr (call, old, refl) | inr new ↦ let same : call.number ≡ k.number = ap (λ (x : Call). x.number) new in inl (omega arith) ]) refl
      (λ j client server here. let same : k.number ≡ j = offer_number (one_in _ _ here) in omega arith) h

  reopened-taken : (on : Ground) (k : Call) (buffer : Slice) (u : Turn) → NoneReopened z u → NoneReopened z (taken_over on k buffer u)
  unfolding noted with_taken copied looked
  reopened-taken on k buffer u = reopened z u (taken_over on k buffer u) (note.Take k.number _ ∷ []) (omega arith) (λ call here. let r = map_in (taken_from k.client.index) u.state.calls call here in inr (r.0, r.1, ap (λ (x : Call). x.number) (sym r.2))) refl (λ j client server here. taken_offer (one_in _ _ here))

  next_without : (i : ℕ) (s : State) → (without_call i s).next_call ≡ s.next_call
  unfolding without_call
  next_without i s = refl

  reopened-closed : (i : ℕ) (ending : Ending) (u : Turn) → NoneReopened z u → NoneReopened z (closed i ending u)
  unfolding closed
  reopened-closed i ending u = let next = next_without i u.state in reopened z u (closed i ending u) (close_notes ending (call_of u.state i)) (omega arith) (λ call here. inr (call, (dropped_call u.state i call here).0, refl)) refl (by_call (call_of u.state i))
    where
      by_call : (o : Option Call) (j client server : ℕ) → Contains (close_notes ending o) (note.Offer j client server) → z.next_call ≤ j
      by_call None j client server here = no_note _ here
      by_call (Some d) j client server here = closed_offer (one_in _ _ here)

  pub move_reopened : (g : Setup) (s : State) (c : ℕ) (u v : Turn) → Move g s c u v → NoneReopened z u → NoneReopened z v
  unfolding stored looked
  move_reopened g s c _ _ (Aside u v a) h = reopened-outside u v a.outside h
  move_reopened g s c _ _ (Writes on at bytes u within may) h = reopened-same u (stored on at bytes u) refl refl refl h
  move_reopened g s c _ _ (Reads r u alive) h = reopened-same u (looked r u) refl refl refl h
  move_reopened g s c _ _ (Alters devices u reached) h = reopened-outside u _ (outside-devices devices u) h
  move_reopened g s c _ _ (Lends k borrow lease offset moved u alive taken fits) h = reopened-lent k borrow lease offset moved u h
  move_reopened g s c _ _ (Offers k u new) h = reopened-offered k u new.number h
  move_reopened g s c _ _ (Takes on k buffer u t) h = reopened-taken on k buffer u h
  move_reopened g s c _ _ (Closes i ending u ends) h = reopened-closed i ending u h

-- ## so a closed call stays closed

-- at the beginning of a turn
pub fresh_reopened : (s : State) (u : Turn) → IsFresh s u → NoneReopened s u
fresh_reopened s u f = record {
  from = let next = f.next_call in omega arith;
  open_before = λ call here. inr (call, rw f.calls at here, refl);
  offered_later = λ k client server here. absurd (false≢true (f.plain (note.Offer k client server) here));
}

pub chain_reopened : (g : Setup) (s : State) (c : ℕ) → ArePlaced g s.memory → (z : State) (u v : Turn) → Chain (Step g s c) u v → NoneReopened z u → NoneReopened z v
chain_reopened g s c placed z u v x h = chain_keeps (Move g s c) (NoneReopened z) (move_reopened z g s c) u v (chain_moves g s c placed u v x) h

pub closed_stays : (s : State) (u : Turn) → NoneReopened s u → (k : ℕ) → IsClosed s k → IsClosed u.state k
closed_stays s u h k gone = (
  let from = h.from in let lt = gone.0 in omega arith,
  λ o. elim (h.open_before o.0 o.1) [ inl later ↦ let same = o.2 in let lt = gone.0 in absurd (omega arith) | inr before ↦ gone.1 (before.0, before.1, before.2 ∙ o.2) ],
)

pub same_some : {a b : ℕ} → Some a ≡ Some b → a ≡ b
same_some e = cc

pub none_some : {A : Type 0} {b : ℕ} → None ≡ Some b → A
none_some e = cc

-- no turn from s touches a closed call
pub closed_silent : (s : State) (c : ℕ) (u : Turn) → NoneReopened s u → AreAlive s c u → (k : ℕ) → IsClosed s k → IsSilent u k
closed_silent s c u h alive k gone w here = λ e. by_ground (call_of_ground w.on) (alive.written w here) e
  where
    not_alive : (j : ℕ) → j ≡ k → IsAlive s c u j → ⊥
    not_alive j e (inl open_call) = gone.1 (open_call.0, open_call.1, open_call.2 ∙ e)
    not_alive j e (inr offer) = let later = h.offered_later j c offer.0 offer.1 in let lt = gone.0 in omega arith

    by_ground : (o : Option ℕ) → IfSome o (IsAlive s c u) → o ≡ Some k → ⊥
    by_ground None x e = none_some e
    by_ground (Some j) x e = not_alive j (same_some e) x

pub chain_closed : (g : Setup) (s : State) (c : ℕ) → ArePlaced g s.memory → (u v : Turn) → Chain (Step g s c) u v → IsFresh s u → (k : ℕ) → IsClosed s k → IsClosed v.state k
chain_closed g s c placed u v x f k gone = closed_stays s v (chain_reopened g s c placed s u v x (fresh_reopened s u f)) k gone

pub chain_silent : (g : Setup) (s : State) (c : ℕ) → ArePlaced g s.memory → (u v : Turn) → Chain (Step g s c) u v → IsFresh s u → (k : ℕ) → IsClosed s k → IsSilent v k
chain_silent g s c placed u v x f k gone = closed_silent s c v (chain_reopened g s c placed s u v x (fresh_reopened s u f)) (honest_alive g s c v (chain_honest g s c placed u v x f)) k gone
