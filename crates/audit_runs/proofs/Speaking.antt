-- The notes of a turn are good after those before, one by one.
use Rattle.std.proofs.Common.{◌≡◌, ◌≢◌, ℕ, ◌+◌, ◌-◌, ◌≤◌, ◌⊎◌, inl, inr, true, false, eqb, not, List, [], ◌∷◌, ◌++◌, length, map, min, Option, Some, None, refl, sym, subst, ap, ◌∙◌, arith, append_assoc, append-nil, add-zero, length-append}
use Rattle.std.specs.Prelude.{Contains, find, filter}
use Rattle.std.specs.BTreeMap.{is_at}
use Rattle.std.specs.Ordering.{nat_cmp}
use Rattle.std.proofs.lemmas.Bool.{false≢true}
use Rattle.std.proofs.lemmas.Bool.Decides.{nat_tests, eqb_tells}
use Rattle.kernel_abi.specs.Devices.{DeviceData}
use Rattle.kernel_abi.specs.declared.Ending.{Ending}
use Rattle.kernel_abi.specs.declared.Ending.TheVariants as ending
use Rattle.kernel_abi.specs.declared.Note.{Note}
use Rattle.kernel_abi.specs.declared.Note.TheVariants as note
use Rattle.task_table.specs.model.State.{Setup, State, Call, Ground, Turn}
use Rattle.task_table.specs.declared.slot.Slice.{Slice}
use Rattle.task_table.specs.declared.slot.Phase.TheVariants.{Offered, Taken}
use Rattle.task_table.specs.model.Reading.{call_of}
use Rattle.task_table.specs.model.Effects.{without_call, with_call, with_taken, taken_from, noted, stored, copied, looked, closed, close_notes, offered, with_devices}
use Rattle.task_table.specs.model.Step.{is_plain, IsNew, Ends}
use Rattle.task_table.proofs.model.Keeps.{added_in, map_in, idle_call, unmade, dropped_call}
use Rattle.task_table.specs.model.Start.{start}
use Rattle.task_table.proofs.model.Moves.{ArePlain, IsOutside, outside-devices, IsTaking, taken_over, Move, Aside, Writes, Reads, Alters, Lends, Offers, Takes, Closes}
use Rattle.trace_audit.proofs.Adding.{none_said}
use Rattle.trace_audit.specs.declared.book.Open.{Open}
use Rattle.trace_audit.specs.declared.reading.Saying.{Saying}
use Rattle.trace_audit.specs.declared.reading.Saying.TheVariants as saying
use Rattle.trace_audit.specs.Rules.{IsGoodSaying}
use Rattle.trace_audit.specs.Books.{CallBook, IsTold, Hears}
use Rattle.trace_audit.proofs.Telling.{told_aside, open_as, may_borrow, borrows_offers, borrows_takes, borrows_closes}
use Rattle.trace_audit.proofs.Counting.{count_aside, some_left}
use Rattle.trace_audit.proofs.Hearing.{IsElsewhere, hears_offer, hears_take, hears_close, hears_nothing}
use Rattle.trace_audit.proofs.Pushing.{push_split}
use Rattle.audit_laws.specs.Told.{is_answer, told_by}
use Rattle.audit_laws.specs.Whole.{AreGoodSayings}
use Rattle.audit_runs.specs.Spoken.{sayings, is_taken, open_of, held_of, IsSpoken}
use Rattle.audit_runs.proofs.Finding.{of_client, held_offer, held_offer_other, held_take, held_take_other, held_close, held_close_other, found_here}

-- ## lists of sayings

good_push : (ls : List Saying) (l : Saying) → AreGoodSayings ls → IsGoodSaying ls l → AreGoodSayings (ls ++ l ∷ [])
good_push ls l good here before x after e = elim (push_split ls l before x after e) [
  | inl h ↦ good before x h.0 h.1
  | inr h ↦ subst (λ z. IsGoodSaying before z) h.1 (subst (λ zs. IsGoodSaying zs l) h.0 here)
]

sayings_push : (ns : List Note) (n : Note) → sayings (ns ++ n ∷ []) ≡ sayings ns ++ told_by n ∷ []
sayings_push [] n = refl
sayings_push (m ∷ ns) n = ap (λ xs. told_by m ∷ xs) (sayings_push ns n)

-- ## one more note

-- what is known of a state besides what was said
record IsKeptAs (y : CallBook) (v : State) : Type 0 where
  held : (i : ℕ) → y.held i ≡ held_of v.calls i
  next : v.next_call ≡ length y.clients + 1
  unique : (c d : Call) → Contains v.calls c → Contains v.calls d → c.client.index ≡ d.client.index → c ≡ d

spoken_more : (ns : List Note) (n : Note) (y : CallBook) (v : State) → AreGoodSayings (sayings ns) → Hears (sayings ns) (told_by n) y true → IsKeptAs y v → IsSpoken (ns ++ n ∷ []) v
spoken_more ns n y v good h k = record {
  kept = y;
  held = k.held;
  next = k.next;
  told = subst (λ ss. IsTold ss y) (sym (sayings_push ns n)) h.1;
  unique = k.unique;
  good = subst AreGoodSayings (sym (sayings_push ns n)) (good_push (sayings ns) (told_by n) good h.0);
}

-- the same calls
pub spoken_same : (ns : List Note) (u v : State) → v.calls ≡ u.calls → v.next_call ≡ u.next_call → IsSpoken ns u → IsSpoken ns v
spoken_same ns u v calls next h = record {
  kept = h.kept;
  held = λ i. h.held i ∙ ap (λ cs. held_of cs i) (sym calls);
  next = next ∙ h.next;
  told = h.told;
  unique = λ c d x y. h.unique c d (subst (λ cs. Contains cs c) calls x) (subst (λ cs. Contains cs d) calls y);
  good = h.good;
}

kept_same : (ns : List Note) (s : State) (h : IsSpoken ns s) → IsKeptAs h.kept s
kept_same ns s h = record { held = h.held; next = h.next; unique = h.unique }

plain_nothing : (n : Note) → is_plain n ≡ true → told_by n ≡ saying.Nothing
plain_nothing (note.Offer call client server) h = absurd (false≢true h)
plain_nothing (note.Take call copied) h = absurd (false≢true h)
plain_nothing (note.Close call ending) h = absurd (false≢true h)
plain_nothing (note.Borrow call borrow lease offset moved) h = absurd (false≢true h)
plain_nothing (note.Tick now) h = refl
plain_nothing (note.Irq line handled) h = refl
plain_nothing (note.Post task bits posted) h = refl
plain_nothing (note.Syscall task number arguments) h = refl
plain_nothing (note.Ret task results) h = refl
plain_nothing (note.Fault task fault) h = refl
plain_nothing (note.Restart task generation) h = refl
plain_nothing (note.Listen task from mask) h = refl
plain_nothing (note.In device byte fed) h = refl
plain_nothing (note.Out device byte) h = refl
plain_nothing (note.IrqStatus task bits status) h = refl
plain_nothing (note.Find index found) h = refl
plain_nothing (note.Insn task at code) h = refl
plain_nothing note.Idle h = refl
plain_nothing (note.Low registers) h = refl
plain_nothing (note.High registers n z c v) h = refl

spoken_plain : (ns : List Note) (n : Note) (s : State) → is_plain n ≡ true → IsSpoken ns s → IsSpoken (ns ++ n ∷ []) s
spoken_plain ns n s plain h = spoken_more ns n h.kept s h.good (hears_nothing (sayings ns) h.kept h.told (told_by n) (plain_nothing n plain)) (kept_same ns s h)

pub spoken_plains : (ns new : List Note) (s : State) → ArePlain new → IsSpoken ns s → IsSpoken (ns ++ new) s
spoken_plains ns [] s plain h = subst (λ ms. IsSpoken ms s) (sym (append-nil ns)) h
spoken_plains ns (n ∷ new) s plain h = subst (λ ms. IsSpoken ms s) (append_assoc ns (n ∷ []) new) (spoken_plains (ns ++ n ∷ []) new s plain.1 (spoken_plain ns n s plain.0 h))

-- what stands aside
pub spoken_outside : (old : List Note) (u v : Turn) → IsOutside u v → IsSpoken (old ++ u.notes) u.state → IsSpoken (old ++ v.notes) v.state
spoken_outside old u v a h =
    subst (λ ms. IsSpoken ms v.state) (append_assoc old u.notes a.new ∙ ap (λ ms. old ++ ms) (sym a.notes))
    (spoken_same (old ++ u.notes ++ a.new) u.state v.state a.calls a.next_call (spoken_plains (old ++ u.notes) a.new u.state a.plain h))

-- ## offers, takes, closes and borrows

apart_at : (i q : ℕ) → is_at (nat_cmp i) q ≡ false → q ≢ i
apart_at i q e same = grind (arith, nat_tests)

elsewhere : (i : ℕ) (held held' : ℕ → Option Open) → ((q : ℕ) → q ≢ i → held' q ≡ held q) → IsElsewhere i held held'
elsewhere i held held' h q e = h q (apart_at i q e)

pub one_note : (old ns : List Note) (n : Note) (s : State) → IsSpoken ((old ++ ns) ++ n ∷ []) s → IsSpoken (old ++ (ns ++ n ∷ [])) s
one_note old ns n s h = subst (λ ms. IsSpoken ms s) (append_assoc old ns (n ∷ [])) h

spoken_offer : (ns : List Note) (s : State) (k : Call) → k.number ≡ s.next_call → k.phase ≡ Offered → call_of s k.client.index ≡ None → IsSpoken ns s → IsSpoken (ns ++ note.Offer k.number k.client.index k.server.index ∷ []) (with_call k s)
unfolding with_call
spoken_offer ns s k number phase free h =
    let none = unmade s k.client.index free in
    let y : CallBook = record { clients = h.kept.clients ++ k.client.index ∷ []; held = held_of (s.calls ++ k ∷ []); left = h.kept.left + 1 } in
    let empty : h.kept.held k.client.index ≡ None = h.held k.client.index ∙ ap open_of none in
    spoken_more ns (note.Offer k.number k.client.index k.server.index) y _ h.good
    (hears_offer (sayings ns) h.kept y h.told k.number k.client.index (number ∙ h.next) empty refl
    (elsewhere k.client.index h.kept.held y.held (λ q ne. held_offer_other s.calls k q ne ∙ sym (h.held q)))
    (held_offer s.calls k phase none) None (sym empty) refl)
    record {
      held = λ i. refl;
      next = ap (λ n. n + 1) h.next ∙ ap (λ n. n + 1) (sym (length-append h.kept.clients (k.client.index ∷ [])));
      unique = λ c d x y same. elim (added_in s.calls k c x) [
        | inl old ↦ elim (added_in s.calls k d y) [ inl old2 ↦ h.unique c d old old2 same | inr new2 ↦ absurd (taken_place c old (same ∙ ap (λ (z : Call). z.client.index) new2)) ]
        | inr new ↦ elim (added_in s.calls k d y) [ inl old2 ↦ absurd (taken_place d old2 (sym same ∙ ap (λ (z : Call). z.client.index) new)) | inr new2 ↦ new ∙ sym new2 ]
      ];
    }
  where
    taken_place : (c : Call) → Contains s.calls c → c.client.index ≡ k.client.index → ⊥
    taken_place c here same = idle_call s k.client.index c free here same

pub spoken_take : (ns : List Note) (s : State) (k : Call) (copied : ℕ) → Contains s.calls k → k.phase ≡ Offered → IsSpoken ns s → IsSpoken (ns ++ note.Take k.number copied ∷ []) (with_taken k.client.index s)
unfolding with_taken
spoken_take ns s k copied here phase h =
    let found = found_here s.calls k h.unique here in
    let y : CallBook = record { clients = h.kept.clients; held = held_of (map (taken_from k.client.index) s.calls); left = h.kept.left } in
    let was : h.kept.held k.client.index ≡ Some (record { call = k.number; taken = false }) = h.held k.client.index ∙ ap open_of found ∙ ap (λ p. Some (record { call = k.number; taken = is_taken p })) phase in
    spoken_more ns (note.Take k.number copied) y _ h.good
    (hears_take (sayings ns) h.kept y h.told k.number k.client.index was refl
    (elsewhere k.client.index h.kept.held y.held (λ q ne. held_take_other s.calls k.client.index q ne ∙ sym (h.held q)))
    (held_take s.calls k found) (Some (record { call = k.number; taken = false })) (sym was) (sym (add-zero h.kept.left)))
    record {
      held = λ i. refl;
      next = h.next;
      unique = λ c d x y same.
          let a = map_in (taken_from k.client.index) s.calls c x in
          let b = map_in (taken_from k.client.index) s.calls d y in
          a.2 ∙ ap (taken_from k.client.index) (h.unique a.0 b.0 a.1 b.1 (ap (λ (z : Call). z.client.index) (sym a.2) ∙ same ∙ ap (λ (z : Call). z.client.index) b.2)) ∙ sym b.2;
    }

pub made : (s : State) (i : ℕ) (d : Call) → call_of s i ≡ Some d → find (of_client i) s.calls ≡ Some d
unfolding call_of
made s i d e = e

answered_taken : (e : Ending) (d : Call) → Ends e (Some d) → is_answer e ≡ true → is_taken d.phase ≡ true
answered_taken ending.Reply d h e = ap is_taken h
answered_taken ending.ReplyFault d h e = ap is_taken h
answered_taken ending.Client d h e = absurd (false≢true e)
answered_taken ending.Restart d h e = absurd (false≢true e)

fewer : (s : State) (i : ℕ) → ((c d : Call) → Contains s.calls c → Contains s.calls d → c.client.index ≡ d.client.index → c ≡ d) → (c d : Call) → Contains (without_call i s).calls c → Contains (without_call i s).calls d → c.client.index ≡ d.client.index → c ≡ d
fewer s i unique c d x y same = unique c d (dropped_call s i c x).0 (dropped_call s i d y).0 same

spoken_close : (ns : List Note) (s : State) (i : ℕ) (e : Ending) (d : Call) → call_of s i ≡ Some d → Ends e (Some d) → IsSpoken ns s → IsSpoken (ns ++ note.Close d.number e ∷ []) (without_call i s)
unfolding without_call
spoken_close ns s i e d is ends h =
    let found = made s i d is in
    let y : CallBook = record { clients = h.kept.clients; held = held_of (filter (λ c. not (eqb c.client.index i)) s.calls); left = h.kept.left - 1 } in
    let was : h.kept.held i ≡ Some (record { call = d.number; taken = is_taken d.phase }) = h.held i ∙ ap open_of found in
    let a = open_as (sayings ns) h.kept h.told d.number i (is_taken d.phase) was in
    let one : 1 ≤ h.kept.left = some_left (sayings ns) d.number h.kept.left a.still (h.told.once d.number i a.offered) h.told.count in
    spoken_more ns (note.Close d.number e) y _ h.good
    (hears_close (sayings ns) h.kept y h.told d.number i (is_taken d.phase) (is_answer e) (answered_taken e d ends) was refl
    (elsewhere i h.kept.held y.held (λ q ne. held_close_other s.calls i q ne ∙ sym (h.held q)))
    (held_close s.calls i) (Some (record { call = d.number; taken = is_taken d.phase })) (sym was) (let q : h.kept.left - 1 + 1 ≡ h.kept.left = omega arith in q))
    record { held = λ j. refl; next = h.next; unique = fewer s i h.unique }

spoken_unclosed : (ns : List Note) (s : State) (i : ℕ) → call_of s i ≡ None → IsSpoken ns s → IsSpoken ns (without_call i s)
unfolding without_call
spoken_unclosed ns s i is h = record {
  kept = h.kept;
  held = λ j. h.held j ∙ by_place j (eqb_tells j i);
  next = h.next;
  told = h.told;
  unique = fewer s i h.unique;
  good = h.good;
}
  where
    by_place : (j : ℕ) → ((eqb j i ≡ true) × (j ≡ i)) ⊎ ((eqb j i ≡ false) × (j ≢ i)) → held_of s.calls j ≡ held_of (filter (λ c. not (eqb c.client.index i)) s.calls) j
    by_place j (inl e) = ap (held_of s.calls) e.1 ∙ ap open_of (unmade s i is) ∙ sym (ap (held_of (filter (λ c. not (eqb c.client.index i)) s.calls)) e.1 ∙ held_close s.calls i)
    by_place j (inr e) = sym (held_close_other s.calls i j e.1)

pub spoken_borrow : (ns : List Note) (s : State) (k : Call) (n : Note) → told_by n ≡ saying.Borrows k.number → Contains s.calls k → k.phase ≡ Taken → IsSpoken ns s → IsSpoken (ns ++ n ∷ []) s
spoken_borrow ns s k n says here phase h =
    let was : h.kept.held k.client.index ≡ Some (record { call = k.number; taken = true }) = h.held k.client.index ∙ ap open_of (found_here s.calls k h.unique here) ∙ ap (λ p. Some (record { call = k.number; taken = is_taken p })) phase in
    let a = open_as (sayings ns) h.kept h.told k.number k.client.index true was in
    spoken_more ns n h.kept s h.good (subst (λ t. Hears (sayings ns) t h.kept true) (sym says) (
      may_borrow (sayings ns) h.kept h.told k.number k.client.index a,
      told_aside (sayings ns) h.kept (saying.Borrows k.number) h.told (λ x y. borrows_offers x y k.number) (λ x. borrows_takes x k.number) (λ x y. borrows_closes x y k.number) refl (count_aside (sayings ns) (saying.Borrows k.number) h.kept.left (λ j. refl) refl h.told.count),
    )) (kept_same ns s h)

-- ## one thing that happens

pub closed_spoken : (old : List Note) (i : ℕ) (e : Ending) (u : Turn) → Ends e (call_of u.state i) → IsSpoken (old ++ u.notes) u.state → IsSpoken (old ++ (closed i e u).notes) (closed i e u).state
unfolding closed
closed_spoken old i e u ends h = by_call (call_of u.state i) refl ends
  where
    by_call : (o : Option Call) → call_of u.state i ≡ o → Ends e o → IsSpoken (old ++ (u.notes ++ close_notes e o)) (without_call i u.state)
    by_call None is ends = subst (λ ms. IsSpoken ms (without_call i u.state)) (ap (λ ms. old ++ ms) (sym (append-nil u.notes))) (spoken_unclosed (old ++ u.notes) u.state i is h)
    by_call (Some d) is ends = one_note old u.notes (note.Close d.number e) (without_call i u.state) (spoken_close (old ++ u.notes) u.state i e d is ends h)

pub offered_spoken : (s : State) (c : ℕ) (old : List Note) (k : Call) (u : Turn) → IsNew s c u k → IsSpoken (old ++ u.notes) u.state → IsSpoken (old ++ (offered k u).notes) (offered k u).state
unfolding offered noted
offered_spoken s c old k u new h = one_note old u.notes (note.Offer k.number k.client.index k.server.index) (with_call k u.state) (spoken_offer (old ++ u.notes) u.state k new.number new.phase (rw new.client new.free) h)

pub taken_spoken : (g : Setup) (s : State) (c : ℕ) (old : List Note) (on : Ground) (k : Call) (buffer : Slice) (u : Turn) → IsTaking g s c u on k buffer → IsSpoken (old ++ u.notes) u.state → IsSpoken (old ++ (taken_over on k buffer u).notes) (taken_over on k buffer u).state
unfolding noted copied looked
taken_spoken g s c old on k buffer u t h = go (min k.message.len buffer.len) _ refl refl
  where
    go : (m : ℕ) (v : State) → v.calls ≡ u.state.calls → v.next_call ≡ u.state.next_call → IsSpoken (old ++ (u.notes ++ note.Take k.number m ∷ [])) (with_taken k.client.index v)
    go m v e n = one_note old u.notes (note.Take k.number m) (with_taken k.client.index v) (spoken_take (old ++ u.notes) v k m (rw e t.here) t.offered (spoken_same (old ++ u.notes) u.state v e n h))

stored_spoken : (old : List Note) (on : Ground) (at : ℕ) (bytes : List ℕ) (u : Turn) → IsSpoken (old ++ u.notes) u.state → IsSpoken (old ++ (stored on at bytes u).notes) (stored on at bytes u).state
unfolding stored
stored_spoken old on at bytes u h = spoken_same (old ++ u.notes) u.state _ refl refl h

-- each move keeps it
pub move_spoken : (g : Setup) (s : State) (c : ℕ) (old : List Note) (u v : Turn) → Move g s c u v → IsSpoken (old ++ u.notes) u.state → IsSpoken (old ++ v.notes) v.state
unfolding looked noted
move_spoken g s c old _ _ (Aside u v a) h = spoken_outside old u v a.outside h
move_spoken g s c old _ _ (Writes on at bytes u within may) h = stored_spoken old on at bytes u h
move_spoken g s c old _ _ (Reads r u alive) h = h
move_spoken g s c old _ _ (Alters devices u reached) h = spoken_outside old u (with_devices devices u) (outside-devices devices u) h
move_spoken g s c old _ _ (Lends k borrow lease offset moved u alive taken fits) h = one_note old u.notes (note.Borrow k borrow lease offset moved) u.state (spoken_borrow (old ++ u.notes) u.state taken.0 (note.Borrow k borrow lease offset moved) (ap saying.Borrows (sym taken.2)) taken.1 taken.3 h)
move_spoken g s c old _ _ (Offers k u new) h = offered_spoken s c old k u new h
move_spoken g s c old _ _ (Takes on k buffer u t) h = taken_spoken g s c old on k buffer u t h
move_spoken g s c old _ _ (Closes i e u ends) h = closed_spoken old i e u ends h

-- at the start nothing was said, whatever devices there are
pub spoken_start : (g : Setup) (devices : List DeviceData) → IsSpoken [] record (start g) { devices = devices }
unfolding start
spoken_start g devices = record {
  kept = none;
  held = λ i. refl;
  next = refl;
  told = none_said none refl (λ i. refl) refl;
  unique = λ c d x. absurd (omega (arith, x.1));
  good = λ before s after e. never before s after e;
}
  where
    none : CallBook
    none = record { clients = []; held = λ i. None; left = 0 }

    never : (before : List Saying) (s : Saying) (after : List Saying) → [] ≡ before ++ s ∷ after → IsGoodSaying before s
    never [] s after e = absurd cc
    never (b ∷ bs) s after e = absurd cc
