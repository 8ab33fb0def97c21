-- Steps of a search, one after the other.
use Rattle.std.proofs.Common.{◌≡◌, ◌∙◌, ℕ, zero, suc, ◌+◌, ◌<◌, ◌≤◌, ◌⊎◌, inl, inr, true, get_or, List, [], ◌∷◌, length, Option, Some, None, refl, sym, ap, subst, arith}
use Rattle.std.specs.Prelude.{Contains, slice_index_or}
use Rattle.std.specs.List.{All, AllZip}
use Rattle.std.proofs.lemmas.Option.{none-some}
use Rattle.std.proofs.lemmas.List.Elements.{All-nil, All-cons, All-head, All-tail, All-weaker}
use Rattle.task_table.specs.model.State.{State}
use Rattle.board_core.specs.Data.{Shows}
use Rattle.board_core.specs.Stands.{turns_of}
use Rattle.run_question.specs.declared.asked.Property.{Property}
use Rattle.explore_core.specs.declared.given.Given.{Given}
use Rattle.explore_core.specs.declared.position.Position.{Position}
use Rattle.explore_core.specs.declared.search.Search.{Search}
use Rattle.explore_core.specs.declared.seen.Seen.{Seen}
use Rattle.explore_core.specs.declared.seen.Slot.{Slot}
use Rattle.explore_core.specs.declared.verdict.Verdict.{Verdict}
use Rattle.explore_core.specs.declared.verdict.Verdict.TheVariants.{Open, Broken}
use Rattle.explore_core.specs.declared.ways.Way.{Way}
use Rattle.explore_core.specs.Answers.{Asking}
use Rattle.explore_core.specs.Schedules.{Arrival, Schedule}
use Rattle.explore_core.specs.Searching.{AreOwed, AreSeen, Ends, GoesOn, HasEnded, HasRoomFor, IsAsked, IsAt, IsCleanIn, IsLedTo, IsOwed, IsUnfound, LeadAll, Leads, first_left, found_at, found_schedule, nothing_left}
use Rattle.explore_core.specs.Walked.{Course}
use Rattle.explore_core.specs.Watching.{Judged, is_open, live, live_at, live_from, watched_of}
use Rattle.explore_core.specs.Ways.{schedule_in}

-- ## one property

abbrev First : Type 0
First = Option (Schedule × ℕ)

led_then : (old new : Judged) (v : Verdict) (before between after : Option Schedule) (first middle left : First) → IsLedTo before between first middle v →
    ((turn : ℕ) → v ≡ Broken turn → (new.1 ≡ Broken turn) × (after ≡ between)) → (is_open v ≡ true → IsLedTo between after middle left new.1) → IsLedTo before after first left new.1
led_then old new (Open kept) before between after first middle left one stays then = go new.1 (then refl)
  where
    go : (u : Verdict) → IsLedTo between after middle left u → IsLedTo before after first left u
    go (Open k) h = (h.0 ∙ one.0, one.1 ∙ h.1)
    go (Broken turn) h = (h.0, h.1, one.1 ∙ h.2)
led_then old new (Broken turn) before between after first middle left one stays then =
    let h = stays turn refl in
    subst (λ (u : Verdict). IsLedTo before after first left u) (sym h.0) (one.0, h.1 ∙ one.1, one.2)

pub leads_then : (old mid new : Judged) (before between after : Option Schedule) (first middle left : First) → Leads old mid before between first middle → Leads mid new between after middle left → Leads old new before after first left
leads_then old mid new before between after first middle left h k = record {
  property = k.property ∙ h.property;
  broken = λ turn is.
      let one = h.broken turn is in
      let two = k.broken turn one.0 in
      (two.0, two.1 ∙ one.1);
  looked = λ is. led_then old new mid.1 before between after first middle left (h.looked is) k.broken k.looked;
}

pub leads_itself : (w : Judged) (before : Option Schedule) (first : First) → Leads w w before before first first
leads_itself w before first = record {
  property = refl;
  broken = λ turn is. (is, refl);
  looked = λ is. go w.1 is;
}
  where
    go : (v : Verdict) → is_open v ≡ true → IsLedTo before before first first v
    go (Open kept) is = (refl, refl)
    go (Broken turn) is = absurd (let no_way : ⊥ = cc in no_way)

-- ## all properties

abbrev Founds : Type 0
Founds = List (Option (List (Option Way)))

pub lead_then : (a : Asking) (old mid new : List Judged) (before between after : Founds) (first middle left : Judged → First) → LeadAll a old mid before between first middle → LeadAll a mid new between after middle left → LeadAll a old new before after first left
lead_then a old mid new before between after first middle left h k = record {
  long = k.long ∙ h.long;
  each = λ place w lt.
      let long = h.long in
      leads_then (get_or old place w) (get_or mid place w) (get_or new place w) (found_at a before place) (found_at a between place) (found_at a after place) (first (get_or old place w)) (middle (get_or mid place w)) (left (get_or new place w))
      (h.each place w lt) (k.each place w (omega (arith, lt, long)));
}

pub lead_itself : (a : Asking) (ws : List Judged) (found : Founds) (first : Judged → First) → LeadAll a ws ws found found first first
lead_itself a ws found first = record {
  long = refl;
  each = λ place w lt. leads_itself (get_or ws place w) (found_at a found place) (first (get_or ws place w));
}

-- ## which are looked for

-- a place of those behind is one further among all
further : (ws : List Judged) (w : Judged) (place : ℕ) (p : ℕ × Property) → (k : ℕ) × (p.0 ≡ place + 1 + k) × (k < length ws) × ((v : Judged) → (is_open (get_or ws k v).1 ≡ true) × ((get_or ws k v).0 ≡ p.1)) →
    (k : ℕ) × (p.0 ≡ place + k) × (k < length (w ∷ ws)) × ((v : Judged) → (is_open (get_or (w ∷ ws) k v).1 ≡ true) × ((get_or (w ∷ ws) k v).0 ≡ p.1))
further ws w place p h = let at = h.1 in let lt = h.2 in (suc h.0, omega (arith, at), omega (arith, lt), h.3)

-- one that is looked for has its place, and is so there
pub live_there : (ws : List Judged) (place : ℕ) (p : ℕ × Property) → Contains (live_from place ws) p → (k : ℕ) × (p.0 ≡ place + k) × (k < length ws) × ((w : Judged) → (is_open (get_or ws k w).1 ≡ true) × ((get_or ws k w).0 ≡ p.1))
live_there [] place p has = let lt = has.1 in absurd (omega (arith, lt))
live_there (w ∷ ws) place p has = go w.1 refl (live_there ws (place + 1) p) has
  where
    go : (v : Verdict) → w.1 ≡ v → (Contains (live_from (place + 1) ws) p → (k : ℕ) × (p.0 ≡ place + 1 + k) × (k < length ws) × ((u : Judged) → (is_open (get_or ws k u).1 ≡ true) × ((get_or ws k u).0 ≡ p.1))) →
        Contains (live_at place w.0 v (live_from (place + 1) ws)) p → (k : ℕ) × (p.0 ≡ place + k) × (k < length (w ∷ ws)) × ((u : Judged) → (is_open (get_or (w ∷ ws) k u).1 ≡ true) × ((get_or (w ∷ ws) k u).0 ≡ p.1))
    go (Broken turn) e rest h = further ws w place p (rest h)
    go (Open kept) e rest (zero, lt, is) =
        let at : place ≡ p.0 = ap (λ (q : ℕ × Property). q.0) is in
        (0, omega (arith, at), omega arith, λ u. (ap (λ (v : Verdict). is_open v) e, ap (λ (q : ℕ × Property). q.1) is))
    go (Open kept) e rest (suc k, lt, is) = further ws w place p (rest (k, omega (arith, lt), is))

-- and each that is so is looked for
pub there_live : (ws : List Judged) (place k : ℕ) (w : Judged) → k < length ws → is_open (get_or ws k w).1 ≡ true → Contains (live_from place ws) (place + k, (get_or ws k w).0)
there_live [] place k w lt is = absurd (omega (arith, lt))
there_live (v ∷ ws) place zero w lt is = go v.1 is
  where
    go : (u : Verdict) → is_open u ≡ true → Contains (live_at place v.0 u (live_from (place + 1) ws)) (place + zero, v.0)
    go (Open kept) e = (0, omega arith, let same : place ≡ place + zero = omega arith in ap (λ (n : ℕ). (n, v.0)) same)
    go (Broken turn) e = absurd (let no_way : ⊥ = cc in no_way)
there_live (v ∷ ws) place (suc k) w lt is = go v.1 (there_live ws (place + 1) k w (omega (arith, lt)) is)
  where
    go : (u : Verdict) → Contains (live_from (place + 1) ws) (place + 1 + k, (get_or ws k w).0) → Contains (live_at place v.0 u (live_from (place + 1) ws)) (place + suc k, (get_or ws k w).0)
    go (Open kept) h = let moved = subst (λ (n : ℕ). Contains (live_from (place + 1) ws) (n, (get_or ws k w).0)) (let same : place + 1 + k ≡ place + suc k = omega arith in same) h in let at = moved.1 in (suc moved.0, omega (arith, at), moved.2)
    go (Broken turn) h = subst (λ (n : ℕ). Contains (live_from (place + 1) ws) (n, (get_or ws k w).0)) (let same : place + 1 + k ≡ place + suc k = omega arith in same) h

-- what is open later was open before
was_open : (old new : Judged) (before after : Option Schedule) (first left : First) → Leads old new before after first left → is_open new.1 ≡ true → is_open old.1 ≡ true
was_open old new before after first left h is = go old.1 refl
  where
    go : (v : Verdict) → old.1 ≡ v → is_open v ≡ true
    go (Open kept) e = refl
    go (Broken turn) e = absurd (let one = (h.broken turn e).0 in let two : is_open (Broken turn) ≡ true = ap (λ (u : Verdict). is_open u) (sym one) ∙ is in let no_way : ⊥ = cc in no_way)

no_schedule : (arrivals : List Arrival) (found : Option (List (Option Way))) → found_schedule arrivals found ≡ None → found ≡ None
no_schedule arrivals None is = refl
no_schedule arrivals (Some ways) is = absurd (none-some (schedule_in arrivals ways) (sym is))

still_unfound : (before after : Option Schedule) (first left : First) (v : Verdict) → is_open v ≡ true → IsLedTo before after first left v → after ≡ before
still_unfound before after first left (Open kept) is h = h.0
still_unfound before after first left (Broken turn) is h = absurd (let no_way : ⊥ = cc in no_way)

-- of what is looked for later nothing is found, if so before
pub unfound_on : (a : Asking) (old new : List Judged) (before after : Founds) (first left : Judged → First) → LeadAll a old new before after first left → IsUnfound old before → IsUnfound new after
unfound_on a old new before after first left h none place w lt is =
    let long = h.long in
    let within : place < length old = omega (arith, lt, long) in
    let here = h.each place w within in
    let was = was_open (get_or old place w) (get_or new place w) (found_at a before place) (found_at a after place) (first (get_or old place w)) (left (get_or new place w)) here is in
    let same = still_unfound (found_at a before place) (found_at a after place) (first (get_or old place w)) (left (get_or new place w)) (get_or new place w).1 is (here.looked was) in
    no_schedule a.question.arrivals (slice_index_or after place None) (same ∙ ap (found_schedule a.question.arrivals) (none place w within was))

-- what is looked for later was looked for before
pub fewer_live : (a : Asking) (old new : List Judged) (before after : Founds) (first left : Judged → First) → LeadAll a old new before after first left → (p : ℕ × Property) → Contains (live new) p → Contains (live old) p
fewer_live a old new before after first left h p has =
    let one = live_there new 0 p has in
    let k = one.0 in
    let lt = one.2 in
    let long = h.long in
    let within : k < length old = omega (arith, lt, long) in
    let w = ghost_of in
    let here = h.each k w within in
    let was = was_open (get_or old k w) (get_or new k w) (found_at a before k) (found_at a after k) (first (get_or old k w)) (left (get_or new k w)) here (one.3 w).0 in
    let there = there_live old 0 k w within was in
    let same : (get_or old k w).0 ≡ p.1 = sym here.property ∙ (one.3 w).1 in
    let at : 0 + k ≡ p.0 = let is = one.1 in omega (arith, is) in
    subst (λ (q : ℕ × Property). Contains (live old) q) (λ i. (at i, same i)) there
  where
    ghost_of : Judged
    ghost_of = (p.1, Open 0)

-- ## slots

module _ (a : Asking) where
  pub fewer_clean : (old new : List Judged) (slot : Slot) → ((p : ℕ × Property) → Contains (live new) p → Contains (live old) p) → IsCleanIn a old slot → IsCleanIn a new slot
  fewer_clean old new slot among clean used = λ s spelled course from p looked. clean used s spelled course from p (among p looked)

  pub fewer_seen : (turn : ℕ) (old new : List Judged) (seen : Seen) → ((p : ℕ × Property) → Contains (live new) p → Contains (live old) p) → AreSeen a turn old seen → AreSeen a turn new seen
  fewer_seen turn old new seen among h = All-weaker (λ (slot : Slot). IsCleanIn a old slot ⊎ (slot.turn ≤ turn)) (λ (slot : Slot). IsCleanIn a new slot ⊎ (slot.turn ≤ turn)) go seen.slots.items h
    where
      go : (slot : Slot) → IsCleanIn a old slot ⊎ (slot.turn ≤ turn) → IsCleanIn a new slot ⊎ (slot.turn ≤ turn)
      go slot (inl clean) = inl (fewer_clean old new slot among clean)
      go slot (inr le) = inr le

-- what is left of one that is looked for later
led_open : (before after : Option Schedule) (first left : First) (v : Verdict) → is_open v ≡ true → IsLedTo before after first left v → first ≡ left
led_open before after first left (Open kept) is h = h.1
led_open before after first left (Broken turn) is h = absurd (let no_way : ⊥ = cc in no_way)

pub none_before : (a : Asking) (old new : List Judged) (before after : Founds) (first left : Judged → First) → LeadAll a old new before after first left → (p : ℕ × Property) → Contains (live new) p → (v : Judged) → left (get_or new p.0 v) ≡ None → first (get_or old p.0 v) ≡ None
none_before a old new before after first left h p looked v none =
    let one = live_there new 0 p looked in
    let k = one.0 in
    let is = one.1 in
    let at : k ≡ p.0 = omega (arith, is) in
    let lt = one.2 in
    let long = h.long in
    let here = h.each k v (omega (arith, lt, long)) in
    let open_now = (one.3 v).0 in
    let was = was_open (get_or old k v) (get_or new k v) (found_at a before k) (found_at a after k) (first (get_or old k v)) (left (get_or new k v)) here open_now in
    let same = led_open (found_at a before k) (found_at a after k) (first (get_or old k v)) (left (get_or new k v)) (get_or new k v).1 open_now (here.looked was) in
    ap (λ (n : ℕ). first (get_or old n v)) (sym at) ∙ same ∙ ap (λ (n : ℕ). left (get_or new n v)) at ∙ none

zip_then : {A B C : Type 0} (R : A → B → Type 0) (S : B → C → Type 0) (T : A → C → Type 0) → ((x : A) (y : B) (z : C) → R x y → S y z → T x z) → (xs : List A) (ys : List B) (zs : List C) → AllZip R xs ys → AllZip S ys zs → AllZip T xs zs
zip_then R S T f [] [] [] h k = tt
zip_then R S T f (x ∷ xs) (y ∷ ys) (z ∷ zs) h k = (f x y z h.0 k.0, zip_then R S T f xs ys zs h.1 k.1)
zip_then R S T f [] [] (z ∷ zs) h k = absurd k
zip_then R S T f [] (y ∷ ys) zs h k = absurd h
zip_then R S T f (x ∷ xs) [] zs h k = absurd h
zip_then R S T f (x ∷ xs) (y ∷ ys) [] h k = absurd k

zip_all : {A : Type 0} (P Q : A → Type 0) (R : A → A → Type 0) → ((x y : A) → P x → R x y → Q y) → (xs ys : List A) → All P xs → AllZip R xs ys → All Q ys
zip_all P Q R f [] [] all h = All-nil Q
zip_all P Q R f (x ∷ xs) (y ∷ ys) all h = All-cons Q y ys (f x y (All-head P x xs all) h.0) (zip_all P Q R f xs ys (All-tail P x xs all) h.1)
zip_all P Q R f [] (y ∷ ys) all h = absurd h
zip_all P Q R f (x ∷ xs) [] all h = absurd h

pub zip_itself : {A : Type 0} (R : A → A → Type 0) → ((x : A) → R x x) → (xs : List A) → AllZip R xs xs
zip_itself R f [] = tt
zip_itself R f (x ∷ xs) = (f x, zip_itself R f xs)

module _ {X : Type 0} {H : X → Type 0} (shown : Shows X H) (given : Given) where
  -- where it stands is its turn
  turn_at : (a : Asking) (at : Position) (came : Course) (s : State) (w : Search X H) → IsAt shown a at came s w → turns_of w.board ≡ s.turn
  turn_at a at came s w h = h.way.stands.holds.turns

  abbrev IsNow : Asking → Position → Course → Search X H → Slot → Slot → Type 0
  IsNow a at came w before now = (now ≡ before) ⊎ (IsCleanIn a (watched_of w.watch) now ⊎ IsOwed shown a at came w now)

  abbrev IsKeptAs : Asking → Search X H → Slot → Slot → Type 0
  IsKeptAs a w before now = (now ≡ before) ⊎ IsCleanIn a (watched_of w.watch) now

  pub goes_itself : (at : Position) (w : Search X H) → GoesOn shown given at at w w
  goes_itself at w = record {
    led = λ a came s asked h seen. record { state = s; stands = h; events = refl; leads = lead_itself a (watched_of w.watch) w.found (first_left a at came s) };
    owed = λ a came s asked h seen. zip_itself (IsNow a at came w) (λ slot. inl refl) w.seen.slots.items;
  }

  module _ (a : Asking) (asked : IsAsked a given) (came : Course) where
    -- what is owed at a position is owed where the search goes on from there
    owed_on : (at later : Position) (old new : Search X H) (slot : Slot) → turns_of old.board ≤ turns_of new.board → GoesOn shown given at later old new → ((u : State) → IsAt shown a at came u old → AreSeen a u.turn (watched_of old.watch) old.seen) → IsOwed shown a at came old slot → IsOwed shown a later came new slot
    owed_on at later old new slot le goes seen h = record {
      turn = let early = h.turn in omega (arith, early, le);
      clean = λ s spelled.
          let one = h.clean s spelled in
          let led = goes.led a came one.0 asked one.1 (seen one.0 one.1) in (
            led.state,
            led.stands,
            λ p looked v none course from.
                let was = fewer_live a (watched_of old.watch) (watched_of new.watch) old.found new.found (first_left a at came one.0) (first_left a later came led.state) led.leads p looked in
                one.2 p was v (none_before a (watched_of old.watch) (watched_of new.watch) old.found new.found (first_left a at came one.0) (first_left a later came led.state) led.leads p looked v none) course from,
          );
    }

    -- and clean where nothing is left
    owed_clean : (at : Position) (old new : Search X H) (slot : Slot) → ((u : State) → IsAt shown a at came u old → HasEnded shown a at came u old new) → IsOwed shown a at came old slot → IsCleanIn a (watched_of new.watch) slot
    owed_clean at old new slot ends h used = λ s spelled course from p looked.
        let one = h.clean s spelled in
        let led = (ends one.0 one.1).leads in
        let was = fewer_live a (watched_of old.watch) (watched_of new.watch) old.found new.found (first_left a at came one.0) nothing_left led p looked in
        let v : Judged = (p.1, Open 0) in
        one.2 p was v (none_before a (watched_of old.watch) (watched_of new.watch) old.found new.found (first_left a at came one.0) nothing_left led p looked v refl) course from

    -- the table on the way
    pub seen_on : (at later : Position) (s u : State) (old new : Search X H) → s.turn ≤ u.turn → turns_of new.board ≡ u.turn → ((p : ℕ × Property) → Contains (live (watched_of new.watch)) p → Contains (live (watched_of old.watch)) p) →
        AreSeen a s.turn (watched_of old.watch) old.seen → AreOwed shown a later came new old.seen → AreSeen a u.turn (watched_of new.watch) new.seen
    seen_on at later s u old new le at_turn among seen owed =
        zip_all (λ (slot : Slot). IsCleanIn a (watched_of old.watch) slot ⊎ (slot.turn ≤ s.turn)) (λ (slot : Slot). IsCleanIn a (watched_of new.watch) slot ⊎ (slot.turn ≤ u.turn)) (IsNow a later came new) go old.seen.slots.items new.seen.slots.items seen owed
      where
        was : (before : Slot) → IsCleanIn a (watched_of old.watch) before ⊎ (before.turn ≤ s.turn) → IsCleanIn a (watched_of new.watch) before ⊎ (before.turn ≤ u.turn)
        was before (inl clean) = inl (fewer_clean a (watched_of old.watch) (watched_of new.watch) before among clean)
        was before (inr early) = inr (omega (arith, early, le))

        go : (before now : Slot) → IsCleanIn a (watched_of old.watch) before ⊎ (before.turn ≤ s.turn) → IsNow a later came new before now → IsCleanIn a (watched_of new.watch) now ⊎ (now.turn ≤ u.turn)
        go before now h (inl same) = subst (λ (slot : Slot). IsCleanIn a (watched_of new.watch) slot ⊎ (slot.turn ≤ u.turn)) (sym same) (was before h)
        go before now h (inr (inl clean)) = inl clean
        go before now h (inr (inr owing)) = inr (let early = owing.turn in omega (arith, early, at_turn))

  -- the table is seen in each state where it stands
  each_seen : (a : Asking) (at : Position) (came : Course) (s : State) (w : Search X H) → IsAt shown a at came s w → AreSeen a s.turn (watched_of w.watch) w.seen → (u : State) → IsAt shown a at came u w → AreSeen a u.turn (watched_of w.watch) w.seen
  each_seen a at came s w stands seen u at_u =
      let same : s.turn ≡ u.turn = sym (turn_at a at came s w stands) ∙ turn_at a at came u w at_u in
      subst (λ (n : ℕ). AreSeen a n (watched_of w.watch) w.seen) same seen

  pub seen_there : (at between : Position) (old mid : Search X H) → turns_of old.board ≤ turns_of mid.board → (h : GoesOn shown given at between old mid) → (a : Asking) (came : Course) (s : State) (asked : IsAsked a given) (stands : IsAt shown a at came s old) (seen : AreSeen a s.turn (watched_of old.watch) old.seen) →
      AreSeen a (h.led a came s asked stands seen).state.turn (watched_of mid.watch) mid.seen
  seen_there at between old mid le h a came s asked stands seen =
      let one = h.led a came s asked stands seen in
      let first = turn_at a at came s old stands in
      let second = turn_at a between came one.state mid one.stands in
      let among = fewer_live a (watched_of old.watch) (watched_of mid.watch) old.found mid.found (first_left a at came s) (first_left a between came one.state) one.leads in
      seen_on a asked came at between s one.state old mid (omega (arith, first, second, le)) second among seen (h.owed a came s asked stands seen)

  pub goes_then : (at between later : Position) (old mid new : Search X H) → turns_of old.board ≤ turns_of mid.board → turns_of mid.board ≤ turns_of new.board → GoesOn shown given at between old mid → GoesOn shown given between later mid new → GoesOn shown given at later old new
  goes_then at between later old mid new before le h k = record {
    led = λ a came s asked stands seen.
        let one = h.led a came s asked stands seen in
        let two = k.led a came one.state asked one.stands (seen_there at between old mid before h a came s asked stands seen) in
        record {
          state = two.state;
          stands = two.stands;
          events = two.events ∙ one.events;
          leads = lead_then a (watched_of old.watch) (watched_of mid.watch) (watched_of new.watch) old.found mid.found new.found (first_left a at came s) (first_left a between came one.state) (first_left a later came two.state) one.leads two.leads;
        };
    owed = λ a came s asked stands seen.
        let one = h.led a came s asked stands seen in
        let there = seen_there at between old mid before h a came s asked stands seen in
        let two = k.led a came one.state asked one.stands there in
        let among = fewer_live a (watched_of mid.watch) (watched_of new.watch) mid.found new.found (first_left a between came one.state) (first_left a later came two.state) two.leads in
        zip_then (IsNow a between came mid) (IsNow a later came new) (IsNow a later came new) (one_slot a came asked (each_seen a between came one.state mid one.stands there) among) old.seen.slots.items mid.seen.slots.items new.seen.slots.items (h.owed a came s asked stands seen) (k.owed a came one.state asked one.stands there);
  }
    where
      was : (a : Asking) (came : Course) → IsAsked a given → ((u : State) → IsAt shown a between came u mid → AreSeen a u.turn (watched_of mid.watch) mid.seen) → ((p : ℕ × Property) → Contains (live (watched_of new.watch)) p → Contains (live (watched_of mid.watch)) p) → (before middle : Slot) → IsNow a between came mid before middle → IsNow a later came new before middle
      was a came asked seen among before middle (inl same) = inl same
      was a came asked seen among before middle (inr (inl clean)) = inr (inl (fewer_clean a (watched_of mid.watch) (watched_of new.watch) middle among clean))
      was a came asked seen among before middle (inr (inr owing)) = inr (inr (owed_on a asked came between later mid new middle le k seen owing))

      one_slot : (a : Asking) (came : Course) → IsAsked a given → ((u : State) → IsAt shown a between came u mid → AreSeen a u.turn (watched_of mid.watch) mid.seen) → ((p : ℕ × Property) → Contains (live (watched_of new.watch)) p → Contains (live (watched_of mid.watch)) p) → (before middle now : Slot) → IsNow a between came mid before middle → IsNow a later came new middle now → IsNow a later came new before now
      one_slot a came asked seen among before middle now one (inl same) = subst (λ (slot : Slot). IsNow a later came new before slot) (sym same) (was a came asked seen among before middle one)
      one_slot a came asked seen among before middle now one (inr rest) = inr rest

  pub ends_then : (at between : Position) (old mid new : Search X H) → turns_of old.board ≤ turns_of mid.board → GoesOn shown given at between old mid → Ends shown given between mid new → Ends shown given at old new
  ends_then at between old mid new le h k = record {
    ended = λ a came s asked stands seen.
        let one = h.led a came s asked stands seen in
        let two = k.ended a came one.state asked one.stands (seen_there at between old mid le h a came s asked stands seen) in
        record {
          leads = lead_then a (watched_of old.watch) (watched_of mid.watch) (watched_of new.watch) old.found mid.found new.found (first_left a at came s) (first_left a between came one.state) nothing_left one.leads two.leads;
          written = two.written;
          room = subst (λ (n : ℕ). HasRoomFor n new) one.events two.room;
          state = two.state;
          stands = two.stands;
          sites = two.sites;
        };
    kept = λ a came s asked stands seen.
        let one = h.led a came s asked stands seen in
        let there = seen_there at between old mid le h a came s asked stands seen in
        let two = k.ended a came one.state asked one.stands there in
        let among = fewer_live a (watched_of mid.watch) (watched_of new.watch) mid.found new.found (first_left a between came one.state) nothing_left two.leads in
        let each : (u : State) → IsAt shown a between came u mid → HasEnded shown a between came u mid new = λ u at_u. k.ended a came u asked at_u (each_seen a between came one.state mid one.stands there u at_u) in
        zip_then (IsNow a between came mid) (IsKeptAs a new) (IsKeptAs a new) (one_slot a came asked among each) old.seen.slots.items mid.seen.slots.items new.seen.slots.items (h.owed a came s asked stands seen) (k.kept a came one.state asked one.stands there);
  }
    where
      was : (a : Asking) (came : Course) → IsAsked a given → ((p : ℕ × Property) → Contains (live (watched_of new.watch)) p → Contains (live (watched_of mid.watch)) p) → ((u : State) → IsAt shown a between came u mid → HasEnded shown a between came u mid new) →
          (before middle : Slot) → IsNow a between came mid before middle → IsKeptAs a new before middle
      was a came asked among each before middle (inl same) = inl same
      was a came asked among each before middle (inr (inl clean)) = inr (fewer_clean a (watched_of mid.watch) (watched_of new.watch) middle among clean)
      was a came asked among each before middle (inr (inr owing)) = inr (owed_clean a asked came between mid new middle each owing)

      one_slot : (a : Asking) (came : Course) → IsAsked a given → ((p : ℕ × Property) → Contains (live (watched_of new.watch)) p → Contains (live (watched_of mid.watch)) p) → ((u : State) → IsAt shown a between came u mid → HasEnded shown a between came u mid new) →
          (before middle now : Slot) → IsNow a between came mid before middle → IsKeptAs a new middle now → IsKeptAs a new before now
      one_slot a came asked among each before middle now one (inl same) = subst (λ (slot : Slot). IsKeptAs a new before slot) (sym same) (was a came asked among each before middle one)
      one_slot a came asked among each before middle now one (inr clean) = inr clean
