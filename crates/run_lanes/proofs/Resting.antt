-- What a timeline has of idle turns on end. Only the first one may end stretches; in the others each task does
-- what it has been doing.
use Rattle.std.proofs.Common.{◌≡◌, ◌<◌, ℕ, zero, suc, ◌+◌, Bool, true, false, cond, List, [], ◌∷◌, ◌++◌, length, refl, sym, ap, subst, ◌∙◌, arith}
use Rattle.std.specs.Prelude.{MatchResult, Result, Ok, Err}
use Rattle.std.specs.List.{flat_map, range_with_len}
use Rattle.std.specs.Io.KnownBytes.{Appends}
use Rattle.std.proofs.lemmas.List.FromFn.{fill_by_all, get_or-map-range_with_len, length-map-range_with_len}
use Rattle.outside_io.specs.Outside.{AppendsFront}
use Rattle.outside_io.specs.Seen.{SinkSeen}
use Rattle.outside_io.proofs.Pushing.{appends_none, front_wider}
use Rattle.run_lanes.specs.declared.activity.Activity.{Activity}
use Rattle.run_lanes.specs.declared.activity.Activity.TheVariants as activity
use Rattle.run_lanes.specs.declared.lanes.LaneStretch.{LaneStretch}
use Rattle.run_lanes.specs.Kept.{BreaksText, SeesText}
use Rattle.run_lanes.specs.Timeline.{Kept, activity_at, all_renewed, ended_text, kept_after, kept_at_end, notes_text, nothing_yet, offers_at_end, overs_text, renewed, stretch_at, turn_text, turns_text}
use Rattle.run_lanes.specs.Activities.{TurnSight, idle_turns, is_same}
use Rattle.run_lanes.proofs.Sights.{seen_turn}
use Rattle.run_lanes.proofs.Told.{sees_more, text_parts}

-- each task does what it has been doing
abbrev GoOn : List LaneStretch → List Activity → Type 0
GoOn ss ws = (i : ℕ) → i < length ss → is_same (stretch_at ss i).activity (activity_at ws i) ≡ true

same_itself : (w : Activity) → is_same w w ≡ true
same_itself activity.Runs = refl
same_itself activity.Ready = refl
same_itself activity.Offers = refl
same_itself activity.Awaits = refl
same_itself activity.Listens = refl
same_itself activity.Faulted = refl
same_itself activity.Stopped = refl

abbrev begun : ℕ → Activity → LaneStretch
begun turn w = record { activity = w; since = turn }

renewed_by : (turn : ℕ) (s : LaneStretch) (w : Activity) (b : Bool) → is_same s.activity w ≡ b → is_same (cond b s (begun turn w)).activity w ≡ true
renewed_by turn s w true is = is
renewed_by turn s w false is = same_itself w

-- it does after a turn
renewed_go : (turn : ℕ) (ss : List LaneStretch) (ws : List Activity) → GoOn (all_renewed turn ss ws) ws
unfolding all_renewed
renewed_go turn ss ws = λ i lt.
    let f : ℕ → LaneStretch = λ j. renewed turn (stretch_at ss j) (activity_at ws j) in
    let inside : i < length ss = omega (arith, lt, length-map-range_with_len f 0 (length ss)) in
    let is = get_or-map-range_with_len f 0 (length ss) i i (nothing_yet 0) inside (omega arith) in
    let P : LaneStretch → Type 0 = λ s. is_same s.activity (activity_at ws i) ≡ true in
    subst P (sym is) (renewed_by turn (stretch_at ss i) (activity_at ws i) (is_same (stretch_at ss i).activity (activity_at ws i)) refl)

flat_none : (f : ℕ → List ℕ) (a n : ℕ) → ((i : ℕ) → i < a + n → f i ≡ []) → flat_map f (range_with_len a n) ≡ []
flat_none f a zero none = refl
flat_none f a (suc n) none = ap (λ (l : List ℕ). l ++ flat_map f (range_with_len (a + 1) n)) (none a (omega arith)) ∙ flat_none f (a + 1) n (λ i lt. none i (omega (arith, lt)))

-- then no stretch ends, and they stay
overs_none : (turn : ℕ) (ss : List LaneStretch) (ws : List Activity) → GoOn ss ws → overs_text turn ss ws ≡ []
unfolding overs_text
overs_none turn ss ws go = flat_none _ 0 (length ss) (λ i lt. ap (λ (b : Bool). cond b [] (ended_text turn i (stretch_at ss i))) (go i (omega (arith, lt))))

all_stay : (turn : ℕ) (ss : List LaneStretch) (ws : List Activity) → GoOn ss ws → all_renewed turn ss ws ≡ ss
unfolding all_renewed
all_stay turn ss ws go =
    sym (fill_by_all (λ j. renewed turn (stretch_at ss j) (activity_at ws j)) ss (length ss) (nothing_yet 0) refl
    (λ k lt. sym (ap (λ (b : Bool). cond b (stretch_at ss k) (begun turn (activity_at ws k))) (go k lt))))

idle_text : (k : Kept) (turn n : ℕ) (ws : List Activity) → GoOn k.stretches ws → (turns_text k (idle_turns turn n ws) ≡ []) × (kept_at_end k (idle_turns turn n ws) ≡ k)
unfolding turns_text kept_at_end notes_text offers_at_end
idle_text k turn zero ws go = (refl, refl)
idle_text k turn (suc n) ws go =
    let t : TurnSight = seen_turn turn ws [] in
    let rest = idle_turns (turn + 1) n ws in
    let same : kept_after k t ≡ k = ap (λ (l : List LaneStretch). record { stretches = l; offers = k.offers }) (all_stay turn k.stretches ws go) in
    let none : turn_text k t ≡ [] = ap (λ (l : List ℕ). l ++ []) (overs_none turn k.stretches ws go) in
    let more = idle_text k (turn + 1) n ws go in (
      ap (λ (l : List ℕ). l ++ turns_text (kept_after k t) rest) none ∙ ap (λ (j : Kept). turns_text j rest) same ∙ more.0,
      ap (λ (j : Kept). kept_at_end j rest) same ∙ more.1,
    )

idle_sees : (k k' : Kept) (o p : SinkSeen) (turn n : ℕ) (ws : List Activity) → 0 < n → SeesText k o (seen_turn turn ws [] ∷ []) k' p → SeesText k o (idle_turns turn n ws) k' p
unfolding kept_at_end
idle_sees k k' o p turn zero ws some h = absurd (omega arith)
idle_sees k k' o p turn (suc n) ws some h =
    let rest = idle_turns (turn + 1) n ws in
    let P : Kept → Type 0 = λ j. GoOn j.stretches ws in
    let Q : List ℕ → Type 0 = λ l. Appends p.written p.written l in
    let none = idle_text k' (turn + 1) n ws (subst P (sym h.kept) (renewed_go turn k.stretches ws)) in
    sees_more k k' k' o p p (seen_turn turn ws [] ∷ []) rest h record { kept = sym none.1; pushed = subst Q (sym none.0) (appends_none p.written); later = omega arith }

idle_breaks : (k : Kept) (o p : SinkSeen) (turn n : ℕ) (ws : List Activity) → 0 < n → BreaksText k o (seen_turn turn ws [] ∷ []) p → BreaksText k o (idle_turns turn n ws) p
idle_breaks k o p turn zero ws some h = absurd (omega arith)
idle_breaks k o p turn (suc n) ws some h =
    let one : List TurnSight = seen_turn turn ws [] ∷ [] in
    let rest = idle_turns (turn + 1) n ws in
    let P : List ℕ → Type 0 = λ l. AppendsFront o.written p.written l in
    record {
      pushed = subst P (sym (text_parts k one rest)) (front_wider _ _ (turns_text k one) (turns_text (kept_at_end k one) rest) h.pushed);
      later = h.later;
      rose = h.rose;
    }

pub idle_told : {A E : Type 0} (r : Result A E) (k k' : Kept) (o p : SinkSeen) (turn n : ℕ) (ws : List Activity) → 0 < n →
    MatchResult r (λ _. SeesText k o (seen_turn turn ws [] ∷ []) k' p) (λ _. BreaksText k o (seen_turn turn ws [] ∷ []) p) →
    MatchResult r (λ _. SeesText k o (idle_turns turn n ws) k' p) (λ _. BreaksText k o (idle_turns turn n ws) p)
idle_told (Ok a) k k' o p turn n ws some h = idle_sees k k' o p turn n ws some h
idle_told (Err e) k k' o p turn n ws some h = idle_breaks k o p turn n ws some h
