-- The text of some turns, put together from parts.
use Rattle.std.proofs.Common.{◌≡◌, ◌≤◌, ℕ, ◌+◌, List, [], ◌∷◌, ◌++◌, length, map, take, drop, Option, refl, sym, ap, subst, ◌∙◌, append_assoc, arith}
use Rattle.std.proofs.lemmas.List.{append-nil}
use Rattle.std.specs.Io.KnownBytes.{Appends}
use Rattle.outside_io.specs.Outside.{AppendsFront, Rose}
use Rattle.outside_io.specs.Seen.{SinkSeen}
use Rattle.std.specs.List.{flat_map, range_with_len}
use Rattle.std.proofs.lemmas.List.FromFn.{length-map-range_with_len}
use Rattle.std.proofs.lemmas.List.{drop_all, length-map, take_all}
use Rattle.outside_io.proofs.Pushing.{appends_more, appends_none, front_more, front_wider}
use Rattle.run_lanes.specs.Kept.{BreaksText, SeesText}
use Rattle.run_lanes.specs.declared.lanes.Offer.{Offer}
use Rattle.run_lanes.specs.declared.lanes.LaneStretch.{LaneStretch}
use Rattle.run_lanes.specs.Timeline.{Kept, all_renewed, drawn_text, head_text, kept_after, kept_at_end, kept_none, name_text, notes_text, offers_at_end, orders_text, outside_text, overs_text, rests_text, tail_text, timeline_text, turn_text, turns_text}
use Rattle.run_lanes.proofs.Pushed.{lines_text}
use Rattle.task_table.specs.model.State.{State}
use Rattle.board_model.specs.Script.{Scenario}
use Rattle.run_lanes.specs.Activities.{TurnSight, sights}

kept_parts : (k : Kept) (a b : List TurnSight) → kept_at_end k (a ++ b) ≡ kept_at_end (kept_at_end k a) b
unfolding kept_at_end
kept_parts k [] b = refl
kept_parts k (t ∷ a) b = kept_parts (kept_after k t) a b

pub text_parts : (k : Kept) (a b : List TurnSight) → turns_text k (a ++ b) ≡ turns_text k a ++ turns_text (kept_at_end k a) b
unfolding turns_text kept_at_end
text_parts k [] b = refl
text_parts k (t ∷ a) b = ap (λ (w : List ℕ). turn_text k t ++ w) (text_parts (kept_after k t) a b) ∙ sym (append_assoc (turn_text k t) _ _)

pub sees_none : (k : Kept) (o : SinkSeen) → SeesText k o [] k o
unfolding turns_text kept_at_end
sees_none k o = record { kept = refl; pushed = appends_none o.written; later = omega arith }

pub sees_more : (u v w : Kept) (o p q : SinkSeen) (a b : List TurnSight) → SeesText u o a v p → SeesText v p b w q → SeesText u o (a ++ b) w q
sees_more u v w o p q a b h k =
    let P : List ℕ → Type 0 = λ t. Appends o.written q.written t in
    let Q : Kept → Type 0 = λ x. Appends p.written q.written (turns_text x b) in
    record {
      kept = k.kept ∙ ap (λ (x : Kept). kept_at_end x b) h.kept ∙ sym (kept_parts u a b);
      pushed = subst P (sym (text_parts u a b)) (appends_more _ _ _ _ _ h.pushed (subst Q h.kept k.pushed));
      later = omega (arith, h.later, k.later);
    }

pub breaks_after : (u v : Kept) (o p q : SinkSeen) (a b : List TurnSight) → SeesText u o a v p → BreaksText v p b q → BreaksText u o (a ++ b) q
breaks_after u v o p q a b h k =
    let P : List ℕ → Type 0 = λ t. AppendsFront o.written q.written t in
    let Q : Kept → Type 0 = λ x. AppendsFront p.written q.written (turns_text x b) in
    record {
      pushed = subst P (sym (text_parts u a b)) (front_more _ _ _ _ _ h.pushed (subst Q h.kept k.pushed));
      later = omega (arith, h.later, k.later);
      rose = omega (arith, h.later, k.rose);
    }

-- ## a turn

-- what a slice of a whole list leaves in its place
pub left_back : {X : Type 0} (xs ys : List X) (n : ℕ) → length xs ≡ length ys → n ≡ length ys → take n (xs ++ drop (length xs) ys) ≡ xs
left_back xs ys n same is =
    ap (λ (l : List _). take n (xs ++ l)) (drop_all (length xs) ys (omega (arith, same))) ∙ ap (take n) (append-nil xs) ∙ take_all n xs (omega (arith, same, is))

one_text : (k : Kept) (t : TurnSight) → turns_text k (t ∷ []) ≡ turn_text k t
unfolding turns_text
one_text k t = append-nil (turn_text k t)

-- a stretch was not pushed
pub seen_breaks : (k : Kept) (o p : SinkSeen) (t : TurnSight) (ss : List LaneStretch) → ss ≡ k.stretches → AppendsFront o.written p.written (overs_text t.turn ss t.activities) → o.faults ≤ p.faults → Rose o.faults p.faults → BreaksText k o (t ∷ []) p
seen_breaks k o p t ss is front later rose =
    let P : List ℕ → Type 0 = λ w. AppendsFront o.written p.written w in
    let Q : List LaneStretch → Type 0 = λ l. P (overs_text t.turn l t.activities) in
    record {
      pushed = subst P (sym (one_text k t)) (front_wider _ _ (overs_text t.turn k.stretches t.activities) (notes_text k.offers t.turn t.notes) (subst Q is front));
      later = later;
      rose = rose;
    }

-- they were, and not all of the notes
pub seen_fails : (k : Kept) (o p q : SinkSeen) (t : TurnSight) (ss : List LaneStretch) (os : List (Option Offer)) → ss ≡ k.stretches → os ≡ k.offers → Appends o.written p.written (overs_text t.turn ss t.activities) → o.faults ≤ p.faults →
    AppendsFront p.written q.written (notes_text os t.turn t.notes) → p.faults ≤ q.faults → Rose p.faults q.faults → BreaksText k o (t ∷ []) q
seen_fails k o p q t ss os same at first later then more rose =
    let P : List ℕ → Type 0 = λ w. AppendsFront o.written q.written w in
    let Q : List LaneStretch → Type 0 = λ l. Appends o.written p.written (overs_text t.turn l t.activities) in
    let R : List (Option Offer) → Type 0 = λ l. AppendsFront p.written q.written (notes_text l t.turn t.notes) in
    record {
      pushed = subst P (sym (one_text k t)) (front_more _ _ _ _ _ (subst Q same first) (subst R at then));
      later = omega (arith, later, more);
      rose = omega (arith, later, rose);
    }

-- they were, and the notes
pub seen_whole : (k k' : Kept) (o p q : SinkSeen) (t : TurnSight) (ss rs : List LaneStretch) (os : List (Option Offer)) → ss ≡ k.stretches → rs ≡ k.stretches → os ≡ k.offers → Appends o.written p.written (overs_text t.turn ss t.activities) → o.faults ≤ p.faults →
    Appends p.written q.written (notes_text os t.turn t.notes) → p.faults ≤ q.faults → k'.stretches ≡ all_renewed t.turn rs t.activities → k'.offers ≡ offers_at_end os t.notes → SeesText k o (t ∷ []) k' q
unfolding kept_at_end
seen_whole k k' o p q t ss rs os is same at first later then more renewed heard =
    let P : List ℕ → Type 0 = λ w. Appends o.written q.written w in
    let Q : List LaneStretch → Type 0 = λ l. Appends o.written p.written (overs_text t.turn l t.activities) in
    let R : List (Option Offer) → Type 0 = λ l. Appends p.written q.written (notes_text l t.turn t.notes) in
    record {
      kept = ap (λ (l : List LaneStretch). record { stretches = l; offers = k'.offers }) (renewed ∙ ap (λ (l : List LaneStretch). all_renewed t.turn l t.activities) same)
          ∙ ap (λ (l : List (Option Offer)). record { stretches = all_renewed t.turn k.stretches t.activities; offers = l }) (heard ∙ ap (λ (l : List (Option Offer)). offers_at_end l t.notes) at);
      pushed = subst P (sym (one_text k t)) (appends_more _ _ _ _ _ (subst Q is first) (subst R at then));
      later = omega (arith, later, more);
    }

-- ## a run

pub front_none : (a : Option (List ℕ)) (text : List ℕ) → AppendsFront a a text
front_none a text = ([], (text, refl), appends_none a)

pub drawn_breaks : (k : Kept) (o p : SinkSeen) (turn : ℕ) (turns front rest : List TurnSight) → turns ≡ front ++ rest → BreaksText k o front p → AppendsFront o.written p.written (drawn_text k turn turns)
unfolding drawn_text
drawn_breaks k o p turn turns front rest is h =
    let P : List ℕ → Type 0 = λ w. AppendsFront o.written p.written w in
    let text : turns_text k turns ≡ turns_text k front ++ turns_text (kept_at_end k front) rest = ap (turns_text k) is ∙ text_parts k front rest in
    front_wider _ _ (turns_text k turns) (rests_text (turn + length turns) (kept_at_end k turns).stretches ++ tail_text) (subst P (sym text) (front_wider _ _ (turns_text k front) (turns_text (kept_at_end k front) rest) h.pushed))

drawn_is : (k k' : Kept) (turn n : ℕ) (turns : List TurnSight) → k' ≡ kept_at_end k turns → n ≡ turn + length turns → turns_text k turns ++ (rests_text n k'.stretches ++ tail_text) ≡ drawn_text k turn turns
unfolding drawn_text
drawn_is k k' turn n turns kept at =
    ap (λ (x : Kept). turns_text k turns ++ (rests_text n x.stretches ++ tail_text)) kept ∙ ap (λ (m : ℕ). turns_text k turns ++ (rests_text m (kept_at_end k turns).stretches ++ tail_text)) at

pub drawn_fails : (k k' : Kept) (o p : SinkSeen) (c : Option (List ℕ)) (turn n : ℕ) (turns : List TurnSight) → SeesText k o turns k' p → n ≡ turn + length turns → AppendsFront p.written c (rests_text n k'.stretches ++ tail_text) → AppendsFront o.written c (drawn_text k turn turns)
drawn_fails k k' o p c turn n turns h at front =
    let P : List ℕ → Type 0 = λ w. AppendsFront o.written c w in
    subst P (drawn_is k k' turn n turns h.kept at) (front_more _ _ _ (turns_text k turns) (rests_text n k'.stretches ++ tail_text) h.pushed front)

pub drawn_whole : (k k' : Kept) (o p : SinkSeen) (c : Option (List ℕ)) (turn n : ℕ) (turns : List TurnSight) → SeesText k o turns k' p → n ≡ turn + length turns → Appends p.written c (rests_text n k'.stretches ++ tail_text) → Appends o.written c (drawn_text k turn turns)
drawn_whole k k' o p c turn n turns h at rest =
    let P : List ℕ → Type 0 = λ w. Appends o.written c w in
    subst P (drawn_is k k' turn n turns h.kept at) (appends_more _ _ _ (turns_text k turns) (rests_text n k'.stretches ++ tail_text) h.pushed rest)

-- the lines that were made are those of the names, and nothing is kept at the start
pub timeline_is : {X Y : Type 0} (f : X → List ℕ) (g : Y → List ℕ) (lines : List X) (names : List Y) (k : Kept) (x : Scenario) (left turn : ℕ) (s : State) → map f lines ≡ map (name_text (map g names)) (range_with_len 0 (length names)) →
    k ≡ kept_none (length names) turn → turn ≡ s.turn → (outside_text ++ flat_map f lines ++ orders_text (length lines + 1)) ++ drawn_text k s.turn (sights x left s) ≡ timeline_text (map g names) x left s
unfolding timeline_text head_text
timeline_is f g lines names k x left turn s made kept at =
    let n : length (map g names) ≡ length names = length-map names g in
    let same : map f lines ≡ map (name_text (map g names)) (range_with_len 0 (length (map g names))) = made ∙ ap (λ (m : ℕ). map (name_text (map g names)) (range_with_len 0 m)) (sym n) in
    let many : length lines ≡ length (map g names) = sym (length-map lines f) ∙ ap length same ∙ length-map-range_with_len (name_text (map g names)) 0 (length (map g names)) in
    let start : k ≡ kept_none (length (map g names)) s.turn = kept ∙ ap (λ (m : ℕ). kept_none m turn) (sym n) ∙ ap (λ (m : ℕ). kept_none (length (map g names)) m) at in
    ap (λ (w : List ℕ). (outside_text ++ w ++ orders_text (length lines + 1)) ++ drawn_text k s.turn (sights x left s)) (lines_text f (name_text (map g names)) lines (range_with_len 0 (length (map g names))) same)
    ∙ ap (λ (m : ℕ). (outside_text ++ flat_map (name_text (map g names)) (range_with_len 0 (length (map g names))) ++ orders_text (m + 1)) ++ drawn_text k s.turn (sights x left s)) many
    ∙ ap (λ (j : Kept). head_text (map g names) ++ drawn_text j s.turn (sights x left s)) start
