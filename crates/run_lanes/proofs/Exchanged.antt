-- Calls, arrows and events, note by note and turn by turn.
use Rattle.std.proofs.Common.{◌≡◌, ◌<◌, ℕ, zero, suc, ◌+◌, Bool, true, false, List, [], ◌∷◌, ◌++◌, length, map, take, get_or, refl, sym, ap, subst, ◌∙◌, cond, append_assoc, add-one, arith}
use Rattle.std.specs.Prelude.{filter}
use Rattle.std.proofs.lemmas.Grind.{flat_map-append}
use Rattle.std.proofs.lemmas.List.{append-nil}
use Rattle.kernel_abi.specs.declared.Note.{Note}
use Rattle.lane_picture.specs.declared.parts.Arrow.{Arrow}
use Rattle.lane_picture.specs.declared.parts.TaskCalls.{TaskCalls}
use Rattle.run_lanes.specs.First.{IsFirst}
use Rattle.run_lanes.specs.Told.{TurnNote, all_arrows, all_events, arrows_of, arrows_of_notes, calls_after, calls_at_end, calls_at_end_of, events_of, is_event}
use Rattle.run_lanes.specs.declared.activity.Activity.{Activity}
use Rattle.run_lanes.specs.Activities.{TurnSight, idle_turns}

-- ## one note more

calls_suc : (turn : ℕ) (cs : List TaskCalls) (notes : List Note) (i : ℕ) (d : Note) → i < length notes → calls_at_end_of turn cs (take (suc i) notes) ≡ calls_after turn (calls_at_end_of turn cs (take i notes)) (get_or notes i d)
unfolding calls_at_end_of
calls_suc turn cs [] i d lt = absurd (omega arith)
calls_suc turn cs (n ∷ notes) zero d lt = refl
calls_suc turn cs (n ∷ notes) (suc i) d lt = calls_suc turn (calls_after turn cs n) notes i d (omega arith)

calls_more : (turn : ℕ) (cs : List TaskCalls) (notes : List Note) (i : ℕ) (d : Note) → i < length notes → calls_at_end_of turn cs (take (i + 1) notes) ≡ calls_after turn (calls_at_end_of turn cs (take i notes)) (get_or notes i d)
calls_more turn cs notes i d lt = rw add-one (calls_suc turn cs notes i d lt)

arrows_suc : (turn : ℕ) (all : List Note) (cs : List TaskCalls) (notes : List Note) (i : ℕ) (d : Note) → i < length notes →
    arrows_of_notes turn all cs (take (suc i) notes) ≡ arrows_of_notes turn all cs (take i notes) ++ arrows_of turn all (calls_at_end_of turn cs (take i notes)) (get_or notes i d)
unfolding arrows_of_notes calls_at_end_of
arrows_suc turn all cs [] i d lt = absurd (omega arith)
arrows_suc turn all cs (n ∷ notes) zero d lt = append-nil (arrows_of turn all cs n)
arrows_suc turn all cs (n ∷ notes) (suc i) d lt =
    ap (λ (l : List Arrow). arrows_of turn all cs n ++ l) (arrows_suc turn all (calls_after turn cs n) notes i d (omega arith)) ∙ sym (append_assoc (arrows_of turn all cs n) _ _)

arrows_more : (turn : ℕ) (all : List Note) (cs : List TaskCalls) (notes : List Note) (i : ℕ) (d : Note) → i < length notes →
    arrows_of_notes turn all cs (take (i + 1) notes) ≡ arrows_of_notes turn all cs (take i notes) ++ arrows_of turn all (calls_at_end_of turn cs (take i notes)) (get_or notes i d)
arrows_more turn all cs notes i d lt = rw add-one (arrows_suc turn all cs notes i d lt)

picked_by : {X Y : Type 0} (b : Bool) (f : X → Y) (x : X) (xs ys : List X) (cs : List Y) → map f xs ≡ map f ys ++ cs → map f (cond b (x ∷ xs) xs) ≡ map f (cond b (x ∷ ys) ys) ++ cs
picked_by true f x xs ys cs is = ap (λ (l : List _). f x ∷ l) is
picked_by false f x xs ys cs is = is

picked_suc : {X Y : Type 0} (p : X → Bool) (f : X → Y) (xs : List X) (i : ℕ) (d : X) → i < length xs → map f (filter p (take (suc i) xs)) ≡ map f (filter p (take i xs)) ++ map f (filter p (get_or xs i d ∷ []))
picked_suc p f [] i d lt = absurd (omega arith)
picked_suc p f (x ∷ xs) zero d lt = refl
picked_suc p f (x ∷ xs) (suc i) d lt = picked_by (p x) f x (filter p (take (suc i) xs)) (filter p (take i xs)) (map f (filter p (get_or xs i d ∷ []))) (picked_suc p f xs i d (omega arith))

pub picked_more : {X Y : Type 0} (p : X → Bool) (f : X → Y) (xs : List X) (i : ℕ) (d : X) → i < length xs → map f (filter p (take (i + 1) xs)) ≡ map f (filter p (take i xs)) ++ map f (filter p (get_or xs i d ∷ []))
picked_more p f xs i d lt = rw add-one (picked_suc p f xs i d lt)

pub calls_step : (turn : ℕ) (cs now after : List TaskCalls) (notes : List Note) (i : ℕ) (d : Note) → i < length notes → now ≡ calls_at_end_of turn cs (take i notes) → after ≡ calls_after turn now (get_or notes i d) →
    after ≡ calls_at_end_of turn cs (take (i + 1) notes)
calls_step turn cs now after notes i d lt so_far is = is ∙ ap (λ (l : List TaskCalls). calls_after turn l (get_or notes i d)) so_far ∙ sym (calls_more turn cs notes i d lt)

-- the first ones of the same
pub first_moved : {T : Type 0} (most : ℕ) (kept : List T) (capacity all : ℕ) (xs ys : List T) → xs ≡ ys → IsFirst most kept capacity all xs → IsFirst most kept capacity all ys
first_moved most kept capacity all xs ys is h = let P : List _ → Type 0 = λ l. IsFirst most kept capacity all l in subst P is h

first_step : {T : Type 0} (most : ℕ) (kept : List T) (capacity all : ℕ) (xs front one more : List T) → more ≡ front ++ one → IsFirst most kept capacity all ((xs ++ front) ++ one) → IsFirst most kept capacity all (xs ++ more)
first_step most kept capacity all xs front one more is h = first_moved most kept capacity all ((xs ++ front) ++ one) (xs ++ more) (append_assoc xs front one ∙ ap (λ (l : List _). xs ++ l) (sym is)) h

pub arrows_step : (most : ℕ) (kept : List Arrow) (capacity all : ℕ) (xs : List Arrow) (turn : ℕ) (all_notes : List Note) (cs now : List TaskCalls) (notes : List Note) (i : ℕ) (d : Note) → i < length notes → now ≡ calls_at_end_of turn cs (take i notes) →
    IsFirst most kept capacity all ((xs ++ arrows_of_notes turn all_notes cs (take i notes)) ++ arrows_of turn all_notes now (get_or notes i d)) → IsFirst most kept capacity all (xs ++ arrows_of_notes turn all_notes cs (take (i + 1) notes))
arrows_step most kept capacity all xs turn all_notes cs now notes i d lt so_far h =
    first_step most kept capacity all xs (arrows_of_notes turn all_notes cs (take i notes)) (arrows_of turn all_notes now (get_or notes i d)) (arrows_of_notes turn all_notes cs (take (i + 1) notes))
    (arrows_more turn all_notes cs notes i d lt ∙ ap (λ (l : List TaskCalls). arrows_of_notes turn all_notes cs (take i notes) ++ arrows_of turn all_notes l (get_or notes i d)) (sym so_far)) h

abbrev told_of : ℕ → List Note → List TurnNote
told_of turn notes = map (λ n. (turn, n)) (filter is_event notes)

pub events_step : (most : ℕ) (kept : List TurnNote) (capacity all : ℕ) (xs one : List TurnNote) (turn : ℕ) (notes : List Note) (i : ℕ) (d : Note) → i < length notes → one ≡ told_of turn (get_or notes i d ∷ []) →
    IsFirst most kept capacity all ((xs ++ told_of turn (take i notes)) ++ one) → IsFirst most kept capacity all (xs ++ told_of turn (take (i + 1) notes))
events_step most kept capacity all xs one turn notes i d lt is h =
    first_step most kept capacity all xs (told_of turn (take i notes)) one (told_of turn (take (i + 1) notes))
    (picked_more is_event (λ n. (turn, n)) notes i d lt ∙ ap (λ (l : List TurnNote). told_of turn (take i notes) ++ l) (sym is)) h

-- ## one turn more

pub events_turn : (turns : List TurnSight) (t : TurnSight) → all_events (turns ++ (t ∷ [])) ≡ all_events turns ++ events_of t
events_turn turns t = flat_map-append events_of turns (t ∷ []) ∙ ap (λ (l : List TurnNote). all_events turns ++ l) (append-nil (events_of t))

pub calls_turn : (cs : List TaskCalls) (turns : List TurnSight) (t : TurnSight) → calls_at_end cs (turns ++ (t ∷ [])) ≡ calls_at_end_of t.turn (calls_at_end cs turns) t.notes
unfolding calls_at_end
calls_turn cs [] t = refl
calls_turn cs (u ∷ turns) t = calls_turn (calls_at_end_of u.turn cs u.notes) turns t

pub arrows_turn : (cs : List TaskCalls) (turns : List TurnSight) (t : TurnSight) → all_arrows cs (turns ++ (t ∷ [])) ≡ all_arrows cs turns ++ arrows_of_notes t.turn t.notes (calls_at_end cs turns) t.notes
unfolding all_arrows calls_at_end
arrows_turn cs [] t = append-nil (arrows_of_notes t.turn t.notes cs t.notes)
arrows_turn cs (u ∷ turns) t =
    ap (λ (l : List Arrow). arrows_of_notes u.turn u.notes cs u.notes ++ l) (arrows_turn (calls_at_end_of u.turn cs u.notes) turns t) ∙ sym (append_assoc (arrows_of_notes u.turn u.notes cs u.notes) _ _)

-- ## idle turns on end, which note nothing

calls_rest : (cs : List TaskCalls) (turn n : ℕ) (ws : List Activity) → calls_at_end cs (idle_turns turn n ws) ≡ cs
unfolding calls_at_end calls_at_end_of
calls_rest cs turn zero ws = refl
calls_rest cs turn (suc n) ws = calls_rest cs (turn + 1) n ws

pub calls_idle : (cs : List TaskCalls) (turns : List TurnSight) (turn n : ℕ) (ws : List Activity) → calls_at_end cs (turns ++ idle_turns turn n ws) ≡ calls_at_end cs turns
unfolding calls_at_end
calls_idle cs [] turn n ws = calls_rest cs turn n ws
calls_idle cs (u ∷ turns) turn n ws = calls_idle (calls_at_end_of u.turn cs u.notes) turns turn n ws

arrows_rest : (cs : List TaskCalls) (turn n : ℕ) (ws : List Activity) → all_arrows cs (idle_turns turn n ws) ≡ []
unfolding all_arrows arrows_of_notes calls_at_end_of
arrows_rest cs turn zero ws = refl
arrows_rest cs turn (suc n) ws = arrows_rest cs (turn + 1) n ws

pub arrows_idle : (cs : List TaskCalls) (turns : List TurnSight) (turn n : ℕ) (ws : List Activity) → all_arrows cs (turns ++ idle_turns turn n ws) ≡ all_arrows cs turns
unfolding all_arrows
arrows_idle cs [] turn n ws = arrows_rest cs turn n ws
arrows_idle cs (u ∷ turns) turn n ws = ap (λ (l : List Arrow). arrows_of_notes u.turn u.notes cs u.notes ++ l) (arrows_idle (calls_at_end_of u.turn cs u.notes) turns turn n ws)

events_rest : (turn n : ℕ) (ws : List Activity) → all_events (idle_turns turn n ws) ≡ []
events_rest turn zero ws = refl
events_rest turn (suc n) ws = events_rest (turn + 1) n ws

pub events_idle : (turns : List TurnSight) (turn n : ℕ) (ws : List Activity) → all_events (turns ++ idle_turns turn n ws) ≡ all_events turns
events_idle turns turn n ws =
    flat_map-append events_of turns (idle_turns turn n ws) ∙ ap (λ (l : List TurnNote). all_events turns ++ l) (events_rest turn n ws) ∙ append-nil (all_events turns)
