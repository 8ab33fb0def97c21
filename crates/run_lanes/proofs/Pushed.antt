-- The texts of tasks, one push after another.
use Rattle.std.proofs.Common.{◌≡◌, ◌<◌, ℕ, ◌+◌, List, [], ◌∷◌, ◌++◌, length, map, get_or, Option, refl, sym, ap, subst, ◌∙◌, arith}
use Rattle.std.specs.Prelude.{Result, Err}
use Rattle.std.specs.List.{flat_map, range_with_len}
use Rattle.std.specs.Io.KnownBytes.{Appends}
use Rattle.std.proofs.lemmas.List.{get_or_default}
use Rattle.std.proofs.lemmas.List.FromFn.{map-range_with_len_more}
use Rattle.outside_io.specs.Outside.{AppendsFront, Pushes}
use Rattle.board_run.proofs.Appending.{range_fails, range_pushed}
use Rattle.run_lanes.specs.declared.lanes.LaneStretch.{LaneStretch}
use Rattle.run_lanes.specs.declared.activity.Activity.{Activity}
use Rattle.run_lanes.specs.Timeline.{activity_at, ended_text, name_text, nothing_yet, over_text, stretch_at}

over_is : (turn i : ℕ) (ss : List LaneStretch) (ws : List Activity) (d : LaneStretch) (w : Activity) → i < length ss → w ≡ activity_at ws i → over_text turn i (get_or ss i d) w ≡ over_text turn i (stretch_at ss i) (activity_at ws i)
over_is turn i ss ws d w lt is = ap (λ (s : LaneStretch). over_text turn i s w) (get_or_default ss i d (nothing_yet 0) lt) ∙ ap (λ (v : Activity). over_text turn i (stretch_at ss i) v) is

pub over_more : (a b c : Option (List ℕ)) (turn i : ℕ) (ss : List LaneStretch) (ws : List Activity) (d : LaneStretch) (w : Activity) → i < length ss → w ≡ activity_at ws i →
    Appends a b (flat_map (λ i. over_text turn i (stretch_at ss i) (activity_at ws i)) (range_with_len 0 i)) → Appends b c (over_text turn i (get_or ss i d) w) →
    Appends a c (flat_map (λ i. over_text turn i (stretch_at ss i) (activity_at ws i)) (range_with_len 0 (i + 1)))
over_more a b c turn i ss ws d w lt is p q =
    let P : List ℕ → Type 0 = λ t. Appends b c t in
    range_pushed a b c (λ i. over_text turn i (stretch_at ss i) (activity_at ws i)) i p (subst P (over_is turn i ss ws d w lt is) q)

pub over_fails : {T E : Type 0} (a b c : Option (List ℕ)) (turn i : ℕ) (ss : List LaneStretch) (ws : List Activity) (d : LaneStretch) (w : Activity) (r : Result T E) (x : E) → r ≡ Err x → i < length ss → w ≡ activity_at ws i →
    Appends a b (flat_map (λ i. over_text turn i (stretch_at ss i) (activity_at ws i)) (range_with_len 0 i)) → AppendsFront b c (over_text turn i (get_or ss i d) w) →
    Pushes a c (flat_map (λ i. over_text turn i (stretch_at ss i) (activity_at ws i)) (range_with_len 0 (length ss))) r
over_fails a b c turn i ss ws d w r x failed lt is p q =
    let P : List ℕ → Type 0 = λ t. AppendsFront b c t in
    range_fails a b c (λ i. over_text turn i (stretch_at ss i) (activity_at ws i)) i (length ss) r x failed lt p (subst P (over_is turn i ss ws d w lt is) q)

pub rest_more : (a b c : Option (List ℕ)) (turn i : ℕ) (ss : List LaneStretch) (d : LaneStretch) → i < length ss →
    Appends a b (flat_map (λ i. ended_text turn i (stretch_at ss i)) (range_with_len 0 i)) → Appends b c (ended_text turn i (get_or ss i d)) →
    Appends a c (flat_map (λ i. ended_text turn i (stretch_at ss i)) (range_with_len 0 (i + 1)))
rest_more a b c turn i ss d lt p q =
    let P : LaneStretch → Type 0 = λ s. Appends b c (ended_text turn i s) in
    range_pushed a b c (λ i. ended_text turn i (stretch_at ss i)) i p (subst P (get_or_default ss i d (nothing_yet 0) lt) q)

pub rest_fails : {T E : Type 0} (a b c : Option (List ℕ)) (turn i : ℕ) (ss : List LaneStretch) (d : LaneStretch) (r : Result T E) (x : E) → r ≡ Err x → i < length ss →
    Appends a b (flat_map (λ i. ended_text turn i (stretch_at ss i)) (range_with_len 0 i)) → AppendsFront b c (ended_text turn i (get_or ss i d)) →
    Pushes a c (flat_map (λ i. ended_text turn i (stretch_at ss i)) (range_with_len 0 (length ss))) r
rest_fails a b c turn i ss d r x failed lt p q =
    let P : LaneStretch → Type 0 = λ s. AppendsFront b c (ended_text turn i s) in
    range_fails a b c (λ i. ended_text turn i (stretch_at ss i)) i (length ss) r x failed lt p (subst P (get_or_default ss i d (nothing_yet 0) lt) q)

-- one name more
pub named_more : (names lines : List (List ℕ)) (i : ℕ) (line : List ℕ) → lines ≡ map (name_text names) (range_with_len 0 i) → line ≡ name_text names i → lines ++ (line ∷ []) ≡ map (name_text names) (range_with_len 0 (i + 1))
named_more names lines i line so_far is =
    ap (λ (l : List (List ℕ)). l ++ (line ∷ [])) so_far ∙ ap (λ (l : List ℕ). map (name_text names) (range_with_len 0 i) ++ (l ∷ [])) is ∙ sym (map-range_with_len_more (name_text names) 0 i i (omega arith))

-- the texts of lines that are a list's
pub lines_text : {X Y : Type 0} (f : X → List ℕ) (g : Y → List ℕ) (xs : List X) (ys : List Y) → map f xs ≡ map g ys → flat_map f xs ≡ flat_map g ys
lines_text f g [] [] is = refl
lines_text f g [] (y ∷ ys) is = absurd (cc)
lines_text f g (x ∷ xs) [] is = absurd (cc)
lines_text f g (x ∷ xs) (y ∷ ys) is =
    let first : f x ≡ g y = cc in
    let rest : map f xs ≡ map g ys = cc in
    ap (λ (w : List ℕ). w ++ flat_map f xs) first ∙ ap (λ (w : List ℕ). g y ++ w) (lines_text f g xs ys rest)
