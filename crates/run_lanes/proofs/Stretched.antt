-- The stretches of a list of activities.
use Rattle.std.proofs.Common.{◌≡◌, ℕ, zero, suc, ◌+◌, Bool, true, false, List, [], ◌∷◌, ◌++◌, length, refl, sym, ap, ◌∙◌, add-one, arith, if◌then◌else◌, ◌-◌, ◌==◌}
use Rattle.std.specs.Prelude.{replicate}
use Rattle.std.proofs.lemmas.List.{append-nil}
use Rattle.std.proofs.lemmas.Bool.Decides.{nat_tests}
use Rattle.std.specs.List.{flat_map}
use Rattle.std.proofs.lemmas.Bool.{eqb-true}
use Rattle.run_lanes.specs.declared.activity.Activity.{Activity}
use Rattle.run_lanes.specs.declared.activity.Activity.TheVariants as activity
use Rattle.run_lanes.specs.declared.lanes.LaneStretch.{LaneStretch}
use Rattle.run_lanes.specs.Stretches.{Alternate, ended, joined, stretches, told, turns_in}
use Rattle.run_lanes.specs.Timeline.{nothing_yet}
use Rattle.run_lanes.specs.Activities.{activity_number, is_same}

by_number : ℕ → Activity
by_number n =
    if n == 0 then activity.Runs else if n == 1 then activity.Ready else if n == 2 then activity.Offers else if n == 3 then activity.Awaits else if n == 4 then activity.Listens else if n == 5 then activity.Faulted else activity.Stopped

number_back : (w : Activity) → by_number (activity_number w) ≡ w
unfolding by_number
number_back activity.Runs = refl
number_back activity.Ready = refl
number_back activity.Offers = refl
number_back activity.Awaits = refl
number_back activity.Listens = refl
number_back activity.Faulted = refl
number_back activity.Stopped = refl

pub same_activity : (w v : Activity) → is_same w v ≡ true → w ≡ v
same_activity w v is = sym (number_back w) ∙ ap by_number (eqb-true (activity_number w) (activity_number v) is) ∙ number_back v

abbrev activities_in : Activity × ℕ → List Activity
activities_in s = replicate s.1 s.0

-- ## they tile

tile_by : (w : Activity) (s : Activity × ℕ) (ss : List (Activity × ℕ)) (b : Bool) → is_same w s.0 ≡ b → flat_map activities_in (if b then (s.0, s.1 + 1) ∷ ss else (w, 1) ∷ s ∷ ss) ≡ w ∷ flat_map activities_in (s ∷ ss)
tile_by w s ss true is =
    let more : replicate (s.1 + 1) s.0 ≡ s.0 ∷ replicate s.1 s.0 = ap (λ (n : ℕ). replicate n s.0) (add-one s.1) in
    ap (λ (l : List Activity). l ++ flat_map activities_in ss) more ∙ ap (λ (v : Activity). v ∷ (replicate s.1 s.0 ++ flat_map activities_in ss)) (sym (same_activity w s.0 is))
tile_by w s ss false is = refl

tile_joined : (w : Activity) (ss : List (Activity × ℕ)) → flat_map activities_in (joined w ss) ≡ w ∷ flat_map activities_in ss
tile_joined w [] = refl
tile_joined w (s ∷ ss) = tile_by w s ss (is_same w s.0) refl

pub tile : (ws : List Activity) → flat_map activities_in (stretches ws) ≡ ws
unfolding stretches
tile [] = refl
tile (w ∷ ws) = tile_joined w (stretches ws) ∙ ap (λ (l : List Activity). w ∷ l) (tile ws)

-- ## their turns sum up

turns_by : (w : Activity) (s : Activity × ℕ) (ss : List (Activity × ℕ)) (b : Bool) → turns_in (if b then (s.0, s.1 + 1) ∷ ss else (w, 1) ∷ s ∷ ss) ≡ suc (turns_in (s ∷ ss))
unfolding turns_in
turns_by w s ss true = omega arith
turns_by w s ss false = omega arith

turns_joined : (w : Activity) (ss : List (Activity × ℕ)) → turns_in (joined w ss) ≡ suc (turns_in ss)
unfolding turns_in
turns_joined w [] = refl
turns_joined w (s ∷ ss) = turns_by w s ss (is_same w s.0)

pub all_turns : (ws : List Activity) → turns_in (stretches ws) ≡ length ws
unfolding stretches turns_in
all_turns [] = refl
all_turns (w ∷ ws) = turns_joined w (stretches ws) ∙ ap suc (all_turns ws)

-- ## neighbours differ

longer : (s : Activity × ℕ) (n : ℕ) (ss : List (Activity × ℕ)) → Alternate (s ∷ ss) → Alternate ((s.0, n) ∷ ss)
longer s n [] h = tt
longer s n (t ∷ ss) h = h

alternate_by : (w : Activity) (s : Activity × ℕ) (ss : List (Activity × ℕ)) (b : Bool) → is_same w s.0 ≡ b → Alternate (s ∷ ss) → Alternate (if b then (s.0, s.1 + 1) ∷ ss else (w, 1) ∷ s ∷ ss)
alternate_by w s ss true is h = longer s (s.1 + 1) ss h
alternate_by w s ss false is h = (is, h)

alternate_joined : (w : Activity) (ss : List (Activity × ℕ)) → Alternate ss → Alternate (joined w ss)
alternate_joined w [] h = tt
alternate_joined w (s ∷ ss) h = alternate_by w s ss (is_same w s.0) refl h

pub alternate : (ws : List Activity) → Alternate (stretches ws)
unfolding stretches
alternate [] = tt
alternate (w ∷ ws) = alternate_joined w (stretches ws) (alternate ws)

-- ## a timeline tells them

same_is : (w : Activity) → is_same w w ≡ true
same_is activity.Runs = refl
same_is activity.Ready = refl
same_is activity.Offers = refl
same_is activity.Awaits = refl
same_is activity.Listens = refl
same_is activity.Faulted = refl
same_is activity.Stopped = refl

-- the first stretch of activities is of the first activity
first_by : (w : Activity) (s : Activity × ℕ) (ss : List (Activity × ℕ)) (b : Bool) → is_same w s.0 ≡ b → (n : ℕ) × (rest : List (Activity × ℕ)) × ((if b then (s.0, s.1 + 1) ∷ ss else (w, 1) ∷ s ∷ ss) ≡ (w, n) ∷ rest)
first_by w s ss true is = (s.1 + 1, ss, ap (λ (v : Activity). (v, s.1 + 1) ∷ ss) (sym (same_activity w s.0 is)))
first_by w s ss false is = (1, s ∷ ss, refl)

first_joined : (w : Activity) (ss : List (Activity × ℕ)) → (n : ℕ) × (rest : List (Activity × ℕ)) × (joined w ss ≡ (w, n) ∷ rest)
first_joined w [] = (1, [], refl)
first_joined w (s ∷ ss) = first_by w s ss (is_same w s.0) refl

-- the same activity once more before its own stretch
joined_same : (w : Activity) (n : ℕ) (rest : List (Activity × ℕ)) → joined w ((w, n) ∷ rest) ≡ (w, n + 1) ∷ rest
joined_same w n rest = ap (λ (b : Bool). if b then (w, n + 1) ∷ rest else (w, 1) ∷ (w, n) ∷ rest) (same_is w)

-- so many turns of an activity before other activities, of which the first is another one, or before none
alone : (v : Activity) (n : ℕ) → stretches (replicate (suc n) v) ≡ (v, n + 1) ∷ []
unfolding stretches
alone v zero = refl
alone v (suc n) = ap (joined v) (alone v n) ∙ joined_same v (n + 1) [] ∙ ap (λ (m : ℕ). (v, m + 1) ∷ []) (add-one n)

before : (v w : Activity) (ws : List Activity) (n : ℕ) → is_same v w ≡ false → stretches (replicate (suc n) v ++ (w ∷ ws)) ≡ (v, n + 1) ∷ stretches (w ∷ ws)
unfolding stretches
before v w ws zero differ =
    let f = first_joined w (stretches ws) in
    ap (joined v) f.2 ∙ ap (λ (b : Bool). if b then (w, f.0 + 1) ∷ f.1 else (v, 1) ∷ (w, f.0) ∷ f.1) differ ∙ ap (λ (l : List (Activity × ℕ)). (v, 1) ∷ l) (sym f.2)
before v w ws (suc n) differ =
    ap (joined v) (before v w ws n differ) ∙ joined_same v (n + 1) (stretches (w ∷ ws)) ∙ ap (λ (m : ℕ). (v, m + 1) ∷ stretches (w ∷ ws)) (add-one n)

shifted : (v : Activity) (n : ℕ) (ws : List Activity) → replicate (suc n) v ++ ws ≡ replicate n v ++ (v ∷ ws)
shifted v zero ws = refl
shifted v (suc n) ws = ap (λ (l : List Activity). v ∷ l) (shifted v n ws)

abbrev since_turn : Activity → ℕ → LaneStretch
since_turn w turn = record { activity = w; since = turn }

ended_none : (v : Activity) (turn : ℕ) → ended turn (since_turn v turn) ≡ []
ended_none v turn = let same : (turn == turn) ≡ true = grind (arith, nat_tests) in ap (λ (b : Bool). if b then [] else (v, turn - turn) ∷ []) same

ended_some : (v : Activity) (turn since n : ℕ) → since + suc n ≡ turn → ended turn (since_turn v since) ≡ (v, n + 1) ∷ []
ended_some v turn since n at =
    let other : (since == turn) ≡ false = grind (arith, nat_tests) in
    let long : turn - since ≡ n + 1 = omega (arith, at) in
    ap (λ (b : Bool). if b then [] else (v, turn - since) ∷ []) other ∙ ap (λ (m : ℕ). (v, m) ∷ []) long

ended_is : (v : Activity) (turn since n : ℕ) → since + n ≡ turn → ended turn (since_turn v since) ≡ stretches (replicate n v)
unfolding stretches
ended_is v turn since zero at = let same : since ≡ turn = omega (arith, at) in ap (λ (k : ℕ). ended turn (since_turn v k)) same ∙ ended_none v turn
ended_is v turn since (suc n) at = ended_some v turn since n at ∙ sym (alone v n)

over_is : (v w : Activity) (turn since n : ℕ) (ws : List Activity) → since + n ≡ turn → is_same v w ≡ false → ended turn (since_turn v since) ++ stretches (w ∷ ws) ≡ stretches (replicate n v ++ (w ∷ ws))
over_is v w turn since zero ws at differ = let same : since ≡ turn = omega (arith, at) in ap (λ (l : List (Activity × ℕ)). l ++ stretches (w ∷ ws)) (ap (λ (k : ℕ). ended turn (since_turn v k)) same ∙ ended_none v turn)
over_is v w turn since (suc n) ws at differ = ap (λ (l : List (Activity × ℕ)). l ++ stretches (w ∷ ws)) (ended_some v turn since n at) ∙ sym (before v w ws n differ)

told_by : (v w : Activity) (turn since n : ℕ) (ws : List Activity) → ((u : Activity) (t k m : ℕ) → k + m ≡ t → told t (since_turn u k) ws ≡ stretches (replicate m u ++ ws)) → since + n ≡ turn → (b : Bool) → is_same v w ≡ b →
    (if b then [] else ended turn (since_turn v since)) ++ told (turn + 1) (if b then since_turn v since else since_turn w turn) ws ≡ stretches (replicate n v ++ (w ∷ ws))
told_by v w turn since n ws rest at true is =
    rest v (turn + 1) since (suc n) (omega (arith, at)) ∙ ap stretches (shifted v n ws) ∙ ap (λ (u : Activity). stretches (replicate n v ++ (u ∷ ws))) (same_activity v w is)
told_by v w turn since n ws rest at false is =
    ap (λ (l : List (Activity × ℕ)). ended turn (since_turn v since) ++ l) (rest w (turn + 1) turn 1 refl) ∙ over_is v w turn since n ws at is

told_from : (ws : List Activity) (v : Activity) (turn since n : ℕ) → since + n ≡ turn → told turn (since_turn v since) ws ≡ stretches (replicate n v ++ ws)
unfolding told
told_from [] v turn since n at = ended_is v turn since n at ∙ ap stretches (sym (append-nil (replicate n v)))
told_from (w ∷ ws) v turn since n at = told_by v w turn since n ws (λ u t k m e. told_from ws u t k m e) at (is_same v w) refl

pub told_all : (turn : ℕ) (ws : List Activity) → told turn (nothing_yet turn) ws ≡ stretches ws
told_all turn ws = told_from ws activity.Ready turn turn 0 (omega arith)
