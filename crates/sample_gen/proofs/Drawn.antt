-- One more draw, and one more of each list.
use Rattle.std.proofs.Common.{◌≡◌, ℕ, suc, ◌+◌, ◌-◌, ◌*◌, ◌/◌, ◌%◌, ◌<◌, ◌≤◌, List, [], ◌∷◌, ◌++◌, map, refl, ap, ◌∙◌, sym, arith, true, nat_lt}
use Rattle.std.proofs.lemmas.Bool.Decides.{nat_tests}
use Rattle.std.proofs.lemmas.List.{map-append}
use Rattle.std.proofs.lemmas.List.FromFn.{map-range_with_len_more}
use Rattle.std.specs.List.{range_with_len}
use Rattle.run_script.specs.declared.events.Event.TheVariants.{Irq}
use Rattle.run_script.specs.Scripts.{Listed}
use Rattle.sample_gen.specs.Draws.{next, number, draw}
use Rattle.sample_gen.specs.Sample.{draws_before, event, events_to, first_draw, offset, source_of}
use Rattle.sample_gen.specs.Sources.{server_lines, text_of}
use Rattle.app_toml.proofs.Related.{above_zero}

pub after : (seed x y k m : ℕ) → x ≡ number seed k → y ≡ next x → m ≡ k + 1 → y ≡ number seed m
unfolding number
after seed x y k m e f g = let n : m ≡ suc k = omega (arith, g) in f ∙ ap next e ∙ ap (number seed) (sym n)

pub drawn : (seed y k n r : ℕ) → y ≡ number seed k → r ≡ y / 65536 % n → r ≡ draw seed k n
unfolding draw
drawn seed y k n r e f = f ∙ ap (λ z. z / 65536 % n) e

-- one more element of a list that is made number by number
pub one_more : {X Y : Type 0} (g : Y → X) (f : ℕ → X) (xs ys : List Y) (y : Y) (n : ℕ) → map g xs ≡ map f (range_with_len 0 n) → g y ≡ f n → ys ≡ xs ++ y ∷ [] → map g ys ≡ map f (range_with_len 0 (n + 1))
one_more g f xs ys y n e h i =
    ap (map g) i ∙ map-append g xs (y ∷ []) ∙ ap (λ zs. zs ++ g y ∷ []) e
    ∙ ap (λ z. map f (range_with_len 0 n) ++ z ∷ []) h ∙ sym (map-range_with_len_more f 0 n n (omega arith))

more_events : (seed n : ℕ) → events_to seed (n + 1) ≡ events_to seed n ++ event seed (1 + n) ∷ []
unfolding events_to
more_events seed n = map-range_with_len_more (event seed) 1 n (1 + n) refl

pub one_event_more : (seed k x y z turn line : ℕ) (items new : List Listed) → 1 ≤ k → x ≡ number seed (125 + 2 * k) → y ≡ next x → z ≡ next y → turn ≡ 16 * k + y / 65536 % 16 → line ≡ z / 65536 % 8 → items ≡ events_to seed (k - 1) → new ≡ items ++ (turn, Irq line) ∷ [] → (z ≡ number seed (125 + 2 * (k + 1))) × (new ≡ events_to seed ((k + 1) - 1))
one_event_more seed k x y z turn line items new h e f g a b i j =
    let y' : y ≡ number seed (126 + 2 * k) = after seed x y (125 + 2 * k) (126 + 2 * k) e f (omega arith) in
    let z' : z ≡ number seed (127 + 2 * k) = after seed y z (126 + 2 * k) (127 + 2 * k) y' g (omega arith) in
    let m : 1 + (k - 1) ≡ k = omega (arith, h) in
    let t : turn ≡ (event seed k).0 = a ∙ ap (λ d. 16 * k + d) (drawn seed y (126 + 2 * k) 16 _ y' refl) in
    let l : line ≡ draw seed (127 + 2 * k) 8 = drawn seed z (127 + 2 * k) 8 line z' b in
    let same : event seed k ≡ event seed (1 + (k - 1)) = ap (event seed) (sym m) in
    let one : (turn, Irq line) ≡ event seed k = rw (t, l) refl in
    let p : 127 + 2 * k ≡ 125 + 2 * (k + 1) = omega arith in
    let q : (k - 1) + 1 ≡ (k + 1) - 1 = omega (arith, h) in
    let r : items ++ (turn, Irq line) ∷ [] ≡ events_to seed (k - 1) ++ event seed (1 + (k - 1)) ∷ [] = ap (λ es. es ++ (turn, Irq line) ∷ []) i ∙ ap (λ e. events_to seed (k - 1) ++ e ∷ []) (one ∙ same) in
    (z' ∙ ap (number seed) p, j ∙ r ∙ sym (more_events seed (k - 1)) ∙ ap (events_to seed) q)

pub no_events : (seed : ℕ) → events_to seed 0 ≡ []
unfolding events_to
no_events seed = refl

seven : (n i : ℕ) → n ≡ 7 + 5 * (i - 8) → 8 + 5 * (i - 8) ≡ n + 1
seven n i e = omega (arith, e)

twelve : (i : ℕ) → 8 + 5 * (i - 8) + 4 ≡ 12 + 5 * (i - 8)
twelve i = omega arith

five_more : (i : ℕ) → 8 ≤ i → 7 + 5 * ((i + 1) - 8) ≡ 12 + 5 * (i - 8)
five_more i h = omega (arith, h)

pub client_draws : (i : ℕ) → 8 ≤ i → draws_before i ≡ 7 + 5 * (i - 8)
client_draws i h = grind (arith, nat_tests, h)

pub next_draws : (i : ℕ) → 8 ≤ i → draws_before (i + 1) ≡ 12 + 5 * (i - 8)
next_draws i h = client_draws (i + 1) (omega (arith, h)) ∙ five_more i h

-- the numbers of a client, from the one before them on
pub record Five (seed i x y z u v w : ℕ) : Type 0 where
  pub a : y ≡ number seed (first_draw i)
  pub b : z ≡ number seed (first_draw i + 1)
  pub c : u ≡ number seed (first_draw i + 2)
  pub d : v ≡ number seed (first_draw i + 3)
  pub e : w ≡ number seed (first_draw i + 4)
  pub last : w ≡ number seed (draws_before (i + 1))

pub five_draws : (seed i x y z u v w : ℕ) → 8 ≤ i → x ≡ number seed (draws_before i) → y ≡ next x → z ≡ next y → u ≡ next z → v ≡ next u → w ≡ next v → Five seed i x y z u v w
five_draws seed i x y z u v w h e f g j k l =
    let m : first_draw i ≡ draws_before i + 1 = seven (draws_before i) i (client_draws i h) in
    let a : y ≡ number seed (first_draw i) = after seed x y (draws_before i) (first_draw i) e f m in
    let b : z ≡ number seed (first_draw i + 1) = after seed y z (first_draw i) (first_draw i + 1) a g refl in
    let c : u ≡ number seed (first_draw i + 2) = after seed z u (first_draw i + 1) (first_draw i + 2) b j (omega arith) in
    let d : v ≡ number seed (first_draw i + 3) = after seed u v (first_draw i + 2) (first_draw i + 3) c k (omega arith) in
    let p : w ≡ number seed (first_draw i + 4) = after seed v w (first_draw i + 3) (first_draw i + 4) d l (omega arith) in
    let q : first_draw i + 4 ≡ draws_before (i + 1) = twelve i ∙ sym (next_draws i h) in
    record { a = a; b = b; c = c; d = d; e = p; last = p ∙ ap (number seed) q }

below_8 : (i : ℕ) → i < 8 → nat_lt i 8 ≡ true
below_8 i h = grind (arith, nat_tests)

server_draws : (i : ℕ) → i < 8 → draws_before i ≡ i - 1
server_draws i h = rw (below_8 i h) refl

draws_after : (i : ℕ) → 0 < i → i < 8 → draws_before (i + 1) ≡ i
draws_after i h l = grind (arith, nat_tests)

after_less : (i n : ℕ) → 0 < i → n ≡ i - 1 → i ≡ n + 1
after_less i n h e = omega (arith, h, e)

pub one_draw : (seed i x y : ℕ) → 0 < i → i < 8 → x ≡ number seed (draws_before i) → y ≡ next x → y ≡ number seed i
one_draw seed i x y h l e f = after seed x y (draws_before i) i e f (after_less i (draws_before i) h (server_draws i l))

pub one_draw_next : (seed i x y : ℕ) → 0 < i → i < 8 → x ≡ number seed (draws_before i) → y ≡ next x → y ≡ number seed (draws_before (i + 1))
one_draw_next seed i x y h l e f = one_draw seed i x y h l e f ∙ ap (number seed) (sym (draws_after i h l))

pub source_server : (seed i : ℕ) → 0 < i → i < 8 → source_of seed i ≡ text_of (server_lines (offset seed i))
source_server seed i h l = rw (above_zero i h, below_8 i l) refl
