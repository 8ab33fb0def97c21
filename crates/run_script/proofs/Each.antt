-- The facts that are true of each turn.
use Rattle.std.proofs.Common.{◌≡◌, ℕ, suc, zero, ◌≤◌, ◌<◌, ◌%◌, List, [], ◌∷◌, length, get_or, filter, slice_get, Option, Some, None, refl, sym, arith, subst, Bool, true, false, nat_lt, ◌==◌, ◌&&◌, if◌then◌else◌, length-append, IfSome, OnSome}
use Rattle.std.specs.List.{All, count_by}
use Rattle.std.proofs.lemmas.List.{length-map}
use Rattle.std.proofs.lemmas.List.Elements.{All-append}
use Rattle.std.proofs.lemmas.List.Sums.{length-filter}
use Rattle.run_script.specs.declared.events.Event.{Event}
use Rattle.run_script.specs.declared.events.Event.TheVariants.{Tick}
use Rattle.run_script.specs.Facts.{Facts, HasLine, HasDevice, IsTurn}
use Rattle.run_script.specs.Scripts.{Listed, ScriptData, events_of, is_of, listed_of, ticks_of}
use Rattle.run_script.proofs.Coming.{by_test}

tick_has_line : HasLine Tick
tick_has_line line e = absurd (cc)

tick_has_device : HasDevice Tick
tick_has_device device byte e = absurd (cc)

one_has : (P : Event → Type 0) → P Tick → (i : ℕ) (d : Event) → i < length (Tick ∷ []) → P (get_or (Tick ∷ []) i d)
one_has P h zero d lt = h
one_has P h (suc i) d lt = absurd (omega arith)

pub record IsTick (events : List Event) : Type 0 where
  pub few : length events ≤ 1
  pub lines : All HasLine events
  pub devices : All HasDevice events

tick_or_none : (b : Bool) → IsTick (if b then Tick ∷ [] else [])
tick_or_none true = record { few = omega arith; lines = one_has HasLine tick_has_line; devices = one_has HasDevice tick_has_device }
tick_or_none false = record { few = omega arith; lines = λ i d lt. absurd (omega arith); devices = λ i d lt. absurd (omega arith) }

ticks : (every : Option ℕ) (turn : ℕ) → IsTick (ticks_of every turn)
ticks None turn = record { few = omega arith; lines = λ i d lt. absurd (omega arith); devices = λ i d lt. absurd (omega arith) }
ticks (Some period) turn = tick_or_none (nat_lt 0 turn && (turn % period == 0))

skip : (l : Listed) (ls : List Listed) (turn : ℕ) → is_of turn l ≡ false → listed_of turn ls ≡ listed_of turn (l ∷ ls)
skip l ls turn h = rw h refl

keep : (l : Listed) (ls : List Listed) (turn : ℕ) → is_of turn l ≡ true → l.1 ∷ listed_of turn ls ≡ listed_of turn (l ∷ ls)
keep l ls turn h = rw h refl

put : (P : Event → Type 0) (e : Event) (es : List Event) → P e → All P es → All P (e ∷ es)
put P e es h all zero d lt = h
put P e es h all (suc i) d lt = all i d (omega arith)

-- what holds of each listed event holds of those of a turn
listed_all : (P : Event → Type 0) (events : List Listed) (turn : ℕ) → ((i : ℕ) (d : Listed) → i < length events → P (get_or events i d).1) → All P (listed_of turn events)
listed_all P [] turn all = λ i d lt. absurd (omega arith)
listed_all P (l ∷ ls) turn all =
    let rest : All P (listed_of turn ls) = listed_all P ls turn (λ i d lt. all (suc i) d (omega arith)) in
    by_test (is_of turn l)
    (λ holds. subst (All P) (keep l ls turn holds) (put P l.1 (listed_of turn ls) (all 0 l (omega arith)) rest))
    (λ fails. subst (All P) (skip l ls turn fails) rest)

listed_few : (events : List Listed) (turn : ℕ) → count_by (is_of turn) events ≤ 8 → length (listed_of turn events) ≤ 8
listed_few events turn h = omega (arith, h, length-map (filter (is_of turn) events) (λ (l : Listed). l.1), length-filter (is_of turn) events)

pub each_turn : (script : ScriptData) → Facts script → (turn : ℕ) → IsTurn (events_of script turn)
each_turn script f turn =
    let tick = ticks script.every turn in
    let few : length (listed_of turn script.events) ≤ 8 = listed_few script.events turn (f.most_each turn) in
    record {
      few = omega (arith, tick.few, few, length-append (ticks_of script.every turn) (listed_of turn script.events));
      lines = All-append HasLine (ticks_of script.every turn) (listed_of turn script.events) tick.lines (listed_all HasLine script.events turn (λ i d lt. (f.listed i d lt).line));
      devices = All-append HasDevice (ticks_of script.every turn) (listed_of turn script.events) tick.devices (listed_all HasDevice script.events turn (λ i d lt. (f.listed i d lt).device));
    }

-- ---- of one event

within : (events : List Event) (k : ℕ) (x : Event) → slice_get events k ≡ Some x → k < length events
within [] k x h = absurd (cc)
within (e ∷ es) zero x h = omega arith
within (e ∷ es) (suc k) x h = let lt : k < length es = within es k x h in omega arith

pub few_events : (events : List Event) (k : ℕ) (r : Option Event) → r ≡ slice_get events k → length events ≤ 9 → OnSome r (k < 9)
few_events events k None e h = tt
few_events events k (Some x) e h = let lt : k < length events = within events k x (sym e) in omega arith

one_of : (P : Event → Type 0) (events : List Event) (k : ℕ) (x : Event) → slice_get events k ≡ Some x → All P events → P x
one_of P [] k x h all = absurd (cc)
one_of P (e ∷ es) zero x h all = let same : e ≡ x = (cc) in subst P same (all 0 e (omega arith))
one_of P (e ∷ es) (suc k) x h all = one_of P es k x h (λ i d lt. all (suc i) d (omega arith))

pub holds_of : (P : Event → Type 0) (events : List Event) (k : ℕ) (r : Option Event) → r ≡ slice_get events k → All P events → IfSome r P
holds_of P events k None e all = tt
holds_of P events k (Some x) e all = one_of P events k x (sym e) all
