-- Events of a line, listed one after another.
use Rattle.std.proofs.Common.{◌≡◌, ℕ, suc, ◌+◌, ◌-◌, ◌*◌, ◌/◌, ◌<◌, ◌≤◌, List, [], ◌∷◌, length, drop, get_or, map, replicate, refl, ap, ◌∙◌, sym, arith, Bool, true, false, nat_le, nat_lt, Result, Ok, Err, subst, is_some, if◌then◌else◌}
use Rattle.std.specs.Prelude.{slice_get}
use Rattle.std.specs.List.{insert}
use Rattle.std.proofs.lemmas.Bool.Decides.{nat_tests}
use Rattle.std.proofs.lemmas.List.{drop_more}
use Rattle.std.proofs.lemmas.Nat.{mul-le, div-add-mod'}
use Rattle.run_script.specs.declared.events.Event.{Event}
use Rattle.run_script.specs.declared.events.ScriptFault.{ScriptFault}
use Rattle.run_script.specs.declared.events.ScriptFault.TheVariants as fault
use Rattle.run_script.specs.Drafts.{AreTurns, Refuses}
use Rattle.run_script.specs.Scripts.{Listed, Reading, ScriptData, if_ok, inserted, is_full, listed_of, reading, with_listed, with_series, with_statement}
use Rattle.run_script.specs.Statements.{Lists}
use Rattle.run_script.specs.Facts.{Facts, IsListed}
use Rattle.run_script.proofs.Adding.{AreLater, counted, facts_more}

pub series_end : (script : ScriptData) (turn step : ℕ) → with_series script turn step [] ≡ Ok script
unfolding with_series
series_end script turn step = refl

series_more : (script : ScriptData) (turn step : ℕ) (event : Event) (events : List Event) → with_series script turn step (event ∷ events) ≡ if_ok (with_listed script turn event) (λ next. with_series next (turn + step) step events)
unfolding with_series
series_more script turn step event events = refl

pub goes_on : (script next : ScriptData) (turn step : ℕ) (event : Event) (events rest : List Event) → rest ≡ event ∷ events → with_listed script turn event ≡ Ok next → with_series script turn step rest ≡ with_series next (turn + step) step events
goes_on script next turn step event events rest e h =
    ap (with_series script turn step) e ∙ series_more script turn step event events
    ∙ ap (λ (o : Result ScriptData ℕ). if_ok o (λ next. with_series next (turn + step) step events)) h

pub stops_at : (script : ScriptData) (turn step line : ℕ) (event : Event) (events rest : List Event) (whole : Result ScriptData ℕ) (f : ScriptFault) → whole ≡ with_series script turn step rest → rest ≡ event ∷ events → Refuses f line (with_listed script turn event) → Refuses f line whole
stops_at script turn step line event events rest whole (fault.Refused cause place) w e h = (
  h.0,
  w ∙ ap (with_series script turn step) e ∙ series_more script turn step event events
      ∙ ap (λ (o : Result ScriptData ℕ). if_ok o (λ next. with_series next (turn + step) step events)) h.1,
)
stops_at script turn step line event events rest whole fault.Memory w e h = tt

pub one_time_more : (times k : ℕ) (event : Event) → k < times → replicate (times - k) event ≡ event ∷ replicate (times - (k + 1)) event
one_time_more times k event h =
    let e : times - k ≡ suc (times - (k + 1)) = omega arith in
    ap (λ n. replicate n event) e

pub no_time_left : (times k : ℕ) (event : Event) → times ≤ k → replicate (times - k) event ≡ []
no_time_left times k event h =
    let e : times - k ≡ 0 = omega arith in
    ap (λ n. replicate n event) e

pub one_byte_more : (f : ℕ → Event) (bytes : List ℕ) (k byte : ℕ) → k < length bytes → byte ≡ get_or bytes k 0 → map f (drop k bytes) ≡ f byte ∷ map f (drop (k + 1) bytes)
one_byte_more f bytes k byte h e =
    ap (map f) (drop_more bytes k 0 h) ∙ ap (λ b. f b ∷ map f (drop (k + 1) bytes)) (sym e)

pub further : (first step k : ℕ) → (first + k * step) + step ≡ first + (k + 1) * step
further first step k = omega arith

-- ---- whether there is room

pub full_by_turn : (script : ScriptData) (turn : ℕ) (b : Bool) → length script.events < 65536 → is_some (slice_get (listed_of turn script.events) 7) ≡ b → is_full script.events turn ≡ b
full_by_turn script turn b few e =
    let free : nat_le 65536 (length script.events) ≡ false = grind (arith, nat_tests) in
    rw free (sym (counted turn script.events) ∙ e)

pub full_of_all : (script : ScriptData) (turn : ℕ) → 65536 ≤ length script.events → is_full script.events turn ≡ true
full_of_all script turn many =
    let all : nat_le 65536 (length script.events) ≡ true = grind (arith, nat_tests) in
    rw all refl

pub refused_full : (script : ScriptData) (turn : ℕ) (event : Event) → is_full script.events turn ≡ true → with_listed script turn event ≡ Err 5
refused_full script turn event h = rw h refl

pub listed_free : (script : ScriptData) (next : List Listed) (turn : ℕ) (event : Event) → is_full script.events turn ≡ false → next ≡ inserted turn event script.events → with_listed script turn event ≡ Ok (record { every = script.every; events = next })
listed_free script next turn event h e = rw (h, e) refl

-- ---- the turns of a line

pub all_turns : (first step last times : ℕ) → 0 < step → step ≤ 1000000000 → first ≤ last → last < 1000000000 → times ≡ (last - first) / step + 1 → AreTurns first step times
all_turns first step last times some most le below e = record {
  most = most;
  each = λ k lt.
      let product = mul-le k step ((last - first) / step) step (omega arith) (omega arith) in
      omega (arith, product, div-add-mod' (last - first) step);
}

pub turns_of_bytes : (first step n : ℕ) → step ≤ 1000000000 → nat_le (first + (n - 1) * step) 999999999 ≡ true → AreTurns first step n
turns_of_bytes first step n most h = record {
  most = most;
  each = λ k lt.
      let end : first + (n - 1) * step ≤ 999999999 = grind (arith, nat_tests) in
      let product = mul-le k step (n - 1) step (omega arith) (omega arith) in
      omega (arith, product, end);
}

pub facts_by : (script : ScriptData) (next : List Listed) (turn at : ℕ) (event : Event) (b : Bool) → Facts script → IsListed (turn, event) → length script.events < 65536 →
    is_some (slice_get (listed_of turn script.events) 7) ≡ false → at ≤ length script.events → ((k : ℕ) (d : Listed) → k < at → (get_or script.events k d).0 ≤ turn) → AreLater turn at script.events →
    next ≡ (if b then insert script.events at (turn, event) else script.events) → Facts (record { every = script.every; events = next })
facts_by script next turn at event true f known few free le before later is = facts_more script next turn at event f known.line known.device known.turn few free le before later is
facts_by script next turn at event false f known few free le before later is = subst (λ (l : List Listed). Facts (record { every = script.every; events = l })) (sym is) f

-- ---- a line

pub taken : (r : Reading) (first step : ℕ) (events more : List Event) (next : ScriptData) → r.from ≤ first → more ≡ events → with_series r.script first step more ≡ Ok next → with_statement r (Lists first step events) ≡ Ok (reading first next)
taken r first step events more next le same h =
    let now : nat_lt first r.from ≡ false = grind (arith, nat_tests) in
    let series : with_series r.script first step events ≡ Ok next = ap (with_series r.script first step) (sym same) ∙ h in
    rw (now, series) refl

pub not_taken : (r : Reading) (first step line : ℕ) (events more : List Event) (f : ScriptFault) → r.from ≤ first → more ≡ events → Refuses f line (with_series r.script first step more) → Refuses f line (with_statement r (Lists first step events))
not_taken r first step line events more (fault.Refused cause place) le same h =
    let now : nat_lt first r.from ≡ false = grind (arith, nat_tests) in
    let series : with_series r.script first step events ≡ Err cause = ap (with_series r.script first step) (sym same) ∙ h.1 in
    (h.0, rw (now, series) refl)
not_taken r first step line events more fault.Memory le same h = tt
