-- What is left of a text that is pushed piece by piece.
use Rattle.std.proofs.Common.{◌≡◌, ℕ, List, [], ◌++◌, Option, sym, ap, subst, ◌∙◌, append_assoc}
use Rattle.std.specs.Prelude.{Result, Err}
use Rattle.std.specs.Io.KnownBytes.{Appends}
use Rattle.std.proofs.lemmas.List.{append-nil}
use Rattle.outside_io.specs.Outside.{AppendsFront, Pushes}
use Rattle.outside_io.proofs.Pushing.{appends_more, appends_none, part_fails, pushes_more}

-- a front of the whole text was pushed, and the rest is left
abbrev pub IsLeft : List ℕ → List ℕ → Option (List ℕ) → Option (List ℕ) → Type 0
IsLeft whole rest a b = (front : List ℕ) × (whole ≡ front ++ rest) × Appends a b front

pub all_left : (whole rest : List ℕ) (a : Option (List ℕ)) → whole ≡ rest → IsLeft whole rest a a
all_left whole rest a e = ([], e, appends_none a)

-- a piece more is pushed
pub less_left : (whole rest piece more : List ℕ) (a b c : Option (List ℕ)) → IsLeft whole rest a b → rest ≡ piece ++ more → Appends b c piece → IsLeft whole more a c
less_left whole rest piece more a b c l e p =
    (l.0 ++ piece, l.1 ∙ ap (λ (w : List ℕ). l.0 ++ w) e ∙ sym (append_assoc l.0 piece more), appends_more a b c l.0 piece l.2 p)

-- all is pushed
pub none_left : (whole rest : List ℕ) (a b : Option (List ℕ)) → IsLeft whole rest a b → rest ≡ [] → Appends a b whole
none_left whole rest a b l e =
    let is : whole ≡ l.0 = l.1 ∙ ap (λ (w : List ℕ). l.0 ++ w) e ∙ append-nil l.0 in
    subst (λ (w : List ℕ). Appends a b w) (sym is) l.2

-- a piece fails
pub left_fails : {T E : Type 0} (whole rest piece more : List ℕ) (a b c : Option (List ℕ)) (r : Result T E) (e : E) → r ≡ Err e → IsLeft whole rest a b → rest ≡ piece ++ more → AppendsFront b c piece → Pushes a c whole r
left_fails {T} {E} whole rest piece more a b c r e failed l is p =
    part_fails {T = T} {E = E} a b c l.0 piece more whole r e failed (l.1 ∙ ap (λ (w : List ℕ). l.0 ++ w) is) l.2 p

-- the rest is pushed, or fails
pub left_pushed : {T E : Type 0} (whole rest : List ℕ) (a b c : Option (List ℕ)) (r : Result T E) → IsLeft whole rest a b → Pushes b c rest r → Pushes a c whole r
left_pushed {T} {E} whole rest a b c r l p =
    subst (λ (w : List ℕ). Pushes {T = T} {E = E} a c w r) (sym l.1) (pushes_more {T = T} {E = E} a b c l.0 rest r l.2 p)
