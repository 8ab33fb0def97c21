-- Names as texts.
use Rattle.std.proofs.Common.{◌≡◌, ◌∙◌, ◌+◌, ◌<◌, ℕ, zero, suc, true, List, [], ◌∷◌, ◌++◌, map, get_or, refl, sym, ap, ap₂, arith}
use Rattle.std.proofs.lemmas.Bool.{and_parts}
use Rattle.std.specs.List.{list_all}
use Rattle.std.specs.Str.{IsUtf8, IsAscii}
use Rattle.std.proofs.lemmas.Bool.Decides.{nat_tests}
use Rattle.std.proofs.lemmas.List.{map-append}
use Rattle.std.proofs.lemmas.Str.{IsUtf8-from_ascii}
use Rattle.std.proofs.lemmas.Str.Ascii.{IsAscii-cons, IsAscii-nil}
use Rattle.text_lines.specs.Names.{is_name, is_name_byte}
use Rattle.image_format.specs.Names.{after_name, after_names, first_name, names_of}
use Rattle.image_format.proofs.Named.{names_more}

-- the k-th of some names
pub name_there : (n k : ℕ) (bytes : List ℕ) → k < n → get_or (names_of n bytes) k [] ≡ first_name (after_names k bytes)
name_there zero k bytes lt = absurd (omega (arith, lt))
name_there (suc n) zero bytes lt = refl
name_there (suc n) (suc k) bytes lt = name_there n k (after_name bytes) (omega (arith, lt))

-- one name more, in another type
pub texts_more : {T : Type 0} (f : T → List ℕ) (old new : List T) (t : T) (k : ℕ) (bytes rest name : List ℕ) → rest ≡ after_names k bytes → name ≡ first_name rest → map f old ≡ names_of k bytes
    → f t ≡ name → new ≡ old ++ t ∷ [] → map f new ≡ names_of (k + 1) bytes
texts_more f old new t k bytes rest name is first before same pushed =
    ap (map f) pushed ∙ map-append f old (t ∷ []) ∙ ap₂ (λ (xs : List (List ℕ)) (x : List ℕ). xs ++ x ∷ []) before (same ∙ first ∙ ap first_name is) ∙ sym (names_more k bytes)

-- a name is a text
byte_ascii : (c : ℕ) → is_name_byte c ≡ true → c < 128
byte_ascii c h = grind (arith, nat_tests)

bytes_ascii : (bytes : List ℕ) → list_all is_name_byte bytes ≡ true → IsAscii bytes
bytes_ascii [] h = IsAscii-nil
bytes_ascii (c ∷ cs) h = let both = and_parts (is_name_byte c) (list_all is_name_byte cs) h in IsAscii-cons c cs (byte_ascii c both.0) (bytes_ascii cs both.1)

pub name_text : (name : List ℕ) → is_name name ≡ true → IsUtf8 name
name_text name h = IsUtf8-from_ascii name (bytes_ascii name (and_parts _ _ h).1)
