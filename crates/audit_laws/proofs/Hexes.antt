-- Eight digits, four and two, and registers behind spaces.
use Rattle.std.proofs.Common.{◌≡◌, ℕ, ◌/◌, ◌%◌, ◌^◌, ◌<◌, true, List, [], ◌∷◌, ◌++◌, length, map, refl, sym, ap, ◌∙◌, arith, append_assoc}
use Rattle.std.specs.List.{list_all, flat_map}
use Rattle.std.proofs.lemmas.Bool.Decides.{nat_tests}
use Rattle.thumb_insn.specs.Text.{hex_digit}
use Rattle.trace_text.specs.Text.{hex, half_hex, byte_hex, spaced_hex}
use Rattle.trace_audit.specs.Fields.{is_low_hex, is_hex}
use Rattle.audit_laws.proofs.Spelling.{spaced}
use Rattle.audit_laws.proofs.Reading.{AreHex}

low_digit : (d : ℕ) → d < 16 → is_low_hex (hex_digit d) ≡ true
low_digit d h = grind (arith, nat_tests)

pub all_more : (c : ℕ) (cs : List ℕ) → is_low_hex c ≡ true → list_all is_low_hex cs ≡ true → list_all is_low_hex (c ∷ cs) ≡ true
all_more c cs h k = rw (h, k) refl

pub digit_of : (n : ℕ) → is_low_hex (hex_digit (n % 16)) ≡ true
digit_of n = low_digit (n % 16) (omega arith)

pub all_low : (ns : List ℕ) → list_all is_low_hex (map (λ n. hex_digit (n % 16)) ns) ≡ true
all_low [] = refl
all_low (n ∷ ns) = all_more (hex_digit (n % 16)) (map (λ m. hex_digit (m % 16)) ns) (digit_of n) (all_low ns)

pub hex_fits : (n : ℕ) → is_hex 8 (hex n) ≡ true
unfolding hex is_hex
hex_fits n = all_low (n / 16 ^ 7 ∷ n / 16 ^ 6 ∷ n / 16 ^ 5 ∷ n / 16 ^ 4 ∷ n / 16 ^ 3 ∷ n / 16 ^ 2 ∷ n / 16 ∷ n ∷ [])

pub half_fits : (n : ℕ) → is_hex 4 (half_hex n) ≡ true
unfolding half_hex is_hex
half_fits n = all_low (n / 16 ^ 3 ∷ n / 16 ^ 2 ∷ n / 16 ∷ n ∷ [])

pub byte_fits : (n : ℕ) → is_hex 2 (byte_hex n) ≡ true
unfolding byte_hex is_hex
byte_fits n = all_low (n / 16 ∷ n ∷ [])

pub hexes : (xs : List ℕ) → AreHex (length xs) (map hex xs)
hexes [] = tt
hexes (x ∷ xs) = (hex_fits x, hexes xs)

pub registers_spaced : (xs : List ℕ) → flat_map spaced_hex xs ≡ spaced (map hex xs)
registers_spaced [] = refl
registers_spaced (x ∷ xs) = ap (λ r. 32 ∷ (hex x ++ r)) (registers_spaced xs)

pub spaced_joined : (ws vs : List (List ℕ)) → spaced (ws ++ vs) ≡ spaced ws ++ spaced vs
spaced_joined [] vs = refl
spaced_joined (w ∷ ws) vs = ap (λ r. 32 ∷ (w ++ r)) (spaced_joined ws vs) ∙ ap (λ r. 32 ∷ r) (sym (append_assoc w (spaced ws) (spaced vs)))
