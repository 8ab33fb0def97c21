-- The words of each form are read as what they say.
use Rattle.std.proofs.Common.{◌≡◌, ℕ, suc, zero, ◌-◌, ◌^◌, ◌<◌, ◌⊎◌, inl, inr, true, false, cond, eqb, ◌&&◌, List, [], ◌∷◌, ◌++◌, length, Some, None, refl, ap, ◌∙◌, arith}
use Rattle.std.specs.Prelude.{decimal, codes, bytes_eq, is_some, unwrap_or, option_map}
use Rattle.std.specs.List.{list_all}
use Rattle.std.proofs.lemmas.Bool.{and_parts, or_left, or_right}
use Rattle.std.proofs.lemmas.Bool.Decides.{nat_tests}
use Rattle.text_lines.specs.Text.{is_digit}
use Rattle.trace_audit.specs.declared.forms.Field.{Field}
use Rattle.trace_audit.specs.declared.forms.Field.TheVariants as field
use Rattle.trace_audit.specs.declared.reading.TraceLine.{TraceLine}
use Rattle.trace_audit.specs.declared.reading.TraceLine.TheVariants as line
use Rattle.trace_audit.specs.Texts.{words_of, plain_number, most_number}
use Rattle.trace_audit.specs.Fields.{LineForm, is_number, is_low_hex, is_hex, is_any_of, is_of, are_of, has_text, form_named, turn_forms, end_form}
use Rattle.trace_audit.specs.Meaning.{saying_of, fits, fitting, form_of, told, turn_line, or_else, last_line, end_line, read}
use Rattle.audit_laws.proofs.Decimals.{number_back, all_digits}
use Rattle.audit_laws.proofs.Spelling.{is_in_word, IsWord, AreWords, spaced, words_back, all_weaker}

-- ## words

digit_in_word : (c : ℕ) → is_digit c ≡ true → is_in_word c ≡ true
digit_in_word c h = grind (arith, nat_tests)

hex_in_word : (c : ℕ) → is_low_hex c ≡ true → is_in_word c ≡ true
hex_in_word c h = grind (arith, nat_tests)

pub decimal_word : (n : ℕ) → n < 2 ^ 64 → IsWord (decimal n)
decimal_word n h = all_weaker is_digit is_in_word digit_in_word (decimal n) (all_digits n h)

pub hex_word : (n : ℕ) (w : List ℕ) → is_hex n w ≡ true → IsWord w
unfolding is_hex
hex_word n w h = all_weaker is_low_hex is_in_word hex_in_word w (and_parts (eqb (length w) n) (list_all is_low_hex w) h).1

-- ## fields

pub small : (n : ℕ) → n < 2 ^ 32 → n < 2 ^ 64
small n h = omega arith

pub short : (n : ℕ) → n < 2 ^ 32 → IsWord (decimal n)
short n h = decimal_word n (small n h)

pub number_of_word : (n : ℕ) → n < 2 ^ 32 → unwrap_or (plain_number most_number (decimal n)) 0 ≡ n
number_of_word n h = ap (λ o. unwrap_or o 0) (number_back n most_number (small n h) (omega arith))

pub of_number : (n : ℕ) → n < 2 ^ 32 → is_of field.Number (decimal n) ≡ true
unfolding is_of
of_number n h = ap is_some (number_back n most_number (small n h) (omega arith))

pub of_time : (n : ℕ) → n < 2 ^ 64 → is_of field.Time (decimal n) ≡ true
unfolding is_of
of_time n h = ap is_some (number_back n (2 ^ 64 - 1) h (omega arith))

pub of_word : (w : List ℕ) → is_hex 8 w ≡ true → is_of field.Word w ≡ true
unfolding is_of
of_word w h = h

pub of_row : (w : List ℕ) → is_hex 32 w ≡ true → is_of field.Row w ≡ true
unfolding is_of
of_row w h = h

pub of_byte : (w : List ℕ) → is_hex 2 w ≡ true → is_of field.Byte w ≡ true
unfolding is_of
of_byte w h = h

pub of_code : (w : List ℕ) → (is_hex 4 w ≡ true) ⊎ (is_hex 8 w ≡ true) → is_of field.Code w ≡ true
unfolding is_of
of_code w (inl h) = or_left (is_hex 4 w) (is_hex 8 w) h
of_code w (inr h) = or_right (is_hex 4 w) (is_hex 8 w) h

pub of_listened : (n : ℕ) → n < 2 ^ 32 → is_of field.Listened (decimal n) ≡ true
unfolding is_of
of_listened n h = or_right (is_any_of (codes "any" ∷ codes "kernel" ∷ []) (decimal n)) (is_number most_number (decimal n)) (ap is_some (number_back n most_number (small n h) (omega arith)))

-- ## forms

abbrev pub AllFit : List Field → List (List ℕ) → Type 0
AllFit [] [] = Unit {0}
AllFit [] (w ∷ ws) = ⊥
AllFit (f ∷ fs) [] = ⊥
AllFit (f ∷ fs) (w ∷ ws) = (is_of f w ≡ true) × AllFit fs ws

pub all_of : (fs : List Field) (ws : List (List ℕ)) → AllFit fs ws → are_of fs false ws ≡ true
unfolding are_of
all_of [] [] h = refl
all_of [] (w ∷ ws) h = absurd h
all_of (f ∷ fs) [] h = absurd h
all_of (f ∷ fs) (w ∷ ws) h = rw (h.0, all_of fs ws h.1) refl

pub plain : (fs : List Field) (ws : List (List ℕ)) → AllFit fs ws → (are_of fs false ws && true) ≡ true
plain fs ws h = rw (all_of fs ws h) refl

pub all_and_text : (fs : List Field) (ws rest : List (List ℕ)) → AllFit fs ws → has_text rest ≡ true → are_of fs true (ws ++ rest) ≡ true
unfolding are_of
all_and_text [] [] rest h t = t
all_and_text [] (w ∷ ws) rest h t = absurd h
all_and_text (f ∷ fs) [] rest h t = absurd h
all_and_text (f ∷ fs) (w ∷ ws) rest h t = rw (h.0, all_and_text fs ws rest h.1 t) refl

-- so many words of eight digits
abbrev pub AreHex : ℕ → List (List ℕ) → Type 0
AreHex zero [] = Unit {0}
AreHex zero (w ∷ ws) = ⊥
AreHex (suc n) [] = ⊥
AreHex (suc n) (w ∷ ws) = (is_hex 8 w ≡ true) × AreHex n ws

abbrev pub hex_fields : ℕ → List Field → List Field
hex_fields zero more = more
hex_fields (suc n) more = field.Word ∷ hex_fields n more

pub hex_fit : (n : ℕ) (ws : List (List ℕ)) (fs : List Field) (more : List (List ℕ)) → AreHex n ws → AllFit fs more → AllFit (hex_fields n fs) (ws ++ more)
hex_fit zero [] fs more h k = k
hex_fit zero (w ∷ ws) fs more h k = absurd h
hex_fit (suc n) [] fs more h k = absurd h
hex_fit (suc n) (w ∷ ws) fs more h k = (of_word w h.0, hex_fit n ws fs more h.1 k)

pub hex_words : (n : ℕ) (ws more : List (List ℕ)) → AreHex n ws → AreWords more → AreWords (ws ++ more)
hex_words zero [] more h k = k
hex_words zero (w ∷ ws) more h k = absurd h
hex_words (suc n) [] more h k = absurd h
hex_words (suc n) (w ∷ ws) more h k = (hex_word 8 w h.0, hex_words n ws more h.1 k)

-- ## lines of a turn

abbrev pub by_words : List (List ℕ) → TraceLine
by_words words = unwrap_or (or_else (end_line words) (or_else (turn_line words) (last_line words))) line.Strange

pub read_words : (text : List ℕ) (words : List (List ℕ)) → words_of text ≡ words → read text ≡ by_words words
unfolding read
read_words text words e = ap by_words e

-- a number is no name
not_named : (w : List ℕ) (c : ℕ) (cs : List ℕ) → list_all is_digit w ≡ true → 57 < c → bytes_eq w (c ∷ cs) ≡ false
not_named [] c cs h lt = refl
not_named (d ∷ w) c cs h lt = let first : eqb d c ≡ false = apart d c (and_parts (is_digit d) (list_all is_digit w) h).0 lt in ap (λ b. b && bytes_eq w cs) first
  where
    apart : (d c : ℕ) → is_digit d ≡ true → 57 < c → eqb d c ≡ false
    apart d c h lt = grind (arith, nat_tests)

no_end : (t : ℕ) (words : List (List ℕ)) → t < 2 ^ 64 → end_line (decimal t ∷ words) ≡ None
unfolding end_line
no_end t words h = ap (λ b. option_map (λ (f : LineForm). line.Ends) (fitting words (cond b (Some end_form) None))) (not_named (decimal t) 101 (110 ∷ 100 ∷ []) (all_digits t h) (omega arith))

in_turn : (t : ℕ) (name : List ℕ) (words : List (List ℕ)) (f : LineForm) → t < 2 ^ 32 → form_named name turn_forms ≡ Some f → fits f words ≡ true → turn_line (decimal t ∷ name ∷ words) ≡ Some (line.Tells t (saying_of f.kind words))
unfolding turn_line
in_turn t name words f h named fit =
    ap (λ o. told o words (form_of turn_forms name words)) (number_back t most_number (small t h) (omega arith))
    ∙ ap (λ o. told (Some t) words (fitting words o)) named ∙ ap (λ b. told (Some t) words (cond b (Some f) None)) fit

pub turn_read : (t : ℕ) (name : List ℕ) (words : List (List ℕ)) (f : LineForm) → t < 2 ^ 32 → form_named name turn_forms ≡ Some f → fits f words ≡ true → by_words (decimal t ∷ name ∷ words) ≡ line.Tells t (saying_of f.kind words)
turn_read t name words f h named fit =
    ap (λ o. unwrap_or (or_else o (or_else (turn_line (decimal t ∷ name ∷ words)) (last_line (decimal t ∷ name ∷ words)))) line.Strange) (no_end t (name ∷ words) (small t h))
    ∙ ap (λ o. unwrap_or (or_else o (last_line (decimal t ∷ name ∷ words))) line.Strange) (in_turn t name words f h named fit)

-- the words of a form behind a turn
pub spelled_read : (t : ℕ) (name : List ℕ) (words : List (List ℕ)) (f : LineForm) → t < 2 ^ 32 → IsWord name → AreWords words → form_named name turn_forms ≡ Some f → fits f words ≡ true → read (decimal t ++ spaced (name ∷ words)) ≡ line.Tells t (saying_of f.kind words)
spelled_read t name words f h word are named fit = read_words _ (decimal t ∷ name ∷ words) (words_back (decimal t) (name ∷ words) (decimal_word t (small t h)) (word, are)) ∙ turn_read t name words f h named fit
