-- Where a text begins in a line, and its bytes one after another.
use Rattle.std.proofs.Common.{◌≡◌, ℕ, zero, suc, ◌+◌, ◌-◌, ◌<◌, ◌≤◌, List, [], ◌∷◌, ◌++◌, length, drop, take, get_or, refl, ap, ◌∙◌, sym, arith, Bool, true, false, ◌==◌, ◌&&◌, Option, Some, None, option_map, if◌then◌else◌, append_assoc, IfNone, IfSome}
use Rattle.std.specs.List.{list_all}
use Rattle.std.proofs.lemmas.List.{append-nil, drop_more, take_more, take_rest}
use Rattle.std.proofs.lemmas.Bool.Decides.{nat_tests}
use Rattle.run_script.specs.Drafts.{closes}
use Rattle.run_script.specs.Words.{is_blank}
use Rattle.run_script.specs.Quotes.{before_text, bytes_of, bytes_to_quote, one_or_more, text_from, unescaped, with_byte}

-- ---- where it begins

begins_here : (begins : Bool) (c : ℕ) (cs : List ℕ) → (begins && (c == 34)) ≡ true → (before_text begins (c ∷ cs) ≡ []) × (text_from begins (c ∷ cs) ≡ c ∷ cs)
unfolding before_text text_from
begins_here begins c cs h = (rw h refl, rw h refl)

goes_on : (begins : Bool) (c : ℕ) (cs : List ℕ) → (begins && (c == 34)) ≡ false → (before_text begins (c ∷ cs) ≡ c ∷ before_text (is_blank c) cs) × (text_from begins (c ∷ cs) ≡ text_from (is_blank c) cs)
unfolding before_text text_from
goes_on begins c cs h = (rw h refl, rw h refl)

pub nothing_left : (begins : Bool) → (before_text begins [] ≡ []) × (text_from begins [] ≡ [])
unfolding before_text text_from
nothing_left begins = (refl, refl)

-- up to this byte there is no text
pub record HasNone (line : List ℕ) (i : ℕ) (begins : Bool) : Type 0 where
  pub before : before_text true line ≡ take i line ++ before_text begins (drop i line)
  pub text : text_from true line ≡ text_from begins (drop i line)

pub none_at_first : (line : List ℕ) → HasNone line 0 true
none_at_first line = record { before = refl; text = refl }

pub none_here : (line : List ℕ) (i c : ℕ) (begins next : Bool) → i < length line → c ≡ get_or line i 0 → (begins && (c == 34)) ≡ false → next ≡ is_blank c → HasNone line i begins → HasNone line (i + 1) next
none_here line i c begins next lt is h e n =
    let rest : drop i line ≡ c ∷ drop (i + 1) line = drop_more line i 0 lt ∙ ap (λ b. b ∷ drop (i + 1) line) (sym is) in
    let more : take (i + 1) line ≡ take i line ++ c ∷ [] = take_more line i 0 lt ∙ ap (λ b. take i line ++ b ∷ []) (sym is) in
    let on = goes_on begins c (drop (i + 1) line) h in
    record {
      before = n.before ∙ ap (λ (l : List ℕ). take i line ++ before_text begins l) rest ∙ ap (λ (l : List ℕ). take i line ++ l) on.0
          ∙ sym (append_assoc (take i line) (c ∷ []) (before_text (is_blank c) (drop (i + 1) line)))
          ∙ ap (λ (l : List ℕ). l ++ before_text (is_blank c) (drop (i + 1) line)) (sym more)
          ∙ ap (λ (b : Bool). take (i + 1) line ++ before_text b (drop (i + 1) line)) (sym e);
      text = n.text ∙ ap (text_from begins) rest ∙ on.1 ∙ ap (λ (b : Bool). text_from b (drop (i + 1) line)) (sym e);
    }

pub found_here : (line : List ℕ) (i c : ℕ) (begins : Bool) → i < length line → c ≡ get_or line i 0 → (begins && (c == 34)) ≡ true → HasNone line i begins → (before_text true line ≡ take i line) × (text_from true line ≡ drop i line)
found_here line i c begins lt is h n =
    let rest : drop i line ≡ c ∷ drop (i + 1) line = drop_more line i 0 lt ∙ ap (λ b. b ∷ drop (i + 1) line) (sym is) in
    let here = begins_here begins c (drop (i + 1) line) h in (
      n.before ∙ ap (λ (l : List ℕ). take i line ++ before_text begins l) rest ∙ ap (λ (l : List ℕ). take i line ++ l) here.0 ∙ append-nil (take i line),
      n.text ∙ ap (text_from begins) rest ∙ here.1 ∙ sym rest,
    )

pub found_none : (line : List ℕ) (n : ℕ) (begins : Bool) → length line ≤ n → HasNone line n begins → (before_text true line ≡ take n line) × (text_from true line ≡ drop n line)
found_none line n begins le h =
    let rest : drop n line ≡ [] = none_left line n le in
    let end = nothing_left begins in (
      h.before ∙ ap (λ (l : List ℕ). take n line ++ before_text begins l) rest ∙ ap (λ (l : List ℕ). take n line ++ l) end.0 ∙ append-nil (take n line),
      h.text ∙ ap (text_from begins) rest ∙ end.1 ∙ sym rest,
    )
  where
    none_left : (l : List ℕ) (n : ℕ) → length l ≤ n → drop n l ≡ []
    none_left [] zero h = refl
    none_left [] (suc n) h = refl
    none_left (c ∷ cs) zero h = absurd (omega arith)
    none_left (c ∷ cs) (suc n) h = none_left cs n (omega arith)

pub found_all : (line : List ℕ) (i : ℕ) (begins : Bool) → length line ≤ i → i ≤ length line → HasNone line i begins → (before_text true line ≡ take (length line) line) × (text_from true line ≡ drop (length line) line)
found_all line i begins le ge h =
    let same : i ≡ length line = omega arith in
    let both = found_none line i begins le h in
    (both.0 ∙ ap (λ n. take n line) same, both.1 ∙ ap (λ n. drop n line) same)

-- ---- its bytes

pub no_byte : (escaped : Bool) → bytes_to_quote escaped [] ≡ None
unfolding bytes_to_quote
no_byte true = refl
no_byte false = refl

pub escaped_first : (c : ℕ) (cs : List ℕ) → bytes_to_quote true (c ∷ cs) ≡ with_byte (unescaped c) (bytes_to_quote false cs)
unfolding bytes_to_quote
escaped_first c cs = refl

pub quote_first : (c : ℕ) (cs : List ℕ) → (c == 34) ≡ true → bytes_to_quote false (c ∷ cs) ≡ (if list_all is_blank cs then Some [] else None)
unfolding bytes_to_quote
quote_first c cs h = rw h refl

pub backslash_first : (c : ℕ) (cs : List ℕ) → (c == 34) ≡ false → (c == 92) ≡ true → bytes_to_quote false (c ∷ cs) ≡ bytes_to_quote true cs
unfolding bytes_to_quote
backslash_first c cs h k = rw (h, k) refl

pub other_first : (c : ℕ) (cs : List ℕ) → (c == 34) ≡ false → (c == 92) ≡ false → bytes_to_quote false (c ∷ cs) ≡ with_byte (Some c) (bytes_to_quote false cs)
unfolding bytes_to_quote
other_first c cs h k = rw (h, k) refl

-- the bytes with these in front
abbrev pub behind : List ℕ → Option (List ℕ) → Option (List ℕ)
behind front o = option_map (λ (l : List ℕ). front ++ l) o

pub one_behind : (front : List ℕ) (byte : ℕ) (o : Option (List ℕ)) → behind front (with_byte (Some byte) o) ≡ behind (front ++ byte ∷ []) o
one_behind front byte None = refl
one_behind front byte (Some l) = ap (λ (m : List ℕ). Some m) (sym (append_assoc front (byte ∷ []) l))

pub behind_nothing : (o : Option (List ℕ)) → o ≡ behind [] o
behind_nothing None = refl
behind_nothing (Some l) = refl

nil_or : (text : List ℕ) → length text ≡ 0 → text ≡ []
nil_or [] h = refl
nil_or (c ∷ cs) h = absurd (omega (arith, h))

pub none_of_nothing : (escaped : Bool) (text : List ℕ) → length text ≡ 0 → bytes_to_quote escaped text ≡ None
none_of_nothing escaped text h = ap (bytes_to_quote escaped) (nil_or text h) ∙ no_byte escaped

pub nothing_closes : (text : List ℕ) → length text ≡ 0 → closes text ≡ false
nothing_closes text h = ap closes (nil_or text h)

-- what stands behind the first byte
rest_of : (text rest : List ℕ) → rest ≡ take (length text - 1) (drop 1 text) → rest ≡ drop 1 text
rest_of text rest e = e ∙ take_rest text 1

first_is : (text : List ℕ) → 0 < length text → text ≡ get_or text 0 0 ∷ drop 1 text
first_is text h = drop_more text 0 0 h

pub escaped_at : (text : List ℕ) (byte : ℕ) → 0 < length text → unescaped (get_or text 0 0) ≡ Some byte → bytes_to_quote true text ≡ with_byte (Some byte) (bytes_to_quote false (take (length text - 1) (drop 1 text)))
escaped_at text byte h e =
    ap (bytes_to_quote true) (first_is text h) ∙ escaped_first (get_or text 0 0) (drop 1 text)
    ∙ ap (λ (o : Option ℕ). with_byte o (bytes_to_quote false (drop 1 text))) e
    ∙ ap (λ (l : List ℕ). with_byte (Some byte) (bytes_to_quote false l)) (sym (take_rest text 1))

pub escaped_none : (text : List ℕ) → 0 < length text → unescaped (get_or text 0 0) ≡ None → bytes_to_quote true text ≡ None
escaped_none text h e =
    ap (bytes_to_quote true) (first_is text h) ∙ escaped_first (get_or text 0 0) (drop 1 text)
    ∙ ap (λ (o : Option ℕ). with_byte o (bytes_to_quote false (drop 1 text))) e

same_test : (a b : ℕ) → a ≡ b → (a == b) ≡ true
same_test a b e = grind (arith, nat_tests)

other_test : (a b : ℕ) → (a ≡ b → ⊥) → (a == b) ≡ false
other_test a b e = grind (arith, nat_tests)

pub quote_at : (text : List ℕ) → 0 < length text → get_or text 0 0 ≡ 34 → bytes_to_quote false text ≡ (if closes text then Some [] else None)
quote_at text h e =
    let test = same_test (get_or text 0 0) 34 e in
    let first = first_is text h in
    ap (bytes_to_quote false) first ∙ quote_first (get_or text 0 0) (drop 1 text) test
    ∙ ap (λ (b : Bool). if b then Some [] else None) (sym (ap closes first ∙ ap (λ (b : Bool). b && list_all is_blank (drop 1 text)) test))

pub other_at : (text : List ℕ) → 0 < length text → (get_or text 0 0 ≡ 34 → ⊥) → (get_or text 0 0 ≡ 92 → ⊥) → bytes_to_quote false text ≡ with_byte (Some (get_or text 0 0)) (bytes_to_quote false (take (length text - 1) (drop 1 text)))
other_at text h other neither =
    ap (bytes_to_quote false) (first_is text h) ∙ other_first (get_or text 0 0) (drop 1 text) (other_test (get_or text 0 0) 34 other) (other_test (get_or text 0 0) 92 neither)
    ∙ ap (λ (l : List ℕ). with_byte (Some (get_or text 0 0)) (bytes_to_quote false l)) (sym (take_rest text 1))

pub backslash_at : (text : List ℕ) → 0 < length text → get_or text 0 0 ≡ 92 → bytes_to_quote false text ≡ bytes_to_quote true (take (length text - 1) (drop 1 text))
backslash_at text h e =
    let other : (get_or text 0 0 == 34) ≡ false = other_test (get_or text 0 0) 34 (λ is. omega (arith, e, is)) in
    ap (bytes_to_quote false) (first_is text h) ∙ backslash_first (get_or text 0 0) (drop 1 text) other (same_test (get_or text 0 0) 92 e)
    ∙ ap (bytes_to_quote true) (sym (take_rest text 1))

pub not_closing : (text : List ℕ) → 0 < length text → get_or text 0 0 ≡ 92 → closes text ≡ false
not_closing text h e =
    ap closes (first_is text h) ∙ ap (λ (b : Bool). b && list_all is_blank (drop 1 text)) (other_test (get_or text 0 0) 34 (λ is. omega (arith, e, is)))

pub one_more_byte : (front more : List ℕ) (byte : ℕ) (whole o p : Option (List ℕ)) → whole ≡ behind front o → o ≡ with_byte (Some byte) p → more ≡ front ++ byte ∷ [] → whole ≡ behind more p
one_more_byte front more byte whole o p e h m = e ∙ ap (behind front) h ∙ one_behind front byte p ∙ ap (λ (l : List ℕ). behind l p) (sym m)

-- ---- the whole text

whole_is : (text : List ℕ) → 0 < length text → bytes_of text ≡ one_or_more (bytes_to_quote false (drop 1 text))
whole_is text h = ap bytes_of (first_is text h)

ended : (text front rest : List ℕ) → 0 < length text → bytes_to_quote false (drop 1 text) ≡ behind front (bytes_to_quote false rest) → bytes_to_quote false rest ≡ (if closes rest then Some [] else None) → bytes_of text ≡ one_or_more (behind front (if closes rest then Some [] else None))
ended text front rest h e is = whole_is text h ∙ ap one_or_more (e ∙ ap (behind front) is)

empty_by : (b : Bool) → one_or_more (behind [] (if b then Some [] else None)) ≡ None
empty_by true = refl
empty_by false = refl

pub empty_is_none : (text front rest : List ℕ) → 0 < length text → bytes_to_quote false (drop 1 text) ≡ behind front (bytes_to_quote false rest) → bytes_to_quote false rest ≡ (if closes rest then Some [] else None) → length front ≡ 0 → bytes_of text ≡ None
empty_is_none text front rest h e is none =
    ended text front rest h e is ∙ ap (λ (l : List ℕ). one_or_more (behind l (if closes rest then Some [] else None))) (nil_or front none) ∙ empty_by (closes rest)

pub open_is_none : (text front rest : List ℕ) → 0 < length text → bytes_to_quote false (drop 1 text) ≡ behind front (bytes_to_quote false rest) → bytes_to_quote false rest ≡ (if closes rest then Some [] else None) → closes rest ≡ false → bytes_of text ≡ None
open_is_none text front rest h e is test = ended text front rest h e is ∙ ap (λ (b : Bool). one_or_more (behind front (if b then Some [] else None))) test

some_of : (front : List ℕ) → 0 < length front → one_or_more (behind front (Some [])) ≡ Some front
some_of [] h = absurd (omega arith)
some_of (c ∷ cs) h = ap (λ (l : List ℕ). Some (c ∷ l)) (append-nil cs)

pub closed_is_some : (text front rest : List ℕ) → 0 < length text → bytes_to_quote false (drop 1 text) ≡ behind front (bytes_to_quote false rest) → bytes_to_quote false rest ≡ (if closes rest then Some [] else None) → closes rest ≡ true → 0 < length front → bytes_of text ≡ Some front
closed_is_some text front rest h e is test some = ended text front rest h e is ∙ ap (λ (b : Bool). one_or_more (behind front (if b then Some [] else None))) test ∙ some_of front some

-- ---- a byte behind a `\`

pub behind_backslash : (text : List ℕ) (byte : ℕ) (o : Option (List ℕ)) → 0 < length text → get_or text 0 0 ≡ 92 → bytes_to_quote true (take (length text - 1) (drop 1 text)) ≡ with_byte (Some byte) o → bytes_to_quote false text ≡ with_byte (Some byte) o
behind_backslash text byte o h e is = backslash_at text h e ∙ is

pub none_behind_backslash : (text : List ℕ) → 0 < length text → get_or text 0 0 ≡ 92 → bytes_to_quote true (take (length text - 1) (drop 1 text)) ≡ None → bytes_to_quote false text ≡ (if closes text then Some [] else None)
none_behind_backslash text h e is = backslash_at text h e ∙ is ∙ ap (λ (b : Bool). if b then Some [] else None) (sym (not_closing text h e))

pub nothing_is_closed : (text : List ℕ) → length text ≡ 0 → bytes_to_quote false text ≡ (if closes text then Some [] else None)
nothing_is_closed text h = none_of_nothing false text h ∙ ap (λ (b : Bool). if b then Some [] else None) (sym (nothing_closes text h))

pub if_some : {A : Type 0} (o : Option A) (P Q : A → Type 0) → ((x : A) → P x → Q x) → IfSome o P → IfSome o Q
if_some None P Q f h = tt
if_some (Some x) P Q f h = f x h

pub if_none : {A : Type 0} {P Q : Type 0} (o : Option A) → (P → Q) → IfNone o P → IfNone o Q
if_none None f h = f h
if_none (Some x) f h = tt
