-- What the causes of a text depend on in each line, so that a line with other numbers can replace it.
use Rattle.std.proofs.Common.{◌≡◌, ℕ, ◌+◌, ◌≤◌, List, [], ◌∷◌, ◌++◌, length, map, refl, ap, ◌∙◌, sym, Bool, true, false, not, nat_lt, Option, Some, None, Result}
use Rattle.std.specs.List.{list_all}
use Rattle.thumb_asm.specs.declared.Cause.{Cause}
use Rattle.thumb_asm.specs.declared.Cause.TheVariants as cause
use Rattle.thumb_asm.specs.Chars.{is_allowed, entry_at}
use Rattle.thumb_asm.specs.Operands.{or_else}
use Rattle.thumb_asm.specs.Parts.{parts}
use Rattle.thumb_asm.specs.Syntax.{Shape}
use Rattle.thumb_asm.specs.Sizes.{statement_of}
use Rattle.thumb_asm.specs.Meaning.{Env, Names, env_of, own_label}
use Rattle.thumb_asm.specs.Causes.{when, size_by, line_size, label_cause, statement_cause, second_group, at_line, first_group, first_in, second_in, labels_from, first_cause}
use Rattle.thumb_asm.specs.Passes.{size_from}
use Rattle.std.proofs.lemmas.Bool.{agree_below, agree_below_at, leb-true, and_parts}
use Rattle.std.proofs.lemmas.List.FromFn.{get_or-map-range_with_len}
use Rattle.std.specs.List.{range_with_len}
use Rattle.std.proofs.Common.{subst, nat_le, ◌<◌, ◌*◌, arith, get_or}
use Rattle.text_lines.specs.Text.{lines_of, with_first}
use Rattle.sample_gen.specs.Sources.{text_of}
use Rattle.build_laws.proofs.Free.{IsFree, HasFreeLabels}
use Rattle.asm_laws.proofs.Whole.{no_feed, no_return}

pub record Card : Type 0 where
  pub is_long : Bool
  pub is_bad : Bool
  pub label : Option (List ℕ)
  pub fault : Option Cause
  pub size : ℕ → ℕ
  pub later : Env → ℕ → Option Cause

abbrev pub card_by : Bool → Bool → Option (List ℕ) → Result (Option Shape) Cause → Card
card_by long bad label statement = record {
  is_long = long;
  is_bad = bad;
  label = label;
  fault = statement_cause statement;
  size = λ at. size_by at statement;
  later = λ env at. second_group env at statement;
}

unfoldable pub card_of : List ℕ → Card
card_of line = card_by (nat_lt 255 (length line)) (not (list_all is_allowed line)) (parts line).label (statement_of (parts line).statement)

abbrev pub first_of : Env → ℕ → Env → ℕ → Card → Option Cause
first_of given base earlier used c =
    or_else (when c.is_long cause.LineTooLong)
    (or_else (when c.is_bad cause.BadByte)
    (or_else (label_cause given earlier c.label)
    (or_else c.fault
    (when (nat_lt 1048576 (used + c.size (base + used))) cause.TooLong))))

abbrev pub first_of_all : Env → ℕ → Names → ℕ → ℕ → List Card → Option (Cause × ℕ)
first_of_all given base earlier used k [] = None
first_of_all given base earlier used k (c ∷ cs) =
    at_line k (first_of given base (entry_at earlier) used c)
    (first_of_all given base (earlier ++ own_label (base + used) c.label) (used + c.size (base + used)) (k + 1) cs)

abbrev pub second_of_all : Env → ℕ → ℕ → List Card → Option (Cause × ℕ)
second_of_all env at k [] = None
second_of_all env at k (c ∷ cs) = at_line k (c.later env at) (second_of_all env (at + c.size at) (k + 1) cs)

abbrev pub labels_of_all : ℕ → List Card → Names
labels_of_all at [] = []
labels_of_all at (c ∷ cs) = own_label at c.label ++ labels_of_all (at + c.size at) cs

abbrev pub size_of_all : ℕ → List Card → ℕ
size_of_all at [] = 0
size_of_all at (c ∷ cs) = c.size at + size_of_all (at + c.size at) cs

abbrev pub cause_of_all : List Card → ℕ → Env → Option (Cause × ℕ)
cause_of_all cards base given = or_else (first_of_all given base [] 0 1 cards) (second_of_all (env_of (entry_at (labels_of_all base cards)) given) base 1 cards)

same_first : (lines : List (List ℕ)) (given : Env) (base : ℕ) (earlier : Names) (used k : ℕ) → first_in given base earlier used k lines ≡ first_of_all given base earlier used k (map card_of lines)
unfolding card_of first_in first_group line_size
same_first [] given base earlier used k = refl
same_first (l ∷ ls) given base earlier used k =
    ap (λ later. at_line k (first_group given base (entry_at earlier) used l) later) (same_first ls given base (earlier ++ own_label (base + used) (parts l).label) (used + line_size (base + used) l) (k + 1))

same_second : (lines : List (List ℕ)) (env : Env) (at k : ℕ) → second_in env at k lines ≡ second_of_all env at k (map card_of lines)
unfolding card_of second_in line_size
same_second [] env at k = refl
same_second (l ∷ ls) env at k = ap (λ later. at_line k (second_group env at (statement_of (parts l).statement)) later) (same_second ls env (at + line_size at l) (k + 1))

same_labels : (lines : List (List ℕ)) (at : ℕ) → labels_from at lines ≡ labels_of_all at (map card_of lines)
unfolding card_of labels_from line_size
same_labels [] at = refl
same_labels (l ∷ ls) at = ap (λ names. own_label at (parts l).label ++ names) (same_labels ls (at + line_size at l))

pub same_size : (lines : List (List ℕ)) (at : ℕ) → size_from at lines ≡ size_of_all at (map card_of lines)
unfolding card_of size_from line_size
same_size [] at = refl
same_size (l ∷ ls) at = ap (λ n. line_size at l + n) (same_size ls (at + line_size at l))

pub same_cause : (lines : List (List ℕ)) (base : ℕ) (given : Env) → first_cause lines base given ≡ cause_of_all (map card_of lines) base given
unfolding first_cause
same_cause lines base given =
    ap (λ first. or_else first (second_in (env_of (entry_at (labels_from base lines)) given) base 1 lines)) (same_first lines given base [] 0 1)
    ∙ ap (λ second. or_else (first_of_all given base [] 0 1 (map card_of lines)) second)
    (same_second lines (env_of (entry_at (labels_from base lines)) given) base 1
    ∙ ap (λ names. second_of_all (env_of (entry_at names) given) base 1 (map card_of lines)) (same_labels lines base))

-- Symbols that leave the labels free don't count.

abbrev pub FreeCards : Env → List Card → Type 0
FreeCards given [] = Unit {0}
FreeCards given (c ∷ cs) = IsFree given c.label × FreeCards given cs

pub free_cards : (given : Env) (lines : List (List ℕ)) → HasFreeLabels given lines → FreeCards given (map card_of lines)
unfolding card_of
free_cards given [] h = tt
free_cards given (l ∷ ls) h = (h.0, free_cards given ls h.1)

abbrev pub no_symbols : Env
no_symbols name = None

free_label : (given earlier : Env) (label : Option (List ℕ)) → IsFree given label → label_cause given earlier label ≡ label_cause no_symbols earlier label
free_label given earlier None h = refl
free_label given earlier (Some name) h = rw h refl

pub free_first : (cards : List Card) (given : Env) (base : ℕ) (earlier : Names) (used k : ℕ) → FreeCards given cards → first_of_all given base earlier used k cards ≡ first_of_all no_symbols base earlier used k cards
free_first [] given base earlier used k h = refl
free_first (c ∷ cs) given base earlier used k h =
    rw (free_label given (entry_at earlier) c.label h.0) (ap (λ later. at_line k (first_of no_symbols base (entry_at earlier) used c) later) (free_first cs given base (earlier ++ own_label (base + used) c.label) (used + c.size (base + used)) (k + 1) h.1))

-- What is computed: at each multiple of 256 there is no cause, and there are at most 256 bytes.

abbrev pub is_none : {A : Type 0} → Option A → Bool
is_none None = true
is_none (Some x) = false

pub none_of : {A : Type 0} (o : Option A) → is_none o ≡ true → o ≡ None
none_of None h = refl
none_of (Some x) h = cc

abbrev pub at_256 : ℕ → ℕ
at_256 k = 0x08000000 + 256 * k

abbrev pub first_fine : List Card → ℕ → Bool
first_fine cards n = agree_below (λ k. is_none (first_of_all no_symbols (at_256 k) [] 0 1 cards)) (λ k. true) n

abbrev pub second_fine : Env → List Card → ℕ → Bool
second_fine given cards n = agree_below (λ k. is_none (second_of_all (env_of (entry_at (labels_of_all (at_256 k) cards)) given) (at_256 k) 1 cards)) (λ k. true) n

abbrev pub sizes_fine : List Card → ℕ → Bool
sizes_fine cards n = agree_below (λ k. nat_le (size_of_all (at_256 k) cards) 256) (λ k. true) n

both_none : {A : Type 0} (o p : Option A) → o ≡ None → p ≡ None → or_else o p ≡ None
both_none o p h i = rw (h, i) refl

pub record AreFine (cards : List Card) : Type 0 where
  pub first : first_fine cards 32 ≡ true
  pub second : (given : Env) → second_fine given cards 32 ≡ true
  pub sizes : sizes_fine cards 32 ≡ true
  pub clean : list_all (λ c. not c.is_bad) cards ≡ true

no_cause_of : (lines : List (List ℕ)) (cards : List Card) (k : ℕ) (given : Env) → AreFine cards → map card_of lines ≡ cards → k < 32 → HasFreeLabels given lines → first_cause lines (at_256 k) given ≡ None
no_cause_of lines cards k given fine same h free =
    let f : FreeCards given cards = subst (FreeCards given) same (free_cards given lines free) in
    same_cause lines (at_256 k) given
    ∙ ap (λ cs. cause_of_all cs (at_256 k) given) same
    ∙ both_none (first_of_all given (at_256 k) [] 0 1 cards) (second_of_all (env_of (entry_at (labels_of_all (at_256 k) cards)) given) (at_256 k) 1 cards)
    (free_first cards given (at_256 k) [] 0 1 f ∙ none_of _ (agree_below_at (λ j. is_none (first_of_all no_symbols (at_256 j) [] 0 1 cards)) (λ j. true) 32 k fine.first h))
    (none_of _ (agree_below_at (λ j. is_none (second_of_all (env_of (entry_at (labels_of_all (at_256 j) cards)) given) (at_256 j) 1 cards)) (λ j. true) 32 k (fine.second given) h))

small_of : (lines : List (List ℕ)) (cards : List Card) (k : ℕ) → AreFine cards → map card_of lines ≡ cards → k < 32 → size_from (at_256 k) lines ≤ 256
small_of lines cards k fine same h =
    rw (same_size lines (at_256 k), same) (leb-true (size_of_all (at_256 k) cards) 256 (agree_below_at (λ j. nat_le (size_of_all (at_256 j) cards) 256) (λ j. true) 32 k fine.sizes h))

-- A line with a number in it has one card, whatever the number.
pub one_value : {X : Type 0} (f : ℕ → X) (x : X) (n k : ℕ) → map f (range_with_len 0 n) ≡ map (λ j. x) (range_with_len 0 n) → k < n → f k ≡ x
one_value f x n k e h =
    sym (get_or-map-range_with_len f 0 n k k x h (omega arith)) ∙ ap (λ xs. get_or xs k x) e ∙ get_or-map-range_with_len (λ j. x) 0 n k k x h (omega arith)

-- The lines of the text are the lines.

line_first : (l rest : List ℕ) → list_all is_allowed l ≡ true → lines_of ((l ++ 10 ∷ []) ++ rest) ≡ l ∷ lines_of rest
unfolding lines_of
line_first [] rest h = refl
line_first (c ∷ cs) rest h =
    let e = and_parts (is_allowed c) (list_all is_allowed cs) h in
    rw (no_feed c e.0, no_return c e.0) (ap (with_first c) (line_first cs rest e.1))

twice : (b : Bool) → not (not b) ≡ true → b ≡ true
twice true h = refl
twice false h = h

lines_again : (lines : List (List ℕ)) → list_all (λ c. not c.is_bad) (map card_of lines) ≡ true → lines_of (text_of lines) ≡ lines
unfolding lines_of card_of
lines_again [] h = refl
lines_again (l ∷ ls) h =
    let e = and_parts (not (not (list_all is_allowed l))) (list_all (λ c. not c.is_bad) (map card_of ls)) h in
    line_first l (text_of ls) (twice (list_all is_allowed l) e.0) ∙ ap (λ more. l ∷ more) (lines_again ls e.1)

text_again : (lines : List (List ℕ)) (cards : List Card) → AreFine cards → map card_of lines ≡ cards → lines_of (text_of lines) ≡ lines
text_again lines cards fine same = lines_again lines (ap (list_all (λ c. not c.is_bad)) same ∙ fine.clean)

-- Lines whose cards are fine are taken.

pub no_cause : (lines : List (List ℕ)) (cards : List Card) (k : ℕ) (given : Env) → AreFine cards → map card_of lines ≡ cards → k < 32 → HasFreeLabels given lines → first_cause (lines_of (text_of lines)) (at_256 k) given ≡ None
no_cause lines cards k given fine same h free =
    ap (λ ls. first_cause ls (at_256 k) given) (text_again lines cards fine same) ∙ no_cause_of lines cards k given fine same h free

pub small : (lines : List (List ℕ)) (cards : List Card) (k : ℕ) → AreFine cards → map card_of lines ≡ cards → k < 32 → size_from (at_256 k) (lines_of (text_of lines)) ≤ 256
small lines cards k fine same h = subst (λ ls. size_from (at_256 k) ls ≤ 256) (sym (text_again lines cards fine same)) (small_of lines cards k fine same h)

from_cards : (given : Env) (lines : List (List ℕ)) → FreeCards given (map card_of lines) → HasFreeLabels given lines
unfolding card_of
from_cards given [] h = tt
from_cards given (l ∷ ls) h = (h.0, from_cards given ls h.1)

pub free_lines : (given : Env) (lines : List (List ℕ)) (cards : List Card) → map card_of lines ≡ cards → FreeCards given cards → HasFreeLabels given lines
free_lines given lines cards same h = from_cards given lines (subst (FreeCards given) (sym same) h)
