-- Numbers in decimal, and targets in hexadecimal, are read as these numbers.
use Rattle.std.proofs.Common.{◌≡◌, ℕ, ◌≤◌, ◌+◌, ◌*◌, ◌/◌, ◌%◌, ◌<◌, List, [], ◌∷◌, refl, ap, ◌∙◌, arith, Bool, true, false, not, nat_eq, nat_le, nat_lt, ◌&&◌, Option, Some, None, decimal, length}
use Rattle.std.specs.Prelude.{ℤ, pos, negsuc}
use Rattle.std.proofs.lemmas.Bool.{not-true, leb-true, and_parts, and_from}
use Rattle.std.proofs.lemmas.Bool.Decides.{nat_tests}
use Rattle.std.proofs.lemmas.Bool.{agree_below_at, agree_below}
use Rattle.std.specs.Fmt.{digits}
use Rattle.std.specs.List.{list_all}
use Rattle.text_lines.specs.Text.{value_in, hex_number_of, is_hex, digit}
use Rattle.thumb_insn.specs.Text.{hex_digit, hex_word, place}
use Rattle.thumb_asm.specs.Chars.{is_nil, strip, strip_front, strip_end, until, from_first, register, register_names, entry_at}
use Rattle.thumb_asm.specs.Operands.{Operand, Expression as AsExpression, Expr, operand, expression, signed, natural, is_sign, unquoted, term, sum_of}
use Rattle.thumb_asm.proofs.Bytes.{is_solid, all_by, plain_of, no_quote, none_is, closed_none}
use Rattle.asm_laws.proofs.Registers.{sixteen}
use Rattle.asm_laws.proofs.Splits.{Solid, tight_first}

-- a number without a name
abbrev pub number : ℕ → Expr
number n = record { name = None; number = pos n }

abbrev pub is_unnamed : Option (List ℕ) → Bool
is_unnamed None = true
is_unnamed (Some name) = false

abbrev pub is_pos : ℕ → ℤ → Bool
is_pos n (pos m) = nat_eq m n
is_pos n (negsuc m) = false

abbrev pub is_number : ℕ → Option Expr → Bool
is_number n None = false
is_number n (Some e) = is_unnamed e.name && is_pos n e.number

-- a decimal is solid, and is read as its number
abbrev pub is_right : ℕ → Bool
is_right n = (list_all is_solid (decimal n) && nat_le (length (decimal n)) 10) && (not (is_nil (decimal n)) && is_number n (expression (decimal n)))

all_right : agree_below is_right (λ n. true) 1024 ≡ true
unfolding digits expression strip strip_front strip_end until from_first signed natural value_in
all_right = refl

-- what the reader makes of a decimal
pub record Decimal (n : ℕ) : Type 0 where
  pub some : is_nil (decimal n) ≡ false
  pub solid : list_all is_solid (decimal n) ≡ true
  pub is : expression (decimal n) ≡ Some (number n)
  pub short : length (decimal n) ≤ 10

is_unnamed_number : (n : ℕ) (name : Option (List ℕ)) (z : ℤ) → (is_unnamed name && is_pos n z) ≡ true → Some (record { name = name; number = z }) ≡ Some (number n)
is_unnamed_number n None (pos m) h = let e : m ≡ n = grind (arith, nat_tests) in rw e refl
is_unnamed_number n None (negsuc m) h = cc
is_unnamed_number n (Some name) z h = cc

same_number : (n : ℕ) (o : Option Expr) → is_number n o ≡ true → o ≡ Some (number n)
same_number n None h = cc
same_number n (Some e) h = is_unnamed_number n e.name e.number h

pub decimal_is : (n : ℕ) → n < 1024 → Decimal n
decimal_is n h =
    let e = agree_below_at is_right (λ k. true) 1024 n all_right h in
    let d = and_parts (list_all is_solid (decimal n) && nat_le (length (decimal n)) 10) (not (is_nil (decimal n)) && is_number n (expression (decimal n))) e in
    let f = and_parts (list_all is_solid (decimal n)) (nat_le (length (decimal n)) 10) d.0 in
    let g = and_parts (not (is_nil (decimal n))) (is_number n (expression (decimal n))) d.1 in
    record { some = not-true _ g.0; solid = f.0; is = same_number n (expression (decimal n)) g.1; short = leb-true _ _ f.1 }

-- Targets.

-- what the reader makes of a digit
pub record Hex (d : ℕ) : Type 0 where
  pub value : digit (hex_digit d) ≡ d
  pub hex : is_hex (hex_digit d) ≡ true
  pub solid : is_solid (hex_digit d) ≡ true
  pub no_sign : is_sign (hex_digit d) ≡ false
  pub no_mark : nat_eq (hex_digit d) 33 ≡ false

hex : (d : ℕ) → d < 16 → Hex d
hex = sixteen Hex
    (record { value = refl; hex = refl; solid = refl; no_sign = refl; no_mark = refl })
    (record { value = refl; hex = refl; solid = refl; no_sign = refl; no_mark = refl })
    (record { value = refl; hex = refl; solid = refl; no_sign = refl; no_mark = refl })
    (record { value = refl; hex = refl; solid = refl; no_sign = refl; no_mark = refl })
    (record { value = refl; hex = refl; solid = refl; no_sign = refl; no_mark = refl })
    (record { value = refl; hex = refl; solid = refl; no_sign = refl; no_mark = refl })
    (record { value = refl; hex = refl; solid = refl; no_sign = refl; no_mark = refl })
    (record { value = refl; hex = refl; solid = refl; no_sign = refl; no_mark = refl })
    (record { value = refl; hex = refl; solid = refl; no_sign = refl; no_mark = refl })
    (record { value = refl; hex = refl; solid = refl; no_sign = refl; no_mark = refl })
    (record { value = refl; hex = refl; solid = refl; no_sign = refl; no_mark = refl })
    (record { value = refl; hex = refl; solid = refl; no_sign = refl; no_mark = refl })
    (record { value = refl; hex = refl; solid = refl; no_sign = refl; no_mark = refl })
    (record { value = refl; hex = refl; solid = refl; no_sign = refl; no_mark = refl })
    (record { value = refl; hex = refl; solid = refl; no_sign = refl; no_mark = refl })
    (record { value = refl; hex = refl; solid = refl; no_sign = refl; no_mark = refl })

-- digits of a number, all below 16
abbrev pub hexes : List ℕ → List ℕ
hexes [] = []
hexes (d ∷ ds) = hex_digit d ∷ hexes ds

abbrev pub AllHex : List ℕ → Type 0
AllHex [] = Unit {0}
AllHex (d ∷ ds) = Hex d × AllHex ds

hexes_solid : (ds : List ℕ) → AllHex ds → list_all is_solid (hexes ds) ≡ true
hexes_solid [] h = refl
hexes_solid (d ∷ ds) h = and_from _ _ h.0.solid (hexes_solid ds h.1)

hexes_hex : (ds : List ℕ) → AllHex ds → list_all is_hex (hexes ds) ≡ true
hexes_hex [] h = refl
hexes_hex (d ∷ ds) h = and_from _ _ h.0.hex (hexes_hex ds h.1)

hexes_unmarked : (ds : List ℕ) → AllHex ds → list_all (λ c. not (nat_eq c 33)) (hexes ds) ≡ true
hexes_unmarked [] h = refl
hexes_unmarked (d ∷ ds) h = and_from _ _ (ap not h.0.no_mark) (hexes_unmarked ds h.1)

hexes_until : (ds : List ℕ) → AllHex ds → until is_sign (hexes ds) ≡ hexes ds
unfolding until
hexes_until [] h = refl
hexes_until (d ∷ ds) h = rw (h.0.no_sign) (ap (λ t. hex_digit d ∷ t) (hexes_until ds h.1))

hexes_from : (ds : List ℕ) → AllHex ds → from_first is_sign (hexes ds) ≡ []
unfolding from_first
hexes_from [] h = refl
hexes_from (d ∷ ds) h = rw (h.0.no_sign) (hexes_from ds h.1)

-- `0x` and digits
abbrev pub target : List ℕ → List ℕ
target ds = 48 ∷ 120 ∷ hexes ds

pub target_solid : (ds : List ℕ) → AllHex ds → Solid (target ds)
target_solid ds h = record { some = refl; solid = hexes_solid ds h }

pub unquoted_is : (t : List ℕ) (o : Operand) → list_all is_solid t ≡ true → unquoted t o ≡ Some o
unquoted_is t o h = rw (none_is 34 t (all_by is_solid (λ c. not (nat_eq c 34)) (λ c k. ap not (no_quote c (plain_of c k))) t h)) refl

pub target_alone : (ds : List ℕ) → AllHex ds → operand (target ds) ≡ Some (AsExpression (target ds))
unfolding operand register register_names entry_at
target_alone ds h =
    let e = closed_none 33 (target ds) (hexes_unmarked ds h) in
    let f = unquoted_is (target ds) (AsExpression (target ds)) (hexes_solid ds h) in
    rw (e, f) refl

until_x : (t : List ℕ) → until is_sign (120 ∷ t) ≡ 120 ∷ until is_sign t
unfolding until
until_x t = refl

from_x : (t : List ℕ) → from_first is_sign (120 ∷ t) ≡ from_first is_sign t
unfolding from_first
from_x t = refl

sum_target : (ds : List ℕ) → AllHex ds → sum_of (target ds) ≡ term (target ds)
sum_target ds h =
    let e = hexes_until ds h in
    let f = hexes_from ds h in
    let g : strip (48 ∷ until is_sign (120 ∷ hexes ds)) ≡ target ds = ap (λ t. strip (48 ∷ t)) (until_x (hexes ds) ∙ ap (λ t. 120 ∷ t) e) ∙ tight_first (target ds) (target_solid ds h) in
    rw (g, from_x (hexes ds), f) refl

term_target : (ds : List ℕ) (n : ℕ) → hex_number_of (hexes ds) ≡ Some n → term (target ds) ≡ Some (number n)
unfolding signed natural
term_target ds n e = rw e refl

target_expression : (ds : List ℕ) (n : ℕ) → AllHex ds → hex_number_of (hexes ds) ≡ Some n → expression (target ds) ≡ Some (number n)
unfolding expression
target_expression ds n h e = ap sum_of (tight_first (target ds) (target_solid ds h)) ∙ sum_target ds h ∙ term_target ds n e

value_eight : (a b x d e f g h : ℕ) → AllHex (a ∷ b ∷ x ∷ d ∷ e ∷ f ∷ g ∷ h ∷ []) → value_in 16 (hexes (a ∷ b ∷ x ∷ d ∷ e ∷ f ∷ g ∷ h ∷ [])) ≡ a * 268435456 + (b * 16777216 + (x * 1048576 + (d * 65536 + (e * 4096 + (f * 256 + (g * 16 + (h * 1 + 0)))))))
unfolding value_in
value_eight a b x d e f g h k = rw (k.0.value, k.1.0.value, k.1.1.0.value, k.1.1.1.0.value, k.1.1.1.1.0.value, k.1.1.1.1.1.0.value, k.1.1.1.1.1.1.0.value, k.1.1.1.1.1.1.1.0.value) refl

-- the digits of a number
abbrev pub digits_of : ℕ → List ℕ
digits_of n = n / 268435456 % 16 ∷ n / 16777216 % 16 ∷ n / 1048576 % 16 ∷ n / 65536 % 16 ∷ n / 4096 % 16 ∷ n / 256 % 16 ∷ n / 16 % 16 ∷ n % 16 ∷ []

below : (n : ℕ) → n % 16 < 16
below n = omega arith

pub all_hex : (n : ℕ) → AllHex (digits_of n)
all_hex n = (hex _ (below (n / 268435456)), (hex _ (below (n / 16777216)), (hex _ (below (n / 1048576)), (hex _ (below (n / 65536)), (hex _ (below (n / 4096)), (hex _ (below (n / 256)), (hex _ (below (n / 16)), (hex _ (below n), tt))))))))

whole : (n : ℕ) → n < 4294967296 → n / 268435456 % 16 * 268435456 + (n / 16777216 % 16 * 16777216 + (n / 1048576 % 16 * 1048576 + (n / 65536 % 16 * 65536 + (n / 4096 % 16 * 4096 + (n / 256 % 16 * 256 + (n / 16 % 16 * 16 + (n % 16 * 1 + 0))))))) ≡ n
whole n h = omega arith

pub place_is : (n : ℕ) → place n ≡ target (digits_of n)
unfolding hex_word
place_is n = refl

read_so : (piece : List ℕ) (n : ℕ) → nat_lt 0 (length piece) ≡ true → list_all is_hex piece ≡ true → value_in 16 piece ≡ n → n < 4294967296 → hex_number_of piece ≡ Some n
read_so piece n some all e h = let f : nat_le n 4294967295 ≡ true = grind (arith, nat_tests) in rw (some, all, e, f) refl

pub place_value : (n : ℕ) → n < 4294967296 → expression (place n) ≡ Some (number n)
place_value n h =
    let k = all_hex n in
    ap expression (place_is n) ∙ target_expression (digits_of n) n k (read_so (hexes (digits_of n)) n refl (hexes_hex (digits_of n) k) (value_eight _ _ _ _ _ _ _ _ k ∙ whole n h) h)
