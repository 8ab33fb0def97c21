-- Numbers and their bounds.
use Rattle.std.proofs.Common.{◌≡◌, ℕ, ◌≤◌, List, length, Option, Some, None, arith, Bool, true, false, nat_le, nat_lt, ◌&&◌, if◌then◌else◌, refl}
use Rattle.std.specs.List.{list_all}
use Rattle.text_lines.specs.Text.{number_of, is_digit, value_in}
use Rattle.run_script.specs.Statements.{at_least, number_within}

some_below : (b : Bool) (v max n : ℕ) → (if b && nat_le v max then Some v else None) ≡ Some n → n ≤ max
some_below b v max n h = grind arith

pub number_below : (piece : List ℕ) (max n : ℕ) → number_of piece max ≡ Some n → n ≤ max
number_below piece max n h = some_below (nat_lt 0 (length piece) && list_all is_digit piece) (value_in 10 piece) max n h

least : (low n m : ℕ) → (if nat_le low m then Some m else None) ≡ Some n → (low ≤ n) × (m ≡ n)
least low n m h = grind arith

bounded : (b : Bool) (o : Option ℕ) (low top n : ℕ) → ((m : ℕ) → o ≡ Some m → m ≤ top) → (if b then at_least low o else None) ≡ Some n → (low ≤ n) × (n ≤ top)
bounded false o low top n below h = absurd (cc)
bounded true None low top n below h = absurd (cc)
bounded true (Some m) low top n below h =
    let both : (low ≤ n) × (m ≡ n) = least low n m h in
    let most : m ≤ top = below m refl in
    (both.0, omega (arith, both.1, most))

pub number_within_bounds : (low top : ℕ) (word : List ℕ) (n : ℕ) → number_within low top word ≡ Some n → (low ≤ n) × (n ≤ top)
number_within_bounds low top word n h = bounded (nat_le (length word) 10) (number_of word top) low top n (λ m e. number_below word top m e) h
