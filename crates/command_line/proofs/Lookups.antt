-- What is read of matches that are whole.
use Rattle.std.proofs.Common.{◌≡◌, ◌≤◌, ◌<◌, ◌^◌, ap, ℕ, [], Option, Some, None, Ok, Err, Result, arith, false}
use Rattle.std.specs.Prelude.{unwrap_or}
use Rattle.std.specs.Str.Parse.{ParsesUnsigned}
use Rattle.clap.specs.Words.{ReadsOne, Text, one_text, rows_of}
use Rattle.clap.specs.Walk.{one_of}
use Rattle.clap.specs.declared.builder.value_parser.ValueParser.TheVariants as parser
use Rattle.clap.specs.declared.parser.matches.Found.{Found}
use Rattle.clap.proofs.ValueTestLemmas.{accepts-Accepts}
use Rattle.clap.proofs.WalkLemmas.{one_text-rows}
use Rattle.command_line.specs.CommandLine.{number_of}
use Rattle.command_line.specs.Required.{IsNumber}

-- the number that the text spells, where it is one of at most 32 bits
number_read : (E : Type 0) (most : ℕ) (t : Text) (r : Result ℕ E) → most < 2 ^ 32 → IsNumber most (Some t) → ParsesUnsigned 32 10 t r → (r ≡ Ok (number_of t)) × (number_of t ≤ most)
number_read E most t (Ok x) few is p =
    let a = accepts-Accepts false (parser.Unsigned 0 most) t is in
    (ap Ok p.1, a.3)
number_read E most t (Err e) few is p =
    let a = accepts-Accepts false (parser.Unsigned 0 most) t is in
    absurd (p (a.0, omega (arith, a.3, few)))

-- what a look-up reads of such a text
pub looked_up : (E : Type 0) (most : ℕ) (gives : Text → Result ℕ E → Type 0) → ((t : Text) (r : Result ℕ E) → gives t r → ParsesUnsigned 32 10 t r)
    → (f : Found) (id : Text) (r : Option ℕ) → ((t : Text) → one_text f id ≡ Some t → ReadsOne gives t r) → most < 2 ^ 32 → IsNumber most (one_of id (rows_of f))
    → (r ≡ Some (number_of (unwrap_or (one_of id (rows_of f)) []))) × (number_of (unwrap_or (one_of id (rows_of f)) []) ≤ most)
looked_up E most gives to f id r reads few is = go (one_of id (rows_of f)) (one_text-rows f id) is
  where
    parsed : (t : Text) (o : Option ℕ) → IsNumber most (Some t) → ReadsOne gives t o → (o ≡ Some (number_of t)) × (number_of t ≤ most)
    parsed t (Some n) is g =
        let p = number_read E most t (Ok n) few is (to t (Ok n) g) in
        let q : Ok n ≡ Ok (number_of t) = p.0 in
        (cc, p.1)
    parsed t None is g =
        let p = number_read E most t (Err g.0) few is (to t (Err g.0) g.1) in
        let q : Err g.0 ≡ Ok (number_of t) = p.0 in
        cc

    go : (o : Option Text) → one_text f id ≡ o → IsNumber most o → (r ≡ Some (number_of (unwrap_or o []))) × (number_of (unwrap_or o []) ≤ most)
    go None e is = absurd is
    go (Some t) e is = parsed t r is (reads t e)
