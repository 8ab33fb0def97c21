-- The lines of the last memory show something.
use Rattle.std.proofs.Common.{◌≡◌, ℕ, zero, suc, inl, inr, ◌+◌, ◌*◌, ◌/◌, ◌%◌, ◌^◌, ◌<◌, ◌≤◌, Bool, true, false, cond, eqb, List, [], ◌∷◌, ◌++◌, length, Option, None, Some, refl, ap, ◌∙◌, arith, append-nil}
use Rattle.std.specs.Prelude.{codes, decimal, Contains}
use Rattle.std.specs.List.{list_all, flat_map, range_with_len}
use Rattle.std.specs.Option.{option_map_or}
use Rattle.std.proofs.lemmas.Bool.{eqb-true}
use Rattle.std.proofs.lemmas.Bool.Decides.{nat_tests}
use Rattle.region_check.specs.declared.Region.{Region}
use Rattle.mem_banks.specs.Memory.{Memory, IsWithin}
use Rattle.thumb_insn.specs.Text.{hex_digit}
use Rattle.task_table.specs.model.State.{Setup, State}
use Rattle.task_table.specs.model.Placed.{ArePlaced}
use Rattle.task_table.specs.model.Reading.{setup_at}
use Rattle.task_table.specs.model.Sane.{Sane}
use Rattle.task_table.proofs.model.Keeps.{found_in}
use Rattle.trace_text.specs.Text.{hex}
use Rattle.trace_audit.specs.declared.reading.TraceLine.TheVariants as line
use Rattle.trace_audit.specs.Fields.{is_low_hex, is_hex}
use Rattle.board_run.specs.MemoryText.{byte_of, hex_at, bytes_hex, are_zeros, row_text, region_line, row_at, rows_text, row_count, region_text, begins_at, regions_of, region_at, place_text, places_text, memory_text, row_line as told_row}
use Rattle.board_run.proofs.Listing.{region_of_task}
use Rattle.audit_laws.specs.Told.{IsLine}
use Rattle.audit_laws.specs.Ends.{mem_line, row_line}
use Rattle.audit_laws.specs.Whole.{joined}
use Rattle.audit_laws.proofs.Hexes.{all_more, digit_of}
use Rattle.audit_laws.proofs.Short.{plus, lit, ten, eight}
use Rattle.audit_laws.proofs.Ended.{mem_read, row_read}
use Rattle.audit_runs.specs.Last.{AreShown, IsShown}
use Rattle.audit_runs.proofs.Telling.{joined_more}

-- ## lines that show something, one after another

pub shown_none : IsShown []
shown_none = record { texts = []; each = tt; whole = refl }

are_shown_more : (xs ys : List (List ℕ)) → AreShown xs → AreShown ys → AreShown (xs ++ ys)
are_shown_more [] ys h k = k
are_shown_more (x ∷ xs) ys h k = (h.0, h.1, are_shown_more xs ys h.2 k)

shown_then : (a b : List ℕ) → IsShown a → IsShown b → IsShown (a ++ b)
shown_then a b h k = record {
  texts = h.texts ++ k.texts;
  each = are_shown_more h.texts k.texts h.each k.each;
  whole = joined_more h.texts k.texts ∙ ap (λ t. t ++ joined k.texts) h.whole ∙ ap (λ t. a ++ t) k.whole;
}

shown_line : (t : List ℕ) → IsLine t line.Shows → length t ≤ 160 → IsShown t
shown_line t is short = record { texts = t ∷ []; each = (is, short, tt); whole = append-nil t }

shown_each : (f : ℕ → List ℕ) → ((k : ℕ) → IsShown (f k)) → (ks : List ℕ) → IsShown (flat_map f ks)
shown_each f h [] = shown_none
shown_each f h (k ∷ ks) = shown_then (f k) (flat_map f ks) (h k) (shown_each f h ks)

-- those of the numbers from a on, all of them below a most
shown_from : (f : ℕ → List ℕ) (most : ℕ) → ((k : ℕ) → k < most → IsShown (f k)) → (n a : ℕ) → a + n ≤ most → IsShown (flat_map f (range_with_len a n))
shown_from f most h zero a few = shown_none
shown_from f most h (suc n) a few = shown_then (f a) (flat_map f (range_with_len (a + 1) n)) (h a (omega arith)) (shown_from f most h n (a + 1) (omega arith))

-- ## sixteen bytes

low_bytes : (m : Memory) (a : ℕ) (ks : List ℕ) → list_all is_low_hex (flat_map (hex_at m a) ks) ≡ true
low_bytes m a [] = refl
low_bytes m a (k ∷ ks) =
    let b = byte_of m (a + k) in
    all_more (hex_digit (b / 16 % 16)) (hex_digit (b % 16) ∷ flat_map (hex_at m a) ks) (digit_of (b / 16)) (all_more (hex_digit (b % 16)) (flat_map (hex_at m a) ks) (digit_of b) (low_bytes m a ks))

two_each : (m : Memory) (a : ℕ) (ks : List ℕ) → length (flat_map (hex_at m a) ks) ≡ 2 * length ks
two_each m a [] = refl
two_each m a (k ∷ ks) = let e = two_each m a ks in omega arith

hex_by : (n : ℕ) (w : List ℕ) → length w ≡ n → list_all is_low_hex w ≡ true → is_hex n w ≡ true
unfolding is_hex
hex_by n w e all = rw (same (length w) n e, all) refl
  where
    same : (a b : ℕ) → a ≡ b → eqb a b ≡ true
    same a b e = grind (arith, nat_tests)

bytes_length : (m : Memory) (a n : ℕ) → length (bytes_hex m a n) ≡ 2 * length (range_with_len 0 n)
unfolding bytes_hex
bytes_length m a n = two_each m a (range_with_len 0 n)

bytes_low : (m : Memory) (a n : ℕ) → list_all is_low_hex (bytes_hex m a n) ≡ true
unfolding bytes_hex
bytes_low m a n = low_bytes m a (range_with_len 0 n)

bytes_fit : (m : Memory) (a : ℕ) → is_hex 32 (bytes_hex m a 16) ≡ true
bytes_fit m a = hex_by 32 (bytes_hex m a 16) (bytes_length m a 16) (bytes_low m a 16)

row_short : (a : ℕ) (digits : List ℕ) → length digits ≡ 32 → length (row_line a digits) ≤ 160
row_short a digits e =
    let x = plus (hex a) (codes " ") 8 1 (eight a) (lit (codes " ")) in
    let y = plus (hex a ++ codes " ") digits 9 32 x (omega arith) in
    let z = plus (hex a ++ codes " " ++ digits) (codes "\n") 41 1 y (lit (codes "\n")) in
    omega arith

row_shown : (m : Memory) (a : ℕ) → IsShown (row_text m a)
unfolding told_row
row_shown m a = by (are_zeros m a 16)
  where
    by : (b : Bool) → IsShown (cond b [] (told_row m a))
    by true = shown_none
    by false = shown_line (row_line a (bytes_hex m a 16)) (row_read a (bytes_hex m a 16) (bytes_fit m a)) (row_short a (bytes_hex m a 16) (bytes_length m a 16))

rows_shown : (m : Memory) (base n : ℕ) → IsShown (rows_text m base n)
unfolding rows_text
rows_shown m base n = shown_each (row_at m base) (λ k. row_shown m (base + 16 * k)) (range_with_len 0 n)

-- ## regions

mem_short : (base size : ℕ) → size < 2 ^ 32 → length (mem_line base size) ≤ 160
mem_short base size fit =
    let w = plus (codes "mem ") (hex base) 4 8 (lit (codes "mem ")) (eight base) in
    let x = plus (codes "mem " ++ hex base) (codes " ") 12 1 w (lit (codes " ")) in
    let y = plus (codes "mem " ++ hex base ++ codes " ") (decimal size) 13 10 x (ten size fit) in
    let z = plus (codes "mem " ++ hex base ++ codes " " ++ decimal size) (codes "\n") 23 1 y (lit (codes "\n")) in
    omega arith

region_shown : (m : Memory) (r : Region) → r.size < 2 ^ 32 → IsShown (region_text m r)
unfolding region_text region_line
region_shown m r fit = shown_then (mem_line r.base r.size) (rows_text m r.base (row_count r)) (shown_line (mem_line r.base r.size) (mem_read r.base r.size fit) (mem_short r.base r.size fit)) (rows_shown m r.base (row_count r))

module _ (g : Setup) (m : Memory) (placed : ArePlaced g m) where
  -- below the devices each lies in flash or in RAM
  size_fits : (i : ℕ) (r : Region) → Contains (setup_at g i).regions r → r.base < 0x40000000 → r.size < 2 ^ 32
  size_fits i r c low = by r.rights.device refl
    where
      inside : IsWithin m r.base r.size → r.size < 2 ^ 32
      inside (inl (inl none)) = omega arith
      inside (inl (inr ram)) = let from = ram.0 in let end = ram.1 in let short = placed.below in omega arith
      inside (inr flash) = let from = flash.0 in let end = flash.1 in let short = placed.flash in omega arith

      by : (b : Bool) → r.rights.device ≡ b → r.size < 2 ^ 32
      by true e = let high = placed.devices i r c e in absurd (omega arith)
      by false e = inside (placed.within i r c e)

  found_fit : (base : ℕ) (r : Region) → base < 0x40000000 → region_at g base ≡ Some r → r.size < 2 ^ 32
  unfolding region_at
  found_fit base r low e =
      let found = found_in (begins_at base) (regions_of g) r e in
      let own = region_of_task g.tasks r found.0 in
      size_fits own.0 r own.1 (omega (arith, eqb-true r.base base found.1, low))

  place_shown : (k : ℕ) → k < 1024 → IsShown (place_text g m k)
  place_shown k few = by (region_at g (0x20000000 + 256 * k)) refl
    where
      by : (o : Option Region) → region_at g (0x20000000 + 256 * k) ≡ o → IsShown (option_map_or (region_text m) o [])
      by None e = shown_none
      by (Some r) e = region_shown m r (found_fit (0x20000000 + 256 * k) r (omega arith) e)

  places_shown : (n : ℕ) → n ≤ 1024 → IsShown (places_text g m n)
  unfolding places_text
  places_shown n few = shown_from (place_text g m) 1024 place_shown n 0 (omega arith)

pub memory_shown : (g : Setup) (s : State) → Sane g s → IsShown (memory_text g s)
unfolding memory_text
memory_shown g s sane = places_shown g s.memory sane.steady.placed 1024 (omega arith)
