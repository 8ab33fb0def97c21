-- An image that is read is the one that its bytes spell.
use Rattle.std.proofs.Common.{◌≡◌, ◌∙◌, ◌+◌, ◌*◌, ◌/◌, ◌%◌, ◌<◌, ◌≤◌, ℕ, zero, suc, List, [], ◌∷◌, ◌++◌, Ok, Err, None, Some, Option, Result, length, drop, get_or, arith, ap, refl, sym, nat_lt, cond, ◌==◌, true, false, Bool, subst, take, length-drop}
use Rattle.std.proofs.lemmas.Bool.{eqb-true, ltb-false}
use Rattle.std.specs.List.{flat_map}
use Rattle.std.proofs.lemmas.List.{drop-drop, get_or-drop, drop_more, length-take, take-append-drop}
use Rattle.image_format.specs.declared.records.ImageForm.{ImageForm}
use Rattle.image_format.specs.declared.records.ImageForm.TheVariants.{First, Second}
use Rattle.image_format.specs.declared.records.Header.{Header}
use Rattle.image_format.specs.Accepted.{Accepted}
use Rattle.image_format.specs.ImageData.{AreBytes}
use Rattle.image_format.specs.Records.{Records, bytes_of, flash_place, followed, form_at, half, half_bytes, header_at, header_bytes, header_bytes_in, header_in, header_or_fault, letters, line_at, line_bytes, lines_at, num, num_bytes, records_at, records_fault, records_or_fault, region_at, region_bytes, regions_at, sized, task_at, task_bytes, tasks_at, total, unless}
use Rattle.image_format.specs.Steps.{Refusal, field_fault, header_size, lines_place, names_place, regions_place}
use Rattle.image_format.proofs.Again.{IsPlain}
use Rattle.image_format.proofs.Limits.{plain_header}

pub bytes_again : (a b c d : ℕ) → a < 256 → b < 256 → c < 256 → d < 256 → num_bytes (a + 256 * b + 65536 * c + 16777216 * d) ≡ a ∷ b ∷ c ∷ d ∷ []
bytes_again a b c d la lb lc ld =
    let n = a + 256 * b + 65536 * c + 16777216 * d in
    let e0 : n % 256 ≡ a = omega (arith, la, lb, lc, ld) in
    let e1 : n / 256 % 256 ≡ b = omega (arith, la, lb, lc, ld) in
    let e2 : n / 65536 % 256 ≡ c = omega (arith, la, lb, lc, ld) in
    let e3 : n / 16777216 ≡ d = omega (arith, la, lb, lc, ld) in
    rw (e0, e1, e2, e3) refl

halves_again : (a b : ℕ) → a < 256 → b < 256 → half_bytes (a + 256 * b) ≡ a ∷ b ∷ []
halves_again a b la lb =
    let e0 : (a + 256 * b) % 256 ≡ a = omega (arith, la, lb) in
    let e1 : (a + 256 * b) / 256 ≡ b = omega (arith, la, lb) in
    rw (e0, e1) refl

-- four bytes, and those after them
pub four : (bytes : List ℕ) (k : ℕ) → k + 4 ≤ length bytes
    → drop k bytes ≡ get_or bytes k 0 ∷ get_or bytes (k + 1) 0 ∷ get_or bytes (k + 2) 0 ∷ get_or bytes (k + 3) 0 ∷ drop (k + 4) bytes
four bytes k le =
    let one = drop_more bytes k 0 (omega (arith, le)) in
    let two = drop_more bytes (k + 1) 0 (omega (arith, le)) in
    let three = drop_more bytes (k + 2) 0 (omega (arith, le)) in
    let last = drop_more bytes (k + 3) 0 (omega (arith, le)) in
    let to_two : (k + 1) + 1 ≡ k + 2 = omega arith in
    let to_three : (k + 2) + 1 ≡ k + 3 = omega arith in
    let to_four : (k + 3) + 1 ≡ k + 4 = omega arith in
    one ∙ ap (λ (xs : List ℕ). get_or bytes k 0 ∷ xs) (two ∙ ap (λ (xs : List ℕ). get_or bytes (k + 1) 0 ∷ xs) (ap (λ (n : ℕ). drop n bytes) to_two
    ∙ three ∙ ap (λ (xs : List ℕ). get_or bytes (k + 2) 0 ∷ xs) (ap (λ (n : ℕ). drop n bytes) to_three
    ∙ last ∙ ap (λ (xs : List ℕ). get_or bytes (k + 3) 0 ∷ xs) (ap (λ (n : ℕ). drop n bytes) to_four))))

-- a number and the bytes after it
num_spelled : (bytes : List ℕ) (k : ℕ) → k + 4 ≤ length bytes → AreBytes bytes → drop k bytes ≡ num_bytes (num bytes k) ++ drop (k + 4) bytes
num_spelled bytes k le b =
    four bytes k le ∙ ap (λ (xs : List ℕ). xs ++ drop (k + 4) bytes) (sym (bytes_again _ _ _ _ (b k) (b (k + 1)) (b (k + 2)) (b (k + 3))))

task_spelled : (bytes : List ℕ) → 12 ≤ length bytes → AreBytes bytes → bytes ≡ task_bytes (task_at bytes) ++ drop 12 bytes
task_spelled bytes le b =
    four bytes 0 (omega (arith, le)) ∙ ap (λ (xs : List ℕ). get_or bytes 0 0 ∷ get_or bytes 1 0 ∷ get_or bytes 2 0 ∷ get_or bytes 3 0 ∷ xs)
    (num_spelled bytes 4 (omega (arith, le)) b ∙ ap (λ (xs : List ℕ). num_bytes (num bytes 4) ++ xs) (num_spelled bytes 8 (omega (arith, le)) b))

region_spelled : (bytes : List ℕ) → 12 ≤ length bytes → AreBytes bytes → bytes ≡ region_bytes (region_at bytes) ++ drop 12 bytes
region_spelled bytes le b =
    num_spelled bytes 0 (omega (arith, le)) b ∙ ap (λ (xs : List ℕ). num_bytes (num bytes 0) ++ xs)
    (num_spelled bytes 4 (omega (arith, le)) b ∙ ap (λ (xs : List ℕ). num_bytes (num bytes 4) ++ xs) (num_spelled bytes 8 (omega (arith, le)) b))

-- two bytes, and those after them
half_spelled : (bytes : List ℕ) (k : ℕ) → k + 2 ≤ length bytes → AreBytes bytes → drop k bytes ≡ half_bytes (half bytes k) ++ drop (k + 2) bytes
half_spelled bytes k le b =
    let one = drop_more bytes k 0 (omega (arith, le)) in
    let two = drop_more bytes (k + 1) 0 (omega (arith, le)) in
    let to_two : (k + 1) + 1 ≡ k + 2 = omega arith in
    one ∙ ap (λ (xs : List ℕ). get_or bytes k 0 ∷ xs) (two ∙ ap (λ (n : ℕ). get_or bytes (k + 1) 0 ∷ drop n bytes) to_two)
    ∙ ap (λ (xs : List ℕ). xs ++ drop (k + 2) bytes) (sym (halves_again _ _ (b k) (b (k + 1))))

line_spelled : (form : ImageForm) (bytes : List ℕ) → 8 ≤ length bytes → AreBytes bytes → bytes ≡ line_bytes form (line_at form bytes) ++ drop 8 bytes
line_spelled First bytes le b =
    four bytes 0 (omega (arith, le)) ∙ ap (λ (xs : List ℕ). get_or bytes 0 0 ∷ get_or bytes 1 0 ∷ (xs ++ drop 4 bytes)) (sym (halves_again (get_or bytes 2 0) (get_or bytes 3 0) (b 2) (b 3)))
    ∙ ap (λ (xs : List ℕ). (get_or bytes 0 0 ∷ get_or bytes 1 0 ∷ half_bytes (half bytes 2)) ++ xs) (num_spelled bytes 4 (omega (arith, le)) b)
line_spelled Second bytes le b =
    four bytes 0 (omega (arith, le)) ∙ ap (λ (xs : List ℕ). get_or bytes 0 0 ∷ get_or bytes 1 0 ∷ (xs ++ drop 4 bytes)) (sym (halves_again (get_or bytes 2 0) (get_or bytes 3 0) (b 2) (b 3)))
    ∙ ap (λ (xs : List ℕ). (get_or bytes 0 0 ∷ get_or bytes 1 0 ∷ half_bytes (half bytes 2)) ++ xs) (num_spelled bytes 4 (omega (arith, le)) b)

letters_spelled : (f : ImageForm) (bytes : List ℕ) → 4 ≤ length bytes → AreBytes bytes → num bytes 0 ≡ letters f → bytes ≡ num_bytes (letters f) ++ drop 4 bytes
letters_spelled f bytes le b magic = num_spelled bytes 0 (omega (arith, le)) b ∙ ap (λ (n : ℕ). num_bytes n ++ drop 4 bytes) magic

header_spelled : (f : ImageForm) (bytes : List ℕ) → header_size f ≤ length bytes → AreBytes bytes → num bytes 0 ≡ letters f
    → bytes ≡ header_bytes (header_at f bytes) ++ drop (header_size (header_at f bytes).form) bytes
unfolding header_bytes_in
header_spelled First bytes le b magic =
    let counts = halves_again (get_or bytes 6 0) (get_or bytes 7 0) (b 6) (b 7) in
    letters_spelled First bytes (omega (arith, le)) b magic ∙ ap (λ (xs : List ℕ). (72 ∷ 66 ∷ 73 ∷ 49 ∷ []) ++ xs)
    (four bytes 4 (omega (arith, le))
    ∙ ap (λ (xs : List ℕ). get_or bytes 4 0 ∷ get_or bytes 5 0 ∷ (xs ++ drop 8 bytes)) (sym counts)
    ∙ ap (λ (xs : List ℕ). (get_or bytes 4 0 ∷ get_or bytes 5 0 ∷ half_bytes (half bytes 6)) ++ xs)
    (num_spelled bytes 8 (omega (arith, le)) b ∙ ap (λ (xs : List ℕ). num_bytes (num bytes 8) ++ xs)
    (num_spelled bytes 12 (omega (arith, le)) b ∙ ap (λ (xs : List ℕ). num_bytes (num bytes 12) ++ xs) (num_spelled bytes 16 (omega (arith, le)) b))))
header_spelled Second bytes le b magic =
    letters_spelled Second bytes (omega (arith, le)) b magic ∙ ap (λ (xs : List ℕ). (72 ∷ 66 ∷ 73 ∷ 50 ∷ []) ++ xs)
    (half_spelled bytes 4 (omega (arith, le)) b ∙ ap (λ (xs : List ℕ). half_bytes (half bytes 4) ++ xs)
    (half_spelled bytes 6 (omega (arith, le)) b ∙ ap (λ (xs : List ℕ). half_bytes (half bytes 6) ++ xs)
    (half_spelled bytes 8 (omega (arith, le)) b ∙ ap (λ (xs : List ℕ). half_bytes (half bytes 8) ++ xs)
    (half_spelled bytes 10 (omega (arith, le)) b ∙ ap (λ (xs : List ℕ). half_bytes (half bytes 10) ++ xs)
    (num_spelled bytes 12 (omega (arith, le)) b ∙ ap (λ (xs : List ℕ). num_bytes (num bytes 12) ++ xs)
    (num_spelled bytes 16 (omega (arith, le)) b ∙ ap (λ (xs : List ℕ). num_bytes (num bytes 16) ++ xs)
    (num_spelled bytes 20 (omega (arith, le)) b ∙ ap (λ (xs : List ℕ). num_bytes (num bytes 20) ++ xs) (num_spelled bytes 24 (omega (arith, le)) b))))))))

rest_bytes : (k : ℕ) (bytes : List ℕ) → AreBytes bytes → AreBytes (drop k bytes)
rest_bytes k bytes b i = omega (arith, get_or-drop k bytes i 0, b (k + i))

tasks_spelled : (n : ℕ) (bytes : List ℕ) → 12 * n ≤ length bytes → AreBytes bytes → bytes ≡ flat_map task_bytes (tasks_at n bytes) ++ drop (12 * n) bytes
tasks_spelled zero bytes le b = refl
tasks_spelled (suc n) bytes le b =
    let more : List ℕ = flat_map task_bytes (tasks_at n (drop 12 bytes)) in
    let long : 12 * n ≤ length (drop 12 bytes) = omega (arith, le, length-drop 12 bytes) in
    let next : drop (12 * n) (drop 12 bytes) ≡ drop (12 * suc n) bytes =
    let e : 12 + 12 * n ≡ 12 * suc n = omega arith in drop-drop (12 * n) 12 bytes ∙ ap (λ (k : ℕ). drop k bytes) e in
    task_spelled bytes (omega (arith, le)) b ∙ ap (λ (xs : List ℕ). task_bytes (task_at bytes) ++ xs)
    (tasks_spelled n (drop 12 bytes) long (rest_bytes 12 bytes b) ∙ ap (λ (xs : List ℕ). more ++ xs) next)

regions_spelled : (n : ℕ) (bytes : List ℕ) → 12 * n ≤ length bytes → AreBytes bytes → bytes ≡ flat_map region_bytes (regions_at n bytes) ++ drop (12 * n) bytes
regions_spelled zero bytes le b = refl
regions_spelled (suc n) bytes le b =
    let more : List ℕ = flat_map region_bytes (regions_at n (drop 12 bytes)) in
    let long : 12 * n ≤ length (drop 12 bytes) = omega (arith, le, length-drop 12 bytes) in
    let next : drop (12 * n) (drop 12 bytes) ≡ drop (12 * suc n) bytes =
    let e : 12 + 12 * n ≡ 12 * suc n = omega arith in drop-drop (12 * n) 12 bytes ∙ ap (λ (k : ℕ). drop k bytes) e in
    region_spelled bytes (omega (arith, le)) b ∙ ap (λ (xs : List ℕ). region_bytes (region_at bytes) ++ xs)
    (regions_spelled n (drop 12 bytes) long (rest_bytes 12 bytes b) ∙ ap (λ (xs : List ℕ). more ++ xs) next)

eight_more : (n : ℕ) (bytes : List ℕ) → drop (8 * n) (drop 8 bytes) ≡ drop (8 * suc n) bytes
eight_more n bytes = let e : 8 + 8 * n ≡ 8 * suc n = omega arith in drop-drop (8 * n) 8 bytes ∙ ap (λ (k : ℕ). drop k bytes) e

lines_spelled : (form : ImageForm) (n : ℕ) (bytes : List ℕ) → 8 * n ≤ length bytes → AreBytes bytes → bytes ≡ flat_map (line_bytes form) (lines_at form n bytes) ++ drop (8 * n) bytes
lines_spelled form zero bytes le b = refl
lines_spelled First (suc n) bytes le b =
    let more : List ℕ = flat_map (line_bytes First) (lines_at First n (drop 8 bytes)) in
    let long : 8 * n ≤ length (drop 8 bytes) = omega (arith, le, length-drop 8 bytes) in
    line_spelled First bytes (omega (arith, le)) b ∙ ap (λ (xs : List ℕ). line_bytes First (line_at First bytes) ++ xs)
    (lines_spelled First n (drop 8 bytes) long (rest_bytes 8 bytes b) ∙ ap (λ (xs : List ℕ). more ++ xs) (eight_more n bytes))
lines_spelled Second (suc n) bytes le b =
    let more : List ℕ = flat_map (line_bytes Second) (lines_at Second n (drop 8 bytes)) in
    let long : 8 * n ≤ length (drop 8 bytes) = omega (arith, le, length-drop 8 bytes) in
    line_spelled Second bytes (omega (arith, le)) b ∙ ap (λ (xs : List ℕ). line_bytes Second (line_at Second bytes) ++ xs)
    (lines_spelled Second n (drop 8 bytes) long (rest_bytes 8 bytes b) ∙ ap (λ (xs : List ℕ). more ++ xs) (eight_more n bytes))

-- the parts at their places, spelled
parts_spelled : (h : Header) (bytes : List ℕ) → AreBytes bytes → bytes ≡ header_bytes h ++ drop (header_size h.form) bytes → length bytes ≡ total h → bytes ≡ bytes_of (records_at h bytes)
parts_spelled h bytes b one long =
    let size = header_size h.form in
    let t = regions_place h in
    let r = lines_place h in
    let l = names_place h in
    let front = header_bytes h in
    let ts = flat_map task_bytes (tasks_at h.tasks (drop size bytes)) in
    let rs = flat_map region_bytes (regions_at h.regions (drop t bytes)) in
    let ls = flat_map (line_bytes h.form) (lines_at h.form h.lines (drop r bytes)) in
    let names = take h.names (drop l bytes) in
    let two : drop size bytes ≡ ts ++ drop t bytes = tasks_spelled h.tasks (drop size bytes) (omega (arith, long, length-drop size bytes)) (rest_bytes size bytes b)
    ∙ ap (λ (xs : List ℕ). ts ++ xs) (drop-drop (12 * h.tasks) size bytes) in
    let three : drop t bytes ≡ rs ++ drop r bytes = regions_spelled h.regions (drop t bytes) (omega (arith, long, length-drop t bytes)) (rest_bytes t bytes b)
    ∙ ap (λ (xs : List ℕ). rs ++ xs) (drop-drop (12 * h.regions) t bytes) in
    let four : drop r bytes ≡ ls ++ drop l bytes = lines_spelled h.form h.lines (drop r bytes) (omega (arith, long, length-drop r bytes)) (rest_bytes r bytes b)
    ∙ ap (λ (xs : List ℕ). ls ++ xs) (drop-drop (8 * h.lines) r bytes) in
    let five : drop l bytes ≡ names ++ drop (flash_place h) bytes = sym (take-append-drop h.names (drop l bytes)) ∙ ap (λ (xs : List ℕ). names ++ xs) (drop-drop h.names l bytes) in
    one ∙ ap (λ (xs : List ℕ). front ++ xs) (two ∙ ap (λ (xs : List ℕ). ts ++ xs) (three ∙ ap (λ (xs : List ℕ). rs ++ xs) (four ∙ ap (λ (xs : List ℕ). ls ++ xs) five)))

taken : {T : Type 0} (test : Bool) (fault : Refusal) (x : Result T Refusal) (p : T) → cond test (Err fault) x ≡ Ok p → (test ≡ false) × (x ≡ Ok p)
taken true fault x p e = cc
taken false fault x p e = (refl, e)

passed : {T : Type 0} (f : Option Refusal) (x : Result T Refusal) (p : T) → unless f x ≡ Ok p → (f ≡ None) × (x ≡ Ok p)
passed None x p e = (refl, e)
passed (Some fault) x p e = cc

same_ok : {T : Type 0} (p q : T) → ◌≡◌ {A = Result T Refusal} (Ok p) (Ok q) → p ≡ q
same_ok p q e = cc

same_form : (f g : ImageForm) → ◌≡◌ {A = Option ImageForm} (Some f) (Some g) → f ≡ g
same_form f g e = cc

letters_of : (n : ℕ) (f : ImageForm) → cond (n == 826884680) (Some First) (cond (n == 843661896) (Some Second) None) ≡ Some f → n ≡ letters f
letters_of n f e = by (n == 826884680) (n == 843661896) refl refl e
  where
    by : (a b : Bool) → (n == 826884680) ≡ a → (n == 843661896) ≡ b → cond a (Some First) (cond b (Some Second) None) ≡ Some f → n ≡ letters f
    by true b x y e = eqb-true n 826884680 x ∙ ap letters (same_form First f e)
    by false true x y e = eqb-true n 843661896 y ∙ ap letters (same_form Second f e)
    by false false x y e = cc

-- what a header that is taken says of the bytes
record Begins (bytes : List ℕ) (h : Header) : Type 0 where
  form : ImageForm
  header : header_at form bytes ≡ h
  magic : num bytes 0 ≡ letters form
  long : length bytes ≡ total h
  whole : header_size form ≤ length bytes
  fields : field_fault h ≡ None

begins_in : (f : ImageForm) (bytes : List ℕ) (h : Header) → num bytes 0 ≡ letters f → header_in (Some f) bytes ≡ Ok h → Begins bytes h
begins_in f bytes h magic e =
    let g = header_at f bytes in
    let n = length bytes in
    let enough = taken (nat_lt n (header_size f)) _ _ h e in
    let fields = passed (field_fault g) (sized g n) h enough.1 in
    let short = taken (nat_lt n (total g)) _ _ h fields.1 in
    let long = taken (nat_lt (total g) n) _ _ h short.1 in
    let same = same_ok g h long.1 in
    let here : n ≡ total g = omega (arith, ltb-false n (total g) short.0, ltb-false (total g) n long.0) in
    record { form = f; header = same; magic = magic; long = here ∙ ap total same; whole = ltb-false n (header_size f) enough.0; fields = ap field_fault (sym same) ∙ fields.0 }

begins : (bytes : List ℕ) (h : Header) → header_or_fault bytes ≡ Ok h → Begins bytes h
begins bytes h e = by_form (form_at bytes) refl (taken (nat_lt (length bytes) 20) _ _ h e).1
  where
    by_form : (x : Option ImageForm) → form_at bytes ≡ x → header_in x bytes ≡ Ok h → Begins bytes h
    by_form (Some f) is ok = begins_in f bytes h (letters_of (num bytes 0) f is) ok
    by_form None is ok = cc

-- so many records are there
pub tasks_count : (n : ℕ) (bytes : List ℕ) → length (tasks_at n bytes) ≡ n
tasks_count zero bytes = refl
tasks_count (suc n) bytes = omega (arith, tasks_count n (drop 12 bytes))

regions_count : (n : ℕ) (bytes : List ℕ) → length (regions_at n bytes) ≡ n
regions_count zero bytes = refl
regions_count (suc n) bytes = omega (arith, regions_count n (drop 12 bytes))

lines_count : (form : ImageForm) (n : ℕ) (bytes : List ℕ) → length (lines_at form n bytes) ≡ n
lines_count form zero bytes = refl
lines_count form (suc n) bytes = omega (arith, lines_count form n (drop 8 bytes))

-- the parts at their places in a file as long as its header tells, which no step refuses
accepted_parts : (h : Header) (bytes : List ℕ) → length bytes ≡ total h → field_fault h ≡ None → records_fault (records_at h bytes) ≡ None → Accepted (records_at h bytes)
accepted_parts h bytes long fields records = record {
  tasks = tasks_count h.tasks (drop (header_size h.form) bytes);
  regions = regions_count h.regions (drop (regions_place h) bytes);
  lines = lines_count h.form h.lines (drop (lines_place h) bytes);
  names = omega (arith, long, length-take h.names (drop (names_place h) bytes), length-drop (names_place h) bytes);
  flash = omega (arith, long, length-drop (flash_place h) bytes);
  fields = fields;
  records = records;
}

-- what is read is accepted, and its header has 0 for what its form has not; bytes are spelled so
record Reads (bytes : List ℕ) (r : Records) : Type 0 where
  accepted : Accepted r
  plain : IsPlain r.header
  spelled : AreBytes bytes → bytes ≡ bytes_of r

reads : (bytes : List ℕ) (r : Records) → records_or_fault bytes ≡ Ok r → Reads bytes r
reads bytes r e = by_header (header_or_fault bytes) refl e
  where
    by_header : (x : Result Header Refusal) → header_or_fault bytes ≡ x → followed x bytes ≡ Ok r → Reads bytes r
    by_header (Ok h) is ok =
        let d = begins bytes h is in
        let last = passed (records_fault (records_at h bytes)) (Ok (records_at h bytes)) r ok in
        let same = same_ok (records_at h bytes) r last.1 in
        record {
          accepted = subst Accepted same (accepted_parts h bytes d.long d.fields last.0);
          plain = subst (λ (q : Records). IsPlain q.header) same (subst IsPlain d.header (plain_header d.form bytes));
          spelled = λ b.
              let front : bytes ≡ header_bytes h ++ drop (header_size h.form) bytes =
              subst (λ (g : Header). bytes ≡ header_bytes g ++ drop (header_size g.form) bytes) d.header (header_spelled d.form bytes d.whole b d.magic) in
              parts_spelled h bytes b front d.long ∙ ap bytes_of same;
        }
    by_header (Err fault) is ok = cc

pub spelled : (bytes : List ℕ) (r : Records) → AreBytes bytes → records_or_fault bytes ≡ Ok r → bytes ≡ bytes_of r
spelled bytes r b e = (reads bytes r e).spelled b

pub accepted_plain : (bytes : List ℕ) (r : Records) → records_or_fault bytes ≡ Ok r → Accepted r × IsPlain r.header
accepted_plain bytes r e = let read = reads bytes r e in (read.accepted, read.plain)
