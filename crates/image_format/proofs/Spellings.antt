-- What bytes of either form are read as.
use Rattle.std.proofs.Common.{◌≡◌, ◌∙◌, ◌≤◌, ◌<◌, ◌+◌, ℕ, zero, suc, List, [], ◌∷◌, ◌++◌, Result, Ok, Err, None, drop, inl, inr, length, map, get_or, arith, ap, ap₂, refl, sym, subst}
use Rattle.std.specs.Prelude.{Contains, slice_index}
use Rattle.std.specs.List.{flat_map}
use Rattle.std.proofs.lemmas.List.{length-map}
use Rattle.image_format.specs.declared.records.ImageForm.{ImageForm}
use Rattle.image_format.specs.declared.records.ImageForm.TheVariants.{First, Second}
use Rattle.image_format.specs.declared.records.Header.{Header}
use Rattle.image_format.specs.declared.records.LineRecord.{LineRecord}
use Rattle.image_format.specs.declared.records.RegionRecord.{RegionRecord}
use Rattle.image_format.specs.declared.records.TaskRecord.{TaskRecord}
use Rattle.image_format.specs.Accepted.{Accepted}
use Rattle.image_format.specs.Names.{after_names, names_of}
use Rattle.image_format.specs.ImageData.{AreBytes, ImageLine, ImageData, Sound, Spells, SpellsFirst, ImageTask, all_names, all_regions, image_or_fault, line_of, line_record, names_bytes, image_data_of, pictured, records_of, region_record, spelling, task_record, tasks_of}
use Rattle.image_format.specs.Records.{Records, bytes_of, header_at, header_bytes_in, line_bytes, records_at, records_or_fault, region_bytes, task_bytes}
use Rattle.image_format.specs.Steps.{Refusal, header_size, line_fault, lines_from, lines_place, task_fault, tasks_from}
use Rattle.image_format.proofs.Again.{IsCounted, IsPlain, bytes_length, header_again, reads_again, records_again}
use Rattle.image_format.proofs.Limits.{Limits, limits, short_total}
use Rattle.image_format.proofs.Moved.{first_accepted, in_form, line_rows, second_accepted}
use Rattle.image_format.proofs.Named.{no_name}
use Rattle.image_format.proofs.Passed.{both_none, passed_steps}
use Rattle.image_format.proofs.Shape.{equals, is_line, image_data_again, shape_again, sound_image_data, tasks_length}
use Rattle.image_format.proofs.Spelled.{accepted_plain, spelled}

-- ---- what is read is a spelling

low_at : (least tasks place : ℕ) (ls : List LineRecord) (k : ℕ) (l : ImageLine) → lines_from First least tasks place ls ≡ None → k < length (map line_of ls) → get_or (map line_of ls) k l ≡ l → l.line ≤ 31
low_at least tasks place [] k l e lt is = absurd (omega (arith, lt))
low_at least tasks place (m ∷ ls) zero l e lt is =
    let a = both_none (line_fault First least tasks m place) (lines_from First (m.line + 1) tasks (place + 8) ls) e in
    subst (λ (x : ImageLine). x.line ≤ 31) is (is_line First least tasks m place a.0).most
low_at least tasks place (m ∷ ls) (suc k) l e lt is =
    low_at (m.line + 1) tasks (place + 8) ls k l (both_none (line_fault First least tasks m place) (lines_from First (m.line + 1) tasks (place + 8) ls) e).1 (omega (arith, lt)) is

undriven_at : (least tasks place : ℕ) (ls : List LineRecord) (k : ℕ) (l : ImageLine) → lines_from First least tasks place ls ≡ None → k < length (map line_of ls) → get_or (map line_of ls) k l ≡ l → l.device ≡ 0
undriven_at least tasks place [] k l e lt is = absurd (omega (arith, lt))
undriven_at least tasks place (m ∷ ls) zero l e lt is =
    let a = both_none (line_fault First least tasks m place) (lines_from First (m.line + 1) tasks (place + 8) ls) e in
    sym (ap (λ (x : ImageLine). x.device) is) ∙ equals m.device 0 (line_rows First least tasks m place a.0).0.device
undriven_at least tasks place (m ∷ ls) (suc k) l e lt is =
    undriven_at (m.line + 1) tasks (place + 8) ls k l (both_none (line_fault First least tasks m place) (lines_from First (m.line + 1) tasks (place + 8) ls) e).1 (omega (arith, lt)) is

unnamed_at : (index place : ℕ) (ts : List TaskRecord) (rs : List RegionRecord) (ns : List ℕ) (k : ℕ) (t : ImageTask) → tasks_from First index place ts ≡ None
    → k < length (tasks_of ts rs ns) → get_or (tasks_of ts rs ns) k t ≡ t → t.names ≡ []
unnamed_at index place [] rs ns k t e lt is = absurd (omega (arith, lt))
unnamed_at index place (u ∷ ts) rs ns zero t e lt is =
    let a = both_none (task_fault First index u place) (tasks_from First (index + 1) (place + 12) ts) e in
    sym (ap (λ (x : ImageTask). x.names) is) ∙ ap (λ (n : ℕ). names_of n ns) (no_name index u place a.0)
unnamed_at index place (u ∷ ts) rs ns (suc k) t e lt is =
    unnamed_at (index + 1) (place + 12) ts (drop u.regions rs) (after_names u.names ns) k t (both_none (task_fault First index u place) (tasks_from First (index + 1) (place + 12) ts) e).1 (omega (arith, lt)) is

-- accepted records of the first form are a spelling of their picture in it
spells_first : (bytes : List ℕ) (r : Records) → r.header.form ≡ First → bytes ≡ bytes_of r → Accepted r → IsPlain r.header → SpellsFirst (image_data_of r) bytes
spells_first bytes r is spelled a plain =
    let h = r.header in
    let l : Limits First h = subst (λ (f : ImageForm). Limits f h) is (limits h a.fields) in
    let s = passed_steps r a.records in
    let tasks : tasks_from First 0 20 r.tasks ≡ None = subst (λ (f : ImageForm). tasks_from f 0 (header_size f) r.tasks ≡ None) is s.tasks in
    let lines : lines_from First 0 h.tasks (lines_place h) r.lines ≡ None = subst (λ (f : ImageForm). lines_from f 0 h.tasks (lines_place h) r.lines ≡ None) is s.lines in
    let again : records_of First (image_data_of r) ≡ r = ap (λ (f : ImageForm). records_of f (image_data_of r)) (sym is) ∙ shape_again r a (plain is).0 in
    record {
      spelled = spelled ∙ ap bytes_of (sym again);
      few_tasks = omega (arith, l.tasks, a.tasks, tasks_length r.tasks r.regions r.names);
      few_lines = omega (arith, l.lines, a.lines, length-map r.lines line_of);
      low_lines = λ x c. low_at 0 h.tasks (lines_place h) r.lines c.0 x lines c.1 c.2;
      undriven = λ x c. undriven_at 0 h.tasks (lines_place h) r.lines c.0 x lines c.1 c.2;
      unnamed = λ t c. unnamed_at 0 20 r.tasks r.regions r.names c.0 t tasks c.1 c.2;
    }

pub spells : (bytes : List ℕ) (r : Records) → bytes ≡ bytes_of r → Accepted r → IsPlain r.header → Spells (image_data_of r) bytes
spells bytes r spelled a plain = by r.header.form refl
  where
    by : (f : ImageForm) → r.header.form ≡ f → Spells (image_data_of r) bytes
    by First is = inl (spells_first bytes r is spelled a plain)
    by Second is =
        let nothing = ((limits r.header a.fields).second is).0 in
        let again : records_of Second (image_data_of r) ≡ r = ap (λ (f : ImageForm). records_of f (image_data_of r)) (sym is) ∙ shape_again r a nothing in
        inr (spelled ∙ ap bytes_of (sym again))

-- ---- an image that is read is sound, and the bytes spell it

read_records : (Q : ImageData → Type 0) (bytes : List ℕ) (p : ImageData) → ((r : Records) → records_or_fault bytes ≡ Ok r → Q (image_data_of r)) → image_or_fault bytes ≡ Ok p → Q p
read_records Q bytes p all e = by (records_or_fault bytes) refl e
  where
    same_ok : (q : ImageData) → ◌≡◌ {A = Result ImageData Refusal} (Ok q) (Ok p) → q ≡ p
    same_ok q e = cc

    by : (x : Result Records Refusal) → records_or_fault bytes ≡ x → pictured x ≡ Ok p → Q p
    by (Ok r) is ok = subst Q (same_ok (image_data_of r) ok) (all r is)
    by (Err fault) is ok = cc

pub read_sound : (p : ImageData) (bytes : List ℕ) → image_or_fault bytes ≡ Ok p → Sound p
read_sound p bytes = read_records Sound bytes p (λ r is.
    let read = accepted_plain bytes r is in
    sound_image_data (in_form Second r) refl (second_accepted r read.0 read.1))

pub read_spelled : (p : ImageData) (bytes : List ℕ) → AreBytes bytes → image_or_fault bytes ≡ Ok p → Spells p bytes
read_spelled p bytes b = read_records (λ q. Spells q bytes) bytes p (λ r is.
    let read = accepted_plain bytes r is in
    spells bytes r (spelled bytes r b is) read.0 read.1)

-- ---- a spelling of a sound image is read as it

pub no_names : (ts : List ImageTask) → ((t : ImageTask) → Contains ts t → t.names ≡ []) → all_names ts ≡ []
no_names [] h = refl
no_names (t ∷ ts) h = ap₂ (λ (xs ys : List ℕ). xs ++ ys) (ap names_bytes (h t (0, omega arith, refl))) (no_names ts (λ u is. h u (suc is.0, omega (arith, is.1), is.2)))

pub second_plain : (p : ImageData) → IsPlain (records_of Second p).header
second_plain p e = cc

first_plain : (p : ImageData) → all_names p.tasks ≡ [] → IsPlain (records_of First p).header
first_plain p none e = (refl, ap length none)

pub read_only : (p : ImageData) (bytes : List ℕ) → Spells p bytes → Sound p → image_or_fault bytes ≡ Ok p
read_only p bytes (inl f) sound =
    ap image_or_fault f.spelled ∙ ap pictured (reads_again (records_of First p) (first_accepted p bytes f sound) (first_plain p (no_names p.tasks f.unnamed))) ∙ ap Ok (image_data_again First p)
read_only p bytes (inr e) sound =
    ap image_or_fault e ∙ ap pictured (reads_again (records_of Second p) sound (second_plain p)) ∙ ap Ok (image_data_again Second p)

-- ---- one image

counted_of : (form : ImageForm) (p : ImageData) → IsCounted (records_of form p)
counted_of form p = record {
  tasks = length-map p.tasks task_record;
  regions = length-map (all_regions p.tasks) region_record;
  lines = length-map p.lines line_record;
  names = refl;
}

-- a spelling of a sound image is no longer than a file may be
pub short_spelling : (p : ImageData) → Sound p → length (spelling p) ≤ 2097152
short_spelling p a =
    let r = records_of Second p in
    omega (arith, bytes_length r (counted_of Second p) a.flash, short_total r.header a.fields (λ e. (second_plain p e).1))

-- the image that bytes of a form are read as, unchecked
pub read : ImageForm → List ℕ → ImageData
read form bytes = image_data_of (records_at (header_at form bytes) bytes)

read_again : (form : ImageForm) (p : ImageData) → IsPlain (records_of form p).header → read form (bytes_of (records_of form p)) ≡ p
unfolding read
read_again form p plain =
    let r = records_of form p in
    let rest = flat_map task_bytes r.tasks ++ (flat_map region_bytes r.regions ++ (flat_map (line_bytes form) r.lines ++ (r.names ++ r.flash))) in
    ap (λ (h : Header). image_data_of (records_at h (bytes_of r))) (header_again r.header rest plain) ∙ ap image_data_of (records_again r (counted_of form p)) ∙ image_data_again form p

second_read : (p : ImageData) → read Second (spelling p) ≡ p
second_read p = read_again Second p (second_plain p)

first_read : (p : ImageData) (bytes : List ℕ) → SpellsFirst p bytes → read First bytes ≡ p
first_read p bytes f = ap (read First) f.spelled ∙ read_again First p (first_plain p (no_names p.tasks f.unnamed))

abbrev letter_of : ImageForm → ℕ
letter_of First = 49
letter_of Second = 50

fourth : (form : ImageForm) (p : ImageData) → slice_index (bytes_of (records_of form p)) 3 ≡ letter_of form
unfolding header_bytes_in
fourth First p = refl
fourth Second p = refl

not_both : (p q : ImageData) {P : Type 0} → bytes_of (records_of First p) ≡ bytes_of (records_of Second q) → P
not_both p q e = absurd (omega (arith, fourth First p, fourth Second q, ap (λ (b : List ℕ). slice_index b 3) e))

pub same_image : (p q : ImageData) (bytes : List ℕ) → Spells p bytes → Spells q bytes → p ≡ q
same_image p q bytes (inl f) (inl g) = sym (first_read p bytes f) ∙ first_read q bytes g
same_image p q bytes (inl f) (inr g) = not_both p q (sym f.spelled ∙ g)
same_image p q bytes (inr f) (inl g) = not_both q p (sym g.spelled ∙ f)
same_image p q bytes (inr f) (inr g) = sym (second_read p) ∙ ap (read Second) (sym f ∙ g) ∙ second_read q
