-- What is written reads back, in both forms.
use Rattle.std.proofs.Common.{◌≡◌, ◌∙◌, ◌+◌, ◌*◌, ◌/◌, ◌%◌, ◌≤◌, ℕ, List, [], ◌∷◌, ◌++◌, Ok, None, Some, Option, Result, length, length-append, drop, take, arith, ap, ap₂, refl, sym, ◌==◌, true, false}
use Rattle.std.specs.List.{flat_map}
use Rattle.std.proofs.lemmas.Bool.{le-ltb}
use Rattle.std.proofs.lemmas.List.{drop-drop}
use Rattle.image_format.specs.declared.records.ImageForm.{ImageForm}
use Rattle.image_format.specs.declared.records.ImageForm.TheVariants.{First, Second}
use Rattle.image_format.specs.declared.records.Header.{Header}
use Rattle.image_format.specs.declared.records.TaskRecord.{TaskRecord}
use Rattle.image_format.specs.declared.records.RegionRecord.{RegionRecord}
use Rattle.image_format.specs.declared.records.LineRecord.{LineRecord}
use Rattle.image_format.specs.Accepted.{Accepted}
use Rattle.image_format.specs.Records.{Records, bytes_of, checked, flash_place, followed, form_at, header_at, header_bytes, header_bytes_in, header_in, header_or_fault, letters, line_at, line_bytes, lines_at, num, records_at, records_fault, records_or_fault, region_at, region_bytes, regions_at, sized, task_at, task_bytes, tasks_at, total, unless}
use Rattle.image_format.specs.Steps.{Refusal, field_fault, header_size, lines_place, names_place, regions_place}
use Rattle.image_format.proofs.Named.{past, upto}

half_again : (n : ℕ) → n % 256 + 256 * (n / 256) ≡ n
half_again n = omega arith

pub num_again : (n : ℕ) → n % 256 + 256 * (n / 256 % 256) + 65536 * (n / 65536 % 256) + 16777216 * (n / 16777216) ≡ n
num_again n = omega arith

-- ---- records

task_again : (t : TaskRecord) (rest : List ℕ) → task_at (task_bytes t ++ rest) ≡ t
task_again t rest = ap₂ (λ (e s : ℕ). record t { entry = e; sp = s }) (num_again t.entry) (num_again t.sp)

same_region : (a b c x y z : ℕ) → a ≡ x → b ≡ y → c ≡ z → ◌≡◌ {A = RegionRecord} (record { base = a; size = b; rights = c }) (record { base = x; size = y; rights = z })
same_region a b c x y z e f g = rw (e, f, g) refl

region_again : (r : RegionRecord) (rest : List ℕ) → region_at (region_bytes r ++ rest) ≡ r
region_again r rest = same_region _ _ _ _ _ _ (num_again r.base) (num_again r.size) (num_again r.rights)

line_again : (form : ImageForm) (l : LineRecord) (rest : List ℕ) → line_at form (line_bytes form l ++ rest) ≡ l
line_again First l rest = ap₂ (λ (d b : ℕ). record l { device = d; bits = b }) (half_again l.device) (num_again l.bits)
line_again Second l rest = ap₂ (λ (t b : ℕ). record l { task = t; bits = b }) (half_again l.task) (num_again l.bits)

tasks_again : (ts : List TaskRecord) (rest : List ℕ) → tasks_at (length ts) (flat_map task_bytes ts ++ rest) ≡ ts
tasks_again [] rest = refl
tasks_again (t ∷ ts) rest = ap₂ (λ x xs. x ∷ xs) (task_again t (flat_map task_bytes ts ++ rest)) (tasks_again ts rest)

regions_again : (rs : List RegionRecord) (rest : List ℕ) → regions_at (length rs) (flat_map region_bytes rs ++ rest) ≡ rs
regions_again [] rest = refl
regions_again (r ∷ rs) rest = ap₂ (λ x xs. x ∷ xs) (region_again r (flat_map region_bytes rs ++ rest)) (regions_again rs rest)

lines_again : (form : ImageForm) (ls : List LineRecord) (rest : List ℕ) → lines_at form (length ls) (flat_map (line_bytes form) ls ++ rest) ≡ ls
lines_again form [] rest = refl
lines_again First (l ∷ ls) rest = ap₂ (λ x xs. x ∷ xs) (line_again First l (flat_map (line_bytes First) ls ++ rest)) (lines_again First ls rest)
lines_again Second (l ∷ ls) rest = ap₂ (λ x xs. x ∷ xs) (line_again Second l (flat_map (line_bytes Second) ls ++ rest)) (lines_again Second ls rest)

tasks_length : (ts : List TaskRecord) → length (flat_map task_bytes ts) ≡ 12 * length ts
tasks_length [] = refl
tasks_length (t ∷ ts) = omega (arith, tasks_length ts)

regions_length : (rs : List RegionRecord) → length (flat_map region_bytes rs) ≡ 12 * length rs
regions_length [] = refl
regions_length (r ∷ rs) = omega (arith, regions_length rs)

lines_length : (form : ImageForm) (ls : List LineRecord) → length (flat_map (line_bytes form) ls) ≡ 8 * length ls
lines_length form [] = refl
lines_length First (l ∷ ls) = omega (arith, lines_length First ls)
lines_length Second (l ∷ ls) = omega (arith, lines_length Second ls)

-- ---- headers

header_length : (form : ImageForm) (h : Header) → length (header_bytes_in form h) ≡ header_size form
unfolding header_bytes_in
header_length First h = refl
header_length Second h = refl

same_header : (g : ImageForm) (a b c d e f n m a' b' c' d' e' f' n' m' : ℕ) → a ≡ a' → b ≡ b' → c ≡ c' → d ≡ d' → e ≡ e' → f ≡ f' → n ≡ n' → m ≡ m'
    → ◌≡◌ {A = Header} (record { form = g; tasks = a; lines = b; regions = c; zero = d; flash = e; ram = f; bits = n; names = m }) (record { form = g; tasks = a'; lines = b'; regions = c'; zero = d'; flash = e'; ram = f'; bits = n'; names = m' })
same_header g a b c d e f n m a' b' c' d' e' f' n' m' i j k l o p q r = rw (i, j, k, l, o, p, q, r) refl

with_form : (h : Header) (g : ImageForm) → h.form ≡ g → ◌≡◌ {A = Header} (record h { form = g }) h
with_form h g is = ap (λ (x : ImageForm). record h { form = x }) (sym is)

second_again : (h : Header) (rest : List ℕ) → h.form ≡ Second → header_at Second (header_bytes_in Second h ++ rest) ≡ h
unfolding header_bytes_in
second_again h rest is =
    same_header Second _ _ _ _ _ _ _ _ _ _ _ _ _ _ _ _ (half_again h.tasks) (half_again h.lines) (half_again h.regions) (half_again h.zero) (num_again h.flash) (num_again h.ram) (num_again h.bits) (num_again h.names) ∙ with_form h Second is

first_again : (h : Header) (rest : List ℕ) → h.form ≡ First → h.zero ≡ 0 → h.names ≡ 0 → header_at First (header_bytes_in First h ++ rest) ≡ h
unfolding header_bytes_in
first_again h rest is nothing none =
    same_header First _ _ _ _ _ _ _ _ _ _ _ _ _ _ _ _ refl refl (half_again h.regions) (sym nothing) (num_again h.flash) (num_again h.ram) (num_again h.bits) (sym none) ∙ with_form h First is

-- what a header of the first form has not is 0
abbrev pub IsPlain : Header → Type 0
IsPlain h = h.form ≡ First → (h.zero ≡ 0) × (h.names ≡ 0)

-- a header of the second form is
pub plain_second : (h : Header) → h.form ≡ Second → IsPlain h
plain_second h is e = let both : First ≡ Second = sym e ∙ is in cc

header_again_in : (f : ImageForm) (h : Header) (rest : List ℕ) → h.form ≡ f → IsPlain h → header_at f (header_bytes_in f h ++ rest) ≡ h
header_again_in First h rest is plain = let p = plain is in first_again h rest is p.0 p.1
header_again_in Second h rest is plain = second_again h rest is

pub header_again : (h : Header) (rest : List ℕ) → IsPlain h → header_at h.form (header_bytes h ++ rest) ≡ h
header_again h rest plain = header_again_in h.form h rest refl plain

begins : (f : ImageForm) (h : Header) (rest : List ℕ) → num (header_bytes_in f h ++ rest) 0 ≡ letters f
unfolding header_bytes_in
begins First h rest = refl
begins Second h rest = refl

same_letters : (f : ImageForm) (bytes : List ℕ) → num bytes 0 ≡ letters f → form_at bytes ≡ Some f
same_letters First bytes e = let is : (num bytes 0 == 826884680) ≡ true = ap (λ (n : ℕ). n == 826884680) e in rw is refl
same_letters Second bytes e =
    let not_first : (num bytes 0 == 826884680) ≡ false = ap (λ (n : ℕ). n == 826884680) e in
    let is : (num bytes 0 == 843661896) ≡ true = ap (λ (n : ℕ). n == 843661896) e in
    rw (not_first, is) refl

-- ---- the parts at their places

further : (k n : ℕ) (bytes front rest : List ℕ) → drop k bytes ≡ front ++ rest → length front ≡ n → drop (k + n) bytes ≡ rest
further k n bytes front rest here long = sym (drop-drop n k bytes) ∙ ap (drop n) here ∙ past n front rest long

same_parts : (h : Header) (ts us : List TaskRecord) (rs ss : List RegionRecord) (ls ms : List LineRecord) (a b f g : List ℕ) → ts ≡ us → rs ≡ ss → ls ≡ ms → a ≡ b → f ≡ g
    → ◌≡◌ {A = Records} (record { header = h; tasks = ts; regions = rs; lines = ls; names = a; flash = f }) (record { header = h; tasks = us; regions = ss; lines = ms; names = b; flash = g })
same_parts h ts us rs ss ls ms a b f g d e m n k = rw (d, e, m, n, k) refl

-- the counts are those of the header
pub record IsCounted (r : Records) : Type 0 where
  pub tasks : length r.tasks ≡ r.header.tasks
  pub regions : length r.regions ≡ r.header.regions
  pub lines : length r.lines ≡ r.header.lines
  pub names : length r.names ≡ r.header.names

pub records_again : (r : Records) → IsCounted r → records_at r.header (bytes_of r) ≡ r
records_again r c =
    let h = r.header in
    let bytes = bytes_of r in
    let ts = flat_map task_bytes r.tasks in
    let rs = flat_map region_bytes r.regions in
    let ls = flat_map (line_bytes h.form) r.lines in
    let behind_tasks = rs ++ (ls ++ (r.names ++ r.flash)) in
    let behind_lines = r.names ++ r.flash in
    let one : drop (header_size h.form) bytes ≡ ts ++ behind_tasks = past (header_size h.form) (header_bytes h) (ts ++ behind_tasks) (header_length h.form h) in
    let two : drop (regions_place h) bytes ≡ behind_tasks = further (header_size h.form) (12 * h.tasks) bytes ts behind_tasks one (tasks_length r.tasks ∙ ap (λ (n : ℕ). 12 * n) c.tasks) in
    let three : drop (lines_place h) bytes ≡ ls ++ behind_lines = further (regions_place h) (12 * h.regions) bytes rs (ls ++ behind_lines) two (regions_length r.regions ∙ ap (λ (n : ℕ). 12 * n) c.regions) in
    let four : drop (names_place h) bytes ≡ behind_lines = further (lines_place h) (8 * h.lines) bytes ls behind_lines three (lines_length h.form r.lines ∙ ap (λ (n : ℕ). 8 * n) c.lines) in
    let five : drop (flash_place h) bytes ≡ r.flash = further (names_place h) h.names bytes r.names r.flash four c.names in
    same_parts h _ r.tasks _ r.regions _ r.lines _ r.names _ r.flash
    (ap (tasks_at h.tasks) one ∙ ap (λ (n : ℕ). tasks_at n (ts ++ behind_tasks)) (sym c.tasks) ∙ tasks_again r.tasks behind_tasks)
    (ap (regions_at h.regions) two ∙ ap (λ (n : ℕ). regions_at n behind_tasks) (sym c.regions) ∙ regions_again r.regions (ls ++ behind_lines))
    (ap (lines_at h.form h.lines) three ∙ ap (λ (n : ℕ). lines_at h.form n (ls ++ behind_lines)) (sym c.lines) ∙ lines_again h.form r.lines behind_lines)
    (ap (take h.names) four ∙ upto h.names r.names r.flash c.names)
    five

pub bytes_length : (r : Records) → IsCounted r → length r.flash ≡ r.header.flash → length (bytes_of r) ≡ total r.header
bytes_length r c flash =
    let h = r.header in
    let ts = flat_map task_bytes r.tasks in
    let rs = flat_map region_bytes r.regions in
    let ls = flat_map (line_bytes h.form) r.lines in
    omega (
      arith,
      header_length h.form h,
      tasks_length r.tasks,
      regions_length r.regions,
      lines_length h.form r.lines,
      c.tasks,
      c.regions,
      c.lines,
      c.names,
      flash,
      length-append (header_bytes h) (ts ++ (rs ++ (ls ++ (r.names ++ r.flash)))),
      length-append ts (rs ++ (ls ++ (r.names ++ r.flash))),
      length-append rs (ls ++ (r.names ++ r.flash)),
      length-append ls (r.names ++ r.flash),
      length-append r.names r.flash,
    )

-- ---- the steps

-- bytes of which each step says what it has to
passes : (bytes : List ℕ) (r : Records) → num bytes 0 ≡ letters r.header.form → header_at r.header.form bytes ≡ r.header → length bytes ≡ total r.header → records_at r.header bytes ≡ r
    → field_fault r.header ≡ None → records_fault r ≡ None → records_or_fault bytes ≡ Ok r
passes bytes r magic head long parts fields records =
    let n = length bytes in
    let h = r.header in
    let enough = le-ltb n 20 (omega (arith, long, at_least_20 h.form)) in
    let whole = le-ltb n (header_size h.form) (omega (arith, long)) in
    let not_short = le-ltb n (total h) (omega (arith, long)) in
    let not_long = le-ltb (total h) n (omega (arith, long)) in
    let first : header_or_fault bytes ≡ header_in (form_at bytes) bytes = rw enough refl in
    let inside : header_in (Some h.form) bytes ≡ unless (field_fault (header_at h.form bytes)) (sized (header_at h.form bytes) n) = rw whole refl in
    let fits : sized h n ≡ Ok h = rw (not_short, not_long) refl in
    let header : header_or_fault bytes ≡ Ok h = first ∙ ap (λ (f : Option ImageForm). header_in f bytes) (same_letters h.form bytes magic) ∙ inside
    ∙ ap (λ (g : Header). unless (field_fault g) (sized g n)) head ∙ ap (λ (f : Option Refusal). unless f (sized h n)) fields ∙ fits in
    ap (λ (x : Result Header Refusal). followed x bytes) header ∙ ap checked parts ∙ ap (λ (f : Option Refusal). unless f (Ok r)) records
  where
    at_least_20 : (f : ImageForm) → 20 ≤ header_size f
    at_least_20 First = omega arith
    at_least_20 Second = omega arith

-- what accepted records are spelled as reads as them
pub reads_again : (r : Records) → Accepted r → IsPlain r.header → records_or_fault (bytes_of r) ≡ Ok r
reads_again r a plain =
    let h = r.header in
    let rest = flat_map task_bytes r.tasks ++ (flat_map region_bytes r.regions ++ (flat_map (line_bytes h.form) r.lines ++ (r.names ++ r.flash))) in
    let counted : IsCounted r = record { tasks = a.tasks; regions = a.regions; lines = a.lines; names = a.names } in
    passes (bytes_of r) r (begins h.form h rest) (header_again h rest plain) (bytes_length r counted a.flash) (records_again r counted) a.fields a.records
