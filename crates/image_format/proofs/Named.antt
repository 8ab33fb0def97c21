-- Names, one after the other.
use Rattle.std.proofs.Common.{◌≡◌, ◌≢◌, ◌∙◌, ◌+◌, ◌-◌, ◌<◌, ◌≤◌, ℕ, zero, suc, Bool, true, false, not, ◌||◌, ◌&&◌, ◌==◌, List, [], ◌∷◌, ◌++◌, Option, Some, None, All, AllPairs, length, map, take, drop, get_or, refl, sym, subst, ap, ap₂, arith, append_assoc, nat_le, length-append, cond, nat_lt}
use Rattle.std.specs.Cmp.Lexicographic.{bytes_decides}
use Rattle.std.specs.List.{list_any}
use Rattle.std.specs.Option.{is_some}
use Rattle.std.proofs.Math.Seq.{drop-append_seam, take-append_seam}
use Rattle.std.proofs.lemmas.Bool.{eqb-true, le-leb, leb-true, or_parts, ltb-false, and_parts, not-false}
use Rattle.std.proofs.lemmas.List.{drop_more, get_or_append_left, length-take-le, take-append-drop}
use Rattle.text_lines.specs.Names.{is_name}
use Rattle.image_format.specs.declared.records.ImageForm.TheVariants.{First, Second}
use Rattle.image_format.specs.declared.records.RegionRecord.{RegionRecord}
use Rattle.image_format.specs.declared.records.TaskRecord.{TaskRecord}
use Rattle.image_format.specs.Names.{after_name, after_names, first_name, is_spelled, left_fault, name_fault, names_fault, names_from, names_of, same_name, task_names_fault}
use Rattle.image_format.specs.ImageData.{ImageData, ImageTask, all_names, header_of, name_bytes, names_bytes, task_record, tasks_of}
use Rattle.image_format.specs.Steps.{Refusal, names_place, or_else, task_fault, tasks_from}
use Rattle.image_format.proofs.Chunks.{blank, none_found}
use Rattle.image_format.proofs.Limits.{row_none, row_pass}
use Rattle.image_format.proofs.Passed.{both_none, none_both}

-- ---- one after the other

after_suc : (k : ℕ) (bytes : List ℕ) → after_names (suc k) bytes ≡ after_name (after_names k bytes)
after_suc zero bytes = refl
after_suc (suc k) bytes = after_suc k (after_name bytes)

pub after_more : (k : ℕ) (bytes : List ℕ) → after_names (k + 1) bytes ≡ after_name (after_names k bytes)
after_more k bytes = let e : k + 1 ≡ suc k = omega arith in ap (λ (j : ℕ). after_names j bytes) e ∙ after_suc k bytes

names_suc : (k : ℕ) (bytes : List ℕ) → names_of (suc k) bytes ≡ names_of k bytes ++ first_name (after_names k bytes) ∷ []
names_suc zero bytes = refl
names_suc (suc k) bytes = ap (λ xs. first_name bytes ∷ xs) (names_suc k (after_name bytes))

pub names_more : (k : ℕ) (bytes : List ℕ) → names_of (k + 1) bytes ≡ names_of k bytes ++ first_name (after_names k bytes) ∷ []
names_more k bytes = let e : k + 1 ≡ suc k = omega arith in ap (λ (j : ℕ). names_of j bytes) e ∙ names_suc k bytes

-- what follows is no longer
pub after_short : (bytes : List ℕ) → length (first_name bytes) + length (after_name bytes) ≤ length bytes
after_short [] = omega arith
after_short (n ∷ bytes) = omega (arith, long n bytes)
  where
    long : (n : ℕ) (bytes : List ℕ) → length (take n bytes) + length (drop n bytes) ≤ length bytes
    long zero bytes = omega arith
    long (suc n) [] = omega arith
    long (suc n) (b ∷ bytes) = omega (arith, long n bytes)

pub names_short : (k : ℕ) (bytes : List ℕ) → length (after_names k bytes) ≤ length bytes
names_short zero bytes = omega arith
names_short (suc k) bytes = omega (arith, after_short bytes, names_short k (after_name bytes))

-- ---- among them

pub among_step : (p : List ℕ → Bool) (n k m : ℕ) (rest : List ℕ) → k < n → m ≡ n - (k + 1) → p (first_name rest) ≡ false → list_any p (names_of (n - k) rest) ≡ list_any p (names_of m (after_name rest))
among_step p n k m rest lt is none =
    let more : n - k ≡ suc m = omega (arith, lt, is) in
    ap (λ (j : ℕ). list_any p (names_of j rest)) more ∙ ap (λ (b : Bool). b || list_any p (names_of m (after_name rest))) none

-- ---- faults

pub some_found : (found next : Option Refusal) → is_some found ≡ true → or_else found next ≡ found
some_found None next e = cc
some_found (Some r) next e = refl

pub names_step : (n k at : ℕ) (bytes rest : List ℕ) → k < n → rest ≡ after_names k bytes → name_fault (names_of k bytes) rest at ≡ None
    → task_names_fault (n - k) (names_of k bytes) rest at ≡ task_names_fault (n - (k + 1)) (names_of (k + 1) bytes) (after_name rest) (at + 1 + length (first_name rest))
names_step n k at bytes rest lt is none =
    let m = n - (k + 1) in
    let more : n - k ≡ suc m = omega (arith, lt) in
    let names : names_of k bytes ++ first_name rest ∷ [] ≡ names_of (k + 1) bytes = ap (λ (r : List ℕ). names_of k bytes ++ first_name r ∷ []) is ∙ sym (names_more k bytes) in
    ap (λ (j : ℕ). task_names_fault j (names_of k bytes) rest at) more
    ∙ ap (λ (f : Option Refusal). or_else f (task_names_fault m (names_of k bytes ++ first_name rest ∷ []) (after_name rest) (at + 1 + length (first_name rest)))) none
    ∙ ap (λ (earlier : List (List ℕ)). task_names_fault m earlier (after_name rest) (at + 1 + length (first_name rest))) names

pub names_found : (n k at : ℕ) (bytes rest : List ℕ) → k < n → is_some (name_fault (names_of k bytes) rest at) ≡ true → task_names_fault (n - k) (names_of k bytes) rest at ≡ name_fault (names_of k bytes) rest at
names_found n k at bytes rest lt some =
    let more : n - k ≡ suc (n - (k + 1)) = omega (arith, lt) in
    ap (λ (j : ℕ). task_names_fault j (names_of k bytes) rest at) more ∙ some_found _ _ some

-- ---- all tasks

pub tasks_go_on : (end i n : ℕ) (ts : List TaskRecord) (rest more : List ℕ) (found : Option Refusal) → i < length ts → n ≡ (get_or ts i blank).names → found ≡ task_names_fault n [] rest (end - length rest) → false ≡ is_some found
    → more ≡ after_names n rest → names_from end (drop i ts) rest ≡ names_from end (drop (i + 1) ts) more
tasks_go_on end i n ts rest more found lt is are none after =
    ap (λ (us : List TaskRecord). names_from end us rest) (drop_more ts i blank lt)
    ∙ ap (λ (f : Option Refusal). or_else f (names_from end (drop (i + 1) ts) (after_names (get_or ts i blank).names rest))) (ap (λ (m : ℕ). task_names_fault m [] rest (end - length rest)) (sym is) ∙ sym are ∙ none_found found (sym none))
    ∙ ap (names_from end (drop (i + 1) ts)) (ap (λ (m : ℕ). after_names m rest) (sym is) ∙ sym after)

-- ---- as the loops have them

pub names_go_on : (n k at at' : ℕ) (bytes rest name more : List ℕ) (found : Option Refusal) → k < n → rest ≡ after_names k bytes → found ≡ name_fault (names_of k bytes) rest at → false ≡ is_some found
    → name ≡ first_name rest → more ≡ after_name rest → at' ≡ at + 1 + length name → task_names_fault (n - k) (names_of k bytes) rest at ≡ task_names_fault (n - (k + 1)) (names_of (k + 1) bytes) more at'
names_go_on n k at at' bytes rest name more found lt is are none first after place =
    names_step n k at bytes rest lt is (sym are ∙ none_found found (sym none))
    ∙ ap (λ (m : List ℕ). task_names_fault (n - (k + 1)) (names_of (k + 1) bytes) m (at + 1 + length (first_name rest))) (sym after)
    ∙ ap (task_names_fault (n - (k + 1)) (names_of (k + 1) bytes) more) (ap (λ (x : List ℕ). at + 1 + length x) (sym first) ∙ sym place)

pub names_end : (n k at : ℕ) (bytes rest : List ℕ) (found : Option Refusal) → k < n → found ≡ name_fault (names_of k bytes) rest at → true ≡ is_some found → task_names_fault (n - k) (names_of k bytes) rest at ≡ found
names_end n k at bytes rest found lt are some = names_found n k at bytes rest lt (ap is_some (sym are) ∙ sym some) ∙ sym are

pub nearer : (rest name more : List ℕ) → name ≡ first_name rest → more ≡ after_name rest → length name + length more ≤ length rest
nearer rest name more first after = let h = after_short rest in omega (arith, h, ap length first, ap length after)

-- ---- the bytes of names

pub past : (k : ℕ) (front rest : List ℕ) → length front ≡ k → drop k (front ++ rest) ≡ rest
past k front rest e = subst (λ (n : ℕ). drop n (front ++ rest) ≡ rest) e (drop-append_seam front rest)

pub upto : (k : ℕ) (front rest : List ℕ) → length front ≡ k → take k (front ++ rest) ≡ front
upto k front rest e = subst (λ (n : ℕ). take n (front ++ rest) ≡ front) e (take-append_seam front rest)

first_of_bytes : (name : List ℕ) (names : List (List ℕ)) (rest : List ℕ) → first_name (names_bytes (name ∷ names) ++ rest) ≡ name
first_of_bytes name names rest = ap (take (length name)) (append_assoc name (names_bytes names) rest) ∙ upto (length name) name (names_bytes names ++ rest) refl

after_of_bytes : (name : List ℕ) (names : List (List ℕ)) (rest : List ℕ) → after_name (names_bytes (name ∷ names) ++ rest) ≡ names_bytes names ++ rest
after_of_bytes name names rest = ap (drop (length name)) (append_assoc name (names_bytes names) rest) ∙ past (length name) name (names_bytes names ++ rest) refl

-- names that were spelled are read again
pub names_back : (names : List (List ℕ)) (rest : List ℕ) → names_of (length names) (names_bytes names ++ rest) ≡ names
names_back [] rest = refl
names_back (n ∷ names) rest =
    ap₂ (λ (x : List ℕ) (xs : List (List ℕ)). x ∷ xs) (first_of_bytes n names rest) (ap (names_of (length names)) (after_of_bytes n names rest) ∙ names_back names rest)

pub names_after : (names : List (List ℕ)) (rest : List ℕ) → after_names (length names) (names_bytes names ++ rest) ≡ rest
names_after [] rest = refl
names_after (n ∷ names) rest = ap (after_names (length names)) (after_of_bytes n names rest) ∙ names_after names rest

-- ---- names that are not refused

-- each is a name, and none of those before it
abbrev pub AreNew : List (List ℕ) → List (List ℕ) → Type 0
AreNew earlier [] = Unit {0}
AreNew earlier (n ∷ ns) = (is_name n ≡ true) × (list_any (λ m. same_name m n) earlier ≡ false) × AreNew (earlier ++ n ∷ []) ns

-- one name that is not refused
record IsTaken (earlier : List (List ℕ)) (bytes : List ℕ) : Type 0 where
  spelled : is_spelled bytes ≡ true
  new : list_any (λ m. same_name m (first_name bytes)) earlier ≡ false

is_taken : (earlier : List (List ℕ)) (bytes : List ℕ) (place : ℕ) → name_fault earlier bytes place ≡ None → IsTaken earlier bytes
is_taken earlier bytes place e =
    let a = row_none (not (is_spelled bytes)) _ _ e in
    let b = row_none (list_any (λ m. same_name m (first_name bytes)) earlier) _ _ a.1 in
    record { spelled = not-false (is_spelled bytes) a.0; new = b.0 }

taken_is : (earlier : List (List ℕ)) (bytes : List ℕ) (place : ℕ) → IsTaken earlier bytes → name_fault earlier bytes place ≡ None
taken_is earlier bytes place t =
    row_pass (not (is_spelled bytes)) _ _ (ap not t.spelled) (row_pass (list_any (λ m. same_name m (first_name bytes)) earlier) _ _ t.new refl)

spelled_name : (bytes : List ℕ) → is_spelled bytes ≡ true → is_name (first_name bytes) ≡ true
spelled_name [] e = cc
spelled_name (n ∷ bytes) e = (and_parts (nat_le n (length bytes)) (is_name (take n bytes)) e).1

-- a name that is spelled has as many bytes as it says
spelled_again : (bytes : List ℕ) → is_spelled bytes ≡ true → name_bytes (first_name bytes) ++ after_name bytes ≡ bytes
spelled_again [] e = cc
spelled_again (n ∷ bytes) e =
    let le = leb-true n (length bytes) (and_parts (nat_le n (length bytes)) (is_name (take n bytes)) e).0 in
    ap₂ (λ (k : ℕ) (xs : List ℕ). k ∷ xs) (length-take-le n bytes le) (take-append-drop n bytes)

pub are_new : (n : ℕ) (earlier : List (List ℕ)) (bytes : List ℕ) (place : ℕ) → task_names_fault n earlier bytes place ≡ None → AreNew earlier (names_of n bytes)
are_new zero earlier bytes place e = tt
are_new (suc n) earlier bytes place e =
    let a = both_none (name_fault earlier bytes place) _ e in
    let t = is_taken earlier bytes place a.0 in
    (spelled_name bytes t.spelled, t.new, are_new n (earlier ++ first_name bytes ∷ []) (after_name bytes) (place + 1 + length (first_name bytes)) a.1)

-- where nothing is refused, the names and what follows them are the bytes
pub names_again : (n : ℕ) (earlier : List (List ℕ)) (bytes : List ℕ) (place : ℕ) → task_names_fault n earlier bytes place ≡ None → names_bytes (names_of n bytes) ++ after_names n bytes ≡ bytes
names_again zero earlier bytes place e = refl
names_again (suc n) earlier bytes place e =
    let a = both_none (name_fault earlier bytes place) _ e in
    let t = is_taken earlier bytes place a.0 in
    let name = first_name bytes in
    append_assoc (name_bytes name) (names_bytes (names_of n (after_name bytes))) (after_names n (after_name bytes))
    ∙ ap (λ (xs : List ℕ). name_bytes name ++ xs) (names_again n (earlier ++ name ∷ []) (after_name bytes) (place + 1 + length name) a.1)
    ∙ spelled_again bytes t.spelled

nothing_left : (bytes : List ℕ) → left_fault bytes ≡ None → bytes ≡ []
nothing_left [] e = refl
nothing_left (b ∷ bytes) e = absurd (omega (arith, eqb-true (length (b ∷ bytes)) 0 (is_none (length (b ∷ bytes) == 0) e)))
  where
    is_none : (t : Bool) → cond {A = Option Refusal} t None (Some (3, 24)) ≡ None → t ≡ true
    is_none true e = refl
    is_none false e = cc

pub all_names_again : (end : ℕ) (ts : List TaskRecord) (rs : List RegionRecord) (bytes : List ℕ) → names_from end ts bytes ≡ None → all_names (tasks_of ts rs bytes) ≡ bytes
all_names_again end [] rs bytes e = sym (nothing_left bytes e)
all_names_again end (t ∷ ts) rs bytes e =
    let a = both_none (task_names_fault t.names [] bytes (end - length bytes)) _ e in
    ap (λ (xs : List ℕ). names_bytes (names_of t.names bytes) ++ xs) (all_names_again end ts (drop t.regions rs) (after_names t.names bytes) a.1)
    ∙ names_again t.names [] bytes (end - length bytes) a.0

-- ---- no name twice

other_name : (m n : List ℕ) → m ≢ n → same_name m n ≡ false
other_name m n d = by (same_name m n) refl
  where
    by : (b : Bool) → same_name m n ≡ b → same_name m n ≡ false
    by true e = absurd (d ((bytes_decides m n).0 e))
    by false e = e

not_same : (m n : List ℕ) → same_name m n ≡ false → m ≢ n
not_same m n e same = let yes : same_name m n ≡ true = (bytes_decides m n).1 same in cc

-- at each place before, another name
before_other : (earlier : List (List ℕ)) (n : List ℕ) (k : ℕ) → list_any (λ m. same_name m n) earlier ≡ false → k < length earlier → get_or earlier k [] ≢ n
before_other [] n k e lt = absurd (omega (arith, lt))
before_other (m ∷ ms) n zero e lt = not_same m n (or_parts (same_name m n) (list_any (λ m. same_name m n) ms) e).0
before_other (m ∷ ms) n (suc k) e lt = before_other ms n k (or_parts (same_name m n) (list_any (λ m. same_name m n) ms) e).1 (omega (arith, lt))

none_before : (earlier : List (List ℕ)) (n : List ℕ) → ((k : ℕ) → k < length earlier → get_or earlier k [] ≢ n) → list_any (λ m. same_name m n) earlier ≡ false
none_before [] n h = refl
none_before (m ∷ ms) n h =
    let first = other_name m n (h 0 (omega arith)) in
    let others = none_before ms n (λ k lt. h (suc k) (omega (arith, lt))) in
    rw (first, others) refl

pub new_apart : (earlier ns : List (List ℕ)) → AreNew earlier ns → (k m : ℕ) → k < length earlier + m → m < length ns → get_or (earlier ++ ns) k [] ≢ get_or ns m []
new_apart earlier [] h k m lt within = absurd (omega (arith, within))
new_apart earlier (n ∷ ns) h k zero lt within =
    let here : k < length earlier = omega (arith, lt) in
    subst (λ (x : List ℕ). x ≢ n) (sym (get_or_append_left earlier (n ∷ ns) [] k here)) (before_other earlier n k h.1 here)
new_apart earlier (n ∷ ns) h k (suc m) lt within =
    subst (λ (xs : List (List ℕ)). get_or xs k [] ≢ get_or ns m []) (append_assoc earlier (n ∷ []) ns)
    (new_apart (earlier ++ n ∷ []) ns h.2 k m (omega (arith, lt, length-append earlier (n ∷ []))) (omega (arith, within)))

pub new_named : (earlier ns : List (List ℕ)) → AreNew earlier ns → (k : ℕ) (d : List ℕ) → k < length ns → is_name (get_or ns k d) ≡ true
new_named earlier [] h k d lt = absurd (omega (arith, lt))
new_named earlier (n ∷ ns) h zero d lt = h.0
new_named earlier (n ∷ ns) h (suc k) d lt = new_named (earlier ++ n ∷ []) ns h.2 k d (omega (arith, lt))

-- ---- the names of a picture

-- the names of a task: each is a name, and no two are the same
pub record AreNames (names : List (List ℕ)) : Type 0 where
  pub named : All (λ name. is_name name ≡ true) names
  pub different : AllPairs (λ m n. m ≢ n) names

at_seam : (xs ys : List (List ℕ)) (y : List ℕ) → get_or (xs ++ y ∷ ys) (length xs) [] ≡ y
at_seam [] ys y = refl
at_seam (x ∷ xs) ys y = at_seam xs ys y

all_new : (earlier names : List (List ℕ)) → All (λ name. is_name name ≡ true) names → AllPairs (λ m n. m ≢ n) (earlier ++ names) → AreNew earlier names
all_new earlier [] named apart = tt
all_new earlier (n ∷ ns) named apart =
    let seam = at_seam earlier ns n in
    let long : length earlier < length (earlier ++ n ∷ ns) = omega (arith, length-append earlier (n ∷ ns)) in (
      named 0 [] (omega arith),
      none_before earlier n (λ k lt. subst (λ (x : List ℕ). x ≢ n) (get_or_append_left earlier (n ∷ ns) [] k lt) (subst (λ (y : List ℕ). get_or (earlier ++ n ∷ ns) k [] ≢ y) seam (apart k (length earlier) [] lt long))),
      all_new (earlier ++ n ∷ []) ns (λ k d lt. named (suc k) d (omega (arith, lt))) (subst (AllPairs (λ m n. m ≢ n)) (sym (append_assoc earlier (n ∷ []) ns)) apart),
    )

some_name : (n : List ℕ) (more : List ℕ) → is_name n ≡ true → is_spelled (length n ∷ (n ++ more)) ≡ true
some_name n more e =
    let fits = le-leb (length n) (length (n ++ more)) (omega (arith, length-append n more)) in
    let own = upto (length n) n more refl in
    rw (fits, own) e

names_taken : (names earlier : List (List ℕ)) (rest : List ℕ) (place : ℕ) → AreNew earlier names → task_names_fault (length names) earlier (names_bytes names ++ rest) place ≡ None
names_taken [] earlier rest place h = refl
names_taken (n ∷ names) earlier rest place h =
    let bytes = names_bytes (n ∷ names) ++ rest in
    let first = first_of_bytes n names rest in
    let spelled : is_spelled bytes ≡ true = ap (λ (xs : List ℕ). is_spelled (length n ∷ xs)) (append_assoc n (names_bytes names) rest) ∙ some_name n (names_bytes names ++ rest) h.0 in
    let new : list_any (λ m. same_name m (first_name bytes)) earlier ≡ false = ap (λ (x : List ℕ). list_any (λ m. same_name m x) earlier) first ∙ h.1 in
    let here : name_fault earlier bytes place ≡ None = taken_is earlier bytes place (record { spelled = spelled; new = new }) in
    none_both (name_fault earlier bytes place) (task_names_fault (length names) (earlier ++ first_name bytes ∷ []) (after_name bytes) (place + 1 + length (first_name bytes))) here
    (ap₂ (λ (x r : List ℕ). task_names_fault (length names) (earlier ++ x ∷ []) r (place + 1 + length x)) first (after_of_bytes n names rest)
    ∙ names_taken names (earlier ++ n ∷ []) rest (place + 1 + length n) h.2)

tasks_taken : (end : ℕ) (ts : List ImageTask) → All (λ t. AreNames t.names) ts → names_from end (map task_record ts) (all_names ts) ≡ None
tasks_taken end [] h = refl
tasks_taken end (t ∷ ts) h =
    let own = h 0 t (omega arith) in
    let bytes = names_bytes t.names ++ all_names ts in
    none_both (task_names_fault (length t.names) [] bytes (end - length bytes)) (names_from end (map task_record ts) (after_names (length t.names) bytes))
    (names_taken t.names [] (all_names ts) (end - length bytes) (all_new [] t.names own.named own.different))
    (ap (names_from end (map task_record ts)) (names_after t.names (all_names ts)) ∙ tasks_taken end ts (λ k d lt. h (suc k) d (omega (arith, lt))))

-- where the names of each task are such, the step of names refuses nothing
pub names_pass : (p : ImageData) → All (λ t. AreNames t.names) p.tasks → names_fault (header_of Second p) (map task_record p.tasks) (all_names p.tasks) ≡ None
names_pass p h = tasks_taken (names_place (header_of Second p) + length (all_names p.tasks)) p.tasks h

-- ---- at another place

one_moved : (earlier : List (List ℕ)) (bytes : List ℕ) (place other : ℕ) → name_fault earlier bytes place ≡ None → name_fault earlier bytes other ≡ None
one_moved earlier bytes place other e = taken_is earlier bytes other (is_taken earlier bytes place e)

task_moved : (n : ℕ) (earlier : List (List ℕ)) (bytes : List ℕ) (place other : ℕ) → task_names_fault n earlier bytes place ≡ None → task_names_fault n earlier bytes other ≡ None
task_moved zero earlier bytes place other e = refl
task_moved (suc n) earlier bytes place other e =
    let a = both_none (name_fault earlier bytes place) _ e in
    none_both (name_fault earlier bytes other) _ (one_moved earlier bytes place other a.0)
    (task_moved n (earlier ++ first_name bytes ∷ []) (after_name bytes) (place + 1 + length (first_name bytes)) (other + 1 + length (first_name bytes)) a.1)

pub names_moved : (end other : ℕ) (ts : List TaskRecord) (bytes : List ℕ) → names_from end ts bytes ≡ None → names_from other ts bytes ≡ None
names_moved end other [] bytes e = e
names_moved end other (t ∷ ts) bytes e =
    let a = both_none (task_names_fault t.names [] bytes (end - length bytes)) _ e in
    none_both (task_names_fault t.names [] bytes (other - length bytes)) _ (task_moved t.names [] bytes (end - length bytes) (other - length bytes) a.0)
    (names_moved end other ts (after_names t.names bytes) a.1)

-- ---- the first form has no names

pub no_name : (index : ℕ) (t : TaskRecord) (place : ℕ) → task_fault First index t place ≡ None → t.names ≡ 0
no_name index t place e =
    let a = row_none ((index == 0 && not (t.priority == 0)) || (not (index == 0) && t.priority == 0)) _ _ e in
    let b = row_none (nat_lt 1 t.flags || (index == 0 && not (t.flags == 1))) _ _ a.1 in
    let c = row_none (nat_lt t.regions 1 || nat_lt 8 t.regions) _ _ b.1 in
    let d = row_none (nat_lt 0 t.names) _ _ c.1 in
    let le = ltb-false 0 t.names d.0 in
    omega (arith, le)

-- where no task has a name, what is refused is what is left over
pub no_names_left : (end index place : ℕ) (ts : List TaskRecord) (bytes : List ℕ) → tasks_from First index place ts ≡ None → names_from end ts bytes ≡ left_fault bytes
no_names_left end index place [] bytes e = refl
no_names_left end index place (t ∷ ts) bytes e =
    let a = both_none (task_fault First index t place) (tasks_from First (index + 1) (place + 12) ts) e in
    ap (λ (n : ℕ). or_else (task_names_fault n [] bytes (end - length bytes)) (names_from end ts (after_names n bytes))) (no_name index t place a.0)
    ∙ no_names_left end (index + 1) (place + 12) ts bytes a.1
