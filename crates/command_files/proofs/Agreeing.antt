-- Contents that are seen, and contents that may be: how far files are accepted with both.
use Rattle.std.proofs.Common.{◌≡◌, ℕ, ◌<◌, ◌≤◌, List, [], ◌∷◌, length, Option, Some, None, refl, sym, ap, subst, ◌∙◌, arith, zero, suc}
use Rattle.std.specs.Prelude.{slice_get}
use Rattle.std.proofs.lemmas.Option.{same_Some, slice_get_within}
use Rattle.command_line.specs.CommandLine.{go}
use Rattle.command_files.specs.Sources.{File, first_of, MayBe, Are, Takes, TakesAll}
use Rattle.command_files.proofs.Lists.{get_below, same_lists}
use Rattle.outside_io.specs.Outside.{WhereSeen}
use Rattle.command_files.specs.Contents.{Why}
use Rattle.command_files.specs.Verdict.{refused}
use Rattle.command_files.specs.Answer.{IsRefused}
use Rattle.command_files.proofs.Faulting.{where_seen}

-- the first file of a command does not depend on contents
abbrev pub FirstIsOne : (List ℕ → List File) → Type 0
FirstIsOne files_of = (a b : List ℕ) → slice_get (files_of a) 0 ≡ slice_get (files_of b) 0

pub same_held : (seen : List ℕ → Option (List ℕ)) (name c d : List ℕ) → seen name ≡ Some c → MayBe seen name d → d ≡ c
same_held seen name c d is may = may c is

-- the k-th contents, of which both know the file
same_entry : (seen : List ℕ → Option (List ℕ)) (files files' : List File) (cs ds : List (List ℕ)) → Takes (Are seen) files cs → Takes (MayBe seen) files' ds
    → (k : ℕ) → slice_get files k ≡ slice_get files' k → (c d : List ℕ) → slice_get cs k ≡ Some c → slice_get ds k ≡ Some d → c ≡ d
same_entry seen files files' cs ds are may k same c d e f =
    let t = are k c e in
    let u = may k d f in
    let file : u.0 ≡ t.0 = same_Some u.0 t.0 (sym u.1 ∙ sym same ∙ t.1) in
    sym (same_held seen t.0.name c d t.2 (subst (λ (g : File). MayBe seen g.name d) file u.2))

-- files to which both come are the same
pub same_files : (seen : List ℕ → Option (List ℕ)) (files_of : List ℕ → List File) (one : FirstIsOne files_of) (cs ds : List (List ℕ)) → Takes (Are seen) (files_of (first_of cs)) cs → Takes (MayBe seen) (files_of (first_of ds)) ds
    → (k : ℕ) → k ≤ length cs → k ≤ length ds → slice_get (files_of (first_of cs)) k ≡ slice_get (files_of (first_of ds)) k
same_files seen files_of one [] ds are may k le me = let none : k ≡ 0 = omega arith in rw none (one (first_of []) (first_of ds))
same_files seen files_of one (c ∷ cs) [] are may k le me = let none : k ≡ 0 = omega arith in rw none (one c (first_of []))
same_files seen files_of one (c ∷ cs) (d ∷ ds) are may k le me =
    let first : c ≡ d = same_entry seen (files_of c) (files_of d) (c ∷ cs) (d ∷ ds) are may 0 (one c d) c d refl refl in
    ap (λ (x : List ℕ). slice_get (files_of x) k) first

-- where the seen ones go on, the file that comes next after the others is seen and accepted
pub seen_further : (seen : List ℕ → Option (List ℕ)) (files_of : List ℕ → List File) (one : FirstIsOne files_of) (cs ds : List (List ℕ)) → Takes (Are seen) (files_of (first_of cs)) cs → Takes (MayBe seen) (files_of (first_of ds)) ds
    → length ds < length cs → (f : File) × (slice_get (files_of (first_of ds)) (length ds) ≡ Some f) × ((c : List ℕ) × (seen f.name ≡ Some c) × (f.refusal c ≡ None))
seen_further seen files_of one cs ds are may lt =
    let here = get_below cs (length ds) lt in
    let t = are (length ds) here.0 here.1 in
    (t.0, sym (same_files seen files_of one cs ds are may (length ds) (omega arith) (omega arith)) ∙ t.1, (here.0, t.2, t.3))

-- and the other way
pub may_further : (seen : List ℕ → Option (List ℕ)) (files_of : List ℕ → List File) (one : FirstIsOne files_of) (cs ds : List (List ℕ)) → Takes (Are seen) (files_of (first_of cs)) cs → Takes (MayBe seen) (files_of (first_of ds)) ds
    → length cs < length ds → (f : File) × (slice_get (files_of (first_of cs)) (length cs) ≡ Some f) × ((d : List ℕ) × MayBe seen f.name d × (f.refusal d ≡ None))
may_further seen files_of one cs ds are may lt =
    let here = get_below ds (length cs) lt in
    let t = may (length cs) here.0 here.1 in
    (t.0, same_files seen files_of one cs ds are may (length cs) (omega arith) (omega arith) ∙ t.1, (here.0, t.2, t.3))

-- as many contents are the same ones
pub same_contents : (seen : List ℕ → Option (List ℕ)) (files_of : List ℕ → List File) (one : FirstIsOne files_of) (cs ds : List (List ℕ)) → Takes (Are seen) (files_of (first_of cs)) cs → Takes (MayBe seen) (files_of (first_of ds)) ds
    → length cs ≡ length ds → cs ≡ ds
same_contents seen files_of one cs ds are may e = same_lists cs ds e (λ k c d i j.
    let at = slice_get_within cs k c i in
    let too = slice_get_within ds k d j in
    same_entry seen (files_of (first_of cs)) (files_of (first_of ds)) cs ds are may k (same_files seen files_of one cs ds are may k (omega arith) (omega arith)) c d i j)

-- ## three ways in which lengths meet

pub data Meets (m n : ℕ) : Type 0 where
  less : m < n → Meets m n
  more : n < m → Meets m n
  same : m ≡ n → Meets m n

meets_more : (m n : ℕ) → Meets m n → Meets (suc m) (suc n)
meets_more m n (less lt) = less (omega arith)
meets_more m n (more lt) = more (omega arith)
meets_more m n (same e) = same (ap suc e)

meets : (m n : ℕ) → Meets m n
meets zero zero = same refl
meets zero (suc n) = less (omega arith)
meets (suc m) zero = more (omega arith)
meets (suc m) (suc n) = meets_more m n (meets m n)

-- ## a refusal by seen contents, and one by contents that may be

pub no_refusal : (f : File) (c : List ℕ) (why : Why) → f.refusal c ≡ Some why → f.refusal c ≡ None → ⊥
no_refusal f c why e d = let both : Some why ≡ None = sym e ∙ d in absurd (cc)

-- a file that is refused where it is seen is none that seen contents of it were accepted
pub not_accepted : (seen : List ℕ → Option (List ℕ)) (f g : File) (why : Why) (c : List ℕ) → f ≡ g → WhereSeen (seen f.name) (λ all. f.refusal all ≡ Some why)
    → seen g.name ≡ Some c → g.refusal c ≡ None → ⊥
not_accepted seen f g why c alike where_seen is none =
    no_refusal g c why (subst (λ (h : File). WhereSeen (seen h.name) (λ all. h.refusal all ≡ Some why)) alike where_seen c is) none

-- the other way
pub not_refused : (seen : List ℕ → Option (List ℕ)) (f g : File) (why : Why) (c d : List ℕ) → f ≡ g → seen f.name ≡ Some c → f.refusal c ≡ Some why
    → MayBe seen g.name d → g.refusal d ≡ None → ⊥
not_refused seen f g why c d alike is refusal may none =
    let held : d ≡ c = subst (λ (h : File). MayBe seen h.name d) (sym alike) may c is in
    no_refusal f c why refusal (subst (λ (b : List ℕ). f.refusal b ≡ None) held (subst (λ (h : File). h.refusal d ≡ None) (sym alike) none))

-- at the end there is no file
pub no_file : (files : List File) (k : ℕ) (f : File) → length files ≡ k → slice_get files k ≡ Some f → ⊥
no_file files k f e at = let below = slice_get_within files k f at in absurd (omega arith)

-- where a file is refused, not all are accepted
pub refused_not_done : (seen : List ℕ → Option (List ℕ)) (files_of : List ℕ → List File) (one : FirstIsOne files_of) (f : File) (why : Why) (cs : List (List ℕ)) → IsRefused files_of seen f why → TakesAll (Are seen) files_of cs → ⊥
refused_not_done seen files_of one f why cs h all = by_length (meets (length cs) (length h.contents)) where
  by_length : Meets (length cs) (length h.contents) → ⊥
  by_length (less lt) =
      let t = may_further seen files_of one cs h.contents all.takes h.reached.takes lt in
      no_file (files_of (first_of cs)) (length cs) t.0 all.all t.1
  by_length (more lt) =
      let t = seen_further seen files_of one cs h.contents all.takes h.reached.takes lt in
      not_accepted seen f t.0 why t.2.0 (same_Some f t.0 (sym h.reached.next ∙ t.1)) (where_seen seen f why h.refused) t.2.1 t.2.2
  by_length (same e) =
      let files = same_files seen files_of one cs h.contents all.takes h.reached.takes (length cs) (omega arith) (omega arith) in
      let there : slice_get (files_of (first_of h.contents)) (length cs) ≡ Some f = ap (λ (k : ℕ). slice_get (files_of (first_of h.contents)) k) e ∙ h.reached.next in
      no_file (files_of (first_of cs)) (length cs) f all.all (files ∙ there)
