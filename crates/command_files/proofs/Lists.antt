-- Files and contents as lists.
use Rattle.std.proofs.Common.{◌≡◌, ℕ, zero, suc, ◌<◌, ◌⊎◌, List, [], ◌∷◌, ◌++◌, length, get_or, Some, None, refl, sym, ap, subst, ◌∙◌, inl, inr, arith}
use Rattle.std.specs.Prelude.{slice_get}
use Rattle.std.proofs.lemmas.Option.{same_Some}
use Rattle.command_files.specs.Sources.{File, Takes}

pub get_below : {A : Type 0} (xs : List A) (k : ℕ) → k < length xs → (x : A) × (slice_get xs k ≡ Some x)
get_below [] k lt = absurd (omega arith)
get_below (x ∷ xs) zero lt = (x, refl)
get_below (x ∷ xs) (suc k) lt = get_below xs k (omega arith)

pub get_more : {A : Type 0} (xs ys : List A) (k : ℕ) (x : A) → slice_get xs k ≡ Some x → slice_get (xs ++ ys) k ≡ Some x
get_more [] ys k x e = absurd (cc)
get_more (z ∷ zs) ys zero x e = e
get_more (z ∷ zs) ys (suc k) x e = get_more zs ys k x e

pub get_last : {A : Type 0} (xs : List A) (y : A) → slice_get (xs ++ y ∷ []) (length xs) ≡ Some y
get_last [] y = refl
get_last (x ∷ xs) y = get_last xs y

pub longer : {A : Type 0} (xs : List A) (y : A) → length (xs ++ y ∷ []) ≡ suc (length xs)
longer [] y = refl
longer (x ∷ xs) y = ap suc (longer xs y)

pub at_end : {A : Type 0} (xs : List A) (y d : A) → get_or (xs ++ y ∷ []) (length xs) d ≡ y
at_end [] y d = refl
at_end (x ∷ xs) y d = at_end xs y d

later : {A : Type 0} (xs : List A) (z y : A) (k : ℕ) (x : A) → (slice_get xs k ≡ Some x) ⊎ ((k ≡ length xs) × (x ≡ y))
    → (slice_get (z ∷ xs) (suc k) ≡ Some x) ⊎ ((suc k ≡ length (z ∷ xs)) × (x ≡ y))
later xs z y k x (inl e) = inl e
later xs z y k x (inr p) = inr (ap suc p.0, p.1)

pub get_pushed : {A : Type 0} (xs : List A) (y : A) (k : ℕ) (x : A) → slice_get (xs ++ y ∷ []) k ≡ Some x → (slice_get xs k ≡ Some x) ⊎ ((k ≡ length xs) × (x ≡ y))
get_pushed [] y zero x e = inr (refl, sym (same_Some y x e))
get_pushed [] y (suc k) x e = absurd (cc)
get_pushed (z ∷ zs) y zero x e = inl e
get_pushed (z ∷ zs) y (suc k) x e = later zs z y k x (get_pushed zs y k x e)

tails : {A : Type 0} (x y : A) (xs ys : List A) → ((k : ℕ) (a b : A) → slice_get (x ∷ xs) k ≡ Some a → slice_get (y ∷ ys) k ≡ Some b → a ≡ b)
    → (k : ℕ) (a b : A) → slice_get xs k ≡ Some a → slice_get ys k ≡ Some b → a ≡ b
tails x y xs ys same k a b e d = same (suc k) a b e d

pub same_lists : {A : Type 0} (xs ys : List A) → length xs ≡ length ys → ((k : ℕ) (a b : A) → slice_get xs k ≡ Some a → slice_get ys k ≡ Some b → a ≡ b) → xs ≡ ys
same_lists [] [] e same = refl
same_lists [] (y ∷ ys) e same = absurd (omega arith)
same_lists (x ∷ xs) [] e same = absurd (omega arith)
same_lists (x ∷ xs) (y ∷ ys) e same =
    let rest = same_lists xs ys (omega arith) (tails x y xs ys same) in
    let head = same 0 x y refl refl in
    ap (λ a. a ∷ xs) head ∙ ap (λ more. y ∷ more) rest

-- ## files that are accepted

pub takes_none : (Held : List ℕ → List ℕ → Type 0) (files : List File) → Takes Held files []
takes_none Held files = λ k bytes e. absurd (cc)

pub takes_first : (Held : List ℕ → List ℕ → Type 0) (f : File) (files : List File) (c : List ℕ) (cs : List (List ℕ)) → Held f.name c → f.refusal c ≡ None
    → Takes Held files cs → Takes Held (f ∷ files) (c ∷ cs)
takes_first Held f files c cs held accepted more = step where
  step : (k : ℕ) (bytes : List ℕ) → slice_get (c ∷ cs) k ≡ Some bytes → (g : File) × (slice_get (f ∷ files) k ≡ Some g) × Held g.name bytes × (g.refusal bytes ≡ None)
  step zero bytes e = let is = same_Some c bytes e in (f, refl, subst (Held f.name) is held, subst (λ b. f.refusal b ≡ None) is accepted)
  step (suc k) bytes e = more k bytes e

pub takes_wider : (Held : List ℕ → List ℕ → Type 0) (files more : List File) (cs : List (List ℕ)) → Takes Held files cs → Takes Held (files ++ more) cs
takes_wider Held files more cs takes = λ k bytes e. let t = takes k bytes e in (t.0, get_more files more k t.0 t.1, t.2, t.3)

pub takes_last : (Held : List ℕ → List ℕ → Type 0) (files : List File) (cs : List (List ℕ)) (f : File) (c : List ℕ) → Takes Held files cs
    → slice_get files (length cs) ≡ Some f → Held f.name c → f.refusal c ≡ None → Takes Held files (cs ++ c ∷ [])
takes_last Held files cs f c takes at held accepted = λ k bytes e. by_place k bytes (get_pushed cs c k bytes e) where
  by_place : (k : ℕ) (bytes : List ℕ) → (slice_get cs k ≡ Some bytes) ⊎ ((k ≡ length cs) × (bytes ≡ c))
      → (g : File) × (slice_get files k ≡ Some g) × Held g.name bytes × (g.refusal bytes ≡ None)
  by_place k bytes (inl e) = takes k bytes e
  by_place k bytes (inr p) =
      (f, ap (λ n. slice_get files n) p.0 ∙ at, subst (Held f.name) (sym p.1) held, subst (λ b. f.refusal b ≡ None) (sym p.1) accepted)
