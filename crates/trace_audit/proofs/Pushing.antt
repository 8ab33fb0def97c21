-- A list with one more element, and how it can be split.
use Rattle.std.proofs.Common.{◌≡◌, ◌⊎◌, inl, inr, List, [], ◌∷◌, ◌++◌, length, refl, ap, ◌∙◌, arith}

pub head_same : {A : Type 0} {a b : A} {xs ys : List A} → a ∷ xs ≡ b ∷ ys → a ≡ b
head_same e = cc

pub tail_same : {A : Type 0} {a b : A} {xs ys : List A} → a ∷ xs ≡ b ∷ ys → xs ≡ ys
tail_same e = cc

-- x comes after a front of ls, or is the last element l, after all of ls
abbrev pub Splits : {A : Type 0} → List A → A → List A → A → Type 0
Splits {A} ls l before x = ((rest : List A) × (ls ≡ before ++ x ∷ rest)) ⊎ ((ls ≡ before) × (l ≡ x))

split_more : {A : Type 0} (y b : A) (ys bs : List A) (l x : A) → y ≡ b → Splits ys l bs x → Splits (y ∷ ys) l (b ∷ bs) x
split_more y b ys bs l x same (inl h) = inl (h.0, ap (λ z. z ∷ ys) same ∙ ap (λ zs. b ∷ zs) h.1)
split_more y b ys bs l x same (inr h) = inr (ap (λ z. z ∷ ys) same ∙ ap (λ zs. b ∷ zs) h.0, h.1)

pub push_split : {A : Type 0} (ls : List A) (l : A) (before : List A) (x : A) (after : List A) → ls ++ l ∷ [] ≡ before ++ x ∷ after → Splits ls l before x
push_split [] l [] x after e = inr (refl, head_same e)
push_split [] l (b ∷ []) x after e = let q = ap length e in absurd (omega arith)
push_split [] l (b ∷ c ∷ bs) x after e = let q = ap length e in absurd (omega arith)
push_split (y ∷ ys) l [] x after e = inl (ys, ap (λ z. z ∷ ys) (head_same e))
push_split (y ∷ ys) l (b ∷ bs) x after e = split_more y b ys bs l x (head_same e) (push_split ys l bs x after (tail_same e))
