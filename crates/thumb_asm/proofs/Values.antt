-- The bytes of values.
use Rattle.std.proofs.Common.{◌≡◌, ℕ, suc, zero, ◌+◌, ◌*◌, ◌/◌, ◌%◌, List, [], ◌∷◌, ◌++◌, length, refl, ap, ◌∙◌, sym, arith, add-one, append_assoc, length-append, Bool, true, false, nat_eq, Option, Some, None, Result, Ok, Err, OnOk, ℤ, pos, negsuc}
use Rattle.std.proofs.lemmas.Bool.{or_parts}
use Rattle.std.specs.List.{list_any, repeat}
use Rattle.std.proofs.lemmas.List.{append-nil}
use Rattle.thumb_asm.specs.declared.Stop.{Stop}
use Rattle.thumb_asm.specs.Meaning.{Env, value, low_first, number_bytes, value_bytes, data_bytes, Means}
use Rattle.thumb_asm.specs.Causes.{is_unknown, is_beyond, shape_cause}
use Rattle.thumb_asm.specs.Sizes.{shape_size}
use Rattle.thumb_asm.specs.Syntax.{Data}
use Rattle.thumb_asm.specs.Outputs.{Gave}

low_length : (k n : ℕ) → length (low_first k n) ≡ k
unfolding low_first
low_length zero n = refl
low_length (suc k) n = ap suc (low_length k (n / 256))

number_length : (k : ℕ) (z : ℤ) → length (number_bytes k z) ≡ k
number_length k (pos n) = low_length k n
number_length k (negsuc n) = low_length k _

pub known_length : (k : ℕ) (o : Option ℤ) → is_unknown o ≡ false → length (value_bytes k o) ≡ k
known_length k None h = cc
known_length k (Some z) h = number_length k z

times_suc : (k n : ℕ) → k + k * n ≡ k * suc n
times_suc k n = grind arith

pub data_length : (env : Env) (k : ℕ) (es : List (List ℕ)) → list_any (λ e. is_unknown (value env e)) es ≡ false → length (data_bytes env k es) ≡ k * length es
unfolding data_bytes
data_length env k [] h = omega arith
data_length env k (e ∷ es) h =
    let both = or_parts (is_unknown (value env e)) (list_any (λ e. is_unknown (value env e)) es) h in
    length-append (value_bytes k (value env e)) (data_bytes env k es)
    ∙ ap (λ n. n + length (data_bytes env k es)) (known_length k (value env e) both.0)
    ∙ ap (λ n. k + n) (data_length env k es both.1)
    ∙ times_suc k (length es)

pub data_next : (env : Env) (k : ℕ) (e : List ℕ) (es : List (List ℕ)) → data_bytes env k (e ∷ es) ≡ value_bytes k (value env e) ++ data_bytes env k es
unfolding data_bytes
data_next env k e es = refl

pub data_none : (env : Env) (k : ℕ) → data_bytes env k [] ≡ []
unfolding data_bytes
data_none env k = refl

pub gave_data : (env : Env) (at k : ℕ) (es : List (List ℕ)) (old new : List ℕ) (r : Result (Unit {0}) Stop) → nat_eq (at % k) 0 ≡ true → list_any (λ e. is_unknown (value env e)) es ≡ false → list_any (λ e. is_beyond k (value env e)) es ≡ false → OnOk r (new ≡ old ++ data_bytes env k es) → OnOk r (Gave env at (Data k es) old new)
unfolding Means shape_cause shape_size
gave_data env at k es old new (Ok u) a b c h = record {
  own = data_bytes env k es;
  bytes = h;
  size = data_length env k es b;
  means = refl;
  accepted = rw (a, b, c) refl;
}
gave_data env at k es old new (Err x) a b c h = tt

repeat_more : (n : ℕ) → repeat {A = ℕ} (suc n) (0 ∷ []) ≡ repeat {A = ℕ} n (0 ∷ []) ++ (0 ∷ [])
repeat_more zero = refl
repeat_more (suc n) = ap (λ t. 0 ∷ t) (repeat_more n)

pub zeros_next : (old now : List ℕ) (i : ℕ) → now ≡ old ++ repeat i (0 ∷ []) → now ++ (0 ∷ []) ≡ old ++ repeat (i + 1) (0 ∷ [])
zeros_next old now i h = ap (λ t. t ++ (0 ∷ [])) h ∙ append_assoc old (repeat i (0 ∷ [])) (0 ∷ []) ∙ ap (λ t. old ++ t) (sym (repeat_more i)) ∙ ap (λ n. old ++ repeat n (0 ∷ [])) (sym (add-one i))

pub repeat_length : (n : ℕ) → length {A = ℕ} (repeat n (0 ∷ [])) ≡ n
repeat_length zero = refl
repeat_length (suc n) = ap suc (repeat_length n)

pub low_two : (n : ℕ) → (n % 256 ∷ []) ++ (n / 256 % 256 ∷ []) ≡ low_first 2 n
unfolding low_first
low_two n = refl

halves : (n : ℕ) → n / 256 / 256 ≡ n / 65536
halves n = omega arith

pub low_four : (n : ℕ) → low_first 2 n ++ low_first 2 (n / 65536) ≡ low_first 4 n
unfolding low_first
low_four n = rw (sym (halves n)) refl

pub low_one : (n : ℕ) → n % 256 ∷ [] ≡ low_first 1 n
unfolding low_first
low_one n = refl

-- one piece after another
pub after : (old mid new xs ys all : List ℕ) (r : Result (Unit {0}) Stop) → mid ≡ old ++ xs → OnOk r (new ≡ mid ++ ys) → xs ++ ys ≡ all → OnOk r (new ≡ old ++ all)
after old mid new xs ys all (Ok u) h k e = k ∙ ap (λ t. t ++ ys) h ∙ append_assoc old xs ys ∙ ap (λ t. old ++ t) e
after old mid new xs ys all (Err x) h k e = tt

-- one value more
pub push_step : (env : Env) (k : ℕ) (e : List ℕ) (es left : List (List ℕ)) (old out new : List ℕ) → left ≡ e ∷ es → new ≡ out ++ value_bytes k (value env e) → out ++ data_bytes env k left ≡ old → new ++ data_bytes env k es ≡ old
push_step env k e es left old out new h n i =
    ap (λ t. t ++ data_bytes env k es) n
    ∙ append_assoc out (value_bytes k (value env e)) (data_bytes env k es)
    ∙ ap (λ t. out ++ t) (sym (data_next env k e es))
    ∙ ap (λ t. out ++ data_bytes env k t) (sym h)
    ∙ i

pub push_last : (env : Env) (k : ℕ) (left : List (List ℕ)) (old out : List ℕ) → left ≡ [] → out ++ data_bytes env k left ≡ old → out ≡ old
push_last env k left old out h i = sym (append-nil out) ∙ ap (λ t. out ++ t) (sym (data_none env k)) ∙ ap (λ t. out ++ data_bytes env k t) (sym h) ∙ i

pub any_tail : (p : List ℕ → Bool) (e : List ℕ) (es left : List (List ℕ)) → left ≡ e ∷ es → list_any p left ≡ false → list_any p es ≡ false
any_tail p e es left h k = (or_parts (p e) (list_any p es) (ap (list_any p) (sym h) ∙ k)).1

pub any_head : (p : List ℕ → Bool) (e : List ℕ) (es left : List (List ℕ)) → left ≡ e ∷ es → list_any p left ≡ false → p e ≡ false
any_head p e es left h k = (or_parts (p e) (list_any p es) (ap (list_any p) (sym h) ∙ k)).0
