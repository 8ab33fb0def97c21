-- A text that grows by pieces.
use Rattle.std.proofs.Common.{◌≡◌, ℕ, List, ◌++◌, ◌∙◌, ap, append_assoc}
use Rattle.std.specs.Prelude.{Result, decimal}
use Rattle.std.specs.Result.{OnOk}
use Rattle.std.proofs.lemmas.Result.{on_ok_weaker}

pub grown : (o a x b y : List ℕ) → x ≡ o ++ a → y ≡ x ++ b → y ≡ o ++ (a ++ b)
grown o a x b y first next = next ∙ ap (λ (t : List ℕ). t ++ b) first ∙ append_assoc o a b

-- by a number that is another one as it is told
pub numbered : (o a x y : List ℕ) (n m : ℕ) → x ≡ o ++ a → y ≡ x ++ decimal n → n ≡ m → y ≡ o ++ (a ++ decimal m)
numbered o a x y n m first next is = grown o a x (decimal m) y first (next ∙ ap (λ (k : ℕ). x ++ decimal k) is)

-- the last piece may be refused
pub ended : {T E : Type 0} (r : Result T E) (o a x b y : List ℕ) → x ≡ o ++ a → OnOk r (y ≡ x ++ b) → OnOk r (y ≡ o ++ (a ++ b))
ended r o a x b y first last = on_ok_weaker r (grown o a x b y first) last
