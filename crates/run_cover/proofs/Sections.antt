-- One piece of text behind the other.
use Rattle.std.proofs.Common.{◌≡◌, ℕ, List, ◌++◌, sym, ap, ◌∙◌, append_assoc}

pub appended : (a b c x y : List ℕ) → b ≡ a ++ x → c ≡ b ++ y → c ≡ a ++ (x ++ y)
appended a b c x y p q = q ∙ ap (λ (t : List ℕ). t ++ y) p ∙ append_assoc a x y

pub four : (x y z e : List ℕ) → x ++ (y ++ (z ++ e)) ≡ ((x ++ y) ++ z) ++ e
four x y z e = sym (append_assoc (x ++ y) z e ∙ append_assoc x y (z ++ e))
