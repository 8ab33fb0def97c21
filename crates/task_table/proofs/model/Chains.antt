-- What is true along a chain, and how chains are made.
use Rattle.std.proofs.Common.{List, [], ◌∷◌, zero, suc, refl, arith}
use Rattle.std.specs.Prelude.{Contains, fold}
use Rattle.task_table.specs.model.State.{Turn}
use Rattle.task_table.specs.model.Chain.{Chain, Here, More}

-- what each change keeps, a chain of them keeps
pub chain_keeps : (R : Turn → Turn → Type 0) (P : Turn → Type 0) → ((u v : Turn) → R u v → P u → P v) → (t u : Turn) → Chain R t u → P t → P u
chain_keeps R P step _ _ (Here t) h = h
chain_keeps R P step _ _ (More t u v c s) h = step u v s (chain_keeps R P step t u c h)

-- one chain after another
pub joined : (R : Turn → Turn → Type 0) (t u v : Turn) → Chain R t u → Chain R u v → Chain R t v
joined R t _ _ a (Here u) = a
joined R t _ _ a (More u v w b s) = More t v w (joined R t u v a b) s

-- a chain whose changes are themselves chains
pub refined : (R Q : Turn → Turn → Type 0) → ((u v : Turn) → R u v → Chain Q u v) → (t u : Turn) → Chain R t u → Chain Q t u
refined R Q f _ _ (Here t) = Here t
refined R Q f _ _ (More t u v c s) = joined Q t u v (refined R Q f t u c) (f u v s)

pub one : {R : Turn → Turn → Type 0} {t u : Turn} → R t u → Chain R t u
one {t = t} {u = u} s = More t t u (Here t) s

infixl 5 ◌▷◌
pub ◌▷◌ : {R : Turn → Turn → Type 0} {t u v : Turn} → Chain R t u → R u v → Chain R t v
◌▷◌ {t = t} {u = u} {v = v} c s = More t u v c s

pub chain-fold : {R : Turn → Turn → Type 0} {A : Type 0} (f : Turn → A → Turn) (xs : List A) (u : Turn) → ((x : A) (v : Turn) → Contains xs x → Chain R v (f v x)) → Chain R u (fold f u xs)
chain-fold f [] u step = Here u
chain-fold {R} f (x ∷ xs) u step = joined R u (f u x) _ (step x u (zero, omega arith, refl)) (chain-fold f xs (f u x) (λ y v here. step y v (suc here.0, omega (arith, here.1), here.2)))
