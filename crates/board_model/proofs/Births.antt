-- Births that are told apart as they are seen.
use Rattle.std.proofs.Common.{◌≡◌, ◌&&◌, ℕ, Bool, true, false, eqb, get_or, set, Some, refl, sym, ◌∙◌, ap, eq-eqb, eqb-true}
use Rattle.std.proofs.Math.ListN.{get_or-map}
use Rattle.std.proofs.Math.Seq.{map-set_same}
use Rattle.std.proofs.lemmas.Bool.{false≢true}
use Rattle.task_table.specs.model.State.{Task, State, Birth, From, Any, One, KernelOnly, Listen, Turn}
use Rattle.task_table.specs.model.Reading.{task_at, listen_of, admits, same_birth, no_task}
use Rattle.task_table.specs.model.Effects.{with_task, past_syscall}
use Rattle.board_model.specs.Alike.{seen_birth, seen_from}

-- what listens are closed to is told apart as it is seen
abbrev pub AreTellable : (ℕ → ℕ) → State → Type 0
AreTellable v s = (i : ℕ) (l : Listen) (b : Birth) → listen_of s i ≡ Some l → l.from ≡ One b → v b.birth ≡ v (task_at s b.index).births → b.birth ≡ (task_at s b.index).births

-- two tests for equality agree, where each equation gives the other
pub eqb_same : (x b y d : ℕ) → (x ≡ b → y ≡ d) → (y ≡ d → x ≡ b) → eqb x b ≡ eqb y d
eqb_same x b y d f h = go (eqb x b) (eqb y d) refl refl
  where
    go : (p q : Bool) → eqb x b ≡ p → eqb y d ≡ q → p ≡ q
    go true true e k = refl
    go false false e k = refl
    go true false e k = absurd (false≢true (sym k ∙ eq-eqb _ _ (f (eqb-true _ _ e))))
    go false true e k = absurd (false≢true (sym e ∙ eq-eqb _ _ (h (eqb-true _ _ k))))

-- two listens that are seen as one admit the same clients, where what they are closed to is told apart as it is seen
pub admits_same : (v : ℕ → ℕ) (f k : From) (b d : Birth) → seen_from v f ≡ seen_from v k → seen_birth v b ≡ seen_birth v d →
    ((e : Birth) → f ≡ One e → e.index ≡ b.index → v e.birth ≡ v b.birth → e.birth ≡ b.birth) →
    ((e : Birth) → k ≡ One e → e.index ≡ d.index → v e.birth ≡ v d.birth → e.birth ≡ d.birth) → admits f b ≡ admits k d
admits_same v Any Any b d e q m n = refl
admits_same v KernelOnly KernelOnly b d e q m n = refl
admits_same v Any (One y) b d e q m n = absurd cc
admits_same v Any KernelOnly b d e q m n = absurd cc
admits_same v KernelOnly Any b d e q m n = absurd cc
admits_same v KernelOnly (One y) b d e q m n = absurd cc
admits_same v (One x) Any b d e q m n = absurd cc
admits_same v (One x) KernelOnly b d e q m n = absurd cc
admits_same v (One x) (One y) b d e q m n = go (eqb x.index b.index) refl
  where
    inner : seen_birth v x ≡ seen_birth v y
    inner = cc

    go : (p : Bool) → eqb x.index b.index ≡ p → same_birth x b ≡ same_birth y d
    go p r =
        let i : x.index ≡ y.index = ap (λ (z : Birth). z.index) inner in
        let j : b.index ≡ d.index = ap (λ (z : Birth). z.index) q in
        let vx : v x.birth ≡ v y.birth = ap (λ (z : Birth). z.birth) inner in
        let vb : v b.birth ≡ v d.birth = ap (λ (z : Birth). z.birth) q in
        let r2 : eqb y.index d.index ≡ p = (λ k. eqb (sym i k) (sym j k)) ∙ r in
        by_index p r r2 (λ same. eqb_same x.birth b.birth y.birth d.birth
        (λ h. n y refl (sym i ∙ same ∙ j) (sym vx ∙ ap v h ∙ vb))
        (λ h. m x refl same (vx ∙ ap v h ∙ sym vb)))
      where
        by_index : (t : Bool) → eqb x.index b.index ≡ t → eqb y.index d.index ≡ t → (x.index ≡ b.index → eqb x.birth b.birth ≡ eqb y.birth d.birth) → (eqb x.index b.index && eqb x.birth b.birth) ≡ (eqb y.index d.index && eqb y.birth d.birth)
        by_index false f k h = (λ z. f z && eqb x.birth b.birth) ∙ (λ z. sym k z && eqb y.birth d.birth)
        by_index true f k h = (λ z. f z && eqb x.birth b.birth) ∙ h (eqb-true _ _ f) ∙ (λ z. sym k z && eqb y.birth d.birth)

-- ## a task that goes past its system call is born no more than before

births_kept : (s : State) (c i : ℕ) (x : Task) → x.births ≡ (task_at s c).births → (task_at (with_task c x s) i).births ≡ (task_at s i).births
unfolding with_task task_at
births_kept s c i x e =
    let births : Task → ℕ = λ y. y.births in
    sym (get_or-map births (set s.tasks c x) i no_task)
    ∙ ap (λ l. get_or l i 0) (map-set_same births s.tasks c x no_task e)
    ∙ get_or-map births s.tasks i no_task

births_past_syscall : (c i : ℕ) (t : Turn) → (task_at (past_syscall c t).state i).births ≡ (task_at t.state i).births
unfolding past_syscall
births_past_syscall c i t = births_kept t.state c i _ refl

listen_past_syscall : (c i : ℕ) (t : Turn) → listen_of (past_syscall c t).state i ≡ listen_of t.state i
unfolding past_syscall listen_of with_task
listen_past_syscall c i t = refl

pub notable_past_syscall : (v : ℕ → ℕ) (c : ℕ) (t : Turn) → AreTellable v t.state → AreTellable v (past_syscall c t).state
notable_past_syscall v c t h i l b here e same =
    let births = births_past_syscall c b.index t in
    h i l b (sym (listen_past_syscall c i t) ∙ here) e (same ∙ ap v births) ∙ sym births
