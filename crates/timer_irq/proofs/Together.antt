-- The lines that pass, as one line, one more of them at a time.
use Rattle.std.proofs.Common.{◌≡◌, ◌+◌, ◌<◌, ◌||◌, ℕ, zero, suc, Bool, true, false, cond, List, [], ◌∷◌, length, map, take, refl, ◌∙◌, ap, subst, arith, get_or}
use Rattle.std.specs.Prelude.{filter}
use Rattle.std.specs.List.{list_any}
use Rattle.std.proofs.Math.ListN.{get_or-map}
use Rattle.std.proofs.lemmas.List.{length-map}
use Rattle.task_table.specs.declared.Line.{Line}
use Rattle.task_table.specs.declared.start.LineStart.{LineStart}
use Rattle.task_table.specs.model.State.{LineSetup, State}
use Rattle.task_table.specs.model.Asking.{is_asked}
use Rattle.task_table.specs.model.Reading.{line_at, no_line}
use Rattle.task_table.specs.kept.Parts.{line_setup}
use Rattle.timer_irq.specs.Midway.{lines_together, joined, with_asked}
use Rattle.timer_irq.proofs.Lines.{asked_at}

or_false : (b : Bool) → b ≡ (b || false)
or_false true = refl
or_false false = refl

or_assoc : (a b c : Bool) → ((a || b) || c) ≡ (a || (b || c))
or_assoc true b c = refl
or_assoc false b c = refl

-- one more item of a list in which items that pass are searched
any_suc : {A : Type 0} (p q : A → Bool) (xs : List A) (i : ℕ) (d : A) → i < length xs → (list_any p (filter q (take i xs)) || cond (q (get_or xs i d)) (p (get_or xs i d)) false) ≡ list_any p (filter q (take (suc i) xs))
any_suc p q [] i d below = absurd (omega arith)
any_suc p q (x ∷ xs) zero d below = go (q x)
  where
    go : (b : Bool) → cond b (p x) false ≡ list_any p (cond b (x ∷ []) [])
    go true = or_false (p x)
    go false = refl
any_suc {A} p q (x ∷ xs) (suc i) d below = go (q x) (any_suc p q xs i d (omega arith))
  where
    before : List A
    before = filter q (take i xs)

    after : List A
    after = filter q (take (suc i) xs)

    here : Bool
    here = cond (q (get_or xs i d)) (p (get_or xs i d)) false

    go : (b : Bool) → (list_any p before || here) ≡ list_any p after → (list_any p (cond b (x ∷ before) before) || here) ≡ list_any p (cond b (x ∷ after) after)
    go true rest = or_assoc (p x) (list_any p before) here ∙ ap (λ z. p x || z) rest
    go false rest = rest

any_more : {A : Type 0} (p q : A → Bool) (xs : List A) (i : ℕ) (d : A) → i < length xs → (list_any p (filter q (take i xs)) || cond (q (get_or xs i d)) (p (get_or xs i d)) false) ≡ list_any p (filter q (take (i + 1) xs))
any_more p q xs i d below = let e : i + 1 ≡ suc i = omega arith in rw e (any_suc p q xs i d below)

part_of : (f : Line → Bool) → f no_line ≡ false → (line : Line) (b : Bool) → f (cond b line no_line) ≡ cond b (f line) false
part_of f none line true = refl
part_of f none line false = none

more_lines : (s : State) (q : LineSetup → Bool) (xs : List LineSetup) (i : ℕ) (d : LineSetup) → i < length xs → joined (lines_together s (filter q (take i xs))) (cond (q (get_or xs i d)) (with_asked (is_asked s (get_or xs i d)) (line_at s (get_or xs i d).line)) no_line) ≡ lines_together s (filter q (take (i + 1) xs))
more_lines s q xs i d below =
    let x = get_or xs i d in
    let line = with_asked (is_asked s x) (line_at s x.line) in
    let old = filter q (take i xs) in
    let enabled = ap (λ b. list_any (λ (o : LineSetup). (line_at s o.line).enabled) old || b) (part_of (λ l. l.enabled) refl line (q x)) ∙ any_more (λ (o : LineSetup). (line_at s o.line).enabled) q xs i d below in
    let pending = ap (λ b. list_any (λ (o : LineSetup). (line_at s o.line).pending || is_asked s o) old || b) (part_of (λ l. l.pending) refl line (q x)) ∙ any_more (λ (o : LineSetup). (line_at s o.line).pending || is_asked s o) q xs i d below in
    λ j. record { enabled = enabled j; pending = pending j }

-- the same for the owners that the code keeps, and for what it knows of their devices
pub more_owners : (s : State) (q : LineSetup → Bool) (xs : List LineStart) (asked : List Bool) (i : ℕ) (d : LineStart) → i < length xs → asked ≡ map (is_asked s) (map line_setup xs) → joined (lines_together s (filter q (take i (map line_setup xs)))) (cond (q (line_setup (get_or xs i d))) (with_asked (get_or asked i false) (line_at s (get_or xs i d).line)) no_line) ≡ lines_together s (filter q (take (i + 1) (map line_setup xs)))
more_owners s q xs asked i d below are =
    let os = map line_setup xs in
    let long = length-map xs line_setup in
    let here : i < length os = omega (arith, long, below) in
    let o = get_or os i (line_setup d) in
    let asks : get_or asked i false ≡ is_asked s o = ap (λ bs. get_or bs i false) are ∙ asked_at (is_asked s) os i (line_setup d) here in
    let P : LineSetup → Type 0 = λ y. joined (lines_together s (filter q (take i os))) (cond (q y) (with_asked (get_or asked i false) (line_at s y.line)) no_line) ≡ lines_together s (filter q (take (i + 1) os)) in
    subst P (get_or-map line_setup xs i d) (rw asks (more_lines s q os i (line_setup d) here))
