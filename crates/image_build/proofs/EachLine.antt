-- The interrupts that are built: of each line one at most.
use Rattle.std.proofs.Common.{◌≡◌, ◌≢◌, ◌∙◌, ℕ, zero, suc, false, ◌+◌, ◌≤◌, ◌<◌, ◌==◌, ◌⊎◌, List, [], ◌∷◌, ◌++◌, Option, None, Some, true, filter, length, map, length-append, pow_pos, refl, sym, ap, subst, arith, inl, inr}
use Rattle.std.specs.List.{flat_map, range_with_len}
use Rattle.std.specs.Prelude.{IfSome}
use Rattle.std.proofs.lemmas.Bool.{and_parts, cases_Bool, eqb-true, ne_eqb}
use Rattle.app_toml.specs.Accepted.{IsAccepted}
use Rattle.app_toml.specs.Apps.{AppData, InterruptData}
use Rattle.app_toml.specs.Crossed.{areas_of, has_device, is_among, is_device_of}
use Rattle.app_toml.specs.Places.{Text}
use Rattle.app_toml.specs.Relations.{Relations}
use Rattle.image_format.specs.ImageData.{ImageLine, line_record}
use Rattle.image_format.specs.Steps.{line_fault, lines_from}
use Rattle.image_format.specs.declared.records.ImageForm.TheVariants.{Second}
use Rattle.image_build.specs.Building.{IsOwned}
use Rattle.image_build.specs.Built.{device_number, line_built, lines_at}
use Rattle.image_build.proofs.Finding.{among_below, owner_areas, task_below}
use Rattle.image_build.proofs.Naming.{no_interrupt, owned_all, pairs_from}
use Rattle.image_build.proofs.Walking.{Each, IsOf, Pairs, both, line_none}

-- ---- interrupts

abbrev AtMost : ℕ → ℕ → List ImageLine → Type 0
AtMost line tasks ls = (ls ≡ []) ⊎ ((l : ImageLine) × (ls ≡ l ∷ []) × IsOf line tasks l)

no_more : (line : ℕ) (x : InterruptData) (xs : List InterruptData) → x.line ≡ line → Each (λ j. x.line ≢ j.line) xs → filter (λ i. i.line == line) xs ≡ []
no_more line x [] is other = refl
no_more line x (j ∷ xs) is other =
    let miss : (j.line == line) ≡ false = ne_eqb j.line line (λ e. other.0 (is ∙ sym e)) in
    rw miss (no_more line x xs is other.1)

-- the region of a device that a task uses or reads is one of at most 8
few_devices : (app : AppData) → IsAccepted app → (task : Text) (device : Option Text) → IfSome device (λ name. is_device_of app.tasks app.devices task name ≡ true)
    → device_number (areas_of task app.tasks) device ≤ 8
few_devices app a task None known = omega arith
few_devices app a task (Some name) known =
    let used = (and_parts (is_among name (areas_of task app.tasks)) (has_device name app.devices) known).0 in
    omega (arith, among_below 0 name (areas_of task app.tasks) used, owner_areas app a task)

one_line : (app : AppData) → IsAccepted app → (line : ℕ) (xs : List InterruptData) → Pairs (λ i j. i.line ≢ j.line) xs → Each (IsOwned app) xs
    → AtMost line (length app.tasks) (map (line_built app) (filter (λ i. i.line == line) xs))
one_line app a line [] apart known = inl refl
one_line app a line (x ∷ xs) apart known = elim (cases_Bool (x.line == line)) [
  | inl hit ↦
      let is = eqb-true x.line line hit in
      let alone : map (line_built app) (x ∷ filter (λ i. i.line == line) xs) ≡ line_built app x ∷ [] =
      ap (λ (js : List InterruptData). map (line_built app) (x ∷ js)) (no_more line x xs is apart.0) in
      let owner : (line_built app x).task < length app.tasks = omega (arith, task_below 0 x.task app.tasks known.0.owner) in
      let good : IsOf line (length app.tasks) (line_built app x) = record { is = is; owner = owner; bits = pow_pos _; device = few_devices app a x.task x.device known.0.device } in
      rw hit (inr (line_built app x, alone, good))
  | inr miss ↦ rw miss (one_line app a line xs apart.1 known.1)
]

pub lines_none : (at : ℕ → List ImageLine) (tasks : ℕ) → ((line : ℕ) → AtMost line tasks (at line)) → (n line least place : ℕ) → least ≤ line → line + n ≤ 64
    → lines_from Second least tasks place (map line_record (flat_map at (range_with_len line n))) ≡ None
lines_none at tasks most zero line least place low high = refl
lines_none at tasks most (suc n) line least place low high =
    step (most line) (lines_none at tasks most n (line + 1) least place (omega (arith, low)) (omega (arith, high)))
    (lines_none at tasks most n (line + 1) (line + 1) (place + 8) (omega arith) (omega (arith, high)))
  where
    rest : List ImageLine
    rest = flat_map at (range_with_len (line + 1) n)

    step : AtMost line tasks (at line) → lines_from Second least tasks place (map line_record rest) ≡ None → lines_from Second (line + 1) tasks (place + 8) (map line_record rest) ≡ None
        → lines_from Second least tasks place (map line_record (at line ++ rest)) ≡ None
    step (inl none) skipped next = subst (λ (ls : List ImageLine). lines_from Second least tasks place (map line_record (ls ++ rest)) ≡ None) (sym none) skipped
    step (inr (l, is, g)) skipped next =
        subst (λ (ls : List ImageLine). lines_from Second least tasks place (map line_record (ls ++ rest)) ≡ None) (sym is)
        (both (line_fault Second least tasks (line_record l) place) (lines_from Second (l.line + 1) tasks (place + 8) (map line_record rest))
        (line_none least tasks line l place low (omega (arith, high)) g)
        (subst (λ (k : ℕ). lines_from Second (k + 1) tasks (place + 8) (map line_record rest) ≡ None) (sym g.is) next))

pub few_lines : (at : ℕ → List ImageLine) (tasks : ℕ) → ((line : ℕ) → AtMost line tasks (at line)) → (n line : ℕ) → length (flat_map at (range_with_len line n)) ≤ n
few_lines at tasks most zero line = omega arith
few_lines at tasks most (suc n) line = omega (arith, length-append (at line) (flat_map at (range_with_len (line + 1) n)), one (at line) (most line), few_lines at tasks most n (line + 1))
  where
    one : (ls : List ImageLine) → AtMost line tasks ls → length ls ≤ 1
    one ls (inl none) = omega (arith, ap length none)
    one ls (inr (l, is, g)) = omega (arith, ap length is)

pub at_most : (app : AppData) → IsAccepted app → Relations app → (line : ℕ) → AtMost line (length app.tasks) (lines_at app line)
at_most app a r line =
    one_line app a line app.interrupts (pairs_from (λ i j. i.line ≢ j.line) no_interrupt app.interrupts r.devices.lines)
    (owned_all app a)
