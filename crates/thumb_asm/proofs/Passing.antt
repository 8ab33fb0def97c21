-- The passes, line by line.
use Rattle.std.proofs.Common.{◌≡◌, ℕ, ◌+◌, ◌≤◌, List, [], ◌∷◌, ◌++◌, length, refl, ap, ◌∙◌, sym, arith, subst, add_assoc, add-zero, zero-add, append_assoc, length-append, Some, None, Result, Ok, Err, OnOk, IfErr}
use Rattle.std.proofs.lemmas.List.{append-nil}
use Rattle.thumb_asm.specs.declared.Cause.{Cause}
use Rattle.thumb_asm.specs.Chars.{entry_at}
use Rattle.thumb_asm.specs.Parts.{parts}
use Rattle.thumb_asm.specs.Sizes.{statement_of}
use Rattle.thumb_asm.specs.Meaning.{Names, Env, own_label, Lays, Spells}
use Rattle.thumb_asm.specs.declared.Stop.{Stop}
use Rattle.thumb_asm.specs.Syntax.{Shape}
use Rattle.thumb_asm.specs.Outputs.{Gave}
use Rattle.thumb_asm.specs.Causes.{size_by, shape_cause, first_group, second_group, line_size, first_in, second_in, labels_from, at_line}
use Rattle.thumb_asm.specs.Passes.{size_from, Emitted, Stops}

-- the first pass so far, and the rest of it
pub record Surveyed (given : Env) (base : ℕ) (lines rest : List (List ℕ)) (labels : Names) (used number : ℕ) : Type 0 where
  pub firsts : first_in given base [] 0 1 lines ≡ first_in given base labels used (number + 1) rest
  pub places : labels_from base lines ≡ labels ++ labels_from (base + used) rest
  pub sizes : size_from base lines ≡ used + size_from (base + used) rest
  pub within : used ≤ 1048576

first_next : (given : Env) (base : ℕ) (earlier : Names) (used k : ℕ) (l : List ℕ) (ls : List (List ℕ)) → first_group given base (entry_at earlier) used l ≡ None → first_in given base earlier used k (l ∷ ls) ≡ first_in given base (earlier ++ own_label (base + used) (parts l).label) (used + line_size (base + used) l) (k + 1) ls
unfolding first_in
first_next given base earlier used k l ls h = rw h refl

first_here : (given : Env) (base : ℕ) (earlier : Names) (used k : ℕ) (l : List ℕ) (ls : List (List ℕ)) (c : Cause) → first_group given base (entry_at earlier) used l ≡ Some c → first_in given base earlier used k (l ∷ ls) ≡ Some (c, k)
unfolding first_in
first_here given base earlier used k l ls c h = rw h refl

first_none : (given : Env) (base : ℕ) (earlier : Names) (used k : ℕ) → first_in given base earlier used k [] ≡ None
unfolding first_in
first_none given base earlier used k = refl

pub labels_next : (at : ℕ) (l : List ℕ) (ls : List (List ℕ)) → labels_from at (l ∷ ls) ≡ own_label at (parts l).label ++ labels_from (at + line_size at l) ls
unfolding labels_from
labels_next at l ls = refl

pub labels_none : (at : ℕ) → labels_from at [] ≡ []
unfolding labels_from
labels_none at = refl

size_next : (at : ℕ) (l : List ℕ) (ls : List (List ℕ)) → size_from at (l ∷ ls) ≡ line_size at l + size_from (at + line_size at l) ls
unfolding size_from
size_next at l ls = refl

size_none : (at : ℕ) → size_from at [] ≡ 0
unfolding size_from
size_none at = refl

pub survey_start : (given : Env) (base : ℕ) (lines rest : List (List ℕ)) → rest ≡ lines → Surveyed given base lines rest [] 0 0
survey_start given base lines rest e = record {
  firsts = ap (first_in given base [] 0 1) (sym e);
  places = ap (labels_from base) (sym e) ∙ ap (λ n. labels_from n rest) (sym (add-zero base));
  sizes = ap (size_from base) (sym e) ∙ ap (λ n. size_from n rest) (sym (add-zero base)) ∙ sym (zero-add _);
  within = omega arith;
}

pub survey_step : (given : Env) (base : ℕ) (lines rest more : List (List ℕ)) (labels labels' : Names) (used size number : ℕ) (l : List ℕ) → rest ≡ l ∷ more → first_group given base (entry_at labels) used l ≡ None → size ≡ line_size (base + used) l → labels' ≡ labels ++ own_label (base + used) (parts l).label → used + size ≤ 1048576 → Surveyed given base lines rest labels used number → Surveyed given base lines more labels' (used + size) (number + 1)
survey_step given base lines rest more labels labels' used size number l e h z q w s =
    let at : (base + used) + line_size (base + used) l ≡ base + (used + size) = ap (λ n. base + used + n) (sym z) ∙ add_assoc base used size in
    record {
      firsts = s.firsts ∙ ap (first_in given base labels used (number + 1)) e ∙ first_next given base labels used (number + 1) l more h ∙ ap (λ n. first_in given base n (used + line_size (base + used) l) (number + 1 + 1) more) (sym q) ∙ ap (λ n. first_in given base labels' (used + n) (number + 1 + 1) more) (sym z);
      places = s.places ∙ ap (λ t. labels ++ labels_from (base + used) t) e ∙ ap (λ t. labels ++ t) (labels_next (base + used) l more) ∙ sym (append_assoc labels _ _) ∙ ap (λ t. t ++ labels_from (base + used + line_size (base + used) l) more) (sym q) ∙ ap (λ n. labels' ++ labels_from n more) at;
      sizes = s.sizes ∙ ap (λ t. used + size_from (base + used) t) e ∙ ap (λ t. used + t) (size_next (base + used) l more) ∙ sym (add_assoc used _ _) ∙ ap (λ n. used + n + size_from (base + used + line_size (base + used) l) more) (sym z) ∙ ap (λ n. used + size + size_from n more) at;
      within = w;
    }

pub survey_fails : (given : Env) (base : ℕ) (lines rest more : List (List ℕ)) (labels : Names) (used number : ℕ) (l : List ℕ) (c : Cause) → rest ≡ l ∷ more → first_group given base (entry_at labels) used l ≡ Some c → Surveyed given base lines rest labels used number → first_in given base [] 0 1 lines ≡ Some (c, number + 1)
survey_fails given base lines rest more labels used number l c e h s = s.firsts ∙ ap (first_in given base labels used (number + 1)) e ∙ first_here given base labels used (number + 1) l more c h

pub survey_ends : (given : Env) (base : ℕ) (lines rest : List (List ℕ)) (labels : Names) (used number : ℕ) → rest ≡ [] → Surveyed given base lines rest labels used number → (first_in given base [] 0 1 lines ≡ None) × (labels ≡ labels_from base lines) × (used ≡ size_from base lines) × (used ≤ 1048576)
survey_ends given base lines rest labels used number e s = (
  s.firsts ∙ ap (first_in given base labels used (number + 1)) e ∙ first_none given base labels used (number + 1),
  sym (s.places ∙ ap (λ t. labels ++ labels_from (base + used) t) e ∙ ap (λ t. labels ++ t) (labels_none (base + used)) ∙ append-nil labels),
  sym (s.sizes ∙ ap (λ t. used + size_from (base + used) t) e ∙ ap (λ t. used + t) (size_none (base + used)) ∙ add-zero used),
  s.within,
)

-- the second pass so far, and the rest of it
pub record Emitting (env : Env) (base : ℕ) (lines rest : List (List ℕ)) (out : List ℕ) (number : ℕ) : Type 0 where
  pub seconds : second_in env base 1 lines ≡ second_in env (base + length out) (number + 1) rest
  pub lays : (bytes : List ℕ) → Lays env (base + length out) rest bytes (labels_from (base + length out) rest) → Lays env base lines (out ++ bytes) (labels_from base lines)
  pub sizes : size_from base lines ≡ length out + size_from (base + length out) rest

second_next : (env : Env) (at k : ℕ) (l : List ℕ) (ls : List (List ℕ)) → second_group env at (statement_of (parts l).statement) ≡ None → second_in env at k (l ∷ ls) ≡ second_in env (at + line_size at l) (k + 1) ls
unfolding second_in
second_next env at k l ls h = rw h refl

second_none : (env : Env) (at k : ℕ) → second_in env at k [] ≡ None
unfolding second_in
second_none env at k = refl

lays_next : (env : Env) (at : ℕ) (l : List ℕ) (ls : List (List ℕ)) (own bytes : List ℕ) → length own ≡ line_size at l → Spells env at (statement_of (parts l).statement) own → Lays env (at + length own) ls bytes (labels_from (at + length own) ls) → Lays env at (l ∷ ls) (own ++ bytes) (labels_from at (l ∷ ls))
unfolding Lays labels_from
lays_next env at l ls own bytes z s h = (own, bytes, labels_from (at + line_size at l) ls, refl, refl, s, subst (λ n. Lays env (at + length own) ls bytes (labels_from (at + n) ls)) z h)

lays_none : (env : Env) (at : ℕ) → Lays env at [] [] (labels_from at [])
unfolding Lays labels_from
lays_none env at = (refl, refl)

pub emit_start : (env : Env) (base : ℕ) (lines rest : List (List ℕ)) → rest ≡ lines → Emitting env base lines rest [] 0
emit_start env base lines rest e = record {
  seconds = ap (second_in env base 1) (sym e) ∙ ap (λ n. second_in env n 1 rest) (sym (add-zero base));
  lays = λ bytes h. subst (λ t. Lays env base t bytes (labels_from base t)) e (subst (λ n. Lays env n rest bytes (labels_from n rest)) (add-zero base) h);
  sizes = ap (size_from base) (sym e) ∙ ap (λ n. size_from n rest) (sym (add-zero base)) ∙ sym (zero-add _);
}

pub emit_step : (env : Env) (base : ℕ) (lines rest more : List (List ℕ)) (out out' : List ℕ) (number : ℕ) (l : List ℕ) → rest ≡ l ∷ more → Emitted env (base + length out) l out out' → Emitting env base lines rest out number → Emitting env base lines more out' (number + 1)
emit_step env base lines rest more out out' number l e m s =
    let at = base + length out in
    let long : length out' ≡ length out + length m.own = ap length m.bytes ∙ length-append out m.own in
    let next : at + length m.own ≡ base + length out' = add_assoc base (length out) (length m.own) ∙ ap (λ n. base + n) (sym long) in
    record {
      seconds = s.seconds ∙ ap (second_in env at (number + 1)) e ∙ second_next env at (number + 1) l more m.accepted ∙ ap (λ n. second_in env (at + n) (number + 1 + 1) more) (sym m.size) ∙ ap (λ n. second_in env n (number + 1 + 1) more) next;
      lays = λ bytes h.
          subst (λ t. Lays env base lines t (labels_from base lines)) (sym (append_assoc out m.own bytes) ∙ ap (λ t. t ++ bytes) (sym m.bytes))
          (s.lays (m.own ++ bytes) (subst (λ t. Lays env at t (m.own ++ bytes) (labels_from at t)) (sym e) (lays_next env at l more m.own bytes m.size m.spells (subst (λ n. Lays env n more bytes (labels_from n more)) (sym next) h))));
      sizes = s.sizes ∙ ap (λ t. length out + size_from at t) e ∙ ap (λ t. length out + t) (size_next at l more) ∙ sym (add_assoc (length out) _ _) ∙ ap (λ n. length out + n + size_from (at + n) more) (sym m.size) ∙ ap (λ n. n + size_from (at + length m.own) more) (sym long) ∙ ap (λ n. length out' + size_from n more) next;
    }

pub emit_ends : (env : Env) (base : ℕ) (lines rest : List (List ℕ)) (out : List ℕ) (number : ℕ) → rest ≡ [] → Emitting env base lines rest out number → (second_in env base 1 lines ≡ None) × Lays env base lines out (labels_from base lines)
emit_ends env base lines rest out number e s =
    let at = base + length out in (
      s.seconds ∙ ap (second_in env at (number + 1)) e ∙ second_none env at (number + 1),
      subst (λ t. Lays env base lines t (labels_from base lines)) (append-nil out) (s.lays [] (subst (λ t. Lays env at t [] (labels_from at t)) (sym e) (lays_none env at))),
    )

pub emitted_by : (env : Env) (at : ℕ) (line old new : List ℕ) (s : Shape) (r : Result (Unit {0}) Stop) → statement_of (parts line).statement ≡ Ok (Some s) → OnOk r (Gave env at s old new) → OnOk r (Emitted env at line old new)
unfolding line_size
emitted_by env at line old new s (Ok u) e g = record {
  own = g.own;
  bytes = g.bytes;
  size = g.size ∙ ap (size_by at) (sym e);
  spells = subst (λ t. Spells env at t g.own) (sym e) g.means;
  accepted = ap (second_group env at) e ∙ g.accepted;
}
emitted_by env at line old new s (Err f) e g = tt

pub refused_by : (env : Env) (at : ℕ) (line : List ℕ) (s : Shape) (r : Result (Unit {0}) Stop) → statement_of (parts line).statement ≡ Ok (Some s) → IfErr r (λ e. Stops e (shape_cause env at s)) → IfErr r (λ e. Stops e (second_group env at (statement_of (parts line).statement)))
refused_by env at line s (Ok u) e g = tt
refused_by env at line s (Err f) e g = subst (λ t. Stops f (second_group env at t)) (sym e) g

-- a line with no statement
pub emitted_none : (env : Env) (at : ℕ) (line old : List ℕ) → statement_of (parts line).statement ≡ Ok None → Emitted env at line old old
unfolding line_size
emitted_none env at line old e = record {
  own = [];
  bytes = sym (append-nil old);
  size = ap (size_by at) (sym e);
  spells = subst (λ t. Spells env at t []) (sym e) refl;
  accepted = ap (second_group env at) e;
}

pub emitted_err : (env : Env) (at : ℕ) (line old : List ℕ) (c : Cause) → statement_of (parts line).statement ≡ Err c → Emitted env at line old old
unfolding line_size
emitted_err env at line old c e = record {
  own = [];
  bytes = sym (append-nil old);
  size = ap (size_by at) (sym e);
  spells = subst (λ t. Spells env at t []) (sym e) refl;
  accepted = ap (second_group env at) e;
}

pub emit_stops : (env : Env) (base : ℕ) (lines rest more : List (List ℕ)) (out : List ℕ) (number : ℕ) (l : List ℕ) → rest ≡ l ∷ more → Emitting env base lines rest out number → second_in env base 1 lines ≡ at_line (number + 1) (second_group env (base + length out) (statement_of (parts l).statement)) (second_in env (base + length out + line_size (base + length out) l) (number + 1 + 1) more)
unfolding second_in
emit_stops env base lines rest more out number l e s = s.seconds ∙ ap (second_in env (base + length out) (number + 1)) e
