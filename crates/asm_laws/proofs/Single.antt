-- No source has two assemblies.
use Rattle.std.proofs.Common.{◌≡◌, ℕ, ◌+◌, List, [], ◌∷◌, ◌++◌, length, refl, ap, ◌∙◌, sym, subst, Bool, true, false, if◌then◌else◌, Option, Some, None}
use Rattle.std.specs.Prelude.{is_some, bytes_eq}
use Rattle.thumb_asm.specs.Chars.{entry_at}
use Rattle.thumb_asm.specs.Operands.{or_else}
use Rattle.thumb_asm.specs.Parts.{parts}
use Rattle.thumb_asm.specs.Sizes.{statement_of}
use Rattle.thumb_asm.specs.Meaning.{Env, Names, env_of, own_label, Lays}
use Rattle.thumb_asm.specs.Assembly.{Assembles}
use Rattle.asm_laws.proofs.Steady.{steady_statement}
use Rattle.asm_laws.proofs.Lengths.{Alike, same_length, spells_one}

-- Both assemblies have labels at the same lines.

alike_head : (b : Bool) (at at' : ℕ) (o p : Option ℕ) → is_some o ≡ is_some p → is_some (if b then Some at else o) ≡ is_some (if b then Some at' else p)
alike_head true at at' o p h = refl
alike_head false at at' o p h = h

pub alike_label : (label : Option (List ℕ)) (at at' : ℕ) (more more' : Names) → Alike (entry_at more) (entry_at more') → Alike (entry_at (own_label at label ++ more)) (entry_at (own_label at' label ++ more'))
unfolding entry_at
alike_label None at at' more more' h name = h name
alike_label (Some label) at at' more more' h name = alike_head (bytes_eq name label) at at' (entry_at more name) (entry_at more' name) (h name)

pub same_entries : (names names' : Names) → names ≡ names' → Alike (entry_at names) (entry_at names')
same_entries names names' e name = ap (λ ns. is_some (entry_at ns name)) e

alike_names : (lines : List (List ℕ)) (env env' : Env) (at at' : ℕ) (bytes bytes' : List ℕ) (names names' : Names) → Lays env at lines bytes names → Lays env' at' lines bytes' names' → Alike (entry_at names) (entry_at names')
unfolding Lays
alike_names [] env env' at at' bytes bytes' names names' a b = same_entries names names' (a.1 ∙ sym b.1)
alike_names (l ∷ ls) env env' at at' bytes bytes' names names' a b = λ name.
    ap (λ ns. is_some (entry_at ns name)) a.4
    ∙ alike_label (parts l).label at at' a.2 b.2 (alike_names ls env env' (at + length a.0) (at' + length b.0) a.1 b.1 a.2 b.2 a.6 b.6) name
    ∙ sym (ap (λ ns. is_some (entry_at ns name)) b.4)

alike_given : (o p given : Option ℕ) → is_some o ≡ is_some p → is_some (or_else o given) ≡ is_some (or_else p given)
alike_given None None given h = refl
alike_given None (Some n) given h = cc
alike_given (Some m) None given h = cc
alike_given (Some m) (Some n) given h = refl

pub alike_env : (given labels labels' : Env) → Alike labels labels' → Alike (env_of labels given) (env_of labels' given)
alike_env given labels labels' h name = alike_given (labels name) (labels' name) (given name) (h name)

-- So the lines are equally long, and the labels have the same addresses.

same_labels : (at : ℕ) (label : Option (List ℕ)) (names names' more more' : Names) → names ≡ own_label at label ++ more → names' ≡ own_label at label ++ more' → more ≡ more' → names ≡ names'
same_labels at label names names' more more' p q e = p ∙ ap (λ ns. own_label at label ++ ns) e ∙ sym q

same_names : (lines : List (List ℕ)) (env env' : Env) (at : ℕ) (bytes bytes' : List ℕ) (names names' : Names) → Alike env env' → Lays env at lines bytes names → Lays env' at lines bytes' names' → names ≡ names'
unfolding Lays
same_names [] env env' at bytes bytes' names names' h a b = a.1 ∙ sym b.1
same_names (l ∷ ls) env env' at bytes bytes' names names' h a b =
    let z = same_length env env' at (statement_of (parts l).statement) a.0 b.0 h (steady_statement (parts l).statement) a.5 b.5 in
    let b' : Lays env' (at + length a.0) ls b.1 b.2 = subst (λ n. Lays env' (at + n) ls b.1 b.2) (sym z) b.6 in
    same_labels at (parts l).label names names' a.2 b.2 a.4 b.4 (same_names ls env env' (at + length a.0) a.1 b.1 a.2 b.2 h a.6 b')

-- So names have the same values, and each line has the same bytes.

same_bytes : (lines : List (List ℕ)) (env : Env) (at : ℕ) (bytes bytes' : List ℕ) (names names' : Names) → Lays env at lines bytes names → Lays env at lines bytes' names' → bytes ≡ bytes'
unfolding Lays
same_bytes [] env at bytes bytes' names names' a b = a.0 ∙ sym b.0
same_bytes (l ∷ ls) env at bytes bytes' names names' a b =
    let e = spells_one env at (statement_of (parts l).statement) a.0 b.0 a.5 b.5 in
    let b' : Lays env (at + length a.0) ls b.1 b.2 = subst (λ o. Lays env (at + length o) ls b.1 b.2) (sym e) b.6 in
    a.3 ∙ ap (λ o. o ++ a.1) e ∙ ap (λ r. b.0 ++ r) (same_bytes ls env (at + length a.0) a.1 b.1 a.2 b.2 a.6 b') ∙ sym b.3

laid_names : (lines : List (List ℕ)) (base : ℕ) (given : Env) (bytes bytes' : List ℕ) (labels labels' : Env) (a : Assembles lines base given bytes labels) (b : Assembles lines base given bytes' labels') → a.names ≡ b.names
laid_names lines base given bytes bytes' labels labels' a b =
    let env = env_of (entry_at a.names) given in
    let env' = env_of (entry_at b.names) given in
    same_names lines env env' base bytes bytes' a.names b.names (alike_env given (entry_at a.names) (entry_at b.names) (alike_names lines env env' base base bytes bytes' a.names b.names a.laid b.laid)) a.laid b.laid

pub one_bytes : (lines : List (List ℕ)) (base : ℕ) (given : Env) (bytes bytes' : List ℕ) (labels labels' : Env) → Assembles lines base given bytes labels → Assembles lines base given bytes' labels' → bytes ≡ bytes'
one_bytes lines base given bytes bytes' labels labels' a b =
    let e = laid_names lines base given bytes bytes' labels labels' a b in
    same_bytes lines (env_of (entry_at a.names) given) base bytes bytes' a.names b.names a.laid (subst (λ ns. Lays (env_of (entry_at ns) given) base lines bytes' b.names) (sym e) b.laid)

pub one_labels : (lines : List (List ℕ)) (base : ℕ) (given : Env) (bytes bytes' : List ℕ) (labels labels' : Env) → Assembles lines base given bytes labels → Assembles lines base given bytes' labels' → (name : List ℕ) → labels name ≡ labels' name
one_labels lines base given bytes bytes' labels labels' a b name = a.labelled name ∙ ap (λ ns. entry_at ns name) (laid_names lines base given bytes bytes' labels labels' a b) ∙ sym (b.labelled name)
