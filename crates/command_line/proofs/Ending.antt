-- What the matches of one level have if the level is not refused: each required argument, and each with a
-- default, has a value that its parser accepted.
use Rattle.std.proofs.Common.{◌≡◌, ◌∙◌, ◌<◌, ◌&&◌, ◌||◌, ap, refl, cond, Bool, true, false, not, List, [], ◌∷◌, ◌++◌, length, Option, Some, None, arith}
use Rattle.std.specs.Prelude.{IfSome}
use Rattle.std.specs.List.{find, fold, list_any}
use Rattle.std.specs.Option.{option_map_or}
use Rattle.std.specs.Str.{bytes_eq}
use Rattle.std.proofs.lemmas.Slice.Eq.{bytes_eq-Decides}
use Rattle.clap.specs.Facts.{explicit_source, parser_of_value}
use Rattle.clap.specs.Values.{read_as}
use Rattle.clap.specs.Walk.{Held, Names, Row, Rule, Text, arg_by_id, at_row, default_rows, finished, first_of, has_row, more_values, nothing_held, one_of, reading_by, settled, walk, walk_from, with_default}
use Rattle.clap.specs.Simple.{Shape}
use Rattle.clap.specs.Takes.{is_given}
use Rattle.clap.specs.Kinds.{Kinds, check_kinds, or_else, value_kinds}
use Rattle.clap.specs.Faults.{check_fault, defaults_fault, level_fault, settle_fault, values_fault, walk_fault}
use Rattle.clap.specs.declared.parser.matches.ValueSource.{ValueSource}
use Rattle.clap.specs.declared.parser.matches.ValueSource.TheVariants as source
use Rattle.command_line.proofs.Rows.{Each, Given, Good, Sure, defaults_good, find_has, given_of, neither, settle_good}
use Rattle.command_line.proofs.Walking.{asks_for_help, walk_good}

-- ---- the last checks

checked : (help command argument : Bool) → check_kinds help command argument ≡ [] → (command ≡ false) × (argument ≡ false)
checked true command argument e = cc
checked false true argument e = cc
checked false false true e = cc
checked false false false e = (refl, refl)

none_passes : {X : Type 0} (p : X → Bool) (xs : List X) → list_any p xs ≡ false → Each (λ x. p x ≡ false) xs
none_passes p [] e = tt
none_passes p (x ∷ xs) e = go (p x) refl e (none_passes p xs)
  where
    go : (b : Bool) → p x ≡ b → (b || list_any p xs) ≡ false → (list_any p xs ≡ false → Each (λ y. p y ≡ false) xs) → (p x ≡ false) × Each (λ y. p y ≡ false) xs
    go true is e more = cc
    go false is e more = (is, more e)

needed : (required given : Bool) → (required && not given) ≡ false → required ≡ true → given ≡ true
needed true true e t = refl
needed true false e t = cc
needed false given e t = cc

each_needed : (rows : List Row) (rs : List Rule) → Each (λ a. (a.required && not (is_given a.id rows)) ≡ false) rs → Each (λ a. a.required ≡ true → is_given a.id rows ≡ true) rs
each_needed rows [] h = tt
each_needed rows (a ∷ rs) h = (needed a.required (is_given a.id rows) h.0, each_needed rows rs h.1)

-- ---- defaults

-- the rows with one more value for an id have a row for it, and those that they had
kept_row : (id x : Text) (s : ValueSource) (vs : List Text) (missing rows : List Row) → has_row x rows ≡ true → has_row x (at_row id (more_values s vs) missing rows) ≡ true
kept_row id x s vs missing [] e = cc
kept_row id x s vs missing (r ∷ rs) e = go (bytes_eq r.id id) (bytes_eq r.id x) refl e (kept_row id x s vs missing rs)
  where
    go : (b k : Bool) → bytes_eq r.id x ≡ k → (k || has_row x rs) ≡ true → (has_row x rs ≡ true → has_row x (at_row id (more_values s vs) missing rs) ≡ true)
        → has_row x (cond b (more_values s vs r ++ rs) (r ∷ at_row id (more_values s vs) missing rs)) ≡ true
    go true k is e more = ap (λ q. q || has_row x rs) is ∙ e
    go false true is e more = ap (λ q. q || has_row x (at_row id (more_values s vs) missing rs)) is
    go false false is e more = ap (λ q. q || has_row x (at_row id (more_values s vs) missing rs)) is ∙ more e

new_row : (id : Text) (s : ValueSource) (vs : List Text) (m : Row) (rows : List Row) → bytes_eq m.id id ≡ true → has_row id (at_row id (more_values s vs) (m ∷ []) rows) ≡ true
new_row id s vs m [] same = ap (λ q. q || false) same
new_row id s vs m (r ∷ rs) same = go (bytes_eq r.id id) refl (new_row id s vs m rs same)
  where
    go : (b : Bool) → bytes_eq r.id id ≡ b → has_row id (at_row id (more_values s vs) (m ∷ []) rs) ≡ true
        → has_row id (cond b (more_values s vs r ++ rs) (r ∷ at_row id (more_values s vs) (m ∷ []) rs)) ≡ true
    go true is more = ap (λ q. q || has_row id rs) is
    go false is more = ap (λ q. q || has_row id (at_row id (more_values s vs) (m ∷ []) rs)) is ∙ more

default_keeps : (x : Text) (rows : List Row) (a : Rule) → has_row x rows ≡ true → has_row x (with_default rows a) ≡ true
default_keeps x rows a e = go (has_row a.id rows) a.defaults
  where
    go : (b : Bool) (vs : List Text) → has_row x (cond b rows (default_rows a.id (reading_by a) vs rows)) ≡ true
    go true vs = e
    go false [] = e
    go false (v ∷ vs) = kept_row a.id x source.DefaultValue (v ∷ vs) _ rows e

default_row : (rows : List Row) (a : Rule) → 0 < length a.defaults → has_row a.id (with_default rows a) ≡ true
default_row rows a some = go (has_row a.id rows) refl a.defaults some
  where
    go : (b : Bool) → has_row a.id rows ≡ b → (vs : List Text) → 0 < length vs → has_row a.id (cond b rows (default_rows a.id (reading_by a) vs rows)) ≡ true
    go true is vs some = is
    go false is [] some = absurd (omega arith)
    go false is (v ∷ vs) some = new_row a.id source.DefaultValue (v ∷ vs) _ rows ((bytes_eq-Decides a.id a.id).1 refl)

defaults_keep : (x : Text) (rows : List Row) (rs : List Rule) → has_row x rows ≡ true → has_row x (fold with_default rows rs) ≡ true
defaults_keep x rows [] e = e
defaults_keep x rows (a ∷ rs) e = defaults_keep x (with_default rows a) rs (default_keeps x rows a e)

each_default : (rows : List Row) (rs : List Rule) → Each (λ a. 0 < length a.defaults → has_row a.id (fold with_default rows rs) ≡ true) rs
each_default rows [] = tt
each_default rows (a ∷ rs) = (λ some. defaults_keep a.id (with_default rows a) rs (default_row rows a some), each_default (with_default rows a) rs)

-- ---- one level

pub record Done (s : Shape) (rows : List Row) : Type 0 where
  pub good : Each (Good s.rules) rows
  pub given : Each (λ a. a.required ≡ true → is_given a.id rows ≡ true) s.rules
  pub filled : Each (λ a. 0 < length a.defaults → has_row a.id rows ≡ true) s.rules

module _ (s : Shape) (names : Names) (Q : Text → Type 0) (sure : Each (Sure s.rules) s.rules)
    (own : Each (λ n. asks_for_help s n.0 ≡ false → Q n.0) names) (words : List Text) (has : Bool) (below : Kinds)
    (passed : level_fault s names nothing_held words has below ≡ []) where
  abbrev end : Held
  end = (walk s.rules names nothing_held words).held

  abbrev checks : Kinds
  checks = check_fault s (finished s.rules end) has

  abbrev fills : Kinds
  fills = defaults_fault (settled s.rules end).rows s.rules

  abbrev settles : Kinds
  settles = settle_fault s.rules s.args_override_self end

  steps : (walk_fault s names (walk_from nothing_held) words ≡ []) × (below ≡ []) × (settles ≡ []) × (fills ≡ []) × (checks ≡ [])
  steps =
      let walks = neither (walk_fault s names (walk_from nothing_held) words) (or_else below (or_else settles (or_else fills checks))) passed in
      let lower = neither below (or_else settles (or_else fills checks)) walks.1 in
      let settled = neither settles (or_else fills checks) lower.1 in
      let filled = neither fills checks settled.1 in
      (walks.0, lower.0, settled.0, filled.0, filled.1)

  walks_well : Each (Good s.rules) end.rows × IfSome (walk s.rules names nothing_held words).stopped (λ p. Q p.0)
  walks_well = walk_good s names Q sure own (walk_from nothing_held) words steps.0 (tt, tt)

  last : ((not has && s.subcommand_required) ≡ false)
      × ((not (s.subcommand_negates_reqs && has) && list_any (λ a. a.required && not (is_given a.id (finished s.rules end))) s.rules) ≡ false)
  last = checked _ _ _ steps.4

  -- the walk stopped at no subcommand, or at one with Q
  pub stops : IfSome (walk s.rules names nothing_held words).stopped (λ p. Q p.0)
  stops = walks_well.1

  pub below_passes : below ≡ []
  below_passes = steps.1

  pub wants : s.subcommand_required ≡ true → has ≡ true
  wants e = go has (rw e at last.0)
    where
      go : (b : Bool) → (not b && true) ≡ false → b ≡ true
      go true e = refl
      go false e = cc

  pub ends : s.subcommand_negates_reqs ≡ false → Done s (finished s.rules end)
  ends e =
      let none = rw e at last.1 in
      record {
        good = defaults_good s.rules (settled s.rules end).rows s.rules sure steps.3 (settle_good s.rules s.args_override_self end sure steps.2 walks_well.0);
        given = each_needed (finished s.rules end) s.rules (none_passes _ s.rules none);
        filled = each_default (settled s.rules end).rows s.rules;
      }

-- ---- one argument

-- the value that the rows have for the argument
pub record Has (a : Rule) (rows : List Row) : Type 0 where
  pub text : Text
  pub first : first_of a.id rows ≡ Some text
  pub one : one_of a.id rows ≡ Some (read_as (reading_by a) text)
  pub pass : value_kinds a.ignore_case (parser_of_value a.parser) text ≡ []

in_row : (a : Rule) (rows : List Row) (r : Row) → find (λ x. bytes_eq x.id a.id) rows ≡ Some r → Given a r → Has a rows
in_row a rows r is had = go r.values refl had.some had.pass
  where
    go : (vs : List Text) → r.values ≡ vs → 0 < length vs → values_fault a vs ≡ [] → Has a rows
    go [] e some pass = absurd (omega arith)
    go (v ∷ vs) e some pass = record {
      text = v;
      first = rw (is, e) refl;
      one = rw (is, e, had.reading) refl;
      pass = (neither (value_kinds a.ignore_case (parser_of_value a.parser) v) _ pass).0;
    }

found : (c : List Rule) (a : Rule) (rows : List Row) (r : Row) → Each (Good c) rows → arg_by_id c a.id ≡ Some a → find (λ x. bytes_eq x.id a.id) rows ≡ Some r → Has a rows
found c a rows r good known is =
    let has = find_has (Good c) (λ x. bytes_eq x.id a.id) rows r is good in
    in_row a rows r is (given_of c a r (ap (arg_by_id c) ((bytes_eq-Decides r.id a.id).0 has.1) ∙ known) has.0)

pub has_given : (c : List Rule) (a : Rule) (rows : List Row) → Each (Good c) rows → arg_by_id c a.id ≡ Some a → is_given a.id rows ≡ true → Has a rows
has_given c a rows good known e = go (find (λ x. bytes_eq x.id a.id) rows) refl e
  where
    go : (o : Option Row) → find (λ x. bytes_eq x.id a.id) rows ≡ o → option_map_or (λ r. explicit_source r.source) o false ≡ true → Has a rows
    go None is e = cc
    go (Some r) is e = found c a rows r good known is

some_row : (id : Text) (rows : List Row) → has_row id rows ≡ true → (find (λ x. bytes_eq x.id id) rows ≡ None) → ⊥
some_row id [] e none = cc
some_row id (r ∷ rs) e none = go (bytes_eq r.id id) e none (some_row id rs)
  where
    go : (b : Bool) → (b || has_row id rs) ≡ true → cond b (Some r) (find (λ x. bytes_eq x.id id) rs) ≡ None
        → (has_row id rs ≡ true → find (λ x. bytes_eq x.id id) rs ≡ None → ⊥) → ⊥
    go true e none more = cc
    go false e none more = more e none

pub has_default : (c : List Rule) (a : Rule) (rows : List Row) → Each (Good c) rows → arg_by_id c a.id ≡ Some a → has_row a.id rows ≡ true → Has a rows
has_default c a rows good known e = go (find (λ x. bytes_eq x.id a.id) rows) refl
  where
    go : (o : Option Row) → find (λ x. bytes_eq x.id a.id) rows ≡ o → Has a rows
    go None is = absurd (some_row a.id rows e is)
    go (Some r) is = found c a rows r good known is
