-- What holds of the rows of matches at a command of which each use leaves values: each row has
-- values, which the parser of its argument took.
use Rattle.std.proofs.Common.{◌≡◌, ◌∙◌, ◌<◌, ◌||◌, ap, sym, subst, refl, cond, ℕ, zero, suc, Bool, true, false, not, List, [], ◌∷◌, ◌++◌, length, Option, Some, None, arith, nat_lt}
use Rattle.std.specs.Bool.{⊤}
use Rattle.std.specs.List.{find, fold}
use Rattle.std.specs.Option.{option_map_or, unwrap_or}
use Rattle.std.specs.Str.{bytes_eq}
use Rattle.std.proofs.lemmas.Slice.Eq.{bytes_eq-Decides}
use Rattle.std.proofs.lemmas.Bool.{ne_eqb}
use Rattle.std.proofs.lemmas.List.{length-append}
use Rattle.clap.specs.Facts.{parser_of_value, unwrap_or_range}
use Rattle.clap.specs.Walk.{Held, Row, Rule, Text, action_of, arg_by_id, at_row, default_rows, has_row, is_empty, more_values, most_values, reacted, reading_by, settled, settled_rows, used, used_as, used_by_id, values_or_missing, with_default, with_values, without}
use Rattle.clap.specs.Kinds.{Kinds, or_else, range_kinds, request_kinds, value_kinds, values_kinds}
use Rattle.clap.specs.Faults.{action_fault, default_fault, defaults_fault, given_default_fault, react_fault, repeat_fault, settle_fault, use_fault, values_fault}
use Rattle.clap.specs.declared.builder.action.ArgAction.{ArgAction}
use Rattle.clap.specs.declared.builder.action.ArgAction.TheVariants as action
use Rattle.clap.specs.declared.builder.value_parser.ValueParser.{ValueParser}
use Rattle.clap.specs.declared.parser.matches.ValueSource.{ValueSource}
use Rattle.clap.specs.declared.parser.matches.ValueSource.TheVariants as source

-- ---- lists

-- each element has P
abbrev pub Each : {X : Type 0} → (X → Type 0) → List X → Type 0
Each P [] = ⊤
Each P (x ∷ xs) = P x × Each P xs

each_append : {X : Type 0} (P : X → Type 0) (xs ys : List X) → Each P xs → Each P ys → Each P (xs ++ ys)
each_append P [] ys h k = k
each_append P (x ∷ xs) ys h k = (h.0, each_append P xs ys h.1 k)

-- what a search finds is an element that passes
pub find_has : {X : Type 0} (P : X → Type 0) (p : X → Bool) (xs : List X) (x : X) → find p xs ≡ Some x → Each P xs → P x × (p x ≡ true)
find_has P p [] x e h = cc
find_has P p (y ∷ ys) x e h = go (p y) refl (λ rest. find_has P p ys x rest h.1)
  where
    go : (b : Bool) → p y ≡ b → (find p ys ≡ Some x → P x × (p x ≡ true)) → P x × (p x ≡ true)
    go true t more =
        let same : Some y ≡ Some x = rw t at e in
        subst (λ z. P z × (p z ≡ true)) (ap (λ o. unwrap_or o y) same) (h.0, t)
    go false t more = more (rw t at e)

-- ---- kinds

-- where neither of two steps refuses
pub neither : (a b : Kinds) → or_else a b ≡ [] → (a ≡ []) × (b ≡ [])
neither [] b e = (refl, e)
neither (k ∷ ks) b e = cc

values_append : (ic : Bool) (p : ValueParser) (xs ys : List Text) → values_kinds ic p xs ≡ [] → values_kinds ic p ys ≡ [] → values_kinds ic p (xs ++ ys) ≡ []
values_append ic p [] ys h k = k
values_append ic p (x ∷ xs) ys h k =
    let parts = neither (value_kinds ic p x) (values_kinds ic p xs) h in
    ap (λ a. or_else a (values_kinds ic p (xs ++ ys))) parts.0 ∙ values_append ic p xs ys parts.1 k

-- ---- rows

-- the row has values, which the argument's parser took, and is read as that says
pub record Given (a : Rule) (r : Row) : Type 0 where
  pub some : 0 < length r.values
  pub pass : values_fault a r.values ≡ []
  pub reading : r.reading ≡ reading_by a

abbrev GivenBy : Option Rule → Row → Type 0
GivenBy None r = ⊥
GivenBy (Some a) r = Given a r

-- the row is one of a command's argument, with values that it took
abbrev pub Good : List Rule → Row → Type 0
Good c r = GivenBy (arg_by_id c r.id) r

good_of : (c : List Rule) (a : Rule) (r : Row) → arg_by_id c r.id ≡ Some a → Given a r → Good c r
good_of c a r e g = subst (λ o. GivenBy o r) (sym e) g

pub given_of : (c : List Rule) (a : Rule) (r : Row) → arg_by_id c r.id ≡ Some a → Good c r → Given a r
given_of c a r e g = subst (λ o. GivenBy o r) e g

at_row_keeps : (P : Row → Type 0) (id : Text) (change : Row → List Row) (missing rows : List Row)
    → ((r : Row) → bytes_eq r.id id ≡ true → P r → Each P (change r)) → Each P missing → Each P rows → Each P (at_row id change missing rows)
at_row_keeps P id change missing [] f m h = m
at_row_keeps P id change missing (r ∷ rs) f m h = go (bytes_eq r.id id) refl (at_row_keeps P id change missing rs f m h.1)
  where
    go : (b : Bool) → bytes_eq r.id id ≡ b → Each P (at_row id change missing rs) → Each P (cond b (change r ++ rs) (r ∷ at_row id change missing rs))
    go true t rest = each_append P (change r) rs (f r t h.0) h.1
    go false t rest = (h.0, rest)

without_good : (c : List Rule) (id : Text) (rows : List Row) → Each (Good c) rows → Each (Good c) (without id rows)
without_good c id rows h = at_row_keeps (Good c) id (λ _. []) [] rows (λ r same g. tt) tt h

same_id : (c : List Rule) (a : Rule) (id : Text) → arg_by_id c a.id ≡ Some a → bytes_eq id a.id ≡ true → arg_by_id c id ≡ Some a
same_id c a id known same = ap (arg_by_id c) ((bytes_eq-Decides id a.id).0 same) ∙ known

with_values_good : (c : List Rule) (a : Rule) (s : ValueSource) (vs : List Text) (rows : List Row) → arg_by_id c a.id ≡ Some a
    → 0 < length vs → values_fault a vs ≡ [] → Each (Good c) rows → Each (Good c) (with_values a.id (reading_by a) s vs rows)
with_values_good c a s vs rows known some pass h = at_row_keeps (Good c) a.id (more_values s vs) _ rows
    (λ r same g.
    let is = same_id c a r.id known same in
    let had = given_of c a r is g in (
      good_of c a _ is (record {
        some = rw (length-append r.values vs) (omega (arith, had.some));
        pass = values_append a.ignore_case (parser_of_value a.parser) r.values vs had.pass pass;
        reading = had.reading;
      }),
      tt,
    ))
    (good_of c a _ known (record { some = some; pass = pass; reading = refl }), tt) h

-- ---- one use

abbrev sure_as : ArgAction → Bool → Bool
sure_as action.Set some = some
sure_as action.SetTrue some = some
sure_as action.SetFalse some = some
sure_as action.Append some = false
sure_as action.Count some = false
sure_as _ some = true

-- a use of the argument that is not refused sets values: those given, or those that stand for none
abbrev pub is_sure : Rule → Bool
is_sure a = sure_as (action_of a) (nat_lt 0 (unwrap_or_range a.range).start_inclusive || not (is_empty a.missing))

-- an argument of the command, the only one with its id
pub record Sure (c : List Rule) (a : Rule) : Type 0 where
  pub known : arg_by_id c a.id ≡ Some a
  pub sure : is_sure a ≡ true

no_value : (least most : ℕ) → nat_lt 0 least ≡ true → range_kinds least most 0 ≡ [] → ⊥
no_value zero most t e = cc
no_value (suc n) most t e = cc

not_empty : (v : Text) (vs : List Text) → is_empty (v ∷ vs) ≡ false
not_empty v vs = ne_eqb (suc (length vs)) 0 (λ e. omega (arith, e))

some_missing : (missing : List Text) → not (is_empty missing) ≡ true → 0 < length missing
some_missing [] e = cc
some_missing (v ∷ vs) e = omega arith

has_values : (a : Rule) (values : List Text) → (nat_lt 0 (unwrap_or_range a.range).start_inclusive || not (is_empty a.missing)) ≡ true
    → range_kinds (unwrap_or_range a.range).start_inclusive (most_values a) (length values) ≡ [] → 0 < length (values_or_missing a values)
has_values a (v ∷ vs) some e = omega arith
has_values a [] some e = go (nat_lt 0 (unwrap_or_range a.range).start_inclusive) refl some
  where
    go : (b : Bool) → nat_lt 0 (unwrap_or_range a.range).start_inclusive ≡ b → (b || not (is_empty a.missing)) ≡ true → 0 < length a.missing
    go true t some = absurd (no_value _ _ t e)
    go false t some = some_missing a.missing some

set_good : (c : List Rule) (again : Bool) (a : Rule) (vs : List Text) (rows : List Row) → arg_by_id c a.id ≡ Some a → 0 < length vs
    → or_else (repeat_fault again a.id rows) (values_fault a vs) ≡ [] → Each (Good c) rows
    → Each (Good c) (with_values a.id (reading_by a) source.CommandLine vs (without a.id rows))
set_good c again a vs rows known some e h =
    with_values_good c a source.CommandLine vs (without a.id rows) known some (neither (repeat_fault again a.id rows) _ e).1 (without_good c a.id rows h)

as_good : (x : ArgAction) (some : Bool) (c : List Rule) (again : Bool) (a : Rule) (vs : List Text) (rows : List Row) → arg_by_id c a.id ≡ Some a → sure_as x some ≡ true
    → (some ≡ true → 0 < length vs) → action_fault x again a vs rows ≡ [] → Each (Good c) rows → Each (Good c) (used_as x a.id (reading_by a) vs rows)
as_good action.Set some c again a vs rows known sure has e h = set_good c again a vs rows known (has sure) e h
as_good action.SetTrue some c again a vs rows known sure has e h = set_good c again a vs rows known (has sure) e h
as_good action.SetFalse some c again a vs rows known sure has e h = set_good c again a vs rows known (has sure) e h
as_good action.Append some c again a vs rows known sure has e h = cc
as_good action.Count some c again a vs rows known sure has e h = cc
as_good action.Help some c again a vs rows known sure has e h = h
as_good action.HelpShort some c again a vs rows known sure has e h = h
as_good action.HelpLong some c again a vs rows known sure has e h = h
as_good action.Version some c again a vs rows known sure has e h = h

used_good : (c : List Rule) (again : Bool) (a : Rule) (values : List Text) (rows : List Row) → Sure c a → use_fault again a values rows ≡ []
    → Each (Good c) rows → Each (Good c) (used a values rows)
used_good c again a values rows is e h =
    let parts = neither (range_kinds (unwrap_or_range a.range).start_inclusive (most_values a) (length values)) _ e in
    as_good (action_of a) _ c again a (values_or_missing a values) rows is.known is.sure (λ some. has_values a values some parts.0) parts.1 h

pub settle_good : (c : List Rule) (again : Bool) (h : Held) → Each (Sure c) c → settle_fault c again h ≡ [] → Each (Good c) h.rows
    → Each (Good c) (settled c h).rows
settle_good c again h sure e good = go h.pending e
  where
    by_id : (values : List Text) (id : Text) (o : Option Rule) → arg_by_id c id ≡ o → option_map_or (λ a. use_fault again a values h.rows) o [] ≡ []
        → Each (Good c) (used_by_id o values h.rows)
    by_id values id None is e = good
    by_id values id (Some a) is e = used_good c again a values h.rows (find_has (Sure c) (λ x. bytes_eq x.id id) c a is sure).0 e good

    go : (p : Option (Text × List Text)) → option_map_or (λ q. option_map_or (λ a. use_fault again a q.1 h.rows) (arg_by_id c q.0) []) p [] ≡ []
        → Each (Good c) (settled_rows c p h.rows)
    go None e = good
    go (Some q) e = by_id q.1 q.0 (arg_by_id c q.0) refl e

pub react_good : (c : List Rule) (again : Bool) (a : Rule) (values : List Text) (h : Held) → Each (Sure c) c → Sure c a → react_fault c again a values h ≡ []
    → Each (Good c) h.rows → Each (Good c) (reacted c a values h).rows
react_good c again a values h sure is e good =
    let parts = neither (settle_fault c again h) _ e in
    used_good c again a values (settled c h).rows is parts.1 (settle_good c again h sure parts.0 good)

-- ---- defaults

default_good : (c : List Rule) (rows : List Row) (a : Rule) → Sure c a → default_fault rows a ≡ [] → Each (Good c) rows → Each (Good c) (with_default rows a)
default_good c rows a is e h = go (has_row a.id rows) a.defaults e
  where
    go : (b : Bool) (vs : List Text) → cond (b || is_empty vs) [] (given_default_fault a vs) ≡ [] → Each (Good c) (cond b rows (default_rows a.id (reading_by a) vs rows))
    go true vs e = h
    go false [] e = h
    go false (v ∷ vs) e = with_values_good c a source.DefaultValue (v ∷ vs) rows is.known (omega arith) (neither (request_kinds (action_of a)) (values_fault a (v ∷ vs)) (rw (not_empty v vs) at e)).1 h

pub defaults_good : (c : List Rule) (rows : List Row) (rs : List Rule) → Each (Sure c) rs → defaults_fault rows rs ≡ [] → Each (Good c) rows
    → Each (Good c) (fold with_default rows rs)
unfolding defaults_fault
defaults_good c rows [] sure e h = h
defaults_good c rows (a ∷ rest) sure e h =
    let parts = neither (default_fault rows a) _ e in
    defaults_good c (with_default rows a) rest sure.1 parts.1 (default_good c rows a sure.0 parts.0 h)
