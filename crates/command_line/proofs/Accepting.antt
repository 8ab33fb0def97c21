-- What `clap`'s answer says of the words.
use Rattle.std.proofs.Common.{◌≡◌, ◌∙◌, ap, sym, refl, true, false, List, [], ◌∷◌, Option, Some, None, option_map, inl, inr, rules, Box, Global}
use Rattle.std.specs.Box.{box_value}
use Rattle.std.proofs.lemmas.Bool.{and_left}
use Rattle.clap.specs.Words.{App, HasKind, HasMatchesOf, Kinds, Row, Text, fault_of, is_simple, is_simple_and_free, kind_of, subcommand_name_of, subcommand_of, subcommand_rows, subcommand_rows_of}
use Rattle.clap.specs.declared.Error.{Error}
use Rattle.clap.specs.declared.error.ErrorKind.TheVariants as kind
use Rattle.clap.specs.declared.parser.matches.SubCommand.{SubCommand}
use Rattle.clap.specs.declared.parser.matches.ArgMatches.TheViews.{out-ArgMatches, out-SubCommand}
use Rattle.clap.specs.declared.parser.matches.ArgMatches.{ArgMatches}
use Rattle.clap.proofs.OnLiterals.{clap_on_literals}
use Rattle.command_line.specs.CommandLine.{has_none, hubris_app, is_accepted}

pub is_free : is_simple_and_free hubris_app ≡ true
unfolding clap_on_literals
is_free = refl

some_kind : (kinds : Kinds) (e : Error) → HasKind kinds e → (kind_of e ≡ kind.OutOfMemory → ⊥) → has_none kinds ≡ false
some_kind [] e (inl m) other = absurd (other m)
some_kind [] e (inr m) other = absurd m
some_kind (k ∷ ks) e h other = refl

-- another error than of memory comes only at words that are not accepted
pub not_accepted : (a : App) (ws : List Text) (e : Error) → a ≡ hubris_app → (is_simple_and_free a ≡ true → HasKind (fault_of a ws) e)
    → (kind_of e ≡ kind.OutOfMemory → ⊥) → is_accepted ws ≡ false
not_accepted a ws e is h other =
    and_left _ _ (ap (λ (x : App). has_none (fault_of x ws)) (sym is) ∙ some_kind (fault_of a ws) e (h (ap is_simple_and_free is ∙ is_free)) other)

-- an `Ok` comes only at words that no step of clap's reading refuses
pub unrefused : (a : App) (ws : List Text) → a ≡ hubris_app → (is_simple_and_free a ≡ true → fault_of a ws ≡ []) → has_none (fault_of hubris_app ws) ≡ true
unrefused a ws is h = ap (λ (x : App). has_none (fault_of x ws)) (sym is) ∙ ap has_none (h (ap is_simple_and_free is ∙ is_free))

pub none_left : (kinds : Kinds) → has_none kinds ≡ true → kinds ≡ []
none_left [] e = refl
none_left (k ∷ ks) e = cc

is_simple_app : is_simple hubris_app ≡ true
unfolding clap_on_literals
is_simple_app = refl

held : (b : Option (Box SubCommand Global)) (n : Text) (r : List Row) → Some n ≡ option_map (λ s. (out-SubCommand (box_value s)).name.now) b
    → Some r ≡ option_map (λ p. p.1) (subcommand_rows b) → subcommand_rows b ≡ Some (n, r)
held None n r e f = cc
held (Some b) n r e f = search (rules, e, f)

-- the name and the rows of the matches are the command's
pub named : (a : App) (words : List Text) (m : ArgMatches) (n : Text) (r : List Row) → a ≡ hubris_app → HasMatchesOf a words m
    → Some n ≡ subcommand_name_of m → Some r ≡ option_map (λ p. p.1) (subcommand_rows_of m) → subcommand_of hubris_app words ≡ Some (n, r)
named a words m n r is has name rows =
    ap (λ (x : App). subcommand_of x words) (sym is) ∙ sym (has (ap is_simple is ∙ is_simple_app)).1
    ∙ held (out-ArgMatches m).subcommand n r name rows

no_rows : (b : Option (Text × List Row)) → None ≡ option_map (λ p. p.1) b → b ≡ None
no_rows None e = refl
no_rows (Some p) e = cc

-- no command is in the words, if none is in the matches
pub unnamed : (a : App) (words : List Text) (m : ArgMatches) → a ≡ hubris_app → HasMatchesOf a words m
    → None ≡ option_map (λ p. p.1) (subcommand_rows_of m) → subcommand_of hubris_app words ≡ None
unnamed a words m is has rows =
    ap (λ (x : App). subcommand_of x words) (sym is) ∙ sym (has (ap is_simple is ∙ is_simple_app)).1
    ∙ no_rows (subcommand_rows_of m) rows
