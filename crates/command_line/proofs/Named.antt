-- What the name of a command says.
use Rattle.std.proofs.Common.{◌≡◌, ◌∙◌, ◌<◌, ◌+◌, ap, sym, subst, refl, ℕ, true, false, List, drop, get_or, length, add-one, Some, None}
use Rattle.std.specs.Prelude.{unwrap_or}
use Rattle.std.specs.Str.{bytes_eq}
use Rattle.std.proofs.Math.Seq.{drop-cons}
use Rattle.clap.specs.Walk.{Row, Text}
use Rattle.command_line.specs.CommandLine.{asked_by, command_by, form_of, named_in}
use Rattle.command_line.specs.Required.{HoldsAll, IsWhole}
use Rattle.command_line.specs.Table.{commands_of}
use Rattle.command_line.specs.declared.commands.CommandRow.{CommandRow}
use Rattle.command_line.specs.declared.job.CommandName.{CommandName}
use Rattle.command_line.specs.declared.job.CommandName.TheVariants as command

-- ---- a row of the table

-- a word that is the name of the row at an index names its command
pub met_row : (rows : List CommandRow) (i : ℕ) (none : CommandRow) (word : Text) → i < length rows → bytes_eq word (get_or rows i none).name.now ≡ true
    → named_in (commands_of (drop i rows)) word ≡ Some (get_or rows i none).command
met_row rows i none word within is = rw (drop-cons rows i none, is) refl

-- and another word names one of those after it, if any
pub passed_row : (rows : List CommandRow) (i : ℕ) (none : CommandRow) (word : Text) → i < length rows → bytes_eq word (get_or rows i none).name.now ≡ false
    → named_in (commands_of (drop (i + 1) rows)) word ≡ named_in (commands_of (drop i rows)) word
passed_row rows i none word within is = rw (add-one, drop-cons rows i none, is) refl

-- ---- a command

-- its name names it alone
own_name : (c : CommandName) → command_by (form_of c).name ≡ Some c
own_name command.Build = refl
own_name command.Run = refl
own_name command.Go = refl
own_name command.List = refl
own_name command.Sample = refl
own_name command.Migrate = refl
own_name command.Audit = refl
own_name command.Save = refl
own_name command.Resume = refl
own_name command.Debug = refl
own_name command.Cover = refl
own_name command.Sweep = refl
own_name command.Timeline = refl
own_name command.Live = refl
own_name command.Picture = refl
own_name command.Lcov = refl
own_name command.Help = refl

-- and what it asks for is what its form does
own_form : (c : CommandName) (rows : List Row) → asked_by (form_of c).name rows ≡ (form_of c).asks rows
own_form command.Build rows = refl
own_form command.Run rows = refl
own_form command.Go rows = refl
own_form command.List rows = refl
own_form command.Sample rows = refl
own_form command.Migrate rows = refl
own_form command.Audit rows = refl
own_form command.Save rows = refl
own_form command.Resume rows = refl
own_form command.Debug rows = refl
own_form command.Cover rows = refl
own_form command.Sweep rows = refl
own_form command.Timeline rows = refl
own_form command.Live rows = refl
own_form command.Picture rows = refl
own_form command.Lcov rows = refl
own_form command.Help rows = refl

-- what is known of rows that are whole, where their command is looked up by its name
pub record Holds (name : Text) (rows : List Row) (c : CommandName) : Type 0 where
  pub all : HoldsAll c rows
  pub asks : asked_by name rows ≡ (form_of c).asks rows

pub whole_named : (name : Text) (rows : List Row) (c : CommandName) → IsWhole (Some (name, rows)) → command_by name ≡ Some c → Holds name rows c
whole_named name rows c (d, is, all) named =
    let same : Some d ≡ Some c = sym (own_name d) ∙ ap command_by (sym is) ∙ named in
    subst (Holds name rows) (ap (λ o. unwrap_or o d) same)
    (record { all = all; asks = ap (λ n. asked_by n rows) is ∙ own_form d rows })

pub whole_has_name : (name : Text) (rows : List Row) → IsWhole (Some (name, rows)) → command_by name ≡ None → ⊥
whole_has_name name rows (d, is, all) none =
    let same : Some d ≡ None = sym (own_name d) ∙ ap command_by (sym is) ∙ none in
    cc
