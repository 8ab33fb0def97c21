-- Words that are accepted name a command, with all that it requires.
use Rattle.std.proofs.Common.{◌≡◌, ◌<◌, ◌≤◌, ap, sym, subst, refl, cond, codes, drop, Bool, true, false, ℕ, List, [], ◌∷◌, Option, Some, None, is_some, arith}
use Rattle.std.specs.Prelude.{IfSome, unwrap_or, pos, ◌==◌}
use Rattle.std.specs.Bool.{⊤}
use Rattle.std.specs.List.{slice_index_or}
use Rattle.std.specs.Str.Parse.{IsNumeral, digits_value, starts_with_minus, without_leading_plus}
use Rattle.std.proofs.lemmas.Bool.{ne_eqb}
use Rattle.std.proofs.lemmas.Str.Parse.{digit_from_value}
use Rattle.std.proofs.lemmas.Int.{ints}
use Rattle.clap.specs.Lexer.{without_minus}
use Rattle.clap.specs.Values.{IsSignedIn, read_as, reading_of, refused_kind}
use Rattle.clap.specs.ValueTests.{accepts}
use Rattle.clap.specs.Facts.{parser_of_value}
use Rattle.clap.specs.Walk.{first_of, Row, Rule, Text, nothing_held, one_of, rows_after, walk}
use Rattle.clap.specs.Simple.{App, Shape, argument_words, built, entered, names_of, new_rule, new_shape, subcommand_of}
use Rattle.clap.specs.Kinds.{value_kinds}
use Rattle.clap.specs.Faults.{entered_fault, fault_of, level_fault}
use Rattle.clap.specs.declared.builder.value_parser.ValueParser.{ValueParser}
use Rattle.clap.specs.declared.builder.value_parser.ValueParser.TheVariants as parser
use Rattle.clap.proofs.ValueTestLemmas.{accepts-Accepts, Accepts-accepts}
use Rattle.command_line.specs.CommandLine.{form_of, has_none, hubris_app, most_seed, most_steps, number_parser}
use Rattle.command_line.specs.Required.{HasText, IsNumber, IsSwitch, IsWhole}
use Rattle.command_line.specs.declared.job.CommandName.{CommandName}
use Rattle.command_line.specs.declared.job.CommandName.TheVariants as command
use Rattle.command_line.proofs.Accepting.{none_left}
use Rattle.command_line.proofs.Rows.{Each, Sure}
use Rattle.command_line.proofs.Walking.{asks_for_help}
use Rattle.command_line.proofs.Ending.{Done, Has, below_passes, ends, has_default, has_given, stops, wants}

-- ---- a number

no_plus : (ds : List ℕ) → IsNumeral 10 ds → without_leading_plus ds ≡ ds
no_plus [] h = refl
no_plus (d ∷ ds) h =
    let plus : (d == 43) ≡ false = ne_eqb _ _ (λ e. omega (arith, digit_from_value d h.1.0)) in
    ap (λ (b : Bool). drop (cond b 1 0) (d ∷ ds)) plus

without_minus-cond : (t : Text) → without_minus t ≡ cond (starts_with_minus t) (drop 1 t) t
without_minus-cond [] = refl
without_minus-cond (x ∷ xs) = go (x == 45)
  where
    go : (b : Bool) → unwrap_or (cond b (Some xs) None) (x ∷ xs) ≡ cond b xs (x ∷ xs)
    go true = refl
    go false = refl

-- a text in a range from 0 on is, without a minus, a number in it
without_sign : (high : ℕ) (t : Text) → high < 4294967296 → IsSignedIn (pos 0) (pos high) t → accepts false (parser.Unsigned 0 high) (without_minus t) ≡ true
without_sign high t small h = Accepts-accepts false (parser.Unsigned 0 high) (without_minus t) (rw (without_minus-cond t) (go (starts_with_minus t) refl))
  where
    Plain : Text → Type 0
    Plain u = IsNumeral 10 (without_leading_plus u) × (digits_value 10 (without_leading_plus u) < 18446744073709551616) × (0 ≤ digits_value 10 (without_leading_plus u))
        × (digits_value 10 (without_leading_plus u) ≤ high)

    go : (b : Bool) → starts_with_minus t ≡ b → Plain (cond (starts_with_minus t) (drop 1 t) t)
    go true minus =
        let low = rw minus at h.2 in
        let numeral : IsNumeral 10 (drop 1 t) = rw minus at h.0 in
        rw (minus, no_plus (drop 1 t) numeral) (numeral, omega (arith, ints), omega arith, omega (arith, ints))
    go false minus =
        let top = rw minus at h.3 in
        let numeral = rw minus at h.0 in
        rw minus (numeral, omega (arith, ints), omega arith, omega (arith, ints))

accepted : (ic : Bool) (p : ValueParser) (t : Text) → value_kinds ic p t ≡ [] → accepts ic p t ≡ true
accepted ic p t e = go (accepts ic p t) refl e
  where
    go : (b : Bool) → accepts ic p t ≡ b → cond b [] (refused_kind p ∷ []) ≡ [] → accepts ic p t ≡ true
    go true is e = is
    go false is e = cc

-- ---- the commands

-- the program's command line, with what clap adds
abbrev app : App
app = built hubris_app

abbrev shape_at : ℕ → Shape
shape_at i = slice_index_or app.subs i (new_shape [])

abbrev rule_at : Shape → ℕ → Rule
rule_at s i = slice_index_or s.rules i (new_rule [])

-- a command that is not refused
leaf : (s : Shape) (words : List Text) → Each (Sure s.rules) s.rules → s.subcommand_negates_reqs ≡ false → level_fault s [] nothing_held words false [] ≡ []
    → Done s (rows_after s.rules [] words)
leaf s words sure negates e = ends s [] (λ _. ⊤) sure tt words false [] e negates

text : (a : Rule) (rows : List Row) → Has a rows → HasText a.id rows
text a rows h = rw h.first refl

number : (most : ℕ) (a : Rule) (rows : List Row) → most < 4294967296 → a.parser ≡ Some (number_parser most) → Has a rows → IsNumber most (one_of a.id rows)
number most a rows small is h =
    let passed : accepts a.ignore_case (number_parser most) h.text ≡ true = subst (λ (p : Option ValueParser). accepts a.ignore_case (parser_of_value p) h.text ≡ true) is (accepted a.ignore_case (parser_of_value a.parser) h.text h.pass) in
    let one : one_of a.id rows ≡ Some (without_minus h.text) = subst (λ (p : Option ValueParser). one_of a.id rows ≡ Some (read_as (reading_of (parser_of_value p)) h.text)) is h.one in
    subst (IsNumber most) (sym one) (without_sign most h.text small (accepts-Accepts a.ignore_case (number_parser most) h.text passed))

switch : (a : Rule) (rows : List Row) → a.parser ≡ Some parser.Bool → Has a rows → IsSwitch (first_of a.id rows)
switch a rows is h = subst IsSwitch (sym h.first)
    (subst (λ (p : Option ValueParser). accepts a.ignore_case (parser_of_value p) h.text ≡ true) is (accepted a.ignore_case (parser_of_value a.parser) h.text h.pass))

build_sure : Each (Sure (shape_at 0).rules) (shape_at 0).rules
build_sure = (record { known = refl; sure = refl }, (record { known = refl; sure = refl }, (record { known = refl; sure = refl }, tt)))

build_whole : (words : List Text) → entered_fault app (Some (codes "build", words)) ≡ [] → IsWhole (entered app (Some (codes "build", words)))
build_whole words e =
    let s = shape_at 0 in
    let rows = rows_after s.rules [] words in
    let d = leaf s words build_sure refl e in (
      command.Build,
      refl,
      record {
        app = text (rule_at s 0) rows (has_given s.rules (rule_at s 0) rows d.good refl (d.given.0 refl));
        out = text (rule_at s 1) rows (has_given s.rules (rule_at s 1) rows d.good refl (d.given.1.0 refl));
      },
    )

run_sure : Each (Sure (shape_at 1).rules) (shape_at 1).rules
run_sure = (record { known = refl; sure = refl }, (record { known = refl; sure = refl }, (record { known = refl; sure = refl }, (record { known = refl; sure = refl }, (record { known = refl; sure = refl }, (record { known = refl; sure = refl }, tt))))))

run_whole : (words : List Text) → entered_fault app (Some (codes "run", words)) ≡ [] → IsWhole (entered app (Some (codes "run", words)))
run_whole words e =
    let s = shape_at 1 in
    let rows = rows_after s.rules [] words in
    let d = leaf s words run_sure refl e in (
      command.Run,
      refl,
      record {
        image = text (rule_at s 0) rows (has_given s.rules (rule_at s 0) rows d.good refl (d.given.0 refl));
        script = text (rule_at s 1) rows (has_given s.rules (rule_at s 1) rows d.good refl (d.given.1.0 refl));
        steps = number most_steps (rule_at s 2) rows (omega arith) refl (has_given s.rules (rule_at s 2) rows d.good refl (d.given.1.1.0 refl));
        all = switch (rule_at s 3) rows refl (has_default s.rules (rule_at s 3) rows d.good refl (d.filled.1.1.1.0 (omega arith)));
        mem = switch (rule_at s 4) rows refl (has_default s.rules (rule_at s 4) rows d.good refl (d.filled.1.1.1.1.0 (omega arith)));
      },
    )

go_sure : Each (Sure (shape_at 2).rules) (shape_at 2).rules
go_sure = (record { known = refl; sure = refl }, (record { known = refl; sure = refl }, (record { known = refl; sure = refl }, (record { known = refl; sure = refl }, (record { known = refl; sure = refl }, (record { known = refl; sure = refl }, tt))))))

go_whole : (words : List Text) → entered_fault app (Some (codes "go", words)) ≡ [] → IsWhole (entered app (Some (codes "go", words)))
go_whole words e =
    let s = shape_at 2 in
    let rows = rows_after s.rules [] words in
    let d = leaf s words go_sure refl e in (
      command.Go,
      refl,
      record {
        app = text (rule_at s 0) rows (has_given s.rules (rule_at s 0) rows d.good refl (d.given.0 refl));
        script = text (rule_at s 1) rows (has_given s.rules (rule_at s 1) rows d.good refl (d.given.1.0 refl));
        steps = number most_steps (rule_at s 2) rows (omega arith) refl (has_given s.rules (rule_at s 2) rows d.good refl (d.given.1.1.0 refl));
        all = switch (rule_at s 3) rows refl (has_default s.rules (rule_at s 3) rows d.good refl (d.filled.1.1.1.0 (omega arith)));
        mem = switch (rule_at s 4) rows refl (has_default s.rules (rule_at s 4) rows d.good refl (d.filled.1.1.1.1.0 (omega arith)));
      },
    )

list_sure : Each (Sure (shape_at 3).rules) (shape_at 3).rules
list_sure = (record { known = refl; sure = refl }, (record { known = refl; sure = refl }, tt))

list_whole : (words : List Text) → entered_fault app (Some (codes "list", words)) ≡ [] → IsWhole (entered app (Some (codes "list", words)))
list_whole words e =
    let s = shape_at 3 in
    let rows = rows_after s.rules [] words in
    let d = leaf s words list_sure refl e in
    (command.List, refl, record { image = text (rule_at s 0) rows (has_given s.rules (rule_at s 0) rows d.good refl (d.given.0 refl)) })

sample_sure : Each (Sure (shape_at 4).rules) (shape_at 4).rules
sample_sure = (record { known = refl; sure = refl }, (record { known = refl; sure = refl }, (record { known = refl; sure = refl }, tt)))

sample_whole : (words : List Text) → entered_fault app (Some (codes "sample", words)) ≡ [] → IsWhole (entered app (Some (codes "sample", words)))
sample_whole words e =
    let s = shape_at 4 in
    let rows = rows_after s.rules [] words in
    let d = leaf s words sample_sure refl e in (
      command.Sample,
      refl,
      record {
        seed = number most_seed (rule_at s 0) rows (omega arith) refl (has_given s.rules (rule_at s 0) rows d.good refl (d.given.0 refl));
        steps = number most_steps (rule_at s 1) rows (omega arith) refl (has_given s.rules (rule_at s 1) rows d.good refl (d.given.1.0 refl));
      },
    )

migrate_sure : Each (Sure (shape_at 5).rules) (shape_at 5).rules
migrate_sure = (record { known = refl; sure = refl }, (record { known = refl; sure = refl }, (record { known = refl; sure = refl }, tt)))

migrate_whole : (words : List Text) → entered_fault app (Some (codes "migrate", words)) ≡ [] → IsWhole (entered app (Some (codes "migrate", words)))
migrate_whole words e =
    let s = shape_at 5 in
    let rows = rows_after s.rules [] words in
    let d = leaf s words migrate_sure refl e in (
      command.Migrate,
      refl,
      record {
        image = text (rule_at s 0) rows (has_given s.rules (rule_at s 0) rows d.good refl (d.given.0 refl));
        out = text (rule_at s 1) rows (has_given s.rules (rule_at s 1) rows d.good refl (d.given.1.0 refl));
      },
    )

audit_sure : Each (Sure (shape_at 6).rules) (shape_at 6).rules
audit_sure = (record { known = refl; sure = refl }, (record { known = refl; sure = refl }, tt))

audit_whole : (words : List Text) → entered_fault app (Some (codes "audit", words)) ≡ [] → IsWhole (entered app (Some (codes "audit", words)))
audit_whole words e =
    let s = shape_at 6 in
    let rows = rows_after s.rules [] words in
    let d = leaf s words audit_sure refl e in
    (command.Audit, refl, record { trace = text (rule_at s 0) rows (has_given s.rules (rule_at s 0) rows d.good refl (d.given.0 refl)) })

save_sure : Each (Sure (shape_at 7).rules) (shape_at 7).rules
save_sure = (record { known = refl; sure = refl }, (record { known = refl; sure = refl }, (record { known = refl; sure = refl }, (record { known = refl; sure = refl }, (record { known = refl; sure = refl }, tt)))))

save_whole : (words : List Text) → entered_fault app (Some (codes "save", words)) ≡ [] → IsWhole (entered app (Some (codes "save", words)))
save_whole words e =
    let s = shape_at 7 in
    let rows = rows_after s.rules [] words in
    let d = leaf s words save_sure refl e in (
      command.Save,
      refl,
      record {
        image = text (rule_at s 0) rows (has_given s.rules (rule_at s 0) rows d.good refl (d.given.0 refl));
        script = text (rule_at s 1) rows (has_given s.rules (rule_at s 1) rows d.good refl (d.given.1.0 refl));
        out = text (rule_at s 2) rows (has_given s.rules (rule_at s 2) rows d.good refl (d.given.1.1.0 refl));
        steps = number most_steps (rule_at s 3) rows (omega arith) refl (has_given s.rules (rule_at s 3) rows d.good refl (d.given.1.1.1.0 refl));
      },
    )

resume_sure : Each (Sure (shape_at 8).rules) (shape_at 8).rules
resume_sure = (record { known = refl; sure = refl }, (record { known = refl; sure = refl }, (record { known = refl; sure = refl }, (record { known = refl; sure = refl }, (record { known = refl; sure = refl }, (record { known = refl; sure = refl }, (record { known = refl; sure = refl }, tt)))))))

resume_whole : (words : List Text) → entered_fault app (Some (codes "resume", words)) ≡ [] → IsWhole (entered app (Some (codes "resume", words)))
resume_whole words e =
    let s = shape_at 8 in
    let rows = rows_after s.rules [] words in
    let d = leaf s words resume_sure refl e in (
      command.Resume,
      refl,
      record {
        image = text (rule_at s 0) rows (has_given s.rules (rule_at s 0) rows d.good refl (d.given.0 refl));
        script = text (rule_at s 1) rows (has_given s.rules (rule_at s 1) rows d.good refl (d.given.1.0 refl));
        state = text (rule_at s 2) rows (has_given s.rules (rule_at s 2) rows d.good refl (d.given.1.1.0 refl));
        steps = number most_steps (rule_at s 3) rows (omega arith) refl (has_given s.rules (rule_at s 3) rows d.good refl (d.given.1.1.1.0 refl));
        all = switch (rule_at s 4) rows refl (has_default s.rules (rule_at s 4) rows d.good refl (d.filled.1.1.1.1.0 (omega arith)));
        mem = switch (rule_at s 5) rows refl (has_default s.rules (rule_at s 5) rows d.good refl (d.filled.1.1.1.1.1.0 (omega arith)));
      },
    )

debug_sure : Each (Sure (shape_at 9).rules) (shape_at 9).rules
debug_sure = (record { known = refl; sure = refl }, (record { known = refl; sure = refl }, (record { known = refl; sure = refl }, (record { known = refl; sure = refl }, tt))))

debug_whole : (words : List Text) → entered_fault app (Some (codes "debug", words)) ≡ [] → IsWhole (entered app (Some (codes "debug", words)))
debug_whole words e =
    let s = shape_at 9 in
    let rows = rows_after s.rules [] words in
    let d = leaf s words debug_sure refl e in (
      command.Debug,
      refl,
      record {
        image = text (rule_at s 0) rows (has_given s.rules (rule_at s 0) rows d.good refl (d.given.0 refl));
        script = text (rule_at s 1) rows (has_given s.rules (rule_at s 1) rows d.good refl (d.given.1.0 refl));
        commands = text (rule_at s 2) rows (has_given s.rules (rule_at s 2) rows d.good refl (d.given.1.1.0 refl));
      },
    )

cover_sure : Each (Sure (shape_at 10).rules) (shape_at 10).rules
cover_sure = (record { known = refl; sure = refl }, (record { known = refl; sure = refl }, (record { known = refl; sure = refl }, (record { known = refl; sure = refl }, (record { known = refl; sure = refl }, tt)))))

cover_whole : (words : List Text) → entered_fault app (Some (codes "cover", words)) ≡ [] → IsWhole (entered app (Some (codes "cover", words)))
cover_whole words e =
    let s = shape_at 10 in
    let rows = rows_after s.rules [] words in
    let d = leaf s words cover_sure refl e in (
      command.Cover,
      refl,
      record {
        image = text (rule_at s 0) rows (has_given s.rules (rule_at s 0) rows d.good refl (d.given.0 refl));
        script = text (rule_at s 1) rows (has_given s.rules (rule_at s 1) rows d.good refl (d.given.1.0 refl));
        steps = number most_steps (rule_at s 2) rows (omega arith) refl (has_given s.rules (rule_at s 2) rows d.good refl (d.given.1.1.0 refl));
        labels = switch (rule_at s 3) rows refl (has_default s.rules (rule_at s 3) rows d.good refl (d.filled.1.1.1.0 (omega arith)));
      },
    )

sweep_sure : Each (Sure (shape_at 11).rules) (shape_at 11).rules
sweep_sure = (record { known = refl; sure = refl }, (record { known = refl; sure = refl }, (record { known = refl; sure = refl }, (record { known = refl; sure = refl }, (record { known = refl; sure = refl }, (record { known = refl; sure = refl }, (record { known = refl; sure = refl }, (record { known = refl; sure = refl }, tt))))))))

sweep_whole : (words : List Text) → entered_fault app (Some (codes "sweep", words)) ≡ [] → IsWhole (entered app (Some (codes "sweep", words)))
sweep_whole words e =
    let s = shape_at 11 in
    let rows = rows_after s.rules [] words in
    let d = leaf s words sweep_sure refl e in (
      command.Sweep,
      refl,
      record {
        image = text (rule_at s 0) rows (has_given s.rules (rule_at s 0) rows d.good refl (d.given.0 refl));
        script = text (rule_at s 1) rows (has_given s.rules (rule_at s 1) rows d.good refl (d.given.1.0 refl));
        arrival = text (rule_at s 2) rows (has_given s.rules (rule_at s 2) rows d.good refl (d.given.1.1.0 refl));
        turns = record {
          from = number most_steps (rule_at s 3) rows (omega arith) refl (has_given s.rules (rule_at s 3) rows d.good refl (d.given.1.1.1.0 refl));
          to = number most_steps (rule_at s 4) rows (omega arith) refl (has_given s.rules (rule_at s 4) rows d.good refl (d.given.1.1.1.1.0 refl));
          steps = number most_steps (rule_at s 5) rows (omega arith) refl (has_given s.rules (rule_at s 5) rows d.good refl (d.given.1.1.1.1.1.0 refl));
        };
        mem = switch (rule_at s 6) rows refl (has_default s.rules (rule_at s 6) rows d.good refl (d.filled.1.1.1.1.1.1.0 (omega arith)));
      },
    )

timeline_sure : Each (Sure (shape_at 12).rules) (shape_at 12).rules
timeline_sure = (record { known = refl; sure = refl }, (record { known = refl; sure = refl }, (record { known = refl; sure = refl }, (record { known = refl; sure = refl }, (record { known = refl; sure = refl }, tt)))))

timeline_whole : (words : List Text) → entered_fault app (Some (codes "timeline", words)) ≡ [] → IsWhole (entered app (Some (codes "timeline", words)))
timeline_whole words e =
    let s = shape_at 12 in
    let rows = rows_after s.rules [] words in
    let d = leaf s words timeline_sure refl e in (
      command.Timeline,
      refl,
      record {
        image = text (rule_at s 0) rows (has_given s.rules (rule_at s 0) rows d.good refl (d.given.0 refl));
        script = text (rule_at s 1) rows (has_given s.rules (rule_at s 1) rows d.good refl (d.given.1.0 refl));
        steps = number most_steps (rule_at s 2) rows (omega arith) refl (has_given s.rules (rule_at s 2) rows d.good refl (d.given.1.1.0 refl));
      },
    )

live_sure : Each (Sure (shape_at 13).rules) (shape_at 13).rules
live_sure = (record { known = refl; sure = refl }, (record { known = refl; sure = refl }, (record { known = refl; sure = refl }, (record { known = refl; sure = refl }, tt))))

live_whole : (words : List Text) → entered_fault app (Some (codes "live", words)) ≡ [] → IsWhole (entered app (Some (codes "live", words)))
live_whole words e =
    let s = shape_at 13 in
    let rows = rows_after s.rules [] words in
    let d = leaf s words live_sure refl e in (
      command.Live,
      refl,
      record {
        image = text (rule_at s 0) rows (has_given s.rules (rule_at s 0) rows d.good refl (d.given.0 refl));
        script = text (rule_at s 1) rows (has_given s.rules (rule_at s 1) rows d.good refl (d.given.1.0 refl));
        commands = text (rule_at s 2) rows (has_given s.rules (rule_at s 2) rows d.good refl (d.given.1.1.0 refl));
      },
    )

picture_sure : Each (Sure (shape_at 14).rules) (shape_at 14).rules
picture_sure = (record { known = refl; sure = refl }, (record { known = refl; sure = refl }, (record { known = refl; sure = refl }, (record { known = refl; sure = refl }, (record { known = refl; sure = refl }, (record { known = refl; sure = refl }, tt))))))

picture_whole : (words : List Text) → entered_fault app (Some (codes "picture", words)) ≡ [] → IsWhole (entered app (Some (codes "picture", words)))
picture_whole words e =
    let s = shape_at 14 in
    let rows = rows_after s.rules [] words in
    let d = leaf s words picture_sure refl e in (
      command.Picture,
      refl,
      record {
        image = text (rule_at s 0) rows (has_given s.rules (rule_at s 0) rows d.good refl (d.given.0 refl));
        script = text (rule_at s 1) rows (has_given s.rules (rule_at s 1) rows d.good refl (d.given.1.0 refl));
        out = text (rule_at s 2) rows (has_given s.rules (rule_at s 2) rows d.good refl (d.given.1.1.0 refl));
        steps = number most_steps (rule_at s 3) rows (omega arith) refl (has_given s.rules (rule_at s 3) rows d.good refl (d.given.1.1.1.0 refl));
      },
    )

lcov_sure : Each (Sure (shape_at 15).rules) (shape_at 15).rules
lcov_sure = (record { known = refl; sure = refl }, (record { known = refl; sure = refl }, (record { known = refl; sure = refl }, (record { known = refl; sure = refl }, (record { known = refl; sure = refl }, tt)))))

lcov_whole : (words : List Text) → entered_fault app (Some (codes "lcov", words)) ≡ [] → IsWhole (entered app (Some (codes "lcov", words)))
lcov_whole words e =
    let s = shape_at 15 in
    let rows = rows_after s.rules [] words in
    let d = leaf s words lcov_sure refl e in (
      command.Lcov,
      refl,
      record {
        app = text (rule_at s 0) rows (has_given s.rules (rule_at s 0) rows d.good refl (d.given.0 refl));
        script = text (rule_at s 1) rows (has_given s.rules (rule_at s 1) rows d.good refl (d.given.1.0 refl));
        out = text (rule_at s 2) rows (has_given s.rules (rule_at s 2) rows d.good refl (d.given.1.1.0 refl));
        steps = number most_steps (rule_at s 3) rows (omega arith) refl (has_given s.rules (rule_at s 3) rows d.good refl (d.given.1.1.1.0 refl));
      },
    )

-- `help` wants nothing
help_whole : (words : List Text) → entered_fault app (Some (codes "help", words)) ≡ [] → IsWhole (entered app (Some (codes "help", words)))
help_whole words e = (command.Help, refl, tt)

command_whole : (c : CommandName) (words : List Text) → entered_fault app (Some ((form_of c).name, words)) ≡ [] → IsWhole (entered app (Some ((form_of c).name, words)))
command_whole command.Build words e = build_whole words e
command_whole command.Run words e = run_whole words e
command_whole command.Go words e = go_whole words e
command_whole command.List words e = list_whole words e
command_whole command.Sample words e = sample_whole words e
command_whole command.Migrate words e = migrate_whole words e
command_whole command.Audit words e = audit_whole words e
command_whole command.Save words e = save_whole words e
command_whole command.Resume words e = resume_whole words e
command_whole command.Debug words e = debug_whole words e
command_whole command.Cover words e = cover_whole words e
command_whole command.Sweep words e = sweep_whole words e
command_whole command.Timeline words e = timeline_whole words e
command_whole command.Live words e = live_whole words e
command_whole command.Picture words e = picture_whole words e
command_whole command.Lcov words e = lcov_whole words e
command_whole command.Help words e = help_whole words e

-- ---- the program

-- the name of one of its commands
abbrev IsCommand : Text → Type 0
IsCommand name = (c : CommandName) × (name ≡ (form_of c).name)

top_sure : Each (Sure app.top.rules) app.top.rules
top_sure = (record { known = refl; sure = refl }, tt)

own : Each (λ n. asks_for_help app.top n.0 ≡ false → IsCommand n.0) (names_of app)
own = ((λ _. (command.Build, refl)), ((λ _. (command.Run, refl)), ((λ _. (command.Go, refl)), ((λ _. (command.List, refl)), ((λ _. (command.Sample, refl)), ((λ _. (command.Migrate, refl)), ((λ _. (command.Audit, refl)), ((λ _. (command.Save, refl)), ((λ _. (command.Resume, refl)), ((λ _. (command.Debug, refl)), ((λ _. (command.Cover, refl)), ((λ _. (command.Sweep, refl)), ((λ _. (command.Timeline, refl)), ((λ _. (command.Live, refl)), ((λ _. (command.Picture, refl)), ((λ _. (command.Lcov, refl)), ((λ _. (command.Help, refl)), tt)))))))))))))))))

named_whole : (name : Text) (words : List Text) → IsCommand name → entered_fault app (Some (name, words)) ≡ [] → IsWhole (entered app (Some (name, words)))
named_whole name words (c, is) = subst (λ n. entered_fault app (Some (n, words)) ≡ [] → IsWhole (entered app (Some (n, words)))) (sym is) (command_whole c words)

stopped : (stop : Option (Text × List Text)) → IfSome stop (λ p. IsCommand p.0) → entered_fault app stop ≡ [] → is_some (entered app stop) ≡ true
    → IsWhole (entered app stop)
stopped None is e some = cc
stopped (Some p) is e some = named_whole p.0 p.1 is e

-- where no step of clap's reading refuses the words
pub whole : (words : List Text) → has_none (fault_of hubris_app words) ≡ true → IsWhole (subcommand_of hubris_app words)
whole words accepted =
    let rest = argument_words hubris_app words in
    let stop = (walk app.top.rules (names_of app) nothing_held rest).stopped in
    let has = is_some (entered app stop) in
    let below = entered_fault app stop in
    let passed : level_fault app.top (names_of app) nothing_held rest has below ≡ [] = none_left _ accepted in
    stopped stop (stops app.top (names_of app) IsCommand top_sure own rest has below passed)
    (below_passes app.top (names_of app) IsCommand top_sure own rest has below passed)
    (wants app.top (names_of app) IsCommand top_sure own rest has below passed refl)
