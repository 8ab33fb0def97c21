use Rattle.std.proofs.Common.{◌≡◌, ◌∙◌, sym, ap, [], Option, Bor, option_map}
use Rattle.std.specs.Prelude.{unwrap_or}
use Rattle.clap.specs.Words.{Text, first_value, found_of, rows_of}
use Rattle.clap.specs.declared.parser.matches.Found.{Found}
use Rattle.clap.proofs.WalkLemmas.{first_value-rows}
use Rattle.command_line.specs.CommandLine.{text_in}
use Rattle.command_line.proofs.job.text_of.Goals as goal

-- the text that a look-up gave
found : (f : Found) (id : Text) (r : Option (Bor Text)) → option_map (λ s. s.now) r ≡ first_value f id
    → text_in id (rows_of f) ≡ unwrap_or (option_map (λ s. s.now) r) []
found f id r e = ap (λ (o : Option Text). unwrap_or o []) (sym (e ∙ first_value-rows f id))

pub returns-in-Some : goal.returns-in-Some
returns-in-Some c = let e = found (found_of c.args.matches.now) c.args.id.now c.get_str.result c.get_str.ensures in sym (rw c.in-Some.is at e)

pub returns-in-None : goal.returns-in-None
returns-in-None c = let e = found (found_of c.args.matches.now) c.args.id.now c.get_str.result c.get_str.ensures in sym (rw c.in-None.is at e)
