use Rattle.std.proofs.Common.{◌≡◌, subst, IfOk, IfErr, ℕ}
use Rattle.std.specs.BTreeMap.{get_by_text}
use Rattle.text_lines.specs.Text.{lines_of}
use Rattle.thumb_asm.specs.Assembly.{Assembles}
use Rattle.thumb_asm.specs.Causes.{first_cause}
use Rattle.thumb_asm.specs.Meaning.{Env}
use Rattle.thumb_asm.specs.Passes.{Refuses, names_of, over, symbol_values, values_of}
use Rattle.image_build.specs.Built.{given}
use Rattle.image_build.specs.Accepted.{described, next_task}
use Rattle.image_build.proofs.Sharing.{given_is}
use Rattle.image_build.proofs.accepting.assemble_next.Goals as goal

is_given : (c : goal.After-assemble_with) → over (symbol_values c.args.own.now) (values_of c.args.builder.now.shared) ≡ given (described c.args.builder.now) (next_task c.args.builder.now)
is_given c = given_is (described c.args.builder.now) (next_task c.args.builder.now) (names_of c.args.own.now) (values_of c.args.builder.now.shared) c.requires.own c.args.builder.now.indexed

pub returns-clause-assembled : goal.returns-clause-assembled
returns-clause-assembled c =
    subst (λ (at : ℕ). IfOk c.assemble_with.result (λ o. Assembles (lines_of c.args.bytes.now) at (given (described c.args.builder.now) (next_task c.args.builder.now)) o.bytes.items (get_by_text o.labels))) c.flash_base-base.ensures.base
    (subst (λ (f : Env). IfOk c.assemble_with.result (λ o. Assembles (lines_of c.args.bytes.now) c.flash_base-base.result f o.bytes.items (get_by_text o.labels))) (is_given c) c.assemble_with.ensures.assembled)

pub returns-clause-refused : goal.returns-clause-refused
returns-clause-refused c =
    subst (λ (at : ℕ). IfErr c.assemble_with.result (λ e. Refuses e (first_cause (lines_of c.args.bytes.now) at (given (described c.args.builder.now) (next_task c.args.builder.now))))) c.flash_base-base.ensures.base
    (subst (λ (f : Env). IfErr c.assemble_with.result (λ e. Refuses e (first_cause (lines_of c.args.bytes.now) c.flash_base-base.result f))) (is_given c) c.assemble_with.ensures.refused)
