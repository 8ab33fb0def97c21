use Rattle.std.proofs.Common.{◌≡◌, ◌∙◌, ◌<◌, ◌≤◌, ap, refl, sym, ℕ, List, Option, Some, None, Bor, length, get_or, nat_lt, rules}
use Rattle.std.specs.Prelude.{slice_get, is_some, IfSome}
use Rattle.std.specs.Option.{option_copied}
use Rattle.std.proofs.lemmas.Option.{slice_get_read, slice_get_past}
use Rattle.task_table.specs.declared.Line.{Line}
use Rattle.task_table.proofs.kernel.Kernel.line.Goals as goal

-- reading an item of a list with a default gives the item, if there is one
read : (ls : List Line) (n : ℕ) (o : Option (Bor Line)) → is_some o ≡ nat_lt n (length ls) → IfSome o (λ x. x.now ≡ get_or ls n x.now) → option_copied o ≡ slice_get ls n
read ls n (Some x) there is =
    let within : n < length ls = search rules in
    sym (slice_get_read ls (length ls) n x.now refl within is)
read ls n None there is =
    let past : length ls ≤ n = search rules in
    sym (slice_get_past ls n past)

pub returns : goal.returns
returns c = λ g t h. c.copied.ensures ∙ read c.args.self.now.lines c.args.number c.get.result c.get.ensures.lookup.0 c.get.ensures.lookup.1 ∙ ap (λ (ls : List Line). slice_get ls c.args.number) h.lines
