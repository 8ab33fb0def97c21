use Rattle.std.proofs.Common.{◌≡◌, ◌∙◌, ap, subst, IfOk}
use Rattle.app_toml.specs.Held.{app_of}
use Rattle.thumb_asm.specs.Chars.{entry_at}
use Rattle.thumb_asm.specs.Meaning.{Names}
use Rattle.thumb_asm.specs.Passes.{names_of, values_of}
use Rattle.image_build.specs.Symbols.{shared_symbols}
use Rattle.image_build.proofs.symbols.shared_symbols.Goals as goal

pub returns : goal.returns
returns c =
    let is : names_of c.as_slice.result.now ≡ shared_symbols (app_of c.args.app.now) = ap names_of c.as_slice.ensures.value ∙ c.in_ok-entries.ensures in
    subst (λ (ns : Names). IfOk c.of.result (λ s. values_of s ≡ entry_at ns)) is c.of.ensures
