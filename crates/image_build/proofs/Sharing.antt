-- The symbols of a source: its own ones over those that all sources share.
use Rattle.std.proofs.Common.{◌≡◌, ◌∙◌, ℕ, List, [], ◌∷◌, ◌++◌, Some, cond, bytes_eq, refl, sym, ap}
use Rattle.std.proofs.Math.Path.{fun_ext}
use Rattle.app_toml.specs.Apps.{AppData}
use Rattle.thumb_asm.specs.Chars.{entry_at}
use Rattle.thumb_asm.specs.Meaning.{Env, Names}
use Rattle.thumb_asm.specs.Operands.{or_else}
use Rattle.thumb_asm.specs.Passes.{over}
use Rattle.image_build.specs.Built.{given}
use Rattle.image_build.specs.Symbols.{own_symbols, shared_symbols}
use Rattle.thumb_asm.proofs.Labels.{or_push}

entry_both : (es fs : Names) (q : List ℕ) → entry_at (es ++ fs) q ≡ or_else (entry_at es q) (entry_at fs q)
unfolding entry_at
entry_both [] fs q = refl
entry_both (e ∷ es) fs q = ap (λ t. cond (bytes_eq q e.0) (Some e.1) t) (entry_both es fs q) ∙ or_push (bytes_eq q e.0) e.1 (entry_at es q) (entry_at fs q)

pub given_is : (app : AppData) (i : ℕ) (own : Names) (shared : Env) → own ≡ own_symbols app i → shared ≡ entry_at (shared_symbols app)
    → over (entry_at own) shared ≡ given app i
given_is app i own shared is same =
    ap (λ (ns : Names). over (entry_at ns) shared) is ∙ ap (λ (f : Env). over (entry_at (own_symbols app i)) f) same
    ∙ sym (fun_ext (λ q. entry_both (own_symbols app i) (shared_symbols app) q))
