use Rattle.std.proofs.Common.{◌≡◌, ◌∙◌, ℕ, Bool, List, [], ◌∷◌, length, Option, refl, sym, ap, arith}
use Rattle.std.specs.Prelude.{is_some, nat_lt, slice_get}
use Rattle.std.proofs.lemmas.Bool.{lt-ltb}
use Rattle.kernel_abi.specs.declared.Kind.{Kind}
use Rattle.kernel_abi.specs.declared.Kind.TheVariants as kind
use Rattle.task_table.specs.model.Asking.{asks}
use Rattle.board_core.proofs.list.asks.Goals as goal

some_waits : (queue : List ℕ) → is_some (slice_get queue 0) ≡ nat_lt 0 (length queue)
some_waits [] = refl
some_waits (byte ∷ bytes) = sym (lt-ltb 0 (length (byte ∷ bytes)) (omega arith))

-- a port asks where its first byte is there
port_asks : (its k : Kind) (queue : List ℕ) (first : Option ℕ) (there : Bool) → k ≡ its → k ≡ kind.Port → first ≡ slice_get queue 0 → there ≡ is_some first → there ≡ asks its queue
port_asks its k queue first there is port at some = some ∙ ap is_some at ∙ some_waits queue ∙ ap (λ (x : Kind). asks x queue) (sym port ∙ is)

pub returns-in-Port : goal.returns-in-Port
returns-in-Port boxes c = port_asks _ c.kind_of.result _ c.queued_in.result c.is_some.result c.kind_of.ensures c.in-Port.is c.queued_in.ensures c.is_some.ensures
