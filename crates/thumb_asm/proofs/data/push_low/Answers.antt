use Rattle.std.proofs.Common.{◌≡◌, ◌++◌, ◌∙◌, ap, sym, subst, Result, Ok, Err, OnOk, List, ℕ, ◌∷◌, [], ◌%◌}
use Rattle.thumb_asm.specs.Meaning.{low_first}
use Rattle.thumb_encode.specs.Codes.{scale}
use Rattle.thumb_asm.specs.declared.Stop.{Stop}
use Rattle.thumb_asm.proofs.Values.{low_one, low_four, after}
use Rattle.thumb_asm.proofs.data.push_low.Goals as goal

one_more : (n : ℕ) (old new : List ℕ) (r : Result (Unit {0}) Stop) → OnOk r (new ≡ old ++ (n % 256 ∷ [])) → OnOk r (new ≡ old ++ low_first 1 n)
one_more n old new (Ok u) h = h ∙ ap (λ t. old ++ t) (low_one n)
one_more n old new (Err x) h = tt

pub returns-in-Byte-clause-ok : goal.returns-in-Byte-clause-ok
returns-in-Byte-clause-ok c = subst (λ s. OnOk c.push.result (c.push.new.out.items ≡ c.args.out.now.items ++ low_first (scale s) c.args.number)) (sym c.in-Byte.is) (one_more c.args.number c.args.out.now.items c.push.new.out.items c.push.result c.push.ensures.ok)

pub returns-in-Ok-clause-ok : goal.returns-in-Ok-clause-ok
returns-in-Ok-clause-ok c = subst (λ s. OnOk c.push_half-in-Word-2.result (c.push_half-in-Word-2.new.out.items ≡ c.args.out.now.items ++ low_first (scale s) c.args.number)) (sym c.in-Word.is) (after c.args.out.now.items c.push_half-in-Word.new.out.items c.push_half-in-Word-2.new.out.items (low_first 2 c.args.number) (low_first 2 _) (low_first 4 c.args.number) c.push_half-in-Word-2.result c.in-Ok.ensures.ok c.push_half-in-Word-2.ensures.ok (low_four c.args.number))
