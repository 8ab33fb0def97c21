-- Words against the fields of a form, and the place of a word.
use Rattle.std.proofs.Common.{◌≡◌, ℕ, suc, ◌<◌, Bool, false, List, [], ◌∷◌, length, get_or, drop, refl, ap, ◌∙◌}
use Rattle.std.proofs.Math.Seq.{drop-cons}
use Rattle.trace_audit.specs.declared.forms.Field.{Field}
use Rattle.trace_audit.specs.declared.forms.Field.TheVariants as field
use Rattle.trace_audit.specs.Fields.{are_of}

cut_short : (f : Field) (fs : List Field) (text : Bool) → are_of (f ∷ fs) text [] ≡ false
unfolding are_of
cut_short f fs text = refl

pub too_few : (fields : List Field) (i : ℕ) (text : Bool) → i < length fields → are_of (drop i fields) text [] ≡ false
too_few fields i text lt = ap (λ fs. are_of fs text []) (drop-cons fields i field.Number lt) ∙ cut_short (get_or fields i field.Number) (drop (suc i) fields) text
