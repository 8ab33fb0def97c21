-- Notes in range, one more and joined, and told in parts.
use Rattle.std.proofs.Common.{ℕ, suc, zero, ◌+◌, ◌<◌, List, [], ◌∷◌, ◌++◌, length, take, get_or, Option, sym, subst, add-one, arith}
use Rattle.std.specs.Io.KnownBytes.{Appends, Keeps}
use Rattle.std.specs.Prelude.{Result, Ok, Err, MatchResult}
use Rattle.std.proofs.lemmas.List.Concat.{flat_map-append}
use Rattle.kernel_abi.specs.declared.Note.{Note}
use Rattle.trace_text.specs.Fit.{IsFit, IsFitNote, AreFit}
use Rattle.trace_text.specs.Text.{line_of}
use Rattle.board_model.specs.Run.{at_turn}
use Rattle.outside_io.specs.Outside.{AppendsFront, HasCause}
use Rattle.board_run.specs.Telling.{BreaksText, HearsText}
use Rattle.trace_text.specs.Lines.{notes_text}
use Rattle.outside_io.proofs.Pushing.{appends_more, appends_none, pushes_kept, front_more}

pub fit_joined : (a b : List (ℕ × Note)) → AreFit a → AreFit b → AreFit (a ++ b)
fit_joined [] b h k = k
fit_joined (n ∷ a) b h k = (h.0, h.1, fit_joined a b h.2 k)

fit_suc : (turn : ℕ) (notes : List Note) (i : ℕ) (d : Note) → i < length notes → IsFit turn → IsFitNote (get_or notes i d) → AreFit (at_turn turn (take i notes)) → AreFit (at_turn turn (take (suc i) notes))
fit_suc turn [] i d lt here note h = absurd (omega arith)
fit_suc turn (x ∷ xs) zero d lt here note h = (here, note, tt)
fit_suc turn (x ∷ xs) (suc i) d lt here note h = (here, h.1, fit_suc turn xs i d (omega arith) here note h.2)

pub fit_next : (turn : ℕ) (notes : List Note) (i : ℕ) (d : Note) → i < length notes → IsFit turn → IsFitNote (get_or notes i d) → AreFit (at_turn turn (take i notes)) → AreFit (at_turn turn (take (i + 1) notes))
fit_next turn notes i d lt here note h = rw add-one (fit_suc turn notes i d lt here note h)

-- told in parts
pub hears_joined : (a b c : Option (List ℕ)) (f k m : ℕ) (x y : List (ℕ × Note)) → HearsText a b f k x → HearsText b c k m y → HearsText a c f m (x ++ y)
hears_joined a b c f k m x y h i = record {
  pushed = subst (λ w. Appends a c w) (sym (flat_map-append (λ n. line_of n.0 n.1) x y)) (appends_more a b c (notes_text x) (notes_text y) h.pushed i.pushed);
  later = let p = h.later in let q = i.later in omega arith;
  fit = fit_joined x y h.fit i.fit;
}

pub breaks_after : (a b c : Option (List ℕ)) (f k m : ℕ) (x y : List (ℕ × Note)) → HearsText a b f k x → BreaksText b c k m y → BreaksText a c f m (x ++ y)
breaks_after a b c f k m x y h i = record {
  pushed = subst (λ w. AppendsFront a c w) (sym (flat_map-append (λ n. line_of n.0 n.1) x y)) (front_more a b c (notes_text x) (notes_text y) h.pushed i.pushed);
  later = let p = h.later in let q = i.later in omega arith;
  rose = let p = h.later in let q = i.rose in omega arith;
}

-- what was told is passed on, and nothing more is told
pub passed_on : {T E : Type 0} (w w' : Option (List ℕ)) (f f' : ℕ) (r : Result T E) → Keeps w w' → HasCause f f' r → MatchResult r (λ _. HearsText w w' f f' []) (λ _. BreaksText w w' f f' [])
passed_on {T} {E} w w' f f' (Ok v) kept h = record { pushed = pushes_kept {T = T} {E = E} w w w' [] (Ok v) (appends_none w) kept; later = h.later; fit = tt }
passed_on {T} {E} w w' f f' (Err e) kept h = record { pushed = pushes_kept {T = T} {E = E} w w w' [] (Err e) (appends_none w) kept; later = h.later; rose = h.failed }
