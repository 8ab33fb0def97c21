-- The lines of a sweep as they are pushed: one line whenever a stretch ends.
use Rattle.std.proofs.Common.{◌≡◌, ◌∙◌, ℕ, suc, ◌+◌, ◌-◌, ◌<◌, Bool, true, false, cond, List, [], ◌++◌, Option, refl, sym, ap, subst, arith, append_assoc}
use Rattle.std.specs.Prelude.{Result, Ok, Err, bytes_eq}
use Rattle.std.specs.Io.KnownBytes.{Appends}
use Rattle.std.proofs.lemmas.Slice.Eq.{bytes_eq-Decides}
use Rattle.outside_io.specs.Outside.{AppendsFront, Pushes}
use Rattle.outside_io.proofs.Pushing.{appends_more, appends_none, front_more, front_wider, pushes_more}
use Rattle.sweep_core.specs.Stretches.{ended}
use Rattle.sweep_core.specs.Swept.{lines, lines_from, stretch_line}

module _ (outcomes : ℕ → List ℕ) (base : List ℕ) where
  -- where the stretch begins that an arrival time with this outcome is of
  abbrev pub begins : ℕ → List ℕ → ℕ → List ℕ → ℕ
  begins first o time next = cond (bytes_eq next o) first time

  line_more : (first : ℕ) (o : List ℕ) (time left : ℕ) →
      lines_from outcomes base first o time (suc left) ≡ ended base first o time (outcomes time) ++ lines_from outcomes base (begins first o time (outcomes time)) (outcomes time) (time + 1) left
  unfolding lines_from
  line_more first o time left = by (bytes_eq (outcomes time) o) refl
    where
      by : (b : Bool) → bytes_eq (outcomes time) o ≡ b →
          cond b (lines_from outcomes base first o (time + 1) left) (stretch_line base first (time - 1) o ++ lines_from outcomes base time (outcomes time) (time + 1) left)
          ≡ cond b [] (stretch_line base first (time - 1) o) ++ lines_from outcomes base (cond b first time) (outcomes time) (time + 1) left
      by true e = ap (λ (p : List ℕ). lines_from outcomes base first p (time + 1) left) (sym ((bytes_eq-Decides (outcomes time) o).0 e))
      by false e = refl

  line_last : (first : ℕ) (o : List ℕ) (time : ℕ) → lines_from outcomes base first o time 0 ≡ stretch_line base first (time - 1) o
  unfolding lines_from
  line_last first o time = refl

  module _ (from to : ℕ) where
    abbrev whole : List ℕ
    whole = lines outcomes base from (to - from)

    -- the stretches that ended before an arrival time were pushed; the one under way began there, with this outcome
    pub record ArePushed (time first : ℕ) (o : List ℕ) (w w' : Option (List ℕ)) : Type 0 where
      pub front : List ℕ
      pub pushed : Appends w w' front
      pub rest : lines outcomes base from (to - from) ≡ front ++ lines_from outcomes base first o time (to - time)

    pub none_pushed : (o : List ℕ) (w : Option (List ℕ)) → from < to → o ≡ outcomes from → ArePushed (from + 1) from o w w
    none_pushed o w lt is =
        let left : to - from ≡ suc (to - (from + 1)) = omega (arith, lt) in
        record {
          front = [];
          pushed = appends_none w;
          rest = ap (λ n. lines outcomes base from n) left ∙ ap (λ (p : List ℕ). lines_from outcomes base from p (from + 1) (to - (from + 1))) (sym is);
        }

    next_rest : (time first : ℕ) (o next : List ℕ) (w w' : Option (List ℕ)) → time < to → next ≡ outcomes time → (h : ArePushed time first o w w') →
        whole ≡ h.front ++ (ended base first o time next ++ lines_from outcomes base (begins first o time next) next (time + 1) (to - (time + 1)))
    next_rest time first o next w w' lt is h =
        let left : to - time ≡ suc (to - (time + 1)) = omega (arith, lt) in
        h.rest
        ∙ ap (λ n. h.front ++ lines_from outcomes base first o time n) left
        ∙ ap (λ (l : List ℕ). h.front ++ l) (line_more first o time (to - (time + 1)))
        ∙ ap (λ (p : List ℕ). h.front ++ (ended base first o time p ++ lines_from outcomes base (begins first o time p) p (time + 1) (to - (time + 1)))) (sym is)

    pub more_pushed : (time first : ℕ) (o next : List ℕ) (w w' w'' : Option (List ℕ)) → time < to → next ≡ outcomes time → ArePushed time first o w w' → Appends w' w'' (ended base first o time next) →
        ArePushed (time + 1) (begins first o time next) next w w''
    more_pushed time first o next w w' w'' lt is h more = record {
      front = h.front ++ ended base first o time next;
      pushed = appends_more w w' w'' h.front (ended base first o time next) h.pushed more;
      rest = next_rest time first o next w w' lt is h ∙ sym (append_assoc h.front (ended base first o time next) (lines_from outcomes base (begins first o time next) next (time + 1) (to - (time + 1))));
    }

    -- a push that fails
    pub push_failed : (time first : ℕ) (o next : List ℕ) (w w' w'' : Option (List ℕ)) → time < to → next ≡ outcomes time → ArePushed time first o w w' → AppendsFront w' w'' (ended base first o time next) →
        AppendsFront w w'' (lines outcomes base from (to - from))
    push_failed time first o next w w' w'' lt is h failed =
        let rest = lines_from outcomes base (begins first o time next) next (time + 1) (to - (time + 1)) in
        subst (λ t. AppendsFront w w'' t) (sym (next_rest time first o next w w' lt is h))
        (front_more w w' w'' h.front (ended base first o time next ++ rest) h.pushed (front_wider w' w'' (ended base first o time next) rest failed))

    -- the last of them
    pub last_pushed : {T E : Type 0} (first : ℕ) (o : List ℕ) (w w' w'' : Option (List ℕ)) (r : Result T E) → ArePushed to first o w w' → Pushes w' w'' (stretch_line base first (to - 1) o) r →
        Pushes w w'' (lines outcomes base from (to - from)) r
    last_pushed first o w w' w'' r h last =
        let none : to - to ≡ 0 = omega arith in
        subst (λ t. Pushes w w'' t r) (sym (h.rest ∙ ap (λ n. h.front ++ lines_from outcomes base first o to n) none ∙ ap (λ (l : List ℕ). h.front ++ l) (line_last first o to)))
        (pushes_more w w' w'' h.front (stretch_line base first (to - 1) o) r h.pushed last)

    pub last_failed : (time first : ℕ) (o : List ℕ) (w w' w'' : Option (List ℕ)) → time ≡ to → ArePushed time first o w w' → AppendsFront w' w'' (stretch_line base first (to - 1) o) → AppendsFront w w'' (lines outcomes base from (to - from))
    last_failed time first o w w' w'' is h last = last_pushed {T = Unit {0}} {E = Unit {0}} first o w w' w'' (Err tt) (subst (λ n. ArePushed n first o w w') is h) last

    pub last_done : (time first : ℕ) (o : List ℕ) (w w' w'' : Option (List ℕ)) → time ≡ to → ArePushed time first o w w' → Appends w' w'' (stretch_line base first (to - 1) o) → Appends w w'' (lines outcomes base from (to - from))
    last_done time first o w w' w'' is h last = last_pushed {T = Unit {0}} {E = Unit {0}} first o w w' w'' (Ok tt) (subst (λ n. ArePushed n first o w w') is h) last

    -- by other names of the stretch
    pub pushed_so : (time first first' : ℕ) (o o' : List ℕ) (w w' : Option (List ℕ)) → first' ≡ first → o' ≡ o → ArePushed time first o w w' → ArePushed time first' o' w w'
    pushed_so time first first' o o' w w' is same h =
        subst (λ (p : List ℕ). ArePushed time first' p w w') (sym same) (subst (λ n. ArePushed time n o w w') (sym is) h)

  -- it begins at that arrival time at the latest
  pub begins_before : (first : ℕ) (o : List ℕ) (time : ℕ) (next : List ℕ) → first < time → begins first o time next < time + 1
  begins_before first o time next lt = by (bytes_eq next o)
    where
      by : (b : Bool) → cond b first time < time + 1
      by true = omega arith
      by false = omega arith
