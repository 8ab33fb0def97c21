use Rattle.std.proofs.Common.{◌≡◌, ◌∙◌, ◌++◌, ◌∷◌, [], ◌<◌, ◌≤◌, ℕ, Bool, true, false, List, length, cond, refl, sym, ap, arith}
use Rattle.board_core.specs.fast.Breakpoints.{stands}
use Rattle.debug_core.specs.declared.answer.Answer.{Answer}
use Rattle.debug_core.specs.declared.answer.Answer.TheVariants.{Full, Set}
use Rattle.debug_core.specs.Session.{is_full}
use Rattle.debug_core.proofs.Others.{has_none, has_room, set_again}
use Rattle.debug_core.proofs.breakpoints.set.Goals as goal

told : (at : ℕ) (full is : Bool) → full ≡ is → ◌≡◌ {A = Answer} (cond is Full (Set at)) (cond full Full (Set at))
told at full is e = sym (ap (λ (b : Bool). cond b Full (Set at)) e)

kept : (bs more : List ℕ) (stand full s f : Bool) → stand ≡ s → full ≡ f → cond s bs (cond f bs more) ≡ cond stand bs (cond full bs more)
kept bs more stand full s f p q = sym (λ i. cond (p i) bs (cond (q i) bs more))

pub returns-then-stands-clause-answer : goal.returns-then-stands-clause-answer
returns-then-stands-clause-answer c =
    let bs = c.args.breakpoints.now.items in
    let value = c.as_slice.ensures.value in
    let here = ap (λ (xs : List ℕ). stands xs c.args.at) (sym value) ∙ sym c.stands.ensures ∙ c.if-stands.true in
    let fits : length c.as_slice.result.now ≤ 16 = c.as_slice.ensures.fits in
    let few : length bs ≤ 16 = omega (arith, ap length value) in
    told c.args.at (is_full bs c.args.at) false (set_again bs c.args.at few here)

pub returns-in-Ok-clause-answer : goal.returns-in-Ok-clause-answer
returns-in-Ok-clause-answer c =
    let bs = c.args.breakpoints.now.items in
    let none = ap (λ (xs : List ℕ). stands xs c.args.at) (sym c.as_slice.ensures.value) ∙ sym c.stands.ensures ∙ c.if-stands.false in
    let few : length bs < 16 = c.in-Ok.ensures.variant.0 refl in
    told c.args.at (is_full bs c.args.at) false (has_room bs c.args.at few none)

pub returns-in-Ok-clause-after : goal.returns-in-Ok-clause-after
returns-in-Ok-clause-after c =
    let bs = c.args.breakpoints.now.items in
    let none = ap (λ (xs : List ℕ). stands xs c.args.at) (sym c.as_slice.ensures.value) ∙ sym c.stands.ensures ∙ c.if-stands.false in
    let few : length bs < 16 = c.in-Ok.ensures.variant.0 refl in
    c.in-Ok.ensures.ok ∙ kept bs (bs ++ c.args.at ∷ []) (stands bs c.args.at) (is_full bs c.args.at) false false none (has_room bs c.args.at few none)

pub returns-in-Err-clause-answer : goal.returns-in-Err-clause-answer
returns-in-Err-clause-answer c =
    let bs = c.args.breakpoints.now.items in
    let none = ap (λ (xs : List ℕ). stands xs c.args.at) (sym c.as_slice.ensures.value) ∙ sym c.stands.ensures ∙ c.if-stands.false in
    let full : length bs ≡ 16 = c.in-Err.ensures.full in
    told c.args.at (is_full bs c.args.at) true (has_none bs c.args.at (omega arith) none)

pub returns-in-Err-clause-after : goal.returns-in-Err-clause-after
returns-in-Err-clause-after c =
    let bs = c.args.breakpoints.now.items in
    let none = ap (λ (xs : List ℕ). stands xs c.args.at) (sym c.as_slice.ensures.value) ∙ sym c.stands.ensures ∙ c.if-stands.false in
    let full : length bs ≡ 16 = c.in-Err.ensures.full in
    ap (λ v. v.items) c.in-Err.ensures.err ∙ kept bs (bs ++ c.args.at ∷ []) (stands bs c.args.at) (is_full bs c.args.at) false true none (has_none bs c.args.at (omega arith) none)
