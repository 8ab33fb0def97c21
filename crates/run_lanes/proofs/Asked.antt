-- The first task that has a call open, found index by index.
use Rattle.std.proofs.Common.{◌≡◌, ◌<◌, ◌≤◌, ℕ, ◌+◌, Bool, true, false, List, ◌∷◌, refl, sym, ◌∙◌, length, get_or, drop, drop-cons, add-one, if◌then◌else◌, None, ap}
use Rattle.std.proofs.lemmas.List.{drop_all}
use Rattle.lane_picture.specs.declared.parts.TaskCalls.{TaskCalls}
use Rattle.run_lanes.specs.Told.{by, client_of, has_asked}

next : (cs : List TaskCalls) (i : ℕ) (d : TaskCalls) → i < length cs → drop i cs ≡ get_or cs i d ∷ drop (i + 1) cs
next cs i d lt = rw (add-one, drop-cons cs i d) refl

asked_at : (call a i : ℕ) (cs : List TaskCalls) (d : TaskCalls) → i < length cs →
    client_of call a (drop i cs) ≡ (if has_asked call (get_or cs i d).asked then by a (get_or cs i d).asked else client_of call (a + 1) (drop (i + 1) cs))
unfolding client_of
asked_at call a i cs d lt = ap (client_of call a) (next cs i d lt)

-- a loop up to the i-th: it is that one, it is none so far, it is none at all
pub asked_found : (call i : ℕ) (cs : List TaskCalls) (d : TaskCalls) → i < length cs → client_of call 0 cs ≡ client_of call i (drop i cs) → has_asked call (get_or cs i d).asked ≡ true → by i (get_or cs i d).asked ≡ client_of call 0 cs
asked_found call i cs d lt so_far is =
    sym (so_far ∙ asked_at call i i cs d lt ∙ ap (λ (b : Bool). if b then by i (get_or cs i d).asked else client_of call (i + 1) (drop (i + 1) cs)) is)

pub asked_passed : (call i : ℕ) (cs : List TaskCalls) (d : TaskCalls) → i < length cs → client_of call 0 cs ≡ client_of call i (drop i cs) → has_asked call (get_or cs i d).asked ≡ false → client_of call 0 cs ≡ client_of call (i + 1) (drop (i + 1) cs)
asked_passed call i cs d lt so_far is =
    so_far ∙ asked_at call i i cs d lt ∙ ap (λ (b : Bool). if b then by i (get_or cs i d).asked else client_of call (i + 1) (drop (i + 1) cs)) is

pub asked_none : (call i : ℕ) (cs : List TaskCalls) → length cs ≤ i → client_of call 0 cs ≡ client_of call i (drop i cs) → None ≡ client_of call 0 cs
unfolding client_of
asked_none call i cs le so_far = sym (so_far ∙ ap (client_of call i) (drop_all i cs le))
