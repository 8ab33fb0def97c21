-- Sources are accepted one after another: all of them, or those before the first that is refused.
use Rattle.std.proofs.Common.{◌≡◌, ◌∙◌, ℕ, suc, ◌+◌, ◌≤◌, ◌<◌, List, [], ◌∷◌, ◌++◌, length, get_or, take, sym, ap, subst, arith}
use Rattle.std.proofs.Math.Seq.{take-suc}
use Rattle.std.proofs.lemmas.List.{get_or-take, length-take-le, take_all}
use Rattle.app_toml.specs.Apps.{AppData}
use Rattle.image_build.specs.Building.{HasRoom, IsAccepted, IsAcceptedSource, Refuses, RefusesSource, AcceptsBelow}
use Rattle.image_build.specs.Built.{source_at}
use Rattle.image_build.specs.Accepted.{HasAccepted, described, next_task}
use Rattle.image_build.specs.declared.builder.Builder.{Builder}
use Rattle.image_build.specs.declared.fault.BuildFault.{BuildFault}
use Rattle.image_build.specs.declared.fault.BuildFault.TheVariants as fault

-- ---- the first k sources

below_first : (app : AppData) (all : List (List ℕ)) (k : ℕ) → k ≤ length all → AcceptsBelow app (take k all) (length (take k all)) → AcceptsBelow app all k
below_first app all k le h = λ i lt.
    subst (IsAcceptedSource app i) (get_or-take k all i [] lt) (h i (omega (arith, lt, length-take-le k all le)))

pub next_is : (all : List (List ℕ)) (k : ℕ) (b : Builder) → k ≤ length all → HasAccepted (take k all) b → next_task b ≡ k
next_is all k b le h = h.next ∙ length-take-le k all le

pub one_more : (all : List (List ℕ)) (k : ℕ) (source : List ℕ) (b : Builder) → k < length all → source ≡ get_or all k []
    → HasAccepted (take k all ++ source ∷ []) b → HasAccepted (take (k + 1) all) b
one_more all k source b lt at h =
    let next : suc k ≡ k + 1 = omega arith in
    subst (λ (xs : List (List ℕ)). HasAccepted xs b) (
    ap (λ (s : List ℕ). take k all ++ s ∷ []) at ∙ sym (take-suc all k [] lt) ∙ ap (λ (n : ℕ). take n all) next
    ) h

pub each_accepted : (all : List (List ℕ)) (k : ℕ) (b : Builder) → length all ≡ k → HasAccepted (take k all) b → HasAccepted all b
each_accepted all k b done h = subst (λ (xs : List (List ℕ)). HasAccepted xs b) (take_all k all (omega (arith, done))) h

pub all_accepted : (app : AppData) (all : List (List ℕ)) (b : Builder) → described b ≡ app → length all ≡ length app.tasks → HasAccepted all b → IsAccepted app all
all_accepted app all b is count h = subst (λ (a : AppData). IsAccepted a all) is (record {
  room = b.laid.room;
  accepted = λ i lt. h.holds.accepted i (omega (arith, lt, count, ap (λ (a : AppData). length a.tasks) is));
})

-- ---- the first that is refused

refuses_source : (app : AppData) (all : List (List ℕ)) (k : ℕ) (f : BuildFault) → HasRoom app → k < length app.tasks → AcceptsBelow app all k
    → RefusesSource app k (source_at all k) f → Refuses app all f
refuses_source app all k (fault.Flash needed) room lt below r = absurd r
refuses_source app all k (fault.Ram needed) room lt below r = absurd r
refuses_source app all k (fault.Source task cause line) room lt below r = (room, (k, lt, below, r))
refuses_source app all k (fault.Code task bytes) room lt below r = (room, (k, lt, below, r))
refuses_source app all k fault.Memory room lt below r = r

pub refuses_next : (app : AppData) (all : List (List ℕ)) (k : ℕ) (b : Builder) (source : List ℕ) (f : BuildFault) → described b ≡ app → k < length all
    → length all ≡ length app.tasks → source ≡ get_or all k [] → HasAccepted (take k all) b → RefusesSource (described b) (next_task b) source f → Refuses app all f
refuses_next app all k b source f is lt count at h r =
    let le : k ≤ length all = omega (arith, lt) in
    let left : k < length (described b).tasks = omega (arith, lt, count, ap (λ (a : AppData). length a.tasks) is) in
    subst (λ (a : AppData). Refuses a all f) is (
    refuses_source (described b) all k f b.laid.room left (below_first (described b) all k le h.holds.accepted)
    (subst (λ (s : List ℕ). RefusesSource (described b) k s f) at (subst (λ (n : ℕ). RefusesSource (described b) n source f) (next_is all k b le h) r))
    )
