-- The first task whose last offer was a call, found index by index.
use Rattle.std.proofs.Common.{◌≡◌, ◌<◌, ◌≤◌, ℕ, ◌+◌, Bool, true, false, List, ◌∷◌, refl, sym, ◌∙◌, length, get_or, drop, drop-cons, add-one, if◌then◌else◌, Option, ap}
use Rattle.std.proofs.lemmas.List.{drop_all}
use Rattle.run_lanes.specs.declared.lanes.Offer.{Offer}
use Rattle.run_lanes.specs.Timeline.{client_from, is_of_call, server_in, server_thread_of, thread_of}

next : (os : List (Option Offer)) (i : ℕ) (d : Option Offer) → i < length os → drop i os ≡ get_or os i d ∷ drop (i + 1) os
next os i d lt = rw (add-one, drop-cons os i d) refl

pub client_at : (call a i : ℕ) (os : List (Option Offer)) (d : Option Offer) → i < length os →
    client_from call a (drop i os) ≡ (if is_of_call call (get_or os i d) then thread_of a else client_from call (a + 1) (drop (i + 1) os))
unfolding client_from
client_at call a i os d lt = ap (client_from call a) (next os i d lt)

pub server_at : (call i : ℕ) (os : List (Option Offer)) (d : Option Offer) → i < length os →
    server_in call (drop i os) ≡ (if is_of_call call (get_or os i d) then server_thread_of (get_or os i d) else server_in call (drop (i + 1) os))
unfolding server_in
server_at call i os d lt = ap (server_in call) (next os i d lt)

-- a loop up to the i-th: it is that one, it is none so far, it is none at all
pub client_found : (call i : ℕ) (os : List (Option Offer)) (d : Option Offer) → i < length os → client_from call 0 os ≡ client_from call i (drop i os) → is_of_call call (get_or os i d) ≡ true → thread_of i ≡ client_from call 0 os
client_found call i os d lt so_far is =
    sym (so_far ∙ client_at call i i os d lt ∙ ap (λ (b : Bool). if b then thread_of i else client_from call (i + 1) (drop (i + 1) os)) is)

pub client_passed : (call i : ℕ) (os : List (Option Offer)) (d : Option Offer) → i < length os → client_from call 0 os ≡ client_from call i (drop i os) → is_of_call call (get_or os i d) ≡ false → client_from call 0 os ≡ client_from call (i + 1) (drop (i + 1) os)
client_passed call i os d lt so_far is =
    so_far ∙ client_at call i i os d lt ∙ ap (λ (b : Bool). if b then thread_of i else client_from call (i + 1) (drop (i + 1) os)) is

pub client_none : (call i : ℕ) (os : List (Option Offer)) → length os ≤ i → client_from call 0 os ≡ client_from call i (drop i os) → 0 ≡ client_from call 0 os
unfolding client_from
client_none call i os le so_far = sym (so_far ∙ ap (client_from call i) (drop_all i os le))

pub server_found : (call i : ℕ) (os : List (Option Offer)) (d : Option Offer) → i < length os → server_in call os ≡ server_in call (drop i os) → is_of_call call (get_or os i d) ≡ true → server_thread_of (get_or os i d) ≡ server_in call os
server_found call i os d lt so_far is =
    sym (so_far ∙ server_at call i os d lt ∙ ap (λ (b : Bool). if b then server_thread_of (get_or os i d) else server_in call (drop (i + 1) os)) is)

pub server_passed : (call i : ℕ) (os : List (Option Offer)) (d : Option Offer) → i < length os → server_in call os ≡ server_in call (drop i os) → is_of_call call (get_or os i d) ≡ false → server_in call os ≡ server_in call (drop (i + 1) os)
server_passed call i os d lt so_far is =
    so_far ∙ server_at call i os d lt ∙ ap (λ (b : Bool). if b then server_thread_of (get_or os i d) else server_in call (drop (i + 1) os)) is

pub server_none : (call i : ℕ) (os : List (Option Offer)) → length os ≤ i → server_in call os ≡ server_in call (drop i os) → 0 ≡ server_in call os
unfolding server_in
server_none call i os le so_far = sym (so_far ∙ ap (server_in call) (drop_all i os le))
