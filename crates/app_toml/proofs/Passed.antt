-- What a first refusal says where there is none.
use Rattle.std.proofs.Common.{◌≡◌, ◌<◌, ℕ, zero, suc, List, [], ◌∷◌, length, get_or, Bool, true, false, Option, None, Some, refl, arith}
use Rattle.toml.specs.Data.{Members}
use Rattle.app_toml.specs.Keys.{KeyRow, key_fault, keys_fault}
use Rattle.app_toml.specs.Places.{Refusal, Site, or_else, refuse_if}

pub both_none : (a b : Option Refusal) → or_else a b ≡ None → (a ≡ None) × (b ≡ None)
both_none None b e = (refl, e)
both_none (Some r) b e = cc

pub not_refused : (test : Bool) (cause : ℕ) (site : Site) → refuse_if test cause site ≡ None → test ≡ false
not_refused true cause site e = cc
not_refused false cause site e = refl

-- the key at an index
pub key_none : (keys : List KeyRow) (site : Site) (ms : Members) (k : ℕ) (d : KeyRow) → k < length keys
    → keys_fault keys site ms ≡ None → key_fault (get_or keys k d) site ms ≡ None
key_none [] site ms k d lt e = absurd (omega (arith, lt))
key_none (key ∷ keys) site ms zero d lt e = (both_none (key_fault key site ms) _ e).0
key_none (key ∷ keys) site ms (suc k) d lt e =
    key_none keys site ms k d (omega (arith, lt)) (both_none (key_fault key site ms) _ e).1
