-- The samples of three seeds, compared with those of another implementation of the same rules: each program
-- by a checksum of its bytes, each table by its fields, and all events by a checksum.
use Rattle.std.proofs.Common.{◌≡◌, ℕ, zero, suc, ◌+◌, ◌*◌, ◌/◌, ◌%◌, ◌^◌, List, [], ◌∷◌, map, refl, ap, ◌∙◌, sym, arith, true, codes, Some}
use Rattle.std.specs.Fmt.{digits}
use Rattle.std.specs.List.{range_with_len}
use Rattle.run_script.specs.declared.events.Event.TheVariants.{Feed, Irq, Tick}
use Rattle.run_script.specs.Scripts.{Listed}
use Rattle.sample_gen.specs.Sources.{supervisor_lines, server_lines, client_lines}
use Rattle.sample_gen.specs.Draws.{next, number, draw}
use Rattle.sample_gen.specs.Sample.{event, events_to, sample_app, sample_sources, sample_script}

hash_from : ℕ → List ℕ → ℕ
hash_from x [] = x
hash_from x (b ∷ bs) = hash_from ((x * 31 + b + 1) % 2 ^ 32) bs

hash : List ℕ → ℕ
hash bs = hash_from 0 bs

-- a tick counts as line 32, and so would a byte for a device, of which a sample has none
code_of : Listed → ℕ
code_of (turn, Irq line) = turn * 64 + line
code_of (turn, Tick) = turn * 64 + 32
code_of (turn, Feed device byte) = turn * 64 + 32

hash_events : ℕ → List Listed → ℕ
hash_events x [] = x
hash_events x (e ∷ es) = hash_events ((x * 31 + code_of e + 1) % 2 ^ 32) es

-- the events, one after another, from the number before them on
walk : ℕ → ℕ → ℕ → List Listed
walk x k zero = []
walk x k (suc n) = (16 * k + next x / 65536 % 16, Irq (next (next x) / 65536 % 8)) ∷ walk (next (next x)) (k + 1) n

walk_is : (seed n k m : ℕ) → m ≡ 125 + 2 * k → walk (number seed m) k n ≡ map (event seed) (range_with_len k n)
unfolding walk next number draw
walk_is seed zero k m e = refl
walk_is seed (suc n) k m e =
    let a : suc m ≡ 126 + 2 * k = omega arith in
    let b : suc (suc m) ≡ 127 + 2 * k = omega arith in
    let rest = map (event seed) (range_with_len (k + 1) n) in
    ap (λ es. (16 * k + draw seed (suc m) 16, Irq (draw seed (suc (suc m)) 8)) ∷ es) (walk_is seed n (k + 1) (suc (suc m)) (omega arith))
    ∙ ap (λ j. (16 * k + draw seed j 16, Irq (draw seed (suc (suc m)) 8)) ∷ rest) a
    ∙ ap (λ j. (16 * k + draw seed (126 + 2 * k) 16, Irq (draw seed j 8)) ∷ rest) b

walk_all : (seed n : ℕ) → events_to seed n ≡ walk (number seed 127) 1 n
unfolding events_to
walk_all seed n = sym (walk_is seed n 1 127 refl)

-- seed 1
priorities_1 : map (λ t. t.priority) (sample_app 1).tasks ≡ 0 ∷ 1 ∷ 1 ∷ 1 ∷ 1 ∷ 1 ∷ 1 ∷ 1 ∷ 4 ∷ 5 ∷ 4 ∷ 5 ∷ 4 ∷ 4 ∷ 3 ∷ 5 ∷ 2 ∷ 3 ∷ 5 ∷ 4 ∷ 2 ∷ 3 ∷ 3 ∷ 5 ∷ 2 ∷ 5 ∷ 2 ∷ 2 ∷ 2 ∷ 3 ∷ 5 ∷ 2 ∷ []
unfolding next number draw
priorities_1 = refl

sources_1 : map hash (sample_sources 1) ≡ 24680053 ∷ 2271236844 ∷ 1760470934 ∷ 3507039772 ∷ 3563978729 ∷ 543210662 ∷ 2271236844 ∷ 257391466 ∷ 1677122351 ∷ 3075144076 ∷ 388880140 ∷ 1399463142 ∷ 2479796849 ∷ 3318624529 ∷ 3865414930 ∷ 2764449865 ∷ 2940115089 ∷ 3932176558 ∷ 2009420974 ∷ 2852906058 ∷ 1516363155 ∷ 3933882833 ∷ 3557267272 ∷ 963359825 ∷ 3630381947 ∷ 2978630869 ∷ 968343566 ∷ 580303372 ∷ 2534927343 ∷ 2409302291 ∷ 2749641237 ∷ 2776296945 ∷ []
unfolding next number draw digits hash hash_from supervisor_lines server_lines client_lines
sources_1 = refl

first_events_1 : map code_of (events_to 1 6) ≡ 1540 ∷ 2372 ∷ 3077 ∷ 4610 ∷ 5186 ∷ 6597 ∷ []
unfolding next number draw events_to code_of
first_events_1 = refl

all_events_1 : hash_events 0 (events_to 1 4096) ≡ 2718819140
unfolding number walk next code_of hash_events
all_events_1 = ap (hash_events 0) (walk_all 1 4096) ∙ refl

-- seed 305419896
priorities_305419896 : map (λ t. t.priority) (sample_app 305419896).tasks ≡ 0 ∷ 1 ∷ 1 ∷ 1 ∷ 1 ∷ 1 ∷ 1 ∷ 1 ∷ 2 ∷ 2 ∷ 2 ∷ 4 ∷ 5 ∷ 5 ∷ 3 ∷ 3 ∷ 3 ∷ 3 ∷ 5 ∷ 5 ∷ 3 ∷ 4 ∷ 2 ∷ 3 ∷ 2 ∷ 3 ∷ 4 ∷ 2 ∷ 3 ∷ 2 ∷ 5 ∷ 5 ∷ []
unfolding next number draw
priorities_305419896 = refl

sources_305419896 : map hash (sample_sources 305419896) ≡ 24680053 ∷ 997037615 ∷ 1225917854 ∷ 1531590695 ∷ 2538513384 ∷ 257391466 ∷ 3421069131 ∷ 3296702189 ∷ 627534845 ∷ 1497675641 ∷ 2951962169 ∷ 2056087570 ∷ 3806408448 ∷ 236709558 ∷ 59338059 ∷ 344008416 ∷ 2230689587 ∷ 337323605 ∷ 826540367 ∷ 3728595472 ∷ 940744435 ∷ 2111098228 ∷ 3551640463 ∷ 606008624 ∷ 1707792788 ∷ 2021578828 ∷ 2682860660 ∷ 3531325836 ∷ 2717466538 ∷ 3570814670 ∷ 2673650286 ∷ 2253161214 ∷ []
unfolding next number draw digits hash hash_from supervisor_lines server_lines client_lines
sources_305419896 = refl

first_events_305419896 : map code_of (events_to 305419896 6) ≡ 1088 ∷ 2178 ∷ 3588 ∷ 4354 ∷ 5441 ∷ 7042 ∷ []
unfolding next number draw events_to code_of
first_events_305419896 = refl

all_events_305419896 : hash_events 0 (events_to 305419896 4096) ≡ 2696984880
unfolding number walk next code_of hash_events
all_events_305419896 = ap (hash_events 0) (walk_all 305419896 4096) ∙ refl

-- seed 4294967295
priorities_4294967295 : map (λ t. t.priority) (sample_app 4294967295).tasks ≡ 0 ∷ 1 ∷ 1 ∷ 1 ∷ 1 ∷ 1 ∷ 1 ∷ 1 ∷ 2 ∷ 2 ∷ 3 ∷ 4 ∷ 2 ∷ 5 ∷ 5 ∷ 3 ∷ 5 ∷ 3 ∷ 2 ∷ 5 ∷ 5 ∷ 5 ∷ 5 ∷ 3 ∷ 5 ∷ 4 ∷ 3 ∷ 5 ∷ 4 ∷ 2 ∷ 5 ∷ 3 ∷ []
unfolding next number draw
priorities_4294967295 = refl

sources_4294967295 : map hash (sample_sources 4294967295) ≡ 24680053 ∷ 2500117083 ∷ 3831255269 ∷ 3563978729 ∷ 400301064 ∷ 2146869902 ∷ 1493194394 ∷ 3545436073 ∷ 2371612854 ∷ 2565295956 ∷ 4026158775 ∷ 1429404633 ∷ 302498132 ∷ 285490231 ∷ 2840748204 ∷ 2272889717 ∷ 887071092 ∷ 1601159955 ∷ 3975155646 ∷ 1459962205 ∷ 593198096 ∷ 3456141207 ∷ 2815860369 ∷ 2901422807 ∷ 4288708471 ∷ 504104792 ∷ 2460302262 ∷ 4193577073 ∷ 2525079858 ∷ 2041893455 ∷ 1403373044 ∷ 4257562843 ∷ []
unfolding next number draw digits hash hash_from supervisor_lines server_lines client_lines
sources_4294967295 = refl

first_events_4294967295 : map code_of (events_to 4294967295 6) ≡ 1280 ∷ 2560 ∷ 4036 ∷ 4289 ∷ 5316 ∷ 6467 ∷ []
unfolding next number draw events_to code_of
first_events_4294967295 = refl

all_events_4294967295 : hash_events 0 (events_to 4294967295 4096) ≡ 1364889566
unfolding number walk next code_of hash_events
all_events_4294967295 = ap (hash_events 0) (walk_all 4294967295 4096) ∙ refl

-- the tables, which no seed changes but for priorities
tables : (seed : ℕ) → (map (λ t. t.name) (sample_app seed).tasks ≡ codes "t0" ∷ codes "t1" ∷ codes "t2" ∷ codes "t3" ∷ codes "t4" ∷ codes "t5" ∷ codes "t6" ∷ codes "t7" ∷ codes "t8" ∷ codes "t9" ∷ codes "t10" ∷ codes "t11" ∷ codes "t12" ∷ codes "t13" ∷ codes "t14" ∷ codes "t15" ∷ codes "t16" ∷ codes "t17" ∷ codes "t18" ∷ codes "t19" ∷ codes "t20" ∷ codes "t21" ∷ codes "t22" ∷ codes "t23" ∷ codes "t24" ∷ codes "t25" ∷ codes "t26" ∷ codes "t27" ∷ codes "t28" ∷ codes "t29" ∷ codes "t30" ∷ codes "t31" ∷ [])
    × (map (λ t. t.source) (sample_app seed).tasks ≡ codes "t0.s" ∷ codes "t1.s" ∷ codes "t2.s" ∷ codes "t3.s" ∷ codes "t4.s" ∷ codes "t5.s" ∷ codes "t6.s" ∷ codes "t7.s" ∷ codes "t8.s" ∷ codes "t9.s" ∷ codes "t10.s" ∷ codes "t11.s" ∷ codes "t12.s" ∷ codes "t13.s" ∷ codes "t14.s" ∷ codes "t15.s" ∷ codes "t16.s" ∷ codes "t17.s" ∷ codes "t18.s" ∷ codes "t19.s" ∷ codes "t20.s" ∷ codes "t21.s" ∷ codes "t22.s" ∷ codes "t23.s" ∷ codes "t24.s" ∷ codes "t25.s" ∷ codes "t26.s" ∷ codes "t27.s" ∷ codes "t28.s" ∷ codes "t29.s" ∷ codes "t30.s" ∷ codes "t31.s" ∷ [])
    × (map (λ t. t.flash) (sample_app seed).tasks ≡ 256 ∷ 256 ∷ 256 ∷ 256 ∷ 256 ∷ 256 ∷ 256 ∷ 256 ∷ 256 ∷ 256 ∷ 256 ∷ 256 ∷ 256 ∷ 256 ∷ 256 ∷ 256 ∷ 256 ∷ 256 ∷ 256 ∷ 256 ∷ 256 ∷ 256 ∷ 256 ∷ 256 ∷ 256 ∷ 256 ∷ 256 ∷ 256 ∷ 256 ∷ 256 ∷ 256 ∷ 256 ∷ [])
    × (map (λ t. t.ram) (sample_app seed).tasks ≡ 256 ∷ 256 ∷ 256 ∷ 256 ∷ 256 ∷ 256 ∷ 256 ∷ 256 ∷ 256 ∷ 256 ∷ 256 ∷ 256 ∷ 256 ∷ 256 ∷ 256 ∷ 256 ∷ 256 ∷ 256 ∷ 256 ∷ 256 ∷ 256 ∷ 256 ∷ 256 ∷ 256 ∷ 256 ∷ 256 ∷ 256 ∷ 256 ∷ 256 ∷ 256 ∷ 256 ∷ 256 ∷ [])
    × (map (λ t. t.stack) (sample_app seed).tasks ≡ 64 ∷ 64 ∷ 64 ∷ 64 ∷ 64 ∷ 64 ∷ 64 ∷ 64 ∷ 64 ∷ 64 ∷ 64 ∷ 64 ∷ 64 ∷ 64 ∷ 64 ∷ 64 ∷ 64 ∷ 64 ∷ 64 ∷ 64 ∷ 64 ∷ 64 ∷ 64 ∷ 64 ∷ 64 ∷ 64 ∷ 64 ∷ 64 ∷ 64 ∷ 64 ∷ 64 ∷ 64 ∷ [])
    × (map (λ t. t.start) (sample_app seed).tasks ≡ true ∷ true ∷ true ∷ true ∷ true ∷ true ∷ true ∷ true ∷ true ∷ true ∷ true ∷ true ∷ true ∷ true ∷ true ∷ true ∷ true ∷ true ∷ true ∷ true ∷ true ∷ true ∷ true ∷ true ∷ true ∷ true ∷ true ∷ true ∷ true ∷ true ∷ true ∷ true ∷ [])
    × (map (λ t. t.notifications) (sample_app seed).tasks ≡ (codes "fault" ∷ []) ∷ (codes "go" ∷ []) ∷ (codes "go" ∷ []) ∷ (codes "go" ∷ []) ∷ (codes "go" ∷ []) ∷ (codes "go" ∷ []) ∷ (codes "go" ∷ []) ∷ (codes "go" ∷ []) ∷ (codes "go" ∷ []) ∷ (codes "go" ∷ []) ∷ (codes "go" ∷ []) ∷ (codes "go" ∷ []) ∷ (codes "go" ∷ []) ∷ (codes "go" ∷ []) ∷ (codes "go" ∷ []) ∷ (codes "go" ∷ []) ∷ (codes "go" ∷ []) ∷ (codes "go" ∷ []) ∷ (codes "go" ∷ []) ∷ (codes "go" ∷ []) ∷ (codes "go" ∷ []) ∷ (codes "go" ∷ []) ∷ (codes "go" ∷ []) ∷ (codes "go" ∷ []) ∷ (codes "go" ∷ []) ∷ (codes "go" ∷ []) ∷ (codes "go" ∷ []) ∷ (codes "go" ∷ []) ∷ (codes "go" ∷ []) ∷ (codes "go" ∷ []) ∷ (codes "go" ∷ []) ∷ (codes "go" ∷ []) ∷ [])
    × (map (λ i. i.line) (sample_app seed).interrupts ≡ 0 ∷ 1 ∷ 2 ∷ 3 ∷ 4 ∷ 5 ∷ 6 ∷ [])
    × (map (λ i. i.task) (sample_app seed).interrupts ≡ codes "t1" ∷ codes "t2" ∷ codes "t3" ∷ codes "t4" ∷ codes "t5" ∷ codes "t6" ∷ codes "t7" ∷ [])
    × (map (λ i. i.notification) (sample_app seed).interrupts ≡ codes "go" ∷ codes "go" ∷ codes "go" ∷ codes "go" ∷ codes "go" ∷ codes "go" ∷ codes "go" ∷ [])
    × ((sample_app seed).fault ≡ codes "fault")
    × ((sample_app seed).flash ≡ 8192) × ((sample_app seed).ram ≡ 8192)
unfolding digits
tables seed = (refl, refl, refl, refl, refl, refl, refl, refl, refl, refl, refl, refl, refl)

pub period : (seed : ℕ) → (sample_script seed).every ≡ Some 64
period seed = refl
