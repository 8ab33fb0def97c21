-- The bytes that a session takes of a file, read by read.
use Rattle.std.proofs.Common.{◌≡◌, ◌∙◌, ℕ, ◌+◌, ◌-◌, ◌<◌, ◌≤◌, List, [], ◌++◌, length, take, drop, Option, Some, None, refl, sym, ap, subst, arith}
use Rattle.std.proofs.lemmas.List.{append-nil, length-append, length-take, take-append-drop, take_all}
use Rattle.std.proofs.Math.Seq.{take-add}
use Rattle.outside_io.specs.Outside.{IsFront, IsPart, WhereSeen, raised}
use Rattle.outside_io.proofs.Pieces.{read_more}
use Rattle.debug_core.specs.Live.{HasGiven, MayBeTaken, live_limit}

-- the bytes before a place, of contents that may be seen
pub record IsRead (contents : Option (List ℕ)) (place : ℕ) (text : List ℕ) : Type 0 where
  pub size : length text ≡ place
  pub front : WhereSeen contents (λ all. (text ≡ take place all) × (place ≤ length all))

pub read_none : (contents : Option (List ℕ)) → IsRead contents 0 []
read_none contents = record { size = refl; front = λ all e. (refl, omega arith) }

pub read_on : (contents : Option (List ℕ)) (place n : ℕ) (text buf : List ℕ) → n ≤ length buf → IsRead contents place text → WhereSeen contents (λ all. IsPart all place n buf) → IsRead contents (place + n) (text ++ take n buf)
read_on contents place n text buf within h part = record {
  size = omega (arith, h.size, length-append text (take n buf), length-take n buf);
  front = λ all e. let f = h.front all e in read_more all text buf place place n f.0 f.1 refl (part all e);
}

-- they may be the front of what is taken
pub read_begun : (contents : Option (List ℕ)) (place : ℕ) (text : List ℕ) → IsRead contents place text → WhereSeen contents (IsFront text)
read_begun contents place text h = λ all e. (drop place all, sym (ap (λ (t : List ℕ). t ++ drop place all) (h.front all e).0 ∙ take-append-drop place all))

-- with something behind them, all of it
pub read_within : (contents : Option (List ℕ)) (place : ℕ) (text : List ℕ) → place ≤ live_limit → IsRead contents place text → (rest : List ℕ) × MayBeTaken contents (text ++ rest)
read_within None place text le h = ([], record { few = omega (arith, h.size, ap length (append-nil text)); front = λ all e. absurd (cc) })
read_within (Some all) place text le h =
    let f = h.front all refl in
    let rest : List ℕ = take (live_limit - place) (drop place all) in
    let whole : place + (live_limit - place) ≡ live_limit = omega arith in (
      rest,
      record {
        few = omega (arith, h.size, length-append text rest, length-take (live_limit - place) (drop place all));
        front = λ other e.
            let same : all ≡ other = cc in
            ap (λ (t : List ℕ). t ++ rest) f.0 ∙ sym (take-add place (live_limit - place) all) ∙ ap (λ n. take n all) whole ∙ ap (take live_limit) same;
      },
    )

-- where they end, or there are no more to take
pub read_end : (contents : Option (List ℕ)) (place : ℕ) (text buf : List ℕ) → place ≤ live_limit → 0 < length buf → IsRead contents place text → WhereSeen contents (λ all. IsPart all place 0 buf) → MayBeTaken contents text
read_end contents place text buf le room h part = record {
  few = omega (arith, h.size);
  front = λ all e.
      let over = (part all e).at_end refl room in
      (h.front all e).0 ∙ take_all place all over ∙ sym (take_all live_limit all (omega arith));
}

pub read_most : (contents : Option (List ℕ)) (place : ℕ) (text : List ℕ) → place ≡ live_limit → IsRead contents place text → MayBeTaken contents text
read_most contents place text most h = record {
  few = omega (arith, h.size);
  front = λ all e. (h.front all e).0 ∙ ap (λ n. take n all) most;
}

-- ---- how many they are

pub given_none : (given : ℕ) → HasGiven given given 0
given_none given = record { least = omega arith; most = omega arith }

pub given_more : (before given after place n : ℕ) → HasGiven before given place → after ≡ raised given n → HasGiven before after (place + n)
given_more before given after place n h rose = record { least = omega (arith, h.least, rose); most = omega (arith, h.most, rose) }

-- a read that failed, and one that gave nothing
pub given_same : (before given after place : ℕ) → HasGiven before given place → after ≡ given → HasGiven before after place
given_same before given after place h same = record { least = omega (arith, h.least, same); most = omega (arith, h.most, same) }

pub given_end : (before given after place n : ℕ) → HasGiven before given place → after ≡ raised given n → n ≡ 0 → HasGiven before after place
given_end before given after place n h rose none = record { least = omega (arith, h.least, rose, none); most = omega (arith, h.most, rose, none) }

pub given_all : (contents : Option (List ℕ)) (before after place : ℕ) (text : List ℕ) → IsRead contents place text → HasGiven before after place → HasGiven before after (length text)
given_all contents before after place text h given = subst (HasGiven before after) (sym h.size) given
