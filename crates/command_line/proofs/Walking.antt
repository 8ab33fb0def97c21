-- A walk over words that are not refused keeps the rows good, and stops only at a command's own
-- subcommand.
use Rattle.std.proofs.Common.{◌≡◌, ◌&&◌, ap, subst, refl, cond, codes, ℕ, zero, suc, Bool, true, false, not, List, [], ◌∷◌, length, drop, Option, Some, None, is_some, option_map}
use Rattle.std.specs.Bool.{⊤}
use Rattle.std.specs.Prelude.{IfSome, encode_utf8, slice_get}
use Rattle.std.specs.List.{find, fold}
use Rattle.std.specs.Option.{option_map_or, unwrap_or}
use Rattle.std.specs.Str.{bytes_eq, chars}
use Rattle.clap.specs.Lexer.{long_of, short_of}
use Rattle.clap.specs.Walk.{Held, Names, Outcome, Rule, Step, Text, Waiting, Walk, after_flag, after_step, answers_to, arg_by_id, arg_by_index, arg_by_long, arg_by_short, attached_value, bundle_met, bundle_step, done, flag_met, idle, is_pending, long_met, long_or_other, next, option, option_met, option_word, plain, plain_word, positional, positional_held, pushed, reacted, refused, settled, short_met, short_or_plain, subcommand, subcommand_met, subcommand_or_other, takes_several, takes_values, to_positional, trailing, value, waits, walked, walked_from, word_met}
use Rattle.clap.specs.Simple.{Shape}
use Rattle.clap.specs.Kinds.{Kinds, or_else}
use Rattle.clap.specs.Faults.{bundle_step_fault, flag_word_fault, flags_fault, long_fault, option_fault, other_fault, positional_fault, react_fault, settle_fault, short_fault, step_fault, stray_fault, turn_fault, walk_fault, word_fault}
use Rattle.clap.specs.declared.error.kind.ErrorKind.TheVariants as kind
use Rattle.command_line.proofs.Rows.{Each, Good, Sure, find_has, neither, react_good, settle_good}

-- the name is that of the subcommand that answers with help
abbrev pub asks_for_help : Shape → Text → Bool
asks_for_help s name = bytes_eq name (codes "help") && not s.disable_help_subcommand

module _ (c : List Rule) (again : Bool) (sure : Each (Sure c) c) where
  -- the rows are good
  abbrev Holds : Held → Type 0
  Holds h = Each (Good c) h.rows

  -- an argument that was found is one of the command's
  abbrev Known : Option Rule → Type 0
  Known o = IfSome o (Sure c)

  known : (p : Rule → Bool) → Known (find p c)
  known p = go (find p c) refl
    where
      go : (o : Option Rule) → find p c ≡ o → Known o
      go None e = tt
      go (Some a) e = (find_has (Sure c) p c a e sure).0

  option_good : (a : Rule) (v : Option Text) (h : Held) → Sure c a → option_fault c again a v h ≡ [] → Holds h → Holds (option_met c a v h).0
  option_good a (Some v) h is e good = react_good c again a (v ∷ []) h sure is e good
  option_good a None h is e good = settle_good c again h sure e good

  flag_good : (a : Rule) (v : Option Text) (h : Held) → Sure c a → cond (is_some v) (kind.TooManyValues ∷ []) (react_fault c again a [] h) ≡ [] → Holds h
      → Holds (flag_met c a v h).0
  flag_good a (Some v) h is e good = good
  flag_good a None h is e good = react_good c again a [] h sure is e good

  long_good : (o : Option Rule) (v : Option Text) (h : Held) → Known o → long_fault c again o v h ≡ [] → Holds h → Holds (long_met c o v h).0
  long_good None v h is e good = good
  long_good (Some a) v h is e good = go (takes_values a) e
    where
      go : (b : Bool) → cond b (option_fault c again a v h) (cond (is_some v) (kind.TooManyValues ∷ []) (react_fault c again a [] h)) ≡ []
          → Holds (cond b (option_met c a v h) (flag_met c a v h)).0
      go true e = option_good a v h is e good
      go false e = flag_good a v h is e good

  -- ---- a bundle of flags

  short_good : (o : Option Rule) (rest : Text) (h : Held) (fault : Held → Kinds) (met : Held → Held × Outcome)
      → ((x : Held) → fault x ≡ [] → Holds x → Holds (met x).0) → Known o → short_fault c again o rest h fault ≡ [] → Holds h
      → Holds (short_met c o rest h met).0
  short_good None rest h fault met then is e good = good
  short_good (Some a) rest h fault met then is e good = go (takes_values a) e
    where
      go : (b : Bool) → cond b (option_fault c again a (attached_value rest) h) (or_else (react_fault c again a [] h) (fault (reacted c a [] h))) ≡ []
          → Holds (cond b (option_met c a (attached_value rest) h) (met (reacted c a [] h))).0
      go true e = option_good a (attached_value rest) h is e good
      go false e =
          let parts = neither (react_fault c again a [] h) _ e in
          then (reacted c a [] h) parts.1 (react_good c again a [] h sure is parts.0 good)

  step_good : (x : Option ℕ) (flags : Text) (skip : ℕ) (so_far : Outcome) (h : Held) (fault : Text → ℕ → Held → Kinds) (met : Text → ℕ → Outcome → Held → Held × Outcome)
      → ((t : Text) (n : ℕ) (o : Outcome) (y : Held) → fault t n y ≡ [] → Holds y → Holds (met t n o y).0)
      → bundle_step_fault c again x flags skip h fault ≡ [] → Holds h → Holds (bundle_step c x flags skip so_far h met).0
  step_good None flags skip so_far h fault met then e good = good
  step_good (Some x) flags zero so_far h fault met then e good =
      let rest = drop (length (encode_utf8 x)) flags in
      short_good (arg_by_short c x) rest h (fault rest 0) (met rest 0 done) (then rest 0 done) (known _) e good
  step_good (Some x) flags (suc skip) so_far h fault met then e good = then _ skip so_far h e good

  bundle_good : (k : ℕ) (flags : Text) (skip : ℕ) (so_far : Outcome) (h : Held) → flags_fault c again k flags skip h ≡ [] → Holds h
      → Holds (bundle_met c k flags skip so_far h).0
  unfolding flags_fault bundle_met
  bundle_good zero flags skip so_far h e good = good
  bundle_good (suc k) flags skip so_far h e good =
      step_good (slice_get (chars flags) 0) flags skip so_far h (flags_fault c again k) (bundle_met c k) (bundle_good k) e good

  -- ---- a word

  module _ (Q : Text → Type 0) where
    -- a step that stops, stops at a name with Q
    abbrev StopsAt : Step → Type 0
    StopsAt (subcommand name) = Q name
    StopsAt _ = ⊤

    abbrev Steps : Held × Step → Type 0
    Steps p = Holds p.0 × StopsAt p.1

    plain_good : (waiting : Waiting) (word : Text) (h : Held) → Holds h → Steps (plain_word c waiting word h)
    plain_good idle word h good = (good, tt)
    plain_good positional word h good = (good, tt)
    plain_good (option id) word h good = go (arg_by_id c id)
      where
        go : (o : Option Rule) → Steps ((option_word o id word h).0, next (option_word o id word h).1)
        go None = (good, tt)
        go (Some a) = (good, tt)

    after_good : (waiting : Waiting) (word : Text) (h : Held) (o : Outcome) → Holds h → Steps (after_flag c waiting word h o)
    after_good waiting word h done good = (good, tt)
    after_good waiting word h (waits id) good = (good, tt)
    after_good waiting word h plain good = plain_good waiting word h good
    after_good waiting word h refused good = plain_good waiting word h good

    other_good : (waiting : Waiting) (word : Text) (p : Option (Text × Option Text)) (h : Held) → flag_word_fault c again p word h ≡ [] → Holds h
        → Steps (long_or_other c waiting word p h)
    other_good waiting word (Some p) h e good = after_good waiting word _ _ (long_good (arg_by_long c p.0) p.1 h (known _) e good)
    other_good waiting word None h e good = go (short_of word) e
      where
        go : (o : Option Text) → option_map_or (λ flags. flags_fault c again (length flags) flags h.skip (record h { skip = 0 })) o [] ≡ []
            → Steps (short_or_plain c waiting word o h)
        go (Some flags) e = after_good waiting word _ _ (bundle_good (length flags) flags h.skip plain (record h { skip = 0 }) e good)
        go None e = plain_good waiting word h good

-- one word, where each subcommand that is not refused as a call for help has Q
module _ (s : Shape) (names : Names) (Q : Text → Type 0) (sure : Each (Sure s.rules) s.rules)
    (own : Each (λ n. asks_for_help s n.0 ≡ false → Q n.0) names) where
  abbrev Fine : Held × Step → Type 0
  Fine = Steps s.rules s.args_override_self sure Q

  not_help : (name : Text) (word : Text) (h : Held) → (asks_for_help s name ≡ false → Q name) → other_fault s (Some name) word h ≡ [] → Q name
  not_help name word h q e = go (asks_for_help s name) refl e
    where
      go : (b : Bool) → asks_for_help s name ≡ b → cond b (kind.DisplayHelp ∷ kind.InvalidSubcommand ∷ []) [] ≡ [] → Q name
      go true t e = cc
      go false t e = q t

  -- the subcommand that a word names is one of the names
  met : (word : Text) (name : Text) (waiting : Waiting) → subcommand_met names waiting word ≡ Some name → asks_for_help s name ≡ false → Q name
  met word name positional e = cc
  met word name (option id) e = cc
  met word name idle e = go (find (answers_to word) names) refl e
    where
      go : (o : Option (Text × List Text)) → find (answers_to word) names ≡ o → option_map (λ n. n.0) o ≡ Some name → asks_for_help s name ≡ false → Q name
      go None is e = cc
      go (Some n) is e =
          let has = (find_has (λ x. asks_for_help s x.0 ≡ false → Q x.0) (answers_to word) names n is own).0 in
          subst (λ (t : Text). asks_for_help s t ≡ false → Q t) (ap (λ o. unwrap_or o n.0) e) has

  word_good : (is_trailing : Bool) (waiting : Waiting) (position : ℕ) (word : Text) (h : Held) → word_fault s names is_trailing waiting word h ≡ []
      → Each (Good s.rules) h.rows → Fine (word_met s.rules names is_trailing waiting position word h)
  word_good true waiting position word h e good = (good, tt)
  word_good false waiting position word h e good = go (subcommand_met names waiting word) refl e
    where
      plain_or_dashes : (b : Bool) → cond b [] (flag_word_fault s.rules s.args_override_self (long_of word) word h) ≡ []
          → Fine (cond b (h, trailing position) (long_or_other s.rules waiting word (long_of word) h))
      plain_or_dashes true e = (good, tt)
      plain_or_dashes false e = other_good s.rules s.args_override_self sure Q waiting word (long_of word) h e good

      go : (o : Option Text) → subcommand_met names waiting word ≡ o → other_fault s o word h ≡ [] → Fine (subcommand_or_other s.rules o waiting position word h)
      go (Some name) is e = (good, not_help name word h (met word name waiting is) e)
      go None is e = plain_or_dashes (bytes_eq word (45 ∷ 45 ∷ [])) e

  -- ---- the walk

  -- the rows are good, and the walk has stopped only at a name with Q
  abbrev Sound : Walk → Type 0
  Sound w = Each (Good s.rules) w.held.rows × IfSome w.stopped (λ p. Q p.0)

  positional_good : (a : Rule) (word : Text) (h : Held) → positional_fault s.rules s.args_override_self a h ≡ [] → Each (Good s.rules) h.rows
      → Each (Good s.rules) (positional_held s.rules a word h).rows
  positional_good a word h e good = go (is_pending a h.pending && takes_several a) e
    where
      go : (b : Bool) → cond b [] (settle_fault s.rules s.args_override_self h) ≡ [] → Each (Good s.rules) (pushed a.id word (cond b h (settled s.rules h))).rows
      go true e = good
      go false e = settle_good s.rules s.args_override_self h sure e good

  after_step_good : (w : Walk) (word : Text) (h : Held) (step : Step) → step_fault s w.position h step ≡ [] → IfSome w.stopped (λ p. Q p.0) → Fine (h, step)
      → Sound (after_step s.rules word w h step)
  after_step_good w word h (next waiting) e stopped fine = (fine.0, stopped)
  after_step_good w word h (trailing position) e stopped fine = (fine.0, stopped)
  after_step_good w word h (subcommand name) e stopped fine = fine
  after_step_good w word h value e stopped fine = go (arg_by_index s.rules w.position) e
    where
      go : (o : Option Rule) → option_map_or (λ a. positional_fault s.rules s.args_override_self a h) o (stray_fault s) ≡ []
          → Sound (to_positional s.rules o word w h)
      go None e = (fine.0, stopped)
      go (Some a) e = (positional_good a word h e fine.0, tt)

  turn_good : (w : Walk) (word : Text) → turn_fault s names w word ≡ [] → Sound w → Sound (walked s.rules names w word)
  unfolding walked
  turn_good w word e sound = go w.stopped e sound.1
    where
      met_step : Held × Step
      met_step = word_met s.rules names w.is_trailing w.waiting w.position word w.held

      go : (o : Option (Text × List Text))
          → cond (is_some o) [] (or_else (word_fault s names w.is_trailing w.waiting word w.held) (step_fault s w.position met_step.0 met_step.1)) ≡ []
          → IfSome o (λ p. Q p.0) → Sound (walked_from s.rules names o w word)
      go (Some p) e q = (sound.0, q)
      go None e q =
          let parts = neither (word_fault s names w.is_trailing w.waiting word w.held) _ e in
          after_step_good w word _ _ parts.1 sound.1 (word_good w.is_trailing w.waiting w.position word w.held parts.0 sound.0)

  pub walk_good : (w : Walk) (words : List Text) → walk_fault s names w words ≡ [] → Sound w → Sound (fold (walked s.rules names) w words)
  unfolding walk_fault
  walk_good w [] e sound = sound
  walk_good w (word ∷ rest) e sound =
      let parts = neither (turn_fault s names w word) _ e in
      walk_good (walked s.rules names w word) rest parts.1 (turn_good w word parts.0 sound)
