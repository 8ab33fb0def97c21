use Rattle.std.proofs.Common.{◌≡◌, ◌∙◌, ◌||◌, not, true, string_bytes, subst}
use Rattle.std.specs.BTreeSet.{contains_text}
use Rattle.std.specs.Str.{bytes_eq}
use Rattle.std.proofs.lemmas.Map.Text.{btree_set_updates_text}
use Rattle.app_toml.proofs.Gathered.{as_or}
use Rattle.app_toml.proofs.known.learn.Goals as goal

pub returns : goal.returns
returns c = record {
  new = subst (λ t. c.in_ok-added.added ≡ not (contains_text c.args.known.now t)) c.in_ok-from_str.ensures.ok c.in_ok-added.ensures.added;
  known = λ q.
      subst (λ t. contains_text c.insert.new.self q ≡ (bytes_eq t q || contains_text c.args.known.now q)) c.in_ok-from_str.ensures.ok
      (btree_set_updates_text (string_bytes c.in_ok-from_str.field-0) c.args.known.now c.insert.new.self true c.in_ok-added.ensures.updates q
      ∙ as_or (bytes_eq (string_bytes c.in_ok-from_str.field-0) q) (contains_text c.args.known.now q));
}
