use Rattle.std.proofs.Common.{◌≡◌, ◌∙◌, true, false, cond, Some, is_some, string_bytes, subst, sym}
use Rattle.std.specs.BTreeMap.{get_by_text}
use Rattle.std.specs.Str.{bytes_eq}
use Rattle.std.proofs.lemmas.Map.Text.{btree_map_updates_text}
use Rattle.app_toml.specs.Sites.{task_of}
use Rattle.app_toml.proofs.Gathered.{kept_added, kept_again, kept_is}
use Rattle.app_toml.proofs.known.keep_task.Goals as goal

pub returns-then-contains_key : goal.returns-then-contains_key
returns-then-contains_key c = λ tasks keeps name.
    let own = string_bytes c.args.task.now.name in
    let there : is_some (get_by_text c.args.kept.now own) ≡ true =
    subst (λ k. is_some (get_by_text c.args.kept.now k) ≡ true) c.as_str.ensures.value (sym c.contains_key.ensures ∙ c.if-contains_key.true) in
    kept_again (get_by_text c.args.kept.now name) name tasks (task_of c.args.task.now)
    (sym (kept_is (get_by_text c.args.kept.now own) own tasks (keeps own)) ∙ there) (keeps name)

pub returns : goal.returns
returns c = λ tasks keeps name.
    let own = string_bytes c.args.task.now.name in
    let absent : is_some (get_by_text c.args.kept.now own) ≡ false =
    subst (λ k. is_some (get_by_text c.args.kept.now k) ≡ false) c.as_str.ensures.value (sym c.contains_key.ensures ∙ c.if-contains_key.false) in
    let key : string_bytes c.in_ok-from_str.field-0 ≡ own = c.in_ok-from_str.ensures.ok ∙ c.as_str-2.ensures.value in
    kept_added (get_by_text c.args.kept.now) (get_by_text c.insert.new.self) c.in_ok-names.names name tasks (task_of c.args.task.now)
    (subst (λ k. (q : _) → get_by_text c.insert.new.self q ≡ cond (bytes_eq k q) (Some c.in_ok-names.names) (get_by_text c.args.kept.now q)) key
    (btree_map_updates_text (string_bytes c.in_ok-from_str.field-0) c.args.kept.now c.insert.new.self (Some c.in_ok-names.names) c.in_ok-insert.ensures.updates))
    (sym (kept_is (get_by_text c.args.kept.now own) own tasks (keeps own)) ∙ absent)
    c.in_ok-names.ensures (keeps name)
