use Rattle.std.proofs.Common.{◌≡◌, ◌+◌, sym, ◌∙◌, arith, ap, refl, subst, length, ◌++◌, [], Some, None, true, IfSome, List, ℕ, Option}
use Rattle.std.specs.BTreeMap.{get_by_text}
use Rattle.thumb_asm.specs.Causes.{first_group}
use Rattle.thumb_asm.specs.Chars.{is_name, entry_at}
use Rattle.text_lines.specs.Text.{lines_of}
use Rattle.thumb_asm.specs.Parts.{Parts, parts}
use Rattle.thumb_asm.specs.Meaning.{own_label, Env}
use Rattle.thumb_asm.specs.Passes.{given_in, with_label}
use Rattle.thumb_asm.proofs.Labels.{empty_index, if_some_now, same_env, label_added, named_only, free_only}
use Rattle.thumb_asm.proofs.Passing.{survey_start, survey_step, survey_fails, survey_ends}
use Rattle.thumb_asm.proofs.passes.place_lines.Goals as goal

pub lines-init : goal.lines-init
lines-init c = record {
  earlier = [];
  same = empty_index c.new-labels.result c.new-labels.ensures.empty;
  so_far = survey_start (given_in c.args.symbols.now) c.args.base (lines_of c.args.text.now) (lines_of c.of-lines.result.rest.now) (ap lines_of c.of-lines.ensures);
  few = omega (arith, ap length c.of-lines.ensures);
}

pub returns-in-Err-clause-err : goal.returns-in-Err-clause-err
returns-in-Err-clause-err c =
    let i = c.lines.invariant in
    survey_fails (given_in c.args.symbols.now) c.args.base (lines_of c.args.text.now) (lines_of c.lines.lines.rest.now) (lines_of c.next.new.self.rest.now) i.earlier c.lines.used c.lines.number c.in-Some.line.now c.in-Err.cause c.in-Some.ensures.line (subst (λ (f : Env). first_group (given_in c.args.symbols.now) c.args.base f c.lines.used c.in-Some.line.now ≡ Some c.in-Err.cause) (same_env (get_by_text c.lines.labels) i.earlier i.same) c.in-Err.ensures.err) i.so_far

pub add-requires : goal.add-requires
add-requires c = if_some_now c.line_of.result.label (λ name. is_name name ≡ true) (subst (λ o. IfSome o (λ name. is_name name ≡ true)) (sym (ap (λ (p : Parts). p.label) c.line_of.ensures)) (named_only (parts c.in-Some.line.now).label (get_by_text c.lines.labels) c.in-Ok.ensures.ok.3))

pub lines-preserved : goal.lines-preserved
lines-preserved c =
    let i = c.lines.invariant in
    let label : Option (List ℕ) = (parts c.in-Some.line.now).label in
    record {
      earlier = i.earlier ++ own_label (c.args.base + c.lines.used) label;
      same = label_added (get_by_text c.lines.labels) (get_by_text c.add.new.labels) i.earlier (c.args.base + c.lines.used) label i.same (λ q. subst (λ (o : Option (List ℕ)). get_by_text c.add.new.labels q ≡ with_label (c.args.base + c.lines.used) o (get_by_text c.lines.labels) q) (ap (λ (p : Parts). p.label) c.line_of.ensures) (c.in_ok-add-in-Ok.ensures q)) (free_only label (get_by_text c.lines.labels) c.in-Ok.ensures.ok.3);
      so_far = survey_step (given_in c.args.symbols.now) c.args.base (lines_of c.args.text.now) (lines_of c.lines.lines.rest.now) (lines_of c.next.new.self.rest.now) i.earlier (i.earlier ++ own_label (c.args.base + c.lines.used) label) c.lines.used c.in-Ok.size c.lines.number c.in-Some.line.now c.in-Some.ensures.line (subst (λ (f : Env). first_group (given_in c.args.symbols.now) c.args.base f c.lines.used c.in-Some.line.now ≡ None) (same_env (get_by_text c.lines.labels) i.earlier i.same) c.in-Ok.ensures.ok.0) c.in-Ok.ensures.ok.1 refl c.in-Ok.ensures.ok.2 i.so_far;
      few = omega (arith, c.in-Some.ensures.shorter);
    }

pub returns-clause-ok : goal.returns-clause-ok
returns-clause-ok c =
    let i = c.lines.invariant in
    let e = survey_ends (given_in c.args.symbols.now) c.args.base (lines_of c.args.text.now) (lines_of c.lines.lines.rest.now) i.earlier c.lines.used c.lines.number c.in_default.ensures.end i.so_far in
    (e.0, (λ q. i.same q ∙ ap (λ t. entry_at t q) e.1), e.2, e.3)
