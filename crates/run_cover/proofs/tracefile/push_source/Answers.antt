use Rattle.std.proofs.Common.{◌≡◌, ◌++◌, List, ℕ, rules, string_bytes, subst}
use Rattle.std.specs.List.{flat_map}
use Rattle.run_cover.specs.declared.totals.Totals.{Totals}
use Rattle.run_cover.specs.Counted.{count_of}
use Rattle.run_cover.specs.Tracefile.{branch_text, data_line, head_lines, lines_found, section_of, source_text, source_totals, ways_found}
use Rattle.run_cover.proofs.Sections.{appended}
use Rattle.run_cover.proofs.tracefile.push_source.Goals as goal

pub returns : goal.returns
unfolding source_text
returns g c = λ x s st.
    let source = section_of c.args.source in
    let n = count_of c.args.counts.now in
    let t = c.source_totals-totals.result in
    let a : List ℕ = string_bytes c.args.out.now in
    let headed : string_bytes c.push_str.new.self ≡ a ++ head_lines source = search rules in
    let branched : string_bytes c.push_branches.new.out ≡ string_bytes c.push_str.new.self ++ flat_map (branch_text s.memory n) source.lines = search rules in
    let told : string_bytes c.push_str-2.new.self ≡ string_bytes c.push_branches.new.out ++ ways_found t = search rules in
    let listed : string_bytes c.push_data_lines.new.out ≡ string_bytes c.push_str-2.new.self ++ flat_map (data_line n) source.lines = search rules in
    let ended : string_bytes c.push_str-3.new.self ≡ string_bytes c.push_data_lines.new.out ++ lines_found t = search rules in
    let same : t ≡ source_totals s.memory n source.lines = search rules in
    subst (λ (u : Totals). string_bytes c.push_str-3.new.self ≡ a ++ (head_lines source ++ flat_map (branch_text s.memory n) source.lines ++ ways_found u ++ flat_map (data_line n) source.lines ++ lines_found u)) same
    (appended a _ _ _ _ (appended a _ _ _ _ (appended a _ _ _ _ (appended a _ _ _ _ headed branched) told) listed) ended)
