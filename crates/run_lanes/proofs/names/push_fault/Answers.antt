use Rattle.std.proofs.Common.{ℕ, ◌++◌, ap, sym, ◌∙◌}
use Rattle.run_lanes.specs.Names.{fault_name, fault_text}
use Rattle.run_lanes.proofs.names.push_fault.Goals as goal

-- a row of the table, where the number is known
pub returns-in-2-clause-bytes : goal.returns-in-2-clause-bytes
unfolding fault_name fault_text
returns-in-2-clause-bytes c = c.push_plain-in-2.ensures.bytes ∙ ap (λ (n : ℕ). c.args.out.now.bytes ++ fault_text n c.args.fault.now) (sym c.in-2.is)

pub returns-in-5-clause-bytes : goal.returns-in-5-clause-bytes
unfolding fault_name fault_text
returns-in-5-clause-bytes c = c.push_plain-in-5.ensures.bytes ∙ ap (λ (n : ℕ). c.args.out.now.bytes ++ fault_text n c.args.fault.now) (sym c.in-5.is)

pub returns-in-9-clause-bytes : goal.returns-in-9-clause-bytes
unfolding fault_name fault_text
returns-in-9-clause-bytes c = c.push_str.ensures.bytes ∙ ap (λ (n : ℕ). c.args.out.now.bytes ++ fault_text n c.args.fault.now) (sym c.in-9.is)
