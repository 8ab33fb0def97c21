use Rattle.std.proofs.Common.{◌≡◌, ◌++◌, take}
use Rattle.std.specs.List.{flat_map}
use Rattle.image_format.specs.declared.records.ImageForm.TheVariants.{Second}
use Rattle.image_format.specs.Records.{line_bytes}
use Rattle.image_format.proofs.writing.push_lines.Given as goal

abbrev pub invariant-loop-l : goal.invariant-loop-l
invariant-loop-l l = l.out.items ≡ l.fn.out.items ++ flat_map (line_bytes Second) (take l.l-index l.lines)
