-- The parts of a file that is accepted.
use Rattle.std.specs.Prelude.{◌≡◌, None, length}
use Rattle.image_format.specs.Records.{Records, records_fault}
use Rattle.image_format.specs.Steps.{field_fault}

-- the counts are those of the header, and no step refuses
pub record Accepted (r : Records) : Type 0 where
  pub tasks : length r.tasks ≡ r.header.tasks
  pub regions : length r.regions ≡ r.header.regions
  pub lines : length r.lines ≡ r.header.lines
  pub names : length r.names ≡ r.header.names
  pub flash : length r.flash ≡ r.header.flash
  pub fields : field_fault r.header ≡ None
  pub records : records_fault r ≡ None
