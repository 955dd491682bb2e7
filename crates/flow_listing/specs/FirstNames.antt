-- Names that may not be there.
use Rattle.std.specs.Prelude.{Option, Some, None}
use Rattle.flow_listing.specs.declared.names.CellName.{CellName}

-- the first of two that is there
abbrev pub first_present_name : Option CellName → Option CellName → Option CellName
first_present_name (Some n) o = Some n
first_present_name None o = o
