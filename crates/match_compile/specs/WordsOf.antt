-- The numbers of names that the code keeps.
use Rattle.std.specs.Prelude.{◌≡◌, length}
use Rattle.std.specs.List.{position_or_len}
use Rattle.match_compile.specs.declared.words.Words.TheInside.{Inside}
use Rattle.match_compile.specs.Translated.{Words, is_nameless, with_nameless}

abbrev pub name_supply_in : Inside → Words
name_supply_in w = record { names = w.names; equations = w.equations; columns = w.columns }

pub record NewNamesAreNumbered (w : Inside) : Type 0 where
  pub nameless : w.nameless ≡ position_or_len is_nameless w.names
  pub first : w.first ≡ length (with_nameless w.names)
