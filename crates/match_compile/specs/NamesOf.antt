-- How many new names there may be. A device of the proofs.
use Rattle.std.specs.Prelude.{◌<◌, ◌^◌, length}
use Rattle.match_compile.specs.Source.{Source}
use Rattle.match_compile.specs.Decisions.{decisions}
use Rattle.match_compile.specs.Translated.{most_params, most_fields_of}

-- the new names have numbers of 32 bits
pub record NewNamesFit (c : Source) : Type 0 where
  pub equations : length c.equations < 2 ^ 32
  pub params : most_params c.equations < 2 ^ 32
  pub fields : most_fields_of (decisions c) < 2 ^ 32
