-- What modules have to be for a program to be made of them. A device of the proofs.
use Rattle.std.specs.Prelude.{◌≡◌, ℕ, true, List, map}
use Rattle.std.specs.List.{list_all}
use Rattle.seq.specs.Lists.{AllOf}
use Rattle.core_reader.specs.Different.{AreDistinct}
use Rattle.core_reader.specs.Readable.{IsReadable}
use Rattle.core_link.specs.Module.{Module, Import, body, is_alphanumeric, name_of, text_in}

-- letters and digits alone, as in a module's name
abbrev pub IsPlain : List ℕ → Type 0
IsPlain w = list_all is_alphanumeric w ≡ true

-- the import names a module by letters and digits
abbrev pub NamesPlainly : Module → Import → Type 0
NamesPlainly m i = IsPlain (text_in m i.from.name.0)

pub record IsLinkable (m : Module) : Type 0 where
  pub name : IsPlain (name_of m)
  pub imports : AllOf (NamesPlainly m) m.imports
  pub readable : IsReadable (body m)

pub record AreLinkable (ms : List Module) : Type 0 where
  pub different : AreDistinct (map name_of ms)
  pub each : AllOf IsLinkable ms
