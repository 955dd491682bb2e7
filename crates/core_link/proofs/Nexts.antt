-- What the code finds in one module, with the tables of those before it.
use Rattle.std.proofs.Common.{◌≡◌, ℕ, List, sym, subst, Option, Some, None}
use Rattle.std.specs.Prelude.{is_none, slice_get}
use Rattle.std.specs.HashSet.{HashSet}
use denote.Ref.{Bor}
use Rattle.core_reader.specs.declared.syntax.Binder.{Binder}
use Rattle.core_reader.specs.LexedOf.{texts_of}
use Rattle.core_link.specs.declared.imports.ImportFaults.{ImportFaults}
use Rattle.core_link.specs.Module.{Module, Import, text_in, name_of, imported}
use Rattle.core_link.specs.Rules.{BreaksInterModuleRule, source}
use Rattle.core_link.specs.Found.{NamesFirstBrokenRule, sooner, earlier_place_if, earliest}
use Rattle.core_link.specs.Shared.{AreImportFaults, has, found_at, lacks, IsIndex, TablesMatchModules}
use Rattle.core_link.proofs.Betweens.{unexported_by, found_in, between_first}
use Rattle.core_link.proofs.Tables.{none_same, lacks_same}

module _ {S : Type 0} (m : Module) (entries : List (Bor (List ℕ) × HashSet (Bor (List ℕ)) S))
    (named declared : List (Bor (List ℕ))) (t : ImportFaults) where
  abbrev pub by_tables : Option (ℕ × ℕ)
  by_tables =
      sooner (sooner
      (sooner (sooner
      (sooner (sooner None 52
      (earlier_place_if (has (texts_of named) (name_of m)) None m.name.at))
      53 (earliest (λ i. is_none (found_at entries (text_in m i.from.name.0))) (λ i. i.from.at) None
      m.imports))
      54 (earliest (λ i. lacks (found_at entries (text_in m i.0.name.0)) (text_in m i.1.name.0))
      (λ i. i.1.at) None (imported m)))
      56 t.again) 57 t.unknown) 58
      (earliest (λ d. has (texts_of declared) (text_in m d.name)) (λ d. d.at) None
      m.constructors)

  pub tables_first : (ms : List Module) (file : ℕ) → slice_get ms file ≡ Some m → IsIndex ms entries
      → TablesMatchModules ms file named declared → AreImportFaults m t
      → NamesFirstBrokenRule (λ k at. BreaksInterModuleRule ms k file at) by_tables
  tables_first ms file is index holds taking = subst
      (NamesFirstBrokenRule (λ k at. BreaksInterModuleRule ms k file at)) same
      (between_first ms file m is t taking)
    where
      unknown : (i : Import) → is_none (source ms m i.from) ≡ is_none
          (found_at entries (text_in m i.from.name.0))
      unknown i = sym
          (none_same (source ms m i.from) (found_at entries (text_in m i.from.name.0))
          (index (text_in m i.from.name.0)))

      lacking : (i : Binder × Binder) → unexported_by (source ms m i.0) (text_in m i.1.name.0) ≡
          lacks (found_at entries (text_in m i.0.name.0)) (text_in m i.1.name.0)
      lacking i = sym
          (lacks_same (source ms m i.0) (found_at entries (text_in m i.0.name.0))
          (index (text_in m i.0.name.0)) (text_in m i.1.name.0))

      same : found_in ms file m is t ≡ by_tables
      same = λ j.
          sooner (sooner
          (sooner (sooner
          (sooner (sooner None 52
          (earlier_place_if (sym (holds.names (name_of m)) j) None m.name.at))
          53 (earliest (λ i. unknown i j) (λ i. i.from.at) None m.imports))
          54 (earliest (λ i. lacking i j) (λ i. i.1.at) None (imported m)))
          56 t.again) 57 t.unknown) 58
          (earliest (λ d. sym (holds.constructors (text_in m d.name)) j) (λ d. d.at) None
          m.constructors)
