use Rattle.std.proofs.Common.{◌≡◌, [], false, None, map, sym, ap, subst, ◌∙◌}
use Rattle.seq.proofs.Lists.{length_map}
use Rattle.core_reader.specs.Tree.{Program, program, data_of, function}
use Rattle.arity_check.specs.Known.{Known}
use Rattle.std.specs.List.{flat_map}
use Rattle.arity_check.specs.Whole.{known_of}
use Rattle.arity_check.specs.Broken.{Broken}
use Rattle.core_link.specs.Module.{Module, Import, body, seen, imported, imported_constructors, imported_functions, as_constructor, as_function}
use Rattle.core_link.specs.ModuleOf.{module_of, import_of}
use Rattle.core_link.specs.Found.{IsFirstPlaceWhere, first_repeated_name, is_declared}
use Rattle.core_link.specs.Shared.{declare_all, ImportsTakenName}
use Rattle.core_link.proofs.Alone.{seen_alone}
use Rattle.core_link.proofs.Takings.{retakes_first, seen_is}
use Rattle.core_link.proofs.Steps.{map_front}
use Rattle.core_link.proofs.imports.find_import_faults.Goals as goal

-- a module that imports nothing
pub returns-then-is_empty-clause-taking : goal.returns-then-is_empty-clause-taking
returns-then-is_empty-clause-taking c =
    let m : Module = module_of c.args.module in
    let none : m.imports ≡ [] = ap (map import_of) (c.is_empty.ensures.0 c.if-is_empty.true) in
    let own : imported m ≡ [] = ap (flat_map (λ (i : Import). map (λ b. (i.from, b)) i.names)) none
    in
    record {
      again = subst
          (λ xs. IsFirstPlaceWhere (ImportsTakenName m)
          (first_repeated_name (is_declared (known_of (body m))) (λ x. false) None
          (map (λ i. i.1) xs))) own (retakes_first m);
      unknown = subst (λ (p : Program). IsFirstPlaceWhere (Broken p 14) c.in_ok-unknown.unknown)
          (sym (seen_alone m none)) c.in_ok-unknown.ensures;
    }

pub returns-clause-same : goal.returns-clause-same
returns-clause-same c =
    let m : Module = module_of c.args.module in
    let all = c.in_ok-all.all in
    let is : program all ≡ seen m = c.in_ok-all.ensures ∙ ap
    (λ xs. declare_all (body m) (map import_of xs)) c.as_slice.ensures ∙ seen_is m in
    let names : all.names ≡ c.args.module.core.names = ap (λ (p : Program). p.names) is in
    let constructors : map data_of c.first_items.result ≡ m.constructors =
    ap (map data_of) c.first_items.ensures
    ∙ map_front data_of all.constructors m.constructors
    (map as_constructor (imported_constructors m)) c.len-constructors.result
    (ap (λ (p : Program). p.constructors) is)
    (c.len-constructors.ensures ∙ sym (length_map data_of c.args.module.core.constructors)) in
    let functions : map function c.first_items-2.result ≡ m.functions =
    ap (map function) c.first_items-2.ensures
    ∙ map_front function all.functions m.functions (map as_function (imported_functions m))
    c.len-functions.result (ap (λ (p : Program). p.functions) is)
    (c.len-functions.ensures ∙ sym (length_map function c.args.module.core.functions)) in
    λ i. record {
      names = names i;
      name = m.name;
      exports = m.exports;
      imports = m.imports;
      constructors = constructors i;
      functions = functions i;
    }

pub returns-clause-taking : goal.returns-clause-taking
returns-clause-taking c =
    let m : Module = module_of c.args.module in
    let is : program c.in_ok-all.all ≡ seen m = c.in_ok-all.ensures ∙ ap
    (λ xs. declare_all (body m) (map import_of xs)) c.as_slice.ensures ∙ seen_is m in
    record {
      again = subst (IsFirstPlaceWhere (ImportsTakenName m))
          (sym (c.in_ok-again.ensures ∙ ap
          (λ (k : Known). first_repeated_name (is_declared k) (λ x. false) None
          (map (λ i. i.1) (imported m))) c.requires)) (retakes_first m);
      unknown = subst (λ (p : Program). IsFirstPlaceWhere (Broken p 14) c.in_ok-unknown-2.unknown)
          is c.in_ok-unknown-2.ensures;
    }
