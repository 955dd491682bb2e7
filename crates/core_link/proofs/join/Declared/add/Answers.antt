use Rattle.std.proofs.Common.{◌≡◌, map, take, ap, ◌∙◌}
use Rattle.core_reader.specs.Tree.{data_of, function, program}
use Rattle.arity_check.specs.Whole.{known_of}
use Rattle.core_link.specs.Module.{seen}
use Rattle.core_link.specs.ModuleOf.{module_of, import_of}
use Rattle.core_link.specs.Shared.{declare_all}
use Rattle.core_link.specs.Renaming.{Numbers, numbers_of, renamed_data, renamed_functions}
use Rattle.core_link.proofs.Together.{appended, known_is, own_constructors, own_functions}
use Rattle.core_link.proofs.join.Declared.add.Goals as goal

pub returns-clause-constructors : goal.returns-clause-constructors
returns-clause-constructors c =
    let is : program c.in_ok-core.core ≡ declare_all (program c.args.part.core)
    (map import_of c.args.part.imports) = c.in_ok-core.ensures ∙ ap
    (λ v. declare_all (program c.args.part.core) (map import_of v)) c.as_slice.ensures in
    let own : map data_of c.truncate.new.self.items ≡ (module_of c.args.part).constructors =
    own_constructors c.args.part c.in_ok-core.core is c.len-constructors_end.result
    c.truncate.new.self.items c.len-constructors_end.ensures
    (c.truncate.ensures.items ∙ ap (take c.len-constructors_end.result)
    c.into_vec-own_constructors.ensures) in
    appended data_of c.args.self.now.constructors c.append.new.self
    c.in_ok-constructors.constructors _ c.in_ok-append.ensures.ok
    (c.in_ok-constructors.ensures ∙ ap (map (renamed_data (numbers_of c.args.renaming.now)))
    own)

pub returns-clause-functions : goal.returns-clause-functions
returns-clause-functions c =
    let n : Numbers = numbers_of c.args.renaming.now in
    let is : program c.in_ok-core.core ≡ declare_all (program c.args.part.core)
    (map import_of c.args.part.imports) = c.in_ok-core.ensures ∙ ap
    (λ v. declare_all (program c.args.part.core) (map import_of v)) c.as_slice.ensures in
    let own : map function c.truncate-2.new.self.items ≡ (module_of c.args.part).functions =
    own_functions c.args.part c.in_ok-core.core is c.len-functions_end.result
    c.truncate-2.new.self.items c.len-functions_end.ensures
    (c.truncate-2.ensures.items ∙ ap (take c.len-functions_end.result)
    c.into_vec-own_functions.ensures) in
    appended function c.args.self.now.functions c.append-2.new.self c.in_ok-functions.functions _
    c.in_ok-append-2.ensures.ok
    (c.in_ok-functions.ensures ∙ ap
    (λ k. renamed_functions n k 0 (map function c.truncate-2.new.self.items))
    (c.in_ok-globals.ensures ∙ ap known_of (known_is c.args.part c.in_ok-core.core is)) ∙ ap
    (renamed_functions n (known_of (seen (module_of c.args.part))) 0) own)
