use Rattle.std.proofs.Common.{◌≡◌, ◌≤◌, List, length, map, subst, arith, Some}
use Rattle.std.specs.Prelude.{slice_get}
use Rattle.seq.proofs.Lists.{get_is, map_get, length_map}
use Rattle.core_link.specs.Module.{Module}
use Rattle.core_link.specs.ModuleOf.{module_of}
use Rattle.core_link.specs.Rules.{BreaksInterModuleRule}
use Rattle.core_link.specs.Found.{NamesFirstBrokenRule}
use Rattle.core_link.specs.Shared.{AreImportFaults, IsFirstBetween}
use Rattle.core_link.proofs.InTexts.{zip_length, zip_or}
use Rattle.core_link.proofs.InFiles.{none_next, none_all, first_at}
use Rattle.core_link.proofs.refuse.first_between.Goals as goal

pub bounds-takings-i : goal.bounds-takings-i
bounds-takings-i c =
    let e = zip_length AreImportFaults (map module_of c.args.modules.now) c.args.takings.now
    c.requires in
    let f = length_map module_of c.args.modules.now in
    let l = c.loop-i-test.true in
    omega (arith, e, f, l)

pub returns-in-Some : goal.returns-in-Some
returns-in-Some c =
    let ms : List Module = map module_of c.args.modules.now in
    let i = c.loop-i.i in
    let x = c.index-modules-i.result in
    let is : slice_get ms i ≡ Some (module_of x) = map_get module_of c.args.modules.now i x
    (get_is c.args.modules.now i x c.loop-i-test.true c.index-modules-i.is) in
    let found = c.in_ok-first.ensures ms i is c.in_ok-exports.ensures c.loop-i.invariant.holds
    (zip_or AreImportFaults ms c.args.takings.now i (module_of x) _ c.requires is) in
    let number : i ≡ c.in-Ok.file = omega arith in
    subst (λ n. IsFirstBetween ms (Some (n, c.in-Some.found))) number
    (first_at ms i c.in-Some.found c.loop-i.invariant.none
    (subst (NamesFirstBrokenRule (λ k at. BreaksInterModuleRule ms k i at)) c.in-Some.is
    found.0))

pub loop-i-preserved : goal.loop-i-preserved
loop-i-preserved c =
    let ms : List Module = map module_of c.args.modules.now in
    let i = c.loop-i.i in
    let x = c.index-modules-i.result in
    let is : slice_get ms i ≡ Some (module_of x) = map_get module_of c.args.modules.now i x
    (get_is c.args.modules.now i x c.loop-i-test.true c.index-modules-i.is) in
    let found = c.in_ok-first.ensures ms i is c.in_ok-exports.ensures c.loop-i.invariant.holds
    (zip_or AreImportFaults ms c.args.takings.now i (module_of x) _ c.requires is) in
    record {
      holds = found.1;
      none = none_next ms i c.loop-i.invariant.none
          (subst (NamesFirstBrokenRule (λ k at. BreaksInterModuleRule ms k i at))
          c.in_default-first.is found.0);
    }

pub returns : goal.returns
returns c =
    let ms : List Module = map module_of c.args.modules.now in
    let f = length_map module_of c.args.modules.now in
    let l = c.loop-i-test.false in
    let end : length ms ≤ c.loop-i.i = omega (arith, f, l) in
    none_all ms c.loop-i.i end c.loop-i.invariant.none
