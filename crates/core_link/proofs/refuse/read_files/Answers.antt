use Rattle.std.proofs.Common.{◌≡◌, subst, map, arith, Some}
use Rattle.std.specs.Prelude.{slice_get}
use Rattle.std.proofs.lemmas.Result.{err_from_is_err_and}
use Rattle.seq.proofs.Lists.{get_is}
use Rattle.core_link.specs.Module.{Module, IsModuleText}
use Rattle.core_link.specs.ModuleOf.{module_of}
use Rattle.core_link.specs.Rules.{IsSound, IsCause, IsCauseIn}
use Rattle.core_link.proofs.InTexts.{file_refused, kept_next, sound_next}
use Rattle.core_link.proofs.refuse.read_files.Goals as goal

pub returns-in_err-read-clause-refused : goal.returns-in_err-read-clause-refused
returns-in_err-read-clause-refused c =
    let q = err_from_is_err_and c.from_residual.result c.from_residual.ensures.1 in
    let all = c.as_slice-all.result.now in
    let i = c.loop-i.i in
    let text = c.index-all-i.result in
    let r = c.in_err-read.field-0.0 in
    let number : c.in-Ok.file ≡ i = omega arith in
    let is : slice_get all i ≡ Some text = get_is all i text c.loop-i-test.true c.index-all-i.is in
    let cause : IsCauseIn text i r = subst (λ n. IsCauseIn text n r) number
    (subst (λ t. IsCauseIn t c.in-Ok.file r) c.as_slice.ensures c.in_err-read.ensures.refused)
    in
    rw (q.1, q.2)
    (subst (λ ts. IsCause ts r) c.as_slice-all.ensures
    (file_refused all i text r is c.loop-i.invariant.sound cause))

pub loop-i-preserved : goal.loop-i-preserved
loop-i-preserved c =
    let all = c.as_slice-all.result.now in
    let i = c.loop-i.i in
    let text = c.index-all-i.result in
    let m : Module = module_of c.in_ok-read.read.module in
    let is : slice_get all i ≡ Some text = get_is all i text c.loop-i-test.true c.index-all-i.is in
    let found : IsModuleText text m = subst (λ t. IsModuleText t m) c.as_slice.ensures
    c.in_ok-read.ensures.found in
    record {
      read = kept_next all i text (map module_of c.loop-i.modules.items)
          (map module_of c.keep.new.modules.items) m c.loop-i.takings.items c.keep.new.takings.items
          is c.loop-i.invariant.read found c.in_ok-read.ensures.readable c.in_ok-keep.ensures;
      sound = sound_next all i text is c.loop-i.invariant.sound
          (subst IsSound c.as_slice.ensures c.in_ok-read.ensures.unbroken);
    }
