use Rattle.std.proofs.Common.{◌≡◌, List, [], ◌++◌, map, sym, ap, ◌∙◌}
use Rattle.std.specs.Prelude.{false, nat_lt}
use Rattle.core_reader.specs.Tree.{data_of, function, Program, program}
use Rattle.core_reader.specs.Size.{program_size}
use Rattle.arity_check.specs.declared.refusal.CheckRefusal.{CheckRefusal}
use Rattle.arity_check.specs.declared.refusal.CheckRefusal.TheVariants.{CoreTooLarge}
use Rattle.arity_check.specs.declared.order.First.{First}
use Rattle.arity_check.specs.Known.{Known}
use Rattle.arity_check.specs.Order.{counts}
use Rattle.arity_check.specs.Refusal.{least_refusal}
use Rattle.arity_check.specs.Faults.{refusal_if}
use Rattle.arity_check.specs.Whole.{known_of, cons_faults, functions_faults, lacks_faults, program_faults}
use Rattle.arity_check.proofs.Counts.{two, three}
use Rattle.arity_check.proofs.Least.{right, none_met, least_order}
use Rattle.arity_check.proofs.program.first_refusal.Goals as goal

pub check_size-requires : goal.check_size-requires
check_size-requires c = λ h.
    let p : Program = program c.args.core.now in
    let k : Known = known_of p in
    let e = c.requires.tables in
    let start : First = none_met c.args.order in
    let cons : List CheckRefusal = cons_faults k 0 (λ x. false) p.constructors in
    let funs : List CheckRefusal = functions_faults k [] 0 (λ x. false) p.functions in
    let lacks : List CheckRefusal = lacks_faults k p.constructors p.functions in
    let scope = c.in_ok-check_constructors.ensures.scope ∙ c.new.ensures in
    let a : c.check_constructors.new.walk.first ≡ least_refusal start cons =
    c.in_ok-check_constructors.ensures.first ∙
    (λ i. least_refusal start
    (cons_faults (e i) 0 (λ x. false) (map data_of (c.as_slice.ensures i)))) in
    let b : c.check_functions.new.walk.first ≡ least_refusal c.check_constructors.new.walk.first
    funs =
    c.in_ok-check_functions.ensures.first ∙
    (λ i. least_refusal c.check_constructors.new.walk.first
    (functions_faults (e i) (scope i) 0 (λ x. false) (map function (c.as_slice-2.ensures i))))
    in
    let d : c.check_declared.new.walk.first ≡ least_refusal c.check_functions.new.walk.first lacks =
    c.check_declared.ensures.first ∙ ap
    (λ k. least_refusal c.check_functions.new.walk.first
    (lacks_faults k p.constructors p.functions)) e in
    let order : c.check_declared.new.walk.first.order ≡ c.args.order =
    ap (λ (f : First). f.order) d ∙ least_order c.check_functions.new.walk.first lacks ∙ ap
    (λ (f : First). f.order) b ∙ least_order c.check_constructors.new.walk.first funs
    ∙ ap (λ (f : First). f.order) a ∙ least_order start cons in
    c.requires.size (ap (λ o. counts o 35) (sym order) ∙ h)

pub returns : goal.returns
returns c =
    let p : Program = program c.args.core.now in
    let k : Known = known_of p in
    let e = c.requires.tables in
    let start : First = none_met c.args.order in
    let cons : List CheckRefusal = cons_faults k 0 (λ x. false) p.constructors in
    let funs : List CheckRefusal = functions_faults k [] 0 (λ x. false) p.functions in
    let lacks : List CheckRefusal = lacks_faults k p.constructors p.functions in
    let size : List CheckRefusal = refusal_if (nat_lt 16384 (program_size p))
    (CoreTooLarge (program_size p)) in
    let scope = c.in_ok-check_constructors.ensures.scope ∙ c.new.ensures in
    let a : c.check_constructors.new.walk.first ≡ least_refusal start cons =
    c.in_ok-check_constructors.ensures.first ∙
    (λ i. least_refusal start
    (cons_faults (e i) 0 (λ x. false) (map data_of (c.as_slice.ensures i)))) in
    let b : c.check_functions.new.walk.first ≡ least_refusal c.check_constructors.new.walk.first
    funs =
    c.in_ok-check_functions.ensures.first ∙
    (λ i. least_refusal c.check_constructors.new.walk.first
    (functions_faults (e i) (scope i) 0 (λ x. false) (map function (c.as_slice-2.ensures i))))
    in
    let d : c.check_declared.new.walk.first ≡ least_refusal c.check_functions.new.walk.first lacks =
    c.check_declared.ensures.first ∙ ap
    (λ k. least_refusal c.check_functions.new.walk.first
    (lacks_faults k p.constructors p.functions)) e in
    let z : c.check_size.new.walk.first ≡ least_refusal c.check_declared.new.walk.first size
    = c.check_size.ensures in
    let all : c.check_size.new.walk.first ≡ least_refusal start (program_faults p) =
    three cons funs (lacks ++ size) start c.check_constructors.new.walk.first
    c.check_functions.new.walk.first c.check_size.new.walk.first a b
    (two lacks size c.check_functions.new.walk.first c.check_declared.new.walk.first
    c.check_size.new.walk.first d z) in
    right c.args.order p c.check_size.new.walk.first.refusal (ap (λ (f : First). f.refusal) all)
