use Rattle.std.proofs.Common.{rules}
use Rattle.std.specs.Ordering.{nat_cmp, is_lt}
use Rattle.std.specs.Cmp.Lexicographic.{slice_cmp, nat_list_cmp_total}
use Rattle.std.proofs.lemmas.List.Sorted.{ranks_by, answers_always}
use Rattle.core_link.specs.declared.module.Module as code
use Rattle.core_link.specs.Module.{name_of}
use Rattle.core_link.specs.ModuleOf.{module_of}
use Rattle.core_link.proofs.join.in_order.Goals as goal

pub returns-clause-order : goal.returns-clause-order
returns-clause-order c =
    c.sort_unstable_by.ensures.sorted
    (λ (a b : code.Module). is_lt
    (slice_cmp nat_cmp (name_of (module_of a)) (name_of (module_of b))))
    (ranks_by nat_list_cmp_total (λ (m : code.Module). name_of (module_of m)))
    (answers_always _ _ _ (λ f a r g h. search rules))
