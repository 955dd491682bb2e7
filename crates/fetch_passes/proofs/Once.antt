-- Where no variable of some procedures is bound twice, none of their first one is, nor of the
-- others.
use Rattle.std.proofs.Common.{◌≡◌, ℕ, ◌+◌, ◌≤◌, List, ◌∷◌, ◌++◌, arith}
use Rattle.grin_syntax.specs.Binders.{numbers_of, code_vars, procs_vars}
use Rattle.grin_syntax.specs.Tree.{Procedure}
use Rattle.seq.specs.Lists.{times}
use Rattle.seq.proofs.Counted.{times_append}

module _ (q : Procedure) (qs : List Procedure) (y : ℕ) (once : times y (procs_vars (q ∷ qs)) ≤ 1)
  where
    abbrev own : ℕ
    own = times y (numbers_of q.params ++ code_vars q.body)

    parts : times y (procs_vars (q ∷ qs)) ≡ own + times y (procs_vars qs)
    parts = times_append y (numbers_of q.params ++ code_vars q.body) (procs_vars qs)

    pub first_once : times y (numbers_of q.params) + times y (code_vars q.body) ≤ 1
    first_once =
        let e : own ≡ times y (numbers_of q.params) + times y (code_vars q.body)
        = times_append y (numbers_of q.params) (code_vars q.body) in
        omega (arith, once, parts, e)

    pub others_once : times y (procs_vars qs) ≤ 1
    others_once = omega (arith, once, parts)
