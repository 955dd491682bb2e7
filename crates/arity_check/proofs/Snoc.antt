-- One more argument at the end.
use Rattle.std.proofs.Common.{◌≡◌, ℕ, ◌+◌, List, [], ◌∷◌, ◌++◌, length, sym, ap, ◌∙◌, subst, arith, append_assoc, append-nil, length-append}
use Rattle.core_reader.specs.Tree.{Program, Term, terms_of}
use Rattle.arity_check.specs.declared.normal.Var.{Var}
use Rattle.arity_check.specs.declared.normal.Bound.{Bound}
use Rattle.arity_check.specs.Scope.{Scope}
use Rattle.arity_check.specs.Normal.{AreArgs, NoArgs, AndArg, IsArg}

pub args_snoc : (p : Program) (s : Scope) (n : ℕ) (ts : List Term) (a : Term)
    (added news : List Bound) (xs : List Var) (x : Var) → AreArgs p s n (terms_of ts) added xs
    → IsArg p s (n + length added) a news x → AreArgs p s n (terms_of (ts ++ a ∷ []))
    (added ++ news) (xs ++ x ∷ [])
args_snoc p s n [] a added news xs x NoArgs b =
    let e : n + 0 ≡ n = omega arith in
    AndArg news [] (subst (λ k. IsArg p s k a news x) e b) NoArgs (sym (append-nil news))
args_snoc p s n (t ∷ ts) a added news xs x (AndArg {xs = ys} news1 news2 b c is) d =
    let e : n + length added ≡ n + length news1 + length news2
    = ap (λ l. n + length l) is ∙ omega (arith, length-append news1 news2) in
    AndArg news1 (news2 ++ news) b
    (args_snoc p s (n + length news1) ts a news2 news ys x c
    (subst (λ k. IsArg p s k a news x) e d))
    (ap (λ l. l ++ news) is ∙ append_assoc news1 news2 news)
