-- Renamed declarations are as large as before.
use Rattle.std.proofs.Common.{◌≡◌, ℕ, suc, ◌+◌, List, [], ◌∷◌, length, map, refl, sym, ap, ◌∙◌}
use Rattle.std.specs.Prelude.{sum_by}
use Rattle.std.proofs.lemmas.List.Sums.{sum_by-cons}
use Rattle.core_reader.specs.declared.syntax.Pattern.{Pattern}
use Rattle.core_reader.specs.declared.syntax.Pattern.TheVariants as pattern
use Rattle.core_reader.specs.Tree as tree
use Rattle.core_reader.specs.Tree.{Term, Terms, NoTerms, AndTerm, Bind, Expr, App, Let, Case, Alts, NoAlts, AndAlt, Function}
use Rattle.core_reader.specs.Size.{term_size, terms_size, bind_size, pattern_size, expr_size, alts_size, function_size}
use Rattle.arity_check.specs.Scope.{Scope}
use Rattle.arity_check.specs.Known.{Known, all_entered}
use Rattle.arity_check.specs.Pieces.{binders_of, bound_by}
use Rattle.core_link.specs.Renaming.{Numbers, renamed_binder, renamed_term, renamed_terms, renamed_bind, renamed_pattern, renamed_expr, renamed_alts, renamed_function, renamed_functions}

pub length_map : {X Y : Type 0} (f : X → Y) (xs : List X) → length (map f xs) ≡ length xs
length_map f [] = refl
length_map f (x ∷ xs) = ap suc (length_map f xs)

module _ (n : Numbers) (k : Known) where
  mutual
    term_as_large : (s : Scope) (a : Term) → term_size (renamed_term n k s a) ≡ term_size a
    term_as_large s (tree.Name x at) = refl
    term_as_large s (tree.Con c at) = refl
    term_as_large s (tree.Int j at) = refl
    term_as_large s (tree.Bracket f xs at) = λ i. term_as_large s f i + terms_as_large s xs i

    terms_as_large : (s : Scope) (xs : Terms) → terms_size (renamed_terms n k s xs) ≡ terms_size xs
    terms_as_large s NoTerms = refl
    terms_as_large s (AndTerm a xs) = λ i. term_as_large s a i + terms_as_large s xs i

  binds_as_large : (s : Scope) (bs : List Bind) → sum_by bind_size (map (renamed_bind n k s) bs) ≡
      sum_by bind_size bs
  binds_as_large s [] = refl
  binds_as_large s (b ∷ bs) =
      sum_by-cons bind_size (renamed_bind n k s b) (map (renamed_bind n k s) bs)
      ∙ (λ i. (1 + term_as_large s b.app.head i + terms_as_large s b.app.args i) + binds_as_large s
      bs i)
      ∙ sym (sum_by-cons bind_size b bs)

  pattern_as_large : (p : Pattern) → pattern_size (renamed_pattern n p) ≡ pattern_size p
  pattern_as_large (pattern.Con c fields) = ap (λ l. 1 + l) (length_map (renamed_binder n) fields)
  pattern_as_large (pattern.Int j at) = refl
  pattern_as_large (pattern.Default x) = refl

  mutual
    expr_as_large : (s : Scope) (e : Expr) → expr_size (renamed_expr n k s e) ≡ expr_size e
    expr_as_large s (App a) = λ i. term_as_large s a.head i + terms_as_large s a.args i
    expr_as_large s (Let group e) =
        let t = all_entered k (binders_of group) s in
        λ i. binds_as_large t group i + expr_as_large t e i
    expr_as_large s (Case e alts) = λ i. expr_as_large s e i + alts_as_large s alts i

    alts_as_large : (s : Scope) (alts : Alts) → alts_size (renamed_alts n k s alts) ≡ alts_size alts
    alts_as_large s NoAlts = refl
    alts_as_large s (AndAlt p e alts) = λ i. pattern_as_large p i + expr_as_large
        (all_entered k (bound_by p) s) e i + alts_as_large s alts i

  function_as_large : (g : ℕ) (f : Function) → function_size (renamed_function n k g f) ≡
      function_size f
  function_as_large g f = λ i. 1 + length_map (renamed_binder n) f.params i + expr_as_large
      (all_entered k f.params []) f.body i

  pub functions_as_large : (g : ℕ) (fs : List Function)
      → sum_by function_size (renamed_functions n k g fs) ≡ sum_by function_size fs
  functions_as_large g [] = refl
  functions_as_large g (f ∷ fs) =
      sum_by-cons function_size (renamed_function n k g f) (renamed_functions n k (g + 1) fs)
      ∙ (λ i. function_as_large g f i + functions_as_large (g + 1) fs i)
      ∙ sym (sum_by-cons function_size f fs)
