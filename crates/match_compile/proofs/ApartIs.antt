-- Equations and their bodies, one after the other.
use Rattle.std.proofs.Common.{◌≡◌, ℕ, zero, suc, ◌+◌, ◌≤◌, List, [], ◌∷◌, ◌++◌, map, length, refl, sym, ap, ◌∙◌, arith, Option, Some, None}
use Rattle.std.proofs.lemmas.List.{map-append, length-append, length-map}
use Rattle.core_reader.specs.declared.syntax.Expr as code-expr
use Rattle.core_reader.specs.Tree.{Expr, expr}
use Rattle.match_compile.specs.declared.source.Equation as code
use Rattle.match_compile.specs.declared.decide.Clause.{Clause}
use Rattle.match_compile.specs.declared.compile.Heading.{Heading}
use Rattle.match_compile.specs.Source.{Equation}
use Rattle.match_compile.specs.SourceOf.{equation_of}
use Rattle.match_compile.specs.DecisionOf.{clause_of}
use Rattle.match_compile.specs.ApartOf.{equation_with_body, equation_at, equations_with_bodies}

equations_more : (hs : List Heading) (bs : List Expr) (h : Heading) (b : Expr)
    → length hs ≡ length bs → equations_with_bodies (hs ++ h ∷ []) (bs ++ b ∷ []) ≡
    equations_with_bodies hs bs ++ equation_with_body h b ∷ []
equations_more [] [] h b e = refl
equations_more [] (c ∷ bs) h b e = absurd (omega (arith, e))
equations_more (g ∷ hs) [] h b e = absurd (omega (arith, e))
equations_more (g ∷ hs) (c ∷ bs) h b e = ap (λ es. equation_with_body g c ∷ es)
    (equations_more hs bs h b (omega (arith, e)))

-- one more equation is taken apart
pub apart_more : (hs hs' : List Heading) (bs bs' : List code-expr.Expr) (h : Heading)
    (e : code.Equation) (done : List code.Equation)
    → equation_with_body h (expr e.body) ≡ equation_of e → hs' ≡ hs ++ h ∷ [] → bs' ≡ bs
    ++ e.body ∷ [] → length hs ≡ length bs → equations_with_bodies hs (map expr bs) ≡ map
    equation_of done
    → (length hs' ≡ length bs') ×
    (equations_with_bodies hs' (map expr bs') ≡ map equation_of (done ++ e ∷ []))
apart_more hs hs' bs bs' h e done is put put' same before = (
  ap length put ∙ length-append hs (h ∷ []) ∙ ap (λ n. n + 1) same ∙ sym
      (ap length put' ∙ length-append bs (e.body ∷ [])),
  (λ i. equations_with_bodies (put i) (map expr (put' i)))
      ∙ ap (equations_with_bodies (hs ++ h ∷ [])) (map-append expr bs (e.body ∷ []))
      ∙ equations_more hs (map expr bs) h (expr e.body) (same ∙ sym (length-map bs expr))
      ∙ (λ i. before i ++ is i ∷ [])
      ∙ sym (map-append equation_of done (e ∷ [])),
)

pub none_with : (hs : List Heading) → equations_with_bodies hs [] ≡ []
none_with [] = refl
none_with (h ∷ hs) = refl

from_some : (e f : Equation) → Some e ≡ Some f → e ≡ f
from_some e f is = ap (λ (o : Option Equation). elim o [ Some x ↦ x | None ↦ e ]) is

with_next : (hs : List Heading) (bs : List Expr) (b : Expr) (e : Equation)
    → Some e ≡ equation_at hs (length bs) b → equations_with_bodies hs (bs ++ b ∷ []) ≡
    equations_with_bodies hs bs ++ e ∷ []
with_next [] bs b e is = absurd cc
with_next (h ∷ hs) [] b e is = ap (λ es. equation_with_body h b ∷ es) (none_with hs) ∙ ap
    (λ x. x ∷ []) (sym (from_some e (equation_with_body h b) is))
with_next (h ∷ hs) (x ∷ bs) b e is = ap (λ es. equation_with_body h x ∷ es) (with_next hs bs b e is)

-- one more clause is made
pub clause_more : (hs : List Heading) (k : ℕ) (b : code-expr.Expr) (done : List code-expr.Expr)
    (made made' : List Clause) (c : Clause) → Some (clause_of c) ≡ equation_at hs k (expr b)
    → k ≡ length done → made' ≡ made ++ c ∷ [] → map clause_of made ≡ equations_with_bodies hs
    (map expr done)
    → map clause_of made' ≡ equations_with_bodies hs (map expr (done ++ b ∷ []))
clause_more hs k b done made made' c is count put before =
    ap (map clause_of) put ∙ map-append clause_of made (c ∷ [])
    ∙ ap (λ es. es ++ clause_of c ∷ []) before
    ∙ sym (ap (equations_with_bodies hs) (map-append expr done (b ∷ []))
    ∙ with_next hs (map expr done) (expr b) (clause_of c)
    (is ∙ ap (λ k. equation_at hs k (expr b)) (count ∙ sym (length-map done expr))))

-- where there is no equation of a number, there are no more headings
pub none_at : (hs : List Heading) (k : ℕ) (b : Expr) → None ≡ equation_at hs k b → length hs ≤ k
none_at [] k b e = omega arith
none_at (h ∷ hs) zero b e = absurd cc
none_at (h ∷ hs) (suc k) b e = let fewer = none_at hs k b e in omega (arith, fewer)
