-- Trees that agree but in names and places.
use Rattle.std.specs.Prelude.{◌≡◌, ℕ, List, [], ◌∷◌, map}
use Rattle.std.specs.List.{AllZip}
use Rattle.core_reader.specs.declared.syntax.Binder.{Binder}
use Rattle.core_reader.specs.declared.syntax.Pattern.{Pattern}
use Rattle.core_reader.specs.declared.syntax.Pattern.TheVariants as pattern
use Rattle.core_reader.specs.Tree.{Term, Terms, NoTerms, AndTerm, Application, Bind, Expr, App, Let, Case, Alts, NoAlts, AndAlt, Data, Function}
use Rattle.core_reader.specs.Tree as tree

abbrev binders_of : List Bind → List Binder
binders_of group = map (λ b. b.binder) group

-- How the names of one tree go with those of another: those that binders give, those of
-- constructors, and those that are used at a place. S is what is known of the scopes on both sides,
-- which the binders of a list enter together.
module _ {S : Type 0} (enter : List Binder → List Binder → S → S) (OfBinder OfCon : ℕ → ℕ → Type 0)
    (OfUse : S → ℕ → ℕ → Type 0) where
  abbrev pub RenamedBinder : Binder → Binder → Type 0
  RenamedBinder b c = OfBinder b.name.0 c.name.0

  abbrev mutual
    pub RenamedTerm : S → Term → Term → Type 0
    RenamedTerm s (tree.Name n at) (tree.Name m to) = OfUse s n m
    RenamedTerm s (tree.Con n at) (tree.Con m to) = OfCon n m
    RenamedTerm s (tree.Int k at) (tree.Int j to) = k ≡ j
    RenamedTerm s (tree.Bracket f xs at) (tree.Bracket g ys to) =
        RenamedTerm s f g × RenamedTerms s xs ys
    RenamedTerm s a b = ⊥

    pub RenamedTerms : S → Terms → Terms → Type 0
    RenamedTerms s NoTerms NoTerms = Unit {0}
    RenamedTerms s (AndTerm a xs) (AndTerm b ys) = RenamedTerm s a b × RenamedTerms s xs ys
    RenamedTerms s xs ys = ⊥

  abbrev pub RenamedApp : S → Application → Application → Type 0
  RenamedApp s a b = RenamedTerm s a.head b.head × RenamedTerms s a.args b.args

  abbrev pub RenamedBind : S → Bind → Bind → Type 0
  RenamedBind s b c = RenamedBinder b.binder c.binder × RenamedApp s b.app c.app

  abbrev pub RenamedPattern : Pattern → Pattern → Type 0
  RenamedPattern (pattern.Con c fields) (pattern.Con d others) =
      OfCon c.name.0 d.name.0 × AllZip RenamedBinder fields others
  RenamedPattern (pattern.Int k at) (pattern.Int j to) = k ≡ j
  RenamedPattern (pattern.Default x) (pattern.Default y) = RenamedBinder x y
  RenamedPattern p q = ⊥

  -- what patterns that agree bind enters the scopes
  abbrev pub behind : Pattern → Pattern → S → S
  behind (pattern.Con c fields) (pattern.Con d others) s = enter fields others s
  behind (pattern.Default x) (pattern.Default y) s = enter (x ∷ []) (y ∷ []) s
  behind p q s = s

  abbrev mutual
    pub RenamedExpr : S → Expr → Expr → Type 0
    RenamedExpr s (App a) (App b) = RenamedApp s a b
    RenamedExpr s (Let group e) (Let others f) =
        AllZip (RenamedBind (enter (binders_of group) (binders_of others) s)) group others
        × RenamedExpr (enter (binders_of group) (binders_of others) s) e f
    RenamedExpr s (Case e xs) (Case f ys) = RenamedExpr s e f × RenamedAlts s xs ys
    RenamedExpr s e f = ⊥

    pub RenamedAlts : S → Alts → Alts → Type 0
    RenamedAlts s NoAlts NoAlts = Unit {0}
    RenamedAlts s (AndAlt p e xs) (AndAlt q f ys) =
        RenamedPattern p q × RenamedExpr (behind p q s) e f × RenamedAlts s xs ys
    RenamedAlts s xs ys = ⊥

  abbrev pub RenamedData : Data → Data → Type 0
  RenamedData c d = OfCon c.name d.name × (c.fields ≡ d.fields)

  -- of functions, whose names are related in another way than those of binders
  abbrev pub RenamedFunction : (ℕ → ℕ → Type 0) → S → Function → Function → Type 0
  RenamedFunction OfFunction s f g =
      OfFunction f.name g.name × AllZip RenamedBinder f.params g.params
      × RenamedExpr (enter f.params g.params s) f.body g.body
