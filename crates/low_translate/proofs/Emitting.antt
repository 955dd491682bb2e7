-- Statements that are put behind others.
use Rattle.std.proofs.Common.{◌≡◌, ℕ, List, [], ◌∷◌, ◌++◌, refl, sym, ap, ◌∙◌, subst}
use Rattle.low_code.specs.declared.program.LowStmt.{LowStmt}
use Rattle.low_code.specs.Tree.{Code, before_of}
use Rattle.low_code.specs.declared.program.LowStmt.TheVariants.{Set, Prim, Load, Save, Take, Get}
use Rattle.low_code.specs.declared.program.Operand.{Operand}
use Rattle.low_code.specs.declared.program.PrimOp.{PrimOp}
use Rattle.low_code.specs.Tree.{set, prim, load, save, take as take_cells, get}
use Rattle.low_code.proofs.TreeOf.{before_of-Set, before_of-Prim, before_of-Load, before_of-Save, before_of-Take, before_of-Get}
use Rattle.low_translate.specs.Emitted.{emitted, AppendsBefore}

pub emitted_push : (made : List LowStmt) (s : LowStmt) (c : Code)
    → emitted (made ++ s ∷ []) c ≡ emitted made (before_of s c)
emitted_push [] s c = refl
emitted_push (x ∷ made) s c = ap (before_of x) (emitted_push made s c)

pub adds_one : (old new : List LowStmt) (s : LowStmt) → new ≡ old ++ s ∷ []
    → AppendsBefore old new (before_of s)
adds_one old new s e = record { by = λ c. ap (λ l. emitted l c) e ∙ emitted_push old s c }

pub adds_none : (old : List LowStmt) → AppendsBefore old old (λ c. c)
adds_none old = record { by = λ c. refl }

pub adds_then : (a b c : List LowStmt) (f g : Code → Code) → AppendsBefore a b f
    → AppendsBefore b c g → AppendsBefore a c (λ x. f (g x))
adds_then a b c f g h k = record { by = λ x. k.by x ∙ h.by (g x) }

pub adds_as : (a b : List LowStmt) (f g : Code → Code) → AppendsBefore a b f
    → ((c : Code) → f c ≡ g c) → AppendsBefore a b g
adds_as a b f g h e = record { by = λ c. h.by c ∙ ap (emitted a) (e c) }

-- what f puts before a block is what `new` has more than `old`, then what g puts before it
pub record Leaves (old new : List LowStmt) (f g : Code → Code) : Type 0 where
  pub by : (c : Code) → emitted new (g c) ≡ emitted old (f c)

pub leaves_all : (old : List LowStmt) (f : Code → Code) → Leaves old old f f
leaves_all old f = record { by = λ c. refl }

pub leaves_more : (old a b : List LowStmt) (f g h s : Code → Code) → Leaves old a f g
    → AppendsBefore a b s → ((c : Code) → g c ≡ s (h c)) → Leaves old b f h
leaves_more old a b f g h s l k e = record
    { by = λ c. k.by (h c) ∙ ap (emitted a) (sym (e c)) ∙ l.by c }

pub leaves_none : (old new : List LowStmt) (f g : Code → Code) → Leaves old new f g
    → ((c : Code) → g c ≡ c) → AppendsBefore old new f
leaves_none old new f g l e = record { by = λ c. ap (emitted new) (sym (e c)) ∙ l.by c }

-- ---- single statements

pub adds_set : (a b : List LowStmt) (x : ℕ) (v : Operand) → AppendsBefore a b (before_of (Set x v))
    → AppendsBefore a b (set x v)
adds_set a b x v h = subst (AppendsBefore a b) (before_of-Set x v) h

pub adds_load : (a b : List LowStmt) (x : ℕ) (v : Operand) (i : ℕ)
    → AppendsBefore a b (before_of (Load x v i)) → AppendsBefore a b (load x v i)
adds_load a b x v i h = subst (AppendsBefore a b) (before_of-Load x v i) h

pub adds_save : (a b : List LowStmt) (v : Operand) (i : ℕ) (u : Operand)
    → AppendsBefore a b (before_of (Save v i u)) → AppendsBefore a b (save v i u)
adds_save a b v i u h = subst (AppendsBefore a b) (before_of-Save v i u) h

pub adds_take : (a b : List LowStmt) (xs : List ℕ) → AppendsBefore a b (before_of (Take xs))
    → AppendsBefore a b (take_cells xs)
adds_take a b xs h = subst (AppendsBefore a b) (before_of-Take xs) h

pub adds_get : (a b : List LowStmt) (x : ℕ) → AppendsBefore a b (before_of (Get x))
    → AppendsBefore a b (get x)
adds_get a b x h = subst (AppendsBefore a b) (before_of-Get x) h

pub adds_prim : (a b : List LowStmt) (f f' : PrimOp) (x : ℕ) (u u' v v' : Operand) → f ≡ f' → u ≡ u'
    → v ≡ v' → AppendsBefore a b (before_of (Prim f x u v)) → AppendsBefore a b (prim f' x u' v')
adds_prim a b f f' x u u' v v' p q r h = subst (AppendsBefore a b)
    (before_of-Prim f x u v ∙ (λ i. prim (p i) x (q i) (r i))) h
