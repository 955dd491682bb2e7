-- Something is known only of variables in scope, which no later place binds.
use Rattle.std.proofs.Common.{◌≡◌, ℕ, ◌+◌, ◌<◌, ◌≤◌, Bool, true, false, cond, nat_eq, List, [], ◌∷◌, ◌++◌, Option, Some, None, slice_get, refl, sym, ap, subst, arith}
use Rattle.seq.proofs.Lists.{all_get, some_is}
use Rattle.grin_syntax.specs.declared.program.VarId.{VarId}
use Rattle.grin_syntax.specs.declared.program.Target.{Target}
use Rattle.grin_syntax.specs.declared.program.Target.TheVariants as to
use Rattle.grin_syntax.specs.declared.program.Shape.{Shape}
use Rattle.grin_syntax.specs.declared.program.Shape.TheVariants as shape
use Rattle.grin_syntax.specs.declared.program.Word as W
use Rattle.grin_syntax.specs.declared.program.Word.TheVariants.{Var}
use Rattle.grin_syntax.specs.declared.program.Val as V
use Rattle.grin_syntax.specs.declared.program.Val.TheVariants.{NodeVar, Node, Vector, One}
use Rattle.grin_syntax.specs.Tree.{Act, leaf, unit, case, nested, Program}
use Rattle.grin_syntax.specs.Binders.{numbers_of}
use Rattle.grin_syntax.specs.Formed.{AllOf, Scope, InScope, with_word_variables, with_target, WordFormed, ValFormed}
use Rattle.case_simplify.specs.Known.{Known, Facts, note, told, first_word, second_word, note_word, note_known, note_copies, words_in, word_vars, known_after, facts_in_alternative}
use Rattle.seq.specs.Lists.{times}
use Rattle.grin_meaning.proofs.Scopes.{Once, scope_left}
use Rattle.seq.proofs.Order.{eq_from, eq_self}
use Rattle.seq.proofs.Counted.{times_append}

-- ---- facts of which something holds

abbrev pub EachFact : (ℕ → Known → Type 0) → Facts → Type 0
EachFact Q facts = (x : ℕ) (k : Known) → facts x ≡ Some k → Q x k

module _ (Q : ℕ → Known → Type 0) (facts : Facts) where
  pub noted : (x : VarId) (k : Known) → Q x.0 k → EachFact Q facts → EachFact Q (note x k facts)
  noted x k q h y j e = go (nat_eq y x.0) refl e
    where
      go : (b : Bool) → nat_eq y x.0 ≡ b → cond b (Some k) (facts y) ≡ Some j → Q y j
      go true s e = subst (λ z. Q z j) (sym (eq_from y x.0 s)) (subst (Q x.0) (some_is e) q)
      go false s e = h y j e

  pub noted_word : (o : Option W.Word) (k : Known) → ((x : VarId) → o ≡ Some (Var x) → Q x.0 k)
      → EachFact Q facts → EachFact Q (note_word o k facts)
  noted_word (Some (Var x)) k q h = noted x k (q x refl) h
  noted_word _ k q h = h

  pub noted_known : (x : VarId) (o : Option Known) → ((k : Known) → o ≡ Some k → Q x.0 k)
      → EachFact Q facts → EachFact Q (note_known x o facts)
  noted_known x None q h = h
  noted_known x (Some k) q h = noted x k (q k refl) h

-- what is known is known of words in scope
abbrev pub Inside : Facts → Scope → Type 0
Inside facts scope = EachFact (λ y k. InScope scope.words y) facts

-- ---- what is known

pub in_words : (xs : List ℕ) (scope : Scope) (y : ℕ) → InScope scope.words y
    → InScope (with_word_variables xs scope).words y
in_words xs scope y i = let e : times y (xs ++ scope.words) ≡ times y xs + times y scope.words
    = times_append y xs scope.words in omega (arith, e, i)

pub inside_words : (facts : Facts) (xs : List ℕ) (scope : Scope) → Inside facts scope
    → Inside facts (with_word_variables xs scope)
inside_words facts xs scope i y k e = in_words xs scope y (i y k e)

pub inside_target : (facts : Facts) (t : Target) (scope : Scope) → Inside facts scope
    → Inside facts (with_target t scope)
inside_target facts to.Nothing scope i = i
inside_target facts (to.Node x) scope i = i
inside_target facts (to.One x) scope i = inside_words facts (x.0 ∷ []) scope i
inside_target facts (to.Vector xs) scope i = inside_words facts (numbers_of xs) scope i

-- nothing is known of variables that are bound now
pub new_unknown : (facts : Facts) (scope : Scope) (xs : List ℕ) → Inside facts scope → Once scope xs
    → (y : ℕ) (k : Known) → facts y ≡ Some k → times y xs ≡ 0
new_unknown facts scope xs i once y k e = let s : 0 < times y scope.words = i y k e in let o
    : times y scope.nodes + times y scope.words + times y xs ≤ 1 = once y in omega (arith, s, o)

module _ (g : Program) (scope : Scope) where
  abbrev In : ℕ → Known → Type 0
  In y k = InScope scope.words y

  pub val_words : (v : V.Val) → ValFormed g scope v → AllOf (WordFormed g scope) (words_in v)
  val_words (NodeVar x) f = tt
  val_words (Node t ws) f = f
  val_words (Vector ws) f = f
  val_words (One w) f = (f, tt)

  word_formed : (v : V.Val) (i : ℕ) → ValFormed g scope v → (w : W.Word)
      → slice_get (words_in v) i ≡ Some w → WordFormed g scope w
  word_formed v i f w e = all_get (WordFormed g scope) (words_in v) i w (val_words v f) e

  pub noted_inside : (facts : Facts) (v : V.Val) (s : Shape) → ValFormed g scope v
      → Inside facts scope → Inside (facts_in_alternative v s facts) scope
  noted_inside facts v (shape.Node t xs) f i = noted_word In facts (first_word v) _
      (λ x. word_formed v 0 f (Var x)) i
  noted_inside facts v (shape.Int k) f i = noted_word In _ (second_word v) _
      (λ x. word_formed v 1 f (Var x))
      (noted_word In facts (first_word v) _ (λ x. word_formed v 0 f (Var x)) i)
  noted_inside facts v shape.Else f i = i

  copies_inside : (xs : List VarId) (ws : List W.Word) (facts : Facts)
      → AllOf (λ x. InScope scope.words x.0) xs → Inside facts scope
      → Inside (note_copies xs ws facts) scope
  copies_inside [] ws facts f i = i
  copies_inside (x ∷ xs) [] facts f i = i
  copies_inside (x ∷ xs) (w ∷ ws) facts f i = copies_inside xs ws
      (note_known x (told facts w) facts) f.1 (noted_known In facts x (told facts w) (λ k e. f.0) i)

-- ---- after a statement

all_inside : (zs : List ℕ) (xs : List VarId) → ((y : ℕ) → InScope (numbers_of xs) y → InScope zs y)
    → AllOf (λ x. InScope zs x.0) xs
all_inside zs [] h = tt
all_inside zs (x ∷ xs) h = (
  h x.0 (let c : cond {A = ℕ} (nat_eq x.0 x.0) 1 0 ≡ 1 = ap (λ b. cond {A = ℕ} b 1 0) (eq_self x.0)
      in omega (arith, c)),
  all_inside zs xs (λ y i. h y (omega (arith, i))),
)

vars_inside : (t : Target) (scope : Scope) → AllOf (λ x. InScope (with_target t scope).words x.0)
    (word_vars t)
vars_inside to.Nothing scope = tt
vars_inside (to.Node x) scope = tt
vars_inside (to.One x) scope = all_inside (x.0 ∷ scope.words) (x ∷ [])
    (λ y i. scope_left (x.0 ∷ []) scope.words y i)
vars_inside (to.Vector xs) scope = all_inside (numbers_of xs ++ scope.words) xs
    (λ y i. scope_left (numbers_of xs) scope.words y i)

pub after_inside : (g : Program) (facts : Facts) (t : Target) (o : Act) (scope : Scope)
    → Inside facts scope → Inside (known_after t o facts) (with_target t scope)
after_inside g facts t (leaf (unit v)) scope i = copies_inside g (with_target t scope) (word_vars t)
    (words_in v) facts (vars_inside t scope) (inside_target facts t scope i)
after_inside g facts t (leaf _) scope i = inside_target facts t scope i
after_inside g facts t (case v as') scope i = inside_target facts t scope i
after_inside g facts t (nested b) scope i = inside_target facts t scope i
