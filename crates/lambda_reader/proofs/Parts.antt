-- The trees of lists of parts, with one more at the end, and of parts in boxes.
use Rattle.std.proofs.Common.{◌≡◌, ℕ, ◌≤◌, Bool, List, [], ◌∷◌, ◌++◌, length, refl, sym, ap, ◌∙◌, arith}
use Rattle.std.specs.declared.boxed.Box.{Box}
use Rattle.std.specs.declared.alloc.Global.{Global}
use Rattle.core_reader.specs.declared.syntax.Binder.{Binder}
use Rattle.core_reader.specs.declared.syntax.Pattern.{Pattern}
use Rattle.core_reader.specs.declared.token.Token.TheVariants as word
use Rattle.core_reader.specs.declared.token.Lexeme.{Lexeme}
use Rattle.core_reader.specs.Grammar.{NestingLimit}
use Rattle.core_reader.specs.Machine.{behind}
use Rattle.lambda_reader.specs.declared.syntax.Atom.{Atom}
use Rattle.lambda_reader.specs.declared.syntax.Atom.TheVariants as atoms
use Rattle.lambda_reader.specs.declared.syntax.Atom.TheFolds.{fold_out-Bind}
use Rattle.lambda_reader.specs.declared.syntax.Atom.TheOpen.{Bind-F}
use Rattle.lambda_reader.specs.declared.syntax.Atom.TheOpen as layer
use Rattle.lambda_reader.specs.declared.syntax.App as app
use Rattle.lambda_reader.specs.declared.syntax.Bind.{Bind}
use Rattle.lambda_reader.specs.declared.syntax.Expr as code
use Rattle.lambda_reader.specs.declared.syntax.Expr.TheVariants as exprs
use Rattle.lambda_reader.specs.declared.syntax.Alt as alternative
use Rattle.lambda_reader.specs.Tree.{Term, Terms, AndTerm, Group, NoBinds, Expr, Let, Case, Alts, NoAlts, AndAlt}
use Rattle.lambda_reader.specs.Tree as tree
use Rattle.lambda_reader.specs.Code.{Application, atom_layer, bind_layer, expr_layer, alt_layer, app_layer, term, member, expr, application}
use Rattle.lambda_reader.specs.Machine.{Cont, LetBody, Frame, InBody, BindName, Ended, AltStart, Apply, go, step, run, with_last, ◌⊹◌, ◌⊕◌}
use Rattle.lambda_reader.specs.Reads.{terms, group, alternatives}
use Rattle.lambda_reader.proofs.TreeOf.{term_of-Bracket, term_of-Lambda, expr_of-Let, expr_of-Case, alternative_of}

-- ---- one more at the end

terms_last : (xs : List Atom) (a : Atom) → terms (xs ++ a ∷ []) ≡ with_last (terms xs) (term a)
terms_last [] a = refl
terms_last (x ∷ xs) a = ap (AndTerm (term x)) (terms_last xs a)

puts_before : (b : Bind) (g h : Group) → member b (g ⊕ h) ≡ member b g ⊕ h
puts_before b g h = by _
    (fold_out-Bind Term (Group → Group) Expr (Alts → Alts) Application atom_layer bind_layer
    expr_layer alt_layer app_layer b)
  where
    by : (x : Bind-F Term (Group → Group) Expr (Alts → Alts) Application) → member b ≡ bind_layer x
        → member b (g ⊕ h) ≡ member b g ⊕ h
    by (layer.Value n a) e = rw e refl
    by (layer.Function n params body) e = rw e refl

pub group_last : (xs : List Bind) (b : Bind) → group (xs ++ b ∷ []) ≡ group xs ⊕ member b NoBinds
group_last [] b = refl
group_last (x ∷ xs) b = ap (member x) (group_last xs b) ∙ puts_before x (group xs)
    (member b NoBinds)

pub alts_last : (xs : List alternative.Alt) (p : Pattern) (e : code.Expr)
    → alternatives (xs ++ record { pattern = p; body = e } ∷ []) ≡ alternatives xs ⊹ AndAlt p
    (expr e) NoAlts
alts_last [] p e = alternative_of (record { pattern = p; body = e }) NoAlts
alts_last (x ∷ xs) p e =
    alternative_of x (alternatives (xs ++ record { pattern = p; body = e } ∷ []))
    ∙ ap (AndAlt x.pattern (expr x.body)) (alts_last xs p e)
    ∙ ap (λ w. w ⊹ AndAlt p (expr e) NoAlts) (sym (alternative_of x (alternatives xs)))

-- ---- the states of the reading

pub behind_shorter : (ts : List Lexeme) → length (behind ts) ≤ length ts
behind_shorter [] = omega arith
behind_shorter (t ∷ ts) = omega arith

module _ (lambdas : Bool) (l : NestingLimit) where
  pub pushed : (k : Frame) (h : Term) (items new : List Atom) (a : Atom) (ts : List Lexeme)
      → new ≡ items ++ a ∷ []
      → run lambdas l (Apply k (with_last (AndTerm h (terms items)) (term a))) ts ≡ run lambdas l
      (Apply k (AndTerm h (terms new))) ts
  pushed k h items new a ts e = ap (λ xs. run lambdas l (Apply k (AndTerm h xs)) ts)
      (sym (terms_last items a) ∙ ap terms (sym e))

  pub boxed : (k : Frame) (held : Terms) (at : ℕ) (b : Box app.App Global) (a : app.App)
      (ts : List Lexeme) → b.value ≡ a
      → run lambdas l
      (Apply k (with_last held (tree.Bracket (application a).head (application a).args at))) ts
      ≡ run lambdas l (Apply k (with_last held (term (atoms.Bracket b at)))) ts
  boxed k held at b a ts e = ap (λ a. run lambdas l (Apply k (with_last held a)) ts)
      (ap (λ x. tree.Bracket (application x).head (application x).args at) (sym e) ∙ sym
      (term_of-Bracket b at))

  pub boxed_lambda : (k : Frame) (held : Terms) (at : ℕ) (params : List Binder)
      (b : Box code.Expr Global) (e : code.Expr) (ts : List Lexeme) → b.value ≡ e
      → run lambdas l (Apply k (with_last held (tree.Lambda params (expr e) at))) ts ≡ run lambdas l
      (Apply k (with_last held (term (atoms.Lambda params b at)))) ts
  boxed_lambda k held at params b e ts h = ap (λ a. run lambdas l (Apply k (with_last held a)) ts)
      (ap (λ x. tree.Lambda params (expr x) at) (sym h) ∙ sym (term_of-Lambda params b at))

  pub boxed_let : (k : Cont) (bs : List Bind) (b : Box code.Expr Global) (e : code.Expr)
      (ts : List Lexeme) → b.value ≡ e
      → run lambdas l (Ended k (Let (group bs) (expr e))) ts ≡ run lambdas l
      (Ended k (expr (exprs.Let bs b))) ts
  boxed_let k bs b e ts h = ap (λ w. run lambdas l (Ended k w) ts)
      (ap (λ x. Let (group bs) (expr x)) (sym h) ∙ sym (expr_of-Let bs b))

  pub boxed_case : (k : Cont) (b : Box code.Expr Global) (e : code.Expr) (xs : List alternative.Alt)
      (ts : List Lexeme) → b.value ≡ e
      → run lambdas l (Ended k (Case (expr e) (alternatives xs))) ts ≡ run lambdas l
      (Ended k (expr (exprs.Case b xs))) ts
  boxed_case k b e xs ts h = ap (λ w. run lambdas l (Ended k w) ts)
      (ap (λ x. Case (expr x) (alternatives xs)) (sym h) ∙ sym (expr_of-Case b xs))

  -- behind the last `;` of a group, and of alternatives
  pub some_members : (xs : List Bind) → (xs ≡ [] → ⊥) → (k : Cont) (at : ℕ)
      → step lambdas l (BindName k (group xs)) at word.In ≡ go
      (Apply (InBody (LetBody k (group xs))) tree.NoTerms)
  some_members [] h k at = absurd (h refl)
  some_members (x ∷ xs) h k at = by _
      (fold_out-Bind Term (Group → Group) Expr (Alts → Alts) Application atom_layer bind_layer
      expr_layer alt_layer app_layer x)
    where
      by : (y : Bind-F Term (Group → Group) Expr (Alts → Alts) Application)
          → member x ≡ bind_layer y → step lambdas l (BindName k (member x (group xs))) at word.In ≡
          go (Apply (InBody (LetBody k (member x (group xs)))) tree.NoTerms)
      by (layer.Value n a) e = rw e refl
      by (layer.Function n params body) e = rw e refl

  pub some_alts : (xs : List alternative.Alt) → (xs ≡ [] → ⊥) → (k : Cont) (s : Expr) (at : ℕ)
      → step lambdas l (AltStart k s (alternatives xs)) at word.CloseBrace ≡ go
      (Ended k (Case s (alternatives xs)))
  some_alts [] h k s at = absurd (h refl)
  some_alts (x ∷ xs) h k s at = rw (alternative_of x (alternatives xs)) refl
