-- A block has at most 24 times the size of its expression.
use Rattle.std.proofs.Common.{◌≡◌, ℕ, zero, suc, ◌≤◌, ◌+◌, ◌*◌, List, [], ◌∷◌, map, length, ap, arith}
use Rattle.std.specs.List.{range_with_len}
use Rattle.std.proofs.lemmas.List.{length-map}
use Rattle.core_reader.specs.Tree as tree
use Rattle.core_reader.specs.Tree.{Expr, Alts, NoAlts, AndAlt}
use Rattle.core_reader.specs.Size.{expr_size, alts_size}
use Rattle.core_reader.specs.Grammar.{IsNonemptyAlts}
use Rattle.core_reader.specs.Readable.{ReadableExpr, ReadableAlts}
use Rattle.arity_check.specs.declared.normal.Flat.{Flat}
use Rattle.arity_check.specs.declared.normal.Flat.TheVariants as flat
use Rattle.arity_check.specs.declared.normal.Bound.{Bound}
use Rattle.arity_check.specs.declared.normal.PrimOp.{PrimOp}
use Rattle.arity_check.specs.Program.{Program, Term, Branches}
use Rattle.arity_check.specs.Scope.{Scope}
use Rattle.arity_check.specs.Normal.{IsNormal, PlainApp, BoundApp, Group, Choice, AreBranches, NoBranches, ConBranch, IntBranch, NamelessBranch, NamedBranch}
use Rattle.grin_syntax.specs.declared.program.VarId.{VarId}
use Rattle.grin_syntax.specs.declared.program.Word.{Word}
use Rattle.grin_syntax.specs.Tree.{Code, end, store, bind, as_act}
use Rattle.inline_theory.specs.Size.{val_size, cells_size, act_size, code_size, arms_size}
use Rattle.grin_translate.specs.Blocks.{local, temp, temps, word, node, cell_of, give_block, apply_block, prim_block, form_block, block, arms}
use Rattle.inlined_form.proofs.Costs.{form_words, cost, some_size, flat_cost, group_cost}

act_as_code : (b : Code) → act_size (as_act b) ≤ code_size b + 1
unfolding act_size
act_as_code (end o) = omega arith
act_as_code (store cs b) = omega arith
act_as_code (bind t o b) = omega arith

module _ (q : Program) (base : ℕ) where
  node_size : (f : Flat) → val_size (node q base f) ≤ 1 + form_words f
  node_size (flat.Int k) = omega arith
  node_size (flat.Con c xs) = omega (arith, length-map xs (word q base))
  node_size (flat.Part f xs) = omega (arith, length-map xs (word q base))
  node_size (flat.Call f xs) = omega (arith, length-map xs (word q base))
  node_size (flat.Apply x xs) = omega (arith, length-map xs (word q base))
  node_size (flat.Prim op x y) = omega arith

  pub cells_of_size : (bs : List Bound) → cells_size (map (cell_of q base) bs) ≤ 3 * cost bs
  cells_of_size [] = omega arith
  cells_of_size (b ∷ bs) = omega (arith, node_size b.flat, cells_of_size bs)

  give_size : (xs : List Word) (t : ℕ) (v : VarId) (a : Word)
      → code_size (give_block q base t v a xs) ≤ 3 + 4 * length xs
  unfolding act_size
  give_size [] t v a = omega arith
  give_size (b ∷ bs) t v a = omega (arith, give_size bs (suc t) (temp q base t) b)

  apply_size : (t : ℕ) (x : Word) (xs : List Word) → code_size (apply_block q base t x xs) ≤ 2 + 4 *
      length xs
  unfolding act_size
  apply_size t x [] = omega arith
  apply_size t x (a ∷ as') = omega (arith, give_size as' (suc t) (temp q base t) a)

  prim_size : (t : ℕ) (op : PrimOp) (a b : Word) → code_size (prim_block q base t op a b) ≤ 20
  unfolding act_size
  prim_size t op a b = omega arith

  pub form_size : (t : ℕ) (f : Flat) → code_size (form_block q base t f) ≤ 20 + 4 * form_words f
  unfolding act_size
  form_size t (flat.Int k) = omega arith
  form_size t (flat.Con c xs) = omega (arith, length-map xs (word q base))
  form_size t (flat.Part f xs) = omega (arith, length-map xs (word q base))
  form_size t (flat.Call f xs) = omega (arith, length-map xs (word q base))
  form_size t (flat.Apply x xs) = omega
      (arith, length-map xs (word q base), apply_size t (word q base x) (map (word q base) xs))
  form_size t (flat.Prim op x y) = omega (arith, prim_size t op (word q base x) (word q base y))

  -- what a case itself takes is paid by an alternative
  abbrev paid : Alts → ℕ
  paid NoAlts = 0
  paid (AndAlt pattern body rest) = 5

  all_paid : (alts : Alts) → IsNonemptyAlts alts → paid alts ≡ 5
  all_paid NoAlts h = absurd h
  all_paid (AndAlt pattern body rest) h = omega arith

  module _ (p : tree.Program) where
    range_length : (n k : ℕ) → length (range_with_len n k) ≡ k
    range_length n zero = omega arith
    range_length n (suc k) = omega (arith, range_length (n + 1) k)

    mutual
      unfolding act_size

      pub block_size : {s : Scope} {n m : ℕ} {e : Expr} {t : Term} → IsNormal p s n e t m
          → ReadableExpr p.names e → (k : ℕ) → code_size (block q base k t) ≤ 24 * expr_size e
      block_size (PlainApp {app = app} {form = form} a) r k
          = omega (arith, form_size k form, flat_cost p _ a, some_size app.head)
      block_size (BoundApp {app = app} {new = new} {news = news} {form = form} a) r k
          = omega (
            arith,
            form_size k form,
            flat_cost p _ a,
            cells_of_size (new ∷ news),
            some_size app.head,
          )
      block_size (Group inner xs bounds e g a) r k = omega
          (arith, cells_of_size bounds, group_cost p _ g, block_size a r.2 k)
      block_size (Choice {tested = tested} {alts = alts} {e = e} {branches = branches} a b) r k =
          omega (
            arith,
            act_as_code (block q base (suc k) e),
            block_size a r.1 (suc k),
            branches_size b r.2 (temp q base k) (suc k + temps e),
            all_paid alts r.0,
          )

      branches_size : {s : Scope} {n m : ℕ} {alts : Alts} {branches : Branches}
          → AreBranches p s n alts branches m → ReadableAlts p.names alts → (v : VarId) (k : ℕ)
          → arms_size (arms q base v k branches) + paid alts ≤ 24 * alts_size alts + 1
      branches_size NoBranches r v k = omega arith
      branches_size (ConBranch {n = n} {fields = fields} {e = e} xs c is a b) r v k =
          omega (
            arith,
            block_size a r.1 k,
            branches_size b r.2 v (k + temps e),
            length-map xs (local q base),
            ap length is,
            range_length n (length fields),
          )
      branches_size (IntBranch {e = e} a b) r v k = omega
          (arith, block_size a r.1 k, branches_size b r.2 v (k + temps e))
      branches_size (NamelessBranch {e = e} is a b) r v k = omega (arith, block_size a r.1 k)
      branches_size (NamedBranch {e = e} is a b) r v k = omega (arith, block_size a r.1 k)
