-- The block of an expression in normal form binds its variables in order, each once.
use Rattle.std.proofs.Common.{◌≡◌, ℕ, suc, ◌+◌, List, [], ◌∷◌, map, length, refl, sym, ap, ◌∙◌, subst, arith}
use Rattle.std.specs.List.{range_with_len}
use Rattle.std.proofs.lemmas.List.FromFn.{length-range_with_len}
use Rattle.core_reader.specs.Tree as tree
use Rattle.core_reader.specs.Tree.{Expr, Alts, Bind}
use Rattle.arity_check.specs.declared.normal.Bound.{Bound}
use Rattle.arity_check.specs.Numbered.{LocalsAreConsecutive, NewBindingsAreNumbered}
use Rattle.arity_check.specs.Normal.{bound, IsGroup, NoMembers, AndMember, IsNormal, PlainApp, BoundApp, Group, Choice, AreBranches, NoBranches, ConBranch, IntBranch, NamelessBranch, NamedBranch}
use Rattle.arity_check.specs.Scope.{Scope}
use Rattle.arity_check.specs.Program.{Program, Term, Branches}
use Rattle.grin_syntax.specs.declared.program.VarId.{VarId}
use Rattle.grin_syntax.specs.declared.program.Val.TheVariants.{NodeVar}
use Rattle.grin_syntax.specs.declared.program.Shape.TheVariants as shape
use Rattle.grin_syntax.specs.Tree.{store}
use Rattle.grin_syntax.specs.Binders.{numbers_of, code_vars, arms_vars}
use Rattle.grin_translate.specs.declared.tags.Kind.TheVariants.{Constructor}
use Rattle.grin_translate.specs.Tags.{tag}
use Rattle.grin_translate.specs.Blocks.{local, temp, cell, cell_of, form_temps, temps, branch_temps, form_block, block, arms}
use Rattle.grin_translate.specs.Translation.{binders, branch_binders}
use Rattle.translated_form.proofs.UniqueNumbers.{Placed, placed_none, placed_value, placed_local, placed_both, placed_within}
use Rattle.translated_form.proofs.UniqueBlocks.{store_times, arm_times, case_times, last_times, fail_times, group_placed, fields_placed, form_placed}
use Rattle.arity_check.proofs.Numbers.{numbered_both}
use Rattle.seq.specs.Lists.{times}

-- ---- let groups are numbered in order

module _ (numbered : NewBindingsAreNumbered) (p : tree.Program) where
  group_numbered : {s : Scope} {n : ℕ} {bs : List Bind} {group : List Bound} {xs : List ℕ}
      → IsGroup p s n bs group xs → LocalsAreConsecutive n group
  group_numbered NoMembers = tt
  group_numbered {s = s} {n = n} (AndMember {b = b} news bounds form t f e g is) =
      subst (LocalsAreConsecutive n) (sym is)
      (numbered_both n t news (bound t form ∷ bounds) e
      (numbered p s n b.app.head b.app.args news form f) (refl, group_numbered g))

  -- ---- where the locals of an expression end

  mutual
    pub normal_end : {s : Scope} {n m : ℕ} {d : Expr} {e : Term} → IsNormal p s n d e m
        → m ≡ n + binders e
    normal_end (PlainApp f) = omega arith
    normal_end (BoundApp f) = omega arith
    normal_end (Group inner xs bounds e g b) = omega (arith, normal_end b)
    normal_end (Choice a b) = omega (arith, normal_end a, branches_end b)

    branches_end : {s : Scope} {n m : ℕ} {as' : Alts} {bs : Branches} → AreBranches p s n as' bs m
        → m ≡ n + branch_binders bs
    branches_end NoBranches = omega arith
    branches_end {n = n} (ConBranch {fields = fields} xs e is b r) =
        let size : length xs ≡ length fields = ap length is ∙ length-range_with_len n
        (length fields) in
        omega (arith, size, normal_end b, branches_end r)
    branches_end (IntBranch b r) = omega (arith, normal_end b, branches_end r)
    branches_end (NamelessBranch e b r) = omega (arith, normal_end b, branches_end r)
    branches_end (NamedBranch e b r) = omega (arith, normal_end b, branches_end r)

  -- ---- the variables of its block

  module _ (q : Program) (base y : ℕ) where
    mutual
      pub normal_placed : {s : Scope} {n m : ℕ} {d : Expr} {e : Term} → IsNormal p s n d e m
          → (t : ℕ) → Placed base y t (t + temps e) n m (times y (code_vars (block q base t e)))
      normal_placed (PlainApp {n = n} {form = form} f) t = form_placed q base y t n form
      normal_placed (BoundApp {s = s} {n = n} {app = app} {new = new} {news = news} {form = form} f)
          t =
          placed_within base t (t + form_temps form) n (n + length (new ∷ news)) _ (omega arith)
          (omega arith) (omega arith) (omega arith)
          (omega (
            arith,
            store_times y (map (cell_of q base) (new ∷ news))
                (form_block q base t form),
          ))
          (placed_both base
          (group_placed q base y t n (new ∷ news)
          (numbered p s n app.head app.args (new ∷ news) form f))
          (form_placed q base y t (n + length (new ∷ news)) form))
      normal_placed (Group {n = n} {m = m} {e = e} inner xs bounds is g b) t =
          placed_within base t (t + temps e) n m _ (omega arith) (omega arith) (omega arith)
          (omega arith)
          (omega (arith, store_times y (map (cell_of q base) bounds) (block q base t e)))
          (placed_both base (group_placed q base y t n bounds (group_numbered g))
          (normal_placed b t))
      normal_placed (Choice {n = n} {k = k} {m = m} {e = e} {branches = branches} a b) t =
          let v = temp q base t in
          let tested : Placed base y (t + 1) (suc t + temps e) n k
          (times y (code_vars (block q base (suc t) e))) =
          placed_within base (t + 1) (suc t + temps e) n k _ (omega arith) (omega arith)
          (omega arith) (omega arith) (omega arith) (normal_placed a (suc t)) in
          placed_within base t (t + suc (temps e + branch_temps branches)) n m _ (omega arith)
          (omega arith) (omega arith) (omega arith)
          (omega (
            arith,
            case_times y v (block q base (suc t) e) (NodeVar v)
                (arms q base v (suc t + temps e) branches),
          ))
          (placed_both base (placed_value base y t n)
          (placed_both base tested (branches_placed b v (suc t + temps e))))

      branches_placed : {s : Scope} {n m : ℕ} {as' : Alts} {bs : Branches}
          → AreBranches p s n as' bs m → (v : VarId) (t : ℕ)
          → Placed base y t (t + branch_temps bs) n m (times y (arms_vars (arms q base v t bs)))
      branches_placed (NoBranches {n = n}) v t =
          placed_within base t (t + 0) n n _ (omega arith) (omega arith) (omega arith) (omega arith)
          (omega (arith, fail_times y)) (placed_none base y t n)
      branches_placed
          (ConBranch {n = n} {m = m} {number = number} {fields = fields} {e = e}
          {branches = branches} xs is numbers b r) v t =
          let named = shape.Node (tag q (Constructor number)) (map (local q base) xs) in
          let same : times y (numbers_of (map (local q base) xs)) ≡ times y
          (numbers_of (map (local q base) (range_with_len n (length fields))))
          = ap (λ l. times y (numbers_of (map (local q base) l))) numbers in
          placed_within base t (t + (temps e + branch_temps branches)) n m _ (omega arith)
          (omega arith) (omega arith) (omega arith)
          (omega (
            arith,
            same,
            arm_times y named (block q base t e)
                (arms q base v (t + temps e) branches),
          ))
          (placed_both base (fields_placed q base y t n (length fields))
          (placed_both base (normal_placed b t) (branches_placed r v (t + temps e))))
      branches_placed
          (IntBranch {n = n} {m = m} {number = number} {e = e} {branches = branches} b r) v t =
          placed_within base t (t + (temps e + branch_temps branches)) n m _ (omega arith)
          (omega arith) (omega arith) (omega arith)
          (omega (
            arith,
            arm_times y (shape.Int number) (block q base t e)
                (arms q base v (t + temps e) branches),
          ))
          (placed_both base (normal_placed b t) (branches_placed r v (t + temps e)))
      branches_placed (NamelessBranch {n = n} {m = m} {e = e} is b r) v t =
          placed_within base t (t + temps e) n m _ (omega arith) (omega arith) (omega arith)
          (omega (arith, branches_end r))
          (omega (arith, last_times y (block q base t e))) (normal_placed b t)
      branches_placed (NamedBranch {n = n} {m = m} {e = e} is b r) v t =
          let named = cell q base n (NodeVar v) ∷ [] in
          placed_within base t (t + temps e) n m _ (omega arith) (omega arith) (omega arith)
          (omega (arith, branches_end r))
          (omega (
            arith,
            last_times y (store named (block q base t e)),
            store_times y named (block q base t e),
          ))
          (placed_both base (placed_local base y t n) (normal_placed b t))
