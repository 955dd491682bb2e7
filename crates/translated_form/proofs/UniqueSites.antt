-- A block's stores have the numbers of their variables as sites, so that no site stands more often
-- than a variable is bound.
use Rattle.std.proofs.Common.{◌≡◌, ℕ, suc, ◌+◌, ◌≤◌, List, [], ◌∷◌, map, Some, None, refl, ap, arith}
use Rattle.arity_check.specs.declared.normal.Bound.{Bound}
use Rattle.arity_check.specs.declared.normal.Flat.{Flat}
use Rattle.arity_check.specs.declared.normal.Flat.TheVariants as flat
use Rattle.arity_check.specs.Program.{Program, Term, App, Let, Case, Branches, NoMore, OnCon, OnInt, OnAny}
use Rattle.grin_syntax.specs.declared.program.VarId.{VarId}
use Rattle.grin_syntax.specs.declared.program.Val.{Val}
use Rattle.grin_syntax.specs.declared.program.Val.TheVariants.{NodeVar}
use Rattle.grin_syntax.specs.declared.program.Word.{Word}
use Rattle.grin_syntax.specs.declared.program.Cell.{Cell}
use Rattle.grin_syntax.specs.declared.program.Target.TheVariants as to
use Rattle.grin_syntax.specs.declared.program.Shape.{Shape}
use Rattle.grin_syntax.specs.declared.program.Shape.TheVariants as shape
use Rattle.grin_syntax.specs.Tree.{Code, end, store, bind, case, Arms, arm, no_arm, as_act}
use Rattle.grin_syntax.specs.Binders.{cell_vars, code_vars, arms_vars, act_sites, code_sites, arms_sites}
use Rattle.grin_translate.specs.declared.tags.Kind.TheVariants.{Constructor}
use Rattle.grin_translate.specs.Tags.{tag}
use Rattle.grin_translate.specs.Blocks.{local, temp, word, cell, cell_of, else_fail, temps, give_block, form_block, block, arms}
use Rattle.translated_form.proofs.UniqueBlocks.{store_times, arm_times, case_times, last_times}
use Rattle.seq.specs.Lists.{times}
use Rattle.seq.proofs.Counted.{times_append}

store_sites : (s : ℕ) (cs : List Cell) (b : Code) → times s (code_sites (store cs b)) ≡ times s
    (map (λ c. c.site.0) cs) + times s (code_sites b)
unfolding code_sites
store_sites s cs b = times_append s (map (λ c. c.site.0) cs) (code_sites b)

arm_sites : (s : ℕ) (p : Shape) (b : Code) (as' : Arms)
    → times s (arms_sites (arm p b as')) ≡ times s (code_sites b) + times s (arms_sites as')
unfolding arms_sites
arm_sites s p b as' = times_append s (code_sites b) (arms_sites as')

last_sites : (s : ℕ) (b : Code) → times s (arms_sites (arm shape.Else b no_arm)) ≡ times s
    (code_sites b)
unfolding arms_sites
last_sites s b = omega (arith, times_append s (code_sites b) [])

fail_sites : (s : ℕ) → times s (arms_sites else_fail) ≡ 0
unfolding arms_sites code_sites act_sites
fail_sites s = refl

as_act_sites : (b : Code) → act_sites (as_act b) ≡ code_sites b
unfolding act_sites code_sites
as_act_sites (end o) = refl
as_act_sites (store cs b) = refl
as_act_sites (bind t o b) = refl

case_sites : (s : ℕ) (v : VarId) (b : Code) (w : Val) (as' : Arms)
    → times s (code_sites (bind (to.Node v) (as_act b) (end (case w as')))) ≡ times s (code_sites b)
    + times s (arms_sites as')
unfolding code_sites act_sites
case_sites s v b w as' =
    let inner : times s (act_sites (as_act b)) ≡ times s (code_sites b)
    = ap (times s) (as_act_sites b) in
    omega (arith, inner, times_append s (act_sites (as_act b)) (arms_sites as'))

module _ (p : Program) (base s : ℕ) where
  group_sites : (group : List Bound) → map (λ c. c.site.0) (map (cell_of p base) group) ≡ cell_vars
      (map (cell_of p base) group)
  group_sites [] = refl
  group_sites (b ∷ group) = ap (λ l. (local p base b.local).0 ∷ l) (group_sites group)

  give_sites : (t : ℕ) (v : VarId) (a : Word) (xs : List Word)
      → code_sites (give_block p base t v a xs) ≡ []
  unfolding code_sites act_sites
  give_sites t v a [] = refl
  give_sites t v a (b ∷ bs) = give_sites (suc t) (temp p base t) b bs

  pub form_sites : (t : ℕ) (f : Flat) → code_sites (form_block p base t f) ≡ []
  unfolding code_sites act_sites arms_sites
  form_sites t (flat.Int k) = refl
  form_sites t (flat.Con c xs) = refl
  form_sites t (flat.Part f xs) = refl
  form_sites t (flat.Call f xs) = refl
  form_sites t (flat.Apply x []) = refl
  form_sites t (flat.Apply x (a ∷ as')) = give_sites (suc t) (temp p base t) (word p base a)
      (map (word p base) as')
  form_sites t (flat.Prim op a b) = refl

  mutual
    pub block_sites : (t : ℕ) (e : Term) → times s (code_sites (block p base t e)) ≤ times s
        (code_vars (block p base t e))
    block_sites t (App f) =
        let none : times s (code_sites (form_block p base t f)) ≡ 0 = ap (times s) (form_sites t f)
        in
        omega (arith, none)
    block_sites t (Let group e) =
        let cells = map (cell_of p base) group in
        let same : times s (map (λ c. c.site.0) cells) ≡ times s (cell_vars cells)
        = ap (times s) (group_sites group) in
        omega (
          arith,
          same,
          store_sites s cells (block p base t e),
          store_times s cells (block p base t e),
          block_sites t e,
        )
    block_sites t (Case e branches) =
        let v = temp p base t in
        let b = block p base (suc t) e in
        let others = arms p base v (suc t + temps e) branches in
        omega (
          arith,
          case_sites s v b (NodeVar v) others,
          case_times s v b (NodeVar v) others,
          block_sites (suc t) e,
          branches_sites v (suc t + temps e) branches,
        )

    branches_sites : (v : VarId) (t : ℕ) (bs : Branches)
        → times s (arms_sites (arms p base v t bs)) ≤ times s (arms_vars (arms p base v t bs))
    branches_sites v t NoMore = omega (arith, fail_sites s)
    branches_sites v t (OnCon c xs e rest) =
        let named = shape.Node (tag p (Constructor c)) (map (local p base) xs) in
        let b = block p base t e in
        let others = arms p base v (t + temps e) rest in
        omega (
          arith,
          arm_sites s named b others,
          arm_times s named b others,
          block_sites t e,
          branches_sites v (t + temps e) rest,
        )
    branches_sites v t (OnInt k e rest) =
        let b = block p base t e in
        let others = arms p base v (t + temps e) rest in
        omega (
          arith,
          arm_sites s (shape.Int k) b others,
          arm_times s (shape.Int k) b others,
          block_sites t e,
          branches_sites v (t + temps e) rest,
        )
    branches_sites v t (OnAny None e rest) =
        let b = block p base t e in
        omega (arith, last_sites s b, last_times s b, block_sites t e)
    branches_sites v t (OnAny (Some x) e rest) =
        let named = cell p base x (NodeVar v) ∷ [] in
        let b = block p base t e in
        omega (
          arith,
          last_sites s (store named b),
          last_times s (store named b),
          store_sites s named b,
          store_times s named b,
          block_sites t e,
        )
