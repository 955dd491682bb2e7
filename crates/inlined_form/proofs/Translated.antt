-- A translated program fits.
use Rattle.std.proofs.Common.{◌≡◌, ℕ, suc, ◌+◌, ◌==◌, if◌then◌else◌, Bool, true, false, cond, nat_eq, List, [], ◌∷◌, ◌++◌, map, length, codes, Option, Some, None, slice_get, refl, sym, ap, ◌∙◌, subst, arith}
use Rattle.std.proofs.lemmas.Bool.Decides.{nat_tests}
use Rattle.seq.proofs.Lists.{all_append}
use Rattle.arity_check.specs.declared.normal.Con as arity
use Rattle.arity_check.specs.declared.normal.Var.TheVariants as var
use Rattle.arity_check.specs.declared.normal.Bound.{Bound}
use Rattle.arity_check.specs.declared.normal.Flat.{Flat}
use Rattle.arity_check.specs.declared.normal.Flat.TheVariants as flat
use Rattle.arity_check.specs.declared.normal.PrimOp.{PrimOp}
use Rattle.arity_check.specs.Program.{Program, Function, Term, App, Let, Case, Branches, NoMore, OnCon, OnInt, OnAny}
use Rattle.core_meaning.specs.Evaluation.{nil, cons}
use Rattle.grin_syntax.specs.declared.program.Tag.{Tag}
use Rattle.grin_syntax.specs.declared.program.VarId.{VarId}
use Rattle.grin_syntax.specs.declared.program.Word.{Word}
use Rattle.grin_syntax.specs.declared.program.Word.TheVariants.{Var}
use Rattle.grin_syntax.specs.declared.program.Val.TheVariants.{NodeVar, Node}
use Rattle.grin_syntax.specs.declared.program.Target.TheVariants as to
use Rattle.grin_syntax.specs.declared.program.Shape.TheVariants as shape
use Rattle.grin_syntax.specs.Tree.{Code, end, store, bind, leaf, unit, eval, prim, case, Procedure, as_act}
use Rattle.grin_syntax.specs.Formed.{AllOf}
use Rattle.grin_meaning.specs.Run.{is_fun_kind}
use Rattle.grin_translate.specs.declared.tags.Delay.{Delay}
use Rattle.grin_translate.specs.declared.tags.Delay.TheVariants.{Calls, Applies, Operates, Reads}
use Rattle.grin_translate.specs.declared.tags.Kind.{Kind}
use Rattle.grin_translate.specs.declared.tags.Kind.TheVariants.{Number, Constructor, Waits, Lacks}
use Rattle.grin_translate.specs.Tags.{same_tag_meaning, first_index_where, con_tag, kinds, tag, tag_of, takes_input, delays}
use Rattle.grin_translate.specs.Blocks.{operation, temps, local, temp, node, cell_of, give_block, apply_block, on_number, prim_block, form_block, block, arms, word}
use Rattle.grin_translate.specs.Translation.{global_cells, procedure, fun_body, delay_body, input_body, write_block, pair_block, print_body, start_body, span, delayed_procs, rest, print_procs, tr}
use Rattle.inlined_form.proofs.Sorts.{Sort, anything, a_number, evaluated, Sorts, nothing_known, sorted, IsNode, WordsFit, KeptFits, delayed, alternative_sorted, ActFits, CodeFits, ArmsFit, ProcedureFits, ProgramFits}
use Rattle.inlined_form.proofs.Evaluations.{has_sort}
use Rattle.inlined_form.proofs.Applications.{FirstIsNoPart}
use Rattle.seq.specs.Lists.{numbers_from}

other_sort : (x y : ℕ) (s : Sort) (Γ : Sorts) → nat_eq y x ≡ false → sorted x s Γ y ≡ Γ y
other_sort x y s Γ e = ap (λ b. cond b s (Γ y)) e

abbrev NotWaits : Kind → Type 0
NotWaits Number = Unit {0}
NotWaits (Constructor c) = Unit {0}
NotWaits (Waits d) = ⊥
NotWaits (Lacks f r) = Unit {0}

con_evaluated : (o : Option arity.Con) → is_fun_kind (con_tag o).kind ≡ false
con_evaluated None = refl
con_evaluated (Some c) = refl

module _ (p : Program) where
  -- only what waits is delayed
  kind_evaluated : (k x : Kind) → NotWaits k → same_tag_meaning k x ≡ true
      → is_fun_kind (tag_of p x).kind ≡ false
  kind_evaluated k Number n e = refl
  kind_evaluated k (Constructor c) n e = con_evaluated (slice_get p.cons c)
  kind_evaluated k (Lacks f r) n e = refl
  kind_evaluated Number (Waits d) n e = cc
  kind_evaluated (Constructor c) (Waits d) n e = cc
  kind_evaluated (Lacks f r) (Waits d) n e = cc
  kind_evaluated (Waits d') (Waits d) n e = absurd n

  place_evaluated : (k : Kind) → NotWaits k → (ks : List Kind)
      → delayed (map (tag_of p) ks) (first_index_where (same_tag_meaning k) ks) ≡ false
  place_evaluated k n [] = refl
  place_evaluated k n (x ∷ ks) = on (place_evaluated k n ks) (same_tag_meaning k x) refl
    where
      on : delayed (map (tag_of p) ks) (first_index_where (same_tag_meaning k) ks) ≡ false
          → (b : Bool) → same_tag_meaning k x ≡ b → delayed (map (tag_of p) (x ∷ ks))
          (cond b 0 (suc (first_index_where (same_tag_meaning k) ks))) ≡ false
      on later true e = kind_evaluated k x n e
      on later false e = later

  abbrev ts : List Tag
  ts = (tr p).tags

  tag_evaluated : (k : Kind) → NotWaits k → delayed ts (tag p k).0 ≡ false
  tag_evaluated k n = place_evaluated k n (kinds p)

  abbrev CodeGood : Sorts → Code → Type 0
  CodeGood = CodeFits ts (Unit {0}) (Unit {0})

  module _ (base : ℕ) where
    node_kept : (Γ : Sorts) (f : Flat) → KeptFits Γ (node p base f)
    unfolding kinds
    node_kept Γ (flat.Int k) = tt
    node_kept Γ (flat.Con c xs) = tt
    node_kept Γ (flat.Part f xs) = tt
    node_kept Γ (flat.Call f xs) = tt
    node_kept Γ (flat.Apply x xs) = tt
    node_kept Γ (flat.Prim op x y) = tt

    group_kept : (Γ : Sorts) (group : List Bound) → AllOf (λ c. KeptFits Γ c.val)
        (map (cell_of p base) group)
    group_kept Γ [] = tt
    group_kept Γ (b ∷ bs) = (node_kept Γ b.flat, group_kept Γ bs)

    give_fits : (xs : List Word) (t : ℕ) (v : VarId) (a : Word) (Γ : Sorts) → IsNode (Γ v.0)
        → CodeGood Γ (give_block p base t v a xs)
    unfolding ActFits
    give_fits [] t v a Γ h = (refl, (tt, h))
    give_fits (b ∷ bs) t v a Γ h = (
      tt,
      (tt, h),
      give_fits bs (suc t) (temp p base t) b (sorted (temp p base t).0 evaluated Γ)
          (subst IsNode (sym (has_sort (temp p base t).0 evaluated Γ)) tt),
    )

    apply_fits : (t : ℕ) (x : Word) (xs : List Word) (Γ : Sorts)
        → CodeGood Γ (apply_block p base t x xs)
    unfolding ActFits
    apply_fits t x [] Γ = (refl, tt)
    apply_fits t x (a ∷ as') Γ = (
      tt,
      tt,
      give_fits as' (suc t) (temp p base t) a (sorted (temp p base t).0 evaluated Γ)
          (subst IsNode (sym (has_sort (temp p base t).0 evaluated Γ)) tt),
    )

    number_fits : (v i : VarId) (b : Code) (Γ : Sorts) → IsNode (Γ v.0)
        → ((Γ' : Sorts) → CodeGood Γ' b) → CodeGood Γ (on_number p base v i b)
    unfolding ActFits
    number_fits v i b Γ h f = (refl, (h, (f _, ((refl, tt), tt))))

    prim_fits : (t : ℕ) (op : PrimOp) (a b : Word) (Γ : Sorts)
        → CodeGood Γ (prim_block p base t op a b)
    unfolding ActFits kinds
    prim_fits t op a b Γ =
        let last : Code = bind (to.One (temp p base (t + 4)))
        (leaf (prim (operation op) (Var (temp p base (t + 1))) (Var (temp p base (t + 3)))))
        (end (leaf (unit (Node (tag p Number) (Var (temp p base (t + 4)) ∷ []))))) in
        let second : Code = bind (to.Node (temp p base (t + 2))) (leaf (eval b))
        (on_number p base (temp p base (t + 2)) (temp p base (t + 3)) last) in
        let last_fits : (Γ : Sorts) → CodeGood Γ last
        = λ Γ. (
          refl,
          tt,
          (refl, (tag_evaluated Number tt, has_sort (temp p base (t + 4)).0 a_number Γ)),
        ) in
        let second_fits : (Γ : Sorts) → CodeGood Γ second
        = λ Γ. (
          tt,
          tt,
          number_fits (temp p base (t + 2)) (temp p base (t + 3)) last
              (sorted (temp p base (t + 2)).0 evaluated Γ)
              (subst IsNode (sym (has_sort (temp p base (t + 2)).0 evaluated Γ)) tt) last_fits,
        ) in (
          tt,
          tt,
          number_fits (temp p base t) (temp p base (t + 1)) second
              (sorted (temp p base t).0 evaluated Γ)
              (subst IsNode (sym (has_sort (temp p base t).0 evaluated Γ)) tt) second_fits,
        )

    form_fits : (t : ℕ) (f : Flat) (Γ : Sorts) → CodeGood Γ (form_block p base t f)
    unfolding ActFits kinds
    form_fits t (flat.Int k) Γ = (refl, (tag_evaluated Number tt, tt))
    form_fits t (flat.Con c xs) Γ = (refl, (tag_evaluated (Constructor c) tt, tt))
    form_fits t (flat.Part f xs) Γ = (refl, (tag_evaluated (Lacks f _) tt, tt))
    form_fits t (flat.Call f xs) Γ = (refl, tt)
    form_fits t (flat.Apply x xs) Γ = apply_fits t (word p base x) (map (word p base) xs) Γ
    form_fits t (flat.Prim op x y) Γ = prim_fits t op (word p base x) (word p base y) Γ

    -- a block in the place of an operation
    bind_fits : (x : VarId) (b c : Code) (Γ : Sorts) → CodeGood Γ b
        → CodeGood (sorted x.0 evaluated Γ) c → CodeGood Γ (bind (to.Node x) (as_act b) c)
    unfolding ActFits
    bind_fits x (end o) c Γ h h' =
        (subst IsNode (sym h.0) tt, h.1, subst (λ s. CodeGood (sorted x.0 s Γ) c) (sym h.0) h')
    bind_fits x (store cs b) c Γ h h' = (tt, h, h')
    bind_fits x (bind t o b) c Γ h h' = (tt, h, h')

    -- a local is none of the values between operations
    local_apart : (t x : ℕ) → nat_eq (temp p base t).0 (local p base x).0 ≡ false
    local_apart t x = grind (arith, nat_tests)

    temp_apart : (t u : ℕ) → nat_eq t u ≡ false → nat_eq (temp p base t).0 (temp p base u).0 ≡ false
    temp_apart t u e = grind (arith, nat_tests)

    mutual
      unfolding ActFits

      block_fits : (e : Term) (t : ℕ) (Γ : Sorts) → CodeGood Γ (block p base t e)
      block_fits (App f) t Γ = form_fits t f Γ
      block_fits (Let group e) t Γ = (group_kept _ group, block_fits e t _)
      block_fits (Case e branches) t Γ = bind_fits (temp p base t) (block p base (suc t) e)
          (end (case (NodeVar (temp p base t))
          (arms p base (temp p base t) (suc t + temps e) branches))) Γ (block_fits e (suc t) Γ) (
            refl,
            (
              subst IsNode (sym (has_sort (temp p base t).0 evaluated Γ)) tt,
              branches_fit branches t (suc t + temps e) (sorted (temp p base t).0 evaluated Γ)
                  (has_sort (temp p base t).0 evaluated Γ),
            ),
          )

      branches_fit : (bs : Branches) (v t : ℕ) (Γ : Sorts) → Γ (temp p base v).0 ≡ evaluated
          → ArmsFit ts (Unit {0}) (Unit {0}) Γ (NodeVar (temp p base v))
          (arms p base (temp p base v) t bs)
      branches_fit NoMore v t Γ h = ((refl, tt), tt)
      branches_fit (OnCon c xs e more) v t Γ h =
          (block_fits e t _, branches_fit more v (t + temps e) Γ h)
      branches_fit (OnInt k e more) v t Γ h =
          (block_fits e t _, branches_fit more v (t + temps e) Γ h)
      branches_fit (OnAny None e more) v t Γ h = (block_fits e t _, tt)
      branches_fit (OnAny (Some x) e more) v t Γ h = (
        (
          (
            subst IsNode
                (sym (other_sort (local p base x).0 (temp p base v).0 anything Γ (local_apart v x) ∙
                h)) tt,
            tt,
          ),
          block_fits e t _,
        ),
        tt,
      )

    -- ---- procedures

    fun_fits : (o : Option Function) (Γ : Sorts) → CodeGood Γ (fun_body p base o)
    unfolding ActFits
    fun_fits None Γ = (refl, tt)
    fun_fits (Some f) Γ = block_fits f.body 0 Γ

    input_fits : (Γ : Sorts) → CodeGood Γ (input_body p base)
    unfolding ActFits kinds
    input_fits Γ =
        let b : ℕ = (temp p base 0).0 in
        let v : ℕ = (temp p base 1).0 in
        let Γ1 : Sorts = sorted b a_number Γ in
        let Γ2 : Sorts = sorted v evaluated Γ1 in
        let byte1 : Γ1 b ≡ a_number = has_sort b a_number Γ in
        let byte2 : Γ2 b ≡ a_number = other_sort v b evaluated Γ1 (temp_apart 0 1 refl) ∙ byte1 in
        let Γ3 : Sorts = sorted (local p base 0).0 anything Γ2 in
        let byte3 : Γ3 b ≡ a_number = other_sort (local p base 0).0 b anything Γ2 (local_apart 0 0)
        ∙ byte2 in
        let byte4 : sorted (local p base 1).0 anything Γ3 b ≡ a_number
        = other_sort (local p base 1).0 b anything Γ3 (local_apart 0 1) ∙ byte3 in (
          refl,
          tt,
          (
            tt,
            (tag_evaluated Number tt, byte1),
            (
              refl,
              (
                subst IsNode (sym (has_sort v evaluated Γ1)) tt,
                (
                  (refl, (tag_evaluated (Constructor (nil p)) tt, tt)),
                  (((byte4, (tt, tt)), (refl, (tag_evaluated (Constructor (cons p)) tt, tt))), tt),
                ),
              ),
            ),
          ),
        )

    delay_fits : (d : Delay) (Γ : Sorts) → CodeGood Γ (delay_body p base d)
    delay_fits (Calls f) Γ = fun_fits (slice_get p.funs f) Γ
    delay_fits (Applies m) Γ = form_fits 0
        (flat.Apply (var.Local 0) (map var.Local (numbers_from 1 m))) Γ
    delay_fits (Operates op) Γ = form_fits 0 (flat.Prim op (var.Local 0) (var.Local 1)) Γ
    delay_fits Reads Γ = input_fits Γ

    pair_fits : (Γ : Sorts) → CodeGood Γ (pair_block p base)
    unfolding ActFits
    pair_fits Γ =
        let v : VarId = temp p base 3 in (
          tt,
          tt,
          number_fits v (temp p base 4) (write_block p base) (sorted v.0 evaluated Γ)
              (subst IsNode (sym (has_sort v.0 evaluated Γ)) tt) (λ Γ. (refl, tt, (refl, tt))),
        )

    print_fits : (Γ : Sorts) → CodeGood Γ (print_body p base)
    unfolding ActFits kinds
    print_fits Γ = (
      tt,
      tt,
      (
        refl,
        (
          subst IsNode (sym (has_sort (temp p base 0).0 evaluated Γ)) tt,
          (
            (refl, (tag_evaluated (Constructor (nil p)) tt, tt)),
            (
              pair_fits
                  (alternative_sorted ts
                  (shape.Node (tag p (Constructor (cons p))) (temp p base 1 ∷ (temp p base 2 ∷ [])))
                  (NodeVar (temp p base 0)) (sorted (temp p base 0).0 evaluated Γ)),
              ((refl, tt), tt),
            ),
          ),
        ),
      ),
    )

    start_fits : (Γ : Sorts) → CodeGood Γ (start_body p base)
    unfolding ActFits kinds
    start_fits Γ = ((tt, (tt, tt)), (refl, tt))

  abbrev ProcGood : Procedure → Type 0
  ProcGood = ProcedureFits ts (Unit {0}) (Unit {0})

  procedure_fits : (base : ℕ) (name : List ℕ) (n : ℕ) (b : Code) → ((Γ : Sorts) → CodeGood Γ b)
      → ProcGood (procedure p base name n b)
  procedure_fits base name n b f = f _

  delayed_fit : (ds : List Delay) (base : ℕ) → AllOf ProcGood (delayed_procs p base ds)
  delayed_fit [] base = tt
  delayed_fit (d ∷ ds) base = (delay_fits base d _, delayed_fit ds (base + span p d))

  last_fit : AllOf ProcGood (print_procs p)
  last_fit = (print_fits (rest p) _, on (takes_input p))
    where
      on : (b : Bool) → AllOf ProcGood
          (cond b (procedure p (rest p + 10) (codes "@start") 0 (start_body p (rest p + 10)) ∷ [])
          [])
      on true = (start_fits (rest p + 10) _, tt)
      on false = tt

  globals_fit : (fs : List Function) (f : ℕ) → AllOf (λ c. WordsFit nothing_known c.tag.0 [])
      (global_cells p fs f)
  unfolding kinds
  globals_fit [] f = tt
  globals_fit (g ∷ gs) f = on (g.params == 0) (globals_fit gs (suc f))
    where
      on : (b : Bool) → AllOf (λ c. WordsFit nothing_known c.tag.0 []) (global_cells p gs (suc f))
          → AllOf (λ c. WordsFit nothing_known c.tag.0 [])
          ((if b then record
          { name = g.name; site = record { 0 = f }; tag = tag p (Waits (Calls f)) } ∷ [] else [])
          ++ global_cells p gs (suc f))
      on true more = (tt, more)
      on false more = more

  pub translated_fits : ProgramFits (Unit {0}) (Unit {0}) (tr p)
  translated_fits = record {
    procedures = all_append ProcGood (delayed_procs p (length p.funs) (delays p))
        (print_procs p) (delayed_fit (delays p) (length p.funs)) last_fit;
    globals
        = globals_fit p.funs 0;
  }

  pub first_is_no_part : FirstIsNoPart (tr p).tags
  unfolding kinds
  first_is_no_part = refl
