-- The global cells, the start and its argument in a translated program.
use Rattle.std.proofs.Common.{◌≡◌, ℕ, zero, suc, ◌+◌, Bool, true, false, cond, not, nat_eq, List, [], ◌∷◌, ◌++◌, length, codes, Some, None, slice_get, refl, sym, ap, ◌∙◌, subst, arith, eqb-true}
use Rattle.seq.proofs.Lists.{all_append}
use Rattle.arity_check.specs.Program.{Program, Function}
use Rattle.core_meaning.specs.Evaluation.{params, params_of, global}
use Rattle.grin_syntax.specs.declared.program.Tag.{Tag}
use Rattle.grin_syntax.specs.declared.program.TagKind.TheVariants as kind
use Rattle.grin_syntax.specs.declared.program.GlobalCell.{GlobalCell}
use Rattle.grin_syntax.specs.Tree.{Procedure}
use Rattle.grin_syntax.specs.Formed.{AllOf, GlobalFormed, ArgumentKnown, argument_words}
use Rattle.grin_translate.specs.declared.tags.Delay.TheVariants.{Calls}
use Rattle.grin_translate.specs.declared.tags.Kind.{Kind}
use Rattle.grin_translate.specs.declared.tags.Kind.TheVariants.{Number, Waits}
use Rattle.grin_translate.specs.Tags.{takes_input, delays, kinds, tag, tag_of}
use Rattle.grin_translate.specs.Translation.{global_cells, procedure, print, print_body, start_body, delayed_procs, rest, tr}
use Rattle.grin_translate.specs.WellFormed.{HasParams, WellFormed}
use Rattle.grin_translate.proofs.Found.{has_calls, has_waits, tag_found}
use Rattle.translated_form.proofs.Lists.{all_if}
use Rattle.translated_form.proofs.Named.{long_delayed, global_known}

after_all : {A : Type 0} (xs ys : List A) (i j : ℕ) → j ≡ length xs + i
    → slice_get (xs ++ ys) j ≡ slice_get ys i
after_all [] ys i j e = let same : j ≡ i = omega (arith, e) in ap (slice_get ys) same
after_all (x ∷ xs) ys i zero e = absurd (omega (arith, e))
after_all (x ∷ xs) ys i (suc j) e = after_all xs ys i j (omega (arith, e))

module _ (p : Program) where
  -- ---- global cells

  abbrev cell_of_function : ℕ → Function → GlobalCell
  cell_of_function f g = record
      { name = g.name; site = record { 0 = f }; tag = tag p (Waits (Calls f)) }

  -- what holds of the cell of each function without parameters
  all_globals : (P : GlobalCell → Type 0) →
      ((f : ℕ) (g : Function) → slice_get p.funs f ≡ Some g → g.params ≡ 0
      → P (cell_of_function f g))
      → (gs : List Function) (k : ℕ) →
      ((i : ℕ) (g : Function) → slice_get gs i ≡ Some g → slice_get p.funs (k + i) ≡ Some g)
      → AllOf P (global_cells p gs k)
  all_globals P h [] k at = tt
  all_globals P h (g ∷ gs) k at =
      let here : k + 0 ≡ k = omega arith in
      all_append P (cond (nat_eq g.params 0) (cell_of_function k g ∷ []) []) _
      (all_if P (nat_eq g.params 0) (cell_of_function k g)
      (λ e. h k g (subst (λ i. slice_get p.funs i ≡ Some g) here (at 0 g refl))
      (eqb-true g.params 0 e)))
      (all_globals P h gs (suc k)
      (λ i g' e. let next : k + suc i ≡ suc k + i = omega arith
      in subst (λ j. slice_get p.funs j ≡ Some g') next (at (suc i) g' e)))

  each_global : (P : GlobalCell → Type 0) →
      ((f : ℕ) (g : Function) → slice_get p.funs f ≡ Some g → g.params ≡ 0
      → P (cell_of_function f g)) → AllOf P (tr p).globals
  each_global P h = all_globals P h p.funs 0
      (λ i g e. let here : 0 + i ≡ i = omega arith in rw here e)

  global_formed : (f : ℕ) (g : Function) → slice_get p.funs f ≡ Some g → g.params ≡ 0
      → GlobalFormed (tr p) (cell_of_function f g)
  global_formed f g e none =
      let k : Kind = Waits (Calls f) in (
        tag_of p k,
        tag_found p k (has_waits p (Calls f) (has_calls p f g e)),
        ap (params_of p) e ∙ none,
      )

  pub globals_formed : AllOf (GlobalFormed (tr p)) (tr p).globals
  globals_formed = each_global (GlobalFormed (tr p)) global_formed

  pub number_formed : (t : Tag) × (slice_get (tr p).tags 0 ≡ Some t) × (t.kind ≡ kind.Con)
      × (t.name ≡ codes "Int") × (t.fields ≡ 1)
  unfolding kinds
  number_formed = (tag_of p Number, refl, refl, refl, refl)

  -- ---- the start

  pub start_formed : (q : Procedure) × (slice_get (tr p).procs (tr p).start.0 ≡ Some q)
      × (length q.params ≡ argument_words (tr p).argument)
  start_formed = by_test (takes_input p)
    where
      -- the procedures, where the list of the input is taken or not
      with_start : Bool → List Procedure
      with_start b = procedure p (rest p) (codes "@print") 1 (print_body p (rest p)) ∷ cond b
          (procedure p (rest p + 10) (codes "@start") 0 (start_body p (rest p + 10)) ∷ []) []

      by_test : (b : Bool) → (q : Procedure) ×
          (slice_get (delayed_procs p (length p.funs) (delays p) ++ with_start b)
          (cond b (record { 0 = suc (length (delays p)) }) (print p)).0 ≡ Some q)
          × (length q.params ≡ argument_words (cond b None (Some (global p p.main))))
      by_test true =
          let e = long_delayed p (delays p) (length p.funs) in (
            _,
            after_all (delayed_procs p (length p.funs) (delays p)) (with_start true) 1
                (suc (length (delays p))) (omega (arith, e)),
            refl,
          )
      by_test false =
          let e = long_delayed p (delays p) (length p.funs) in (
            _,
            after_all (delayed_procs p (length p.funs) (delays p)) (with_start false) 0
                (length (delays p)) (omega (arith, e)),
            refl,
          )

  -- ---- the argument

  module _ (ok : WellFormed p) where
    main_known : takes_input p ≡ false → HasParams p p.main (λ n. n ≡ 0)
    unfolding takes_input
    main_known takes = (
      ok.main.0,
      ok.main.1,
      sym (ap (params_of p) ok.main.1) ∙ by_test
          (nat_eq (params p p.main) 0) refl takes,
    )
      where
        by_test : (b : Bool) → nat_eq (params p p.main) 0 ≡ b → not b ≡ false → params p p.main ≡ 0
        by_test true e t = eqb-true (params p p.main) 0 e
        by_test false e t = cc

    pub argument_formed : ArgumentKnown (tr p) (tr p).argument
    argument_formed = by_test (takes_input p) refl
      where
        by_test : (b : Bool) → takes_input p ≡ b → ArgumentKnown (tr p)
            (cond b None (Some (global p p.main)))
        by_test true e = tt
        by_test false e = global_known p p.main (main_known e)
