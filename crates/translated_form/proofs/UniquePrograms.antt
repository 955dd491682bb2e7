-- In the translation of a valid program each variable is bound once, and each site stands once.
use Rattle.std.proofs.Common.{◌≡◌, ℕ, zero, suc, ◌+◌, ◌*◌, ◌≤◌, Bool, true, false, cond, nat_eq, List, [], ◌∷◌, ◌++◌, map, length, codes, Option, Some, None, slice_get, refl, ap, ◌∙◌, subst, arith}
use Rattle.std.proofs.lemmas.List.{length-map}
use Rattle.std.proofs.lemmas.Option.{same_Some, none-some}
use Rattle.core_reader.specs.Tree as tree
use Rattle.arity_check.specs.Accepted.{IsValid}
use Rattle.arity_check.specs.Normal.{Pairwise, IsFunction, IsNormal}
use Rattle.arity_check.specs.Numbered.{NewBindingsAreNumbered}
use Rattle.arity_check.specs.Scope.{Scope}
use Rattle.arity_check.specs.Program.{Program, Function}
use Rattle.arity_check.specs.declared.normal.Flat.TheVariants as flat
use Rattle.arity_check.specs.declared.normal.Var.TheVariants as var
use Rattle.core_meaning.specs.Evaluation.{params_of}
use Rattle.grin_syntax.specs.Tree.{Code, Procedure}
use Rattle.grin_syntax.specs.Binders.{numbers_of, act_vars, code_vars, arms_vars, act_sites, code_sites, arms_sites, procedure_vars, procs_vars, procs_sites, program_vars, program_sites}
use Rattle.grin_translate.specs.declared.tags.Delay.{Delay}
use Rattle.grin_translate.specs.declared.tags.Delay.TheVariants.{Calls, Applies, Operates, Reads}
use Rattle.grin_translate.specs.declared.tags.Kind.TheVariants.{Waits}
use Rattle.grin_translate.specs.Tags.{takes_input, delays, delay_name, delay_params, tag}
use Rattle.grin_translate.specs.Blocks.{local, temps}
use Rattle.grin_translate.specs.Translation.{binders, procedure, fun_body, fun_span, delay_body, span, spans, delayed_procs, rest, print_body, start_body, print_procs, global_cells, tr}
use Rattle.translated_form.proofs.UniqueNumbers.{one_if, Once, once_none, once_number, once_both, once_within, Placed, placed_none, placed_local, placed_both, placed_within, placed_once}
use Rattle.translated_form.proofs.UniqueBlocks.{params_placed, value_at, form_placed}
use Rattle.translated_form.proofs.UniqueTerms.{normal_end, normal_placed}
use Rattle.translated_form.proofs.UniqueSites.{form_sites, block_sites}
use Rattle.seq.specs.Lists.{numbers_from, times}
use Rattle.seq.proofs.Counted.{length_numbers, times_append}

-- a function's body is in normal form, and its locals are numbered after its parameters
record InNormalForm (t : tree.Program) (g : Function) : Type 0 where
  scope : Scope
  first : ℕ
  params : g.params ≡ first
  expr : tree.Expr
  after : ℕ
  body : IsNormal t scope first expr g.body after

all_normal : (t : tree.Program) (fs : List tree.Function) (gs : List Function)
    → Pairwise (IsFunction t) fs gs → (i : ℕ) (g : Function) → slice_get gs i ≡ Some g
    → InNormalForm t g
all_normal t [] [] w i g e = absurd (none-some g e)
all_normal t [] (h ∷ gs) w i g e = absurd w
all_normal t (f ∷ fs) [] w i g e = absurd w
all_normal t (f ∷ fs) (h ∷ gs) w zero g e =
    subst (InNormalForm t) (same_Some h g e)
    (record {
      scope = _;
      first = length f.params;
      params = w.0.params;
      expr = f.body;
      after
          = w.0.after;
      body = w.0.body;
    })
all_normal t (f ∷ fs) (h ∷ gs) w (suc i) g e = all_normal t fs gs w.1 i g e

module _ (p : Program) (y : ℕ) where
  -- ---- one procedure

  built_once : (base n u m size : ℕ) (name : List ℕ) (b : Code)
      → Placed base y 0 u n m (times y (code_vars b)) → 2 * u ≤ size → 2 * m ≤ size
      → Once y base (base + size) (times y (procedure_vars (procedure p base name n b)))
  built_once base n u m size name b a du dm =
      let names : List ℕ = numbers_of (map (local p base) (numbers_from 0 n)) in
      let params : Placed base y 0 0 0 n (times y names)
      = placed_within base 0 0 0 n (times y names) (omega arith) (omega arith) (omega arith)
      (omega arith) (omega arith) (params_placed p base y 0 0 n) in
      once_within base (base + size) (times y (names ++ code_vars b)) (omega arith) (omega arith)
      (omega (arith, times_append y names (code_vars b)))
      (placed_once base size du dm (placed_both base params a))

  -- the values between operations of the shorter procedures
  two_values : (base n : ℕ) → Placed base y 0 2 n n
      (one_if y (base + 2 * 0 + 1) + one_if y (base + 2 * 1 + 1))
  two_values base n = placed_both base (value_at p base y 0 n 0 0 1 (omega arith) (omega arith))
      (value_at p base y 0 n 1 1 2 (omega arith) (omega arith))

  two_locals : (base t : ℕ) → Placed base y t t 0 2
      (one_if y (base + 2 * 0) + one_if y (base + 2 * 1))
  two_locals base t = placed_both base (placed_local base y t 0) (placed_local base y t 1)

  abbrev start_procedure : ℕ → Procedure
  start_procedure base = procedure p base (codes "@start") 0 (start_body p base)

  print_placed : (base : ℕ) → Placed base y 0 5 1 1 (times y (code_vars (print_body p base)))
  unfolding code_vars act_vars arms_vars
  print_placed base =
      let three = placed_both base (two_values base 1)
      (value_at p base y 0 1 2 2 3 (omega arith) (omega arith)) in
      let four = placed_both base three (value_at p base y 0 1 3 3 4 (omega arith) (omega arith)) in
      let five = placed_both base four (value_at p base y 0 1 4 4 5 (omega arith) (omega arith)) in
      placed_within base 0 5 1 1 _ (omega arith) (omega arith) (omega arith) (omega arith)
      (omega arith) five

  start_placed : (base : ℕ) → Placed base y 0 0 0 2 (times y (code_vars (start_body p base)))
  unfolding code_vars act_vars
  start_placed base = placed_within base 0 0 0 2 _ (omega arith) (omega arith) (omega arith)
      (omega arith) (omega arith) (two_locals base 0)

  input_placed : (base : ℕ) → Placed base y 0 2 0 2 (times y (code_vars (delay_body p base Reads)))
  unfolding code_vars act_vars arms_vars
  input_placed base = placed_within base 0 2 0 2 _ (omega arith) (omega arith) (omega arith)
      (omega arith) (omega arith) (placed_both base (two_values base 0) (two_locals base 2))

  fail_placed : (base : ℕ) → Placed base y 0 0 0 0 (times y (code_vars (fun_body p base None)))
  unfolding code_vars act_vars
  fail_placed base = placed_none base y 0 0

  start_once : (b : Bool) (base : ℕ) → Once y base (base + 10)
      (times y (procs_vars (cond b (start_procedure base ∷ []) [])))
  start_once true base =
      let here : List ℕ = procedure_vars (start_procedure base) in
      once_within base (base + 10) (times y (here ++ [])) (omega arith) (omega arith)
      (omega (arith, times_append y here []))
      (built_once base 0 0 2 10 (codes "@start") (start_body p base) (start_placed base)
      (omega arith) (omega arith))
  start_once false base = once_none y base (base + 10)

  last_once : Once y (rest p) (rest p + 20) (times y (procs_vars (print_procs p)))
  last_once =
      let here : List ℕ = procedure_vars
      (procedure p (rest p) (codes "@print") 1 (print_body p (rest p))) in
      let there : List ℕ = procs_vars (cond (takes_input p) (start_procedure (rest p + 10) ∷ []) [])
      in
      let start : Once y (rest p + 10) (rest p + 20) (times y there) =
      once_within (rest p + 10) (rest p + 20) (times y there) (omega arith) (omega arith)
      (omega arith) (start_once (takes_input p) (rest p + 10)) in
      let print : Once y (rest p) (rest p + 10) (times y here)
      = built_once (rest p) 1 5 1 10 (codes "@print") (print_body p (rest p))
      (print_placed (rest p)) (omega arith) (omega arith) in
      once_within (rest p) (rest p + 20) (times y (here ++ there)) (omega arith) (omega arith)
      (omega (arith, times_append y here there))
      (once_both (omega arith) (omega arith) print start)

  -- ---- sites

  fun_sites : (base : ℕ) (o : Option Function) → times y (code_sites (fun_body p base o)) ≤ times y
      (code_vars (fun_body p base o))
  unfolding code_sites act_sites code_vars act_vars
  fun_sites base None = omega arith
  fun_sites base (Some g) = block_sites p base y 0 g.body

  input_sites : (base : ℕ) → times y (code_sites (delay_body p base Reads)) ≤ times y
      (code_vars (delay_body p base Reads))
  unfolding code_sites act_sites arms_sites code_vars act_vars arms_vars
  input_sites base = omega arith

  delay_sites : (base : ℕ) (d : Delay) → times y (code_sites (delay_body p base d)) ≤ times y
      (code_vars (delay_body p base d))
  delay_sites base (Calls f) = fun_sites base (slice_get p.funs f)
  delay_sites base (Applies m) =
      let none : times y (code_sites (delay_body p base (Applies m))) ≡ 0
      = ap (times y)
      (form_sites p base y 0 (flat.Apply (var.Local 0) (map var.Local (numbers_from 1 m)))) in
      omega (arith, none)
  delay_sites base (Operates op) =
      let none : times y (code_sites (delay_body p base (Operates op))) ≡ 0
      = ap (times y) (form_sites p base y 0 (flat.Prim op (var.Local 0) (var.Local 1))) in
      omega (arith, none)
  delay_sites base Reads = input_sites base

  print_sites : (base : ℕ) → times y (code_sites (print_body p base)) ≤ times y
      (code_vars (print_body p base))
  unfolding code_sites act_sites arms_sites
  print_sites base = omega arith

  start_sites : (base : ℕ) → times y (code_sites (start_body p base)) ≤ times y
      (code_vars (start_body p base))
  unfolding code_sites act_sites code_vars act_vars
  start_sites base = omega arith

  -- where it holds of a procedure and of others
  one_more : (q : Procedure) (qs : List Procedure) → times y (code_sites q.body) ≤ times y
      (code_vars q.body) → times y (procs_sites qs) ≤ times y (procs_vars qs)
      → times y (procs_sites (q ∷ qs)) ≤ times y (procs_vars (q ∷ qs))
  one_more q qs a b =
      omega (
        arith,
        a,
        b,
        times_append y (code_sites q.body) (procs_sites qs),
        times_append y (procedure_vars q) (procs_vars qs),
        times_append y (numbers_of q.params) (code_vars q.body),
      )

  start_if_sites : (b : Bool) (base : ℕ) → times y
      (procs_sites (cond b (start_procedure base ∷ []) [])) ≤ times y
      (procs_vars (cond b (start_procedure base ∷ []) []))
  start_if_sites true base = one_more (start_procedure base) [] (start_sites base) (omega arith)
  start_if_sites false base = omega arith

  delayed_sites : (ds : List Delay) (base : ℕ) (qs : List Procedure)
      → times y (procs_sites qs) ≤ times y (procs_vars qs)
      → times y (procs_sites (delayed_procs p base ds ++ qs)) ≤ times y
      (procs_vars (delayed_procs p base ds ++ qs))
  delayed_sites [] base qs h = h
  delayed_sites (d ∷ ds) base qs h =
      one_more (procedure p base (delay_name p d) (delay_params p d) (delay_body p base d))
      (delayed_procs p (base + span p d) ds ++ qs) (delay_sites base d)
      (delayed_sites ds (base + span p d) qs h)

  procedures_sites : times y (procs_sites (tr p).procs) ≤ times y (program_vars (tr p))
  procedures_sites =
      delayed_sites (delays p) (length p.funs) (print_procs p)
      (one_more (procedure p (rest p) (codes "@print") 1 (print_body p (rest p)))
      (cond (takes_input p) (start_procedure (rest p + 10) ∷ []) []) (print_sites (rest p))
      (start_if_sites (takes_input p) (rest p + 10)))

  -- the site of a global cell is its function's number
  globals_once : (gs : List Function) (f : ℕ) → Once y f (f + length gs)
      (times y (map (λ c. c.site.0) (global_cells p gs f)))
  globals_once [] f = once_none y f (f + 0)
  globals_once (g ∷ gs) f = by_test (nat_eq g.params 0)
      (once_within (f + 1) (f + suc (length gs)) (times y others) (omega arith) (omega arith)
      (omega arith) (globals_once gs (suc f)))
    where
      others : List ℕ
      others = map (λ c. c.site.0) (global_cells p gs (suc f))

      by_test : (b : Bool) → Once y (f + 1) (f + suc (length gs)) (times y others)
          → Once y f (f + suc (length gs))
          (times y (map (λ c. c.site.0)
          (cond b (record
          { name = g.name; site = record { 0 = f }; tag = tag p (Waits (Calls f)) } ∷ []) []
          ++ global_cells p gs (suc f))))
      by_test true h = once_both (omega arith) (omega arith) (once_number y f) h
      by_test false h = once_within f (f + suc (length gs)) (times y others) (omega arith)
          (omega arith) (omega arith) h

  -- ---- all procedures

  module _ (numbered : NewBindingsAreNumbered) (t : tree.Program)
      (normal : (i : ℕ) (g : Function) → slice_get p.funs i ≡ Some g → InNormalForm t g) where
    fun_once : (base i : ℕ) (o : Option Function) (name : List ℕ) → slice_get p.funs i ≡ o
        → Once y base (base + fun_span p o)
        (times y (procedure_vars (procedure p base name (params_of p o) (fun_body p base o))))
    fun_once base i None name e = built_once base 0 0 0 0 name (fun_body p base None)
        (fail_placed base) (omega arith) (omega arith)
    fun_once base i (Some g) name e =
        let n = normal i g e in
        let is : n.after ≡ n.first + binders g.body = normal_end numbered t n.body in
        let body : Placed base y 0 (temps g.body) g.params n.after
        (times y (code_vars (fun_body p base (Some g)))) =
        placed_within base 0 (temps g.body) g.params n.after _ (omega arith) (omega arith)
        (omega (arith, n.params)) (omega arith) (omega arith)
        (normal_placed numbered t p base y n.body 0) in
        built_once base g.params (temps g.body) n.after (fun_span p (Some g)) name
        (fun_body p base (Some g)) body (omega arith) (omega (arith, is, n.params))

    delay_once : (base : ℕ) (d : Delay) → Once y base (base + span p d)
        (times y (procedure_vars
        (procedure p base (delay_name p d) (delay_params p d) (delay_body p base d))))
    delay_once base (Calls f) = fun_once base f (slice_get p.funs f) (delay_name p (Calls f)) refl
    delay_once base (Applies m) =
        let many : length (map var.Local (numbers_from 1 m)) ≡ m
        = length-map (numbers_from 1 m) var.Local ∙ length_numbers 1 m in
        let body : Placed base y 0 m (suc m) (suc m)
        (times y (code_vars (delay_body p base (Applies m)))) =
        placed_within base 0 m (suc m) (suc m) _ (omega arith) (omega (arith, many)) (omega arith)
        (omega arith) (omega arith)
        (form_placed p base y 0 (suc m)
        (flat.Apply (var.Local 0) (map var.Local (numbers_from 1 m)))) in
        built_once base (suc m) m (suc m) (2 * suc m) (delay_name p (Applies m))
        (delay_body p base (Applies m)) body (omega arith) (omega arith)
    delay_once base (Operates op) =
        built_once base 2 5 2 10 (delay_name p (Operates op)) (delay_body p base (Operates op))
        (form_placed p base y 0 2 (flat.Prim op (var.Local 0) (var.Local 1))) (omega arith)
        (omega arith)
    delay_once base Reads = built_once base 0 2 2 4 (delay_name p Reads) (delay_body p base Reads)
        (input_placed base) (omega arith) (omega arith)

    delayed_once : (ds : List Delay) (base end : ℕ) (qs : List Procedure) → base + spans p ds ≤ end
        → Once y (base + spans p ds) end (times y (procs_vars qs))
        → Once y base end (times y (procs_vars (delayed_procs p base ds ++ qs)))
    delayed_once [] base end qs le h = once_within base end _ (omega arith) (omega arith)
        (omega arith) h
    delayed_once (d ∷ ds) base end qs le h =
        let here : List ℕ = procedure_vars
        (procedure p base (delay_name p d) (delay_params p d) (delay_body p base d)) in
        let there : List ℕ = procs_vars (delayed_procs p (base + span p d) ds ++ qs) in
        let others : Once y (base + span p d) end (times y there) =
        delayed_once ds (base + span p d) end qs (omega (arith, le))
        (once_within (base + span p d + spans p ds) end (times y (procs_vars qs)) (omega arith)
        (omega arith) (omega arith) h) in
        once_within base end (times y (here ++ there)) (omega arith) (omega arith)
        (omega (arith, times_append y here there))
        (once_both (omega arith) (omega (arith, le)) (delay_once base d) others)

    all_once : Once y (length p.funs) (rest p + 20) (times y (program_vars (tr p)))
    all_once = delayed_once (delays p) (length p.funs) (rest p + 20) (print_procs p) (omega arith)
        last_once

    all_sites_once : Once y 0 (rest p + 20) (times y (program_sites (tr p)))
    all_sites_once =
        let globals : List ℕ = map (λ c. c.site.0) (global_cells p p.funs 0) in
        let stores : List ℕ = procs_sites (tr p).procs in
        let here : Once y 0 (length p.funs) (times y globals)
        = once_within 0 (length p.funs) (times y globals) (omega arith) (omega arith)
        (omega arith) (globals_once p.funs 0) in
        let there : Once y (length p.funs) (rest p + 20) (times y stores)
        = once_within (length p.funs) (rest p + 20) (times y stores) (omega arith) (omega arith)
        procedures_sites all_once in
        once_within 0 (rest p + 20) (times y (globals ++ stores)) (omega arith) (omega arith)
        (omega (arith, times_append y globals stores))
        (once_both (omega arith) (omega arith) here there)

module _ (numbered : NewBindingsAreNumbered) (p : Program) (valid : IsValid p) where
  normal_bodies : (i : ℕ) (g : Function) → slice_get p.funs i ≡ Some g
      → InNormalForm valid.program g
  normal_bodies = all_normal valid.program valid.program.functions p.funs valid.normal.funs

  pub variables_once : (x : ℕ) → times x (program_vars (tr p)) ≤ 1
  variables_once x = (all_once p x numbered valid.program normal_bodies).once

  pub sites_once : (s : ℕ) → times s (program_sites (tr p)) ≤ 1
  sites_once s = (all_sites_once p s numbered valid.program normal_bodies).once
