-- A program in its order is as large as it was, and well formed.
use Rattle.std.proofs.Common.{◌≡◌, ℕ, ◌+◌, ◌≤◌, ◌*◌, List, [], ◌∷◌, ◌++◌, map, length, ap, ◌∙◌, arith}
use Rattle.std.proofs.lemmas.List.{length-map}
use Rattle.std.proofs.lemmas.Option.{slice_get-map}
use Rattle.std.specs.Option.{option_map}
use Rattle.grin_syntax.specs.Tree.{Code, nested, Procedure, Program}
use Rattle.grin_syntax.specs.Binders.{numbers_of, code_vars, procs_vars, code_sites, procs_sites, program_sites}
use Rattle.grin_syntax.specs.Formed.{AllOf, params_scope, ActFormed, ProcedureFormed, Formed}
use Rattle.grin_syntax.proofs.Scopes.{with_procs, formed_with}
use Rattle.grin_meaning.specs.Ready.{EachAct, EveryBodyIsOfKind}
use Rattle.grin_meaning.specs.Slim.{Slim, code_weight, procs_weight, code_calls, procs_calls, code_words, procedure_words}
use Rattle.seq.specs.Lists.{times}
use Rattle.seq.proofs.Counted.{times_fewer, times_append}
use Rattle.grin_rewrite.specs.WithFacts.{walk_act}
use Rattle.grin_rewrite.proofs.Text.{code_again}
use Rattle.grin_rewrite.proofs.KeptByWords.{Kept, vars_kept, sites_kept, weight_kept, as_heavy, calls_kept, words_kept}
use Rattle.grin_rewrite.proofs.FactText.{ValuesKeep, procs_by, change, act_formed}
use Rattle.grin_rewrite.proofs.FactText.{kept as code_kept}
use Rattle.grin_rewrite.proofs.FactSound.{inlined_vectors}
use Rattle.pass_order.specs.Order.{delayed_tags, ordered_code, ordered}
use Rattle.pass_order.proofs.Kept.{unchanged, Swaps, cases_keep, vars_swap, sites_swap, weight_swap, calls_swap, words_swap}
use Rattle.pass_order.proofs.Sides.{R, by, places, anywhere}

module _ (g : Program) where
  abbrev new : Code → Code
  new = ordered_code (delayed_tags g.tags)

  abbrev procs_new : List Procedure → List Procedure
  procs_new = procs_by (R g) unchanged tt

  body : (q : Kept) → Swaps q → ValuesKeep (R g) unchanged q → (b : Code) → q.code b (new b)
  body q swaps values b = code_kept (R g) unchanged (by g) q
      (cases_keep q swaps (delayed_tags g.tags)) values tt b

  vars_fewer : (y : ℕ) (qs : List Procedure)
      → times y (procs_vars (procs_new qs)) ≤ times y (procs_vars qs)
  unfolding vars_kept
  vars_fewer y [] = omega arith
  vars_fewer y (q ∷ qs) = times_fewer y (numbers_of q.params ++ code_vars (new q.body))
      (procs_vars (procs_new qs)) (numbers_of q.params ++ code_vars q.body) (procs_vars qs)
      (times_fewer y (numbers_of q.params) (code_vars (new q.body)) (numbers_of q.params)
      (code_vars q.body) (omega arith) (body (vars_kept y) (vars_swap y) (λ f v. tt) q.body))
      (vars_fewer y qs)

  sites_fewer : (y : ℕ) (qs : List Procedure)
      → times y (procs_sites (procs_new qs)) ≤ times y (procs_sites qs)
  unfolding sites_kept
  sites_fewer y [] = omega arith
  sites_fewer y (q ∷ qs) = times_fewer y (code_sites (new q.body)) (procs_sites (procs_new qs))
      (code_sites q.body) (procs_sites qs)
      (body (sites_kept y) (sites_swap y) (λ f v. tt) q.body) (sites_fewer y qs)

  -- ---- the size

  lighter : (qs : List Procedure) → procs_weight (procs_new qs) ≤ procs_weight qs
  unfolding weight_kept
  lighter [] = omega arith
  lighter (q ∷ qs) =
      let h : code_weight (new q.body) ≤ code_weight q.body
      = body weight_kept weight_swap (λ f v. as_heavy (unchanged f) v) q.body in
      let k : procs_weight (procs_new qs) ≤ procs_weight qs = lighter qs in
      omega (arith, h, k)

  calls_fewer : (qs : List Procedure) → procs_calls (procs_new qs) ≤ procs_calls qs
  unfolding calls_kept
  calls_fewer [] = omega arith
  calls_fewer (q ∷ qs) =
      let h : code_calls (new q.body) ≤ code_calls q.body
      = body calls_kept calls_swap (λ f v. tt) q.body in
      let k : procs_calls (procs_new qs) ≤ procs_calls qs = calls_fewer qs in
      omega (arith, h, k)

  words_fewer : (most : ℕ) (qs : List Procedure) → AllOf (λ q. procedure_words q ≤ most) qs
      → AllOf (λ q. procedure_words q ≤ most) (procs_new qs)
  unfolding words_kept
  words_fewer most [] h = tt
  words_fewer most (q ∷ qs) h =
      let k : code_words (new q.body) ≤ code_words q.body
      = body words_kept words_swap (λ f v. tt) q.body in
      let l : length q.params + code_words q.body ≤ most = h.0 in
      (omega (arith, k, l), words_fewer most qs h.1)

  pub slim : (size most : ℕ) → Slim size most g → Slim size most (ordered g)
  slim size most s = record {
    light = let l : procs_weight (procs_new g.procs) ≤ procs_weight g.procs = lighter g.procs in
        let k : procs_weight g.procs ≤ 48 * size = s.light in omega (arith, l, k);
    few_calls = let l : procs_calls (procs_new g.procs) ≤ procs_calls g.procs
        = calls_fewer g.procs in let k : procs_calls g.procs ≤ size = s.few_calls in
        omega (arith, l, k);
    few_words = words_fewer (20 * most) g.procs s.few_words;
  }

  -- ---- well formed

  same_many : length (procs_new g.procs) ≡ length g.procs
  same_many = length-map g.procs (change (R g) unchanged tt)

  vars_once : Formed g → (y : ℕ) → times y (procs_vars (procs_new g.procs)) ≤ 1
  vars_once f y =
      let h : times y (procs_vars (procs_new g.procs)) ≤ times y (procs_vars g.procs)
      = vars_fewer y g.procs in
      let k : times y (procs_vars g.procs) ≤ 1 = f.variables_once y in
      omega (arith, h, k)

  sites_once : Formed g → (s : ℕ) → times s (program_sites (ordered g)) ≤ 1
  sites_once f s =
      let h : times s (procs_sites (procs_new g.procs)) ≤ times s (procs_sites g.procs)
      = sites_fewer s g.procs in
      let k : times s (map (λ c. c.site.0) g.globals ++ procs_sites g.procs) ≤ 1
      = f.sites_once s in
      let e : times s (map (λ c. c.site.0) g.globals ++ procs_sites g.procs)
      ≡ times s (map (λ c. c.site.0) g.globals) + times s (procs_sites g.procs)
      = times_append s (map (λ c. c.site.0) g.globals) (procs_sites g.procs) in
      let l : times s (map (λ c. c.site.0) g.globals ++ procs_sites (procs_new g.procs))
      ≡ times s (map (λ c. c.site.0) g.globals) + times s (procs_sites (procs_new g.procs))
      = times_append s (map (λ c. c.site.0) g.globals) (procs_sites (procs_new g.procs)) in
      omega (arith, h, k, e, l)

  bodies_formed : (qs : List Procedure) → EveryBodyIsOfKind inlined_vectors qs
      → AllOf (ProcedureFormed g) qs
      → AllOf (ProcedureFormed (with_procs g (procs_new g.procs) same_many)) (procs_new qs)
  unfolding ActFormed EachAct walk_act
  bodies_formed [] k h = tt
  bodies_formed (q ∷ qs) k h = (
    code_again g (procs_new g.procs) same_many (params_scope q) (new q.body)
        (act_formed (R g) unchanged g tt inlined_vectors (by g) (places g) (nested q.body) tt
        (params_scope q) (anywhere g (params_scope q)) (tt, k.0) h.0),
    bodies_formed qs k.1 h.1,
  )

  pub formed : EveryBodyIsOfKind inlined_vectors g.procs → Formed g → Formed (ordered g)
  formed kind f = formed_with g (procs_new g.procs) same_many f (vars_once f) (sites_once f)
      (bodies_formed g.procs kind f.procedures) (
        change (R g) unchanged tt f.start.0,
        (
          slice_get-map (change (R g) unchanged tt) g.procs g.start.0
              ∙ ap (option_map (change (R g) unchanged tt)) f.start.1,
          f.start.2,
        ),
      )
