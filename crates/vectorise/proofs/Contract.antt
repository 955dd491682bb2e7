-- That the pass meets its contract: the shape of what it makes, and that this keeps the program.
use Rattle.std.proofs.Common.{◌≡◌, ℕ, ◌+◌, ◌≤◌, List, [], ◌∷◌, ◌++◌, map, length, refl, sym, ap, ◌∙◌, subst, arith}
use Rattle.std.proofs.lemmas.List.{length-map}
use Rattle.std.proofs.lemmas.Option.{slice_get-map}
use Rattle.std.specs.Option.{option_map}
use Rattle.grin_syntax.specs.Tree.{Procedure, Program}
use Rattle.grin_syntax.specs.Binders.{numbers_of, code_vars, procs_vars}
use Rattle.grin_syntax.specs.Formed.{AllOf, ProcedureFormed, params_scope, Formed}
use Rattle.grin_syntax.specs.Fresh.{past_procs}
use Rattle.grin_syntax.proofs.Scopes.{with_procs, same_sites, formed_with}
use Rattle.grin_meaning.specs.Ready.{Ready}
use Rattle.grin_meaning.specs.Rewritten.{rewritten_procedure}
use Rattle.grin_meaning.specs.Keeps.{Keeps}
use Rattle.grin_meaning.specs.Looking.{CheckedRunsNeverMissing}
use Rattle.grin_meaning.proofs.Looked.{looking_law}
use Rattle.vectorise.specs.Known.{Layout, layout_of, Table, table_of}
use Rattle.vectorise.specs.Vectors.{wide_code, vectorised}
use Rattle.vectorise.specs.Whole.{UsesWholeNodes}
use Rattle.vectorise.specs.Widened.{Widened}
use Rattle.vectorise.proofs.Noted.{ProcedureKnown, all_known}
use Rattle.vectorise.proofs.Scoped.{Origin, origin_of, most_value_most, all_counts, code_counts, code_formed, params_carry}
use Rattle.vectorise.proofs.Gives.{procs_gone, procs_inlined, procs_narrow, procs_params, sites_stay, names_stay, procs_widths, procs_light, procs_calls_stay, procs_few_words}
use Rattle.vectorise.proofs.Simulated.{vectorised_kept}
use Rattle.seq.specs.Lists.{times}
use Rattle.seq.proofs.Counted.{times_append}

module _ (g : Program) (formed : Formed g) where
  abbrev l : Layout
  l = layout_of g

  abbrev K : Table
  K = table_of g

  abbrev procs : List Procedure
  procs = map (rewritten_procedure (wide_code l K)) g.procs

  same_count : length procs ≡ length g.procs
  same_count = length-map g.procs (rewritten_procedure (wide_code l K))

  procs_count : (u z : ℕ) (qs : List Procedure) → Origin l u z → past_procs qs ≤ l.base
      → times u (procs_vars (map (rewritten_procedure (wide_code l K)) qs)) ≤ times z
      (procs_vars qs)
  procs_count u z [] o le = omega arith
  procs_count u z (q ∷ qs) o le =
      let a : times u (numbers_of q.params) ≤ times z (numbers_of q.params)
      = all_counts l u z q.params o (omega (arith, le)) in
      let b : times u (code_vars (wide_code l K q.body)) ≤ times z (code_vars q.body)
      = code_counts l (most_value_most g.tags) K u z q.body o (omega (arith, le)) in
      let c : times u (procs_vars (map (rewritten_procedure (wide_code l K)) qs)) ≤ times z
      (procs_vars qs) = procs_count u z qs o (omega (arith, le)) in
      let d : times u
      ((numbers_of q.params ++ code_vars (wide_code l K q.body))
      ++ procs_vars (map (rewritten_procedure (wide_code l K)) qs)) ≡ times u
      (numbers_of q.params ++ code_vars (wide_code l K q.body)) + times u
      (procs_vars (map (rewritten_procedure (wide_code l K)) qs))
      = times_append u (numbers_of q.params ++ code_vars (wide_code l K q.body))
      (procs_vars (map (rewritten_procedure (wide_code l K)) qs)) in
      let e : times u (numbers_of q.params ++ code_vars (wide_code l K q.body)) ≡ times u
      (numbers_of q.params) + times u (code_vars (wide_code l K q.body))
      = times_append u (numbers_of q.params) (code_vars (wide_code l K q.body)) in
      let f : times z ((numbers_of q.params ++ code_vars q.body) ++ procs_vars qs) ≡ times z
      (numbers_of q.params ++ code_vars q.body) + times z (procs_vars qs)
      = times_append z (numbers_of q.params ++ code_vars q.body) (procs_vars qs) in
      let h : times z (numbers_of q.params ++ code_vars q.body) ≡ times z (numbers_of q.params) +
      times z (code_vars q.body) = times_append z (numbers_of q.params) (code_vars q.body) in
      omega (arith, a, b, c, d, e, f, h)

  vars_once : (u : ℕ) → times u (procs_vars procs) ≤ 1
  vars_once u = go (origin_of l u)
    where
      go : (z : ℕ) × Origin l u z → times u (procs_vars procs) ≤ 1
      go (z, o) = let h : times u (procs_vars procs) ≤ times z (procs_vars g.procs)
          = procs_count u z g.procs o (omega arith) in let k : times z (procs_vars g.procs) ≤ 1
          = formed.variables_once z in omega (arith, h, k)

  bodies_formed : (qs : List Procedure) → AllOf (ProcedureKnown l K g) qs
      → AllOf (ProcedureFormed g) qs → AllOf (ProcedureFormed (with_procs g procs same_count))
      (map (rewritten_procedure (wide_code l K)) qs)
  bodies_formed [] k h = tt
  bodies_formed (q ∷ qs) k h = (
    code_formed l K g procs same_count (most_value_most g.tags) q.body (params_scope q)
        (numbers_of q.params) (params_carry l K g procs same_count q k.0.0) k.0.1 h.0,
    bodies_formed qs k.1 h.1,
  )

  pub vectorised_formed : Formed (vectorised g)
  vectorised_formed = formed_with g procs same_count formed vars_once
      (same_sites g procs same_count (sites_stay l K g.procs) formed.sites_once)
      (bodies_formed g.procs (all_known g formed) formed.procedures) (
        rewritten_procedure (wide_code l K) formed.start.0,
        (
          slice_get-map (rewritten_procedure (wide_code l K)) g.procs g.start.0 ∙ ap
              (option_map (rewritten_procedure (wide_code l K))) formed.start.1,
          formed.start.2,
        ),
      )

  module _ (ready : Ready g) (whole : UsesWholeNodes g) where
    never : CheckedRunsNeverMissing g
    never = (looking_law g ready.inlined).sees ready.never_missing ready.runs

    kept : CheckedRunsNeverMissing (vectorised g) × Keeps g (vectorised g)
    kept = vectorised_kept g formed never ready.inlined whole

    pub vectorised_ready : Ready (vectorised g)
    vectorised_ready = record {
      inlined = procs_inlined l K g.procs ready.inlined;
      few_params = procs_params l K 16 g.procs ready.few_params;
      few_results = procs_narrow l K 13 g.procs ready.few_results;
      few_fields = ready.few_fields;
      never_missing =
          (looking_law (vectorised g) (procs_inlined l K g.procs ready.inlined)).never_missing
          kept.0;
      runs = (looking_law (vectorised g) (procs_inlined l K g.procs ready.inlined)).runs_well
          kept.0;
    }

    pub vectorised_widened : Widened g (vectorised g)
    vectorised_widened = record {
      made = refl;
      formed = vectorised_formed;
      ready = vectorised_ready;
      vectorised = procs_gone l K g.procs;
      widths = procs_widths l K g.procs;
      outside = record {
        same_tags = refl;
        same_globals = refl;
        same_start = refl;
        same_argument
            = refl;
        same_names = names_stay l K g.procs;
      };
      light = procs_light l K (most_value_most g.tags) ready.few_fields g.procs;
      few_calls =
          (let e = procs_calls_stay l K (most_value_most g.tags) ready.few_fields g.procs
          in omega (arith, e));
      few_words = procs_few_words l K (most_value_most g.tags) ready.few_fields g.procs;
    }

    pub vectorised_keeps : Keeps g (vectorised g)
    vectorised_keeps = kept.1

pub is_widened : (g h : Program) → h ≡ vectorised g → Formed g × Ready g × UsesWholeNodes g
    → Widened g h
is_widened g h e t = subst (Widened g) (sym e) (vectorised_widened g t.0 t.1 t.2)

pub is_kept : (g h : Program) → h ≡ vectorised g → Formed g × Ready g × UsesWholeNodes g → Keeps g h
is_kept g h e t = subst (Keeps g) (sym e) (vectorised_keeps g t.0 t.1 t.2)
