-- A program with parameters raised is well formed.
use Rattle.std.proofs.Common.{◌≡◌, ℕ, suc, ◌+◌, List, [], ◌∷◌, length, refl, arith}
use Rattle.grin_syntax.specs.Tree.{Procedure, Program}
use Rattle.grin_syntax.specs.Formed.{AllOf, params_scope, ProcedureFormed, Formed, argument_words}
use Rattle.grin_syntax.specs.SameOutside.{DifferOnlyInBodies}
use Rattle.grin_syntax.proofs.Scopes.{with_procs, same_sites, formed_with}
use Rattle.grin_meaning.specs.Ready.{IsFetchedByWords, EveryBodyIsOfKind, without_node_fetches}
use Rattle.flow_system.specs.Solution.{Solution}
use Rattle.raise_theory.specs.Raising.{Decisions, decided, new_code, raised_procedure, raised_procs, raised}
use Rattle.raise_theory.specs.Decided.{AllDecided, IsDecided}
use Rattle.raise_theory.proofs.Counts.{vars_once}
use Rattle.raise_theory.proofs.Scoped.{params_fit, code_formed}
use Rattle.raise_theory.proofs.Gives.{sites_stay, names_stay, as_many}
use Rattle.raise_theory.proofs.Choices.{raisable, tag_there, start_of}

module _ (A : Solution) (g : Program) (D : List Decisions) where
  module _ (procs : List Procedure) (same_count : length procs ≡ length g.procs) where
    bodies_formed : (dss : List Decisions) (qs : List Procedure) (n f : ℕ) → AllDecided A g f qs dss
        → EveryBodyIsOfKind without_node_fetches qs → AllOf (ProcedureFormed g) qs
        → AllOf (ProcedureFormed (with_procs g procs same_count)) (raised_procs D n dss qs)
    bodies_formed [] [] n f d e h = tt
    bodies_formed [] (q ∷ qs) n f d e h = absurd d
    bodies_formed (ds ∷ dss) [] n f d e h = tt
    bodies_formed (ds ∷ dss) (q ∷ qs) n f d e h = (
      code_formed g procs same_count D (decided ds q.params)
          (λ y r k. tag_there A g q y r.tag.0 r.fields (raisable A g f q ds d.0 y r k)) q.body n
          (params_scope q) (params_scope (raised_procedure D n ds q))
          (params_fit ds q (raised_procedure D n ds q) refl) e.0
          (record { by = λ y r k. (raisable A g f q ds d.0 y r k).only_fetched }) h.0,
      bodies_formed dss qs (n + new_code D q.body) (suc f) d.1 e.1 h.1,
    )

  module _ (n : ℕ) (d : IsDecided A g D n) where
    pub raised_formed : Formed g → IsFetchedByWords g → Formed (raised D n g)
    raised_formed f words =
        let procs : List Procedure = raised_procs D n D g.procs in
        let count : length procs ≡ length g.procs = as_many D D g.procs n in
        formed_with g procs count f
        (λ x. vars_once x D g.procs n d.numbered.count d.numbered.in_a_row d.numbered.next
        (f.variables_once x))
        (same_sites g procs count (sites_stay D D g.procs n) f.sites_once)
        (bodies_formed procs count D g.procs n 0 d.decided words f.procedures)
        (start_of A g D D g.procs n 0 g.start.0 (argument_words g.argument) d.decided (omega arith)
        (f.start.0, (f.start.1, f.start.2)))

    pub raised_outside : DifferOnlyInBodies g (raised D n g)
    raised_outside = record {
      same_tags = refl;
      same_globals = refl;
      same_start = refl;
      same_argument = refl;
      same_names
          = names_stay D D g.procs n;
    }
