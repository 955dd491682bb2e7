-- That the pass meets its contract: the shape of what it makes, and that this keeps the program.
use Rattle.std.proofs.Common.{◌≡◌, ℕ, zero, suc, ◌+◌, ◌≤◌, false, List, [], ◌∷◌, length, Some, slice_get, refl, sym, ap, ◌∙◌, subst, arith}
use Rattle.std.specs.Prelude.{pos}
use Rattle.grin_syntax.specs.declared.program.Word.TheVariants.{Lit}
use Rattle.grin_syntax.specs.declared.program.Val.{Val}
use Rattle.grin_syntax.specs.declared.program.Val.TheVariants.{NodeVar, Node, Vector, One}
use Rattle.grin_syntax.specs.Tree.{Act, leaf, fetch, eval, apply, Procedure, Program}
use Rattle.grin_syntax.specs.Formed.{Formed, argument_words}
use Rattle.grin_syntax.specs.Fresh.{past_procs}
use Rattle.grin_syntax.proofs.Scopes.{same_sites, formed_with}
use Rattle.grin_meaning.specs.Checks.{is_fetch}
use Rattle.grin_meaning.specs.Ready.{Inlined, IsNotNodeFetch, NoNodeVar, IsVectorised, IsFetchedByWords, most_value_fields, Ready, EveryBodyIsOfKind, inlined_kind, without_node_fetches, vectorised_kind, narrow_kind}
use Rattle.grin_meaning.specs.Keeps.{Keeps}
use Rattle.grin_meaning.specs.Looking.{CheckedRunsNeverMissing}
use Rattle.grin_meaning.proofs.Looked.{looking_law}
use Rattle.pass_ground.specs.Vectors.{IsVectorForm, NarrowTargets}
use Rattle.fetch_passes.specs.Names.{Names, as_val}
use Rattle.fetch_passes.specs.Split.{made_code, split_act, split_code, split_procs, split}
use Rattle.fetch_passes.specs.Fetched.{Fetched}
use Rattle.fetch_passes.proofs.Gives.{each_proc, narrow_procs, sites_stay, params_stay, names_stay}
use Rattle.fetch_passes.proofs.Counts.{vars_once}
use Rattle.fetch_passes.proofs.Scoped.{bodies_formed}
use Rattle.fetch_passes.proofs.Used.{procs_fetch}
use Rattle.fetch_passes.proofs.Placing.{procs_placed}
use Rattle.fetch_passes.proofs.Fronting.{procs_fronts}
use Rattle.fetch_passes.proofs.Kept.{split_count, split_kept}

inlined_stays : (g : Program) (o : Act) (ks : Names) (a : _) (ps : _) (n : ℕ) → is_fetch o ≡ false
    → Inlined o → Inlined (split_act g.tags ks a ps n o)
unfolding split_act
inlined_stays g (leaf (eval w)) ks a ps n e h = h
inlined_stays g (leaf (apply v w)) ks a ps n e h = h
inlined_stays g o ks a ps n e h = tt

by_words_stays : (g : Program) (o : Act) (ks : Names) (a : _) (ps : _) (n : ℕ) → is_fetch o ≡ false
    → IsNotNodeFetch (split_act g.tags ks a ps n o)
unfolding split_act
by_words_stays g (leaf (fetch w)) ks a ps n e = cc
by_words_stays g o ks a ps n e = tt

no_node_val : (ks : Names) (v : Val) → NoNodeVar v → NoNodeVar (as_val ks v)
no_node_val ks (NodeVar x) h = h
no_node_val ks (Node t ws) h = tt
no_node_val ks (Vector ws) h = tt
no_node_val ks (One w) h = tt

start_of : (g : Program) (n : ℕ) (qs : List Procedure) (i : ℕ) (k : ℕ) → (q : Procedure)
    × ((slice_get qs i ≡ Some q) × (length q.params ≡ k)) → (q : Procedure)
    × ((slice_get (split_procs g.tags n qs) i ≡ Some q) × (length q.params ≡ k))
start_of g n [] i k (q, (e, l)) = cc
start_of g n (r ∷ qs) zero k (q, (e, l)) = (
  record r { body = split_code g.tags [] (Lit (pos 0)) [] n r.body },
  (refl, (let h : r ≡ q = cc in ap (λ q. length q.params) h ∙ l)),
)
start_of g n (r ∷ qs) (suc i) k (q, (e, l)) = start_of g (n + made_code g.tags [] r.body) qs i k
    (q, (e, l))

module _ (g : Program) (v : IsVectorForm g) where
  abbrev base : ℕ
  base = past_procs g.procs

  procs : List Procedure
  procs = split_procs g.tags base g.procs

  never : CheckedRunsNeverMissing g
  never = (looking_law g v.ready.inlined).sees v.ready.never_missing v.ready.runs

  kept : CheckedRunsNeverMissing (split g) × Keeps g (split g)
  kept = split_kept g v.formed never v.ready.inlined v.vectorised

  split_inlined : EveryBodyIsOfKind inlined_kind (split g).procs
  split_inlined = each_proc g.tags inlined_kind inlined_kind (inlined_stays g) (λ a i. tt)
      (λ v as'. tt) (λ v. tt) (λ t h. tt) (λ x. tt) (λ ks v h. tt) (λ t ws. tt) (λ ws. tt)
      (λ xs h. tt) tt g.procs base v.ready.inlined

  split_bare : IsVectorised (split g)
  split_bare = each_proc g.tags vectorised_kind vectorised_kind (λ o ks a ps n e h. tt) (λ a i. tt)
      (λ v as'. tt) (λ v. tt) (λ t h. h) (λ x. tt) no_node_val (λ t ws. tt) (λ ws. tt) (λ xs h. h)
      refl g.procs base v.vectorised

  split_by_words : IsFetchedByWords (split g)
  split_by_words = each_proc g.tags vectorised_kind without_node_fetches
      (λ o ks a ps n e h. by_words_stays g o ks a ps n e) (λ a i. tt) (λ v as'. tt) (λ v. tt)
      (λ t h. tt) (λ x. tt) (λ ks v h. tt) (λ t ws. tt) (λ ws. tt) (λ xs h. tt) tt g.procs base
      v.vectorised

  split_narrow : (most : ℕ) → 1 ≤ most → NarrowTargets most g → NarrowTargets most (split g)
  split_narrow most le h = each_proc g.tags (narrow_kind most) (narrow_kind most)
      (λ o ks a ps n e h. tt) (λ a i. tt) (λ v as'. tt) (λ v. tt) (λ t h. h) (λ x. le)
      (λ ks v h. tt) (λ t ws. tt) (λ ws. tt) (λ xs h. tt) tt g.procs base h

  split_formed : Formed (split g)
  split_formed = formed_with g (split g).procs (split_count g base g.procs) v.formed
      (λ x. vars_once g.tags x g.procs (v.formed.variables_once x))
      (same_sites g (split g).procs (split_count g base g.procs) (sites_stay g.tags g.procs base)
      v.formed.sites_once)
      (bodies_formed g (split g).procs (split_count g base g.procs) g.procs base v.vectorised
      v.formed.procedures)
      (start_of g base g.procs g.start.0 (argument_words g.argument)
      (v.formed.start.0, (v.formed.start.1, v.formed.start.2)))

  split_ready : Ready (split g)
  split_ready = record {
    inlined = split_inlined;
    few_params = params_stay g.tags 16 g.procs base v.ready.few_params;
    few_results = narrow_procs g.tags (1 + most_value_fields g.tags) 13 g.procs base
        v.ready.few_results;
    few_fields = v.ready.few_fields;
    never_missing = (looking_law (split g) split_inlined).never_missing kept.0;
    runs = (looking_law (split g) split_inlined).runs_well kept.0;
  }

  split_fetched : Fetched g (split g)
  split_fetched = record {
    of_vectors = record { formed = split_formed; ready = split_ready; vectorised = split_bare };
    outside = record {
      same_tags = refl;
      same_globals = refl;
      same_start = refl;
      same_argument = refl;
      same_names
          = names_stay g.tags g.procs base;
    };
    narrow = split_narrow;
    by_words = split_by_words;
    made = refl;
    used = λ h. procs_fetch g.tags g.procs base v.formed.variables_once v.vectorised h;
    placed = λ h. procs_placed g.tags base g.procs base (omega arith) (omega arith)
        v.formed.variables_once v.vectorised h;
    fetched = λ h. procs_fronts g.tags g.procs base h;
  }

  split_keeps : Keeps g (split g)
  split_keeps = kept.1

pub is_fetched : (g h : Program) → h ≡ split g → IsVectorForm g → Fetched g h
is_fetched g h e v = subst (Fetched g) (sym e) (split_fetched g v)

pub is_kept : (g h : Program) → h ≡ split g → IsVectorForm g → Keeps g h
is_kept g h e v = subst (Keeps g) (sym e) (split_keeps g v)
