-- A program and the same in its order run side by side: each case does what it did.
use Rattle.std.proofs.Common.{◌≡◌, true, false, List, [], ◌∷◌, get_or, Some, slice_get, refl, sym, ap, ◌∙◌, subst}
use Rattle.seq.proofs.Lists.{none_is_some, some_is}
use Rattle.grin_syntax.specs.declared.program.TagKind.TheVariants as kind
use Rattle.grin_syntax.specs.declared.program.Tag.{Tag}
use Rattle.grin_syntax.specs.declared.program.Val.{Val}
use Rattle.grin_syntax.specs.Tags.{is_fun_kind}
use Rattle.grin_syntax.specs.Tree.{case, Arms, Program}
use Rattle.grin_syntax.specs.Formed.{Scope, ActFormed, ArmsFormed}
use Rattle.grin_meaning.specs.Values.{Value, value_of, word_of, with_vars}
use Rattle.grin_meaning.specs.Run.{Calls, act_by}
use Rattle.grin_meaning.specs.Follows.{Same}
use Rattle.grin_meaning.specs.Keeps.{Keeps}
use Rattle.grin_meaning.specs.Looking.{CheckedRunsNeverMissing}
use Rattle.grin_meaning.specs.Ready.{EveryBodyIsOfKind}
use Rattle.grin_meaning.proofs.Back.{CallsBack}
use Rattle.grin_meaning.proofs.Beside.{no_deeper, Sim, beside}
use Rattle.grin_meaning.proofs.Bodies.{AnyState, every_any}
use Rattle.grin_meaning.proofs.Looked.{looking_law}
use Rattle.grin_meaning.proofs.Names.{Any}
use Rattle.grin_meaning.proofs.Plain.{Has}
use Rattle.grin_meaning.proofs.Procedures.{side_by_side}
use Rattle.grin_meaning.proofs.Rules.{Relation, Plan, Here, CallsFollow, ActFollows}
use Rattle.pass_ground.specs.Vectors.{IsVectorForm}
use Rattle.grin_rewrite.specs.WithFacts.{WithFacts}
use Rattle.grin_rewrite.proofs.SameWords.{words_stay}
use Rattle.grin_rewrite.proofs.FactText.{ByWords, Places}
use Rattle.grin_rewrite.proofs.FactSides.{plan, ArmsGo, Holding, walked_kept}
use Rattle.grin_rewrite.proofs.FactSound.{inlined_vectors, both_bodies}
use Rattle.grin_rewrite.proofs.CasesStay.{case_stays}
use Rattle.pass_order.specs.Order.{delayed_tags, values_first, ordering, ordered}
use Rattle.pass_order.proofs.Moved.{Moves, in_order}
use Rattle.pass_order.proofs.SameCase.{case_same}
use Rattle.pass_order.proofs.Kept.{unchanged}

-- the tag of a number is that of no delayed call
pub number_is_value : (tags : List Tag) (t : Tag) → slice_get tags 0 ≡ Some t → t.kind ≡ kind.Con
    → get_or (delayed_tags tags) 0 false ≡ false
number_is_value [] t e k = none_is_some e
number_is_value (u ∷ us) t e k = ap (λ i. is_fun_kind i.kind) (some_is e) ∙ ap is_fun_kind k

module _ (g : Program) where
  abbrev pub R : WithFacts (Unit {0})
  R = ordering (delayed_tags g.tags)

  pub by : ByWords R unchanged
  by = words_stay R (λ f l. refl) (λ f v. refl) (λ f cs. refl)

  formed_moved : (scope : Scope) → Moves (delayed_tags g.tags)
  unfolding ActFormed
  formed_moved scope = record {
    arms = λ as' bs'. ArmsFormed g scope as' → ArmsFormed g scope bs';
    same = λ as' h. h;
    more = λ s b as' bs' k h. (h.0, h.1, k h.2);
    swaps = λ s u b c as' a h. (h.2.0, h.2.1, (h.0, h.1, h.2.2));
    again = λ as' bs' cs' h k e. k (h e);
  }

  arms_formed : (scope : Scope) (as' : Arms) → ArmsFormed g scope as'
      → ArmsFormed g scope (values_first (delayed_tags g.tags) as')
  unfolding formed_moved
  arms_formed scope as' = in_order (delayed_tags g.tags) (formed_moved scope) as'

  pub places : Places R unchanged g tt inlined_vectors
  unfolding ActFormed
  places = record {
    Place = λ f scope. Unit {0};
    begins = λ scope. tt;
    stores = λ f scope xs at. tt;
    after = λ f scope t o h at. tt;
    inside = λ f scope v s fv fs at. tt;
    words = λ f scope at a h. h;
    cases = λ f scope v as' fv k h. (fv, arms_formed scope as' h);
  }

  pub anywhere : (scope : Scope) → places.Place tt scope
  unfolding places
  anywhere scope = tt

  abbrev sides : Plan
  sides = plan R unchanged g tt inlined_vectors places AnyState

  -- the same variables
  abbrev Alike : Unit {0} → Relation
  Alike f cells env env' = env' ≡ env

  module _ (number : get_or (delayed_tags g.tags) 0 false ≡ false) where
    case_goes : (c c' : Calls) (cb : CallsBack AnyState c) (cf : CallsFollow sides c c')
        (f : Unit {0}) (v : Val) (as' bs' : Arms)
        → ((x : Here sides (Alike f)) (y : Value) → value_of g x.env v ≡ Some y
        → value_of g x.env' v ≡ Some y)
        → ArmsGo R unchanged g tt inlined_vectors places AnyState Alike
        (side_by_side sides c c' cb cf) f v as' bs'
        → ActFollows (side_by_side sides c c' cb cf) (Alike f) Same (case v as')
        (case v (values_first (delayed_tags g.tags) bs'))
    case_goes c c' cb cf f v as' bs' goes k = record {
      by = λ x. subst
          (Sim AnyState no_deeper Same (act_by g c true x.env x.d (case v as') x.w))
          (sym (case_same (record g { procs = sides.procs }) (delayed_tags g.tags) number c' true v
          bs' x.env' x.d' (beside x.b)))
          ((case_stays R unchanged g tt inlined_vectors places AnyState Alike
          (λ f v s y bs cells env env' k there e r. ap (with_vars bs) r) c c' cb cf f v v as' bs'
          goes k).by x);
    }

    holding : Holding R unchanged g tt inlined_vectors places AnyState
    unfolding places
    holding = record {
      Holds = Alike;
      has = λ f c env env' r. subst (Has Any env) (sym r) (λ y v _ k. k);
      begins = λ c env. refl;
      words = λ f s env' p r a d e. subst (λ q. word_of g q a ≡ Some d) (sym r) e;
      stored = λ f scope bs c c' env env' at once r. ap (with_vars bs) r;
      bound = λ f scope t o v bs c c' env env' at once k formed gave e r. ap (with_vars bs) r;
      inlined = λ o h. h;
      no_nodes = λ t n. n;
      cases = λ c c' cb cf f scope v as' bs' at goes k. case_goes c c' cb cf f v as' bs' goes k;
    }

  module _ (of : IsVectorForm g) where
    never : CheckedRunsNeverMissing g
    never = (looking_law g of.ready.inlined).sees of.ready.never_missing of.ready.runs

    pub of_kind : EveryBodyIsOfKind inlined_vectors g.procs
    of_kind = both_bodies g.procs of.ready.inlined of.vectorised

    pub kept : CheckedRunsNeverMissing (ordered g) × Keeps g (ordered g)
    kept =
        let number = of.formed.number_tag in
        walked_kept R unchanged g tt inlined_vectors places AnyState by
        (holding (number_is_value g.tags number.0 number.1 number.2)) of.formed of_kind never
        (λ i n. every_any _)
