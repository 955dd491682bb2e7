-- A program and what a rule makes of it run side by side, from what holds of an operation without a
-- block.
use Rattle.std.proofs.Common.{◌≡◌, ℕ, suc, true, List, [], ◌∷◌, map, Some}
use Rattle.grin_syntax.specs.declared.program.Target.{Target}
use Rattle.grin_syntax.specs.Tree.{Code, end, store, bind, Act, Leaf, leaf, case, nested, Arms, no_arm, arm, Procedure, Program}
use Rattle.grin_meaning.specs.Values.{Datum, Value, State, World, gives, one_each, Binding, with_vars}
use Rattle.grin_meaning.specs.Run.{Calls, act_by}
use Rattle.grin_meaning.specs.Checks.{is_given, is_bound_well}
use Rattle.grin_meaning.specs.Rewritten.{rewritten_procedure, rewritten}
use Rattle.grin_meaning.specs.Follows.{Same, same, HoldsInEveryState}
use Rattle.grin_meaning.specs.Keeps.{world_of, Keeps}
use Rattle.grin_meaning.specs.Looking.{checked_run, CheckedRunsNeverMissing}
use Rattle.grin_meaning.proofs.Back.{CallsBack}
use Rattle.grin_meaning.proofs.Names.{Any, any_val, any_cells}
use Rattle.grin_meaning.proofs.Beside.{no_deeper, Likewise, Seen}
use Rattle.grin_meaning.proofs.Rules.{Relation, Plan, Here, CallsFollow, Setting, h, ActFollows, CodeFollows, ArmsFollow, Given, BindsToo, end_follows, nested_follows, bind_follows}
use Rattle.grin_meaning.proofs.Procedures.{BodiesFollow, no_more, one_more, side_by_side, run_follows}
use Rattle.grin_meaning.proofs.Plain.{Has, vars_have, IsPlain, On, having, case_same, store_same, no_arm_same, arm_same}
use Rattle.grin_meaning.proofs.KeptBy.{likewise_kept, looking_kept}
use Rattle.grin_meaning.proofs.Paired.{nothing}
use Rattle.grin_rewrite.specs.Rewriting.{rewrite_act, rewrite_code, rewrite_arms}

-- looking runs of a program and of one with other procedures, P known of the states of the first
abbrev pub looking : Program → (State → Type 0) → List Procedure → Plan
looking g P procs = record {
  looks = true;
  K = no_deeper;
  P = P;
  Args = λ f. Same;
  Result = λ f. Same;
  g = g;
  procs
      = procs;
}

pub is_plain : (g : Program) (P : State → Type 0) (procs : List Procedure)
    → IsPlain (looking g P procs)
is_plain g P procs = record
    { heaps_are = λ h. h; same_heaps = λ c. same; args = λ f xs. same; results = λ f v v' u. u }

-- the second has what the first has of all variables
abbrev pub All : Relation
All = λ c. Has Any

-- what is asked of the operation that takes the place of one without a block: it follows, and what
-- it gives is bound as well
pub record Stands (s : Setting) (l : Leaf) (o : Act) : Type 0 where
  pub follows : ActFollows s All Same (leaf l) o
  pub bound : (x : Here s.plan All) (t : Target) (d : ℕ) (y : Value) (w : World)
      → act_by s.plan.g s.c s.plan.looks x.env d (leaf l) x.w ≡ gives y w
      → is_bound_well s.plan.g t (leaf l) y ≡ true → is_bound_well (h s) t o y ≡ true

module _ (g : Program) (P : State → Type 0) (rule : Leaf → Act) where
  abbrev plan : Plan
  plan = looking g P (map (rewritten_procedure (rewrite_code rule)) g.procs)

  pl : IsPlain plan
  pl = is_plain g P (map (rewritten_procedure (rewrite_code rule)) g.procs)

  -- in each setting of the two programs
  abbrev pub EachStands : Type 0
  EachStands = (c c' : Calls) (cb : CallsBack P c) (cf : CallsFollow plan c c') (l : Leaf)
      → Stands (side_by_side plan c c' cb cf) l (rule l)

  module _ (stands : EachStands) (c c' : Calls) (cb : CallsBack P c) (cf : CallsFollow plan c c')
    where
      abbrev it : Setting
      it = side_by_side plan c c' cb cf

      well_too : (x : Here plan All) (t : Target) (o : Act) (d : ℕ) (y : Value) (w : World)
          → act_by g c true x.env d o x.w ≡ gives y w → is_bound_well g t o y ≡ true
          → is_bound_well (h it) t (rewrite_act rule o) y ≡ true
      unfolding rewrite_act
      well_too x t (leaf l) d y w e k = (stands c c' cb cf l).bound x t d y w e k
      well_too x t (case v as') d y w e k = k
      well_too x t (nested b) d y w e k = k

      binds_too : (t : Target) (o : Act) (x : Here plan All) (y : Given it All Same t o x)
          → BindsToo it All t (rewrite_act rule o) x.env x.env' y.w.cells y.v' y.bs
      binds_too t o x y = on y.values
        where
          on : {v' : Value} → Same y.v v' → BindsToo it All t (rewrite_act rule o) x.env x.env'
              y.w.cells v' y.bs
          on same = record {
            seen = λ l. well_too x t o (suc x.d) y.v y.w y.gave (y.seen l);
            bs' = y.bs;
            binds
                = y.binds;
            related = vars_have Any y.bs x.env x.env' x.related;
          }

      mutual
        unfolding rewrite_act

        act_like : (o : Act) → ActFollows it All Same o (rewrite_act rule o)
        act_like (leaf l) = (stands c c' cb cf l).follows
        act_like (case v as') = case_same it pl (having Any) v as' (rewrite_arms rule as') (any_val v)
            (arms_like as')
        act_like (nested b) = nested_follows it b (rewrite_code rule b) (code_like b)

        code_like : (b : Code) → CodeFollows it All Same b (rewrite_code rule b)
        code_like (end o) = end_follows it o (rewrite_act rule o) (act_like o)
        code_like (store cs b) = store_same it pl (having Any) cs b (rewrite_code rule b)
            (any_cells cs) (code_like b)
        code_like (bind t o b) = bind_follows it t t o (rewrite_act rule o) b (rewrite_code rule b)
            (act_like o) (code_like b) (binds_too t o)

        arms_like : (as' : Arms) → ArmsFollow it (On All) Same as' (rewrite_arms rule as')
        arms_like no_arm = no_arm_same it pl (having Any)
        arms_like (arm s b as') = arm_same it pl (having Any) s b (rewrite_code rule b) as'
            (rewrite_arms rule as') (code_like b) (arms_like as')

      enters_same : {xs xs' : List Datum} (q : Procedure) (bs : List Binding) → Same xs xs'
          → one_each q.params xs ≡ Some bs
          → (bs' : List Binding) × (one_each q.params xs' ≡ Some bs')
          × Has Any (with_vars bs nothing) (with_vars bs' nothing)
      enters_same q bs same e = (bs, e, λ y v _ k. k)

      given_same : {v v' : Value} → Same v v' → Seen true (is_given g v) → Seen true (is_given g v')
          × Same v v'
      given_same same seen = (seen, same)

      bodies_like : (f : ℕ) (qs : List Procedure) → BodiesFollow it f qs
          (map (rewritten_procedure (rewrite_code rule)) qs)
      bodies_like f [] = no_more
      bodies_like f (q ∷ qs) = one_more {f = f} {q = q}
          {r = rewritten_procedure (rewrite_code rule) q} (record {
            R = All;
            V = Same;
            enters = λ heap xs xs' bs a e known. enters_same q bs a e;
            body = code_like q.body;
            given = λ v v' u seen. given_same u seen;
          }) (bodies_like (suc f) qs)

  module _ (stands : EachStands) (never : CheckedRunsNeverMissing g)
      (passed : (i : List ℕ) (n : ℕ) → HoldsInEveryState P (world_of (checked_run g i n)).seen)
    where
      goes_likewise : (i : List ℕ) (n : ℕ) → Likewise no_deeper Same (checked_run g i n)
          (checked_run (rewritten (rewrite_code rule) g) i n)
      goes_likewise i n = run_follows plan (λ c c' cb cf. bodies_like stands c c' cb cf 0 g.procs) i n
          same same (passed i n)

      pub rewritten_kept : CheckedRunsNeverMissing (rewritten (rewrite_code rule) g)
          × Keeps g (rewritten (rewrite_code rule) g)
      rewritten_kept = looking_kept g (rewritten (rewrite_code rule) g) never
          (λ i n. likewise_kept no_deeper Same (checked_run g i n)
          (checked_run (rewritten (rewrite_code rule) g) i n) (goes_likewise i n))
