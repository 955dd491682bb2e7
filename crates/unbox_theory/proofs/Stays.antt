-- What a piece keeps where members give the number alone: its sites, its updates, and whether a
-- member's call is among its ends.
use Rattle.std.proofs.Common.{◌≡◌, Bool, true, false, ◌||◌, [], ◌∷◌, ◌++◌, map, refl, ap, ◌∙◌}
use Rattle.grin_syntax.specs.declared.program.Target.{Target}
use Rattle.grin_syntax.specs.declared.program.Target.TheVariants as to
use Rattle.grin_syntax.specs.Tree.{Code, end, store, bind, Act, leaf, unit, fetch, fetch_word, update, eval, apply, call, prim, read, write, case, nested, fail, Arms, no_arm, arm}
use Rattle.grin_syntax.specs.Binders.{act_sites, code_sites, arms_sites}
use Rattle.unbox_theory.specs.Ends.{Procedures, act_calls, code_calls, arms_calls}
use Rattle.unbox_theory.specs.Unboxing.{bound, unbox_act, unbox_code, unbox_arms}
use Rattle.unbox_theory.specs.Unboxed.{act_updates, code_updates, arms_updates}

module _ (M : Procedures) where
  pub record ActStays (o o' : Act) : Type 0 where
    pub sites : act_sites o' ≡ act_sites o
    pub updates : act_updates o' ≡ act_updates o
    pub calls : act_calls M o' ≡ act_calls M o

  pub record CodeStays (b b' : Code) : Type 0 where
    pub sites : code_sites b' ≡ code_sites b
    pub updates : code_updates b' ≡ code_updates b
    pub calls : code_calls M b' ≡ code_calls M b

  pub record ArmsStay (as' bs' : Arms) : Type 0 where
    pub sites : arms_sites bs' ≡ arms_sites as'
    pub updates : arms_updates bs' ≡ arms_updates as'
    pub calls : arms_calls M bs' ≡ arms_calls M as'

  -- boxed or not, what is bound adds nothing
  bound_stays : (q : Bool) (t : Target) (o : Act) (b : Code)
      → CodeStays (bind t o b) (bound q t o b)
  unfolding act_sites act_updates act_calls
  bound_stays false t o b = record { sites = refl; updates = refl; calls = refl }
  bound_stays true to.Nothing o b = record { sites = refl; updates = refl; calls = refl }
  bound_stays true (to.Node x) o b = record { sites = refl; updates = refl; calls = refl }
  bound_stays true (to.One x) o b = record { sites = refl; updates = refl; calls = refl }
  bound_stays true (to.Vector []) o b = record { sites = refl; updates = refl; calls = refl }
  bound_stays true (to.Vector (x ∷ [])) o b = record { sites = refl; updates = refl; calls = refl }
  bound_stays true (to.Vector (x ∷ y ∷ zs)) o b = record
      { sites = refl; updates = refl; calls = refl }

  same : (o : Act) → ActStays o o
  same o = record { sites = refl; updates = refl; calls = refl }

  mutual
    unfolding unbox_act act_sites act_updates act_calls

    pub act_stays : (bare : Bool) (o : Act) → ActStays o (unbox_act M bare o)
    act_stays bare (case v as') = let h = arms_stay bare as'
        in record { sites = h.sites; updates = h.updates; calls = h.calls }
    act_stays bare (nested b) = let h = code_stays bare b
        in record { sites = h.sites; updates = h.updates; calls = h.calls }
    act_stays bare (leaf (unit v)) = record { sites = refl; updates = refl; calls = refl }
    act_stays bare (leaf (update a v)) = same _
    act_stays bare (leaf (fetch a)) = same _
    act_stays bare (leaf (fetch_word a i)) = same _
    act_stays bare (leaf (eval a)) = same _
    act_stays bare (leaf (apply v a)) = same _
    act_stays bare (leaf (call f ws)) = same _
    act_stays bare (leaf (prim f a b)) = same _
    act_stays bare (leaf read) = same _
    act_stays bare (leaf (write a)) = same _
    act_stays bare (leaf fail) = same _

    pub code_stays : (bare : Bool) (b : Code) → CodeStays b (unbox_code M bare b)
    code_stays bare (end o) = let h = act_stays bare o
        in record { sites = h.sites; updates = h.updates; calls = h.calls }
    code_stays bare (store cs b) = let h = code_stays bare b
        in record {
          sites = ap (λ t. map (λ c. c.site.0) cs ++ t) h.sites;
          updates = h.updates;
          calls
              = h.calls;
        }
    code_stays bare (bind t o b) =
        let made = bound_stays (act_calls M o) t (unbox_act M (act_calls M o) o)
        (unbox_code M bare b) in
        let h = act_stays (act_calls M o) o in
        let k = code_stays bare b in
        record {
          sites = made.sites ∙ (λ i. h.sites i ++ k.sites i);
          updates
              = made.updates ∙ (λ i. h.updates i ++ k.updates i);
          calls = made.calls ∙ k.calls;
        }

    pub arms_stay : (bare : Bool) (as' : Arms) → ArmsStay as' (unbox_arms M bare as')
    arms_stay bare no_arm = record { sites = refl; updates = refl; calls = refl }
    arms_stay bare (arm s b as') =
        let h = code_stays bare b in
        let k = arms_stay bare as' in
        record {
          sites = λ i. h.sites i ++ k.sites i;
          updates = λ i. h.updates i
              ++ k.updates i;
          calls = λ i. h.calls i || k.calls i;
        }
