-- A program that fits still does once its applications are inlined.
use Rattle.std.proofs.Common.{◌≡◌, ℕ, zero, suc, ◌+◌, Bool, true, false, cond, ◌&&◌, nat_eq, List, [], ◌∷◌, ◌++◌, map, Option, Some, None, slice_get, refl, sym, ap, ◌∙◌, subst, arith}
use Rattle.grin_syntax.specs.declared.program.ProcId.{ProcId}
use Rattle.grin_syntax.specs.declared.program.Tag.{Tag}
use Rattle.grin_syntax.specs.declared.program.TagKind.{TagKind}
use Rattle.grin_syntax.specs.declared.program.TagKind.TheVariants as kind
use Rattle.grin_syntax.specs.declared.program.Val.{Val}
use Rattle.grin_syntax.specs.declared.program.Word.{Word}
use Rattle.grin_syntax.specs.declared.program.Word.TheVariants.{Var}
use Rattle.grin_syntax.specs.Tree.{Code, end, store, bind, Act, leaf, unit, fetch, fetch_word, update, eval, apply, call, prim, read, write, case, nested, fail, Arms, no_arm, arm, Procedure, Program}
use Rattle.grin_syntax.specs.Formed.{AllOf}
use Rattle.grin_syntax.specs.Fresh.{variables, past_procs}
use Rattle.grin_meaning.specs.Run.{is_fun_kind, is_part_kind, is_some_and, is_part, is_proc, part_from}
use Rattle.flow_system.specs.Solution.{Solution}
use Rattle.grin_rewrite.specs.Counted.{act_room, code_room, before_act, counted_act, counted_code, counted_all, counted_procs}
use Rattle.inline_theory.specs.Applications.{with_one_more, apply_body, part_body, apply_arms, part_tags_of, others_of, else_fail, apply_inlined, apply_rule}
use Rattle.inlined_form.proofs.Sorts.{Sorts, nothing_known, sort_of, WordsFit, vars_sorted, cells_sorted, target_sorted, delayed, alternative_sorted, ActFits, CodeFits, ArmsFit, ProcedureFits, ProgramFits}

-- the first tag is none of a function that lacks arguments
abbrev pub FirstIsNoPart : List Tag → Type 0
FirstIsNoPart ts = is_some_and (slice_get ts 0) (λ i. is_part_kind i.kind) ≡ false

-- a function that lacks arguments is not delayed
part_not_delayed : (i : Tag) (f r : ℕ) → is_part f r i ≡ true → is_fun_kind i.kind ≡ false
part_not_delayed i f r e = on i.kind refl
  where
    on : (k : TagKind) → i.kind ≡ k → is_fun_kind k ≡ false
    on kind.Con q = refl
    on kind.Part q = refl
    on kind.Fun q = let h : false ≡ true = sym
        (ap (λ k. is_part_kind k && (is_proc f i.proc && nat_eq i.missing r)) q) ∙ e in cc

-- the tag that is found for such a function
found_part : (ts all : List Tag) (j f r t : ℕ) → ((k : ℕ) → slice_get all (j + k) ≡ slice_get ts k)
    → part_from j ts f r ≡ Some t → delayed all t ≡ false
found_part [] all j f r t h e = cc
found_part (i ∷ ts) all j f r t h e = on (λ h e. found_part ts all (suc j) f r t h e)
    (is_part f r i) refl e
  where
    on : (((k : ℕ) → slice_get all (suc j + k) ≡ slice_get ts k) → part_from (suc j) ts f r ≡ Some t
        → delayed all t ≡ false) → (b : Bool) → is_part f r i ≡ b
        → cond b (Some j) (part_from (suc j) ts f r) ≡ Some t → delayed all t ≡ false
    on later true q e = let s : t ≡ j + 0 = grind (arith)
        in ap (λ t. delayed all t) s ∙
        (ap (λ o. is_some_and o (λ i. is_fun_kind i.kind)) (h 0) ∙ part_not_delayed i f r q)
    on later false q e = later
        (λ k. let s : suc j + k ≡ j + suc k = omega arith in ap (slice_get all) s ∙ h (suc k)) e

part_later : (ts : List Tag) (j f r t : ℕ) → part_from (suc j) ts f r ≡ Some t → (k : ℕ)
    × (t ≡ suc k)
part_later [] j f r t e = cc
part_later (i ∷ ts) j f r t e = on (λ e. part_later ts (suc j) f r t e) (is_part f r i) e
  where
    on : (part_from (suc (suc j)) ts f r ≡ Some t → (k : ℕ) × (t ≡ suc k)) → (b : Bool)
        → cond b (Some (suc j)) (part_from (suc (suc j)) ts f r) ≡ Some t → (k : ℕ) × (t ≡ suc k)
    on later true e = (j, let h : suc j ≡ t = cc in sym h)
    on later false e = later e

-- and it is not the first tag
not_first : (ts : List Tag) (f r t : ℕ) → FirstIsNoPart ts → part_from 0 ts f r ≡ Some t → (k : ℕ)
    × (t ≡ suc k)
not_first [] f r t h e = cc
not_first (i ∷ ts) f r t h e = on (is_part f r i) refl e
  where
    on : (b : Bool) → is_part f r i ≡ b → cond b (Some 0) (part_from 1 ts f r) ≡ Some t → (k : ℕ)
        × (t ≡ suc k)
    on true q e = let z : false ≡ true = sym
        (ap (λ b. b && (is_proc f i.proc && nat_eq i.missing r)) h) ∙ q in cc
    on false q e = part_later ts 0 f r t e

module _ (p : Program) (A : Solution) (first : FirstIsNoPart p.tags) where
  more_fits : (f : ℕ) (r : ℕ) (o : Option ℕ) → part_from 0 p.tags f r ≡ o
      → (ws : List Word) (Γ : Sorts) → CodeFits p.tags ⊥ ⊥ Γ (with_one_more p A f o ws)
  unfolding ActFits
  more_fits f r None e ws Γ = (refl, tt)
  more_fits f r (Some t) e ws Γ = (
    refl,
    (
      found_part p.tags p.tags 0 f r t (λ k. ap (slice_get p.tags) (omega arith)) e,
      on (not_first p.tags f r t first e),
    ),
  )
    where
      on : ((k : ℕ) × (t ≡ suc k)) → WordsFit Γ t ws
      on q = subst (λ t. WordsFit Γ t ws) (sym q.1) tt

  body_fits : (f m : ℕ) (ws : List Word) (Γ : Sorts) → CodeFits p.tags ⊥ ⊥ Γ (apply_body p A f m ws)
  unfolding ActFits
  body_fits f zero ws Γ = (refl, tt)
  body_fits f (suc zero) ws Γ = (refl, tt)
  body_fits f (suc (suc r)) ws Γ = more_fits f (suc r) (part_from 0 p.tags f (suc r)) refl ws Γ

  part_fits : (x : ℕ) (a : Word) (i : Tag) (o : Option ProcId) (Γ : Sorts)
      → CodeFits p.tags ⊥ ⊥ Γ (part_body p A x a i o)
  unfolding ActFits
  part_fits x a i None Γ = (refl, tt)
  part_fits x a i (Some f) Γ = body_fits f.0 i.missing (map Var (variables x i.fields) ++ a ∷ []) Γ

  else_fits : (v : Val) (ks : List ℕ) (Γ : Sorts) → ArmsFit p.tags ⊥ ⊥ Γ v (else_fail p A ks)
  unfolding ActFits
  else_fits v [] Γ = tt
  else_fits v (k ∷ ks) Γ = ((refl, tt), tt)

  arms_fit : (v : Val) (a : Word) (x : ℕ) (ks : List ℕ) (last : Arms) (Γ : Sorts)
      → ArmsFit p.tags ⊥ ⊥ Γ v last → ArmsFit p.tags ⊥ ⊥ Γ v (apply_arms p A a x ks last)
  unfolding ActFits
  arms_fit v a x [] last Γ h = h
  arms_fit v a x (t ∷ ts) last Γ h = on (λ z. arms_fit v a z ts last Γ h) (slice_get p.tags t) refl
    where
      on : ((z : ℕ) → ArmsFit p.tags ⊥ ⊥ Γ v (apply_arms p A a z ts last)) → (o : Option Tag)
          → slice_get p.tags t ≡ o → ArmsFit p.tags ⊥ ⊥ Γ v (apply_arms p A a x (t ∷ ts) last)
      on later None e = rw e (later (0 + (x + 0)))
      on later (Some i) e = rw e (part_fits x a i i.proc _, later (0 + (x + i.fields)))

  same_sort : (x : ℕ) (o : Act) → sort_of (counted_act (apply_rule p A) x o) ≡ sort_of o
  unfolding counted_act
  same_sort x (leaf (apply v a)) = refl
  same_sort x (leaf l) = refl
  same_sort x (case v as') = refl
  same_sort x (nested b) = refl

  nothing_before : (x : ℕ) (o : Act) → before_act (apply_rule p A) x o ≡ []
  nothing_before x (leaf l) = refl
  nothing_before x (case v as') = refl
  nothing_before x (nested b) = refl

  mutual
    unfolding ActFits counted_act

    act_fits : (o : Act) (x : ℕ) (Γ : Sorts) → ActFits p.tags ⊥ (Unit {0}) Γ o
        → ActFits p.tags ⊥ ⊥ Γ (counted_act (apply_rule p A) x o)
    act_fits (leaf (unit v)) x Γ h = h
    act_fits (leaf (fetch a)) x Γ h = tt
    act_fits (leaf (fetch_word a i)) x Γ h = h
    act_fits (leaf (update a v)) x Γ h = h
    act_fits (leaf (eval a)) x Γ h = h
    act_fits (leaf (apply v a)) x Γ h = (
      h.1,
      arms_fit v a x (part_tags_of p A v) (else_fail p A (others_of p A v)) Γ
          (else_fits v (others_of p A v) Γ),
    )
    act_fits (leaf (call f ws)) x Γ h = tt
    act_fits (leaf (prim f a b)) x Γ h = tt
    act_fits (leaf read) x Γ h = tt
    act_fits (leaf (write a)) x Γ h = tt
    act_fits (case v as') x Γ h = (h.0, all_fit as' x v Γ h.1)
    act_fits (nested b) x Γ h = code_fits b x Γ h
    act_fits (leaf fail) x Γ h = tt

    code_fits : (b : Code) (x : ℕ) (Γ : Sorts) → CodeFits p.tags ⊥ (Unit {0}) Γ b
        → CodeFits p.tags ⊥ ⊥ Γ (counted_code (apply_rule p A) x b)
    code_fits (end o) x Γ h = rw (nothing_before x o) (same_sort x o ∙ h.0, act_fits o x Γ h.1)
    code_fits (store cs b) x Γ h = (h.0, code_fits b x (cells_sorted cs Γ) h.1)
    code_fits (bind t o b) x Γ h = rw (nothing_before x o, same_sort x o) (
      h.0,
      act_fits o x Γ h.1,
      code_fits b (x + act_room (apply_rule p A) o)
          (target_sorted t (sort_of o) Γ) h.2,
    )

    all_fit : (as' : Arms) (x : ℕ) (v : Val) (Γ : Sorts) → ArmsFit p.tags ⊥ (Unit {0}) Γ v as'
        → ArmsFit p.tags ⊥ ⊥ Γ v (counted_all (apply_rule p A) x as')
    all_fit no_arm x v Γ h = tt
    all_fit (arm s b as') x v Γ h = (
      code_fits b x (alternative_sorted p.tags s v Γ) h.0,
      all_fit as' (x + code_room (apply_rule p A) b) v Γ h.1,
    )

  procs_fit : (qs : List Procedure) (x : ℕ) → AllOf (ProcedureFits p.tags ⊥ (Unit {0})) qs
      → AllOf (ProcedureFits p.tags ⊥ ⊥) (counted_procs (apply_rule p A) x qs)
  procs_fit [] x h = tt
  procs_fit (q ∷ qs) x h = (
    code_fits q.body x (vars_sorted q.params nothing_known) h.0,
    procs_fit qs (x + code_room (apply_rule p A) q.body) h.1,
  )

pub applications_fit : (p : Program) (A : Solution) → FirstIsNoPart p.tags
    → ProgramFits ⊥ (Unit {0}) p → ProgramFits ⊥ ⊥ (apply_inlined A p)
applications_fit p A first h = record {
  procedures = procs_fit p A first p.procs (past_procs p.procs) h.procedures;
  globals
      = h.globals;
}
