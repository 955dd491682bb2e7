-- What inlining of applications makes of a program's text: it stays well formed, and no application
-- is left.
use Rattle.std.proofs.Common.{◌≡◌, ℕ, zero, suc, ◌+◌, ◌<◌, ◌≤◌, Bool, true, false, cond, List, [], ◌∷◌, ◌++◌, map, length, Option, Some, None, refl, arith}
use Rattle.seq.specs.Lists.{times}
use Rattle.seq.proofs.Lists.{all_push}
use Rattle.grin_syntax.specs.declared.program.ProcId.{ProcId}
use Rattle.grin_syntax.specs.declared.program.Tag.{Tag}
use Rattle.grin_syntax.specs.declared.program.Val.{Val}
use Rattle.grin_syntax.specs.declared.program.Word.{Word}
use Rattle.grin_syntax.specs.declared.program.Word.TheVariants.{Var}
use Rattle.grin_syntax.specs.Tree.{Code, Leaf, leaf, apply, Program}
use Rattle.grin_syntax.specs.Binders.{numbers_of, code_vars, act_vars, arms_vars, code_sites, act_sites, arms_sites}
use Rattle.grin_syntax.specs.Formed.{AllOf, Scope, with_word_variables, KnownIfAny, TagFormed, WordFormed, ActFormed, CodeFormed, ArmsFormed, Formed}
use Rattle.grin_syntax.specs.Tags.{is_part}
use Rattle.grin_syntax.specs.Fresh.{variables, past_procs}
use Rattle.grin_syntax.proofs.Scopes.{fewer_left, within_words, word_stays, vars_formed}
use Rattle.grin_meaning.specs.Run.{part_from}
use Rattle.grin_meaning.specs.Ready.{EachAct, EachCode, EachArms, IsInlined, inlined_kind}
use Rattle.flow_system.specs.Solution.{Solution}
use Rattle.grin_rewrite.proofs.CountedText.{BindsFresh, HasNoSite, LeafFormed, BeforeEach, bodies_each, counted_formed}
use Rattle.grin_rewrite.specs.Opening.{Opening}
use Rattle.grin_rewrite.proofs.Opened.{OpensPlain, opened_binds, opened_plain, opened_formed}
use Rattle.inline_theory.specs.Applications.{with_one_more, apply_body, part_body, apply_opening, part_tags_of, others_of, else_fail, apply_becomes, apply_rule, apply_inlined}
use Rattle.inline_theory.specs.Without.{HasNoEval, no_eval_kind}
use Rattle.inline_theory.proofs.EvaluationsText.{kind_knows}

-- what binds no variable, has no site, no evaluation and no application
abbrev Plain : Code → Type 0
Plain b = ((z : ℕ) → times z (code_vars b) ≤ 0) × (code_sites b ≡ []) × EachCode inlined_kind b

part_below : (i : ℕ) (ts : List Tag) (f r t : ℕ) → part_from i ts f r ≡ Some t → t < i + length ts
part_below i [] f r t e = cc
part_below i (y ∷ ts) f r t e = go (is_part f r y) e (part_below (suc i) ts f r t)
  where
    go : (b : Bool) → cond b (Some i) (part_from (suc i) ts f r) ≡ Some t
        → (part_from (suc i) ts f r ≡ Some t → t < suc i + length ts) → t < i + length (y ∷ ts)
    go true e rest = let s : i ≡ t = cc in omega arith
    go false e rest = let h : t < suc i + length ts = rest e in omega arith

module _ (p : Program) (A : Solution) where
  -- ---- what is done for a function

  one_more_plain : (f : ℕ) (o : Option ℕ) (ws : List Word) → Plain (with_one_more p A f o ws)
  unfolding act_vars act_sites EachAct
  one_more_plain f None ws = (λ z. omega arith, refl, tt)
  one_more_plain f (Some t) ws = (λ z. omega arith, refl, (tt, tt))

  applied_plain : (f r : ℕ) (ws : List Word) → Plain (apply_body p A f r ws)
  unfolding act_vars act_sites EachAct
  applied_plain f zero ws = (λ z. omega arith, refl, tt)
  applied_plain f (suc zero) ws = (λ z. omega arith, refl, tt)
  applied_plain f (suc (suc r)) ws = one_more_plain f (part_from 0 p.tags f (suc r)) ws

  part_plain : (x : ℕ) (a : Word) (t : Tag) (o : Option ProcId) → Plain (part_body p A x a t o)
  unfolding act_vars act_sites EachAct
  part_plain x a t None = (λ z. omega arith, refl, tt)
  part_plain x a t (Some f) = applied_plain f.0 t.missing (map Var (variables x t.fields) ++ a ∷ [])

  last_plain : (ts : List ℕ) → (arms_vars (else_fail p A ts) ≡ [])
      × (arms_sites (else_fail p A ts) ≡ []) × EachArms inlined_kind (else_fail p A ts)
  unfolding act_vars act_sites EachAct
  last_plain [] = (refl, refl, tt)
  last_plain (t ∷ ts) = (refl, refl, (tt, tt, tt))

  abbrev opening : Val → Word → Opening
  opening v a = apply_opening p A a (else_fail p A (others_of p A v))

  opens : (v : Val) (a : Word) → OpensPlain p.tags (opening v a) inlined_kind
  opens v a = record {
    body = λ x t. part_plain x a t t.proc;
    pattern = λ xs. tt;
    last
        = last_plain (others_of p A v);
  }

  binds : BindsFresh (apply_rule p A)
  unfolding act_vars
  binds z x (apply v a) = omega
      (arith, opened_binds p.tags (opening v a) inlined_kind (opens v a) z x (part_tags_of p A v))
  binds z x l = omega arith

  no_site : HasNoSite (apply_rule p A)
  unfolding act_sites
  no_site x (apply v a) =
      (opened_plain p.tags (opening v a) inlined_kind (opens v a) x (part_tags_of p A v)).0
  no_site x l = refl

  without : (x : ℕ) (l : Leaf) → EachAct no_eval_kind (leaf l) → BeforeEach inlined_kind []
      × EachAct inlined_kind (apply_becomes p A x l)
  unfolding EachAct
  without x (apply v a) h = (
    tt,
    (
      tt,
      tt,
      (opened_plain p.tags (opening v a) inlined_kind (opens v a) x (part_tags_of p A v)).1,
    ),
  )
  without x l h = (tt, h)

  pub inlining_done : HasNoEval p → IsInlined (apply_inlined A p)
  inlining_done h =
      bodies_each (apply_rule p A) no_eval_kind inlined_kind
      (record {
        cases = λ v as' bs' h. tt;
        blocks = λ b b' h. tt;
        targets = λ t h. tt;
        values
            = λ v h. tt;
        patterns = λ xs h. tt;
      }) without (past_procs p.procs) p.procs h

  -- ---- what is in scope

  module _ (scope : Scope) where
    -- what is done for a function, where its fields and the argument are in scope
    one_more_formed : (f r : ℕ) (ws : List Word) (o : Option ℕ) → part_from 0 p.tags f r ≡ o
        → AllOf (WordFormed p scope) ws → CodeFormed p scope (with_one_more p A f o ws)
    unfolding ActFormed
    one_more_formed f r ws None e h = tt
    one_more_formed f r ws (Some t) e h =
        (let k : t < 0 + length p.tags = part_below 0 p.tags f r t e in omega arith, h)

    applied_formed : (f : ProcId) (r : ℕ) (ws : List Word) → KnownIfAny p (Some f)
        → AllOf (WordFormed p scope) ws → CodeFormed p scope (apply_body p A f.0 r ws)
    unfolding ActFormed
    applied_formed f zero ws k h = tt
    applied_formed f (suc zero) ws k h = (k, h)
    applied_formed f (suc (suc r)) ws k h = one_more_formed f.0 (suc r) ws
        (part_from 0 p.tags f.0 (suc r)) refl h

    part_formed : (x : ℕ) (a : Word) (t : Tag) (o : Option ProcId) → KnownIfAny p o
        → AllOf (WordFormed p scope) (map Var (variables x t.fields) ++ a ∷ [])
        → CodeFormed p scope (part_body p A x a t o)
    unfolding ActFormed
    part_formed x a t None k h = tt
    part_formed x a t (Some f) k h = applied_formed f t.missing
        (map Var (variables x t.fields) ++ a ∷ []) k h

    last_formed : (ts : List ℕ) → ArmsFormed p scope (else_fail p A ts)
    unfolding ActFormed
    last_formed [] = tt
    last_formed (t ∷ ts) = (tt, tt, tt)

  leaf_formed : AllOf (TagFormed p) p.tags → LeafFormed (apply_rule p A) p
  unfolding ActFormed
  leaf_formed tags x scope (apply v a) h = (
    tt,
    (
      h.0,
      opened_formed p (opening v a) tags scope body (last_formed scope (others_of p A v))
          x (part_tags_of p A v),
    ),
  )
    where
      body : (y : ℕ) (i : Tag) → TagFormed p i → CodeFormed p
          (with_word_variables (numbers_of (variables y i.fields)) scope)
          (part_body p A y a i i.proc)
      body y i ok =
          let fields : List ℕ = numbers_of (variables y i.fields) in
          let more : Scope = with_word_variables fields scope in
          part_formed more y a i i.proc (kind_knows p i.kind i i.proc refl ok)
          (all_push (WordFormed p more) (map Var (variables y i.fields)) a
          (vars_formed p p.procs refl (variables y i.fields) more
          (fewer_left fields scope.words))
          (word_stays p p.procs refl scope more (within_words fields scope) a h.1))
  leaf_formed tags x scope l h = (tt, h)

pub inlining_formed : (p : Program) (A : Solution) → Formed p → Formed (apply_inlined A p)
inlining_formed p A f = counted_formed (apply_rule p A) p (binds p A) (no_site p A)
    (leaf_formed p A f.tags) f
