-- What inlining of evaluations makes of a program's text: it stays well formed, and no evaluation
-- is left.
use Rattle.std.proofs.Common.{◌≡◌, ℕ, suc, ◌+◌, ◌≤◌, Bool, true, false, cond, [], ◌∷◌, Option, Some, None, refl, subst, arith}
use Rattle.seq.specs.Lists.{times}
use Rattle.grin_syntax.specs.declared.program.ProcId.{ProcId}
use Rattle.grin_syntax.specs.declared.program.Tag.{Tag}
use Rattle.grin_syntax.specs.declared.program.TagKind.{TagKind}
use Rattle.grin_syntax.specs.declared.program.TagKind.TheVariants as kind
use Rattle.grin_syntax.specs.declared.program.Word.{Word}
use Rattle.grin_syntax.specs.declared.program.Val.TheVariants.{NodeVar}
use Rattle.grin_syntax.specs.declared.program.Target.TheVariants.{Node as NodeTarget}
use Rattle.grin_syntax.specs.Tree.{end, Leaf, leaf, unit, eval, Program}
use Rattle.grin_syntax.specs.Binders.{numbers_of, act_vars, code_vars, act_sites, code_sites}
use Rattle.grin_syntax.specs.Formed.{AllOf, Scope, with_word_variables, with_target, InScope, KnownIfAny, HasProcedure, KindFormed, TagFormed, WordFormed, ActFormed, CodeFormed, Formed}
use Rattle.grin_syntax.specs.Fresh.{variable, variables, past_procs}
use Rattle.grin_syntax.proofs.Counted.{fresh}
use Rattle.grin_syntax.proofs.Scopes.{fewer_left, Within, within_chain, within_words, within_target, first_in, word_stays, vars_formed}
use Rattle.grin_meaning.specs.Run.{is_fun_kind}
use Rattle.grin_meaning.specs.Ready.{EachAct, EachCode, any_kind}
use Rattle.flow_system.specs.Solution.{Solution}
use Rattle.grin_rewrite.proofs.CountedText.{BindsFresh, HasNoSite, LeafFormed, BeforeEach, bodies_each, counted_formed}
use Rattle.grin_rewrite.proofs.Opened.{OpensPlain, opened_binds, opened_plain, opened_formed}
use Rattle.grin_rewrite.proofs.Sound.{any_bodies}
use Rattle.inline_theory.specs.Evaluations.{call_body, eval_body, eval_opening, tags_of, eval_before, eval_becomes, eval_rule, eval_inlined}
use Rattle.inline_theory.specs.Without.{HasNoEval, no_eval_kind}

-- the procedure of a well-formed tag
pub kind_knows : (p : Program) (k : TagKind) (t : Tag) (o : Option ProcId) → t.proc ≡ o
    → KindFormed p k t → KnownIfAny p o
kind_knows p kind.Con t o e h = subst (KnownIfAny p) e h
kind_knows p kind.Fun t None e h = tt
kind_knows p kind.Fun t (Some f) e h = subst (HasProcedure p) e h
kind_knows p kind.Part t None e h = tt
kind_knows p kind.Part t (Some f) e h = subst (HasProcedure p) e h.0

module _ (p : Program) (A : Solution) where
  body_plain : (a : Word) (n x k : ℕ) (b : Bool) (o : Option ProcId)
      → ((z : ℕ) → times z
      (code_vars (cond b (call_body p A a x k o) (end (leaf (unit (NodeVar (variable n))))))) ≤
      fresh z (x + k) 1)
      × (code_sites (cond b (call_body p A a x k o) (end (leaf (unit (NodeVar (variable n)))))) ≡
      []) × EachCode no_eval_kind
      (cond b (call_body p A a x k o) (end (leaf (unit (NodeVar (variable n))))))
  unfolding act_vars act_sites EachAct
  body_plain a n x k true None = (λ z. omega arith, refl, tt)
  body_plain a n x k true (Some f) = (λ z. omega arith, refl, (tt, tt, (tt, (tt, tt), (tt, tt))))
  body_plain a n x k false o = (λ z. omega arith, refl, (tt, tt))

  opens : (a : Word) (n : ℕ) → OpensPlain p.tags (eval_opening p A a n) no_eval_kind
  unfolding act_vars act_sites EachAct
  opens a n = record {
    body = λ x t. body_plain a n x t.fields (is_fun_kind t.kind) t.proc;
    pattern
        = λ xs. tt;
    last = (refl, refl, tt);
  }

  binds : BindsFresh (eval_rule p A)
  unfolding act_vars
  binds z x (eval a) = omega (
    arith,
    opened_binds p.tags (eval_opening p A a x) no_eval_kind (opens a x) z (suc x)
        (tags_of p A a),
  )
  binds z x l = omega arith

  no_site : HasNoSite (eval_rule p A)
  unfolding act_sites
  no_site x (eval a) =
      (opened_plain p.tags (eval_opening p A a x) no_eval_kind (opens a x) (suc x)
      (tags_of p A a)).0
  no_site x l = refl

  without : (x : ℕ) (l : Leaf) → EachAct any_kind (leaf l)
      → BeforeEach no_eval_kind (eval_before p A x l) × EachAct no_eval_kind (eval_becomes p A x l)
  unfolding EachAct
  without x (eval a) h = (
    (tt, tt, tt),
    (
      tt,
      tt,
      (opened_plain p.tags (eval_opening p A a x) no_eval_kind (opens a x) (suc x)
          (tags_of p A a)).1,
    ),
  )
  without x l h = (tt, h)

  -- with a fresh node in scope
  abbrev with_node : ℕ → Scope → Scope
  with_node x scope = with_target (NodeTarget (variable x)) scope

  body_formed : (a : Word) (n x : ℕ) (i : Tag) (scope : Scope) → TagFormed p i
      → WordFormed p scope a → InScope scope.nodes n
      → CodeFormed p (with_word_variables (numbers_of (variables x i.fields)) scope)
      (eval_body p A a n x i)
  unfolding ActFormed
  body_formed a n x i scope ok known there_n = go (is_fun_kind i.kind) i.proc refl
    where
      more : Scope
      more = with_word_variables (numbers_of (variables x i.fields)) scope

      r : ℕ
      r = x + i.fields

      go : (b : Bool) (o : Option ProcId) → i.proc ≡ o
          → CodeFormed p more
          (cond b (call_body p A a x i.fields o) (end (leaf (unit (NodeVar (variable n))))))
      go true None q = tt
      go true (Some f) q =
          let w : Within scope (with_node r more) = within_chain
          (within_words (numbers_of (variables x i.fields)) scope)
          (within_target (NodeTarget (variable r)) more) in (
            (
              kind_knows p i.kind i (Some f) q ok,
              vars_formed p p.procs refl (variables x i.fields)
                  more (fewer_left (numbers_of (variables x i.fields)) scope.words),
            ),
            (
              (word_stays p p.procs refl scope (with_node r more) w a known, first_in r scope.nodes),
              first_in r scope.nodes,
            ),
          )
      go false o q = there_n

  leaf_formed : AllOf (TagFormed p) p.tags → LeafFormed (eval_rule p A) p
  unfolding ActFormed
  leaf_formed tags x scope (eval a) known =
      let first : InScope (x ∷ scope.nodes) x = first_in x scope.nodes in
      let known' : WordFormed p (with_node x scope) a
      = word_stays p p.procs refl scope (with_node x scope)
      (within_target (NodeTarget (variable x)) scope) a known in (
        (known, tt),
        (
          first,
          opened_formed p (eval_opening p A a x) tags (with_node x scope)
              (λ y i ok. body_formed a x y i (with_node x scope) ok known' first) tt (suc x)
              (tags_of p A a),
        ),
      )
  leaf_formed tags x scope l h = (tt, h)

pub inlining_formed : (p : Program) (A : Solution) → Formed p → Formed (eval_inlined A p)
inlining_formed p A f = counted_formed (eval_rule p A) p (binds p A) (no_site p A)
    (leaf_formed p A f.tags) f

pub none_left : (p : Program) (A : Solution) → HasNoEval (eval_inlined A p)
none_left p A =
    bodies_each (eval_rule p A) any_kind no_eval_kind
    (record {
      cases = λ v as' bs' h. tt;
      blocks = λ b b' h. tt;
      targets = λ t h. tt;
      values
          = λ v h. tt;
      patterns = λ xs h. tt;
    }) (without p A) (past_procs p.procs) p.procs
    (any_bodies p.procs)
