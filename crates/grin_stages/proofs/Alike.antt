-- Solutions with the same facts inline a program alike.
use Rattle.std.proofs.Common.{◌≡◌, ℕ, zero, suc, ◌+◌, Bool, true, false, cond, IsTrue, nat_eq, nat_le, not, ◌||◌, ◌&&◌, List, [], ◌∷◌, ◌++◌, map, length, Option, Some, None, slice_get, refl, sym, ap, ◌∙◌, subst}
use Rattle.seq.proofs.Order.{eq_self, eq_from}
use Rattle.seq.proofs.Truth.{true_left, true_right}
use Rattle.grin_syntax.specs.declared.program.ProcId.{ProcId}
use Rattle.grin_syntax.specs.declared.program.Tag.{Tag}
use Rattle.grin_syntax.specs.declared.program.GlobalCell.{GlobalCell}
use Rattle.grin_syntax.specs.declared.program.Word as W
use Rattle.grin_syntax.specs.declared.program.Word.TheVariants.{Lit, Var, Global, TagWord}
use Rattle.grin_syntax.specs.declared.program.Val as V
use Rattle.grin_syntax.specs.declared.program.Val.TheVariants.{NodeVar, Node as NodeVal, Vector as VectorVal, One as OneVal}
use Rattle.grin_syntax.specs.Tree.{end, Leaf, leaf, unit, eval, apply, case, Arms, no_arm, Program}
use Rattle.grin_syntax.specs.Fresh.{variable, variables}
use Rattle.grin_meaning.specs.Run.{is_fun_kind, is_some_and, part_from}
use Rattle.flow_system.specs.Tables.{tables}
use Rattle.flow_system.specs.System.{system}
use Rattle.flow_system.specs.declared.fact.Element.{Element as AbstractWord}
use Rattle.flow_system.specs.declared.fact.Element.TheVariants.{Cell as cell_of, Tag as tag, Number as num}
use Rattle.flow_system.specs.declared.fact.Place.{Place}
use Rattle.flow_system.specs.declared.fact.Place.TheVariants.{Site as site, Var as var}
use Rattle.flow_system.specs.declared.fact.Part.{Part}
use Rattle.flow_system.specs.declared.fact.Part.TheVariants.{Tags as tags, Word as word}
use Rattle.flow_system.specs.Solution.{Solution, among, IsLeast}
use Rattle.inline_theory.specs.Size.{size}
use Rattle.arity_check.specs.Program as core
use Rattle.grin_translate.specs.Translation.{tr}
use Rattle.stage_names.specs.declared.PassName.{PassName}
use Rattle.stage_names.specs.declared.PassName.TheVariants.{Translate, Eval, Apply, Vectorise, Simplify, Fetch, Copy, Update, Unbox, Raise, Flat, Known, Cells, Dead}
use Rattle.grin_opt.specs.Schedule.{pass_relation}
use Rattle.grin_stages.specs.Stage.{IsLeastOfTranslation, ExpandedSizeIsUnique, IsStage, translated, evaluations_inlined, both_inlined, by_pass, UpToInlining, StageIsUnique}
use Rattle.grin_rewrite.specs.Counted.{counted}
use Rattle.grin_rewrite.specs.Opening.{opening_arms}
use Rattle.inline_theory.specs.Evaluations.{any_satisfies, cells_in, site_of, sites_of, tags_of, call_body, eval_opening, eval_arms, evaluation, arms_room, eval_room, eval_before, eval_becomes, eval_rule, eval_inlined}
use Rattle.inline_theory.specs.Applications.{word_has, value_has, is_part_tag, part_tags_of, others_of, with_one_more, apply_body, part_body, apply_arms, else_fail, parts_room, apply_room, apply_becomes, apply_rule, apply_inlined, inlined}
use Rattle.seq.specs.Lists.{those}

-- two tests that imply each other are one
both_ways : (x y : Bool) → (IsTrue x → IsTrue y) → (IsTrue y → IsTrue x) → x ≡ y
both_ways true true f g = refl
both_ways true false f g = sym (f refl)
both_ways false true f g = g refl
both_ways false false f g = refl

those_same : (test test' : ℕ → Bool) → ((t : ℕ) → test t ≡ test' t) → (i k : ℕ)
    → those test i k ≡ those test' i k
those_same test test' e i zero = refl
those_same test test' e i (suc k) = rw (e i, those_same test test' e (suc i) k) refl

-- a cell among the words that passes a test
record Passing (test : ℕ → Bool) (us : List AbstractWord) : Type 0 where
  pub place : ℕ
  pub there : IsTrue (among (cell_of place) us)
  pub passes : IsTrue (test place)

some_in : (p : Program) (A : Solution) (test : ℕ → Bool) (s : ℕ) (us : List AbstractWord)
    → IsTrue (among (cell_of s) us) → IsTrue (test s)
    → IsTrue (any_satisfies test (cells_in p A us))
some_in p A test s [] m t = cc
some_in p A test s (cell_of s' ∷ us) m t = on (nat_eq s s') refl m (λ m. some_in p A test s us m t)
  where
    on : (b : Bool) → nat_eq s s' ≡ b → IsTrue (b || among (cell_of s) us)
        → (IsTrue (among (cell_of s) us) → IsTrue (any_satisfies test (cells_in p A us)))
        → IsTrue (test s' || any_satisfies test (cells_in p A us))
    on true q m rest = true_left (test s') (any_satisfies test (cells_in p A us))
        (subst (λ x. test x ≡ true) (eq_from s s' q) t)
    on false q m rest = true_right (test s') (any_satisfies test (cells_in p A us)) (rest m)
some_in p A test s (tag t' ∷ us) m t = some_in p A test s us m t
some_in p A test s (num ∷ us) m t = some_in p A test s us m t

some_out : (p : Program) (A : Solution) (test : ℕ → Bool) (us : List AbstractWord)
    → IsTrue (any_satisfies test (cells_in p A us)) → Passing test us
some_out p A test [] h = cc
some_out p A test (cell_of s ∷ us) h = on (test s) refl h (λ h. some_out p A test us h)
  where
    on : (b : Bool) → test s ≡ b → IsTrue (b || any_satisfies test (cells_in p A us))
        → (IsTrue (any_satisfies test (cells_in p A us)) → Passing test us)
        → Passing test (cell_of s ∷ us)
    on true q h rest = record
        { place = s; there = true_left (nat_eq s s) (among (cell_of s) us) (eq_self s); passes = q }
    on false q h rest = let found : Passing test us = rest h in
        record {
          place = found.place;
          there = true_right (nat_eq found.place s)
              (among (cell_of found.place) us) found.there;
          passes = found.passes;
        }
some_out p A test (tag t ∷ us) h = let found : Passing test us = some_out p A test us h
    in record { place = found.place; there = found.there; passes = found.passes }
some_out p A test (num ∷ us) h = let found : Passing test us = some_out p A test us h
    in record { place = found.place; there = found.there; passes = found.passes }

module _ (p : Program) (A B : Solution)
    (same : (q : Place) (part : Part) (u : AbstractWord) → among u (A q part) ≡ among u (B q part))
  where
    cells_same : (test test' : ℕ → Bool) → ((s : ℕ) → test s ≡ test' s) → (us vs : List AbstractWord)
        → ((u : AbstractWord) → among u us ≡ among u vs)
        → any_satisfies test (cells_in p A us) ≡ any_satisfies test' (cells_in p B vs)
    cells_same test test' e us vs m = both_ways _ _
        (λ h. let found : Passing test us = some_out p A test us h
        in some_in p B test' found.place vs (sym (m (cell_of found.place)) ∙ found.there)
        (sym (e found.place) ∙ found.passes))
        (λ h. let found : Passing test' vs = some_out p B test' vs h
        in some_in p A test found.place us (m (cell_of found.place) ∙ found.there)
        (e found.place ∙ found.passes))

    sites_same : (test test' : ℕ → Bool) → ((s : ℕ) → test s ≡ test' s) → (a : W.Word)
        → any_satisfies test (sites_of p A a) ≡ any_satisfies test' (sites_of p B a)
    sites_same test test' e (Lit k) = refl
    sites_same test test' e (Var x) = cells_same test test' e (A (var x.0) (word 0))
        (B (var x.0) (word 0)) (λ u. same (var x.0) (word 0) u)
    sites_same test test' e (Global i) = on (slice_get p.globals i)
      where
        on : (o : Option GlobalCell) → any_satisfies test (site_of p A o) ≡ any_satisfies test'
            (site_of p B o)
        on None = refl
        on (Some c) = ap (λ b. b || false) (e c.site.0)
    sites_same test test' e (TagWord t) = refl

    tags_same : (a : W.Word) → tags_of p A a ≡ tags_of p B a
    tags_same a = those_same _ _ (λ t. sites_same _ _ (λ s. same (site s) tags (tag t)) a) 0
        (length p.tags)

    -- ---- evaluations

    call_same : (a : W.Word) (x k : ℕ) (o : Option ProcId)
        → call_body p A a x k o ≡ call_body p B a x k o
    call_same a x k None = refl
    call_same a x k (Some f) = refl

    eval_opening_same : (a : W.Word) (n : ℕ) → eval_opening p A a n ≡ eval_opening p B a n
    eval_opening_same a n = λ i. record {
      more = 1;
      body = λ x t. cond (is_fun_kind t.kind) (call_same a x t.fields t.proc i)
          (end (leaf (unit (NodeVar (variable n)))));
      last = no_arm;
    }

    evaluation_same : (x : ℕ) (a : W.Word) → evaluation p A x a ≡ evaluation p B x a
    evaluation_same x a = ap (case (NodeVar (variable x)))
        (ap (eval_arms p A a x (suc x)) (tags_same a) ∙ ap
        (λ O. opening_arms p.tags O (suc x) (tags_of p B a)) (eval_opening_same a x))

    eval_room_same : (l : Leaf) → eval_room p A l ≡ eval_room p B l
    eval_room_same (eval a) = ap (λ ts. suc (arms_room p A ts)) (tags_same a)
    eval_room_same l = refl

    eval_before_same : (x : ℕ) (l : Leaf) → eval_before p A x l ≡ eval_before p B x l
    eval_before_same x (eval a) = refl
    eval_before_same x l = refl

    eval_becomes_same : (x : ℕ) (l : Leaf) → eval_becomes p A x l ≡ eval_becomes p B x l
    eval_becomes_same x (eval a) = evaluation_same x a
    eval_becomes_same x l = refl

    eval_rule_same : eval_rule p A ≡ eval_rule p B
    eval_rule_same = λ i. record {
      room = λ l. eval_room_same l i;
      before = λ x l. eval_before_same x l i;
      becomes
          = λ x l. eval_becomes_same x l i;
    }

    -- ---- applications

    word_has_same : (t : ℕ) (a : W.Word) → word_has p A t a ≡ word_has p B t a
    word_has_same t (Lit k) = refl
    word_has_same t (Var x) = same (var x.0) (word 0) (tag t)
    word_has_same t (Global i) = refl
    word_has_same t (TagWord u) = refl

    value_has_same : (v : V.Val) (t : ℕ) → value_has p A v t ≡ value_has p B v t
    value_has_same (NodeVar x) t = rw (same (var x.0) tags (tag t), same (var x.0) (word 0) (tag t))
        refl
    value_has_same (NodeVal u ws) t = refl
    value_has_same (VectorVal []) t = refl
    value_has_same (VectorVal (a ∷ ws)) t = ap
        (λ b. b && is_some_and (slice_get p.tags t) (λ i. nat_le i.fields (length ws)))
        (word_has_same t a)
    value_has_same (OneVal a) t = ap
        (λ b. b && is_some_and (slice_get p.tags t) (λ i. nat_eq i.fields 0)) (word_has_same t a)

    parts_same : (v : V.Val) → part_tags_of p A v ≡ part_tags_of p B v
    parts_same v = those_same _ _ (λ t. ap (λ b. b && is_part_tag p A t) (value_has_same v t)) 0
        (length p.tags)

    others_same : (v : V.Val) → others_of p A v ≡ others_of p B v
    others_same v = those_same _ _ (λ t. ap (λ b. b && not (is_part_tag p A t)) (value_has_same v t))
        0 (length p.tags)

    with_one_more_same : (f : ℕ) (o : Option ℕ) (ws : List W.Word)
        → with_one_more p A f o ws ≡ with_one_more p B f o ws
    with_one_more_same f None ws = refl
    with_one_more_same f (Some t) ws = refl

    apply_body_same : (f r : ℕ) (ws : List W.Word) → apply_body p A f r ws ≡ apply_body p B f r ws
    apply_body_same f zero ws = refl
    apply_body_same f (suc zero) ws = refl
    apply_body_same f (suc (suc r)) ws = with_one_more_same f (part_from 0 p.tags f (suc r)) ws

    part_same : (x : ℕ) (a : W.Word) (t : Tag) (o : Option ProcId)
        → part_body p A x a t o ≡ part_body p B x a t o
    part_same x a t None = refl
    part_same x a t (Some f) = apply_body_same f.0 t.missing
        (map Var (variables x t.fields) ++ a ∷ [])

    apply_arms_same : (a : W.Word) (x : ℕ) (ts : List ℕ) (last : Arms)
        → apply_arms p A a x ts last ≡ apply_arms p B a x ts last
    apply_arms_same a x ts last = λ i. opening_arms p.tags
        (record { more = 0; body = λ y t. part_same y a t t.proc i; last = last }) x ts

    else_same : (ts : List ℕ) → else_fail p A ts ≡ else_fail p B ts
    else_same [] = refl
    else_same (t ∷ ts) = refl

    apply_room_same : (l : Leaf) → apply_room p A l ≡ apply_room p B l
    apply_room_same (apply v a) = ap (parts_room p A) (parts_same v)
    apply_room_same l = refl

    apply_becomes_same : (x : ℕ) (l : Leaf) → apply_becomes p A x l ≡ apply_becomes p B x l
    apply_becomes_same x (apply v a) = ap (case v)
        ((λ i. apply_arms p A a x (parts_same v i) (else_fail p A (others_same v i))) ∙
        (ap (apply_arms p A a x (part_tags_of p B v)) (else_same (others_of p B v)) ∙ apply_arms_same
        a x (part_tags_of p B v) (else_fail p B (others_of p B v))))
    apply_becomes_same x l = refl

    apply_rule_same : apply_rule p A ≡ apply_rule p B
    apply_rule_same = λ i. record {
      room = λ l. apply_room_same l i;
      before = λ x l. [];
      becomes
          = λ x l. apply_becomes_same x l i;
    }

-- what one least solution has, the other has
least_same : (p : Program) (A B : Solution) → IsLeast (tables p) (system p) A
    → IsLeast (tables p) (system p) B → (q : Place) (part : Part) (u : AbstractWord)
    → among u (A q part) ≡ among u (B q part)
least_same p A B a b q part u = both_ways _ _
    (λ h. (a.least B b.solves q part u (record { there = h })).there)
    (λ h. (b.least A a.solves q part u (record { there = h })).there)

-- two least solutions inline a program alike
record InlineAlike (p : Program) (A B : Solution) : Type 0 where
  pub evaluations : eval_inlined A p ≡ eval_inlined B p
  pub both : inlined A p ≡ inlined B p

alike : (p : Program) (A B : Solution) → IsLeast (tables p) (system p) A
    → IsLeast (tables p) (system p) B → InlineAlike p A B
alike p A B a b =
    let same = least_same p A B a b in
    let e : eval_inlined A p ≡ eval_inlined B p = ap (λ R. counted R p) (eval_rule_same p A B same)
    in
    record {
      evaluations = e;
      both = ap (apply_inlined A) e ∙ ap (λ R. counted R (eval_inlined B p))
          (apply_rule_same (eval_inlined B p) A B same);
    }

pub expanded_once : ExpandedSizeIsUnique
expanded_once p n m h k = h.is_size ∙
    (ap size (alike (tr p) h.solution k.solution h.least k.least).both ∙ sym k.is_size)

-- no stage up to the inlining is made by a pass
no_pass : (k : PassName) (g h : Program) → UpToInlining k → pass_relation k g h → ⊥
no_pass Translate g h u s = s
no_pass Eval g h u s = s
no_pass Apply g h u s = s
no_pass Vectorise g h u s = absurd u
no_pass Simplify g h u s = absurd u
no_pass Fetch g h u s = absurd u
no_pass Copy g h u s = absurd u
no_pass Update g h u s = absurd u
no_pass Unbox g h u s = absurd u
no_pass Raise g h u s = absurd u
no_pass Flat g h u s = absurd u
no_pass Known g h u s = absurd u
no_pass Cells g h u s = absurd u
no_pass Dead g h u s = absurd u

-- where two stages are of one pass, up to the inlining, they are one program
stages_agree : (p : core.Program) (upto upto' : PassName) (g h : Program) → UpToInlining upto
    → IsStage p upto g → IsStage p upto' h → upto ≡ upto' → g ≡ h
stages_agree p upto upto' g h u translated translated e = refl
stages_agree p upto upto' g h u (evaluations_inlined {A = A} a) (evaluations_inlined {A = B} b) e
    = (alike (tr p) A B a b).evaluations
stages_agree p upto upto' g h u (both_inlined {A = A} a) (both_inlined {A = B} b) e
    = (alike (tr p) A B a b).both
stages_agree p upto upto' g h u translated (evaluations_inlined b) e = cc
stages_agree p upto upto' g h u translated (both_inlined b) e = cc
stages_agree p upto upto' g h u translated (by_pass {g = b} t shape k) e
    = absurd (no_pass upto' b h (subst UpToInlining e u) shape)
stages_agree p upto upto' g h u (evaluations_inlined a) translated e = cc
stages_agree p upto upto' g h u (evaluations_inlined a) (both_inlined b) e = cc
stages_agree p upto upto' g h u (evaluations_inlined a) (by_pass {g = b} t shape k) e
    = absurd (no_pass upto' b h (subst UpToInlining e u) shape)
stages_agree p upto upto' g h u (both_inlined a) translated e = cc
stages_agree p upto upto' g h u (both_inlined a) (evaluations_inlined b) e = cc
stages_agree p upto upto' g h u (both_inlined a) (by_pass {g = b} t shape k) e
    = absurd (no_pass upto' b h (subst UpToInlining e u) shape)
stages_agree p upto upto' g h u (by_pass {g = b} s shape k) t e = absurd (no_pass upto b g u shape)

pub staged_once : StageIsUnique
staged_once p upto g h u a b = stages_agree p upto upto g h u a b refl

-- the inlined program by any least solution is the stage
pub inlined_stage : (p : core.Program) (g : Program) → IsStage p Apply g → (A : Solution)
    → IsLeastOfTranslation p A → g ≡ inlined A (tr p)
inlined_stage p g s A least = staged_once p Apply g (inlined A (tr p)) tt s (both_inlined least)
