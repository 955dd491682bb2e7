-- What the walk from a block's end keeps.
use Rattle.std.proofs.Common.{◌≡◌, ℕ, List, [], ◌∷◌, ◌++◌, map, length, drop, refl, sym, ap, ◌∙◌}
use mathlib.Core.List.{reverse, reverse_aux}
use Rattle.seq.proofs.Lists.{append_again, append_nil, map_push}
use Rattle.grin_syntax.specs.declared.program.Val.{Val}
use Rattle.grin_syntax.specs.declared.program.Alt.{Alt}
use Rattle.grin_syntax.specs.declared.program.Stmt.{Stmt}
use Rattle.grin_syntax.specs.declared.program.Block.{Block}
use Rattle.grin_syntax.specs.declared.program.Proc.{Proc}
use Rattle.grin_syntax.specs.declared.program.Cell.{Cell}
use Rattle.grin_syntax.specs.declared.program.Target.{Target}
use Rattle.grin_syntax.specs.declared.program.Op.{Op}
use Rattle.grin_syntax.specs.declared.program.Op.TheVariants.{Case}
use Rattle.grin_syntax.specs.declared.program.Stmt.TheVariants.{Store, Bind}
use Rattle.grin_syntax.specs.Tree.{Code, end, bind, Act, Arms, no_arm, arm, case, act_of, before_of, arm_of, code_of, all_before, arms_of, procedure_of}
use Rattle.grin_syntax.proofs.TreeOf.{act_of-Case, before_of-Store, before_of-Bind, code_of-parts}
use Rattle.grin_syntax.proofs.Pieces.{all_arms, all_arms_none, arms_push}
use Rattle.grin_meaning.specs.Rewritten.{rewritten_procedure}
use Rattle.flow_system.specs.Solution.{Solution}
use Rattle.copy_prop.specs.Lean.{used_in_val, used_in_cells, used_in_act, used_in_code, used_in_arms}
use Rattle.copy_prop.proofs.Used.{drop_front}
use Rattle.copy_prop.proofs.Backward.{stacked, stacked_push, whole, stacked_reversed}
use Rattle.pass_narrow.specs.Narrow.{WordSelection, picked_target, word_selection, narrow_act, narrow_code, narrow_arms}

-- ---- statements

module _ (count : ℕ) (A : Solution) (p : WordSelection) where
  abbrev after : Code → Code
  after = narrow_code count A p

  -- what stays of the value of a bound operation is told by what was used after the first `from`
  -- uses
  pub bind_narrows : (s : Stmt) (t t' : Target) (o o' : Op) (from : ℕ) (old m : List ℕ) (c : Code)
      (q : WordSelection) → s ≡ Bind t o → q ≡ word_selection count A t (act_of o) (drop from old)
      → t' ≡ picked_target q t → act_of o' ≡ narrow_act count A q (act_of o)
      → length m ≡ from → old ≡ m ++ used_in_code (after c)
      → before_of (Bind t' o') (after c) ≡ after (before_of s c)
  unfolding narrow_act
  bind_narrows s t t' o o' from old m c q es eq et eo many u =
      let known : q ≡ word_selection count A t (act_of o) (used_in_code (after c))
      = eq ∙ ap (word_selection count A t (act_of o))
      (ap (drop from) u ∙ drop_front m (used_in_code (after c)) from many) in
      ap (λ f. f (after c)) (before_of-Bind t' o') ∙ (λ i. bind (et i) (eo i) (after c)) ∙ ap
      (λ r. bind (picked_target r t) (narrow_act count A r (act_of o)) (after c)) known
      ∙ ap (λ f. after (f c)) (sym (before_of-Bind t o)) ∙ ap (λ r. after (before_of r c)) (sym es)

  pub store_narrows : (s : Stmt) (cs : List Cell) (c : Code) → s ≡ Store cs
      → before_of (Store cs) (after c) ≡ after (before_of s c)
  unfolding narrow_act
  store_narrows s cs c es = ap (λ f. f (after c)) (before_of-Store cs) ∙ ap (λ f. after (f c))
      (sym (before_of-Store cs)) ∙ ap (λ r. after (before_of r c)) (sym es)

pub bound_used : (t : Target) (o : Op) (used old new m : List ℕ) (c : Code)
    → used ≡ used_in_act (act_of o) → new ≡ old ++ used → old ≡ m ++ used_in_code c → new ≡ m
    ++ used_in_code (before_of (Bind t o) c)
unfolding used_in_act
bound_used t o used old new m c h n u =
    n ∙ (λ i. u i ++ h i) ∙ append_again m (used_in_code c) (used_in_act (act_of o)) ∙ ap
    (λ f. m ++ used_in_code (f c)) (sym (before_of-Bind t o))

pub stored_used : (cs cells : List Cell) (old new m : List ℕ) (c : Code) → new ≡ old
    ++ used_in_cells cells → old ≡ m ++ used_in_code c → cells ≡ cs → new ≡ m
    ++ used_in_code (before_of (Store cs) c)
unfolding used_in_act
stored_used cs cells old new m c n o e = n ∙ (λ i. o i ++ used_in_cells (e i)) ∙ append_again m
    (used_in_code c) (used_in_cells cs) ∙ ap (λ f. m ++ used_in_code (f c))
    (sym (before_of-Store cs))

-- ---- blocks

module _ (count : ℕ) (A : Solution) (p : WordSelection) where
  -- `walked` are the statements from the block's end that were walked, and `made` what they became,
  -- before `last`
  pub record Narrows (m seen : List ℕ) (old : Code) (walked made : List Stmt) (last : Act)
      : Type 0 where
    pub tree : stacked made (end last) ≡ narrow_code count A p (stacked walked old)
    pub uses : seen ≡ m ++ used_in_code (narrow_code count A p (stacked walked old))

  pub narrows_begin : (m seen : List ℕ) (o r : Op) (made : List Stmt) (last : Act) → r ≡ o
      → made ≡ [] → last ≡ narrow_act count A p (act_of r) → seen ≡ m
      ++ used_in_act (narrow_act count A p (act_of r))
      → Narrows m seen (end (act_of o)) [] made last
  unfolding narrow_act used_in_act
  narrows_begin m seen o r made last h n e u = record {
    tree = ap (λ l. stacked l (end last)) n ∙ ap end
        (e ∙ ap (λ q. narrow_act count A p (act_of q)) h);
    uses = u ∙ ap (λ q. m ++ used_in_act (narrow_act count A p (act_of q))) h;
  }

  pub narrows_next : (m seen seen' : List ℕ) (old : Code) (walked made : List Stmt) (last : Act)
      (s s' : Stmt) (from : ℕ) → length m ≡ from → Narrows m seen old walked made last
      → ((c : Code) (m : List ℕ) → length m ≡ from → seen ≡ m
      ++ used_in_code (narrow_code count A p c)
      → before_of s' (narrow_code count A p c) ≡ narrow_code count A p (before_of s c))
      → ((c : Code) (m : List ℕ) → seen ≡ m ++ used_in_code c → seen' ≡ m
      ++ used_in_code (before_of s' c)) → Narrows m seen' old (walked ++ s ∷ [])
      (made ++ s' ∷ []) last
  narrows_next m seen seen' old walked made last s s' from many w tree uses =
      let c : Code = stacked walked old in
      let t : before_of s' (narrow_code count A p c) ≡ narrow_code count A p
      (stacked (walked ++ s ∷ []) old) = tree c m many w.uses ∙ ap (narrow_code count A p)
      (sym (stacked_push walked s old)) in
      record {
        tree = stacked_push made s' (end last) ∙ ap (before_of s') w.tree ∙ t;
        uses
            = uses (narrow_code count A p c) m w.uses ∙ ap (λ b. m ++ used_in_code b) t;
      }

  pub narrows_tree : (m seen : List ℕ) (a b : Block) (walked made : List Stmt) (last : Act)
      → walked ≡ reverse a.stmts → Narrows m seen (end (act_of a.last.value)) walked made last
      → b.stmts ≡ reverse made → act_of b.last.value ≡ last
      → code_of b ≡ narrow_code count A p (code_of a)
  narrows_tree m seen a b walked made last e w s l =
      code_of-parts b ∙ (λ i. all_before (map before_of (s i)) (end (l i))) ∙ stacked_reversed made
      [] (end last) ∙ w.tree ∙ ap (narrow_code count A p) (sym (whole a walked e))

  pub narrows_uses : (m seen : List ℕ) (a : Block) (walked made : List Stmt) (last : Act)
      → walked ≡ reverse a.stmts → Narrows m seen (end (act_of a.last.value)) walked made last
      → seen ≡ m ++ used_in_code (narrow_code count A p (code_of a))
  narrows_uses m seen a walked made last e w = w.uses ∙ ap
      (λ c. m ++ used_in_code (narrow_code count A p c)) (sym (whole a walked e))

  -- ---- cases

  pub record ArmsNarrow (seen0 seen : List ℕ) (made from : List Alt) : Type 0 where
    pub by : (r : Arms) → all_arms (map arm_of made) (narrow_arms count A p r) ≡ narrow_arms count A
        p (all_arms (map arm_of from) r)
    pub uses : (r : Arms) → seen ++ used_in_arms r ≡ seen0
        ++ used_in_arms (all_arms (map arm_of made) r)

  pub no_arms : (seen : List ℕ) → ArmsNarrow seen seen [] []
  no_arms seen = record { by = λ r. refl; uses = λ r. refl }

  pub arm_narrows : (seen0 seen seen' : List ℕ) (made from : List Alt) (m a : Alt)
      → ArmsNarrow seen0 seen made from → arm_of m ≡
      ((arm_of a).0, narrow_code count A p (arm_of a).1) → seen' ≡ seen
      ++ used_in_code (narrow_code count A p (arm_of a).1)
      → ArmsNarrow seen0 seen' (made ++ m ∷ []) (from ++ a ∷ [])
  unfolding narrow_act used_in_act
  arm_narrows seen0 seen seen' made from m a u h n = record {
    by = λ r. arms_push made m (narrow_arms count A p r) ∙ ap
        (λ x. all_arms (map arm_of made) (arm x.0 x.1 (narrow_arms count A p r))) h ∙ u.by
        (arm (arm_of a).0 (arm_of a).1 r) ∙ ap (narrow_arms count A p) (sym (arms_push from a r));
    uses = λ r. ap (λ l. l ++ used_in_arms r) n ∙ append_again seen
        (used_in_code (narrow_code count A p (arm_of a).1)) (used_in_arms r) ∙ u.uses
        (arm (arm_of a).0 (narrow_code count A p (arm_of a).1) r)
        ∙ ap (λ x. seen0 ++ used_in_arms x)
        (sym (arms_push made m r ∙ ap (λ x. all_arms (map arm_of made) (arm x.0 x.1 r)) h));
  }

  case_narrows : (seen0 seen : List ℕ) (v v' : Val) (made alts : List Alt) → v' ≡ v
      → ArmsNarrow seen0 seen made alts → act_of (Case v' made) ≡ narrow_act count A p
      (act_of (Case v alts))
  unfolding narrow_act
  case_narrows seen0 seen v v' made alts f u =
      act_of-Case v' made ∙ (λ i. case (f i) (arms_of (map arm_of made))) ∙ ap (case v)
      (sym (all_arms_none (map arm_of made)) ∙ u.by no_arm ∙ ap (narrow_arms count A p)
      (all_arms_none (map arm_of alts)))
      ∙ ap (narrow_act count A p) (sym (act_of-Case v alts))

  case_used : (m seen0 seen : List ℕ) (v : Val) (made alts : List Alt) → seen0 ≡ m ++ used_in_val v
      → ArmsNarrow seen0 seen made alts → seen ≡ m ++ used_in_act
      (narrow_act count A p (act_of (Case v alts)))
  unfolding narrow_act used_in_act
  case_used m seen0 seen v made alts e u =
      sym (append_nil seen) ∙ u.uses no_arm ∙ ap
      (λ l. l ++ used_in_arms (all_arms (map arm_of made) no_arm)) e ∙ append_again m
      (used_in_val v) (used_in_arms (all_arms (map arm_of made) no_arm))
      ∙ ap (λ x. m ++ (used_in_val v ++ used_in_arms x))
      (u.by no_arm ∙ ap (narrow_arms count A p) (all_arms_none (map arm_of alts))) ∙ ap
      (λ o. m ++ used_in_act (narrow_act count A p o)) (sym (act_of-Case v alts))

  pub alternatives_narrow : (op : Op) (v v' : Val) (seen0 seen : List ℕ) (made from alts : List Alt)
      → op ≡ Case v alts → from ≡ alts → v' ≡ v → ArmsNarrow seen0 seen made from
      → act_of (Case v' made) ≡ narrow_act count A p (act_of op)
  alternatives_narrow op v v' seen0 seen made from alts o e f u =
      case_narrows seen0 seen v v' made from f u ∙ ap
      (λ l. narrow_act count A p (act_of (Case v l))) e ∙ ap
      (λ q. narrow_act count A p (act_of q)) (sym o)

  pub alternatives_used : (op : Op) (v : Val) (m seen0 seen : List ℕ) (made from alts : List Alt)
      → op ≡ Case v alts → from ≡ alts → seen0 ≡ m ++ used_in_val v
      → ArmsNarrow seen0 seen made from → seen ≡ m ++ used_in_act (narrow_act count A p (act_of op))
  alternatives_used op v m seen0 seen made from alts o e h u =
      case_used m seen0 seen v made from h u ∙ ap
      (λ l. m ++ used_in_act (narrow_act count A p (act_of (Case v l)))) e ∙ ap
      (λ q. m ++ used_in_act (narrow_act count A p (act_of q))) (sym o)

  -- ---- procedures

  pub one_more_procedure : (made from : List Proc) (q : Proc) (body : Block)
      → code_of body ≡ narrow_code count A p (code_of q.body)
      → map procedure_of made ≡ map (rewritten_procedure (narrow_code count A p))
      (map procedure_of from)
      → map procedure_of (made ++ record { name = q.name; params = q.params; body = body } ∷ []) ≡
      map (rewritten_procedure (narrow_code count A p)) (map procedure_of (from ++ q ∷ []))
  one_more_procedure made from q body e h =
      map_push procedure_of made _ ∙
      (λ i. h i ++ record { name = q.name; params = q.params; body = e i } ∷ [])
      ∙ sym (map_push (rewritten_procedure (narrow_code count A p)) (map procedure_of from)
      (procedure_of q)) ∙ ap (map (rewritten_procedure (narrow_code count A p)))
      (sym (map_push procedure_of from q))
