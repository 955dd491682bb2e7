-- What the walk from a block's end keeps.
use Rattle.std.proofs.Common.{◌≡◌, ℕ, Bool, true, false, List, [], ◌∷◌, ◌++◌, map, length, drop, Option, Some, None, refl, sym, ap, ◌∙◌}
use mathlib.Core.List.{reverse, reverse_aux}
use Rattle.std.proofs.lemmas.List.{reverse-reverse}
use Rattle.seq.proofs.Lists.{append_again, append_nil}
use Rattle.grin_syntax.specs.declared.program.Val.{Val}
use Rattle.grin_syntax.specs.declared.program.Alt.{Alt}
use Rattle.grin_syntax.specs.declared.program.Stmt.{Stmt}
use Rattle.grin_syntax.specs.declared.program.Block.{Block}
use Rattle.grin_syntax.specs.declared.program.Cell.{Cell}
use Rattle.grin_syntax.specs.declared.program.Target.{Target}
use Rattle.grin_syntax.specs.declared.program.Op.{Op}
use Rattle.grin_syntax.specs.declared.program.Op.TheVariants.{Case}
use Rattle.grin_syntax.specs.declared.program.Stmt.TheVariants.{Store, Bind}
use Rattle.grin_syntax.specs.Tree.{Code, end, bind, Act, Arms, no_arm, arm, case, act_of, before_of, arm_of, code_of, all_before, arms_of}
use Rattle.grin_syntax.proofs.TreeOf.{act_of-Case, before_of-Store, before_of-Bind, code_of-parts}
use Rattle.grin_syntax.proofs.Pieces.{all_arms, all_arms_none, arms_push}
use Rattle.copy_prop.specs.Lean.{used_in_val, used_in_cells, used_in_act, used_in_code, used_in_arms, is_idle, unless, optional_statement, without_idle_act, without_idle_code, without_idle_arms}
use Rattle.copy_prop.proofs.Used.{drop_front}

-- ---- statements

module _ (s : Stmt) (t : Target) (p : Op) (from : ℕ) (old m : List ℕ) (c : Code) where
  bound_leans : s ≡ Bind t p → without_idle_code (before_of s c) ≡ unless
      (is_idle t (act_of p) (used_in_code (without_idle_code c)))
      (bind t (without_idle_act (act_of p))) (without_idle_code c)
  unfolding without_idle_act
  bound_leans e = ap (λ q. without_idle_code (before_of q c)) e ∙ ap (λ f. without_idle_code (f c))
      (before_of-Bind t p)

  idle_is : (b : Bool) → b ≡ is_idle t (act_of p) (drop from old) → length m ≡ from → old ≡ m
      ++ used_in_code (without_idle_code c) → is_idle t (act_of p)
      (used_in_code (without_idle_code c)) ≡ b
  idle_is b e many o = ap (is_idle t (act_of p))
      (sym (ap (drop from) o ∙ drop_front m (used_in_code (without_idle_code c)) from many)) ∙ sym e

  -- an idle statement goes
  pub idle_goes : (b : Bool) → s ≡ Bind t p → b ≡ is_idle t (act_of p) (drop from old) → b ≡ true
      → length m ≡ from → old ≡ m ++ used_in_code (without_idle_code c)
      → optional_statement None (without_idle_code c) ≡ without_idle_code (before_of s c)
  idle_goes b es e true' many o = sym
      (bound_leans es ∙ ap
      (λ q. unless q (bind t (without_idle_act (act_of p))) (without_idle_code c))
      (idle_is b e many o ∙ true'))

  -- another stays
  pub busy_stays : (b : Bool) (p' : Op) → s ≡ Bind t p → b ≡ is_idle t (act_of p) (drop from old)
      → b ≡ false → act_of p' ≡ without_idle_act (act_of p) → length m ≡ from → old ≡ m
      ++ used_in_code (without_idle_code c) → optional_statement (Some (Bind t p'))
      (without_idle_code c) ≡ without_idle_code (before_of s c)
  busy_stays b p' es e false' h many o =
      ap (λ f. f (without_idle_code c)) (before_of-Bind t p') ∙ ap
      (λ q. bind t q (without_idle_code c)) h ∙ sym
      (bound_leans es ∙ ap
      (λ q. unless q (bind t (without_idle_act (act_of p))) (without_idle_code c))
      (idle_is b e many o ∙ false'))

pub bound_used : (t : Target) (p p' : Op) (old new m : List ℕ) (c : Code)
    → act_of p' ≡ without_idle_act (act_of p) → new ≡ old
    ++ used_in_act (without_idle_act (act_of p)) → old ≡ m ++ used_in_code c → new ≡ m
    ++ used_in_code (optional_statement (Some (Bind t p')) c)
unfolding used_in_act
bound_used t p p' old new m c h n o =
    n ∙ (λ i. o i ++ used_in_act (sym h i)) ∙ append_again m (used_in_code c)
    (used_in_act (act_of p')) ∙ ap (λ f. m ++ used_in_code (f c)) (sym (before_of-Bind t p'))

pub stored_used : (cs cells : List Cell) (old new m : List ℕ) (c : Code) → new ≡ old
    ++ used_in_cells cells → old ≡ m ++ used_in_code c → cells ≡ cs → new ≡ m
    ++ used_in_code (optional_statement (Some (Store cs)) c)
unfolding used_in_act
stored_used cs cells old new m c n o e = n ∙ (λ i. o i ++ used_in_cells (e i)) ∙ append_again m
    (used_in_code c) (used_in_cells cs) ∙ ap (λ f. m ++ used_in_code (f c))
    (sym (before_of-Store cs))

-- ---- blocks

-- statements put before a block one by one, so that the last comes first
abbrev pub stacked : List Stmt → Code → Code
stacked [] c = c
stacked (s ∷ ss) c = stacked ss (before_of s c)

pub stacked_push : (ss : List Stmt) (s : Stmt) (c : Code)
    → stacked (ss ++ s ∷ []) c ≡ before_of s (stacked ss c)
stacked_push [] s c = refl
stacked_push (t ∷ ss) s c = stacked_push ss s (before_of t c)

-- `walked` are the statements from the block's end that were walked, and `made` what they became,
-- before `last`
pub record Leans (m seen : List ℕ) (old : Code) (walked made : List Stmt) (last : Act)
    : Type 0 where
  pub tree : stacked made (end last) ≡ without_idle_code (stacked walked old)
  pub uses : seen ≡ m ++ used_in_code (without_idle_code (stacked walked old))

pub leans_begin : (m seen : List ℕ) (o p : Op) (made : List Stmt) (last : Act) → p ≡ o → made ≡ []
    → last ≡ without_idle_act (act_of p) → seen ≡ m ++ used_in_act (without_idle_act (act_of p))
    → Leans m seen (end (act_of o)) [] made last
unfolding without_idle_act used_in_act
leans_begin m seen o p made last h n e u = record {
  tree = ap (λ l. stacked l (end last)) n ∙ ap end (e ∙ ap (λ q. without_idle_act (act_of q)) h);
  uses = u ∙ ap (λ q. m ++ used_in_act (without_idle_act (act_of q))) h;
}

-- a statement that stays, or is left out
leans_next : (m seen seen' : List ℕ) (old : Code) (walked made : List Stmt) (last : Act) (s : Stmt)
    (o : Option Stmt) (from : ℕ) → length m ≡ from → Leans m seen old walked made last
    → ((c : Code) (m : List ℕ) → length m ≡ from → seen ≡ m ++ used_in_code (without_idle_code c)
    → optional_statement o (without_idle_code c) ≡ without_idle_code (before_of s c))
    → ((c : Code) (m : List ℕ) → seen ≡ m ++ used_in_code c → seen' ≡ m
    ++ used_in_code (optional_statement o c))
    → (made' : List Stmt) → stacked made' (end last) ≡ optional_statement o
    (stacked made (end last)) → Leans m seen' old (walked ++ s ∷ []) made' last
leans_next m seen seen' old walked made last s o from many w tree uses made' f =
    let c : Code = stacked walked old in
    let t : optional_statement o (without_idle_code c) ≡ without_idle_code
    (stacked (walked ++ s ∷ []) old) = tree c m many w.uses ∙ ap without_idle_code
    (sym (stacked_push walked s old)) in
    record {
      tree = f ∙ ap (optional_statement o) w.tree ∙ t;
      uses
          = uses (without_idle_code c) m w.uses ∙ ap (λ b. m ++ used_in_code b) t;
    }

pub leans_stay : (m seen seen' : List ℕ) (old : Code) (walked made : List Stmt) (last : Act)
    (s s' : Stmt) (o : Option Stmt) (from : ℕ) → length m ≡ from → Leans m seen old walked made last
    → ((c : Code) (m : List ℕ) → length m ≡ from → seen ≡ m ++ used_in_code (without_idle_code c)
    → optional_statement o (without_idle_code c) ≡ without_idle_code (before_of s c))
    → ((c : Code) (m : List ℕ) → seen ≡ m ++ used_in_code c → seen' ≡ m
    ++ used_in_code (optional_statement o c))
    → o ≡ Some s' → Leans m seen' old (walked ++ s ∷ []) (made ++ s' ∷ []) last
leans_stay m seen seen' old walked made last s s' o from many w tree uses q =
    leans_next m seen seen' old walked made last s o from many w tree uses (made ++ s' ∷ [])
    (stacked_push made s' (end last) ∙ ap (λ p. optional_statement p (stacked made (end last)))
    (sym q))

pub leans_go : (m seen seen' : List ℕ) (old : Code) (walked made : List Stmt) (last : Act)
    (s : Stmt) (o : Option Stmt) (from : ℕ) → length m ≡ from → Leans m seen old walked made last
    → ((c : Code) (m : List ℕ) → length m ≡ from → seen ≡ m ++ used_in_code (without_idle_code c)
    → optional_statement o (without_idle_code c) ≡ without_idle_code (before_of s c))
    → ((c : Code) (m : List ℕ) → seen ≡ m ++ used_in_code c → seen' ≡ m
    ++ used_in_code (optional_statement o c))
    → o ≡ None → Leans m seen' old (walked ++ s ∷ []) made last
leans_go m seen seen' old walked made last s o from many w tree uses q =
    leans_next m seen seen' old walked made last s o from many w tree uses made
    (ap (λ p. optional_statement p (stacked made (end last))) (sym q))

pub stacked_reversed : (ss ts : List Stmt) (c : Code)
    → all_before (map before_of (reverse_aux ss ts)) c ≡ stacked ss
    (all_before (map before_of ts) c)
stacked_reversed [] ts c = refl
stacked_reversed (s ∷ ss) ts c = stacked_reversed ss (s ∷ ts) c

-- the whole block, from its end
pub whole : (a : Block) (walked : List Stmt) → walked ≡ reverse a.stmts
    → code_of a ≡ stacked walked (end (act_of a.last.value))
whole a walked e =
    code_of-parts a ∙ ap (λ l. all_before (map before_of l) (end (act_of a.last.value)))
    (sym (reverse-reverse a.stmts) ∙ ap reverse (sym e)) ∙ stacked_reversed walked []
    (end (act_of a.last.value))

pub leans_tree : (m seen : List ℕ) (a b : Block) (walked made : List Stmt) (last : Act)
    → walked ≡ reverse a.stmts → Leans m seen (end (act_of a.last.value)) walked made last
    → b.stmts ≡ reverse made → act_of b.last.value ≡ last
    → code_of b ≡ without_idle_code (code_of a)
leans_tree m seen a b walked made last e w s l =
    code_of-parts b ∙ (λ i. all_before (map before_of (s i)) (end (l i))) ∙ stacked_reversed made []
    (end last) ∙ w.tree ∙ ap without_idle_code (sym (whole a walked e))

pub leans_uses : (m seen : List ℕ) (a : Block) (walked made : List Stmt) (last : Act)
    → walked ≡ reverse a.stmts → Leans m seen (end (act_of a.last.value)) walked made last
    → seen ≡ m ++ used_in_code (without_idle_code (code_of a))
leans_uses m seen a walked made last e w = w.uses ∙ ap
    (λ c. m ++ used_in_code (without_idle_code c)) (sym (whole a walked e))

-- ---- cases

pub record ArmsLean (seen0 seen : List ℕ) (made from : List Alt) : Type 0 where
  pub by : (r : Arms) → all_arms (map arm_of made) (without_idle_arms r) ≡ without_idle_arms
      (all_arms (map arm_of from) r)
  pub uses : (r : Arms) → seen ++ used_in_arms r ≡ seen0
      ++ used_in_arms (all_arms (map arm_of made) r)

pub no_arms : (seen : List ℕ) → ArmsLean seen seen [] []
no_arms seen = record { by = λ r. refl; uses = λ r. refl }

pub arm_leans : (seen0 seen seen' : List ℕ) (made from : List Alt) (m a : Alt)
    → ArmsLean seen0 seen made from → arm_of m ≡ ((arm_of a).0, without_idle_code (arm_of a).1)
    → seen' ≡ seen ++ used_in_code (without_idle_code (arm_of a).1)
    → ArmsLean seen0 seen' (made ++ m ∷ []) (from ++ a ∷ [])
unfolding without_idle_act used_in_act
arm_leans seen0 seen seen' made from m a u h n = record {
  by = λ r. arms_push made m (without_idle_arms r) ∙ ap
      (λ x. all_arms (map arm_of made) (arm x.0 x.1 (without_idle_arms r))) h ∙ u.by
      (arm (arm_of a).0 (arm_of a).1 r) ∙ ap without_idle_arms (sym (arms_push from a r));
  uses = λ r. ap (λ l. l ++ used_in_arms r) n ∙ append_again seen
      (used_in_code (without_idle_code (arm_of a).1)) (used_in_arms r) ∙ u.uses
      (arm (arm_of a).0 (without_idle_code (arm_of a).1) r)
      ∙ ap (λ x. seen0 ++ used_in_arms x)
      (sym (arms_push made m r ∙ ap (λ x. all_arms (map arm_of made) (arm x.0 x.1 r)) h));
}

pub case_leans : (seen0 seen : List ℕ) (v v' : Val) (made alts : List Alt) → v' ≡ v
    → ArmsLean seen0 seen made alts → act_of (Case v' made) ≡ without_idle_act
    (act_of (Case v alts))
unfolding without_idle_act
case_leans seen0 seen v v' made alts f u =
    act_of-Case v' made ∙ (λ i. case (f i) (arms_of (map arm_of made))) ∙ ap (case v)
    (sym (all_arms_none (map arm_of made)) ∙ u.by no_arm ∙ ap without_idle_arms
    (all_arms_none (map arm_of alts)))
    ∙ ap without_idle_act (sym (act_of-Case v alts))

pub case_used : (m seen0 seen : List ℕ) (v : Val) (made alts : List Alt) → seen0 ≡ m
    ++ used_in_val v → ArmsLean seen0 seen made alts → seen ≡ m
    ++ used_in_act (without_idle_act (act_of (Case v alts)))
unfolding without_idle_act used_in_act
case_used m seen0 seen v made alts e u =
    sym (append_nil seen) ∙ u.uses no_arm ∙ ap
    (λ l. l ++ used_in_arms (all_arms (map arm_of made) no_arm)) e ∙ append_again m
    (used_in_val v) (used_in_arms (all_arms (map arm_of made) no_arm))
    ∙ ap (λ x. m ++ (used_in_val v ++ used_in_arms x))
    (u.by no_arm ∙ ap without_idle_arms (all_arms_none (map arm_of alts))) ∙ ap
    (λ o. m ++ used_in_act (without_idle_act o)) (sym (act_of-Case v alts))
