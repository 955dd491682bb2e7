-- Blocks and cases that grow by one piece.
use Rattle.std.proofs.Common.{◌≡◌, ℤ, Bool, true, false, cond, Option, ℕ, suc, ◌+◌, ◌<◌, ◌≤◌, List, [], ◌∷◌, ◌++◌, map, drop, length, get_or, refl, sym, ap, ◌∙◌, arith, Some, None, slice_get}
use Rattle.std.proofs.Math.Seq.{drop-cons}
use Rattle.std.proofs.lemmas.List.{map-append}
use Rattle.std.proofs.lemmas.Option.{same_Some, none-some}
use Rattle.seq.proofs.Lists.{drop_past}
use Rattle.arity_check.specs.declared.normal.PrimOp.{PrimOp}
use Rattle.arity_check.specs.declared.normal.Var as core
use Rattle.arity_check.specs.declared.normal.Bound.{Bound}
use Rattle.arity_check.specs.declared.normal.Body.{Body}
use Rattle.arity_check.specs.declared.normal.Branch.{Branch}
use Rattle.arity_check.specs.declared.normal.Branch.TheVariants as branch'
use Rattle.arity_check.specs.Program.{Program, Term, Branches, term, branch, branches_of}
use Rattle.arity_check.specs.Program as normal
use Rattle.grin_syntax.specs.declared.program.VarId.{VarId}
use Rattle.grin_syntax.specs.declared.program.Cell.{Cell}
use Rattle.grin_syntax.specs.declared.program.Target.{Target}
use Rattle.grin_syntax.specs.declared.program.Target.TheVariants as to
use Rattle.grin_syntax.specs.declared.program.Word.{Word}
use Rattle.grin_syntax.specs.declared.program.Val.TheVariants.{NodeVar}
use Rattle.grin_syntax.specs.declared.program.TagId.{TagId}
use Rattle.grin_syntax.specs.declared.program.Shape.{Shape}
use Rattle.grin_syntax.specs.declared.program.Shape.TheVariants as shape
use Rattle.grin_syntax.specs.declared.program.Alt.{Alt}
use Rattle.grin_syntax.specs.declared.program.Block.{Block}
use Rattle.grin_syntax.specs.declared.program.Op.{Op}
use Rattle.grin_syntax.specs.declared.program.Op.TheVariants.{Case}
use Rattle.grin_syntax.specs.declared.program.Stmt.{Stmt}
use Rattle.grin_syntax.specs.declared.program.Stmt.TheVariants.{Store, Bind}
use Rattle.grin_syntax.specs.Tree.{Code, leaf, fail, end, bind, store, Act, nested, case, arm_of, code_of, apply, eval, Arms, arm, no_arm, arms_of, act_of, before_of, all_before, as_act}
use Rattle.grin_syntax.proofs.TreeOf.{before_of-Store, before_of-Bind, code_of-parts, act_of-Case}
use Rattle.grin_translate.specs.declared.tags.Kind.TheVariants.{Constructor}
use Rattle.grin_translate.specs.Tags.{tag}
use Rattle.grin_translate.specs.Blocks.{word, local, temp, cell_of, give_block, apply_block, prim_block, block, arms, temps, branch_temps}
use Rattle.grin_translate.specs.Pieces.{result_of, evaluated_of, given_to, cell_of_local, prepend_arms}
use Rattle.grin_translate.proofs.TermOf.{branch-Con, branch-Int, branch-Default}
use Rattle.grin_syntax.proofs.Pieces.{all_before_push}

pub at_item : {A : Type 0} (xs : List A) (i : ℕ) (x : A) → i < length xs → x ≡ get_or xs i x
    → drop i xs ≡ x ∷ drop (i + 1) xs
at_item xs i x lt is = let e : suc i ≡ i + 1 = omega arith
    in drop-cons xs i x lt ∙ ap (λ y. y ∷ drop (suc i) xs) (sym is) ∙ ap (λ k. x ∷ drop k xs) e

pub ruleset pushed = (all_before_push)

-- ---- a block that is an operation

pub nested_store : (ss : List Stmt) (cells : List Cell) (c : Code)
    → slice_get ss 0 ≡ Some (Store cells) → as_act (all_before (map before_of ss) c) ≡ nested
    (all_before (map before_of ss) c)
nested_store [] cells c e = absurd (none-some (Store cells) e)
nested_store (s ∷ ss) cells c e =
    let f : before_of s ≡ store cells = ap before_of (same_Some s (Store cells) e) ∙ before_of-Store
    cells in
    rw f refl

pub nested_bind : (ss : List Stmt) (t : Target) (o : Op) (c : Code)
    → slice_get ss 0 ≡ Some (Bind t o) → as_act (all_before (map before_of ss) c) ≡ nested
    (all_before (map before_of ss) c)
nested_bind [] t o c e = absurd (none-some (Bind t o) e)
nested_bind (s ∷ ss) t o c e =
    let f : before_of s ≡ bind t (act_of o) = ap before_of (same_Some s (Bind t o) e) ∙
    before_of-Bind t o in
    rw f refl

plain_list : (ss : List Stmt) (o : Act) → slice_get ss 0 ≡ None
    → as_act (all_before (map before_of ss) (end o)) ≡ o
plain_list [] o e = refl
plain_list (s ∷ ss) o e = absurd (none-some s (sym e))

pub plain_block : (b : Block) → slice_get b.stmts 0 ≡ None
    → as_act (code_of b) ≡ act_of b.last.value
plain_block b e = ap as_act (code_of-parts b) ∙ plain_list b.stmts (act_of b.last.value) e

pub store_block : (b : Block) (cells : List Cell) → slice_get b.stmts 0 ≡ Some (Store cells)
    → as_act (code_of b) ≡ nested (code_of b)
store_block b cells e = ap as_act (code_of-parts b) ∙ nested_store b.stmts cells
    (end (act_of b.last.value)) e ∙ ap nested (sym (code_of-parts b))

pub bind_block : (b : Block) (t : Target) (o : Op) → slice_get b.stmts 0 ≡ Some (Bind t o)
    → as_act (code_of b) ≡ nested (code_of b)
bind_block b t o e = ap as_act (code_of-parts b) ∙ nested_bind b.stmts t o
    (end (act_of b.last.value)) e ∙ ap nested (sym (code_of-parts b))

-- ---- alternatives

pub onto_pushed : (xs : List (Shape × Code)) (a : Shape × Code) (rest : Arms)
    → prepend_arms (xs ++ a ∷ []) rest ≡ prepend_arms xs (arm a.0 a.1 rest)
onto_pushed [] a rest = refl
onto_pushed (x ∷ xs) a rest = ap (arm x.0 x.1) (onto_pushed xs a rest)

pub onto_none : (xs : List (Shape × Code)) → prepend_arms xs no_arm ≡ arms_of xs
onto_none [] = refl
onto_none (x ∷ xs) = ap (arm x.0 x.1) (onto_none xs)

module _ (p : Program) (base : ℕ) where
  -- ---- applications

  gives_same : (t : ℕ) (v : VarId) (a : Word) (as' : List Word)
      → given_to p base t (leaf (apply (NodeVar v) a)) as' ≡ give_block p base t v a as'
  gives_same t v a [] = refl
  gives_same t v a (b ∷ bs) = ap (bind (to.Node (temp p base t)) (leaf (apply (NodeVar v) a)))
      (gives_same (suc t) (temp p base t) b bs)

  pub applied_same : (t : ℕ) (x : Word) (as' : List Word)
      → given_to p base t (leaf (eval x)) as' ≡ apply_block p base t x as'
  applied_same t x [] = refl
  applied_same t x (a ∷ as') = ap (bind (to.Node (temp p base t)) (leaf (eval x)))
      (gives_same (suc t) (temp p base t) a as')

  -- one more word is given
  pub given_more : (ss pushed : List Stmt) (o o' : Op) (v : VarId) (t : ℕ) (w : Word) (x : core.Var)
      (xs rest : List core.Var) → pushed ≡ ss ++ Bind (to.Node v) o ∷ []
      → act_of o' ≡ leaf (apply (NodeVar v) w) → v ≡ temp p base t → w ≡ word p base x
      → xs ≡ x ∷ rest
      → all_before (map before_of pushed)
      (given_to p base (t + 1) (act_of o') (map (word p base) rest)) ≡ all_before
      (map before_of ss) (given_to p base t (act_of o) (map (word p base) xs))
  given_more ss pushed o o' v t w x xs rest e f g h i =
      let n : t + 1 ≡ suc t = omega arith in
      ap (λ q. all_before (map before_of q)
      (given_to p base (t + 1) (act_of o') (map (word p base) rest))) e
      ∙ all_before_push ss (Bind (to.Node v) o)
      (given_to p base (t + 1) (act_of o') (map (word p base) rest))
      ∙ ap (λ s. all_before (map before_of ss)
      (s (given_to p base (t + 1) (act_of o') (map (word p base) rest))))
      (before_of-Bind (to.Node v) o)
      ∙ (λ z. all_before (map before_of ss)
      (bind (to.Node (g z)) (act_of o)
      (given_to p base (n z) ((f ∙ (λ y. leaf (apply (NodeVar (g y)) (h y)))) z)
      (map (word p base) rest))))
      ∙ ap (λ ys. all_before (map before_of ss)
      (given_to p base t (act_of o) (map (word p base) ys))) (sym i)

  -- ---- primitive operations

  pub primitive_is : (t : ℕ) (op : PrimOp) (a b a' b' : Word) (v i w j k : VarId)
      (inner middle : Code) → a ≡ a' → b ≡ b' → v ≡ temp p base t → i ≡ temp p base (t + 1)
      → w ≡ temp p base (t + 2) → j ≡ temp p base (t + 3) → k ≡ temp p base (t + 4)
      → inner ≡ result_of p op i j k → middle ≡ evaluated_of p b w j inner
      → evaluated_of p a v i middle ≡ prim_block p base t op a' b'
  primitive_is t op a b a' b' v i w j k inner middle ea eb ev ei ew ej ek inn mid =
      ap (evaluated_of p a v i) (mid ∙ ap (evaluated_of p b w j) inn)
      ∙ (λ z. evaluated_of p (ea z) (ev z) (ei z)
      (evaluated_of p (eb z) (ew z) (ej z) (result_of p op (ei z) (ej z) (ek z))))

  -- ---- expressions

  pub let_made : (t : ℕ) (ss pushed : List Stmt) (cells : List Cell) (group : List Bound)
      (inner whole : Term) → pushed ≡ ss ++ Store cells ∷ [] → cells ≡ map (cell_of p base) group
      → whole ≡ normal.Let group inner
      → all_before (map before_of pushed) (block p base t inner) ≡ all_before (map before_of ss)
      (block p base t whole)
  let_made t ss pushed cells group inner whole e f g =
      ap (λ q. all_before (map before_of q) (block p base t inner)) e
      ∙ all_before_push ss (Store cells) (block p base t inner)
      ∙ ap (λ s. all_before (map before_of ss) (s (block p base t inner))) (before_of-Store cells)
      ∙ ap (λ c. all_before (map before_of ss) (store c (block p base t inner))) f
      ∙ ap (λ w. all_before (map before_of ss) (block p base t w)) (sym g)

  pub case_made : (t t1 t2 : ℕ) (v : VarId) (o : Op) (alts : List Alt) (c : Code) (e whole : Term)
      (bs : Branches) (ss pushed : List Stmt) → v ≡ temp p base t → t1 ≡ t + 1
      → c ≡ block p base t1 e → act_of o ≡ as_act c → t2 ≡ t1 + temps e
      → arms_of (map arm_of alts) ≡ arms p base v t2 bs → pushed ≡ ss ++ Bind (to.Node v) o ∷ []
      → whole ≡ normal.Case e bs
      → all_before (map before_of pushed) (end (act_of (Case (NodeVar v) alts))) ≡ all_before
      (map before_of ss) (block p base t whole)
  case_made t t1 t2 v o alts c e whole bs ss pushed ev et ec eo et2 ea ep ew =
      let n1 : t1 ≡ suc t = omega (arith, et) in
      let n2 : t2 ≡ suc t + temps e = omega (arith, et, et2) in
      let act : act_of o ≡ as_act (block p base (suc t) e)
      = eo ∙ ap as_act (ec ∙ ap (λ k. block p base k e) n1) in
      let last : act_of (Case (NodeVar v) alts) ≡ case (NodeVar v)
      (arms p base v (suc t + temps e) bs) = act_of-Case (NodeVar v) alts ∙ ap
      (case (NodeVar v)) (ea ∙ ap (λ k. arms p base v k bs) n2) in
      ap (λ q. all_before (map before_of q) (end (act_of (Case (NodeVar v) alts)))) ep
      ∙ all_before_push ss (Bind (to.Node v) o) (end (act_of (Case (NodeVar v) alts)))
      ∙ ap (λ s. all_before (map before_of ss) (s (end (act_of (Case (NodeVar v) alts)))))
      (before_of-Bind (to.Node v) o)
      ∙ (λ z. all_before (map before_of ss) (bind (to.Node v) (act z) (end (last z))))
      ∙ (λ z. all_before (map before_of ss)
      (bind (to.Node (ev z)) (as_act (block p base (suc t) e))
      (end (case (NodeVar (ev z)) (arms p base (ev z) (suc t + temps e) bs)))))
      ∙ ap (λ w. all_before (map before_of ss) (block p base t w)) (sym ew)

  -- ---- branches

  module _ (t t' : ℕ) (v : VarId) (each : Branch) (a : Alt) (k : Code) where
    pub con_made : (c : ℕ) (fields : List ℕ) (inner : Body) (tg : TagId) (bound : List VarId)
        → each ≡ branch'.Con c fields inner → arm_of a ≡ (shape.Node tg bound, k)
        → tg ≡ tag p (Constructor c) → bound ≡ map (local p base) fields
        → k ≡ block p base t (term inner) → t' ≡ t + temps (term inner) → (rest : Branches)
        → arms p base v t (branch each rest) ≡ arm (arm_of a).0 (arm_of a).1
        (arms p base v t' rest)
    con_made c fields inner tg bound e ea et eb ek en rest =
        ap (λ b. arms p base v t (branch b rest)) e
        ∙ ap (λ f. arms p base v t (f rest)) (branch-Con c fields inner)
        ∙ (λ z. arm (shape.Node (sym et z) (sym eb z)) (sym ek z) (arms p base v (sym en z) rest))
        ∙ (λ z. arm (sym ea z).0 (sym ea z).1 (arms p base v t' rest))

    pub int_made : (i : ℤ) (inner : Body) → each ≡ branch'.Int i inner → arm_of a ≡ (shape.Int i, k)
        → k ≡ block p base t (term inner) → t' ≡ t + temps (term inner)
        → (rest : Branches) → arms p base v t (branch each rest) ≡ arm (arm_of a).0 (arm_of a).1
        (arms p base v t' rest)
    int_made i inner e ea ek en rest =
        ap (λ b. arms p base v t (branch b rest)) e
        ∙ ap (λ f. arms p base v t (f rest)) (branch-Int i inner)
        ∙ (λ z. arm (shape.Int i) (sym ek z) (arms p base v (sym en z) rest))
        ∙ (λ z. arm (sym ea z).0 (sym ea z).1 (arms p base v t' rest))

    pub any_made : (inner : Body) (name : Option ℕ) → each ≡ branch'.Default name inner
        → name ≡ None → arm_of a ≡ (shape.Else, k) → k ≡ block p base t (term inner)
        → (rest : Branches) → arms p base v t (branch each rest) ≡ arm (arm_of a).0 (arm_of a).1
        no_arm
    any_made inner name e en ea ek rest =
        ap (λ b. arms p base v t (branch b rest)) (e ∙ ap (λ n. branch'.Default n inner) en)
        ∙ ap (λ f. arms p base v t (f rest)) (branch-Default None inner)
        ∙ (λ z. arm shape.Else (sym ek z) no_arm)
        ∙ (λ z. arm (sym ea z).0 (sym ea z).1 no_arm)

    pub name_made : (inner : Body) (name : Option ℕ) (x : ℕ) → each ≡ branch'.Default name inner
        → name ≡ Some x → arm_of a ≡ (shape.Else, k)
        → k ≡ store (cell_of_local base x (NodeVar v) ∷ []) (block p base t (term inner))
        → (rest : Branches) → arms p base v t (branch each rest) ≡ arm (arm_of a).0 (arm_of a).1
        no_arm
    name_made inner name x e en ea ek rest =
        ap (λ b. arms p base v t (branch b rest)) (e ∙ ap (λ n. branch'.Default n inner) en)
        ∙ ap (λ f. arms p base v t (f rest)) (branch-Default (Some x) inner)
        ∙ (λ z. arm shape.Else (sym ek z) no_arm)
        ∙ (λ z. arm (sym ea z).0 (sym ea z).1 no_arm)

  abbrev pub Rest : VarId → ℕ → List Branch → ℕ → Arms
  Rest v t bs i = arms p base v t (branches_of (map branch (drop i bs)))

  -- what is made of the alternatives so far and of one more
  one_more : (alts pushed : List Alt) (a : Alt) (rest : Arms) → pushed ≡ alts ++ a ∷ []
      → prepend_arms (map arm_of pushed) rest ≡ prepend_arms (map arm_of alts)
      (arm (arm_of a).0 (arm_of a).1 rest)
  one_more alts pushed a rest e = ap (λ as'. prepend_arms (map arm_of as') rest) e ∙ ap
      (λ xs. prepend_arms xs rest) (map-append arm_of alts (a ∷ [])) ∙ onto_pushed (map arm_of alts)
      (arm_of a) rest

  module _ (alts pushed : List Alt) (a : Alt) (bs : List Branch) (i : ℕ) (b : Branch) (last : Bool)
      (t t' : ℕ) (v : VarId) (whole : Arms) where
    pub last_made : pushed ≡ alts ++ a ∷ [] → drop i bs ≡ b ∷ drop (i + 1) bs
        → ((rest : Branches) → arms p base v t (branch b rest) ≡ arm (arm_of a).0 (arm_of a).1
        (cond last no_arm (arms p base v t' rest))) → last ≡ true
        → prepend_arms (map arm_of alts) (Rest v t bs i) ≡ whole
        → arms_of (map arm_of pushed) ≡ whole
    last_made e d h l w =
        sym (onto_none (map arm_of pushed)) ∙ one_more alts pushed a no_arm e
        ∙ ap (λ r. prepend_arms (map arm_of alts) (arm (arm_of a).0 (arm_of a).1 r))
        (sym (ap (λ c. cond c no_arm (Rest v t' bs (i + 1))) l))
        ∙ ap (prepend_arms (map arm_of alts)) (sym (h (branches_of (map branch (drop (i + 1) bs)))))
        ∙ ap (λ xs. prepend_arms (map arm_of alts) (arms p base v t (branches_of (map branch xs))))
        (sym d)
        ∙ w

    pub more_made : pushed ≡ alts ++ a ∷ [] → drop i bs ≡ b ∷ drop (i + 1) bs
        → ((rest : Branches) → arms p base v t (branch b rest) ≡ arm (arm_of a).0 (arm_of a).1
        (cond last no_arm (arms p base v t' rest))) → last ≡ false
        → prepend_arms (map arm_of alts) (Rest v t bs i) ≡ whole
        → prepend_arms (map arm_of pushed) (Rest v t' bs (i + 1)) ≡ whole
    more_made e d h l w =
        one_more alts pushed a (Rest v t' bs (i + 1)) e
        ∙ ap (λ r. prepend_arms (map arm_of alts) (arm (arm_of a).0 (arm_of a).1 r))
        (sym (ap (λ c. cond c no_arm (Rest v t' bs (i + 1))) l))
        ∙ ap (prepend_arms (map arm_of alts)) (sym (h (branches_of (map branch (drop (i + 1) bs)))))
        ∙ ap (λ xs. prepend_arms (map arm_of alts) (arms p base v t (branches_of (map branch xs))))
        (sym d)
        ∙ w

    pub more_temps : drop i bs ≡ b ∷ drop (i + 1) bs
        → ((rest : Branches) → t + branch_temps (branch b rest) ≡ t' + cond last 0
        (branch_temps rest)) → last ≡ false
        → t' + branch_temps (branches_of (map branch (drop (i + 1) bs))) ≡ t + branch_temps
        (branches_of (map branch (drop i bs)))
    more_temps d h l =
        ap (λ c. t' + cond c 0 (branch_temps (branches_of (map branch (drop (i + 1) bs))))) (sym l)
        ∙ sym (h (branches_of (map branch (drop (i + 1) bs))))
        ∙ ap (λ xs. t + branch_temps (branches_of (map branch xs))) (sym d)

    pub last_temps : drop i bs ≡ b ∷ drop (i + 1) bs
        → ((rest : Branches) → t + branch_temps (branch b rest) ≡ t' + cond last 0
        (branch_temps rest)) → last ≡ true
        → t' ≡ t + branch_temps (branches_of (map branch (drop i bs)))
    last_temps d h l =
        let z : t' ≡ t' + 0 = omega arith in
        z ∙ ap (λ c. t' + cond c 0 (branch_temps (branches_of (map branch (drop (i + 1) bs)))))
        (sym l)
        ∙ sym (h (branches_of (map branch (drop (i + 1) bs))))
        ∙ ap (λ xs. t + branch_temps (branches_of (map branch xs))) (sym d)

  pub all_made : (alts pushed : List Alt) (a : Alt) (bs : List Branch) (i t : ℕ) (v : VarId)
      (whole : Arms) → pushed ≡ alts ++ a ∷ [] → length bs ≤ i
      → arm_of a ≡ (shape.Else, end (leaf fail))
      → prepend_arms (map arm_of alts) (Rest v t bs i) ≡ whole → arms_of (map arm_of pushed) ≡ whole
  all_made alts pushed a bs i t v whole e le f w =
      sym (onto_none (map arm_of pushed)) ∙ one_more alts pushed a no_arm e
      ∙ (λ z. prepend_arms (map arm_of alts) (arm (f z).0 (f z).1 no_arm))
      ∙ ap (λ xs. prepend_arms (map arm_of alts) (arms p base v t (branches_of (map branch xs))))
      (sym (drop_past bs i le))
      ∙ w
