-- The text of a vectorised program.
use Rattle.std.proofs.Common.{◌≡◌, ℕ, suc, ◌+◌, ◌≤◌, Bool, true, false, List, [], ◌∷◌, ◌++◌, map, length, refl, ap, ◌∙◌, arith}
use Rattle.seq.proofs.Lists.{length_map}
use Rattle.grin_syntax.specs.declared.program.Cell.{Cell}
use Rattle.grin_syntax.specs.declared.program.Target.{Target}
use Rattle.grin_syntax.specs.declared.program.Target.TheVariants as to
use Rattle.grin_syntax.specs.declared.program.Shape.{Shape}
use Rattle.grin_syntax.specs.declared.program.Shape.TheVariants as shape
use Rattle.grin_syntax.specs.declared.program.Word.TheVariants.{Var}
use Rattle.grin_syntax.specs.declared.program.Val as V
use Rattle.grin_syntax.specs.declared.program.Val.TheVariants.{NodeVar, Node, Vector, One}
use Rattle.grin_syntax.specs.Tree.{Code, end, store, bind, Act, leaf, unit, fetch, fetch_word, update, eval, apply, call, prim, read, write, case, nested, fail, Arms, no_arm, arm, Procedure}
use Rattle.grin_syntax.specs.Binders.{shape_vars, code_sites, act_sites, arms_sites, procs_sites}
use Rattle.grin_syntax.specs.Formed.{AllOf}
use Rattle.grin_syntax.specs.Fresh.{variables}
use Rattle.grin_syntax.specs.SameOutside.{names_of}
use Rattle.grin_meaning.specs.Checks.{is_fetch}
use Rattle.grin_meaning.specs.Ready.{NoNodeTarget, NoNodeVar, EachAct, EachCode, EachArms, val_width, NarrowAct, NarrowCode, NarrowArms, any_kind, EveryBodyIsOfKind, inlined_kind, vectorised_kind}
use Rattle.grin_meaning.specs.Rewritten.{rewritten_procedure}
use Rattle.grin_meaning.specs.Slim.{val_weight, target_weight, cells_weight, act_weight, code_weight, arms_weight, procs_weight, act_calls, code_calls, arms_calls, procs_calls, node_words, end_words, inner_words, code_words, arms_words}
use Rattle.vectorise.specs.Known.{Layout, Table, vector_start, room, field_capacity_of, as_words, vector_words}
use Rattle.vectorise.specs.Vectors.{wide_val, returned_val, wide_target, without_binders, wide_cells, wide_act, wide_code, wide_arms}
use Rattle.vectorise.specs.Widened.{Width, ActWidths, CodeWidths, ArmsWidths, Widths, ProcedureWordsDoNotGrow}
use Rattle.grin_syntax.proofs.Counted.{length_variables}

module _ (l : Layout) (k : Table) where
  -- ---- nothing but vectors

  val_gone : (v : V.Val) → NoNodeVar (wide_val l k v)
  val_gone (NodeVar x) = tt
  val_gone (Node t ws) = tt
  val_gone (Vector ws) = tt
  val_gone (One w) = tt

  given_gone : (v : V.Val) → NoNodeVar (returned_val l k v)
  given_gone (NodeVar x) = tt
  given_gone (Node t ws) = tt
  given_gone (Vector ws) = tt
  given_gone (One w) = tt

  target_gone : (f : Bool) (t : Target) → NoNodeTarget (wide_target l f t)
  target_gone f to.Nothing = tt
  target_gone f (to.Node x) = tt
  target_gone f (to.One x) = tt
  target_gone f (to.Vector xs) = tt

  pub bare_vars : (s : Shape) → shape_vars (without_binders s) ≡ []
  bare_vars (shape.Node t xs) = refl
  bare_vars (shape.Int i) = refl
  bare_vars shape.Else = refl

  cells_gone : (cs : List Cell) → AllOf (λ c. NoNodeVar c.val) (wide_cells l k cs)
  cells_gone [] = tt
  cells_gone (c ∷ cs) = (val_gone c.val, cells_gone cs)

  mutual
    unfolding wide_act EachAct

    act_gone : (o : Act) → EachAct vectorised_kind (wide_act l k o)
    act_gone (case v as') = (tt, val_gone v, arms_gone as')
    act_gone (nested b) = (tt, code_gone b)
    act_gone (leaf (unit v)) = (tt, given_gone v)
    act_gone (leaf (fetch a)) = tt
    act_gone (leaf (fetch_word a i)) = tt
    act_gone (leaf (update a v)) = (tt, val_gone v)
    act_gone (leaf (eval a)) = tt
    act_gone (leaf (apply v a)) = (tt, val_gone v)
    act_gone (leaf (call f ws)) = tt
    act_gone (leaf (prim f a b)) = tt
    act_gone (leaf read) = tt
    act_gone (leaf (write a)) = tt
    act_gone (leaf fail) = tt

    code_gone : (b : Code) → EachCode vectorised_kind (wide_code l k b)
    code_gone (end o) = act_gone o
    code_gone (store cs b) = (cells_gone cs, code_gone b)
    code_gone (bind t o b) = (target_gone (is_fetch o) t, act_gone o, code_gone b)

    arms_gone : (as' : Arms) → EachArms vectorised_kind (wide_arms l k as')
    arms_gone no_arm = tt
    arms_gone (arm s b as') = (bare_vars s, code_gone b, arms_gone as')

  pub procs_gone : (qs : List Procedure) → EveryBodyIsOfKind vectorised_kind
      (map (rewritten_procedure (wide_code l k)) qs)
  procs_gone [] = tt
  procs_gone (q ∷ qs) = (code_gone q.body, procs_gone qs)

  -- ---- no eval and no apply

  any_val : (v : V.Val) → any_kind.value v
  any_val v = tt

  any_cells : (cs : List Cell) → AllOf (λ c. any_kind.value c.val) (wide_cells l k cs)
  any_cells [] = tt
  any_cells (c ∷ cs) = (tt, any_cells cs)

  mutual
    unfolding wide_act EachAct

    act_inlined : (o : Act) → EachAct inlined_kind o → EachAct inlined_kind (wide_act l k o)
    act_inlined (case v as') h = (tt, tt, arms_inlined as' h.2)
    act_inlined (nested b) h = (tt, code_inlined b h.1)
    act_inlined (leaf (unit v)) h = (tt, tt)
    act_inlined (leaf (fetch a)) h = tt
    act_inlined (leaf (fetch_word a i)) h = tt
    act_inlined (leaf (update a v)) h = (tt, tt)
    act_inlined (leaf (eval a)) h = absurd h
    act_inlined (leaf (apply v a)) h = absurd h.0
    act_inlined (leaf (call f ws)) h = tt
    act_inlined (leaf (prim f a b)) h = tt
    act_inlined (leaf read) h = tt
    act_inlined (leaf (write a)) h = tt
    act_inlined (leaf fail) h = tt

    code_inlined : (b : Code) → EachCode inlined_kind b → EachCode inlined_kind (wide_code l k b)
    code_inlined (end o) h = act_inlined o h
    code_inlined (store cs b) h = (any_cells cs, code_inlined b h.1)
    code_inlined (bind t o b) h = (tt, act_inlined o h.1, code_inlined b h.2)

    arms_inlined : (as' : Arms) → EachArms inlined_kind as'
        → EachArms inlined_kind (wide_arms l k as')
    arms_inlined no_arm h = tt
    arms_inlined (arm s b as') h = (tt, code_inlined b h.1, arms_inlined as' h.2)

  pub procs_inlined : (qs : List Procedure) → EveryBodyIsOfKind inlined_kind qs
      → EveryBodyIsOfKind inlined_kind (map (rewritten_procedure (wide_code l k)) qs)
  procs_inlined [] h = tt
  procs_inlined (q ∷ qs) h = (code_inlined q.body h.0, procs_inlined qs h.1)

  -- ---- few results

  given_narrow : (v : V.Val) → val_width (1 + l.most_value) (returned_val l k v) ≤ val_width
      (1 + l.most_value) v
  given_narrow (NodeVar x) = let h : length (vector_words l x (suc l.most_value)) ≡ suc l.most_value
      = length_map Var (variables (vector_start l x.0) (suc l.most_value)) ∙ length_variables
      (vector_start l x.0) (suc l.most_value) in omega (arith, h)
  given_narrow (Node t ws) = omega arith
  given_narrow (Vector ws) = let h : length (as_words k ws) ≡ length ws = length_map _ ws
      in omega (arith, h)
  given_narrow (One w) = omega arith

  mutual
    unfolding wide_act NarrowAct

    act_narrow : (most : ℕ) (o : Act) → NarrowAct (1 + l.most_value) most o
        → NarrowAct (1 + l.most_value) most (wide_act l k o)
    act_narrow most (case v as') h = arms_narrow most as' h
    act_narrow most (nested b) h = code_narrow most b h
    act_narrow most (leaf (unit v)) h = let n : val_width (1 + l.most_value) (returned_val l k v) ≤
        val_width (1 + l.most_value) v = given_narrow v in omega (arith, h, n)
    act_narrow most (leaf (fetch a)) h = h
    act_narrow most (leaf (fetch_word a i)) h = tt
    act_narrow most (leaf (update a v)) h = tt
    act_narrow most (leaf (eval a)) h = tt
    act_narrow most (leaf (apply v a)) h = tt
    act_narrow most (leaf (call f ws)) h = tt
    act_narrow most (leaf (prim f a b)) h = tt
    act_narrow most (leaf read) h = tt
    act_narrow most (leaf (write a)) h = tt
    act_narrow most (leaf fail) h = tt

    code_narrow : (most : ℕ) (b : Code) → NarrowCode (1 + l.most_value) most b
        → NarrowCode (1 + l.most_value) most (wide_code l k b)
    code_narrow most (end o) h = act_narrow most o h
    code_narrow most (store cs b) h = code_narrow most b h
    code_narrow most (bind t o b) h = code_narrow most b h

    arms_narrow : (most : ℕ) (as' : Arms) → NarrowArms (1 + l.most_value) most as'
        → NarrowArms (1 + l.most_value) most (wide_arms l k as')
    arms_narrow most no_arm h = tt
    arms_narrow most (arm s b as') h = (code_narrow most b h.0, arms_narrow most as' h.1)

  pub procs_narrow : (most : ℕ) (qs : List Procedure)
      → AllOf (λ q. NarrowCode (1 + l.most_value) most q.body) qs
      → AllOf (λ q. NarrowCode (1 + l.most_value) most q.body)
      (map (rewritten_procedure (wide_code l k)) qs)
  procs_narrow most [] h = tt
  procs_narrow most (q ∷ qs) h = (code_narrow most q.body h.0, procs_narrow most qs h.1)

  pub procs_params : (most : ℕ) (qs : List Procedure) → AllOf (λ q. length q.params ≤ most) qs
      → AllOf (λ q. length q.params ≤ most) (map (rewritten_procedure (wide_code l k)) qs)
  procs_params most [] h = tt
  procs_params most (q ∷ qs) h = (h.0, procs_params most qs h.1)

  -- ---- sites and names

  cell_sites : (cs : List Cell) → map (λ c. c.site.0) (wide_cells l k cs) ≡ map (λ c. c.site.0) cs
  cell_sites [] = refl
  cell_sites (c ∷ cs) = ap (λ ss. c.site.0 ∷ ss) (cell_sites cs)

  mutual
    unfolding wide_act act_sites

    act_sites_stay : (o : Act) → act_sites (wide_act l k o) ≡ act_sites o
    act_sites_stay (case v as') = arms_sites_stay as'
    act_sites_stay (nested b) = code_sites_stay b
    act_sites_stay (leaf l) = refl

    code_sites_stay : (b : Code) → code_sites (wide_code l k b) ≡ code_sites b
    code_sites_stay (end o) = act_sites_stay o
    code_sites_stay (store cs b) = λ i. cell_sites cs i ++ code_sites_stay b i
    code_sites_stay (bind t o b) = λ i. act_sites_stay o i ++ code_sites_stay b i

    arms_sites_stay : (as' : Arms) → arms_sites (wide_arms l k as') ≡ arms_sites as'
    arms_sites_stay no_arm = refl
    arms_sites_stay (arm s b as') = λ i. code_sites_stay b i ++ arms_sites_stay as' i

  pub sites_stay : (qs : List Procedure) → procs_sites
      (map (rewritten_procedure (wide_code l k)) qs) ≡ procs_sites qs
  sites_stay [] = refl
  sites_stay (q ∷ qs) = λ i. code_sites_stay q.body i ++ sites_stay qs i

  pub names_stay : (qs : List Procedure) → names_of (map (rewritten_procedure (wide_code l k)) qs) ≡
      names_of qs
  names_stay [] = refl
  names_stay (q ∷ qs) = ap (λ ns. q.name ∷ ns) (names_stay qs)

  -- ---- widths

  target_width : (f : Bool) (t : Target) → Width l.most l.most_value f t (wide_target l f t)
  target_width f to.Nothing = refl
  target_width true (to.Node x) = (
    variables (vector_start l x.0) (suc l.most),
    refl,
    length_variables (vector_start l x.0) (suc l.most),
  )
  target_width false (to.Node x) = (
    variables (vector_start l x.0) (suc l.most_value),
    refl,
    length_variables (vector_start l x.0) (suc l.most_value),
  )
  target_width f (to.One x) = refl
  target_width f (to.Vector xs) = refl

  mutual
    unfolding wide_act ActWidths

    act_widths : (o : Act) → ActWidths l.most l.most_value o (wide_act l k o)
    act_widths (case v as') = arms_widths as'
    act_widths (nested b) = code_widths b
    act_widths (leaf l) = tt

    code_widths : (b : Code) → CodeWidths l.most l.most_value b (wide_code l k b)
    code_widths (end o) = act_widths o
    code_widths (store cs b) = code_widths b
    code_widths (bind t o b) = (target_width (is_fetch o) t, act_widths o, code_widths b)

    arms_widths : (as' : Arms) → ArmsWidths l.most l.most_value as' (wide_arms l k as')
    arms_widths no_arm = tt
    arms_widths (arm s b as') = (code_widths b, arms_widths as')

  pub procs_widths : (qs : List Procedure) → Widths l.most l.most_value qs
      (map (rewritten_procedure (wide_code l k)) qs)
  procs_widths [] = tt
  procs_widths (q ∷ qs) = (code_widths q.body, procs_widths qs)

  -- ---- weight, calls and words

  module _ (few : l.most_value ≤ l.most) (short : l.most ≤ 13) where
    room_short : (f : Bool) → suc (room l f) ≤ 14
    room_short true = omega (arith, short)
    room_short false = omega (arith, few, short)

    val_light : (v : V.Val) → val_weight (wide_val l k v) ≤ val_weight v
    val_light (NodeVar x) =
        let h : length (vector_words l x (suc (field_capacity_of l k x))) ≡ suc
        (field_capacity_of l k x) = length_map Var
        (variables (vector_start l x.0) (suc (field_capacity_of l k x))) ∙ length_variables
        (vector_start l x.0) (suc (field_capacity_of l k x)) in
        let r : suc (field_capacity_of l k x) ≤ 14 = room_short _ in
        omega (arith, h, r)
    val_light (Node t ws) = omega arith
    val_light (Vector ws) = let h : length (as_words k ws) ≡ length ws = length_map _ ws
        in omega (arith, h)
    val_light (One w) = omega arith

    given_light : (v : V.Val) → val_weight (returned_val l k v) ≤ val_weight v
    given_light (NodeVar x) = let h : length (vector_words l x (suc l.most_value)) ≡ suc
        l.most_value = length_map Var (variables (vector_start l x.0) (suc l.most_value)) ∙
        length_variables (vector_start l x.0) (suc l.most_value) in omega (arith, h, few, short)
    given_light (Node t ws) = val_light (Node t ws)
    given_light (Vector ws) = val_light (Vector ws)
    given_light (One w) = val_light (One w)

    target_light : (f : Bool) (t : Target) → target_weight (wide_target l f t) ≤ target_weight t
    target_light f to.Nothing = omega arith
    target_light f (to.Node x) = let h : length (variables (vector_start l x.0) (suc (room l f))) ≡
        suc (room l f) = length_variables (vector_start l x.0) (suc (room l f)) in let r
        : suc (room l f) ≤ 14 = room_short f in omega (arith, h, r)
    target_light f (to.One x) = omega arith
    target_light f (to.Vector xs) = omega arith

    cells_light : (cs : List Cell) → cells_weight (wide_cells l k cs) ≤ cells_weight cs
    cells_light [] = omega arith
    cells_light (c ∷ cs) = let h : val_weight (wide_val l k c.val) ≤ val_weight c.val
        = val_light c.val in let r : cells_weight (wide_cells l k cs) ≤ cells_weight cs
        = cells_light cs in omega (arith, h, r)

    mutual
      unfolding wide_act act_weight

      act_light : (o : Act) → act_weight (wide_act l k o) ≤ act_weight o
      act_light (case v as') = let h : val_weight (wide_val l k v) ≤ val_weight v = val_light v
          in let r : arms_weight (wide_arms l k as') ≤ arms_weight as' = arms_light as'
          in omega (arith, h, r)
      act_light (nested b) = let r : code_weight (wide_code l k b) ≤ code_weight b = code_light b
          in omega (arith, r)
      act_light (leaf (unit v)) = let h : val_weight (returned_val l k v) ≤ val_weight v
          = given_light v in omega (arith, h)
      act_light (leaf (fetch a)) = omega arith
      act_light (leaf (fetch_word a i)) = omega arith
      act_light (leaf (update a v)) = let h : val_weight (wide_val l k v) ≤ val_weight v
          = val_light v in omega (arith, h)
      act_light (leaf (eval a)) = omega arith
      act_light (leaf (apply v a)) = let h : val_weight (wide_val l k v) ≤ val_weight v
          = val_light v in omega (arith, h)
      act_light (leaf (call f ws)) = let h : length (as_words k ws) ≡ length ws = length_map _ ws
          in omega (arith, h)
      act_light (leaf (prim f a b)) = omega arith
      act_light (leaf read) = omega arith
      act_light (leaf (write a)) = omega arith
      act_light (leaf fail) = omega arith

      code_light : (b : Code) → code_weight (wide_code l k b) ≤ code_weight b
      code_light (end o) = act_light o
      code_light (store cs b) = let h : cells_weight (wide_cells l k cs) ≤ cells_weight cs
          = cells_light cs in let r : code_weight (wide_code l k b) ≤ code_weight b = code_light b
          in omega (arith, h, r)
      code_light (bind t o b) =
          let h : target_weight (wide_target l (is_fetch o) t) ≤ target_weight t
          = target_light (is_fetch o) t in
          let q : act_weight (wide_act l k o) ≤ act_weight o = act_light o in
          let r : code_weight (wide_code l k b) ≤ code_weight b = code_light b in
          omega (arith, h, q, r)

      arms_light : (as' : Arms) → arms_weight (wide_arms l k as') ≤ arms_weight as'
      arms_light no_arm = omega arith
      arms_light (arm s b as') =
          let h : length (shape_vars (without_binders s)) ≡ 0 = ap length (bare_vars s) in
          let q : code_weight (wide_code l k b) ≤ code_weight b = code_light b in
          let r : arms_weight (wide_arms l k as') ≤ arms_weight as' = arms_light as' in
          omega (arith, h, q, r)

    pub procs_light : (qs : List Procedure) → procs_weight
        (map (rewritten_procedure (wide_code l k)) qs) ≤ procs_weight qs
    procs_light [] = omega arith
    procs_light (q ∷ qs) = let h : code_weight (wide_code l k q.body) ≤ code_weight q.body
        = code_light q.body in let r : procs_weight (map (rewritten_procedure (wide_code l k)) qs) ≤
        procs_weight qs = procs_light qs in omega (arith, h, r)

    mutual
      unfolding wide_act act_calls

      calls_in_act : (o : Act) → act_calls (wide_act l k o) ≡ act_calls o
      calls_in_act (case v as') = calls_in_arms as'
      calls_in_act (nested b) = calls_in_code b
      calls_in_act (leaf (unit v)) = refl
      calls_in_act (leaf (fetch a)) = refl
      calls_in_act (leaf (fetch_word a i)) = refl
      calls_in_act (leaf (update a v)) = refl
      calls_in_act (leaf (eval a)) = refl
      calls_in_act (leaf (apply v a)) = refl
      calls_in_act (leaf (call f ws)) = refl
      calls_in_act (leaf (prim f a b)) = refl
      calls_in_act (leaf read) = refl
      calls_in_act (leaf (write a)) = refl
      calls_in_act (leaf fail) = refl

      calls_in_code : (b : Code) → code_calls (wide_code l k b) ≡ code_calls b
      calls_in_code (end o) = calls_in_act o
      calls_in_code (store cs b) = calls_in_code b
      calls_in_code (bind t o b) = λ i. calls_in_act o i + calls_in_code b i

      calls_in_arms : (as' : Arms) → arms_calls (wide_arms l k as') ≡ arms_calls as'
      calls_in_arms no_arm = refl
      calls_in_arms (arm s b as') = λ i. calls_in_code b i + calls_in_arms as' i

    pub procs_calls_stay : (qs : List Procedure) → procs_calls
        (map (rewritten_procedure (wide_code l k)) qs) ≡ procs_calls qs
    procs_calls_stay [] = refl
    procs_calls_stay (q ∷ qs) = λ i. calls_in_code q.body i + procs_calls_stay qs i

    nodes_stay : (o : Act) → node_words (wide_act l k o) ≡ node_words o
    unfolding wide_act
    nodes_stay (case v as') = refl
    nodes_stay (nested b) = refl
    nodes_stay (leaf (unit v)) = refl
    nodes_stay (leaf (fetch a)) = refl
    nodes_stay (leaf (fetch_word a i)) = refl
    nodes_stay (leaf (update a v)) = refl
    nodes_stay (leaf (eval a)) = refl
    nodes_stay (leaf (apply v a)) = refl
    nodes_stay (leaf (call f ws)) = refl
    nodes_stay (leaf (prim f a b)) = refl
    nodes_stay (leaf read) = refl
    nodes_stay (leaf (write a)) = refl
    nodes_stay (leaf fail) = refl

    ends_stay : (o : Act) → end_words (wide_act l k o) ≡ end_words o
    unfolding wide_act
    ends_stay (case v as') = refl
    ends_stay (nested b) = refl
    ends_stay (leaf (unit v)) = refl
    ends_stay (leaf (fetch a)) = refl
    ends_stay (leaf (fetch_word a i)) = refl
    ends_stay (leaf (update a v)) = refl
    ends_stay (leaf (eval a)) = refl
    ends_stay (leaf (apply v a)) = refl
    ends_stay (leaf (call f ws)) = refl
    ends_stay (leaf (prim f a b)) = refl
    ends_stay (leaf read) = refl
    ends_stay (leaf (write a)) = refl
    ends_stay (leaf fail) = refl

    mutual
      unfolding wide_act inner_words

      words_in_act : (o : Act) → inner_words (wide_act l k o) ≤ inner_words o
      words_in_act (case v as') = words_in_arms as'
      words_in_act (nested b) = words_in_code b
      words_in_act (leaf l) = omega arith

      words_in_code : (b : Code) → code_words (wide_code l k b) ≤ code_words b
      words_in_code (end o) = let e : end_words (wide_act l k o) ≡ end_words o = ends_stay o
          in let h : inner_words (wide_act l k o) ≤ inner_words o = words_in_act o
          in omega (arith, e, h)
      words_in_code (store cs b) = let e : length (wide_cells l k cs) ≡ length cs = length_map _ cs
          in let h : code_words (wide_code l k b) ≤ code_words b = words_in_code b
          in omega (arith, e, h)
      words_in_code (bind t o b) =
          let h : target_weight (wide_target l (is_fetch o) t) ≤ target_weight t
          = target_light (is_fetch o) t in
          let e : node_words (wide_act l k o) ≡ node_words o = nodes_stay o in
          let q : inner_words (wide_act l k o) ≤ inner_words o = words_in_act o in
          let r : code_words (wide_code l k b) ≤ code_words b = words_in_code b in
          omega (arith, h, e, q, r)

      words_in_arms : (as' : Arms) → arms_words (wide_arms l k as') ≤ arms_words as'
      words_in_arms no_arm = omega arith
      words_in_arms (arm s b as') =
          let h : length (shape_vars (without_binders s)) ≡ 0 = ap length (bare_vars s) in
          let q : code_words (wide_code l k b) ≤ code_words b = words_in_code b in
          let r : arms_words (wide_arms l k as') ≤ arms_words as' = words_in_arms as' in
          omega (arith, h, q, r)

    pub procs_few_words : (qs : List Procedure) → ProcedureWordsDoNotGrow qs
        (map (rewritten_procedure (wide_code l k)) qs)
    procs_few_words [] = tt
    procs_few_words (q ∷ qs) = (
      let h : code_words (wide_code l k q.body) ≤ code_words q.body = words_in_code q.body
          in omega (arith, h),
      procs_few_words qs,
    )
