-- A case over the functions that an application meets does what the application does.
use Rattle.std.proofs.Common.{◌≡◌, ℕ, zero, suc, ◌<◌, ◌≤◌, Bool, true, false, cond, not, ◌&&◌, List, [], ◌∷◌, ◌++◌, map, length, Option, Some, None, slice_get, refl, sym, ap, ◌∙◌, subst, arith}
use Rattle.std.proofs.lemmas.Option.{slice_get_within}
use Rattle.seq.proofs.Member.{none_in}
use Rattle.seq.proofs.Truth.{and_right, and_from}
use Rattle.grin_syntax.specs.declared.program.ProcId.{ProcId}
use Rattle.grin_syntax.specs.declared.program.Tag.{Tag}
use Rattle.grin_syntax.specs.declared.program.Val.{Val}
use Rattle.grin_syntax.specs.declared.program.Word.{Word}
use Rattle.grin_syntax.specs.declared.program.Word.TheVariants.{Var}
use Rattle.grin_syntax.specs.Tree.{leaf, apply, case, Arms, Procedure, Program}
use Rattle.grin_syntax.specs.Formed.{AllOf}
use Rattle.grin_syntax.specs.Fresh.{variables as names}
use Rattle.grin_meaning.specs.Values.{Datum, Node, Value, node, Env, State, World, gives, no_alternative, stops, need, and_then, with_vars, made_node, as_node, word_of, words_of, value_of}
use Rattle.grin_meaning.specs.Run.{Calls, act, code, arms, is_part_kind, is_some_and, part_from, apply_node, apply_part}
use Rattle.grin_meaning.specs.Follows.{DepthComparison, other, same, free, gives_too, stops_too}
use Rattle.grin_meaning.specs.Names.{WordOk, ValOk}
use Rattle.grin_meaning.proofs.Back.{CallsBack}
use Rattle.grin_meaning.proofs.Alike.{Agree, word_same, value_same, Sim, same_args, same_result, ActLike}
use Rattle.grin_meaning.proofs.Related.{CallsFollow}
use Rattle.flow_system.specs.Solution.{Solution}
use Rattle.flow_system.specs.Covers.{StateIsCovered}
use Rattle.grin_rewrite.proofs.Opened.{names_stand, agree_named, Entered, entered, passed}
use Rattle.inline_theory.specs.Applications.{value_has, is_part_tag, apply_body, part_body, apply_opening, apply_arms, part_tags_of, others_of, else_fail}
use Rattle.inline_theory.proofs.EvaluationsKeep.{it}
use Rattle.inline_theory.proofs.ValueTags.{Had, value_had}
use Rattle.seq.specs.Lists.{those, In}
use Rattle.grin_meaning.proofs.Bindings.{named}
use Rattle.seq.proofs.Those.{those_have}

pub those_parts : (p : Program) (A : Solution) (test : ℕ → Bool) (i k : ℕ)
    → AllOf (λ t. is_part_tag p A t ≡ true) (those (λ t. test t && is_part_tag p A t) i k)
those_parts p A test i zero = tt
those_parts p A test i (suc k) = on (test i && is_part_tag p A i) refl
    (those_parts p A test (suc i) k)
  where
    on : (b : Bool) → (test i && is_part_tag p A i) ≡ b
        → AllOf (λ t. is_part_tag p A t ≡ true) (those (λ t. test t && is_part_tag p A t) (suc i) k)
        → AllOf (λ t. is_part_tag p A t ≡ true)
        (cond b (i ∷ those (λ t. test t && is_part_tag p A t) (suc i) k)
        (those (λ t. test t && is_part_tag p A t) (suc i) k))
    on true e l = (and_right (test i) (is_part_tag p A i) e, l)
    on false e l = l

words_more : (p : Program) (env : Env) (ws : List Word) (a : Word) (ds : List Datum) (d : Datum)
    → words_of p env ws ≡ Some ds → word_of p env a ≡ Some d
    → words_of p env (ws ++ a ∷ []) ≡ Some (ds ++ d ∷ [])
words_more p env [] a ds d e f = let none : ds ≡ [] = cc in rw (f, none) refl
words_more p env (w ∷ ws) a ds d e f = go (word_of p env w) refl (words_of p env ws) refl
    (λ bs r. words_more p env ws a bs d r f)
  where
    go : (o : Option Datum) → word_of p env w ≡ o → (q : Option (List Datum))
        → words_of p env ws ≡ q →
        ((bs : List Datum) → words_of p env ws ≡ Some bs
        → words_of p env (ws ++ a ∷ []) ≡ Some (bs ++ d ∷ []))
        → words_of p env ((w ∷ ws) ++ a ∷ []) ≡ Some (ds ++ d ∷ [])
    go None g q r m = let h : None ≡ Some ds =
        (λ i. and_then (sym g i) (λ b. and_then (words_of p env ws) (λ bs. Some (b ∷ bs)))) ∙ e
        in cc
    go (Some b) g None r m = let h : None ≡ Some ds
        = (λ i. and_then (sym g i) (λ b. and_then (sym r i) (λ bs. Some (b ∷ bs)))) ∙ e in cc
    go (Some b) g (Some bs) r m = let h : Some (b ∷ bs) ≡ Some ds
        = (λ i. and_then (sym g i) (λ b. and_then (sym r i) (λ bs. Some (b ∷ bs)))) ∙ e in
        let s : b ∷ bs ≡ ds = cc in
        (λ i. and_then (g i) (λ b. and_then (m bs r i) (λ bs. Some (b ∷ bs)))) ∙ ap
        (λ l. Some (l ++ d ∷ [])) s

module _ (K : DepthComparison) (g : Program) (A : Solution) (x0 : ℕ) (procs : List Procedure)
    (c c' : Calls) (cb : CallsBack (StateIsCovered g A) c)
    (cf : CallsFollow (StateIsCovered g A) K same_args same_result c c') where
  abbrev P : State → Type 0
  P = StateIsCovered g A

  abbrev Ok : ℕ → Type 0
  Ok y = y < x0

  abbrev h : Program
  h = record g { procs = procs }

  -- the new node, made
  made_sim : (o : Option Node) (w : World) (ss : List State) (e : ℕ) → K.Deep e w.depth
      → Sim P K (need o w (λ m. gives (node m) w))
      (need (and_then o (λ n. Some (node n))) (other w ss e) (λ v. gives v (other w ss e)))
  made_sim None w ss e de = λ _. free
  made_sim (Some n) w ss e de = λ _. gives_too ss e same de

  -- the body of the function's alternative
  body_sim : (a : Word) (y : ℕ) (n : Node) (x : Datum) (f r : ℕ) (env' : Env) (d d' : ℕ) (w : World)
      (ss : List State) (e : ℕ) → K.Deep d' d → K.Deep e w.depth
      → (ws : List Word) → words_of g env' ws ≡ Some (n.fields ++ x ∷ [])
      → Sim P K (apply_part g c d n x f r w)
      (code h c' env' d' (apply_body g A f r ws) (other w ss e))
  unfolding act
  body_sim a y n x f zero env' d d' w ss e dd de ws q = λ _. free
  body_sim a y n x f (suc zero) env' d d' w ss e dd de ws q
      = rw q (cf.by f (n.fields ++ x ∷ []) (n.fields ++ x ∷ []) d d' w ss e same dd de)
  body_sim a y n x f (suc (suc r)) env' d d' w ss e dd de ws q
      = go (part_from 0 g.tags f (suc r)) refl
    where
      go : (o : Option ℕ) → part_from 0 g.tags f (suc r) ≡ o
          → Sim P K (apply_part g c d n x f (suc (suc r)) w)
          (code h c' env' d' (apply_body g A f (suc (suc r)) ws) (other w ss e))
      go None z = rw z (λ _. free)
      go (Some t) z = rw (z, q) (made_sim (made_node g t (n.fields ++ x ∷ [])) w ss e de)

  proc_sim : (a : Word) (y : ℕ) (n : Node) (x : Datum) (t : Tag) (o : Option ProcId) (env' : Env)
      (d d' : ℕ) (w : World) (ss : List State) (e : ℕ) → K.Deep d' d → K.Deep e w.depth
      → words_of g env' (map Var (names y (length n.fields)) ++ a ∷ []) ≡ Some (n.fields ++ x ∷ [])
      → length n.fields ≡ t.fields → Sim P K
      (need o w (λ f. apply_part g c d n x f.0 t.missing w))
      (code h c' env' d' (part_body g A y a t o) (other w ss e))
  proc_sim a y n x t None env' d d' w ss e dd de q full = λ _. free
  proc_sim a y n x t (Some f) env' d d' w ss e dd de q full =
      body_sim a y n x f.0 t.missing env' d d' w ss e dd de (map Var (names y t.fields) ++ a ∷ [])
      (subst (λ k. words_of g env' (map Var (names y k) ++ a ∷ []) ≡ Some (n.fields ++ x ∷ []))
      full q)

  else_sim : (v : Value) (env' : Env) (d' t : ℕ) (w : World) (ss : List State) (e : ℕ)
      → K.Deep e w.depth → (others : List ℕ) → In t others
      → Sim P K (stops no_alternative w) (arms h c' env' d' v (else_fail g A others) (other w ss e))
  unfolding act
  else_sim v env' d' t w ss e de [] among = none_in among
  else_sim v env' d' t w ss e de (z ∷ zs) among = λ _. stops_too _ e de

  kind_is : (n : Node) (t : Tag) (b : Bool) → slice_get g.tags n.tag ≡ Some t
      → is_part_kind t.kind ≡ b → is_part_tag g A n.tag ≡ b
  kind_is n t b e f = ap (λ o. is_some_and o (λ i. is_part_kind i.kind)) e ∙ f

  known_sim : (y : ℕ) (v : Val) (a : Word) (x : Datum) (val : Value) (n : Node) (env env' : Env)
      (d d' : ℕ) (w : World) (ss : List State) (e : ℕ) → x0 ≤ y → WordOk Ok a → Agree Ok env env'
      → word_of g env a ≡ Some x
      → as_node g val ≡ Some n → Had g A v n → K.Deep d' d → K.Deep e w.depth
      → Sim P K (apply_node g c d n x w)
      (arms h c' env' d' val
      (apply_arms g A a y (part_tags_of g A v) (else_fail g A (others_of g A v)))
      (other w ss e))
  known_sim y v a x val n env env' d d' w ss e fresh ok ag at is_n had dd de
      = go (slice_get g.tags n.tag) refl
    where
      last : Arms
      last = else_fail g A (others_of g A v)

      go : (o : Option Tag) → slice_get g.tags n.tag ≡ o
          → Sim P K (apply_node g c d n x w)
          (arms h c' env' d' val (apply_arms g A a y (part_tags_of g A v) last) (other w ss e))
      go None q = rw q (λ _. free)
      go (Some t) q = rw q (on (is_part_kind t.kind) refl)
        where
          full : length n.fields ≡ t.fields
          full = let s : Some t.fields ≡ Some (length n.fields)
              = sym (ap (λ o. and_then o (λ i. Some i.fields)) q) ∙ had.full in cc

          lt : n.tag < length g.tags
          lt = slice_get_within g.tags n.tag t q

          part : Entered h c' false g.tags (apply_opening g A a last) env' d' val n is_n t y
              (part_tags_of g A v) (other w ss e)
              → Sim P K (need t.proc w (λ f. apply_part g c d n x f.0 t.missing w))
              (arms h c' env' d' val (apply_arms g A a y (part_tags_of g A v) last)
              (other w ss e))
          part en =
              let env'' = with_vars (named en.from n.fields) env' in
              let le : y ≤ en.from = en.later in
              let stand : words_of g env'' (map Var (names en.from (length n.fields)) ++ a ∷ []) ≡
              Some (n.fields ++ x ∷ []) =
              words_more g env'' (map Var (names en.from (length n.fields))) a n.fields x
              (names_stand g en.from n.fields env')
              (word_same g Ok env env''
              (agree_named x0 env env' en.from n.fields (omega arith) ag) a ok ∙ at) in
              subst (Sim P K (need t.proc w (λ f. apply_part g c d n x f.0 t.missing w)))
              (sym en.is) (proc_sim a en.from n x t t.proc env'' d d' w _ e dd de stand full)

          on : (b : Bool) → is_part_kind t.kind ≡ b
              → Sim P K
              (cond b (need t.proc w (λ f. apply_part g c d n x f.0 t.missing w))
              (stops no_alternative w))
              (arms h c' env' d' val (apply_arms g A a y (part_tags_of g A v) last) (other w ss e))
          on true k = part
              (entered h c' false g.tags (apply_opening g A a last) env' d' val n is_n t q full
              (part_tags_of g A v) y (other w ss e)
              (those_have (λ t. value_has g A v t && is_part_tag g A t) n.tag
              (and_from _ _ had.has (kind_is n t true q k)) 0 (length g.tags) (omega arith)
              (omega (arith, lt))))
          on false k =
              let never : is_part_tag g A n.tag ≡ true → ⊥ = λ m. let z : true ≡ false
              = sym m ∙ kind_is n t false q k in cc in
              subst (Sim P K (stops no_alternative w))
              (sym (passed h c' false g.tags (apply_opening g A a last) env' d' val n is_n
              (λ t. is_part_tag g A t ≡ true) never (part_tags_of g A v) y (other w ss e)
              (those_parts g A (value_has g A v) 0 (length g.tags))))
              (else_sim val env' d' n.tag w ss e de (others_of g A v)
              (those_have (λ t. value_has g A v t && not (is_part_tag g A t)) n.tag
              (and_from _ _ had.has (ap not (kind_is n t false q k))) 0 (length g.tags)
              (omega arith) (omega (arith, lt))))

  pub apply_sim : (y : ℕ) (v : Val) (a : Word) → x0 ≤ y → ValOk Ok v → WordOk Ok a
      → ActLike (it K g A x0 procs c c' cb cf) (leaf (apply v a))
      (case v (apply_arms g A a y (part_tags_of g A v) (else_fail g A (others_of g A v))))
  unfolding act
  apply_sim y v a fresh okv ok = record {
    by = λ env env' d d' w ss e ag dd de lies. rw (value_same g Ok env env' ag v okv)
        (go env env' d d' w ss e ag dd de lies (value_of g env v) refl);
  }
    where
      go : (env env' : Env) (d d' : ℕ) (w : World) (ss : List State) (e : ℕ) → Agree Ok env env'
          → K.Deep d' d → K.Deep e w.depth → P (record { env = env; heap = w.cells })
          → (o : Option Value) → value_of g env v ≡ o
          → Sim P K
          (need (and_then o (as_node g)) w
          (λ n. need (word_of g env a) w (λ x. apply_node g c d n x w)))
          (need o (other w ss e)
          (λ val. arms h c' env' d' val
          (apply_arms g A a y (part_tags_of g A v) (else_fail g A (others_of g A v)))
          (other w ss e)))
      go env env' d d' w ss e ag dd de lies None q = λ _. free
      go env env' d d' w ss e ag dd de lies (Some val) q
          = by_node (as_node g val) refl (word_of g env a) refl
        where
          by_node : (o : Option Node) → as_node g val ≡ o → (r : Option Datum) → word_of g env a ≡ r
              → Sim P K (need o w (λ n. need r w (λ x. apply_node g c d n x w)))
              (arms h c' env' d' val
              (apply_arms g A a y (part_tags_of g A v) (else_fail g A (others_of g A v)))
              (other w ss e))
          by_node None z r s = λ _. free
          by_node (Some n) z None s = λ _. free
          by_node (Some n) z (Some x) s = known_sim y v a x val n env env' d d' w ss e fresh ok ag s
              z (value_had g A _ lies v n (ap (λ o. and_then o (as_node g)) q ∙ z)) dd de
