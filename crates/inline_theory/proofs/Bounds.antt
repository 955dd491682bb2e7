-- Every variable that is used in a well-formed program is bound.
use Rattle.std.proofs.Common.{◌≡◌, ℕ, ◌<◌, ◌≤◌, List, [], ◌∷◌, refl, arith}
use Rattle.std.proofs.Math.Nat.{lt_of_not-le}
use Rattle.grin_syntax.specs.declared.program.Word as W
use Rattle.grin_syntax.specs.declared.program.Word.TheVariants.{Lit, Var, Global, TagWord}
use Rattle.grin_syntax.specs.declared.program.Val as V
use Rattle.grin_syntax.specs.declared.program.Val.TheVariants.{NodeVar, Node, Vector, One}
use Rattle.grin_syntax.specs.declared.program.Target.{Target}
use Rattle.grin_syntax.specs.declared.program.Target.TheVariants as to
use Rattle.grin_syntax.specs.declared.program.Cell.{Cell}
use Rattle.grin_syntax.specs.Tree.{Code, end, store, bind, Act, leaf, unit, fetch, fetch_word, update, eval, apply, call, prim, read, write, case, nested, fail, Arms, no_arm, arm, Procedure, Program}
use Rattle.grin_syntax.specs.Binders.{numbers_of, target_vars, shape_vars, cell_vars}
use Rattle.grin_syntax.specs.Formed.{AllOf, Scope, with_word_variables, with_target, params_scope, InScope, WordFormed, ValFormed, CellFormed, ActFormed, CodeFormed, ArmsFormed, ProcedureFormed, Formed}
use Rattle.grin_syntax.specs.Fresh.{past_act, past_code, past_arms, past_procs}
use Rattle.grin_syntax.proofs.Unbound.{past_vars_none, past_cells_none, past_target_none, past_shape_none, none_in_both}
use Rattle.grin_meaning.specs.Names.{WordOk, WordsOk, ValOk, CellsOk, ActOk, CodeOk, ArmsOk, ProcsOk}
use Rattle.inline_theory.specs.Laws.{UsedVariablesAreBound}
use Rattle.seq.specs.Lists.{times}

module _ (p : Program) (n : ℕ) where
  -- no number from n on is among these
  abbrev NoneFrom : List ℕ → Type 0
  NoneFrom xs = (x : ℕ) → n ≤ x → times x xs ≡ 0

  -- all variables in scope are below n
  pub record Below (scope : Scope) : Type 0 where
    pub no_node : NoneFrom scope.nodes
    pub no_word : NoneFrom scope.words

  more_words : (xs : List ℕ) (scope : Scope) → NoneFrom xs → Below scope
      → Below (with_word_variables xs scope)
  more_words xs scope h b = record {
    no_node = b.no_node;
    no_word = λ x le. none_in_both x xs scope.words (h x le)
        (b.no_word x le);
  }

  more_target : (t : Target) (scope : Scope) → NoneFrom (target_vars t) → Below scope
      → Below (with_target t scope)
  more_target to.Nothing scope h b = b
  more_target (to.Node y) scope h b = record {
    no_node = λ x le. none_in_both x (y.0 ∷ []) scope.nodes (h x le) (b.no_node x le);
    no_word
        = b.no_word;
  }
  more_target (to.One y) scope h b = more_words (y.0 ∷ []) scope h b
  more_target (to.Vector xs) scope h b = more_words (numbers_of xs) scope h b

  variable_bound : (xs : List ℕ) → NoneFrom xs → (x : ℕ) → InScope xs x → x < n
  variable_bound xs none x h = lt_of_not-le (λ le. not_both h (none x le))
    where
      not_both : 0 < times x xs → times x xs ≡ 0 → ⊥
      not_both f e = absurd (omega arith)

  word_bound : (scope : Scope) → Below scope → (a : W.Word) → WordFormed p scope a
      → WordOk (λ y. y < n) a
  word_bound scope low (Lit k) h = tt
  word_bound scope low (Var x) h = variable_bound scope.words low.no_word x.0 h
  word_bound scope low (Global i) h = tt
  word_bound scope low (TagWord t) h = tt

  words_bound : (scope : Scope) → Below scope → (ws : List W.Word) → AllOf (WordFormed p scope) ws
      → WordsOk (λ y. y < n) ws
  words_bound scope low [] h = tt
  words_bound scope low (a ∷ ws) h = (word_bound scope low a h.0, words_bound scope low ws h.1)

  val_bound : (scope : Scope) → Below scope → (v : V.Val) → ValFormed p scope v
      → ValOk (λ y. y < n) v
  val_bound scope low (NodeVar x) h = variable_bound scope.nodes low.no_node x.0 h
  val_bound scope low (Node t ws) h = words_bound scope low ws h.1
  val_bound scope low (Vector ws) h = words_bound scope low ws h
  val_bound scope low (One a) h = word_bound scope low a h

  cells_bound : (scope : Scope) → Below scope → (cs : List Cell) → AllOf (CellFormed p scope) cs
      → CellsOk (λ y. y < n) cs
  cells_bound scope low [] h = tt
  cells_bound scope low (c ∷ cs) h = (val_bound scope low c.val h.0, cells_bound scope low cs h.1)

  mutual
    unfolding past_act ActFormed ActOk

    act_bound : (scope : Scope) → Below scope → (o : Act) → past_act o ≤ n → ActFormed p scope o
        → ActOk (λ y. y < n) o
    act_bound scope low (case v as') le h =
        (val_bound scope low v h.0, arms_bound scope low as' le h.1)
    act_bound scope low (nested b) le h = code_bound scope low b le h
    act_bound scope low (leaf (unit v)) le h = val_bound scope low v h
    act_bound scope low (leaf (fetch a)) le h = word_bound scope low a h
    act_bound scope low (leaf (fetch_word a i)) le h = word_bound scope low a h
    act_bound scope low (leaf (update a v)) le h =
        (word_bound scope low a h.0, val_bound scope low v h.1)
    act_bound scope low (leaf (eval a)) le h = word_bound scope low a h
    act_bound scope low (leaf (apply v a)) le h =
        (val_bound scope low v h.0, word_bound scope low a h.1)
    act_bound scope low (leaf (call f ws)) le h = words_bound scope low ws h.1
    act_bound scope low (leaf (prim f a b)) le h =
        (word_bound scope low a h.0, word_bound scope low b h.1)
    act_bound scope low (leaf read) le h = tt
    act_bound scope low (leaf (write a)) le h = word_bound scope low a h
    act_bound scope low (leaf fail) le h = tt

    code_bound : (scope : Scope) → Below scope → (b : Code) → past_code b ≤ n → CodeFormed p scope b
        → CodeOk (λ y. y < n) b
    code_bound scope low (end o) le h = act_bound scope low o le h
    code_bound scope low (store cs b) le h =
        let s : Scope = with_word_variables (cell_vars cs) scope in
        let more : Below s = more_words (cell_vars cs) scope
        (λ x f. past_cells_none x cs (omega arith)) low in
        (cells_bound s more cs h.0, code_bound s more b (omega arith) h.1)
    code_bound scope low (bind t o b) le h = (
      act_bound scope low o (omega arith) h.0,
      code_bound (with_target t scope)
          (more_target t scope (λ x f. past_target_none x t (omega arith)) low) b (omega arith)
          h.1,
    )

    arms_bound : (scope : Scope) → Below scope → (as' : Arms) → past_arms as' ≤ n
        → ArmsFormed p scope as' → ArmsOk (λ y. y < n) as'
    arms_bound scope low no_arm le h = tt
    arms_bound scope low (arm s b as') le h = (
      code_bound (with_word_variables (shape_vars s) scope)
          (more_words (shape_vars s) scope (λ x f. past_shape_none x s (omega arith)) low) b
          (omega arith) h.1,
      arms_bound scope low as' (omega arith) h.2,
    )

  procs_bound : (qs : List Procedure) → past_procs qs ≤ n → AllOf (ProcedureFormed p) qs
      → ProcsOk (λ y. y < n) qs
  procs_bound [] le h = tt
  procs_bound (q ∷ qs) le h = (
    code_bound (params_scope q)
        (record {
          no_node = λ x f. refl;
          no_word = λ x f. past_vars_none x q.params
              (omega arith);
        }) q.body (omega arith) h.0,
    procs_bound qs (omega arith) h.1,
  )

pub uses_bound : (p : Program) → Formed p → UsedVariablesAreBound p
uses_bound p f = procs_bound p (past_procs p.procs) p.procs (omega arith) f.procedures
