-- What is known of a piece of a procedure, and so of its parts.
use Rattle.std.proofs.Common.{◌≡◌, ℕ, Bool, false, ◌||◌, List, [], ◌∷◌, ◌++◌, Option, Some, None, refl}
use Rattle.seq.proofs.Truth.{neither_left, neither_right}
use Rattle.seq.proofs.Order.{eq_self}
use Rattle.grin_syntax.specs.declared.program.Cell.{Cell}
use Rattle.grin_syntax.specs.declared.program.Shape.{Shape}
use Rattle.grin_syntax.specs.declared.program.Target.{Target}
use Rattle.grin_syntax.specs.declared.program.Val as V
use Rattle.grin_syntax.specs.declared.program.Val.TheVariants.{NodeVar, Node, Vector, One}
use Rattle.grin_syntax.specs.declared.program.Word as W
use Rattle.grin_syntax.specs.declared.program.Word.TheVariants.{Lit, Var, Global, TagWord}
use Rattle.grin_syntax.specs.Tree.{Code, end, store, bind, Act, case, nested, Arms, arm, Program}
use Rattle.grin_syntax.specs.Binders.{target_vars, shape_vars, cell_vars, act_vars, code_vars, arms_vars}
use Rattle.grin_syntax.specs.Formed.{AllOf}
use Rattle.grin_meaning.specs.Names.{WordOk, WordsOk, ValOk, CellsOk}
use Rattle.grin_meaning.specs.Ready.{EachAct, EachCode, EachArms, inlined_kind, without_node_fetches}
use Rattle.flow_system.specs.Inclusions.{FlowSink, to}
use Rattle.flow_system.specs.Tables.{tables}
use Rattle.flow_system.specs.System.{cells_flow, shape_flows, act_flows, code_flows, arms_flow}
use Rattle.flow_system.specs.Solution.{Solution, AllMet}
use Rattle.flow_system.proofs.Heap.{met_front, met_back}
use Rattle.pass_ground.specs.Uses.{word_is, words_use, val_uses, cells_use, act_uses_as_value, code_uses_as_value, arms_use_as_value, act_mentions}
use Rattle.raise_theory.specs.Raising.{Raising}
use Rattle.pass_ground.proofs.Tests.{never_both, all_front, all_back}
use Rattle.raise_theory.proofs.Related.{Plain}

module _ (N : ℕ → Option Raising) where
  -- no variable that is raised is used so
  abbrev pub Free : (ℕ → Bool) → Type 0
  Free u = (y : ℕ) (r : Raising) → N y ≡ Some r → u y ≡ false

  abbrev pub Stays : ℕ → Type 0
  Stays y = N y ≡ None

  pub free_left : (u v : ℕ → Bool) → Free (λ y. u y || v y) → Free u
  free_left u v f y r e = neither_left (u y) (v y) (f y r e)

  pub free_right : (u v : ℕ → Bool) → Free (λ y. u y || v y) → Free v
  free_right u v f y r e = neither_right (u y) (v y) (f y r e)

  pub word_ok : (a : W.Word) → Free (λ y. word_is y a) → WordOk Stays a
  word_ok (Lit k) f = tt
  word_ok (Global i) f = tt
  word_ok (TagWord t) f = tt
  word_ok (Var x) f = go (N x.0) refl
    where
      go : (o : Option Raising) → N x.0 ≡ o → N x.0 ≡ None
      go None e = e
      go (Some r) e = never_both (eq_self x.0) (f x.0 r e)

  pub words_ok : (ws : List W.Word) → Free (λ y. words_use y ws) → WordsOk Stays ws
  words_ok [] f = tt
  words_ok (a ∷ ws) f = (
    word_ok a (free_left (λ y. word_is y a) (λ y. words_use y ws) f),
    words_ok ws (free_right (λ y. word_is y a) (λ y. words_use y ws) f),
  )

  pub val_ok : (v : V.Val) → Free (λ y. val_uses y v) → ValOk Stays v
  val_ok (NodeVar x) f = word_ok (Var x) f
  val_ok (Node t ws) f = words_ok ws f
  val_ok (Vector ws) f = words_ok ws f
  val_ok (One a) f = word_ok a f

  pub cells_ok : (cs : List Cell) → Free (λ y. cells_use y cs) → CellsOk Stays cs
  cells_ok [] f = tt
  cells_ok (c ∷ cs) f = (
    val_ok c.val (free_left (λ y. val_uses y c.val) (λ y. cells_use y cs) f),
    cells_ok cs (free_right (λ y. val_uses y c.val) (λ y. cells_use y cs) f),
  )

  module _ (g : Program) (A : Solution) (base : ℕ) where
    -- a piece whose value goes to k
    pub record PieceAct (k : FlowSink) (o : Act) : Type 0 where
      pub free : Free (λ y. act_uses_as_value y o)
      pub plain : AllOf (Plain base N) (act_vars o)
      pub inlined : EachAct inlined_kind o
      pub by_words : EachAct without_node_fetches o
      pub met : AllMet (tables g) A (act_flows g k o)

    pub record PieceCode (k : FlowSink) (b : Code) : Type 0 where
      pub free : Free (λ y. code_uses_as_value y b)
      pub plain : AllOf (Plain base N) (code_vars b)
      pub inlined : EachCode inlined_kind b
      pub by_words : EachCode without_node_fetches b
      pub met : AllMet (tables g) A (code_flows g k b)

    pub record PieceArms (k : FlowSink) (v : V.Val) (as' : Arms) : Type 0 where
      pub free : Free (λ y. arms_use_as_value y as')
      pub plain : AllOf (Plain base N) (arms_vars as')
      pub inlined : EachArms inlined_kind as'
      pub by_words : EachArms without_node_fetches as'
      pub met : AllMet (tables g) A (arms_flow g k v as')

    pub of_nested : (k : FlowSink) (b : Code) → PieceAct k (nested b) → PieceCode k b
    unfolding act_mentions act_vars EachAct act_flows
    of_nested k b p = record {
      free = p.free;
      plain = p.plain;
      inlined = p.inlined.1;
      by_words = p.by_words.1;
      met
          = p.met;
    }

    pub of_case : (k : FlowSink) (v : V.Val) (as' : Arms) → PieceAct k (case v as')
        → PieceArms k v as'
    unfolding act_mentions act_vars EachAct act_flows
    of_case k v as' p = record {
      free = free_right (λ y. val_uses y v) (λ y. arms_use_as_value y as') p.free;
      plain
          = p.plain;
      inlined = p.inlined.2;
      by_words = p.by_words.2;
      met = p.met;
    }

    pub of_end : (k : FlowSink) (o : Act) → PieceCode k (end o) → PieceAct k o
    unfolding act_mentions act_vars EachAct act_flows
    of_end k o p = record
        { free = p.free; plain = p.plain; inlined = p.inlined; by_words = p.by_words; met = p.met }

    pub of_store : (k : FlowSink) (cs : List Cell) (b : Code) → PieceCode k (store cs b)
        → PieceCode k b
    unfolding act_mentions act_vars EachAct act_flows
    of_store k cs b p = record {
      free = free_right (λ y. cells_use y cs) (λ y. code_uses_as_value y b) p.free;
      plain = all_back (Plain base N) (cell_vars cs) (code_vars b) p.plain;
      inlined = p.inlined.1;
      by_words = p.by_words.1;
      met = met_back g A (cells_flow g cs) (code_flows g k b) p.met;
    }

    pub of_cells : (k : FlowSink) (cs : List Cell) (b : Code) → PieceCode k (store cs b)
        → CellsOk Stays cs × AllOf (Plain base N) (cell_vars cs)
    unfolding act_mentions act_vars
    of_cells k cs b p = (
      cells_ok cs (free_left (λ y. cells_use y cs) (λ y. code_uses_as_value y b) p.free),
      all_front (Plain base N) (cell_vars cs) (code_vars b) p.plain,
    )

    pub of_first : (k : FlowSink) (t : Target) (o : Act) (b : Code) → PieceCode k (bind t o b)
        → PieceAct (to t) o
    unfolding act_mentions act_vars EachAct act_flows
    of_first k t o b p = record {
      free = free_left (λ y. act_uses_as_value y o) (λ y. code_uses_as_value y b) p.free;
      plain = all_front (Plain base N) (act_vars o) (code_vars b)
          (all_back (Plain base N) (target_vars t) (act_vars o ++ code_vars b) p.plain);
      inlined = p.inlined.1;
      by_words = p.by_words.1;
      met = met_front g A (act_flows g (to t) o) (code_flows g k b) p.met;
    }

    pub of_target : (k : FlowSink) (t : Target) (o : Act) (b : Code) → PieceCode k (bind t o b)
        → AllOf (Plain base N) (target_vars t)
    unfolding act_vars
    of_target k t o b p = all_front (Plain base N) (target_vars t) (act_vars o ++ code_vars b)
        p.plain

    pub of_rest : (k : FlowSink) (t : Target) (o : Act) (b : Code) → PieceCode k (bind t o b)
        → PieceCode k b
    unfolding act_mentions act_vars EachAct act_flows
    of_rest k t o b p = record {
      free = free_right (λ y. act_uses_as_value y o) (λ y. code_uses_as_value y b) p.free;
      plain = all_back (Plain base N) (act_vars o) (code_vars b)
          (all_back (Plain base N) (target_vars t) (act_vars o ++ code_vars b) p.plain);
      inlined = p.inlined.2;
      by_words = p.by_words.2;
      met = met_back g A (act_flows g (to t) o) (code_flows g k b) p.met;
    }

    pub of_shape : (k : FlowSink) (v : V.Val) (s : Shape) (b : Code) (as' : Arms)
        → PieceArms k v (arm s b as') → AllOf (Plain base N) (shape_vars s)
    unfolding act_vars
    of_shape k v s b as' p = all_front (Plain base N) (shape_vars s) (code_vars b ++ arms_vars as')
        p.plain

    pub of_arm : (k : FlowSink) (v : V.Val) (s : Shape) (b : Code) (as' : Arms)
        → PieceArms k v (arm s b as') → PieceCode k b
    unfolding act_mentions act_vars EachAct act_flows
    of_arm k v s b as' p = record {
      free = free_left (λ y. code_uses_as_value y b) (λ y. arms_use_as_value y as') p.free;
      plain = all_front (Plain base N) (code_vars b) (arms_vars as')
          (all_back (Plain base N) (shape_vars s) (code_vars b ++ arms_vars as') p.plain);
      inlined = p.inlined.1;
      by_words = p.by_words.1;
      met = met_front g A (code_flows g k b) (arms_flow g k v as')
          (met_back g A (shape_flows v s) (code_flows g k b ++ arms_flow g k v as') p.met);
    }

    pub of_others : (k : FlowSink) (v : V.Val) (s : Shape) (b : Code) (as' : Arms)
        → PieceArms k v (arm s b as') → PieceArms k v as'
    unfolding act_mentions act_vars EachAct act_flows
    of_others k v s b as' p = record {
      free = free_right (λ y. code_uses_as_value y b) (λ y. arms_use_as_value y as') p.free;
      plain = all_back (Plain base N) (code_vars b) (arms_vars as')
          (all_back (Plain base N) (shape_vars s) (code_vars b ++ arms_vars as') p.plain);
      inlined = p.inlined.2;
      by_words = p.by_words.2;
      met = met_back g A (code_flows g k b) (arms_flow g k v as')
          (met_back g A (shape_flows v s) (code_flows g k b ++ arms_flow g k v as') p.met);
    }
