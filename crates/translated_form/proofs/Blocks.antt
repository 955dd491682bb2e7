-- In the block of an expression each variable is bound before its uses.
use Rattle.std.proofs.Common.{◌≡◌, ℕ, suc, ◌+◌, true, List, [], ◌∷◌, map, length, Some, None, refl}
use Rattle.std.specs.List.{list_any}
use Rattle.seq.proofs.Truth.{or_left, or_right}
use mathlib.Core.Logic.{◌⊎◌, inl, inr}
use Rattle.arity_check.specs.declared.normal.Bound.{Bound}
use Rattle.arity_check.specs.declared.normal.Flat.{Flat}
use Rattle.arity_check.specs.declared.normal.Flat.TheVariants as flat
use Rattle.arity_check.specs.declared.normal.PrimOp.{PrimOp}
use Rattle.arity_check.specs.Program.{Program, Term, App, Let, Case, Branches, NoMore, OnCon, OnInt, OnAny}
use Rattle.grin_syntax.specs.declared.program.VarId.{VarId}
use Rattle.grin_syntax.specs.declared.program.Word.{Word}
use Rattle.grin_syntax.specs.declared.program.Target.TheVariants as to
use Rattle.grin_syntax.specs.Tree.{Code, end, store, bind, as_act}
use Rattle.grin_syntax.specs.Binders.{numbers_of, cell_vars}
use Rattle.grin_syntax.specs.Formed.{AllOf, Scope, InScope, with_word_variables, with_target, WordFormed, CellFormed, ActFormed, CodeFormed, ArmsFormed}
use Rattle.grin_syntax.proofs.Scopes.{first_in, Within, within_chain, within_words, within_target, word_stays, words_stay}
use Rattle.grin_translate.specs.declared.tags.Delay.{Delay}
use Rattle.grin_translate.specs.declared.tags.Delay.TheVariants.{Calls}
use Rattle.grin_translate.specs.Tags.{binds, delays_in, is_delayed}
use Rattle.grin_translate.specs.Blocks.{local, temp, cell_of, temps, give_block, apply_block, on_number, prim_block, form_block, block, arms}
use Rattle.grin_translate.specs.Blocks as blocks
use Rattle.grin_translate.specs.Pieces.{result_of, evaluated_of}
use Rattle.grin_translate.specs.Translation.{tr}
use Rattle.grin_translate.specs.WellFormed.{InLocals, InGroup, FormOk, TermOk, BranchesOk}
use Rattle.grin_translate.proofs.Places.{Has}
use Rattle.grin_translate.proofs.Found.{has_calls}
use Rattle.grin_translate.proofs.Expressions.{any_has, Waits, WaitsIn}
use Rattle.translated_form.proofs.Scopes.{in_later, Scoped, scoped_local, scoped_fields, scoped_group}
use Rattle.translated_form.proofs.Named.{number_known, constructor_known, proc_known, word_formed, words_formed, node_formed}

module _ (p : Program) (base : ℕ) where
  word_later : (scope scope' : Scope) → Within scope scope' → (w : Word) → WordFormed (tr p) scope w
      → WordFormed (tr p) scope' w
  word_later scope scope' = word_stays (tr p) (tr p).procs refl scope scope'

  words_later : (scope scope' : Scope) → Within scope scope' → (ws : List Word)
      → AllOf (WordFormed (tr p) scope) ws → AllOf (WordFormed (tr p) scope') ws
  words_later scope scope' = words_stay (tr p) (tr p).procs refl scope scope'

  -- with a node between operations in scope
  abbrev with_node : VarId → Scope → Scope
  with_node v scope = with_target (to.Node v) scope

  node_within : (v : VarId) (scope : Scope) → Within scope (with_node v scope)
  node_within v scope = within_target (to.Node v) scope

  -- ---- forms

  give_formed : (bs : List Word) (t : ℕ) (v : VarId) (a : Word) (scope : Scope)
      → InScope scope.nodes v.0 → WordFormed (tr p) scope a → AllOf (WordFormed (tr p) scope) bs
      → CodeFormed (tr p) scope (give_block p base t v a bs)
  unfolding ActFormed
  give_formed [] t v a scope hv ha hb = (hv, ha)
  give_formed (b ∷ bs) t v a scope hv ha hb =
      let y : VarId = temp p base t in
      let more : Scope = with_node y scope in (
        (hv, ha),
        give_formed bs (suc t) y b more (first_in y.0 scope.nodes)
            (word_later scope more (node_within y scope) b hb.0)
            (words_later scope more (node_within y scope) bs hb.1),
      )

  apply_formed : (as' : List Word) (t : ℕ) (x : Word) (scope : Scope) → WordFormed (tr p) scope x
      → AllOf (WordFormed (tr p) scope) as' → CodeFormed (tr p) scope (apply_block p base t x as')
  unfolding ActFormed
  apply_formed [] t x scope hx ha = hx
  apply_formed (a ∷ as') t x scope hx ha =
      let y : VarId = temp p base t in
      let more : Scope = with_node y scope in (
        hx,
        give_formed as' (suc t) y a more (first_in y.0 scope.nodes)
            (word_later scope more (node_within y scope) a ha.0)
            (words_later scope more (node_within y scope) as' ha.1),
      )

  pub on_number_formed : (v i : VarId) (b : Code) (scope : Scope) → InScope scope.nodes v.0
      → CodeFormed (tr p) (with_word_variables (i.0 ∷ []) scope) b
      → CodeFormed (tr p) scope (on_number p base v i b)
  unfolding ActFormed
  on_number_formed v i b scope hv hb = (hv, (number_known p, hb, (tt, tt, tt)))

  prim_formed : (t : ℕ) (op : PrimOp) (a b : Word) (scope : Scope) → WordFormed (tr p) scope a
      → WordFormed (tr p) scope b → CodeFormed (tr p) scope (prim_block p base t op a b)
  unfolding ActFormed
  prim_formed t op a b scope ha hb =
      let v : VarId = temp p base t in
      let i : VarId = temp p base (t + 1) in
      let w : VarId = temp p base (t + 2) in
      let j : VarId = temp p base (t + 3) in
      let k : VarId = temp p base (t + 4) in
      let s1 : Scope = with_node v scope in
      let s2 : Scope = with_word_variables (i.0 ∷ []) s1 in
      let s3 : Scope = with_node w s2 in
      let s4 : Scope = with_word_variables (j.0 ∷ []) s3 in
      let last : Code = result_of p op i j k in (
        ha,
        on_number_formed v i (evaluated_of p b w j last) s1 (first_in v.0 scope.nodes) (
          word_later scope s2 (within_chain (node_within v scope) (within_words (i.0 ∷ []) s1)) b
              hb,
          on_number_formed w j last s3 (first_in w.0 s2.nodes) (
            (in_later i.0 j.0 s3.words (first_in i.0 s1.words), first_in j.0 s3.words),
            (number_known p, (first_in k.0 s4.words, tt)),
          ),
        ),
      )

  pub form_formed : (f : Flat) (t : ℕ) (S : ℕ → Type 0) (scope : Scope)
      → Scoped p base S scope.words → FormOk p S f → CodeFormed (tr p) scope (form_block p base t f)
  unfolding ActFormed
  form_formed (flat.Int k) t S scope scoped ok = (number_known p, (tt, tt))
  form_formed (flat.Con c xs) t S scope scoped ok =
      (constructor_known p c (length xs) ok.0, words_formed p base S scope scoped xs ok.1)
  form_formed (flat.Part f xs) t S scope scoped ok = node_formed p base S scope scoped
      (flat.Part f xs) ok (λ d e. cc)
  form_formed (flat.Call f xs) t S scope scoped ok = (
    proc_known p (Calls f) (has_calls p f ok.0.0 ok.0.1),
    words_formed p base S scope scoped xs ok.1,
  )
  form_formed (flat.Apply x xs) t S scope scoped ok
      = apply_formed (map (blocks.word p base) xs) t (blocks.word p base x) scope
      (word_formed p base S scope scoped x ok.1) (words_formed p base S scope scoped xs ok.2)
  form_formed (flat.Prim op x y) t S scope scoped ok
      = prim_formed t op (blocks.word p base x) (blocks.word p base y) scope
      (word_formed p base S scope scoped x ok.0) (word_formed p base S scope scoped y ok.1)

  -- ---- expressions

  cells_formed : (S : ℕ → Type 0) (scope : Scope) → Scoped p base S scope.words
      → (group : List Bound) → AllOf (λ b. FormOk p S b.flat) group
      → ((b : Bound) → Has b group → (d : Delay) → binds d b.flat ≡ true → is_delayed p d ≡ true)
      → AllOf (CellFormed (tr p) scope) (map (cell_of p base) group)
  cells_formed S scope scoped [] ok waits = tt
  cells_formed S scope scoped (b ∷ group) ok waits = (
    node_formed p base S scope scoped b.flat ok.0 (waits b (inl refl)),
    cells_formed S scope scoped group ok.1 (λ c i. waits c (inr i)),
  )

  as_act_formed : (b : Code) (scope : Scope) → CodeFormed (tr p) scope b
      → ActFormed (tr p) scope (as_act b)
  unfolding ActFormed
  as_act_formed (end o) scope h = h
  as_act_formed (store cs b) scope h = h
  as_act_formed (bind t o b) scope h = h

  mutual
    unfolding ActFormed

    pub block_formed : (e : Term) (t : ℕ) (S : ℕ → Type 0) (scope : Scope)
        → Scoped p base S scope.words → TermOk p S e → Waits p e
        → CodeFormed (tr p) scope (block p base t e)
    block_formed (App f) t S scope scoped ok waits = form_formed f t S scope scoped ok
    block_formed (Let group e) t S scope scoped ok waits =
        let S' : ℕ → Type 0 = λ x. S x ⊎ InGroup group x in
        let scope' : Scope = with_word_variables (cell_vars (map (cell_of p base) group)) scope in
        let scoped' : Scoped p base S' scope'.words = scoped_group p base group scoped in (
          cells_formed S' scope' scoped' group ok.0
              (λ b h d i. waits d (or_left _ _ (any_has (λ b. binds d b.flat) group b h i))),
          block_formed e t S' scope' scoped' ok.1
              (λ d i. waits d (or_right (list_any (λ b. binds d b.flat) group) _ i)),
        )
    block_formed (Case e branches) t S scope scoped ok waits =
        let v : VarId = temp p base t in (
          as_act_formed (block p base (suc t) e) scope
              (block_formed e (suc t) S scope scoped ok.0 (λ d i. waits d (or_left _ _ i))),
          (
            first_in v.0 scope.nodes,
            arms_formed branches v (suc t + temps e) S (with_node v scope)
                scoped (first_in v.0 scope.nodes) ok.1
                (λ d i. waits d (or_right (delays_in d e) _ i)),
          ),
        )

    pub arms_formed : (bs : Branches) (v : VarId) (t : ℕ) (S : ℕ → Type 0) (scope : Scope)
        → Scoped p base S scope.words → InScope scope.nodes v.0 → BranchesOk p S bs → WaitsIn p bs
        → ArmsFormed (tr p) scope (arms p base v t bs)
    arms_formed NoMore v t S scope scoped hv ok waits = (tt, tt, tt)
    arms_formed (OnCon c xs e rest) v t S scope scoped hv ok waits = (
      constructor_known p c (length xs) ok.0,
      block_formed e t (λ x. S x ⊎ InLocals xs x)
          (with_word_variables (numbers_of (map (local p base) xs)) scope)
          (scoped_fields p base xs scoped) ok.1 (λ d i. waits d (or_left _ _ i)),
      arms_formed rest v (t + temps e) S scope scoped hv ok.2
          (λ d i. waits d (or_right (delays_in d e) _ i)),
    )
    arms_formed (OnInt k e rest) v t S scope scoped hv ok waits = (
      tt,
      block_formed e t S scope scoped ok.0 (λ d i. waits d (or_left _ _ i)),
      arms_formed rest v (t + temps e) S scope scoped hv ok.1
          (λ d i. waits d (or_right (delays_in d e) _ i)),
    )
    arms_formed (OnAny None e rest) v t S scope scoped hv ok waits
        = (tt, block_formed e t S scope scoped ok.0 (λ d i. waits d (or_left _ _ i)), tt)
    arms_formed (OnAny (Some x) e rest) v t S scope scoped hv ok waits =
        let y : ℕ = (local p base x).0 in (
          tt,
          (
            (hv, tt),
            block_formed e t (λ z. S z ⊎ (z ≡ x)) (with_word_variables (y ∷ []) scope)
                (scoped_local p base x scoped) ok.0 (λ d i. waits d (or_left _ _ i)),
          ),
          tt,
        )
