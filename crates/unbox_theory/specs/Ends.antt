-- Where a block ends: with its last operation, unless that is a case, whose alternatives end it, or
-- a nested block. What these ends give, and which of them call procedures of a set.
use Rattle.std.specs.Prelude.{ℕ, ◌≡◌, Bool, true, false, ◌&&◌, ◌||◌, nat_eq, List, [], ◌∷◌, slice_get}
use Rattle.grin_syntax.specs.declared.program.Word as W
use Rattle.grin_syntax.specs.declared.program.Word.TheVariants.{Lit, Var, Global, TagWord}
use Rattle.grin_syntax.specs.declared.program.Val as V
use Rattle.grin_syntax.specs.declared.program.Val.TheVariants.{NodeVar, Node, Vector, One}
use Rattle.grin_syntax.specs.Tree.{Code, end, store, bind, Act, leaf, unit, call, case, nested, fail, Arms, no_arm, arm}
use Rattle.flow_system.specs.declared.fact.Element.{Element}
use Rattle.flow_system.specs.declared.fact.Element.TheVariants.{Tag as tag}
use Rattle.flow_system.specs.declared.fact.Place.TheVariants.{Var as var, Result as result}
use Rattle.flow_system.specs.declared.fact.Part.TheVariants.{Tags as tags, Word as word}
use Rattle.grin_meaning.specs.Checks.{is_some_and}
use Rattle.flow_system.specs.Solution.{Solution, same_word, among}

-- a set of procedures, by their numbers
abbrev pub Procedures : Type 0
Procedures = ℕ → Bool

-- no other abstract word than the tag CInt
abbrev pub only_int : List Element → Bool
only_int [] = true
only_int (u ∷ us) = same_word (tag 0) u && only_int us

-- ---- what is given has the tag CInt and no other

module _ (A : Solution) where
  abbrev pub is_int_word : W.Word → Bool
  is_int_word (Lit k) = false
  is_int_word (Var x) = only_int (A (var x.0) (word 0))
  is_int_word (Global i) = false
  is_int_word (TagWord t) = nat_eq t.0 0

  abbrev pub begins_with_int : List W.Word → Bool
  begins_with_int [] = false
  begins_with_int (a ∷ ws) = is_int_word a

  abbrev pub is_int : V.Val → Bool
  is_int (NodeVar x) = false
  is_int (Node t ws) = nat_eq t.0 0
  is_int (Vector ws) = begins_with_int ws
  is_int (One a) = false

  -- what a procedure gives has the tag CInt
  abbrev pub has_int : ℕ → Bool
  has_int f = among (tag 0) (A (result f) tags) || among (tag 0) (A (result f) (word 0))

-- ---- calls among the ends

module _ (S : Procedures) where
  unfoldable mutual
    -- whether one of the ends calls a procedure of the set
    pub act_calls : Act → Bool
    act_calls (leaf (call f ws)) = S f.0
    act_calls (case v as') = arms_calls as'
    act_calls (nested b) = code_calls b
    act_calls _ = false

    pub code_calls : Code → Bool
    code_calls (end o) = act_calls o
    code_calls (store cs b) = code_calls b
    code_calls (bind t o b) = code_calls b

    pub arms_calls : Arms → Bool
    arms_calls no_arm = false
    arms_calls (arm s b as') = code_calls b || arms_calls as'

  module _ (A : Solution) where
    unfoldable mutual
      -- each end calls a procedure of the set, gives the tag CInt and no other, or fails
      pub IntAct : Act → Type 0
      IntAct (leaf (unit v)) = is_int A v ≡ true
      IntAct (leaf (call f ws)) = S f.0 ≡ true
      IntAct (case v as') = IntArms as'
      IntAct (nested b) = IntCode b
      IntAct (leaf fail) = Unit {0}
      IntAct _ = ⊥

      pub IntCode : Code → Type 0
      IntCode (end o) = IntAct o
      IntCode (store cs b) = IntCode b
      IntCode (bind t o b) = IntCode b

      pub IntArms : Arms → Type 0
      IntArms no_arm = Unit {0}
      IntArms (arm s b as') = IntCode b × IntArms as'

-- ---- a set as a list, one place for each procedure

abbrev pub is_member : List Bool → Procedures
is_member bs f = is_some_and (slice_get bs f) (λ b. b)
