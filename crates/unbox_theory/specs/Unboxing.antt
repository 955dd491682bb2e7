-- Members give the number alone; where it is bound, its tag and zeros are put beside it.
use Rattle.std.specs.Prelude.{ℕ, zero, suc, pos, Bool, cond, List, [], ◌∷◌, length}
use Rattle.grin_syntax.specs.declared.program.VarId.{VarId}
use Rattle.grin_syntax.specs.declared.program.Word as W
use Rattle.grin_syntax.specs.declared.program.Word.TheVariants.{Lit, TagWord}
use Rattle.grin_syntax.specs.declared.program.Val as V
use Rattle.grin_syntax.specs.declared.program.Val.TheVariants.{NodeVar, Node, Vector, One}
use Rattle.grin_syntax.specs.declared.program.Target as T
use Rattle.grin_syntax.specs.declared.program.Target.TheVariants as to
use Rattle.grin_syntax.specs.declared.program.Shape.{Shape}
use Rattle.grin_syntax.specs.Tags.{tag_id}
use Rattle.grin_syntax.specs.Tree.{Code, end, store, bind, Act, Leaf, leaf, unit, case, nested, Arms, no_arm, arm, Procedure, Program}
use Rattle.unbox_theory.specs.Ends.{Procedures, act_calls}

-- ---- the number of a value

-- word i, or zero past the end
abbrev pub word_or_zero : List W.Word → ℕ → W.Word
word_or_zero [] i = Lit (pos 0)
word_or_zero (a ∷ ws) zero = a
word_or_zero (a ∷ ws) (suc i) = word_or_zero ws i

abbrev pub number_word : V.Val → W.Word
number_word (NodeVar x) = Lit (pos 0)
number_word (Node t ws) = word_or_zero ws 0
number_word (Vector ws) = word_or_zero ws 1
number_word (One a) = a

-- what an end gives, its number alone or as it was
abbrev pub given : Bool → V.Val → V.Val
given bare v = cond bare (One (number_word v)) v

-- ---- what is bound

abbrev pub zeros : ℕ → List W.Word
zeros zero = []
zeros (suc k) = Lit (pos 0) ∷ zeros k

-- the tag of a number and so many zeros
abbrev pub tag_and_zeros : ℕ → V.Val
tag_and_zeros k = Vector (TagWord (tag_id 0) ∷ zeros k)

abbrev pub without_second : List VarId → List VarId
without_second (x ∷ y ∷ zs) = x ∷ zs
without_second xs = xs

-- a number goes to the second variable of a vector. Nothing else can take it in a run
abbrev pub boxed_vector : List VarId → Act → Code → Code
boxed_vector (x ∷ y ∷ zs) o b =
    bind (to.One y) o (bind (to.Vector (x ∷ zs)) (leaf (unit (tag_and_zeros (length zs)))) b)
boxed_vector xs o b = bind (to.Vector xs) o b

abbrev pub boxed : T.Target → Act → Code → Code
boxed (to.Vector xs) o b = boxed_vector xs o b
boxed t o b = bind t o b

abbrev pub bound : Bool → T.Target → Act → Code → Code
bound bare t o b = cond bare (boxed t o b) (bind t o b)

-- ---- the pass

-- with a set of members
module _ (S : Procedures) where
  -- an operation without a block: what it gives
  abbrev pub unbox_leaf : Bool → Leaf → Leaf
  unbox_leaf bare (unit v) = unit (given bare v)
  unbox_leaf bare o = o

  unfoldable mutual
    -- whose ends give the number alone or as it was
    pub unbox_act : Bool → Act → Act
    unbox_act bare (leaf o) = leaf (unbox_leaf bare o)
    unbox_act bare (case v as') = case v (unbox_arms bare as')
    unbox_act bare (nested b) = nested (unbox_code bare b)

    pub unbox_code : Bool → Code → Code
    unbox_code bare (end o) = end (unbox_act bare o)
    unbox_code bare (store cs b) = store cs (unbox_code bare b)
    unbox_code bare (bind t o b) =
        bound (act_calls S o) t (unbox_act (act_calls S o) o) (unbox_code bare b)

    pub unbox_arms : Bool → Arms → Arms
    unbox_arms bare no_arm = no_arm
    unbox_arms bare (arm s b as') = arm s (unbox_code bare b) (unbox_arms bare as')

  abbrev pub unbox_arm : Bool → Shape × Code → Shape × Code
  unbox_arm bare a = (a.0, unbox_code bare a.1)

  abbrev pub unboxed_procedure : ℕ → Procedure → Procedure
  unboxed_procedure f q =
      record { name = q.name; params = q.params; body = unbox_code (S f) q.body }

  -- the procedures from number f on
  abbrev pub unboxed_from : ℕ → List Procedure → List Procedure
  unboxed_from f [] = []
  unboxed_from f (q ∷ qs) = unboxed_procedure f q ∷ unboxed_from (suc f) qs

  abbrev pub unboxed : Program → Program
  unboxed g = record g { procs = unboxed_from 0 g.procs }
