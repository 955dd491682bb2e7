-- What is known speaks of tags of the program.
use Rattle.std.proofs.Common.{◌≡◌, ℕ, ◌<◌, List, [], ◌∷◌, length, Some, subst}
use Rattle.seq.proofs.Lists.{none_is_some, some_is, get_within}
use Rattle.seq.specs.Lists.{AllOf}
use Rattle.grin_syntax.specs.declared.program.VarId.{VarId}
use Rattle.grin_syntax.specs.declared.program.Target.{Target}
use Rattle.grin_syntax.specs.declared.program.Shape.{Shape}
use Rattle.grin_syntax.specs.declared.program.Shape.TheVariants as shape
use Rattle.grin_syntax.specs.declared.program.Word as W
use Rattle.grin_syntax.specs.declared.program.Word.TheVariants.{Lit, Var, Global, TagWord}
use Rattle.grin_syntax.specs.declared.program.Val as V
use Rattle.grin_syntax.specs.declared.program.Val.TheVariants.{Node}
use Rattle.grin_syntax.specs.Tags.{tag_id}
use Rattle.grin_syntax.specs.Tree.{Act, leaf, unit, Program}
use Rattle.grin_syntax.specs.Formed.{Scope, WordFormed, ShapeFormed, ActFormed, Formed}
use Rattle.case_simplify.specs.declared.known.Known.{Known}
use Rattle.case_simplify.specs.declared.known.Known.TheVariants.{Tag, Number}
use Rattle.case_simplify.specs.Known.{Facts, nothing_known, told, first_word, second_word, note_known, note_copies, words_in, word_vars, known_after, facts_in_alternative}
use Rattle.case_simplify.proofs.Scoped.{EachFact, noted_word, noted_known, val_words}

module _ (g : Program) where
  abbrev pub Sound : Known → Type 0
  Sound (Tag t) = t.0 < length g.tags
  Sound (Number k) = Unit {0}

  abbrev Tagged : ℕ → Known → Type 0
  Tagged x k = Sound k

  abbrev pub AllSound : Facts → Type 0
  AllSound facts = EachFact Tagged facts

  pub nothing_sound : AllSound nothing_known
  nothing_sound x k e = none_is_some e

  pub noted_sound : Formed g → (facts : Facts) (v : V.Val) (s : Shape) → ShapeFormed g s
      → AllSound facts → AllSound (facts_in_alternative v s facts)
  noted_sound f facts v (shape.Node t xs) k h = noted_word Tagged facts (first_word v) (Tag t)
      (λ x e. k) h
  noted_sound f facts v (shape.Int i) k h = noted_word Tagged _ (second_word v) (Number i)
      (λ x e. tt)
      (noted_word Tagged facts (first_word v) (Tag (tag_id 0))
      (λ x e. get_within g.tags 0 f.number_tag.0 f.number_tag.1) h)
  noted_sound f facts v shape.Else k h = h

  module _ (scope : Scope) where
    told_sound : (facts : Facts) (w : W.Word) (k : Known) → WordFormed g scope w → AllSound facts
        → told facts w ≡ Some k → Sound k
    told_sound facts (Lit i) k f h e = subst Sound (some_is e) tt
    told_sound facts (TagWord t) k f h e = subst Sound (some_is e) f
    told_sound facts (Var x) k f h e = h x.0 k e
    told_sound facts (Global i) k f h e = none_is_some e

    copies_sound : (xs : List VarId) (ws : List W.Word) (facts : Facts)
        → AllOf (WordFormed g scope) ws → AllSound facts → AllSound (note_copies xs ws facts)
    copies_sound [] ws facts f h = h
    copies_sound (x ∷ xs) [] facts f h = h
    copies_sound (x ∷ xs) (w ∷ ws) facts f h = copies_sound xs ws
        (note_known x (told facts w) facts) f.1
        (noted_known Tagged facts x (told facts w) (λ k e. told_sound facts w k f.0 h e) h)

    pub after_sound : (facts : Facts) (t : Target) (o : Act) → ActFormed g scope o → AllSound facts
        → AllSound (known_after t o facts)
    unfolding ActFormed
    after_sound facts t (leaf (unit v)) f h = copies_sound (word_vars t) (words_in v) facts
        (val_words g scope v f) h
    after_sound facts t _ f h = h
