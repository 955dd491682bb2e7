-- What is told of a variable: by the alternatives around it, or by a solution that has one tag and
-- nothing else for it.
use Rattle.std.specs.Prelude.{ℕ, Bool, true, cond, nat_lt, ◌&&◌, List, [], ◌∷◌, Option, Some, None}
use Rattle.grin_syntax.specs.declared.program.VarId.{VarId}
use Rattle.grin_syntax.specs.declared.program.Cell.{Cell}
use Rattle.grin_syntax.specs.declared.program.Word as W
use Rattle.grin_syntax.specs.declared.program.Word.TheVariants.{Lit, Var, Global, TagWord}
use Rattle.grin_syntax.specs.declared.program.Val as V
use Rattle.grin_syntax.specs.Tags.{tag_id}
use Rattle.grin_meaning.specs.Values.{and_then}
use Rattle.flow_system.specs.declared.fact.Element.{Element as AbstractWord}
use Rattle.flow_system.specs.declared.fact.Element.TheVariants.{Cell as cell_of, Tag as tag, Number as num}
use Rattle.flow_system.specs.declared.fact.Place.TheVariants.{Var as var}
use Rattle.flow_system.specs.declared.fact.Part.TheVariants.{Word as word}
use Rattle.flow_system.specs.Solution.{Solution, same_word}
use Rattle.points_to.specs.declared.flow.Flow.{Flow}
use Rattle.points_to.specs.Found.{found}
use Rattle.case_simplify.specs.declared.known.Known.{Known}
use Rattle.case_simplify.specs.declared.known.Known.TheVariants.{Tag, Number}
use Rattle.case_simplify.specs.Known.{Facts}
use Rattle.grin_rewrite.specs.ByWords.{words_by, val_by, cell_by, cells_by}

-- a solution that is silent of all variables
abbrev pub silent : Solution
silent p q = []

-- what is read of a solution, if there is one
abbrev pub solution_or_empty : Option Flow → Solution
solution_or_empty None = silent
solution_or_empty (Some flow) = found flow

-- each word of a set is this tag
abbrev pub all_are_tag : ℕ → List AbstractWord → Bool
all_are_tag t [] = true
all_are_tag t (u ∷ us) = same_word (tag t) u && all_are_tag t us

-- the tag that is all that a set has
abbrev pub sole : List AbstractWord → Option ℕ
sole [] = None
sole (tag t ∷ us) = cond (all_are_tag t us) (Some t) None
sole (cell_of s ∷ us) = None
sole (num ∷ us) = None

abbrev pub or_else : Option Known → Option Known → Option Known
or_else (Some k) other = Some k
or_else None other = other

abbrev pub literal_of : Known → W.Word
literal_of (Tag t) = TagWord t
literal_of (Number k) = Lit k

abbrev pub literal_or : VarId → Option Known → W.Word
literal_or x (Some k) = literal_of k
literal_or x None = Var x

-- in a program with so many tags
module _ (count : ℕ) (A : Solution) where
  -- a tag of the program that is all that a variable may stand for
  abbrev pub only_tag : ℕ → Option Known
  only_tag x = and_then (sole (A (var x) (word 0))) (λ t.
      cond (nat_lt t count) (Some (Tag (tag_id t))) None)

  -- where these facts are known
  module _ (facts : Facts) where
    abbrev pub told_of : ℕ → Option Known
    told_of x = or_else (facts x) (only_tag x)

    abbrev pub known_word : W.Word → W.Word
    known_word (Lit k) = Lit k
    known_word (Var x) = literal_or x (told_of x.0)
    known_word (Global i) = Global i
    known_word (TagWord t) = TagWord t

    abbrev pub known_words : List W.Word → List W.Word
    known_words ws = words_by known_word ws

    abbrev pub known_val : V.Val → V.Val
    known_val v = val_by known_word v

    abbrev pub known_cell : Cell → Cell
    known_cell c = cell_by known_word c

    abbrev pub known_cells : List Cell → List Cell
    known_cells cs = cells_by known_word cs
