-- The words of the stages.
use Rattle.std.specs.Prelude.{ℕ, List, [], ◌∷◌, codes, Option, find}
use Rattle.std.specs.Str.{bytes_eq}
use Rattle.stage_names.specs.declared.PassName.{PassName}
use Rattle.stage_names.specs.declared.PassName.TheVariants.{Translate, Eval, Apply, Vectorise, Simplify, Fetch, Copy, Update, Unbox, Raise, Flat, Known, Cells, Dead}

-- the word of a stage
abbrev pub word_of : PassName → List ℕ
word_of Translate = codes "translate"
word_of Eval = codes "eval"
word_of Apply = codes "apply"
word_of Vectorise = codes "vectorise"
word_of Simplify = codes "simplify"
word_of Fetch = codes "fetch"
word_of Copy = codes "copy"
word_of Update = codes "update"
word_of Unbox = codes "unbox"
word_of Raise = codes "raise"
word_of Flat = codes "flat"
word_of Known = codes "known"
word_of Cells = codes "cells"
word_of Dead = codes "dead"

-- all stages, in their order
abbrev pub stages : List PassName
stages =
    Translate ∷ Eval ∷ Apply ∷ Vectorise ∷ Simplify ∷ Fetch ∷ Copy ∷ Update ∷ Unbox ∷ Raise ∷ Flat
    ∷ Known ∷ Cells ∷ Dead ∷ []

-- the stage that a word names
abbrev pub stage_named : List ℕ → Option PassName
stage_named word = find (λ stage. bytes_eq word (word_of stage)) stages
