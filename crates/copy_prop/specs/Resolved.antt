-- Programs in which words stand for their copies: from a copy `[x y] <- unit [W V]` on, W stands
-- for x, and V for y. The copy itself stays.
use Rattle.std.specs.Prelude.{List, [], ◌∷◌, Option, Some, None}
use Rattle.grin_syntax.specs.declared.program.VarId.{VarId}
use Rattle.grin_syntax.specs.declared.program.Word as W
use Rattle.grin_syntax.specs.declared.program.Word.TheVariants.{Lit, Var, Global, TagWord}
use Rattle.grin_syntax.specs.Tree.{leaf, case, Program}
use Rattle.grin_meaning.specs.Rewritten.{rewritten}
use Rattle.grin_rewrite.specs.WithFacts.{WithFacts, walk_code}
use Rattle.grin_rewrite.specs.ByWords.{val_by, cells_by, leaf_by}
use Rattle.grin_rewrite.specs.Table.{Facts, nothing_known, note}
use Rattle.copy_prop.specs.Copies.{Alias, copies_of}

-- the word that stands for each variable, if one does
abbrev pub Standing : Type 0
Standing = Facts W.Word

abbrev pub word_for : VarId → Option W.Word → W.Word
word_for x None = Var x
word_for x (Some w) = w

-- the word that stands for a word
abbrev pub as_word : Standing → W.Word → W.Word
as_word stands (Var x) = word_for x (stands x.0)
as_word stands (Lit i) = Lit i
as_word stands (Global i) = Global i
as_word stands (TagWord t) = TagWord t

-- each word stands for its variable too
abbrev pub note_all : List Alias → Standing → Standing
note_all [] stands = stands
note_all (a ∷ as') stands = note_all as' (note a.var a.word stands)

abbrev pub noted_copies : Option (List Alias) → Standing → Standing
noted_copies None stands = stands
noted_copies (Some as') stands = note_all as' stands

-- what becomes of each piece where these words stand for variables
abbrev pub copies_stand : WithFacts Standing
copies_stand = record {
  leaf_becomes = λ stands l. leaf (leaf_by (as_word stands) l);
  value_becomes = λ stands v. val_by (as_word stands) v;
  cells_become = λ stands cs. cells_by (as_word stands) cs;
  case_becomes = λ stands v as'. case v as';
  after = λ stands t o. noted_copies (copies_of t o) stands;
  inside = λ stands v s. stands;
}

abbrev pub resolved : Program → Program
resolved g = rewritten (walk_code copies_stand nothing_known) g
