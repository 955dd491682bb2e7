-- The listing of a program: first a line for each global cell, then each procedure after an empty
-- line.
use Rattle.std.specs.Prelude.{ℕ, suc, List, [], ◌∷◌, ◌++◌, cond, nat_eq, codes, decimal, Option, Some, None, slice_get}
use Rattle.std.specs.List.{flat_map}
use Rattle.std.specs.Fmt.{signed_decimal}
use Rattle.std.specs.Option.{option_map}
use Rattle.grin_syntax.specs.declared.program.TagKind.{TagKind}
use Rattle.grin_syntax.specs.declared.program.TagKind.TheVariants as kind
use Rattle.grin_syntax.specs.declared.program.Tag.{Tag}
use Rattle.grin_syntax.specs.declared.program.TagId.{TagId}
use Rattle.grin_syntax.specs.declared.program.VarId.{VarId}
use Rattle.grin_syntax.specs.declared.program.PrimOp.{PrimOp}
use Rattle.grin_syntax.specs.declared.program.PrimOp.TheVariants.{Add, Sub, Mul, Quot, Rem, Eq, Lt}
use Rattle.grin_syntax.specs.declared.program.Word as W
use Rattle.grin_syntax.specs.declared.program.Word.TheVariants.{Lit, Var, Global, TagWord}
use Rattle.grin_syntax.specs.declared.program.Val as V
use Rattle.grin_syntax.specs.declared.program.Val.TheVariants.{NodeVar, Node, Vector, One}
use Rattle.grin_syntax.specs.declared.program.Target as T
use Rattle.grin_syntax.specs.declared.program.Target.TheVariants as to
use Rattle.grin_syntax.specs.declared.program.Shape as S
use Rattle.grin_syntax.specs.declared.program.Shape.TheVariants as shape
use Rattle.grin_syntax.specs.declared.program.Cell.{Cell}
use Rattle.grin_syntax.specs.declared.program.GlobalCell.{GlobalCell}
use Rattle.grin_syntax.specs.Tree.{Code, end, store, bind, Act, leaf, unit, fetch, fetch_word, update, eval, apply, call, prim, read, write, case, nested, fail, Arms, no_arm, arm, Procedure, Program}
use Rattle.grin_syntax.specs.Binders.{procedure_vars}

-- the rank of a variable: the place, from 0, at which it stands first
abbrev pub place : ℕ → List ℕ → Option ℕ
place x [] = None
place x (y ∷ ys) = cond (nat_eq x y) (Some 0) (option_map suc (place x ys))

-- the first of two that is there
abbrev pub or_else : Option ℕ → Option ℕ → Option ℕ
or_else (Some k) o = Some k
or_else None o = o

abbrev pub number_text : Option ℕ → List ℕ
number_text None = []
number_text (Some k) = decimal k

abbrev pub kind_text : TagKind → ℕ → List ℕ
kind_text kind.Con missing = codes "C"
kind_text kind.Fun missing = codes "F"
kind_text kind.Part missing = codes "P" ++ decimal missing

abbrev pub tag_text : Option Tag → List ℕ
tag_text None = []
tag_text (Some t) = kind_text t.kind t.missing ++ t.name

abbrev pub global_text : Option GlobalCell → List ℕ
global_text None = []
global_text (Some c) = c.name

abbrev pub procedure_name : Option Procedure → List ℕ
procedure_name None = []
procedure_name (Some q) = q.name

abbrev pub operator : PrimOp → List ℕ
operator Add = codes "add"
operator Sub = codes "sub"
operator Mul = codes "mul"
operator Quot = codes "quot"
operator Rem = codes "rem"
operator Eq = codes "eq"
operator Lt = codes "lt"

-- each text after a space
abbrev pub spaced : {A : Type 0} → (A → List ℕ) → List A → List ℕ
spaced text xs = flat_map (λ x. codes " " ++ text x) xs

-- the texts with a space between them
abbrev pub joined : {A : Type 0} → (A → List ℕ) → List A → List ℕ
joined text [] = []
joined text (x ∷ xs) = text x ++ spaced text xs

-- two spaces more
abbrev pub deeper : List ℕ → List ℕ
deeper margin = margin ++ codes "  "

-- in a procedure, where each variable has a rank
module _ (rank : ℕ → Option ℕ) where
  unfoldable pub var_text : VarId → List ℕ
  var_text x = codes "v" ++ number_text (rank x.0)

  abbrev pub target_text : T.Target → List ℕ
  target_text to.Nothing = []
  target_text (to.Node x) = var_text x ++ codes " <- "
  target_text (to.One x) = var_text x ++ codes " <- "
  target_text (to.Vector xs) = codes "[" ++ joined var_text xs ++ codes "] <- "

module _ (p : Program) where
  abbrev pub tag_name : TagId → List ℕ
  tag_name t = tag_text (slice_get p.tags t.0)

  abbrev pub global_line : GlobalCell → List ℕ
  global_line c = codes "global " ++ c.name ++ codes " = (" ++ tag_name c.tag ++ codes ")\n"

  module _ (rank : ℕ → Option ℕ) where
    abbrev pub word_text : W.Word → List ℕ
    word_text (Lit k) = signed_decimal k
    word_text (Var x) = var_text rank x
    word_text (Global i) = global_text (slice_get p.globals i)
    word_text (TagWord t) = codes "#" ++ tag_name t

    abbrev pub val_text : V.Val → List ℕ
    val_text (NodeVar x) = var_text rank x
    val_text (Node t ws) = codes "(" ++ tag_name t ++ spaced word_text ws ++ codes ")"
    val_text (Vector ws) = codes "[" ++ joined word_text ws ++ codes "]"
    val_text (One w) = word_text w

    abbrev pub shape_text : S.Shape → List ℕ
    shape_text (shape.Node t xs) = codes "(" ++ tag_name t ++ spaced (var_text rank) xs ++ codes ")"
    shape_text (shape.Int k) = codes "(CInt " ++ signed_decimal k ++ codes ")"
    shape_text shape.Else = codes "else"

    abbrev pub cell_line : List ℕ → Cell → List ℕ
    cell_line margin c =
        margin ++ var_text rank c.var ++ codes " = " ++ val_text c.val ++ codes "\n"

    -- the first line of an operation
    unfoldable pub first_line : Act → List ℕ
    first_line (leaf (unit v)) = codes "unit " ++ val_text v
    first_line (leaf (fetch w)) = codes "fetch " ++ word_text w
    first_line (leaf (fetch_word w i)) = codes "fetch " ++ word_text w ++ codes " " ++ decimal i
    first_line (leaf (update w v)) = codes "update " ++ word_text w ++ codes " " ++ val_text v
    first_line (leaf (eval w)) = codes "eval " ++ word_text w
    first_line (leaf (apply v w)) = codes "apply " ++ val_text v ++ codes " " ++ word_text w
    first_line (leaf (call f ws)) =
        codes "call " ++ procedure_name (slice_get p.procs f.0) ++ spaced word_text ws
    first_line (leaf (prim o a b)) =
        operator o ++ codes " " ++ word_text a ++ codes " " ++ word_text b
    first_line (leaf read) = codes "read"
    first_line (leaf (write w)) = codes "write " ++ word_text w
    first_line (case v as') = codes "case " ++ val_text v ++ codes " of"
    first_line (nested b) = codes "do"
    first_line (leaf fail) = codes "fail"

    unfoldable mutual
      -- the lines of an operation after its first one; the margin is that of the first line
      pub rest_text : List ℕ → Act → List ℕ
      rest_text margin (case v as') = arms_text (deeper margin) as'
      rest_text margin (nested b) = code_text (deeper margin) b
      rest_text margin _ = []

      pub code_text : List ℕ → Code → List ℕ
      code_text margin (end o) = margin ++ (first_line o ++ codes "\n" ++ rest_text margin o)
      code_text margin (store cs b) =
          margin ++ codes "store\n" ++ flat_map (cell_line (deeper margin)) cs ++ code_text margin b
      code_text margin (bind t o b) =
          margin ++ target_text rank t ++ (first_line o ++ codes "\n" ++ rest_text margin o)
          ++ code_text margin b

      pub arms_text : List ℕ → Arms → List ℕ
      arms_text margin no_arm = []
      arms_text margin (arm s b as') =
          margin ++ shape_text s ++ codes " ->\n" ++ code_text (deeper margin) b
          ++ arms_text margin as'

    -- an operation, from its first word to the end of its last line
    abbrev pub act_text : List ℕ → Act → List ℕ
    act_text margin o = first_line o ++ codes "\n" ++ rest_text margin o

  -- a variable's rank is that among the variables that its procedure binds
  abbrev pub procedure_text : Procedure → List ℕ
  procedure_text q =
      let rank : ℕ → Option ℕ = λ x. place x (procedure_vars q) in
      codes "\n" ++ q.name ++ spaced (var_text rank) q.params ++ codes " =\n"
      ++ code_text rank (codes "  ") q.body

  abbrev pub listing : List ℕ
  listing = flat_map global_line p.globals ++ flat_map procedure_text p.procs
