-- How a vectorised program becomes low code. A tag is its number, a number its pattern of 32 bits,
-- and a cell has a word for the tag and one for each field; a block of GRIN becomes a block of low
-- code.
use Rattle.std.specs.Prelude.{ℕ, suc, zero, ◌+◌, ◌-◌, min, Bool, true, false, nat_eq, nat_lt, List, [], ◌∷◌, ◌++◌, map, length, take, drop}
use Rattle.numbers.specs.Numbers.{pattern}
use Rattle.grin_syntax.specs.declared.program.Word as W
use Rattle.grin_syntax.specs.declared.program.Word.TheVariants as word
use Rattle.grin_syntax.specs.declared.program.Val as V
use Rattle.grin_syntax.specs.declared.program.Val.TheVariants as val
use Rattle.grin_syntax.specs.declared.program.Shape as S
use Rattle.grin_syntax.specs.declared.program.Shape.TheVariants as shape
use Rattle.grin_syntax.specs.declared.program.PrimOp as G
use Rattle.grin_syntax.specs.declared.program.PrimOp.TheVariants as grin_op
use Rattle.grin_syntax.specs.declared.program.Cell as C
use Rattle.grin_syntax.specs.Tree as grin
use Rattle.grin_syntax.specs.Tree.{Act, leaf, unit, fetch, fetch_word, update, eval, apply, call, prim, read, write, case, nested, end, store, bind, no_arm}
use Rattle.grin_syntax.specs.Binders.{numbers_of, target_vars, cell_vars}
use Rattle.low_code.specs.declared.program.PrimOp.{PrimOp}
use Rattle.low_code.specs.declared.program.PrimOp.TheVariants as op
use Rattle.low_code.specs.declared.program.Operand.{Operand}
use Rattle.low_code.specs.declared.program.Operand.TheVariants.{Var, Num, Cell}
use Rattle.low_code.specs.declared.program.LowTest.{LowTest}
use Rattle.low_code.specs.Tree as low
use Rattle.low_translate.specs.declared.blocks.Goal.{Goal}
use Rattle.low_code.specs.Tree.{Code, Arms, set, load, save, take as take_cells, put, get, join, give, tail, choose, otherwise, arm}
use Rattle.seq.specs.Lists.{numbers_from}

-- ---- words and values

abbrev pub operand_of : W.Word → Operand
operand_of (word.Lit k) = Num (pattern k)
operand_of (word.Var x) = Var x.0
operand_of (word.Global i) = Cell i
operand_of (word.TagWord t) = Num t.0

abbrev pub operands_of_words : List W.Word → List Operand
operands_of_words ws = map operand_of ws

-- the words of a value: of a node its tag, then its fields
abbrev pub operands_of : V.Val → List Operand
operands_of (val.NodeVar x) = []
operands_of (val.Node t ws) = Num t.0 ∷ operands_of_words ws
operands_of (val.Vector ws) = operands_of_words ws
operands_of (val.One w) = operand_of w ∷ []

-- exactly k words, with zeros at the end
abbrev pub padded_to_width : ℕ → List Operand → List Operand
padded_to_width zero as' = []
padded_to_width (suc k) [] = Num 0 ∷ padded_to_width k []
padded_to_width (suc k) (a ∷ as') = a ∷ padded_to_width k as'

abbrev pub operation_of : G.PrimOp → PrimOp
operation_of grin_op.Add = op.Add
operation_of grin_op.Sub = op.Sub
operation_of grin_op.Mul = op.Mul
operation_of grin_op.Quot = op.Quot
operation_of grin_op.Rem = op.Rem
operation_of grin_op.Eq = op.Eq
operation_of grin_op.Lt = op.Lt

-- ---- variables and cells

abbrev pub variables_of : List ℕ → List Operand
variables_of xs = map Var xs

-- each variable becomes the word at its place, or zero
abbrev pub set_all : List ℕ → List Operand → Code → Code
set_all [] as' c = c
set_all (x ∷ xs) [] c = set x (Num 0) (set_all xs [] c)
set_all (x ∷ xs) (a ∷ as') c = set x a (set_all xs as' c)

-- what an operation gives as its one word goes to the first variable
abbrev pub to_first : List ℕ → (ℕ → Code → Code) → Code → Code
to_first [] e c = c
to_first (x ∷ xs) e c = e x (set_all xs [] c)

-- word i of a cell: past the width it is zero
abbrev pub load_word : (width x : ℕ) → Operand → ℕ → Code → Code
load_word width x a i c = elim (nat_lt i width) [ true ↦ load x a i c | false ↦ set x (Num 0) c ]

-- the words of a cell from word i on
abbrev pub load_all : (width : ℕ) → List ℕ → Operand → ℕ → Code → Code
load_all width [] a i c = c
load_all width (x ∷ xs) a i c = load_word width x a i (load_all width xs a (suc i) c)

-- words into a cell, from word i on
abbrev pub save_all : Operand → ℕ → List Operand → Code → Code
save_all a i [] c = c
save_all a i (b ∷ bs) c = save a i b (save_all a (suc i) bs c)

abbrev pub is_number : Operand → ℕ → Bool
is_number (Num j) k = nat_eq j k
is_number _ k = false

-- a word into a new cell, where zeros stand already
abbrev pub fill_word : Operand → ℕ → Operand → Code → Code
fill_word a i b c = elim (is_number b 0) [ true ↦ c | false ↦ save a i b c ]

-- words into a new cell, from word i on
abbrev pub fills : Operand → ℕ → List Operand → Code → Code
fills a i [] c = c
fills a i (b ∷ bs) c = fill_word a i b (fills a (suc i) bs c)

-- new cells, if any
abbrev pub take_if_any : List ℕ → Code → Code
take_if_any [] c = c
take_if_any (x ∷ xs) c = take_cells (x ∷ xs) c

-- a new cell's words are zeros: of the tag and the fields those are written that are others
abbrev pub store_all : (width : ℕ) → List C.Cell → Code → Code
store_all width [] c = c
store_all width (x ∷ xs) c =
    fills (Var x.var.0) 0 (take width (operands_of x.val)) (store_all width xs c)

-- ---- tests

abbrev pub nth_operand : List Operand → ℕ → Operand
nth_operand [] i = Num 0
nth_operand (a ∷ as') zero = a
nth_operand (a ∷ as') (suc i) = nth_operand as' i

-- a test, unless it is of the number itself
abbrev pub with_test : Operand → ℕ → List LowTest → List LowTest
with_test a k ts = elim (is_number a k) [ true ↦ ts | false ↦ record { left = a; right = k } ∷ ts ]

-- the tests of a pattern on the words of a value: the tag, and after the tag of numbers the number
abbrev pub tests : List Operand → S.Shape → List LowTest
tests as' (shape.Node t xs) = with_test (nth_operand as' 0) t.0 []
tests as' (shape.Int k) =
    with_test (nth_operand as' 0) 0 (with_test (nth_operand as' 1) (pattern k) [])
tests as' shape.Else = []

-- ---- blocks

abbrev pub to_join : List ℕ → Goal
to_join xs = record { words = length xs; leaves = false }

-- how many words the procedures give
abbrev pub results_of : List ℕ → ℕ → ℕ
results_of [] f = 0
results_of (r ∷ rs) zero = r
results_of (r ∷ rs) (suc f) = results_of rs f

module _ (width : ℕ) (results : List ℕ) where
  -- how many words an operation at the end of a block has, beside those that need no variable
  abbrev pub end_words : ℕ → Act → ℕ
  end_words k (leaf (fetch w)) = min k width
  end_words k (leaf (fetch_word w i)) = 1
  end_words k (leaf (prim f a b)) = 1
  end_words k (leaf read) = 1
  end_words k (leaf (call f ws)) = results_of results f.0
  end_words k _ = 0

  -- how many numbers an operation without blocks takes, for the site of a call and for further
  -- variables
  abbrev pub plain_numbers : (variables : ℕ) → Act → ℕ
  plain_numbers k (leaf (call f ws)) = 1 + (results_of results f.0 - k)
  plain_numbers k _ = 0

  -- one at the end of a block, whose words go to variables of their own
  abbrev pub through_numbers : Goal → Act → ℕ
  through_numbers goal o = end_words goal.words o + plain_numbers (end_words goal.words o) o

  abbrev pub plain_end_numbers : Goal → Act → ℕ
  plain_end_numbers goal (leaf (unit v)) = 0
  plain_end_numbers goal (grin.leaf grin.fail) = 0
  plain_end_numbers goal (leaf (eval w)) = 0
  plain_end_numbers goal (leaf (apply v w)) = 0
  plain_end_numbers goal (leaf (call f ws)) =
      elim goal.leaves [ true ↦ 1 | false ↦ through_numbers goal (leaf (call f ws)) ]
  plain_end_numbers goal o = through_numbers goal o

  -- and a piece
  unfoldable mutual
    pub act_numbers : (variables : ℕ) → Act → ℕ
    act_numbers k (case v as') = arms_numbers (record { words = k; leaves = false }) as'
    act_numbers k (nested b) = code_numbers (record { words = k; leaves = false }) b
    act_numbers k o = plain_numbers k o

    pub end_numbers : Goal → Act → ℕ
    end_numbers goal (case v as') = arms_numbers goal as'
    end_numbers goal (nested b) = code_numbers goal b
    end_numbers goal o = plain_end_numbers goal o

    pub code_numbers : Goal → grin.Code → ℕ
    code_numbers goal (end o) = end_numbers goal o
    code_numbers goal (store cs b) = code_numbers goal b
    code_numbers goal (bind t o b) = act_numbers (length (target_vars t)) o + code_numbers goal b

    pub arms_numbers : Goal → grin.Arms → ℕ
    arms_numbers goal no_arm = 0
    arms_numbers goal (grin.arm s b as') = code_numbers goal b + arms_numbers goal as'

  -- an operation without blocks whose words go to variables; the further numbers begin at n
  abbrev pub plain_code : (xs : List ℕ) → (n : ℕ) → Act → Code → Code
  plain_code xs n (leaf (unit v)) c = set_all xs (operands_of v) c
  plain_code xs n (leaf (fetch w)) c = load_all width xs (operand_of w) 0 c
  plain_code xs n (leaf (fetch_word w i)) c =
      to_first xs (λ x. load_word width x (operand_of w) i) c
  plain_code xs n (leaf (update w v)) c =
      save_all (operand_of w) 0 (padded_to_width width (operands_of v)) (set_all xs [] c)
  plain_code xs n (leaf (call f ws)) c =
      let r = results_of results f.0 in
      low.call f.0 n (operands_of_words ws) (take r xs ++ numbers_from (suc n) (r - length xs))
      (set_all (drop r xs) [] c)
  plain_code xs n (leaf (prim f a b)) c =
      to_first xs (λ x. low.prim (operation_of f) x (operand_of a) (operand_of b)) c
  plain_code xs n (leaf read) c = to_first xs (λ x. get x) c
  plain_code xs n (leaf (write w)) c = put (operand_of w) (set_all xs [] c)
  plain_code xs n _ c = join xs low.fail c

  -- one at the end of a block, whose words go to variables of their own and are given
  abbrev pub through : Goal → (n : ℕ) → Act → Code
  through goal n o =
      let xs = numbers_from n (end_words goal.words o) in
      plain_code xs (n + end_words goal.words o) o
      (give (padded_to_width goal.words (variables_of xs)))

  abbrev pub plain_end : Goal → (n : ℕ) → Act → Code
  plain_end goal n (leaf (unit v)) = give (padded_to_width goal.words (operands_of v))
  plain_end goal n (grin.leaf grin.fail) = low.fail
  plain_end goal n (leaf (eval w)) = low.fail
  plain_end goal n (leaf (apply v w)) = low.fail
  plain_end goal n (leaf (call f ws)) = elim goal.leaves [
    | true ↦ tail f.0 n (operands_of_words ws)
    | false ↦ through goal n (leaf (call f ws))
  ]
  plain_end goal n o = through goal n o

  -- the translation of a piece whose further numbers begin at n
  unfoldable mutual
    -- an operation whose words go to variables
    pub act_code : (xs : List ℕ) → (n : ℕ) → Act → Code → Code
    act_code xs n (case v as') c = join xs (choose (arms_code (to_join xs) n (operands_of v) as')) c
    act_code xs n (nested b) c = join xs (code_code (to_join xs) n b) c
    act_code xs n o c = plain_code xs n o c

    -- an operation at the end of a block: where the block leaves its procedure, a call is a tail
    -- call
    pub end_code : Goal → (n : ℕ) → Act → Code
    end_code goal n (case v as') = choose (arms_code goal n (operands_of v) as')
    end_code goal n (nested b) = code_code goal n b
    end_code goal n o = plain_end goal n o

    pub code_code : Goal → (n : ℕ) → grin.Code → Code
    code_code goal n (end o) = end_code goal n o
    code_code goal n (store cs b) =
        take_if_any (cell_vars cs) (store_all width cs (code_code goal n b))
    code_code goal n (bind t o b) =
        act_code (target_vars t) n o (code_code goal (n + act_numbers (length (target_vars t)) o) b)

    -- the last alternative needs no test: some alternative fits
    pub arms_code : Goal → (n : ℕ) → List Operand → grin.Arms → Arms
    arms_code goal n as' no_arm = otherwise low.fail
    arms_code goal n as' (grin.arm s b more) = elim more [
      | no_arm ↦ otherwise (code_code goal n b)
      | grin.arm _ _ _ ↦
          arm (tests as' s) (code_code goal n b) (arms_code goal (n + code_numbers goal b) as' more)
    ]

  abbrev pub procedure_code : (n r : ℕ) → grin.Procedure → low.Procedure
  procedure_code n r q = record {
    params = numbers_of q.params;
    results = r;
    body = code_code (record { words = r; leaves = true }) n q.body;
  }

  abbrev pub procedure_numbers : (r : ℕ) → grin.Procedure → ℕ
  procedure_numbers r q = code_numbers (record { words = r; leaves = true }) q.body

  -- procedures, each with the number of its results
  abbrev pub procedures_code : (n : ℕ) → List ℕ → List grin.Procedure → List low.Procedure
  procedures_code n (r ∷ rs) (q ∷ qs) =
      procedure_code n r q ∷ procedures_code (n + procedure_numbers r q) rs qs
  procedures_code n _ _ = []

-- a program that writes so many words of its cells
abbrev pub program_code : (width : ℕ) → (written : ℕ) → (results : List ℕ) → (n : ℕ) → grin.Program
    → low.Program
program_code width written results n g = record {
  procs = procedures_code written results n results g.procs;
  start = g.start.0;
  argument = g.argument;
  globals = map (λ c. c.tag.0) g.globals;
  width = width;
}
