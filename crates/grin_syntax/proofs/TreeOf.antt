-- The tree of each operation, statement, alternative and block, by those of its parts.
use Rattle.std.proofs.Common.{◌≡◌, ℕ, List, map, ap, sym, ◌∙◌}
use Rattle.std.specs.declared.alloc.Global.{Global}
use Rattle.std.specs.declared.boxed.Box.{Box}
use Rattle.grin_syntax.specs.declared.program.ProcId.{ProcId}
use Rattle.grin_syntax.specs.declared.program.PrimOp.{PrimOp}
use Rattle.grin_syntax.specs.declared.program.Word.{Word}
use Rattle.grin_syntax.specs.declared.program.Val.{Val}
use Rattle.grin_syntax.specs.declared.program.Target.{Target}
use Rattle.grin_syntax.specs.declared.program.Shape.{Shape}
use Rattle.grin_syntax.specs.declared.program.Cell.{Cell}
use Rattle.grin_syntax.specs.declared.program.Op.{Op}
use Rattle.grin_syntax.specs.declared.program.Op.TheVariants.{Unit, Fetch, FetchWord, Update, Eval, Apply, Call, Prim, Read, Write, Case, Nested, Fail, rolls-Unit, rolls-Fetch, rolls-FetchWord, rolls-Update, rolls-Eval, rolls-Apply, rolls-Call, rolls-Prim, rolls-Read, rolls-Write, rolls-Case, rolls-Nested, rolls-Fail}
use Rattle.grin_syntax.specs.declared.program.Stmt.TheVariants.{Store, Bind, rolls-Store, rolls-Bind}
use Rattle.grin_syntax.specs.declared.program.Alt.{Alt}
use Rattle.grin_syntax.specs.declared.program.Block.{Block}
use Rattle.grin_syntax.specs.declared.program.Op.TheOpen as open'
use Rattle.grin_syntax.specs.declared.program.Op.TheFolds.{fold-roll-Op, fold-roll-Stmt, fold_out-Alt, fold_out-Block}
use Rattle.grin_syntax.specs.Tree.{Code, end, store, bind, Act, leaf, unit, fetch, fetch_word, update, eval, apply, call, prim, read, write, case, nested, fail, act_of, before_of, arm_of, code_of, arms_of, all_before, act_step, stmt_step, alt_step, block_step}

pub act_of-Unit : (v : Val) → act_of (Unit v) ≡ leaf (unit v)
unfolding act_of arm_of code_of
act_of-Unit v = ap act_of (sym (rolls-Unit v)) ∙ fold-roll-Op Act (Code → Code) (Shape × Code) Code
    act_step stmt_step alt_step block_step (open'.Unit v)

pub act_of-Fetch : (w : Word) → act_of (Fetch w) ≡ leaf (fetch w)
unfolding act_of arm_of code_of
act_of-Fetch w = ap act_of (sym (rolls-Fetch w)) ∙ fold-roll-Op Act (Code → Code) (Shape × Code)
    Code act_step stmt_step alt_step block_step (open'.Fetch w)

pub act_of-FetchWord : (w : Word) (i : ℕ) → act_of (FetchWord w i) ≡ leaf (fetch_word w i)
unfolding act_of arm_of code_of
act_of-FetchWord w i = ap act_of (sym (rolls-FetchWord w i)) ∙ fold-roll-Op Act (Code → Code)
    (Shape × Code) Code act_step stmt_step alt_step block_step (open'.FetchWord w i)

pub act_of-Update : (w : Word) (v : Val) → act_of (Update w v) ≡ leaf (update w v)
unfolding act_of arm_of code_of
act_of-Update w v = ap act_of (sym (rolls-Update w v)) ∙ fold-roll-Op Act (Code → Code)
    (Shape × Code) Code act_step stmt_step alt_step block_step (open'.Update w v)

pub act_of-Eval : (w : Word) → act_of (Eval w) ≡ leaf (eval w)
unfolding act_of arm_of code_of
act_of-Eval w = ap act_of (sym (rolls-Eval w)) ∙ fold-roll-Op Act (Code → Code) (Shape × Code) Code
    act_step stmt_step alt_step block_step (open'.Eval w)

pub act_of-Apply : (v : Val) (w : Word) → act_of (Apply v w) ≡ leaf (apply v w)
unfolding act_of arm_of code_of
act_of-Apply v w = ap act_of (sym (rolls-Apply v w)) ∙ fold-roll-Op Act (Code → Code) (Shape × Code)
    Code act_step stmt_step alt_step block_step (open'.Apply v w)

pub act_of-Call : (f : ProcId) (ws : List Word) → act_of (Call f ws) ≡ leaf (call f ws)
unfolding act_of arm_of code_of
act_of-Call f ws = ap act_of (sym (rolls-Call f ws)) ∙ fold-roll-Op Act (Code → Code) (Shape × Code)
    Code act_step stmt_step alt_step block_step (open'.Call f ws)

pub act_of-Prim : (p : PrimOp) (a b : Word) → act_of (Prim p a b) ≡ leaf (prim p a b)
unfolding act_of arm_of code_of
act_of-Prim p a b = ap act_of (sym (rolls-Prim p a b)) ∙ fold-roll-Op Act (Code → Code)
    (Shape × Code) Code act_step stmt_step alt_step block_step (open'.Prim p a b)

pub act_of-Read : act_of Read ≡ leaf read
unfolding act_of arm_of code_of
act_of-Read = ap act_of (sym rolls-Read) ∙ fold-roll-Op Act (Code → Code) (Shape × Code) Code
    act_step stmt_step alt_step block_step open'.Read

pub act_of-Write : (w : Word) → act_of (Write w) ≡ leaf (write w)
unfolding act_of arm_of code_of
act_of-Write w = ap act_of (sym (rolls-Write w)) ∙ fold-roll-Op Act (Code → Code) (Shape × Code)
    Code act_step stmt_step alt_step block_step (open'.Write w)

pub act_of-Case : (v : Val) (alts : List Alt) → act_of (Case v alts) ≡ case v
    (arms_of (map arm_of alts))
unfolding act_of arm_of code_of
act_of-Case v alts = ap act_of (sym (rolls-Case v alts)) ∙ fold-roll-Op Act (Code → Code)
    (Shape × Code) Code act_step stmt_step alt_step block_step (open'.Case v alts)

pub act_of-Nested : (b : Box Block Global) → act_of (Nested b) ≡ nested (code_of b.value)
unfolding act_of arm_of code_of
act_of-Nested b = ap act_of (sym (rolls-Nested b)) ∙ fold-roll-Op Act (Code → Code) (Shape × Code)
    Code act_step stmt_step alt_step block_step (open'.Nested b)

pub act_of-Fail : act_of Fail ≡ leaf fail
unfolding act_of arm_of code_of
act_of-Fail = ap act_of (sym rolls-Fail) ∙ fold-roll-Op Act (Code → Code) (Shape × Code) Code
    act_step stmt_step alt_step block_step open'.Fail

pub before_of-Store : (cells : List Cell) → before_of (Store cells) ≡ store cells
unfolding before_of
before_of-Store cells = ap before_of (sym (rolls-Store cells)) ∙ fold-roll-Stmt Act (Code → Code)
    (Shape × Code) Code act_step stmt_step alt_step block_step (open'.Store cells)

pub before_of-Bind : (t : Target) (o : Op) → before_of (Bind t o) ≡ bind t (act_of o)
unfolding before_of act_of
before_of-Bind t o = ap before_of (sym (rolls-Bind t o)) ∙ fold-roll-Stmt Act (Code → Code)
    (Shape × Code) Code act_step stmt_step alt_step block_step (open'.Bind t o)

pub arm_of-parts : (a : Alt) → arm_of a ≡ (a.pattern, code_of a.body)
unfolding arm_of code_of
arm_of-parts a = fold_out-Alt Act (Code → Code) (Shape × Code) Code act_step stmt_step alt_step
    block_step a

pub code_of-parts : (b : Block) → code_of b ≡ all_before (map before_of b.stmts)
    (end (act_of b.last.value))
unfolding code_of act_of before_of
code_of-parts b = fold_out-Block Act (Code → Code) (Shape × Code) Code act_step stmt_step alt_step
    block_step b

-- blocks and cases of like parts
pub code_again : (a b : Block) → map before_of a.stmts ≡ map before_of b.stmts
    → act_of a.last.value ≡ act_of b.last.value → code_of a ≡ code_of b
code_again a b s l = code_of-parts a ∙ (λ i. all_before (s i) (end (l i))) ∙ sym (code_of-parts b)

pub case_again : (v w : Val) (as' bs : List Alt) (o : Op) → o ≡ Case w bs → v ≡ w
    → map arm_of as' ≡ map arm_of bs → act_of (Case v as') ≡ act_of o
case_again v w as' bs o p e h = act_of-Case v as' ∙ (λ i. case (e i) (arms_of (h i))) ∙ sym
    (act_of-Case w bs) ∙ ap act_of (sym p)

-- images of equal lists
pub images : {A B : Type 0} (f : A → B) {xs ys zs us : List A} → xs ≡ ys → map f ys ≡ map f zs
    → zs ≡ us → map f xs ≡ map f us
images f p q r = ap (map f) p ∙ q ∙ ap (map f) r

pub ruleset tree_of = (
  act_of-Unit,
  act_of-Fetch,
  act_of-FetchWord,
  act_of-Update,
  act_of-Eval,
  act_of-Apply,
  act_of-Call,
  act_of-Prim,
  act_of-Read,
  act_of-Write,
  act_of-Case,
  act_of-Nested,
  act_of-Fail,
  before_of-Store,
  before_of-Bind,
  arm_of-parts,
  code_of-parts,
)
