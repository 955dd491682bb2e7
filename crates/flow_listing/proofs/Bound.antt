-- A block binds what its statements bind, one after the other, and then its last operation; a case
-- binds what its alternatives do.
use Rattle.std.proofs.Common.{◌≡◌, ℕ, List, [], ◌∷◌, ◌++◌, map, refl, sym, ap, ◌∙◌, append_assoc}
use Rattle.std.specs.List.{flat_map}
use Rattle.grin_syntax.specs.declared.program.Stmt.{Stmt}
use Rattle.grin_syntax.specs.declared.program.Stmt.TheVariants.{Store, Bind}
use Rattle.grin_syntax.specs.declared.program.Alt.{Alt}
use Rattle.grin_syntax.specs.declared.program.Block.{Block}
use Rattle.grin_syntax.specs.declared.program.Val.{Val}
use Rattle.grin_syntax.specs.declared.program.ProcId.{ProcId}
use Rattle.grin_syntax.specs.declared.program.PrimOp.{PrimOp}
use Rattle.grin_syntax.specs.declared.program.Word.{Word}
use Rattle.grin_syntax.specs.declared.program.Op.{Op}
use Rattle.grin_syntax.specs.declared.program.Op.TheVariants.{Unit, Fetch, FetchWord, Update, Eval, Apply, Call, Prim, Read, Write, Case, Fail}
use Rattle.grin_syntax.specs.Tree.{Code, end, act_of, before_of, arm_of, code_of, all_before, arms_of}
use Rattle.grin_syntax.proofs.TreeOf.{before_of-Store, before_of-Bind, code_of-parts, arm_of-parts, act_of-Unit, act_of-Fetch, act_of-FetchWord, act_of-Update, act_of-Eval, act_of-Apply, act_of-Call, act_of-Prim, act_of-Read, act_of-Write, act_of-Case, act_of-Fail}
use Rattle.flow_listing.specs.declared.binder.Binder.{Binder}
use Rattle.flow_listing.specs.Binders.{target_binders, shape_binders, act_binders, code_binders, arms_binders, stmt_binders, alt_binders}

before_binders : (s : Stmt) (c : Code) → code_binders (before_of s c) ≡ stmt_binders s
    ++ code_binders c
unfolding act_binders
before_binders (Store cells) c = λ i. code_binders (before_of-Store cells i c)
before_binders (Bind t o) c = (λ i. code_binders (before_of-Bind t o i c)) ∙ sym
    (append_assoc (target_binders t) (act_binders (act_of o)) (code_binders c))

all_before_binders : (ss : List Stmt) (c : Code) → code_binders (all_before (map before_of ss) c) ≡
    flat_map stmt_binders ss ++ code_binders c
all_before_binders [] c = refl
all_before_binders (s ∷ ss) c = before_binders s (all_before (map before_of ss) c) ∙ ap
    (λ t. stmt_binders s ++ t) (all_before_binders ss c) ∙ sym
    (append_assoc (stmt_binders s) (flat_map stmt_binders ss) (code_binders c))

pub block_binders : (b : Block) → code_binders (code_of b) ≡ flat_map stmt_binders b.stmts
    ++ act_binders (act_of b.last.value)
unfolding act_binders
block_binders b = ap code_binders (code_of-parts b) ∙ all_before_binders b.stmts
    (end (act_of b.last.value))

all_arms_binders : (as' : List Alt) → arms_binders (arms_of (map arm_of as')) ≡ flat_map alt_binders
    as'
unfolding act_binders
all_arms_binders [] = refl
all_arms_binders (a ∷ as') =
    (λ i. shape_binders (arm_of-parts a i).0 ++
    (code_binders (arm_of-parts a i).1 ++ arms_binders (arms_of (map arm_of as'))))
    ∙ ap (λ t. shape_binders a.pattern ++ (code_binders (code_of a.body) ++ t))
    (all_arms_binders as')
    ∙ sym (append_assoc (shape_binders a.pattern) (code_binders (code_of a.body))
    (flat_map alt_binders as'))

pub case_binders : (v : Val) (as' : List Alt) → act_binders (act_of (Case v as')) ≡ flat_map
    alt_binders as'
unfolding act_binders
case_binders v as' = ap act_binders (act_of-Case v as') ∙ all_arms_binders as'

pub binders-Unit : (v : Val) → act_binders (act_of (Unit v)) ≡ []
unfolding act_binders
binders-Unit v = ap act_binders (act_of-Unit v)

pub binders-Fetch : (w : Word) → act_binders (act_of (Fetch w)) ≡ []
unfolding act_binders
binders-Fetch w = ap act_binders (act_of-Fetch w)

pub binders-FetchWord : (w : Word) (i : ℕ) → act_binders (act_of (FetchWord w i)) ≡ []
unfolding act_binders
binders-FetchWord w i = ap act_binders (act_of-FetchWord w i)

pub binders-Update : (w : Word) (v : Val) → act_binders (act_of (Update w v)) ≡ []
unfolding act_binders
binders-Update w v = ap act_binders (act_of-Update w v)

pub binders-Eval : (w : Word) → act_binders (act_of (Eval w)) ≡ []
unfolding act_binders
binders-Eval w = ap act_binders (act_of-Eval w)

pub binders-Apply : (v : Val) (w : Word) → act_binders (act_of (Apply v w)) ≡ []
unfolding act_binders
binders-Apply v w = ap act_binders (act_of-Apply v w)

pub binders-Call : (f : ProcId) (ws : List Word) → act_binders (act_of (Call f ws)) ≡ []
unfolding act_binders
binders-Call f ws = ap act_binders (act_of-Call f ws)

pub binders-Prim : (o : PrimOp) (a b : Word) → act_binders (act_of (Prim o a b)) ≡ []
unfolding act_binders
binders-Prim o a b = ap act_binders (act_of-Prim o a b)

pub binders-Read : act_binders (act_of Read) ≡ []
unfolding act_binders
binders-Read = ap act_binders act_of-Read

pub binders-Write : (w : Word) → act_binders (act_of (Write w)) ≡ []
unfolding act_binders
binders-Write w = ap act_binders (act_of-Write w)

pub binders-Fail : act_binders (act_of Fail) ≡ []
unfolding act_binders
binders-Fail = ap act_binders act_of-Fail

-- a block after the variables of its statements and of its last operation are noted
pub block_noted : (b : Block) (xs : List Stmt) (o : Op) (t0 t1 t2 : List Binder) → t1 ≡ t0
    ++ flat_map stmt_binders xs → xs ≡ b.stmts → o ≡ b.last.value → t2 ≡ t1
    ++ act_binders (act_of o) → t2 ≡ t0 ++ code_binders (code_of b)
block_noted b xs o t0 t1 t2 e1 ex eo e2 =
    e2 ∙ (λ i. e1 i ++ act_binders (act_of (eo i))) ∙
    (λ i. (t0 ++ flat_map stmt_binders (ex i)) ++ act_binders (act_of b.last.value))
    ∙ append_assoc t0 (flat_map stmt_binders b.stmts) (act_binders (act_of b.last.value)) ∙ ap
    (λ t. t0 ++ t) (sym (block_binders b))

-- the pieces of all of a list
pub all_pieces : {A : Type 0} (f : A → List Binder) (xs ys : List A) (t0 t : List Binder) → xs ≡ ys
    → t ≡ t0 ++ flat_map f xs → t ≡ t0 ++ flat_map f ys
all_pieces f xs ys t0 t e h = h ∙ (λ i. t0 ++ flat_map f (e i))
