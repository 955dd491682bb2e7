-- A block is its statements one after the other and its last operation, a case its alternatives:
-- variables and text.
use Rattle.std.proofs.Common.{◌≡◌, ℕ, List, [], ◌∷◌, ◌++◌, map, Option, refl, sym, ap, ◌∙◌, append_assoc}
use Rattle.std.specs.Prelude.{codes, decimal, slice_get}
use Rattle.std.specs.List.{flat_map}
use Rattle.grin_syntax.specs.declared.program.Stmt.{Stmt}
use Rattle.grin_syntax.specs.declared.program.Stmt.TheVariants.{Store, Bind}
use Rattle.grin_syntax.specs.declared.program.Alt.{Alt}
use Rattle.grin_syntax.specs.declared.program.Block.{Block}
use Rattle.grin_syntax.specs.declared.program.Proc.{Proc}
use Rattle.grin_syntax.specs.declared.program.Grin.{Grin}
use Rattle.grin_syntax.specs.declared.program.Val.{Val}
use Rattle.std.specs.declared.alloc.Global.{Global}
use Rattle.std.specs.declared.boxed.Box.{Box}
use Rattle.grin_syntax.specs.declared.program.ProcId.{ProcId}
use Rattle.grin_syntax.specs.declared.program.PrimOp.{PrimOp}
use Rattle.grin_syntax.specs.declared.program.Word.{Word}
use Rattle.grin_syntax.specs.declared.program.Op.{Op}
use Rattle.grin_syntax.specs.declared.program.Op.TheVariants.{Unit, Fetch, FetchWord, Update, Eval, Apply, Call, Prim, Read, Write, Case, Nested, Fail}
use Rattle.grin_syntax.specs.Tree.{program_of, Procedure, procedure_of, Code, end, Program, act_of, before_of, arm_of, code_of, all_before, arms_of}
use Rattle.grin_syntax.specs.Binders.{procedure_vars, target_vars, shape_vars, act_vars, code_vars, arms_vars}
use Rattle.grin_syntax.specs.Listing.{listing, global_line, place, var_text, procedure_text, operator, procedure_name, spaced, word_text, val_text, first_line, deeper, shape_text, act_text, rest_text, code_text, arms_text}
use Rattle.grin_syntax.specs.Statements.{stmt_vars, alt_vars, stmt_text, alt_text}
use Rattle.grin_syntax.proofs.TreeOf.{before_of-Store, before_of-Bind, code_of-parts, arm_of-parts, act_of-Unit, act_of-Fetch, act_of-FetchWord, act_of-Update, act_of-Eval, act_of-Apply, act_of-Call, act_of-Prim, act_of-Read, act_of-Write, act_of-Case, act_of-Nested, act_of-Fail}

before_vars : (s : Stmt) (c : Code) → code_vars (before_of s c) ≡ stmt_vars s ++ code_vars c
unfolding act_vars
before_vars (Store cells) c = λ i. code_vars (before_of-Store cells i c)
before_vars (Bind t o) c = (λ i. code_vars (before_of-Bind t o i c)) ∙ sym
    (append_assoc (target_vars t) (act_vars (act_of o)) (code_vars c))

all_before_vars : (ss : List Stmt) (c : Code) → code_vars (all_before (map before_of ss) c) ≡
    flat_map stmt_vars ss ++ code_vars c
all_before_vars [] c = refl
all_before_vars (s ∷ ss) c = before_vars s (all_before (map before_of ss) c) ∙ ap
    (λ t. stmt_vars s ++ t) (all_before_vars ss c) ∙ sym
    (append_assoc (stmt_vars s) (flat_map stmt_vars ss) (code_vars c))

pub block_vars : (b : Block) → code_vars (code_of b) ≡ flat_map stmt_vars b.stmts
    ++ act_vars (act_of b.last.value)
unfolding act_vars
block_vars b = ap code_vars (code_of-parts b) ∙ all_before_vars b.stmts (end (act_of b.last.value))

all_arms_vars : (as' : List Alt) → arms_vars (arms_of (map arm_of as')) ≡ flat_map alt_vars as'
unfolding act_vars
all_arms_vars [] = refl
all_arms_vars (a ∷ as') =
    (λ i. shape_vars (arm_of-parts a i).0 ++
    (code_vars (arm_of-parts a i).1 ++ arms_vars (arms_of (map arm_of as'))))
    ∙ ap (λ t. shape_vars a.pattern ++ (code_vars (code_of a.body) ++ t)) (all_arms_vars as')
    ∙ sym (append_assoc (shape_vars a.pattern) (code_vars (code_of a.body)) (flat_map alt_vars as'))

pub case_vars : (v : Val) (as' : List Alt) → act_vars (act_of (Case v as')) ≡ flat_map alt_vars as'
unfolding act_vars
case_vars v as' = ap act_vars (act_of-Case v as') ∙ all_arms_vars as'

module _ (p : Program) (rank : ℕ → Option ℕ) (margin : List ℕ) where
  before_text : (s : Stmt) (c : Code) → code_text p rank margin (before_of s c) ≡ stmt_text p rank
      margin s ++ code_text p rank margin c
  unfolding rest_text
  before_text (Store cells) c = λ i. code_text p rank margin (before_of-Store cells i c)
  before_text (Bind t o) c = λ i. code_text p rank margin (before_of-Bind t o i c)

  all_before_text : (ss : List Stmt) (c : Code) → code_text p rank margin
      (all_before (map before_of ss) c) ≡ flat_map (stmt_text p rank margin) ss
      ++ code_text p rank margin c
  all_before_text [] c = refl
  all_before_text (s ∷ ss) c =
      before_text s (all_before (map before_of ss) c)
      ∙ ap (λ t. stmt_text p rank margin s ++ t) (all_before_text ss c)
      ∙ sym (append_assoc (stmt_text p rank margin s) (flat_map (stmt_text p rank margin) ss)
      (code_text p rank margin c))

  pub block_text : (b : Block) → code_text p rank margin (code_of b) ≡ flat_map
      (stmt_text p rank margin) b.stmts ++ (margin ++ act_text p rank margin (act_of b.last.value))
  unfolding rest_text
  block_text b = ap (code_text p rank margin) (code_of-parts b) ∙ all_before_text b.stmts
      (end (act_of b.last.value))

  pub alts_text : (as' : List Alt) → arms_text p rank margin (arms_of (map arm_of as')) ≡ flat_map
      (alt_text p rank margin) as'
  unfolding rest_text
  alts_text [] = refl
  alts_text (a ∷ as') =
      (λ i. margin ++ shape_text p rank (arm_of-parts a i).0 ++ codes " ->\n"
      ++ code_text p rank (deeper margin) (arm_of-parts a i).1
      ++ arms_text p rank margin (arms_of (map arm_of as')))
      ∙ ap (λ t. alt_text p rank margin a ++ t) (alts_text as')

-- the first line of each operation
module _ (p : Program) (rank : ℕ → Option ℕ) where
  pub line-Unit : (v : Val) → first_line p rank (act_of (Unit v)) ≡ codes "unit "
      ++ val_text p rank v
  unfolding first_line
  line-Unit v = ap (first_line p rank) (act_of-Unit v)

  pub line-Fetch : (w : Word) → first_line p rank (act_of (Fetch w)) ≡ codes "fetch "
      ++ word_text p rank w
  unfolding first_line
  line-Fetch w = ap (first_line p rank) (act_of-Fetch w)

  pub line-FetchWord : (w : Word) (i : ℕ) → first_line p rank (act_of (FetchWord w i)) ≡ codes
      "fetch " ++ word_text p rank w ++ codes " " ++ decimal i
  unfolding first_line
  line-FetchWord w i = ap (first_line p rank) (act_of-FetchWord w i)

  pub line-Update : (w : Word) (v : Val) → first_line p rank (act_of (Update w v)) ≡ codes "update "
      ++ word_text p rank w ++ codes " " ++ val_text p rank v
  unfolding first_line
  line-Update w v = ap (first_line p rank) (act_of-Update w v)

  pub line-Eval : (w : Word) → first_line p rank (act_of (Eval w)) ≡ codes "eval "
      ++ word_text p rank w
  unfolding first_line
  line-Eval w = ap (first_line p rank) (act_of-Eval w)

  pub line-Apply : (v : Val) (w : Word) → first_line p rank (act_of (Apply v w)) ≡ codes "apply "
      ++ val_text p rank v ++ codes " " ++ word_text p rank w
  unfolding first_line
  line-Apply v w = ap (first_line p rank) (act_of-Apply v w)

  pub line-Call : (f : ProcId) (ws : List Word) → first_line p rank (act_of (Call f ws)) ≡ codes
      "call " ++ procedure_name (slice_get p.procs f.0) ++ spaced (word_text p rank) ws
  unfolding first_line
  line-Call f ws = ap (first_line p rank) (act_of-Call f ws)

  pub line-Prim : (o : PrimOp) (a b : Word) → first_line p rank (act_of (Prim o a b)) ≡ operator o
      ++ codes " " ++ word_text p rank a ++ codes " " ++ word_text p rank b
  unfolding first_line
  line-Prim o a b = ap (first_line p rank) (act_of-Prim o a b)

  pub line-Read : first_line p rank (act_of Read) ≡ codes "read"
  unfolding first_line
  line-Read = ap (first_line p rank) (act_of-Read)

  pub line-Write : (w : Word) → first_line p rank (act_of (Write w)) ≡ codes "write "
      ++ word_text p rank w
  unfolding first_line
  line-Write w = ap (first_line p rank) (act_of-Write w)

  pub line-Case : (v : Val) (as' : List Alt) → first_line p rank (act_of (Case v as')) ≡ codes
      "case " ++ val_text p rank v ++ codes " of"
  unfolding first_line
  line-Case v as' = ap (first_line p rank) (act_of-Case v as')

  pub line-Nested : (b : Box Block Global) → first_line p rank (act_of (Nested b)) ≡ codes "do"
  unfolding first_line
  line-Nested b = ap (first_line p rank) (act_of-Nested b)

  pub line-Fail : first_line p rank (act_of Fail) ≡ codes "fail"
  unfolding first_line
  line-Fail = ap (first_line p rank) (act_of-Fail)

pub ruleset first_lines = (
  line-Unit,
  line-Fetch,
  line-FetchWord,
  line-Update,
  line-Eval,
  line-Apply,
  line-Call,
  line-Prim,
  line-Read,
  line-Write,
  line-Case,
  line-Nested,
  line-Fail,
)

module _ (p : Program) (rank : ℕ → Option ℕ) where
  pub rest-Case : (margin : List ℕ) (v : Val) (as' : List Alt)
      → rest_text p rank margin (act_of (Case v as')) ≡ flat_map (alt_text p rank (deeper margin))
      as'
  unfolding rest_text
  rest-Case margin v as' = ap (rest_text p rank margin) (act_of-Case v as') ∙ alts_text p rank
      (deeper margin) as'

  pub rest-Nested : (margin : List ℕ) (b : Box Block Global)
      → rest_text p rank margin (act_of (Nested b)) ≡ code_text p rank (deeper margin)
      (code_of b.value)
  unfolding rest_text
  rest-Nested margin b = ap (rest_text p rank margin) (act_of-Nested b)

  pub rest-Unit : (margin : List ℕ) (v : Val) → rest_text p rank margin (act_of (Unit v)) ≡ []
  unfolding rest_text
  rest-Unit margin v = ap (rest_text p rank margin) (act_of-Unit v)

  pub rest-Fetch : (margin : List ℕ) (w : Word) → rest_text p rank margin (act_of (Fetch w)) ≡ []
  unfolding rest_text
  rest-Fetch margin w = ap (rest_text p rank margin) (act_of-Fetch w)

  pub rest-FetchWord : (margin : List ℕ) (w : Word) (i : ℕ)
      → rest_text p rank margin (act_of (FetchWord w i)) ≡ []
  unfolding rest_text
  rest-FetchWord margin w i = ap (rest_text p rank margin) (act_of-FetchWord w i)

  pub rest-Update : (margin : List ℕ) (w : Word) (v : Val)
      → rest_text p rank margin (act_of (Update w v)) ≡ []
  unfolding rest_text
  rest-Update margin w v = ap (rest_text p rank margin) (act_of-Update w v)

  pub rest-Eval : (margin : List ℕ) (w : Word) → rest_text p rank margin (act_of (Eval w)) ≡ []
  unfolding rest_text
  rest-Eval margin w = ap (rest_text p rank margin) (act_of-Eval w)

  pub rest-Apply : (margin : List ℕ) (v : Val) (w : Word)
      → rest_text p rank margin (act_of (Apply v w)) ≡ []
  unfolding rest_text
  rest-Apply margin v w = ap (rest_text p rank margin) (act_of-Apply v w)

  pub rest-Call : (margin : List ℕ) (f : ProcId) (ws : List Word)
      → rest_text p rank margin (act_of (Call f ws)) ≡ []
  unfolding rest_text
  rest-Call margin f ws = ap (rest_text p rank margin) (act_of-Call f ws)

  pub rest-Prim : (margin : List ℕ) (o : PrimOp) (a b : Word)
      → rest_text p rank margin (act_of (Prim o a b)) ≡ []
  unfolding rest_text
  rest-Prim margin o a b = ap (rest_text p rank margin) (act_of-Prim o a b)

  pub rest-Read : (margin : List ℕ) → rest_text p rank margin (act_of Read) ≡ []
  unfolding rest_text
  rest-Read margin = ap (rest_text p rank margin) act_of-Read

  pub rest-Write : (margin : List ℕ) (w : Word) → rest_text p rank margin (act_of (Write w)) ≡ []
  unfolding rest_text
  rest-Write margin w = ap (rest_text p rank margin) (act_of-Write w)

  pub rest-Fail : (margin : List ℕ) → rest_text p rank margin (act_of Fail) ≡ []
  unfolding rest_text
  rest-Fail margin = ap (rest_text p rank margin) act_of-Fail

  -- a block after its statements and its last operation are put
  pub block_put : (b : Block) (m m' : List ℕ) (xs : List Stmt) (o : Op) (t0 t1 t2 t3 : List ℕ)
      → m' ≡ m → t1 ≡ t0 ++ flat_map (stmt_text p rank m') xs → xs ≡ b.stmts → o ≡ b.last.value
      → t2 ≡ t1 ++ m'
      → t3 ≡ t2 ++ act_text p rank m' (act_of o) → t3 ≡ t0 ++ code_text p rank m (code_of b)
  block_put b m m' xs o t0 t1 t2 t3 em e1 ex eo e2 e3 =
      let f : List ℕ → List ℕ = λ m. act_text p rank m (act_of b.last.value) in
      e3 ∙ (λ i. e2 i ++ act_text p rank m' (act_of (eo i))) ∙ (λ i. (e1 i ++ m') ++ f m')
      ∙ (λ i. ((t0 ++ flat_map (stmt_text p rank (em i)) (ex i)) ++ em i) ++ f (em i))
      ∙ append_assoc (t0 ++ flat_map (stmt_text p rank m) b.stmts) m (f m)
      ∙ append_assoc t0 (flat_map (stmt_text p rank m) b.stmts) (m ++ f m)
      ∙ ap (λ t. t0 ++ t) (sym (block_text p rank m b))

pub vars-Unit : (v : Val) → act_vars (act_of (Unit v)) ≡ []
unfolding act_vars
vars-Unit v = ap act_vars (act_of-Unit v)

pub vars-Fetch : (w : Word) → act_vars (act_of (Fetch w)) ≡ []
unfolding act_vars
vars-Fetch w = ap act_vars (act_of-Fetch w)

pub vars-FetchWord : (w : Word) (i : ℕ) → act_vars (act_of (FetchWord w i)) ≡ []
unfolding act_vars
vars-FetchWord w i = ap act_vars (act_of-FetchWord w i)

pub vars-Update : (w : Word) (v : Val) → act_vars (act_of (Update w v)) ≡ []
unfolding act_vars
vars-Update w v = ap act_vars (act_of-Update w v)

pub vars-Eval : (w : Word) → act_vars (act_of (Eval w)) ≡ []
unfolding act_vars
vars-Eval w = ap act_vars (act_of-Eval w)

pub vars-Apply : (v : Val) (w : Word) → act_vars (act_of (Apply v w)) ≡ []
unfolding act_vars
vars-Apply v w = ap act_vars (act_of-Apply v w)

pub vars-Call : (f : ProcId) (ws : List Word) → act_vars (act_of (Call f ws)) ≡ []
unfolding act_vars
vars-Call f ws = ap act_vars (act_of-Call f ws)

pub vars-Prim : (o : PrimOp) (a b : Word) → act_vars (act_of (Prim o a b)) ≡ []
unfolding act_vars
vars-Prim o a b = ap act_vars (act_of-Prim o a b)

pub vars-Read : act_vars (act_of Read) ≡ []
unfolding act_vars
vars-Read = ap act_vars act_of-Read

pub vars-Write : (w : Word) → act_vars (act_of (Write w)) ≡ []
unfolding act_vars
vars-Write w = ap act_vars (act_of-Write w)

pub vars-Fail : act_vars (act_of Fail) ≡ []
unfolding act_vars
vars-Fail = ap act_vars act_of-Fail

-- a block after the variables of its statements and of its last operation are noted
pub block_noted : (b : Block) (xs : List Stmt) (o : Op) (t0 t1 t2 : List ℕ) → t1 ≡ t0
    ++ flat_map stmt_vars xs → xs ≡ b.stmts → o ≡ b.last.value → t2 ≡ t1 ++ act_vars (act_of o)
    → t2 ≡ t0 ++ code_vars (code_of b)
block_noted b xs o t0 t1 t2 e1 ex eo e2 =
    e2 ∙ (λ i. e1 i ++ act_vars (act_of (eo i))) ∙
    (λ i. (t0 ++ flat_map stmt_vars (ex i)) ++ act_vars (act_of b.last.value))
    ∙ append_assoc t0 (flat_map stmt_vars b.stmts) (act_vars (act_of b.last.value)) ∙ ap
    (λ t. t0 ++ t) (sym (block_vars b))

-- the pieces of all of a list
pub all_pieces : {A : Type 0} (f : A → List ℕ) (xs ys : List A) (t0 t : List ℕ) → xs ≡ ys → t ≡ t0
    ++ flat_map f xs → t ≡ t0 ++ flat_map f ys
all_pieces f xs ys t0 t e h = h ∙ (λ i. t0 ++ flat_map f (e i))

-- the text of the procedures, of their trees
pub procs_text : (f : Procedure → List ℕ) (ps : List Proc)
    → flat_map f (map procedure_of ps) ≡ flat_map (λ q. f (procedure_of q)) ps
procs_text f [] = refl
procs_text f (q ∷ ps) = ap (λ t. f (procedure_of q) ++ t) (procs_text f ps)

-- a procedure by the table of its ranks
pub proc_put : (p : Program) (q : Procedure) (rank : ℕ → Option ℕ) (t0 t : List ℕ)
    → rank ≡ (λ x. place x (procedure_vars q))
    → t ≡ t0 ++
    (codes "\n" ++ q.name ++ spaced (var_text rank) q.params ++ codes " =\n"
    ++ code_text p rank (codes "  ") q.body) → t ≡ t0 ++ procedure_text p q
proc_put p q rank t0 t e h = h ∙
    (λ i. t0 ++
    (codes "\n" ++ q.name ++ spaced (var_text (e i)) q.params ++ codes " =\n"
    ++ code_text p (e i) (codes "  ") q.body))

-- a program after its global cells and its procedures are put
pub list_put : (g : Grin) (xs : List Proc) (t0 t1 t2 : List ℕ) → t0 ≡ [] → t1 ≡ t0
    ++ flat_map (global_line (program_of g)) g.globals
    → t2 ≡ t1 ++ flat_map (λ q. procedure_text (program_of g) (procedure_of q)) xs → xs ≡ g.procs
    → t2 ≡ listing (program_of g)
list_put g xs t0 t1 t2 e0 e1 e2 ex =
    e2 ∙ (λ i. e1 i ++ flat_map (λ q. procedure_text (program_of g) (procedure_of q)) (ex i))
    ∙ (λ i. (e0 i ++ flat_map (global_line (program_of g)) g.globals)
    ++ flat_map (λ q. procedure_text (program_of g) (procedure_of q)) g.procs)
    ∙ ap (λ t. flat_map (global_line (program_of g)) g.globals ++ t)
    (sym (procs_text (procedure_text (program_of g)) g.procs))
