-- The tags of the translated program. A tag stands for a number, a constructor, what is delayed, or
-- a function that lacks arguments.
use Rattle.std.specs.Prelude.{ℕ, zero, suc, ◌-◌, Bool, true, false, cond, not, ◌&&◌, ◌||◌, nat_eq, List, [], ◌∷◌, ◌++◌, map, filter, length, codes, decimal, Option, Some, None, slice_get}
use Rattle.std.specs.List.{list_any}
use Rattle.arity_check.specs.declared.normal.Con as arity
use Rattle.arity_check.specs.declared.normal.Flat.{Flat}
use Rattle.arity_check.specs.declared.normal.Flat.TheVariants as flat
use Rattle.arity_check.specs.declared.normal.PrimOp.{PrimOp}
use Rattle.arity_check.specs.declared.normal.PrimOp.TheVariants.{Add, Sub, Mul, Quot, Rem, Eq, Lt}
use Rattle.arity_check.specs.Program.{Program, Function, Term, App, Let, Case, Branches, NoMore, OnCon, OnInt, OnAny}
use Rattle.core_meaning.specs.Evaluation.{params}
use Rattle.grin_translate.specs.declared.tags.Delay.{Delay}
use Rattle.grin_translate.specs.declared.tags.Delay.TheVariants.{Calls, Applies, Operates, Reads}
use Rattle.grin_translate.specs.declared.tags.Kind.{Kind}
use Rattle.grin_translate.specs.declared.tags.Kind.TheVariants.{Number, Constructor, Waits, Lacks}
use Rattle.grin_syntax.specs.declared.program.Tag.{Tag}
use Rattle.grin_syntax.specs.declared.program.TagKind.TheVariants as kind
use Rattle.grin_syntax.specs.declared.program.TagId.{TagId}
use Rattle.grin_syntax.specs.declared.program.ProcId.{ProcId}
use Rattle.seq.specs.Lists.{numbers_from}

abbrev pub operations : List PrimOp
operations = Add ∷ (Sub ∷ (Mul ∷ (Quot ∷ (Rem ∷ (Eq ∷ (Lt ∷ []))))))

abbrev pub op_number : PrimOp → ℕ
op_number Add = 0
op_number Sub = 1
op_number Mul = 2
op_number Quot = 3
op_number Rem = 4
op_number Eq = 5
op_number Lt = 6

abbrev pub same_thunk_kind : Delay → Delay → Bool
same_thunk_kind (Calls f) (Calls g) = nat_eq f g
same_thunk_kind (Applies m) (Applies n) = nat_eq m n
same_thunk_kind (Operates a) (Operates b) = nat_eq (op_number a) (op_number b)
same_thunk_kind Reads Reads = true
same_thunk_kind _ _ = false

abbrev pub same_tag_meaning : Kind → Kind → Bool
same_tag_meaning Number Number = true
same_tag_meaning (Constructor c) (Constructor d) = nat_eq c d
same_tag_meaning (Waits a) (Waits b) = same_thunk_kind a b
same_tag_meaning (Lacks f r) (Lacks g q) = nat_eq f g && nat_eq r q
same_tag_meaning _ _ = false

-- the place of what passes a test for the first time
abbrev pub first_index_where : {A : Type 0} → (A → Bool) → List A → ℕ
first_index_where test [] = 0
first_index_where test (x ∷ xs) = cond (test x) 0 (suc (first_index_where test xs))

-- ---- what is delayed in a program

abbrev pub binds : Delay → Flat → Bool
binds d (flat.Call f xs) = same_thunk_kind d (Calls f)
binds d (flat.Apply x xs) = same_thunk_kind d (Applies (length xs))
binds d (flat.Prim op x y) = same_thunk_kind d (Operates op)
binds d _ = false

abbrev mutual
  -- a let group binds such a form
  pub delays_in : Delay → Term → Bool
  delays_in d (App f) = false
  delays_in d (Let group e) = list_any (λ b. binds d b.flat) group || delays_in d e
  delays_in d (Case e branches) = delays_in d e || delays_in_branches d branches

  pub delays_in_branches : Delay → Branches → Bool
  delays_in_branches d NoMore = false
  delays_in_branches d (OnCon c xs e rest) = delays_in d e || delays_in_branches d rest
  delays_in_branches d (OnInt k e rest) = delays_in d e || delays_in_branches d rest
  delays_in_branches d (OnAny x e rest) = delays_in d e || delays_in_branches d rest

-- the parts of the function f, from so many missing arguments down to one
abbrev pub function_parts : ℕ → ℕ → List Kind
function_parts f zero = []
function_parts f (suc r) = Lacks f (suc r) ∷ function_parts f r

abbrev pub parts : List Function → ℕ → List Kind
parts [] f = []
parts (g ∷ gs) f = function_parts f g.params ++ parts gs (suc f)

abbrev pub op_name : PrimOp → List ℕ
op_name Add = codes "@add"
op_name Sub = codes "@sub"
op_name Mul = codes "@mul"
op_name Quot = codes "@quot"
op_name Rem = codes "@rem"
op_name Eq = codes "@eq"
op_name Lt = codes "@lt"

abbrev pub fun_name : Option Function → List ℕ
fun_name None = []
fun_name (Some f) = f.name

abbrev pub con_tag : Option arity.Con → Tag
con_tag None = record { kind = kind.Con; name = []; missing = 0; fields = 0; proc = None }
con_tag (Some c) =
    record { kind = kind.Con; name = c.name; missing = 0; fields = c.fields; proc = None }

module _ (p : Program) where
  unfoldable pub is_delayed : Delay → Bool
  is_delayed d = list_any (λ f. delays_in d f.body) p.funs

  -- main has a parameter, the list of the input's bytes
  unfoldable pub takes_input : Bool
  takes_input = not (nat_eq (params p p.main) 0)

  -- what can be delayed, in the order of the tags and of the procedures
  unfoldable pub delays : List Delay
  delays =
      map Calls (numbers_from 0 (length p.funs))
      ++ (filter is_delayed (map Applies (numbers_from 0 13) ++ map Operates operations)
      ++ cond takes_input (Reads ∷ []) [])

  unfoldable pub kinds : List Kind
  kinds =
      Number
      ∷ (map Constructor (numbers_from 0 (length p.cons)) ++ (map Waits delays ++ parts p.funs 0))

  abbrev pub tag : Kind → TagId
  tag k = record { 0 = first_index_where (same_tag_meaning k) kinds }

  abbrev pub proc : Delay → ProcId
  proc d = record { 0 = first_index_where (same_thunk_kind d) delays }

  abbrev pub delay_name : Delay → List ℕ
  delay_name (Calls f) = fun_name (slice_get p.funs f)
  delay_name (Applies m) = codes "@" ++ decimal m
  delay_name (Operates op) = op_name op
  delay_name Reads = codes "@input"

  abbrev pub delay_params : Delay → ℕ
  delay_params (Calls f) = params p f
  delay_params (Applies m) = suc m
  delay_params (Operates op) = 2
  delay_params Reads = 0

  abbrev pub tag_of : Kind → Tag
  tag_of Number =
      record { kind = kind.Con; name = codes "Int"; missing = 0; fields = 1; proc = None }
  tag_of (Constructor c) = con_tag (slice_get p.cons c)
  tag_of (Waits d) = record {
    kind = kind.Fun;
    name = delay_name d;
    missing = 0;
    fields = delay_params d;
    proc = Some (proc d);
  }
  tag_of (Lacks f r) = record {
    kind = kind.Part;
    name = fun_name (slice_get p.funs f);
    missing = r;
    fields = params p f - r;
    proc = Some (proc (Calls f));
  }
