-- The translation of a program.
use Rattle.std.specs.Prelude.{ℕ, suc, ◌+◌, ◌*◌, max, codes, cond, List, [], ◌∷◌, ◌++◌, map, length, negsuc, Option, Some, None, slice_get, ◌==◌, if◌then◌else◌}
use Rattle.arity_check.specs.declared.normal.Var.TheVariants as var
use Rattle.arity_check.specs.declared.normal.Flat.TheVariants as flat
use Rattle.arity_check.specs.Program as core
use Rattle.arity_check.specs.Program.{Function, Term, App, Let, Case, Branches, NoMore, OnCon, OnInt, OnAny}
use Rattle.core_meaning.specs.Evaluation.{nil, cons, global}
use Rattle.grin_syntax.specs.declared.program.ProcId.{ProcId}
use Rattle.grin_syntax.specs.declared.program.GlobalCell.{GlobalCell}
use Rattle.grin_syntax.specs.declared.program.Word.TheVariants.{Var}
use Rattle.grin_syntax.specs.declared.program.Val.TheVariants.{NodeVar, Node}
use Rattle.grin_syntax.specs.declared.program.Target.TheVariants as to
use Rattle.grin_syntax.specs.declared.program.Shape.TheVariants as shape
use Rattle.grin_syntax.specs.Tree.{Code, end, store, bind, leaf, unit, eval, call, read, write, case, fail, arm, no_arm, Procedure, Program}
use Rattle.grin_translate.specs.declared.tags.Delay.{Delay}
use Rattle.grin_translate.specs.declared.tags.Delay.TheVariants.{Calls, Applies, Operates, Reads}
use Rattle.grin_translate.specs.declared.tags.Kind.TheVariants.{Number, Constructor, Waits}
use Rattle.grin_translate.specs.Tags.{takes_input, delays, kinds, tag, tag_of, delay_name, delay_params}
use Rattle.grin_translate.specs.Blocks.{local, temp, cell, else_fail, on_number, form_block, block, temps}
use Rattle.seq.specs.Lists.{numbers_from}

-- how many locals an expression binds
abbrev mutual
  pub binders : Term → ℕ
  binders (App f) = 0
  binders (Let group e) = length group + binders e
  binders (Case e branches) = binders e + branch_binders branches

  pub branch_binders : Branches → ℕ
  branch_binders NoMore = 0
  branch_binders (OnCon c xs e rest) = length xs + binders e + branch_binders rest
  branch_binders (OnInt k e rest) = binders e + branch_binders rest
  branch_binders (OnAny None e rest) = binders e + branch_binders rest
  branch_binders (OnAny (Some x) e rest) = suc (binders e) + branch_binders rest

module _ (p : core.Program) where
  -- the printing loop follows the procedures of what is delayed
  abbrev pub print : ProcId
  print = record { 0 = length (delays p) }

  -- the cells of the functions without parameters; a site has the number of its function
  abbrev pub global_cells : List Function → ℕ → List GlobalCell
  global_cells [] f = []
  global_cells (g ∷ gs) f =
      (if g.params == 0 then record {
        name = g.name;
        site = record { 0 = f };
        tag = tag p (Waits (Calls f));
      } ∷ [] else []) ++ global_cells gs (suc f)

  module _ (base : ℕ) where
    -- a procedure of n parameters
    abbrev pub procedure : List ℕ → ℕ → Code → Procedure
    procedure name n b =
        record { name = name; params = map (local p base) (numbers_from 0 n); body = b }

    abbrev pub fun_body : Option Function → Code
    fun_body None = end (leaf fail)
    fun_body (Some f) = block p base 0 f.body

    -- what follows the next byte, -1 where there is none
    abbrev pub byte_body : Code
    byte_body =
        bind (to.Node (temp p base 1))
        (leaf (unit (Node (tag p Number) (Var (temp p base 0) ∷ []))))
        (end (case (NodeVar (temp p base 1))
        (arm (shape.Int (negsuc 0)) (end (leaf (unit (Node (tag p (Constructor (nil p))) []))))
        (arm shape.Else
        (store (cell p base 0 (Node (tag p Number) (Var (temp p base 0) ∷ []))
        ∷ (cell p base 1 (Node (tag p (Waits Reads)) []) ∷ []))
        (end (leaf (unit
        (Node (tag p (Constructor (cons p))) (Var (local p base 0) ∷ Var (local p base 1) ∷ []))))))
        no_arm))))

    abbrev pub input_body : Code
    input_body = bind (to.One (temp p base 0)) (leaf read) byte_body

    -- what is done where a delayed form is forced
    abbrev pub delay_body : Delay → Code
    delay_body (Calls f) = fun_body (slice_get p.funs f)
    delay_body (Applies m) =
        form_block p base 0 (flat.Apply (var.Local 0) (map var.Local (numbers_from 1 m)))
    delay_body (Operates op) = form_block p base 0 (flat.Prim op (var.Local 0) (var.Local 1))
    delay_body Reads = input_body

    -- puts out a number, and goes on with the tail
    abbrev pub write_block : Code
    write_block =
        bind to.Nothing (leaf (write (Var (temp p base 4))))
        (end (leaf (call print (Var (temp p base 2) ∷ []))))

    -- what is done with a head and a tail
    abbrev pub pair_block : Code
    pair_block =
        bind (to.Node (temp p base 3)) (leaf (eval (Var (temp p base 1))))
        (on_number p base (temp p base 3) (temp p base 4) write_block)

    abbrev pub nil_block : Code
    nil_block = end (leaf (unit (Node (tag p (Constructor (nil p))) [])))

    -- what is done with the value of a list
    abbrev pub list_block : Code
    list_block =
        end (case (NodeVar (temp p base 0))
        (arm (shape.Node (tag p (Constructor (nil p))) []) nil_block
        (arm (shape.Node (tag p (Constructor (cons p))) (temp p base 1 ∷ temp p base 2 ∷ []))
        pair_block
        else_fail)))

    abbrev pub print_body : Code
    print_body = bind (to.Node (temp p base 0)) (leaf (eval (Var (local p base 0)))) list_block

    abbrev pub start_body : Code
    start_body =
        store (cell p base 0 (Node (tag p (Waits Reads)) [])
        ∷ (cell p base 1 (Node (tag p (Waits (Calls p.main))) (Var (local p base 0) ∷ [])) ∷ []))
        (end (leaf (call print (Var (local p base 1) ∷ []))))

  -- the variables of a procedure have so many numbers
  abbrev pub fun_span : Option Function → ℕ
  fun_span None = 0
  fun_span (Some f) = 2 * max (f.params + binders f.body) (temps f.body)

  abbrev pub span : Delay → ℕ
  span (Calls f) = fun_span (slice_get p.funs f)
  span (Applies m) = 2 * suc m
  span (Operates op) = 10
  span Reads = 4

  abbrev pub delayed_procs : ℕ → List Delay → List Procedure
  delayed_procs base [] = []
  delayed_procs base (d ∷ ds) =
      procedure base (delay_name p d) (delay_params p d) (delay_body base d)
      ∷ delayed_procs (base + span d) ds

  abbrev pub spans : List Delay → ℕ
  spans [] = 0
  spans (d ∷ ds) = span d + spans ds

  -- the first number that no procedure of what is delayed has
  abbrev pub rest : ℕ
  rest = length p.funs + spans (delays p)

  abbrev pub print_procs : List Procedure
  print_procs =
      procedure rest (codes "@print") 1 (print_body rest)
      ∷ cond (takes_input p)
      (procedure (rest + 10) (codes "@start") 0 (start_body (rest + 10)) ∷ []) []

  abbrev pub tr : Program
  tr = record {
    tags = map (tag_of p) (kinds p);
    globals = global_cells p.funs 0;
    procs = delayed_procs (length p.funs) (delays p) ++ print_procs;
    start = cond (takes_input p) (record { 0 = suc (length (delays p)) }) print;
    argument = cond (takes_input p) None (Some (global p p.main));
  }
