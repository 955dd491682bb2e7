-- What each statement and alternative adds to the variables and to the text of its block or case.
use Rattle.std.specs.Prelude.{ℕ, List, ◌++◌, codes, Option}
use Rattle.std.specs.List.{flat_map}
use Rattle.grin_syntax.specs.declared.program.Stmt.{Stmt}
use Rattle.grin_syntax.specs.declared.program.Stmt.TheVariants.{Store, Bind}
use Rattle.grin_syntax.specs.declared.program.Alt.{Alt}
use Rattle.grin_syntax.specs.Tree.{Program, act_of, code_of}
use Rattle.grin_syntax.specs.Binders.{target_vars, shape_vars, cell_vars, act_vars, code_vars}
use Rattle.grin_syntax.specs.Listing.{deeper, target_text, shape_text, cell_line, act_text, code_text}

abbrev pub stmt_vars : Stmt → List ℕ
stmt_vars (Store cells) = cell_vars cells
stmt_vars (Bind target op) = target_vars target ++ act_vars (act_of op)

abbrev pub alt_vars : Alt → List ℕ
alt_vars a = shape_vars a.pattern ++ code_vars (code_of a.body)

module _ (p : Program) (rank : ℕ → Option ℕ) (margin : List ℕ) where
  abbrev pub stmt_text : Stmt → List ℕ
  stmt_text (Store cells) =
      margin ++ codes "store\n" ++ flat_map (cell_line p rank (deeper margin)) cells
  stmt_text (Bind target op) =
      margin ++ target_text rank target ++ act_text p rank margin (act_of op)

  abbrev pub alt_text : Alt → List ℕ
  alt_text a =
      margin ++ shape_text p rank a.pattern ++ codes " ->\n"
      ++ code_text p rank (deeper margin) (code_of a.body)
