use Rattle.std.proofs.Common.{◌≡◌, true, arith, get_or, sym, ◌∙◌}
use Rattle.std.specs.Prelude.{◌&&◌}
use Rattle.core_reader.specs.declared.syntax.Data.{Data}
use Rattle.core_reader.specs.Tree as tree
use Rattle.arity_check.specs.Known.{Known}
use Rattle.arity_check.specs.Tables.{known}
use Rattle.arity_check.specs.Whole.{nil_kind, has_fields}
use Rattle.arity_check.proofs.Steps.{any_here}
use Rattle.arity_check.proofs.program.has_nil.Goals as goal

pub returns-then-has_fields : goal.returns-then-has_fields
returns-then-has_fields c =
    let k : Known = known c.args.globals.now in
    let none : Data = record { name = record { 0 = 0 }; fields = 0; at = 0 } in
    let x : Data = get_or c.args.constructors.now c.loop-con.con-index none in
    let kind : nil_kind (k.kind x.name.0) ≡ true = sym c.is_nil.ensures ∙ c.if-is_nil.true in
    let size : has_fields (k.fields x.name.0) 0 ≡ true
    = sym c.has_fields.ensures ∙ c.if-has_fields.true in
    any_here (λ (d : tree.Data). nil_kind (k.kind d.name) && has_fields (k.fields d.name) 0)
    c.args.constructors.now c.loop-con.con-index none _ (omega arith) (λ i. kind i && size i)
    c.loop-con.invariant
