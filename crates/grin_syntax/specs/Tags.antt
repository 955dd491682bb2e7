-- What a tag stands for: a constructor, a delayed call of a procedure, or a procedure that lacks
-- arguments.
use Rattle.std.specs.Prelude.{ℕ, suc, Bool, true, false, cond, nat_eq, ◌&&◌, List, [], ◌∷◌, Option, Some, None}
use Rattle.grin_syntax.specs.declared.program.TagKind.{TagKind}
use Rattle.grin_syntax.specs.declared.program.TagKind.TheVariants.{Fun, Part}
use Rattle.grin_syntax.specs.declared.program.Tag.{Tag}
use Rattle.grin_syntax.specs.declared.program.TagId.{TagId}
use Rattle.grin_syntax.specs.declared.program.ProcId.{ProcId}

-- the tag with this number
abbrev pub tag_id : ℕ → TagId
tag_id t = record { 0 = t }

abbrev pub is_part_kind : TagKind → Bool
is_part_kind Part = true
is_part_kind _ = false

abbrev pub is_fun_kind : TagKind → Bool
is_fun_kind Fun = true
is_fun_kind _ = false

abbrev pub is_proc : ℕ → Option ProcId → Bool
is_proc f None = false
is_proc f (Some g) = nat_eq g.0 f

-- the tag of kind Part for this procedure with so many arguments missing
abbrev pub is_part : ℕ → ℕ → Tag → Bool
is_part f r t = is_part_kind t.kind && (is_proc f t.proc && nat_eq t.missing r)

-- its place among the tags, which are numbered from i
abbrev pub part_from : ℕ → List Tag → ℕ → ℕ → Option ℕ
part_from i [] f r = None
part_from i (t ∷ ts) f r = cond (is_part f r t) (Some i) (part_from (suc i) ts f r)
