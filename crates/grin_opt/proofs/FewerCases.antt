-- What is simplified has no more updates without a literal tag.
use Rattle.std.proofs.Common.{◌≡◌, ◌≤◌, sym, subst}
use Rattle.grin_syntax.specs.Tree.{Program}
use Rattle.pass_ground.specs.OpenUpdates.{tag_variable, one_if_some, updates_with_variable_tag}
use Rattle.pass_ground.specs.Vectors.{IsVectorForm}
use Rattle.case_simplify.specs.Simple.{simplified}
use Rattle.case_simplify.specs.Simplified.{Simplified}
use Rattle.case_simplify.proofs.Contract.{is_simplified, fewer_updates}
use Rattle.grin_opt.specs.Several.{MadeByPasses}

pub made_simple : (g h : Program) → h ≡ simplified g → IsVectorForm g → MadeByPasses Simplified g h
made_simple g h e of =
    let fewer : updates_with_variable_tag (simplified g) ≤ updates_with_variable_tag g
    = fewer_updates (λ v. one_if_some (tag_variable v)) g in
    let shape = is_simplified g h e of in
    record {
      stays = shape.stays;
      no_more_open = subst
          (λ k. updates_with_variable_tag k ≤ updates_with_variable_tag g) (sym e) fewer;
      by = shape;
    }
