-- That the pass meets its contract: the shape of what it makes, and that this keeps the program.
use Rattle.std.proofs.Common.{◌≡◌, ℕ, ◌≤◌, List, length, refl, sym, subst}
use Rattle.grin_syntax.specs.Tree.{Program}
use Rattle.grin_meaning.specs.Keeps.{Keeps}
use Rattle.flow_system.specs.Tables.{tables}
use Rattle.flow_system.specs.System.{system}
use Rattle.flow_system.specs.Solution.{Solution, IsLeast}
use Rattle.flow_system.specs.Covers.{StateIsCovered}
use Rattle.flow_system.proofs.Covered.{covers}
use Rattle.flow_system.proofs.Starting.{formed_is_started}
use Rattle.pass_ground.specs.OpenUpdates.{tag_variable, one_if_some, updates_with_variable_tag}
use Rattle.pass_ground.specs.Vectors.{IsVectorForm}
use Rattle.pass_ground.proofs.OpenUpdates.{sum_at_most}
use Rattle.grin_rewrite.proofs.Sound.{RuleIsSound, stays, keeps, expansion_is_sound, bodies_asked, bodies_count}
use Rattle.update_special.specs.Updates.{tags_of, special, update_leaf, updated}
use Rattle.update_special.specs.Updated.{one_if_wide, many_tag_updates, TagIsLiteralOrMany, Updated}
use Rattle.update_special.proofs.Special.{expands, literal_or_many, counts, wide_open}

module _ (g : Program) (A : Solution) (of : IsVectorForm g)
    (least : IsLeast (tables g) (system g) A) where
  abbrev T : ℕ → List ℕ
  T = tags_of (length g.tags) A

  sound : RuleIsSound g (StateIsCovered g A) (update_leaf T)
  sound = expansion_is_sound (special T) g (StateIsCovered g A) (expands g A)

  left : updates_with_variable_tag (updated A g) ≡ many_tag_updates A g
  left = bodies_count (special T) (λ v. one_if_some (tag_variable v))
      (λ v. one_if_wide T (tag_variable v)) (counts T) g.procs

  pub whole : Updated g (updated A g)
  whole = record {
    stays = stays g (StateIsCovered g A) (update_leaf T) sound of
        (covers g A (formed_is_started g of.formed) least.solves).passed;
    solution = A;
    least = least;
    made = refl;
    updates = record {
      literal = bodies_asked (special T) (TagIsLiteralOrMany T) (λ v as'. tt) (λ b. tt)
          (literal_or_many T) g.procs;
      left = left;
      no_more = subst (λ n. n ≤ updates_with_variable_tag g) (sym left)
          (sum_at_most _ _ (wide_open T) g.procs);
    };
  }

  pub kept : Keeps g (updated A g)
  kept = keeps g (StateIsCovered g A) (update_leaf T) sound of
      (covers g A (formed_is_started g of.formed) least.solves).passed
