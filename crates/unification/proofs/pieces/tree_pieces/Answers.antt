use Rattle.std.proofs.Common.{◌≡◌, ◌<◌, ◌≤◌, [], ◌∷◌, ◌++◌, length, sym, ap, subst, ◌∙◌, arith}
use Rattle.unification.specs.Pieces.{pieces, head_piece}
use Rattle.unification.specs.Shown.{class_of, kept_of}
use Rattle.unification.specs.Terms.{arguments_of}
use Rattle.unification.specs.Walks.{kept_arguments}
use Rattle.unification.proofs.Writing.{last_below, still_below, one_written, too_many}
use Rattle.unification.proofs.pieces.tree_pieces.Goals as goal

pub returns-then-len-room : goal.returns-then-len-room
returns-then-len-room c = λ v sh.
    let terms = c.args.terms.now in
    let classes = c.args.classes.now in
    let row = c.writing.row.items in
    let left = c.writing.left.items in
    let rest = c.pop.new.self.items in
    let x = c.in-Some.place in
    let e : left ≡ rest ++ x ∷ [] = c.in-Some.ensures.items in
    let full : c.args.room ≤ length row = omega
    (arith, c.if-len-room.true, c.len.ensures, c.writing.row.ok.0) in
    too_many terms classes c.requires.earlier v sh row left rest x (pieces (v c.args.at))
    (last_below terms classes c.requires.earlier left rest x e c.writing.invariant.below) e
    (c.writing.invariant.written v sh) c.args.room full

pub class_of-class-requires : goal.class_of-class-requires
class_of-class-requires c =
    let x = c.in-Some.place in
    subst (λ n. x < n) (sym c.requires.classes.classes)
    (last_below c.args.terms.now c.args.classes.now c.requires.earlier c.writing.left.items
    c.pop.new.self.items x c.in-Some.ensures.items c.writing.invariant.below)

pub writing-preserved : goal.writing-preserved
writing-preserved c =
    let terms = c.args.terms.now in
    let classes = c.args.classes.now in
    let row = c.writing.row.items in
    let left = c.writing.left.items in
    let rest = c.pop.new.self.items in
    let x = c.in-Some.place in
    let more = c.push-in-Some.new.self.items in
    let next = c.extend_from_slice.new.self.items in
    let e : left ≡ rest ++ x ∷ [] = c.in-Some.ensures.items in
    let em : more ≡ row ++ head_piece terms classes (class_of classes x) ∷ []
    = c.in_ok-push-2.ensures.items ∙ ap (λ p. row ++ p ∷ [])
    (c.first_of.ensures ∙ ap (head_piece terms classes) c.class_of-class.ensures) in
    let en : next ≡ rest ++ kept_arguments terms classes (class_of classes x) =
    c.in_ok-extend_from_slice.ensures.items ∙ ap (λ l. rest ++ l)
    (c.arguments_at.ensures ∙ ap (arguments_of terms)
    (c.kept_of-kept.ensures ∙ ap (kept_of classes) c.class_of-class.ensures)) in
    record {
      below = still_below terms classes c.requires.earlier left rest x (class_of classes x) next e
          en c.writing.invariant.below;
      written = λ v sh. one_written terms classes c.requires.earlier v sh row left rest x
          (pieces (v c.args.at))
          (last_below terms classes c.requires.earlier left rest x e c.writing.invariant.below) e
          (c.writing.invariant.written v sh) more next em en;
    }
