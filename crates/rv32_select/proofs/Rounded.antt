-- A piece that needs x1, where the return address is in the frame or goes there meanwhile.
use Rattle.std.proofs.Common.{◌≡◌, List, ◌++◌, Bool, true, false, refl, ap, ◌∙◌, append_assoc, append-nil}
use Rattle.rv32_items.specs.declared.Item.{Item}
use Rattle.rv32_select.specs.Emit.{plain, put_link, take_link}
use Rattle.rv32_select.specs.IsSelected.{Round}
use Rattle.rv32_select.specs.Emitting.{link_aside, link_back}

pub record Rounded (framed : Bool) (piece old new : List Item) : Type 1 where
  pub items : List Item
  pub is : new ≡ old ++ items
  pub round : (Rest : List Item → Type 0) (rest : List Item) → Rest rest
      → Round framed piece Rest (items ++ rest)

pub rounded : (framed : Bool) (piece old c1 c2 new : List Item) → c1 ≡ old ++ link_aside framed
    → c2 ≡ c1 ++ piece → new ≡ c2 ++ link_back framed → Rounded framed piece old new
rounded true piece old c1 c2 new one two three = record {
  items = piece;
  is = three ∙ append-nil c2 ∙ two ∙ ap (λ x. x ++ piece) (one ∙ append-nil old);
  round = λ Rest rest h. (rest, refl, h);
}
rounded false piece old c1 c2 new one two three = record {
  items = plain put_link ++ (piece ++ plain take_link);
  is = three ∙ ap (λ x. x ++ plain take_link) (two ∙ ap (λ x. x ++ piece) one)
      ∙ append_assoc (old ++ plain put_link) piece (plain take_link) ∙ append_assoc old
      (plain put_link) (piece ++ plain take_link);
  round = λ Rest rest h. (
    piece ++ (plain take_link ++ rest),
    ap (λ x. plain put_link ++ x)
        (append_assoc piece (plain take_link) rest),
    (plain take_link ++ rest, refl, (rest, refl, h)),
  );
}
