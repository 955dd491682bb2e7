-- How a `Seq` holds its items, so that a type may lead back to itself through one.
use mathlib.Core.Path.{◌≡◌, refl, sym}
use mathlib.Core.List.{List, []}
use mathlib.Core.Former.{Former, this, list, via, children}
use base.Stored.{code_map}
use denote.RattleType.{RattleType}
use denote.HoleLaws.{Alike}
use denote.HolePlaces.{Recodes, struct_places, laid}
use denote.Hole.Carrier.{listed, list-listed}
use denote.Hole.Fix.{over}
use denote.Param.Weighed.{Weighed, w_list}
use denote.Model.Placed.{view_places}
use Rattle.std.specs.formers.vec.Vec as vec
use Rattle.std.specs.declared.alloc.Global.{Global}
use Rattle.std.specs.contracts.alloc.Global as global
use Rattle.std.specs.contracts.impls.GlobalAllocator.TheImpl.{ghosts}
use Rattle.seq.specs.declared.list.Seq.TheInside.{Inside}
use Rattle.seq.specs.declared.list.Seq.TheView.{view, invariant}
use Rattle.seq.specs.contracts.list.Seq as seq
use Rattle.seq.specs.contracts.list.Seq.TheInside as inside

-- the items are a list, with nothing beside them
abbrev pub the_former : Former {0} → Former {0}
the_former item = list item

-- the measure of a list is the largest of its items
abbrev pub the_weighed : {item : Former {0}} → Weighed item → Weighed (the_former item)
the_weighed weight = w_list weight

-- a list that can hold no item is empty
pub the_empty : List ⊥
the_empty = []

abbrev pub the_items : (Item : Type 0) → List Item → List Item
the_items Item items = items

pub the_items_listed : (Item : Type 0) (items : List Item)
    → listed _ (children (the_former this) Item items) ≡ the_items Item items
the_items_listed Item items = list-listed Item items

-- the fields hold the items as a `Vec` holds them
abbrev fields : Former {0}
fields = via (vec.the_former this Global) Inside (λ Item s. s.items)
    (λ Item v. record { items = v }) (λ Item s. refl) (λ Item v. refl)

module _ (Old New : RattleType) (h : Old.Denot → New.Denot) where
  -- a list of items of the old type lies in memory as its image does
  pub the_places : Alike Old New h
      → Alike (seq.the_row Old) (seq.the_row New) ((the_former this).map Old.Denot New.Denot h)
  the_places same =
      view_places fields (list this) view (λ X Y k u. refl) (λ X u. refl) Old.Denot New.Denot h
      (seq.the_row Old).coded (seq.the_row New).coded (invariant Old.Denot) (invariant New.Denot)
      (λ u p q. refl) (λ u p q. refl) (λ u e. tt) (λ u e. tt)
      (over (inside.the_row Old)) (over (inside.the_row New))
      (struct_places (inside.the_type Old) (inside.the_type New)
      (vec.mapped h, tt) _ (λ d. refl) refl
      (laid _ _ _ (vec.the_places global.the_row ghosts Old New h same), tt))

  -- and has the code of its image
  pub the_codes_placed : Recodes Old New h
      → Recodes (seq.the_row Old) (seq.the_row New) ((the_former this).map Old.Denot New.Denot h)
  the_codes_placed same items =
      sym (code_map Old.coded.code New.coded.code h (λ item. sym (same item)) items)
