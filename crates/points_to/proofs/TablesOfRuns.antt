-- What the fields by tag take of a run: its words are in one part.
use Rattle.std.proofs.Common.{◌≡◌, ℕ, cond, nat_eq, List, [], refl, sym, ap, ◌∙◌}
use Rattle.flow_system.specs.declared.fact.Element.{Element}
use Rattle.flow_system.specs.declared.fact.Part.{Part}
use Rattle.flow_system.specs.declared.fact.Part.TheVariants.{Field as field}
use Rattle.points_to.specs.ByTag.{field_item, field_items}
use Rattle.points_to.specs.Held.{item, in_part}
use Rattle.points_to.proofs.OnePart.{gone, moved}

-- the fields of a tag
pub fields_gone : (part part' : Part) (t : ℕ) (ws : List Element) → part ≡ part'
    → ((u : Element) → field_item t part' (item part' u) ≡ [])
    → field_items t (in_part part ws) ≡ []
fields_gone part part' t ws q h = ap (λ r. field_items t (in_part r ws)) q ∙ gone
    (λ i. field_item t i.part i) part' h ws

pub fields_kept : (part : Part) (v j t : ℕ) (ws : List Element) → part ≡ field v j
    → field_items t (in_part part ws) ≡ cond (nat_eq v t) (in_part part ws) []
fields_kept part v j t ws q =
    ap (λ r. field_items t (in_part r ws)) q
    ∙ moved (λ i. field_item t i.part i) (field v j) (field v j) (nat_eq v t) (λ u. refl) ws
    ∙ ap (λ r. cond (nat_eq v t) (in_part r ws) []) (sym q)
