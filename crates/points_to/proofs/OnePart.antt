-- What becomes of the items of one part.
use Rattle.std.proofs.Common.{◌≡◌, ℕ, suc, ◌++◌, Bool, true, false, cond, nat_lt, List, [], ◌∷◌, refl, ap, ◌∙◌}
use Rattle.std.specs.List.{flat_map}
use Rattle.flow_system.specs.declared.fact.Element.{Element}
use Rattle.flow_system.specs.declared.fact.Part.{Part}
use Rattle.flow_system.specs.declared.fact.Part.TheVariants.{Tags as tags, Field as field, Word as word}
use Rattle.flow_system.specs.Tables.{Tables}
use Rattle.points_to.specs.declared.facts.Item.{Item}
use Rattle.points_to.specs.declared.nodes.Shift.{Shift}
use Rattle.points_to.specs.declared.nodes.Shift.TheVariants.{Fields}
use Rattle.points_to.specs.Shift.{shifted_items}
use Rattle.points_to.specs.Held.{item, in_part, shifted_word, done_tag, done_items}

module _ (f : Item → List Item) (q : Part) where
  pub gone : ((u : Element) → f (item q u) ≡ []) → (ws : List Element)
      → flat_map f (in_part q ws) ≡ []
  gone h [] = refl
  gone h (w ∷ ws) = ap (λ l. l ++ flat_map f (in_part q ws)) (h w) ∙ gone h ws

  pub moved : (q' : Part) (b : Bool) → ((u : Element) → f (item q u) ≡ cond b (item q' u ∷ []) [])
      → (ws : List Element) → flat_map f (in_part q ws) ≡ cond b (in_part q' ws) []
  moved q' true h [] = refl
  moved q' true h (w ∷ ws) = ap (λ l. l ++ flat_map f (in_part q ws)) (h w) ∙ ap
      (λ l. item q' w ∷ l) (moved q' true h ws)
  moved q' false h ws = gone h ws

-- words as one field
pub words_gone : (t m : ℕ) (ws : List Element) → flat_map (shifted_word t m 0) ws ≡ []
words_gone t m [] = refl
words_gone t m (w ∷ ws) = words_gone t m ws

pub words_moved : (t m j : ℕ) (b : Bool) → nat_lt j m ≡ b → (ws : List Element)
    → flat_map (shifted_word t m (suc j)) ws ≡ cond b (in_part (field t j) ws) []
words_moved t m j true e [] = refl
words_moved t m j true e (w ∷ ws) = ap
    (λ c. cond c (item (field t j) w ∷ []) [] ++ flat_map (shifted_word t m (suc j)) ws) e ∙ ap
    (λ l. item (field t j) w ∷ l) (words_moved t m j true e ws)
words_moved t m j false e [] = refl
words_moved t m j false e (w ∷ ws) = ap
    (λ c. cond c (item (field t j) w ∷ []) [] ++ flat_map (shifted_word t m (suc j)) ws) e ∙
    words_moved t m j false e ws

-- evaluated tags
pub done_tags : (p : Tables) (ws : List Element) → done_items p (in_part tags ws) ≡ flat_map
    (done_tag p) ws
done_tags p [] = refl
done_tags p (w ∷ ws) = ap (λ l. done_tag p w ++ l) (done_tags p ws)

-- a shift, by its kind and by the part
module _ (p : Tables) (by by' : Shift) (part part' : Part) (ws : List Element) (e : by ≡ by')
    (q : part ≡ part') where
  same : flat_map (shifted_items p by) (in_part part ws) ≡ flat_map (shifted_items p by')
      (in_part part' ws)
  same = ap (λ b. flat_map (shifted_items p b) (in_part part ws)) e ∙ ap
      (λ r. flat_map (shifted_items p by') (in_part r ws)) q

  pub shift_gone : ((u : Element) → shifted_items p by' (item part' u) ≡ [])
      → flat_map (shifted_items p by) (in_part part ws) ≡ []
  shift_gone h = same ∙ gone (shifted_items p by') part' h ws

  pub shift_moved : (to : Part) (b : Bool) →
      ((u : Element) → shifted_items p by' (item part' u) ≡ cond b (item to u ∷ []) [])
      → flat_map (shifted_items p by) (in_part part ws) ≡ cond b (in_part to ws) []
  shift_moved to b h = same ∙ moved (shifted_items p by') part' to b h ws

  pub shift_field : (t m j : ℕ) → by' ≡ Fields t m → part' ≡ word j
      → flat_map (shifted_items p by) (in_part part ws) ≡ flat_map (shifted_word t m j) ws
  shift_field t m j b r = same ∙ ap (λ b. flat_map (shifted_items p b) (in_part part' ws)) b ∙ ap
      (λ r. flat_map (shifted_items p (Fields t m)) (in_part r ws)) r ∙ go ws
    where
      go : (vs : List Element) → flat_map (shifted_items p (Fields t m)) (in_part (word j) vs) ≡
          flat_map (shifted_word t m j) vs
      go [] = refl
      go (v ∷ vs) = ap (λ l. shifted_word t m j v ++ l) (go vs)
