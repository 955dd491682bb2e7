-- A heap without the cells of some sites.
use Rattle.std.specs.Prelude.{ℕ, zero, suc, pos, Bool, false, cond, List, [], ◌∷◌, map}
use Rattle.grin_meaning.specs.Values.{Datum, number, tag, cell, Node, HeapCell}

-- a node with other words
abbrev pub map_node_fields : (Datum → Datum) → Node → Node
map_node_fields f n = record { tag = n.tag; fields = map f n.fields }

-- the cells of some sites stay
module _ (stays : ℕ → Bool) where
  -- how many of the first a cells stay
  abbrev pub rank : List HeapCell → ℕ → ℕ
  rank [] a = 0
  rank (c ∷ h) zero = 0
  rank (c ∷ h) (suc a) = cond (stays c.site) (suc (rank h a)) (rank h a)

  abbrev pub stays_at : List HeapCell → ℕ → Bool
  stays_at [] a = false
  stays_at (c ∷ h) zero = stays c.site
  stays_at (c ∷ h) (suc a) = stays_at h a

  -- a cell that stays by its number among those that do, one that leaves as the number 0
  abbrev pub renamed : List HeapCell → Datum → Datum
  renamed h (number k) = number k
  renamed h (tag t) = tag t
  renamed h (cell a) = cond (stays_at h a) (cell (rank h a)) (number (pos 0))

  -- those that stay, with other words
  abbrev pub kept_with : (Datum → Datum) → List HeapCell → List HeapCell
  kept_with f [] = []
  kept_with f (c ∷ h) =
      cond (stays c.site)
      (record { site = c.site; node = map_node_fields f c.node } ∷ kept_with f h)
      (kept_with f h)

  -- those that stay, their words renamed
  abbrev pub kept : List HeapCell → List HeapCell
  kept h = kept_with (renamed h) h
