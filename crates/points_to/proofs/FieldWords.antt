-- The fields of a tag among the nodes that a vector may be are later words of the vector.
use Rattle.std.proofs.Common.{◌≡◌, ◌+◌, ℕ, zero, suc, false, List, [], ◌∷◌, slice_get, refl, ap, subst, arith}
use Rattle.std.specs.Prelude.{IsTrue}
use Rattle.grin_syntax.specs.declared.program.VarId.{VarId}
use Rattle.grin_syntax.specs.declared.program.Word as W
use Rattle.grin_syntax.specs.declared.program.Val.TheVariants.{Vector as VectorVal}
use Rattle.flow_system.specs.declared.fact.Element.{Element as AbstractWord}
use Rattle.flow_system.specs.declared.fact.Element.TheVariants.{Tag as tag}
use Rattle.flow_system.specs.declared.fact.Place.{Place}
use Rattle.flow_system.specs.declared.fact.Place.TheVariants.{Var as var}
use Rattle.flow_system.specs.declared.fact.Part.{Part}
use Rattle.flow_system.specs.declared.fact.Part.TheVariants.{Tags as tags, Field as field, Word as word}
use Rattle.flow_system.specs.Inclusions.{value, arguments}
use Rattle.flow_system.specs.Tables.{Tables}
use Rattle.flow_system.specs.Solution.{Solution, AsNodes, node_tag, node_field, words_tag, words_field, AsWords, word_word, tag_word, field_word, zero_word, WordAmong, ValueGives, ArgumentsGive, field_argument, word_argument, width}
use Rattle.points_to.specs.declared.facts.Item.{Item}
use Rattle.points_to.specs.Asked.{fact, facts_at, vector_facts}
use Rattle.points_to.specs.Held.{In, item, words_in_part, in_part, as_word, fetched, numbered, items}
use Rattle.points_to.specs.Known.{solution_of}
use Rattle.points_to.specs.Rounds.{AllFactsKnown}
use Rattle.points_to.proofs.Direct.{elements_if, picked_numbered}
use Rattle.points_to.proofs.GivenItems.{in_picked, as_word_means, numbered_mean, in_value, items_mean}
use Rattle.points_to.proofs.HeldFacts.{words_held, both_held}
use Rattle.points_to.proofs.Solved.{known_at, at_known}
use Rattle.seq.proofs.Member.{none_in, in_left, in_map}

pub not_true : IsTrue false → ⊥
not_true t = cc

-- fewer words
pub fewer_held : (H : Place → List Item) (q : Place) (part : Part) (us vs : List AbstractWord)
    → ((u : AbstractWord) → In u us → In u vs) → AllFactsKnown H (facts_at q (in_part part vs))
    → AllFactsKnown H (facts_at q (in_part part us))
fewer_held H q part us vs sub known = words_held H q part us
    (λ u h. in_picked part (H q)
    (known (fact q (item part u))
    (in_map (fact q) (in_part part vs) (in_map (item part) vs (sub u h)))))

module _ (p : Tables) (H : Place → List Item) (ws : List W.Word) (t : ℕ) where
  abbrev words : List Item
  words = numbered p H word 0 ws

  abbrev A : Solution
  A = solution_of H

  -- what the fields are
  abbrev pub given : List Item
  given = items p H (arguments (value (VectorVal ws)) t [])

  abbrev Later : ℕ → AbstractWord → Type 0
  Later n u = In (item (word 0) (tag t)) words × In (item (word (suc n)) u) words

  no_part : {P : Type 0} (q : Part) → ((n : ℕ) → q ≡ word n → P) → (u : AbstractWord)
      → In (item q u) words → P
  no_part q never u h = let r = numbered_mean p H A (known_at H) word 0 ws q u h in never r.1 r.3

  among_none : {P : Type 0} (i : ℕ) (u : AbstractWord) → WordAmong p A [] i u → P
  among_none i u h = elim h [ ]

  in_words : (q : Part) (u : AbstractWord) → ValueGives p A (VectorVal ws) q u → In (item q u) words
  in_words = in_value p H A (at_known H) (VectorVal ws)

  a_field : (q : Part) (n : ℕ) (u : AbstractWord) → q ≡ field t n
      → AsNodes p (width (value (VectorVal ws))) (ValueGives p A (VectorVal ws)) q u → Later n u
  a_field q n u e (node_tag x) = cc
  a_field q n u e (node_field {t = c} {i = i} x) = no_part (field c i) (λ m d. cc) u
      (in_words (field c i) u x)
  a_field q n u e (words_tag x f en) = cc
  a_field q n u e (words_field {t = c} {i = i} x f en lt y) = (
    subst (λ c. In (item (word 0) (tag c)) words) (same_tag c i e) (in_words (word 0) (tag c) x),
    subst (λ i. In (item (word (suc i)) u) words) (same_field c i e) (in_words (word (suc i)) u y),
  )
    where
      same_tag : (c i : ℕ) → field c i ≡ field t n → c ≡ t
      same_tag c i e = cc

      same_field : (c i : ℕ) → field c i ≡ field t n → i ≡ n
      same_field c i e = cc

  abbrev Given : Part → AbstractWord → Type 0
  Given = ArgumentsGive p A
      (AsNodes p (width (value (VectorVal ws))) (ValueGives p A (VectorVal ws))) t []

  an_argument : (q : Part) (n : ℕ) (u : AbstractWord) → q ≡ word n → Given q u → Later n u
  an_argument q n u e (field_argument {i = i} st x)
      = a_field (field t i) n u (ap (field t) (same_word i e)) x
    where
      same_word : (i : ℕ) → word i ≡ word n → i ≡ n
      same_word i e = cc
  an_argument q n u e (word_argument {j = j} st f among m) = among_none j u among

  no_tag : {P : Type 0} (q : Part) (u : AbstractWord) → q ≡ tags → Given q u → P
  no_tag q u e (field_argument st x) = cc
  no_tag q u e (word_argument st f among m) = cc

  a_word : (j : ℕ) (u : AbstractWord) → AsWords p Given j u → Later j u
  a_word j u (word_word x) = an_argument (word j) j u refl x
  a_word j u (tag_word x) = no_tag tags u refl x
  a_word j u (field_word {t = c} x f lt y) = no_tag tags (tag c) refl x
  a_word j u (zero_word {t = c} x f le) = no_tag tags (tag c) refl x

  field_words : (j : ℕ) (u : AbstractWord) → In u (as_word p j given) → Later j u
  field_words j u h = a_word j u
      (as_word_means p given Given
      (items_mean p H A (known_at H) (arguments (value (VectorVal ws)) t [])) j u h)

  -- where the first word is never the tag, nothing is asked
  pub never_asked : (In (tag t) (elements_if p H (slice_get ws 0)) → ⊥) → (j : ℕ) (xs : List VarId)
      → AllFactsKnown H (vector_facts p given j xs)
  never_asked never j [] = λ f h. none_in h
  never_asked never j (x ∷ xs) = both_held H
      (facts_at (var x.0) (in_part (word 0) (as_word p j given))) (vector_facts p given (suc j) xs)
      (words_held H (var x.0) (word 0) (as_word p j given)
      (λ u h. absurd
      (never (subst (In (tag t)) (picked_numbered p H ws 0 0 0 refl)
      (in_picked (word 0) words (field_words j u h).0)))))
      (never_asked never (suc j) xs)

  -- where word j + 1 is known at a variable, field j is
  pub field_held : (j : ℕ) (q : Place) → AllFactsKnown H
      (facts_at q (in_part (word 0) (as_word p (j + 1) words)))
      → AllFactsKnown H (facts_at q (in_part (word 0) (as_word p j given)))
  field_held j q known =
      let next : j + 1 ≡ suc j = omega arith in
      fewer_held H q (word 0) (as_word p j given) (as_word p (suc j) words)
      (λ u h. in_left (words_in_part (word (suc j)) words) (fetched p (suc j) words)
      (in_picked (word (suc j)) words (field_words j u h).1))
      (subst (λ n. AllFactsKnown H (facts_at q (in_part (word 0) (as_word p n words)))) next known)
