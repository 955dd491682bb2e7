-- Where a state lies in a solution, the solution has the tag of each value's node for the value.
use Rattle.std.proofs.Common.{◌≡◌, ◌<◌, ◌≤◌, ℕ, Bool, true, nat_eq, nat_le, List, length, Option, Some, None, slice_get, refl, subst, inl, inr, arith}
use Rattle.std.proofs.lemmas.Bool.Decides.{nat_tests}
use Rattle.seq.proofs.Truth.{or_from, and_from}
use Rattle.seq.proofs.Order.{eq_true}
use Rattle.grin_syntax.specs.declared.program.Tag.{Tag}
use Rattle.grin_syntax.specs.declared.program.Word as W
use Rattle.grin_syntax.specs.declared.program.Val as V
use Rattle.grin_syntax.specs.declared.program.Val.TheVariants.{Vector as VectorVal}
use Rattle.grin_syntax.specs.Tree.{Program}
use Rattle.grin_meaning.specs.Values.{Node, State, and_then, fields_of, node_of}
use Rattle.grin_meaning.specs.Run.{is_some_and}
use Rattle.flow_system.specs.Tables.{tables}
use Rattle.flow_system.specs.declared.fact.Element.{Element as AbstractWord}
use Rattle.flow_system.specs.declared.fact.Element.TheVariants.{Tag as tag}
use Rattle.flow_system.specs.declared.fact.Place.TheVariants.{Var as var}
use Rattle.flow_system.specs.declared.fact.Part.{Part}
use Rattle.flow_system.specs.declared.fact.Part.TheVariants.{Tags as tags, Word as word}
use Rattle.flow_system.specs.Inclusions.{value}
use Rattle.flow_system.specs.Solution.{Solution, among, EnoughWordsForTag, AsNodes, node_tag, node_field, words_tag, words_field, StandsFor, literal, variable, global, tag_itself, WordAmong, first, later, ValueGives, of_variable, of_node, of_field, of_words, of_word, width}
use Rattle.flow_system.specs.Covers.{NodeIn, StateIsCovered}
use Rattle.inline_theory.specs.Applications.{word_has, value_has}
use Rattle.flow_system.proofs.Lying.{from_some, node_lies}

le_true : (m n : ℕ) → m ≤ n → nat_le m n ≡ true
le_true m n h = grind (arith, nat_tests)

some_fields : (o : Option Tag) (m : ℕ) (test : ℕ → Bool) → and_then o (λ i. Some i.fields) ≡ Some m
    → test m ≡ true → is_some_and o (λ i. test i.fields) ≡ true
some_fields None m test e t = cc
some_fields (Some i) m test e t = let same : m ≡ i.fields = cc in subst (λ k. test k ≡ true) same t

module _ (p : Program) (A : Solution) where
  word_may : (a : W.Word) (u : AbstractWord) → StandsFor (tables p) A a u → (t : ℕ) → u ≡ tag t
      → word_has p A t a ≡ true
  word_may a u literal t e = cc
  word_may a u (variable {x = x} y) t e = subst (λ u. among u (A (var x.0) (word 0)) ≡ true) e
      y.there
  word_may a u (global g) t e = cc
  word_may a u (tag_itself {t = t'}) t e = let same : t ≡ t'.0 = cc in eq_true t t'.0 same

  first_may : (ws : List W.Word) (j : ℕ) (t : ℕ) (u : AbstractWord) → WordAmong (tables p) A ws j u
      → j ≡ 0 → u ≡ tag t → (m : ℕ) → fields_of p t ≡ Some m → m < length ws
      → value_has p A (VectorVal ws) t ≡ true
  first_may ws j t u (first {w = a} {ws = ws'} s) z e m f lt
      = and_from (word_has p A t a) _ (word_may a u s t e)
      (some_fields (slice_get p.tags t) m (λ k. nat_le k (length ws')) f
      (le_true m (length ws') (omega arith)))
  first_may ws j t u (later y) z e m f lt = absurd (omega arith)

  tag_given : (v : V.Val) (part : Part) (u : AbstractWord) → ValueGives (tables p) A v part u
      → part ≡ tags → (t : ℕ) → u ≡ tag t → value_has p A v t ≡ true
  tag_given v part u (of_variable {x = x} y) q t e = or_from (among (tag t) (A (var x.0) tags)) _
      (inl (subst (λ r. among (tag t) (A (var x.0) r) ≡ true) q
      (subst (λ u. among u (A (var x.0) part) ≡ true) e y.there)))
  tag_given v part u (of_node {t = t'}) q t e = let same : t ≡ t'.0 = cc in eq_true t t'.0 same
  tag_given v part u (of_field y) q t e = cc
  tag_given v part u (of_words y) q t e = cc
  tag_given v part u (of_word y) q t e = cc

  word_given : (v : V.Val) (part : Part) (u : AbstractWord) → ValueGives (tables p) A v part u
      → part ≡ word 0 → (t : ℕ) → u ≡ tag t → (m : ℕ) → fields_of p t ≡ Some m
      → EnoughWordsForTag (width (value v)) m → value_has p A v t ≡ true
  word_given v part u (of_variable {x = x} y) q t e m f en
      = or_from (among (tag t) (A (var x.0) tags)) _
      (inr (subst (λ r. among (tag t) (A (var x.0) r) ≡ true) q
      (subst (λ u. among u (A (var x.0) part) ≡ true) e y.there)))
  word_given v part u of_node q t e m f en = cc
  word_given v part u (of_field y) q t e m f en = cc
  word_given v part u (of_words {ws = ws} {j = j} y) q t e m f en = let z : j ≡ 0 = cc
      in first_may ws j t u y z e m f en
  word_given v part u (of_word {w = a} s) q t e m f en
      = and_from (word_has p A t a) _ (word_may a u s t e)
      (some_fields (slice_get p.tags t) m (λ k. nat_eq k 0) f (eq_true m 0 (omega arith)))

  node_given : (v : V.Val) (part : Part) (u : AbstractWord)
      → AsNodes (tables p) (width (value v)) (ValueGives (tables p) A v) part u → part ≡ tags
      → (t : ℕ) → u ≡ tag t → value_has p A v t ≡ true
  node_given v part u (node_tag y) q t e = tag_given v tags u y refl t e
  node_given v part u (node_field y) q t e = cc
  node_given v part u (words_tag {t = t'} {m = m} y f en) q t e = let same : t' ≡ t = cc
      in word_given v (word 0) (tag t') y refl t e m (subst (λ k. fields_of p k ≡ Some m) same f) en
  node_given v part u (words_field y f en lt z) q t e = cc

  pub record Had (v : V.Val) (n : Node) : Type 0 where
    pub full : fields_of p n.tag ≡ Some (length n.fields)
    pub has : value_has p A v n.tag ≡ true

  pub value_had : (s : State) → StateIsCovered p A s → (v : V.Val) (n : Node)
      → node_of p s.env v ≡ Some n → Had v n
  value_had s lies v n e =
      let l = from_some
      (NodeIn p s.heap (AsNodes (tables p) (width (value v)) (ValueGives (tables p) A v)))
      (node_of p s.env v) n (node_lies p s.heap A lies.globals s.env lies.variables v) e in
      record { full = l.full; has = node_given v tags (tag n.tag) l.tag_in refl n.tag refl }
