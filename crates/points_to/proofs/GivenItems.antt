-- What the lists of items hold is what sources give.
use Rattle.std.proofs.Common.{◌≡◌, ◌+◌, ◌<◌, ◌≤◌, ℕ, zero, suc, Bool, true, false, cond, not, nat_eq, nat_lt, List, [], ◌∷◌, ◌++◌, Option, Some, None, slice_get, refl, sym, ap, ◌∙◌, subst, ⊎_elim, arith}
use Rattle.std.specs.List.{flat_map}
use Rattle.grin_syntax.specs.declared.program.ProcId.{ProcId}
use Rattle.grin_syntax.specs.declared.program.Tag.{Tag}
use Rattle.grin_syntax.specs.declared.program.GlobalCell.{GlobalCell}
use Rattle.grin_syntax.specs.declared.program.Word as W
use Rattle.grin_syntax.specs.declared.program.Word.TheVariants.{Lit, Var, Global, TagWord}
use Rattle.grin_syntax.specs.declared.program.Val.{Val}
use Rattle.grin_syntax.specs.declared.program.Val.TheVariants.{NodeVar, Node as NodeVal, Vector as VectorVal, One as OneVal}
use Rattle.grin_meaning.specs.Run.{is_part_kind, is_fun_kind, is_some_and, part_from}
use Rattle.flow_system.specs.declared.fact.Element.{Element as AbstractWord}
use Rattle.flow_system.specs.declared.fact.Element.TheVariants.{Cell as cell_of, Tag as tag, Number as num}
use Rattle.flow_system.specs.declared.fact.Place.{Place}
use Rattle.flow_system.specs.declared.fact.Place.TheVariants.{Site as site, Var as var}
use Rattle.flow_system.specs.declared.fact.Part.{Part}
use Rattle.flow_system.specs.declared.fact.Part.TheVariants.{Tags as tags, Field as field, Word as word}
use Rattle.flow_system.specs.Inclusions.{Source, value, a_cell, a_number, held, nodes_at, word_at, evaluated, extended, arguments}
use Rattle.flow_system.specs.Tables.{Tables, fields_of}
use Rattle.flow_system.specs.Solution.{Solution, Sets, At, OneWord, one_word, EnoughWordsForTag, AsNodes, node_tag, node_field, words_tag, words_field, AsWords, word_word, tag_word, field_word, zero_word, IsEvaluated, Evaluated, evaluated_tag, evaluated_field, Delays, Waits, StandsFor, literal, variable, global, tag_itself, WordAmong, first, later, ValueGives, of_variable, of_node, of_field, of_words, of_word, FetchGives, its_tag, its_field, its_zero, ExtendGives, extended_tag, extended_field, extended_last, ArgumentsGive, field_argument, word_argument, width, Gives}
use Rattle.points_to.specs.declared.facts.Item.{Item}
use Rattle.points_to.specs.Held.{In, here, there, item, same_part, word_if_in_part, words_in_part, in_part, cell_at, words_hold_tag, node_part, field_part, moved_part, argument_part, is_done, if_tag, if_procedure, delayed, if_one_missing, when_more, called, longer, field_or_zero, field_of_tag, fetched, as_word, node_of_words, node_of_word, as_nodes, done_part, done_items, elements, numbered, value_items, cell_items, fetched_at, last_field, longer_node, longer_tag, after_fields, arguments_of, items}
use Rattle.seq.proofs.Member.{none_in, cons_in, one_in, in_left, in_right, in_split, when_in, in_when, in_flat, flat_in, in_map, map_in}
use Rattle.seq.proofs.Order.{lt_from, lt_true, le_from, lt_false, eq_from, eq_self}
use Rattle.seq.proofs.Truth.{and_parts}

pub same_part-true : (a b : Part) → same_part a b ≡ true → a ≡ b
same_part-true tags tags e = refl
same_part-true tags (field t i) e = cc
same_part-true tags (word j) e = cc
same_part-true (field t i) tags e = cc
same_part-true (field t i) (field u j) e =
    let r = and_parts (nat_eq t u) (nat_eq i j) e in
    ap (λ x. field x i) (eq_from t u r.0) ∙ ap (λ y. field u y) (eq_from i j r.1)
same_part-true (field t i) (word j) e = cc
same_part-true (word i) tags e = cc
same_part-true (word i) (field u j) e = cc
same_part-true (word i) (word j) e = ap word (eq_from i j e)

pub same_part-self : (a : Part) → same_part a a ≡ true
same_part-self tags = refl
same_part-self (field t i) = rw (eq_self t, eq_self i) refl
same_part-self (word j) = eq_self j

-- what holds of one item holds of an equal one
pub by_item : {q : Part} {u : AbstractWord} {i : Item} (S : Sets) → item q u ≡ i → S i.part i.word
    → S q u
by_item S e s = subst (λ i. S i.part i.word) (sym e) s

pub picked_in : (q : Part) (X : List Item) {u : AbstractWord} → In u (words_in_part q X)
    → In (item q u) X
picked_in q X {u = u} h =
    let r = flat_in (word_if_in_part q) X h in
    let i = r.0 in
    let w = when_in (same_part q i.part) (i.word ∷ []) r.2 in
    let e : item i.part i.word ≡ item q u = ap (λ a. item a i.word)
    (sym (same_part-true q i.part w.0)) ∙ ap (λ b. item q b) (sym (one_in i.word w.1)) in
    subst (λ j. In j X) e r.1

pub in_picked : (q : Part) (X : List Item) {u : AbstractWord} → In (item q u) X
    → In u (words_in_part q X)
in_picked q X {u = u} h = in_flat (word_if_in_part q) X h
    (in_when (same_part q q) (u ∷ []) (same_part-self q) here)

pub enough_is : (k : Option ℕ) (m : ℕ) → words_hold_tag k m ≡ true → EnoughWordsForTag k m
enough_is None m e = tt
enough_is (Some k) m e = lt_from m k e

pub is_enough : (k : Option ℕ) (m : ℕ) → EnoughWordsForTag k m → words_hold_tag k m ≡ true
is_enough None m e = refl
is_enough (Some k) m e = lt_true m k e

-- word i of nodes
pub data Fetched (p : Tables) (S : Sets) : ℕ → AbstractWord → Type 0 where
  the_tag : {u : AbstractWord} → S tags u → Fetched p S 0 u
  a_field : {t m i : ℕ} {u : AbstractWord} → S tags (tag t) → fields_of p t ≡ Some m → i < m
      → S (field t i) u → Fetched p S (suc i) u
  a_zero : {t m i : ℕ} → S tags (tag t) → fields_of p t ≡ Some m → m ≤ i → Fetched p S (suc i) num

module _ (p : Tables) where
  -- tags that delay, that call and that wait
  evaluated_is : (t : ℕ) → is_done p t ≡ true → IsEvaluated p t
  evaluated_is t e = go (slice_get p.tags t) refl e
    where
      not_is : (b : Bool) → not b ≡ true → b ≡ false
      not_is true q = cc
      not_is false q = refl

      go : (o : Option Tag) → slice_get p.tags t ≡ o
          → is_some_and o (λ i. not (is_fun_kind i.kind)) ≡ true → IsEvaluated p t
      go None q r = cc
      go (Some i) q r = record { info = i; is_tag = q; not_delayed = not_is (is_fun_kind i.kind) r }

  done_is : (t : ℕ) → IsEvaluated p t → is_done p t ≡ true
  done_is t i = ap (λ o. is_some_and o (λ i. not (is_fun_kind i.kind))) i.is_tag ∙ ap not
      i.not_delayed

  pub delayed_is : (t f : ℕ) → delayed p t ≡ Some f → Delays p t f
  delayed_is t f e = go (slice_get p.tags t) refl e
    where
      go : (o : Option Tag) → slice_get p.tags t ≡ o
          → if_tag o (λ i. cond (is_fun_kind i.kind) (if_procedure i.proc (λ f. Some f)) None) ≡
          Some f → Delays p t f
      go None q r = cc
      go (Some i) q r = kind (is_fun_kind i.kind) refl r
        where
          at : (o : Option ProcId) → i.proc ≡ o → is_fun_kind i.kind ≡ true
              → if_procedure o (λ f. Some f) ≡ Some f → Delays p t f
          at None z k r = cc
          at (Some g) z k r = record
              { info = i; is_tag = q; delayed = k; proc = g; is_proc = z; is_f = cc }

          kind : (b : Bool) → is_fun_kind i.kind ≡ b
              → cond b (if_procedure i.proc (λ f. Some f)) None ≡ Some f → Delays p t f
          kind true k r = at i.proc refl k r
          kind false k r = cc

  pub is_delayed : (t f : ℕ) → Delays p t f → delayed p t ≡ Some f
  is_delayed t f d =
      ap (λ o. if_tag o (λ i. cond (is_fun_kind i.kind) (if_procedure i.proc (λ f. Some f)) None))
      d.is_tag
      ∙ ap (λ b. cond b (if_procedure d.info.proc (λ f. Some f)) None) d.delayed ∙ ap
      (λ o. if_procedure o (λ f. Some f)) d.is_proc ∙ ap (λ n. Some n) d.is_f

  -- of a tag that waits, by a table of the number of missing arguments
  module _ (by : ℕ → ℕ → Option ℕ) where
    abbrev waiting : ℕ → Option ℕ
    waiting t = if_tag (slice_get p.tags t)
        (λ i. cond (is_part_kind i.kind) (if_procedure i.proc (λ f. by f i.missing)) None)

    waiting_is : (t n : ℕ) → waiting t ≡ Some n → (f : ℕ) × (r : ℕ) × Waits p t f r
        × (by f r ≡ Some n)
    waiting_is t n e = go (slice_get p.tags t) refl e
      where
        go : (o : Option Tag) → slice_get p.tags t ≡ o
            → if_tag o
            (λ i. cond (is_part_kind i.kind) (if_procedure i.proc (λ f. by f i.missing)) None) ≡
            Some n → (f : ℕ) × (r : ℕ) × Waits p t f r × (by f r ≡ Some n)
        go None q r = cc
        go (Some i) q r = kind (is_part_kind i.kind) refl r
          where
            at : (o : Option ProcId) → i.proc ≡ o → is_part_kind i.kind ≡ true
                → if_procedure o (λ f. by f i.missing) ≡ Some n → (f : ℕ) × (r : ℕ) × Waits p t f r
                × (by f r ≡ Some n)
            at None z k r = cc
            at (Some g) z k r = (
              g.0,
              i.missing,
              record {
                info = i;
                is_tag = q;
                waiting = k;
                proc = g;
                is_proc = z;
                is_f = refl;
                is_missing
                    = refl;
              },
              r,
            )

            kind : (b : Bool) → is_part_kind i.kind ≡ b
                → cond b (if_procedure i.proc (λ f. by f i.missing)) None ≡ Some n → (f : ℕ)
                × (r : ℕ) × Waits p t f r × (by f r ≡ Some n)
            kind true k r = at i.proc refl k r
            kind false k r = cc

    is_waiting : (t f r : ℕ) → Waits p t f r → waiting t ≡ by f r
    is_waiting t f r d =
        ap (λ o. if_tag o
        (λ i. cond (is_part_kind i.kind) (if_procedure i.proc (λ f. by f i.missing)) None))
        d.is_tag
        ∙ ap (λ b. cond b (if_procedure d.info.proc (λ f. by f d.info.missing)) None) d.waiting ∙ ap
        (λ o. if_procedure o (λ f. by f d.info.missing)) d.is_proc
        ∙ ap (λ m. by d.proc.0 m) d.is_missing ∙ ap (λ g. by g r) d.is_f

  pub called_is : (t f : ℕ) → called p t ≡ Some f → Waits p t f 1
  called_is t f e = let w = waiting_is if_one_missing t f e in one w.0 w.1 w.2 w.3
    where
      one : (g r : ℕ) → Waits p t g r → if_one_missing g r ≡ Some f → Waits p t f 1
      one g zero w q = cc
      one g (suc zero) w q = let same : g ≡ f = cc in subst (λ g. Waits p t g 1) same w
      one g (suc (suc r)) w q = cc

  pub is_called : (t f : ℕ) → Waits p t f 1 → called p t ≡ Some f
  is_called t f w = is_waiting if_one_missing t f 1 w

  longer_is : (t t' : ℕ) → longer p t ≡ Some t' → (f : ℕ) × (r : ℕ) × Waits p t f (suc (suc r))
      × (part_from 0 p.tags f (suc r) ≡ Some t')
  longer_is t t' e = let w = waiting_is (when_more p) t t' e in more w.0 w.1 w.2 w.3
    where
      more : (g r : ℕ) → Waits p t g r → when_more p g r ≡ Some t' → (f : ℕ) × (r : ℕ)
          × Waits p t f (suc (suc r)) × (part_from 0 p.tags f (suc r) ≡ Some t')
      more g zero w q = cc
      more g (suc zero) w q = cc
      more g (suc (suc r)) w q = (g, r, w, q)

  is_longer : (t f r t' : ℕ) → Waits p t f (suc (suc r)) → part_from 0 p.tags f (suc r) ≡ Some t'
      → longer p t ≡ Some t'
  is_longer t f r t' w e = is_waiting (when_more p) t f (suc (suc r)) w ∙ e

  -- a list of items that are just those in some sets
  module _ (X : List Item) (S : Sets) where
    abbrev pub Only : Type 0
    Only = (q : Part) (u : AbstractWord) → In (item q u) X → S q u

    abbrev pub All : Type 0
    All = (q : Part) (u : AbstractWord) → S q u → In (item q u) X

    module _ (only : Only) where
      pub fetched_means : (j : ℕ) (u : AbstractWord) → In u (fetched p j X) → Fetched p S j u
      fetched_means zero u h = the_tag (only tags u (picked_in tags X h))
      fetched_means (suc i) u h = let r = flat_in (field_of_tag p i X) (words_in_part tags X) h
          in by r.0 (picked_in tags X r.1) r.2
        where
          by : (w : AbstractWord) → In (item tags w) X → In u (field_of_tag p i X w)
              → Fetched p S (suc i) u
          by (cell_of s) x k = none_in k
          by num x k = none_in k
          by (tag t) x k = of (fields_of p t) refl k
            where
              of : (o : Option ℕ) → fields_of p t ≡ o → In u (field_or_zero p i t X o)
                  → Fetched p S (suc i) u
              of None e k = none_in k
              of (Some m) e k = on (nat_lt i m) refl k
                where
                  on : (b : Bool) → nat_lt i m ≡ b → In u
                      (cond b (words_in_part (field t i) X) (num ∷ [])) → Fetched p S (suc i) u
                  on true l k = a_field (only tags (tag t) x) e (lt_from i m l)
                      (only (field t i) u (picked_in (field t i) X k))
                  on false l k = subst (Fetched p S (suc i)) (sym (one_in num k))
                      (a_zero (only tags (tag t) x) e (le_from i m l))

      pub as_word_means : (j : ℕ) (u : AbstractWord) → In u (as_word p j X) → AsWords p S j u
      as_word_means j u h = ⊎_elim (λ a. word_word (only (word j) u (picked_in (word j) X a)))
          (λ b. of j u (fetched_means j u b))
          (in_split (words_in_part (word j) X) (fetched p j X) h)
        where
          of : (j : ℕ) (u : AbstractWord) → Fetched p S j u → AsWords p S j u
          of j u (the_tag x) = tag_word x
          of j u (a_field x e lt y) = field_word x e lt y
          of j u (a_zero x e le) = zero_word x e le

      pub nodes_mean : (k : Option ℕ) (q : Part) (u : AbstractWord) → In (item q u) (as_nodes p k X)
          → AsNodes p k S q u
      nodes_mean k q u h = ⊎_elim
          (λ a. let r = flat_in (λ i. node_part i.part i) X a in node r.0.part r.0.word r.1 r.2)
          (λ b. let r = flat_in (node_of_word p k X) (words_in_part (word 0) X) b
          in made r.0 (picked_in (word 0) X r.1) r.2)
          (in_split (flat_map (λ i. node_part i.part i) X)
          (flat_map (node_of_word p k X) (words_in_part (word 0) X)) h)
        where
          node : (a : Part) (v : AbstractWord) → In (item a v) X
              → In (item q u) (node_part a (item a v)) → AsNodes p k S q u
          node tags v x y = by_item (AsNodes p k S) (one_in (item tags v) y)
              (node_tag (only tags v x))
          node (field t j) v x y = by_item (AsNodes p k S) (one_in (item (field t j) v) y)
              (node_field (only (field t j) v x))
          node (word j) v x y = none_in y

          made : (w : AbstractWord) → In (item (word 0) w) X → In (item q u) (node_of_word p k X w)
              → AsNodes p k S q u
          made (cell_of s) x y = none_in y
          made num x y = none_in y
          made (tag t) x y = of (fields_of p t) refl y
            where
              of : (o : Option ℕ) → fields_of p t ≡ o → In (item q u) (node_of_words p k X t o)
                  → AsNodes p k S q u
              of None e y = none_in y
              of (Some m) e y =
                  let w = when_in (words_hold_tag k m) _ y in
                  let en = enough_is k m w.0 in
                  ⊎_elim
                  (λ a. by_item (AsNodes p k S) a (words_tag (only (word 0) (tag t) x) e en))
                  (λ b. let r = flat_in (λ i. field_part t m i.part i.word) X b
                  in one en r.0.part r.0.word r.1 r.2)
                  (cons_in (item tags (tag t)) _ w.1)
                where
                  one : EnoughWordsForTag k m → (a : Part) (v : AbstractWord) → In (item a v) X
                      → In (item q u) (field_part t m a v) → AsNodes p k S q u
                  one en tags v z y = none_in y
                  one en (field t' j) v z y = none_in y
                  one en (word zero) v z y = none_in y
                  one en (word (suc j)) v z y =
                      let w = when_in (nat_lt j m) (item (field t j) v ∷ []) y in
                      by_item (AsNodes p k S) (one_in (item (field t j) v) w.1)
                      (words_field (only (word 0) (tag t) x) e en (lt_from j m w.0)
                      (only (word (suc j)) v z))

      done_means : (q : Part) (u : AbstractWord) → In (item q u) (done_items p X)
          → Evaluated p S q u
      done_means q u h = let r = flat_in (λ i. done_part p i.part i.word) X h
          in by r.0.part r.0.word r.1 r.2
        where
          by : (a : Part) (v : AbstractWord) → In (item a v) X → In (item q u) (done_part p a v)
              → Evaluated p S q u
          by tags (cell_of s) x y = none_in y
          by tags num x y = none_in y
          by tags (tag t) x y = let w = when_in (is_done p t) (item tags (tag t) ∷ []) y
              in by_item (Evaluated p S) (one_in (item tags (tag t)) w.1)
              (evaluated_tag (evaluated_is t w.0) (only tags (tag t) x))
          by (field t j) v x y = let w = when_in (is_done p t) (item (field t j) v ∷ []) y
              in by_item (Evaluated p S) (one_in (item (field t j) v) w.1)
              (evaluated_field (evaluated_is t w.0) (only (field t j) v x))
          by (word j) v x y = none_in y

    module _ (all : All) where
      pub in_fetched : (j : ℕ) (u : AbstractWord) → Fetched p S j u → In u (fetched p j X)
      in_fetched j u (the_tag x) = in_picked tags X (all tags u x)
      in_fetched j u (a_field {t = t} {m = m} {i = i} x e lt y)
          = in_flat (field_of_tag p i X) (words_in_part tags X)
          (in_picked tags X (all tags (tag t) x))
          (subst (λ o. In u (field_or_zero p i t X o)) (sym e)
          (subst (λ b. In u (cond b (words_in_part (field t i) X) (num ∷ [])))
          (sym (lt_true i m lt)) (in_picked (field t i) X (all (field t i) u y))))
      in_fetched j u (a_zero {t = t} {m = m} {i = i} x e le)
          = in_flat (field_of_tag p i X) (words_in_part tags X)
          (in_picked tags X (all tags (tag t) x))
          (subst (λ o. In num (field_or_zero p i t X o)) (sym e)
          (subst (λ b. In num (cond b (words_in_part (field t i) X) (num ∷ [])))
          (sym (lt_false i m le)) here))

      pub in_as_word : (j : ℕ) (u : AbstractWord) → AsWords p S j u → In u (as_word p j X)
      in_as_word j u (word_word x) = in_left (words_in_part (word j) X) (fetched p j X)
          (in_picked (word j) X (all (word j) u x))
      in_as_word j u (tag_word x) = in_right (words_in_part (word j) X) (fetched p j X)
          (in_fetched j u (the_tag x))
      in_as_word j u (field_word x e lt y) = in_right (words_in_part (word j) X) (fetched p j X)
          (in_fetched j u (a_field x e lt y))
      in_as_word j u (zero_word x e le) = in_right (words_in_part (word j) X) (fetched p j X)
          (in_fetched j u (a_zero x e le))

      pub in_nodes : (k : Option ℕ) (q : Part) (u : AbstractWord) → AsNodes p k S q u
          → In (item q u) (as_nodes p k X)
      in_nodes k q u (node_tag x) = in_left _ _
          (in_flat (λ i. node_part i.part i) X (all tags u x) here)
      in_nodes k q u (node_field {t = t} {i = j} x)
          = in_left _ _ (in_flat (λ i. node_part i.part i) X (all (field t j) u x) here)
      in_nodes k q u (words_tag {t = t} {m = m} x e en)
          = in_right (flat_map (λ i. node_part i.part i) X) _
          (in_flat (node_of_word p k X) (words_in_part (word 0) X)
          (in_picked (word 0) X (all (word 0) (tag t) x))
          (subst (λ o. In (item tags (tag t)) (node_of_words p k X t o)) (sym e)
          (in_when (words_hold_tag k m) _ (is_enough k m en) here)))
      in_nodes k q u (words_field {t = t} {m = m} {i = j} x e en lt y)
          = in_right (flat_map (λ i. node_part i.part i) X) _
          (in_flat (node_of_word p k X) (words_in_part (word 0) X)
          (in_picked (word 0) X (all (word 0) (tag t) x))
          (subst (λ o. In (item (field t j) u) (node_of_words p k X t o)) (sym e)
          (in_when (words_hold_tag k m) _ (is_enough k m en)
          (there (in_flat (λ i. field_part t m i.part i.word) X (all (word (suc j)) u y)
          (in_when (nat_lt j m) _ (lt_true j m lt) here))))))

      in_done : (q : Part) (u : AbstractWord) → Evaluated p S q u → In (item q u) (done_items p X)
      in_done q u (evaluated_tag {t = t} i x) = in_flat (λ i. done_part p i.part i.word) X
          (all tags (tag t) x) (in_when (is_done p t) _ (done_is t i) here)
      in_done q u (evaluated_field {t = t} {i = j} i x)
          = in_flat (λ i. done_part p i.part i.word) X (all (field t j) u x)
          (in_when (is_done p t) _ (done_is t i) here)

  module _ (H : Place → List Item) (A : Solution) where
    module _ (only : (q : Place) → Only (H q) (At A q)) where
      pub elements_mean : (w : W.Word) (u : AbstractWord) → In u (elements p H w)
          → StandsFor p A w u
      elements_mean (Lit k) u h = subst (StandsFor p A (Lit k)) (sym (one_in num h)) literal
      elements_mean (Var x) u h = variable
          (only (var x.0) (word 0) u (picked_in (word 0) (H (var x.0)) h))
      elements_mean (Global i) u h = go (slice_get p.globals i) refl h
        where
          go : (o : Option GlobalCell) → slice_get p.globals i ≡ o → In u (cell_at o)
              → StandsFor p A (Global i) u
          go None e h = none_in h
          go (Some c) e h = subst (StandsFor p A (Global i)) (sym (one_in (cell_of c.site.0) h))
              (global e)
      elements_mean (TagWord t) u h = subst (StandsFor p A (TagWord t)) (sym (one_in (tag t.0) h))
          tag_itself

      pub numbered_mean : (at : ℕ → Part) (j : ℕ) (ws : List W.Word) (q : Part) (u : AbstractWord)
          → In (item q u) (numbered p H at j ws) → (i : ℕ) × (n : ℕ) × (n ≡ j + i) × (q ≡ at n)
          × WordAmong p A ws i u
      numbered_mean at j [] q u h = none_in h
      numbered_mean at j (w ∷ ws) q u h = ⊎_elim
          (λ a. let r = map_in (item (at j)) (elements p H w) a
          in (
            0,
            j,
            omega arith,
            ap (λ i. i.part) r.2,
            first (subst (StandsFor p A w) (sym (ap (λ i. i.word) r.2))
                (elements_mean w r.0 r.1)),
          ))
          (λ b. let r = numbered_mean at (suc j) ws q u b
          in (suc r.0, r.1, omega (arith, r.2), r.3, later r.4))
          (in_split (in_part (at j) (elements p H w)) (numbered p H at (suc j) ws) h)

      pub value_means : (v : Val) (q : Part) (u : AbstractWord) → In (item q u) (value_items p H v)
          → ValueGives p A v q u
      value_means (NodeVar x) q u h = of_variable (only (var x.0) q u h)
      value_means (NodeVal t ws) q u h = ⊎_elim
          (λ a. by_item (ValueGives p A (NodeVal t ws)) a of_node)
          (λ b. let r = numbered_mean (field t.0) 0 ws q u b in let n : r.0 ≡ r.1
          = omega (arith, r.2) in
          subst (λ q. ValueGives p A (NodeVal t ws) q u) (ap (field t.0) n ∙ sym r.3)
          (of_field r.4))
          (cons_in (item tags (tag t.0)) (numbered p H (field t.0) 0 ws) h)
      value_means (VectorVal ws) q u h =
          let r = numbered_mean word 0 ws q u h in
          let n : r.0 ≡ r.1 = omega (arith, r.2) in
          subst (λ q. ValueGives p A (VectorVal ws) q u) (ap word n ∙ sym r.3) (of_words r.4)
      value_means (OneVal w) q u h = let r = map_in (item (word 0)) (elements p H w) h
          in by_item (ValueGives p A (OneVal w)) r.2 (of_word (elements_mean w r.0 r.1))

      cells_mean : (w : W.Word) (q : Part) (u : AbstractWord)
          → In (item q u) (flat_map (cell_items H) (elements p H w)) → (s : ℕ)
          × StandsFor p A w (cell_of s) × At A (site s) q u
      cells_mean w q u h = let r = flat_in (cell_items H) (elements p H w) h
          in by r.0 (elements_mean w r.0 r.1) r.2
        where
          by : (x : AbstractWord) → StandsFor p A w x → In (item q u) (cell_items H x) → (s : ℕ)
              × StandsFor p A w (cell_of s) × At A (site s) q u
          by (cell_of s) st y = (s, st, only (site s) q u y)
          by (tag t) st y = none_in y
          by num st y = none_in y

      fetch_means : (w : W.Word) (i : ℕ) (u : AbstractWord)
          → In u (flat_map (fetched_at p H i) (elements p H w)) → FetchGives p A w i u
      fetch_means w i u h = let r = flat_in (fetched_at p H i) (elements p H w) h
          in by r.0 (elements_mean w r.0 r.1) r.2
        where
          of : (s i : ℕ) (u : AbstractWord) → StandsFor p A w (cell_of s)
              → Fetched p (At A (site s)) i u → FetchGives p A w i u
          of s i u st (the_tag x) = its_tag st x
          of s i u st (a_field x e lt y) = its_field st x e lt y
          of s i u st (a_zero x e le) = its_zero st x e le

          by : (x : AbstractWord) → StandsFor p A w x → In u (fetched_at p H i x)
              → FetchGives p A w i u
          by (cell_of s) st y = of s i u st
              (fetched_means (H (site s)) (At A (site s)) (only (site s)) i u y)
          by (tag t) st y = none_in y
          by num st y = none_in y

      longer_means : (a : W.Word) (X : List Item) (S : Sets) → Only X S
          → (q : Part) (u : AbstractWord) → In (item q u)
          (flat_map (longer_tag p H a X) (words_in_part tags X)) → ExtendGives p A S a q u
      longer_means a X S o q u h = let r = flat_in (longer_tag p H a X) (words_in_part tags X) h
          in by r.0 (o tags r.0 (picked_in tags X r.1)) r.2
        where
          by : (x : AbstractWord) → S tags x → In (item q u) (longer_tag p H a X x)
              → ExtendGives p A S a q u
          by (cell_of s) st y = none_in y
          by num st y = none_in y
          by (tag t) st y = go (longer p t) refl y
            where
              go : (l : Option ℕ) → longer p t ≡ l → In (item q u) (longer_node p H a X t l)
                  → ExtendGives p A S a q u
              go None e y = none_in y
              go (Some t') e y = ⊎_elim
                  (λ z. by_item (ExtendGives p A S a) z (extended_tag st w.2 w.3))
                  (λ z. ⊎_elim
                  (λ z. let r = flat_in (λ i. moved_part t t' i.part i.word) X z
                  in moved r.0.part r.0.word r.1 r.2)
                  (λ z. last (fields_of p t) refl z)
                  (in_split (flat_map (λ i. moved_part t t' i.part i.word) X)
                  (last_field p H a t' (fields_of p t)) z))
                  (cons_in (item tags (tag t')) _ y)
                where
                  w : (f : ℕ) × (r : ℕ) × Waits p t f (suc (suc r))
                      × (part_from 0 p.tags f (suc r) ≡ Some t')
                  w = longer_is t t' e

                  moved : (b : Part) (v : AbstractWord) → In (item b v) X
                      → In (item q u) (moved_part t t' b v) → ExtendGives p A S a q u
                  moved tags v x y = none_in y
                  moved (word j) v x y = none_in y
                  moved (field c j) v x y =
                      let n = when_in (nat_eq c t) (item (field t' j) v ∷ []) y in
                      by_item (ExtendGives p A S a) (one_in (item (field t' j) v) n.1)
                      (extended_field st w.2 w.3
                      (subst (λ c. S (field c j) v) (eq_from c t n.0) (o (field c j) v x)))

                  last : (m : Option ℕ) → fields_of p t ≡ m → In (item q u) (last_field p H a t' m)
                      → ExtendGives p A S a q u
                  last None z y = none_in y
                  last (Some m) z y = let r = map_in (item (field t' m)) (elements p H a) y
                      in by_item (ExtendGives p A S a) r.2
                      (extended_last st w.2 w.3 z (elements_mean a r.0 r.1))

      arguments_mean : (t : ℕ) (ws : List W.Word) (X : List Item) (S : Sets) → Only X S
          → (q : Part) (u : AbstractWord) → In (item q u)
          (flat_map (arguments_of p H t ws X) (words_in_part tags X)) → ArgumentsGive p A S t ws q u
      arguments_mean t ws X S o q u h = let r = flat_in (arguments_of p H t ws X)
          (words_in_part tags X) h in by r.0 (o tags r.0 (picked_in tags X r.1)) r.2
        where
          by : (x : AbstractWord) → S tags x → In (item q u) (arguments_of p H t ws X x)
              → ArgumentsGive p A S t ws q u
          by (cell_of s) st y = none_in y
          by num st y = none_in y
          by (tag c) st y = ⊎_elim
              (λ z. let r = flat_in (λ i. argument_part t i.part i.word) X z
              in one r.0.part r.0.word r.1 r.2)
              (λ z. last (fields_of p t) refl z)
              (in_split (flat_map (λ i. argument_part t i.part i.word) X)
              (after_fields p H ws (fields_of p t)) w.1)
            where
              w : (nat_eq c t ≡ true) × In (item q u)
                  (flat_map (λ i. argument_part t i.part i.word) X
                  ++ after_fields p H ws (fields_of p t))
              w = when_in (nat_eq c t) _ y

              there_is : S tags (tag t)
              there_is = subst (λ c. S tags (tag c)) (eq_from c t w.0) st

              one : (b : Part) (v : AbstractWord) → In (item b v) X
                  → In (item q u) (argument_part t b v) → ArgumentsGive p A S t ws q u
              one tags v x y = none_in y
              one (word j) v x y = none_in y
              one (field d j) v x y =
                  let n = when_in (nat_eq d t) (item (word j) v ∷ []) y in
                  by_item (ArgumentsGive p A S t ws) (one_in (item (word j) v) n.1)
                  (field_argument there_is
                  (subst (λ d. S (field d j) v) (eq_from d t n.0) (o (field d j) v x)))

              last : (m : Option ℕ) → fields_of p t ≡ m → In (item q u) (after_fields p H ws m)
                  → ArgumentsGive p A S t ws q u
              last None z y = none_in y
              last (Some m) z y = let r = numbered_mean word m ws q u y
                  in subst (λ q. ArgumentsGive p A S t ws q u) (sym r.3)
                  (word_argument there_is z r.4 r.2)

      pub items_mean : (s : Source) → Only (items p H s) (Gives p A s)
      items_mean (value v) = value_means v
      items_mean (a_cell s) = λ q u h. by_item (OneWord (λ u. u ≡ cell_of s))
          (one_in (item (word 0) (cell_of s)) h) (one_word refl)
      items_mean a_number = λ q u h. by_item (OneWord (λ u. u ≡ num)) (one_in (item (word 0) num) h)
          (one_word refl)
      items_mean (held q) = only q
      items_mean (nodes_at w) = cells_mean w
      items_mean (word_at w i) = λ q u h. let r = map_in (item (word 0))
          (flat_map (fetched_at p H i) (elements p H w)) h
          in by_item (OneWord (FetchGives p A w i)) r.2 (one_word (fetch_means w i r.0 r.1))
      items_mean (evaluated s) = done_means (as_nodes p (width s) (items p H s))
          (AsNodes p (width s) (Gives p A s))
          (nodes_mean (items p H s) (Gives p A s) (items_mean s) (width s))
      items_mean (extended v a) = longer_means a (as_nodes p (width (value v)) (value_items p H v))
          (AsNodes p (width (value v)) (ValueGives p A v))
          (nodes_mean (value_items p H v) (ValueGives p A v) (value_means v) (width (value v)))
      items_mean (arguments s t ws) = arguments_mean t ws (as_nodes p (width s) (items p H s))
          (AsNodes p (width s) (Gives p A s))
          (nodes_mean (items p H s) (Gives p A s) (items_mean s) (width s))

    module _ (all : (q : Place) → All (H q) (At A q)) where
      pub in_elements : (w : W.Word) (u : AbstractWord) → StandsFor p A w u → In u (elements p H w)
      in_elements w u literal = here
      in_elements w u (variable {x = x} a) = in_picked (word 0) (H (var x.0))
          (all (var x.0) (word 0) u a)
      in_elements w u (global {i = i} {c = c} e) = subst (λ o. In (cell_of c.site.0) (cell_at o))
          (sym e) here
      in_elements w u tag_itself = here

      pub in_numbered : (at : ℕ → Part) (j : ℕ) (ws : List W.Word) (i n : ℕ) (u : AbstractWord)
          → n ≡ j + i → WordAmong p A ws i u → In (item (at n) u) (numbered p H at j ws)
      in_numbered at j ws i n u e (first {w = w} {ws = ws'} x) =
          let same : j ≡ n = omega (arith, e) in
          subst (λ n. In (item (at n) u) (numbered p H at j (w ∷ ws'))) same
          (in_left (in_part (at j) (elements p H w)) (numbered p H at (suc j) ws')
          (in_map (item (at j)) (elements p H w) (in_elements w u x)))
      in_numbered at j ws i n u e (later {w = w} {ws = ws'} {j = k} x)
          = in_right (in_part (at j) (elements p H w)) (numbered p H at (suc j) ws')
          (in_numbered at (suc j) ws' k n u (omega (arith, e)) x)

      pub in_value : (v : Val) (q : Part) (u : AbstractWord) → ValueGives p A v q u
          → In (item q u) (value_items p H v)
      in_value v q u (of_variable {x = x} a) = all (var x.0) q u a
      in_value v q u of_node = here
      in_value v q u (of_field {t = t} {ws = ws} {i = i} x)
          = there (in_numbered (field t.0) 0 ws i i u (omega arith) x)
      in_value v q u (of_words {ws = ws} {j = j} x) = in_numbered word 0 ws j j u (omega arith) x
      in_value v q u (of_word {w = w} x) = in_map (item (word 0)) (elements p H w)
          (in_elements w u x)

      in_fetch : (w : W.Word) (i : ℕ) (u : AbstractWord) → FetchGives p A w i u
          → In u (flat_map (fetched_at p H i) (elements p H w))
      in_fetch w i u (its_tag {s = s} st x) = in_flat (fetched_at p H 0) (elements p H w)
          (in_elements w (cell_of s) st)
          (in_fetched (H (site s)) (At A (site s)) (all (site s)) 0 u (the_tag x))
      in_fetch w i u (its_field {s = s} {i = j} st x e lt y)
          = in_flat (fetched_at p H (suc j)) (elements p H w) (in_elements w (cell_of s) st)
          (in_fetched (H (site s)) (At A (site s)) (all (site s)) (suc j) u (a_field x e lt y))
      in_fetch w i u (its_zero {s = s} {i = j} st x e le)
          = in_flat (fetched_at p H (suc j)) (elements p H w) (in_elements w (cell_of s) st)
          (in_fetched (H (site s)) (At A (site s)) (all (site s)) (suc j) num (a_zero x e le))

      in_longer : (a : W.Word) (X : List Item) (S : Sets) → All X S → (q : Part) (u : AbstractWord)
          → ExtendGives p A S a q u → In (item q u)
          (flat_map (longer_tag p H a X) (words_in_part tags X))
      in_longer a X S o q u (extended_tag {t = t} {f = f} {r = r} {t' = t'} x w e)
          = in_flat (longer_tag p H a X) (words_in_part tags X)
          (in_picked tags X (o tags (tag t) x))
          (subst (λ l. In (item tags (tag t')) (longer_node p H a X t l))
          (sym (is_longer t f r t' w e)) here)
      in_longer a X S o q u (extended_field {t = t} {f = f} {r = r} {t' = t'} {i = j} x w e y)
          = in_flat (longer_tag p H a X) (words_in_part tags X)
          (in_picked tags X (o tags (tag t) x))
          (subst (λ l. In (item (field t' j) u) (longer_node p H a X t l))
          (sym (is_longer t f r t' w e))
          (there (in_left _ _
          (in_flat (λ i. moved_part t t' i.part i.word) X (o (field t j) u y)
          (in_when (nat_eq t t) _ (eq_self t) here)))))
      in_longer a X S o q u (extended_last {t = t} {f = f} {r = r} {t' = t'} {m = m} x w e z y)
          = in_flat (longer_tag p H a X) (words_in_part tags X)
          (in_picked tags X (o tags (tag t) x))
          (subst (λ l. In (item (field t' m) u) (longer_node p H a X t l))
          (sym (is_longer t f r t' w e))
          (there (in_right (flat_map (λ i. moved_part t t' i.part i.word) X) _
          (subst (λ n. In (item (field t' m) u) (last_field p H a t' n)) (sym z)
          (in_map (item (field t' m)) (elements p H a) (in_elements a u y))))))

      in_arguments : (t : ℕ) (ws : List W.Word) (X : List Item) (S : Sets) → All X S
          → (q : Part) (u : AbstractWord) → ArgumentsGive p A S t ws q u
          → In (item q u) (flat_map (arguments_of p H t ws X) (words_in_part tags X))
      in_arguments t ws X S o q u (field_argument {i = j} x y)
          = in_flat (arguments_of p H t ws X) (words_in_part tags X)
          (in_picked tags X (o tags (tag t) x))
          (in_when (nat_eq t t) _ (eq_self t)
          (in_left _ _
          (in_flat (λ i. argument_part t i.part i.word) X (o (field t j) u y)
          (in_when (nat_eq t t) _ (eq_self t) here))))
      in_arguments t ws X S o q u (word_argument {m = m} {j = j} {n = n} x z y e)
          = in_flat (arguments_of p H t ws X) (words_in_part tags X)
          (in_picked tags X (o tags (tag t) x))
          (in_when (nat_eq t t) _ (eq_self t)
          (in_right (flat_map (λ i. argument_part t i.part i.word) X) _
          (subst (λ k. In (item (word n) u) (after_fields p H ws k)) (sym z)
          (in_numbered word m ws j n u e y))))

      pub in_items : (s : Source) → All (items p H s) (Gives p A s)
      in_items (value v) = in_value v
      in_items (a_cell s) = λ q u x. cell s q u x
        where
          cell : (s : ℕ) (q : Part) (u : AbstractWord) → OneWord (λ u. u ≡ cell_of s) q u
              → In (item q u) (item (word 0) (cell_of s) ∷ [])
          cell s q u (one_word e) = subst
              (λ v. In (item (word 0) v) (item (word 0) (cell_of s) ∷ [])) (sym e) here
      in_items a_number = λ q u x. number q u x
        where
          number : (q : Part) (u : AbstractWord) → OneWord (λ u. u ≡ num) q u
              → In (item q u) (item (word 0) num ∷ [])
          number q u (one_word e) = subst (λ v. In (item (word 0) v) (item (word 0) num ∷ []))
              (sym e) here
      in_items (held q) = all q
      in_items (nodes_at w) = λ q u x. in_flat (cell_items H) (elements p H w)
          (in_elements w (cell_of x.0) x.1) (all (site x.0) q u x.2)
      in_items (word_at w i) = λ q u x. of q u x
        where
          of : (q : Part) (u : AbstractWord) → OneWord (FetchGives p A w i) q u
              → In (item q u) (in_part (word 0) (flat_map (fetched_at p H i) (elements p H w)))
          of q u (one_word x) = in_map (item (word 0))
              (flat_map (fetched_at p H i) (elements p H w)) (in_fetch w i u x)
      in_items (evaluated s) = in_done (as_nodes p (width s) (items p H s))
          (AsNodes p (width s) (Gives p A s))
          (in_nodes (items p H s) (Gives p A s) (in_items s) (width s))
      in_items (extended v a) = in_longer a (as_nodes p (width (value v)) (value_items p H v))
          (AsNodes p (width (value v)) (ValueGives p A v))
          (in_nodes (value_items p H v) (ValueGives p A v) (in_value v) (width (value v)))
      in_items (arguments s t ws) = in_arguments t ws (as_nodes p (width s) (items p H s))
          (AsNodes p (width s) (Gives p A s))
          (in_nodes (items p H s) (Gives p A s) (in_items s) (width s))
