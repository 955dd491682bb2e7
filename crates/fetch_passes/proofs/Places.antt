-- Where a walk stands in what is noted of a procedure, and what is used from there on.
use Rattle.std.proofs.Common.{◌≡◌, ◌↔◌, ℕ, zero, suc, ◌+◌, ◌-◌, ◌<◌, Bool, true, ◌||◌, nat_eq, List, [], ◌∷◌, ◌++◌, length, length-append, length-drop, drop, refl, sym, ap, ◌∙◌, subst, arith}
use Rattle.std.proofs.lemmas.Bool.Decides.{nat_tests}
use Rattle.seq.specs.Lists.{is_among}
use Rattle.seq.proofs.Counted.{among_append}
use Rattle.seq.proofs.Truth.{both_ways, or_false}
use Rattle.grin_syntax.specs.declared.program.Cell.{Cell}
use Rattle.grin_syntax.specs.declared.program.Word as W
use Rattle.grin_syntax.specs.declared.program.Word.TheVariants.{Lit, Global, TagWord, Var}
use Rattle.grin_syntax.specs.declared.program.Val as V
use Rattle.grin_syntax.specs.declared.program.Val.TheVariants.{NodeVar, Node, Vector, One}
use Rattle.grin_syntax.specs.Tree.{Code, end, store, bind, Act, leaf, unit, fetch, fetch_word, update, eval, apply, call, prim, read, write, case, nested, fail, Arms, no_arm, arm}
use Rattle.pass_ground.specs.Uses.{word_is, words_use, val_uses, cells_use, act_uses, code_uses, arms_use, act_mentions}
use Rattle.variable_uses.specs.Uses.{IsUsedWithin}
use Rattle.variable_uses.specs.Stands.{ListSegmentAt}
use Rattle.variable_uses.proofs.Standing.{stands_first, stands_rest, stands_all, used_among, among_used}
use Rattle.fetch_passes.specs.Notes.{Size, Place, Trace, joined_traces, size_of, with_own_size, only, word_used, words_used, val_used, cells_used, act_trace, code_trace, arms_trace, Here, size_at, inside, IsPlaceAfterPiece, Answers}
use Rattle.fetch_passes.specs.Asked.{Span, SpanCoversBlock, Follows}

-- ---- what is used is among the uses

same_eq : (x y : ℕ) → nat_eq y x ≡ nat_eq x y
same_eq x y = both_ways (nat_eq y x) (nat_eq x y) (λ t. grind (arith, nat_tests))
    (λ t. grind (arith, nat_tests))

module _ (x : ℕ) where
  one_among : (y : ℕ) → is_among x (y ∷ []) ≡ nat_eq y x
  one_among y = or_false (nat_eq x y) ∙ sym (same_eq x y)

  pub word_among : (a : W.Word) → is_among x (word_used a) ≡ word_is x a
  word_among (Var y) = one_among y.0
  word_among (Lit k) = refl
  word_among (Global i) = refl
  word_among (TagWord t) = refl

  words_among : (ws : List W.Word) → is_among x (words_used ws) ≡ words_use x ws
  words_among [] = refl
  words_among (a ∷ ws) = among_append x (word_used a) (words_used ws) ∙
      (λ i. word_among a i || words_among ws i)

  pub val_among : (v : V.Val) → is_among x (val_used v) ≡ val_uses x v
  val_among (NodeVar y) = one_among y.0
  val_among (Node t ws) = words_among ws
  val_among (Vector ws) = words_among ws
  val_among (One a) = word_among a

  cells_among : (cs : List Cell) → is_among x (cells_used cs) ≡ cells_use x cs
  cells_among [] = refl
  cells_among (c ∷ cs) = among_append x (val_used c.val) (cells_used cs) ∙
      (λ i. val_among c.val i || cells_among cs i)

  mutual
    unfolding act_trace act_mentions

    pub act_among : (o : Act) → is_among x (act_trace o).used ≡ act_uses x o
    act_among (leaf (unit v)) = val_among v
    act_among (leaf (fetch a)) = word_among a
    act_among (leaf (fetch_word a i)) = word_among a
    act_among (leaf (update a v)) = among_append x (word_used a) (val_used v) ∙
        (λ i. word_among a i || val_among v i)
    act_among (leaf (eval a)) = word_among a
    act_among (leaf (apply v a)) = among_append x (val_used v) (word_used a) ∙
        (λ i. val_among v i || word_among a i)
    act_among (leaf (call f ws)) = words_among ws
    act_among (leaf (prim f a b)) = among_append x (word_used a) (word_used b) ∙
        (λ i. word_among a i || word_among b i)
    act_among (leaf read) = refl
    act_among (leaf (write a)) = word_among a
    act_among (case v as') = among_append x (val_used v) (arms_trace as').used ∙
        (λ i. val_among v i || arms_among as' i)
    act_among (nested b) = code_among b
    act_among (leaf fail) = refl

    pub code_among : (b : Code) → is_among x (code_trace b).used ≡ code_uses x b
    code_among (end o) = act_among o
    code_among (store cs b) = among_append x (cells_used cs) (code_trace b).used ∙
        (λ i. cells_among cs i || code_among b i)
    code_among (bind t o b) = among_append x (act_trace o).used (code_trace b).used ∙
        (λ i. act_among o i || code_among b i)

    arms_among : (as' : Arms) → is_among x (arms_trace as').used ≡ arms_use x as'
    arms_among no_arm = refl
    arms_among (arm s b as') = among_append x (code_trace b).used (arms_trace as').used ∙
        (λ i. code_among b i || arms_among as' i)

-- ---- answers

pub answered : (n : Trace) (x from to : ℕ) (used : Bool)
    → ((used ≡ true) ↔ IsUsedWithin n.used x from to) → Answers n x from to used
answered n x from to used h us s e = both_ways used (is_among x us)
    (λ t. used_among n.used from us s x (subst (IsUsedWithin n.used x from) e (h.0 t)))
    (λ t. h.1 (subst (IsUsedWithin n.used x from) (sym e) (among_used n.used from us s x t)))

-- ---- places

pub here_whole : (t : Trace) (p : Place) → p.at ≡ 0 → p.piece ≡ 0 → Here t p t
here_whole t p a b = record {
  used = subst (λ k. ListSegmentAt t.used k t.used) (sym a) (stands_all t.used);
  sizes
      = subst (λ k. ListSegmentAt t.sizes k t.sizes) (sym b) (stands_all t.sizes);
}

module _ (n : Trace) where
  pub here_first : (p : Place) (s t : Trace) → Here n p (joined_traces s t) → Here n p s
  here_first p s t h = record {
    used = stands_first n.used p.at s.used t.used h.used;
    sizes
        = stands_first n.sizes p.piece s.sizes t.sizes h.sizes;
  }

  pub here_inside : (p q : Place) (s : Trace) → inside p q → Here n p (with_own_size s) → Here n q s
  here_inside p q s e h =
      let k : p.piece + 1 ≡ q.piece = let f = e.1 in omega (arith, f) in
      record {
        used = subst (λ k. ListSegmentAt n.used k s.used) (sym e.0) h.used;
        sizes = subst (λ k. ListSegmentAt n.sizes k s.sizes) k
            (stands_rest n.sizes p.piece (size_of s ∷ []) s.sizes h.sizes);
      }

  size_first : (ss : List Size) (i : ℕ) (z : Size) (rest : List Size)
      → ListSegmentAt ss i (z ∷ rest) → size_at ss i ≡ z
  size_first ss i z rest s = go ss i s.after s.is
    where
      go : (ss : List Size) (i : ℕ) (after : List Size) → drop i ss ≡ (z ∷ rest) ++ after
          → size_at ss i ≡ z
      go [] zero after e = cc
      go [] (suc i) after e = cc
      go (y ∷ ss) zero after e = cc
      go (y ∷ ss) (suc i) after e = go ss i after e

  pub size_here : (p : Place) (s : Trace) → Here n p (with_own_size s)
      → size_at n.sizes p.piece ≡ size_of s
  size_here p s h = size_first n.sizes p.piece (size_of s) s.sizes h.sizes

  pub here_within : (p : Place) (s : Trace) → Here n p (with_own_size s) → p.piece < length n.sizes
  here_within p s h =
      let e : length n.sizes - p.piece ≡ suc (length s.sizes) + length h.sizes.after
      = sym (length-drop p.piece n.sizes) ∙ ap length h.sizes.is ∙ length-append
      (with_own_size s).sizes h.sizes.after in
      omega (arith, e)

  pub past_at : (p q : Place) (s : Trace) → IsPlaceAfterPiece n p q → Here n p (with_own_size s)
      → q.at ≡ p.at + length s.used
  past_at p q s e h = e.at ∙ ap (λ z. p.at + z.uses) (size_here p s h)

  pub here_past : (p q : Place) (s t : Trace) → IsPlaceAfterPiece n p q
      → Here n p (joined_traces (with_own_size s) t) → Here n q t
  here_past p q s t e h =
      let f : Here n p (with_own_size s) = here_first p (with_own_size s) t h in
      let k : q.piece ≡ suc (p.piece + length s.sizes)
      = e.piece ∙ ap (λ z. suc (p.piece + z.pieces)) (size_here p s f) in
      let m : p.piece + suc (length s.sizes) ≡ q.piece = omega (arith, k) in
      record {
        used = subst (λ k. ListSegmentAt n.used k t.used) (sym (past_at p q s e f))
            (stands_rest n.used p.at s.used t.used h.used);
        sizes = subst (λ k. ListSegmentAt n.sizes k t.sizes) m
            (stands_rest n.sizes p.piece (with_own_size s).sizes t.sizes h.sizes);
      }

  -- what a block uses that begins here
  pub block_answer : (p q : Place) (x : ℕ) (b : Code) (used : Bool)
      → Here n p (with_own_size (code_trace b)) → IsPlaceAfterPiece n p q
      → Answers n x p.at q.at used → used ≡ code_uses x b
  block_answer p q x b used h e a = a (code_trace b).used h.used (past_at p q (code_trace b) e h) ∙
      code_among x b

  -- ---- the rest of a block

  pub block_spans : (p q : Place) (s : Span) (b : Code) → inside p s.place → IsPlaceAfterPiece n p q
      → s.end ≡ q.at → Here n p (with_own_size (code_trace b)) → SpanCoversBlock n s b
  block_spans p q s b i e f h =
      let k : q.at ≡ p.at + length (code_trace b).used = past_at p q (code_trace b) e h in
      record {
        here = here_inside p s.place (code_trace b) i h;
        ends
            = f ∙ k ∙ ap (λ m. m + length (code_trace b).used) (sym i.0);
      }

  pub rest_follows : (s next : Span) → IsPlaceAfterPiece n s.place next.place → next.end ≡ s.end
      → Follows n s next
  rest_follows s next e f whole c t is h =
      let j : Here n s.place (joined_traces (with_own_size t) (code_trace c))
      = subst (Here n s.place) is h.here in
      let k : next.place.at ≡ s.place.at + length t.used
      = past_at s.place next.place t e (here_first s.place (with_own_size t) (code_trace c) j)
      in
      let m : length (code_trace whole).used ≡ length t.used + length (code_trace c).used
      = ap (λ z. length z.used) is ∙ length-append t.used (code_trace c).used in
      let l : s.end ≡ s.place.at + length (code_trace whole).used = h.ends in
      record {
        here = here_past s.place next.place t (code_trace c) e j;
        ends
            = omega (arith, f, k, l, m);
      }

  pub alts_here : (p q r : Place) (v : V.Val) (as' : Arms) → inside p q → IsPlaceAfterPiece n q r
      → Here n p (with_own_size (act_trace (case v as'))) → Here n r (arms_trace as')
  unfolding act_trace
  alts_here p q r v as' i e h = here_past q r (only (val_used v)) (arms_trace as') e
      (here_inside p q (act_trace (case v as')) i h)
