-- What is asked of a window: whether a variable is used outside the alternatives of a case.
use Rattle.std.proofs.Common.{◌≡◌, ℕ, suc, ◌+◌, ◌<◌, Bool, true, false, cond, nat_eq, ◌||◌, ◌&&◌, List, [], ◌∷◌, ◌++◌, drop, length, length-append, get_or, Option, Some, None, slice_get, refl, sym, ap, ◌∙◌, subst, arith}
use Rattle.std.proofs.lemmas.Bool.Decides.{nat_tests}
use Rattle.seq.specs.Lists.{is_among}
use Rattle.seq.proofs.Lists.{append_nil, append_again}
use Rattle.seq.proofs.Counted.{among_append}
use Rattle.seq.proofs.Truth.{or_false, or_assoc}
use Rattle.grin_syntax.specs.declared.program.VarId.{VarId}
use Rattle.grin_syntax.specs.declared.program.Word.{Word}
use Rattle.grin_syntax.specs.declared.program.Word.TheVariants.{Var, Lit, Global, TagWord}
use Rattle.grin_syntax.specs.declared.program.Val.TheVariants.{Vector}
use Rattle.grin_syntax.specs.declared.program.Target.{Target}
use Rattle.grin_syntax.specs.declared.program.Op.{Op}
use Rattle.grin_syntax.specs.declared.program.Stmt.{Stmt}
use Rattle.grin_syntax.specs.declared.program.Stmt.TheVariants.{Store, Bind}
use Rattle.grin_syntax.specs.Tree.{Code, end, store, bind, Act, act_of, before_of}
use Rattle.grin_syntax.proofs.TreeOf.{before_of-Store, before_of-Bind}
use Rattle.pass_ground.specs.Uses.{word_is, act_uses, code_uses, act_mentions}
use Rattle.variable_uses.specs.Stands.{ListSegmentAt}
use Rattle.variable_uses.proofs.Standing.{stands_first}
use Rattle.fetch_passes.specs.Windows.{begins_with, vector_uses, is_case_on_tag, is_passed, decides, owns, act_outside, outside}
use Rattle.fetch_passes.specs.Notes.{Place, Trace, nothing, joined_traces, with_own_size, act_trace, code_trace, Here, IsPlaceAfterPiece, Answers}
use Rattle.fetch_passes.specs.Asked.{Span, Window, SpanCoversBlock, Follows, is_var, IsWindow, FetchesSkipped, BeginsWithAct}
use Rattle.fetch_passes.proofs.Firsts.{code_from, code_at}
use Rattle.fetch_passes.proofs.Places.{act_among, code_among, here_past, here_first, past_at}

-- ---- where the case does not come next

pub unowned_uses : (t x : ℕ) (c : Code) → owns t c ≡ false → outside t x c ≡ code_uses x c
unfolding owns outside act_mentions
unowned_uses t x (end o) e = ap (λ b. cond b (decides x o) (act_uses x o)) e
unowned_uses t x (store cs b) e = refl
unowned_uses t x (bind u o b) e = go (is_passed o) (λ h. unowned_uses t x b h) e
  where
    go : (p : Bool) → (owns t b ≡ false → outside t x b ≡ code_uses x b)
        → cond p (owns t b) (is_case_on_tag t o) ≡ false
        → cond p (act_uses x o || outside t x b) (act_outside t x o || code_uses x b) ≡
        (act_uses x o || code_uses x b)
    go true later h = ap (λ k. act_uses x o || k) (later h)
    go false later h = ap (λ k. cond k (decides x o) (act_uses x o) || code_uses x b) h

pub unowned_window : (n : Trace) (t : ℕ) (c : Code) (s : Span) (w : Window) → SpanCoversBlock n s c
    → owns t c ≡ false
    → w ≡ record {
      owned = false;
      from = s.place.at;
      case = s.place.at;
      after = s.end;
      end = s.end;
      tested
          = None;
    } → IsWindow n t c w
unowned_window n t c s w h e is = subst (IsWindow n t c) (sym is) (record {
  before = [];
  after = [];
  all = (code_trace c).used;
  to_case = record { after = drop s.place.at n.used; is = refl };
  case_at = omega arith;
  from_case = record { after = drop s.end n.used; is = refl };
  case_end = omega arith;
  whole = h.here.used;
  whole_end = h.ends;
  owned = sym e;
  outside = λ x. unowned_uses t x c e ∙ sym (code_among x c);
})

-- ---- the variables that decide

pub tested_decides : (t x : ℕ) (tests : Bool) (ws : List Word) (b : Word) (r : Option VarId)
    → slice_get ws 1 ≡ Some b → ((x : ℕ) → is_var x r ≡ (tests && word_is x b))
    → begins_with t (Vector ws) ≡ true → vector_uses tests x (Vector ws) ≡
    (nat_eq t x || is_var x r)
tested_decides t x tests [] b r g h e = cc
tested_decides t x tests (a ∷ []) b r g h e = cc
tested_decides t x tests (a ∷ (c ∷ ws)) b r g h e =
    let same : c ≡ b = cc in
    (λ i. first a e i || (tests && word_is x (same i))) ∙ ap (λ k. nat_eq t x || k) (sym (h x))
  where
    first : (a : Word) → word_is t a ≡ true → word_is x a ≡ nat_eq t x
    first (Var y) f = ap (λ z. nat_eq z x) (let k : y.0 ≡ t = grind (arith, nat_tests) in k)
    first (Lit k) f = cc
    first (Global k) f = cc
    first (TagWord k) f = cc

pub tag_decides : (t x : ℕ) (tests : Bool) (ws : List Word) → slice_get ws 1 ≡ None
    → begins_with t (Vector ws) ≡ true → vector_uses tests x (Vector ws) ≡ (nat_eq t x || false)
tag_decides t x tests [] g e = cc
tag_decides t x tests (a ∷ []) g e = ap (λ k. k || false) (first a e)
  where
    first : (a : Word) → word_is t a ≡ true → word_is x a ≡ nat_eq t x
    first (Var y) f = ap (λ z. nat_eq z x) (let k : y.0 ≡ t = grind (arith, nat_tests) in k)
    first (Lit k) f = cc
    first (Global k) f = cc
    first (TagWord k) f = cc
tag_decides t x tests (a ∷ (c ∷ ws)) g e = cc

-- ---- where the case comes next

module _ (n : Trace) (t : ℕ) where
  pub owned_window : (whole left : Code) (s now : Span) (after : Place) (o : Act) (r : Trace)
      (q : Option VarId) → FetchesSkipped n t whole s now left → BeginsWithAct t o left r
      → is_case_on_tag t o ≡ true → IsPlaceAfterPiece n now.place after
      → ((t x : ℕ) → is_case_on_tag t o ≡ true → decides x o ≡ (nat_eq t x || is_var x q))
      → IsWindow n t whole
      (record {
        owned = true;
        from = s.place.at;
        case = now.place.at;
        after = after.at;
        end
            = s.end;
        tested = q;
      })
  owned_window whole left s now after o r q p b e past tested =
      let here : Here n now.place (joined_traces (with_own_size (act_trace o)) r)
      = subst (Here n now.place) b.trace p.left_spans.here in
      let at : after.at ≡ now.place.at + length (act_trace o).used
      = past_at n now.place after (act_trace o) past
      (here_first n now.place (with_own_size (act_trace o)) r here) in
      let used : length (code_trace whole).used ≡ length p.before + length (code_trace left).used
      = ap length p.used ∙ length-append p.before (code_trace left).used in
      let left_used : length (code_trace left).used ≡ length (act_trace o).used + length r.used
      = ap (λ z. length z.used) b.trace ∙ length-append (act_trace o).used r.used in
      let ends : s.end ≡ s.place.at + length (code_trace whole).used = p.spans.ends in
      let begun : now.place.at ≡ s.place.at + length p.before = p.at in
      record {
        before = p.before;
        after = r.used;
        all = (code_trace whole).used;
        to_case = stands_first n.used s.place.at p.before (code_trace left).used
            (subst (ListSegmentAt n.used s.place.at) p.used p.spans.here.used);
        case_at = p.at;
        from_case = (here_past n now.place after (act_trace o) r past here).used;
        case_end = omega (arith, at, used, left_used, ends, begun);
        whole = p.spans.here.used;
        whole_end = p.spans.ends;
        owned = sym (p.owns ∙ b.owns ∙ e);
        outside = λ x. p.outside x ∙ ap (λ k. is_among x p.before || k)
            (b.outside x ∙ ap (λ k. k || is_among x r.used)
            (ap (λ k. cond k (decides x o) (act_uses x o)) e ∙ tested t x e));
      }

  pub not_owned : (whole left : Code) (s now : Span) (o : Act) (r : Trace) (w : Window)
      → FetchesSkipped n t whole s now left → BeginsWithAct t o left r → is_case_on_tag t o ≡ false
      → w ≡ record {
        owned = false;
        from = s.place.at;
        case = s.place.at;
        after = s.end;
        end = s.end;
        tested
            = None;
      } → IsWindow n t whole w
  not_owned whole left s now o r w p b e is = unowned_window n t whole s w p.spans
      (p.owns ∙ b.owns ∙ e) is

  -- ---- what a block begins by

  pub begins_last : (o : Op) → BeginsWithAct t (act_of o) (end (act_of o)) nothing
  unfolding act_trace owns outside
  begins_last o = record {
    trace = λ i. record {
      used = sym (append_nil (act_trace (act_of o)).used) i;
      sizes
          = sym (append_nil (with_own_size (act_trace (act_of o))).sizes) i;
    };
    owns = refl;
    outside = λ x. sym (or_false (act_outside t x (act_of o)));
  }

  pub begins_bind : (u : Target) (o : Op) (c : Code) → is_passed (act_of o) ≡ false
      → BeginsWithAct t (act_of o) (bind u (act_of o) c) (code_trace c)
  unfolding act_trace owns outside
  begins_bind u o c e = record {
    trace = refl;
    owns = ap (λ k. cond k (owns t c) (is_case_on_tag t (act_of o))) e;
    outside = λ x. ap
        (λ k. cond k (act_uses x (act_of o) || outside t x c)
        (act_outside t x (act_of o) || code_uses x c)) e ∙ ap (λ k. act_outside t x (act_of o) || k)
        (sym (code_among x c));
  }

  -- ---- fetches are passed

  pub passed_none : (whole : Code) (s : Span) → SpanCoversBlock n s whole
      → FetchesSkipped n t whole s s whole
  passed_none whole s h = record {
    before = [];
    at = omega arith;
    spans = h;
    left_spans = h;
    used = refl;
    owns = refl;
    outside
        = λ x. refl;
  }

  pub passed_one : (whole c : Code) (s now next : Span) (u : Target) (o : Op)
      → is_passed (act_of o) ≡ true → Follows n now next → IsPlaceAfterPiece n now.place next.place
      → FetchesSkipped n t whole s now (bind u (act_of o) c) → FetchesSkipped n t whole s next c
  unfolding act_trace owns outside
  passed_one whole c s now next u o e f past p =
      let here : Here n now.place
      (joined_traces (with_own_size (act_trace (act_of o))) (code_trace c)) = p.left_spans.here
      in
      let at : next.place.at ≡ now.place.at + length (act_trace (act_of o)).used
      = past_at n now.place next.place (act_trace (act_of o)) past
      (here_first n now.place (with_own_size (act_trace (act_of o))) (code_trace c) here) in
      let more : length (p.before ++ (act_trace (act_of o)).used) ≡ length p.before + length
      (act_trace (act_of o)).used = length-append p.before (act_trace (act_of o)).used in
      let begun : now.place.at ≡ s.place.at + length p.before = p.at in
      record {
        before = p.before ++ (act_trace (act_of o)).used;
        at = omega (arith, at, more, begun);
        spans = p.spans;
        left_spans = f (bind u (act_of o) c) c (act_trace (act_of o)) refl p.left_spans;
        used = p.used ∙ sym (append_again p.before (act_trace (act_of o)).used (code_trace c).used);
        owns = p.owns ∙ ap (λ k. cond k (owns t c) (is_case_on_tag t (act_of o))) e;
        outside = λ x. p.outside x ∙ ap (λ k. is_among x p.before || k)
            (ap (λ k. cond k (act_uses x (act_of o) || outside t x c)
            (act_outside t x (act_of o) || code_uses x c)) e ∙ ap (λ k. k || outside t x c)
            (sym (act_among x (act_of o))))
            ∙ or_assoc (is_among x p.before) (is_among x (act_trace (act_of o)).used)
            (outside t x c) ∙ ap (λ k. k || outside t x c)
            (sym (among_append x p.before (act_trace (act_of o)).used));
      }

  -- ---- statements

  module _ (ss : List Stmt) (last : Code) (s : Span) where
    pub fetch_passed : (i : ℕ) (st : Stmt) (now next : Span) (u : Target) (o : Op) → i < length ss
        → st ≡ get_or ss i st → st ≡ Bind u o → is_passed (act_of o) ≡ true → Follows n now next
        → IsPlaceAfterPiece n now.place next.place
        → FetchesSkipped n t (code_from ss 0 last) s now (code_from ss i last)
        → FetchesSkipped n t (code_from ss 0 last) s next (code_from ss (i + 1) last)
    fetch_passed i st now next u o lt at is e f past p =
        let k : suc i ≡ i + 1 = omega arith in
        subst (λ j. FetchesSkipped n t (code_from ss 0 last) s next (code_from ss j last)) k
        (passed_one (code_from ss 0 last) (code_from ss (suc i) last) s now next u o e f past
        (subst (FetchesSkipped n t (code_from ss 0 last) s now) (bind_at i st u o lt at is) p))
      where
        bind_at : (i : ℕ) (st : Stmt) (u : Target) (o : Op) → i < length ss → st ≡ get_or ss i st
            → st ≡ Bind u o → code_from ss i last ≡ bind u (act_of o) (code_from ss (suc i) last)
        bind_at i st u o lt at is = code_at ss i st last lt at ∙ ap
            (λ k. before_of k (code_from ss (suc i) last)) is ∙ ap
            (λ f. f (code_from ss (suc i) last)) (before_of-Bind u o)

    pub bind_begins : (i : ℕ) (st : Stmt) (u : Target) (o : Op) → i < length ss
        → st ≡ get_or ss i st → st ≡ Bind u o → is_passed (act_of o) ≡ false
        → BeginsWithAct t (act_of o) (code_from ss i last) (code_trace (code_from ss (suc i) last))
    bind_begins i st u o lt at is e =
        let k : code_from ss i last ≡ bind u (act_of o) (code_from ss (suc i) last)
        = code_at ss i st last lt at ∙ ap (λ k. before_of k (code_from ss (suc i) last)) is ∙ ap
        (λ f. f (code_from ss (suc i) last)) (before_of-Bind u o) in
        subst (λ c. BeginsWithAct t (act_of o) c (code_trace (code_from ss (suc i) last))) (sym k)
        (begins_bind u o (code_from ss (suc i) last) e)

    pub store_comes : (i : ℕ) (st : Stmt) (now : Span) (cs : _) (w : Window) → i < length ss
        → st ≡ get_or ss i st → st ≡ Store cs → FetchesSkipped n t (code_from ss 0 last) s now
        (code_from ss i last)
        → w ≡ record {
          owned = false;
          from = s.place.at;
          case = s.place.at;
          after = s.end;
          end
              = s.end;
          tested = None;
        } → IsWindow n t (code_from ss 0 last) w
    unfolding owns
    store_comes i st now cs w lt at is p e =
        let k : code_from ss i last ≡ store cs (code_from ss (suc i) last)
        = code_at ss i st last lt at ∙ ap (λ k. before_of k (code_from ss (suc i) last)) is ∙ ap
        (λ f. f (code_from ss (suc i) last)) (before_of-Store cs) in
        unowned_window n t (code_from ss 0 last) s w p.spans (p.owns ∙ ap (owns t) k) e

-- ---- the answer

pub window_answers : (n : Trace) (t x : ℕ) (c : Code) (w : Window)
    (all before after decides either_ some result : Bool) → Answers n x w.from w.end all
    → Answers n x w.from w.case before → Answers n x w.after w.end after
    → decides ≡ (nat_eq t x || is_var x w.tested) → either_ ≡ (decides || after)
    → some ≡ (before || either_) → result ≡ cond w.owned some all → IsWindow n t c w
    → result ≡ outside t x c
window_answers n t x c w all before after decides either_ some result a b d e f g h k =
    h ∙ (λ i. cond w.owned
    ((g ∙ (λ j. b k.before k.to_case k.case_at j ||
    (f ∙ (λ m. e m || d k.after k.from_case k.case_end m)) j)) i)
    (a k.all k.whole k.whole_end i)) ∙ sym (k.outside x)
