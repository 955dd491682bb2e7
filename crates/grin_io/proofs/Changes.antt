-- What became of a sink: by one put, and by puts one after the other.
use Rattle.std.proofs.Common.{◌≡◌, ℕ, ◌≤◌, List, [], ◌∷◌, ◌++◌, take, Bool, true, false, Option, Some, None, refl, sym, ap, ◌∙◌, subst, arith, append_assoc, append-nil}
use Rattle.std.specs.Prelude.{IfSome}
use Rattle.std.specs.List.{concat, FoldsTo}
use Rattle.std.proofs.lemmas.List.Folds.{concat-append}
use Rattle.grin_io.specs.Causes.{CountGrew}
use Rattle.grin_io.specs.Changes.{KnownContent, sink_change, TookExactly, PutSomePieces, PutFailed, SinkAtFault}
use Rattle.grin_io.specs.declared.outside.Fault.{Fault}
use Rattle.grin_io.specs.declared.outside.Fault.TheVariants.{Read, Write}

-- a content that is told
pub told : (o : Option (List ℕ)) (P : List ℕ → Type 0) → IfSome o P → KnownContent o P
told None P h bytes e = cc
told (Some b) P h bytes e = let same : b ≡ bytes = cc in subst P same h

folds_join : {P A : Type 0} (R : P → A → P → Type 0) (p q r : P) (xs ys : List A) → FoldsTo R p xs q
    → FoldsTo R q ys r → FoldsTo R p (xs ++ ys) r
folds_join R p q r [] ys f g = subst (λ p. FoldsTo R p ys r) (sym f) g
folds_join R p q r (x ∷ xs) ys f g = (f.0, f.1, folds_join R f.0 q r xs ys f.2 g)

pub rises : (a b c : ℕ) → a ≤ b → CountGrew b c → CountGrew a c
rises a b c later rose = omega (arith, later, rose)

joined : (before : List ℕ) (first next : List (List ℕ)) → (before ++ concat first)
    ++ concat next ≡ before ++ concat (first ++ next)
joined before first next = append_assoc before (concat first) (concat next) ∙ ap (λ l. before ++ l)
    (sym (concat-append first next))

joined_part : (before : List ℕ) (first front : List (List ℕ)) (part : List ℕ)
    → (before ++ concat first) ++ (concat front ++ part) ≡ before
    ++ (concat (first ++ front) ++ part)
joined_part before first front part =
    sym (append_assoc (before ++ concat first) (concat front) part)
    ∙ ap (λ l. l ++ part) (joined before first front)
    ∙ append_assoc before (concat (first ++ front)) part

module _ {K : Type 0} (gives : K → List ℕ → Bool → K → Type 0) (taken : K → Option (List ℕ))
    (faults : K → ℕ) where
  -- nothing was put
  pub took_none : (k : K) (due : List (List ℕ)) → due ≡ []
      → TookExactly (sink_change gives taken faults k k) due
  took_none k due e =
      subst (λ d. TookExactly (sink_change gives taken faults k k) d) (sym e)
      (record { content = λ before is. is ∙ ap Some (sym (append-nil before)); puts = refl })

  pub paused_none : (fault : Fault) (k : K) (due : List (List ℕ)) → fault ≡ Read
      → SinkAtFault fault (sink_change gives taken faults k k) due
  paused_none fault k due f =
      let p : PutSomePieces (sink_change gives taken faults k k) due
      = record { front = []; rest = due; due_is = refl; took = took_none k [] refl } in
      subst (λ x. SinkAtFault x (sink_change gives taken faults k k) due) (sym f) p

  -- one put, and one that failed
  module _ (old new : K) (bytes : List ℕ) (due : List (List ℕ)) (is : due ≡ bytes ∷ []) where
    pub took_one : KnownContent (taken old) (λ before. taken new ≡ Some (before ++ bytes))
        → gives old bytes true new → TookExactly (sink_change gives taken faults old new) due
    took_one c g =
        subst (λ d. TookExactly (sink_change gives taken faults old new) d) (sym is)
        (record {
          content = λ before e. c before e ∙ ap (λ l. Some (before ++ l))
              (sym (append-nil bytes));
          puts = (new, g, refl);
        })

    pub broke_off_one : KnownContent (taken old)
        (λ before. (k : ℕ) × (taken new ≡ Some (before ++ take k bytes)))
        → gives old bytes false new → CountGrew (faults old) (faults new)
        → PutFailed (sink_change gives taken faults old new) due
    broke_off_one c g rose = record {
      front = [];
      piece = bytes;
      rest = [];
      last = old;
      due_is = sym is;
      puts = refl;
      refused
          = g;
      part = c;
      rose = rose;
    }

    pub broke_one : (fault : Fault) → fault ≡ Write
        → KnownContent (taken old) (λ before. (k : ℕ) × (taken new ≡ Some (before ++ take k bytes)))
        → gives old bytes false new → CountGrew (faults old) (faults new)
        → SinkAtFault fault (sink_change gives taken faults old new) due
    broke_one fault f c g rose = subst
        (λ x. SinkAtFault x (sink_change gives taken faults old new) due) (sym f)
        (broke_off_one c g rose)

  -- what a sink took, and then more
  module _ (a b c : K) (first next : List (List ℕ)) where
    pub took_join : TookExactly (sink_change gives taken faults a b) first
        → TookExactly (sink_change gives taken faults b c) next
        → TookExactly (sink_change gives taken faults a c) (first ++ next)
    took_join p q = record {
      content = λ before is. q.content (before ++ concat first) (p.content before is) ∙ ap Some
          (joined before first next);
      puts = folds_join (λ k piece next. gives k piece true next) a b c first next p.puts q.puts;
    }

  module _ (a b c : K) (first next rest : List (List ℕ)) where
    due_join : (front over : List (List ℕ)) → front ++ over ≡ next → (first ++ front)
        ++ (over ++ rest) ≡ (first ++ next) ++ rest
    due_join front over is =
        append_assoc first front (over ++ rest)
        ∙ ap (λ l. first ++ l) (sym (append_assoc front over rest) ∙ ap (λ l. l ++ rest) is)
        ∙ sym (append_assoc first next rest)

    pub broke_off_join : faults a ≤ faults b → TookExactly (sink_change gives taken faults a b)
        first → PutFailed (sink_change gives taken faults b c) next
        → PutFailed (sink_change gives taken faults a c) ((first ++ next) ++ rest)
    broke_off_join later p q = record {
      front = first ++ q.front;
      piece = q.piece;
      rest = q.rest ++ rest;
      last = q.last;
      due_is = due_join q.front (q.piece ∷ q.rest) q.due_is;
      puts = folds_join (λ k piece next. gives k piece true next) a b q.last first q.front p.puts
          q.puts;
      refused = q.refused;
      part = λ before is.
          let h = q.part (before ++ concat first) (p.content before is) in
          (h.0, h.1 ∙ ap Some (joined_part before first q.front (take h.0 q.piece)));
      rose = rises (faults a) (faults b) (faults c) later q.rose;
    }

    pub broke_join : (fault : Fault) → faults a ≤ faults b
        → TookExactly (sink_change gives taken faults a b) first
        → SinkAtFault fault (sink_change gives taken faults b c) next
        → SinkAtFault fault (sink_change gives taken faults a c) ((first ++ next) ++ rest)
    broke_join Read later p q = record {
      front = first ++ q.front;
      rest = q.rest ++ rest;
      due_is = due_join q.front q.rest q.due_is;
      took = took_join a b _ first q.front p q.took;
    }
    broke_join Write later p q = broke_off_join later p q
