-- What is asked of an update that becomes a case over the tags of its value.
use Rattle.std.proofs.Common.{◌≡◌, ℕ, ◌<◌, ◌≤◌, Bool, true, false, cond, nat_le, List, [], ◌∷◌, length, Option, Some, None, refl, sym, ap, ◌∙◌, subst, arith}
use Rattle.std.specs.Prelude.{IfSome}
use Rattle.std.proofs.lemmas.Bool.Decides.{nat_tests}
use Rattle.grin_syntax.specs.declared.program.VarId.{VarId}
use Rattle.grin_syntax.specs.declared.program.Val.{Val}
use Rattle.grin_syntax.specs.declared.program.Val.TheVariants.{NodeVar, Node as Node', Vector, One}
use Rattle.grin_syntax.specs.declared.program.Word.{Word}
use Rattle.grin_syntax.specs.declared.program.Word.TheVariants.{Var}
use Rattle.grin_syntax.specs.Tree.{Leaf, update, Program}
use Rattle.grin_syntax.specs.Formed.{Scope, ValFormed, ActFormed}
use Rattle.grin_meaning.specs.Values.{Datum, tag, Node, Env, State, and_then, only_word, word_of}
use Rattle.grin_meaning.specs.Ready.{EachAct, NarrowAct, NoNodeVar}
use Rattle.flow_system.specs.declared.fact.Element.{Element as AbstractWord}
use Rattle.flow_system.specs.declared.fact.Place.TheVariants.{Var as var}
use Rattle.flow_system.specs.declared.fact.Part.TheVariants.{Word as word}
use Rattle.flow_system.specs.Tables.{tables}
use Rattle.flow_system.specs.Solution.{Solution, At, StandsFor, variable}
use Rattle.flow_system.specs.Covers.{StateIsCovered, DatumIn}
use Rattle.flow_system.proofs.Lying.{from_some, datum_mono, word_lies}
use Rattle.pass_ground.specs.OpenUpdates.{tag_variable, act_update_sum, one_if_some}
use Rattle.pass_ground.proofs.OpenUpdates.{head_of, TagThere, tag_there}
use Rattle.grin_rewrite.specs.Expanding.{Expansion}
use Rattle.grin_rewrite.proofs.Expanded.{by_update, ValsAlike, words_alike, alike, update_alike, update_given, Expands}
use Rattle.grin_rewrite.proofs.Sound.{Asked, Counts}
use Rattle.update_special.specs.Updates.{max_case_tags, may_have_tag, tags_of, with_literal_tag, over_tags, by_variable, special}
use Rattle.update_special.specs.Updated.{one_if_wide, TagIsLiteralOrMany}
use Rattle.seq.specs.Lists.{In}
use Rattle.seq.proofs.Those.{those_have, those_below}

-- ---- values with a literal tag

no_variable : (v : Val) (t : ℕ) → tag_variable (with_literal_tag t v) ≡ None
no_variable (NodeVar x) t = refl
no_variable (Node' u ws) t = refl
no_variable (Vector []) t = refl
no_variable (Vector (a ∷ ws)) t = refl
no_variable (One a) t = refl

still_no_variable : (v : Val) (t : ℕ) → NoNodeVar v → NoNodeVar (with_literal_tag t v)
still_no_variable (NodeVar x) t h = h
still_no_variable _ t h = tt

tagged_formed : (p : Program) (scope : Scope) (v : Val) (t : ℕ) → t < length p.tags
    → ValFormed p scope v → ValFormed p scope (with_literal_tag t v)
tagged_formed p scope (Vector (a ∷ ws)) t lt h = (lt, h.1)
tagged_formed p scope (One a) t lt h = lt
tagged_formed p scope _ t lt h = h

-- with its tag a value stays what it is
tag_alike : (p : Program) (env : Env) (v : Val) (x : VarId) (t : ℕ) → tag_variable v ≡ Some x
    → word_of p env (Var x) ≡ Some (tag t) → ValsAlike p env v (with_literal_tag t v)
tag_alike p env (Vector (a ∷ ws)) x t e q =
    (sym q ∙ ap (word_of p env) (sym (head_of a x e)), words_alike p env ws)
tag_alike p env (One a) x t e q = sym q ∙ ap (word_of p env) (sym (head_of a x e))
tag_alike p env _ x t e q = cc

-- the word that a variable holds is in its set
pub word_at : (p : Program) (A : Solution) (s : State) → StateIsCovered p A s → (x : ℕ) (d : Datum)
    → and_then (s.env x) only_word ≡ Some d → DatumIn s.heap (At A (var x) (word 0)) d
word_at p A s lies x d e =
    let a : Word = Var (record { 0 = x }) in
    datum_mono s.heap (StandsFor (tables p) A a) (At A (var x) (word 0)) in_set d
    (from_some (DatumIn s.heap (StandsFor (tables p) A a)) (word_of p s.env a) d
    (word_lies p s.heap A lies.globals s.env lies.variables a) e)
  where
    in_set : (u : AbstractWord) → StandsFor (tables p) A (Var (record { 0 = x })) u
        → At A (var x) (word 0) u
    in_set u (variable h) = h

pub tag_listed : (p : Program) (A : Solution) (s : State) → StateIsCovered p A s
    → (x : VarId) (n : Node) → TagThere p s.env x n → In n.tag (tags_of (length p.tags) A x.0)
tag_listed p A s lies x n h = those_have (may_have_tag A x.0) n.tag
    (word_at p A s lies x.0 (tag n.tag) h.there).there 0 (length p.tags) (omega arith)
    (let k : n.tag < length p.tags = h.known in omega arith)

-- ---- updates

-- what becomes of an update
data Becomes (T : ℕ → List ℕ) (a : Word) (v : Val) : Option Expansion → Type 0 where
  literal : tag_variable v ≡ None → Becomes T a v None
  wide : (x : VarId) → tag_variable v ≡ Some x → nat_le (length (T x.0)) max_case_tags ≡ false
      → Becomes T a v None
  few : (x : VarId) → tag_variable v ≡ Some x → nat_le (length (T x.0)) max_case_tags ≡ true
      → Becomes T a v (Some (over_tags a v (T x.0)))

becomes : (T : ℕ → List ℕ) (a : Word) (v : Val) → Becomes T a v (by_variable T a v (tag_variable v))
becomes T a v = go (tag_variable v) refl
  where
    at : (x : VarId) (b : Bool) → tag_variable v ≡ Some x
        → nat_le (length (T x.0)) max_case_tags ≡ b
        → Becomes T a v (cond b (Some (over_tags a v (T x.0))) None)
    at x true e q = few x e q
    at x false e q = wide x e q

    go : (o : Option VarId) → tag_variable v ≡ o → Becomes T a v (by_variable T a v o)
    go None e = literal e
    go (Some x) e = at x (nat_le (length (T x.0)) max_case_tags) e refl

module _ (g : Program) (A : Solution) where
  abbrev T : ℕ → List ℕ
  T = tags_of (length g.tags) A

  update_expands : (a : Word) (v : Val) (x : VarId) → tag_variable v ≡ Some x
      → Expands g (StateIsCovered g A) (update a v) (over_tags a v (T x.0))
  unfolding EachAct NarrowAct ActFormed
  update_expands a v x e = record {
    takes = by_update;
    given = λ c env d w w' y q. update_given g c true env d a v w w' y q;
    listed = λ s lies n q. tag_listed g A s lies x n (tag_there g s.env v x n e q);
    does = λ p c env d w n q. update_alike p env c true d a v (with_literal_tag n.tag v) w
        (alike p env v (with_literal_tag n.tag v)
        (tag_alike p env v x n.tag e (tag_there p env v x n e q).there));
    known = those_below (may_have_tag A x.0) 0 (length g.tags) (length g.tags) (omega arith);
    formed = λ scope t lt h. (h.0, tagged_formed g scope v t lt h.1);
    inlined = λ t. (tt, tt);
    by_words = λ t. (tt, tt);
    vectorised = λ t h. (tt, still_no_variable v t h.1);
    results = λ width most t. tt;
  }

  pub expands : (l : Leaf) (x : Expansion) → special T l ≡ Some x
      → Expands g (StateIsCovered g A) l x
  expands (update a v) x e = go (special T (update a v)) (becomes T a v) e
    where
      go : (o : Option Expansion) → Becomes T a v o → o ≡ Some x
          → Expands g (StateIsCovered g A) (update a v) x
      go None b q = cc
      go (Some y) (few z e r) q = let same : y ≡ x = cc
          in subst (Expands g (StateIsCovered g A) (update a v)) same (update_expands a v z e)
  expands _ x e = cc

module _ (T : ℕ → List ℕ) where
  abbrev LiteralOrMany : Option VarId → Type 0
  LiteralOrMany o = IfSome o (λ x. max_case_tags < length (T x.0))

  pub literal_or_many : (l : Leaf) → Asked (TagIsLiteralOrMany T) l (special T l)
  literal_or_many (update a v) = go (special T (update a v)) (becomes T a v)
    where
      go : (o : Option Expansion) → Becomes T a v o → Asked (TagIsLiteralOrMany T) (update a v) o
      go None (literal e) = subst LiteralOrMany (sym e) tt
      go None (wide x e q) = subst LiteralOrMany (sym e) (grind (arith, nat_tests))
      go (Some y) (few x e q) = λ t. subst LiteralOrMany (sym (no_variable v t)) tt
  literal_or_many _ = tt

  pub counts : (l : Leaf) → Counts (λ v. one_if_some (tag_variable v))
      (λ v. one_if_wide T (tag_variable v)) l (special T l)
  unfolding act_update_sum
  counts (update a v) = go (special T (update a v)) (becomes T a v)
    where
      go : (o : Option Expansion) → Becomes T a v o
          → Counts (λ v. one_if_some (tag_variable v)) (λ v. one_if_wide T (tag_variable v))
          (update a v) o
      go None (literal e) = ap one_if_some e ∙ sym (ap (one_if_wide T) e)
      go None (wide x e q) = ap one_if_some e ∙ sym (ap (one_if_wide T) e ∙ ap (λ b. cond b 0 1) q)
      go (Some y) (few x e q) = (
        λ t. ap one_if_some (no_variable v t),
        sym
            (ap (one_if_wide T) e ∙ ap (λ b. cond b 0 1) q),
      )
  counts _ = refl

  pub wide_open : (v : Val) → one_if_wide T (tag_variable v) ≤ one_if_some (tag_variable v)
  wide_open v = go (tag_variable v)
    where
      go : (o : Option VarId) → one_if_wide T o ≤ one_if_some o
      go None = omega arith
      go (Some x) = grind arith
