-- Which variables are bound, and what that changes in an environment.
use Rattle.std.proofs.Common.{◌≡◌, ℕ, zero, suc, ◌+◌, ◌<◌, Bool, true, false, cond, nat_eq, List, [], ◌∷◌, ◌++◌, map, length, Option, Some, None, refl, sym, ap, ◌∙◌, subst, arith}
use Rattle.grin_syntax.specs.declared.program.VarId.{VarId}
use Rattle.grin_syntax.specs.declared.program.Cell.{Cell}
use Rattle.grin_syntax.specs.declared.program.Target.{Target}
use Rattle.grin_syntax.specs.declared.program.Target.TheVariants as to
use Rattle.grin_syntax.specs.Binders.{numbers_of, target_vars, cell_vars}
use Rattle.grin_syntax.specs.Tree.{Program}
use Rattle.grin_meaning.specs.Values.{Datum, tag, Node, Value, node, words, Env, and_then, padded, Binding, with_vars, one_each, as_node, bindings_of}
use Rattle.grin_meaning.specs.Run.{places}
use Rattle.seq.specs.Lists.{times}

abbrev pub names_of : List Binding → List ℕ
names_of bs = map {A = Binding} (λ b. b.0) bs

not_first : (z y : ℕ) (ys : List ℕ) → times z (y ∷ ys) ≡ 0 → nat_eq z y ≡ false
not_first z y ys h = go (nat_eq z y) h
  where
    go : (b : Bool) → cond b 1 0 + times z ys ≡ 0 → b ≡ false
    go true k = absurd (omega (arith, k))
    go false k = refl

pub vars_out : (bs : List Binding) (env : Env) (z : ℕ) → times z (names_of bs) ≡ 0
    → with_vars bs env z ≡ env z
vars_out [] env z h = refl
vars_out (b ∷ bs) env z h = vars_out bs (λ y. cond (nat_eq y b.0) (Some b.1) (env y)) z
    (omega (arith, h)) ∙ ap (λ t. cond t (Some b.1) (env z)) (not_first z b.0 (names_of bs) h)

pub vars_in : (bs : List Binding) (env env' : Env) (z : ℕ) → 0 < times z (names_of bs)
    → with_vars bs env z ≡ with_vars bs env' z
vars_in [] env env' z h = absurd (omega (arith, h))
vars_in (b ∷ bs) env env' z h = go (times z (names_of bs)) refl
    (λ k. vars_in bs (λ y. cond (nat_eq y b.0) (Some b.1) (env y))
    (λ y. cond (nat_eq y b.0) (Some b.1) (env' y)) z k)
  where
    e1 : Env
    e1 = λ y. cond (nat_eq y b.0) (Some b.1) (env y)

    e2 : Env
    e2 = λ y. cond (nat_eq y b.0) (Some b.1) (env' y)

    it : (t : Bool) → 0 < cond t 1 0 + 0 → cond t (Some b.1) (env z) ≡ cond t (Some b.1) (env' z)
    it true k = refl
    it false k = absurd (omega (arith, k))

    go : (n : ℕ) → times z (names_of bs) ≡ n →
        (0 < times z (names_of bs) → with_vars bs e1 z ≡ with_vars bs e2 z)
        → with_vars bs e1 z ≡ with_vars bs e2 z
    go zero q f = vars_out bs e1 z q ∙ it (nat_eq z b.0)
        (subst (λ m. 0 < cond (nat_eq z b.0) 1 0 + m) q h) ∙ sym (vars_out bs e2 z q)
    go (suc n) q f = f (omega (arith, q))

pub vars_append : (bs cs : List Binding) (env : Env)
    → with_vars (bs ++ cs) env ≡ with_vars cs (with_vars bs env)
vars_append [] cs env = refl
vars_append (b ∷ bs) cs env = vars_append bs cs (λ y. cond (nat_eq y b.0) (Some b.1) (env y))

pub one_each_names : (xs : List VarId) (ds : List Datum) (bs : List Binding)
    → one_each xs ds ≡ Some bs → names_of bs ≡ numbers_of xs
one_each_names [] [] bs e = let h : bs ≡ [] = cc in ap names_of h
one_each_names [] (d ∷ ds) bs e = cc
one_each_names (x ∷ xs) [] bs e = cc
one_each_names (x ∷ xs) (d ∷ ds) bs e = go (one_each xs ds) e (λ cs q. one_each_names xs ds cs q)
  where
    go : (o : Option (List Binding)) → and_then o (λ cs. Some ((x.0, words (d ∷ [])) ∷ cs)) ≡ Some
        bs → ((cs : List Binding) → o ≡ Some cs → names_of cs ≡ numbers_of xs)
        → names_of bs ≡ numbers_of (x ∷ xs)
    go None k f = cc
    go (Some cs) k f = let h : bs ≡ (x.0, words (d ∷ [])) ∷ cs = cc
        in ap names_of h ∙ ap (λ l. x.0 ∷ l) (f cs refl)

pub bound_names : (g : Program) (t : Target) (v : Value) (bs : List Binding)
    → bindings_of g t v ≡ Some bs → names_of bs ≡ target_vars t
bound_names g to.Nothing (words []) bs e = let h : bs ≡ [] = cc in ap names_of h
bound_names g to.Nothing (words (d ∷ ds)) bs e = cc
bound_names g to.Nothing (node n) bs e = cc
bound_names g (to.Node x) v bs e = go (as_node g v) e
  where
    go : (o : Option Node) → and_then o (λ n. Some ((x.0, node n) ∷ [])) ≡ Some bs
        → names_of bs ≡ x.0 ∷ []
    go None k = cc
    go (Some n) k = let h : bs ≡ (x.0, node n) ∷ [] = cc in ap names_of h
bound_names g (to.One x) (words []) bs e = cc
bound_names g (to.One x) (words (d ∷ [])) bs e = let h : bs ≡ (x.0, words (d ∷ [])) ∷ [] = cc
    in ap names_of h
bound_names g (to.One x) (words (d ∷ (d2 ∷ ds))) bs e = cc
bound_names g (to.One x) (node n) bs e = cc
bound_names g (to.Vector xs) (words ds) bs e = one_each_names xs ds bs e
bound_names g (to.Vector xs) (node n) bs e = one_each_names xs
    (padded (length xs) (tag n.tag ∷ n.fields)) bs e

pub places_names : (a : ℕ) (cs : List Cell) → names_of (places a cs) ≡ cell_vars cs
places_names a [] = refl
places_names a (c ∷ cs) = ap (λ l. c.var.0 ∷ l) (places_names (suc a) cs)
