-- The sites of the cells that updates may go to, and the words that the walk over procedures
-- collects.
use Rattle.std.proofs.Common.{◌≡◌, ℕ, ◌+◌, ◌<◌, ◌≤◌, Bool, true, ◌||◌, List, [], ◌∷◌, ◌++◌, map, take, length, get_or, Some, slice_get, refl, sym, ap, ◌∙◌, subst, inl, inr, ⊎_elim, arith}
use Rattle.std.specs.BTreeSet.{BTreeSet}
use Rattle.std.specs.BTreeMap.{is_at}
use Rattle.std.specs.List.{list_any}
use Rattle.std.specs.Ordering.{nat_cmp, is_eq}
use Rattle.std.specs.declared.cmp.Ordering.{Ordering}
use Rattle.std.specs.declared.cmp.Ordering.TheVariants.{Less, Equal, Greater}
use Rattle.std.proofs.lemmas.List.{take_more, take_all}
use Rattle.std.proofs.lemmas.Bool.Decides.{nat_tests}
use Rattle.grin_syntax.specs.declared.program.VarId.{VarId}
use Rattle.grin_syntax.specs.declared.program.Site.{Site}
use Rattle.grin_syntax.specs.declared.program.GlobalCell.{GlobalCell}
use Rattle.grin_syntax.specs.declared.program.Word as W
use Rattle.grin_syntax.specs.declared.program.Word.TheVariants.{Var, Global}
use Rattle.grin_syntax.specs.declared.program.Proc.{Proc}
use Rattle.grin_syntax.specs.Formed.{AllOf}
use Rattle.grin_syntax.specs.Tree.{code_of, Procedure, Program, procedure_of}
use Rattle.flow_system.specs.declared.fact.Element.TheVariants.{Cell as cell_of}
use Rattle.flow_system.specs.declared.fact.Place.TheVariants.{Var as var}
use Rattle.flow_system.specs.declared.fact.Part.TheVariants.{Word as word}
use Rattle.flow_system.specs.Tables.{tables}
use Rattle.flow_system.specs.Solution.{Solution, At, StandsFor, variable, global}
use Rattle.points_to.specs.Held.{In, here, there}
use Rattle.points_to.specs.Joined.{Joined}
use Rattle.seq.proofs.Member.{none_in, cons_in, one_in, in_split, in_left, in_right}
use Rattle.seq.proofs.Truth.{or_true}
use Rattle.seq.proofs.Lists.{map_push}
use Rattle.pass_ground.specs.Updated.{code_updated, updated_of}
use Rattle.pass_ground.proofs.Collected.{updated}
use Rattle.pass_ground.proofs.Walked.{all, procs_next}
use Rattle.raise_theory.specs.Raisable.{NeverUpdated}
use Rattle.arity_raise.specs.Fixed.{SitesJoin, UpdatedSites}
use Rattle.flow_system.proofs.Numbered.{nat_equal}

-- ---- words that procedures update

all_updated : (qs : List Procedure) → all updated qs ≡ updated_of qs
all_updated [] = refl
all_updated (q ∷ qs) = ap (λ l. code_updated q.body ++ l) (all_updated qs)

pub proc_words_next : (ps : List Proc) (i : ℕ) (p : Proc) (old new : List W.Word) → i < length ps
    → p ≡ get_or ps i p → new ≡ old ++ code_updated (code_of p.body)
    → old ≡ updated_of (map procedure_of (take i ps))
    → new ≡ updated_of (map procedure_of (take (i + 1) ps))
proc_words_next ps i p old new lt e n o =
    procs_next updated ps i p old new lt e n (o ∙ sym (all_updated (map procedure_of (take i ps))))
    ∙ all_updated (map procedure_of (take (i + 1) ps))

-- ---- numbers in a set

nat_self : (n : ℕ) → is_eq (nat_cmp n n) ≡ true
nat_self n = grind (arith, nat_tests)

any_in : (n : ℕ) (ks : List ℕ) → list_any (is_at (nat_cmp n)) ks ≡ true → In n ks
any_in n [] e = cc
any_in n (k ∷ ks) e = go (any_in n ks) (nat_cmp n k) refl e
  where
    go : (list_any (is_at (nat_cmp n)) ks ≡ true → In n ks) → (o : Ordering) → nat_cmp n k ≡ o
        → (is_eq o || list_any (is_at (nat_cmp n)) ks) ≡ true → In n (k ∷ ks)
    go again Less q e = there (again e)
    go again Equal q e = subst (λ j. In n (j ∷ ks)) (nat_equal n k q) here
    go again Greater q e = there (again e)

in_any : (n : ℕ) (ks : List ℕ) → In n ks → list_any (is_at (nat_cmp n)) ks ≡ true
in_any n [] h = none_in h
in_any n (k ∷ ks) h = ⊎_elim
    (λ e. subst (λ j. (is_eq (nat_cmp n j) || list_any (is_at (nat_cmp n)) ks) ≡ true) e
    (ap (λ b. b || list_any (is_at (nat_cmp n)) ks) (nat_self n)))
    (λ t. ap (λ b. is_eq (nat_cmp n k) || b) (in_any n ks t) ∙ or_true (is_eq (nat_cmp n k)))
    (cons_in k ks h)

pub has_number : (n : ℕ) (ks : List ℕ) (b : Bool) → b ≡ list_any (is_at (nat_cmp n)) ks
    → (b ≡ true → In n ks) × (In n ks → b ≡ true)
has_number n ks b e = (λ t. any_in n ks (sym e ∙ t), λ h. e ∙ in_any n ks h)

pub joins_next : (f : Site → ℕ) (xs : List Site) (i : ℕ) (d : Site) (first old new : List ℕ)
    → i < length xs → Joined first (map f (take i xs)) old → Joined old (f (get_or xs i d) ∷ []) new
    → Joined first (map f (take (i + 1) xs)) new
joins_next f xs i d first old new lt u v =
    let more : map f (take (i + 1) xs) ≡ map f (take i xs) ++ f (get_or xs i d) ∷ []
    = ap (map f) (take_more xs i d lt) ∙ map_push f (take i xs) (get_or xs i d) in
    subst (λ l. Joined first l new) (sym more) (record {
      kept = λ n h. v.kept n (u.kept n h);
      put = λ n h. ⊎_elim (λ a. v.kept n (u.put n a)) (λ b. v.put n b)
          (in_split (map f (take i xs)) (f (get_or xs i d) ∷ []) h);
      only = λ n h. ⊎_elim
          (λ a. ⊎_elim (λ b. inl b)
          (λ c. inr (in_left (map f (take i xs)) (f (get_or xs i d) ∷ []) c)) (u.only n a))
          (λ b. inr (in_right (map f (take i xs)) (f (get_or xs i d) ∷ []) b)) (v.only n h);
    })

pub joins_all : (f : Site → ℕ) (xs : List Site) (i : ℕ) (first new : List ℕ) → length xs ≤ i
    → Joined first (map f (take i xs)) new → Joined first (map f xs) new
joins_all f xs i first new le u = subst (λ l. Joined first (map f l) new) (take_all i xs le) u

-- ---- the sites of words

module _ (A : Solution) (g : Program) where
  var_stands : (x : VarId) (a : W.Word) (s : ℕ) → a ≡ Var x → StandsFor (tables g) A a (cell_of s)
      → At A (var x.0) (word 0) (cell_of s)
  var_stands x a s e (variable {x = y} h) = subst (λ z. At A (var z.0) (word 0) (cell_of s))
      (let q : y ≡ x = cc in q) h
  var_stands x a s e (global {i = i} h) = absurd (let q : ⊥ = cc in q)

  global_stands : (i : ℕ) (a : W.Word) (s : ℕ) → a ≡ Global i → StandsFor (tables g) A a (cell_of s)
      → (c : GlobalCell) × (slice_get g.globals i ≡ Some c) × (s ≡ c.site.0)
  global_stands i a s e (variable {x = y} h) = absurd (let q : ⊥ = cc in q)
  global_stands i a s e (global {i = j} {c = c} h) =
      (c, subst (λ k. slice_get g.globals k ≡ Some c) (let q : j ≡ i = cc in q) h, refl)

  pub joins_var : (a : W.Word) (x : VarId) (sites old new : List ℕ) → a ≡ Var x
      → ((s : ℕ) → (In s sites → At A (var x.0) (word 0) (cell_of s))
      × (At A (var x.0) (word 0) (cell_of s) → In s sites)) → Joined old sites new
      → SitesJoin A g a old new
  joins_var a x sites old new e exact u = subst (λ w. SitesJoin A g w old new) (sym e) (record {
    kept = u.kept;
    put = λ s h. u.put s ((exact s).1 (var_stands x (Var x) s refl h));
    only = λ s h. ⊎_elim (λ a. inl a) (λ b. inr (variable ((exact s).0 b))) (u.only s h);
  })

  pub joins_global : (a : W.Word) (i : ℕ) (c : GlobalCell) (old new : List ℕ) → a ≡ Global i
      → slice_get g.globals i ≡ Some c → Joined old (c.site.0 ∷ []) new → SitesJoin A g a old new
  joins_global a i c old new e there' u = subst (λ w. SitesJoin A g w old new) (sym e) (record {
    kept = u.kept;
    put = λ s h.
        let r = global_stands i (Global i) s refl h in
        let same : Some c ≡ Some r.0 = sym there' ∙ r.1 in
        let cell : c ≡ r.0 = cc in
        u.put s (subst (λ k. In k (c.site.0 ∷ [])) (ap (λ d. d.site.0) cell ∙ sym r.2) here);
    only = λ s h. ⊎_elim (λ a. inl a)
        (λ b. inr
        (subst (λ k. StandsFor (tables g) A (Global i) (cell_of k)) (sym (one_in c.site.0 b))
        (global there'))) (u.only s h);
  })

  -- the sites of these words
  pub record SitesSoFar (ws : List W.Word) (sites : List ℕ) : Type 0 where
    pub put : (s : ℕ) (a : W.Word) → In a ws → StandsFor (tables g) A a (cell_of s) → In s sites
    pub only : (s : ℕ) → In s sites → (a : W.Word) × In a ws × StandsFor (tables g) A a (cell_of s)

  pub no_sites : (sites : List ℕ) → sites ≡ [] → SitesSoFar [] sites
  no_sites sites e = record { put = λ s a h k. none_in h; only = λ s h. none_in (subst (In s) e h) }

  pub sites_next : (ws : List W.Word) (i : ℕ) (d : W.Word) (old new : List ℕ) → i < length ws
      → SitesSoFar (take i ws) old → SitesJoin A g (get_or ws i d) old new
      → SitesSoFar (take (i + 1) ws) new
  sites_next ws i d old new lt u v = subst (λ l. SitesSoFar l new) (sym (take_more ws i d lt))
      (record {
        put = λ s a h k. ⊎_elim (λ b. v.kept s (u.put s a b k))
            (λ b. v.put s
            (subst (λ w. StandsFor (tables g) A w (cell_of s)) (one_in (get_or ws i d) b) k))
            (in_split (take i ws) (get_or ws i d ∷ []) h);
        only = λ s h. ⊎_elim
            (λ b. let r = u.only s b in (r.0, in_left (take i ws) (get_or ws i d ∷ []) r.1, r.2))
            (λ b. (get_or ws i d, in_right (take i ws) (get_or ws i d ∷ []) here, b))
            (v.only s h);
      })

  of_each : (P : W.Word → Type 0) (ws : List W.Word) → ((a : W.Word) → In a ws → P a) → AllOf P ws
  of_each P [] h = tt
  of_each P (a ∷ ws) h = (h a here, of_each P ws (λ b k. h b (there k)))

  to_each : (P : W.Word → Type 0) (ws : List W.Word) (a : W.Word) → AllOf P ws → In a ws → P a
  to_each P [] a h k = none_in k
  to_each P (b ∷ ws) a h k = ⊎_elim (λ e. subst P (sym e) h.0) (λ t. to_each P ws a h.1 t)
      (cons_in b ws k)

  pub sites_done : (ws : List W.Word) (i : ℕ) (sites : BTreeSet ℕ) → ws ≡ updated_of g.procs
      → length ws ≤ i → SitesSoFar (take i ws) sites.keys → UpdatedSites A g sites
  sites_done ws i sites e le u =
      let v : SitesSoFar (updated_of g.procs) sites.keys
      = subst (λ l. SitesSoFar l sites.keys) (take_all i ws le ∙ e) u in
      record {
        within = λ s h n. let r = v.only s h in to_each
            (λ a. StandsFor (tables g) A a (cell_of s) → ⊥) (updated_of g.procs) r.0 n r.1 r.2;
        others = λ s h a k l. h (v.put s a k l);
      }

  pub never_updated : (sites : BTreeSet ℕ) (s : ℕ) → UpdatedSites A g sites → (In s sites.keys → ⊥)
      → NeverUpdated A g s
  never_updated sites s u h = of_each (λ a. StandsFor (tables g) A a (cell_of s) → ⊥)
      (updated_of g.procs) (u.others s h)
