-- The sites whose cells are read, as a set of them grows.
use Rattle.std.proofs.Common.{◌≡◌, ℕ, Bool, zero, suc, ◌+◌, ◌<◌, ◌≤◌, List, [], ◌∷◌, ◌++◌, map, take, length, get_or, Some, slice_get, refl, sym, ap, ◌∙◌, subst, inl, inr, ⊎_elim}
use Rattle.std.specs.Prelude.{◌⊎◌}
use Rattle.std.proofs.lemmas.List.{take_more, take_all}
use Rattle.grin_syntax.specs.declared.program.GlobalCell.{GlobalCell}
use Rattle.grin_syntax.specs.declared.program.VarId.{VarId}
use Rattle.grin_syntax.specs.declared.program.Word as W
use Rattle.grin_syntax.specs.declared.program.Word.TheVariants.{Lit, Var, Global, TagWord}
use Rattle.grin_syntax.specs.Tree.{Program}
use Rattle.flow_system.specs.declared.fact.Element.TheVariants.{Cell as cell_of}
use Rattle.flow_system.specs.declared.fact.Place.TheVariants.{Var as var}
use Rattle.flow_system.specs.declared.fact.Part.TheVariants.{Word as word}
use Rattle.flow_system.specs.Tables.{tables}
use Rattle.flow_system.specs.Solution.{Solution, At, StandsFor, variable, global}
use Rattle.points_to.specs.Joined.{Joined}
use Rattle.seq.specs.Lists.{In, here, there}
use Rattle.seq.proofs.Lists.{none_is_some, some_is, map_push}
use Rattle.seq.proofs.Member.{none_in, one_in, in_split, in_left, in_right}
use Rattle.dead_store.specs.Holding.{set_holds}
use Rattle.dead_store.specs.Reads.{reads_of}
use Rattle.dead_store.specs.Staying.{IsGlobalSite, IsReadBy, AreReadSites, HasCell, CellsJoin}
use Rattle.dead_store.proofs.Numbers.{holds_in, in_holds}

-- ---- numbers of things in a row

module _ {X : Type 0} (f : X → ℕ) where
  pub joins_next : (xs : List X) (i : ℕ) (d : X) (first old new : List ℕ) → i < length xs
      → Joined first (map f (take i xs)) old → Joined old (f (get_or xs i d) ∷ []) new
      → Joined first (map f (take (i + 1) xs)) new
  joins_next xs i d first old new lt u v =
      let more : map f (take (i + 1) xs) ≡ map f (take i xs) ++ f (get_or xs i d) ∷ []
      = ap (map f) (take_more xs i d lt) ∙ map_push f (take i xs) (get_or xs i d) in
      subst (λ l. Joined first l new) (sym more) (record {
        kept = λ n h. v.kept n (u.kept n h);
        put = λ n h. ⊎_elim (λ a. v.kept n (u.put n a)) (λ b. v.put n b)
            (in_split (map f (take i xs)) (f (get_or xs i d) ∷ []) h);
        only = λ n h. ⊎_elim
            (λ a. ⊎_elim (λ b. inl b)
            (λ c. inr (in_left (map f (take i xs)) (f (get_or xs i d) ∷ []) c)) (u.only n a))
            (λ b. inr (in_right (map f (take i xs)) (f (get_or xs i d) ∷ []) b)) (v.only n h);
      })

  pub joins_all : (xs : List X) (i : ℕ) (first new : List ℕ) → length xs ≤ i
      → Joined first (map f (take i xs)) new → Joined first (map f xs) new
  joins_all xs i first new le u = subst (λ l. Joined first (map f l) new) (take_all i xs le) u

-- ---- the cells of a word

module _ (A : Solution) where
  pub joins_var : (a : W.Word) (x : VarId) (sites old new : List ℕ) → a ≡ Var x
      → ((s : ℕ) → (In s sites → At A (var x.0) (word 0) (cell_of s))
      × (At A (var x.0) (word 0) (cell_of s) → In s sites)) → Joined old sites new
      → CellsJoin A a old new
  joins_var a x sites old new e exact u = record {
    kept = u.kept;
    put = λ s h. u.put s
        ((exact s).1
        (subst (λ y. At A (var y.0) (word 0) (cell_of s)) (same_var h.0 (sym h.1 ∙ e)) h.2));
    only = λ s h. ⊎_elim (λ o. inl o) (λ b. inr (x, e, (exact s).0 b)) (u.only s h);
  }
    where
      same_var : (y : VarId) → ◌≡◌ {A = W.Word} (Var y) (Var x) → y ≡ x
      same_var y q = cc

  no_cells : (a : W.Word) (old : List ℕ) → ((x : VarId) → a ≡ Var x → ⊥) → CellsJoin A a old old
  no_cells a old n = record
      { kept = λ s h. h; put = λ s h. absurd (n h.0 h.1); only = λ s h. inl h }

  pub joins_number : (a : W.Word) (k : _) (old : List ℕ) → a ≡ Lit k → CellsJoin A a old old
  joins_number a k old e = no_cells a old (λ x q. go x (sym e ∙ q))
    where
      go : (x : VarId) → ◌≡◌ {A = W.Word} (Lit k) (Var x) → ⊥
      go x q = cc

  pub joins_global : (a : W.Word) (i : ℕ) (old : List ℕ) → a ≡ Global i → CellsJoin A a old old
  joins_global a i old e = no_cells a old (λ x q. go x (sym e ∙ q))
    where
      go : (x : VarId) → ◌≡◌ {A = W.Word} (Global i) (Var x) → ⊥
      go x q = cc

  pub joins_tag : (a : W.Word) (t : _) (old : List ℕ) → a ≡ TagWord t → CellsJoin A a old old
  joins_tag a t old e = no_cells a old (λ x q. go x (sym e ∙ q))
    where
      go : (x : VarId) → ◌≡◌ {A = W.Word} (TagWord t) (Var x) → ⊥
      go x q = cc

-- ---- the sites that are read

module _ (A : Solution) (g : Program) where
  -- a set has the global sites, and those of the cells of these words
  pub record SitesSoFar (ws : List W.Word) (sites : List ℕ) : Type 0 where
    pub globals : (s : ℕ) → IsGlobalSite g s → In s sites
    pub put : (s : ℕ) (a : W.Word) → In a ws → HasCell A a s → In s sites
    pub only : (s : ℕ) → In s sites → IsGlobalSite g s ⊎ IsReadBy A g ws s

  pub global_sites : (new old : List ℕ) → old ≡ [] → Joined old (map (λ c. c.site.0) g.globals) new
      → SitesSoFar [] new
  global_sites new old e u = record {
    globals = u.put;
    put = λ s a h k. none_in h;
    only = λ s h. ⊎_elim (λ o. none_in (subst (In s) e o)) (λ b. inl b) (u.only s h);
  }

  stands : (a : W.Word) (s : ℕ) → HasCell A a s → StandsFor (tables g) A a (cell_of s)
  stands a s h = subst (λ w. StandsFor (tables g) A w (cell_of s)) (sym h.1) (variable h.2)

  pub sites_next : (ws : List W.Word) (i : ℕ) (d : W.Word) (old new : List ℕ) → i < length ws
      → SitesSoFar (take i ws) old → CellsJoin A (get_or ws i d) old new
      → SitesSoFar (take (i + 1) ws) new
  sites_next ws i d old new lt u v = subst (λ l. SitesSoFar l new) (sym (take_more ws i d lt))
      (record {
        globals = λ s h. v.kept s (u.globals s h);
        put = λ s a h k. ⊎_elim (λ b. v.kept s (u.put s a b k))
            (λ b. v.put s (subst (λ w. HasCell A w s) (one_in (get_or ws i d) b) k))
            (in_split (take i ws) (get_or ws i d ∷ []) h);
        only = λ s h. ⊎_elim
            (λ b. ⊎_elim (λ k. inl k)
            (λ r. inr (r.0, in_left (take i ws) (get_or ws i d ∷ []) r.1, r.2)) (u.only s b))
            (λ b. inr (
              get_or ws i d,
              in_right (take i ws) (get_or ws i d ∷ []) here,
              stands (get_or ws i d) s b,
            ))
            (v.only s h);
      })

  global_in : (cs : List GlobalCell) (i : ℕ) (c : GlobalCell) → slice_get cs i ≡ Some c
      → In c.site.0 (map (λ c. c.site.0) cs)
  global_in [] i c e = none_is_some e
  global_in (d ∷ cs) i c e = at i e (λ j. global_in cs j c)
    where
      at : (i : ℕ) → slice_get (d ∷ cs) i ≡ Some c →
          ((j : ℕ) → slice_get cs j ≡ Some c → In c.site.0 (map (λ c. c.site.0) cs))
          → In c.site.0 (map (λ c. c.site.0) (d ∷ cs))
      at zero q again = subst (λ e. In e.site.0 (map (λ c. c.site.0) (d ∷ cs))) (some_is q) here
      at (suc j) q again = there (again j q)

  -- what a word stands for is a global cell, or it is a variable that does
  in_set : (ws : List W.Word) (sites : List ℕ) → SitesSoFar ws sites → (s : ℕ) (a : W.Word)
      → In a ws → StandsFor (tables g) A a (cell_of s) → In s sites
  in_set ws sites u s a h (variable {x = x} k) = u.put s (Var x) h (x, refl, k)
  in_set ws sites u s a h (global {i = i} {c = c} k)
      = u.globals c.site.0 (global_in g.globals i c k)

  pub sites_done : (updates_count : Bool) (ws : List W.Word) (i : ℕ) (sites : List ℕ)
      → ws ≡ reads_of updates_count g.procs → length ws ≤ i → SitesSoFar (take i ws) sites
      → AreReadSites A g updates_count (set_holds sites)
  sites_done updates_count ws i sites e le u =
      let v : SitesSoFar (reads_of updates_count g.procs) sites
      = subst (λ l. SitesSoFar l sites) (take_all i ws le ∙ e) u in
      λ s. (
        λ h. v.only s (holds_in s sites h),
        λ h. in_holds s sites
            (⊎_elim (λ k. v.globals s k)
            (λ r. in_set (reads_of updates_count g.procs) sites v s r.0 r.1 r.2) h),
      )
