-- Registering an inclusion at places, and one that fetches words for a variable.
use Rattle.std.proofs.Common.{◌≡◌, ◌+◌, ◌<◌, ◌≤◌, ℕ, Bool, false, List, [], ◌++◌, take, length, get_or, sym, ◌∙◌, subst, ⊎_elim}
use Rattle.std.specs.List.{flat_map}
use Rattle.std.proofs.lemmas.List.{take_all}
use Rattle.grin_syntax.specs.declared.program.VarId.{VarId}
use Rattle.grin_syntax.specs.declared.program.Word.{Word}
use Rattle.grin_syntax.specs.declared.program.Target.TheVariants.{One}
use Rattle.flow_system.specs.declared.fact.Element.{Element}
use Rattle.flow_system.specs.declared.fact.Place.{Place}
use Rattle.flow_system.specs.declared.fact.Place.TheVariants.{Var}
use Rattle.flow_system.specs.declared.fact.Part.TheVariants.{Word as word}
use Rattle.flow_system.specs.Inclusions.{flows, to, word_at}
use Rattle.flow_system.specs.Tables.{Tables}
use Rattle.points_to.specs.declared.facts.Fact.{Fact}
use Rattle.points_to.specs.declared.worklist.Worklist.{Worklist}
use Rattle.points_to.specs.Asked.{facts_at, facts_demanded}
use Rattle.points_to.specs.Held.{elements, fetched_at, in_part}
use Rattle.points_to.specs.Known.{held, GrowsByFacts}
use Rattle.points_to.specs.Reads.{word_reads, cell_reads}
use Rattle.points_to.specs.Rounds.{CountsAddedFacts}
use Rattle.points_to.specs.Rows.{GainsMembers}
use Rattle.points_to.specs.Worklist.{RegistersAt, WakesWhereChanged, SatisfiesInclusion}
use Rattle.seq.proofs.Member.{none_in, in_split}
use Rattle.seq.proofs.Lists.{append_nil}
use Rattle.points_to.proofs.Loops.{flat_taken}
use Rattle.points_to.proofs.Gets.{gets_next, gets_from_none}
use Rattle.points_to.proofs.Direct.{picked_same}
use Rattle.points_to.proofs.FromRuns.{alike_at}
use Rattle.points_to.proofs.Solved.{grows_alike}
use Rattle.points_to.proofs.UntilNoneWaits.{satisfies}

module _ (n : ℕ) where
  pub registers_none : (w : Worklist) → RegistersAt w w n []
  registers_none w = record {
    same_facts = λ i. w.facts;
    same_pending = λ i. w.pending;
    kept = λ q m h. h;
    put
        = λ q h. none_in h;
  }

  pub registers_when_none : (w : Worklist) (qs : List Place) → qs ≡ [] → RegistersAt w w n qs
  registers_when_none w qs e = subst (RegistersAt w w n) (sym e) (registers_none w)

  pub registers_more : (old now new : Worklist) (qs rs : List Place) → RegistersAt old now n qs
      → RegistersAt now new n rs → RegistersAt old new n (qs ++ rs)
  registers_more old now new qs rs r s = record {
    same_facts = s.same_facts ∙ r.same_facts;
    same_pending = s.same_pending ∙ r.same_pending;
    kept = λ q m h. s.kept q m (r.kept q m h);
    put = λ q h. ⊎_elim (λ a. s.kept q n (r.put q a)) (λ b. s.put q b) (in_split qs rs h);
  }

  module _ {X : Type 0} (f : X → List Place) (xs : List X) (i : ℕ) (old now : Worklist) where
    pub registers_next : (d : X) (new : Worklist) → i < length xs
        → RegistersAt old now n (flat_map f (take i xs)) → RegistersAt now new n (f (get_or xs i d))
        → RegistersAt old new n (flat_map f (take (i + 1) xs))
    registers_next d new lt r s = subst (RegistersAt old new n) (flat_taken f xs i d lt)
        (registers_more old now new (flat_map f (take i xs)) (f (get_or xs i d)) r s)

    pub registers_done : length xs ≤ i → RegistersAt old now n (flat_map f (take i xs))
        → RegistersAt old now n (flat_map f xs)
    registers_done le = subst (λ l. RegistersAt old now n (flat_map f l)) (take_all i xs le)

-- the words of one cell more
pub fetched_next : (p : Tables) (i n : ℕ) (cells : List Element) (k : ℕ) (d : Element)
    (old now : Worklist) (ws ws' ws'' : List Element) → k < length cells
    → RegistersAt old now n (flat_map cell_reads (take k cells))
    → GainsMembers ws ws' (flat_map (fetched_at p (held old.facts) i) (take k cells))
    → GainsMembers ws' ws'' (fetched_at p (held now.facts) i (get_or cells k d))
    → GainsMembers ws ws'' (flat_map (fetched_at p (held old.facts) i) (take (k + 1) cells))
fetched_next p i n cells k d old now ws ws' ws'' lt r g h =
    gets_next (fetched_at p (held old.facts) i) cells k ws ws' d ws'' lt g
    (subst (λ f. GainsMembers ws' ws'' (fetched_at p (held f) i (get_or cells k d)))
    r.same_facts h)

-- the words of the cells of a word go to a variable, as a set, once the inclusion is registered at
-- the word's variable and at the cells
module _ (p : Tables) (w : Word) (i : ℕ) (x : VarId) (n : ℕ) (old now between new : Worklist)
    (cells ws : List Element) (asked : List Fact) (added : Bool) where
  pub satisfies_fetch : RegistersAt old now n (word_reads w) → cells ≡ elements p (held now.facts) w
      → RegistersAt now between n (flat_map cell_reads cells)
      → GainsMembers [] ws (flat_map (fetched_at p (held now.facts) i) cells)
      → asked ≡ facts_at (Var x.0) (in_part (word 0) ws)
      → GrowsByFacts (held between.facts) (held new.facts) asked
      → WakesWhereChanged between new → (added ≡ false → new ≡ between)
      → CountsAddedFacts between.facts new.facts added
      → SatisfiesInclusion p (flows (word_at w i) (to (One x))) n old new
  satisfies_fetch r e s g e' grows =
      satisfies p (flows (word_at w i) (to (One x))) n old between new added
      (subst (RegistersAt old between n) (sym (append_nil _))
      (subst (λ f. RegistersAt old between n
      (word_reads w ++ flat_map cell_reads (elements p (held f) w))) r.same_facts
      (subst (λ l. RegistersAt old between n (word_reads w ++ flat_map cell_reads l)) e
      (registers_more n old now between (word_reads w) (flat_map cell_reads cells) r s))))
      (subst (λ f. GrowsByFacts (held between.facts) (held new.facts)
      (facts_demanded p (held f) (flows (word_at w i) (to (One x))))) (sym s.same_facts)
      (given r e s g e' grows))
    where
      given : RegistersAt old now n (word_reads w) → cells ≡ elements p (held now.facts) w
          → RegistersAt now between n (flat_map cell_reads cells)
          → GainsMembers [] ws (flat_map (fetched_at p (held now.facts) i) cells)
          → asked ≡ facts_at (Var x.0) (in_part (word 0) ws)
          → GrowsByFacts (held between.facts) (held new.facts) asked
          → GrowsByFacts (held between.facts) (held new.facts)
          (facts_demanded p (held now.facts) (flows (word_at w i) (to (One x))))
      given r e s g e' grows =
          let H = held now.facts in
          let words : List Element = flat_map (fetched_at p H i) (elements p H w) in
          let gets : GainsMembers [] ws words = subst
          (λ l. GainsMembers [] ws (flat_map (fetched_at p H i) l)) e g in
          subst (λ l. GrowsByFacts (held between.facts) (held new.facts)
          (facts_at (Var x.0) (in_part (word 0) l))) (sym (picked_same 0 words))
          (grows_alike (held between.facts) (held new.facts)
          (facts_at (Var x.0) (in_part (word 0) ws))
          (facts_at (Var x.0) (in_part (word 0) words))
          (alike_at (Var x.0) (word 0) ws words (gets_from_none ws words gets))
          (subst (GrowsByFacts (held between.facts) (held new.facts)) e' grows))
