-- What loops over statements and alternatives have found so far.
use Rattle.std.proofs.Common.{◌≡◌, ℕ, ◌+◌, ◌<◌, ◌≤◌, Bool, true, false, ◌&&◌, ◌||◌, List, [], ◌∷◌, ◌++◌, map, take, length, get_or, append_assoc, refl, sym, ap, ◌∙◌, subst}
use Rattle.std.proofs.lemmas.List.{take_all}
use Rattle.seq.proofs.Lists.{append_nil, take_next}
use Rattle.seq.proofs.Truth.{or_false, or_assoc, and_assoc, and_true}
use Rattle.grin_syntax.specs.declared.program.ProcId.{ProcId}
use Rattle.grin_syntax.specs.declared.program.Target.{Target}
use Rattle.grin_syntax.specs.declared.program.Shape.{Shape}
use Rattle.grin_syntax.specs.declared.program.Cell.{Cell}
use Rattle.grin_syntax.specs.declared.program.Op.{Op}
use Rattle.grin_syntax.specs.declared.program.Alt.{Alt}
use Rattle.grin_syntax.specs.declared.program.Block.{Block}
use Rattle.grin_syntax.specs.declared.program.Stmt.{Stmt}
use Rattle.grin_syntax.specs.declared.program.Stmt.TheVariants.{Store, Bind}
use Rattle.grin_syntax.specs.Tree.{Code, end, Act, Arms, no_arm, arm, act_of, before_of, arm_of, code_of, all_before, arms_of}
use Rattle.grin_syntax.proofs.TreeOf.{before_of-Store, before_of-Bind, code_of-parts, arm_of-parts}
use Rattle.grin_syntax.proofs.Pieces.{all_before_push}
use Rattle.flow_system.specs.Solution.{Solution}
use Rattle.unbox.specs.declared.ties.Tie.{Tie}
use Rattle.unbox_theory.specs.Ends.{Procedures, act_calls, code_calls, arms_calls}
use Rattle.unbox.specs.Ties.{act_called, code_called, arms_called, act_ints, code_ints, arms_ints, tie_of, act_ties, code_ties, arms_ties}
use Rattle.flow_system.proofs.SoFar.{arms_snoc}

-- ---- alternatives

-- what is found in alternatives, by what is found in their blocks
module _ {X : Type 0} (plus : X → X → X) (one : Code → X) (whole : Arms → X) where
  -- these alternatives led from `old` to `new`
  pub record Found (old new : X) (as' : List Alt) : Type 0 where
    pub by : (rest : List (Shape × Code)) → plus old (whole (arms_of (map arm_of as' ++ rest))) ≡
        plus new (whole (arms_of rest))

  next : ((a b c : X) → plus (plus a b) c ≡ plus a (plus b c))
      → ((s : Shape) (b : Code) (as' : Arms) → whole (arm s b as') ≡ plus (one b) (whole as'))
      → (old new newer : X) (as' : List Alt) (i : ℕ) (a : Alt) → i < length as' → a ≡ get_or as' i a
      → newer ≡ plus new (one (code_of a.body)) → Found old new (take i as')
      → Found old newer (take (i + 1) as')
  next assoc step old new newer as' i a lt e h f = rw (take_next as' i a lt e) (record {
    by = λ rest. ap (λ l. plus old (whole (arms_of l))) (arms_snoc (take i as') a rest) ∙ f.by
        (arm_of a ∷ rest) ∙ ap (λ x. plus new (whole (arms_of (x ∷ rest)))) (arm_of-parts a)
        ∙ ap (plus new) (step a.pattern (code_of a.body) (arms_of rest)) ∙ sym
        (assoc new (one (code_of a.body)) (whole (arms_of rest))) ∙ ap
        (λ x. plus x (whole (arms_of rest))) (sym h);
  })

  done : ((x : X) → plus x (whole no_arm) ≡ x) → (old new : X) (as' : List Alt) (i : ℕ)
      → length as' ≤ i → Found old new (take i as')
      → new ≡ plus old (whole (arms_of (map arm_of as')))
  done right old new as' i le f =
      let g : Found old new as' = subst (Found old new) (take_all i as' le) f in
      sym (right new) ∙ sym (g.by []) ∙ ap (λ l. plus old (whole (arms_of l)))
      (append_nil (map arm_of as'))

-- calls of members
module _ (S : Procedures) where
  abbrev pub CallsFound : Bool → Bool → List Alt → Type 0
  CallsFound = Found ◌||◌ (code_calls S) (arms_calls S)

  pub calls_next : (found here both : Bool) (as' : List Alt) (i : ℕ) (a : Alt) → i < length as'
      → a ≡ get_or as' i a → here ≡ code_calls S (code_of a.body) → both ≡ (found || here)
      → CallsFound false found (take i as') → CallsFound false both (take (i + 1) as')
  unfolding act_calls
  calls_next found here both as' i a lt e h k f = next ◌||◌ (code_calls S) (arms_calls S)
      (λ a b c. sym (or_assoc a b c)) (λ s b as'. refl) false found both as' i a lt e
      (k ∙ ap (λ b. found || b) h) f

  pub calls_done : (found : Bool) (as' : List Alt) (i : ℕ) → length as' ≤ i
      → CallsFound false found (take i as') → found ≡ arms_calls S (arms_of (map arm_of as'))
  unfolding act_calls
  calls_done = done ◌||◌ (code_calls S) (arms_calls S) or_false false

-- the procedures that are called
abbrev pub CalledFound : List ProcId → List ProcId → List Alt → Type 0
CalledFound = Found ◌++◌ code_called arms_called

pub called_next : (old new newer : List ProcId) (as' : List Alt) (i : ℕ) (a : Alt) → i < length as'
    → a ≡ get_or as' i a → newer ≡ new ++ code_called (code_of a.body)
    → CalledFound old new (take i as') → CalledFound old newer (take (i + 1) as')
unfolding act_called
called_next = next ◌++◌ code_called arms_called append_assoc (λ s b as'. refl)

pub called_done : (old new : List ProcId) (as' : List Alt) (i : ℕ) → length as' ≤ i
    → CalledFound old new (take i as') → new ≡ old ++ arms_called (arms_of (map arm_of as'))
unfolding act_called
called_done = done ◌++◌ code_called arms_called append_nil

-- an operation without blocks that calls none
pub leaf_called : (out : List ProcId) (o p : Op) (a : Act) → o ≡ p → act_of p ≡ a
    → act_called a ≡ [] → out ≡ out ++ act_called (act_of o)
leaf_called out o p a e h k = sym (append_nil out) ∙ ap (λ l. out ++ l)
    (sym (ap (λ o. act_called (act_of o)) e ∙ ap act_called h ∙ k))

module _ (A : Solution) where
  -- numbers that the ends give
  abbrev pub IntsFound : Bool → Bool → List Alt → Type 0
  IntsFound = Found ◌&&◌ (code_ints A) (arms_ints A)

  pub ints_next : (all here both : Bool) (as' : List Alt) (i : ℕ) (a : Alt) → i < length as'
      → a ≡ get_or as' i a → here ≡ code_ints A (code_of a.body) → both ≡ (all && here)
      → IntsFound true all (take i as') → IntsFound true both (take (i + 1) as')
  unfolding act_ints
  ints_next all here both as' i a lt e h k f = next ◌&&◌ (code_ints A) (arms_ints A) and_assoc
      (λ s b as'. refl) true all both as' i a lt e (k ∙ ap (λ b. all && b) h) f

  pub ints_done : (all : Bool) (as' : List Alt) (i : ℕ) → length as' ≤ i
      → IntsFound true all (take i as') → all ≡ arms_ints A (arms_of (map arm_of as'))
  unfolding act_ints
  ints_done = done ◌&&◌ (code_ints A) (arms_ints A) and_true true

  -- ties
  abbrev pub ArmTies : List Tie → List Tie → List Alt → Type 0
  ArmTies = Found ◌++◌ (code_ties A) (arms_ties A)

  pub arm_ties_next : (old new newer : List Tie) (as' : List Alt) (i : ℕ) (a : Alt) → i < length as'
      → a ≡ get_or as' i a → newer ≡ new ++ code_ties A (code_of a.body)
      → ArmTies old new (take i as') → ArmTies old newer (take (i + 1) as')
  unfolding act_ties
  arm_ties_next = next ◌++◌ (code_ties A) (arms_ties A) append_assoc (λ s b as'. refl)

  pub arm_ties_done : (old new : List Tie) (as' : List Alt) (i : ℕ) → length as' ≤ i
      → ArmTies old new (take i as') → new ≡ old ++ arms_ties A (arms_of (map arm_of as'))
  unfolding act_ties
  arm_ties_done = done ◌++◌ (code_ties A) (arms_ties A) append_nil

  -- ---- ties of statements

  -- these statements led from `old` to `new`
  pub record TiesFound (old new : List Tie) (ss : List Stmt) : Type 0 where
    pub by : (c : Code) → old ++ code_ties A (all_before (map before_of ss) c) ≡ new
        ++ code_ties A c

  pub ties_next : (old new newer : List Tie) (ss : List Stmt) (i : ℕ) (s : Stmt) → i < length ss
      → s ≡ get_or ss i s → TiesFound old new (take i ss)
      → ((c : Code) → new ++ code_ties A (before_of s c) ≡ newer ++ code_ties A c)
      → TiesFound old newer (take (i + 1) ss)
  ties_next old new newer ss i s lt e f h = rw (take_next ss i s lt e)
      (record {
        by = λ c. ap (λ b. old ++ code_ties A b) (all_before_push (take i ss) s c) ∙ f.by
            (before_of s c) ∙ h c;
      })

  pub ties_done : (old new last : List Tie) (b : Block) (i : ℕ) → length b.stmts ≤ i
      → TiesFound old new (take i b.stmts) → last ≡ new ++ act_ties A (act_of b.last.value)
      → last ≡ old ++ code_ties A (code_of b)
  unfolding act_ties
  ties_done old new last b i le f h =
      let g : TiesFound old new b.stmts = subst (TiesFound old new) (take_all i b.stmts le) f in
      h ∙ sym (g.by (end (act_of b.last.value))) ∙ ap (λ c. old ++ code_ties A c)
      (sym (code_of-parts b))

  pub store_ties : (old new : List Tie) (s : Stmt) (cs : List Cell) → s ≡ Store cs → new ≡ old
      → (c : Code) → old ++ code_ties A (before_of s c) ≡ new ++ code_ties A c
  unfolding act_ties
  store_ties old new s cs e h c =
      ap (λ s. old ++ code_ties A (before_of s c)) e ∙ ap (λ k. old ++ code_ties A (k c))
      (before_of-Store cs) ∙ ap (λ l. l ++ code_ties A c) (sym h)

  pub bind_ties : (old mid new : List Tie) (s : Stmt) (t : Target) (o : Op) (sound : Bool)
      (none procs : List ProcId) → s ≡ Bind t o → sound ≡ act_ints A (act_of o) → none ≡ []
      → procs ≡ none ++ act_called (act_of o)
      → mid ≡ old ++ record { sound = sound; procs = procs } ∷ [] → new ≡ mid
      ++ act_ties A (act_of o) → (c : Code) → old ++ code_ties A (before_of s c) ≡ new
      ++ code_ties A c
  unfolding act_ties
  bind_ties old mid new s t o sound none procs e h z k m n c =
      let called : procs ≡ act_called (act_of o) = k ∙ ap (λ l. l ++ act_called (act_of o)) z in
      ap (λ s. old ++ code_ties A (before_of s c)) e ∙ ap (λ k. old ++ code_ties A (k c))
      (before_of-Bind t o)
      ∙ sym (append_assoc old (tie_of A (act_of o) ∷ []) (act_ties A (act_of o) ++ code_ties A c))
      ∙ ap (λ l. l ++ (act_ties A (act_of o) ++ code_ties A c))
      (sym (m ∙ (λ i. old ++ record { sound = h i; procs = called i } ∷ [])))
      ∙ sym (append_assoc mid (act_ties A (act_of o)) (code_ties A c)) ∙ ap
      (λ l. l ++ code_ties A c) (sym n)

  -- an operation without blocks
  pub leaf_ties : (out : List Tie) (o p : Op) (a : Act) → o ≡ p → act_of p ≡ a → act_ties A a ≡ []
      → out ≡ out ++ act_ties A (act_of o)
  leaf_ties out o p a e h k = sym (append_nil out) ∙ ap (λ l. out ++ l)
      (sym (ap (λ o. act_ties A (act_of o)) e ∙ ap (act_ties A) h ∙ k))
