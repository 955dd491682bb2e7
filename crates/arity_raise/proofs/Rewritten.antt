-- What the loops over statements, alternatives and procedures have made so far.
use Rattle.std.proofs.Common.{◌≡◌, ℕ, ◌+◌, ◌<◌, List, [], ◌∷◌, ◌++◌, map, drop, length, get_or, Option, refl, sym, ap, ◌∙◌, append_assoc, arith}
use Rattle.std.proofs.lemmas.List.{drop_more, append-nil}
use Rattle.seq.proofs.Lists.{map_push}
use Rattle.grin_syntax.specs.declared.program.Stmt.{Stmt}
use Rattle.grin_syntax.specs.declared.program.Stmt.TheVariants.{Store, Bind}
use Rattle.grin_syntax.specs.declared.program.Alt.{Alt}
use Rattle.grin_syntax.specs.declared.program.Op.{Op}
use Rattle.grin_syntax.specs.declared.program.Op.TheVariants.{Case}
use Rattle.grin_syntax.specs.declared.program.Cell.{Cell}
use Rattle.grin_syntax.specs.declared.program.Target.{Target}
use Rattle.grin_syntax.specs.declared.program.Val.{Val}
use Rattle.grin_syntax.specs.declared.program.Proc.{Proc}
use Rattle.grin_syntax.specs.Tree.{Code, bind, case, Arms, no_arm, arm, act_of, before_of, arm_of, code_of, all_before, Procedure, procedure_of}
use Rattle.grin_syntax.proofs.TreeOf.{act_of-Case, before_of-Store, before_of-Bind}
use Rattle.grin_syntax.proofs.Pieces.{all_arms, all_arms_none, all_arms_push, all_before_push}
use Rattle.raise_theory.specs.declared.raising.Raising.{Raising}
use Rattle.raise_theory.specs.Raising.{Decisions, raised_procedure, raised_procs, fetches_before, new_before, new_act, new_code, new_arms, raised_act, raised_code, raised_arms}

module _ (D : List Decisions) where
  -- ---- statements: how many new variables they take

  pub store_takes : (x : ℕ) (cs : List Cell) (c : Code)
      → x + new_code D c ≡ x + new_code D (before_of (Store cs) c)
  unfolding new_act
  store_takes x cs c = rw before_of-Store refl

  pub bind_takes : (x y : ℕ) (t : Target) (o : Op) (c : Code)
      → y ≡ x + (new_before D (act_of o) + new_act D (act_of o))
      → y + new_code D c ≡ x + new_code D (before_of (Bind t o) c)
  unfolding new_act
  bind_takes x y t o c f =
      let e : y + new_code D c ≡ x + (new_before D (act_of o) + new_act D (act_of o) + new_code D c)
      = omega arith in
      e ∙ ap (λ b. x + new_code D (b c)) (sym (before_of-Bind t o))

  module _ (N : ℕ → Option Raising) where
    -- statements that were made of others, with new variables from x to y
    pub record Raises (x : ℕ) (made from : List Stmt) (y : ℕ) : Type 0 where
      pub by : (c : Code) → all_before (map before_of made) (raised_code D N y c) ≡ raised_code D N
          x (all_before (map before_of from) c)
      pub room : (c : Code) → y + new_code D c ≡ x + new_code D (all_before (map before_of from) c)

    pub one_more : (x : ℕ) (made from : List Stmt) (y : ℕ) (more : List Stmt) (s : Stmt) (z : ℕ)
        → Raises x made from y
        → ((c : Code) → all_before (map before_of more) (raised_code D N z c) ≡ all_before
        (map before_of made) (raised_code D N y (before_of s c)))
        → ((c : Code) → z + new_code D c ≡ y + new_code D (before_of s c))
        → Raises x more (from ++ s ∷ []) z
    one_more x made from y more s z u h k = record {
      by = λ c. h c ∙ u.by (before_of s c) ∙ ap (raised_code D N x)
          (sym (all_before_push from s c));
      room = λ c. k c ∙ u.room (before_of s c) ∙ ap (λ b. x + new_code D b)
          (sym (all_before_push from s c));
    }

    pub store_raised : (x : ℕ) (made more : List Stmt) (cs : List Cell) (c : Code) → more ≡ made
        ++ Store cs ∷ []
        → all_before (map before_of more) (raised_code D N x c) ≡ all_before (map before_of made)
        (raised_code D N x (before_of (Store cs) c))
    unfolding raised_act
    store_raised x made more cs c e =
        ap (λ l. all_before (map before_of l) (raised_code D N x c)) e ∙ all_before_push made
        (Store cs) (raised_code D N x c)
        ∙ ap (λ f. all_before (map before_of made) (f (raised_code D N x c))) (before_of-Store cs) ∙
        ap (λ f. all_before (map before_of made) (raised_code D N x (f c)))
        (sym (before_of-Store cs))

    pub bind_raised : (x y : ℕ) (made fetched more : List Stmt) (t : Target) (m o : Op) (c : Code)
        → ((b : Code) → all_before (map before_of fetched) b ≡ all_before (map before_of made)
        (fetches_before D x (act_of o) b)) → act_of m ≡ raised_act D N x (act_of o)
        → y ≡ x + (new_before D (act_of o) + new_act D (act_of o)) → more ≡ fetched ++ Bind t m ∷ []
        → all_before (map before_of more) (raised_code D N y c) ≡ all_before (map before_of made)
        (raised_code D N x (before_of (Bind t o) c))
    unfolding raised_act
    bind_raised x y made fetched more t m o c b e f p =
        ap (λ l. all_before (map before_of l) (raised_code D N y c)) p ∙ all_before_push fetched
        (Bind t m) (raised_code D N y c) ∙ b (before_of (Bind t m) (raised_code D N y c))
        ∙ ap (λ g. all_before (map before_of made)
        (fetches_before D x (act_of o) (g (raised_code D N y c)))) (before_of-Bind t m)
        ∙ (λ i. all_before (map before_of made)
        (fetches_before D x (act_of o) (bind t (e i) (raised_code D N (f i) c))))
        ∙ ap (λ g. all_before (map before_of made) (raised_code D N x (g c)))
        (sym (before_of-Bind t o))

    -- ---- alternatives

    -- alternatives that were made of others
    pub record AllRaise (x : ℕ) (made from : List Alt) (y : ℕ) : Type 0 where
      pub by : (rest : Arms) → all_arms (map arm_of made) (raised_arms D N y rest) ≡ raised_arms D N
          x (all_arms (map arm_of from) rest)
      pub room : (rest : Arms) → y + new_arms D rest ≡ x + new_arms D
          (all_arms (map arm_of from) rest)

    alt_raised : (m a : Alt) (y z : ℕ) (rest : Arms) → m.pattern ≡ a.pattern
        → code_of m.body ≡ raised_code D N y (code_of a.body) → z ≡ y + new_code D (code_of a.body)
        → arm m.pattern (code_of m.body) (raised_arms D N z rest) ≡ raised_arms D N y
        (arm a.pattern (code_of a.body) rest)
    unfolding raised_act
    alt_raised m a y z rest s e f = λ i. arm (s i) (e i) (raised_arms D N (f i) rest)

    alt_room : (a : Alt) (y z : ℕ) (rest : Arms) → z ≡ y + new_code D (code_of a.body)
        → z + new_arms D rest ≡ y + new_arms D (arm a.pattern (code_of a.body) rest)
    unfolding new_act
    alt_room a y z rest f = omega arith

    pub one_more_alt : (x : ℕ) (made from : List Alt) (y : ℕ) (m a : Alt) (z : ℕ)
        → AllRaise x made from y → m.pattern ≡ a.pattern
        → code_of m.body ≡ raised_code D N y (code_of a.body) → z ≡ y + new_code D (code_of a.body)
        → AllRaise x (made ++ m ∷ []) (from ++ a ∷ []) z
    one_more_alt x made from y m a z u s e f = record {
      by = λ rest. all_arms_push made m (raised_arms D N z rest) ∙ ap (all_arms (map arm_of made))
          (alt_raised m a y z rest s e f) ∙ u.by (arm a.pattern (code_of a.body) rest)
          ∙ ap (raised_arms D N x) (sym (all_arms_push from a rest));
      room = λ rest. alt_room a y z rest f ∙ u.room (arm a.pattern (code_of a.body) rest) ∙ ap
          (λ r. x + new_arms D r) (sym (all_arms_push from a rest));
    }

    pub case_done : (x : ℕ) (v : Val) (made alts : List Alt) (y : ℕ) → AllRaise x made alts y
        → act_of (Case v made) ≡ raised_act D N x (act_of (Case v alts))
    unfolding raised_act
    case_done x v made alts y u =
        act_of-Case v made ∙ ap (case v)
        (sym (all_arms_none (map arm_of made)) ∙ u.by no_arm ∙ ap (raised_arms D N x)
        (all_arms_none (map arm_of alts))) ∙ ap (raised_act D N x) (sym (act_of-Case v alts))

    pub case_room : (x : ℕ) (v : Val) (made alts : List Alt) (y : ℕ) → AllRaise x made alts y
        → y ≡ x + (new_before D (act_of (Case v alts)) + new_act D (act_of (Case v alts)))
    unfolding new_act
    case_room x v made alts y u =
        let e : y ≡ x + (0 + new_arms D (all_arms (map arm_of alts) no_arm)) = let h = u.room no_arm
        in omega arith in
        e ∙ ap (λ r. x + (0 + new_arms D r)) (all_arms_none (map arm_of alts)) ∙ ap
        (λ o. x + (new_before D o + new_act D o)) (sym (act_of-Case v alts))

-- ---- procedures

-- procedures that were made of others, so many, with new variables from x to y
pub record ProcsRaise (D : List Decisions) (x f : ℕ) (made from : List Proc) (y : ℕ) : Type 0 where
  pub by : (rest : List Procedure) → map procedure_of made
      ++ raised_procs D y (drop f D) rest ≡ raised_procs D x D (map procedure_of from ++ rest)

pub no_procs : (D : List Decisions) (x : ℕ) → ProcsRaise D x 0 [] [] x
no_procs D x = record { by = λ rest. refl }

pub one_more_proc : (D : List Decisions) (x f next : ℕ) (made from more : List Proc) (y z : ℕ)
    (ds : Decisions) (m q : Proc) → f < length D → ds ≡ get_or D f ds → next ≡ f + 1 → more ≡ made
    ++ m ∷ []
    → procedure_of m ≡ raised_procedure D y ds (procedure_of q)
    → z ≡ y + new_code D (code_of q.body)
    → ProcsRaise D x f made from y → ProcsRaise D x next more (from ++ q ∷ []) z
one_more_proc D x f next made from more y z ds m q lt here n e p f' u = record {
  by = λ rest.
      let at : drop f D ≡ ds ∷ drop (f + 1) D = drop_more D f ds lt ∙ ap (λ d. d ∷ drop (f + 1) D)
      (sym here) in
      (λ i. map procedure_of (e i) ++ raised_procs D (f' i) (drop (n i) D) rest)
      ∙ ap (λ l. l ++ raised_procs D (y + new_code D (code_of q.body)) (drop (f + 1) D) rest)
      (map_push procedure_of made m)
      ∙ append_assoc (map procedure_of made) (procedure_of m ∷ [])
      (raised_procs D (y + new_code D (code_of q.body)) (drop (f + 1) D) rest)
      ∙ (λ i. map procedure_of made ++
      (p i ∷ raised_procs D (y + new_code D (code_of q.body)) (drop (f + 1) D) rest))
      ∙ ap (λ l. map procedure_of made ++ raised_procs D y l (procedure_of q ∷ rest)) (sym at)
      ∙ u.by (procedure_of q ∷ rest)
      ∙ ap (raised_procs D x D)
      (sym (ap (λ l. l ++ rest) (map_push procedure_of from q) ∙ append_assoc
      (map procedure_of from) (procedure_of q ∷ []) rest));
}

procs_end : (D dss : List Decisions) (y : ℕ) → raised_procs D y dss [] ≡ []
procs_end D [] y = refl
procs_end D (ds ∷ dss) y = refl

pub procs_done : (D : List Decisions) (x f : ℕ) (made from : List Proc) (y : ℕ)
    → ProcsRaise D x f made from y → map procedure_of made ≡ raised_procs D x D
    (map procedure_of from)
procs_done D x f made from y u =
    sym (append-nil (map procedure_of made)) ∙ ap (λ l. map procedure_of made ++ l)
    (sym (procs_end D (drop f D) y)) ∙ u.by [] ∙ ap (raised_procs D x D)
    (append-nil (map procedure_of from))
