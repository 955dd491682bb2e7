-- The pieces of a well-formed program are fine: variables are bound once, and each cell of a site
-- that leaves is never read.
use Rattle.std.proofs.Common.{◌≡◌, ℕ, ◌+◌, ◌≤◌, Bool, true, false, cond, not, nat_eq, List, [], ◌∷◌, ◌++◌, refl, sym, ap, ◌∙◌, ⊎_elim, arith}
use Rattle.grin_syntax.specs.declared.program.Cell.{Cell}
use Rattle.grin_syntax.specs.declared.program.Word.{Word}
use Rattle.grin_syntax.specs.Tree.{Code, end, store, bind, Act, leaf, unit, fetch, fetch_word, update, eval, apply, call, prim, read, write, case, nested, fail, Arms, no_arm, arm, Procedure, Program}
use Rattle.grin_syntax.specs.Binders.{numbers_of, target_vars, shape_vars, cell_vars, act_vars, code_vars, arms_vars, procs_vars}
use Rattle.grin_syntax.specs.Formed.{AllOf}
use Rattle.grin_meaning.specs.Ready.{EachAct, EachCode, EachArms, EveryBodyIsOfKind, inlined_kind, without_node_fetches, vectorised_kind, NoNodeVar}
use Rattle.flow_system.specs.Solution.{Solution}
use Rattle.pass_ground.proofs.Tests.{all_front, all_back}
use Rattle.std.specs.Prelude.{◌||◌}
use Rattle.seq.specs.Lists.{times, is_among}
use Rattle.seq.proofs.Counted.{times_append, times_fewer, one_at, not_among_times}
use Rattle.seq.proofs.Truth.{two_ways, false_not_true}
use Rattle.dead_store.specs.Reads.{act_reads, code_reads, arms_reads, reads_of}
use Rattle.dead_store.specs.Without.{cells_left, act_left, code_left, arms_left, left_of, is_gone}
use Rattle.dead_store.proofs.Fine.{WordStays, IsThere, CellFine, ActFine, CodeFine, ArmsFine}

among_times : (x : ℕ) (xs : List ℕ) → is_among x xs ≡ true → 1 ≤ times x xs
among_times x [] h = false_not_true h
among_times x (y ∷ ys) h = go (nat_eq x y) (among_times x ys) h
  where
    go : (b : Bool) → (is_among x ys ≡ true → 1 ≤ times x ys) → (b || is_among x ys) ≡ true
        → 1 ≤ cond b 1 0 + times x ys
    go true m k = omega arith
    go false m k = let l : 1 ≤ times x ys = m k in omega (arith, l)

times_among : (x : ℕ) (xs : List ℕ) → 1 ≤ times x xs → is_among x xs ≡ true
times_among x xs h = ⊎_elim (λ t. t)
    (λ n. absurd (let z : times x xs ≡ 0 = not_among_times x xs n in omega (arith, z, h)))
    (two_ways (is_among x xs))

pub all_in : (P : ℕ → Type 0) (xs : List ℕ) → ((y : ℕ) → 1 ≤ times y xs → P y) → AllOf P xs
all_in P [] h = tt
all_in P (x ∷ xs) h = (
  h x (let o : cond (nat_eq x x) 1 0 ≡ 1 = one_at x in omega (arith, o)),
  all_in P xs (λ y k. h y (omega (arith, k))),
)

-- ---- the variables of cells that leave are among those that are bound

module _ (stays : ℕ → Bool) (y : ℕ) where
  cells_fewer : (cs : List Cell) → times y (cells_left stays cs) ≤ times y (cell_vars cs)
  cells_fewer [] = omega arith
  cells_fewer (c ∷ cs) = go (stays c.site.0) (cells_fewer cs)
    where
      go : (b : Bool) → times y (cells_left stays cs) ≤ times y (cell_vars cs)
          → times y (cond b (cells_left stays cs) (c.var.0 ∷ cells_left stays cs)) ≤ times y
          (c.var.0 ∷ cell_vars cs)
      go true h = omega (arith, h)
      go false h = omega (arith, h)

  mutual
    unfolding act_left act_vars

    pub act_fewer : (o : Act) → times y (act_left stays o) ≤ times y (act_vars o)
    act_fewer (case v as') = arms_fewer as'
    act_fewer (nested b) = code_fewer b
    act_fewer (leaf (unit v)) = omega arith
    act_fewer (leaf (fetch a)) = omega arith
    act_fewer (leaf (fetch_word a i)) = omega arith
    act_fewer (leaf (update a v)) = omega arith
    act_fewer (leaf (eval a)) = omega arith
    act_fewer (leaf (apply v a)) = omega arith
    act_fewer (leaf (call f ws)) = omega arith
    act_fewer (leaf (prim f a b)) = omega arith
    act_fewer (leaf read) = omega arith
    act_fewer (leaf (write a)) = omega arith
    act_fewer (leaf fail) = omega arith

    pub code_fewer : (b : Code) → times y (code_left stays b) ≤ times y (code_vars b)
    code_fewer (end o) = act_fewer o
    code_fewer (store cs b) = times_fewer y (cells_left stays cs) (code_left stays b) (cell_vars cs)
        (code_vars b) (cells_fewer cs) (code_fewer b)
    code_fewer (bind t o b) =
        let l : times y (act_left stays o ++ code_left stays b) ≤ times y
        (act_vars o ++ code_vars b) = times_fewer y (act_left stays o) (code_left stays b)
        (act_vars o) (code_vars b) (act_fewer o) (code_fewer b) in
        let e : times y (target_vars t ++ (act_vars o ++ code_vars b)) ≡ times y (target_vars t) +
        times y (act_vars o ++ code_vars b) = times_append y (target_vars t)
        (act_vars o ++ code_vars b) in
        omega (arith, l, e)

    pub arms_fewer : (as' : Arms) → times y (arms_left stays as') ≤ times y (arms_vars as')
    arms_fewer no_arm = omega arith
    arms_fewer (arm s b as') =
        let l : times y (code_left stays b ++ arms_left stays as') ≤ times y
        (code_vars b ++ arms_vars as') = times_fewer y (code_left stays b) (arms_left stays as')
        (code_vars b) (arms_vars as') (code_fewer b) (arms_fewer as') in
        let e : times y (shape_vars s ++ (code_vars b ++ arms_vars as')) ≡ times y (shape_vars s) +
        times y (code_vars b ++ arms_vars as') = times_append y (shape_vars s)
        (code_vars b ++ arms_vars as') in
        omega (arith, l, e)

  procs_fewer : (qs : List Procedure) → times y (left_of stays qs) ≤ times y (procs_vars qs)
  procs_fewer [] = omega arith
  procs_fewer (q ∷ qs) =
      let l : times y (code_left stays q.body ++ left_of stays qs) ≤ times y
      (code_vars q.body ++ procs_vars qs) = times_fewer y (code_left stays q.body)
      (left_of stays qs) (code_vars q.body) (procs_vars qs) (code_fewer q.body) (procs_fewer qs)
      in
      let e : times y (code_vars q.body ++ procs_vars qs) ≡ times y (code_vars q.body) + times y
      (procs_vars qs) = times_append y (code_vars q.body) (procs_vars qs) in
      let f : times y ((numbers_of q.params ++ code_vars q.body) ++ procs_vars qs) ≡ times y
      (numbers_of q.params ++ code_vars q.body) + times y (procs_vars qs)
      = times_append y (numbers_of q.params ++ code_vars q.body) (procs_vars qs) in
      let k : times y (numbers_of q.params ++ code_vars q.body) ≡ times y (numbers_of q.params) +
      times y (code_vars q.body) = times_append y (numbers_of q.params) (code_vars q.body) in
      omega (arith, l, e, f, k)

module _ (gone : ℕ → Bool) where
  -- a piece that binds these variables, those `left` of cells that leave; elsewhere a variable of a
  -- cell that leaves stands so often
  record Parted (vars left : List ℕ) : Type 0 where
    pub elsewhere : ℕ → ℕ
    pub once : (y : ℕ) → times y vars + elsewhere y ≤ 1
    pub gone_are : (y : ℕ) → gone y ≡ true → 1 ≤ times y left + elsewhere y
    pub left_are : (y : ℕ) → 1 ≤ times y left → gone y ≡ true

  parted_front : (us vs ls ms : List ℕ) → ((y : ℕ) → times y ms ≤ times y vs)
      → Parted (us ++ vs) (ls ++ ms) → Parted us ls
  parted_front us vs ls ms fewer p = record {
    elsewhere = λ y. times y ms + p.elsewhere y;
    once = λ y. let e : times y (us ++ vs) ≡ times y us + times y vs = times_append y us vs in let o
        : times y (us ++ vs) + p.elsewhere y ≤ 1 = p.once y in let f : times y ms ≤ times y vs
        = fewer y in omega (arith, e, o, f);
    gone_are = λ y n. let e : times y (ls ++ ms) ≡ times y ls + times y ms = times_append y ls ms
        in let o : 1 ≤ times y (ls ++ ms) + p.elsewhere y = p.gone_are y n in omega (arith, e, o);
    left_are = λ y h. p.left_are y
        (let e : times y (ls ++ ms) ≡ times y ls + times y ms = times_append y ls ms
        in omega (arith, e, h));
  }

  parted_back : (us vs ls ms : List ℕ) → ((y : ℕ) → times y ls ≤ times y us)
      → Parted (us ++ vs) (ls ++ ms) → Parted vs ms
  parted_back us vs ls ms fewer p = record {
    elsewhere = λ y. times y ls + p.elsewhere y;
    once = λ y. let e : times y (us ++ vs) ≡ times y us + times y vs = times_append y us vs in let o
        : times y (us ++ vs) + p.elsewhere y ≤ 1 = p.once y in let f : times y ls ≤ times y us
        = fewer y in omega (arith, e, o, f);
    gone_are = λ y n. let e : times y (ls ++ ms) ≡ times y ls + times y ms = times_append y ls ms
        in let o : 1 ≤ times y (ls ++ ms) + p.elsewhere y = p.gone_are y n in omega (arith, e, o);
    left_are = λ y h. p.left_are y
        (let e : times y (ls ++ ms) ≡ times y ls + times y ms = times_append y ls ms
        in omega (arith, e, h));
  }

  -- after variables that stay
  parted_later : (us vs ls : List ℕ) → Parted (us ++ vs) ls → Parted vs ls
  parted_later us vs ls p = record {
    elsewhere = p.elsewhere;
    once = λ y. let e : times y (us ++ vs) ≡ times y us + times y vs = times_append y us vs in let o
        : times y (us ++ vs) + p.elsewhere y ≤ 1 = p.once y in omega (arith, e, o);
    gone_are = p.gone_are;
    left_are = p.left_are;
  }

  -- these variables stay
  they_stay : (us vs ls : List ℕ) → ((y : ℕ) → times y ls ≤ times y vs) → Parted (us ++ vs) ls
      → (y : ℕ) → 1 ≤ times y us → gone y ≡ false
  they_stay us vs ls fewer p y h = ⊎_elim (λ n. absurd (impossible n)) (λ n. n) (two_ways (gone y))
    where
      impossible : gone y ≡ true → ⊥
      impossible n =
          let e : times y (us ++ vs) ≡ times y us + times y vs = times_append y us vs in
          let o : times y (us ++ vs) + p.elsewhere y ≤ 1 = p.once y in
          let f : times y ls ≤ times y vs = fewer y in
          let k : 1 ≤ times y ls + p.elsewhere y = p.gone_are y n in
          omega (arith, e, o, f, k, h)

module _ (A : Solution) (g : Program) (stays gone : ℕ → Bool) where
  cells_fine : (cs : List Cell) → Parted gone (cell_vars cs) (cells_left stays cs)
      → AllOf (λ c. NoNodeVar c.val) cs → AllOf (CellFine A g stays gone) cs
  cells_fine [] p n = tt
  cells_fine (c ∷ cs) p n = go (stays c.site.0) refl p (λ p. cells_fine cs p n.1)
    where
      go : (b : Bool) → stays c.site.0 ≡ b → Parted gone (c.var.0 ∷ cell_vars cs)
          (cond b (cells_left stays cs) (c.var.0 ∷ cells_left stays cs))
          → (Parted gone (cell_vars cs) (cells_left stays cs) → AllOf (CellFine A g stays gone) cs)
          → AllOf (CellFine A g stays gone) (c ∷ cs)
      go true q p rest = (
        (
          they_stay gone (c.var.0 ∷ []) (cell_vars cs) (cells_left stays cs)
              (λ y. cells_fewer stays y cs) p c.var.0
              (let o : cond (nat_eq c.var.0 c.var.0) 1 0 ≡ 1 = one_at c.var.0 in omega (arith, o)) ∙
              sym (ap not q),
          n.0,
        ),
        rest (parted_later gone (c.var.0 ∷ []) (cell_vars cs) (cells_left stays cs) p),
      )
      go false q p rest = (
        (
          p.left_are c.var.0
              (let o : cond (nat_eq c.var.0 c.var.0) 1 0 ≡ 1 = one_at c.var.0 in omega (arith, o)) ∙
              sym (ap not q),
          n.0,
        ),
        rest (parted_back gone (c.var.0 ∷ []) (cell_vars cs) (c.var.0 ∷ []) (cells_left stays cs)
            (λ y. omega arith) p),
      )

  abbrev pub Read : List Word → Type 0
  Read = AllOf (WordStays A g stays)

  abbrev Parts : (vars left : List ℕ) → Type 0
  Parts = Parted gone

  mutual
    unfolding act_reads act_left act_vars EachAct ActFine

    act_fine : (o : Act) → EachAct inlined_kind o → EachAct without_node_fetches o
        → EachAct vectorised_kind o → Read (act_reads true o)
        → Parts (act_vars o) (act_left stays o) → ActFine A g stays gone o
    act_fine (leaf (unit v)) i w n r p = n.1
    act_fine (leaf (fetch a)) i w n r p = w
    act_fine (leaf (fetch_word a k)) i w n r p = r.0
    act_fine (leaf (update a v)) i w n r p = (r.0, n.1)
    act_fine (leaf (eval a)) i w n r p = i
    act_fine (leaf (apply v a)) i w n r p = i.0
    act_fine (leaf (call f ws)) i w n r p = tt
    act_fine (leaf (prim f a b)) i w n r p = tt
    act_fine (leaf read) i w n r p = tt
    act_fine (leaf (write a)) i w n r p = tt
    act_fine (case v as') i w n r p = (n.1, arms_fine as' i.2 w.2 n.2 r p)
    act_fine (nested b) i w n r p = code_fine b i.1 w.1 n.1 r p
    act_fine (leaf fail) i w n r p = tt

    code_fine : (b : Code) → EachCode inlined_kind b → EachCode without_node_fetches b
        → EachCode vectorised_kind b → Read (code_reads true b)
        → Parts (code_vars b) (code_left stays b) → CodeFine A g stays gone b
    code_fine (end o) i w n r p = act_fine o i w n r p
    code_fine (store cs b) i w n r p = (
      cells_fine cs
          (parted_front gone (cell_vars cs) (code_vars b) (cells_left stays cs) (code_left stays b)
          (λ y. code_fewer stays y b) p) n.0,
      code_fine b i.1 w.1 n.1 r
          (parted_back gone (cell_vars cs) (code_vars b) (cells_left stays cs) (code_left stays b)
          (λ y. cells_fewer stays y cs) p),
    )
    code_fine (bind t o b) i w n r p =
        let rest : Parts (act_vars o ++ code_vars b) (act_left stays o ++ code_left stays b)
        = parted_later gone (target_vars t) (act_vars o ++ code_vars b)
        (act_left stays o ++ code_left stays b) p in (
          all_in (IsThere A g stays gone) (target_vars t)
              (they_stay gone (target_vars t) (act_vars o ++ code_vars b)
              (act_left stays o ++ code_left stays b)
              (λ y. times_fewer y (act_left stays o) (code_left stays b) (act_vars o) (code_vars b)
              (act_fewer stays y o) (code_fewer stays y b)) p),
          act_fine o i.1 w.1 n.1
              (all_front (WordStays A g stays) (act_reads true o) (code_reads true b) r)
              (parted_front gone (act_vars o) (code_vars b) (act_left stays o) (code_left stays b)
              (λ y. code_fewer stays y b) rest),
          code_fine b i.2 w.2 n.2
              (all_back (WordStays A g stays) (act_reads true o) (code_reads true b) r)
              (parted_back gone (act_vars o) (code_vars b) (act_left stays o) (code_left stays b)
              (λ y. act_fewer stays y o) rest),
        )

    arms_fine : (as' : Arms) → EachArms inlined_kind as' → EachArms without_node_fetches as'
        → EachArms vectorised_kind as' → Read (arms_reads true as')
        → Parts (arms_vars as') (arms_left stays as') → ArmsFine A g stays gone as'
    arms_fine no_arm i w n r p = tt
    arms_fine (arm s b as') i w n r p =
        let rest : Parts (code_vars b ++ arms_vars as') (code_left stays b ++ arms_left stays as')
        = parted_later gone (shape_vars s) (code_vars b ++ arms_vars as')
        (code_left stays b ++ arms_left stays as') p in (
          n.0,
          code_fine b i.1 w.1 n.1
              (all_front (WordStays A g stays) (code_reads true b) (arms_reads true as') r)
              (parted_front gone (code_vars b) (arms_vars as') (code_left stays b)
              (arms_left stays as') (λ y. arms_fewer stays y as') rest),
          arms_fine as' i.2 w.2 n.2
              (all_back (WordStays A g stays) (code_reads true b) (arms_reads true as') r)
              (parted_back gone (code_vars b) (arms_vars as') (code_left stays b)
              (arms_left stays as') (λ y. code_fewer stays y b) rest),
        )

  -- a procedure: its parameters stay, and its body is fine
  pub record ProcFine (q : Procedure) : Type 0 where
    pub params : AllOf (IsThere A g stays gone) (numbers_of q.params)
    pub body : CodeFine A g stays gone q.body

  body_fewer : (q : Procedure) (y : ℕ) → times y (code_left stays q.body) ≤ times y
      (numbers_of q.params ++ code_vars q.body)
  body_fewer q y =
      let e : times y (numbers_of q.params ++ code_vars q.body) ≡ times y (numbers_of q.params) +
      times y (code_vars q.body) = times_append y (numbers_of q.params) (code_vars q.body) in
      let l : times y (code_left stays q.body) ≤ times y (code_vars q.body)
      = code_fewer stays y q.body in
      omega (arith, e, l)

  procs_fine : (qs : List Procedure) → EveryBodyIsOfKind inlined_kind qs
      → EveryBodyIsOfKind without_node_fetches qs → EveryBodyIsOfKind vectorised_kind qs
      → Read (reads_of true qs) → Parts (procs_vars qs) (left_of stays qs) → AllOf ProcFine qs
  procs_fine [] i w n r p = tt
  procs_fine (q ∷ qs) i w n r p =
      let here : Parts (numbers_of q.params ++ code_vars q.body) (code_left stays q.body)
      = parted_front gone (numbers_of q.params ++ code_vars q.body) (procs_vars qs)
      (code_left stays q.body) (left_of stays qs) (λ y. procs_fewer stays y qs) p in (
        record {
          params = all_in (IsThere A g stays gone) (numbers_of q.params)
              (they_stay gone (numbers_of q.params) (code_vars q.body) (code_left stays q.body)
              (λ y. code_fewer stays y q.body) here);
          body = code_fine q.body i.0 w.0 n.0
              (all_front (WordStays A g stays) (code_reads true q.body) (reads_of true qs) r)
              (parted_later gone (numbers_of q.params) (code_vars q.body) (code_left stays q.body)
              here);
        },
        procs_fine qs i.1 w.1 n.1
            (all_back (WordStays A g stays) (code_reads true q.body) (reads_of true qs) r)
            (parted_back gone (numbers_of q.params ++ code_vars q.body) (procs_vars qs)
            (code_left stays q.body) (left_of stays qs) (body_fewer q) p),
      )

-- the procedures of a program, where the variables of cells that leave are gone
pub all_fine : (A : Solution) (g : Program) (stays : ℕ → Bool)
    → ((y : ℕ) → times y (procs_vars g.procs) ≤ 1) → EveryBodyIsOfKind inlined_kind g.procs
    → EveryBodyIsOfKind without_node_fetches g.procs → EveryBodyIsOfKind vectorised_kind g.procs
    → AllOf (WordStays A g stays) (reads_of true g.procs)
    → AllOf (ProcFine A g stays (is_gone stays g.procs)) g.procs
all_fine A g stays once i w n r = procs_fine A g stays (is_gone stays g.procs) g.procs i w n r
    (record {
      elsewhere = λ y. 0;
      once = λ y. let o : times y (procs_vars g.procs) ≤ 1 = once y in omega (arith, o);
      gone_are = λ y h. let l : 1 ≤ times y (left_of stays g.procs)
          = among_times y (left_of stays g.procs) h in omega (arith, l);
      left_are = λ y h. times_among y (left_of stays g.procs) h;
    })
