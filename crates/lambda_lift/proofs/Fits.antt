-- Which names a piece may use: those of V and those that are bound inside. All names are below a
-- number,
-- and each lambda and local function has a parameter.
use Rattle.std.proofs.Common.{◌≡◌, ℕ, ◌<◌, Bool, true, false, nat_eq, List, [], ◌∷◌, ◌++◌, refl, sym, ap, ◌∙◌, subst, inl, inr}
use Rattle.std.specs.Prelude.{◌⊎◌, ◌||◌, filter, not, if◌then◌else◌}
use Rattle.seq.specs.Lists.{is_among, AllOf}
use Rattle.seq.proofs.Truth.{or_cases, or_left, or_right, not_both}
use Rattle.seq.proofs.Counted.{among_first, among_later, among_append, among_left, among_right, not_among_left, not_among_right}
use Rattle.seq.proofs.Order.{eq_self, eq_from}
use Rattle.lambda_reader.specs.Tree.{Term, Terms, NoTerms, AndTerm, Group, NoBinds, AndValue, AndFunction, Expr, App, Let, Case, Alts, NoAlts, AndAlt}
use Rattle.lambda_reader.specs.Tree as tree
use Rattle.lambda_reader.specs.Grammar.{HasParameter}
use Rattle.lambda_lift.specs.Headers.{names_of, bound_by, binders_of}
use Rattle.lambda_lift.specs.Free.{uses_term, uses_terms, uses_group, uses, uses_alts, without_repeats}

abbrev pub Among : List ℕ → ℕ → Type 0
Among xs x = is_among x xs ≡ true

-- a name of V, or one of these
abbrev pub And : (ℕ → Type 0) → List ℕ → ℕ → Type 0
And V xs x = V x ⊎ Among xs x

pub and_more : (V W : ℕ → Type 0) → ((x : ℕ) → V x → W x) → (xs : List ℕ) (x : ℕ) → And V xs x
    → And W xs x
and_more V W h xs x (inl v) = inl (h x v)
and_more V W h xs x (inr a) = inr a

module _ (N : ℕ) where
  abbrev pub Below : List ℕ → Type 0
  Below xs = AllOf (λ x. x < N) xs

  abbrev mutual
    pub FitsTerm : (ℕ → Type 0) → Term → Type 0
    FitsTerm V (tree.Name x at) = V x × (x < N)
    FitsTerm V (tree.Con d at) = Unit {0}
    FitsTerm V (tree.Int k at) = Unit {0}
    FitsTerm V (tree.Bracket head args at) = FitsTerm V head × FitsTerms V args
    FitsTerm V (tree.Lambda params body at) = HasParameter params × Below (names_of params)
        × Fits (And V (names_of params)) body

    pub FitsTerms : (ℕ → Type 0) → Terms → Type 0
    FitsTerms V NoTerms = Unit {0}
    FitsTerms V (AndTerm a xs) = FitsTerm V a × FitsTerms V xs

    pub FitsGroup : (ℕ → Type 0) → Group → Type 0
    FitsGroup V NoBinds = Unit {0}
    FitsGroup V (AndValue b head args rest) = FitsTerm V head × FitsTerms V args × FitsGroup V rest
    FitsGroup V (AndFunction b params body rest) = HasParameter params × Below (names_of params)
        × Fits (And V (names_of params)) body × FitsGroup V rest

    pub Fits : (ℕ → Type 0) → Expr → Type 0
    Fits V (App head args) = FitsTerm V head × FitsTerms V args
    Fits V (Let group body) = Below (names_of (binders_of group))
        × FitsGroup (And V (names_of (binders_of group))) group
        × Fits (And V (names_of (binders_of group))) body
    Fits V (Case tested alts) = Fits V tested × FitsAlts V alts

    pub FitsAlts : (ℕ → Type 0) → Alts → Type 0
    FitsAlts V NoAlts = Unit {0}
    FitsAlts V (AndAlt p body rest) = Below (names_of (bound_by p))
        × Fits (And V (names_of (bound_by p))) body × FitsAlts V rest

  -- ---- more names

  mutual
    pub more_term : (V W : ℕ → Type 0) → ((x : ℕ) → V x → W x) → (a : Term) → FitsTerm V a
        → FitsTerm W a
    more_term V W h (tree.Name x at) f = (h x f.0, f.1)
    more_term V W h (tree.Con d at) f = tt
    more_term V W h (tree.Int k at) f = tt
    more_term V W h (tree.Bracket head args at) f =
        (more_term V W h head f.0, more_terms V W h args f.1)
    more_term V W h (tree.Lambda params body at) f = (
      f.0,
      f.1,
      more (And V (names_of params)) (And W (names_of params))
          (and_more V W h (names_of params)) body f.2,
    )

    pub more_terms : (V W : ℕ → Type 0) → ((x : ℕ) → V x → W x) → (xs : Terms) → FitsTerms V xs
        → FitsTerms W xs
    more_terms V W h NoTerms f = tt
    more_terms V W h (AndTerm a xs) f = (more_term V W h a f.0, more_terms V W h xs f.1)

    pub more_group : (V W : ℕ → Type 0) → ((x : ℕ) → V x → W x) → (group : Group)
        → FitsGroup V group → FitsGroup W group
    more_group V W h NoBinds f = tt
    more_group V W h (AndValue b head args rest) f =
        (more_term V W h head f.0, more_terms V W h args f.1, more_group V W h rest f.2)
    more_group V W h (AndFunction b params body rest) f
        = (
          f.0,
          f.1,
          more (And V (names_of params)) (And W (names_of params))
              (and_more V W h (names_of params)) body f.2,
          more_group V W h rest f.3,
        )

    pub more : (V W : ℕ → Type 0) → ((x : ℕ) → V x → W x) → (e : Expr) → Fits V e → Fits W e
    more V W h (App head args) f = (more_term V W h head f.0, more_terms V W h args f.1)
    more V W h (Let group body) f = let bs = names_of (binders_of group)
        in (
          f.0,
          more_group (And V bs) (And W bs) (and_more V W h bs) group f.1,
          more (And V bs) (And W bs) (and_more V W h bs) body f.2,
        )
    more V W h (Case tested alts) f = (more V W h tested f.0, more_alts V W h alts f.1)

    pub more_alts : (V W : ℕ → Type 0) → ((x : ℕ) → V x → W x) → (alts : Alts) → FitsAlts V alts
        → FitsAlts W alts
    more_alts V W h NoAlts f = tt
    more_alts V W h (AndAlt p body rest) f = (
      f.0,
      more (And V (names_of (bound_by p))) (And W (names_of (bound_by p)))
          (and_more V W h (names_of (bound_by p))) body f.1,
      more_alts V W h rest f.2,
    )

  -- ---- a piece uses the names that it uses, and those that are bound around it

  -- one of the names used, or one that is bound inside
  abbrev pub Used : List ℕ → List ℕ → ℕ → Type 0
  Used used inside x = Among used x ⊎ Among inside x

  used_left : (us vs inside : List ℕ) (x : ℕ) → Used us inside x → Used (us ++ vs) inside x
  used_left us vs inside x (inl h) = inl (among_left x us vs h)
  used_left us vs inside x (inr h) = inr h

  used_right : (us vs inside : List ℕ) (x : ℕ) → Used vs inside x → Used (us ++ vs) inside x
  used_right us vs inside x (inl h) = inl (among_right x us vs h)
  used_right us vs inside x (inr h) = inr h

  used_within : (names us inside : List ℕ) (x : ℕ) → Used us (names ++ inside) x
      → And (Used us inside) names x
  used_within names us inside x (inl h) = inl (inl h)
  used_within names us inside x (inr h) = by
      (or_cases (is_among x names) (is_among x inside) (sym (among_append x names inside) ∙ h))
    where
      by : (Among names x) ⊎ (Among inside x) → And (Used us inside) names x
      by (inl a) = inr a
      by (inr a) = inl (inr a)

  used_name : (x : ℕ) (inside : List ℕ) → Used (if is_among x inside then [] else x ∷ []) inside x
  used_name x inside = by (is_among x inside) refl
    where
      by : (b : Bool) → is_among x inside ≡ b → Used (if b then [] else x ∷ []) inside x
      by true e = inr e
      by false e = inl (among_first x [])

  mutual
    used_term : (V : ℕ → Type 0) (inside : List ℕ) (a : Term) → FitsTerm V a
        → FitsTerm (Used (uses_term inside a) inside) a
    used_term V inside (tree.Name x at) f = (used_name x inside, f.1)
    used_term V inside (tree.Con d at) f = tt
    used_term V inside (tree.Int k at) f = tt
    used_term V inside (tree.Bracket head args at) f =
        let us = uses_term inside head in
        let vs = uses_terms inside args in (
          more_term (Used us inside) (Used (us ++ vs) inside) (used_left us vs inside) head
              (used_term V inside head f.0),
          more_terms (Used vs inside) (Used (us ++ vs) inside)
              (used_right us vs inside) args (used_terms V inside args f.1),
        )
    used_term V inside (tree.Lambda params body at) f =
        let names = names_of params in
        let us = uses (names ++ inside) body in (
          f.0,
          f.1,
          more (Used us (names ++ inside)) (And (Used us inside) names)
              (used_within names us inside) body
              (used_expr (And V names) (names ++ inside) body f.2),
        )

    used_terms : (V : ℕ → Type 0) (inside : List ℕ) (xs : Terms) → FitsTerms V xs
        → FitsTerms (Used (uses_terms inside xs) inside) xs
    used_terms V inside NoTerms f = tt
    used_terms V inside (AndTerm a xs) f =
        let us = uses_term inside a in
        let vs = uses_terms inside xs in (
          more_term (Used us inside) (Used (us ++ vs) inside) (used_left us vs inside) a
              (used_term V inside a f.0),
          more_terms (Used vs inside) (Used (us ++ vs) inside)
              (used_right us vs inside) xs (used_terms V inside xs f.1),
        )

    used_group : (V : ℕ → Type 0) (inside : List ℕ) (group : Group) → FitsGroup V group
        → FitsGroup (Used (uses_group inside group) inside) group
    used_group V inside NoBinds f = tt
    used_group V inside (AndValue b head args rest) f =
        let us = uses_term inside head in
        let vs = uses_terms inside args in
        let ws = uses_group inside rest in (
          more_term (Used us inside) (Used (us ++ (vs ++ ws)) inside)
              (used_left us (vs ++ ws) inside) head (used_term V inside head f.0),
          more_terms (Used vs inside) (Used (us ++ (vs ++ ws)) inside)
              (λ x h. used_right us (vs ++ ws) inside x (used_left vs ws inside x h)) args
              (used_terms V inside args f.1),
          more_group (Used ws inside) (Used (us ++ (vs ++ ws)) inside)
              (λ x h. used_right us (vs ++ ws) inside x (used_right vs ws inside x h)) rest
              (used_group V inside rest f.2),
        )
    used_group V inside (AndFunction b params body rest) f =
        let names = names_of params in
        let us = uses (names ++ inside) body in
        let vs = uses_group inside rest in (
          f.0,
          f.1,
          more (Used us (names ++ inside)) (And (Used (us ++ vs) inside) names)
              (λ x h. and_more (Used us inside) (Used (us ++ vs) inside) (used_left us vs inside)
              names x (used_within names us inside x h)) body
              (used_expr (And V names) (names ++ inside) body f.2),
          more_group (Used vs inside) (Used (us ++ vs) inside) (used_right us vs inside) rest
              (used_group V inside rest f.3),
        )

    pub used_expr : (V : ℕ → Type 0) (inside : List ℕ) (e : Expr) → Fits V e
        → Fits (Used (uses inside e) inside) e
    used_expr V inside (App head args) f =
        let us = uses_term inside head in
        let vs = uses_terms inside args in (
          more_term (Used us inside) (Used (us ++ vs) inside) (used_left us vs inside) head
              (used_term V inside head f.0),
          more_terms (Used vs inside) (Used (us ++ vs) inside)
              (used_right us vs inside) args (used_terms V inside args f.1),
        )
    used_expr V inside (Let group body) f =
        let names = names_of (binders_of group) in
        let us = uses_group (names ++ inside) group in
        let vs = uses (names ++ inside) body in (
          f.0,
          more_group (Used us (names ++ inside)) (And (Used (us ++ vs) inside) names)
              (λ x h. and_more (Used us inside) (Used (us ++ vs) inside) (used_left us vs inside)
              names x (used_within names us inside x h)) group
              (used_group (And V names) (names ++ inside) group f.1),
          more (Used vs (names ++ inside)) (And (Used (us ++ vs) inside) names)
              (λ x h. and_more (Used vs inside) (Used (us ++ vs) inside) (used_right us vs inside)
              names x (used_within names vs inside x h)) body
              (used_expr (And V names) (names ++ inside) body f.2),
        )
    used_expr V inside (Case tested alts) f =
        let us = uses inside tested in
        let vs = uses_alts inside alts in (
          more (Used us inside) (Used (us ++ vs) inside) (used_left us vs inside) tested
              (used_expr V inside tested f.0),
          more_alts (Used vs inside) (Used (us ++ vs) inside)
              (used_right us vs inside) alts (used_alts V inside alts f.1),
        )

    used_alts : (V : ℕ → Type 0) (inside : List ℕ) (alts : Alts) → FitsAlts V alts
        → FitsAlts (Used (uses_alts inside alts) inside) alts
    used_alts V inside NoAlts f = tt
    used_alts V inside (AndAlt p body rest) f =
        let names = names_of (bound_by p) in
        let us = uses (names ++ inside) body in
        let vs = uses_alts inside rest in (
          f.0,
          more (Used us (names ++ inside)) (And (Used (us ++ vs) inside) names)
              (λ x h. and_more (Used us inside) (Used (us ++ vs) inside) (used_left us vs inside)
              names x (used_within names us inside x h)) body
              (used_expr (And V names) (names ++ inside) body f.1),
          more_alts (Used vs inside) (Used (us ++ vs) inside) (used_right us vs inside) rest
              (used_alts V inside rest f.2),
        )

  -- ---- a name that a piece uses is one of V

  pub record IsUsed (V : ℕ → Type 0) (inside : List ℕ) (x : ℕ) : Type 0 where
    pub name : V x
    pub below : x < N
    pub free : is_among x inside ≡ false

  split : {A : Type 0} (x : ℕ) (us vs : List ℕ) → Among (us ++ vs) x → (Among us x → A)
      → (Among vs x → A) → A
  split {A = A} x us vs h f g = by
      (or_cases (is_among x us) (is_among x vs) (sym (among_append x us vs) ∙ h))
    where
      by : (Among us x) ⊎ (Among vs x) → A
      by (inl a) = f a
      by (inr a) = g a

  outside : (V : ℕ → Type 0) (names inside : List ℕ) (x : ℕ)
      → IsUsed (And V names) (names ++ inside) x → IsUsed V inside x
  outside V names inside x u = by u.name
    where
      by : And V names x → IsUsed V inside x
      by (inl v) = record
          { name = v; below = u.below; free = not_among_right x names inside u.free }
      by (inr a) = not_both (is_among x names) a (not_among_left x names inside u.free)

  name_used : (V : ℕ → Type 0) (inside : List ℕ) (y x : ℕ) → V y → y < N
      → Among (if is_among y inside then [] else y ∷ []) x → IsUsed V inside x
  name_used V inside y x v lt = by (is_among y inside) refl
    where
      one : is_among y inside ≡ false → (b : Bool) → nat_eq x y ≡ b → (b || false) ≡ true
          → IsUsed V inside x
      one e false s h = absurd cc
      one e true s h = let same : y ≡ x = sym (eq_from x y s)
          in record {
            name = subst V same v;
            below = subst (λ z. z < N) same lt;
            free
                = ap (λ z. is_among z inside) (sym same) ∙ e;
          }

      by : (b : Bool) → is_among y inside ≡ b → Among (if b then [] else y ∷ []) x
          → IsUsed V inside x
      by true e h = absurd cc
      by false e h = one e (nat_eq x y) refl h

  mutual
    from_term : (V : ℕ → Type 0) (inside : List ℕ) (a : Term) (x : ℕ) → FitsTerm V a
        → Among (uses_term inside a) x → IsUsed V inside x
    from_term V inside (tree.Name y at) x f h = name_used V inside y x f.0 f.1 h
    from_term V inside (tree.Con d at) x f h = absurd cc
    from_term V inside (tree.Int k at) x f h = absurd cc
    from_term V inside (tree.Bracket head args at) x f h
        = split x (uses_term inside head) (uses_terms inside args) h (from_term V inside head x f.0)
        (from_terms V inside args x f.1)
    from_term V inside (tree.Lambda params body at) x f h
        = outside V (names_of params) inside x
        (from_expr (And V (names_of params)) (names_of params ++ inside) body x f.2 h)

    from_terms : (V : ℕ → Type 0) (inside : List ℕ) (xs : Terms) (x : ℕ) → FitsTerms V xs
        → Among (uses_terms inside xs) x → IsUsed V inside x
    from_terms V inside NoTerms x f h = absurd cc
    from_terms V inside (AndTerm a xs) x f h = split x (uses_term inside a) (uses_terms inside xs) h
        (from_term V inside a x f.0) (from_terms V inside xs x f.1)

    from_group : (V : ℕ → Type 0) (inside : List ℕ) (group : Group) (x : ℕ) → FitsGroup V group
        → Among (uses_group inside group) x → IsUsed V inside x
    from_group V inside NoBinds x f h = absurd cc
    from_group V inside (AndValue b head args rest) x f h =
        split x (uses_term inside head) (uses_terms inside args ++ uses_group inside rest) h
        (from_term V inside head x f.0)
        (λ h. split x (uses_terms inside args) (uses_group inside rest) h
        (from_terms V inside args x f.1) (from_group V inside rest x f.2))
    from_group V inside (AndFunction b params body rest) x f h =
        split x (uses (names_of params ++ inside) body) (uses_group inside rest) h
        (λ h. outside V (names_of params) inside x
        (from_expr (And V (names_of params)) (names_of params ++ inside) body x f.2 h))
        (from_group V inside rest x f.3)

    pub from_expr : (V : ℕ → Type 0) (inside : List ℕ) (e : Expr) (x : ℕ) → Fits V e
        → Among (uses inside e) x → IsUsed V inside x
    from_expr V inside (App head args) x f h = split x (uses_term inside head)
        (uses_terms inside args) h (from_term V inside head x f.0) (from_terms V inside args x f.1)
    from_expr V inside (Let group body) x f h =
        let names = names_of (binders_of group) in
        split x (uses_group (names ++ inside) group) (uses (names ++ inside) body) h
        (λ h. outside V names inside x (from_group (And V names) (names ++ inside) group x f.1 h))
        (λ h. outside V names inside x (from_expr (And V names) (names ++ inside) body x f.2 h))
    from_expr V inside (Case tested alts) x f h = split x (uses inside tested)
        (uses_alts inside alts) h (from_expr V inside tested x f.0) (from_alts V inside alts x f.1)

    from_alts : (V : ℕ → Type 0) (inside : List ℕ) (alts : Alts) (x : ℕ) → FitsAlts V alts
        → Among (uses_alts inside alts) x → IsUsed V inside x
    from_alts V inside NoAlts x f h = absurd cc
    from_alts V inside (AndAlt p body rest) x f h =
        let names = names_of (bound_by p) in
        split x (uses (names ++ inside) body) (uses_alts inside rest) h
        (λ h. outside V names inside x (from_expr (And V names) (names ++ inside) body x f.1 h))
        (from_alts V inside rest x f.2)

-- ---- filtered, and each once

among_filtered_by : (g : ℕ → Bool) (x y : ℕ) (ys : List ℕ) (b : Bool) → g y ≡ b
    → Among (filter g ys) x → Among (if b then y ∷ filter g ys else filter g ys) x
among_filtered_by g x y ys true e h = among_later x y (filter g ys) h
among_filtered_by g x y ys false e h = h

pub among_filter : (g : ℕ → Bool) (x : ℕ) (ys : List ℕ) → Among ys x → g x ≡ true
    → Among (filter g ys) x
among_filter g x [] h e = h
among_filter g x (y ∷ ys) h e = by (or_cases (nat_eq x y) (is_among x ys) h)
    (λ a. among_filter g x ys a e)
  where
    here : (b : Bool) → g y ≡ b → x ≡ y → Among (if b then y ∷ filter g ys else filter g ys) x
    here true i s = or_left (nat_eq x y) (is_among x (filter g ys))
        (ap (nat_eq x) (sym s) ∙ eq_self x)
    here false i s = not_both false (sym i ∙ ap g (sym s) ∙ e) refl

    by : (nat_eq x y ≡ true) ⊎ Among ys x → (Among ys x → Among (filter g ys) x)
        → Among (filter g (y ∷ ys)) x
    by (inl s) later = here (g y) refl (eq_from x y s)
    by (inr a) later = among_filtered_by g x y ys (g y) refl (later a)

pub filter_among : (g : ℕ → Bool) (x : ℕ) (ys : List ℕ) → Among (filter g ys) x → Among ys x
    × (g x ≡ true)
filter_among g x [] h = absurd cc
filter_among g x (y ∷ ys) h = by (g y) refl h (λ a. filter_among g x ys a)
  where
    cases : g y ≡ true → (nat_eq x y ≡ true) ⊎ Among (filter g ys) x
        → (Among (filter g ys) x → Among ys x × (g x ≡ true)) → Among (y ∷ ys) x × (g x ≡ true)
    cases e (inl s) later = (or_left (nat_eq x y) (is_among x ys) s, ap g (eq_from x y s) ∙ e)
    cases e (inr a) later = let r = later a in (among_later x y ys r.0, r.1)

    by : (b : Bool) → g y ≡ b → Among (if b then y ∷ filter g ys else filter g ys) x
        → (Among (filter g ys) x → Among ys x × (g x ≡ true)) → Among (y ∷ ys) x × (g x ≡ true)
    by true e k later = cases e (or_cases (nat_eq x y) (is_among x (filter g ys)) k) later
    by false e k later = let r = later k in (among_later x y ys r.0, r.1)

pub among_first_times : (x : ℕ) (ys : List ℕ) → Among ys x → Among (without_repeats ys) x
among_first_times x [] h = h
among_first_times x (y ∷ ys) h = by (nat_eq x y) refl (λ a. among_first_times x ys a)
  where
    other : (nat_eq x y ≡ true) ⊎ Among ys x → nat_eq x y ≡ false → Among ys x
    other (inl s) e = not_both (nat_eq x y) s e
    other (inr a) e = a

    by : (b : Bool) → nat_eq x y ≡ b → (Among ys x → Among (without_repeats ys) x)
        → (nat_eq x y || is_among x (filter (λ z. not (nat_eq z y)) (without_repeats ys))) ≡ true
    by true e later = or_left (nat_eq x y) _ e
    by false e later = or_right (nat_eq x y) _
        (among_filter (λ z. not (nat_eq z y)) x (without_repeats ys)
        (later (other (or_cases (nat_eq x y) (is_among x ys) h) e)) (ap not e))

pub first_times_among : (x : ℕ) (ys : List ℕ) → Among (without_repeats ys) x → Among ys x
first_times_among x [] h = h
first_times_among x (y ∷ ys) h = by
    (or_cases (nat_eq x y) (is_among x (filter (λ z. not (nat_eq z y)) (without_repeats ys))) h)
    (λ a. first_times_among x ys a)
  where
    by : (nat_eq x y ≡ true) ⊎ Among (filter (λ z. not (nat_eq z y)) (without_repeats ys)) x
        → (Among (without_repeats ys) x → Among ys x) → Among (y ∷ ys) x
    by (inl s) later = or_left (nat_eq x y) (is_among x ys) s
    by (inr a) later = among_later x y ys
        (later (filter_among (λ z. not (nat_eq z y)) x (without_repeats ys) a).0)
