-- Rows of a text and equations on their way that stand for them, where places have become locals:
-- both
-- become the same where a value of a head stands at a place.
use Rattle.std.proofs.Common.{◌≡◌, ℕ, suc, Bool, true, false, cond, List, [], ◌∷◌, ◌++◌, map, length, Option, Some, None, refl, sym, ap, ◌∙◌, subst, arith}
use Rattle.std.specs.Prelude.{◌==◌, ℤ, pos, negsuc}
use Rattle.std.specs.Ordering.{int_eq}
use Rattle.seq.specs.Lists.{AllOf, In}
use Rattle.seq.proofs.Lists.{map_push, map_append, length_map, all_append, some_is}
use Rattle.seq.proofs.Order.{eq_true, eq_false, eq_from, differs_from}
use Rattle.core_reader.specs.declared.syntax.Binder.{Binder}
use Rattle.core_reader.specs.Tree.{Expr}
use Rattle.arity_check.specs.Program as normal
use Rattle.arity_check.specs.Scope.{con_number}
use Rattle.arity_check.specs.Normal.{Pairwise}
use Rattle.core_meaning.specs.Heap as heap
use Rattle.core_meaning.specs.Heap.{Value}
use Rattle.core_meaning.specs.Evaluation as core
use Rattle.match_compile.specs.Source.{Pat, Name, Int, Con, Pats, NoPats, AndPat, Source}
use Rattle.match_compile.specs.Parts.{count, names_in}
use Rattle.match_compile.specs.Heads.{Head, Integer, Constructor, same_head}
use Rattle.match_compile.specs.Trees as tree
use Rattle.match_compile.specs.Trees.{PendingPattern, head_of, pending_patterns_at, fields_of, test_at, special_by, specialised_row, specialised, opened, later}
use Rattle.match_compile.specs.Form.{Form, Forms, NoForms, AndForm, program_of_heads, IsForm, OfName, OfInt, OfCon, AreForms, NoneOf, OneOf}
use Rattle.match_compile.specs.Jobs as tries
use Rattle.match_compile.specs.Jobs.{MatchTask, MatchAttempt, attempt, tasks_of, kept_by, decided_by, known_first, attempts_with_value}
use Rattle.match_compile.specs.Decides as decides
use Rattle.match_compile.specs.Decides.{with_names_bound, settled}
use Rattle.match_compile.proofs.RowPlaces.{job_names, bound_names, names_append, names_at, bound_names_last}

pub pairs_both : {X Y : Type 0} (R : X → Y → Type 0) (xs xs' : List X) (ys ys' : List Y)
    → Pairwise R xs ys → Pairwise R xs' ys' → Pairwise R (xs ++ xs') (ys ++ ys')
pairs_both R [] xs' [] ys' h g = g
pairs_both R [] xs' (y ∷ ys) ys' h g = absurd h
pairs_both R (x ∷ xs) xs' [] ys' h g = absurd h
pairs_both R (x ∷ xs) xs' (y ∷ ys) ys' h g = (h.0, pairs_both R xs xs' ys ys' h.1 g)

-- as many forms as patterns
forms_count : (c : Source) {ps : Pats} {fs : Forms} → AreForms c ps fs → tries.count fs ≡ count ps
forms_count c NoneOf = refl
forms_count c (OneOf is rest) = ap suc (forms_count c rest)

-- B says which body in normal form stands for a body of the text, in an equation that binds these
-- names.
-- Constructors have so many fields.
module _ (c : Source) (B : Expr → List Binder → normal.Term → Type 0) (many : ℕ → ℕ) where
  -- a pattern at a place is a form at its local
  abbrev pub JobAs : (ℕ → ℕ) → PendingPattern → MatchTask → Type 0
  JobAs loc j k = (k.0 ≡ loc j.0) × IsForm c j.1 k.1

  abbrev pub JobsAs : (ℕ → ℕ) → List PendingPattern → List MatchTask → Type 0
  JobsAs loc = Pairwise (JobAs loc)

  -- each form has as many fields as its constructor
  abbrev pub TasksFit : List MatchTask → Type 0
  TasksFit = AllOf (λ (k : MatchTask). decides.FormOk many k.1)

  -- the names that a row binds
  abbrev pub names_left : List (Binder × ℕ) → List PendingPattern → List Binder
  names_left bound jobs = bound_names bound ++ job_names jobs

  abbrev pub locals : (ℕ → ℕ) → List (Binder × ℕ) → List ℕ
  locals loc bound = map (λ b. loc b.1) bound

  -- U are the places that are in scope
  pub record RowAs (U : ℕ → Type 0) (loc : ℕ → ℕ) (r : tree.Row) (a : MatchAttempt) : Type 0 where
    pub body : B r.body (names_left r.bound r.jobs) a.body
    pub bound : a.bound ≡ locals loc r.bound
    pub tasks : JobsAs loc r.jobs a.tasks
    pub begins : tree.BeginsWithTest r.jobs
    pub bound_used : AllOf (λ b. U b.1) r.bound
    pub jobs_used : AllOf (λ j. U j.0) r.jobs
    pub fits : TasksFit a.tasks

  bound_more : (loc : ℕ → ℕ) (bound : List (Binder × ℕ)) (bound' : List ℕ) (b : Binder) (p x : ℕ)
      → bound' ≡ locals loc bound → x ≡ loc p → bound' ++ x ∷ [] ≡ locals loc (bound ++ (b, p) ∷ [])
  bound_more loc bound bound' b p x e f = (λ i. e i ++ f i ∷ []) ∙ sym
      (map_push (λ (w : Binder × ℕ). loc w.1) bound (b, p))

  first_as : (U : ℕ → Type 0) (loc : ℕ → ℕ) (body : Expr) (term : normal.Term)
      (bound : List (Binder × ℕ)) (bound' : List ℕ) (p x : ℕ) (js : List PendingPattern)
      (ks : List MatchTask) (pat : Pat) (f : Form) → IsForm c pat f
      → B body (names_left bound ((p, pat) ∷ js)) term → bound' ≡ locals loc bound → x ≡ loc p
      → JobsAs loc js ks
      → AllOf (λ b. U b.1) bound → U p → AllOf (λ j. U j.0) js → TasksFit ((x, f) ∷ ks)
      → ((b : Binder) → B body (names_left (bound ++ (b, p) ∷ []) js) term
      → RowAs U loc (tree.settled body (bound ++ (b, p) ∷ []) js)
      (with_names_bound term (bound' ++ x ∷ []) ks))
      → RowAs U loc (tree.settled body bound ((p, pat) ∷ js))
      (with_names_bound term bound' ((x, f) ∷ ks))
  first_as U loc body term bound bound' p x js ks pat f (OfName {b = name}) b e i h u up v fit rest
      = rest name
      (subst (λ w. B body w term) (sym (bound_names_last bound name p (job_names js))) b)
  first_as U loc body term bound bound' p x js ks pat f (OfInt {k = k}) b e i h u up v fit rest
      = record {
        body = b;
        bound = e;
        tasks = ((i, OfInt), h);
        begins
            = (Integer k, refl);
        bound_used = u;
        jobs_used = (up, v);
        fits = fit;
      }
  first_as U loc body term bound bound' p x js ks pat f (OfCon {b = con} known forms) b e i h u up v
      fit rest = record {
        body = b;
        bound = e;
        tasks = ((i, OfCon known forms), h);
        begins
            = (Constructor con.name.0, refl);
        bound_used = u;
        jobs_used = (up, v);
        fits = fit;
      }

  pub settled_as : (U : ℕ → Type 0) (loc : ℕ → ℕ) (body : Expr) (term : normal.Term)
      (bound : List (Binder × ℕ)) (bound' : List ℕ) (jobs : List PendingPattern)
      (tasks : List MatchTask) → B body (names_left bound jobs) term → bound' ≡ locals loc bound
      → JobsAs loc jobs tasks
      → AllOf (λ b. U b.1) bound → AllOf (λ j. U j.0) jobs → TasksFit tasks
      → RowAs U loc (tree.settled body bound jobs) (with_names_bound term bound' tasks)
  settled_as U loc body term bound bound' [] [] b e h u v fit
      = record {
        body = b;
        bound = e;
        tasks = tt;
        begins = tt;
        bound_used = u;
        jobs_used = tt;
        fits
            = tt;
      }
  settled_as U loc body term bound bound' [] (k ∷ ks) b e h u v fit = absurd h
  settled_as U loc body term bound bound' (j ∷ js) [] b e h u v fit = absurd h
  settled_as U loc body term bound bound' ((p, pat) ∷ js) ((x, f) ∷ ks) b e h u v fit =
      first_as U loc body term bound bound' p x js ks pat f h.0.1 b e h.0.0 h.1 u v.0 v.1 fit
      (λ name b. settled_as U loc body term (bound ++ (name, p) ∷ []) (bound' ++ x ∷ []) js ks b
      (bound_more loc bound bound' name p x e h.0.0) h.1
      (all_append (λ b. U b.1) bound ((name, p) ∷ []) u (v.0, tt)) v.1 fit.1)

  pub fields_as : (loc : ℕ → ℕ) (places : List ℕ) (ps : Pats) (fs : Forms) → AreForms c ps fs
      → JobsAs loc (pending_patterns_at places ps) (tasks_of (map loc places) fs)
  fields_as loc places ps fs NoneOf = tt
  fields_as loc [] ps fs (OneOf is rest) = tt
  fields_as loc (p ∷ places) ps fs (OneOf is rest) = ((refl, is), fields_as loc places _ _ rest)

  pub fields_fit : (xs : List ℕ) (fs : Forms) → decides.FormsOk many fs → TasksFit (tasks_of xs fs)
  fields_fit xs NoForms h = tt
  fields_fit [] (AndForm f fs) h = tt
  fields_fit (x ∷ xs) (AndForm f fs) h = (h.0, fields_fit xs fs h.1)

  pub fields_used : (U : ℕ → Type 0) (places : List ℕ) (ps : Pats) → AllOf U places
      → AllOf (λ j. U j.0) (pending_patterns_at places ps)
  fields_used U places NoPats h = tt
  fields_used U [] (AndPat p ps) h = tt
  fields_used U (q ∷ places) (AndPat p ps) h = (h.0, fields_used U places ps h.1)

  -- ---- other locals for the same places

  locals_same : (U : ℕ → Type 0) (loc loc' : ℕ → ℕ) → ((q : ℕ) → U q → loc' q ≡ loc q)
      → (bound : List (Binder × ℕ)) → AllOf (λ b. U b.1) bound
      → locals loc bound ≡ locals loc' bound
  locals_same U loc loc' s [] h = refl
  locals_same U loc loc' s (b ∷ bs) h = λ i. sym (s b.1 h.0) i ∷ locals_same U loc loc' s bs h.1 i

  jobs_same : (U : ℕ → Type 0) (loc loc' : ℕ → ℕ) → ((q : ℕ) → U q → loc' q ≡ loc q)
      → (js : List PendingPattern) (ks : List MatchTask) → AllOf (λ j. U j.0) js → JobsAs loc js ks
      → JobsAs loc' js ks
  jobs_same U loc loc' s [] [] u h = tt
  jobs_same U loc loc' s [] (k ∷ ks) u h = absurd h
  jobs_same U loc loc' s (j ∷ js) [] u h = absurd h
  jobs_same U loc loc' s (j ∷ js) (k ∷ ks) u h =
      ((h.0.0 ∙ sym (s j.0 u.0), h.0.1), jobs_same U loc loc' s js ks u.1 h.1)

  used_more : {X : Type 0} (U U' : ℕ → Type 0) (place : X → ℕ) → ((q : ℕ) → U q → U' q)
      → (xs : List X) → AllOf (λ x. U (place x)) xs → AllOf (λ x. U' (place x)) xs
  used_more U U' place m [] h = tt
  used_more U U' place m (x ∷ xs) h = (m (place x) h.0, used_more U U' place m xs h.1)

  -- a value of the head, whose fields are these locals
  pub data ValueAs : Head → List ℕ → Value → Type 0 where
    AsInteger : {k : ℤ} {xs : List ℕ} → ValueAs (Integer k) xs (heap.Int k)
    AsConstructor : {d number : ℕ} {xs : List ℕ} → con_number (program_of_heads c) d ≡ Some number
        → length xs ≡ many number → ValueAs (Constructor d) xs (heap.Con number xs)

  -- constructors with the same number have the same name
  abbrev pub OneName : Type 0
  OneName = (d e n : ℕ) → con_number (program_of_heads c) d ≡ Some n
      → con_number (program_of_heads c) e ≡ Some n → d ≡ e

  same_ints : (k j : ℤ) → int_eq k j ≡ core.is_int {F = ℕ} k (heap.Int j)
  same_ints (pos a) (pos b) = by (int_eq (pos a) (pos b)) (a == b) refl refl
    where
      by : (t t' : Bool) → int_eq (pos a) (pos b) ≡ t → (a == b) ≡ t' → t ≡ t'
      by true true i j = refl
      by false false i j = refl
      by true false i j = let e : pos a ≡ pos b = grind (i, arith) in let f : a ≡ b = cc
          in absurd (differs_from a b j f)
      by false true i j = let e : a ≡ b = eq_from a b j in grind (i, e, arith)
  same_ints (pos a) (negsuc b) = refl
  same_ints (negsuc a) (pos b) = refl
  same_ints (negsuc a) (negsuc b) = by (int_eq (negsuc a) (negsuc b)) (a == b) refl refl
    where
      by : (t t' : Bool) → int_eq (negsuc a) (negsuc b) ≡ t → (a == b) ≡ t' → t ≡ t'
      by true true i j = refl
      by false false i j = refl
      by true false i j = let e : negsuc a ≡ negsuc b = grind (i, arith) in let f : a ≡ b = cc
          in absurd (differs_from a b j f)
      by false true i j = let e : a ≡ b = eq_from a b j in grind (i, e, arith)

  same_cons : OneName → (d e n m : ℕ) → con_number (program_of_heads c) d ≡ Some n
      → con_number (program_of_heads c) e ≡ Some m → (d == e) ≡ (m == n)
  same_cons one d e n m f g = by (d == e) (m == n) refl refl
    where
      by : (b b' : Bool) → (d == e) ≡ b → (m == n) ≡ b' → b ≡ b'
      by true true i j = refl
      by false false i j = refl
      by true false i j =
          let same : ◌≡◌ {A = Option ℕ} (Some n) (Some m)
          = sym f ∙ ap (con_number (program_of_heads c)) (eq_from d e i) ∙ g in
          absurd (differs_from m n j (sym (some_is same)))
      by false true i j =
          absurd (differs_from d e i (one d e n f (g ∙ ap (λ z. Some z) (eq_from m n j))))

  -- ---- rows at a place

  again : (r : tree.Row) (jobs : List PendingPattern) → r.jobs ≡ jobs → tree.BeginsWithTest jobs
      → tree.settled r.body r.bound jobs ≡ r
  again r [] e s = λ i. tree.row r.body r.bound (sym e i)
  again r ((p, Name b) ∷ js) e s = absurd cc
  again r ((p, Int k at) ∷ js) e s = λ i. tree.row r.body r.bound (sym e i)
  again r ((p, Con d ps) ∷ js) e s = λ i. tree.row r.body r.bound (sym e i)

  module _ (one : OneName) (U U' : ℕ → Type 0) (loc loc' : ℕ → ℕ)
      (same : (q : ℕ) → U q → loc' q ≡ loc q) (more : (q : ℕ) → U q → U' q) (places : List ℕ)
      (new : AllOf U' places) (p : ℕ) (once : (q : ℕ) → U q → loc q ≡ loc p → q ≡ p)
      (h : Head) (v : Value) (value : ValueAs h (map loc' places) v) where
    stays_as : (r : tree.Row) (a : MatchAttempt) → RowAs U loc r a → RowAs U' loc' r (settled a)
    stays_as r a is =
        subst (λ z. RowAs U' loc' z (settled a)) (again r r.jobs refl is.begins)
        (settled_as U' loc' r.body a.body r.bound a.bound r.jobs a.tasks is.body
        (is.bound ∙ locals_same U loc loc' same r.bound is.bound_used)
        (jobs_same U loc loc' same r.jobs a.tasks is.jobs_used is.tasks)
        (used_more U U' (λ (b : Binder × ℕ). b.1) more r.bound is.bound_used)
        (used_more U U' (λ (j : PendingPattern). j.0) more r.jobs is.jobs_used) is.fits)

    by_kept : (b b' : Bool) (r : tree.Row) (x : MatchAttempt) → b ≡ b'
        → (b ≡ true → RowAs U' loc' r (settled x)) → Pairwise (RowAs U' loc') (special_by b r)
        (map settled (kept_by b' x))
    by_kept true true r x e g = (g refl, tt)
    by_kept true false r x e g = absurd cc
    by_kept false true r x e g = absurd cc
    by_kept false false r x e g = tt

    int_heads : (k : ℤ) {g : Head} {xs : List ℕ} {w : Value} → ValueAs g xs w
        → same_head (Integer k) g ≡ core.is_int k w
    int_heads k (AsInteger {k = j}) = same_ints k j
    int_heads k (AsConstructor known long) = refl

    -- the row goes on with what is behind its test
    opens : (r : tree.Row) (a : MatchAttempt) (j : PendingPattern) (js : List PendingPattern)
        (ks : List MatchTask) (pat : Pat) (fs : Forms) → RowAs U loc r a → r.jobs ≡ j ∷ js
        → j.1 ≡ pat → AllOf (λ j. U j.0) js → JobsAs loc js ks → AreForms c (fields_of pat) fs
        → TasksFit ks → decides.FormsOk many fs → job_names
        (pending_patterns_at places (fields_of pat)) ≡ names_in pat
        → RowAs U' loc' (opened r pat places)
        (settled (attempt a.body a.bound (tasks_of (map loc' places) fs ++ ks)))
    opens r a j js ks pat fs is e at used rest forms fit fields named =
        let before : job_names r.jobs ≡ names_in pat ++ job_names js
        = ap job_names e ∙ ap (λ z. names_in z ++ job_names js) at in
        let behind : job_names (pending_patterns_at places (fields_of pat) ++ js) ≡ names_in pat
        ++ job_names js = names_append (pending_patterns_at places (fields_of pat)) js ∙ ap
        (λ w. w ++ job_names js) named in
        let body : B r.body (names_left r.bound (pending_patterns_at places (fields_of pat) ++ js))
        a.body = subst (λ w. B r.body (bound_names r.bound ++ w) a.body) (before ∙ sym behind)
        is.body in
        subst (λ z. RowAs U' loc'
        (tree.settled r.body r.bound (pending_patterns_at places (fields_of pat) ++ z))
        (settled (attempt a.body a.bound (tasks_of (map loc' places) fs ++ ks))))
        (sym (ap later e))
        (settled_as U' loc' r.body a.body r.bound a.bound
        (pending_patterns_at places (fields_of pat) ++ js) (tasks_of (map loc' places) fs ++ ks)
        body (is.bound ∙ locals_same U loc loc' same r.bound is.bound_used)
        (pairs_both (JobAs loc') (pending_patterns_at places (fields_of pat)) js
        (tasks_of (map loc' places) fs) ks (fields_as loc' places (fields_of pat) fs forms)
        (jobs_same U loc loc' same js ks used rest))
        (used_more U U' (λ (b : Binder × ℕ). b.1) more r.bound is.bound_used)
        (all_append (λ j. U' j.0) (pending_patterns_at places (fields_of pat)) js
        (fields_used U' places (fields_of pat) new)
        (used_more U U' (λ (j : PendingPattern). j.0) more js used))
        (all_append (λ (k : MatchTask). decides.FormOk many k.1) (tasks_of (map loc' places) fs) ks
        (fields_fit (map loc' places) fs fields) fit))

    test_as : (r : tree.Row) (a : MatchAttempt) (j : PendingPattern) (js : List PendingPattern)
        (ks : List MatchTask) (pat : Pat) (f : Form) → RowAs U loc r a → r.jobs ≡ j ∷ js → j.1 ≡ pat
        → AllOf (λ j. U j.0) js → JobsAs loc js ks → tree.BeginsWithTest ((p, pat) ∷ js)
        → TasksFit ks → decides.FormOk many f → IsForm c pat f
        → Pairwise (RowAs U' loc') (specialised_row (Some pat) h places r)
        (map settled (decided_by v a f ks))
    test_as r a j js ks pat f is e at used rest begins fit form OfName = absurd (no_head begins.1)
      where
        no_head : {g : Head} → ◌≡◌ {A = Option Head} None (Some g) → ⊥
        no_head e = absurd cc
    test_as r a j js ks pat f is e at used rest begins fit form (OfInt {k = k} {at = place}) =
        by_kept (same_head (Integer k) h) (core.is_int k v) (opened r (Int k place) places)
        (attempt a.body a.bound ks) (int_heads k value)
        (λ _. opens r a j js ks (Int k place) NoForms is e at used rest NoneOf fit tt refl)
    test_as r a j js ks pat f is e at used rest begins fit form
        (OfCon {b = b} {ps = ps} {fs = fs} {n = n} known forms) = of_con value
      where
        of_con : {g : Head} {w : Value} → ValueAs g (map loc' places) w
            → Pairwise (RowAs U' loc')
            (special_by (same_head (Constructor b.name.0) g) (opened r (Con b ps) places))
            (map settled
            (kept_by (core.is_con n w)
            (attempt a.body a.bound (tasks_of (core.fields_of w) fs ++ ks))))
        of_con AsInteger = tt
        of_con (AsConstructor {d = d} {number = m} other long) =
            by_kept (b.name.0 == d) (m == n) (opened r (Con b ps) places)
            (attempt a.body a.bound (tasks_of (map loc' places) fs ++ ks))
            (same_cons one b.name.0 d n m known other)
            (λ q.
            let number : n ≡ m = some_is
            (sym known ∙ ap (con_number (program_of_heads c)) (eq_from b.name.0 d q) ∙ other) in
            let len : length places ≡ count ps = sym (length_map loc' places) ∙ long ∙ ap many
            (sym number) ∙ sym form.0 ∙ forms_count c forms in
            opens r a j js ks (Con b ps) fs is e at used rest forms fit form.1
            (names_at places ps len))

    special_as : (r : tree.Row) (a : MatchAttempt) → RowAs U loc r a
        → (jobs : List PendingPattern) (tasks : List MatchTask) → r.jobs ≡ jobs → a.tasks ≡ tasks
        → JobsAs loc jobs tasks → tree.BeginsWithTest jobs → AllOf (λ j. U j.0) jobs
        → TasksFit tasks
        → Pairwise (RowAs U' loc') (specialised_row (test_at p jobs) h places r)
        (map settled (known_first (loc p) v a tasks))
    special_as r a is [] [] e f js s u fit = (stays_as r a is, tt)
    special_as r a is [] (k ∷ ks) e f js s u fit = absurd js
    special_as r a is (j ∷ js) [] e f hs s u fit = absurd hs
    special_as r a is (j ∷ js) (k ∷ ks) e f hs s u fit = by (j.0 == p) refl
      where
        by : (b : Bool) → (j.0 == p) ≡ b → Pairwise (RowAs U' loc')
            (specialised_row (cond b (Some j.1) None) h places r)
            (map settled (cond (k.0 == loc p) (decided_by v a k.1 ks) (a ∷ [])))
        by true at =
            let here : j.0 ≡ p = eq_from j.0 p at in
            subst (λ w. Pairwise (RowAs U' loc') (specialised_row (Some j.1) h places r)
            (map settled (cond w (decided_by v a k.1 ks) (a ∷ []))))
            (sym (eq_true k.0 (loc p) (hs.0.0 ∙ ap loc here)))
            (test_as r a j js ks j.1 k.1 is e refl u.1 hs.1 s fit.1 fit.0 hs.0.1)
        by false apart =
            subst (λ w. Pairwise (RowAs U' loc') (specialised_row None h places r)
            (map settled (cond w (decided_by v a k.1 ks) (a ∷ []))))
            (sym (eq_false k.0 (loc p)
            (λ i. differs_from j.0 p apart (once j.0 u.0 (sym hs.0.0 ∙ i)))))
            (stays_as r a is, tt)

    -- the rows that a value of the head leaves stand for what the equations become
    pub rows_special : (rs : List tree.Row) (as' : List MatchAttempt)
        → Pairwise (RowAs U loc) rs as' → Pairwise (RowAs U' loc') (specialised p h places rs)
        (map settled (attempts_with_value (loc p) v as'))
    rows_special [] [] g = tt
    rows_special [] (a ∷ as') g = absurd g
    rows_special (r ∷ rs) [] g = absurd g
    rows_special (r ∷ rs) (a ∷ as') g =
        subst (λ z. Pairwise (RowAs U' loc') (specialised p h places (r ∷ rs)) z)
        (sym (map_append settled (known_first (loc p) v a a.tasks)
        (attempts_with_value (loc p) v as')))
        (pairs_both (RowAs U' loc') (specialised_row (test_at p r.jobs) h places r)
        (specialised p h places rs) (map settled (known_first (loc p) v a a.tasks))
        (map settled (attempts_with_value (loc p) v as'))
        (special_as r a g.0 r.jobs a.tasks refl refl g.0.tasks g.0.begins g.0.jobs_used g.0.fits)
        (rows_special rs as' g.1))

  -- ---- rows that are left over

  -- what a head accepts, by the constructor's number
  pub data KindAs : Head → decides.TestKind → Type 0 where
    SameInteger : {k : ℤ} → KindAs (Integer k) (decides.Integer k)
    SameConstructor : {d n : ℕ} → con_number (program_of_heads c) d ≡ Some n
        → KindAs (Constructor d) (decides.Constructor n)

  pub record FirstTest (loc : ℕ → ℕ) (p : ℕ) (pat : Pat) (a : MatchAttempt) : Type 0 where
    pub form : Form
    pub rest : List MatchTask
    pub is : a.tasks ≡ (loc p, form) ∷ rest
    pub form_is : IsForm c pat form

  pub first_test : (loc : ℕ → ℕ) (p : ℕ) (pat : Pat) (a : MatchAttempt) (jobs : List PendingPattern)
      (tasks : List MatchTask) → a.tasks ≡ tasks → JobsAs loc jobs tasks → test_at p jobs ≡ Some pat
      → FirstTest loc p pat a
  first_test loc p pat a [] tasks e h t = absurd cc
  first_test loc p pat a (j ∷ js) [] e h t = absurd h
  first_test loc p pat a (j ∷ js) (k ∷ ks) e h t = by (j.0 == p) refl t
    where
      by : (b : Bool) → (j.0 == p) ≡ b → cond b (Some j.1) None ≡ Some pat → FirstTest loc p pat a
      by false i t = absurd cc
      by true i t = record {
        form = k.1;
        rest = ks;
        is = e ∙ ap (λ (z : ℕ). (z, k.1) ∷ ks) (h.0.0 ∙ ap loc (eq_from j.0 p i));
        form_is = subst (λ z. IsForm c z k.1) (some_is t) h.0.1;
      }

  pub record KindFound (f : Form) (g : Head) : Type 0 where
    pub kind : decides.TestKind
    pub is : decides.IsTestOfKind f kind
    pub stands : KindAs g kind

  pub kind_found : {pat : Pat} {f : Form} (g : Head) → IsForm c pat f → head_of pat ≡ Some g
      → KindFound f g
  kind_found g OfName e = absurd cc
  kind_found g (OfInt {k = k}) e = record {
    kind = decides.Integer k;
    is = refl;
    stands
        = subst (λ z. KindAs z (decides.Integer k)) (some_is e) SameInteger;
  }
  kind_found g (OfCon {b = b} {n = n} known forms) e
      = record {
        kind = decides.Constructor n;
        is = refl;
        stands
            = subst (λ z. KindAs z (decides.Constructor n)) (some_is e) (SameConstructor known);
      }

  pub record LeftAs (U : ℕ → Type 0) (loc : ℕ → ℕ) (y : ℕ) (seen : List decides.TestKind)
      (left : List tree.Row) (as' : List MatchAttempt) : Type 0 where
    pub others : List MatchAttempt
    pub are : decides.AttemptsLeftOver y seen as' others
    pub stand : Pairwise (RowAs U loc) left others

  -- the kinds that were seen are those of the branches
  abbrev pub SeenAll : tree.Branches → List decides.TestKind → Type 0
  SeenAll bs seen = (g : Head) (k : decides.TestKind) → tree.has_head g bs ≡ true → KindAs g k
      → In k seen

  pub leaves_as : (U : ℕ → Type 0) (loc : ℕ → ℕ) (p : ℕ) (bs : tree.Branches)
      (seen : List decides.TestKind) → SeenAll bs seen → {rs left : List tree.Row}
      → tree.LeftForDefault p bs rs left → (as' : List MatchAttempt) → Pairwise (RowAs U loc) rs as'
      → LeftAs U loc (loc p) seen left as'
  leaves_as U loc p bs seen all tree.NoneLeft [] g = record
      { others = []; are = decides.NoneLeft; stand = tt }
  leaves_as U loc p bs seen all tree.NoneLeft (a ∷ as') g = absurd g
  leaves_as U loc p bs seen all (tree.Stays l) [] g = absurd g
  leaves_as U loc p bs seen all (tree.Stays l) (a ∷ as') g =
      let m = leaves_as U loc p bs seen all l as' g.1 in
      record { others = a ∷ m.others; are = decides.Stays m.are; stand = (g.0, m.stand) }
  leaves_as U loc p bs seen all (tree.Leads goes l) [] g = absurd g
  leaves_as U loc p bs seen all (tree.Leads {r = r} goes l) (a ∷ as') g =
      let m = leaves_as U loc p bs seen all l as' g.1 in
      let t = first_test loc p goes.pat a r.jobs a.tasks refl g.0.tasks goes.test in
      let k = kind_found goes.head t.form_is goes.is_head in
      record {
        others = m.others;
        are = decides.Goes t.form t.rest k.kind t.is k.is
            (all goes.head k.kind goes.known k.stands) m.are;
        stand = m.stand;
      }
