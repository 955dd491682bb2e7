-- Jobs that are kept with the first one last.
use Rattle.std.proofs.Common.{◌≡◌, ℕ, zero, suc, ◌+◌, ◌<◌, ◌≤◌, List, [], ◌∷◌, ◌++◌, map, length, drop, get_or, refl, sym, ap, ◌∙◌, arith, Some, None}
use Rattle.std.proofs.lemmas.List.{reverse-append, drop_more, drop_all}
use denote.Ref.{Bor}
use Rattle.seq.specs.Lists.{numbers_from}
use Rattle.core_reader.specs.declared.syntax.Binder.{Binder}
use Rattle.core_reader.specs.Tree.{Expr}
use Rattle.match_compile.specs.declared.source.Pat as code
use Rattle.match_compile.specs.Source.{Pat, Name, Int, Con, Pats, NoPats, AndPat}
use Rattle.match_compile.specs.SourceOf.{pat_of, pats_of}
use Rattle.match_compile.specs.Trees.{PendingPattern, Row, row, pending_patterns_at, fields_of}
use Rattle.match_compile.specs.RowOf.{pending_pattern_of, pending, names_bound_row, row_with_field_places, test_of, first_of, name_of}
use Rattle.match_compile.proofs.PatOf.{pat_of-Name, pat_of-Int, pat_of-Con}
use Rattle.match_compile.proofs.Walks.{count_all}
use Rattle.match_compile.proofs.Inserted.{some_is}

abbrev pub CodeJob : Type 0
CodeJob = ℕ × Bor code.Pat

pub pending_more : (js : List CodeJob) (j : CodeJob)
    → pending (js ++ j ∷ []) ≡ pending_pattern_of j ∷ pending js
pending_more js j = ap (map pending_pattern_of) (reverse-append js (j ∷ []))

pub ruleset steps = (pat_of-Name, pat_of-Int, pat_of-Con, count_all)

is_named : (pat : Pat) (b : Binder) → name_of pat ≡ Some b → pat ≡ Name b
is_named (Name c) b e = ap Name (some_is c b e)
is_named (Int k at) b e = absurd cc
is_named (Con c ps) b e = absurd cc

-- a name is bound
pub bind_name : (bound : List (Binder × ℕ)) (js rest : List CodeJob) (p : ℕ) (pat : Bor code.Pat)
    (b : Binder) → js ≡ rest ++ (p, pat) ∷ [] → name_of (pat_of pat.now) ≡ Some b
    → names_bound_row (bound ++ (b, p) ∷ []) (pending rest) ≡ names_bound_row bound (pending js)
bind_name bound js rest p pat b is name =
    sym (ap (λ js. names_bound_row bound (pending js)) is ∙ ap (names_bound_row bound)
    (pending_more rest (p, pat)) ∙ ap (λ n. names_bound_row bound ((p, n) ∷ pending rest))
    (is_named (pat_of pat.now) b name))

settled_test : (bound : List (Binder × ℕ)) (p : ℕ) (pat : Pat) (js : List PendingPattern)
    → name_of pat ≡ None → names_bound_row bound ((p, pat) ∷ js) ≡
    (λ body. row body bound ((p, pat) ∷ js))
settled_test bound p (Name b) js is = absurd cc
settled_test bound p (Int k at) js is = refl
settled_test bound p (Con c ps) js is = refl

-- a test stays
pub stops_at : (bound : List (Binder × ℕ)) (js rest more : List CodeJob) (p : ℕ)
    (pat : Bor code.Pat) → js ≡ rest ++ (p, pat) ∷ [] → name_of (pat_of pat.now) ≡ None
    → more ≡ rest ++ (p, pat) ∷ [] → (λ body. row body bound (pending more)) ≡ names_bound_row bound
    (pending js)
stops_at bound js rest more p pat is test put =
    let first : pending (rest ++ (p, pat) ∷ []) ≡ (p, pat_of pat.now) ∷ pending rest
    = pending_more rest (p, pat) in
    ap (λ jobs body. row body bound (pending jobs)) put
    ∙ ap (λ jobs body. row body bound jobs) first
    ∙ sym (ap (λ js. names_bound_row bound (pending js)) is ∙ ap (names_bound_row bound) first ∙
    settled_test bound p (pat_of pat.now) (pending rest) test)

pub none_left : (bound : List (Binder × ℕ)) (js : List CodeJob) → js ≡ []
    → (λ body. row body bound (pending js)) ≡ names_bound_row bound (pending js)
none_left bound js is = ap (λ jobs body. row body bound (pending jobs)) is ∙ sym
    (ap (λ jobs. names_bound_row bound (pending jobs)) is)

-- the way behind its first pattern
pub way_opened : (bound : List (Binder × ℕ)) (js rest : List CodeJob) (p : ℕ) (pat : Bor code.Pat)
    (places : List ℕ) (jobs : List PendingPattern) → js ≡ rest ++ (p, pat) ∷ []
    → jobs ≡ pending_patterns_at places (fields_of (pat_of pat.now)) ++ pending rest
    → names_bound_row bound jobs ≡
    (λ body. row_with_field_places (row body bound (pending js)) places)
way_opened bound js rest p pat places jobs is e =
    ap (names_bound_row bound) e ∙ sym
    (ap (λ js body. row_with_field_places (row body bound js) places)
    (ap pending is ∙ pending_more rest (p, pat)))

abbrev all_at : List (Binder × ℕ) → List CodeJob → Expr → Row
all_at bound js body = row body bound (pending js)

abbrev opened_all : List (Binder × ℕ) → List ℕ → List CodeJob → Expr → Row
opened_all bound places js body = row_with_field_places (row body bound (pending js)) places

pub way_over : (bound : List (Binder × ℕ)) (js : List CodeJob) (places : List ℕ) → js ≡ []
    → all_at bound js ≡ opened_all bound places js
way_over bound js places is = ap (all_at bound) is ∙ sym (ap (opened_all bound places) is)

-- the test that comes next
pub first_is : (js rest : List CodeJob) (p : ℕ) (pat : Bor code.Pat) → js ≡ rest ++ (p, pat) ∷ []
    → test_of p (pat_of pat.now) ≡ first_of (pending js)
first_is js rest p pat is = sym (ap first_of (ap pending is ∙ pending_more rest (p, pat)))

-- ---- patterns at places, from the last one on

abbrev pub all_pats : List code.Pat → Pats
all_pats ps = pats_of (map pat_of ps)

jobs_nowhere : (ps : Pats) → pending_patterns_at [] ps ≡ []
jobs_nowhere NoPats = refl
jobs_nowhere (AndPat p ps) = refl

pub none_put : (places : List ℕ) (pats : List code.Pat) (n : ℕ) (js : List PendingPattern)
    → length pats ≤ n → pending_patterns_at (drop n places) (all_pats (drop n pats)) ++ js ≡ js
none_put places pats n js l = ap (λ ps. pending_patterns_at (drop n places) (all_pats ps) ++ js)
    (drop_all n pats l)

-- one more is put
pub one_put : (places : List ℕ) (pats : List code.Pat) (n p : ℕ) (pat : Bor code.Pat)
    (js : List CodeJob) (rest : List PendingPattern) → n < length places → n < length pats
    → p ≡ get_or places n p → pat.now ≡ get_or pats n pat.now
    → pending js ≡ pending_patterns_at (drop (n + 1) places) (all_pats (drop (n + 1) pats)) ++ rest
    → pending (js ++ (p, pat) ∷ []) ≡ pending_patterns_at (drop n places)
    (all_pats (drop n pats)) ++ rest
one_put places pats n p pat js rest a b place is ih =
    let at : drop n places ≡ p ∷ drop (n + 1) places
    = drop_more places n p a ∙ ap (λ x. x ∷ drop (n + 1) places) (sym place) in
    let of : drop n pats ≡ pat.now ∷ drop (n + 1) pats
    = drop_more pats n pat.now b ∙ ap (λ x. x ∷ drop (n + 1) pats) (sym is) in
    pending_more js (p, pat) ∙ ap (λ k. (p, pat_of pat.now) ∷ k) ih ∙ sym
    (λ i. pending_patterns_at (at i) (all_pats (of i)) ++ rest)

-- there is no place
pub none_there : (places : List ℕ) (ps qs : Pats) (n : ℕ) (rest : List PendingPattern)
    → length places ≤ n → pending_patterns_at (drop (n + 1) places) ps
    ++ rest ≡ pending_patterns_at (drop n places) qs ++ rest
none_there places ps qs n rest l =
    let one : pending_patterns_at (drop (n + 1) places) ps ≡ []
    = ap (λ x. pending_patterns_at x ps) (drop_all (n + 1) places (more l)) ∙ jobs_nowhere ps in
    let two : pending_patterns_at (drop n places) qs ≡ []
    = ap (λ x. pending_patterns_at x qs) (drop_all n places l) ∙ jobs_nowhere qs in
    ap (λ x. x ++ rest) (one ∙ sym two)
  where
    more : length places ≤ n → length places ≤ n + 1
    more l = omega (arith, l)

pub numbers_more : (n k m : ℕ) → m ≡ suc k → numbers_from n m ≡ numbers_from n k ++ (n + k) ∷ []
numbers_more n zero m e = ap (numbers_from n) e ∙ ap (λ i. i ∷ []) (none n)
  where
    none : (n : ℕ) → n ≡ n + 0
    none n = omega arith
numbers_more n (suc k) m e = ap (numbers_from n) e ∙ ap (λ ms. n ∷ ms)
    (numbers_more (suc n) k (suc k) refl ∙ ap (λ m. numbers_from (suc n) k ++ m ∷ []) (moved n k))
  where
    moved : (n k : ℕ) → suc n + k ≡ n + suc k
    moved n k = omega arith
