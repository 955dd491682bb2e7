-- The tree of tests that stands for the equations of a function, and how an equation goes into it.
use Rattle.std.specs.Prelude.{◌≡◌, ℕ, zero, suc, ◌+◌, ◌==◌, Bool, true, false, ◌||◌, cond, List, [], ◌∷◌, ◌++◌, Option, Some, None}
use Rattle.seq.specs.Lists.{numbers_from}
use Rattle.core_reader.specs.declared.syntax.Binder.{Binder}
use Rattle.core_reader.specs.Tree.{Expr}
use Rattle.match_compile.specs.Source.{Pat, Name, Int, Con, Pats, NoPats, AndPat}
use Rattle.match_compile.specs.Parts.{count, tests_in}
use Rattle.match_compile.specs.Heads.{Head, Integer, Constructor, same_head, same_kind}

-- a place is the number of a parameter or of a field; a job is a pattern that is still to be
-- matched at one
abbrev pub PendingPattern : Type 0
PendingPattern = ℕ × Pat

-- an equation by its body, the names that it has bound to places, and its jobs, of which the first
-- is no name
pub record Row : Type 0 where
  pub body : Expr
  pub bound : List (Binder × ℕ)
  pub jobs : List PendingPattern

abbrev pub row : Expr → List (Binder × ℕ) → List PendingPattern → Row
row body bound jobs = record { body = body; bound = bound; jobs = jobs }

-- names before the first test are bound
abbrev pub settled : Expr → List (Binder × ℕ) → List PendingPattern → Row
settled body bound [] = row body bound []
settled body bound ((p, Name b) ∷ js) = settled body (bound ++ (b, p) ∷ []) js
settled body bound ((p, Int k at) ∷ js) = row body bound ((p, Int k at) ∷ js)
settled body bound ((p, Con c ps) ∷ js) = row body bound ((p, Con c ps) ∷ js)

-- what a test accepts
abbrev pub head_of : Pat → Option Head
head_of (Name b) = None
head_of (Int k at) = Some (Integer k)
head_of (Con c ps) = Some (Constructor c.name.0)

-- the first job is a test
abbrev pub BeginsWithTest : List PendingPattern → Type 0
BeginsWithTest [] = Unit {0}
BeginsWithTest (j ∷ js) = (h : Head) × (head_of j.1 ≡ Some h)

-- patterns at places
abbrev pub pending_patterns_at : List ℕ → Pats → List PendingPattern
pending_patterns_at places NoPats = []
pending_patterns_at [] (AndPat pat ps) = []
pending_patterns_at (p ∷ places) (AndPat pat ps) = (p, pat) ∷ pending_patterns_at places ps

-- a place for each of these patterns, from n on
abbrev pub places_from : ℕ → Pats → List ℕ
places_from n ps = numbers_from n (count ps)

-- the patterns for the fields
abbrev pub fields_of : Pat → Pats
fields_of (Name b) = NoPats
fields_of (Int k at) = NoPats
fields_of (Con c ps) = ps

-- ---- trees

mutual
  -- the body of an equation, or a test at a place: a branch for each head that it knows, and a
  -- tree for all other values, or none
  pub data Tree : Type 0 where
    Body : (row : Row) → Tree
    Case : (place : ℕ) (branches : Branches) (default : Default) → Tree

  -- a branch has places for the fields
  pub data Branches : Type 0 where
    NoBranch : Branches
    AndBranch : (head : Head) (places : List ℕ) (tree : Tree) (rest : Branches) → Branches

  pub data Default : Type 0 where
    NoDefault : Default
    ATree : (tree : Tree) → Default

-- whether values may come that no equation in it accepts
abbrev mutual
  pub can_fail : Tree → Bool
  can_fail (Body r) = false
  can_fail (Case p bs o) = default_fails o || branches_fail bs

  pub branches_fail : Branches → Bool
  branches_fail NoBranch = false
  branches_fail (AndBranch h ps t bs) = can_fail t || branches_fail bs

  pub default_fails : Default → Bool
  default_fails NoDefault = true
  default_fails (ATree t) = can_fail t

-- how many cases stand one in the default of the other
abbrev pub chain : Tree → ℕ
chain (Body r) = 0
chain (Case p bs NoDefault) = 1
chain (Case p bs (ATree t)) = suc (chain t)

abbrev pub has_head : Head → Branches → Bool
has_head h NoBranch = false
has_head h (AndBranch g ps t bs) = same_head g h || has_head h bs

-- the first test of a row, where it is at a place
abbrev pub test_at : ℕ → List PendingPattern → Option Pat
test_at p [] = None
test_at p (j ∷ js) = cond (j.0 == p) (Some j.1) None

abbrev pub later : List PendingPattern → List PendingPattern
later [] = []
later (j ∷ js) = js

-- the row behind its first test, whose fields have these places
abbrev pub opened : Row → Pat → List ℕ → Row
opened r pat places =
    settled r.body r.bound (pending_patterns_at places (fields_of pat) ++ later r.jobs)

-- ---- which trees stand for rows

abbrev pub special_by : Bool → Row → List Row
special_by true r = r ∷ []
special_by false r = []

abbrev pub accepts : Option Head → Head → Bool
accepts None h = false
accepts (Some g) h = same_head g h

-- the row where a value of this head stands at a place with these places for its fields
abbrev pub specialised_row : Option Pat → Head → List ℕ → Row → List Row
specialised_row None h places r = r ∷ []
specialised_row (Some pat) h places r = special_by (accepts (head_of pat) h) (opened r pat places)

abbrev pub specialised : ℕ → Head → List ℕ → List Row → List Row
specialised p h places [] = []
specialised p h places (r ∷ rs) =
    specialised_row (test_at p r.jobs) h places r ++ specialised p h places rs

-- the row's first test is at the place, and a branch has its head
pub record Goes (p : ℕ) (bs : Branches) (r : Row) : Type 0 where
  pub pat : Pat
  pub test : test_at p r.jobs ≡ Some pat
  pub head : Head
  pub is_head : head_of pat ≡ Some head
  pub known : has_head head bs ≡ true

-- these are left over for the default
pub data LeftForDefault (p : ℕ) (bs : Branches) : List Row → List Row → Type 0 where
  NoneLeft : LeftForDefault p bs [] []
  Stays : {r : Row} {rs left : List Row} → LeftForDefault p bs rs left
      → LeftForDefault p bs (r ∷ rs) (r ∷ left)
  Leads : {r : Row} {rs left : List Row} → Goes p bs r → LeftForDefault p bs rs left
      → LeftForDefault p bs (r ∷ rs) left

-- the first row begins at the place
pub record Begins (p : ℕ) (r : Row) : Type 0 where
  pub pat : Pat
  pub test : test_at p r.jobs ≡ Some pat

mutual
  pub data IsTree : List Row → Tree → Type 0 where
    OfBody : {r : Row} {rs : List Row} → r.jobs ≡ [] → IsTree (r ∷ rs) (Body r)
    OfCase : {p : ℕ} {r : Row} {rs : List Row} {bs : Branches} {o : Default} → Begins p r
        → AreBranches p (r ∷ rs) bs → IsDefault p bs (r ∷ rs) o → IsTree (r ∷ rs) (Case p bs o)

  -- each branch is a tree for the rows where a value of its head stands there
  pub data AreBranches : ℕ → List Row → Branches → Type 0 where
    NoneOf : {p : ℕ} {rs : List Row} → AreBranches p rs NoBranch
    OneOf : {p : ℕ} {rs : List Row} {h : Head} {places : List ℕ} {t : Tree} {bs : Branches}
        → has_head h bs ≡ false → IsTree (specialised p h places rs) t → AreBranches p rs bs
        → AreBranches p rs (AndBranch h places t bs)

  -- without a default each row goes to a branch; with one no branch can fail
  pub data IsDefault : ℕ → Branches → List Row → Default → Type 0 where
    AllGo : {p : ℕ} {bs : Branches} {rs : List Row} → LeftForDefault p bs rs []
        → IsDefault p bs rs NoDefault
    OthersStay : {p : ℕ} {bs : Branches} {rs left : List Row} {t : Tree}
        → LeftForDefault p bs rs left
        → branches_fail bs ≡ false → IsTree left t → IsDefault p bs rs (ATree t)

-- ---- a row goes into a tree

abbrev pub tests_left : List PendingPattern → ℕ
tests_left [] = 0
tests_left (j ∷ js) = tests_in j.1 + tests_left js

-- a test with one branch
abbrev pub one_branch : ℕ → Head → List ℕ → Tree × ℕ → Tree × ℕ
one_branch p h places t = (Case p (AndBranch h places t.0 NoBranch) NoDefault, t.1)

abbrev pub by_head : Tree × ℕ → (Head → Tree × ℕ) → Option Head → Tree × ℕ
by_head body go None = body
by_head body go (Some h) = go h

-- the tree of one row with so many tests, where the places from n on are free
abbrev pub alone : (tests n : ℕ) → Row → Tree × ℕ
alone zero n r = (Body r, n)
alone (suc k) n r = elim r.jobs [
  | [] ↦ (Body r, n)
  | j ∷ js ↦ by_head (Body r, n)
      (λ h. one_branch j.0 h (places_from n (fields_of j.1))
      (alone k (n + count (fields_of j.1)) (opened r j.1 (places_from n (fields_of j.1)))))
      (head_of j.1)
]

abbrev pub alone_from : ℕ → Row → Tree × ℕ
alone_from n r = alone (tests_left r.jobs) n r

-- the branches are for heads of this kind
abbrev pub fits : Head → Branches → Bool
fits h NoBranch = true
fits h (AndBranch g ps t bs) = same_kind g h

abbrev pub in_default : ℕ → Branches → Option (Tree × ℕ) → Option (Tree × ℕ)
in_default p bs None = None
in_default p bs (Some t) = Some (Case p bs (ATree t.0), t.1)

abbrev pub in_branch : Head → List ℕ → Branches → Option (Tree × ℕ) → Option (Branches × ℕ)
in_branch h ps bs None = None
in_branch h ps bs (Some t) = Some (AndBranch h ps t.0 bs, t.1)

abbrev pub in_later : Head → List ℕ → Tree → Option (Branches × ℕ) → Option (Branches × ℕ)
in_later h ps t None = None
in_later h ps t (Some bs) = Some (AndBranch h ps t bs.0, bs.1)

abbrev pub new_branch : Head → List ℕ → Tree × ℕ → Branches × ℕ
new_branch h ps t = (AndBranch h ps t.0 NoBranch, t.1)

-- a row that goes to no branch is the default, where no branch can fail and there is room
abbrev pub or_default : ℕ → ℕ → Branches → ℕ → Row → Option (Branches × ℕ) → Option (Tree × ℕ)
or_default room p bs n r (Some b) = Some (Case p b.0 NoDefault, b.1)
or_default zero p bs n r None = None
or_default (suc room) p bs n r None =
    cond (branches_fail bs) None (in_default p bs (Some (alone_from n r)))

abbrev pub pred : ℕ → ℕ
pred zero = zero
pred (suc n) = n

-- the most cases that stand one in the default of the other
abbrev pub max_chained_cases : ℕ
max_chained_cases = 8

abbrev mutual
  -- the tree with a row behind those that it has, and the first place that is free then
  pub insert : (room : ℕ) → Tree → ℕ → Row → Option (Tree × ℕ)
  insert room (Body q) n r = None
  insert room (Case p bs (ATree t)) n r = in_default p bs (insert (pred room) t n r)
  insert room (Case p bs NoDefault) n r =
      or_default (pred room) p bs n r (elim (test_at p r.jobs) [
        | None ↦ None
        | Some pat ↦ elim (head_of pat) [
          | None ↦ None
          | Some h ↦ elim (fits h bs) [ true ↦ insert_branch pat h bs n r | false ↦ None ]
        ]
      ])

  pub insert_branch : Pat → Head → Branches → ℕ → Row → Option (Branches × ℕ)
  insert_branch pat h NoBranch n r =
      Some (new_branch h (places_from n (fields_of pat))
      (alone_from (n + count (fields_of pat)) (opened r pat (places_from n (fields_of pat)))))
  insert_branch pat h (AndBranch g ps t bs) n r = elim (same_head g h) [
    | true ↦ in_branch g ps bs (insert max_chained_cases t n (opened r pat ps))
    | false ↦ in_later g ps t (insert_branch pat h bs n r)
  ]
