-- The points after calls, and what is live after each site.
use Rattle.std.proofs.Common.{◌≡◌, ◌⊎◌, ℕ, zero, suc, ◌+◌, true, false, List, [], ◌∷◌, ◌++◌, length, Some, slice_get, inl, inr, refl, sym, ap, ◌∙◌, subst}
use Rattle.seq.proofs.Lists.{get_right, get_left}
use Rattle.low_code.specs.Tree.{Code, set, prim, load, save, take, put, get, call, join, give, tail, choose, fail, Arms, otherwise, arm}
use Rattle.low_code.specs.Formed.{uses, calls_in, arms_calls, Site}
use Rattle.register_alloc.specs.Live.{IsLive, LiveAfter, ArmsLiveAfter, EachBinding, EachBindingOfArms}
use Rattle.register_alloc.specs.Point.{AfterCall, points, arms_points}

-- ---- the calls of the points

abbrev pub sites_of_points : List AfterCall → List Site
sites_of_points [] = []
sites_of_points (p ∷ ps) = (p.site, p.proc) ∷ sites_of_points ps

both : (ps qs : List AfterCall) → sites_of_points (ps ++ qs) ≡ sites_of_points ps
    ++ sites_of_points qs
both [] qs = refl
both (p ∷ ps) qs = ap (λ l. (p.site, p.proc) ∷ l) (both ps qs)

mutual
  pub points_calls : (scope : List ℕ) (c : Code) (later : List ℕ)
      → sites_of_points (points scope c later) ≡ calls_in c
  points_calls scope (set x a c) later = points_calls (x ∷ scope) c later
  points_calls scope (prim f x a b c) later = points_calls (x ∷ scope) c later
  points_calls scope (load x a k c) later = points_calls (x ∷ scope) c later
  points_calls scope (save a k b c) later = points_calls scope c later
  points_calls scope (take xs c) later = points_calls (xs ++ scope) c later
  points_calls scope (put a c) later = points_calls scope c later
  points_calls scope (get x c) later = points_calls (x ∷ scope) c later
  points_calls scope (call f site ops xs c) later = ap (λ l. (site, f) ∷ l)
      (points_calls (xs ++ scope) c later)
  points_calls scope (join xs b c) later =
      both (points scope b (uses c ++ later)) (points (xs ++ scope) c later) ∙ ap
      (λ l. l ++ sites_of_points (points (xs ++ scope) c later))
      (points_calls scope b (uses c ++ later))
      ∙ ap (λ l. calls_in b ++ l) (points_calls (xs ++ scope) c later)
  points_calls scope (give ops) later = refl
  points_calls scope (tail f site ops) later = refl
  points_calls scope (choose as') later = arms_points_calls scope as' later
  points_calls scope fail later = refl

  arms_points_calls : (scope : List ℕ) (as' : Arms) (later : List ℕ)
      → sites_of_points (arms_points scope as' later) ≡ arms_calls as'
  arms_points_calls scope (otherwise c) later = points_calls scope c later
  arms_points_calls scope (arm ts c as') later =
      both (points scope c later) (arms_points scope as' later) ∙ ap
      (λ l. l ++ sites_of_points (arms_points scope as' later)) (points_calls scope c later)
      ∙ ap (λ l. calls_in c ++ l) (arms_points_calls scope as' later)

-- ---- live after a site

-- y is live at one of these points, which is that of the site
pub record LiveAt (site y : ℕ) (ps : List AfterCall) : Type 0 where
  pub place : ℕ
  pub point : AfterCall
  pub there : slice_get ps place ≡ Some point
  pub site_is : point.site ≡ site
  pub live : IsLive point.scope point.rest point.later y

pub got_split : {A : Type 0} (xs ys : List A) (i : ℕ) (y : A) → slice_get (xs ++ ys) i ≡ Some y
    → (slice_get xs i ≡ Some y) ⊎ ((j : ℕ) × (slice_get ys j ≡ Some y))
got_split [] ys i y e = inr (i, e)
got_split (x ∷ xs) ys zero y e = inl e
got_split (x ∷ xs) ys (suc i) y e = got_split xs ys i y e

at_first : (site y : ℕ) (ps qs : List AfterCall) → LiveAt site y ps → LiveAt site y (ps ++ qs)
at_first site y ps qs l = record {
  place = l.place;
  point = l.point;
  there = get_left ps qs l.place l.point l.there;
  site_is
      = l.site_is;
  live = l.live;
}

at_second : (site y : ℕ) (ps qs : List AfterCall) → LiveAt site y qs → LiveAt site y (ps ++ qs)
at_second site y ps qs l = record {
  place = length ps + l.place;
  point = l.point;
  there
      = get_right ps qs l.place l.point l.there;
  site_is = l.site_is;
  live = l.live;
}

at_either : (site y : ℕ) (ps qs : List AfterCall) → LiveAt site y (ps ++ qs) → LiveAt site y ps
    ⊎ LiveAt site y qs
at_either site y ps qs l = elim (got_split ps qs l.place l.point l.there) [
  | inl e ↦ inl
      (record { place = l.place; point = l.point; there = e; site_is = l.site_is; live = l.live })
  | inr e ↦ inr
      (record { place = e.0; point = l.point; there = e.1; site_is = l.site_is; live = l.live })
]

none_at : (site y : ℕ) → LiveAt site y [] → ⊥
none_at site y l = let e = l.there in cc

mutual
  pub to_point : (s : ℕ) (scope : List ℕ) (c : Code) (later : List ℕ) (y : ℕ)
      → LiveAfter s scope c later y → LiveAt s y (points scope c later)
  to_point s scope (set x a c) later y l = to_point s (x ∷ scope) c later y l
  to_point s scope (prim f x a b c) later y l = to_point s (x ∷ scope) c later y l
  to_point s scope (load x a k c) later y l = to_point s (x ∷ scope) c later y l
  to_point s scope (save a k b c) later y l = to_point s scope c later y l
  to_point s scope (take xs c) later y l = to_point s (xs ++ scope) c later y l
  to_point s scope (put a c) later y l = to_point s scope c later y l
  to_point s scope (get x c) later y l = to_point s (x ∷ scope) c later y l
  to_point s scope (call f site ops xs c) later y (inl h) =
      record {
        place = 0;
        point = record
            { site = site; proc = f; scope = scope; rest = c; later = later };
        there = refl;
        site_is
            = sym h.0;
        live = h.1;
      }
  to_point s scope (call f site ops xs c) later y (inr l) =
      at_second s y (record { site = site; proc = f; scope = scope; rest = c; later = later } ∷ [])
      (points (xs ++ scope) c later) (to_point s (xs ++ scope) c later y l)
  to_point s scope (join xs b c) later y (inl l) = at_first s y (points scope b (uses c ++ later))
      (points (xs ++ scope) c later) (to_point s scope b (uses c ++ later) y l)
  to_point s scope (join xs b c) later y (inr l) = at_second s y (points scope b (uses c ++ later))
      (points (xs ++ scope) c later) (to_point s (xs ++ scope) c later y l)
  to_point s scope (give ops) later y l = absurd l
  to_point s scope (tail f site ops) later y l = absurd l
  to_point s scope (choose as') later y l = arms_to_point s scope as' later y l
  to_point s scope fail later y l = absurd l

  arms_to_point : (s : ℕ) (scope : List ℕ) (as' : Arms) (later : List ℕ) (y : ℕ)
      → ArmsLiveAfter s scope as' later y → LiveAt s y (arms_points scope as' later)
  arms_to_point s scope (otherwise c) later y l = to_point s scope c later y l
  arms_to_point s scope (arm ts c as') later y (inl l)
      = at_first s y (points scope c later) (arms_points scope as' later)
      (to_point s scope c later y l)
  arms_to_point s scope (arm ts c as') later y (inr l)
      = at_second s y (points scope c later) (arms_points scope as' later)
      (arms_to_point s scope as' later y l)

here : (site f : ℕ) (scope : List ℕ) (c : Code) (later : List ℕ) (s y : ℕ)
    → LiveAt s y (record { site = site; proc = f; scope = scope; rest = c; later = later } ∷ [])
    → (s ≡ site) × IsLive scope c later y
here site f scope c later s y l = go l.place l.point l.there l.site_is l.live
  where
    go : (i : ℕ) (p : AfterCall) → slice_get
        (record { site = site; proc = f; scope = scope; rest = c; later = later } ∷ []) i ≡ Some p
        → p.site ≡ s → IsLive p.scope p.rest p.later y → (s ≡ site) × IsLive scope c later y
    go zero p e q v =
        let same : record { site = site; proc = f; scope = scope; rest = c; later = later } ≡ p = cc
        in (
          sym q ∙ ap (λ r. r.site) (sym same),
          subst (λ r. IsLive r.scope r.rest r.later y)
              (sym same) v,
        )
    go (suc i) p e q v = cc

mutual
  pub from_point : (s : ℕ) (scope : List ℕ) (c : Code) (later : List ℕ) (y : ℕ)
      → LiveAt s y (points scope c later) → LiveAfter s scope c later y
  from_point s scope (set x a c) later y l = from_point s (x ∷ scope) c later y l
  from_point s scope (prim f x a b c) later y l = from_point s (x ∷ scope) c later y l
  from_point s scope (load x a k c) later y l = from_point s (x ∷ scope) c later y l
  from_point s scope (save a k b c) later y l = from_point s scope c later y l
  from_point s scope (take xs c) later y l = from_point s (xs ++ scope) c later y l
  from_point s scope (put a c) later y l = from_point s scope c later y l
  from_point s scope (get x c) later y l = from_point s (x ∷ scope) c later y l
  from_point s scope (call f site ops xs c) later y l
      = elim (at_either s y
      (record { site = site; proc = f; scope = scope; rest = c; later = later } ∷ [])
      (points (xs ++ scope) c later) l) [
        | inl h ↦ inl (here site f scope c later s y h)
        | inr m ↦ inr (from_point s (xs ++ scope) c later y m)
      ]
  from_point s scope (join xs b c) later y l = elim
      (at_either s y (points scope b (uses c ++ later)) (points (xs ++ scope) c later) l) [
        | inl m ↦ inl (from_point s scope b (uses c ++ later) y m)
        | inr m ↦ inr (from_point s (xs ++ scope) c later y m)
      ]
  from_point s scope (give ops) later y l = none_at s y l
  from_point s scope (tail f site ops) later y l = let h = here site f [] fail [] s y l in let z
      : false ≡ true = h.1.0 in cc
  from_point s scope (choose as') later y l = arms_from_point s scope as' later y l
  from_point s scope fail later y l = none_at s y l

  arms_from_point : (s : ℕ) (scope : List ℕ) (as' : Arms) (later : List ℕ) (y : ℕ)
      → LiveAt s y (arms_points scope as' later) → ArmsLiveAfter s scope as' later y
  arms_from_point s scope (otherwise c) later y l = from_point s scope c later y l
  arms_from_point s scope (arm ts c as') later y l = elim
      (at_either s y (points scope c later) (arms_points scope as' later) l) [
        | inl m ↦ inl (from_point s scope c later y m)
        | inr m ↦ inr (arms_from_point s scope as' later y m)
      ]

-- ---- a weaker property of each binding

module _ (P Q : (scope xs : List ℕ) → Code → (later : List ℕ) → Type 0)
    (weaker : (scope xs : List ℕ) (c : Code) (later : List ℕ) → P scope xs c later
    → Q scope xs c later) where
  mutual
    pub each_weaker : (scope : List ℕ) (c : Code) (later : List ℕ) → EachBinding P scope c later
        → EachBinding Q scope c later
    each_weaker scope (set x a c) later e =
        (weaker scope (x ∷ []) c later e.0, each_weaker (x ∷ scope) c later e.1)
    each_weaker scope (prim f x a b c) later e =
        (weaker scope (x ∷ []) c later e.0, each_weaker (x ∷ scope) c later e.1)
    each_weaker scope (load x a k c) later e =
        (weaker scope (x ∷ []) c later e.0, each_weaker (x ∷ scope) c later e.1)
    each_weaker scope (save a k b c) later e = each_weaker scope c later e
    each_weaker scope (take xs c) later e =
        (weaker scope xs c later e.0, each_weaker (xs ++ scope) c later e.1)
    each_weaker scope (put a c) later e = each_weaker scope c later e
    each_weaker scope (get x c) later e =
        (weaker scope (x ∷ []) c later e.0, each_weaker (x ∷ scope) c later e.1)
    each_weaker scope (call f site ops xs c) later e
        = (weaker scope xs c later e.0, each_weaker (xs ++ scope) c later e.1)
    each_weaker scope (join xs b c) later e = (
      each_weaker scope b (uses c ++ later) e.0,
      (weaker scope xs c later e.1.0, each_weaker (xs ++ scope) c later e.1.1),
    )
    each_weaker scope (give ops) later e = tt
    each_weaker scope (tail f site ops) later e = tt
    each_weaker scope (choose as') later e = arms_weaker scope as' later e
    each_weaker scope fail later e = tt

    arms_weaker : (scope : List ℕ) (as' : Arms) (later : List ℕ)
        → EachBindingOfArms P scope as' later → EachBindingOfArms Q scope as' later
    arms_weaker scope (otherwise c) later e = each_weaker scope c later e
    arms_weaker scope (arm ts c as') later e =
        (each_weaker scope c later e.0, arms_weaker scope as' later e.1)
