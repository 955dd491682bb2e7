-- The members of a let group have the same bindings, at the same places, as in the lifted program.
use Rattle.std.proofs.Common.{◌≡◌, ℕ, suc, ◌+◌, ◌≤◌, ◌<◌, List, [], ◌∷◌, ◌++◌, map, length, Some, slice_get, refl, sym, ap, ◌∙◌, subst, arith, length-append, append_assoc}
use Rattle.core_reader.specs.Tree as core
use Rattle.lambda_reader.specs.Tree.{Group, NoBinds, AndValue, AndFunction, Program}
use Rattle.arity_check.specs.declared.normal.Bound.{Bound}
use Rattle.arity_check.specs.declared.normal.Flat as normal
use Rattle.arity_check.specs.declared.meaning.Meaning.TheVariants as stands
use Rattle.arity_check.specs.Scope as scope
use Rattle.arity_check.specs.Scope.{Scope}
use Rattle.arity_check.specs.Normal.{bound, Pairwise, IsFlat, IsGroup, NoMembers, AndMember}
use Rattle.arity_check.specs.Numbered.{LocalsAreConsecutive}
use Rattle.arity_check.proofs.Numbers.{flat_numbered, numbered_both}
use Rattle.core_meaning.specs.Heap.{Part, Known}
use Rattle.lambda_lift.specs.Headers.{names_of, binders_of, means, within}
use Rattle.lambda_lift.specs.Free.{free}
use Rattle.lambda_lift.specs.Abstractions as abstractions
use Rattle.lambda_lift.specs.Abstractions.{Abstraction, in_term, in_terms, in_expr, count_term, count_terms, count, abstractions as all_of}
use Rattle.lambda_lift.specs.Lifted as lifted
use Rattle.lambda_lift.specs.Lifted.{lifted_name, lift_group}
use Rattle.lambda_lift.specs.Meaning.{Fun, Closure, Flat, arguments, members, bindings_of, places_of}
use Rattle.lambda_lift.specs.Meaning as meaning
use Rattle.lambda_lift.proofs.Fits.{FitsGroup}
use Rattle.lambda_lift.proofs.Matching.{Same}
use Rattle.lambda_lift.proofs.Scopes.{Alike}
use Rattle.lambda_lift.proofs.Standing.{Located, located_left, located_right, located_rest}
use Rattle.lambda_lift.proofs.AppliedForms.{FlatLike, NewsLike, Placed, placed_left, placed_right, news_append, as_many_news}
use Rattle.lambda_lift.proofs.Flats.{flat_like, args_like, closure_like}

-- local m + j and name n + j
pub record Moved (m n len x a : ℕ) : Type 0 where
  pub offset : ℕ
  pub within : offset < len
  pub local : x ≡ m + offset
  pub name : a ≡ n + offset

all_moved : (m n len m' n' len' d : ℕ) (xs as' : List ℕ) → m' ≡ m + d → n' ≡ n + d → d + len' ≤ len
    → Pairwise (Moved m' n' len') xs as' → Pairwise (Moved m n len) xs as'
all_moved m n len m' n' len' d [] [] e f l h = tt
all_moved m n len m' n' len' d [] (a ∷ as') e f l h = absurd h
all_moved m n len m' n' len' d (x ∷ xs) [] e f l h = absurd h
all_moved m n len m' n' len' d (x ∷ xs) (a ∷ as') e f l h =
    let o = h.0 in (
      record {
        offset = d + o.offset;
        within = let w = o.within in omega (arith, w, l);
        local = let i
            = o.local in omega (arith, i, e);
        name = let i = o.name in omega (arith, i, f);
      },
      all_moved m n len m' n' len' d xs as' e f l h.1,
    )

pub group_long : {p : core.Program} {s : Scope} {n : ℕ} {bs : List core.Bind} {bounds : List Bound}
    {xs : List ℕ} → IsGroup p s n bs bounds xs → length xs ≡ length bs
group_long NoMembers = refl
group_long (AndMember news bounds form t d e g is) = ap suc (group_long g)

pub group_numbered : {p : core.Program} {s : Scope} {n : ℕ} {bs : List core.Bind}
    {bounds : List Bound} {xs : List ℕ} → IsGroup p s n bs bounds xs → LocalsAreConsecutive n bounds
group_numbered NoMembers = tt
group_numbered {p = p} {s = s} {n = n} (AndMember news bounds form t d e g is) =
    subst (LocalsAreConsecutive n) (sym is)
    (numbered_both n t news (bound t form ∷ bounds) e (flat_numbered p s d)
    (refl, group_numbered g))

module _ (c : Program) where
  pub names_lifted : (s : Scope) (k : ℕ) (group : Group)
      → map (λ (b : core.Bind). b.binder.name.0) (lift_group c s k group) ≡ names_of
      (binders_of group)
  names_lifted s k NoBinds = refl
  names_lifted s k (AndValue b head args rest) = ap (λ xs. b.name.0 ∷ xs)
      (names_lifted s (k + (count_term c s head + count_terms c s args)) rest)
  names_lifted s k (AndFunction b params body rest)
      = ap (λ xs. b.name.0 ∷ xs) (names_lifted s (k + suc (count c (within c params s) body)) rest)

  module _ (Good : ℕ → ℕ → Type 0) (t : Scope) where
    pub record MembersLike (fs : List Flat) (m n : ℕ) (bounds : List Bound) (xs : List ℕ)
        : Type 0 where
      pub news : NewsLike c Good (bindings_of c fs) bounds
      pub places : Pairwise (Moved m n (length bounds)) xs (places_of c n fs)

    member_like : (f : Flat) (fs : List Flat) (m n : ℕ) (b : core.Bind) (bs : List core.Bind)
        (bounds : List Bound) (xs : List ℕ)
        → ((news : List Bound) (form' : normal.Flat)
        → IsFlat (lifted.lifted c) t m b.app.head b.app.args news form'
        → Placed c Good m n (length news) → FlatLike c Good f news form')
        → ((m : ℕ) (bounds : List Bound) (xs : List ℕ) → IsGroup (lifted.lifted c) t m bs bounds xs
        → Placed c Good m (n + length f.news + 1) (length bounds)
        → MembersLike fs m (n + length f.news + 1) bounds xs)
        → IsGroup (lifted.lifted c) t m (b ∷ bs) bounds xs → Placed c Good m n (length bounds)
        → MembersLike (f ∷ fs) m n bounds xs
    member_like f fs m n b bs bounds xs one more (AndMember {xs = ys} news inner form' t' d e g is)
        p =
        let r = one news form' d (placed_left c Good m n news (bound t' form' ∷ inner) bounds is p)
        in
        let l = as_many_news c Good f.news news r.news in
        let long : length bounds ≡ length news + suc (length inner)
        = ap length is ∙ length-append news (bound t' form' ∷ inner) in
        let is' : bounds ≡ (news ++ bound t' form' ∷ []) ++ inner
        = is ∙ sym (append_assoc news (bound t' form' ∷ []) inner) in
        let l1 : length (news ++ bound t' form' ∷ []) ≡ length news + 1
        = length-append news (bound t' form' ∷ []) in
        let p' = placed_right c Good m n (t' + 1) (n + length f.news + 1)
        (news ++ bound t' form' ∷ []) inner bounds is' (omega (arith, l1, e))
        (omega (arith, l1, l)) p in
        let q = more (t' + 1) inner ys g p' in
        record {
          news = subst (λ w. NewsLike c Good (f.news ++ (f.form ∷ bindings_of c fs)) w) (sym is)
              (news_append c Good f.news (f.form ∷ bindings_of c fs) news (bound t' form' ∷ inner)
              r.news (r.form, q.news));
          places = (
            record {
              offset = length news;
              within = omega (arith, long);
              local = e;
              name
                  = omega (arith, l);
            },
            all_moved m n (length bounds) (t' + 1) (n + length f.news + 1) (length inner)
                (length news + 1) ys (places_of c (n + length f.news + 1) fs) (omega (arith, e))
                (omega (arith, l)) (omega (arith, long)) q.places,
          );
        }

    nobody_like : (m n : ℕ) (bounds : List Bound) (xs : List ℕ)
        → IsGroup (lifted.lifted c) t m [] bounds xs → MembersLike [] m n bounds xs
    nobody_like m n bounds xs NoMembers = record { news = tt; places = tt }

    module _ (s env : Scope) (V : ℕ → Type 0)
        (sees : (x : ℕ) → V x → x < length c.names → Same c Good (scope.means (lifted.lifted c) t x)
        (means c env x)) (alike : Alike s env)
        (calls : (k : ℕ) (a : Abstraction) → slice_get (all_of c) k ≡ Some a
        → scope.means (lifted.lifted c) t (lifted_name c k) ≡ stands.Function
        (length c.functions + k) (length (free c a.scope a.params a.body) + length a.params))
      where
        pub group_like : (group : Group) (k m n : ℕ) (bounds : List Bound) (xs : List ℕ)
            → FitsGroup (length c.names) V group → Located (all_of c)
            (abstractions.in_group c s group) k
            → IsGroup (lifted.lifted c) t m (lift_group c s k group) bounds xs
            → Placed c Good m n (length bounds) → MembersLike (members c env n group) m n bounds
            xs
        group_like NoBinds k m n bounds xs f l g p = nobody_like m n bounds xs g
        group_like (AndValue b head args rest) k m n bounds xs f l g p =
            let here = in_term c s head in
            let l1 = located_right _ here (in_terms c s args ++ abstractions.in_group c s rest) k l
            in
            let l2 = located_right _ (in_terms c s args) (abstractions.in_group c s rest)
            (k + count_term c s head) l1 in
            let same : k + count_term c s head + count_terms c s args ≡ k +
            (count_term c s head + count_terms c s args) = omega arith in
            let made = meaning.flat c env n head (arguments c env args) in
            member_like made (members c env (n + length made.news + 1) rest) m n _
            (lift_group c s (k + (count_term c s head + count_terms c s args)) rest) bounds xs
            (λ news form' d p. flat_like c Good t s env V sees alike calls head k
            (lifted.lift_terms c s (k + count_term c s head) args) (arguments c env args) m n news
            form' f.0 (located_left _ here _ k l)
            (args_like c Good t s env V sees alike calls args (k + count_term c s head) f.1
            (located_left _ (in_terms c s args) (abstractions.in_group c s rest)
            (k + count_term c s head) l1)) d p)
            (λ m bounds xs g p. group_like rest (k + (count_term c s head + count_terms c s args)) m
            (n + length made.news + 1) bounds xs f.2
            (subst (λ j. Located (all_of c) (abstractions.in_group c s rest) j) same l2) g p) g p
        group_like (AndFunction b params body rest) k m n bounds xs f l g p =
            let inner = in_expr c (within c params s) body in
            let l1 = located_rest _ _ (inner ++ abstractions.in_group c s rest) k l in
            let l2 = located_right _ inner (abstractions.in_group c s rest) (suc k) l1 in
            let same : suc k + count c (within c params s) body ≡ k + suc
            (count c (within c params s) body) = omega arith in
            let made : Flat = record { news = []; form = Known (Part (Closure params body env) []) }
            in
            let z : n + 0 + 1 ≡ n + 1 = omega arith in
            subst (λ j. MembersLike (made ∷ members c env j rest) m n bounds xs) z
            (member_like made (members c env (n + 0 + 1) rest) m n _
            (lift_group c s (k + suc (count c (within c params s) body)) rest) bounds xs
            (λ news form' d p. closure_like c Good t s env V sees alike calls params body b.at b.at
            k
            m news form' f.0 f.1 f.2
            (located_left _ (_ ∷ inner) (abstractions.in_group c s rest) k l) d)
            (λ m bounds xs g p. group_like rest (k + suc (count c (within c params s) body)) m
            (n + 0 + 1) bounds xs f.3
            (subst (λ j. Located (all_of c) (abstractions.in_group c s rest) j) same l2) g p) g p)
