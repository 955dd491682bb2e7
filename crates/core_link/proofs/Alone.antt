-- One module without imports, and the program that it is by itself.
use Rattle.std.proofs.Common.{◌≡◌, ℕ, List, [], ◌∷◌, ◌++◌, map, refl, sym, ap, subst, ◌∙◌, arith, Some}
use Rattle.std.specs.Prelude.{◌==◌, All, codes, slice_get}
use Rattle.std.specs.List.{AllZip}
use Rattle.std.specs.List.Sorted.{IsStrictlySortedBy}
use Rattle.std.specs.Str.{bytes_eq}
use Rattle.std.proofs.lemmas.List.Elements.{All-head, All-tail, length_all_zip}
use Rattle.std.proofs.lemmas.Slice.Eq.{bytes_eq-Decides}
use Rattle.seq.proofs.Lists.{some_is, append_nil, get_within, length_map}
use Rattle.seq.proofs.Truth.{both_ways}
use Rattle.core_reader.specs.Readable.{IsReadable, ReadableData, ReadableFunction}
use Rattle.core_reader.specs.Tree.{Data, Program}
use Rattle.core_print.specs.Renamed.{RenamedData}
use Rattle.arity_check.specs.declared.meaning.Meaning.{Meaning}
use Rattle.arity_check.specs.declared.meaning.Meaning.TheVariants.{Local, Function, Primitive, Unbound}
use Rattle.arity_check.specs.declared.normal.PrimOp.{PrimOp}
use Rattle.arity_check.specs.Scope.{Scope, is_named, means, con_number, function_from, primitives}
use Rattle.arity_check.specs.Pieces.{names_of}
use Rattle.core_meaning.proofs.Valid.{different_places}
use Rattle.core_link.specs.Module.{Module, Import, IsModuleText, text_in, name_of, body, seen}
use Rattle.core_link.specs.Union.{LocalBecomes, ConBecomes, UseBecomes, GlobalBecomes, ConstructorBecomes, FunctionBecomes, enter, local_text, global_text, home_module, meaning_text, with_module, IsUnion, IsStrictlySorted}
use Rattle.core_link.proofs.Agrees.{Agrees, Locals, Functions, Primitives, Neither, agrees, own_home, function_is}
use Rattle.core_link.proofs.Aligned.{zip_map, same_test, AlikeFor, functions_aligned, positions_aligned, same_named}
use Rattle.core_link.proofs.Carried.{MeansTheSame}
use Rattle.core_link.proofs.Clear.{Means, meant, named_at, none_primitive, local_none, global_clear, primitive_means, same_primitive}
use Rattle.core_link.proofs.Different.{GlobalIs, Kept, Cut, global_is, global_one, local_one, plain_quote, main_plain}
use Rattle.core_link.proofs.Held.{data_held, function_held}
use Rattle.core_link.proofs.InModule.{OfBinder, OfCon, OfUse, OfFunction, LikeBinder, LikeFunction}
use Rattle.core_link.proofs.InScope.{Fits, all_fit, same_nameless}
use Rattle.core_link.proofs.InText.{one_module}
use Rattle.core_link.proofs.Linked.{IsSound, text_is}
use Rattle.core_link.proofs.OneOrder.{one_order}
use Rattle.core_link.proofs.Transfer.{GoTogether}

pub zip_held : {X Y : Type 0} (P : X → Type 0) (R Q : X → Y → Type 0)
    → ((x : X) (y : Y) → P x → R x y → Q x y) → (xs : List X) (ys : List Y) → All P xs
    → AllZip R xs ys → AllZip Q xs ys
zip_held P R Q f [] [] h z = tt
zip_held P R Q f [] (y ∷ ys) h z = absurd z
zip_held P R Q f (x ∷ xs) [] h z = absurd z
zip_held P R Q f (x ∷ xs) (y ∷ ys) h z =
    (f x y (All-head P x xs h) z.0, zip_held P R Q f xs ys (All-tail P x xs h) z.1)

pub only_module : (text : List ℕ) (m : Module) (ms : List Module) → IsModuleText text m
    → AllZip IsModuleText (text ∷ []) ms → ms ≡ m ∷ []
only_module text m [] is z = absurd z
only_module text m (x ∷ []) is z = ap (λ y. y ∷ []) (one_module text x m z.0 is)
only_module text m (x ∷ y ∷ ms) is z = absurd z.1

one_rising : (k : List ℕ) → IsStrictlySorted (k ∷ [])
unfolding IsStrictlySortedBy
one_rising k = (tt, tt)

zip_pairs : {X Y : Type 0} (R : Module → X → Y → Type 0) (m : Module) (xs : List X) (ys : List Y)
    → AllZip (λ (x : Module × X) y. R x.0 x.1 y) (map (λ x. (m, x)) xs ++ []) ys
    → AllZip (R m) xs ys
zip_pairs R m [] [] z = tt
zip_pairs R m [] (y ∷ ys) z = absurd z
zip_pairs R m (x ∷ xs) [] z = absurd z
zip_pairs R m (x ∷ xs) (y ∷ ys) z = (z.0, zip_pairs R m xs ys z.1)

pub seen_alone : (m : Module) → m.imports ≡ [] → seen m ≡ body m
seen_alone m e = by m.imports e
  where
    by : (imports : List Import) → imports ≡ [] → seen (record m { imports = imports }) ≡ body m
    by imports e = ap (λ is. seen (record m { imports = is })) e ∙
        (λ i. record {
          names = m.names;
          constructors = append_nil m.constructors i;
          functions
              = append_nil m.functions i;
        })

module _ (m : Module) (c : Program) (u : IsUnion (m ∷ []) c) (sound : IsSound (m ∷ []))
    (readable : IsReadable c) (named : name_of m ≡ codes "Main") (alone : m.imports ≡ []) where
  pub own : IsReadable (body m)
  own = (sound.good 0 m refl).readable

  sorted_is : u.sorted ≡ m ∷ []
  sorted_is = one_order name_of u.sorted (m ∷ []) u.rising (one_rising (name_of m)) u.only u.all

  abbrev LikeData : Data → Data → Type 0
  LikeData = RenamedData (enter c.names m) (OfBinder c.names m) (OfCon c.names m) (OfUse c.names m)

  pub functions : AllZip (LikeFunction c.names m) m.functions c.functions
  functions =
      let z = zip_pairs (FunctionBecomes c.names) m m.functions c.functions
      (subst (λ ms. AllZip (λ x g. FunctionBecomes c.names x.0 x.1 g)
      (with_module (λ m. m.functions) ms) c.functions) sorted_is u.functions) in
      zip_held (ReadableFunction m.names) (FunctionBecomes c.names m) (LikeFunction c.names m)
      (λ f g h r. function_held m.names (enter c.names m) (LocalBecomes c.names m)
      (ConBecomes c.names m) (UseBecomes c.names m) (GlobalBecomes c.names m) [] f g h r)
      m.functions c.functions own.functions z

  pub constructors : AllZip LikeData m.constructors c.constructors
  constructors =
      let z = zip_pairs (ConstructorBecomes c.names) m m.constructors c.constructors
      (subst (λ ms. AllZip (λ x d. ConstructorBecomes c.names x.0 x.1 d)
      (with_module (λ m. m.constructors) ms) c.constructors) sorted_is u.constructors) in
      zip_held (ReadableData m.names) (ConstructorBecomes c.names m) LikeData
      (λ d e h r. data_held m.names (enter c.names m) (LocalBecomes c.names m)
      (ConBecomes c.names m) (UseBecomes c.names m) d e h r) m.constructors c.constructors
      own.constructors z

  -- ---- names

  one_here : (n n' : ℕ) (v w : List ℕ) → slice_get m.names n ≡ Some v
      → slice_get m.names n' ≡ Some w → text_in m n ≡ text_in m n' → n ≡ n'
  one_here n n' v w e f s = different_places m.names own.different n n' v e
      (f ∙ ap (λ y. Some y) (sym (text_is m n' w f) ∙ sym s ∙ text_is m n v e))

  one_there : (k k' : ℕ) (w : List ℕ) → slice_get c.names k ≡ Some w → slice_get c.names k' ≡ Some w
      → k ≡ k'
  one_there k k' w e f = different_places c.names readable.different k k' w e f

  binders_one : (n k n' k' : ℕ) → OfBinder c.names m n k → OfBinder c.names m n' k' → k ≡ k'
      → n ≡ n'
  binders_one n k n' k' b b' s = one_here n n' b.0.0 b'.0.0 b.0.1 b'.0.1
      (local_one (text_in m n) (text_in m n') (some_is (sym b.1 ∙ ap (slice_get c.names) s ∙ b'.1)))

  cons_one : (n k n' k' : ℕ) → OfCon c.names m n k → OfCon c.names m n' k' → (k ≡ k' → n ≡ n')
      × (n ≡ n' → k ≡ k')
  cons_one n k n' k' b b' = (
    λ s. one_here n n' b.0.0 b'.0.0 b.0.1 b'.0.1
        (some_is (sym b.1 ∙ ap (slice_get c.names) s ∙ b'.1)),
    λ s. one_there k k' (text_in m n) b.1 (b'.1 ∙ ap (λ x. Some (text_in m x)) (sym s)),
  )

  nameless_same : (n k : ℕ) → OfBinder c.names m n k
      → is_named (body m) (codes "_") n ≡ is_named c (codes "_") k
  nameless_same n k b = same_nameless m c own.different readable.different (λ n m. n ≡ m) n k b.0.0
      b.0.1 (b.1 ∙ ap (λ v. Some (local_text v)) (text_is m n b.0.0 b.0.1))

  pub con_same : (n k : ℕ) → OfCon c.names m n k → slice_get m.names n ≡ slice_get c.names k
  con_same n k b = b.0.1 ∙ ap (λ v. Some v) (sym (text_is m n b.0.0 b.0.1)) ∙ sym b.1

  con_text_same : (n k : ℕ) (w : List ℕ) → OfCon c.names m n k
      → is_named (body m) w n ≡ is_named c w k
  con_text_same n k w b = same_named (body m) c n k w (con_same n k b)

  main_text : (w : List ℕ) → bytes_eq w (codes "main") ≡ bytes_eq (global_text w (name_of m))
      (codes "main")
  main_text w = both_ways (bytes_eq w (codes "main"))
      (bytes_eq (global_text w (name_of m)) (codes "main"))
      (λ h. (bytes_eq-Decides (global_text w (name_of m)) (codes "main")).1
      ((λ i. global_text ((bytes_eq-Decides w (codes "main")).0 h i) (named i))))
      (λ h. (bytes_eq-Decides w (codes "main")).1
      (back (global_is w (name_of m))
      ((bytes_eq-Decides (global_text w (name_of m)) (codes "main")).0 h)))
    where
      back : GlobalIs w (name_of m) (global_text w (name_of m))
          → global_text w (name_of m) ≡ codes "main" → w ≡ codes "main"
      back (Kept a b e) h = a
      back (Cut e) h = absurd (plain_quote (codes "main") w (name_of m) main_plain (sym h ∙ e))

  pub main_same : (n k : ℕ) → OfFunction c.names m n k
      → is_named (body m) (codes "main") n ≡ is_named c (codes "main") k
  main_same n k b =
      named_at (body m) n b.0.0 (codes "main") b.0.1 ∙ main_text b.0.0
      ∙ sym (named_at c k (global_text b.0.0 (name_of m)) (codes "main")
      (b.1 ∙ ap (λ v. Some (global_text v (name_of m))) (text_is m n b.0.0 b.0.1)))

  primitive_same : (r s t : Scope) (n k : ℕ) (op : PrimOp) → OfUse c.names m r n k
      → means c t k ≡ Primitive op → means (body m) s n ≡ Primitive op
  primitive_same r s t n k op b e = by (means (seen m) r n)
      (b.1 ∙ ap (λ v. Some (meaning_text m v (means (seen m) r n))) (text_is m n b.0.0 b.0.1))
      (meant c t k (Primitive op) e)
    where
      as_here : slice_get c.names k ≡ Some b.0.0 → Means c t k (Primitive op)
          → means (body m) s n ≡ Primitive op
      as_here f g = primitive_means (body m) s n op
          (same_named (body m) c n k (codes "_") (b.0.1 ∙ sym f) ∙ g.0)
          (same_primitive (body m) c n k (b.0.1 ∙ sym f) primitives ∙ g.1)

      by : (o : Meaning) → slice_get c.names k ≡ Some (meaning_text m b.0.0 o)
          → Means c t k (Primitive op) → means (body m) s n ≡ Primitive op
      by (Local y) f g = absurd
          (let z : Unbound ≡ Primitive op = sym
          (none_primitive c k (local_text b.0.0) f primitives (local_none b.0.0)) ∙ g.1 in cc)
      by (Function h params) f g = absurd
          (let z : Unbound ≡ Primitive op = sym
          (none_primitive c k (global_text b.0.0 (home_module m h)) f primitives
          (global_clear b.0.0 (home_module m h)).primitive) ∙ g.1 in cc)
      by (Primitive op') f g = as_here f g
      by Unbound f g = as_here f g

  pub go_together : GoTogether (body m) c (enter c.names m) (OfBinder c.names m) (OfCon c.names m)
      (OfUse c.names m) (OfFunction c.names m) []
  go_together = record {
    constructors = constructors;
    functions = functions;
    binders = binders_one;
    nameless = nameless_same;
    cons = cons_one;
    con_text = con_text_same;
    main = main_same;
    primitive = primitive_same;
  }

  -- ---- what names mean

  abbrev pub FitsSame : Scope → Scope → Scope → Type 0
  FitsSame = Fits m c own.different readable.different (λ n m. n ≡ m)

  seen_is : seen m ≡ body m
  seen_is = seen_alone m alone

  alike_for : (n k : ℕ) (v w : List ℕ) → slice_get m.names n ≡ Some v
      → slice_get c.names k ≡ Some (global_text v (name_of m))
      → AllZip (AlikeFor n k) m.functions c.functions
  alike_for n k v w e f = zip_map (LikeFunction c.names m) (AlikeFor n k) (λ g h r. (
    same_test g.name n h.name k
        (λ s. one_there h.name k (global_text v (name_of m))
        (r.0.1 ∙ ap (λ x. Some (global_text x (name_of m)))
        (ap (text_in m) s ∙ text_is m n v e)) f)
        (λ s. one_here g.name n r.0.0.0 v r.0.0.1 e
        ((global_one (text_in m g.name) v (name_of m) (name_of m) (sound.good 0 m refl).plain
        (sound.good 0 m refl).plain (some_is (sym r.0.1 ∙ ap (slice_get c.names) s ∙ f))).0 ∙
        sym (text_is m n v e))),
    length_all_zip (LikeBinder c.names m) g.params h.params r.1,
  )) m.functions c.functions functions

  uses_same : (r s t : Scope) (n k : ℕ) → FitsSame r s t → OfUse c.names m r n k
      → (means (body m) s n ≡ Unbound → ⊥) → means (body m) s n ≡ means c t k
  uses_same r s t n k fits b bound = by
      (agrees (m ∷ []) c u sound readable 0 m refl (λ n m. n ≡ m) r s t fits n k b.0.0 b.0.1 b.1)
    where
      here_is : means (body m) s n ≡ means (seen m) s n
      here_is = ap (λ p. means p s n) (sym seen_is)

      by : Agrees (m ∷ []) c u sound readable 0 m refl (λ n m. n ≡ m) s t n k
          → means (body m) s n ≡ means c t k
      by (Locals z i f g o) = here_is ∙ f ∙ ap (λ x. Local x) o ∙ sym g
      by (Functions h params f g v is text there none) =
          let in_body : function_from (body m) m.functions 0 n ≡ Function h params
          = ap (λ p. function_from p p.functions 0 n) (sym seen_is) ∙ g in
          let at = function_is (body m) m.functions 0 n h params in_body in
          let home_is = own_home (m ∷ []) c u sound readable 0 m refl h
          (let l = get_within m.functions at.0 at.1 at.3 in let e = at.2 in omega (arith, l, e))
          in
          here_is ∙ f ∙ sym in_body ∙ functions_aligned (body m) c m.functions c.functions n k 0
          (alike_for n k v v is (text ∙ ap (λ x. Some (global_text v x)) home_is)) ∙ sym there
      by (Primitives op f g) = here_is ∙ f ∙ sym g
      by (Neither f) = absurd (bound (here_is ∙ f))

  cons_same : (n k : ℕ) → OfCon c.names m n k → con_number (body m) n ≡ con_number c k
  cons_same n k b = positions_aligned (λ (d : Data). d.name == n) (λ (d : Data). d.name == k)
      m.constructors c.constructors
      (zip_map LikeData (λ d e. (d.name == n) ≡ (e.name == k))
      (λ d e r.
      (let w = cons_one d.name e.name n k r.0 b in same_test d.name n e.name k w.1 w.0))
      m.constructors c.constructors constructors)

  zip_same : (xs : List ℕ) → AllZip (λ (n m : ℕ). n ≡ m) xs xs
  zip_same [] = tt
  zip_same (x ∷ xs) = (refl, zip_same xs)

  pub means_the_same : MeansTheSame (body m) c (enter c.names m) (OfBinder c.names m)
      (OfCon c.names m) (OfUse c.names m) FitsSame
  means_the_same = record {
    cons = cons_same;
    nameless = nameless_same;
    uses = uses_same;
    entered = λ r s t bs cs xs z len h. all_fit m c own.different readable.different (λ n m. n ≡ m)
        r s t bs cs (names_of bs) xs xs h z (length_map (λ b. b.name.0) bs) len (zip_same xs);
  }
