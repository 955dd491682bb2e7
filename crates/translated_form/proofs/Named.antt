-- The tags, procedures and global cells that the blocks of a translated program name are there.
use Rattle.std.proofs.Common.{◌≡◌, ℕ, suc, ◌+◌, ◌-◌, ◌<◌, true, List, [], ◌∷◌, map, length, refl, ap, subst, arith, length-append}
use Rattle.std.proofs.lemmas.List.{length-map}
use Rattle.std.proofs.lemmas.Option.{slice_get_within}
use Rattle.arity_check.specs.declared.normal.Var.{Var}
use Rattle.arity_check.specs.declared.normal.Var.TheVariants.{Local, Global}
use Rattle.arity_check.specs.declared.normal.Flat.{Flat}
use Rattle.arity_check.specs.declared.normal.Flat.TheVariants as flat
use Rattle.arity_check.specs.Program.{Program}
use Rattle.core_meaning.specs.Evaluation.{params, params_of, global}
use Rattle.grin_syntax.specs.Formed.{AllOf, Scope, TagKnown, ProcKnown, GlobalKnown, WordFormed, ValFormed}
use Rattle.grin_translate.specs.declared.tags.Delay.{Delay}
use Rattle.grin_translate.specs.declared.tags.Delay.TheVariants.{Calls, Applies, Operates}
use Rattle.grin_translate.specs.declared.tags.Kind.{Kind}
use Rattle.grin_translate.specs.declared.tags.Kind.TheVariants.{Number, Constructor, Waits, Lacks}
use Rattle.grin_translate.specs.Tags.{same_thunk_kind, binds, is_delayed, delays, kinds, tag, tag_of, proc}
use Rattle.grin_translate.specs.Blocks.{word, node}
use Rattle.grin_translate.specs.Translation.{print, delayed_procs, span, print_procs, tr}
use Rattle.grin_translate.specs.WellFormed.{HasFields, HasParams, VarOk, FormOk}
use Rattle.grin_translate.proofs.Places.{Has, found}
use Rattle.grin_translate.proofs.Found.{delay_sound, delay_itself, has_calls, has_applies, has_operates, has_number, has_constructor, has_waits, has_lacks, tag_found}
use Rattle.grin_translate.proofs.Scoping.{as_many}
use Rattle.core_meaning.proofs.Shared.{global_below}
use Rattle.translated_form.proofs.Scopes.{Scoped}

module _ (p : Program) where
  pub tag_known : (k : Kind) → Has k (kinds p) → TagKnown (tr p) (tag p k)
  tag_known k h = slice_get_within (tr p).tags (tag p k).0 (tag_of p k) (tag_found p k h)

  pub number_known : TagKnown (tr p) (tag p Number)
  number_known = tag_known Number (has_number p)

  pub constructor_known : (c k : ℕ) → HasFields p c k → TagKnown (tr p) (tag p (Constructor c))
  constructor_known c k h = tag_known (Constructor c) (has_constructor p c k h)

  pub waits_known : (d : Delay) → Has d (delays p) → TagKnown (tr p) (tag p (Waits d))
  waits_known d h = tag_known (Waits d) (has_waits p d h)

  lacks_known : (f k : ℕ) → HasParams p f (λ n. k < n)
      → TagKnown (tr p) (tag p (Lacks f (params p f - k)))
  lacks_known f k h =
      let many : params p f ≡ h.0.params = ap (params_of p) h.1 in
      let lt = h.2 in
      let one : suc (params p f - k - 1) ≡ params p f - k = omega (arith, many, lt) in
      subst (λ r. TagKnown (tr p) (tag p (Lacks f r))) one
      (tag_known _ (has_lacks p f h.0 (params p f - k - 1) h.1 (omega (arith, many, lt))))

  -- ---- procedures

  pub long_delayed : (ds : List Delay) (base : ℕ) → length (delayed_procs p base ds) ≡ length ds
  long_delayed [] base = refl
  long_delayed (d ∷ ds) base = ap suc (long_delayed ds (base + span p d))

  many_procs : length (tr p).procs ≡ length (delays p) + length (print_procs p)
  many_procs = let e = long_delayed (delays p) (length p.funs)
      in omega (
        arith,
        e,
        length-append (delayed_procs p (length p.funs) (delays p))
            (print_procs p),
      )

  pub proc_known : (d : Delay) → Has d (delays p) → ProcKnown (tr p) (proc p d)
  proc_known d h =
      let lt = slice_get_within (map (λ x. x) (delays p)) (proc p d).0 d
      (found same_thunk_kind delay_sound delay_itself (λ x. x) d (delays p) h) in
      omega (arith, lt, many_procs, length-map (delays p) (λ x. x))

  pub print_known : ProcKnown (tr p) (print p)
  print_known = omega (arith, many_procs)

  pub global_known : (f : ℕ) → HasParams p f (λ n. n ≡ 0) → GlobalKnown (tr p) (global p f)
  global_known f h = omega (arith, global_below p f h, as_many p)

  -- ---- words and nodes

  module _ (base : ℕ) (S : ℕ → Type 0) (scope : Scope) (scoped : Scoped p base S scope.words) where
    pub word_formed : (x : Var) → VarOk p S x → WordFormed (tr p) scope (word p base x)
    word_formed (Local x) h = scoped.each x h
    word_formed (Global f) h = global_known f h

    pub words_formed : (xs : List Var) → AllOf (VarOk p S) xs
        → AllOf (WordFormed (tr p) scope) (map (word p base) xs)
    words_formed [] h = tt
    words_formed (x ∷ xs) h = (word_formed x h.0, words_formed xs h.1)

    -- a form that waits is one that the program delays
    pub node_formed : (f : Flat) → FormOk p S f →
        ((d : Delay) → binds d f ≡ true → is_delayed p d ≡ true)
        → ValFormed (tr p) scope (node p base f)
    node_formed (flat.Int k) h w = (number_known, (tt, tt))
    node_formed (flat.Con c xs) h w = (constructor_known c (length xs) h.0, words_formed xs h.1)
    node_formed (flat.Part f xs) h w = (lacks_known f (length xs) h.0, words_formed xs h.1)
    node_formed (flat.Call f xs) h w =
        (waits_known (Calls f) (has_calls p f h.0.0 h.0.1), words_formed xs h.1)
    node_formed (flat.Apply x xs) h w = (
      waits_known (Applies (length xs))
          (has_applies p (length xs) h.0
          (w (Applies (length xs)) (delay_itself (Applies (length xs))))),
      (word_formed x h.1, words_formed xs h.2),
    )
    node_formed (flat.Prim op x y) h w = (
      waits_known (Operates op)
          (has_operates p op (w (Operates op) (delay_itself (Operates op)))),
      (word_formed x h.0, (word_formed y h.1, tt)),
    )
