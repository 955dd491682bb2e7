-- A case that opens a node: what holds of its text, and which alternative is entered.
use Rattle.std.proofs.Common.{◌≡◌, ℕ, suc, ◌+◌, ◌<◌, ◌≤◌, Bool, true, false, cond, nat_eq, List, [], ◌∷◌, ◌++◌, map, length, Option, Some, None, slice_get, refl, sym, ap, ◌∙◌, subst, ⊎_elim, arith}
use Rattle.std.proofs.lemmas.Option.{slice_get_within}
use Rattle.seq.specs.Lists.{In, times}
use Rattle.seq.proofs.Counted.{times_append}
use Rattle.seq.proofs.Lists.{all_get}
use Rattle.seq.proofs.Member.{none_in, cons_in}
use Rattle.seq.proofs.Order.{eq_self, eq_from, differs_from}
use Rattle.grin_syntax.specs.declared.program.Tag.{Tag}
use Rattle.grin_syntax.specs.declared.program.Word.TheVariants.{Var}
use Rattle.grin_syntax.specs.declared.program.Shape.TheVariants.{Node as NodeShape}
use Rattle.grin_syntax.specs.Tree.{arm, Program}
use Rattle.grin_syntax.specs.Tags.{tag_id}
use Rattle.grin_syntax.specs.Binders.{numbers_of, code_vars, act_vars, arms_vars, code_sites, act_sites, arms_sites}
use Rattle.grin_syntax.specs.Formed.{AllOf, Scope, with_word_variables, TagFormed, ActFormed, CodeFormed, ArmsFormed}
use Rattle.grin_syntax.specs.Fresh.{variables}
use Rattle.grin_syntax.proofs.Counted.{fresh, fresh_split}
use Rattle.grin_meaning.specs.Values.{Datum, Node, Value, words, Env, World, and_then, with_vars, one_each, fits, fields_fit, fits_if, as_node, words_of, only_word}
use Rattle.grin_meaning.specs.Run.{Calls, act_by, code_by, arms_by, with_state_seen}
use Rattle.grin_meaning.specs.Ready.{PieceKind, EachAct, EachCode, EachArms}
use Rattle.grin_meaning.proofs.Alike.{Agree}
use Rattle.grin_meaning.proofs.Bindings.{named, named_below}
use Rattle.grin_rewrite.specs.Counted.{CountedRule, code_room, counted_act, counted_code, counted_all}
use Rattle.grin_rewrite.specs.Opening.{Opening, fields_at, opening_arm, opening_arms, opening_room}

-- ---- what the variables of an alternative stand for

one_each_named : (x : ℕ) (ds : List Datum) → one_each (variables x (length ds)) ds ≡ Some
    (named x ds)
one_each_named x [] = refl
one_each_named x (d ∷ ds) = rw (one_each_named (suc x) ds) refl

fields_fit_named : (x : ℕ) (ds : List Datum) → fields_fit (variables x (length ds)) ds ≡ fits
    (named x ds)
fields_fit_named x [] = refl
fields_fit_named x (d ∷ ds) = ap fits_if (one_each_named x (d ∷ ds))

pub names_stand : (p : Program) (x : ℕ) (ds : List Datum) (env : Env)
    → words_of p (with_vars (named x ds) env) (map Var (variables x (length ds))) ≡ Some ds
names_stand p x [] env = refl
names_stand p x (d ∷ ds) env =
    let first : with_vars (named (suc x) ds)
    (λ y. cond (nat_eq y x) (Some (words (d ∷ []))) (env y)) x ≡ Some (words (d ∷ []))
    = named_below (suc x) ds _ x (omega arith) ∙ ap (λ t. cond t (Some (words (d ∷ []))) (env x))
    (eq_self x) in
    λ i. and_then (and_then (first i) only_word)
    (λ b. and_then
    (names_stand p (suc x) ds (λ y. cond (nat_eq y x) (Some (words (d ∷ []))) (env y)) i)
    (λ bs. Some (b ∷ bs)))

-- variables below are as they were
pub agree_named : (x : ℕ) (env env' : Env) (y : ℕ) (ds : List Datum) → x ≤ y
    → Agree (λ z. z < x) env env' → Agree (λ z. z < x) env (with_vars (named y ds) env')
agree_named x env env' y ds le ag z lt = named_below y ds env' z (omega arith) ∙ ag z lt

module _ (p : Program) (c : Calls) (looks : Bool) (tags : List Tag) (O : Opening) (env : Env)
    (d : ℕ) (v : Value) (n : Node) (is_node : as_node p v ≡ Some n) where
  -- the alternative for the node's tag, which binds the fields to the variables from a number on
  pub record Entered (t : Tag) (y : ℕ) (ks : List ℕ) (w : World) : Type 0 where
    pub from : ℕ
    pub later : y ≤ from
    pub is : arms_by p c looks env d v (opening_arms tags O y ks) w ≡ code_by p c looks
        (with_vars (named from n.fields) env) d (O.body from t)
        (with_state_seen (with_vars (named from n.fields) env) w)

  pub entered : (t : Tag) → slice_get tags n.tag ≡ Some t → length n.fields ≡ t.fields
      → (ks : List ℕ) (y : ℕ) (w : World) → In n.tag ks → Entered t y ks w
  unfolding act_by
  entered t is full [] y w m = none_in m
  entered t is full (k ∷ ks) y w m = try (λ z. entered t is full ks z w) (nat_eq n.tag k) refl
      (slice_get tags k) refl
    where
      later : nat_eq n.tag k ≡ false → In n.tag ks
      later q = ⊎_elim (λ r. absurd (differs_from n.tag k q r)) (λ r. r) (cons_in k ks m)

      try : ((z : ℕ) → In n.tag ks → Entered t z ks w) → (b : Bool) → nat_eq n.tag k ≡ b
          → (o : Option Tag) → slice_get tags k ≡ o → Entered t y (k ∷ ks) w
      try next true q o r =
          let same : slice_get tags k ≡ Some t = ap (slice_get tags) (sym (eq_from n.tag k q)) ∙ is
          in
          record {
            from = y;
            later = omega arith;
            is
                = rw (same, is_node, q, ← full, fields_fit_named y n.fields) refl;
          }
      try next false q None r = let e = next (O.more + (y + 0)) (later q)
          in record { from = e.from; later = omega (arith, e.later); is = rw r e.is }
      try next false q (Some u) r = let e = next (O.more + (y + u.fields)) (later q)
          in record { from = e.from; later = omega (arith, e.later); is = rw (r, is_node, q) e.is }

  -- where the node's tag has no alternative
  pub passed : (P : ℕ → Type 0) → (P n.tag → ⊥) → (ks : List ℕ) (y : ℕ) (w : World) → AllOf P ks
      → arms_by p c looks env d v (opening_arms tags O y ks) w ≡ arms_by p c looks env d v O.last w
  unfolding act_by
  passed P never [] y w all = refl
  passed P never (k ∷ ks) y w all = try (λ z. passed P never ks z w all.1) (nat_eq n.tag k) refl
      (slice_get tags k) refl
    where
      try : ((z : ℕ) → arms_by p c looks env d v (opening_arms tags O z ks) w ≡ arms_by p c looks
          env d v O.last w) → (b : Bool) → nat_eq n.tag k ≡ b → (o : Option Tag)
          → slice_get tags k ≡ o
          → arms_by p c looks env d v (opening_arms tags O y (k ∷ ks)) w ≡ arms_by p c looks env d v
          O.last w
      try next true q o r = absurd (never (subst P (sym (eq_from n.tag k q)) all.0))
      try next false q None r = rw r (next (O.more + (y + 0)))
      try next false q (Some u) r = rw (r, is_node, q) (next (O.more + (y + u.fields)))

-- ---- the text

module _ (tags : List Tag) (O : Opening) (K : PieceKind) where
  -- no variable is bound but fresh ones, there is no site, and all is of a kind
  pub record OpensPlain : Type 0 where
    pub body : (x : ℕ) (t : Tag) →
        ((z : ℕ) → times z (code_vars (O.body x t)) ≤ fresh z (x + t.fields) O.more)
        × (code_sites (O.body x t) ≡ []) × EachCode K (O.body x t)
    pub pattern : (xs : List ℕ) → K.pattern xs
    pub last : (arms_vars O.last ≡ []) × (arms_sites O.last ≡ []) × EachArms K O.last

  module _ (plain : OpensPlain) where
    fresh_parts : (z x k r : ℕ) → fresh z x (O.more + k + r) ≡ fresh z x k + fresh z (x + k) O.more
        + fresh z (O.more + (x + k)) r
    fresh_parts z x k r =
        let e : O.more + k + r ≡ k + (O.more + r) = omega arith in
        let f : x + k + O.more ≡ O.more + (x + k) = omega arith in
        ap (fresh z x) e ∙ fresh_split z x k (O.more + r) ∙ ap (λ n. fresh z x k + n)
        (fresh_split z (x + k) O.more r ∙ ap (λ y. fresh z (x + k) O.more + fresh z y r) f) ∙
        omega arith

    pub opened_binds : (z x : ℕ) (ts : List ℕ) → times z (arms_vars (opening_arms tags O x ts)) ≤
        fresh z x (opening_room tags O.more ts)
    unfolding act_vars
    opened_binds z x [] = omega (arith, ap (times z) plain.last.0)
    opened_binds z x (t ∷ ts) = go (slice_get tags t) (λ y. opened_binds z y ts)
      where
        go : (o : Option Tag) →
            ((y : ℕ) → times z (arms_vars (opening_arms tags O y ts)) ≤ fresh z y
            (opening_room tags O.more ts))
            → times z
            (arms_vars
            (opening_arm tags O x t o (opening_arms tags O (O.more + (x + fields_at o)) ts))) ≤
            fresh z x (O.more + fields_at o + opening_room tags O.more ts)
        go None later = omega
            (arith, later (O.more + (x + 0)), fresh_parts z x 0 (opening_room tags O.more ts))
        go (Some i) later =
            let rest = arms_vars (opening_arms tags O (O.more + (x + i.fields)) ts) in
            omega (
              arith,
              later (O.more + (x + i.fields)),
              fresh_parts z x i.fields (opening_room tags O.more ts),
              (plain.body x i).0 z,
              times_append z (numbers_of (variables x i.fields)) (code_vars (O.body x i) ++ rest),
              times_append z (code_vars (O.body x i)) rest,
            )

    pub opened_plain : (x : ℕ) (ts : List ℕ) → (arms_sites (opening_arms tags O x ts) ≡ [])
        × EachArms K (opening_arms tags O x ts)
    unfolding act_sites EachAct
    opened_plain x [] = (plain.last.1, plain.last.2)
    opened_plain x (t ∷ ts) = go (slice_get tags t) (λ y. opened_plain y ts)
      where
        go : (o : Option Tag) →
            ((y : ℕ) → (arms_sites (opening_arms tags O y ts) ≡ [])
            × EachArms K (opening_arms tags O y ts))
            → (arms_sites
            (opening_arm tags O x t o (opening_arms tags O (O.more + (x + fields_at o)) ts)) ≡
            []) × EachArms K
            (opening_arm tags O x t o (opening_arms tags O (O.more + (x + fields_at o)) ts))
        go None later = later (O.more + (x + 0))
        go (Some i) later = let r = later (O.more + (x + i.fields))
            in (
              λ j. (plain.body x i).1 j ++ r.0 j,
              (plain.pattern (numbers_of (variables x i.fields)), (plain.body x i).2, r.1),
            )

module _ (g : Program) (O : Opening) (tags_formed : AllOf (TagFormed g) g.tags) (scope : Scope)
    (body : (x : ℕ) (i : Tag) → TagFormed g i → CodeFormed g
    (with_word_variables (numbers_of (variables x i.fields)) scope) (O.body x i))
    (last : ArmsFormed g scope O.last) where
  pub opened_formed : (x : ℕ) (ts : List ℕ) → ArmsFormed g scope (opening_arms g.tags O x ts)
  unfolding ActFormed
  opened_formed x [] = last
  opened_formed x (t ∷ ts) = go (slice_get g.tags t) refl (λ y. opened_formed y ts)
    where
      go : (o : Option Tag) → slice_get g.tags t ≡ o
          → ((y : ℕ) → ArmsFormed g scope (opening_arms g.tags O y ts))
          → ArmsFormed g scope
          (opening_arm g.tags O x t o (opening_arms g.tags O (O.more + (x + fields_at o)) ts))
      go None e later = later (O.more + (x + 0))
      go (Some i) e later = (
        slice_get_within g.tags t i e,
        body x i (all_get (TagFormed g) g.tags t i tags_formed e),
        later (O.more + (x + i.fields)),
      )

-- a rule that leaves what is done for each tag leaves the alternatives
module _ (tags : List Tag) (O : Opening) (R : CountedRule)
    (body : (y x : ℕ) (t : Tag) → counted_code R y (O.body x t) ≡ O.body x t)
    (last : (y : ℕ) → counted_all R y O.last ≡ O.last) where
  pub opened_stays : (y x : ℕ) (ts : List ℕ) → counted_all R y (opening_arms tags O x ts) ≡
      opening_arms tags O x ts
  unfolding counted_act
  opened_stays y x [] = last y
  opened_stays y x (t ∷ ts) = go (slice_get tags t) (λ z x'. opened_stays z x' ts)
    where
      go : (o : Option Tag) →
          ((z x' : ℕ) → counted_all R z (opening_arms tags O x' ts) ≡ opening_arms tags O x' ts)
          → counted_all R y
          (opening_arm tags O x t o (opening_arms tags O (O.more + (x + fields_at o)) ts)) ≡
          opening_arm tags O x t o (opening_arms tags O (O.more + (x + fields_at o)) ts)
      go None m = m y (O.more + (x + 0))
      go (Some i) m = λ j. arm (NodeShape (tag_id t) (variables x i.fields)) (body y x i j)
          (m (y + code_room R (O.body x i)) (O.more + (x + i.fields)) j)
