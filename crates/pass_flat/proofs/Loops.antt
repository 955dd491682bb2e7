-- What the loops have made so far.
use Rattle.std.proofs.Common.{◌≡◌, List, [], ◌∷◌, ◌++◌, map, refl, sym, ap, ◌∙◌}
use Rattle.grin_syntax.specs.declared.program.Alt.{Alt}
use Rattle.grin_syntax.specs.declared.program.Block.{Block}
use Rattle.grin_syntax.specs.declared.program.Cell.{Cell}
use Rattle.grin_syntax.specs.declared.program.Op.{Op}
use Rattle.grin_syntax.specs.declared.program.Op.TheVariants.{Case}
use Rattle.grin_syntax.specs.declared.program.Shape.{Shape}
use Rattle.grin_syntax.specs.declared.program.Stmt.{Stmt}
use Rattle.grin_syntax.specs.declared.program.Stmt.TheVariants.{Store, Bind}
use Rattle.grin_syntax.specs.declared.program.Target.{Target}
use Rattle.grin_syntax.specs.declared.program.Val.{Val}
use Rattle.grin_syntax.specs.Tree.{Code, end, store, bind, Act, case, arm, act_of, before_of, arm_of, code_of, all_before, arms_of}
use Rattle.grin_syntax.proofs.TreeOf.{act_of-Case, before_of-Store, before_of-Bind, code_of-parts}
use Rattle.grin_syntax.proofs.Pieces.{all_before_push}
use Rattle.grin_meaning.specs.Spliced.{spliced}
use Rattle.pass_flat.specs.Flat.{flat_act, flat_code, flat_arms, flat_arm}
use Rattle.pass_flat.specs.Rest.{Rest, nothing, to, with_continuation}

-- ---- a block that is spliced twice

pub splice_again : (c : Code) (t : Target) (k : Code) (u : Target) (m : Code)
    → spliced (spliced c t k) u m ≡ spliced c t (spliced k u m)
unfolding spliced
splice_again (end o) t k u m = refl
splice_again (store cs c) t k u m = ap (store cs) (splice_again c t k u m)
splice_again (bind v o c) t k u m = ap (bind v o) (splice_again c t k u m)

rest_again : (r : Rest) (c : Code) (t : Target) (k : Code)
    → with_continuation r (spliced c t k) ≡ with_continuation (to t (with_continuation r k)) c
rest_again nothing c t k = refl
rest_again (to u m) c t k = splice_again c t k u m

rest_store : (r : Rest) (cs : List Cell) (c : Code)
    → with_continuation r (store cs c) ≡ store cs (with_continuation r c)
unfolding spliced
rest_store nothing cs c = refl
rest_store (to t k) cs c = refl

rest_bind : (t : Target) (o : Act) (k : Code) → with_continuation (to t k) (end o) ≡ bind t o k
unfolding spliced
rest_bind t o k = refl

-- ---- statements

-- behind the old statements stand those that these become
pub record Become (old made from : List Stmt) : Type 0 where
  pub by : (c : Code) (r : Rest) → all_before (map before_of made)
      (with_continuation r (flat_code c)) ≡ all_before (map before_of old)
      (with_continuation r (flat_code (all_before (map before_of from) c)))

pub none_become : (old : List Stmt) → Become old old []
none_become old = record { by = λ c r. refl }

pub one_more_becomes : (old made more from : List Stmt) (s : Stmt) → Become old made from
    → ((c : Code) (r : Rest) → all_before (map before_of more) (with_continuation r (flat_code c)) ≡
    all_before (map before_of made) (with_continuation r (flat_code (before_of s c))))
    → Become old more (from ++ s ∷ [])
one_more_becomes old made more from s u h = record {
  by = λ c r. h c r ∙ u.by (before_of s c) r ∙ ap
      (λ b. all_before (map before_of old) (with_continuation r (flat_code b)))
      (sym (all_before_push from s c));
}

pub store_becomes : (old more : List Stmt) (s : Stmt) (cs : List Cell) (c : Code) (r : Rest)
    → s ≡ Store cs → more ≡ old ++ Store cs ∷ []
    → all_before (map before_of more) (with_continuation r (flat_code c)) ≡ all_before
    (map before_of old) (with_continuation r (flat_code (before_of s c)))
unfolding flat_act
store_becomes old more s cs c r q p =
    ap (λ l. all_before (map before_of l) (with_continuation r (flat_code c))) p ∙ all_before_push
    old (Store cs) (with_continuation r (flat_code c))
    ∙ ap (λ f. all_before (map before_of old) (f (with_continuation r (flat_code c))))
    (before_of-Store cs)
    ∙ ap (all_before (map before_of old)) (sym (rest_store r cs (flat_code c)))
    ∙ ap (λ f. all_before (map before_of old) (with_continuation r (flat_code (f c))))
    (sym (before_of-Store cs))
    ∙ ap (λ s. all_before (map before_of old) (with_continuation r (flat_code (before_of s c))))
    (sym q)

pub bind_becomes : (old made more : List Stmt) (s : Stmt) (t : Target) (o last : Op) (c : Code)
    (r : Rest) → s ≡ Bind t o
    → ((r : Rest) → all_before (map before_of made) (with_continuation r (end (act_of last))) ≡
    all_before (map before_of old) (with_continuation r (flat_act (act_of o)))) → more ≡ made
    ++ Bind t last ∷ []
    → all_before (map before_of more) (with_continuation r (flat_code c)) ≡ all_before
    (map before_of old) (with_continuation r (flat_code (before_of s c)))
unfolding flat_act
bind_becomes old made more s t o last c r q h p =
    ap (λ l. all_before (map before_of l) (with_continuation r (flat_code c))) p ∙ all_before_push
    made (Bind t last) (with_continuation r (flat_code c))
    ∙ ap (λ f. all_before (map before_of made) (f (with_continuation r (flat_code c))))
    (before_of-Bind t last)
    ∙ ap (all_before (map before_of made))
    (sym (rest_bind t (act_of last) (with_continuation r (flat_code c))))
    ∙ h (to t (with_continuation r (flat_code c)))
    ∙ ap (all_before (map before_of old)) (sym (rest_again r (flat_act (act_of o)) t (flat_code c)))
    ∙ ap (λ f. all_before (map before_of old) (with_continuation r (flat_code (f c))))
    (sym (before_of-Bind t o))
    ∙ ap (λ s. all_before (map before_of old) (with_continuation r (flat_code (before_of s c))))
    (sym q)

-- ---- blocks

pub block_becomes : (old made new : List Stmt) (b : Block) (last : Op) (r : Rest)
    → Become old made b.stmts
    → ((r : Rest) → all_before (map before_of new) (with_continuation r (end (act_of last))) ≡
    all_before (map before_of made) (with_continuation r (flat_act (act_of b.last.value))))
    → all_before (map before_of new) (with_continuation r (end (act_of last))) ≡ all_before
    (map before_of old) (with_continuation r (flat_code (code_of b)))
unfolding flat_act
block_becomes old made new b last r u h = h r ∙ u.by (end (act_of b.last.value)) r ∙ ap
    (λ c. all_before (map before_of old) (with_continuation r (flat_code c)))
    (sym (code_of-parts b))

-- ---- alternatives

arms_flat : (as' : List (Shape × Code)) → arms_of (map flat_arm as') ≡ flat_arms (arms_of as')
unfolding flat_act
arms_flat [] = refl
arms_flat (a ∷ as') = ap (arm a.0 (flat_code a.1)) (arms_flat as')

pub case_flat : (v : Val) (made alts : List Alt) → map arm_of made ≡ map flat_arm (map arm_of alts)
    → end (act_of (Case v made)) ≡ flat_act (act_of (Case v alts))
unfolding flat_act
case_flat v made alts e =
    ap end (act_of-Case v made ∙ ap (λ as'. case v (arms_of as')) e ∙ ap (case v)
    (arms_flat (map arm_of alts))) ∙ ap flat_act (sym (act_of-Case v alts))

-- a block of these statements, where there were none before
pub block_flat : (made b : Block) (old new : List Stmt) (last : Op)
    → ((r : Rest) → all_before (map before_of new) (with_continuation r (end (act_of last))) ≡
    all_before (map before_of old) (with_continuation r (flat_code (code_of b))))
    → old ≡ [] → made.stmts ≡ new → made.last.value ≡ last → code_of made ≡ flat_code (code_of b)
block_flat made b old new last h n e f =
    code_of-parts made ∙ (λ i. all_before (map before_of (e i)) (end (act_of (f i)))) ∙ h nothing ∙
    ap (λ l. all_before (map before_of l) (flat_code (code_of b))) n
