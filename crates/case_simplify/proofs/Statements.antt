-- A block with statements begins with one, and alternatives one after the other.
use Rattle.std.proofs.Common.{◌≡◌, ℕ, ◌+◌, ◌<◌, ◌≤◌, Bool, true, ◌&&◌, List, [], ◌∷◌, map, drop, length, get_or, Option, Some, None, refl, sym, ap, ◌∙◌, add-one}
use Rattle.seq.proofs.Lists.{drop_at, drop_past}
use Rattle.grin_syntax.specs.declared.program.TagId.{TagId}
use Rattle.grin_syntax.specs.declared.program.Alt.{Alt}
use Rattle.grin_syntax.specs.declared.program.Cell.{Cell}
use Rattle.grin_syntax.specs.declared.program.Val.{Val}
use Rattle.grin_syntax.specs.declared.program.Target.{Target}
use Rattle.grin_syntax.specs.declared.program.Stmt.{Stmt}
use Rattle.grin_syntax.specs.declared.program.Stmt.TheVariants.{Store, Bind}
use Rattle.grin_syntax.specs.declared.program.Block.{Block}
use Rattle.grin_syntax.specs.Tree.{Code, Act, end, leaf, fail, store, bind, nested, act_of, before_of, arm_of, arms_of, code_of, all_before, as_act}
use Rattle.grin_syntax.proofs.TreeOf.{before_of-Store, before_of-Bind, arm_of-parts, code_of-parts}
use Rattle.case_simplify.specs.Known.{Known}
use Rattle.case_simplify.specs.Choice.{Verdict, verdict, by_verdict, selected_block}
use Rattle.case_simplify.specs.Simple.{returned_value, returns_val, all_arms_return}

module _ (P : Code → Type 0) (stores : (cs : List Cell) (b : Code) → P (store cs b))
    (binds : (t : Target) (o : Act) (b : Code) → P (bind t o b)) where
  before_is : (s : Stmt) (c : Code) → P (before_of s c)
  before_is (Store cells) c = rw before_of-Store (stores cells c)
  before_is (Bind t o) c = rw before_of-Bind (binds t (act_of o) c)

  all_is : (ss : List Stmt) (c : Code) → (ss ≡ [] → ⊥) → P (all_before (map before_of ss) c)
  all_is [] c h = absurd (h refl)
  all_is (s ∷ ss) c h = before_is s (all_before (map before_of ss) c)

  block_is : (b : Block) → (b.stmts ≡ [] → ⊥) → P (code_of b)
  block_is b h = rw code_of-parts (all_is b.stmts (end (act_of b.last.value)) h)

pub block_nested : (b : Block) → (b.stmts ≡ [] → ⊥) → as_act (code_of b) ≡ nested (code_of b)
block_nested = block_is (λ c. as_act c ≡ nested c) (λ cs b. refl) (λ t o b. refl)

-- it does more than give a value
pub none_given : (b : Block) → (b.stmts ≡ [] → ⊥) → returned_value (code_of b) ≡ None
none_given = block_is (λ c. returned_value c ≡ None) (λ cs b. refl) (λ t o b. refl)

-- ---- alternatives, one after the other

pub taken_at : (t : TagId) (second : Option Known) (alts : List Alt) (i : ℕ) (a : Alt) (r : Verdict)
    → i < length alts → a ≡ get_or alts i a → r ≡ verdict t second a.pattern
    → selected_block t second (arms_of (map arm_of (drop i alts))) ≡ by_verdict r (code_of a.body)
    (selected_block t second (arms_of (map arm_of (drop (i + 1) alts))))
taken_at t second alts i a r lt at e =
    ap (λ l. selected_block t second (arms_of (map arm_of l)))
    (drop_at alts i a lt ∙ (λ j. sym at j ∷ drop (sym (add-one i) j) alts))
    ∙ ap (λ p. by_verdict (verdict t second p.0) p.1
    (selected_block t second (arms_of (map arm_of (drop (i + 1) alts))))) (arm_of-parts a)
    ∙ ap (λ v. by_verdict v (code_of a.body)
    (selected_block t second (arms_of (map arm_of (drop (i + 1) alts))))) (sym e)

pub taken_over : (t : TagId) (second : Option Known) (alts : List Alt) (i : ℕ) → length alts ≤ i
    → selected_block t second (arms_of (map arm_of (drop i alts))) ≡ Some (end (leaf fail))
taken_over t second alts i le = ap (λ l. selected_block t second (arms_of (map arm_of l)))
    (drop_past alts i le)

pub returned_at : (u : Val) (alts : List Alt) (i : ℕ) (a : Alt) (b r : Bool) → i < length alts
    → a ≡ get_or alts i a → b ≡ returns_val u (code_of a.body) → b ≡ r
    → all_arms_return u (arms_of (map arm_of (drop i alts))) ≡
    (r && all_arms_return u (arms_of (map arm_of (drop (i + 1) alts))))
returned_at u alts i a b r lt at e p =
    ap (λ l. all_arms_return u (arms_of (map arm_of l)))
    (drop_at alts i a lt ∙ (λ j. sym at j ∷ drop (sym (add-one i) j) alts))
    ∙ ap (λ c. returns_val u c.1 && all_arms_return u (arms_of (map arm_of (drop (i + 1) alts))))
    (arm_of-parts a)
    ∙ ap (λ q. q && all_arms_return u (arms_of (map arm_of (drop (i + 1) alts)))) (sym e ∙ p)

pub returned_over : (u : Val) (alts : List Alt) (i : ℕ) → length alts ≤ i
    → all_arms_return u (arms_of (map arm_of (drop i alts))) ≡ true
returned_over u alts i le = ap (λ l. all_arms_return u (arms_of (map arm_of l)))
    (drop_past alts i le)
